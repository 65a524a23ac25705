-- Inodes and inode blocks, one after the other.
use Rattle.std.proofs.Common.{◌≡◌, ◌<◌, ◌≤◌, ℕ, suc, ◌+◌, ◌-◌, ◌*◌, Bool, true, false, not, cond, List, [], ◌∷◌, ◌++◌, length, take, drop, get_or, refl, sym, ap, subst, ◌∙◌, arith}
use Rattle.std.specs.Prelude.{◌==◌, ◌&&◌, ◌||◌, bytes_eq, Some, None}
use Rattle.std.specs.List.{flat_map, list_any}
use Rattle.std.proofs.lemmas.List.{append_assoc, append-nil, drop-drop, drop_more, drop_all, length-append}
use Rattle.std.proofs.lemmas.List.Concat.{flat_map-cons}
use Rattle.std.proofs.lemmas.Grind.{flat_map-append}
use Rattle.std.proofs.lemmas.Bool.{eq-eqb}
use Rattle.std.proofs.lemmas.Bool.Decides.{nat_tests}
use Rattle.vol_numbers.specs.Layout.{Layout}
use Rattle.block_format.specs.Inode.{inode_at, inode_in, inode_bytes, inode_part, is_inode, pointer_of}
use Rattle.block_format.specs.declared.inode.Inode.{Inode}
use Rattle.block_tree.specs.Tree.{Blocks}
use Rattle.image_model.specs.Met.{Met, not_inode, stray}
use Rattle.image_model.specs.Walk.{is_used, is_stray, is_good, is_pointer_wrong, bad_met, block_met, blocks_met, inodes_from, blocks_inodes, nodes_of}
use Rattle.image_model.proofs.InodeWalk.{used_split}
use Rattle.image_walk.specs.declared.marks.Mark.{Mark}
use Rattle.image_model.specs.declared.finding.Finding.TheVariants.{BadInode}
use Rattle.image_walk.specs.declared.fault.WalkFault.TheVariants.{Found}
use Rattle.image_walk.specs.Going.{Goes, EndsBy}
use Rattle.image_walk.specs.Inodes.{stray_at, block_at, inodes_at, Taken, Gathered}
use Rattle.image_walk.proofs.GoingLaws.{goes_none, goes_then, ends_then}
use Rattle.image_walk.proofs.MarkLaws.{ends_inode}

-- ---- one inode

pub bad_none : (n : ℕ) (bytes : List ℕ) → is_good (n, bytes) ≡ true → bad_met (n, bytes) ≡ []
bad_none n bytes good = ap (λ (t : Bool). cond t [] (cond (is_pointer_wrong (n, bytes)) (stray n (pointer_of (inode_in bytes)) ∷ []) (not_inode n ∷ []))) good

pub bad_inode : (n : ℕ) (bytes : List ℕ) → is_good (n, bytes) ≡ false → is_pointer_wrong (n, bytes) ≡ false → bad_met (n, bytes) ≡ not_inode n ∷ []
bad_inode n bytes good wrong =
    ap (λ (t : Bool). cond t [] (cond (is_pointer_wrong (n, bytes)) (stray n (pointer_of (inode_in bytes)) ∷ []) (not_inode n ∷ []))) good
    ∙ ap (λ (t : Bool). cond t (stray n (pointer_of (inode_in bytes)) ∷ []) (not_inode n ∷ [])) wrong

pub bad_stray : (n : ℕ) (bytes : List ℕ) → is_good (n, bytes) ≡ false → is_pointer_wrong (n, bytes) ≡ true → bad_met (n, bytes) ≡ stray n (pointer_of (inode_in bytes)) ∷ []
bad_stray n bytes good wrong =
    ap (λ (t : Bool). cond t [] (cond (is_pointer_wrong (n, bytes)) (stray n (pointer_of (inode_in bytes)) ∷ []) (not_inode n ∷ []))) good
    ∙ ap (λ (t : Bool). cond t (stray n (pointer_of (inode_in bytes)) ∷ []) (not_inode n ∷ [])) wrong

and_false : (a : Bool) → (a && false) ≡ false
and_false true = refl
and_false false = refl

pub good_is : (n : ℕ) (bytes : List ℕ) (t : Bool) → is_inode bytes ≡ true → (n == 0 && is_used (inode_in bytes)) ≡ t → is_good (n, bytes) ≡ not t
good_is n bytes t is e = ap (λ (u : Bool). u && not (n == 0 && is_used (inode_in bytes))) is ∙ ap not e

pub good_outside : (n : ℕ) (bytes : List ℕ) → is_inode bytes ≡ false → is_good (n, bytes) ≡ false
good_outside n bytes is = ap (λ (u : Bool). u && not (n == 0 && is_used (inode_in bytes))) is

pub wrong_zero : (n : ℕ) (bytes : List ℕ) → n ≡ 0 → is_pointer_wrong (n, bytes) ≡ false
wrong_zero n bytes e =
    ap (λ (t : Bool). (is_stray (inode_in bytes) && bytes_eq (inode_bytes (inode_in bytes)) bytes) && not t) (eq-eqb n 0 e)
    ∙ and_false (is_stray (inode_in bytes) && bytes_eq (inode_bytes (inode_in bytes)) bytes)

wrong_by : (t : Bool) (n : ℕ) → (n == 0) ≡ false → (t && not (n == 0)) ≡ t
wrong_by true n e = ap not e
wrong_by false n e = refl

stray_tells : (t : Bool) (x y : Inode) → cond t (Some x) None ≡ Some y → (t ≡ true) × (x ≡ y)
stray_tells true x y e = (refl, cc)
stray_tells false x y e = cc

stray_not : (t : Bool) (x : Inode) → cond t (Some x) None ≡ None → t ≡ false
stray_not true x e = cc
stray_not false x e = refl

pub inode_tells : (bytes : List ℕ) (x : Inode) → inode_at bytes ≡ Some x → (is_inode bytes ≡ true) × (inode_in bytes ≡ x)
inode_tells bytes x e = stray_tells (is_inode bytes) (inode_in bytes) x e

pub inode_not : (bytes : List ℕ) → inode_at bytes ≡ None → is_inode bytes ≡ false
inode_not bytes e = stray_not (is_inode bytes) (inode_in bytes) e

pub wrong_some : (n : ℕ) (bytes : List ℕ) (x : Inode) → (n ≡ 0 → ⊥) → Some x ≡ stray_at bytes → (is_pointer_wrong (n, bytes) ≡ true) × (x ≡ inode_in bytes)
wrong_some n bytes x some e =
    let test : (n == 0) ≡ false = grind (arith, nat_tests) in
    let tells = stray_tells (is_stray (inode_in bytes) && bytes_eq (inode_bytes (inode_in bytes)) bytes) (inode_in bytes) x (sym e) in
    (wrong_by (is_stray (inode_in bytes) && bytes_eq (inode_bytes (inode_in bytes)) bytes) n test ∙ tells.0, sym tells.1)

pub wrong_none : (n : ℕ) (bytes : List ℕ) → (n ≡ 0 → ⊥) → None ≡ stray_at bytes → is_pointer_wrong (n, bytes) ≡ false
wrong_none n bytes some e =
    let test : (n == 0) ≡ false = grind (arith, nat_tests) in
    wrong_by (is_stray (inode_in bytes) && bytes_eq (inode_bytes (inode_in bytes)) bytes) n test
    ∙ stray_not (is_stray (inode_in bytes) && bytes_eq (inode_bytes (inode_in bytes)) bytes) (inode_in bytes) (sym e)

-- ---- the inodes of a block

pub part_is : (k : ℕ) (bytes : List ℕ) → inode_part k bytes ≡ take 64 (drop (64 * k) bytes)
part_is k bytes = let e : (64 * k + 64) - 64 * k ≡ 64 = omega arith in ap (λ (n : ℕ). take n (drop (64 * k) bytes)) e

inodes_next : (first k : ℕ) (bytes : List ℕ) → k < 64
    → inodes_from (64 - k) (first + k) (drop (64 * k) bytes) ≡ (first + k, inode_part k bytes) ∷ inodes_from (64 - (k + 1)) (first + (k + 1)) (drop (64 * (k + 1)) bytes)
unfolding inodes_from
inodes_next first k bytes lt =
    let e : 64 - k ≡ suc (64 - (k + 1)) = omega arith in
    let f : (first + k) + 1 ≡ first + (k + 1) = omega arith in
    let at : 64 * k + 64 ≡ 64 * (k + 1) = omega arith in
    let d : drop 64 (drop (64 * k) bytes) ≡ drop (64 * (k + 1)) bytes = drop-drop 64 (64 * k) bytes ∙ ap (λ (m : ℕ). drop m bytes) at in
    ap (λ (m : ℕ). inodes_from m (first + k) (drop (64 * k) bytes)) e
    ∙ (λ i. (first + k, sym (part_is k bytes) i) ∷ inodes_from (64 - (k + 1)) (f i) (d i))

inodes_end : (n : ℕ) (bytes : List ℕ) → inodes_from 0 n bytes ≡ []
unfolding inodes_from
inodes_end n bytes = refl

pub taken_none : (g : Layout) (bytes : List ℕ) (first : ℕ) (old : List (ℕ × Inode)) → Taken g bytes first 0 old old
taken_none g bytes first old =
    let e : first + 0 ≡ first = omega arith in
    record { front = []; split = ap (λ (n : ℕ). inodes_from 64 n bytes) e; nodes = sym (append-nil old); goes = λ marks. goes_none g marks }

one_node : (t : Bool) (x : ℕ × Inode) (rest : List (ℕ × Inode)) → cond t (x ∷ rest) rest ≡ cond t (x ∷ []) [] ++ rest
one_node true x rest = refl
one_node false x rest = refl

-- the inodes in front with one more
pub nodes_more : (front : List (ℕ × List ℕ)) (n : ℕ) (bytes : List ℕ) → nodes_of (front ++ ((n, bytes) ∷ [])) ≡ nodes_of front ++ cond (is_used (inode_in bytes)) ((n, inode_in bytes) ∷ []) []
nodes_more front n bytes = used_split front ((n, bytes) ∷ [])

pub taken_next : (g : Layout) (bytes : List ℕ) (first k : ℕ) (old now new : List (ℕ × Inode)) → k < 64 → Taken g bytes first k old now → ((marks : List Mark) → Goes g marks marks (bad_met (first + k, inode_part k bytes)))
    → new ≡ now ++ cond (is_used (inode_in (inode_part k bytes))) ((first + k, inode_in (inode_part k bytes)) ∷ []) [] → Taken g bytes first (k + 1) old new
taken_next g bytes first k old now new lt taken goes is =
    let one : ℕ × List ℕ = (first + k, inode_part k bytes) in
    let used : List (ℕ × Inode) = cond (is_used (inode_in (inode_part k bytes))) ((first + k, inode_in (inode_part k bytes)) ∷ []) [] in
    record {
      front = taken.front ++ (one ∷ []);
      split = append_assoc taken.front (one ∷ []) (inodes_from (64 - (k + 1)) (first + (k + 1)) (drop (64 * (k + 1)) bytes)) ∙ (ap (λ (xs : List (ℕ × List ℕ)). taken.front ++ xs) (sym (inodes_next first k bytes lt)) ∙ taken.split);
      nodes = is ∙ (ap (λ (xs : List (ℕ × Inode)). xs ++ used) taken.nodes ∙ (append_assoc old (nodes_of taken.front) used ∙ ap (λ (xs : List (ℕ × Inode)). old ++ xs) (sym (nodes_more taken.front (first + k) (inode_part k bytes)))));
      goes = λ marks. subst (Goes g marks marks) (sym (flat_map-append bad_met taken.front (one ∷ []) ∙ ap (λ (ms : List Met). flat_map bad_met taken.front ++ ms) (append-nil (bad_met one))))
          (goes_then g marks marks marks (flat_map bad_met taken.front) (bad_met one) (taken.goes marks) (goes marks));
    }

taken_front : (g : Layout) (bytes : List ℕ) (first k : ℕ) (old now : List (ℕ × Inode)) → k ≡ 64 → (taken : Taken g bytes first k old now) → taken.front ≡ inodes_from 64 first bytes
taken_front g bytes first k old now e taken =
    let none : 64 - k ≡ 0 = omega (arith, e) in
    sym (append-nil taken.front)
    ∙ (ap (λ (xs : List (ℕ × List ℕ)). taken.front ++ xs) (sym (ap (λ (n : ℕ). inodes_from n (first + k) (drop (64 * k) bytes)) none ∙ inodes_end (first + k) (drop (64 * k) bytes))) ∙ taken.split)

pub taken_goes : (g : Layout) (bytes : List ℕ) (first k : ℕ) (old now : List (ℕ × Inode)) → k ≡ 64 → Taken g bytes first k old now → (marks : List Mark) → Goes g marks marks (flat_map bad_met (inodes_from 64 first bytes))
taken_goes g bytes first k old now e taken marks = subst (λ (xs : List (ℕ × List ℕ)). Goes g marks marks (flat_map bad_met xs)) (taken_front g bytes first k old now e taken) (taken.goes marks)

pub taken_nodes : (g : Layout) (bytes : List ℕ) (first k : ℕ) (old now : List (ℕ × Inode)) → k ≡ 64 → Taken g bytes first k old now → now ≡ old ++ nodes_of (inodes_from 64 first bytes)
taken_nodes g bytes first k old now e taken = taken.nodes ∙ ap (λ (xs : List (ℕ × List ℕ)). old ++ nodes_of xs) (taken_front g bytes first k old now e taken)

-- what is wrong with the next inode of a block
pub taken_rest : (g : Layout) (bytes : List ℕ) (first k : ℕ) (old now : List (ℕ × Inode)) → k < 64 → (taken : Taken g bytes first k old now)
    → flat_map bad_met (inodes_from 64 first bytes) ≡ flat_map bad_met taken.front ++ (bad_met (first + k, inode_part k bytes) ++ flat_map bad_met (inodes_from (64 - (k + 1)) (first + (k + 1)) (drop (64 * (k + 1)) bytes)))
taken_rest g bytes first k old now lt taken =
    ap (flat_map bad_met) (sym (ap (λ (xs : List (ℕ × List ℕ)). taken.front ++ xs) (sym (inodes_next first k bytes lt)) ∙ taken.split))
    ∙ (flat_map-append bad_met taken.front ((first + k, inode_part k bytes) ∷ inodes_from (64 - (k + 1)) (first + (k + 1)) (drop (64 * (k + 1)) bytes))
    ∙ ap (λ (ms : List Met). flat_map bad_met taken.front ++ ms) (flat_map-cons bad_met (first + k, inode_part k bytes) (inodes_from (64 - (k + 1)) (first + (k + 1)) (drop (64 * (k + 1)) bytes))))

-- ---- whether one is used

pub some_used : (inodes : List (ℕ × List ℕ)) → (length (nodes_of inodes) ≡ 0 → ⊥) → list_any (λ x. is_used (inode_in x.1)) inodes ≡ true
some_used [] some = absurd (some refl)
some_used ((n, bytes) ∷ inodes) some = by (is_used (inode_in bytes)) some (some_used inodes)
  where
    by : (t : Bool) → (length (cond t ((n, inode_in bytes) ∷ nodes_of inodes) (nodes_of inodes)) ≡ 0 → ⊥) → ((length (nodes_of inodes) ≡ 0 → ⊥) → list_any (λ (x : ℕ × List ℕ). is_used (inode_in x.1)) inodes ≡ true)
        → (t || list_any (λ (x : ℕ × List ℕ). is_used (inode_in x.1)) inodes) ≡ true
    by true some more = refl
    by false some more = more some

pub none_used : (inodes : List (ℕ × List ℕ)) → length (nodes_of inodes) ≡ 0 → list_any (λ x. is_used (inode_in x.1)) inodes ≡ false
none_used [] none = refl
none_used ((n, bytes) ∷ inodes) none = by (is_used (inode_in bytes)) none (none_used inodes)
  where
    by : (t : Bool) → length (cond t ((n, inode_in bytes) ∷ nodes_of inodes) (nodes_of inodes)) ≡ 0 → (length (nodes_of inodes) ≡ 0 → list_any (λ (x : ℕ × List ℕ). is_used (inode_in x.1)) inodes ≡ false)
        → (t || list_any (λ (x : ℕ × List ℕ). is_used (inode_in x.1)) inodes) ≡ false
    by true none more = absurd (omega (arith, none))
    by false none more = more none

pub block_used : (first : ℕ) (inodes : List (ℕ × List ℕ)) → list_any (λ x. is_used (inode_in x.1)) inodes ≡ true → block_met first inodes ≡ flat_map bad_met inodes
block_used first inodes used = ap (λ (t : Bool). flat_map bad_met inodes ++ cond t [] (not_inode first ∷ [])) used ∙ append-nil (flat_map bad_met inodes)

pub block_unused : (first : ℕ) (inodes : List (ℕ × List ℕ)) → list_any (λ x. is_used (inode_in x.1)) inodes ≡ false → block_met first inodes ≡ flat_map bad_met inodes ++ (not_inode first ∷ [])
block_unused first inodes used = ap (λ (t : Bool). flat_map bad_met inodes ++ cond t [] (not_inode first ∷ [])) used

pub ends_unused : (g : Layout) (marks : List Mark) (first : ℕ) (inodes : List (ℕ × List ℕ)) → length (nodes_of inodes) ≡ 0 → Goes g marks marks (flat_map bad_met inodes) → EndsBy g marks (block_met first inodes) (Found (BadInode first))
ends_unused g marks first inodes none goes =
    subst (λ (ms : List Met). EndsBy g marks ms (Found (BadInode first))) (sym (block_unused first inodes (none_used inodes none)))
    (ends_then g marks marks (flat_map bad_met inodes) (not_inode first ∷ []) (Found (BadInode first)) goes (ends_inode g marks first))

pub goes_used : (g : Layout) (marks : List Mark) (first : ℕ) (inodes : List (ℕ × List ℕ)) → (length (nodes_of inodes) ≡ 0 → ⊥) → Goes g marks marks (flat_map bad_met inodes) → Goes g marks marks (block_met first inodes)
goes_used g marks first inodes some goes = subst (Goes g marks marks) (sym (block_used first inodes (some_used inodes some))) goes

-- how many nodes were added
pub added_length : (old now more : List (ℕ × Inode)) → now ≡ old ++ more → length now ≡ length old + length more
added_length old now more e = ap length e ∙ length-append old more

-- a block that isn't there, and one that is
pub block_none : (read : Blocks) (first at : ℕ) → at ≡ 0 → block_at read first at ≡ []
block_none read first at e = ap (λ (t : Bool). cond t [] (block_met first (inodes_from 64 first (read at)))) (eq-eqb at 0 e)

pub inodes_none : (read : Blocks) (first at : ℕ) → at ≡ 0 → inodes_at read first at ≡ []
inodes_none read first at e = ap (λ (t : Bool). cond t [] (inodes_from 64 first (read at))) (eq-eqb at 0 e)

pub block_some : (read : Blocks) (first at : ℕ) (bytes : List ℕ) → (at ≡ 0 → ⊥) → read at ≡ bytes → block_at read first at ≡ block_met first (inodes_from 64 first bytes)
block_some read first at bytes some e =
    let test : (at == 0) ≡ false = grind (arith, nat_tests) in
    ap (λ (t : Bool). cond t [] (block_met first (inodes_from 64 first (read at)))) test ∙ ap (λ (b : List ℕ). block_met first (inodes_from 64 first b)) e

pub inodes_some : (read : Blocks) (first at : ℕ) (bytes : List ℕ) → (at ≡ 0 → ⊥) → read at ≡ bytes → inodes_at read first at ≡ inodes_from 64 first bytes
inodes_some read first at bytes some e =
    let test : (at == 0) ≡ false = grind (arith, nat_tests) in
    ap (λ (t : Bool). cond t [] (inodes_from 64 first (read at))) test ∙ ap (inodes_from 64 first) e

-- ---- all inode blocks

pub blocks_next : (read : Blocks) (k : ℕ) (entries : List ℕ) → k < length entries
    → blocks_met read (64 * k) (drop k entries) ≡ block_at read (64 * k) (get_or entries k 0) ++ blocks_met read (64 * (k + 1)) (drop (k + 1) entries)
blocks_next read k entries lt =
    let e : 64 * k + 64 ≡ 64 * (k + 1) = omega arith in
    ap (blocks_met read (64 * k)) (drop_more entries k 0 lt) ∙ ap (λ (n : ℕ). block_at read (64 * k) (get_or entries k 0) ++ blocks_met read n (drop (k + 1) entries)) e

inodes_of_next : (read : Blocks) (k : ℕ) (entries : List ℕ) → k < length entries
    → blocks_inodes read (64 * k) (drop k entries) ≡ inodes_at read (64 * k) (get_or entries k 0) ++ blocks_inodes read (64 * (k + 1)) (drop (k + 1) entries)
inodes_of_next read k entries lt =
    let e : 64 * k + 64 ≡ 64 * (k + 1) = omega arith in
    ap (blocks_inodes read (64 * k)) (drop_more entries k 0 lt) ∙ ap (λ (n : ℕ). inodes_at read (64 * k) (get_or entries k 0) ++ blocks_inodes read n (drop (k + 1) entries)) e

pub gathered_none : (read : Blocks) (entries : List ℕ) (old : List (ℕ × Inode)) → Gathered read entries 0 old old
gathered_none read entries old = record { front = []; split = refl; nodes = sym (append-nil old) }

pub gathered_next : (read : Blocks) (entries : List ℕ) (k : ℕ) (old now new : List (ℕ × Inode)) → k < length entries → Gathered read entries k old now
    → new ≡ now ++ nodes_of (inodes_at read (64 * k) (get_or entries k 0)) → Gathered read entries (k + 1) old new
gathered_next read entries k old now new lt so_far is =
    let one : List (ℕ × List ℕ) = inodes_at read (64 * k) (get_or entries k 0) in
    record {
      front = so_far.front ++ one;
      split = append_assoc so_far.front one (blocks_inodes read (64 * (k + 1)) (drop (k + 1) entries)) ∙ (ap (λ (xs : List (ℕ × List ℕ)). so_far.front ++ xs) (sym (inodes_of_next read k entries lt)) ∙ so_far.split);
      nodes = is ∙ (ap (λ (xs : List (ℕ × Inode)). xs ++ nodes_of one) so_far.nodes ∙ (append_assoc old (nodes_of so_far.front) (nodes_of one) ∙ ap (λ (xs : List (ℕ × Inode)). old ++ xs) (sym (used_split so_far.front one))));
    }

pub gathered_all : (read : Blocks) (entries : List ℕ) (k : ℕ) (old now : List (ℕ × Inode)) → length entries ≤ k → Gathered read entries k old now → now ≡ old ++ nodes_of (blocks_inodes read 0 entries)
gathered_all read entries k old now le so_far =
    so_far.nodes ∙ ap (λ (xs : List (ℕ × List ℕ)). old ++ nodes_of xs)
    (sym (append-nil so_far.front) ∙ (ap (λ (xs : List (ℕ × List ℕ)). so_far.front ++ xs) (sym (ap (blocks_inodes read (64 * k)) (drop_all k entries le))) ∙ so_far.split))

pub not_zero_used : (n : ℕ) (used : Bool) → (n ≡ 0 → ⊥) → (n == 0 && used) ≡ false
not_zero_used n used some = let test : (n == 0) ≡ false = grind (arith, nat_tests) in ap (λ (t : Bool). t && used) test

pub unused_number : (n : ℕ) (used : Bool) → used ≡ false → (n == 0 && used) ≡ false
unused_number n used is = ap (λ (t : Bool). n == 0 && t) is ∙ and_false (n == 0)

pub goes_good : (g : Layout) (marks : List Mark) (n : ℕ) (bytes : List ℕ) (inode : Inode) → inode_at bytes ≡ Some inode → (n == 0 && is_used inode) ≡ false → Goes g marks marks (bad_met (n, bytes))
goes_good g marks n bytes inode is fine =
    let tells = inode_tells bytes inode is in
    let good : is_good (n, bytes) ≡ true = good_is n bytes false tells.0 (ap (λ (x : Inode). n == 0 && is_used x) tells.1 ∙ fine) in
    subst (Goes g marks marks) (sym (bad_none n bytes good)) (goes_none g marks)
