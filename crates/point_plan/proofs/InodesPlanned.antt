-- The inodes of a table that stands in blocks are those that a point plans.
use Rattle.std.proofs.Common.{◌≡◌, ℕ, zero, suc, ◌+◌, ◌-◌, ◌*◌, ◌/◌, ◌%◌, ◌^◌, ◌<◌, ◌≤◌, Bool, true, false, cond, List, [], ◌∷◌, ◌++◌, length, take, drop, drop-cons, Some, None, refl, sym, ap, subst, ◌∙◌, arith}
use Rattle.std.specs.Prelude.{not, ◌==◌, ◌&&◌, ◌||◌, nat_lt, slice_index, option_map}
use Rattle.std.proofs.lemmas.Bool.Decides.{nat_tests}
use Rattle.std.proofs.lemmas.List.{drop_all}
use Rattle.std.proofs.lemmas.Slice.Eq.{bytes_eq-Decides}
use Rattle.std.proofs.Math.Seq.{take-add}
use Rattle.vol_numbers.specs.declared.block.Block.{Block}
use Rattle.block_format.specs.Inode.{inode_at, inode_bytes, inode_in, inode_part, inode_shape, is_inode, pointer_of}
use Rattle.block_format.specs.declared.inode.Inode.{Inode}
use Rattle.block_format.specs.declared.inode.Inode.TheVariants.{Unused, File, Directory}
use Rattle.block_tree.specs.Tree.{Blocks, blocks_in, index_at, nonzero}
use Rattle.dirty_store.specs.Overlay.{Overlay}
use Rattle.image_model.specs.Plan.{inode_pointers}
use Rattle.image_model.specs.Planned.{GroupStands, InodesStand, inodes_bytes, used_from}
use Rattle.image_model.specs.Walk.{is_used}
use Rattle.inode_file.specs.Inodes.{InodeTable, IsTable, SpellsInodeAt, Stands, inode_of, is_used as is_node}
use Rattle.inode_file.specs.Rewriting.{has_nodes, has_used, table_pointers}
use Rattle.inode_file.proofs.SpellLaws.{number_spelled}
use Rattle.place_words.specs.Different.{times}
use Rattle.point_model.specs.Holding.{node_now}
use Rattle.point_model.specs.PointPlan.{InodesArePlanned, told}
use Rattle.node_table.specs.Held.{info}
use Rattle.root_switch.specs.Current.{root_of_image}

-- ---- the bytes of an inode block

and_last : (a b : Bool) → (a && b) ≡ true → b ≡ true
and_last true b e = e
and_last false b e = cc

-- bytes that spell an inode are its bytes
spelled_bytes : (bytes : List ℕ) (x : Inode) → inode_at bytes ≡ Some x → bytes ≡ inode_bytes x
spelled_bytes bytes x = by (is_inode bytes) refl
  where
    by : (t : Bool) → is_inode bytes ≡ t → cond t (Some (inode_in bytes)) None ≡ Some x → bytes ≡ inode_bytes x
    by true is e =
        let same : inode_in bytes ≡ x = cc in
        sym ((bytes_eq-Decides (inode_bytes (inode_in bytes)) bytes).0 (and_last (inode_shape (inode_in bytes)) _ is)) ∙ ap inode_bytes same
    by false is e = cc

drop_none : (n : ℕ) → drop {A = ℕ} n [] ≡ []
drop_none zero = refl
drop_none (suc n) = refl

drop_more : (n m : ℕ) (xs : List ℕ) → drop m (drop n xs) ≡ drop (n + m) xs
drop_more zero m xs = let e : m ≡ 0 + m = omega arith in ap (λ (k : ℕ). drop k xs) e
drop_more (suc n) m [] = drop_none m ∙ sym (drop_none (suc n + m))
drop_more (suc n) m (x ∷ xs) = let e : suc (n + m) ≡ suc n + m = omega arith in drop_more n m xs ∙ ap (λ (k : ℕ). drop k (x ∷ xs)) e

-- bytes whose parts are those of inodes are the bytes of these inodes
parts_are : (inode : ℕ → Inode) (n m : ℕ) (bytes : List ℕ) → ((j : ℕ) → j < m → take 64 (drop (64 * j) bytes) ≡ inode_bytes (inode (n + j))) → take (64 * m) bytes ≡ inodes_bytes inode n m
unfolding inodes_bytes
parts_are inode n zero bytes parts = refl
parts_are inode n (suc m) bytes parts =
    let e : 64 * suc m ≡ 64 + 64 * m = omega arith in
    let z : n + 0 ≡ n = omega arith in
    let here : take 64 bytes ≡ inode_bytes (inode n) = parts 0 (omega arith) ∙ ap (λ (k : ℕ). inode_bytes (inode k)) z in
    let rest = parts_are inode (n + 1) m (drop 64 bytes) (λ j lt.
    let shift : 64 + 64 * j ≡ 64 * suc j = omega arith in
    let next : n + suc j ≡ (n + 1) + j = omega arith in
    ap (take 64) (drop_more 64 (64 * j) bytes ∙ ap (λ (k : ℕ). drop k bytes) shift) ∙ parts (suc j) (omega (arith, lt)) ∙ ap (λ (k : ℕ). inode_bytes (inode k)) next) in
    ap (λ (k : ℕ). take k bytes) e ∙ take-add 64 (64 * m) bytes ∙ (λ i. here i ++ rest i)

part_is : (j : ℕ) (bytes : List ℕ) → inode_part j bytes ≡ take 64 (drop (64 * j) bytes)
part_is j bytes = let e : (64 * j + 64) - 64 * j ≡ 64 = omega arith in ap (λ (k : ℕ). take k (drop (64 * j) bytes)) e

-- ---- used numbers

none_used : (inode : ℕ → Inode) (n m : ℕ) → ((j : ℕ) → j < m → inode (n + j) ≡ Unused) → used_from inode n m ≡ []
unfolding used_from
none_used inode n zero none = refl
none_used inode n (suc m) none =
    let z : n + 0 ≡ n = omega arith in
    let here : inode n ≡ Unused = ap inode (sym z) ∙ none 0 (omega arith) in
    let rest = none_used inode (n + 1) m (λ j lt. let next : (n + 1) + j ≡ n + suc j = omega arith in ap inode next ∙ none (suc j) (omega (arith, lt))) in
    λ i. cond (is_used (here i)) ((n, here i) ∷ []) [] ++ rest i

is_the_same : (x : Inode) → is_node x ≡ is_used x
is_the_same Unused = refl
is_the_same (File size height ptr) = refl
is_the_same (Directory width height ptr) = refl

some_used : (inodes : List Inode) (n m : ℕ) → has_used (take m (drop n inodes)) ≡ true → 1 ≤ length (used_from (inode_of inodes) n m)
unfolding used_from
some_used inodes n zero some = cc
some_used inodes n (suc m) some = by_place (some_used inodes (n + 1) m) (nat_lt n (length inodes)) refl
  where
    by_kind : (has_used (take m (drop (n + 1) inodes)) ≡ true → 1 ≤ length (used_from (inode_of inodes) (n + 1) m)) → (x : Inode) → (is_node x || has_used (take m (drop (n + 1) inodes))) ≡ true → 1 ≤ length (cond (is_used x) ((n, x) ∷ []) [] ++ used_from (inode_of inodes) (n + 1) m)
    by_kind more Unused is = more is
    by_kind more (File size height ptr) is = omega arith
    by_kind more (Directory width height ptr) is = omega arith

    by_place : (has_used (take m (drop (n + 1) inodes)) ≡ true → 1 ≤ length (used_from (inode_of inodes) (n + 1) m)) → (t : Bool) → nat_lt n (length inodes) ≡ t → 1 ≤ length (used_from (inode_of inodes) n (suc m))
    by_place more true is =
        let lt : n < length inodes = grind (arith, nat_tests) in
        let e : suc n ≡ n + 1 = omega arith in
        let front : drop n inodes ≡ inode_of inodes n ∷ drop (n + 1) inodes = drop-cons inodes n Unused lt ∙ ap (λ (k : ℕ). inode_of inodes n ∷ drop k inodes) e in
        by_kind more (inode_of inodes n) (subst (λ (xs : List Inode). has_used (take (suc m) xs) ≡ true) front some)
    by_place more false is =
        let le : length inodes ≤ n = grind (arith, nat_tests) in
        let none : drop n inodes ≡ [] = drop_all n inodes le in
        let never : has_used (take (suc m) []) ≡ true = subst (λ (xs : List Inode). has_used (take (suc m) xs) ≡ true) none some in
        cc

lies_within : (k e : ℕ) (es ps : List ℕ) → e ∷ es ≡ drop k ps → k < length ps
lies_within k e es ps is = by (nat_lt k (length ps)) refl
  where
    by : (t : Bool) → nat_lt k (length ps) ≡ t → k < length ps
    by true lt = grind (arith, nat_tests)
    by false under =
        let le : length ps ≤ k = grind (arith, nat_tests) in
        let none = drop_all k ps le in
        let never : e ∷ es ≡ [] = is ∙ none in
        cc

-- ---- a group

module _ (read : Blocks) (t : InodeTable) (stands : Stands read t) (same : t.stored ≡ t.inodes) (fresh : (k : ℕ) → k < 1024 → has_nodes t k ≡ false → slice_index t.pointers k ≡ 0) where
  -- each inode of the k-th block
  inode_spelled : (k j : ℕ) → k < 1024 → j < 64 → SpellsInodeAt read (slice_index t.pointers k) j (inode_of t.inodes (64 * k + j))
  inode_spelled k j lt below =
      let at : (64 * k + j) / 64 ≡ k = omega arith in
      let off : (64 * k + j) % 64 ≡ j = omega arith in
      let whole = number_spelled read t.index t.stored stands.inodes (64 * k + j) (omega (arith, lt, below)) in
      subst (λ (inodes : List Inode). SpellsInodeAt read (slice_index t.pointers k) j (inode_of inodes (64 * k + j))) same
      (subst (λ (i : ℕ). SpellsInodeAt read (slice_index t.pointers k) i (inode_of t.stored (64 * k + j))) off
      (subst (λ (i : ℕ). SpellsInodeAt read (slice_index t.pointers i) ((64 * k + j) % 64) (inode_of t.stored (64 * k + j))) at
      (subst (λ (ps : List ℕ). SpellsInodeAt read (slice_index ps ((64 * k + j) / 64)) ((64 * k + j) % 64) (inode_of t.stored (64 * k + j))) stands.index whole)))

  group : (k e : ℕ) → k < 1024 → e ≡ slice_index t.pointers k → GroupStands read (inode_of t.inodes) k e
  group k e lt is = by e is refl
    where
      each : (j : ℕ) → j < 64 → SpellsInodeAt read e j (inode_of t.inodes (64 * k + j))
      each j below = subst (λ (p : ℕ). SpellsInodeAt read p j (inode_of t.inodes (64 * k + j))) (sym is) (inode_spelled k j lt below)

      by : (p : ℕ) → p ≡ slice_index t.pointers k → e ≡ p → GroupStands read (inode_of t.inodes) k e
      by zero at here = record {
        absent = λ a. none_used (inode_of t.inodes) (64 * k) 64 (λ j below. subst (λ (p : ℕ). SpellsInodeAt read p j (inode_of t.inodes (64 * k + j))) here (each j below));
        spelled = λ a. absurd (never a);
        some = λ a. absurd (never a);
      }
        where
          never : (e == 0) ≡ false → ⊥
          never a = let is_zero : (e == 0) ≡ true = grind (arith, nat_tests) in cc
      by (suc b) at here = record {
        absent = λ a. absurd (never a);
        spelled = λ a. parts_are (inode_of t.inodes) (64 * k) 64 (read e) (λ j below.
            sym (part_is j (read e)) ∙ ap (λ (p : ℕ). inode_part j (read p)) here ∙ spelled_bytes (inode_part j (read (suc b))) (inode_of t.inodes (64 * k + j)) (subst (λ (p : ℕ). SpellsInodeAt read p j (inode_of t.inodes (64 * k + j))) here (each j below)));
        some = λ a. some_used t.inodes (64 * k) 64 (used (has_nodes t k) refl);
      }
        where
          never : (e == 0) ≡ true → ⊥
          never a = let is_zero : (e == 0) ≡ false = grind (arith, nat_tests) in cc

          used : (b' : Bool) → has_nodes t k ≡ b' → has_nodes t k ≡ true
          used true e' = e'
          used false e' = absurd (omega (arith, fresh k lt e', at))

  -- those from the k-th on
  groups : (k : ℕ) (es : List ℕ) → es ≡ drop k t.pointers → k + length es ≡ 1024 → InodesStand read (inode_of t.inodes) k es
  groups k [] is long = tt
  groups k (e ∷ es) is long =
      let lt : k < length t.pointers = lies_within k e es t.pointers is in
      let more : suc k ≡ k + 1 = omega arith in
      let front : e ∷ es ≡ slice_index t.pointers k ∷ drop (k + 1) t.pointers = is ∙ drop-cons t.pointers k 0 lt ∙ ap (λ (i : ℕ). slice_index t.pointers k ∷ drop i t.pointers) more in
      let here : e ≡ slice_index t.pointers k = cc in
      let rest : es ≡ drop (k + 1) t.pointers = cc in
      (group k e (omega (arith, long)) here, groups (k + 1) es rest (omega (arith, long)))

  pub blocks_stand : IsTable t → InodesStand read (inode_of t.inodes) 0 (index_at read t.index)
  blocks_stand whole = subst (InodesStand read (inode_of t.inodes) 0) (sym stands.index) (groups 0 t.pointers refl (omega (arith, whole.pointers)))

-- ---- all of it

first_pointer : (p : ℕ) (ps : List ℕ) → 0 < p → nonzero (p ∷ ps) ≡ p ∷ nonzero ps
first_pointer p ps lt = let some : (p == 0) ≡ false = grind (arith, nat_tests) in ap (λ (t : Bool). cond (not t) (p ∷ nonzero ps) (nonzero ps)) some

-- the pointers of an image are those of a table that stands in it
pub pointers_are : (image : List Block) (t : InodeTable) → IsTable t → Stands (blocks_in image) t → (root_of_image image).inode_index ≡ t.index → inode_pointers image ≡ table_pointers t
pointers_are image t whole stands index =
    ap (λ (i : ℕ). i ∷ nonzero (index_at (blocks_in image) i)) index ∙ ap (λ (ps : List ℕ). t.index ∷ nonzero ps) stands.index ∙ sym (first_pointer t.index t.pointers whole.index)

-- A table that stands in an image is planned, where another stood in the old one.
pub inodes_planned : (old new : List Block) (o : Overlay) (was t : InodeTable) (added dropped : List ℕ) → IsTable was → IsTable t
    → Stands (blocks_in old) was → (root_of_image old).inode_index ≡ was.index → Stands (blocks_in new) t → (root_of_image new).inode_index ≡ t.index → t.stored ≡ t.inodes
    → ((k : ℕ) → k < 1024 → has_nodes t k ≡ false → slice_index t.pointers k ≡ 0)
    → ((n : ℕ) → pointer_of (inode_of t.inodes n) < 2 ^ 32) → is_used (inode_of t.inodes 0) ≡ false
    → ((n : ℕ) → told (inode_of t.inodes n) ≡ option_map info (node_now old o n))
    → ((b : ℕ) → times b (table_pointers was) + times b added ≡ times b (table_pointers t) + times b dropped)
    → InodesArePlanned old new o (inode_of t.inodes) added dropped
inodes_planned old new o was t added dropped whole_was whole stood index_was stands index same fresh small zero_unused kinds balance = record {
  kinds = kinds;
  spellings = record { shapes = whole.shape; pointers = small; zero_unused = zero_unused };
  count = ap (λ (i : ℕ). length (index_at (blocks_in new) i)) index ∙ ap (λ (ps : List ℕ). length ps) stands.index ∙ whole.pointers;
  blocks = subst (λ (i : ℕ). InodesStand (blocks_in new) (inode_of t.inodes) 0 (index_at (blocks_in new) i)) (sym index) (blocks_stand (blocks_in new) t stands same fresh whole);
  balance = λ b.
      ap (λ (ps : List ℕ). times b ps + times b added) (pointers_are old was whole_was stood index_was) ∙ balance b ∙ ap (λ (ps : List ℕ). times b ps + times b dropped) (sym (pointers_are new t whole stands index));
}
