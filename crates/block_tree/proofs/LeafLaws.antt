-- Leaves after a cut and changes.
use Rattle.std.proofs.Common.{◌≡◌, ◌<◌, ◌≤◌, ℕ, zero, suc, ◌+◌, ◌*◌, ◌==◌, List, [], ◌∷◌, ◌++◌, length, take, drop, set, refl, ap, sym, ◌∙◌, subst, arith, ⊎_elim}
use Rattle.std.specs.Prelude.{slice_index, if◌then◌else◌, not, Bool, true, false}
use Rattle.std.specs.List.{flat_map, sum_by}
use Rattle.std.proofs.lemmas.Bool.{cases_eq}
use Rattle.std.proofs.lemmas.Bool.Decides.{nat_tests}
use Rattle.std.proofs.lemmas.List.{get_or-set_same, get_or-set_other, length-set}
use Rattle.std.proofs.lemmas.List.Sums.{sum_by-set, sum_by-cons}
use Rattle.block_format.specs.Words.{words}
use Rattle.vol_numbers.specs.declared.runs.Page.{Page}
use Rattle.vol_numbers.specs.declared.runs.Change.{Change}
use Rattle.block_tree.specs.Tree.{Blocks, index_at, nonzero}
use Rattle.place_words.specs.Different.{times}
use Rattle.block_tree.specs.Parts.{SameEntries}
use Rattle.block_tree.specs.Notes.{Noted, Stand, Settles, Takes, page_blocks, refs}
use Rattle.block_tree.specs.Edit.{IsLeafBefore, IsLeafAfter, IsEmptied, IsEdit, KeepsLeaf, portion, cut_at}
use Rattle.block_tree.specs.Renewal.{IsRenewed, IsNoted}
use Rattle.block_tree.specs.Leaf.{StaysAt, FullAt, IsLeafEdited, IsLeafRewritten, IsFirstRewritten, IsUntouched, AreLeavesRewritten, level}
use Rattle.block_tree.proofs.EditLaws.{changed_elsewhere, kept_below}
use Rattle.block_tree.proofs.EntryLaws.{same_list, some_nonzero}
use Rattle.block_tree.proofs.OrderLaws.{turn_none, turn_pages, turn_more}
use Rattle.block_tree.proofs.NoteLaws.{refs-set, refs-append, settles_beside, settles_none}

pub stand_same : (m n : Noted) (read : Blocks) → n.pages ≡ m.pages → Stand n.pages read → Stand m.pages read
stand_same m n read e stand = subst (λ (ps : List Page). Stand ps read) e stand

pub settles_then : {xs ys zs : List ℕ} {m n o : Noted} → Settles xs ys m n → Settles ys zs n o → Settles xs zs m o
settles_then first second = record { each = λ b. omega (arith, first.each b, second.each b) }

-- by the pointers that lead to blocks alone
pub settles_like : {xs ys zs ws : List ℕ} {m n : Noted} → nonzero xs ≡ nonzero zs → nonzero ys ≡ nonzero ws → Settles xs ys m n → Settles zs ws m n
settles_like ex ey s = record { each = λ b. omega (arith, ap (λ (v : List ℕ). times b v) ex, ap (λ (v : List ℕ). times b v) ey, s.each b) }

pub nonzero-cons : (x : ℕ) (xs ys : List ℕ) → nonzero xs ≡ nonzero ys → nonzero (x ∷ xs) ≡ nonzero (x ∷ ys)
nonzero-cons x xs ys e = ap (λ (v : List ℕ). if not (x == 0) then x ∷ v else v) e

pub zeros_lead_nowhere : (ptrs : List ℕ) → ((i : ℕ) → i < length ptrs → slice_index ptrs i ≡ 0) → nonzero ptrs ≡ []
zeros_lead_nowhere [] zeros = refl
zeros_lead_nowhere (p ∷ ps) zeros =
    let head : p ≡ 0 = zeros 0 (omega arith) in
    ap (λ (x : ℕ). nonzero (x ∷ ps)) head ∙ zeros_lead_nowhere ps (λ i lt. zeros (suc i) (omega arith))

-- the old pointers are edited, the block is renewed, and what comes and goes is noted
pub leaf_is_edited : {changes : List Change} {cut k leaf new : ℕ} {was ptrs : List ℕ} {m n o : Noted}
    → length ptrs ≡ 1024 → IsEdit changes cut k was ptrs → IsRenewed leaf was ptrs new m n → IsNoted was ptrs n o → length was ≡ 1024
    → IsLeafEdited changes cut k leaf was new m o
leaf_is_edited {changes = changes} {cut = cut} {k = k} {new = new} {was = was} {ptrs = ptrs} {m = m} {n = n} {o = o} long edits renewed noted as_long = record {
  kept = λ old before same i small some there.
      let is : ptrs ≡ was = same_list ptrs was (long ∙ sym as_long) (λ j lt. edits old before j (omega (arith, lt, long)) ∙ (same j (omega (arith, lt, long)) ∙ sym (before j (omega (arith, lt, long))))) in
      (renewed.kept there is (λ none. some_nonzero was i (subst (λ (x : ℕ). 0 < x) (sym (before i small)) some) (ap nonzero (sym is) ∙ none))).0;
  places = λ after old stand same before i lt. (renewed.entries after (stand_same n o after noted.pages stand) same).each i ∙ edits old before i lt;
  settles = λ after stand same.
      settles_like refl (sym (nonzero-cons new (index_at after new) ptrs (renewed.entries after (stand_same n o after noted.pages stand) same).some))
      (settles_beside renewed.settles noted.settles);
  none = λ old before emptied. renewed.none (zeros_lead_nowhere ptrs (λ i lt. edits old before i (omega (arith, lt, long)) ∙ emptied i (omega (arith, lt, long))));
  full = λ after stand same some empty.
      let e = (renewed.entries after (stand_same n o after noted.pages stand) same).some in
      omega (arith, some, renewed.none (sym e ∙ empty));
  indexes = λ b. omega (arith, renewed.indexes b, ap (λ (ps : List Page). times b (page_blocks ps)) noted.pages);
  in_turn = turn_pages m n m o refl noted.pages renewed.in_turn;
}

pub takes_noted : {was ptrs : List ℕ} {m n o : Noted} → Takes m n → IsNoted was ptrs n o → Takes m o
takes_noted {n = n} {o = o} takes noted = record {
  in_order = ap (λ (ps : List Page). page_blocks ps ++ o.free) noted.pages ∙ (ap (λ (xs : List ℕ). page_blocks n.pages ++ xs) noted.free ∙ takes.in_order);
  grows = λ read stand. takes.grows read (stand_same n o read noted.pages stand);
}

pub takes_then : {m n o : Noted} → Takes m n → Takes n o → Takes m o
takes_then first second = record { in_order = second.in_order ∙ first.in_order; grows = λ read stand. first.grows read (second.grows read stand) }

pub index_stays : (read after : Blocks) (leaf : ℕ) → StaysAt read after leaf → index_at after leaf ≡ index_at read leaf
index_stays read after zero stays = refl
index_stays read after (suc leaf) stays = ap (λ (v : List ℕ). if suc leaf == 0 then [] else take 1024 (words v)) (stays (omega arith))

pub leaf_is_rewritten : {read : Blocks} {changes : List Change} {cut : ℕ} {over : Bool} {k leaf new : ℕ} {was : List ℕ} {m n : Noted}
    → SameEntries (index_at read leaf) was → IsLeafEdited changes cut k leaf was new m n → IsLeafRewritten read changes cut over k leaf new m n
leaf_is_rewritten {read = read} {leaf = leaf} {was = was} same edited = record {
  kept = λ old before. edited.kept old (λ i lt. sym (same.each i) ∙ before i lt);
  places = λ after old stand stays before. edited.places after old stand (λ some. here after stays) (λ i lt. sym (same.each i) ∙ before i lt);
  settles = λ after stand stays. settles_like (nonzero-cons leaf was (index_at after leaf) (sym (here after stays).some)) refl (edited.settles after stand (λ some. here after stays));
  none = λ is old before emptied. edited.none old (λ i lt. sym (same.each i) ∙ before i lt) emptied;
  full = λ after stand stays was_full. edited.full after stand (λ some. here after stays);
  indexes = edited.indexes;
  in_turn = edited.in_turn;
}
  where
    here : (after : Blocks) → StaysAt read after leaf → SameEntries (index_at after leaf) was
    here after stays = subst (λ (xs : List ℕ). SameEntries xs was) (sym (index_stays read after leaf stays)) same

-- a leaf that isn't gone over
pub leaf_untouched : {read : Blocks} {changes part : List Change} {cut : ℕ} {over : Bool} (k leaf : ℕ) (m : Noted) → part ≡ portion k changes → IsUntouched over part cut k → IsLeafRewritten read changes cut over k leaf leaf m m
leaf_untouched {read = read} {changes = changes} {cut = cut} k leaf m part_is untouched = record {
  kept = λ old before same i small some there. refl;
  places = λ after old stand stays before i lt.
      ap (λ (v : List ℕ). slice_index v i) (index_stays read after leaf stays)
      ∙ (before i lt
      ∙ sym (changed_elsewhere k (1024 * k + i) changes (cut_at cut old) (sym part_is ∙ untouched.unchanged) (omega (arith, lt)) ∙ kept_below cut old (1024 * k + i) (omega (arith, lt, untouched.kept))));
  settles = λ after stand stays. settles_none m (leaf ∷ index_at after leaf);
  none = λ is. absurd (untouched.passed is);
  full = λ after stand stays full some. subst (λ (v : List ℕ). nonzero v ≡ [] → ⊥) (sym (index_stays read after leaf stays)) (full some);
  indexes = λ b. omega arith;
  in_turn = turn_none (nonzero (leaf ∷ [])) m m refl;
}

-- the leaf 0, made of the block of place 0, and as it was on the disk
pub first_made : {read : Blocks} {changes : List Change} {cut : ℕ} (leaf : ℕ) {first was : List ℕ} {new : ℕ} {m n : Noted} → leaf ≡ 0 → SameEntries first was → IsLeafEdited changes cut 0 leaf was new m n
    → IsFirstRewritten read changes cut leaf first new m n
first_made leaf {first = first} {was = was} none same edited = record {
  kept = λ old before. edited.kept old (λ i lt. sym (same.each i) ∙ before i lt);
  places = λ after old stand stays before. edited.places after old stand (λ some. absurd (omega (arith, some, none))) (λ i lt. sym (same.each i) ∙ before i lt);
  settles = λ after stand stays. settles_like (nonzero-cons leaf was first (sym same.some)) refl (edited.settles after stand (λ some. absurd (omega (arith, some, none))));
  full = λ after stand stays full. edited.full after stand (λ some. absurd (omega (arith, some, none)));
  indexes = edited.indexes;
  in_turn = edited.in_turn;
}

pub first_kept : {read : Blocks} {changes : List Change} {cut : ℕ} {over : Bool} (leaf : ℕ) {new : ℕ} {m n : Noted} → IsLeafRewritten read changes cut over 0 leaf new m n
    → IsFirstRewritten read changes cut leaf (index_at read leaf) new m n
first_kept {read = read} leaf {new = new} {m = m} {n = n} rewritten = record {
  kept = rewritten.kept;
  places = λ after old stand stays before. rewritten.places after old stand stays before;
  settles = λ after stand stays. subst (λ (v : List ℕ). Settles (leaf ∷ v) (new ∷ index_at after new) m n) (index_stays read after leaf stays) (rewritten.settles after stand stays);
  full = λ after stand stays full. rewritten.full after stand stays full;
  indexes = rewritten.indexes;
  in_turn = rewritten.in_turn;
}

-- the pointers of a level, leaf by leaf
pub refs-level : (b : ℕ) (read : Blocks) (xs : List ℕ) → refs b (level read xs) ≡ sum_by (λ t. refs b (t ∷ index_at read t)) xs
refs-level b read [] = refl
refs-level b read (x ∷ xs) =
    let rest = refs-level b read xs in
    omega (
      arith,
      rest,
      refs-append b (x ∷ xs) (index_at read x ++ flat_map (index_at read) xs),
      refs-append b (x ∷ []) xs,
      refs-append b (index_at read x) (flat_map (index_at read) xs),
      refs-append b xs (flat_map (index_at read) xs),
      refs-append b (x ∷ []) (index_at read x),
      sum_by-cons (λ t. refs b (t ∷ index_at read t)) x xs,
    )

-- one leaf of a level is another
pub level_set : (read : Blocks) (xs : List ℕ) (k new : ℕ) {m n : Noted} → k < length xs → Settles (slice_index xs k ∷ index_at read (slice_index xs k)) (new ∷ index_at read new) m n
    → Settles (level read xs) (level read (set xs k new)) m n
level_set read xs k new lt s = record {
  each = λ b. omega (arith, refs-level b read xs, refs-level b read (set xs k new), sum_by-set (λ t. refs b (t ∷ index_at read t)) xs k new 0 lt, s.each b);
}

module _ (read : Blocks) (changes : List Change) (cut : ℕ) (over : Bool) (before : List ℕ) where
  pub leaves_none : (m : Noted) → length before ≡ 1024 → AreLeavesRewritten read changes cut over 1 before before m m
  leaves_none m long = record {
    long = long;
    same = λ j le. refl;
    first = refl;
    kept = λ old was j some lt. absurd (omega (arith, some, lt));
    places = λ after old stand stays is j some lt. absurd (omega (arith, some, lt));
    settles = λ after stand stays. settles_none m (level after before);
    none = λ is old was j some lt. absurd (omega (arith, some, lt));
    full = λ after stand stays was_full j some lt. absurd (omega (arith, some, lt));
    indexes = λ b. omega arith;
    in_turn = turn_none (nonzero (drop 1 (take 1 before))) m m refl;
  }

  pub leaves_more : (k : ℕ) (leaves : List ℕ) (new : ℕ) {m n o : Noted} → 1 ≤ k → k < 1024 → AreLeavesRewritten read changes cut over k before leaves m n
      → IsLeafRewritten read changes cut over k (slice_index leaves k) new n o → Takes n o → AreLeavesRewritten read changes cut over (k + 1) before (set leaves k new) m o
  leaves_more k leaves new some lt so_far one takes =
      let is : slice_index leaves k ≡ slice_index before k = so_far.same k (omega arith) in
      let in_list : k < length leaves = omega (arith, so_far.long) in
      record {
        long = length-set leaves k new ∙ so_far.long;
        same = λ j le. get_or-set_other leaves k j new 0 (λ e. omega (arith, e, le)) ∙ so_far.same j (omega (arith, le));
        first = get_or-set_other leaves k 0 new 0 (λ e. omega (arith, e, some)) ∙ so_far.first;
        kept = λ old was j at_least below. ⊎_elim
            (λ here. subst (λ (i : ℕ). KeepsLeaf changes cut old i (slice_index before i) (slice_index (set leaves k new) i)) (sym here)
            (subst (λ (t : ℕ). KeepsLeaf changes cut old k (slice_index before k) t) (sym (get_or-set_same leaves k new 0 in_list))
            (subst (λ (t : ℕ). KeepsLeaf changes cut old k t new) is (one.kept old (subst (λ (t : ℕ). IsLeafBefore old k (index_at read t)) (sym is) (was k some lt))))))
            (λ other. subst (λ (t : ℕ). KeepsLeaf changes cut old j (slice_index before j) t) (sym (get_or-set_other leaves k j new 0 other))
            (so_far.kept old was j at_least (omega (arith, other, below))))
            (cases_eq j k);
        places = λ after old stand stays was j at_least below. ⊎_elim
            (λ here. subst (λ (i : ℕ). IsLeafAfter changes cut old i (index_at after (slice_index (set leaves k new) i))) (sym here)
            (subst (λ (t : ℕ). IsLeafAfter changes cut old k (index_at after t)) (sym (get_or-set_same leaves k new 0 in_list))
            (one.places after old stand (subst (λ (t : ℕ). StaysAt read after t) (sym is) (stays k some)) (subst (λ (t : ℕ). IsLeafBefore old k (index_at read t)) (sym is) (was k some lt)))))
            (λ other. subst (λ (t : ℕ). IsLeafAfter changes cut old j (index_at after t)) (sym (get_or-set_other leaves k j new 0 other))
            (so_far.places after old (takes.grows after stand) stays was j at_least (omega (arith, other, below))))
            (cases_eq j k);
        settles = λ after stand stays. settles_then (so_far.settles after (takes.grows after stand) stays)
            (level_set after leaves k new in_list (one.settles after stand (subst (λ (t : ℕ). StaysAt read after t) (sym is) (stays k some))));
        none = λ is_over old was j at_least below emptied. ⊎_elim
            (λ here. ap (λ (i : ℕ). slice_index (set leaves k new) i) here ∙ (get_or-set_same leaves k new 0 in_list
            ∙ one.none is_over old (subst (λ (t : ℕ). IsLeafBefore old k (index_at read t)) (sym is) (was k some lt)) (subst (λ (i : ℕ). IsEmptied changes cut old i) here emptied)))
            (λ other. get_or-set_other leaves k j new 0 other ∙ so_far.none is_over old was j at_least (omega (arith, other, below)) emptied)
            (cases_eq j k);
        full = λ after stand stays was_full j at_least below. ⊎_elim
            (λ here. subst (λ (i : ℕ). FullAt after (slice_index (set leaves k new) i)) (sym here)
            (subst (λ (t : ℕ). FullAt after t) (sym (get_or-set_same leaves k new 0 in_list)) (one.full after stand (subst (λ (t : ℕ). StaysAt read after t) (sym is) (stays k some)) (subst (λ (t : ℕ). FullAt read t) (sym is) (was_full k some)))))
            (λ other. subst (λ (t : ℕ). FullAt after t) (sym (get_or-set_other leaves k j new 0 other)) (so_far.full after (takes.grows after stand) stays was_full j at_least (omega (arith, other, below))))
            (cases_eq j k);
        indexes = λ b. omega (arith, so_far.indexes b, one.indexes b, refs-set b leaves k new in_list);
        in_turn = turn_more leaves k new some in_list so_far.in_turn one.in_turn;
      }

-- a sum in which zeros count nothing
sum_nonzero : (f : ℕ → ℕ) → f 0 ≡ 0 → (xs : List ℕ) → sum_by f (nonzero xs) ≡ sum_by f xs
sum_nonzero f none [] = refl
sum_nonzero f none (x ∷ xs) = by_test (x == 0) refl
    (sum_nonzero f none xs)
  where
    by_test : (t : Bool) → (x == 0) ≡ t → sum_by f (nonzero xs) ≡ sum_by f xs
        → sum_by f (if not t then x ∷ nonzero xs else nonzero xs) ≡ sum_by f (x ∷ xs)
    by_test true e rest =
        let zero_is : x ≡ 0 = grind (arith, nat_tests, e) in
        omega (arith, rest, sum_by-cons f x xs, ap f zero_is, none)
    by_test false e rest = omega (arith, rest, sum_by-cons f x xs, sum_by-cons f x (nonzero xs))

-- a level by the leaves that are there alone
pub level_like : (b : ℕ) (read : Blocks) (xs ys : List ℕ) → nonzero xs ≡ nonzero ys → refs b (level read xs) ≡ refs b (level read ys)
level_like b read xs ys e =
    let f : ℕ → ℕ = λ t. refs b (t ∷ index_at read t) in
    refs-level b read xs ∙ (sym (sum_nonzero f refl xs) ∙ (ap (λ (v : List ℕ). sum_by f v) e ∙ (sum_nonzero f refl ys ∙ sym (refs-level b read ys))))

-- a level whose leaves stay
pub level_stays : (read after : Blocks) (xs : List ℕ) → ((j : ℕ) → StaysAt read after (slice_index xs j)) → level after xs ≡ level read xs
level_stays read after xs stays = ap (λ (v : List ℕ). xs ++ v) (rest xs stays)
  where
    rest : (ys : List ℕ) → ((j : ℕ) → StaysAt read after (slice_index ys j)) → flat_map (index_at after) ys ≡ flat_map (index_at read) ys
    rest [] stays = refl
    rest (y ∷ ys) stays =
        let head = index_stays read after y (stays 0) in
        let tail = rest ys (λ j. stays (suc j)) in
        λ i. head i ++ tail i

-- by the pages and the free blocks alone
pub takes_like : {m n m' n' : Noted} → m'.pages ≡ m.pages → m'.free ≡ m.free → n'.pages ≡ n.pages → n'.free ≡ n.free → Takes m n → Takes m' n'
takes_like {m = m} {n = n} {m' = m'} {n' = n'} em mf en nf takes = record {
  in_order = ap (λ (ps : List Page). page_blocks ps ++ n'.free) en
      ∙ (ap (λ (xs : List ℕ). page_blocks n.pages ++ xs) nf ∙ (takes.in_order ∙ (ap (λ (ps : List Page). page_blocks ps ++ m.free) (sym em) ∙ ap (λ (xs : List ℕ). page_blocks m'.pages ++ xs) (sym mf))));
  grows = λ read stand. stand_same m' m read (sym em) (takes.grows read (stand_same n n' read en stand));
}

pub takes_none : (m n : Noted) → n.pages ≡ m.pages → n.free ≡ m.free → Takes m n
takes_none m n pages free = record {
  in_order = ap (λ (ps : List Page). page_blocks ps ++ n.free) pages ∙ ap (λ (xs : List ℕ). page_blocks m.pages ++ xs) free;
  grows = λ read stand. stand_same m n read pages stand;
}
