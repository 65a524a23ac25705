-- A tree that is rewritten, from its parts.
use Rattle.std.proofs.Common.{◌≡◌, ◌≢◌, ◌<◌, ◌≤◌, ◌^◌, ℕ, zero, suc, ◌+◌, ◌*◌, ◌/◌, ◌%◌, ◌==◌, List, [], ◌∷◌, ◌++◌, length, set, refl, ap, sym, ◌∙◌, subst, arith, ⊎_elim}
use Rattle.std.specs.Prelude.{slice_index, if◌then◌else◌, nat_eq, not, Bool, true, false, All, IsTrue}
use Rattle.std.proofs.lemmas.Bool.{cases_eq, cases_lt, eqb-true}
use Rattle.std.proofs.lemmas.Bool.Decides.{nat_tests}
use Rattle.std.proofs.lemmas.List.{get_or-set_same, get_or-set_other, get_or_past}
use Rattle.std.proofs.lemmas.List.Sums.{sum_by-set}
use Rattle.vol_numbers.specs.declared.runs.Change.{Change}
use Rattle.block_tree.specs.Tree.{Blocks, index_at, leaf_below, nonzero}
use Rattle.block_tree.specs.Parts.{leaf_of, all_pointers}
use Rattle.block_tree.specs.Root.{block_at, leaf_at, tree_indexes}
use Rattle.place_words.specs.Different.{times}
use Rattle.block_tree.specs.Notes.{Noted, Stand, Settles, Takes, refs, paged}
use Rattle.block_tree.specs.Edit.{cut_at, changed_at, IsLeafBefore, IsLeafAfter, IsEmptied, KeepsLeaf}
use Rattle.block_tree.specs.Renewal.{IsRenewed}
use Rattle.block_tree.specs.Leaf.{StaysAt, FullAt, IsFirstRewritten, AreLeavesRewritten, level}
use Rattle.block_tree.specs.Opened.{Opens, PartsStay, PartsFull, FitsHeight, ChangesFit, HasLeaves, IsTreeRewritten}
use Rattle.block_tree.specs.declared.root.TreeRoot.{TreeRoot}
use Rattle.block_tree.proofs.EntryLaws.{same_list, some_nonzero}
use Rattle.block_tree.proofs.NoteLaws.{refs-set, refs-append, times-append, settles_beside, settles_none}
use Rattle.block_tree.specs.Order.{InTurn}
use Rattle.block_tree.proofs.OrderLaws.{turn_none, turn_then, turn_like, turn_pages, turn_all, top_last}
use Rattle.block_tree.proofs.LeafLaws.{settles_then, refs-level, level_like, zeros_lead_nowhere, nonzero-cons}
use Rattle.block_tree.proofs.OpeningLaws.{no_leaf, block_at_leaf}

-- a place at or past all changes
pub changed_past : (limit : ℕ) (changes : List Change) (old : ℕ → ℕ) (p : ℕ) → All (λ (c : Change). c.place < limit) changes → limit ≤ p → changed_at changes old p ≡ old p
changed_past limit [] old p all le = refl
changed_past limit (c ∷ cs) old p all le =
    changed_past limit cs (λ q. if q == c.place then c.block else old q) p (λ k d lt. all (suc k) d (omega arith)) le
    ∙ by_test (p == c.place) refl (all 0 c (omega arith))
  where
    by_test : (t : Bool) → (p == c.place) ≡ t → c.place < limit → (if t then c.block else old p) ≡ old p
    by_test true e small = absurd (let same : p ≡ c.place = grind (arith, nat_tests, e) in omega (arith, same, small, le))
    by_test false e small = refl

-- a place past the height's has no block
pub emptied_past : (read : Blocks) (root : TreeRoot) (changes : List Change) (cut height p : ℕ) → FitsHeight read root cut height → ChangesFit height changes → 1024 ^ height ≤ p → p < 1048576
    → changed_at changes (cut_at cut (block_at read root)) p ≡ 0
emptied_past read root changes cut height p fits all le lt = changed_past (1024 ^ height) changes (cut_at cut (block_at read root)) p all le ∙ fits.kept p le lt

pub emptied_leaf : (read : Blocks) (root : TreeRoot) (changes : List Change) (cut height j : ℕ) → FitsHeight read root cut height → ChangesFit height changes → 1024 ^ height ≤ 1024
    → 1 ≤ j → j < 1024 → IsEmptied changes cut (block_at read root) j
emptied_leaf read root changes cut height j fits all low some lt i small = emptied_past read root changes cut height (1024 * j + i) fits all (omega (arith, low, some)) (omega (arith, lt, small))

pub low_power : (height : ℕ) → height < 2 → 1024 ^ height ≤ 1024
low_power zero lt = omega arith
low_power (suc zero) lt = omega arith
low_power (suc (suc height)) lt = absurd (omega arith)

-- what becomes of the pointers at leaf 0
pub first_settles : {read : Blocks} {root : TreeRoot} {top : ℕ} {was leaves first : List ℕ} {m n : Noted} (new : ℕ) (data_ : List ℕ) → Opens read root top was leaves first → 0 < length leaves
    → (after : Blocks) → PartsStay read root after → Settles (slice_index leaves 0 ∷ first) (new ∷ data_) m n
    → (b : ℕ) → refs b (all_pointers read root) + times b n.added + times b m.dropped + refs b (index_at after new)
    ≡ refs b (top ∷ []) + refs b (level after (set leaves 0 new)) + refs b data_ + times b m.added + times b n.dropped
first_settles {leaves = leaves} {first = first} new data_ opened long after stays s b =
    omega (
      arith,
      opened.pointers after stays b,
      refs-level b after leaves,
      refs-level b after (set leaves 0 new),
      sum_by-set (λ t. refs b (t ∷ index_at after t)) leaves 0 new 0 long,
      refs-append b (slice_index leaves 0 ∷ []) first,
      refs-append b (new ∷ []) data_,
      refs-append b (slice_index leaves 0 ∷ []) (index_at after (slice_index leaves 0)),
      refs-append b (new ∷ []) (index_at after new),
      s.each b,
    )

module _ {read : Blocks} {root : TreeRoot} {changes : List Change} {cut top : ℕ} {was leaves first : List ℕ} (opened : Opens read root top was leaves first) (long : length leaves ≡ 1024)
    (new : ℕ) {n o : Noted} (takes : Takes n o) (over : Bool) (end : ℕ) (rewritten : List ℕ)
    (rest : AreLeavesRewritten read changes cut over end (set leaves 0 new) rewritten n o)
    (all : end ≢ 1024 → (root.height < 2) × ((j : ℕ) → 1 ≤ j → j < 1024 → IsEmptied changes cut (block_at read root) j)) (at_most : end ≤ 1024) where
  abbrev old : ℕ → ℕ
  old = block_at read root

  other : (j : ℕ) → 1 ≤ j → slice_index (set leaves 0 new) j ≡ slice_index leaves j
  other j some = get_or-set_other leaves 0 j new 0 (λ e. omega (arith, e, some))

  rest_were : (j : ℕ) → 1 ≤ j → j < 1024 → IsLeafBefore old j (index_at read (slice_index (set leaves 0 new) j))
  rest_were j some lt = subst (λ (t : ℕ). IsLeafBefore old j (index_at read t)) (sym (other j some)) (opened.rest_places j some lt)

  rest_stay : (after : Blocks) → PartsStay read root after → (j : ℕ) → 1 ≤ j → StaysAt read after (slice_index (set leaves 0 new) j)
  rest_stay after stays j some = subst (λ (t : ℕ). StaysAt read after t) (sym (other j some)) (opened.stay after stays j)

  rest_full : PartsFull read root → (j : ℕ) → 1 ≤ j → FullAt read (slice_index (set leaves 0 new) j)
  rest_full full j some = subst (λ (t : ℕ). FullAt read t) (sym (other j some)) (opened.full full j)

  first_is : slice_index rewritten 0 ≡ new
  first_is = rest.first ∙ get_or-set_same leaves 0 new 0 (omega (arith, long))

  -- a leaf that isn't gone over is none
  past_end : (j : ℕ) → 1 ≤ j → end ≤ j → j < 1024 → slice_index rewritten j ≡ 0
  past_end j some le lt = rest.same j le ∙ (other j some ∙ opened.few (all (λ e. omega (arith, e, le, lt))).0 j some)

  places_at : {m : Noted} → IsFirstRewritten read changes cut (slice_index leaves 0) first new m n → (after : Blocks) → Stand o.pages after → PartsStay read root after → (j : ℕ) → j < 1024
      → IsLeafAfter changes cut old j (index_at after (slice_index rewritten j))
  places_at edited after stand stays zero lt =
      subst (λ (t : ℕ). IsLeafAfter changes cut old 0 (index_at after t)) (sym first_is)
      (edited.places after old (takes.grows after stand) (opened.stay after stays 0) opened.first_places)
  places_at edited after stand stays (suc j) lt = ⊎_elim
      (λ below. rest.places after old stand (rest_stay after stays) rest_were (suc j) (omega arith) below)
      (λ past i small. ap (λ (t : ℕ). slice_index (index_at after t) i) (past_end (suc j) (omega arith) past lt)
      ∙ sym ((all (λ e. omega (arith, e, past, lt))).1 (suc j) (omega arith) lt i small))
      (cases_lt (suc j) end)

  -- a leaf that is emptied is none
  pub none_at : IsTrue over → (j : ℕ) → 1 ≤ j → j < 1024 → IsEmptied changes cut old j → slice_index rewritten j ≡ 0
  none_at is j some lt emptied = ⊎_elim
      (λ below. rest.none is old rest_were j some below emptied)
      (λ past. past_end j some past lt)
      (cases_lt j end)

  full_at : {m : Noted} → IsFirstRewritten read changes cut (slice_index leaves 0) first new m n → (after : Blocks) → Stand o.pages after → PartsStay read root after → PartsFull read root → (j : ℕ) → FullAt after (slice_index rewritten j)
  full_at edited after stand stays full zero some = subst (λ (t : ℕ). FullAt after t) (sym first_is) (edited.full after (takes.grows after stand) (opened.stay after stays 0) (opened.full full 0)) some
  full_at edited after stand stays full (suc j) some = ⊎_elim
      (λ below. rest.full after stand (rest_stay after stays) (rest_full full) (suc j) (omega arith) below some)
      (λ past. ⊎_elim
      (λ small. absurd (omega (arith, some, past_end (suc j) (omega arith) past small)))
      (λ large. absurd (omega (arith, some, get_or_past rewritten (suc j) 0 (omega (arith, large, rest.long)))))
      (cases_lt (suc j) 1024))
      (cases_lt (suc j) end)

  kept_at : {m : Noted} → IsFirstRewritten read changes cut (slice_index leaves 0) first new m n → (j : ℕ) → j < 1024 → KeepsLeaf changes cut old j (leaf_at read root j) (slice_index rewritten j)
  kept_at edited zero lt =
      subst (λ (t : ℕ). KeepsLeaf changes cut old 0 (leaf_at read root 0) t) (sym first_is)
      (subst (λ (t : ℕ). KeepsLeaf changes cut old 0 t new) (opened.blocks 0 lt) (edited.kept old opened.first_places))
  kept_at edited (suc j) lt = ⊎_elim
      (λ below. subst (λ (t : ℕ). KeepsLeaf changes cut old (suc j) t (slice_index rewritten (suc j))) (other (suc j) (omega arith) ∙ opened.blocks (suc j) lt) (rest.kept old rest_were (suc j) (omega arith) below))
      (λ past same i small some there. rest.same (suc j) past ∙ (other (suc j) (omega arith) ∙ opened.blocks (suc j) lt))
      (cases_lt (suc j) end)

  pub leaves_done : {m : Noted} → IsFirstRewritten read changes cut (slice_index leaves 0) first new m n → HasLeaves read root changes cut over top was rewritten m o
  leaves_done {m = m} edited = record {
    kept = kept_at edited;
    tops = opened.tops;
    topped = opened.topped;
    places = places_at edited;
    settles = λ after stand stays.
        let s = edited.settles after (takes.grows after stand) (opened.stay after stays 0) in
        let start : Settles (all_pointers read root) (top ∷ level after (set leaves 0 new)) m n = record {
          each = λ b. omega (arith, first_settles new (index_at after new) opened (omega (arith, long)) after stays s b, refs-append b (top ∷ []) (level after (set leaves 0 new)));
        } in
        settles_then start (settles_beside (settles_none n (top ∷ [])) (rest.settles after stand (rest_stay after stays)));
    none = none_at;
    top_is = opened.top_is;
    full = full_at edited;
    indexes = λ b. omega (arith, opened.indexes b, edited.indexes b, refs-set b leaves 0 new (omega (arith, long)), rest.indexes b);
  }

  -- the pages are those of the leaf 0, and then of the others
  pub leaves_in_turn : {m : Noted} → InTurn (nonzero (new ∷ [])) m n → InTurn (nonzero rewritten) m o
  leaves_in_turn first_turn = turn_all rewritten end new (omega (arith, rest.long)) first_is first_turn rest.in_turn

  -- where the leaf 0 gives way, the pages of before are at most old index blocks and pages
  pub block_indexes : new ≡ 0 → (b : ℕ) → paged b n ≤ times b (tree_indexes read root) + paged b o
  block_indexes none b =
      omega (arith, opened.indexes b, refs-set b leaves 0 new (omega (arith, long)), rest.indexes b, ap (λ (x : ℕ). refs b (x ∷ [])) none)

  none_left : IsTrue over → new ≡ 0 → ((j : ℕ) → 1 ≤ j → j < 1024 → IsEmptied changes cut old j) → nonzero rewritten ≡ []
  none_left is zero_is emptied = zeros_lead_nowhere rewritten (λ j lt. all_zero j (omega (arith, lt, rest.long)))
    where
      all_zero : (j : ℕ) → j < 1024 → slice_index rewritten j ≡ 0
      all_zero zero lt = first_is ∙ zero_is
      all_zero (suc j) lt = none_at is (suc j) (omega arith) lt (emptied (suc j) (omega arith) lt)

  pub block_in_turn : IsTrue over → new ≡ 0 → ((j : ℕ) → 1 ≤ j → j < 1024 → IsEmptied changes cut old j) → InTurn [] n o
  block_in_turn is zero_is emptied = turn_like (none_left is zero_is emptied) (leaves_in_turn (turn_none (nonzero (new ∷ [])) n n refl))

  -- where the leaf 0 gives way to its pointers
  pub block_settles : {m p : Noted} (data_ : List ℕ) → IsTrue over → new ≡ 0 → Settles (slice_index leaves 0 ∷ first) data_ m n → ((j : ℕ) → 1 ≤ j → j < 1024 → IsEmptied changes cut old j)
      → Settles (top ∷ []) [] o p → (after : Blocks) → Stand o.pages after → PartsStay read root after → Settles (all_pointers read root) data_ m p
  block_settles {m = m} data_ is zero_is s emptied removed after stand stays =
      let begun : Settles (slice_index leaves 0 ∷ first) (new ∷ data_) m n = record { each = λ a. omega (arith, s.each a, refs-append a (new ∷ []) data_, ap (λ (t : ℕ). refs a (t ∷ [])) zero_is) } in
      record {
        each = λ b. omega (
          arith,
          first_settles new data_ opened (omega (arith, long)) after stays begun b,
          ap (λ (t : ℕ). refs b (index_at after t)) zero_is,
          (rest.settles after stand (rest_stay after stays)).each b,
          level_like b after rewritten [] (none_left is zero_is emptied),
          removed.each b,
        );
      }

-- ---- the tree

by_leaves : (after : Blocks) (new : TreeRoot) (at : ℕ → ℕ) → ((j : ℕ) → j < 1024 → (i : ℕ) → i < 1024 → slice_index (leaf_of after new j) i ≡ at (1024 * j + i)) → (p : ℕ) → p < 1048576
    → block_at after new p ≡ at p
by_leaves after new at each p lt =
    let e : 1024 * (p / 1024) + p % 1024 ≡ p = omega arith in
    sym (ap (λ (q : ℕ). block_at after new q) e) ∙ (block_at_leaf after new (p / 1024) (p % 1024) (omega arith) ∙ (each (p / 1024) (omega arith) (p % 1024) (omega arith) ∙ ap at e))

nonzero_first : (xs : List ℕ) → 0 < length xs → ((j : ℕ) → 1 ≤ j → j < length xs → slice_index xs j ≡ 0) → nonzero xs ≡ nonzero (slice_index xs 0 ∷ [])
nonzero_first [] some zeros = absurd (omega arith)
nonzero_first (x ∷ xs) some zeros = nonzero-cons x xs [] (zeros_lead_nowhere xs (λ i lt. zeros (suc i) (omega arith) (omega arith)))

pub settles_remove : (x : ℕ) (m : Noted) → Settles (x ∷ []) [] m (record m { dropped = m.dropped ++ nonzero (x ∷ []) })
settles_remove x m = record { each = λ b. omega (arith, times-append b m.dropped (nonzero (x ∷ []))) }

abbrev one_if : Bool → ℕ
one_if t = (if t then 1 else 0) + 0

-- a pointer leads to its block
own_ref : (b : ℕ) → 0 < b → refs b (b ∷ []) ≡ 1
own_ref b some =
    let there : (b == 0) ≡ false = grind (arith, nat_tests) in
    let same : nat_eq b b ≡ true = grind (arith, nat_tests) in
    ap (λ (t : Bool). times b (if not t then b ∷ [] else [])) there ∙ ap one_if same

-- and to no other
of_ref : (b ptr : ℕ) → 1 ≤ refs b (ptr ∷ []) → b ≡ ptr
of_ref b ptr some = by (ptr == 0) (nat_eq ptr b) refl some
  where
    by : (t u : Bool) → nat_eq ptr b ≡ u → 1 ≤ times b (if not t then ptr ∷ [] else []) → b ≡ ptr
    by true u is some = absurd (omega (arith, some))
    by false true is some = sym (eqb-true ptr b is)
    by false false is some = absurd (omega (arith, some, ap one_if is))

-- a top index that has a leaf is there
top_there : (read : Blocks) (root : TreeRoot) (k : ℕ) → root.height ≡ 2 → 0 < leaf_at read root k → 0 < root.ptr
top_there read root k two some = some_block root.ptr (subst (λ (h : ℕ). 0 < leaf_below read h root.ptr k) two some)
  where
    some_block : (p : ℕ) → 0 < slice_index (index_at read p) k → 0 < p
    some_block zero lt = absurd (omega (arith, lt))
    some_block (suc p) lt = omega arith

module _ {read : Blocks} {root : TreeRoot} {changes : List Change} {cut top : ℕ} {was leaves : List ℕ} {m n : Noted} {over : Bool} (has : HasLeaves read root changes cut over top was leaves m n) (turn : InTurn (nonzero leaves) m n) (long : length leaves ≡ 1024) where
  -- the leaf 0 alone
  pub tree_leaf : IsTrue over → FitsHeight read root cut 1 → ChangesFit 1 changes → IsTreeRewritten read root changes cut (record { height = 1; ptr = slice_index leaves 0 }) m (record n { dropped = n.dropped ++ nonzero (top ∷ []) })
  tree_leaf is fits all =
      let emptied : (j : ℕ) → 1 ≤ j → j < 1024 → IsEmptied changes cut (block_at read root) j = λ j some lt. emptied_leaf read root changes cut 1 j fits all (omega arith) some lt in
      record {
        kept = λ after stand stays high k lt. ⊎_elim
            (λ first. subst (λ (j : ℕ). KeepsLeaf changes cut (block_at read root) j (leaf_at read root j) (leaf_at after (record { height = 1; ptr = slice_index leaves 0 }) j)) (sym first) (has.kept 0 (omega arith)))
            (λ other same i small some there. absurd (omega (arith, some, same i small, emptied k (omega (arith, other)) lt i small)))
            (cases_eq k 0);
        kept_top = λ after stand stays two high. absurd (omega (arith, high));
        top = λ high. absurd (omega (arith, high));
        places = λ after stand stays. by_leaves after (record { height = 1; ptr = slice_index leaves 0 }) (changed_at changes (cut_at cut (block_at read root))) (λ j lt i small. ⊎_elim
            (λ first. subst (λ (k : ℕ). slice_index (leaf_of after (record { height = 1; ptr = slice_index leaves 0 }) k) i ≡ changed_at changes (cut_at cut (block_at read root)) (1024 * k + i)) (sym first)
            (has.places after (record { each = stand.each }) stays 0 (omega arith) i small))
            (λ other. ap (λ (v : List ℕ). slice_index v i) (sym (no_leaf (index_at after (slice_index leaves 0)) j (omega (arith, other)))) ∙ sym (emptied j (omega (arith, other)) lt i small))
            (cases_eq j 0));
        settles = λ after stand stays. record {
          each = λ b. omega (
            arith,
            (has.settles after (record { each = stand.each }) stays).each b,
            (settles_remove top n).each b,
            refs-append b (top ∷ []) (level after leaves),
            level_like b after leaves (slice_index leaves 0 ∷ []) (nonzero_first leaves (omega (arith, long)) (λ j some lt. has.none is j some (omega (arith, lt, long)) (emptied j some (omega (arith, lt, long))))),
            refs-append b (slice_index leaves 0 ∷ []) (index_at after (slice_index leaves 0)),
            refs-append b (slice_index leaves 0 ∷ []) (index_at after (slice_index leaves 0) ++ []),
            refs-append b (index_at after (slice_index leaves 0)) [],
          );
        };
        full = λ after stand stays full. has.full after (record { each = stand.each }) stays full 0;
        indexes = λ after stand stays b.
            omega (
              arith,
              has.indexes b,
              ap (λ (v : List ℕ). times b v) (nonzero_first leaves (omega (arith, long)) (λ j some lt. has.none is j some (omega (arith, lt, long)) (emptied j some (omega (arith, lt, long))))),
            );
        in_turn = λ after stand stays.
            turn_pages m n m (record n { dropped = n.dropped ++ nonzero (top ∷ []) }) refl refl
            (turn_like (nonzero_first leaves (omega (arith, long)) (λ j some lt. has.none is j some (omega (arith, lt, long)) (emptied j some (omega (arith, lt, long))))) turn);
      }

  -- the leaves under a top index
  pub tree_top : (new : ℕ) {o : Noted} → length was ≡ 1024 → IsRenewed top was leaves new n o → IsTreeRewritten read root changes cut (record { height = 2; ptr = new }) m o
  tree_top new as_long renewed = record {
    kept = λ after stand stays high k lt same i small some there. (renewed.entries after stand (has.top_is after stays)).each k ∙ has.kept k lt same i small some there;
    kept_top = λ after stand stays two high all k some.
        let tops = has.tops two in
        let there : 0 < top = omega (arith, tops.0, top_there read root k two some) in
        let same : leaves ≡ was = same_list leaves was (long ∙ sym as_long) (λ j lt. sym ((renewed.entries after stand (has.top_is after stays)).each j) ∙ (all j (omega (arith, lt, long)) ∙ sym (tops.1 j))) in
        let is : slice_index leaves k ≡ leaf_at read root k = ap (λ (v : List ℕ). slice_index v k) same ∙ tops.1 k in
        (renewed.kept there same (λ none. some_nonzero leaves k (omega (arith, some, is)) none)).0 ∙ tops.0;
    top = λ two some none.
        let same = of_ref new top (omega (arith, own_ref new some, renewed.indexes new, none)) in
        let old = has.topped (omega (arith, some, same)) in
        (old.0, same ∙ old.1);
    places = λ after stand stays. by_leaves after (record { height = 2; ptr = new }) (changed_at changes (cut_at cut (block_at read root))) (λ j lt i small.
        ap (λ (t : ℕ). slice_index (index_at after t) i) ((renewed.entries after stand (has.top_is after stays)).each j)
        ∙ has.places after (renewed.takes.grows after stand) stays j lt i small);
    settles = λ after stand stays. record {
      each = λ b. omega (
        arith,
        (has.settles after (renewed.takes.grows after stand) stays).each b,
        renewed.settles.each b,
        refs-append b (top ∷ []) (level after leaves),
        refs-append b (new ∷ []) (level after (index_at after new)),
        level_like b after (index_at after new) leaves (renewed.entries after stand (has.top_is after stays)).some,
      );
    };
    full = λ after stand stays full.
        let same = renewed.entries after stand (has.top_is after stays) in (
          λ some empty. omega (arith, some, renewed.none (sym same.some ∙ empty)),
          λ j. subst (λ (t : ℕ). FullAt after t) (sym (same.each j)) (has.full after (renewed.takes.grows after stand) stays full j),
        );
    indexes = λ after stand stays b.
        omega (
          arith,
          has.indexes b,
          renewed.indexes b,
          refs-append b (new ∷ []) (index_at after new),
          ap (λ (v : List ℕ). times b v) (renewed.entries after stand (has.top_is after stays)).some,
        );
    in_turn = λ after stand stays.
        turn_like (top_last leaves (index_at after new) new (sym (renewed.entries after stand (has.top_is after stays)).some)) (turn_then leaves (new ∷ []) turn renewed.in_turn);
  }

-- the block of place 0 alone
pub tree_block : {read : Blocks} {root : TreeRoot} {changes : List Change} {cut : ℕ} {ptrs : List ℕ} {m n : Noted} → length ptrs ≡ 1024 → IsLeafAfter changes cut (block_at read root) 0 ptrs
    → FitsHeight read root cut 0 → ChangesFit 0 changes → ((after : Blocks) → Stand n.pages after → PartsStay read root after → Settles (all_pointers read root) ptrs m n)
    → ((b : ℕ) → paged b m ≤ times b (tree_indexes read root) + paged b n) → InTurn [] m n → IsTreeRewritten read root changes cut (record { height = 0; ptr = slice_index ptrs 0 }) m n
tree_block {read = read} {root = root} {changes = changes} {cut = cut} {ptrs = ptrs} long places fits all settles indexes turn = record {
  kept = λ after stand stays high. absurd (omega (arith, high));
  kept_top = λ after stand stays two high. absurd (omega (arith, high));
  top = λ high. absurd (omega (arith, high));
  places = λ after stand stays. by_leaves after new at (λ j lt i small. ⊎_elim
      (λ first. subst (λ (k : ℕ). slice_index (leaf_of after new k) i ≡ at (1024 * k + i)) (sym first) (in_first i small))
      (λ other. ap (λ (v : List ℕ). slice_index v i) (sym (no_leaf (slice_index ptrs 0 ∷ []) j (omega (arith, other))))
      ∙ sym (emptied_leaf read root changes cut 0 j fits all (omega arith) (omega (arith, other)) lt i small))
      (cases_eq j 0));
  settles = λ after stand stays. record {
    each = λ b. omega (arith, (settles after stand stays).each b, ap (λ (v : List ℕ). times b v) (nonzero_first ptrs (omega (arith, long)) (λ j some lt. places j (omega (arith, lt, long)) ∙ past j some (omega (arith, lt, long)))));
  };
  full = λ after stand stays full. tt;
  indexes = λ after stand stays b. omega (arith, indexes b);
  in_turn = λ after stand stays. turn;
}
  where
    new : TreeRoot
    new = record { height = 0; ptr = slice_index ptrs 0 }

    at : ℕ → ℕ
    at = changed_at changes (cut_at cut (block_at read root))

    past : (j : ℕ) → 1 ≤ j → j < 1024 → changed_at changes (cut_at cut (block_at read root)) (1024 * 0 + j) ≡ 0
    past j some lt = emptied_past read root changes cut 0 (1024 * 0 + j) fits all (omega (arith, some)) (omega (arith, lt))

    in_first : (i : ℕ) → i < 1024 → slice_index (slice_index ptrs 0 ∷ []) i ≡ changed_at changes (cut_at cut (block_at read root)) (1024 * 0 + i)
    in_first zero small = places 0 (omega arith)
    in_first (suc i) small = sym (past (suc i) (omega arith) small)

-- the same tree, by other changes that come to the same
pub tree_like : {read : Blocks} {root : TreeRoot} {xs : List Change} (ys : List Change) {cut : ℕ} {new : TreeRoot} {m n : Noted} → ((old : ℕ → ℕ) (p : ℕ) → changed_at xs old p ≡ changed_at ys old p)
    → IsTreeRewritten read root xs cut new m n → IsTreeRewritten read root ys cut new m n
tree_like {read = read} {root = root} ys {cut = cut} like made = record {
  kept = λ after stand stays high k lt same. made.kept after stand stays high k lt (λ i small. like (cut_at cut (block_at read root)) (1024 * k + i) ∙ same i small);
  kept_top = made.kept_top;
  top = made.top;
  places = λ after stand stays p lt. made.places after stand stays p lt ∙ like (cut_at cut (block_at read root)) p;
  settles = made.settles;
  full = made.full;
  indexes = made.indexes;
  in_turn = made.in_turn;
}
