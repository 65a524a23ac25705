-- What is kept beside the slots, after an entry is put and after one is taken away.
use Rattle.std.proofs.Common.{◌≡◌, ◌<◌, ◌≤◌, ◌⊎◌, inl, inr, ⊎_elim, ℕ, zero, suc, ◌+◌, ◌-◌, ◌∙◌, true, false, List, [], ◌∷◌, ◌++◌, length, take, refl, sym, ap, subst, arith, length-set}
use Rattle.std.specs.Prelude.{slice_index, slice_set}
use Rattle.std.specs.List.{insert, remove}
use Rattle.std.specs.declared.cmp.Ordering.TheVariants.{Less, Greater}
use Rattle.std.proofs.lemmas.Bool.{cases_lt, cases_eq, cases_Bool}
use Rattle.std.proofs.lemmas.List.{drop_all, append-nil}
use Rattle.block_format.specs.Slot.{SlotFits}
use Rattle.block_format.specs.declared.slot.Slot.{Slot}
use Rattle.block_format.specs.declared.slot.Slot.TheVariants.{Unused, Entry}
use Rattle.dir_slots.specs.Slots.{IsDirectory, HasNamesOnce, slot_at, is_used, name_of, first_unused, with_slot}
use Rattle.dir_slots.specs.Index.{IsSearchable, IsGap, IsAbsent, IsOrder, IsOrderUpTo, IsEntryBelow, IsNamedBefore, IsHoles, IsHoleFrom, IsAbove, IsKept}
use Rattle.dir_slots.proofs.IndexLaws.{index_joined, index_left}
use Rattle.dir_slots.proofs.NameOrder.{order_of, not_before_itself, turned}
use Rattle.dir_slots.proofs.SlotLaws.{Differs, set_differs, with_differs, length-with, used_within, unused_from_width, not_both, first_unused_is, first_unused-at_most, first_unused-unused}

pub used_is : (slots : List Slot) (i j : ℕ) → i ≡ j → is_used (slot_at slots j) ≡ true → is_used (slot_at slots i) ≡ true
used_is slots i j e used = subst (λ (k : ℕ). is_used (slot_at slots k) ≡ true) (sym e) used

pub searchable : (n : ℕ) (slots : List Slot) (order : List ℕ) → IsOrderUpTo n slots order → IsSearchable slots order
searchable n slots order is = record { within = λ k lt. used_within slots _ (is.members k lt).1; sorted = is.sorted }

-- ---- each name once

-- the names of two entries in the order, the one before the other
apart_names : (slots : List Slot) (i j : ℕ) → IsNamedBefore slots i j → name_of (slot_at slots i) ≡ name_of (slot_at slots j) → ⊥
apart_names slots i j less e = not_before_itself (name_of (slot_at slots j)) (subst (λ (name : List ℕ). order_of name (name_of (slot_at slots j)) ≡ Less) e less)

two_places : (slots : List Slot) (order : List ℕ) (j k a b : ℕ) → IsSearchable slots order → j < k → k < length order → slice_index order j ≡ a → slice_index order k ≡ b
    → name_of (slot_at slots a) ≡ name_of (slot_at slots b) → ⊥
two_places slots order j k a b is lt within ja kb e =
    apart_names slots (slice_index order j) (slice_index order k) (is.sorted j k lt within)
    (ap (λ (i : ℕ). name_of (slot_at slots i)) ja ∙ (e ∙ sym (ap (λ (i : ℕ). name_of (slot_at slots i)) kb)))

pub names_once : (slots : List Slot) (order : List ℕ) → IsOrder slots order → HasNamesOnce slots
names_once slots order is i j ui uj e =
    let a = is.all i (used_within slots i ui, ui) in
    let b = is.all j (used_within slots j uj, uj) in
    let able = searchable (length slots) slots order is in
    ⊎_elim (λ (lt : a.0 < b.0). absurd (two_places slots order a.0 b.0 i j able lt b.1 a.2 b.2 e))
    (λ (ge : b.0 ≤ a.0).
    ⊎_elim (λ (gt : b.0 < a.0). absurd (two_places slots order b.0 a.0 j i able gt a.1 b.2 a.2 (sym e)))
    (λ (le : a.0 ≤ b.0). let same : a.0 ≡ b.0 = omega arith in sym a.2 ∙ (ap (slice_index order) same ∙ b.2))
    (cases_lt b.0 a.0))
    (cases_lt a.0 b.0)

pub kept_directory : (slots : List Slot) (order holes : List ℕ) → IsKept slots order holes → IsDirectory slots
kept_directory slots order holes is = record { width = is.width; fits = is.fits; names = names_once slots order is.entries }

gap_at : (slots : List Slot) (order name : List ℕ) (place k : ℕ) → IsGap slots order name place → k < length order → name_of (slot_at slots (slice_index order k)) ≡ name → ⊥
gap_at slots order name place k gap within e =
    ⊎_elim (λ (lt : k < place). not_before_itself name (subst (λ (other : List ℕ). order_of other name ≡ Less) e (gap.before k lt)))
    (λ (ge : place ≤ k). not_before_itself name (turned name name (subst (λ (other : List ℕ). order_of other name ≡ Greater) e (gap.behind k ge within))))
    (cases_lt k place)

-- a name that would stand in a gap has no entry
pub gap_absent : (slots : List Slot) (order name : List ℕ) (place : ℕ) → IsOrder slots order → IsGap slots order name place → IsAbsent slots name
gap_absent slots order name place is gap i used e =
    let a = is.all i (used_within slots i used, used) in
    gap_at slots order name place a.0 gap a.1 (ap (λ (k : ℕ). name_of (slot_at slots k)) a.2 ∙ e)

-- ---- an entry is put

both : (R : Slot → Slot → Type 0) (a b c d : Slot) → a ≡ c → b ≡ d → R c d → R a b
both R a b c d e f r = subst (λ (x : Slot). R x b) (sym e) (subst (λ (y : Slot). R c y) (sym f) r)

abbrev IsBefore : Slot → Slot → Type 0
IsBefore a b = order_of (name_of a) (name_of b) ≡ Less

module _ (slots new : List Slot) (order : List ℕ) (i place number : ℕ) (name : List ℕ) (is : IsOrder slots order) (unused : is_used (slot_at slots i) ≡ false) (differs : Differs slots new i (Entry number name)) (gap : IsGap slots order name place) where
  not_it : (j : ℕ) → is_used (slot_at slots j) ≡ true → j ≡ i → ⊥
  not_it j used e = not_both (is_used (slot_at slots i)) (used_is slots i j (sym e) used) unused

  member : (k : ℕ) → k < length order → slot_at new (slice_index order k) ≡ slot_at slots (slice_index order k)
  member k lt = differs.others _ (not_it _ (is.members k lt).1)

  pub order_put : IsOrder new (insert order place i)
  order_put = index_joined (IsEntryBelow (length slots) slots) (IsEntryBelow (length new) new) (IsNamedBefore slots) (IsNamedBefore new) order place i is (record {
    within = gap.within;
    new = (differs.within, ap is_used differs.here);
    kept = λ j has. (omega (arith, has.0, differs.wide), ap is_used (differs.others j (not_it j has.1)) ∙ has.1);
    only = λ j has. ⊎_elim (λ (e : j ≡ i). inl e)
        (λ (ne : j ≡ i → ⊥). let used = sym (ap is_used (differs.others j ne)) ∙ has.1 in inr (used_within slots j used, used)) (cases_eq j i);
    order = λ j k hj hk less. both IsBefore _ _ _ _ (differs.others j (not_it j hj.1)) (differs.others k (not_it k hk.1)) less;
    before = λ k lt. both IsBefore _ _ _ _ (member k (omega (arith, lt, gap.within))) differs.here (gap.before k lt);
    behind = λ k le lt. both IsBefore _ _ _ _ differs.here (member k lt) (turned _ name (gap.behind k le lt));
  })

pub fits_put : (slots new : List Slot) (i : ℕ) (slot : Slot) → Differs slots new i slot → SlotFits slot → ((j : ℕ) → SlotFits (slot_at slots j)) → (j : ℕ) → SlotFits (slot_at new j)
fits_put slots new i slot differs fits all j =
    ⊎_elim (λ (e : j ≡ i). subst SlotFits (sym (ap (slot_at new) e ∙ differs.here)) fits)
    (λ (ne : j ≡ i → ⊥). subst SlotFits (sym (differs.others j ne)) (all j))
    (cases_eq j i)

-- what isn't used in the new slots wasn't in the old ones
hole_before : (slots new : List Slot) (i j number : ℕ) (name : List ℕ) → Differs slots new i (Entry number name) → is_used (slot_at new j) ≡ false → j ≡ i → ⊥
hole_before slots new i j number name differs unused e = not_both (is_used (slot_at new i)) (ap is_used differs.here) (subst (λ (k : ℕ). is_used (slot_at new k) ≡ false) e unused)

-- the last hole is filled
pub holes_filled : (slots new : List Slot) (holes : List ℕ) (i number p : ℕ) (name : List ℕ) → IsHoles slots holes → Differs slots new i (Entry number name) → length new ≡ length slots
    → p < length holes → slice_index holes p ≡ i → IsHoles new (remove holes p)
holes_filled slots new holes i number p name is differs wide within it =
    index_left (IsHoleFrom 0 slots) (IsHoleFrom 0 new) IsAbove IsAbove holes p i is (record {
      within = within;
      it = it;
      gone = λ hole. hole_before slots new i i number name differs hole.2 refl;
      kept = λ j ne hole. (hole.0, omega (arith, hole.1), ap is_used (differs.others j ne) ∙ hole.2);
      only = λ j hole. (hole.0, omega (arith, hole.1), sym (ap is_used (differs.others j (hole_before slots new i j number name differs hole.2))) ∙ hole.2);
      order = λ j k hj hk above. above;
      apart = λ j above. omega arith;
    })

-- an entry behind all slots leaves the holes
pub holes_stay : (slots new : List Slot) (holes : List ℕ) (number : ℕ) (name : List ℕ) → IsHoles slots holes → Differs slots new (length slots) (Entry number name) → length new ≡ length slots + 1
    → IsHoles new holes
holes_stay slots new holes number name is differs wide = record {
  members = λ k lt. let hole = is.members k lt in (hole.0, omega (arith, hole.1), ap is_used (differs.others _ (omega (arith, hole.1))) ∙ hole.2);
  sorted = is.sorted;
  all = λ j hole.
      let ne = hole_before slots new (length slots) j number name differs hole.2 in
      is.all j (hole.0, omega (arith, hole.1, ne), sym (ap is_used (differs.others j ne)) ∙ hole.2);
}

-- ---- an entry is taken away

module _ (slots new : List Slot) (order : List ℕ) (i p : ℕ) (is : IsOrder slots order) (differs : Differs slots new i Unused) (wide : length new ≡ length slots) where
  not_now : (j : ℕ) → is_used (slot_at new j) ≡ true → j ≡ i → ⊥
  not_now j used e = not_both (is_used (slot_at new i)) (used_is new i j (sym e) used) (ap is_used differs.here)

  pub order_taken : p < length order → slice_index order p ≡ i → IsOrder new (remove order p)
  order_taken within it = index_left (IsEntryBelow (length slots) slots) (IsEntryBelow (length new) new) (IsNamedBefore slots) (IsNamedBefore new) order p i is (record {
    within = within;
    it = it;
    gone = λ has. not_now i has.1 refl;
    kept = λ j ne has. (omega (arith, has.0), ap is_used (differs.others j ne) ∙ has.1);
    only = λ j has. (omega (arith, has.0), sym (ap is_used (differs.others j (not_now j has.1))) ∙ has.1);
    order = λ j k hj hk less. both IsBefore _ _ _ _ (differs.others j (not_now j hj.1)) (differs.others k (not_now k hk.1)) less;
    apart = λ j less. not_before_itself (name_of (slot_at slots j)) less;
  })

pub holes_more : (slots new : List Slot) (holes : List ℕ) (i place : ℕ) → IsHoles slots holes → Differs slots new i Unused → length new ≡ length slots → is_used (slot_at slots i) ≡ true
    → place ≤ length holes → ((k : ℕ) → k < place → i < slice_index holes k) → ((k : ℕ) → place ≤ k → k < length holes → slice_index holes k ≤ i)
    → IsHoles new (insert holes place i)
holes_more slots new holes i place is differs wide used within above below =
    let other : (j : ℕ) → is_used (slot_at slots j) ≡ false → j ≡ i → ⊥ = λ j unused e. not_both (is_used (slot_at slots j)) (used_is slots j i e used) unused in
    index_joined (IsHoleFrom 0 slots) (IsHoleFrom 0 new) IsAbove IsAbove holes place i is (record {
      within = within;
      new = (omega arith, differs.within, ap is_used differs.here);
      kept = λ j hole. (hole.0, omega (arith, hole.1), ap is_used (differs.others j (other j hole.2)) ∙ hole.2);
      only = λ j hole. ⊎_elim (λ (e : j ≡ i). inl e) (λ (ne : j ≡ i → ⊥). inr (hole.0, omega (arith, hole.1), sym (ap is_used (differs.others j ne)) ∙ hole.2)) (cases_eq j i);
      order = λ j k hj hk above. above;
      before = above;
      behind = λ k le lt. let ne = other _ (is.members k lt).2 in omega (arith, below k le lt, ne);
    })

-- ---- how many holes there are, and which is the least unused slot

deep : (slots : List Slot) (holes : List ℕ) → IsHoles slots holes → (k : ℕ) → k < length holes → slice_index holes k + k < length slots
deep slots holes is zero lt = omega (arith, (is.members 0 lt).1)
deep slots holes is (suc k) lt = omega (arith, deep slots holes is k (omega arith), is.sorted k (suc k) (omega arith) lt)

pub few_holes : (slots : List Slot) (holes : List ℕ) → IsHoles slots holes → length holes ≤ length slots
few_holes slots holes is =
    ⊎_elim (λ (some : 0 < length holes). omega (arith, deep slots holes is (length holes - 1) (omega arith))) (λ (none : length holes ≤ 0). omega arith) (cases_lt 0 (length holes))

-- where all holes are from here on, each slot before is used
used_before : (slots : List Slot) (holes : List ℕ) (i : ℕ) → IsHoles slots holes → i ≤ length slots → ((k : ℕ) → k < length holes → i ≤ slice_index holes k) → (j : ℕ) → j < i → is_used (slot_at slots j) ≡ true
used_before slots holes i is le least j lt =
    ⊎_elim (λ (yes : is_used (slot_at slots j) ≡ true). yes)
    (λ (no : is_used (slot_at slots j) ≡ false). let hole = is.all j (omega arith, omega arith, no) in absurd (omega (arith, least hole.0 hole.1, hole.2)))
    (cases_Bool (is_used (slot_at slots j)))

pub least_hole : (slots : List Slot) (holes : List ℕ) (i : ℕ) → IsHoles slots holes → 0 < length holes → slice_index holes (length holes - 1) ≡ i → first_unused slots ≡ i
least_hole slots holes i is some it =
    let hole = is.members (length holes - 1) (omega arith) in
    let within : i < length slots = omega (arith, hole.1, it) in
    let least : (k : ℕ) → k < length holes → i ≤ slice_index holes k = λ k lt.
    ⊎_elim (λ (before : k < length holes - 1). omega (arith, is.sorted k (length holes - 1) before (omega arith), it))
    (λ (last : length holes - 1 ≤ k). let same : k ≡ length holes - 1 = omega arith in omega (arith, ap (slice_index holes) same, it))
    (cases_lt k (length holes - 1)) in
    first_unused_is slots i (omega arith) (used_before slots holes i is (omega arith) least) (subst (λ (k : ℕ). is_used (slot_at slots k) ≡ false) it hole.2)

pub no_hole : (slots : List Slot) (holes : List ℕ) → IsHoles slots holes → length holes ≡ 0 → first_unused slots ≡ length slots
no_hole slots holes is none =
    first_unused_is slots (length slots) (omega arith) (used_before slots holes (length slots) is (omega arith) (λ k lt. absurd (omega arith)))
    (ap is_used (unused_from_width slots (length slots) (omega arith)))

-- ---- all that is kept

last_gone : (xs : List ℕ) → 0 < length xs → remove xs (length xs - 1) ≡ take (length xs - 1) xs
last_gone xs some = ap (λ (rest : List ℕ). take (length xs - 1) xs ++ rest) (drop_all (suc (length xs - 1)) xs (omega arith)) ∙ append-nil (take (length xs - 1) xs)

none_gone : (xs : List ℕ) → length xs ≡ 0 → xs ≡ take (length xs - 1) xs
none_gone [] none = refl
none_gone (x ∷ xs) none = absurd (omega arith)

-- the holes when the least unused slot has got an entry
holes_put : (slots new : List Slot) (holes : List ℕ) (i number : ℕ) (name : List ℕ) → IsHoles slots holes → first_unused slots ≡ i → is_used (slot_at slots i) ≡ false → Differs slots new i (Entry number name)
    → ((i < length slots) × (length new ≡ length slots)) ⊎ ((i ≡ length slots) × (length new ≡ length slots + 1)) → IsHoles new (take (length holes - 1) holes)
holes_put slots new holes i number name is least unused differs (inl (within, wide)) =
    let hole = is.all i (omega arith, within, unused) in
    let some : 0 < length holes = omega (arith, hole.1) in
    let last : slice_index holes (length holes - 1) ≡ i = sym (least_hole slots holes _ is some refl) ∙ least in
    subst (λ (items : List ℕ). IsHoles new items) (last_gone holes some) (holes_filled slots new holes i number (length holes - 1) name is differs wide (omega arith) last)
holes_put slots new holes i number name is least unused differs (inr (end, wide)) =
    let none : length holes ≡ 0 = ⊎_elim
    (λ (some : 0 < length holes). absurd (omega (arith, least_hole slots holes _ is some refl, (is.members (length holes - 1) (omega arith)).1, least, end)))
    (λ (few : length holes ≤ 0). omega arith) (cases_lt 0 (length holes)) in
    subst (λ (items : List ℕ). IsHoles new items) (none_gone holes none)
    (holes_stay slots new holes number name is (subst (λ (k : ℕ). Differs slots new k (Entry number name)) end differs) wide)

pub kept_put : (slots : List Slot) (order holes : List ℕ) (i place number : ℕ) (name : List ℕ) → IsKept slots order holes → first_unused slots ≡ i → i < 65534 → IsGap slots order name place → SlotFits (Entry number name)
    → IsKept (with_slot slots i (Entry number name)) (insert order place i) (take (length holes - 1) holes)
kept_put slots order holes i place number name is least room gap fits =
    let le : i ≤ length slots = omega (arith, first_unused-at_most slots, least) in
    let new = with_slot slots i (Entry number name) in
    let differs = with_differs slots i (Entry number name) le in
    let unused : is_used (slot_at slots i) ≡ false = subst (λ (k : ℕ). is_used (slot_at slots k) ≡ false) least (first_unused-unused slots) in
    let wide = length-with slots i (Entry number name) le in
    record {
      width = ⊎_elim (λ (same : (i < length slots) × (length new ≡ length slots)). omega (arith, same.1, is.width))
          (λ (more : (i ≡ length slots) × (length new ≡ length slots + 1)). omega (arith, more.0, more.1)) wide;
      fits = fits_put slots new i (Entry number name) differs fits is.fits;
      entries = order_put slots new order i place number name is.entries unused differs gap;
      unused = holes_put slots new holes i number name is.unused least unused differs wide;
    }

pub kept_taken : (slots : List Slot) (order holes : List ℕ) (i p place number : ℕ) (name : List ℕ) → IsKept slots order holes → slot_at slots i ≡ Entry number name → i < length slots
    → p < length order → slice_index order p ≡ i → place ≤ length holes → ((k : ℕ) → k < place → i < slice_index holes k) → ((k : ℕ) → place ≤ k → k < length holes → slice_index holes k ≤ i)
    → IsKept (slice_set slots i Unused) (remove order p) (insert holes place i)
kept_taken slots order holes i p place number name is there within pl it hl above below =
    let new = slice_set slots i Unused in
    let wide : length new ≡ length slots = length-set slots i Unused in
    let differs = set_differs slots i Unused within in
    record {
      width = omega (arith, wide, is.width);
      fits = fits_put slots new i Unused differs tt is.fits;
      entries = order_taken slots new order i p is.entries differs wide pl it;
      unused = holes_more slots new holes i place is.unused differs wide (ap is_used there) hl above below;
    }

-- ---- an entry gets another name

-- without an entry, a name that was absent is absent
pub absent_taken : (slots new : List Slot) (i : ℕ) (name : List ℕ) → Differs slots new i Unused → IsAbsent slots name → IsAbsent new name
absent_taken slots new i name differs absent j used e =
    ⊎_elim (λ (is : j ≡ i). not_both (is_used (slot_at new j)) used (ap (λ (k : ℕ). is_used (slot_at new k)) is ∙ ap is_used differs.here))
    (λ (ne : j ≡ i → ⊥). absent j (sym (ap is_used (differs.others j ne)) ∙ used) (sym (ap name_of (differs.others j ne)) ∙ e)) (cases_eq j i)

pub order_left : (slots : List Slot) (order holes : List ℕ) (i p : ℕ) → IsKept slots order holes → i < length slots → p < length order → slice_index order p ≡ i → IsOrder (slice_set slots i Unused) (remove order p)
order_left slots order holes i p is lt within it = order_taken slots (slice_set slots i Unused) order i p is.entries (set_differs slots i Unused lt) (length-set slots i Unused) within it

-- the holes stay where an entry takes the place of another
holes_same : (slots new : List Slot) (holes : List ℕ) (i : ℕ) → IsHoles slots holes → is_used (slot_at slots i) ≡ true → is_used (slot_at new i) ≡ true → ((j : ℕ) → (j ≡ i → ⊥) → slot_at new j ≡ slot_at slots j) → length new ≡ length slots
    → IsHoles new holes
holes_same slots new holes i is used now others wide = record {
  members = λ k lt.
      let hole = is.members k lt in
      let ne : slice_index holes k ≡ i → ⊥ = λ e. not_both (is_used (slot_at slots i)) used (subst (λ (j : ℕ). is_used (slot_at slots j) ≡ false) e hole.2) in
      (hole.0, omega (arith, hole.1), ap is_used (others (slice_index holes k) ne) ∙ hole.2);
  sorted = is.sorted;
  all = λ j hole.
      let ne : j ≡ i → ⊥ = λ e. not_both (is_used (slot_at new i)) now (subst (λ (k : ℕ). is_used (slot_at new k) ≡ false) e hole.2) in
      is.all j (hole.0, omega (arith, hole.1), sym (ap is_used (others j ne)) ∙ hole.2);
}

module _ (slots : List Slot) (order holes : List ℕ) (i p place number : ℕ) (other name : List ℕ) (is : IsKept slots order holes) (there : slot_at slots i ≡ Entry number other) (lt : i < length slots)
    (within : p < length order) (it : slice_index order p ≡ i) (gap : IsGap (slice_set slots i Unused) (remove order p) name place) (fits : SlotFits (Entry number name)) where
  taken_differs : Differs slots (slice_set slots i Unused) i Unused
  taken_differs = set_differs slots i Unused lt

  new_differs : Differs (slice_set slots i Unused) (slice_set (slice_set slots i Unused) i (Entry number name)) i (Entry number name)
  new_differs = set_differs (slice_set slots i Unused) i (Entry number name) (omega (arith, length-set slots i Unused))

  pub replaced_wide : length (slice_set (slice_set slots i Unused) i (Entry number name)) ≡ length slots
  replaced_wide = length-set (slice_set slots i Unused) i (Entry number name) ∙ length-set slots i Unused

  pub kept_replaced : IsKept (slice_set (slice_set slots i Unused) i (Entry number name)) (insert (remove order p) place i) holes
  kept_replaced = record {
    width = omega (arith, replaced_wide, is.width);
    fits = fits_put (slice_set slots i Unused) _ i (Entry number name) new_differs fits (fits_put slots (slice_set slots i Unused) i Unused taken_differs tt is.fits);
    entries = order_put (slice_set slots i Unused) _ (remove order p) i place number name (order_left slots order holes i p is lt within it) (ap is_used taken_differs.here) new_differs gap;
    unused = holes_same slots _ holes i is.unused (ap is_used there) (ap is_used new_differs.here) (λ j ne. new_differs.others j ne ∙ taken_differs.others j ne) replaced_wide;
  }
