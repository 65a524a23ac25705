-- The nodes that an image and an overlay hold after a change was staged.
use Rattle.std.proofs.Common.{◌≡◌, ℕ, zero, suc, ◌+◌, ◌<◌, ◌≤◌, Bool, true, false, cond, List, [], ◌∷◌, length, Some, None, inl, inr, refl, sym, ap, subst, ◌∙◌, arith}
use Rattle.std.specs.Prelude.{◌==◌, ◌&&◌, ◌||◌, ◌⊎◌, nat_eq, nat_lt, nat_le, max, min, Option, take}
use Rattle.std.specs.FinMap.{find}
use Rattle.std.proofs.lemmas.Bool.{eqb-true}
use Rattle.std.proofs.lemmas.Bool.Decides.{nat_tests}
use Rattle.std.proofs.lemmas.List.{get_or_past}
use Rattle.vol_numbers.specs.declared.block.Block.{Block}
use Rattle.block_format.specs.declared.inode.Inode.{Inode}
use Rattle.block_format.specs.declared.inode.Inode.TheVariants as inode
use Rattle.block_format.specs.declared.slot.Slot.{Slot}
use Rattle.block_format.specs.declared.slot.Slot.TheVariants.{Unused}
use Rattle.dir_slots.specs.Slots.{slot_at}
use Rattle.dirty_store.specs.Entries.{Entries, cut_at}
use Rattle.dirty_store.specs.Laws.{changed_to}
use Rattle.dirty_store.specs.Overlay.{Overlay, node_of, least_cut, lower_cut, width_of, forgotten, whole, staged}
use Rattle.dirty_store.specs.declared.effect.Effect.{Effect}
use Rattle.dirty_store.proofs.SlotLaws.{own_node, other_node, changed_is, forgotten_is, other_slot}
use Rattle.image_model.specs.Seen.{seen}
use Rattle.image_model.specs.Slots.{slots_of as slots_seen}
use Rattle.node_table.specs.Held.{Nodes, held, slots_of}
use Rattle.node_table.specs.declared.change.Change.{Change}
use Rattle.node_table.specs.declared.change.Change.TheVariants.{Made, Sized, Removed, Renamed}
use Rattle.node_table.specs.declared.held.HeldNode.{HeldNode}
use Rattle.node_table.specs.declared.held.HeldNode.TheVariants.{File, Directory}
use Rattle.point_model.specs.Holding.{inode_before, inode_now, staged_or, width_in, slots_left, slot_or, slot_now, width_now, slots_from, slots_now, as_node, node_now, kind_of}
use Rattle.point_model.specs.NodeChanges.{IsTableOf, number_of, slots_in, CutsFor, IsEffectOfChange}
use Rattle.point_model.proofs.ChangeFollows.{NodeFollows, ChangeFollows, OwnFollows}
use Rattle.volume_model.specs.Done.{is_cut}
use Rattle.volume_model.specs.Places.{Spot, spot_cmp, spot_eq, has_spot}
use Rattle.volume_model.proofs.PlacesTold.{tie_is}

-- ---- slots by number

slots_long : (at : ℕ → Slot) (j n : ℕ) → length (slots_from at j n) ≡ n
unfolding slots_from
slots_long at j zero = refl
slots_long at j (suc n) = ap suc (slots_long at (j + 1) n)

slots_at : (at : ℕ → Slot) (j n k : ℕ) → k < n → slot_at (slots_from at j n) k ≡ at (j + k)
unfolding slots_from
slots_at at j zero k lt = absurd (omega (arith, lt))
slots_at at j (suc n) zero lt = let e : j ≡ j + zero = omega arith in ap at e
slots_at at j (suc n) (suc k) lt = let e : j + 1 + k ≡ j + suc k = omega arith in slots_at at (j + 1) n k (omega (arith, lt)) ∙ ap at e

-- a list that is read slot by slot
pub slots_are : (at : ℕ → Slot) (slots : List Slot) (j n : ℕ) → n ≡ length slots → ((k : ℕ) → k < length slots → at (j + k) ≡ slot_at slots k) → slots_from at j n ≡ slots
unfolding slots_from
slots_are at [] j zero long each = refl
slots_are at [] j (suc n) long each = absurd (omega (arith, long))
slots_are at (slot ∷ slots) j zero long each = absurd (omega (arith, long))
slots_are at (slot ∷ slots) j (suc n) long each =
    let e : j + zero ≡ j = omega arith in
    let first : at j ≡ slot = ap at (sym e) ∙ each 0 (omega arith) in
    let rest = slots_are at slots (j + 1) n (omega (arith, long)) (λ k lt. let f : j + 1 + k ≡ j + suc k = omega arith in ap at f ∙ each (suc k) (omega (arith, lt))) in
    λ i. first i ∷ rest i

-- ---- the width of staged slots

pub spot_parts : (a b : Spot) → spot_eq a b ≡ true → (a.0 ≡ b.0) × (a.1 ≡ b.1)
spot_parts a b is = by (nat_eq a.0 b.0) (nat_eq a.1 b.1) refl refl is
  where
    by : (t u : Bool) → nat_eq a.0 b.0 ≡ t → nat_eq a.1 b.1 ≡ u → (t && u) ≡ true → (a.0 ≡ b.0) × (a.1 ≡ b.1)
    by true true first second e = (eqb-true a.0 b.0 first, eqb-true a.1 b.1 second)
    by true false first second e = cc
    by false u first second e = cc

find_first : (e : Spot × Slot) (es : Entries Slot) (spot : Spot) → find spot_cmp spot (e ∷ es) ≡ cond (spot_eq e.0 spot) (Some e.1) (find spot_cmp spot es)
find_first e es spot = ap (λ (t : Bool). cond t (Some e.1) (find spot_cmp spot es)) (tie_is spot e.0)

width_more : (e : Spot × Slot) (es : Entries Slot) (n : ℕ) → width_of es n ≤ width_of (e ∷ es) n
width_more e es n = by (nat_eq e.0.0 n)
  where
    by : (t : Bool) → width_of es n ≤ cond t (max (e.0.1 + 1) (width_of es n)) (width_of es n)
    by true = most (e.0.1 + 1) (width_of es n)
      where
        most : (a b : ℕ) → b ≤ max a b
        most a b = omega arith
    by false = omega arith

-- a staged slot is below the width
pub found_below : (es : Entries Slot) (n k : ℕ) (slot : Slot) → find spot_cmp (n, k) es ≡ Some slot → k < width_of es n
found_below [] n k slot is = cc
found_below (e ∷ es) n k slot is = by (spot_eq e.0 (n, k)) refl (sym (find_first e es (n, k)) ∙ is) (found_below es n k slot)
  where
    by : (t : Bool) → spot_eq e.0 (n, k) ≡ t → cond t (Some e.1) (find spot_cmp (n, k) es) ≡ Some slot → (find spot_cmp (n, k) es ≡ Some slot → k < width_of es n) → k < width_of (e ∷ es) n
    by true here found more =
        let parts = spot_parts e.0 (n, k) here in
        let own : nat_eq e.0.0 n ≡ true = equal e.0.0 n parts.0 in
        subst (λ (t : Bool). k < cond t (max (e.0.1 + 1) (width_of es n)) (width_of es n)) (sym own) (first e.0.1 (width_of es n) parts.1)
      where
        equal : (a b : ℕ) → a ≡ b → nat_eq a b ≡ true
        equal a b e = grind (arith, nat_tests)

        first : (a w : ℕ) → a ≡ k → k < max (a + 1) w
        first a w same = omega (arith, same)
    by false here found more = omega (arith, more found, width_more e es n)

-- and where there is a width, its last slot is staged
pub last_found : (es : Entries Slot) (n w : ℕ) → width_of es n ≡ suc w → (slot : Slot) × (find spot_cmp (n, w) es ≡ Some slot)
last_found [] n w is = absurd (omega (arith, is))
last_found (e ∷ es) n w is = by (spot_eq e.0 (n, w)) refl (last_found es n w)
  where
    behind : (t : Bool) → nat_eq e.0.0 n ≡ t → spot_eq e.0 (n, w) ≡ false → cond t (max (e.0.1 + 1) (width_of es n)) (width_of es n) ≡ suc w → width_of es n ≡ suc w
    behind true own other long = rest (nat_eq e.0.1 w) refl (sym (ap (λ (t : Bool). t && nat_eq e.0.1 w) own) ∙ other)
      where
        less : (a b : ℕ) → nat_eq a w ≡ false → max (a + 1) b ≡ suc w → b ≡ suc w
        less a b is long = let apart : (a ≡ w) → ⊥ = λ e. differ a e is in by_cases a b apart long
          where
            differ : (a : ℕ) → a ≡ w → nat_eq a w ≡ false → ⊥
            differ a e is = grind (arith, nat_tests)

            by_cases : (a b : ℕ) → (a ≡ w → ⊥) → max (a + 1) b ≡ suc w → b ≡ suc w
            by_cases a b apart long = omega (arith, long, apart)

        rest : (u : Bool) → nat_eq e.0.1 w ≡ u → nat_eq e.0.1 w ≡ false → width_of es n ≡ suc w
        rest u place apart = less e.0.1 (width_of es n) apart long
    behind false own other long = long

    by : (t : Bool) → spot_eq e.0 (n, w) ≡ t → (width_of es n ≡ suc w → (slot : Slot) × (find spot_cmp (n, w) es ≡ Some slot)) → (slot : Slot) × (find spot_cmp (n, w) (e ∷ es) ≡ Some slot)
    by true here more = (e.1, find_first e es (n, w) ∙ ap (λ (t : Bool). cond t (Some e.1) (find spot_cmp (n, w) es)) here)
    by false here more =
        let has = more (behind (nat_eq e.0.0 n) refl here is) in
        (has.0, find_first e es (n, w) ∙ ap (λ (t : Bool). cond t (Some e.1) (find spot_cmp (n, w) es)) here ∙ has.1)

-- ---- nodes by inodes

own_slots : (x : Inode) (slots : List Slot) → as_node x (slots_of (as_node x slots)) ≡ as_node x slots
own_slots inode.Unused slots = refl
own_slots (inode.File size height ptr) slots = refl
own_slots (inode.Directory width height ptr) slots = refl

other_slots : (x : Inode) (a b slots : List Slot) → as_node x a ≡ Some (Directory slots) → as_node x b ≡ Some (Directory b)
other_slots inode.Unused a b slots is = cc
other_slots (inode.File size height ptr) a b slots is = cc
other_slots (inode.Directory width height ptr) a b slots is = refl

-- an inode that is a node's with its slots is so with the slots now, where these are a directory's
node_is : (x : Inode) (h : Option HeldNode) (slots : List Slot) → as_node x (slots_of h) ≡ h → (h ≡ Some (Directory (slots_of h)) → slots ≡ slots_of h) → as_node x slots ≡ h
node_is inode.Unused h slots is same = is
node_is (inode.File size height ptr) h slots is same = is
node_is (inode.Directory width height ptr) h slots is same = ap (λ (ss : List Slot). as_node (inode.Directory width height ptr) ss) (same (sym is)) ∙ is

-- whether a node is a directory
abbrev kind_held : Option HeldNode → Option Bool
kind_held None = None
kind_held (Some (File size)) = Some false
kind_held (Some (Directory slots)) = Some true

kind_is : (x : Inode) (slots : List Slot) → kind_of x ≡ kind_held (as_node x slots)
kind_is inode.Unused slots = refl
kind_is (inode.File size height ptr) slots = refl
kind_is (inode.Directory width height ptr) slots = refl

-- ---- one number

module _ (old : List Block) (o : Overlay) (e : Effect) (before after : Option HeldNode) (n : ℕ) (touched : ℕ → Bool) (was : before ≡ node_now old o n) (follows : NodeFollows before after touched)
    (changed : (k : ℕ) → changed_to e.slots (n, k) ≡ cond (touched k) (Some (slot_at (slots_of after) k)) None) (cut : least_cut (node_of (staged o e) n) ≡ least_cut (node_of o n))
    (kept : (k : ℕ) → is_cut (forgotten e) (n, k) ≡ false) (directory : after ≡ Some (Directory (slots_of after))) where
  abbrev now : List Slot
  now = slots_of after

  before_is : before ≡ Some (Directory (slots_now old o n))
  before_is =
      let own : as_node (inode_now old o n) (slots_of before) ≡ before = subst (λ h. as_node (inode_now old o n) (slots_of h) ≡ h) (sym was) (own_slots (inode_now old o n) (slots_now old o n)) in
      was ∙ other_slots (inode_now old o n) (slots_of after) (slots_now old o n) (slots_of after) (follows.kind (inode_now old o n) own ∙ directory)

  slots_before : slots_of before ≡ slots_now old o n
  slots_before = ap slots_of before_is

  long_before : length (slots_of before) ≡ width_now old o n
  long_before = ap length slots_before ∙ slots_long (slot_now old o n) 0 (width_now old o n)

  at_before : (k : ℕ) → slot_at (slots_of before) k ≡ slot_now old o n k
  at_before k = ap (λ (ss : List Slot). slot_at ss k) slots_before ∙ by (nat_lt k (width_now old o n)) refl
    where
      none_there : (found : Option Slot) → find spot_cmp (n, k) o.slots ≡ found → width_of o.slots n ≤ k → find spot_cmp (n, k) o.slots ≡ None
      none_there None is le = is
      none_there (Some slot) is le = absurd (omega (arith, le, found_below o.slots n k slot is))

      by : (t : Bool) → nat_lt k (width_now old o n) ≡ t → slot_at (slots_now old o n) k ≡ slot_now old o n k
      by true is =
          let lt : k < width_now old o n = grind (arith, nat_tests) in
          let e : 0 + k ≡ k = omega arith in
          slots_at (slot_now old o n) 0 (width_now old o n) k lt ∙ ap (slot_now old o n) e
      by false is =
          let ge : width_now old o n ≤ k = grind (arith, nat_tests) in
          let none = none_there (find spot_cmp (n, k) o.slots) refl (second (length (slots_left old o n)) (width_of o.slots n) ge) in
          get_or_past (slots_now old o n) k Unused (omega (arith, ge, slots_long (slot_now old o n) 0 (width_now old o n)))
          ∙ sym (ap (λ s. slot_or s (slot_at (slots_left old o n) k)) none ∙ get_or_past (slots_left old o n) k Unused (first (length (slots_left old o n)) (width_of o.slots n) ge))
        where
          first : (a b : ℕ) → max a b ≤ k → a ≤ k
          first a b le = omega (arith, le)

          second : (a b : ℕ) → max a b ≤ k → b ≤ k
          second a b le = omega (arith, le)

  left_same : slots_left old (staged o e) n ≡ slots_left old o n
  left_same = ap (λ (c : ℕ). cond (c == 0) [] (take (width_in (inode_before old n)) (slots_seen (seen old) n))) cut

  -- what is found in a slot after the staging
  find_touched : (k : ℕ) → touched k ≡ true → find spot_cmp (n, k) (staged o e).slots ≡ Some (slot_at now k)
  find_touched k is = changed_is o e (n, k) (slot_at now k) (changed k ∙ ap (λ (t : Bool). cond t (Some (slot_at now k)) None) is)

  find_other : (k : ℕ) → touched k ≡ false → find spot_cmp (n, k) (staged o e).slots ≡ find spot_cmp (n, k) o.slots
  find_other k is = other_slot o e (n, k) (kept k) (changed k ∙ ap (λ (t : Bool). cond t (Some (slot_at now k)) None) is)

  at_now : (k : ℕ) → slot_now old (staged o e) n k ≡ slot_at now k
  at_now k = by (touched k) refl
    where
      by : (t : Bool) → touched k ≡ t → slot_now old (staged o e) n k ≡ slot_at now k
      by true is = ap (λ s. slot_or s (slot_at (slots_left old (staged o e) n) k)) (find_touched k is)
      by false is = (λ i. slot_or (find_other k is i) (slot_at (left_same i) k)) ∙ sym (at_before k) ∙ sym (follows.slots.same k is)

  stays_found : (k : ℕ) (slot : Slot) → find spot_cmp (n, k) o.slots ≡ Some slot → k < width_of (staged o e).slots n
  stays_found k slot is = by (touched k) refl
    where
      by : (t : Bool) → touched k ≡ t → k < width_of (staged o e).slots n
      by true here = found_below (staged o e).slots n k (slot_at now k) (find_touched k here)
      by false here = found_below (staged o e).slots n k slot (find_other k here ∙ is)

  width_grows : width_of o.slots n ≤ width_of (staged o e).slots n
  width_grows = by (width_of o.slots n) refl
    where
      by : (w : ℕ) → width_of o.slots n ≡ w → width_of o.slots n ≤ width_of (staged o e).slots n
      by zero is = omega (arith, is)
      by (suc w) is = let has = last_found o.slots n w is in omega (arith, is, stays_found w has.0 has.1)

  width_within : width_of (staged o e).slots n ≤ length now
  width_within = by (width_of (staged o e).slots n) refl
    where
      below : (w : ℕ) (slot : Slot) → find spot_cmp (n, w) (staged o e).slots ≡ Some slot → (t : Bool) → touched w ≡ t → w < length now
      below w slot is true here = follows.slots.within w here
      below w slot is false here =
          let lt = found_below o.slots n w slot (sym (find_other w here) ∙ is) in
          omega (arith, lt, long_before, second (length (slots_left old o n)) (width_of o.slots n), follows.slots.grows)
        where
          second : (a b : ℕ) → b ≤ max a b
          second a b = omega arith

      by : (w : ℕ) → width_of (staged o e).slots n ≡ w → width_of (staged o e).slots n ≤ length now
      by zero is = omega (arith, is)
      by (suc w) is =
          let has = last_found (staged o e).slots n w is in
          let lt = below w has.0 has.1 (touched w) refl in
          omega (arith, is, lt)

  width_is : width_now old (staged o e) n ≡ length now
  width_is = equal (length (slots_left old (staged o e) n)) (width_of (staged o e).slots n) (length now)
      (omega (arith, ap length left_same, first (length (slots_left old o n)) (width_of o.slots n), long_before, follows.slots.grows)) width_within (by follows.slots.least)
    where
      first : (a b : ℕ) → a ≤ max a b
      first a b = omega arith

      equal : (a b w : ℕ) → a ≤ w → b ≤ w → w ≤ max a b → max a b ≡ w
      equal a b w left right le = omega (arith, left, right, le)

      grown : (a b c w v : ℕ) → a ≡ c → v ≡ max a b → w ≡ v → (b' : ℕ) → b ≤ b' → w ≤ max c b'
      grown a b c w v same was now b' le = omega (arith, same, was, now, le)

      above : (a b k w : ℕ) → k < b → w ≡ suc k → w ≤ max a b
      above a b k w lt is = omega (arith, lt, is)

      by : (length now ≡ length (slots_of before)) ⊎ ((k : ℕ) × (touched k ≡ true) × (length now ≡ suc k)) → length now ≤ max (length (slots_left old (staged o e) n)) (width_of (staged o e).slots n)
      by (inl same) = grown (length (slots_left old o n)) (width_of o.slots n) (length (slots_left old (staged o e) n)) (length now) (width_now old o n) (ap length (sym left_same)) refl (same ∙ long_before) (width_of (staged o e).slots n) width_grows
      by (inr has) = above (length (slots_left old (staged o e) n)) (width_of (staged o e).slots n) has.0 (length now) (found_below (staged o e).slots n has.0 (slot_at now has.0) (find_touched has.0 has.1)) has.2

  pub slots_follow : slots_now old (staged o e) n ≡ slots_of after
  slots_follow = slots_are (slot_now old (staged o e) n) now 0 (width_now old (staged o e) n) width_is (λ k lt. let place : 0 + k ≡ k = omega arith in ap (slot_now old (staged o e) n) place ∙ at_now k)

-- ---- all numbers

module _ (old : List Block) (o : Overlay) (before after : Nodes) (change : Change) (e : Effect) (table : IsTableOf old o before) (follows : ChangeFollows change before after)
    (effect : IsEffectOfChange change after e) where
  here : Option HeldNode
  here = held after e.number

  -- what is looked for of a number: its slots, where it is a directory
  abbrev HasSlots : ℕ → Type 0
  HasSlots n = held after n ≡ Some (Directory (slots_of (held after n))) → slots_now old (staged o e) n ≡ slots_of (held after n)

  of_changed : (n : ℕ) → NodeFollows (held before n) (held after n) (λ k. has_spot (slots_in change) (n, k)) → least_cut (node_of (staged o e) n) ≡ least_cut (node_of o n)
      → ((k : ℕ) → is_cut (forgotten e) (n, k) ≡ false) → HasSlots n
  of_changed n f cut kept directory = slots_follow old o e (held before n) (held after n) n (λ k. has_spot (slots_in change) (n, k)) (table n) f (λ k. effect.slots (n, k)) cut kept directory

  elsewhere : (n k : ℕ) (to : Option ℕ) → nat_eq n e.number ≡ false → is_cut (cut_at e.number to) (n, k) ≡ false
  elsewhere n k None is = refl
  elsewhere n k (Some blocks) is = ap (λ (t : Bool). t && nat_le blocks k) is

  slots_other : (n : ℕ) → nat_eq n e.number ≡ false → HasSlots n
  slots_other n is =
      of_changed n (follows.others n (subst (λ (m : ℕ). nat_eq n m ≡ false) effect.number is)) (ap least_cut (other_node o e n is)) (λ k. elsewhere n k (whole e.cut_to) is)

  cut_is : (c : Option ℕ) → e.cut_to ≡ c → least_cut (node_of (staged o e) e.number) ≡ lower_cut (node_of o e.number) c
  cut_is c is = ap least_cut (own_node o e) ∙ ap (lower_cut (node_of o e.number)) is

  -- a number that is cut to no block, and of which no slot is touched, has none
  none_left : e.cut_to ≡ Some 0 → ((k : ℕ) → has_spot (slots_in change) (e.number, k) ≡ false) → slots_now old (staged o e) e.number ≡ []
  none_left cut untouched = slots_are (slot_now old (staged o e) e.number) [] 0 (width_now old (staged o e) e.number) width (λ k lt. absurd (omega (arith, lt)))
    where
      zero_cut : (a : ℕ) → min a 0 ≡ 0
      zero_cut a = omega arith

      left : slots_left old (staged o e) e.number ≡ []
      left = ap (λ (c : ℕ). cond (c == 0) [] (take (width_in (inode_before old e.number)) (slots_seen (seen old) e.number))) (cut_is (Some 0) cut ∙ zero_cut (least_cut (node_of o e.number)))

      no_slot : (k : ℕ) → find spot_cmp (e.number, k) (staged o e).slots ≡ None
      no_slot k = forgotten_is o e k cut (effect.slots (e.number, k) ∙ ap (λ (t : Bool). cond t (Some (slot_at (slots_of (held after e.number)) k)) None) (untouched k))

      no_width : (w : ℕ) → width_of (staged o e).slots e.number ≡ w → width_of (staged o e).slots e.number ≡ 0
      no_width zero is = is
      no_width (suc w) is =
          let has = last_found (staged o e).slots e.number w is in
          let never : None ≡ Some has.0 = sym (no_slot w) ∙ has.1 in cc

      most : (a b : ℕ) → a ≡ 0 → b ≡ 0 → max a b ≡ 0
      most a b first second = omega (arith, first, second)

      width : width_now old (staged o e) e.number ≡ 0
      width = most (length (slots_left old (staged o e) e.number)) (width_of (staged o e).slots e.number) (ap length left) (no_width (width_of (staged o e).slots e.number) refl)

  slots_own : (c : Change) → change ≡ c → OwnFollows c before after → e.number ≡ number_of c → HasSlots e.number
  slots_own (Made parent slot number) is own at directory =
      let cut : e.cut_to ≡ Some 0 = subst (λ c. CutsFor c e.cut_to) is effect.cut in
      let apart : nat_eq parent e.number ≡ false = ap (nat_eq parent) at ∙ own.1 in
      let untouched : (k : ℕ) → has_spot (slots_in change) (e.number, k) ≡ false = λ k. ap (λ c. has_spot (slots_in c) (e.number, k)) is ∙ none_there (nat_eq parent e.number) (nat_eq slot k) apart in
      none_left cut untouched ∙ sym ((λ i. slots_of (held after (at i))) ∙ own.0)
    where
      none_there : (a b : Bool) → a ≡ false → ((a && b) || false) ≡ false
      none_there true b e = cc
      none_there false b e = refl
  slots_own (Sized number size) is own at directory = let never : Some (File size) ≡ Some (Directory (slots_of (held after e.number))) = sym own.2 ∙ sym (ap (held after) at) ∙ directory in cc
  slots_own (Removed parent slot number) is own at directory = let never : None ≡ Some (Directory (slots_of (held after e.number))) = sym own ∙ sym (ap (held after) at) ∙ directory in cc
  slots_own (Renamed number from from_slot to to_slot) is own at directory =
      let cut : e.cut_to ≡ None = subst (λ c. CutsFor c e.cut_to) is effect.cut in
      let f : NodeFollows (held before e.number) (held after e.number) (λ k. has_spot (slots_in change) (e.number, k)) =
      subst (λ (m : ℕ). NodeFollows (held before m) (held after m) (λ k. has_spot (slots_in change) (m, k))) (sym at) (subst (λ c. NodeFollows (held before number) (held after number) (λ k. has_spot (slots_in c) (number, k))) (sym is) own) in
      of_changed e.number f (cut_is None cut) (λ k. ap (λ c. is_cut (cut_at e.number (whole c)) (e.number, k)) cut) directory

  pub slots_after : (n : ℕ) → HasSlots n
  slots_after n = by (nat_eq n e.number) refl
    where
      by : (t : Bool) → nat_eq n e.number ≡ t → HasSlots n
      by true is = subst HasSlots (sym (eqb-true n e.number is)) (slots_own change refl follows.own effect.number)
      by false is = slots_other n is

  -- the inode that is staged, or was, is that of the node
  inode_after : (n : ℕ) → as_node (inode_now old (staged o e) n) (slots_of (held after n)) ≡ held after n
  inode_after n = by (nat_eq n e.number) refl
    where
      own : as_node (inode_now old (staged o e) e.number) (slots_of (held after e.number)) ≡ held after e.number
      own = ap (λ c. as_node (staged_or c (inode_before old e.number)) (slots_of (held after e.number))) (own_node o e) ∙ effect.node

      by : (t : Bool) → nat_eq n e.number ≡ t → as_node (inode_now old (staged o e) n) (slots_of (held after n)) ≡ held after n
      by true is = subst (λ (m : ℕ). as_node (inode_now old (staged o e) m) (slots_of (held after m)) ≡ held after m) (sym (eqb-true n e.number is)) own
      by false is =
          let was : as_node (inode_now old o n) (slots_of (held before n)) ≡ held before n = subst (λ h. as_node (inode_now old o n) (slots_of h) ≡ h) (sym (table n)) (own_slots (inode_now old o n) (slots_now old o n)) in
          let f = follows.others n (subst (λ (m : ℕ). nat_eq n m ≡ false) effect.number is) in
          ap (λ c. as_node (staged_or c (inode_before old n)) (slots_of (held after n))) (other_node o e n is) ∙ f.kind (inode_now old o n) was

  -- so the table after the change is that of the overlay after the staging
  pub table_after : IsTableOf old (staged o e) after
  table_after n = sym (node_is (inode_now old (staged o e) n) (held after n) (slots_now old (staged o e) n) (inode_after n) (slots_after n))

  -- a number of another kind is cut to no block
  pub kind_after : (kind_of e.inode ≡ kind_of (inode_now old o e.number)) ⊎ (e.cut_to ≡ Some 0)
  kind_after = by change refl follows.own effect.number
    where
      kind_new : kind_of e.inode ≡ kind_held (held after e.number)
      kind_new = kind_is e.inode (slots_of (held after e.number)) ∙ ap kind_held effect.node

      kind_old : kind_of (inode_now old o e.number) ≡ kind_held (held before e.number)
      kind_old = kind_is (inode_now old o e.number) (slots_now old o e.number) ∙ sym (ap kind_held (table e.number))

      same_kind : kind_held (held after e.number) ≡ kind_held (held before e.number) → (kind_of e.inode ≡ kind_of (inode_now old o e.number)) ⊎ (e.cut_to ≡ Some 0)
      same_kind same = inl (kind_new ∙ same ∙ sym kind_old)

      kept_kind : NodeFollows (held before e.number) (held after e.number) (λ k. has_spot (slots_in change) (e.number, k)) → kind_held (held after e.number) ≡ kind_held (held before e.number)
      kept_kind f =
          let x = inode_now old o e.number in
          let was : as_node x (slots_of (held before e.number)) ≡ held before e.number = subst (λ h. as_node x (slots_of h) ≡ h) (sym (table e.number)) (own_slots x (slots_now old o e.number)) in
          sym (ap kind_held (f.kind x was)) ∙ sym (kind_is x (slots_of (held after e.number))) ∙ kind_old

      by : (c : Change) → change ≡ c → OwnFollows c before after → e.number ≡ number_of c → (kind_of e.inode ≡ kind_of (inode_now old o e.number)) ⊎ (e.cut_to ≡ Some 0)
      by (Made parent slot number) is own at = inr (subst (λ c. CutsFor c e.cut_to) is effect.cut)
      by (Removed parent slot number) is own at = inr (subst (λ c. CutsFor c e.cut_to) is effect.cut)
      by (Sized number size) is own at = same_kind (ap kind_held (ap (held after) at ∙ own.2) ∙ sym (ap kind_held (ap (held before) at ∙ own.1)))
      by (Renamed number from from_slot to to_slot) is own at =
          same_kind (kept_kind (subst (λ (m : ℕ). NodeFollows (held before m) (held after m) (λ k. has_spot (slots_in change) (m, k))) (sym at) (subst (λ c. NodeFollows (held before number) (held after number) (λ k. has_spot (slots_in c) (number, k))) (sym is) own)))

  -- a directory that is staged is cut to no block, or it was one and isn't cut
  pub directory_cut : kind_of e.inode ≡ Some true → (e.cut_to ≡ Some 0) ⊎ ((e.cut_to ≡ None) × (kind_of (inode_now old o e.number) ≡ Some true))
  directory_cut directory = by change refl follows.own effect.number kind_after
    where
      one_kind : (a b : Bool) → Some a ≡ Some b → a ≡ b
      one_kind a b is = cc

      by : (c : Change) → change ≡ c → OwnFollows c before after → e.number ≡ number_of c → (kind_of e.inode ≡ kind_of (inode_now old o e.number)) ⊎ (e.cut_to ≡ Some 0)
          → (e.cut_to ≡ Some 0) ⊎ ((e.cut_to ≡ None) × (kind_of (inode_now old o e.number) ≡ Some true))
      by (Made parent slot number) is own at kind = inl (subst (λ c. CutsFor c e.cut_to) is effect.cut)
      by (Removed parent slot number) is own at kind = inl (subst (λ c. CutsFor c e.cut_to) is effect.cut)
      by (Sized number size) is own at kind =
          let file = kind_is e.inode (slots_of (held after e.number)) ∙ ap kind_held effect.node ∙ ap kind_held (ap (held after) at ∙ own.2) in
          let never : true ≡ false = one_kind true false (sym directory ∙ file) in cc
      by (Renamed number from from_slot to to_slot) is own at (inr cut) = inl cut
      by (Renamed number from from_slot to to_slot) is own at (inl same) = inr (subst (λ c. CutsFor c e.cut_to) is effect.cut, sym same ∙ directory)
