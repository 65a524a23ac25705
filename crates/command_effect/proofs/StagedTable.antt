-- The nodes that memory holds after a change was staged, over whatever nodes the last point had.
use Rattle.std.proofs.Common.{◌≡◌, ℕ, zero, suc, ◌<◌, ◌≤◌, Bool, true, false, cond, List, [], ◌∷◌, length, Some, None, refl, sym, ap, subst, ◌∙◌, arith}
use Rattle.std.specs.Prelude.{◌==◌, ◌&&◌, ◌||◌, nat_eq, nat_le, min, max, All, Option, if◌then◌else◌}
use Rattle.std.specs.FinMap.{find}
use Rattle.std.proofs.lemmas.Bool.{eqb-true}
use Rattle.std.proofs.lemmas.Bool.Decides.{nat_tests}
use Rattle.std.proofs.lemmas.List.{get_or_past}
use Rattle.block_format.specs.Slot.{SlotFits}
use Rattle.block_format.specs.declared.inode.Inode.{Inode}
use Rattle.block_format.specs.declared.inode.Inode.TheVariants as inodes
use Rattle.block_format.specs.declared.slot.Slot.{Slot}
use Rattle.block_format.specs.declared.slot.Slot.TheVariants.{Unused}
use Rattle.dir_slots.specs.Slots.{slot_at, is_used, IsDirectory}
use Rattle.dirty_store.specs.Entries.{cut_at}
use Rattle.dirty_store.specs.Laws.{changed_to, first_of_two}
use Rattle.dirty_store.specs.Overlay.{Overlay, IsEffect, node_of, least_cut, lower_cut, width_of, forgotten, whole, staged}
use Rattle.dirty_store.specs.declared.effect.Effect.{Effect}
use Rattle.dirty_store.specs.declared.effect.SlotChange.{SlotChange}
use Rattle.dirty_store.proofs.SlotLaws.{own_node, other_node, changed_is, forgotten_is}
use Rattle.node_table.specs.Held.{Nodes, AreDirectories, held, slots_of}
use Rattle.node_table.specs.declared.change.Change.{Change}
use Rattle.node_table.specs.declared.change.Change.TheVariants.{Made, Sized, Removed, Renamed}
use Rattle.node_table.specs.declared.held.HeldNode.{HeldNode}
use Rattle.node_table.specs.declared.held.HeldNode.TheVariants.{File, Directory}
use Rattle.point_model.specs.Holding.{staged_or, slot_or, as_node}
use Rattle.point_model.specs.NodeChanges.{number_of, slots_in, CutsFor, IsEffectOfChange}
use Rattle.point_model.proofs.ChangeFollows.{NodeFollows, ChangeFollows, OwnFollows}
use Rattle.point_model.proofs.SlotsFollow.{SlotsFollow, untouched_follow}
use Rattle.point_model.proofs.StagedNodes.{spot_parts, last_found}
use Rattle.command_effect.proofs.StagedSlots.{slots_over, slot_over, width_over, slots_long, slot_is, slots_follow}
use Rattle.volume_model.specs.Done.{is_cut}
use Rattle.volume_model.specs.Places.{Spot, spot_cmp, spot_eq, has_spot}

-- ---- what memory has of a number

-- the kind and size of a number: what is staged, else those of the last point
abbrev pub inode_over : (ℕ → Inode) → Overlay → ℕ → Inode
inode_over inode o n = staged_or (node_of o n) (inode n)

-- the slots that a number has left of the last point
abbrev pub left_over : (ℕ → List Slot) → Overlay → ℕ → List Slot
left_over first o n = if least_cut (node_of o n) == 0 then [] else first n

-- the slots of a number now
abbrev pub slots_now : (ℕ → List Slot) → Overlay → ℕ → List Slot
slots_now first o n = slots_over (left_over first o n) o n

-- what a number is now
abbrev pub node_over : (ℕ → Inode) → (ℕ → List Slot) → Overlay → ℕ → Option HeldNode
node_over inode first o n = as_node (inode_over inode o n) (slots_now first o n)

-- ---- nodes by inodes

pub own_slots : (x : Inode) (slots : List Slot) → as_node x (slots_of (as_node x slots)) ≡ as_node x slots
own_slots inodes.Unused slots = refl
own_slots (inodes.File size height ptr) slots = refl
own_slots (inodes.Directory width height ptr) slots = refl

other_slots : (x : Inode) (a b slots : List Slot) → as_node x a ≡ Some (Directory slots) → as_node x b ≡ Some (Directory b)
other_slots inodes.Unused a b slots is = cc
other_slots (inodes.File size height ptr) a b slots is = cc
other_slots (inodes.Directory width height ptr) a b slots is = refl

-- an inode that is a node's with its slots is so with the slots now, where these are a directory's
node_is : (x : Inode) (h : Option HeldNode) (slots : List Slot) → as_node x (slots_of h) ≡ h → (h ≡ Some (Directory (slots_of h)) → slots ≡ slots_of h) → as_node x slots ≡ h
node_is inodes.Unused h slots is same = is
node_is (inodes.File size height ptr) h slots is same = is
node_is (inodes.Directory width height ptr) h slots is same = ap (λ (ss : List Slot). as_node (inodes.Directory width height ptr) ss) (same (sym is)) ∙ is

-- ---- directories

-- slots that are all unused are a directory's
all_unused : (slots : List Slot) → length slots ≤ 65534 → ((k : ℕ) → slot_at slots k ≡ Unused) → IsDirectory slots
all_unused slots long each = record {
  width = long;
  fits = λ i. subst SlotFits (sym (each i)) tt;
  names = λ i j used also same. absurd (never i used);
}
  where
    never : (i : ℕ) → is_used (slot_at slots i) ≡ true → ⊥
    never i used = let clash : true ≡ false = sym used ∙ ap is_used (each i) in cc

-- a slot that is changed is one of the changes
changed_below : (cs : List SlotChange) (spot : Spot) (content : Slot) → All (λ c. c.slot < 65534) cs → changed_to cs spot ≡ Some content → spot.1 < 65534
changed_below [] spot content all is = cc
changed_below (c ∷ cs) spot content all is = by (changed_to cs spot) refl (spot_eq (c.directory, c.slot) spot) refl (λ x. changed_below cs spot x (λ k d lt. all (suc k) d (omega (arith, lt))))
  where
    by : (later : Option Slot) → changed_to cs spot ≡ later → (t : Bool) → spot_eq (c.directory, c.slot) spot ≡ t → ((x : Slot) → changed_to cs spot ≡ Some x → spot.1 < 65534) → spot.1 < 65534
    by (Some x) later t here more = more x later
    by None later true here more =
        let parts = spot_parts (c.directory, c.slot) spot here in
        let first : c.slot < 65534 = all 0 c (omega arith) in
        omega (arith, first, parts.1)
    by None later false here more =
        let never : None ≡ Some content = sym (λ i. first_of_two (later i) (cond (here i) (Some c.content) None)) ∙ is in cc

-- ---- all numbers

module _ (inode : ℕ → Inode) (first : ℕ → List Slot) (o : Overlay) (before after : Nodes) (change : Change) (e : Effect) (table : (n : ℕ) → held before n ≡ node_over inode first o n)
    (follows : ChangeFollows change before after) (effect : IsEffectOfChange change after e) (fits : IsEffect e) (were : (n : ℕ) → IsDirectory (slots_now first o n)) (are : AreDirectories after) where
  -- the slots of a directory are those of the table after the change, and the slots of each number are a directory's
  record Stood (n : ℕ) : Type 0 where
    slots : held after n ≡ Some (Directory (slots_of (held after n))) → slots_now first (staged o e) n ≡ slots_of (held after n)
    directory : IsDirectory (slots_now first (staged o e) n)

  -- whether a cut was to no block is all that tells what is left
  abbrev LeftSame : ℕ → Type 0
  LeftSame n = (least_cut (node_of (staged o e) n) == 0) ≡ (least_cut (node_of o n) == 0)

  -- ---- a number whose slots stay or follow

  follow : (n : ℕ) (now : List Slot) (touched : ℕ → Bool) → LeftSame n → ((k : ℕ) → is_cut (forgotten e) (n, k) ≡ false) → SlotsFollow (slots_now first o n) now touched
      → ((k : ℕ) → changed_to e.slots (n, k) ≡ cond (touched k) (Some (slot_at now k)) None) → slots_now first (staged o e) n ≡ now
  follow n now touched left kept slots changed =
      ap (λ (t : Bool). slots_over (cond t [] (first n)) (staged o e) n) left ∙ slots_follow (left_over first o n) o e n now touched slots changed kept

  -- where no slot is touched, they stay
  stays : (n : ℕ) → LeftSame n → ((k : ℕ) → is_cut (forgotten e) (n, k) ≡ false) → ((k : ℕ) → has_spot (slots_in change) (n, k) ≡ false) → slots_now first (staged o e) n ≡ slots_now first o n
  stays n left kept untouched =
      follow n (slots_now first o n) (λ _. false) left kept (untouched_follow (slots_now first o n))
      (λ k. effect.slots (n, k) ∙ ap (λ (t : Bool). cond t (Some (slot_at (slots_of (held after n)) k)) None) (untouched k))

  followed : (n : ℕ) → LeftSame n → ((k : ℕ) → is_cut (forgotten e) (n, k) ≡ false) → NodeFollows (held before n) (held after n) (λ k. has_spot (slots_in change) (n, k)) → Stood n
  followed n left kept f = record { slots = now_is; directory = by (held after n) refl }
    where
      x : Inode
      x = inode_over inode o n

      before_is : held after n ≡ Some (Directory (slots_of (held after n))) → held before n ≡ Some (Directory (slots_now first o n))
      before_is directory =
          let own : as_node x (slots_of (held before n)) ≡ held before n = subst (λ h. as_node x (slots_of h) ≡ h) (sym (table n)) (own_slots x (slots_now first o n)) in
          table n ∙ other_slots x (slots_of (held after n)) (slots_now first o n) (slots_of (held after n)) (f.kind x own ∙ directory)

      now_is : held after n ≡ Some (Directory (slots_of (held after n))) → slots_now first (staged o e) n ≡ slots_of (held after n)
      now_is directory =
          follow n (slots_of (held after n)) (λ k. has_spot (slots_in change) (n, k)) left kept
          (subst (λ (ss : List Slot). SlotsFollow ss (slots_of (held after n)) (λ k. has_spot (slots_in change) (n, k))) (ap slots_of (before_is directory)) f.slots) (λ k. effect.slots (n, k))

      untouched : slots_of (held after n) ≡ [] → (k : ℕ) → has_spot (slots_in change) (n, k) ≡ false
      untouched none k = no (has_spot (slots_in change) (n, k)) refl
        where
          no : (t : Bool) → has_spot (slots_in change) (n, k) ≡ t → t ≡ false
          no true is = absurd (omega (arith, f.slots.within k is, ap length none))
          no false is = refl

      by : (h : Option HeldNode) → held after n ≡ h → IsDirectory (slots_now first (staged o e) n)
      by (Some (Directory ss)) is = subst IsDirectory (sym (now_is (is ∙ sym (ap (λ h. Some (Directory (slots_of h))) is)) ∙ ap slots_of is)) (are n ss is)
      by (Some (File size)) is = subst IsDirectory (sym (stays n left kept (untouched (ap slots_of is)))) (were n)
      by None is = subst IsDirectory (sym (stays n left kept (untouched (ap slots_of is)))) (were n)

  -- ---- a number that is cut to no block

  cut_is : (c : Option ℕ) → e.cut_to ≡ c → least_cut (node_of (staged o e) e.number) ≡ lower_cut (node_of o e.number) c
  cut_is c is = ap least_cut (own_node o e) ∙ ap (lower_cut (node_of o e.number)) is

  module _ (cut : e.cut_to ≡ Some 0) where
    left_none : left_over first (staged o e) e.number ≡ []
    left_none = ap (λ (c : ℕ). cond (c == 0) [] (first e.number)) (cut_is (Some 0) cut ∙ zero_cut (least_cut (node_of o e.number)))
      where
        zero_cut : (a : ℕ) → min a 0 ≡ 0
        zero_cut a = omega arith

    long_none : length (slots_now first (staged o e) e.number) ≡ max 0 (width_of (staged o e).slots e.number)
    long_none = ap (λ (l : List Slot). length (slots_over l (staged o e) e.number)) left_none ∙ slots_long (slot_over [] (staged o e) e.number) 0 (width_over [] (staged o e) e.number)

    changed : (k : ℕ) (t : Bool) → has_spot (slots_in change) (e.number, k) ≡ t → changed_to e.slots (e.number, k) ≡ cond t (Some (slot_at (slots_of (held after e.number)) k)) None
    changed k t is = effect.slots (e.number, k) ∙ ap (λ (u : Bool). cond u (Some (slot_at (slots_of (held after e.number)) k)) None) is

    not_found : (k : ℕ) (slot : Slot) → has_spot (slots_in change) (e.number, k) ≡ false → find spot_cmp (e.number, k) (staged o e).slots ≡ Some slot → ⊥
    not_found k slot untouched found = let never : None ≡ Some slot = sym (forgotten_is o e k cut (changed k false untouched)) ∙ found in cc

    -- it has no slot, where none is touched
    none_left : ((k : ℕ) → has_spot (slots_in change) (e.number, k) ≡ false) → slots_now first (staged o e) e.number ≡ []
    none_left untouched = no_item (slots_now first (staged o e) e.number) (no_width (width_of (staged o e).slots e.number) refl long_none)
      where
        no_item : (slots : List Slot) → length slots ≡ 0 → slots ≡ []
        no_item [] long = refl
        no_item (slot ∷ slots) long = absurd (omega (arith, long))

        no_width : (w : ℕ) → width_of (staged o e).slots e.number ≡ w → length (slots_now first (staged o e) e.number) ≡ max 0 (width_of (staged o e).slots e.number) → length (slots_now first (staged o e) e.number) ≡ 0
        no_width zero is long = omega (arith, is, long)
        no_width (suc w) is long = let has = last_found (staged o e).slots e.number w is in absurd (not_found w has.0 (untouched w) has.1)

    -- where it has no slot after the change, each is unused
    gone : slots_of (held after e.number) ≡ [] → IsDirectory (slots_now first (staged o e) e.number)
    gone none = all_unused (slots_now first (staged o e) e.number) (within (width_of (staged o e).slots e.number) refl long_none) unused
      where
        empty : (k : ℕ) → slot_at [] k ≡ Unused
        empty k = get_or_past [] k Unused (omega arith)

        unused : (k : ℕ) → slot_at (slots_now first (staged o e) e.number) k ≡ Unused
        unused k = ap (λ (l : List Slot). slot_at (slots_over l (staged o e) e.number) k) left_none ∙ slot_is [] (staged o e) e.number k ∙ by (has_spot (slots_in change) (e.number, k)) refl
          where
            by : (t : Bool) → has_spot (slots_in change) (e.number, k) ≡ t → slot_over [] (staged o e) e.number k ≡ Unused
            by true is =
                ap (λ s. slot_or s (slot_at [] k)) (changed_is o e (e.number, k) (slot_at (slots_of (held after e.number)) k) (changed k true is))
                ∙ ap (λ (ss : List Slot). slot_at ss k) none ∙ empty k
            by false is = ap (λ s. slot_or s (slot_at [] k)) (forgotten_is o e k cut (changed k false is)) ∙ empty k

        below : (w : ℕ) (slot : Slot) → find spot_cmp (e.number, w) (staged o e).slots ≡ Some slot → (t : Bool) → has_spot (slots_in change) (e.number, w) ≡ t → w < 65534
        below w slot found true is = changed_below e.slots (e.number, w) (slot_at (slots_of (held after e.number)) w) fits.slots (changed w true is)
        below w slot found false is = absurd (not_found w slot is found)

        within : (w : ℕ) → width_of (staged o e).slots e.number ≡ w → length (slots_now first (staged o e) e.number) ≡ max 0 (width_of (staged o e).slots e.number) → length (slots_now first (staged o e) e.number) ≤ 65534
        within zero is long = omega (arith, is, long)
        within (suc w) is long =
            let has = last_found (staged o e).slots e.number w is in
            omega (arith, is, long, below w has.0 has.1 (has_spot (slots_in change) (e.number, w)) refl)

  -- ---- the change's own number

  -- a cut to some block leaves what was left, and forgets no slot
  some_left : (b : ℕ) → e.cut_to ≡ Some (suc b) → LeftSame e.number
  some_left b cut = ap (λ (c : ℕ). c == 0) (cut_is (Some (suc b)) cut) ∙ least (least_cut (node_of o e.number))
    where
      least : (a : ℕ) → (min a (suc b) == 0) ≡ (a == 0)
      least a = by (min a (suc b) == 0) refl (a == 0) refl
        where
          by : (t : Bool) → (min a (suc b) == 0) ≡ t → (u : Bool) → (a == 0) ≡ u → t ≡ u
          by true lower true was = refl
          by false lower false was = refl
          by true lower false was = grind (arith, nat_tests)
          by false lower true was = grind (arith, nat_tests)

  none_cut : e.cut_to ≡ None → LeftSame e.number
  none_cut cut = ap (λ (c : ℕ). c == 0) (cut_is None cut)

  nothing_forgotten : (c : Option ℕ) → whole c ≡ None → e.cut_to ≡ c → (k : ℕ) → is_cut (forgotten e) (e.number, k) ≡ false
  nothing_forgotten c is cut k = ap (λ (w : Option ℕ). is_cut (cut_at e.number w) (e.number, k)) (ap whole cut ∙ is)

  own : (c : Change) → change ≡ c → OwnFollows c before after → e.number ≡ number_of c → Stood e.number
  own (Made parent slot number) is made at =
      let cut : e.cut_to ≡ Some 0 = subst (λ c. CutsFor c e.cut_to) is effect.cut in
      let apart : nat_eq parent e.number ≡ false = ap (nat_eq parent) at ∙ made.1 in
      let untouched : (k : ℕ) → has_spot (slots_in change) (e.number, k) ≡ false = λ k. ap (λ c. has_spot (slots_in c) (e.number, k)) is ∙ none_there (nat_eq parent e.number) (nat_eq slot k) apart in
      let none : slots_of (held after e.number) ≡ [] = (λ i. slots_of (held after (at i))) ∙ made.0 in
      record { slots = λ directory. none_left cut untouched ∙ sym none; directory = gone cut none }
    where
      none_there : (a b : Bool) → a ≡ false → ((a && b) || false) ≡ false
      none_there true b e = cc
      none_there false b e = refl
  own (Removed parent slot number) is removed at =
      let here : held after e.number ≡ None = ap (held after) at ∙ removed in
      record {
        slots = λ directory. (let never : None ≡ Some (Directory (slots_of (held after e.number))) = sym here ∙ directory in cc);
        directory = gone (subst (λ c. CutsFor c e.cut_to) is effect.cut) (ap slots_of here);
      }
  own (Renamed number from from_slot to to_slot) is renamed at =
      let cut : e.cut_to ≡ None = subst (λ c. CutsFor c e.cut_to) is effect.cut in
      let f : NodeFollows (held before e.number) (held after e.number) (λ k. has_spot (slots_in change) (e.number, k)) =
      subst (λ (m : ℕ). NodeFollows (held before m) (held after m) (λ k. has_spot (slots_in change) (m, k))) (sym at) (subst (λ c. NodeFollows (held before number) (held after number) (λ k. has_spot (slots_in c) (number, k))) (sym is) renamed) in
      followed e.number (none_cut cut) (nothing_forgotten None refl cut) f
  own (Sized number size) is sized at = record {
    slots = λ directory. (let never : Some (File size) ≡ Some (Directory (slots_of (held after e.number))) = sym here ∙ directory in cc);
    directory = by e.cut_to refl;
  }
    where
      here : held after e.number ≡ Some (File size)
      here = ap (held after) at ∙ sized.2

      untouched : (k : ℕ) → has_spot (slots_in change) (e.number, k) ≡ false
      untouched k = ap (λ c. has_spot (slots_in c) (e.number, k)) is

      by : (c : Option ℕ) → e.cut_to ≡ c → IsDirectory (slots_now first (staged o e) e.number)
      by None cut = subst IsDirectory (sym (stays e.number (none_cut cut) (nothing_forgotten None refl cut) untouched)) (were e.number)
      by (Some zero) cut = gone cut (ap slots_of here)
      by (Some (suc b)) cut = subst IsDirectory (sym (stays e.number (some_left b cut) (nothing_forgotten (Some (suc b)) (ap (λ (t : Bool). cond t (Some (suc b)) None) (some b)) cut) untouched)) (were e.number)
        where
          some : (b : ℕ) → nat_eq (suc b) 0 ≡ false
          some b = grind (arith, nat_tests)

  stood : (n : ℕ) → Stood n
  stood n = by (nat_eq n e.number) refl
    where
      elsewhere : (k : ℕ) (to : Option ℕ) → nat_eq n e.number ≡ false → is_cut (cut_at e.number to) (n, k) ≡ false
      elsewhere k None is = refl
      elsewhere k (Some blocks) is = ap (λ (t : Bool). t && nat_le blocks k) is

      by : (t : Bool) → nat_eq n e.number ≡ t → Stood n
      by true is = subst Stood (sym (eqb-true n e.number is)) (own change refl follows.own effect.number)
      by false is =
          followed n (ap (λ c. least_cut c == 0) (other_node o e n is)) (λ k. elsewhere k (whole e.cut_to) is) (follows.others n (subst (λ (m : ℕ). nat_eq n m ≡ false) effect.number is))

  pub directories_after : (n : ℕ) → IsDirectory (slots_now first (staged o e) n)
  directories_after n = (stood n).directory

  -- the inode that is staged, or was, is that of the node
  inode_after : (n : ℕ) → as_node (inode_over inode (staged o e) n) (slots_of (held after n)) ≡ held after n
  inode_after n = by (nat_eq n e.number) refl
    where
      here : as_node (inode_over inode (staged o e) e.number) (slots_of (held after e.number)) ≡ held after e.number
      here = ap (λ c. as_node (staged_or c (inode e.number)) (slots_of (held after e.number))) (own_node o e) ∙ effect.node

      by : (t : Bool) → nat_eq n e.number ≡ t → as_node (inode_over inode (staged o e) n) (slots_of (held after n)) ≡ held after n
      by true is = subst (λ (m : ℕ). as_node (inode_over inode (staged o e) m) (slots_of (held after m)) ≡ held after m) (sym (eqb-true n e.number is)) here
      by false is =
          let was : as_node (inode_over inode o n) (slots_of (held before n)) ≡ held before n = subst (λ h. as_node (inode_over inode o n) (slots_of h) ≡ h) (sym (table n)) (own_slots (inode_over inode o n) (slots_now first o n)) in
          let f = follows.others n (subst (λ (m : ℕ). nat_eq n m ≡ false) effect.number is) in
          ap (λ c. as_node (staged_or c (inode n)) (slots_of (held after n))) (other_node o e n is) ∙ f.kind (inode_over inode o n) was

  -- so the table after the change is that of the overlay after the staging
  pub table_after : (n : ℕ) → held after n ≡ node_over inode first (staged o e) n
  table_after n = sym (node_is (inode_over inode (staged o e) n) (held after n) (slots_now first (staged o e) n) (inode_after n) (stood n).slots)
