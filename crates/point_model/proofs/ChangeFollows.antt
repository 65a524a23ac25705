-- The nodes of a table after a change, number by number.
use Rattle.std.proofs.Common.{◌≡◌, ℕ, Bool, true, false, cond, List, [], ◌∷◌, length, Some, None, refl, sym, ap, subst, ◌∙◌, arith}
use Rattle.std.specs.Prelude.{◌&&◌, ◌||◌, nat_eq, Option, is_some, slice_set, max, ◌+◌}
use Rattle.std.proofs.lemmas.Bool.{eqb-true}
use Rattle.std.proofs.lemmas.Bool.Decides.{nat_tests}
use Rattle.block_format.specs.declared.inode.Inode.{Inode}
use Rattle.block_format.specs.declared.inode.Inode.TheVariants as inode
use Rattle.block_format.specs.declared.slot.Slot.{Slot}
use Rattle.block_format.specs.declared.slot.Slot.TheVariants as slot_of_kind
use Rattle.dir_slots.specs.Slots.{with_slot}
use Rattle.node_table.specs.Changes.{Does, IsMade, IsSized, IsRemoved, IsRenamed, IsSet, GetsEntry, LosesEntry, Makes, Sizes, Removes, Renames}
use Rattle.node_table.specs.Held.{Nodes, held, slots_of}
use Rattle.node_table.specs.declared.change.Change.{Change}
use Rattle.node_table.specs.declared.change.Change.TheVariants.{Made, Sized, Removed, Renamed}
use Rattle.node_table.specs.declared.held.HeldNode.{HeldNode}
use Rattle.node_table.specs.declared.held.HeldNode.TheVariants.{File, Directory}
use Rattle.point_model.specs.Holding.{as_node}
use Rattle.point_model.specs.NodeChanges.{number_of, slots_in}
use Rattle.point_model.proofs.SlotsFollow.{SlotsFollow, untouched_follow, follow_by, follow_both, set_follow, put_follow, first_within, slot_within}
use Rattle.tree_model.specs.Path.{Path}
use Rattle.tree_model.specs.declared.command.Command.{Command}
use Rattle.tree_model.specs.declared.command.Command.TheVariants.{Mkdir, Create, Write, Truncate, Remove, Rename, Read, List as ListOf, Stat, Layout, Space, Checkpoint, End}
use Rattle.volume_model.specs.Places.{has_spot}

-- ---- one number

-- The node is of the kind and size of before, and its slots follow.
pub record NodeFollows (before after : Option HeldNode) (touched : ℕ → Bool) : Type 0 where
  pub kind : (x : Inode) → as_node x (slots_of before) ≡ before → as_node x (slots_of after) ≡ after
  pub slots : SlotsFollow (slots_of before) (slots_of after) touched

node_stays : (node : Option HeldNode) → NodeFollows node node (λ _. false)
node_stays node = record { kind = λ x is. is; slots = untouched_follow (slots_of node) }

node_by : (before after : Option HeldNode) (s t : ℕ → Bool) → ((k : ℕ) → s k ≡ t k) → NodeFollows before after s → NodeFollows before after t
node_by before after s t alike f = record { kind = f.kind; slots = follow_by (slots_of before) (slots_of after) s t alike f.slots }

node_both : (before between after : Option HeldNode) (s t : ℕ → Bool) → NodeFollows before between s → NodeFollows between after t → NodeFollows before after (λ k. s k || t k)
node_both before between after s t f g = record {
  kind = λ x is. g.kind x (f.kind x is);
  slots = follow_both (slots_of before) (slots_of between) (slots_of after) s t f.slots g.slots;
}

directory_follows : (before after : List Slot) (touched : ℕ → Bool) → SlotsFollow before after touched → NodeFollows (Some (Directory before)) (Some (Directory after)) touched
directory_follows before after touched f = record { kind = λ x is. kind x is; slots = f }
  where
    kind : (x : Inode) → as_node x before ≡ Some (Directory before) → as_node x after ≡ Some (Directory after)
    kind inode.Unused is = cc
    kind (inode.File size height ptr) is = cc
    kind (inode.Directory width height ptr) is = refl

-- ---- one slot of one directory

chosen : {X : Type 0} (b : Bool) (x y : X) → b ≡ true → cond b x y ≡ x
chosen true x y e = refl
chosen false x y e = cc

not_chosen : {X : Type 0} (b : Bool) (x y : X) → b ≡ false → cond b x y ≡ y
not_chosen true x y e = cc
not_chosen false x y e = refl

turned : (n m : ℕ) (t : Bool) → nat_eq n m ≡ t → nat_eq m n ≡ t
turned n m true e = grind (arith, nat_tests)
turned n m false e = grind (arith, nat_tests)

itself : (n : ℕ) → nat_eq n n ≡ true
itself n = grind (arith, nat_tests)

pub set_here : (old new : Nodes) (number : ℕ) (node : Option HeldNode) → IsSet old number node new → held new number ≡ node
set_here old new number node is = is number ∙ chosen (nat_eq number number) node (held old number) (itself number)

pub set_other : (old new : Nodes) (number : ℕ) (node : Option HeldNode) → IsSet old number node new → (n : ℕ) → nat_eq n number ≡ false → held new n ≡ held old n
set_other old new number node is n other = is n ∙ not_chosen (nat_eq n number) node (held old n) other

abbrev at_one : ℕ → ℕ → ℕ → ℕ → Bool
at_one parent slot n k = has_spot ((parent, slot) ∷ []) (n, k)

one_slot : (old new : Nodes) (parent slot : ℕ) (before after : List Slot) → held old parent ≡ Some (Directory before) → IsSet old parent (Some (Directory after)) new → SlotsFollow before after (λ k. nat_eq slot k)
    → (n : ℕ) → NodeFollows (held old n) (held new n) (λ k. has_spot ((parent, slot) ∷ []) (n, k))
one_slot old new parent slot before after was set f n = by (nat_eq n parent) refl
  where
    same_bool : (a b : Bool) → a ≡ true → b ≡ ((a && b) || false)
    same_bool true true e = refl
    same_bool true false e = refl
    same_bool false b e = cc

    none_bool : (a b : Bool) → a ≡ false → false ≡ ((a && b) || false)
    none_bool true b e = cc
    none_bool false b e = refl

    by : (t : Bool) → nat_eq n parent ≡ t → NodeFollows (held old n) (held new n) (λ k. has_spot ((parent, slot) ∷ []) (n, k))
    by true is =
        let same : n ≡ parent = eqb-true n parent is in
        let first : held old n ≡ Some (Directory before) = ap (held old) same ∙ was in
        let second : held new n ≡ Some (Directory after) = ap (held new) same ∙ set_here old new parent (Some (Directory after)) set in
        subst (λ h. NodeFollows h (held new n) (λ k. at_one parent slot n k)) (sym first)
        (subst (λ h. NodeFollows (Some (Directory before)) h (λ k. at_one parent slot n k)) (sym second)
        (node_by (Some (Directory before)) (Some (Directory after)) (λ k. nat_eq slot k) (λ k. at_one parent slot n k) (λ k. same_bool (nat_eq parent n) (nat_eq slot k) (turned n parent true is))
        (directory_follows before after (λ k. nat_eq slot k) f)))
    by false is =
        subst (λ h. NodeFollows (held old n) h (λ k. at_one parent slot n k)) (sym (set_other old new parent (Some (Directory after)) set n is))
        (node_by (held old n) (held old n) (λ _. false) (λ k. at_one parent slot n k) (λ k. none_bool (nat_eq parent n) (nat_eq slot k) (turned n parent false is)) (node_stays (held old n)))

pub gets_follow : (old new : Nodes) (parent slot number : ℕ) (name : List ℕ) → GetsEntry old parent slot number name new → (n : ℕ) → NodeFollows (held old n) (held new n) (λ k. has_spot ((parent, slot) ∷ []) (n, k))
gets_follow old new parent slot number name g =
    let slots = slots_of (held old parent) in
    one_slot old new parent slot slots (with_slot slots slot (slot_of_kind.Entry number name)) g.directory g.set
    (put_follow slots slot (slot_of_kind.Entry number name) (omega (arith, g.first, first_within slots)))

loses_follow : (old new : Nodes) (parent slot number : ℕ) (name : List ℕ) → LosesEntry old parent slot number name new → (n : ℕ) → NodeFollows (held old n) (held new n) (λ k. has_spot ((parent, slot) ∷ []) (n, k))
loses_follow old new parent slot number name l =
    let slots = slots_of (held old parent) in
    one_slot old new parent slot slots (slice_set slots slot slot_of_kind.Unused) l.directory l.set (set_follow slots slot slot_of_kind.Unused (slot_within slots name slot l.slot_is))

-- ---- all numbers

-- what becomes of the number that a change is about
abbrev pub OwnFollows : Change → Nodes → Nodes → Type 0
OwnFollows (Made parent slot number) before after = (slots_of (held after number) ≡ []) × (nat_eq parent number ≡ false)
OwnFollows (Sized number size) before after = (was : ℕ) × (held before number ≡ Some (File was)) × (held after number ≡ Some (File size))
OwnFollows (Removed parent slot number) before after = held after number ≡ None
OwnFollows (Renamed number from from_slot to to_slot) before after = NodeFollows (held before number) (held after number) (λ k. has_spot ((from, from_slot) ∷ (to, to_slot) ∷ []) (number, k))

-- Each other number follows, and the change's own becomes what the change says.
pub record ChangeFollows (change : Change) (before after : Nodes) : Type 0 where
  pub others : (n : ℕ) → nat_eq n (number_of change) ≡ false → NodeFollows (held before n) (held after n) (λ k. has_spot (slots_in change) (n, k))
  pub own : OwnFollows change before after

-- the directory of a new node isn't the node
pub made_apart : (path : Path) (fresh : HeldNode) (parent slot number : ℕ) (old new : Nodes) → Makes path fresh parent slot number old new → nat_eq parent number ≡ false
made_apart path fresh parent slot number old new m = by (nat_eq parent number) refl
  where
    by : (t : Bool) → nat_eq parent number ≡ t → nat_eq parent number ≡ false
    by false is = is
    by true is =
        let there : is_some (held old number) ≡ true = (λ i. is_some (held old (sym (eqb-true parent number is) i))) ∙ ap is_some m.entry.directory in
        let never : true ≡ false = sym there ∙ m.least.free in cc

made_follows : (path : Path) (fresh : HeldNode) (parent slot number : ℕ) (old new : Nodes) → slots_of (Some fresh) ≡ [] → Makes path fresh parent slot number old new → ChangeFollows (Made parent slot number) old new
made_follows path fresh parent slot number old new empty m = record {
  others = λ n other. subst (λ h. NodeFollows (held old n) h (λ k. at_one parent slot n k)) (sym (set_other m.between new number (Some fresh) m.node n other)) (gets_follow old m.between parent slot number m.name m.entry n);
  own = (ap slots_of (set_here m.between new number (Some fresh) m.node) ∙ empty, made_apart path fresh parent slot number old new m);
}

sized_follows : (path : Path) (size_after : ℕ → ℕ) (number size : ℕ) (old new : Nodes) → Sizes path size_after number size old new → ChangeFollows (Sized number size) old new
sized_follows path size_after number size old new s = record {
  others = λ n other. subst (λ h. NodeFollows (held old n) h (λ k. false)) (sym (set_other old new number (Some (File size)) s.node n other)) (node_stays (held old n));
  own = (s.before, s.was, set_here old new number (Some (File size)) s.node);
}

removed_follows : (path : Path) (parent slot number : ℕ) (old new : Nodes) → Removes path parent slot number old new → ChangeFollows (Removed parent slot number) old new
removed_follows path parent slot number old new m = record {
  others = λ n other. subst (λ h. NodeFollows (held old n) h (λ k. at_one parent slot n k)) (sym (set_other m.between new number None m.node n other)) (loses_follow old m.between parent slot number m.name m.entry n);
  own = set_here m.between new number None m.node;
}

pub renamed_follows : (from to : Path) (number parent slot into into_slot : ℕ) (old new : Nodes) → Renames from to number parent slot into into_slot old new → ChangeFollows (Renamed number parent slot into into_slot) old new
renamed_follows from to number parent slot into into_slot old new m = record { others = λ n other. each n; own = each number }
  where
    flat : (a b : Bool) → ((a || false) || (b || false)) ≡ (a || (b || false))
    flat true b = refl
    flat false b = refl

    each : (n : ℕ) → NodeFollows (held old n) (held new n) (λ k. has_spot ((parent, slot) ∷ (into, into_slot) ∷ []) (n, k))
    each n = node_by (held old n) (held new n) (λ k. at_one parent slot n k || at_one into into_slot n k) (λ k. has_spot ((parent, slot) ∷ (into, into_slot) ∷ []) (n, k))
        (λ k. flat (nat_eq parent n && nat_eq slot k) (nat_eq into n && nat_eq into_slot k))
        (node_both (held old n) (held m.entry.between n) (held new n) (λ k. at_one parent slot n k) (λ k. at_one into into_slot n k)
        (loses_follow old m.entry.between parent slot number m.name m.entry.left n) (gets_follow m.entry.between new into into_slot number m.into_name m.entry.came n))

module _ (before after : Nodes) where
  of_made : (path : Path) (fresh : HeldNode) (change : Change) → slots_of (Some fresh) ≡ [] → IsMade path fresh change before after → ChangeFollows change before after
  of_made path fresh (Made parent slot number) empty m = made_follows path fresh parent slot number before after empty m
  of_made path fresh (Sized number size) empty m = absurd m
  of_made path fresh (Removed parent slot number) empty m = absurd m
  of_made path fresh (Renamed number from from_slot to to_slot) empty m = absurd m

  of_sized : (path : Path) (size_after : ℕ → ℕ) (change : Change) → IsSized path size_after change before after → ChangeFollows change before after
  of_sized path size_after (Sized number size) m = sized_follows path size_after number size before after m
  of_sized path size_after (Made parent slot number) m = absurd m
  of_sized path size_after (Removed parent slot number) m = absurd m
  of_sized path size_after (Renamed number from from_slot to to_slot) m = absurd m

  of_removed : (path : Path) (change : Change) → IsRemoved path change before after → ChangeFollows change before after
  of_removed path (Removed parent slot number) m = removed_follows path parent slot number before after m
  of_removed path (Made parent slot number) m = absurd m
  of_removed path (Sized number size) m = absurd m
  of_removed path (Renamed number from from_slot to to_slot) m = absurd m

  of_renamed : (from to : Path) (change : Change) → IsRenamed from to change before after → ChangeFollows change before after
  of_renamed from to (Renamed number parent slot into into_slot) m = renamed_follows from to number parent slot into into_slot before after m
  of_renamed from to (Made parent slot number) m = absurd m
  of_renamed from to (Sized number size) m = absurd m
  of_renamed from to (Removed parent slot number) m = absurd m

  pub change_follows : (command : Command) (change : Change) → Does command change before after → ChangeFollows change before after
  change_follows (Mkdir path) change m = of_made path (Directory []) change refl m
  change_follows (Create path) change m = of_made path (File 0) change refl m
  change_follows (Write path offset bytes) change m = of_sized path (λ was. max was (offset + length bytes)) change m
  change_follows (Truncate path size) change m = of_sized path (λ _. size) change m
  change_follows (Remove path) change m = of_removed path change m
  change_follows (Rename from to) change m = of_renamed from to change m
  change_follows (Read path offset len) change m = absurd m
  change_follows (ListOf path) change m = absurd m
  change_follows (Stat path) change m = absurd m
  change_follows (Layout path) change m = absurd m
  change_follows Space change m = absurd m
  change_follows Checkpoint change m = absurd m
  change_follows End change m = absurd m
