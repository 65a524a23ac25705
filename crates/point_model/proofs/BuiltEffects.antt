-- An effect that is built of a change is the change's.
use Rattle.std.proofs.Common.{subst, ◌≡◌, ℕ, Bool, true, false, cond, List, [], ◌∷◌, ◌++◌, length, Some, None, refl, sym, ap, ◌∙◌, arith}
use Rattle.std.specs.Prelude.{◌&&◌, ◌||◌, nat_eq, max, ◌+◌, Option, option_map}
use Rattle.std.proofs.lemmas.Bool.{eqb-true}
use Rattle.block_format.specs.declared.inode.Inode.{Inode}
use Rattle.block_format.specs.declared.inode.Inode.TheVariants as inode
use Rattle.block_format.specs.declared.slot.Slot.{Slot}
use Rattle.block_format.specs.declared.slot.Slot.TheVariants.{Unused, Entry}
use Rattle.dir_slots.specs.Slots.{slot_at}
use Rattle.dirty_store.specs.declared.effect.Effect.{Effect}
use Rattle.dirty_store.specs.Laws.{changed_to, first_of_two}
use Rattle.node_table.specs.Changes.{Does, IsMade, IsSized, IsRemoved, IsRenamed, GetsEntry, LosesEntry}
use Rattle.node_table.specs.Held.{Nodes, held, slots_of, info}
use Rattle.node_table.specs.declared.change.Change.{Change}
use Rattle.node_table.specs.declared.change.Change.TheVariants.{Made, Sized, Removed, Renamed}
use Rattle.node_table.specs.declared.held.NodeInfo.TheVariants as infos
use Rattle.node_table.specs.declared.held.HeldNode.{HeldNode}
use Rattle.node_table.specs.declared.held.HeldNode.TheVariants.{File, Directory}
use Rattle.point_model.specs.Holding.{as_node}
use Rattle.point_model.specs.NodeChanges.{number_of, kind_given, slots_in, slot_changes, GivesName, BuiltIsOfChange}
use Rattle.point_model.specs.PointPlan.{told}
use Rattle.point_model.proofs.ChangeFollows.{set_here, set_other, gets_follow, made_apart, renamed_follows}
use Rattle.point_model.proofs.SlotsFollow.{first_within, slot_within, put_here, set_here as slot_here}
use Rattle.point_model.proofs.StagedNodes.{spot_parts}
use Rattle.tree_model.specs.Path.{Path, parent_of}
use Rattle.tree_model.specs.declared.command.Command.{Command}
use Rattle.tree_model.specs.declared.command.Command.TheVariants.{Mkdir, Create, Write, Truncate, Remove, Rename, Read, List as ListOf, Stat, Layout, Space, Checkpoint, End}
use Rattle.volume_model.specs.Places.{Spot, spot_eq, has_spot}

-- ---- names and inodes

same_last : (front : Path) (a b : List ℕ) → front ++ a ∷ [] ≡ front ++ b ∷ [] → a ≡ b
same_last [] a b e = cc
same_last (n ∷ ns) a b e = same_last ns a b (tail_same e)
  where
    tail_same : ◌≡◌ {A = Path} (n ∷ (ns ++ a ∷ [])) (n ∷ (ns ++ b ∷ [])) → ns ++ a ∷ [] ≡ ns ++ b ∷ []
    tail_same e = cc

-- an inode that tells a node's kind and size is the node's, with its slots
told_is : (x : Inode) (h : Option HeldNode) → told x ≡ option_map info h → as_node x (slots_of h) ≡ h
told_is inode.Unused None e = refl
told_is inode.Unused (Some h) e = cc
told_is (inode.File size height ptr) None e = cc
told_is (inode.File size height ptr) (Some (File own)) e = let same : size ≡ own = cc in ap (λ (s : ℕ). Some (File s)) same
told_is (inode.File size height ptr) (Some (Directory slots)) e = cc
told_is (inode.Directory width height ptr) None e = cc
told_is (inode.Directory width height ptr) (Some (File own)) e = cc
told_is (inode.Directory width height ptr) (Some (Directory slots)) e = refl

-- ---- what stands in the slots

gets_there : (old new : Nodes) (parent slot number : ℕ) (name : List ℕ) → GetsEntry old parent slot number name new → slot_at (slots_of (held new parent)) slot ≡ Entry number name
gets_there old new parent slot number name g =
    let slots = slots_of (held old parent) in
    ap (λ h. slot_at (slots_of h) slot) (set_here old new parent _ g.set) ∙ put_here slots slot (Entry number name) (omega (arith, g.first, first_within slots))

loses_there : (old new : Nodes) (parent slot number : ℕ) (name : List ℕ) → LosesEntry old parent slot number name new → slot_at (slots_of (held new parent)) slot ≡ Unused
loses_there old new parent slot number name l =
    let slots = slots_of (held old parent) in
    ap (λ h. slot_at (slots_of h) slot) (set_here old new parent _ l.set) ∙ slot_here slots slot Unused (slot_within slots name slot l.slot_is)

-- what a slot of a table has
abbrev there : Nodes → Spot → Slot
there nodes spot = slot_at (slots_of (held nodes spot.0)) spot.1

-- a slot that is the one touched has what stands there
at_spot : (nodes : Nodes) (own spot : Spot) (slot : Slot) → spot_eq own spot ≡ true → there nodes own ≡ slot → there nodes spot ≡ slot
at_spot nodes own spot slot is here = let parts = spot_parts own spot is in (λ i. slot_at (slots_of (held nodes (sym parts.0 i))) (sym parts.1 i)) ∙ here

-- of one touched slot
one_touched : (nodes : Nodes) (own spot : Spot) (slot : Slot) → there nodes own ≡ slot
    → cond (spot_eq own spot) (Some slot) None ≡ cond (spot_eq own spot || false) (Some (there nodes spot)) None
one_touched nodes own spot slot here = by (spot_eq own spot) refl
  where
    by : (t : Bool) → spot_eq own spot ≡ t → cond t (Some slot) None ≡ cond (t || false) (Some (there nodes spot)) None
    by true is = ap Some (sym (at_spot nodes own spot slot is here))
    by false is = refl

-- of two, where the second is the later one
two_touched : (nodes : Nodes) (first second spot : Spot) (slot : Slot) → (spot_eq second first ≡ false → there nodes first ≡ Unused) → there nodes second ≡ slot
    → first_of_two (cond (spot_eq second spot) (Some slot) None) (cond (spot_eq first spot) (Some Unused) None) ≡ cond (spot_eq first spot || (spot_eq second spot || false)) (Some (there nodes spot)) None
two_touched nodes first second spot slot emptied filled = by (spot_eq second spot) refl (spot_eq first spot) refl
  where
    apart : spot_eq second spot ≡ false → spot_eq first spot ≡ true → spot_eq second first ≡ false
    apart out is = let parts = spot_parts first spot is in (λ i. nat_eq second.0 (parts.0 i) && nat_eq second.1 (parts.1 i)) ∙ out

    by : (t : Bool) → spot_eq second spot ≡ t → (u : Bool) → spot_eq first spot ≡ u → first_of_two (cond t (Some slot) None) (cond u (Some Unused) None) ≡ cond (u || (t || false)) (Some (there nodes spot)) None
    by true is true also = ap Some (sym (at_spot nodes second spot slot is filled))
    by true is false also = ap Some (sym (at_spot nodes second spot slot is filled))
    by false is true also = ap Some (sym (at_spot nodes first spot Unused also (emptied (apart is also))))
    by false is false also = refl

-- ---- each change

module _ (old new : Nodes) where
  -- each touched slot is changed to what stands there
  abbrev AreChanged : Change → List ℕ → Type 0
  AreChanged change name = (spot : Spot) → changed_to (slot_changes change name) spot ≡ cond (has_spot (slots_in change) spot) (Some (there new spot)) None

  made_changed : (path : Path) (fresh : HeldNode) (change : Change) (name : List ℕ) → path ≡ parent_of path ++ name ∷ [] → IsMade path fresh change old new → AreChanged change name
  made_changed path fresh (Made parent slot number) name gives m = λ spot. one_touched new (parent, slot) spot (Entry number name) filled
    where
      filled : slot_at (slots_of (held new parent)) slot ≡ Entry number name
      filled =
          ap (λ h. slot_at (slots_of h) slot) (set_other m.between new number (Some fresh) m.node parent (made_apart path fresh parent slot number old new m))
          ∙ gets_there old m.between parent slot number m.name m.entry ∙ ap (Entry number) (same_last (parent_of path) m.name name (sym m.path_is ∙ gives))
  made_changed path fresh (Sized number size) name gives m = absurd m
  made_changed path fresh (Removed parent slot number) name gives m = absurd m
  made_changed path fresh (Renamed number from from_slot to to_slot) name gives m = absurd m

  sized_changed : (path : Path) (size_after : ℕ → ℕ) (change : Change) (name : List ℕ) → IsSized path size_after change old new → AreChanged change name
  sized_changed path size_after (Sized number size) name m = λ spot. refl
  sized_changed path size_after (Made parent slot number) name m = absurd m
  sized_changed path size_after (Removed parent slot number) name m = absurd m
  sized_changed path size_after (Renamed number from from_slot to to_slot) name m = absurd m

  removed_changed : (path : Path) (change : Change) (name : List ℕ) → IsRemoved path change old new → AreChanged change name
  removed_changed path (Removed parent slot number) name m = λ spot. one_touched new (parent, slot) spot Unused (emptied (nat_eq parent number) refl)
    where
      emptied : (t : Bool) → nat_eq parent number ≡ t → slot_at (slots_of (held new parent)) slot ≡ Unused
      emptied true is = ap (λ h. slot_at (slots_of h) slot) (ap (held new) (eqb-true parent number is) ∙ set_here m.between new number None m.node)
      emptied false is = ap (λ h. slot_at (slots_of h) slot) (set_other m.between new number None m.node parent is) ∙ loses_there old m.between parent slot number m.name m.entry
  removed_changed path (Made parent slot number) name m = absurd m
  removed_changed path (Sized number size) name m = absurd m
  removed_changed path (Renamed number from from_slot to to_slot) name m = absurd m

  renamed_changed : (from to : Path) (change : Change) (name : List ℕ) → to ≡ parent_of to ++ name ∷ [] → IsRenamed from to change old new → AreChanged change name
  renamed_changed from to (Renamed number parent slot into into_slot) name gives m = λ spot. two_touched new (parent, slot) (into, into_slot) spot (Entry number name) emptied filled
    where
      no_more : (a : Bool) → a ≡ false → (a || false) ≡ false
      no_more true e = cc
      no_more false e = refl

      emptied : spot_eq (into, into_slot) (parent, slot) ≡ false → slot_at (slots_of (held new parent)) slot ≡ Unused
      emptied apart =
          (gets_follow m.entry.between new into into_slot number m.into_name m.entry.came parent).slots.same slot (no_more (spot_eq (into, into_slot) (parent, slot)) apart)
          ∙ loses_there old m.entry.between parent slot number m.name m.entry.left

      filled : slot_at (slots_of (held new into)) into_slot ≡ Entry number name
      filled = gets_there m.entry.between new into into_slot number m.into_name m.entry.came ∙ ap (Entry number) (same_last (parent_of to) m.into_name name (sym m.to_is ∙ gives))
  renamed_changed from to (Made parent slot number) name gives m = absurd m
  renamed_changed from to (Sized number size) name gives m = absurd m
  renamed_changed from to (Removed parent slot number) name gives m = absurd m

  changed : (command : Command) (change : Change) (name : List ℕ) → GivesName command name → Does command change old new → AreChanged change name
  changed (Mkdir path) change name gives m = made_changed path (Directory []) change name gives m
  changed (Create path) change name gives m = made_changed path (File 0) change name gives m
  changed (Write path offset bytes) change name gives m = sized_changed path (λ was. max was (offset + length bytes)) change name m
  changed (Truncate path size) change name gives m = sized_changed path (λ _. size) change name m
  changed (Remove path) change name gives m = removed_changed path change name m
  changed (Rename from to) change name gives m = renamed_changed from to change name gives m
  changed (Read path offset len) change name gives m = absurd m
  changed (ListOf path) change name gives m = absurd m
  changed (Stat path) change name gives m = absurd m
  changed (Layout path) change name gives m = absurd m
  changed Space change name gives m = absurd m
  changed Checkpoint change name gives m = absurd m
  changed End change name gives m = absurd m

-- ---- the kind and size

module _ (old new : Nodes) (e : Effect) where
  -- the inode is that of the node after the change
  abbrev IsNodes : ℕ → Type 0
  IsNodes number = as_node e.inode (slots_of (held new number)) ≡ held new number

  told_here : (number : ℕ) (h : Option HeldNode) → held new number ≡ h → told e.inode ≡ option_map info h → IsNodes number
  told_here number h is tells = told_is e.inode (held new number) (tells ∙ sym (ap (option_map info) is))

  made_node : (path : Path) (fresh : HeldNode) (change : Change) → IsMade path fresh change old new → told e.inode ≡ Some (info fresh) → IsNodes (number_of change)
  made_node path fresh (Made parent slot number) m tells = told_here number (Some fresh) (set_here m.between new number (Some fresh) m.node) tells
  made_node path fresh (Sized number size) m tells = absurd m
  made_node path fresh (Removed parent slot number) m tells = absurd m
  made_node path fresh (Renamed number from from_slot to to_slot) m tells = absurd m

  sized_node : (path : Path) (size_after : ℕ → ℕ) (change : Change) → IsSized path size_after change old new → ((number size : ℕ) → change ≡ Sized number size → told e.inode ≡ Some (infos.File size)) → IsNodes (number_of change)
  sized_node path size_after (Sized number size) m tells = told_here number (Some (File size)) (set_here old new number (Some (File size)) m.node) (tells number size refl)
  sized_node path size_after (Made parent slot number) m tells = absurd m
  sized_node path size_after (Removed parent slot number) m tells = absurd m
  sized_node path size_after (Renamed number from from_slot to to_slot) m tells = absurd m

  removed_node : (path : Path) (change : Change) → IsRemoved path change old new → told e.inode ≡ kind_given (Remove path) change old → IsNodes (number_of change)
  removed_node path (Removed parent slot number) m tells = told_here number None (set_here m.between new number None m.node) tells
  removed_node path (Made parent slot number) m tells = absurd m
  removed_node path (Sized number size) m tells = absurd m
  removed_node path (Renamed number from from_slot to to_slot) m tells = absurd m

  renamed_node : (from to : Path) (change : Change) → IsRenamed from to change old new → told e.inode ≡ kind_given (Rename from to) change old → IsNodes (number_of change)
  renamed_node from to (Renamed number parent slot into into_slot) m tells = (renamed_follows from to number parent slot into into_slot old new m).own.kind e.inode (told_is e.inode (held old number) tells)
  renamed_node from to (Made parent slot number) m tells = absurd m
  renamed_node from to (Sized number size) m tells = absurd m
  renamed_node from to (Removed parent slot number) m tells = absurd m

  node_given : (command : Command) (change : Change) → Does command change old new → told e.inode ≡ kind_given command change old → IsNodes (number_of change)
  node_given (Mkdir path) change m tells = made_node path (Directory []) change m tells
  node_given (Create path) change m tells = made_node path (File 0) change m tells
  node_given (Write path offset bytes) change m tells = sized_node path (λ was. max was (offset + length bytes)) change m (λ number size is. tells ∙ ap (λ c. kind_given (Write path offset bytes) c old) is)
  node_given (Truncate path size) change m tells = sized_node path (λ _. size) change m (λ number to is. tells ∙ ap (λ c. kind_given (Truncate path size) c old) is)
  node_given (Remove path) change m tells = removed_node path change m tells
  node_given (Rename from to) change m tells = renamed_node from to change m tells
  node_given (Read path offset len) change m tells = absurd m
  node_given (ListOf path) change m tells = absurd m
  node_given (Stat path) change m tells = absurd m
  node_given (Layout path) change m tells = absurd m
  node_given Space change m tells = absurd m
  node_given Checkpoint change m tells = absurd m
  node_given End change m tells = absurd m

pub built_is_of_change : BuiltIsOfChange
built_is_of_change command change before after e does built = record {
  number = built.number;
  node = subst (λ (n : ℕ). as_node e.inode (slots_of (held after n)) ≡ held after n) (sym built.number) (node_given before after e command change does built.kind);
  cut = built.cut;
  slots = λ spot. ap (λ cs. changed_to cs spot) built.slots ∙ changed before after command change built.name built.gives does spot;
}
