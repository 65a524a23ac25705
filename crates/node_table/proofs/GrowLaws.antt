-- How many slots a directory has after a change, and that its width is as many.
use Rattle.std.proofs.Common.{◌≡◌, ℕ, true, false, List, [], ◌∷◌, ◌++◌, length, Some, None, refl, sym, ap, subst, ◌∙◌, arith, length-set}
use Rattle.std.specs.Prelude.{Option, is_some, max}
use Rattle.std.specs.Option.{option_map}
use Rattle.block_format.specs.declared.slot.Slot.{Slot}
use Rattle.block_format.specs.declared.slot.Slot.TheVariants.{Unused, Entry}
use Rattle.dir_slots.specs.Slots.{number_in, slot_of, first_unused, with_slot, without_slot}
use Rattle.tree_model.specs.Path.{Path}
use Rattle.tree_model.specs.Shape.{IsTree, shape_at, shape_of}
use Rattle.tree_model.specs.Step.{step}
use Rattle.tree_model.specs.Tree.{Tree, node_at, entries_of, is_used, holds_entries}
use Rattle.tree_model.specs.declared.command.Command.{Command}
use Rattle.tree_model.specs.declared.node.Node.{Node}
use Rattle.tree_model.specs.declared.node.Content.{Content}
use Rattle.tree_model.specs.declared.node.Content.TheVariants as contents
use Rattle.tree_model.proofs.StepWidths.{keeps_tree, widths_are_greatest, new_directories_are_empty}
use Rattle.node_table.specs.Counts.{count}
use Rattle.node_table.specs.Held.{AreDirectories, Nodes, HoldsNodes, held, info, slots_of}
use Rattle.node_table.specs.declared.held.HeldNode.{HeldNode}
use Rattle.node_table.specs.declared.held.HeldNode.TheVariants.{File, Directory}
use Rattle.node_table.specs.declared.held.NodeInfo.TheVariants as infos
use Rattle.node_table.proofs.CountLaws.{count_is}
use Rattle.node_table.proofs.ShapeLaws.{HoldsShape, kind, number_of}
use Rattle.node_table.proofs.WalkLaws.{node_of}
use Rattle.node_table.proofs.SlotCounts.{count_within, count_with, length_with, count_without}

-- A directory has as many slots as it had, and as it has entries.
pub record Grown (slots : List Slot) (o : Option HeldNode) : Type 0 where
  pub now : List Slot
  pub there : o ≡ Some (Directory now)
  pub long : length now ≡ max (length slots) (count now)

pub grown_same : (slots : List Slot) → Grown slots (Some (Directory slots))
grown_same slots = record { now = slots; there = refl; long = omega (arith, count_within slots) }

pub grown_put : (slots : List Slot) (number : ℕ) (name : List ℕ) → Grown slots (Some (Directory (with_slot slots (first_unused slots) (Entry number name))))
grown_put slots number name = record { now = with_slot slots (first_unused slots) (Entry number name); there = refl; long = omega (arith, length_with slots number name, count_with slots number name) }

pub grown_taken : (slots : List Slot) (name : List ℕ) (i : ℕ) → slot_of slots name ≡ Some i → Grown slots (Some (Directory (without_slot slots (Some i))))
grown_taken slots name i e = record { now = without_slot slots (Some i); there = refl; long = omega (arith, length-set slots i Unused, count_without slots name i e, count_within slots) }

pub grown_moved : (slots : List Slot) (fname : List ℕ) (i number : ℕ) (name : List ℕ)
    → Grown slots (Some (Directory (with_slot (without_slot slots (Some i)) (first_unused (without_slot slots (Some i))) (Entry number name))))
grown_moved slots fname i number name =
    let left : List Slot = without_slot slots (Some i) in
    record { now = with_slot left (first_unused left) (Entry number name); there = refl; long = omega (arith, length-set slots i Unused, length_with left number name, count_with left number name) }

pub dir_of : (o : Option HeldNode) → kind o ≡ Some true → o ≡ Some (Directory (slots_of o))
dir_of None e = cc
dir_of (Some (File size)) e = let clash : Some false ≡ Some true = e in cc
dir_of (Some (Directory slots)) e = refl

-- a directory that is left as it was
pub grown_kept : (o p : Option HeldNode) → kind o ≡ Some true → p ≡ o → Grown (slots_of o) p
grown_kept o p e same = subst (Grown (slots_of o)) (sym (same ∙ dir_of o e)) (grown_same (slots_of o))

directory_content : (c : Content) → holds_entries c ≡ true → (width : ℕ) × (c ≡ contents.Directory width)
directory_content (contents.File bytes) e = cc
directory_content (contents.Directory width) e = (width, refl)

-- the width of a directory
pub width_at : (tree : Tree) (q : Path) (n : ℕ) → shape_at tree q ≡ Some (n, true) → (width : ℕ) × (node_at tree q ≡ Some (record { number = n; content = contents.Directory width }))
width_at tree q n e =
    let d = node_of (node_at tree q) n true e in
    let c = directory_content d.0.content d.3 in
    (c.0, d.1 ∙ (λ i. Some (record { number = d.2 i; content = c.1 i })))

some_numbered : (o : Option Node) → is_some (number_of (shape_of o)) ≡ is_some o
some_numbered None = refl
some_numbered (Some node) = refl

module _ (old new : Nodes) (tree : Tree) (h : IsTree tree) (holds : HoldsNodes old tree) (command : Command) (after : Tree) (e : (step tree command).1 ≡ after) (shape : HoldsShape new (shape_at after)) (directories : AreDirectories new) where
  is_tree : IsTree after
  is_tree = subst IsTree e (keeps_tree tree command h)

  count_now : (q : Path) (n : ℕ) (slots : List Slot) → shape_at after q ≡ Some (n, true) → held new n ≡ Some (Directory slots) → count slots ≡ length (entries_of after q)
  count_now q n slots is there =
      count_is slots after q (directories n slots there).names is_tree.ordered
      (λ name. ap is_some (ap (λ o. number_in (slots_of o) name) (sym there) ∙ shape.slots q n true name is) ∙ some_numbered (node_at after (q ++ name ∷ [])))

  -- the node of a directory that was one before
  pub width_old : (p q : Path) (n before now : ℕ) → node_at tree p ≡ Some (record { number = n; content = contents.Directory before }) → node_at after q ≡ Some (record { number = n; content = contents.Directory now })
      → Grown (slots_of (held old n)) (held new n) → option_map info (held new n) ≡ Some (infos.Directory now)
  width_old p q n before now was is g =
      let was_long : length (slots_of (held old n)) ≡ before = known (held old n) (holds.each p (record { number = n; content = contents.Directory before }) was) in
      let greatest : now ≡ max before (length (entries_of after q)) =
      widths_are_greatest tree command h p q n before now was (ap (λ t. node_at t q) e ∙ is) ∙ ap (λ t. max before (length (entries_of t q))) e in
      let entries : count g.now ≡ length (entries_of after q) = count_now q n g.now (ap shape_of is) g.there in
      let long : length g.now ≡ now = omega (arith, g.long) in
      ap (option_map info) g.there ∙ ap (λ w. Some (infos.Directory w)) long
    where
      known : (o : Option HeldNode) → option_map info o ≡ Some (infos.Directory before) → length (slots_of o) ≡ before
      known None k = cc
      known (Some (File size)) k = cc
      known (Some (Directory slots)) k = let same : infos.Directory (length slots) ≡ infos.Directory before = cc in cc

  -- the same, by its kind before
  pub width_kept : (p q : Path) (n now : ℕ) → shape_at tree p ≡ Some (n, true) → node_at after q ≡ Some (record { number = n; content = contents.Directory now }) → Grown (slots_of (held old n)) (held new n)
      → option_map info (held new n) ≡ Some (infos.Directory now)
  width_kept p q n now was is g = let w = width_at tree p n was in width_old p q n w.0 now w.1 is g

  -- the node of a directory that is new
  pub width_new : (q : Path) (n now : ℕ) → is_used tree n ≡ false → node_at after q ≡ Some (record { number = n; content = contents.Directory now }) → held new n ≡ Some (Directory []) → option_map info (held new n) ≡ Some (infos.Directory now)
  width_new q n now unused is there =
      let none : now ≡ 0 = (new_directories_are_empty tree command h q n now unused (ap (λ t. node_at t q) e ∙ is)).1 in
      ap (option_map info) there ∙ ap (λ w. Some (infos.Directory w)) (sym none)
