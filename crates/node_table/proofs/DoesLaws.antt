-- A change that is done as it is said leaves nodes that hold the tree after it.
use Rattle.std.proofs.Common.{◌≡◌, ℕ, ◌+◌, true, List, [], ◌∷◌, ◌++◌, length, None, refl, sym, subst, ◌∙◌, arith, length-append, length-drop}
use Rattle.std.specs.Prelude.{max}
use Rattle.tree_model.specs.Path.{Path}
use Rattle.tree_model.specs.Shape.{IsTree}
use Rattle.tree_model.specs.Step.{step, refusal_of, is_change}
use Rattle.tree_model.specs.Tree.{Tree, resized, written}
use Rattle.tree_model.specs.declared.command.Command.{Command}
use Rattle.tree_model.specs.declared.command.Command.TheVariants.{Mkdir, Create, Write, Truncate, Remove, Rename, Read, List as ListOf, Stat, Layout, Space, Checkpoint, End}
use Rattle.tree_model.specs.declared.node.Content.TheVariants as contents
use Rattle.tree_model.proofs.ByteLaws.{length_resized}
use Rattle.node_table.specs.Changes.{Does, IsMade, IsSized, IsRemoved, IsRenamed}
use Rattle.node_table.specs.Held.{AreDirectories, Nodes, HoldsNodes}
use Rattle.node_table.specs.declared.change.Change.{Change}
use Rattle.node_table.specs.declared.change.Change.TheVariants.{Made, Sized, Removed, Renamed}
use Rattle.node_table.specs.declared.held.HeldNode.TheVariants.{File, Directory}
use Rattle.node_table.proofs.MakeLaws.{makes_hold}
use Rattle.node_table.proofs.PieceLaws.{step_is, make_pieces, write_pieces, truncate_pieces, remove_pieces, rename_pieces}
use Rattle.node_table.proofs.RemoveLaws.{removes_hold}
use Rattle.node_table.proofs.RenameTables.{renames_hold}
use Rattle.node_table.proofs.SizeLaws.{sizes_hold}

length_written : (bytes : List ℕ) (offset : ℕ) (more : List ℕ) → max (length bytes) (offset + length more) ≡ length (written bytes offset more)
length_written bytes offset more =
    sym (length-append (resized bytes offset ++ more) _ ∙ omega (arith, length-append (resized bytes offset) more, length_resized bytes offset, length-drop (offset + length more) bytes))

module _ (old new : Nodes) (tree : Tree) (h : IsTree tree) (holds : HoldsNodes old tree) (was : AreDirectories old) (now : AreDirectories new) where
  mkdir_holds : (path : Path) (change : Change) → refusal_of tree (Mkdir path) ≡ None → IsMade path (Directory []) change old new → HoldsNodes new (step tree (Mkdir path)).1
  mkdir_holds path (Made parent slot number) none m =
      let p = make_pieces tree path (contents.Directory 0) none in
      let e = step_is tree (Mkdir path) _ p.after in
      subst (HoldsNodes new) (sym e) (makes_hold old new tree h holds path (contents.Directory 0) (Directory []) (Mkdir path) p e now refl refl parent slot number m)
  mkdir_holds path (Sized number size) none m = absurd m
  mkdir_holds path (Removed parent slot number) none m = absurd m
  mkdir_holds path (Renamed number from from_slot to to_slot) none m = absurd m

  create_holds : (path : Path) (change : Change) → refusal_of tree (Create path) ≡ None → IsMade path (File 0) change old new → HoldsNodes new (step tree (Create path)).1
  create_holds path (Made parent slot number) none m =
      let p = make_pieces tree path (contents.File []) none in
      let e = step_is tree (Create path) _ p.after in
      subst (HoldsNodes new) (sym e) (makes_hold old new tree h holds path (contents.File []) (File 0) (Create path) p e now refl refl parent slot number m)
  create_holds path (Sized number size) none m = absurd m
  create_holds path (Removed parent slot number) none m = absurd m
  create_holds path (Renamed number from from_slot to to_slot) none m = absurd m

  write_holds : (path : Path) (offset byte : ℕ) (rest : List ℕ) (change : Change) → refusal_of tree (Write path offset (byte ∷ rest)) ≡ None
      → IsSized path (λ before. max before (offset + length (byte ∷ rest))) change old new → HoldsNodes new (step tree (Write path offset (byte ∷ rest))).1
  write_holds path offset byte rest (Sized number size) none m =
      let p = write_pieces tree path offset (byte ∷ rest) none in
      let e = step_is tree (Write path offset (byte ∷ rest)) _ p.1 in
      subst (HoldsNodes new) (sym e)
      (sizes_hold old new tree h holds path p.0 (written p.0.bytes offset (byte ∷ rest)) (λ before. max before (offset + length (byte ∷ rest))) number size m (length_written p.0.bytes offset (byte ∷ rest)))
  write_holds path offset byte rest (Made parent slot number) none m = absurd m
  write_holds path offset byte rest (Removed parent slot number) none m = absurd m
  write_holds path offset byte rest (Renamed number from from_slot to to_slot) none m = absurd m

  truncate_holds : (path : Path) (size : ℕ) (change : Change) → refusal_of tree (Truncate path size) ≡ None → IsSized path (λ _. size) change old new → HoldsNodes new (step tree (Truncate path size)).1
  truncate_holds path size (Sized number after) none m =
      let p = truncate_pieces tree path size none in
      let e = step_is tree (Truncate path size) _ p.1 in
      subst (HoldsNodes new) (sym e) (sizes_hold old new tree h holds path p.0 (resized p.0.bytes size) (λ _. size) number after m (sym (length_resized p.0.bytes size)))
  truncate_holds path size (Made parent slot number) none m = absurd m
  truncate_holds path size (Removed parent slot number) none m = absurd m
  truncate_holds path size (Renamed number from from_slot to to_slot) none m = absurd m

  remove_holds : (path : Path) (change : Change) → refusal_of tree (Remove path) ≡ None → IsRemoved path change old new → HoldsNodes new (step tree (Remove path)).1
  remove_holds path (Removed parent slot number) none m =
      let p = remove_pieces tree path none in
      let e = step_is tree (Remove path) _ p.after in
      subst (HoldsNodes new) (sym e) (removes_hold old new tree h holds was path (Remove path) p e now parent slot number m)
  remove_holds path (Sized number size) none m = absurd m
  remove_holds path (Made parent slot number) none m = absurd m
  remove_holds path (Renamed number from from_slot to to_slot) none m = absurd m

  rename_holds : (from to : Path) (change : Change) → refusal_of tree (Rename from to) ≡ None → IsRenamed from to change old new → HoldsNodes new (step tree (Rename from to)).1
  rename_holds from to (Renamed number parent slot into into_slot) none m =
      let p = rename_pieces tree from to none in
      let e = step_is tree (Rename from to) _ p.after in
      subst (HoldsNodes new) (sym e) (renames_hold old new tree h holds was from to (Rename from to) p e now number parent slot into into_slot m)
  rename_holds from to (Sized number size) none m = absurd m
  rename_holds from to (Made parent slot number) none m = absurd m
  rename_holds from to (Removed parent slot number) none m = absurd m

  pub does_hold : (command : Command) (change : Change) → is_change command ≡ true → refusal_of tree command ≡ None → Does command change old new → HoldsNodes new (step tree command).1
  does_hold (Mkdir path) change changes none m = mkdir_holds path change none m
  does_hold (Create path) change changes none m = create_holds path change none m
  does_hold (Write path offset []) change changes none m = cc
  does_hold (Write path offset (byte ∷ rest)) change changes none m = write_holds path offset byte rest change none m
  does_hold (Truncate path size) change changes none m = truncate_holds path size change none m
  does_hold (Remove path) change changes none m = remove_holds path change none m
  does_hold (Rename from to) change changes none m = rename_holds from to change none m
  does_hold (Read path offset len) change changes none m = absurd m
  does_hold (ListOf path) change changes none m = absurd m
  does_hold (Stat path) change changes none m = absurd m
  does_hold (Layout path) change changes none m = absurd m
  does_hold Space change changes none m = absurd m
  does_hold Checkpoint change changes none m = absurd m
  does_hold End change changes none m = absurd m
