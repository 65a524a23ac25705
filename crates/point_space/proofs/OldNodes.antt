-- The nodes of an image that stands for something, where nothing is staged.
use Rattle.std.proofs.Common.{◌≡◌, ℕ, true, List, [], Some, refl, sym, ap, ◌∙◌}
use Rattle.std.specs.Prelude.{option_map}
use Rattle.vol_numbers.specs.declared.block.Block.{Block}
use Rattle.root_switch.specs.Current.{root_of_image}
use Rattle.block_format.specs.Inode.{inode_shape}
use Rattle.block_format.specs.declared.inode.Inode.{Inode}
use Rattle.block_format.specs.declared.inode.Inode.TheVariants.{Unused, File, Directory}
use Rattle.block_tree.specs.Tree.{blocks_in}
use Rattle.dirty_store.specs.Overlay.{clean}
use Rattle.image_model.specs.Holds.{HoldsTree}
use Rattle.image_model.specs.Met.{NoFaults}
use Rattle.image_model.specs.Seen.{seen}
use Rattle.image_model.specs.Stands.{Stands, node_of, layout_in}
use Rattle.image_model.specs.Walk.{is_used, nodes_at}
use Rattle.image_model.proofs.Area.{no_faults as none_found}
use Rattle.image_model.proofs.HeldLaws.{tree_is_held}
use Rattle.image_model.proofs.NodeWalk.{walk_good}
use Rattle.image_model.proofs.StandingTree.{shape_there, standing_tree}
use Rattle.node_table.specs.Held.{info, info_of}
use Rattle.point_model.specs.Holding.{HoldsMachine, inode_before, node_now, as_node, slots_now}
use Rattle.point_model.specs.PointPlan.{told}
use Rattle.point_model.specs.Staging.{AtRest}
use Rattle.point_space.specs.Needs.{OldInodeBlocksAre}
use Rattle.point_space.proofs.InodeBlocks.{blocks_are}
use Rattle.tree_model.specs.declared.node.Content.TheVariants as content
use Rattle.tree_model.specs.declared.node.Node.{Node}
use Rattle.volume_model.specs.Machine.{Machine, Stored, at_point}

same_node : (a b : Node) → Some a ≡ Some b → a ≡ b
same_node a b e = cc

-- ---- inodes within the rules

module _ (old : List Block) (s : Stored) (stands : Stands old s) where
  pub no_fault : NoFaults (seen old).met
  no_fault = none_found (layout_in old) (seen old).met (seen old).met stands.sound.pointers

  pub shape_before : (n : ℕ) → inode_shape (inode_before old n) ≡ true
  unfolding seen no_fault
  shape_before n = by (inode_before old n) refl
    where
      used : is_used (inode_before old n) ≡ true → inode_shape (inode_before old n) ≡ true
      used is = shape_there (nodes_at (blocks_in old) (root_of_image old).inode_index) (walk_good (blocks_in old) (root_of_image old).inode_index no_fault).shapes n is

      by : (x : Inode) → inode_before old n ≡ x → inode_shape (inode_before old n) ≡ true
      by Unused is = ap inode_shape is
      by (File size height ptr) is = used (ap is_used is)
      by (Directory width height ptr) is = used (ap is_used is)

-- ---- what they tell

module _ (rest : AtRest) (old : List Block) (s : Stored) (stands : Stands old s) where
  -- the machine just after the point
  abbrev pub resting : Machine
  resting = at_point s.layout s.tree s.places s.point []

  pub holds_resting : HoldsMachine old clean resting
  holds_resting = rest old s [] stands

  held : HoldsTree (seen old) s.tree
  held = tree_is_held old s stands

  pub told_before : (n : ℕ) → told (inode_before old n) ≡ option_map info (node_now old clean n)
  told_before n = by (inode_before old n) refl
    where
      by : (x : Inode) → inode_before old n ≡ x → told (inode_before old n) ≡ option_map info (node_now old clean n)
      by Unused is = ap told is ∙ sym (ap (λ (x : Inode). option_map info (as_node x (slots_now old clean n))) is)
      by (File size height ptr) is = ap told is ∙ sym (ap (λ (x : Inode). option_map info (as_node x (slots_now old clean n))) is)
      by (Directory width height ptr) is =
          let has = held.others n (ap is_used is) in
          let seen_node : node_of (seen old) has.1.number (Directory width height ptr) ≡ Some has.1 =
          ap (node_of (seen old) has.1.number) (sym is ∙ sym (ap (inode_before old) has.3)) ∙ held.inodes has.0 has.1 has.2 in
          let one : record { number = has.1.number; content = content.Directory width } ≡ has.1 = same_node _ has.1 seen_node in
          ap told is ∙ ap (λ (x : Node). Some (info_of x.content)) one ∙ sym (holds_resting.nodes.each has.0 has.1 has.2) ∙ ap (λ (k : ℕ). option_map info (node_now old clean k)) has.3

pub old_inode_blocks_are : AtRest → OldInodeBlocksAre
old_inode_blocks_are rest old s inodes stands are =
    blocks_are (node_now old clean) s.tree inodes (standing_tree old s stands) (holds_resting rest old s stands).nodes (λ n. ap told (are n) ∙ told_before rest old s stands n)
