-- Where the phases find nothing, each used number has one path.
use Rattle.std.proofs.Common.{◌≡◌, ℕ, List, [], None}
use Rattle.vol_numbers.specs.Layout.{Layout, count_blocks}
use Rattle.root_switch.specs.Current.{root_of_image}
use Rattle.block_format.specs.declared.inode.Inode.{Inode}
use Rattle.block_tree.specs.Tree.{Blocks, blocks_in}
use Rattle.image_model.specs.Findings.{walk_finding, mixed_finding, body_finding}
use Rattle.image_model.specs.Nodes.{tail_finding, directory_finding, tree_finding}
use Rattle.image_model.specs.Seen.{Seen, seen, seen_from}
use Rattle.image_model.specs.Sound.{IsNamed, IsSound}
use Rattle.image_model.specs.Stands.{layout_in}
use Rattle.image_model.specs.Exact.{NoneFound}
use Rattle.image_model.proofs.FindingLaws.{IsSoundButNames, none_found, then_first, then_second}
use Rattle.image_model.proofs.NamedLaws.{named_where_none}
use Rattle.image_model.proofs.NodesSeen.{known}
use Rattle.image_model.proofs.Strays.{none_stray}

module _ (read : Blocks) (at : ℕ) (homes : List ℕ) (count : ℕ) (g : Layout) (none : body_finding g (seen_from read at homes count) ≡ None) where
  abbrev s : Seen
  s = seen_from read at homes count

  sound : IsSoundButNames g s
  sound = none_found g s (none_stray read at) none

  tree_none : tree_finding s ≡ None
  unfolding body_finding
  tree_none =
      let a = then_second (walk_finding g [] s.met) _ none in
      let b = then_second (mixed_finding s.met 0 g.blocks) _ a in
      let c = then_second (tail_finding s) _ b in
      let d = then_second (directory_finding s) _ c in
      then_first (tree_finding s) _ d

  pub all_sound : IsSound g s
  all_sound = record { pointers = sound.pointers; tails = sound.tails; directories = sound.directories; named = named_where_none s (known read at homes count g sound.pointers sound.directories) tree_none; counts = sound.counts; reserve = sound.reserve }

pub none_found_sound : NoneFound
unfolding seen
none_found_sound image none = all_sound (blocks_in image) (root_of_image image).inode_index (root_of_image image).homes (count_blocks (layout_in image)) (layout_in image) none
