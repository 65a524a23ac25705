-- Of private functions: what is found of a root behind it, but for the log.
use Rattle.std.specs.Prelude.{◌≡◌, ◌*◌, false, List, length, replicate}
use Rattle.vol_numbers.specs.Layout.{Layout, count_blocks}
use Rattle.vol_numbers.specs.declared.block.Block.{Block}
use Rattle.block_format.specs.Root.{root_of}
use Rattle.block_format.specs.declared.root.RootBody.{RootBody}
use Rattle.count_pairs.specs.Homes.{blocks_in}
use Rattle.count_pairs.specs.Table.{IsKept}
use Rattle.image_model.specs.Findings.{free_in}
use Rattle.image_model.specs.Met.{metas}
use Rattle.image_model.specs.Seen.{seen}
use Rattle.image_model.specs.Sound.{AllGood}
use Rattle.name_check.specs.Seeing.{HoldsDirectories}
use Rattle.log_check.specs.Holding.{AreNodes, FindsNoneLost}
use Rattle.fs_check.specs.declared.looking.Looked.{Looked}

-- What was found is what is seen of the image.
pub record IsLookedAt (image : List Block) (body : RootBody) (l : Looked) : Type 0 where
  pub nodes : (seen image).nodes ≡ l.nodes
  pub directories : HoldsDirectories (seen image) l.directories
  pub counts : l.counts.counts ≡ (seen image).kept
  pub kept : IsKept (blocks_in image) body.homes.bytes l.counts
  -- where each block of metadata has one pointer
  pub metadata : AllGood (root_of body).layout (seen image).met (seen image).met → l.metadata ≡ length (metas (seen image).met)

-- On every disk: the nodes have their directories, none is lost, and each count block is there and untouched.
pub record IsWellFormed (g : Layout) (l : Looked) : Type 0 where
  pub are : AreNodes l.nodes l.directories
  pub none_lost : FindsNoneLost l.nodes l.directories
  pub long : length l.counts.counts ≡ 1024 * count_blocks g
  pub untouched : l.counts.touched ≡ replicate (count_blocks g) false
  pub free : l.free ≡ free_in g l.counts.counts
