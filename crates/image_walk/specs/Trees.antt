-- Of private functions: how far a walk over the blocks of nodes has come.
use Rattle.std.specs.Prelude.{◌≡◌, ℕ, nat_lt, if◌then◌else◌, List, ◌++◌, Result, Ok, Err}
use Rattle.vol_numbers.specs.Layout.{Layout}
use Rattle.block_tree.specs.Tree.{Blocks, index_at}
use Rattle.image_model.specs.Met.{Met, page, content}
use Rattle.image_model.specs.Walk.{met_at, empty_at, tops_met, leaves_met}
use Rattle.image_walk.specs.declared.fault.WalkFault.{WalkFault}
use Rattle.image_walk.specs.declared.node_block.NodeBlock.{NodeBlock}
use Rattle.image_walk.specs.declared.reached.Owner.{Owner}
use Rattle.image_walk.specs.declared.reached.Reached.{Reached}
use Rattle.image_walk.specs.Going.{Goes, EndsBy}
use Rattle.image_walk.specs.Kept.{pages_of, lasts_of}

-- a block of the owner at a place
abbrev pub owner_met : Owner → ℕ → ℕ → Met
owner_met o = if o.is_directory then page o.number else content o.number

-- a pointer of the owner's place
abbrev pub place_met : Owner → ℕ → ℕ → List Met
place_met o place p = met_at (owner_met o place) (nat_lt place o.blocks) p

-- a top index, where there is one: its pointers, and those of its leaves
abbrev pub top_met : Blocks → Owner → ℕ → List Met
top_met read o b = empty_at read b ++ (tops_met o.blocks 0 (index_at read b) ++ leaves_met read (owner_met o) o.blocks 0 (index_at read b))

-- All of this was met, nothing is wrong with it, and the pages and these last blocks were kept.
pub record Passes (g : Layout) (old new : Reached) (ms : List Met) (lasts : List NodeBlock) : Type 0 where
  pub marks : Goes g old.marks new.marks ms
  pub pages : new.pages.items ≡ old.pages.items ++ pages_of ms
  pub kept : new.lasts.items ≡ old.lasts.items ++ lasts

-- so it is, or the walk over this ended so
abbrev pub PassesOver : {T : Type 0} → Layout → Reached → Reached → List Met → List NodeBlock → Result T WalkFault → Type 0
PassesOver g old new ms lasts (Ok value) = Passes g old new ms lasts
PassesOver g old new ms lasts (Err fault) = EndsBy g old.marks ms fault

-- the same of an owner's blocks
abbrev pub OwnerPasses : {T : Type 0} → Layout → Owner → Reached → Reached → List Met → Result T WalkFault → Type 0
OwnerPasses g o old new ms result = PassesOver g old new ms (lasts_of o.blocks ms) result

-- This much of the whole was met, and that is still to be met. The same holds of the last blocks that are kept.
pub record Stretch (g : Layout) (old now : Reached) (whole rest : List Met) (all left : List NodeBlock) : Type 0 where
  pub front : List Met
  pub lasts : List NodeBlock
  pub split : front ++ rest ≡ whole
  pub parted : lasts ++ left ≡ all
  pub passes : Passes g old now front lasts
