-- Laws of what an image stands for, and of what may be written without a change of that.
use Rattle.std.specs.Prelude.{false, ◌≡◌, ◌<◌, ◌≤◌, ℕ, ◌+◌, ◌*◌, List, [], ◌∷◌, ◌++◌, length, get_or, ◌-◌, true}
use Rattle.vol_numbers.specs.Layout.{Layout, count_blocks, log_start}
use Rattle.block_format.specs.Homes.{home_bit}
use Rattle.vol_numbers.specs.declared.block.Block.{Block}
use Rattle.disk_model.specs.Disk.{State, IsImage, is_among}
use Rattle.root_switch.specs.Switch.{HasOldRoot}
use Rattle.root_switch.specs.Current.{root_of_image, FitsImage}
use Rattle.tree_model.specs.declared.command.Command.{Command}
use Rattle.space_account.specs.Charge.{need, pending}
use Rattle.tree_model.specs.Step.{step}
use Rattle.tree_model.specs.declared.reply.Reply.TheVariants as reply
use Rattle.volume_model.specs.Accepted.{Accepts}
use Rattle.volume_model.specs.Machine.{Stored}
use Rattle.volume_model.specs.Done.{mounted}
use Rattle.volume_model.specs.Space.{free_blocks, metadata_blocks}
use Rattle.image_model.specs.Findings.{free_in, is_in_area}
use Rattle.image_model.specs.Fresh.{IsFresh, fresh_stored}
use Rattle.image_model.specs.Live.{IsLive, KeepsLive, OpensNoLive}
use Rattle.image_model.specs.Met.{metas}
use Rattle.image_model.specs.Next.{HasNext, and_command}
use Rattle.image_model.specs.Seen.{seen}
use Rattle.image_model.specs.Stands.{Stands, layout_in, used_in}

-- An image stands for one thing at most.
abbrev pub OneMeaning : Type 0
OneMeaning = (image : List Block) (s t : Stored) → Stands image s → Stands image t → s ≡ t

-- An image with the same root and the same live blocks stands for the same.
abbrev pub KeptMeaning : Type 0
KeptMeaning = (old new : List Block) (s : Stored) → KeepsLive old new → Stands old s → Stands new s

-- Where no live block is unsynced, nor the selector and the root that it names, each image stands for what the contents stand for.
abbrev pub ImagesStand : Type 0
ImagesStand = (state : State) (image : List Block) (s : Stored) → OpensNoLive state → IsImage state image → Stands state.contents s → Stands image s

-- With a record behind the log and a root that counts it, an image stands for the same with that record more, where it is accepted.
abbrev pub NextStands : Type 0
NextStands = (old new : List Block) (command : Command) (s : Stored) → HasNext old new command → Stands old s
    → Accepts (free_blocks (layout_in old) s.tree s.places) s.tree 0 (s.records ++ command ∷ []) → Stands new (and_command s command)

-- Records are accepted with one more exactly where they are accepted, the tree after them does that command, and what is pending and its need
-- are together at most free.
pub record AcceptedMore : Type 0 where
  pub more : (free : ℕ) (s : Stored) (command : Command) → Accepts free s.tree 0 s.records → (step (mounted s).tree command).0 ≡ reply.Done → pending s.records + need command ≤ free
      → Accepts free s.tree 0 (s.records ++ command ∷ [])
  pub last : (free : ℕ) (s : Stored) (command : Command) → Accepts free s.tree 0 (s.records ++ command ∷ [])
      → ((step (mounted s).tree command).0 ≡ reply.Done) × (pending s.records + need command ≤ free)
  pub front : (free : ℕ) (s : Stored) (command : Command) → Accepts free s.tree 0 (s.records ++ command ∷ []) → Accepts free s.tree 0 s.records

-- What a point writes isn't live: the selector and the slots, blocks of the area with count 0, the homes that the root doesn't name, and what of
-- the log and the spare blocks is behind the records.
pub record WritesNoLive (image : List Block) : Type 0 where
  pub slots : (b : ℕ) → b < 3 → IsLive image b → ⊥
  pub free : (b : ℕ) → is_in_area (layout_in image) b ≡ true → get_or (seen image).kept b 0 ≡ 0 → IsLive image b → ⊥
  pub home : (i : ℕ) → i < count_blocks (layout_in image) → IsLive image (3 + 2 * i + (1 - home_bit (root_of_image image).homes i)) → ⊥
  pub log : (k : ℕ) → used_in image ≤ k → k < (layout_in image).log_blocks + 32 → IsLive image (log_start (layout_in image) + k) → ⊥

-- That is so of each image whose root fits it.
abbrev pub NotLive : Type 0
NotLive = (image : List Block) → FitsImage image → WritesNoLive image

-- Where no live block is unsynced, an image that has the root of before stands for what the contents stand for, also in the middle of a switch.
abbrev pub OldRootStands : Type 0
OldRootStands = (state : State) (slot : ℕ) (image : List Block) (s : Stored) → Stands state.contents s → ((b : ℕ) → IsLive state.contents b → is_among state.unsynced b ≡ false)
    → HasOldRoot state slot image → Stands image s

-- The blocks of the area with count 0 are as many as the formula over the tree and its places says.
abbrev pub FreeIsCounted : Type 0
FreeIsCounted = (image : List Block) (s : Stored) → Stands image s → free_in (layout_in image) (seen image).kept ≡ free_blocks (layout_in image) s.tree s.places

-- The walk meets as many pointers to metadata as the formula over the tree and its places has blocks of metadata.
abbrev pub MetadataIsMet : Type 0
MetadataIsMet = (image : List Block) (s : Stored) → Stands image s → metadata_blocks s.tree s.places ≡ length (metas (seen image).met)

-- What a format leaves stands for the root directory alone.
abbrev pub FreshStands : Type 0
FreshStands = (g : Layout) (image : List Block) → IsFresh g image → Stands image (fresh_stored g)
