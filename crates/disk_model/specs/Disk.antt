-- What a disk holds, what a power cut may leave of it, and what its calls do.
use Rattle.std.specs.Prelude.{◌≡◌, ◌⊎◌, ◌==◌, ◌||◌, nat_lt, if◌then◌else◌, ℕ, Bool, false, List, [], ◌∷◌, length, replicate, slice_get, slice_set}
use Rattle.vol_numbers.specs.Block.{zero_block}
use Rattle.vol_numbers.specs.Cause.{raised}
use Rattle.vol_numbers.specs.declared.block.Block.{Block}
use Rattle.disk_model.specs.declared.pick.Pick.{Pick}

-- the blocks, and in ascending order the numbers of those written since the last sync that succeeded
pub record State : Type 0 where
  pub contents : List Block
  pub unsynced : List ℕ

-- the numbers with one more, in ascending order
abbrev pub included : ℕ → List ℕ → List ℕ
included at [] = at ∷ []
included at (n ∷ ns) = if at == n then n ∷ ns else if nat_lt at n then at ∷ n ∷ ns else n ∷ included at ns

-- whether a number is one of them
abbrev pub is_among : List ℕ → ℕ → Bool
is_among [] at = false
is_among (n ∷ ns) at = at == n || is_among ns at

-- zero blocks, none of them unsynced
abbrev pub blank : ℕ → State
blank n = record { contents = replicate n zero_block; unsynced = [] }

-- with a block written, which is unsynced
abbrev pub written : ℕ → Block → State → State
written at block s = record { contents = slice_set s.contents at block; unsynced = included at s.unsynced }

-- with nothing unsynced
abbrev pub synced : State → State
synced s = record { contents = s.contents; unsynced = [] }

-- What a power cut may leave: as many blocks, and the same ones but for those that are unsynced, where anything may stand.
pub record IsImage (s : State) (image : List Block) : Type 0 where
  pub as_long : length image ≡ length s.contents
  pub agrees : (at : ℕ) → is_among s.unsynced at ≡ false → slice_get image at ≡ slice_get s.contents at

-- each image of the state has P
abbrev pub EachImage : (List Block → Type 0) → State → Type 0
EachImage P s = (image : List Block) → IsImage s image → P image

-- the blocks with these in their places, the first of them first
abbrev pub picked : List Pick → List Block → List Block
picked [] blocks = blocks
picked (pick ∷ picks) blocks = picked picks (slice_set blocks pick.at pick.block)

-- a moment during a write that is done, cut short or failed: the block holds any bytes, and is unsynced
pub record DuringWrite (at : ℕ) (before s : State) : Type 0 where
  pub block : Block
  pub is : s ≡ written at block before

-- a moment during a sync: nothing is synced, or all
abbrev pub DuringSync : State → State → Type 0
DuringSync before s = (s ≡ before) ⊎ (s ≡ synced before)

-- a moment during a write and a sync after it
abbrev pub DuringWriteThrough : ℕ → Block → State → State → Type 0
DuringWriteThrough at block before s = DuringWrite at before s ⊎ (s ≡ synced (written at block before))

-- the block that was read last, its number, and how many were read
pub record Given : Type 0 where
  pub at : ℕ
  pub block : Block
  pub count : ℕ

-- one block more was read
pub record Gives (old new : Given) (at : ℕ) (block : Block) : Type 0 where
  pub number : new.at ≡ at
  pub bytes : new.block ≡ block
  pub counted : new.count ≡ raised old.count
