-- What a medium in memory ends as, once a `&mut` to one of its disks has ended.
use Rattle.std.specs.Prelude.{◌≡◌, ◌≢◌, ℕ, List, Option, Some, None, OnSome, slice_get, true, false}
use Rattle.std.specs.Borrow.{Lends, LendsSo, MutBor, Fml}
use Rattle.std.specs.Vec.{with_item}
use Rattle.disk_model.specs.Media.{image_named, is_name_of}
use Rattle.mem_disk.specs.Told.{state_of}
use Rattle.mem_disk.specs.declared.mem_disk.MemDisk.{MemDisk}
use Rattle.mem_media.specs.Named.{fixed_of}
use Rattle.mem_media.specs.declared.mem_media.MemMedia.{MemMedia}
use Rattle.mem_media.specs.declared.named.Named.{Named}
use Rattle.mem_disk.specs.contracts.mem_disk.MemDisk.{the_row as disk_row}
use Rattle.mem_media.specs.contracts.mem_media.MemMedia.{the_row}

-- with the open image set to a disk
abbrev pub with_open : MemMedia → MemDisk → MemMedia
with_open m d = record m { disk = d }

abbrev pub with_named : MemMedia → ℕ → Option Named → MemDisk → MemMedia
with_named m i None d = m
with_named m i (Some n) d = record m { others = with_item m.others i (record n { disk = d }) }

-- with the image at a place of its list set to a disk
abbrev pub with_other : MemMedia → ℕ → MemDisk → MemMedia
with_other m i d = with_named m i (slice_get m.others.items i) d

abbrev pub LendsOpen : MutBor MemMedia → MutBor MemDisk → Fml
LendsOpen m r = Lends the_row disk_row m r (with_open m.now)

abbrev pub LendsOther : MutBor MemMedia → ℕ → MutBor MemDisk → Fml
LendsOther m i r = Lends the_row disk_row m r (with_other m.now i)

-- The image of a name is set to a disk. The others, the counts and the clock at the opening stay.
pub record SetsImage (old : MemMedia) (name : List ℕ) (new : MemMedia) (disk : MemDisk) : Type 0 where
  pub image : image_named (fixed_of new) (state_of new.disk) name ≡ Some (state_of disk)
  pub others : (other : List ℕ) → other ≢ name → image_named (fixed_of new) (state_of new.disk) other ≡ image_named (fixed_of old) (state_of old.disk) other
  pub current : (fixed_of new).current ≡ (fixed_of old).current
  pub faults : new.faults ≡ old.faults
  pub given : new.given ≡ old.given
  pub is_open : is_name_of (fixed_of old).current name ≡ true → new.disk ≡ disk
  pub not_open : is_name_of (fixed_of old).current name ≡ false → new.disk ≡ old.disk
  pub earlier : new.earlier ≡ old.earlier
  pub told : new.is_told ≡ old.is_told

-- the medium ends with the image set to the last value behind the reference, and at `None` as it was
abbrev pub LendsImage : MutBor MemMedia → List ℕ → Option (MutBor MemDisk) → Fml
LendsImage m name r = LendsSo the_row disk_row m r (λ new disk. OnSome r (SetsImage m.now name new disk)) (λ new. new ≡ m.now)
