-- What is planned for the open image of a medium in memory.
use Rattle.std.specs.Prelude.{ℕ}
use Rattle.vol_numbers.specs.Plan.{Plan}
use Rattle.mem_disk.specs.Planned.{plan_of, junk_of}
use Rattle.mem_media.specs.declared.mem_media.MemMedia.{MemMedia}

-- which calls of the open image fail
abbrev pub open_plan : MemMedia → Plan
open_plan m = plan_of m.disk

-- the byte that a write of the open image which fails leaves
abbrev pub open_junk : MemMedia → ℕ
open_junk m = junk_of m.disk
