-- What is planned for a disk in memory.
use Rattle.std.specs.Prelude.{ℕ}
use Rattle.vol_numbers.specs.Plan.{Plan}
use Rattle.mem_disk.specs.declared.mem_disk.MemDisk.{MemDisk}

-- which calls of it fail
abbrev pub plan_of : MemDisk → Plan
plan_of d = d.plan

-- the byte that a write which fails leaves
abbrev pub junk_of : MemDisk → ℕ
junk_of d = d.junk
