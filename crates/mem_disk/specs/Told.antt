-- What a disk in memory tells, and that its moments are those of a disk.
use Rattle.std.specs.Prelude.{◌≡◌, ◌≤◌, ℕ, length}
use Rattle.disk_model.specs.Disk.{State}
use Rattle.disk_model.specs.Past.{Past}
use Rattle.mem_disk.specs.Memory.{told, past_of, stands_now, now_stood}
use Rattle.mem_disk.specs.declared.mem_disk.MemDisk.{MemDisk}

-- how many blocks it has
abbrev pub size_of : MemDisk → ℕ
size_of d = length d.device.cells.items

-- what it holds
abbrev pub state_of : MemDisk → State
state_of d = told (d.device.cells.items, d.device.flags.items)

-- its moments up to now
abbrev pub moments_of : MemDisk → Past
moments_of d = past_of d.device.is_told d.device.steps.items (d.device.cells.items, d.device.flags.items)

-- since this moment there is no other
pub disk_stands : (d : MemDisk) (s : State) → (moments_of d).since (moments_of d).clock s → s ≡ state_of d
disk_stands d s stood = stands_now d.device.steps.items (d.device.cells.items, d.device.flags.items) s stood

-- this moment counts from each earlier one
pub disk_counts : (d : MemDisk) (t : ℕ) → t ≤ (moments_of d).clock → (moments_of d).since t (state_of d)
disk_counts d t le = now_stood d.device.steps.items (d.device.cells.items, d.device.flags.items) t le
