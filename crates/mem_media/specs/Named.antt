-- The images of a medium in memory, by their names.
use Rattle.std.specs.Prelude.{◌≡◌, ◌≤◌, ◌+◌, ◌-◌, ◌&&◌, if◌then◌else◌, ℕ, Bool, List, [], ◌∷◌, bytes_eq, string_bytes, Option, option_map, Some, None}
use Rattle.std.proofs.Common.{subst, arith}
use Rattle.disk_model.specs.Disk.{State}
use Rattle.disk_model.specs.Media.{Fixed}
use Rattle.disk_model.specs.Past.{Past}
use Rattle.mem_disk.specs.Told.{size_of, state_of, moments_of, disk_stands, disk_counts}
use Rattle.mem_media.specs.declared.named.Named.{Named}
use Rattle.mem_media.specs.declared.mem_media.MemMedia.{MemMedia}

-- the image of that name, the first one of them
abbrev pub find_named : List Named → List ℕ → Option State
find_named [] name = None
find_named (n ∷ ns) name = if bytes_eq (string_bytes n.name) name then Some (state_of n.disk) else find_named ns name

-- a past that begins when a clock stands there
abbrev pub later_by : ℕ → Bool → Past → Past
later_by earlier is_told past = record { clock = earlier + past.clock; is_told = is_told && past.is_told; since = λ t. past.since (t - earlier) }

-- what no call of a disk changes of the medium
abbrev pub fixed_of : MemMedia → Fixed
fixed_of m = record { size = size_of m.disk; current = option_map string_bytes m.name; others = find_named m.others.items }

-- the moments of the medium
abbrev pub past_since : MemMedia → Past
past_since m = later_by m.earlier m.is_told (moments_of m.disk)

-- since the last step there is what is there now
pub media_stands : (m : MemMedia) (s : State) → (past_since m).since (past_since m).clock s → s ≡ state_of m.disk
media_stands m s stood =
    let d = m.disk in
    let now : m.earlier + (moments_of d).clock - m.earlier ≡ (moments_of d).clock = omega arith in
    disk_stands d s (subst (λ (t : ℕ). (moments_of d).since t s) now stood)

-- what is there now counts from each earlier moment
pub media_counts : (m : MemMedia) (t : ℕ) → t ≤ (past_since m).clock → (past_since m).since t (state_of m.disk)
media_counts m t le = disk_counts m.disk (t - m.earlier) (omega arith)
