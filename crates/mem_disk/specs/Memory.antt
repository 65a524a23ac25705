-- What a disk in memory tells, by the record of its writes and syncs.
use Rattle.std.specs.Prelude.{◌≡◌, ◌≤◌, ◌+◌, if◌then◌else◌, ℕ, Bool, List, [], ◌∷◌, length, drop, slice_set}
use Rattle.std.proofs.Common.{sym, ◌∙◌, ap, arith}
use Rattle.std.proofs.lemmas.List.{drop_all}
use Rattle.vol_numbers.specs.declared.block.Block.{Block}
use Rattle.disk_model.specs.Disk.{State}
use Rattle.disk_model.specs.Past.{Past}
use Rattle.mem_disk.specs.declared.record.Step.{Step}
use Rattle.mem_disk.specs.declared.record.Step.TheVariants.{Wrote, Synced}

-- the blocks, and for each whether it is unsynced
abbrev pub Cells : Type 0
Cells = List Block × List Bool

-- the numbers of those that are unsynced, where n is the first
abbrev pub numbers_from : ℕ → List Bool → List ℕ
numbers_from n [] = []
numbers_from n (is ∷ rest) = if is then n ∷ numbers_from (n + 1) rest else numbers_from (n + 1) rest

abbrev pub told : Cells → State
told c = record { contents = c.0; unsynced = numbers_from 0 c.1 }

-- the cells before a step
abbrev pub undone : Step → Cells → Cells
undone (Wrote before) c = (slice_set c.0 before.at before.block, slice_set c.1 before.at before.was_unsynced)
undone (Synced flags_before) c = (c.0, flags_before.items)

-- the step is a sync, before which these were unsynced
abbrev pub IsSyncOf : Step → List Bool → Type 0
IsSyncOf (Wrote before) flags = ⊥
IsSyncOf (Synced flags_before) flags = flags_before.items ≡ flags

-- the cells before these steps, of which the oldest comes first
abbrev pub all_undone : List Step → Cells → Cells
all_undone [] c = c
all_undone (step ∷ later) c = undone step (all_undone later c)

-- the state after k of these steps, for some k from t on
abbrev pub StoodSince : List Step → Cells → ℕ → State → Type 0
StoodSince steps c t s = (k : ℕ) × (t ≤ k) × (k ≤ length steps) × (s ≡ told (all_undone (drop k steps) c))

abbrev pub past_of : Bool → List Step → Cells → Past
past_of is_told steps c = record { clock = length steps; is_told = is_told; since = StoodSince steps c }

-- since the last step there is what is there now
pub stands_now : (steps : List Step) (c : Cells) (s : State) → StoodSince steps c (length steps) s → s ≡ told c
stands_now steps c s stood =
    let none : drop stood.0 steps ≡ [] = drop_all stood.0 steps stood.1 in
    stood.3 ∙ ap (λ (l : List Step). told (all_undone l c)) none

-- what is there now counts from each earlier moment
pub now_stood : (steps : List Step) (c : Cells) (t : ℕ) → t ≤ length steps → StoodSince steps c t (told c)
now_stood steps c t le =
    let none : drop (length steps) steps ≡ [] = drop_all (length steps) steps (omega arith) in
    (length steps, le, omega arith, sym (ap (λ (l : List Step). told (all_undone l c)) none))
