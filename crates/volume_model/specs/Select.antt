-- The selection as a function. Laws say that it is the one selection there is.
use Rattle.std.specs.Prelude.{ℕ, zero, suc, ◌+◌, ◌&&◌, if◌then◌else◌, List, [], ◌∷◌, length, nat_eq, nat_le, Option, Some, None}
use Rattle.volume_model.specs.declared.sequence.Sequence.{Sequence}
use Rattle.volume_model.specs.Selection.{Matching, comes_before, without, by_place}

-- how far a sequence goes from a place and a disk block on, along the places that are left
abbrev pub reach : Matching → ℕ → ℕ → List ℕ → ℕ
reach matches place block [] = 0
reach matches place block (p ∷ ps) = if nat_eq p place && matches place block then reach matches (place + 1) (block + 1) ps + 1 else 0

abbrev pub reach_of : Matching → ℕ → ℕ → List ℕ → Sequence
reach_of matches place block places = record { first = place; length = reach matches place block places; block = block }

-- the first to be taken of these two
abbrev pub better : Sequence → Option Sequence → Option Sequence
better p None = Some p
better p (Some q) = Some (if comes_before p q then p else q)

-- the best from the first of these places to any of these blocks
abbrev pub best_at : Matching → ℕ → List ℕ → List ℕ → Option Sequence
best_at matches place places [] = None
best_at matches place places (block ∷ blocks) = better (reach_of matches place block places) (best_at matches place places blocks)

abbrev pub best_of_both : Option Sequence → Option Sequence → Option Sequence
best_of_both None q = q
best_of_both (Some p) q = better p q

-- the best from any of these places to any of these blocks
abbrev pub best_of : Matching → List ℕ → List ℕ → Option Sequence
best_of matches blocks [] = None
best_of matches blocks (place ∷ places) = best_of_both (best_at matches place (place ∷ places) blocks) (best_of matches blocks places)

abbrev pub long_enough : ℕ → Option Sequence → Option Sequence
long_enough threshold None = None
long_enough threshold (Some q) = if nat_le threshold q.length then Some q else None

abbrev pub best : Matching → ℕ → List ℕ → List ℕ → Option Sequence
best matches threshold blocks places = long_enough threshold (best_of matches blocks places)

-- what follows from the value, where there is one
abbrev pub with_value : {A B : Type 0} → Option A → List B → (A → List B) → List B
with_value None default f = default
with_value (Some x) default f = f x

-- at most so many picks
abbrev pub picks : Matching → ℕ → List ℕ → ℕ → List ℕ → List Sequence
picks matches threshold blocks zero places = []
picks matches threshold blocks (suc n) places = with_value (best matches threshold blocks places) [] (λ q. q ∷ picks matches threshold blocks n (without places q))

-- the selection among these places, of which each matches none but these blocks
abbrev pub select : Matching → ℕ → List ℕ → List ℕ → List Sequence
select matches threshold blocks places = by_place (picks matches threshold blocks (length places) places)
