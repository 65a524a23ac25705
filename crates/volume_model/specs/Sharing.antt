-- Which dirty blocks match a disk block, and which sequences of a file are shared.
use Rattle.std.specs.Prelude.{ℕ, Bool, true, false, not, List, [], ◌∷◌, filter, map, nat_eq, option_map, unwrap_or}
use Rattle.volume_model.specs.declared.sequence.Sequence.{Sequence}
use Rattle.volume_model.specs.Cache.{cached_blocks, is_cached}
use Rattle.volume_model.specs.Machine.{Machine, Rules, block_at, held}
use Rattle.volume_model.specs.Places.{Spot}
use Rattle.volume_model.specs.Select.{select}

-- the second test only where the first holds
abbrev pub and_then : Bool → (Unit {0} → Bool) → Bool
and_then true test = test tt
and_then false test = false

abbrev pub same_bytes : List ℕ → List ℕ → Bool
same_bytes [] [] = true
same_bytes [] (y ∷ ys) = false
same_bytes (x ∷ xs) [] = false
same_bytes (x ∷ xs) (y ∷ ys) = and_then (nat_eq x y) (λ _. same_bytes xs ys)

-- Whether the block at a place of a file matches a disk block: that is in the cache list, and holds the same bytes. No fingerprint is looked at.
abbrev pub matches : Machine → ℕ → ℕ → ℕ → Bool
matches m number place block =
    and_then (is_cached m.cache block) (λ _. unwrap_or (option_map (same_bytes (block_at m.tree (number, place))) (held m block)) false)

-- the numbers in these spots, each once
abbrev pub numbers_of : List Spot → List ℕ
numbers_of [] = []
numbers_of (s ∷ ss) = s.0 ∷ filter (λ n. not (nat_eq n s.0)) (numbers_of ss)

abbrev pub dirty_places : Machine → ℕ → List ℕ
dirty_places m number = map (λ s. s.1) (filter (λ s. nat_eq s.0 number) m.dirty)

-- the sequences of a file that are shared
abbrev pub selected : Rules → Machine → ℕ → List Sequence
selected r m number = select (matches m number) r.threshold (cached_blocks m.cache) (dirty_places m number)
