-- Which sequences of places are shared, as a relation with no order of work in it.
use Rattle.std.specs.Prelude.{◌≡◌, ℕ, ◌+◌, ◌<◌, ◌≤◌, Bool, not, ◌&&◌, ◌||◌, IsTrue, if◌then◌else◌, List, [], ◌∷◌, filter, nat_eq, nat_le, nat_lt}
use Rattle.volume_model.specs.declared.sequence.Sequence.{Sequence}
use Rattle.place_words.specs.Different.{is_among}

-- whether the block of a place of the file matches a disk block
abbrev pub Matching : Type 0
Matching = ℕ → ℕ → Bool

-- It has a place, and each of its places is one of these and matches its block.
abbrev pub IsSequence : Matching → List ℕ → Sequence → Type 0
IsSequence matches places q = (0 < q.length) × ((k : ℕ) → k < q.length → IsTrue (is_among places (q.first + k) && matches (q.first + k) (q.block + k)))

-- longer, or as long and from an earlier place, or that and to no higher a block
abbrev pub comes_before : Sequence → Sequence → Bool
comes_before p q =
    nat_lt q.length p.length || (nat_eq p.length q.length && (nat_lt p.first q.first || (nat_eq p.first q.first && nat_le p.block q.block)))

-- of all sequences that are long enough the one that comes first
pub record IsBest (matches : Matching) (threshold : ℕ) (places : List ℕ) (q : Sequence) : Type 0 where
  pub sequence : IsSequence matches places q
  pub enough : threshold ≤ q.length
  pub first : (p : Sequence) → IsSequence matches places p → threshold ≤ p.length → IsTrue (comes_before q p)

-- whether a place is one of the sequence
abbrev pub covers : Sequence → ℕ → Bool
covers q place = nat_le q.first place && nat_lt place (q.first + q.length)

abbrev pub without : List ℕ → Sequence → List ℕ
without places q = filter (λ place. not (covers q place)) places

-- The best is picked, then the best of the places that are left, and so on until no sequence is long enough.
abbrev pub Picks : Matching → ℕ → List ℕ → List Sequence → Type 0
Picks matches threshold places [] = (p : Sequence) → IsSequence matches places p → threshold ≤ p.length → ⊥
Picks matches threshold places (q ∷ qs) = IsBest matches threshold places q × Picks matches threshold (without places q) qs

abbrev pub in_place : Sequence → List Sequence → List Sequence
in_place q [] = q ∷ []
in_place q (p ∷ ps) = if nat_le q.first p.first then q ∷ p ∷ ps else p ∷ in_place q ps

abbrev pub by_place : List Sequence → List Sequence
by_place [] = []
by_place (q ∷ qs) = in_place q (by_place qs)

-- the sequences that are picked, in the order of their places
pub record IsSelection (matches : Matching) (threshold : ℕ) (places : List ℕ) (selected : List Sequence) : Type 0 where
  pub picked : List Sequence
  pub one_by_one : Picks matches threshold places picked
  pub sorted : selected ≡ by_place picked
