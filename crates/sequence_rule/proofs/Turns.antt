-- One turn of picking, with so many turns left.
use Rattle.std.proofs.Common.{◌≡◌, ℕ, suc, ◌+◌, ◌-◌, ◌<◌, ◌≤◌, [], ◌∷◌, ◌++◌, List, Some, None, length, refl, sym, ap, ◌∙◌, append_assoc, append-nil, arith, true, false, cond, not}
use Rattle.volume_model.specs.declared.sequence.Sequence.{Sequence}
use Rattle.volume_model.specs.Selection.{covers}
use Rattle.volume_model.specs.Select.{long_enough}
use Rattle.sequence_rule.specs.declared.matched.PlaceMatches.{PlaceMatches}
use Rattle.sequence_rule.specs.Choosing.{best_along, rows_without, picks_along}

module _ (threshold n i : ℕ) (h : i < n) (left : List PlaceMatches) where
  one_more : n - i ≡ suc (n - (i + 1))
  one_more = omega arith

  pub last_turn : long_enough threshold (best_along left) ≡ None → picks_along threshold (n - i) left ≡ []
  last_turn e = rw (one_more, e) refl

  -- the picks are all where there is no best
  pub ended : (out all : List Sequence) → long_enough threshold (best_along left) ≡ None → out ++ picks_along threshold (n - i) left ≡ all → out ≡ all
  ended out all e told = sym (append-nil out) ∙ ap (λ rest. out ++ rest) (sym (last_turn e)) ∙ told

  pub next_turn : (out : List Sequence) (q : Sequence) → long_enough threshold (best_along left) ≡ Some q
      → (out ++ q ∷ []) ++ picks_along threshold (n - (i + 1)) (rows_without q left) ≡ out ++ picks_along threshold (n - i) left
  next_turn out q e = rw (one_more, e) (append_assoc out (q ∷ []) (picks_along threshold (n - (i + 1)) (rows_without q left)))

pub no_longer : (q : Sequence) (rows : List PlaceMatches) → length (rows_without q rows) ≤ length rows
no_longer q [] = omega arith
no_longer q (r ∷ rs) =
    elim (not (covers q r.place)) as (λ b. length (cond b (r ∷ rows_without q rs) (rows_without q rs)) ≤ length (r ∷ rs)) [ true ↦ omega (arith, no_longer q rs) | false ↦ omega (arith, no_longer q rs) ]

pub ruleset turns = (last_turn, next_turn, no_longer)
