-- The numbers of dirty places are staged.
use Rattle.std.proofs.Common.{◌≡◌, ℕ, Bool, true, false, List, [], ◌∷◌, ◌++◌, map, refl, sym, ap, ◌∙◌, arith}
use Rattle.std.specs.Prelude.{◌||◌, nat_eq}
use Rattle.std.proofs.lemmas.Bool.Decides.{nat_tests}
use Rattle.place_words.specs.Different.{is_among}
use Rattle.volume_model.specs.Places.{Spot, has_spot, spot_eq}
use Rattle.dirty_store.specs.Entries.{Entries}
use Rattle.dirty_store.specs.Numbers.{numbers_in, staged_numbers}
use Rattle.fresh_runs.specs.Laws.{StagedHaveDirty}

dirty_number : {T : Type 0} (es : Entries T) (others : List ℕ) (spot : Spot) → has_spot (map (λ e. e.0) es) spot ≡ true → is_among (numbers_in es ++ others) spot.0 ≡ true
dirty_number [] others spot has = cc
dirty_number {T} (e ∷ es) others spot has = by (spot_eq e.0 spot) refl has (dirty_number es others spot)
  where
    or_true : (t : Bool) → (t || true) ≡ true
    or_true true = refl
    or_true false = refl

    by : (t : Bool) → spot_eq e.0 spot ≡ t → (t || has_spot (map (λ e. e.0) es) spot) ≡ true → (has_spot (map (λ e. e.0) es) spot ≡ true → is_among (numbers_in es ++ others) spot.0 ≡ true)
        → is_among (e.0.0 ∷ (numbers_in es ++ others)) spot.0 ≡ true
    by true is has later = ap (λ (t : Bool). t || is_among (numbers_in es ++ others) spot.0) (let same : nat_eq e.0.0 spot.0 ≡ true = grind (arith, nat_tests) in same)
    by false is has later = ap (λ (t : Bool). nat_eq e.0.0 spot.0 || t) (later has) ∙ or_true (nat_eq e.0.0 spot.0)

pub staged_have_dirty : StagedHaveDirty
staged_have_dirty o numbers once = record {
  rise = once.rises;
  each = λ spot has. once.each spot.0 ∙ dirty_number o.blocks (map (λ e. e.0) o.nodes ++ numbers_in o.slots) spot has;
}
