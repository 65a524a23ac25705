-- The last element of a list, by its index.
use Rattle.std.proofs.Common.{◌≡◌, ◌<◌, ℕ, suc, ◌-◌, List, [], ◌∷◌, length, get_or, refl, sym, ap, ◌∙◌, arith}
use Rattle.std.specs.Prelude.{Option, Some, None, slice_get, slice_set}

one_less : (n : ℕ) → suc (suc n) - 1 ≡ suc n
one_less n = omega arith

none_less : (n : ℕ) → suc n - 1 ≡ n
none_less n = omega arith

module _ {X : Type 0} where
  abbrev pub last : List X → Option X
  last [] = None
  last (x ∷ []) = Some x
  last (x ∷ y ∷ ys) = last (y ∷ ys)

  abbrev pub with_last : X → List X → List X
  with_last v [] = []
  with_last v (x ∷ []) = v ∷ []
  with_last v (x ∷ y ∷ ys) = x ∷ with_last v (y ∷ ys)

  pub last_is : (xs : List X) → slice_get xs (length xs - 1) ≡ last xs
  last_is [] = refl
  last_is (x ∷ []) = refl
  last_is (x ∷ y ∷ ys) = ap (slice_get (x ∷ y ∷ ys)) (one_less (length ys)) ∙ ap (slice_get (y ∷ ys)) (sym (none_less (length ys))) ∙ last_is (y ∷ ys)

  pub with_last_is : (v : X) (xs : List X) → slice_set xs (length xs - 1) v ≡ with_last v xs
  with_last_is v [] = refl
  with_last_is v (x ∷ []) = refl
  with_last_is v (x ∷ y ∷ ys) =
      ap (λ n. slice_set (x ∷ y ∷ ys) n v) (one_less (length ys)) ∙ ap (λ n. x ∷ slice_set (y ∷ ys) n v) (sym (none_less (length ys))) ∙ ap (λ (r : List X). x ∷ r) (with_last_is v (y ∷ ys))

  pub last_read : (xs : List X) (x : X) → 0 < length xs → x ≡ get_or xs (length xs - 1) x → last xs ≡ Some x
  last_read [] x some is = absurd (omega arith)
  last_read (y ∷ []) x some is = ap Some (sym is)
  last_read (y ∷ z ∷ zs) x some is =
      last_read (z ∷ zs) x (omega arith) (is ∙ ap (λ n. get_or (y ∷ z ∷ zs) n x) (one_less (length zs)) ∙ ap (λ n. get_or (z ∷ zs) n x) (sym (none_less (length zs))))
