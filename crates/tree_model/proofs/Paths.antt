-- When two paths, names or tests are one.
use Rattle.std.proofs.Common.{◌≡◌, ℕ, List, [], ◌∷◌, true, false, refl, sym}
use Rattle.std.specs.Prelude.{Bool, nat_eq, ◌&&◌}
use Rattle.std.specs.FinMap.{slice_cmp-IsAntisymmetric, nat_cmp-IsAntisymmetric}
use Rattle.std.specs.declared.cmp.Ordering.TheVariants.{Equal}
use Rattle.std.proofs.lemmas.Bool.{eqb-true}
use Rattle.tree_model.specs.Path.{Path, path_cmp, name_eq}

-- paths that tie are equal
pub same_path : (p q : Path) → path_cmp p q ≡ Equal → p ≡ q
same_path = slice_cmp-IsAntisymmetric (slice_cmp-IsAntisymmetric nat_cmp-IsAntisymmetric)

pub same_name : (a b : List ℕ) → name_eq a b ≡ true → a ≡ b
same_name [] [] e = refl
same_name [] (y ∷ ys) e = cc
same_name (x ∷ xs) [] e = cc
same_name (x ∷ xs) (y ∷ ys) e =
    elim (nat_eq x y) as (λ b. nat_eq x y ≡ b → (b && name_eq xs ys) ≡ true → x ∷ xs ≡ y ∷ ys) [
      | true ↦ λ is rest. let head : x ≡ y = eqb-true x y is in let tail : xs ≡ ys = same_name xs ys rest in cc
      | false ↦ λ isnt rest. cc
    ] refl e

-- two tests that imply each other are one
pub same_test : (a b : Bool) → (a ≡ true → b ≡ true) → (b ≡ true → a ≡ true) → a ≡ b
same_test true b f g = sym (f refl)
same_test false true f g = g refl
same_test false false f g = refl
