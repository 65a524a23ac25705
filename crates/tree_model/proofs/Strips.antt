-- What follows a front, as a comparison of names with the zeros behind them finds it.
use Rattle.std.proofs.Common.{◌≡◌, ℕ, ◌+◌, List, [], ◌∷◌, length, take, drop, true, false, refl, sym, ap, subst, ◌∙◌, Some, None}
use Rattle.std.specs.Prelude.{Bool, nat_eq, ◌-◌, ◌&&◌, Option, MatchOption, replicate, if◌then◌else◌}
use Rattle.std.specs.Option.{option_map}
use Rattle.std.specs.Cmp.{first_so, second_so, nat_eq_equiv}
use Rattle.std.specs.Cmp.Lexicographic.{pointwise, nat_list_eq_equiv}
use Rattle.std.proofs.lemmas.Bool.{eqb-true}
use Rattle.std.proofs.lemmas.List.{take_at}
use Rattle.vol_numbers.specs.Name.{padded}
use Rattle.tree_model.specs.Path.{Path, name_eq, strip}
use Rattle.tree_model.proofs.Paths.{same_name, same_test}

-- two names as they are compared: their lengths, and their bytes with the zeros behind them
abbrev pub padded_eq : List ℕ → List ℕ → Bool
padded_eq a b = nat_eq (length a) (length b) && name_eq (padded a) (padded b)

padded_is : (a b : List ℕ) → padded_eq b a ≡ name_eq a b
padded_is a b = same_test (padded_eq b a) (name_eq a b)
    (λ e.
    let long : length b ≡ length a = eqb-true (length b) (length a) (first_so _ _ e) in
    let bytes : padded b ≡ padded a = same_name (padded b) (padded a) (second_so _ _ e) in
    let is : a ≡ b = sym (take_at a (replicate (250 - length a) 0) (length a) refl) ∙ ap (take (length a)) (sym bytes) ∙ take_at b (replicate (250 - length b) 0) (length a) long in
    subst (λ (x : List ℕ). name_eq a x ≡ true) is (nat_list_eq_equiv.refl a))
    (λ e. subst (λ (x : List ℕ). padded_eq x a ≡ true) (same_name a b e) (λ i. nat_eq_equiv.refl (length a) i && nat_list_eq_equiv.refl (padded a) i))

strip_by : (front path : Path) → strip front path ≡ (if pointwise padded_eq (take (length front) path) front then Some (drop (length front) path) else None)
strip_by [] path = refl
strip_by (name ∷ front) [] = refl
strip_by (name ∷ front) (other ∷ path) =
    let found : Bool = pointwise padded_eq (take (length front) path) front in
    let rest : Option Path = Some (drop (length front) path) in
    ap (λ (b : Bool). if b then strip front path else None) (sym (padded_is name other))
    ∙ elim (padded_eq other name) as (λ b. (if b then strip front path else None) ≡ (if b && found then rest else None)) [ true ↦ strip_by front path | false ↦ refl ]

-- what `strip_prefix` answers of a path
pub strip_either : {X : Type 0} (f : X → Path) (r : Option X) (front path : Path)
    → MatchOption r (pointwise padded_eq (take (length front) path) front ≡ false)
    (λ x. (pointwise padded_eq (take (length front) path) front ≡ true) × (f x ≡ drop (length front) path) × (length (f x) + length front ≡ length path))
    → option_map f r ≡ strip front path
strip_either f None front path differs = sym (strip_by front path ∙ ap (λ (b : Bool). if b then Some (drop (length front) path) else None) differs)
strip_either f (Some x) front path same = ap Some same.1 ∙ sym (strip_by front path ∙ ap (λ (b : Bool). if b then Some (drop (length front) path) else None) same.0)
