-- A rename keeps what is in front of a path, and numbers apart.
use Rattle.std.proofs.Common.{◌≡◌, ℕ, List, [], ◌∷◌, ◌++◌, true, false, refl, sym, ap, ◌∙◌, Some, None, inl, inr, append_assoc}
use Rattle.std.proofs.lemmas.List.{append_cancel_left}
use Rattle.std.specs.Prelude.{Option, Bool}
use Rattle.tree_model.specs.Path.{Path, is_root, parent_of, strip}
use Rattle.tree_model.specs.Shape.{IsShape, came_from, after_rename}
use Rattle.tree_model.proofs.Fronts.{strip_is, strip_back, strip_none, strip_root, compare, no_longer}
use Rattle.tree_model.proofs.Shapes.{Shape, Front, front_is}

-- where a path that is found after a rename was before it
pub data Came (from to path : Path) : Path → Type 0 where
  below : (rest : Path) → path ≡ to ++ rest → Came from to path (from ++ rest)
  stayed : strip to path ≡ None → strip from path ≡ None → Came from to path path

pub none_left : (front q : Path) → ((r : Path) → q ≡ front ++ r → ⊥) → strip front q ≡ None
none_left front q f =
    elim (strip front q) as (λ o. strip front q ≡ o → strip front q ≡ None) [ None ↦ λ e. e | Some r ↦ λ e. absurd (f r (strip_is front q r e)) ] refl

module _ {A : Type 0} (s : Path → Option A) (from to : Path) where
  -- what is found after a rename stood at the path that it came from
  pub origin : (path : Path) (x : A) → after_rename s from to path ≡ Some x → (old : Path) × (Came from to path old) × (s old ≡ Some x)
  origin path x e =
      elim (strip to path) as (λ o. strip to path ≡ o → came_from s from o (strip from path) path ≡ Some x → (old : Path) × (Came from to path old) × (s old ≡ Some x)) [
        | Some rest ↦ λ is some. (from ++ rest, below rest (strip_is to path rest is), some)
        | None ↦ λ none some.
            elim (strip from path) as (λ o. strip from path ≡ o → came_from s from None o path ≡ Some x → (old : Path) × (Came from to path old) × (s old ≡ Some x)) [
              | Some rest ↦ λ left found. cc
              | None ↦ λ kept found. (path, stayed none kept, found)
            ] refl some
      ] refl e

  pub at_below : (rest : Path) → after_rename s from to (to ++ rest) ≡ s (from ++ rest)
  at_below rest = ap (λ o. came_from s from o (strip from (to ++ rest)) (to ++ rest)) (strip_back to rest)

  pub at_other : (path : Path) → strip to path ≡ None → strip from path ≡ None → after_rename s from to path ≡ s path
  at_other path e f = ap (λ o. came_from s from o (strip from path) path) e ∙ ap (λ o. came_from s from None o path) f

  pub at_left : (path : Path) (rest : Path) → strip to path ≡ None → strip from path ≡ Some rest → after_rename s from to path ≡ None
  at_left path rest e f = ap (λ o. came_from s from o (strip from path) path) e ∙ ap (λ o. came_from s from None o path) f

module _ (s : Shape) (h : IsShape s) (from to : Path) (from_named : is_root from ≡ false) (to_named : is_root to ≡ false) (outside : strip from to ≡ None)
    (above : ℕ) (parent : s (parent_of to) ≡ Some (above, true)) where
  abbrev t : Shape
  t = after_rename s from to

  fronts_below : (front : Path) (name : List ℕ) (rest r : Path) (x : ℕ × Bool) → front ++ name ∷ rest ≡ to ++ r → s (from ++ r) ≡ Some x → Front t front
  fronts_below front name rest r x e some =
      elim (compare front to r name rest e) [
        | inl u ↦
            let d = h.fronts (from ++ u.more) name rest x (ap s (append_assoc from u.more (name ∷ rest) ∙ ap (λ m. from ++ m) (sym u.left)) ∙ some) in
            (d.0, ap t u.is ∙ at_below s from to u.more ∙ d.1)
        | inr a ↦
            let d = front_is s h to to_named above parent front a.name a.more a.is in
            let not_to = none_left to front (λ r f. no_longer to r a.name a.more (a.is ∙ ap (λ p. p ++ a.name ∷ a.more) f)) in
            let not_from = none_left from front (λ r f. strip_none from to (r ++ a.name ∷ a.more) outside (a.is ∙ ap (λ p. p ++ a.name ∷ a.more) f ∙ append_assoc from r (a.name ∷ a.more))) in
            (d.0, at_other s from to front not_to not_from ∙ d.1)
      ]

  fronts_other : (front : Path) (name : List ℕ) (rest : Path) (x : ℕ × Bool) → strip to (front ++ name ∷ rest) ≡ None → strip from (front ++ name ∷ rest) ≡ None → s (front ++ name ∷ rest) ≡ Some x → Front t front
  fronts_other front name rest x e f some =
      let d = h.fronts front name rest x some in
      let not_to = none_left to front (λ r g. strip_none to (front ++ name ∷ rest) (r ++ name ∷ rest) e (ap (λ p. p ++ name ∷ rest) g ∙ append_assoc to r (name ∷ rest))) in
      let not_from = none_left from front (λ r g. strip_none from (front ++ name ∷ rest) (r ++ name ∷ rest) f (ap (λ p. p ++ name ∷ rest) g ∙ append_assoc from r (name ∷ rest))) in
      (d.0, at_other s from to front not_to not_from ∙ d.1)

  fronts_came : (front : Path) (name : List ℕ) (rest : Path) (x : ℕ × Bool) (old : Path) → Came from to (front ++ name ∷ rest) old → s old ≡ Some x → Front t front
  fronts_came front name rest x old (below r e) some = fronts_below front name rest r x e some
  fronts_came front name rest x old (stayed e f) some = fronts_other front name rest x e f some

  pub came_apart : (p q old : Path) → Came from to p old → (other : Path) → Came from to q other → old ≡ other → p ≡ q
  came_apart p q old (below r e) other (below r' f) is = e ∙ ap (λ m. to ++ m) (append_cancel_left from r r' is) ∙ sym f
  came_apart p q old (below r e) other (stayed f g) is = absurd (strip_none from q r g (sym is))
  came_apart p q old (stayed e g) other (below r f) is = absurd (strip_none from p r g is)
  came_apart p q old (stayed e g) other (stayed f k) is = is

  pub renamed_shape : IsShape (after_rename s from to)
  renamed_shape = record {
    root = at_other s from to [] (strip_root to to_named) (strip_root from from_named) ∙ h.root;
    fronts = λ front name rest x e. let o = origin s from to (front ++ name ∷ rest) x e in fronts_came front name rest x o.0 o.1 o.2;
    one_path = λ p q n a b e f.
        let o = origin s from to p (n, a) e in
        let r = origin s from to q (n, b) f in
        came_apart p q o.0 o.1 r.0 r.1 (h.one_path o.0 r.0 n a b o.2 r.2);
    numbered = λ p x e. let o = origin s from to p x e in h.numbered o.0 x o.2;
  }
