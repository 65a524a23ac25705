-- Each change of the tree keeps what is in front of a path, and numbers apart.
use Rattle.std.proofs.Common.{◌≡◌, ℕ, ◌≤◌, List, [], ◌∷◌, ◌++◌, true, false, not, refl, sym, ap, subst, ◌∙◌, Some, None, cond, inl, inr}
use Rattle.std.specs.Prelude.{Option, Bool, ◌⊎◌}
use Rattle.tree_model.specs.Path.{Path, is_root, parent_of}
use Rattle.tree_model.specs.Shape.{IsShape}
use Rattle.tree_model.proofs.Fronts.{tie, tie_is, test_fails, in_front}

abbrev pub Shape : Type 0
Shape = Path → Option (ℕ × Bool)

-- the same shape at each path
pub same_shape : (s t : Shape) → ((path : Path) → t path ≡ s path) → IsShape s → IsShape t
same_shape s t same h = let e : s ≡ t = λ i path. sym (same path) i in subst (λ (x : Shape). IsShape x) e h

abbrev pub Front : Shape → Path → Type 0
Front s front = (number : ℕ) × (s front ≡ Some (number, true))

-- what is in front of a path is a directory, where its parent is one
pub front_is : (s : Shape) → IsShape s → (p : Path) → is_root p ≡ false → (above : ℕ) → s (parent_of p) ≡ Some (above, true) → (front : Path) (name : List ℕ) (rest : Path) → p ≡ front ++ name ∷ rest → Front s front
front_is s h p named above parent front name rest e =
    elim (in_front p named front name rest e) [
      | inl is ↦ (above, ap s is ∙ parent)
      | inr a ↦ h.fronts front a.name a.more (above, true) (ap s (sym a.is) ∙ parent)
    ]

-- a path where something is isn't one where nothing is
off : (s : Shape) (p q : Path) (x : ℕ × Bool) → s p ≡ None → s q ≡ Some x → tie q p ≡ false
off s p q x none some = test_fails (tie q p) (λ e. let is : s q ≡ s p = ap s (tie_is q p e) in cc)

-- ---- a new node

abbrev pub with_shape : Shape → Path → ℕ × Bool → Shape
with_shape s p node q = cond (tie q p) (Some node) (s q)

found_in : (s : Shape) (p : Path) (node : ℕ × Bool) (q : Path) (x : ℕ × Bool) → with_shape s p node q ≡ Some x → ((q ≡ p) × (node ≡ x)) ⊎ (s q ≡ Some x)
found_in s p node q x e =
    elim (tie q p) as (λ b. tie q p ≡ b → cond b (Some node) (s q) ≡ Some x → ((q ≡ p) × (node ≡ x)) ⊎ (s q ≡ Some x)) [
      | true ↦ λ t some. inl (tie_is q p t, cc)
      | false ↦ λ t some. inr some
    ] refl e

at_old : (s : Shape) (p : Path) (node : ℕ × Bool) (q : Path) → tie q p ≡ false → with_shape s p node q ≡ s q
at_old s p node q e = ap (λ b. cond b (Some node) (s q)) e

pub made_shape : (s : Shape) → IsShape s → (p : Path) (number : ℕ) (holds : Bool) → is_root p ≡ false → s p ≡ None → (above : ℕ) → s (parent_of p) ≡ Some (above, true)
    → ((q : Path) (a : Bool) → s q ≡ Some (number, a) → ⊥) → (1 ≤ number) × (number ≤ 65535) → IsShape (with_shape s p (number, holds))
made_shape s h p number holds named free above parent fresh within = record {
  root = at_old s p (number, holds) [] (off s p [] (1, true) free h.root) ∙ h.root;
  fronts = λ front name rest x e. elim (found_in s p (number, holds) (front ++ name ∷ rest) x e) [
    | inl new ↦ let d = front_is s h p named above parent front name rest (sym new.0) in (d.0, at_old s p (number, holds) front (off s p front (d.0, true) free d.1) ∙ d.1)
    | inr old ↦ let d = h.fronts front name rest x old in (d.0, at_old s p (number, holds) front (off s p front (d.0, true) free d.1) ∙ d.1)
  ];
  one_path = λ q r n a b e f. elim (found_in s p (number, holds) q (n, a) e) [
    | inl new ↦ elim (found_in s p (number, holds) r (n, b) f) [
      | inl other ↦ new.0 ∙ sym other.0
      | inr old ↦ absurd (fresh r b (old ∙ ap (λ m. Some (m, b)) (sym (ap (λ x. x.0) new.1))))
    ]
    | inr old ↦ elim (found_in s p (number, holds) r (n, b) f) [
      | inl new ↦ absurd (fresh q a (old ∙ ap (λ m. Some (m, a)) (sym (ap (λ x. x.0) new.1))))
      | inr other ↦ h.one_path q r n a b old other
    ]
  ];
  numbered = λ q x e. elim (found_in s p (number, holds) q x e) [
    | inl new ↦ subst (λ (y : ℕ × Bool). (1 ≤ y.0) × (y.0 ≤ 65535)) new.1 within
    | inr old ↦ h.numbered q x old
  ];
}

-- ---- a node taken away

abbrev pub without_shape : Shape → Path → Shape
without_shape s p q = cond (not (tie p q)) (s q) None

kept_in : (s : Shape) (p q : Path) (x : ℕ × Bool) → without_shape s p q ≡ Some x → s q ≡ Some x
kept_in s p q x e =
    elim (tie p q) as (λ b. cond (not b) (s q) None ≡ Some x → s q ≡ Some x) [ true ↦ λ some. cc | false ↦ λ some. some ] e

stays : (s : Shape) (p q : Path) → tie p q ≡ false → without_shape s p q ≡ s q
stays s p q e = ap (λ b. cond (not b) (s q) None) e

pub removed_shape : (s : Shape) → IsShape s → (p : Path) → is_root p ≡ false → ((name : List ℕ) (rest : Path) → s (p ++ name ∷ rest) ≡ None) → IsShape (without_shape s p)
removed_shape s h p named leaf = record {
  root = stays s p [] (test_fails (tie p []) (λ e. let is : is_root p ≡ true = ap is_root (tie_is p [] e) in cc)) ∙ h.root;
  fronts = λ front name rest x e.
      let d = h.fronts front name rest x (kept_in s p (front ++ name ∷ rest) x e) in
      let apart = test_fails (tie p front) (λ t.
      let some : s (front ++ name ∷ rest) ≡ Some x = kept_in s p (front ++ name ∷ rest) x e in
      let none : s (front ++ name ∷ rest) ≡ None = ap (λ f. s (f ++ name ∷ rest)) (sym (tie_is p front t)) ∙ leaf name rest in
      cc) in
      (d.0, stays s p front apart ∙ d.1);
  one_path = λ q r n a b e f. h.one_path q r n a b (kept_in s p q (n, a) e) (kept_in s p r (n, b) f);
  numbered = λ q x e. h.numbered q x (kept_in s p q x e);
}
