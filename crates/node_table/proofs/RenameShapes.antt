-- What is held of the shape of a tree, after a node is renamed.
use Rattle.std.proofs.Common.{◌≡◌, ℕ, Bool, true, List, [], ◌∷◌, ◌++◌, Some, None, refl, sym, ap, ◌∙◌, inl, inr, append_assoc, append-nil}
use Rattle.std.specs.Prelude.{◌⊎◌}
use Rattle.dir_slots.specs.Slots.{number_in}
use Rattle.tree_model.specs.Path.{Path, strip}
use Rattle.tree_model.specs.Shape.{IsShape, after_rename}
use Rattle.tree_model.proofs.Fronts.{strip_is, strip_back, strip_none, no_longer}
use Rattle.tree_model.proofs.Renames.{Came, origin, none_left, at_below, at_other, at_left}
use Rattle.tree_model.proofs.Shapes.{Shape}
use Rattle.node_table.specs.Held.{Nodes, held, slots_of}
use Rattle.node_table.proofs.ShapeLaws.{HoldsShape, kind, number_of, one_name, none_of, there_still}

-- The nodes after a rename: the one directory's slots lose a name, and the other's get one.
pub record NodesRenamed (old new : Nodes) (f : ℕ) (fname : List ℕ) (t : ℕ) (tname : List ℕ) (number : ℕ) : Type 0 where
  pub kinds : (k : ℕ) → kind (held new k) ≡ kind (held old k)
  pub came : number_in (slots_of (held new t)) tname ≡ Some number
  pub left : (f ≡ t → fname ≡ tname → ⊥) → number_in (slots_of (held new f)) fname ≡ None
  pub others : (k : ℕ) (x : List ℕ) → (k ≡ t → x ≡ tname → ⊥) → (k ≡ f → x ≡ fname → ⊥) → number_in (slots_of (held new k)) x ≡ number_in (slots_of (held old k)) x

-- where a path of one name more goes on from another, it is that path or goes on from there without the name
pub split_last : (q p r : Path) (x : List ℕ) → q ++ x ∷ [] ≡ p ++ r → (q ++ x ∷ [] ≡ p) ⊎ ((m : Path) × (q ≡ p ++ m))
split_last q [] r x e = inr (q, refl)
split_last [] (y ∷ []) r x e = let heads : x ≡ y = cc in inl (ap (λ z. z ∷ []) heads)
split_last [] (y ∷ z ∷ p) r x e = cc
split_last (a ∷ q) (y ∷ p) r x e =
    let heads : a ≡ y = cc in
    let tails : q ++ x ∷ [] ≡ p ++ r = cc in
    elim (split_last q p r x tails) [
      | inl is ↦ let same : q ++ x ∷ [] ≡ p = is in let whole : a ∷ q ++ x ∷ [] ≡ y ∷ p = cc in inl whole
      | inr m ↦ let same : q ≡ p ++ m.0 = m.1 in let whole : a ∷ q ≡ y ∷ p ++ m.0 = cc in inr (m.0, whole)
    ]

module _ (s : Shape) (h : IsShape s) (fp tp : Path) (fname tname : List ℕ) (f t number : ℕ) (b : Bool) (old new : Nodes)
    (holds : HoldsShape old s) (f_is : s fp ≡ Some (f, true)) (t_is : s tp ≡ Some (t, true)) (node : s (fp ++ fname ∷ []) ≡ Some (number, b)) (free : s (tp ++ tname ∷ []) ≡ None)
    (outside : strip (fp ++ fname ∷ []) (tp ++ tname ∷ []) ≡ None) (moved : NodesRenamed old new f fname t tname number) where
  abbrev from : Path
  from = fp ++ fname ∷ []

  abbrev to : Path
  to = tp ++ tname ∷ []

  abbrev after : Shape
  after = after_rename s from to

  same_path : (p q : Path) (n m : ℕ) (a c : Bool) → s p ≡ Some (n, a) → s q ≡ Some (m, c) → n ≡ m → p ≡ q
  same_path p q n m a c e g is = h.one_path p q n a c e (g ∙ (λ i. Some (sym is i, c)))

  number_is : (p q : Path) (n m : ℕ) (a c : Bool) → s p ≡ Some (n, a) → s q ≡ Some (m, c) → p ≡ q → n ≡ m
  number_is p q n m a c e g is =
      let same : Some (n, a) ≡ Some (m, c) = sym e ∙ ap s is ∙ g in
      let pairs : (n, a) ≡ (m, c) = cc in
      ap (λ (x : ℕ × Bool). x.0) pairs

  clear : (r : Path) → s (to ++ r) ≡ None
  clear [] = ap s (append-nil to) ∙ free
  clear (name ∷ rest) = none_of (s (to ++ name ∷ rest)) (λ x e. let d = h.fronts to name rest x e in let some : s to ≡ Some (d.0, true) = d.1 in cc)

  -- from is not its own directory's front, nor that of the other directory
  not_above : (rest : Path) → from ++ rest ≡ fp → ⊥
  not_above rest e = no_longer fp [] fname rest (sym e ∙ append_assoc fp (fname ∷ []) rest ∙ ap (λ p. p ++ fname ∷ rest) (sym (append-nil fp)))

  not_into : (rest : Path) → from ++ rest ≡ tp → ⊥
  not_into rest e = strip_none from to (rest ++ tname ∷ []) outside (ap (λ p. p ++ tname ∷ []) (sym e) ∙ append_assoc from rest (tname ∷ []))

  slots_below : (rest : Path) (n : ℕ) (c : Bool) (x : List ℕ) → s (from ++ rest) ≡ Some (n, c) → number_in (slots_of (held new n)) x ≡ number_of (after ((to ++ rest) ++ x ∷ []))
  slots_below rest n c x e =
      moved.others n x (λ is _. not_into rest (same_path (from ++ rest) tp n t c true e t_is is)) (λ is _. not_above rest (same_path (from ++ rest) fp n f c true e f_is is))
      ∙ holds.slots (from ++ rest) n c x e
      ∙ sym (ap number_of (ap after (append_assoc to rest (x ∷ [])) ∙ at_below s from to (rest ++ x ∷ []) ∙ ap s (sym (append_assoc from rest (x ∷ [])))))

  -- a name that comes into the directory
  slots_into : (q : Path) (n : ℕ) (c : Bool) (x : List ℕ) → s q ≡ Some (n, c) → q ++ x ∷ [] ≡ to → number_in (slots_of (held new n)) x ≡ number_of (after (q ++ x ∷ []))
  slots_into q n c x e is =
      let names = one_name q tp x tname is in
      (λ i. number_in (slots_of (held new (number_is q tp n t c true e t_is names.0 i))) (names.1 i)) ∙ moved.came
      ∙ sym (ap number_of (ap after (is ∙ sym (append-nil to)) ∙ at_below s from to [] ∙ ap s (append-nil from) ∙ node))

  -- a name that left the directory
  slots_from : (q : Path) (n : ℕ) (c : Bool) (x : List ℕ) → s q ≡ Some (n, c) → q ++ x ∷ [] ≡ from → strip to (q ++ x ∷ []) ≡ None → number_in (slots_of (held new n)) x ≡ number_of (after (q ++ x ∷ []))
  slots_from q n c x e is none =
      let names = one_name q fp x fname is in
      (λ i. number_in (slots_of (held new (number_is q fp n f c true e f_is names.0 i))) (names.1 i))
      ∙ moved.left (λ same name. strip_none to (q ++ x ∷ []) [] none (is ∙ (λ i. same_path fp tp f t true true f_is t_is same i ++ name i ∷ []) ∙ sym (append-nil to)))
      ∙ sym (ap number_of (at_left s from to (q ++ x ∷ []) [] none (ap (strip from) (is ∙ sym (append-nil from)) ∙ strip_back from [])))

  slots_kept : (q : Path) (n : ℕ) (c : Bool) (x : List ℕ) → s q ≡ Some (n, c) → strip to (q ++ x ∷ []) ≡ None → strip from (q ++ x ∷ []) ≡ None → number_in (slots_of (held new n)) x ≡ number_of (after (q ++ x ∷ []))
  slots_kept q n c x e no_to no_from =
      moved.others n x
      (λ is name. strip_none to (q ++ x ∷ []) [] no_to ((λ i. same_path q tp n t c true e t_is is i ++ name i ∷ []) ∙ sym (append-nil to)))
      (λ is name. strip_none from (q ++ x ∷ []) [] no_from ((λ i. same_path q fp n f c true e f_is is i ++ name i ∷ []) ∙ sym (append-nil from)))
      ∙ holds.slots q n c x e ∙ sym (ap number_of (at_other s from to (q ++ x ∷ []) no_to no_from))

  slots_stayed : (q : Path) (n : ℕ) (c : Bool) (x : List ℕ) → strip to q ≡ None → strip from q ≡ None → s q ≡ Some (n, c) → number_in (slots_of (held new n)) x ≡ number_of (after (q ++ x ∷ []))
  slots_stayed q n c x no_to no_from e =
      elim (strip to (q ++ x ∷ [])) as (λ o. strip to (q ++ x ∷ []) ≡ o → number_in (slots_of (held new n)) x ≡ number_of (after (q ++ x ∷ []))) [
        | Some r ↦ λ is. elim (split_last q to r x (strip_is to (q ++ x ∷ []) r is)) [
          | inl it ↦ slots_into q n c x e it
          | inr m ↦ absurd (strip_none to q m.0 no_to m.1)
        ]
        | None ↦ λ none. elim (strip from (q ++ x ∷ [])) as (λ o. strip from (q ++ x ∷ []) ≡ o → number_in (slots_of (held new n)) x ≡ number_of (after (q ++ x ∷ []))) [
          | Some r ↦ λ is. elim (split_last q from r x (strip_is from (q ++ x ∷ []) r is)) [
            | inl it ↦ slots_from q n c x e it none
            | inr m ↦ absurd (strip_none from q m.0 no_from m.1)
          ]
          | None ↦ λ none_too. slots_kept q n c x e none none_too
        ] refl
      ] refl

  slots_at : (q : Path) (n : ℕ) (c : Bool) (x : List ℕ) (before : Path) → Came from to q before → s before ≡ Some (n, c) → number_in (slots_of (held new n)) x ≡ number_of (after (q ++ x ∷ []))
  slots_at q n c x before (Came.below rest is) e = slots_below rest n c x e ∙ sym (ap (λ p. number_of (after (p ++ x ∷ []))) is)
  slots_at q n c x before (Came.stayed no_to no_from) e = slots_stayed q n c x no_to no_from e

  -- where a node of before is now
  now_at : (q : Path) (n : ℕ) (c : Bool) → s q ≡ Some (n, c) → (p : Path) × (d : Bool) × (after p ≡ Some (n, d))
  now_at q n c e =
      elim (strip from q) as (λ o. strip from q ≡ o → (p : Path) × (d : Bool) × (after p ≡ Some (n, d))) [
        | Some r ↦ λ is. (to ++ r, c, at_below s from to r ∙ ap s (sym (strip_is from q r is)) ∙ e)
        | None ↦ λ none. (q, c, at_other s from to q (none_left to q (λ r is. let nothing : s q ≡ None = ap s is ∙ clear r in cc)) none ∙ e)
      ] refl

  pub renamed_holds : HoldsShape new after
  renamed_holds = record {
    kinds = λ q n c e. let o = origin s from to q (n, c) e in moved.kinds n ∙ holds.kinds o.0 n c o.2;
    slots = λ q n c x e. let o = origin s from to q (n, c) e in slots_at q n c x o.0 o.1 o.2;
    others = λ n there. let o = holds.others n (there_still (held new n) (held old n) (moved.kinds n) there) in now_at o.0 n o.1 o.2;
  }
