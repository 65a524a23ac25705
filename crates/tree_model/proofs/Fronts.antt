-- Paths: when two are one, and what follows a front.
use Rattle.std.proofs.Common.{◌≡◌, ℕ, ◌+◌, List, [], ◌∷◌, ◌++◌, length, true, false, refl, sym, ap, subst, ◌∙◌, Some, None, inl, inr, arith, append-nil, length-append}
use Rattle.std.specs.Prelude.{Bool, ◌⊎◌, if◌then◌else◌}
use Rattle.std.specs.Ordering.{eq_by_cmp, is_eq}
use Rattle.std.specs.declared.cmp.Ordering.{Ordering}
use Rattle.std.specs.declared.cmp.Ordering.TheVariants.{Less, Equal, Greater}
use Rattle.std.specs.Cmp.Lexicographic.{nat_list_eq_equiv}
use Rattle.std.proofs.lemmas.Cmp.{tied_itself}
use Rattle.tree_model.specs.Path.{Path, path_cmp, name_eq, is_root, parent_of, strip}
use Rattle.tree_model.proofs.Paths.{same_path, same_name}
use Rattle.tree_model.proofs.AttemptLaws.{path_total}

abbrev pub tie : Path → Path → Bool
tie q p = eq_by_cmp path_cmp q p

equal : (r : Ordering) → is_eq r ≡ true → r ≡ Equal
equal Less e = cc
equal Equal e = refl
equal Greater e = cc

pub tie_is : (q p : Path) → tie q p ≡ true → q ≡ p
tie_is q p e = same_path q p (equal (path_cmp q p) e)

pub tie_itself : (p : Path) → tie p p ≡ true
tie_itself p = ap is_eq (tied_itself path_total p)

pub tie_same : (q p : Path) → q ≡ p → tie q p ≡ true
tie_same q p e = subst (λ (x : Path). tie q x ≡ true) e (tie_itself q)

pub test_fails : (a : Bool) → (a ≡ true → ⊥) → a ≡ false
test_fails true f = absurd (f refl)
test_fails false f = refl

-- whether two paths are one
pub decide : (q p : Path) → (q ≡ p) ⊎ (tie q p ≡ false)
decide q p = elim (tie q p) as (λ b. tie q p ≡ b → (q ≡ p) ⊎ (tie q p ≡ false)) [ true ↦ λ e. inl (tie_is q p e) | false ↦ λ e. inr e ] refl

pub strip_is : (front q r : Path) → strip front q ≡ Some r → q ≡ front ++ r
strip_is [] q r e = cc
strip_is (name ∷ front) [] r e = cc
strip_is (name ∷ front) (other ∷ q) r e =
    elim (name_eq name other) as (λ b. name_eq name other ≡ b → (if b then strip front q else None) ≡ Some r → other ∷ q ≡ name ∷ front ++ r) [
      | true ↦ λ is some. let head : name ≡ other = same_name name other is in let tail : q ≡ front ++ r = strip_is front q r some in cc
      | false ↦ λ isnt some. cc
    ] refl e

pub strip_back : (front r : Path) → strip front (front ++ r) ≡ Some r
strip_back [] r = refl
strip_back (name ∷ front) r = ap (λ b. if b then strip front (front ++ r) else None) (nat_list_eq_equiv.refl name) ∙ strip_back front r

pub strip_none : (front q r : Path) → strip front q ≡ None → q ≡ front ++ r → ⊥
strip_none front q r none is = let some : strip front q ≡ Some r = ap (λ x. strip front x) is ∙ strip_back front r in cc

pub strip_root : (front : Path) → is_root front ≡ false → strip front [] ≡ None
strip_root [] e = cc
strip_root (name ∷ front) e = refl

-- a path that isn't the root is its parent and one name
pub last_name : (path : Path) → is_root path ≡ false → (name : List ℕ) × (path ≡ parent_of path ++ name ∷ [])
last_name [] e = cc
last_name (name ∷ []) e = (name, refl)
last_name (name ∷ next ∷ names) e = let rest = last_name (next ∷ names) refl in (rest.0, ap (λ p. name ∷ p) rest.1)

-- where two paths in front of the same end: one is in front of the other
pub record Under (front to r : Path) (name : List ℕ) (rest : Path) : Type 0 where
  pub more : Path
  pub is : front ≡ to ++ more
  pub left : r ≡ more ++ name ∷ rest

pub record Above (front to : Path) : Type 0 where
  pub name : List ℕ
  pub more : Path
  pub is : to ≡ front ++ name ∷ more

pub compare : (front to r : Path) (name : List ℕ) (rest : Path) → front ++ name ∷ rest ≡ to ++ r → Under front to r name rest ⊎ Above front to
compare front [] r name rest e = inl (record { more = front; is = refl; left = sym e })
compare [] (t ∷ to) r name rest e = inr (record { name = t; more = to; is = refl })
compare (f ∷ front) (t ∷ to) r name rest e =
    let heads : f ≡ t = cc in
    let tails : front ++ name ∷ rest ≡ to ++ r = cc in
    elim (compare front to r name rest tails) [
      | inl u ↦ let under : front ≡ to ++ u.more = u.is in let whole : f ∷ front ≡ t ∷ to ++ u.more = cc in inl (record { more = u.more; is = whole; left = u.left })
      | inr a ↦ let above : to ≡ front ++ a.name ∷ a.more = a.is in let whole : t ∷ to ≡ f ∷ front ++ a.name ∷ a.more = cc in inr (record { name = a.name; more = a.more; is = whole })
    ]

-- no path is longer than itself
pub no_longer : (p more : Path) (name : List ℕ) (rest : Path) → p ≡ (p ++ more) ++ name ∷ rest → ⊥
no_longer p more name rest e =
    let lengths : length p ≡ length ((p ++ more) ++ name ∷ rest) = ap length e in
    let sums : length p ≡ (length p + length more) + (1 + length rest) = lengths ∙ simp length-append (omega arith) in
    omega arith

no_more : (more : Path) (last name : List ℕ) (rest : Path) → last ∷ [] ≡ more ++ name ∷ rest → more ≡ []
no_more [] last name rest e = refl
no_more (m ∷ []) last name rest e = cc
no_more (m ∷ n ∷ more) last name rest e = cc

-- what is in front of a path is its parent or in front of that
pub in_front : (p : Path) → is_root p ≡ false → (front : Path) (name : List ℕ) (rest : Path) → p ≡ front ++ name ∷ rest → (front ≡ parent_of p) ⊎ Above front (parent_of p)
in_front p named front name rest e =
    let last = last_name p named in
    elim (compare front (parent_of p) (last.0 ∷ []) name rest (sym e ∙ last.1)) [
      | inl u ↦ inl (u.is ∙ ap (λ m. parent_of p ++ m) (no_more u.more last.0 name rest u.left) ∙ append-nil (parent_of p))
      | inr a ↦ inr a
    ]
