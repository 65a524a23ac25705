-- The least unused number: a list of nodes has no more numbers than nodes, so the search ends at one that is unused.
use Rattle.std.proofs.Common.{◌≡◌, ℕ, zero, suc, ◌+◌, ◌≤◌, ◌<◌, [], ◌∷◌, length, true, false, refl, sym, ap, ◌∙◌, Some, None, cond, arith, inl, inr, subst}
use Rattle.std.specs.Prelude.{nat_eq, nat_le, nat_lt, ◌&&◌, ◌||◌, ◌⊎◌, if◌then◌else◌}
use Rattle.tree_model.specs.Tree.{Tree, is_used, unused_from, at_most}
use Rattle.tree_model.specs.Laws.{IsLeastUnused, GivesLeast}

-- how many nodes have a number from n to below m
abbrev tally : ℕ → ℕ → Tree → ℕ
tally n m [] = 0
tally n m (e ∷ es) = cond (nat_le n e.1.number && nat_lt e.1.number m) 1 0 + tally n m es

tally_at_most : (n m : ℕ) (es : Tree) → tally n m es ≤ length es
tally_at_most n m [] = omega arith
tally_at_most n m (e ∷ es) = grind (arith, tally_at_most n m es)

tally_rises : (n m : ℕ) (es : Tree) → tally n m es ≤ tally n (m + 1) es
tally_rises n m [] = omega arith
tally_rises n m (e ∷ es) = grind (arith, tally_rises n m es)

tally_grows : (n m : ℕ) (es : Tree) → n ≤ m → is_used es m ≡ true → tally n m es + 1 ≤ tally n (m + 1) es
tally_grows n m [] h u = cc
tally_grows n m (e ∷ es) h u =
    elim (nat_eq e.1.number m) as (λ b. nat_eq e.1.number m ≡ b → (b || is_used es m) ≡ true → tally n m (e ∷ es) + 1 ≤ tally n (m + 1) (e ∷ es)) [
      | true ↦ λ is u. grind (arith, tally_rises n m es)
      | false ↦ λ isnt u. grind (arith, tally_grows n m es h u)
    ] refl u

-- so many numbers in a row are of so many nodes
crowd : (tree : Tree) (n d : ℕ) → ((k : ℕ) → n ≤ k → k < n + d → is_used tree k ≡ true) → d ≤ tally n (n + d) tree
crowd tree n zero h = omega arith
crowd tree n (suc d) h =
    let before : d ≤ tally n (n + d) tree = crowd tree n d (λ k g l. h k g (omega arith)) in
    let last : is_used tree (n + d) ≡ true = h (n + d) (omega arith) (omega arith) in
    let more : tally n (n + d) tree + 1 ≤ tally n (n + d + 1) tree = tally_grows n (n + d) tree (omega arith) last in
    let next : n + suc d ≡ n + d + 1 = omega arith in
    rw next (omega arith)

record IsFrom (tree : Tree) (n : ℕ) (es : Tree) (r : ℕ) : Type 0 where
  at_least : n ≤ r
  used : (k : ℕ) → n ≤ k → k < r → is_used tree k ≡ true
  ends : (r ≡ n + length es) ⊎ (is_used tree r ≡ false)

one_on : (tree : Tree) (n : ℕ) (es : Tree) (e : _) (r : ℕ) → is_used tree n ≡ true → IsFrom tree (n + 1) es r → IsFrom tree n (e ∷ es) r
one_on tree n es e r u h = record {
  at_least = omega (arith, h.at_least);
  used = λ k g l. elim (nat_eq n k) as (λ b. nat_eq n k ≡ b → is_used tree k ≡ true) [
    | true ↦ λ same. let is : n ≡ k = grind arith in ap (λ m. is_used tree m) (sym is) ∙ u
    | false ↦ λ other. let above : n + 1 ≤ k = grind arith in h.used k above l
  ] refl;
  ends = elim h.ends [ inl e ↦ inl (e ∙ omega arith) | inr f ↦ inr f ];
}

found : (tree : Tree) (n : ℕ) (es : Tree) → IsFrom tree n es (unused_from tree n es)
found tree n [] = record { at_least = omega arith; used = λ k g h. absurd (omega arith); ends = inl (omega arith) }
found tree n (e ∷ es) =
    elim (is_used tree n) as (λ b. is_used tree n ≡ b → IsFrom tree n (e ∷ es) (if b then unused_from tree (n + 1) es else n)) [
      | true ↦ λ u. one_on tree n es e _ u (found tree (n + 1) es)
      | false ↦ λ u. record { at_least = omega arith; used = λ k g h. absurd (omega arith); ends = inr u }
    ] refl

all_used : (tree : Tree) (r : ℕ) → r ≡ 2 + length tree → ((k : ℕ) → 2 ≤ k → k < r → is_used tree k ≡ true) → is_used tree r ≡ true → ⊥
all_used tree r is h u =
    let many : length tree + 1 ≤ tally 2 (2 + (length tree + 1)) tree = crowd tree 2 (length tree + 1) (λ k g l.
    elim (nat_eq r k) as (λ b. nat_eq r k ≡ b → is_used tree k ≡ true) [
      | true ↦ λ same. let is : r ≡ k = grind arith in ap (λ m. is_used tree m) (sym is) ∙ u
      | false ↦ λ other. let below : k < r = grind arith in h k g below
    ] refl) in
    let few : tally 2 (2 + (length tree + 1)) tree ≤ length tree = tally_at_most _ _ tree in
    omega arith

-- the search ends at a number that is unused
is_unused : (tree : Tree) (r : ℕ) → IsFrom tree 2 tree r → is_used tree r ≡ false
is_unused tree r h = elim h.ends [
  | inl e ↦ elim (is_used tree r) as (λ b. is_used tree r ≡ b → b ≡ false) [ true ↦ λ u. absurd (all_used tree r e h.used u) | false ↦ λ u. refl ] refl
  | inr f ↦ f
]

least_some : (tree : Tree) (r number : ℕ) → IsFrom tree 2 tree r → at_most 65535 r ≡ Some number → IsLeastUnused tree number
least_some tree r number h e =
    elim (nat_le r 65535) as (λ b. nat_le r 65535 ≡ b → (if b then Some r else None) ≡ Some number → IsLeastUnused tree number) [
      | true ↦ λ le some.
          let is : r ≡ number = cc in
          let within : r ≤ 65535 = grind arith in
          subst (IsLeastUnused tree) is (record { at_least = h.at_least; at_most = within; unused = is_unused tree r h; least = h.used })
      | false ↦ λ gt none. cc
    ] refl e

least_none : (tree : Tree) (r : ℕ) → IsFrom tree 2 tree r → at_most 65535 r ≡ None → (k : ℕ) → 2 ≤ k → k ≤ 65535 → is_used tree k ≡ true
least_none tree r h e k g l =
    elim (nat_le r 65535) as (λ b. nat_le r 65535 ≡ b → (if b then Some r else None) ≡ None → is_used tree k ≡ true) [
      | true ↦ λ le some. cc
      | false ↦ λ gt none. let above : k < r = grind arith in h.used k g above
    ] refl e

pub gives_least : GivesLeast
gives_least = record {
  some = λ tree number e. least_some tree _ number (found tree 2 tree) e;
  none = λ tree e. least_none tree _ (found tree 2 tree) e;
}
