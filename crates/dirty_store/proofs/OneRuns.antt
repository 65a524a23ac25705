-- The longest runs of some places are determined.
use Rattle.std.proofs.Common.{◌≡◌, ◌≢◌, ◌≤◌, ℕ, zero, suc, ◌+◌, List, [], ◌∷◌, ◌++◌, refl, sym, ap, subst, ◌∙◌, arith}
use Rattle.vol_numbers.specs.declared.runs.Run.{Run}
use Rattle.place_words.specs.Different.{span}
use Rattle.dirty_store.specs.Runs.{places_in, AreLongest}

-- these don't begin with a number
abbrev BeginsOther : ℕ → List ℕ → Type 0
BeginsOther n [] = Unit {0}
BeginsOther n (m ∷ ms) = n ≢ m

begins_other : (n first length : ℕ) (rest : List ℕ) → 1 ≤ length → n ≢ first → BeginsOther n (span first length ++ rest)
begins_other n first zero rest some apart = absurd (omega arith)
begins_other n first (suc length) rest some apart = apart

-- what comes behind a run does not go on with it
next_is_other : (r : Run) (rs : List Run) → AreLongest (r ∷ rs) → BeginsOther (r.first + r.length) (places_in rs)
next_is_other r [] longest = tt
next_is_other r (s ∷ []) longest = begins_other (r.first + r.length) s.first s.length [] longest.2 longest.1
next_is_other r (s ∷ t ∷ rs) longest = begins_other (r.first + r.length) s.first s.length (places_in (t ∷ rs)) longest.2.0 longest.1

some_places : (r : Run) (rs : List Run) → AreLongest (r ∷ rs) → 1 ≤ r.length
some_places r [] longest = longest
some_places r (s ∷ rs) longest = longest.0

later_longest : (r : Run) (rs : List Run) → AreLongest (r ∷ rs) → AreLongest rs
later_longest r [] longest = tt
later_longest r (s ∷ rs) longest = longest.2

same_first : (a b m n : ℕ) (xs ys : List ℕ) → 1 ≤ m → 1 ≤ n → span a m ++ xs ≡ span b n ++ ys → a ≡ b
same_first a b zero n xs ys some more is = absurd (omega arith)
same_first a b (suc m) zero xs ys some more is = absurd (omega arith)
same_first a b (suc m) (suc n) xs ys some more is = cc

none_left : (a n : ℕ) (ys : List ℕ) → 1 ≤ n → [] ≡ span a n ++ ys → ⊥
none_left a zero ys some is = absurd (omega arith)
none_left a (suc n) ys some is = cc

not_this : (n m : ℕ) (xs ys : List ℕ) → n ≡ m → BeginsOther n xs → xs ≡ m ∷ ys → ⊥
not_this n m [] ys same other is = cc
not_this n m (x ∷ xs) ys same other is = let here : x ≡ m = cc in other (same ∙ sym here)

-- two spans from one number on, neither of which goes on, are one, and so are the rests
same_span : (a m n : ℕ) (xs ys : List ℕ) → BeginsOther (a + m) xs → BeginsOther (a + n) ys → span a m ++ xs ≡ span a n ++ ys → (m ≡ n) × (xs ≡ ys)
same_span a zero zero xs ys first second is = (refl, is)
same_span a zero (suc n) xs ys first second is = absurd (not_this (a + 0) a xs (span (a + 1) n ++ ys) (omega arith) first is)
same_span a (suc m) zero xs ys first second is = absurd (not_this (a + 0) a ys (span (a + 1) m ++ xs) (omega arith) second (sym is))
same_span a (suc m) (suc n) xs ys first second is =
    let tails : span (a + 1) m ++ xs ≡ span (a + 1) n ++ ys = cc in
    let rest = same_span (a + 1) m n xs ys (subst (λ k. BeginsOther k xs) (shifted a m) first) (subst (λ k. BeginsOther k ys) (shifted a n) second) tails in
    (ap suc rest.0, rest.1)
  where
    shifted : (x k : ℕ) → x + suc k ≡ x + 1 + k
    shifted x k = omega arith

pub one_list : (ps qs : List Run) → AreLongest ps → AreLongest qs → places_in ps ≡ places_in qs → ps ≡ qs
one_list [] [] first second is = refl
one_list [] (q ∷ qs) first second is = absurd (none_left q.first q.length (places_in qs) (some_places q qs second) is)
one_list (p ∷ ps) [] first second is = absurd (none_left p.first p.length (places_in ps) (some_places p ps first) (sym is))
one_list (p ∷ ps) (q ∷ qs) first second is =
    let begin = same_first p.first q.first p.length q.length (places_in ps) (places_in qs) (some_places p ps first) (some_places q qs second) is in
    let moved = subst (λ b. span p.first p.length ++ places_in ps ≡ span b q.length ++ places_in qs) (sym begin) is in
    let rest = same_span p.first p.length q.length (places_in ps) (places_in qs) (next_is_other p ps first)
    (subst (λ b. BeginsOther (b + q.length) (places_in qs)) (sym begin) (next_is_other q qs second)) moved in
    let run : p ≡ q = λ i. record { first = begin i; length = rest.0 i } in
    let later = one_list ps qs (later_longest p ps first) (later_longest q qs second) rest.1 in
    λ i. run i ∷ later i
