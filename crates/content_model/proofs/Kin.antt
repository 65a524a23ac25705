-- Numbers in ascending order, with one more.
use Rattle.std.proofs.Common.{◌≡◌, ℕ, ◌+◌, ◌≤◌, Bool, true, false, cond, List, [], ◌∷◌, refl, sym, ap, subst, ◌∙◌, arith, add-one}
use Rattle.std.specs.Prelude.{◌||◌, nat_eq, nat_le, insert}
use Rattle.std.specs.List.{list_any}
use Rattle.std.proofs.lemmas.Bool.Decides.{nat_tests}
use Rattle.place_words.specs.Different.{is_among}
use Rattle.place_words.specs.Rising.{Rising}
use Rattle.content_model.specs.Kin.{included, in_order, place_in}

-- put in at its place
pub insert_in_order : (n : ℕ) (ms : List ℕ) → insert ms (place_in n ms) n ≡ in_order n ms
insert_in_order n [] = refl
insert_in_order n (m ∷ ms) =
    elim (nat_le n m) as (λ b. insert (m ∷ ms) (cond b 0 (place_in n ms + 1)) n ≡ cond b (n ∷ m ∷ ms) (m ∷ in_order n ms)) [
      | true ↦ refl
      | false ↦ rw add-one (ap (λ (rest : List ℕ). m ∷ rest) (insert_in_order n ms))
    ]

any_among : (n : ℕ) (ms : List ℕ) → list_any (λ m. nat_eq m n) ms ≡ is_among ms n
any_among n [] = refl
any_among n (m ∷ ms) = ap (λ (b : Bool). nat_eq m n || b) (any_among n ms)

pub included_new : (n : ℕ) (ms : List ℕ) → list_any (λ m. nat_eq m n) ms ≡ false → insert ms (place_in n ms) n ≡ included n ms
included_new n ms e = rw (sym (any_among n ms) ∙ e) (insert_in_order n ms)

pub included_there : (n : ℕ) (ms : List ℕ) → list_any (λ m. nat_eq m n) ms ≡ true → ms ≡ included n ms
included_there n ms e = rw (sym (any_among n ms) ∙ e) refl

-- ---- what is in order stays so

rising_from : (m n : ℕ) (ms : List ℕ) → m ≤ n → Rising n ms → Rising m ms
rising_from m n [] le h = tt
rising_from m n (x ∷ xs) le h = (omega (arith, h.0), h.1)

in_order_rises : (low n : ℕ) (ms : List ℕ) → low ≤ n → is_among ms n ≡ false → Rising low ms → Rising low (in_order n ms)
in_order_rises low n [] le new h = (le, tt)
in_order_rises low n (m ∷ ms) le new h = by (nat_le n m) refl (nat_eq m n) refl new (λ (less : m + 1 ≤ n) (new : is_among ms n ≡ false). in_order_rises (m + 1) n ms less new h.1)
  where
    by : (t : Bool) → nat_le n m ≡ t → (u : Bool) → nat_eq m n ≡ u → (u || is_among ms n) ≡ false → (m + 1 ≤ n → is_among ms n ≡ false → Rising (m + 1) (in_order n ms)) → Rising low (cond t (n ∷ m ∷ ms) (m ∷ in_order n ms))
    by t is true same new more = cc
    by true is false same new more = let less : n + 1 ≤ m = grind (arith, nat_tests) in (le, (less, h.1))
    by false is false same new more = let less : m + 1 ≤ n = grind (arith, nat_tests) in (h.0, more less new)

in_order_among : (n : ℕ) (ms : List ℕ) (k : ℕ) → is_among (in_order n ms) k ≡ (nat_eq n k || is_among ms k)
in_order_among n [] k = refl
in_order_among n (m ∷ ms) k = by (nat_le n m) (in_order_among n ms k)
  where
    turned : (a b c d : Bool) → d ≡ (b || c) → (a || d) ≡ (b || (a || c))
    turned true true c d e = refl
    turned true false c d e = refl
    turned false b c d e = e

    by : (t : Bool) → is_among (in_order n ms) k ≡ (nat_eq n k || is_among ms k) → is_among (cond t (n ∷ m ∷ ms) (m ∷ in_order n ms)) k ≡ (nat_eq n k || (nat_eq m k || is_among ms k))
    by true more = refl
    by false more = turned (nat_eq m k) (nat_eq n k) (is_among ms k) (is_among (in_order n ms) k) more

pub included_rises : (n : ℕ) (ms : List ℕ) → Rising 0 ms → Rising 0 (included n ms)
included_rises n ms h = by (is_among ms n) refl
  where
    by : (t : Bool) → is_among ms n ≡ t → Rising 0 (cond t ms (in_order n ms))
    by true there = h
    by false new = in_order_rises 0 n ms (omega arith) new h

pub included_among : (n : ℕ) (ms : List ℕ) (k : ℕ) → is_among (included n ms) k ≡ (nat_eq n k || is_among ms k)
included_among n ms k = by (is_among ms n) refl (nat_eq n k) refl
  where
    by : (t : Bool) → is_among ms n ≡ t → (u : Bool) → nat_eq n k ≡ u → is_among (cond t ms (in_order n ms)) k ≡ (nat_eq n k || is_among ms k)
    by true there true same = let e : n ≡ k = grind (arith, nat_tests) in rw same (subst (λ (x : ℕ). is_among ms x ≡ true) e there)
    by true there false same = rw same refl
    by false new u same = in_order_among n ms k
