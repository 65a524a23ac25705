-- Numbers that strictly rise.
use Rattle.std.proofs.Common.{◌≡◌, ℕ, zero, suc, ◌+◌, ◌-◌, ◌<◌, ◌≤◌, false, List, [], ◌∷◌, length, refl, sym, subst, arith}
use Rattle.std.specs.Prelude.{nat_eq}
use Rattle.std.proofs.lemmas.Bool.Decides.{nat_tests}
use Rattle.place_words.specs.Different.{is_among, span, Distinct}
use Rattle.place_words.specs.Rising.{Rising, AllUnder}

pub rising_less : (m n : ℕ) → m ≤ n → (xs : List ℕ) → Rising n xs → Rising m xs
rising_less m n le [] rising = tt
rising_less m n le (x ∷ xs) rising = (omega (arith, le, rising.0), rising.1)

not_among : (x n : ℕ) → x < n → (xs : List ℕ) → Rising n xs → is_among xs x ≡ false
not_among x n lt [] rising = refl
not_among x n lt (y ∷ ys) rising =
    let le = rising.0 in
    let apart : nat_eq y x ≡ false = grind (arith, nat_tests) in
    rw (apart, not_among x (y + 1) (omega (arith, lt, le)) ys rising.1) refl

pub rising_distinct : (n : ℕ) (xs : List ℕ) → Rising n xs → Distinct xs
rising_distinct n [] rising = tt
rising_distinct n (x ∷ xs) rising = (not_among x (x + 1) (omega arith) xs rising.1, rising_distinct (x + 1) xs rising.1)

-- they are no more than there is room for
fits : (n k : ℕ) (xs : List ℕ) → Rising n xs → AllUnder (n + k) xs → length xs ≤ k
fits n k [] rising under = omega arith
fits n zero (x ∷ xs) rising under = absurd (omega (arith, rising.0, under.0))
fits n (suc k) (x ∷ xs) rising under =
    let e : n + suc k ≡ (n + 1) + k = omega arith in
    omega (arith, fits (n + 1) k xs (rising_less (n + 1) (x + 1) (omega (arith, rising.0)) xs rising.1) (subst (λ (m : ℕ). AllUnder m xs) e under.1))

-- where they are as many, they are all: the first is at its place, since the rest would have too little room
first_is : (n k x : ℕ) (xs : List ℕ) → n ≤ x → Rising (x + 1) xs → AllUnder (n + suc k) (x ∷ xs) → length xs ≡ k → x ≡ n
first_is n k x xs le rising under full =
    let room : (x + 1) + (n + k - x) ≡ n + suc k = omega (arith, le, under.0) in
    let most = fits (x + 1) (n + k - x) xs rising (subst (λ (m : ℕ). AllUnder m xs) (sym room) under.1) in
    omega (arith, le, full, most, under.0)

pub rising_full : (n k : ℕ) (xs : List ℕ) → Rising n xs → AllUnder (n + k) xs → length xs ≡ k → xs ≡ span n k
rising_full n zero [] rising under full = refl
rising_full n (suc k) [] rising under full = absurd (omega (arith, full))
rising_full n zero (x ∷ xs) rising under full = absurd (omega (arith, full))
rising_full n (suc k) (x ∷ xs) rising under full =
    let rest : length xs ≡ k = omega (arith, full) in
    let first = first_is n k x xs rising.0 rising.1 under rest in
    let e : n + suc k ≡ (n + 1) + k = omega arith in
    let more = rising_full (n + 1) k xs (rising_less (n + 1) (x + 1) (omega (arith, rising.0)) xs rising.1) (subst (λ (m : ℕ). AllUnder m xs) e under.1) rest in
    λ i. first i ∷ more i
