-- Sums and numbers of different values depend on what is there alone.
use Rattle.std.proofs.Common.{◌≡◌, ℕ, zero, suc, ◌+◌, ◌<◌, ◌≤◌, Bool, true, false, ◌||◌, List, [], ◌∷◌, map, refl, sym, ap, subst, ◌∙◌, arith, cond}
use Rattle.std.specs.Prelude.{nat_eq}
use Rattle.std.proofs.lemmas.Bool.Decides.{nat_tests}
use Rattle.place_words.specs.Different.{different, span, is_among, passing, total, Distinct, AllWithin}
use Rattle.place_words.proofs.Counting.{different_is}

-- what a number is worth where it passes
abbrev pub chosen : (ℕ → ℕ) → (ℕ → Bool) → ℕ → ℕ
chosen h test k = cond (test k) (h k) 0

nothing : (h : ℕ → ℕ) (from n : ℕ) → total (λ k. 0) (span from n) ≡ 0
nothing h from zero = refl
nothing h from (suc n) = omega (arith, nothing h (from + 1) n)

not_there : (h : ℕ → ℕ) (test : ℕ → Bool) (x from n : ℕ) → x < from → total (chosen h (λ k. nat_eq x k || test k)) (span from n) ≡ total (chosen h test) (span from n)
not_there h test x from zero lt = refl
not_there h test x from (suc n) lt =
    (let apart : nat_eq x from ≡ false = grind (arith, nat_tests) in
    let rest = not_there h test x (from + 1) n (omega arith) in
    rw (apart, rest) refl)

one_there : (h : ℕ → ℕ) (test : ℕ → Bool) (x from n : ℕ) → from ≤ x → x < from + n → test x ≡ false → total (chosen h (λ k. nat_eq x k || test k)) (span from n) ≡ total (chosen h test) (span from n) + h x
one_there h test x from zero g lt e = absurd (omega arith)
one_there h test x from (suc n) g lt e =
    elim (nat_eq x from) as (λ b. nat_eq x from ≡ b → cond (b || test from) (h from) 0 + total (chosen h (λ k. nat_eq x k || test k)) (span (from + 1) n) ≡ cond (test from) (h from) 0 + total (chosen h test) (span (from + 1) n) + h x) [
      | true ↦ λ same.
          (let here : x ≡ from = grind (arith, nat_tests) in
          let fails : test from ≡ false = subst (λ k. test k ≡ false) here e in
          let rest = not_there h test x (from + 1) n (omega arith) in
          let worth : h x ≡ h from = ap h here in
          rw (rest, fails) (omega (arith, worth)))
      | false ↦ λ apart.
          (let later : from + 1 ≤ x = grind (arith, nat_tests) in
          let rest = one_there h test x (from + 1) n later (omega arith) e in
          rw rest (omega arith))
    ] refl

pub total_span : (h : ℕ → ℕ) (low size : ℕ) (ns : List ℕ) → AllWithin low (low + size) ns → Distinct ns → total h ns ≡ total (chosen h (is_among ns)) (span low size)
total_span h low size [] within distinct = sym (nothing h low size)
total_span h low size (n ∷ ns) within distinct = omega (arith, total_span h low size ns within.2 distinct.1, one_there h (is_among ns) n low size within.0 within.1 distinct.0)

-- every list has a bound
wider : (n m : ℕ) → n ≤ m → (ns : List ℕ) → AllWithin 0 n ns → AllWithin 0 m ns
wider n m le [] within = tt
wider n m le (x ∷ xs) within = (within.0, omega (arith, within.1, le), wider n m le xs within.2)

bound : (ns : List ℕ) → (n : ℕ) × AllWithin 0 n ns
bound [] = (0, tt)
bound (x ∷ xs) = let more = bound xs in (more.0 + x + 1, (omega arith, omega arith, wider more.0 (more.0 + x + 1) (omega arith) xs more.1))

-- what is summed over the same numbers, each there once, is the same
pub total_same : (h : ℕ → ℕ) (xs ys : List ℕ) → Distinct xs → Distinct ys → ((k : ℕ) → is_among xs k ≡ is_among ys k) → total h xs ≡ total h ys
total_same h xs ys a b same =
    let m = bound xs in
    let n = bound ys in
    let size = m.0 + n.0 in
    let e : 0 + size ≡ size = omega arith in
    total_span h 0 size xs (subst (λ (k : ℕ). AllWithin 0 k xs) (sym e) (wider m.0 size (omega arith) xs m.1)) a
    ∙ (λ i. total (chosen h (λ k. same k i)) (span 0 size))
    ∙ sym (total_span h 0 size ys (subst (λ (k : ℕ). AllWithin 0 k ys) (sym e) (wider n.0 size (omega arith) ys n.1)) b)

pub different_same : (xs ys : List ℕ) → ((k : ℕ) → is_among xs k ≡ is_among ys k) → different xs ≡ different ys
different_same xs ys same =
    let m = bound xs in
    let n = bound ys in
    let size = m.0 + n.0 in
    let e : 0 + size ≡ size = omega arith in
    different_is 0 size xs (subst (λ (k : ℕ). AllWithin 0 k xs) (sym e) (wider m.0 size (omega arith) xs m.1))
    ∙ (λ i. passing (λ k. same k i) (span 0 size))
    ∙ sym (different_is 0 size ys (subst (λ (k : ℕ). AllWithin 0 k ys) (sym e) (wider n.0 size (omega arith) ys n.1)))

-- ---- what is among the values of a function

first_image : (t : Bool) (f : ℕ → ℕ) (x j : ℕ) (xs : List ℕ) → nat_eq (f x) j ≡ t → (is_among (map f xs) j ≡ true → (y : ℕ) × (is_among xs y ≡ true) × (f y ≡ j)) → (t || is_among (map f xs) j) ≡ true
    → (y : ℕ) × ((nat_eq x y || is_among xs y) ≡ true) × (f y ≡ j)
first_image true f x j xs is more among = let same : nat_eq x x ≡ true = grind (arith, nat_tests) in let e : f x ≡ j = grind (arith, nat_tests) in (x, ap (λ (t : Bool). t || is_among xs x) same, e)
first_image false f x j xs is more among = let found = more among in (found.0, later (nat_eq x found.0) (is_among xs found.0) found.1, found.2)
  where
    later : (a b : Bool) → b ≡ true → (a || b) ≡ true
    later true b e = refl
    later false b e = e

pub image_from : (f : ℕ → ℕ) (j : ℕ) (xs : List ℕ) → is_among (map f xs) j ≡ true → (y : ℕ) × (is_among xs y ≡ true) × (f y ≡ j)
image_from f j [] among = cc
image_from f j (x ∷ xs) among = first_image (nat_eq (f x) j) f x j xs refl (image_from f j xs) among

image_step : (t : Bool) (f : ℕ → ℕ) (x y : ℕ) (xs : List ℕ) → nat_eq x y ≡ t → (is_among xs y ≡ true → is_among (map f xs) (f y) ≡ true) → (t || is_among xs y) ≡ true → (nat_eq (f x) (f y) || is_among (map f xs) (f y)) ≡ true
image_step true f x y xs is more among = let e : x ≡ y = grind (arith, nat_tests) in let v : f x ≡ f y = ap f e in let same : nat_eq (f x) (f y) ≡ true = grind (arith, nat_tests) in ap (λ (t : Bool). t || is_among (map f xs) (f y)) same
image_step false f x y xs is more among = later (nat_eq (f x) (f y)) _ (more among)
  where
    later : (a b : Bool) → b ≡ true → (a || b) ≡ true
    later true b e = refl
    later false b e = e

pub image_to : (f : ℕ → ℕ) (y : ℕ) (xs : List ℕ) → is_among xs y ≡ true → is_among (map f xs) (f y) ≡ true
image_to f y [] among = cc
image_to f y (x ∷ xs) among = image_step (nat_eq x y) f x y xs refl (image_to f y xs) among

same_bool : (a b : Bool) → (a ≡ true → b ≡ true) → (b ≡ true → a ≡ true) → a ≡ b
same_bool true b f g = sym (f refl)
same_bool false true f g = g refl
same_bool false false f g = refl

half : (f : ℕ → ℕ) (xs ys : List ℕ) → ((k : ℕ) → is_among xs k ≡ is_among ys k) → (j : ℕ) → is_among (map f xs) j ≡ true → is_among (map f ys) j ≡ true
half f xs ys same j among = let found = image_from f j xs among in subst (λ (k : ℕ). is_among (map f ys) k ≡ true) found.2 (image_to f found.0 ys (sym (same found.0) ∙ found.1))

pub images_same : (f : ℕ → ℕ) (xs ys : List ℕ) → ((k : ℕ) → is_among xs k ≡ is_among ys k) → (j : ℕ) → is_among (map f xs) j ≡ is_among (map f ys) j
images_same f xs ys same j = same_bool _ _ (half f xs ys same j) (half f ys xs (λ k. sym (same k)) j)

-- ---- fewer numbers are fewer different ones

passing_less : (t u : ℕ → Bool) → ((k : ℕ) → t k ≡ true → u k ≡ true) → (ns : List ℕ) → passing t ns ≤ passing u ns
passing_less t u part [] = omega arith
passing_less t u part (n ∷ ns) = omega (arith, by (t n) (u n) (part n), passing_less t u part ns)
  where
    by : (a b : Bool) → (a ≡ true → b ≡ true) → cond a 1 0 ≤ cond b 1 0
    by true true f = omega arith
    by true false f = let e : false ≡ true = f refl in cc
    by false b f = omega arith

pub different_part : (xs ys : List ℕ) → ((k : ℕ) → is_among xs k ≡ true → is_among ys k ≡ true) → different xs ≤ different ys
different_part xs ys part =
    let m = bound xs in
    let n = bound ys in
    let size = m.0 + n.0 in
    let e : 0 + size ≡ size = omega arith in
    let a = different_is 0 size xs (subst (λ (k : ℕ). AllWithin 0 k xs) (sym e) (wider m.0 size (omega arith) xs m.1)) in
    let b = different_is 0 size ys (subst (λ (k : ℕ). AllWithin 0 k ys) (sym e) (wider n.0 size (omega arith) ys n.1)) in
    omega (arith, a, b, passing_less (is_among xs) (is_among ys) part (span 0 size))
