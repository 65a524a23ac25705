-- The leaves that changes and a cut touch are at most as many as the different leaves of the changes and one.
use Rattle.std.proofs.Common.{◌≡◌, ◌<◌, ◌≤◌, ℕ, zero, suc, ◌+◌, ◌-◌, ◌/◌, ◌==◌, Bool, true, false, List, [], ◌∷◌, length, refl, ap, arith}
use Rattle.std.specs.Prelude.{not, if◌then◌else◌, ◌||◌, nat_eq}
use Rattle.std.proofs.lemmas.Bool.Decides.{nat_tests}
use Rattle.vol_numbers.specs.declared.runs.Change.{Change}
use Rattle.place_words.specs.Different.{is_among, different, passing, total, span}
use Rattle.block_tree.specs.Edit.{leaves_of}
use Rattle.block_tree.specs.Room.{one_if, leaf_room, leaves_room}

among_none : (n k : ℕ) → passing (is_among []) (span k n) ≡ 0
among_none zero k = refl
among_none (suc n) k = let rest = among_none n (k + 1) in omega (arith, rest)

among_apart : (n k l : ℕ) (ls : List ℕ) → l < k → passing (is_among (l ∷ ls)) (span k n) ≡ passing (is_among ls) (span k n)
among_apart zero k l ls lt = refl
among_apart (suc n) k l ls lt =
    let rest = among_apart n (k + 1) l ls (omega arith) in
    let t : nat_eq l k ≡ false = grind (arith, nat_tests) in
    let head : one_if (nat_eq l k || is_among ls k) ≡ one_if (is_among ls k) = ap (λ (b : Bool). one_if (b || is_among ls k)) t in
    omega (arith, head, rest)

among_more : (n k l : ℕ) (ls : List ℕ) → passing (is_among (l ∷ ls)) (span k n) ≤ passing (is_among ls) (span k n) + one_if (not (is_among ls l))
among_more zero k l ls = omega arith
among_more (suc n) k l ls = by_test (nat_eq l k) refl (is_among ls k) (is_among ls l) (λ e. ap (is_among ls) e) (among_more n (k + 1) l ls) (λ lt. among_apart n (k + 1) l ls lt)
  where
    by_test : (t : Bool) → nat_eq l k ≡ t → (here there : Bool) → (k ≡ l → here ≡ there) → passing (is_among (l ∷ ls)) (span (k + 1) n) ≤ passing (is_among ls) (span (k + 1) n) + one_if (not there)
        → (l < k + 1 → passing (is_among (l ∷ ls)) (span (k + 1) n) ≡ passing (is_among ls) (span (k + 1) n))
        → one_if (t || here) + passing (is_among (l ∷ ls)) (span (k + 1) n) ≤ one_if here + passing (is_among ls) (span (k + 1) n) + one_if (not there)
    by_test true e here there same rest apart =
        let is : k ≡ l = grind (arith, nat_tests, e) in
        let tails = apart (omega (arith, is)) in
        at_end here there (same is) tails
      where
        at_end : (here there : Bool) → here ≡ there → passing (is_among (l ∷ ls)) (span (k + 1) n) ≡ passing (is_among ls) (span (k + 1) n)
            → 1 + passing (is_among (l ∷ ls)) (span (k + 1) n) ≤ one_if here + passing (is_among ls) (span (k + 1) n) + one_if (not there)
        at_end true true same tails = omega (arith, tails)
        at_end false false same tails = omega (arith, tails)
        at_end true false same tails = cc
        at_end false true same tails = cc
    by_test false e here there same rest apart = omega (arith, rest)

among_different : (n k : ℕ) (ls : List ℕ) → passing (is_among ls) (span k n) ≤ different ls
among_different n k [] = omega (arith, among_none n k)
among_different n k (l ∷ ls) = by_test (is_among ls l) (among_more n k l ls) (among_different n k ls)
  where
    by_test : (t : Bool) → passing (is_among (l ∷ ls)) (span k n) ≤ passing (is_among ls) (span k n) + one_if (not t) → passing (is_among ls) (span k n) ≤ different ls
        → passing (is_among (l ∷ ls)) (span k n) ≤ (if t then different ls else different ls + 1)
    by_test true more rest = omega (arith, more, rest)
    by_test false more rest = omega (arith, more, rest)

-- the cut is in one leaf
one_past : (c n k : ℕ) → c < k → total (λ j. one_if (j == c)) (span k n) ≡ 0
one_past c zero k lt = refl
one_past c (suc n) k lt =
    let t : (k == c) ≡ false = grind (arith, nat_tests) in
    let head : one_if (k == c) ≡ 0 = ap one_if t in
    omega (arith, head, one_past c n (k + 1) (omega arith))

one_at_most : (c n k : ℕ) → total (λ j. one_if (j == c)) (span k n) ≤ 1
one_at_most c zero k = omega arith
one_at_most c (suc n) k = by_test (k == c) refl (one_at_most c n (k + 1))
  where
    by_test : (t : Bool) → (k == c) ≡ t → total (λ j. one_if (j == c)) (span (k + 1) n) ≤ 1 → one_if t + total (λ j. one_if (j == c)) (span (k + 1) n) ≤ 1
    by_test true e rest = let is : k ≡ c = grind (arith, nat_tests, e) in omega (arith, one_past c n (k + 1) (omega (arith, is)))
    by_test false e rest = omega (arith, rest)

both : (changes : List Change) (cut n k : ℕ) → total (leaf_room changes cut) (span k n) ≡ passing (is_among (leaves_of changes)) (span k n) + total (λ j. one_if (j == cut / 1024)) (span k n)
both changes cut zero k = refl
both changes cut (suc n) k = omega (arith, both changes cut n (k + 1))

at_most : (changes : List Change) (cut n k : ℕ) → total (leaf_room changes cut) (span k n) ≤ different (leaves_of changes) + 1
at_most changes cut n k = omega (arith, both changes cut n k, among_different n k (leaves_of changes), one_at_most (cut / 1024) n k)

-- for all leaves but the first, and for all
pub rest_room : (changes : List Change) (cut end : ℕ) → leaves_room changes cut 1 end ≤ different (leaves_of changes) + 1
rest_room changes cut end = at_most changes cut (end - 1) 1

pub whole_room : (changes : List Change) (cut end : ℕ) → leaf_room changes cut 0 + leaves_room changes cut 1 end ≤ different (leaves_of changes) + 1
whole_room changes cut end = at_most changes cut (suc (end - 1)) 0

-- the next leaf
pub room_step : (changes : List Change) (cut k end : ℕ) → k < end → leaves_room changes cut k end ≡ leaf_room changes cut k + leaves_room changes cut (k + 1) end
room_step changes cut k end lt = let e : end - k ≡ suc (end - (k + 1)) = omega (arith, lt) in ap (λ (n : ℕ). total (leaf_room changes cut) (span k n)) e

-- there are no more leaves than changes
pub few_leaves : (changes : List Change) → different (leaves_of changes) ≤ length changes
few_leaves [] = omega arith
few_leaves (c ∷ cs) = by_test (is_among (leaves_of cs) (c.place / 1024)) (few_leaves cs)
  where
    by_test : (t : Bool) → different (leaves_of cs) ≤ length cs → (if t then different (leaves_of cs) else different (leaves_of cs) + 1) ≤ length (c ∷ cs)
    by_test true le = omega (arith, le)
    by_test false le = omega (arith, le)
