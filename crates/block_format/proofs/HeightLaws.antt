-- The height of a node is the least at which its tree has places for its blocks.
use Rattle.std.proofs.Common.{◌≡◌, ◌<◌, ◌≤◌, ◌⊎◌, ⊎_elim, ◌^◌, ℕ, zero, suc, sym, subst, arith}
use Rattle.std.proofs.lemmas.Bool.Decides.{nat_tests}
use Rattle.block_format.specs.Inode.{height_of}

height_low : (b : ℕ) → b ≤ 1 → height_of b ≡ 0
height_low b le = grind (arith, nat_tests)

height_middle : (b : ℕ) → 1 < b → b ≤ 1024 → height_of b ≡ 1
height_middle b lt le = grind (arith, nat_tests)

height_high : (b : ℕ) → 1024 < b → height_of b ≡ 2
height_high b lt = grind (arith, nat_tests)

by_size : (b : ℕ) → (b ≤ 1) ⊎ (((1 < b) × (b ≤ 1024)) ⊎ (1024 < b))
by_size b = grind arith

pub enough : (b : ℕ) → b ≤ 1048576 → b ≤ 1024 ^ height_of b
enough b most =
    ⊎_elim (λ low. subst (λ (h : ℕ). b ≤ 1024 ^ h) (sym (height_low b low)) low)
    (⊎_elim (λ middle. subst (λ (h : ℕ). b ≤ 1024 ^ h) (sym (height_middle b middle.0 middle.1)) middle.1)
    (λ high. subst (λ (h : ℕ). b ≤ 1024 ^ h) (sym (height_high b high)) most))
    (by_size b)

at_most_two : (b : ℕ) → height_of b ≤ 2
at_most_two b = grind (arith, nat_tests)

low_least : (b : ℕ) → b ≤ 1 → height_of b ≤ 0
low_least b le = omega (arith, height_low b le)

middle_least : (b : ℕ) → b ≤ 1024 → height_of b ≤ 1
middle_least b le = grind (arith, nat_tests)

pub least : (b h : ℕ) → b ≤ 1024 ^ h → height_of b ≤ h
least b zero le = low_least b le
least b (suc zero) le = middle_least b le
least b (suc (suc h)) le = omega (arith, at_most_two b)
