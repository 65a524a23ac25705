-- The blocks of one node among those of all.
use Rattle.std.proofs.Common.{◌≡◌, ℕ, zero, suc, ◌+◌, ◌-◌, ◌<◌, ◌≤◌, Bool, true, false, cond, List, [], ◌∷◌, length, take, drop, filter, get_or, refl, sym, ap, ◌∙◌, arith}
use Rattle.std.specs.Prelude.{nat_eq, nat_lt, ◌&&◌}
use Rattle.std.proofs.lemmas.Bool.{eq-eqb}
use Rattle.std.proofs.lemmas.Bool.Decides.{nat_tests}
use Rattle.block_tree.specs.Tree.{Blocks}
use Rattle.image_model.specs.Slots.{held_at}
use Rattle.image_walk.specs.declared.node_block.NodeBlock.{NodeBlock}
use Rattle.image_walk.specs.Blocks.{number_at, AreOnDisk, blocks_held}

abbrev is_of : ℕ → NodeBlock → Bool
is_of n b = nat_eq b.number n

abbrev pub own : ℕ → List NodeBlock → List NodeBlock
own n blocks = filter (is_of n) blocks

less_apart : (m n : ℕ) → m < n → nat_eq m n ≡ false
less_apart m n lt = grind (arith, nat_tests)

more_apart : (m n : ℕ) → n < m → nat_eq m n ≡ false
more_apart m n lt = grind (arith, nat_tests)

none_own : (blocks : List NodeBlock) (n : ℕ) → ((k : ℕ) → k < length blocks → n < number_at blocks k) → own n blocks ≡ []
none_own [] n above = refl
none_own (b ∷ bs) n above = ap (λ (t : Bool). cond t (b ∷ own n bs) (own n bs)) (more_apart b.number n (above 0 (omega arith))) ∙ none_own bs n (λ k lt. above (suc k) (omega (arith, lt)))

-- so many blocks of a node behind those of lesser numbers, and before those of greater ones
pub run_is : (blocks : List NodeBlock) (n from count : ℕ) → from + count ≤ length blocks → ((k : ℕ) → k < from → number_at blocks k < n)
    → ((k : ℕ) → from ≤ k → k < from + count → number_at blocks k ≡ n) → ((k : ℕ) → from + count ≤ k → k < length blocks → n < number_at blocks k)
    → take count (drop from blocks) ≡ own n blocks
run_is [] n from zero le before here behind = nothing from
  where
    nothing : (k : ℕ) → take 0 (drop k (let e : List NodeBlock = [] in e)) ≡ []
    nothing zero = refl
    nothing (suc k) = refl
run_is [] n from (suc count) le before here behind = absurd (omega (arith, le))
run_is (b ∷ bs) n zero zero le before here behind = sym (none_own (b ∷ bs) n (λ k lt. behind k (omega arith) lt))
run_is (b ∷ bs) n zero (suc count) le before here behind =
    ap (λ (rest : List NodeBlock). b ∷ rest) (run_is bs n zero count (omega (arith, le)) (λ k lt. absurd (omega (arith, lt))) (λ k low lt. here (suc k) (omega arith) (omega (arith, lt))) (λ k low lt. behind (suc k) (omega (arith, low)) (omega (arith, lt))))
    ∙ sym (ap (λ (t : Bool). cond t (b ∷ own n bs) (own n bs)) (eq-eqb b.number n (here 0 (omega arith) (omega arith))))
run_is (b ∷ bs) n (suc from) count le before here behind =
    run_is bs n from count (omega (arith, le)) (λ k lt. before (suc k) (omega (arith, lt))) (λ k low lt. here (suc k) (omega (arith, low)) (omega (arith, lt))) (λ k low lt. behind (suc k) (omega (arith, low)) (omega (arith, lt)))
    ∙ sym (ap (λ (t : Bool). cond t (b ∷ own n bs) (own n bs)) (less_apart b.number n (before 0 (omega arith))))

-- ---- what is held of one node

and_false : (a : Bool) → (a && false) ≡ false
and_false true = refl
and_false false = refl

pub held_own : (read : Blocks) (blocks : List NodeBlock) (n place : ℕ) → held_at (blocks_held read (own n blocks)) n place ≡ held_at (blocks_held read blocks) n place
held_own read [] n place = refl
held_own read (b ∷ bs) n place = by (is_of n b) refl (held_own read bs n place)
  where
    by : (t : Bool) → is_of n b ≡ t → held_at (blocks_held read (own n bs)) n place ≡ held_at (blocks_held read bs) n place
        → held_at (blocks_held read (cond t (b ∷ own n bs) (own n bs))) n place ≡ cond (t && nat_eq b.place place) (read b.block) (held_at (blocks_held read bs) n place)
    by true is more = (λ i. cond (is i && nat_eq b.place place) (read b.block) (more i))
    by false is more = more

pub own_at : (blocks : List NodeBlock) (n k : ℕ) (d : NodeBlock) → k < length (own n blocks) → is_of n (get_or (own n blocks) k d) ≡ true
own_at [] n k d lt = absurd (omega (arith, lt))
own_at (b ∷ bs) n k d lt = by (is_of n b) refl k lt (own_at bs n)
  where
    by : (t : Bool) → is_of n b ≡ t → (j : ℕ) → j < length (cond t (b ∷ own n bs) (own n bs)) → ((i : ℕ) (e : NodeBlock) → i < length (own n bs) → is_of n (get_or (own n bs) i e) ≡ true)
        → is_of n (get_or (cond t (b ∷ own n bs) (own n bs)) j d) ≡ true
    by true is zero lt more = is
    by true is (suc j) lt more = more j d (omega (arith, lt))
    by false is j lt more = more j d lt

-- one block on
pub other_place : (read : Blocks) (b : NodeBlock) (rest : List NodeBlock) (n place : ℕ) → nat_eq b.place place ≡ false → held_at (blocks_held read (b ∷ rest)) n place ≡ held_at (blocks_held read rest) n place
other_place read b rest n place apart = ap (λ (t : Bool). cond t (read b.block) (held_at (blocks_held read rest) n place)) ((λ i. nat_eq b.number n && apart i) ∙ and_false (nat_eq b.number n))

pub this_place : (read : Blocks) (b : NodeBlock) (rest : List NodeBlock) (n place : ℕ) → is_of n b ≡ true → nat_eq b.place place ≡ true → held_at (blocks_held read (b ∷ rest)) n place ≡ read b.block
this_place read b rest n place is same = ap (λ (t : Bool). cond t (read b.block) (held_at (blocks_held read rest) n place)) (λ i. is i && same i)

-- the same between two places
pub run_from : (blocks : List NodeBlock) (n from to : ℕ) → to ≤ length blocks → ((k : ℕ) → k < from → number_at blocks k < n) → ((k : ℕ) → from ≤ k → k < length blocks → n ≤ number_at blocks k)
    → ((k : ℕ) → k < to → number_at blocks k < n + 1) → ((k : ℕ) → to ≤ k → k < length blocks → n + 1 ≤ number_at blocks k) → from ≤ length blocks → take (to - from) (drop from blocks) ≡ own n blocks
run_from blocks n from to le before behind before_next behind_next within =
    run_is blocks n from (to - from) (omega (arith, rise, le)) before
    (λ k low lt. let a = behind k low (omega (arith, lt, rise, le)) in let b = before_next k (omega (arith, lt, rise)) in omega (arith, a, b))
    (λ k low lt. let a = behind_next k (omega (arith, low, rise)) lt in omega (arith, a))
  where
    rise : from ≤ to
    rise = by (nat_lt to from) refl
      where
        by : (t : Bool) → nat_lt to from ≡ t → from ≤ to
        by true is =
            let less : to < from = grind (arith, nat_tests) in
            let a = before to less in
            let b = behind_next to (omega arith) (omega (arith, less, within)) in
            absurd (omega (arith, a, b))
        by false is = grind (arith, nat_tests)

-- each block of a node is one of all
pub own_on_disk : (size : ℕ) (blocks : List NodeBlock) (n k : ℕ) → AreOnDisk size blocks → k < length (own n blocks) → (get_or (own n blocks) k (record { number = 0; place = 0; block = 0 })).block < size
own_on_disk size [] n k all lt = absurd (omega (arith, lt))
own_on_disk size (b ∷ bs) n k all lt = by (is_of n b) k lt (own_on_disk size bs n)
  where
    by : (t : Bool) (j : ℕ) → j < length (cond t (b ∷ own n bs) (own n bs)) → ((i : ℕ) → AreOnDisk size bs → i < length (own n bs) → (get_or (own n bs) i (record { number = 0; place = 0; block = 0 })).block < size)
        → (get_or (cond t (b ∷ own n bs) (own n bs)) j (record { number = 0; place = 0; block = 0 })).block < size
    by true zero lt more = all 0 (omega arith)
    by true (suc j) lt more = more j (λ i less. all (suc i) (omega (arith, less))) (omega (arith, lt))
    by false j lt more = more j (λ i less. all (suc i) (omega (arith, less))) lt
