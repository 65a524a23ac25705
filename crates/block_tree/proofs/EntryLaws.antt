-- Pointers of index blocks.
use Rattle.std.proofs.Common.{◌≡◌, ◌<◌, ℕ, zero, suc, ◌==◌, Bool, true, false, cond, List, [], ◌∷◌, length, take, get_or, refl, ap, sym, ◌∙◌, inl, arith}
use Rattle.std.proofs.Math.Seq.{take-length}
use Rattle.std.specs.Prelude.{slice_get, slice_index, replicate, Some}
use Rattle.std.proofs.lemmas.Bool.Decides.{nat_tests}
use Rattle.vol_numbers.specs.Layout.{Layout}
use Rattle.vol_numbers.specs.declared.block.Block.{Block}
use Rattle.block_format.specs.Words.{words}
use Rattle.block_format.specs.Index.{IsPointer}
use Rattle.block_tree.specs.Tree.{Blocks, blocks_in, index_at, nonzero}
use Rattle.block_tree.specs.Parts.{SameEntries}

-- by each element
pub same_list : (xs ys : List ℕ) → length xs ≡ length ys → ((i : ℕ) → i < length xs → slice_index xs i ≡ slice_index ys i) → xs ≡ ys
same_list [] [] long each = refl
same_list [] (y ∷ ys) long each = absurd (omega (arith, long))
same_list (x ∷ xs) [] long each = absurd (omega (arith, long))
same_list (x ∷ xs) (y ∷ ys) long each =
    let head : x ≡ y = each 0 (omega arith) in
    let rest = same_list xs ys (omega (arith, long)) (λ i lt. each (suc i) (omega arith)) in
    λ t. head t ∷ rest t

-- where one leads to a block, not all are 0
pub some_nonzero : (ptrs : List ℕ) (i : ℕ) → 0 < slice_index ptrs i → nonzero ptrs ≡ [] → ⊥
some_nonzero [] i some e = omega (arith, some)
some_nonzero (zero ∷ ps) zero some e = omega (arith, some)
some_nonzero (zero ∷ ps) (suc i) some e = some_nonzero ps i some e
some_nonzero (suc p ∷ ps) i some e = first (suc p == 0) refl e
  where
    first : (t : Bool) → (suc p == 0) ≡ t → cond (Rattle.std.specs.Prelude.not t) (suc p ∷ nonzero ps) (nonzero ps) ≡ [] → ⊥
    first true is same = grind (arith, nat_tests, is)
    first false is same = cc

pub nonzero_zeros : (n : ℕ) → nonzero (replicate n 0) ≡ []
nonzero_zeros zero = refl
nonzero_zeros (suc n) = nonzero_zeros n

pub zero_in : (n i : ℕ) → slice_index (replicate n 0) i ≡ 0
zero_in zero i = refl
zero_in (suc n) zero = refl
zero_in (suc n) (suc i) = zero_in n i

pub same_refl : (xs : List ℕ) → SameEntries xs xs
same_refl xs = record { each = λ i. refl; some = refl }

-- a block that isn't there is one of zeros
pub same_hole : (n : ℕ) → SameEntries [] (replicate n 0)
same_hole n = record { each = λ i. sym (zero_in n i); some = sym (nonzero_zeros n) }

pub zeros_are_pointers : (g : Layout) (n k d : ℕ) → k < length {A = ℕ} (replicate n 0) → IsPointer g (get_or {A = ℕ} (replicate n 0) k d)
zeros_are_pointers g zero k d lt = absurd (omega (arith, lt))
zeros_are_pointers g (suc n) zero d lt = inl refl
zeros_are_pointers g (suc n) (suc k) d lt = zeros_are_pointers g n k d (omega arith)

pub one_is_pointer : (g : Layout) (ptr n k d : ℕ) → IsPointer g ptr → k < length {A = ℕ} (ptr ∷ replicate n 0) → IsPointer g (get_or {A = ℕ} (ptr ∷ replicate n 0) k d)
one_is_pointer g ptr n zero d is lt = is
one_is_pointer g ptr n (suc k) d is lt = zeros_are_pointers g n k d (omega arith)

pub block_read : (contents : List Block) (b : ℕ) (block : Block) → slice_get contents b ≡ Some block → blocks_in contents b ≡ block.bytes
block_read [] b block e = cc
block_read (x ∷ xs) zero block e = ap (λ (y : Block). y.bytes) (let same : x ≡ block = cc in same)
block_read (x ∷ xs) (suc b) block e = block_read xs b block e

-- the pointers of a block that is there
pub index_there : (read : Blocks) (b : ℕ) (ptrs : List ℕ) → (b ≡ 0 → ⊥) → words (read b) ≡ ptrs → length ptrs ≡ 1024 → index_at read b ≡ ptrs
index_there read b ptrs some spelled long = at_test (b == 0) refl
  where
    at_test : (t : Bool) → (b == 0) ≡ t → cond t [] (take 1024 (words (read b))) ≡ ptrs
    at_test true e = absurd (some (grind (arith, nat_tests, e)))
    at_test false e = ap (take 1024) spelled ∙ (ap (λ (n : ℕ). take n ptrs) (sym long) ∙ take-length ptrs)
