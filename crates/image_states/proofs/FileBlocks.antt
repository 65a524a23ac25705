-- A block of a file that is seen, as a block of the file's bytes.
use Rattle.std.proofs.Common.{◌≡◌, ℕ, zero, suc, ◌+◌, ◌-◌, ◌*◌, ◌<◌, ◌≤◌, Bool, true, false, not, List, [], ◌∷◌, ◌++◌, length, take, drop, replicate, refl, sym, ap, subst, ◌∙◌, arith, slice_index_or, length-append}
use Rattle.std.specs.Prelude.{◌==◌, ◌&&◌, nat_lt}
use Rattle.std.specs.List.{list_all}
use Rattle.std.proofs.lemmas.Bool.{eqb-true}
use Rattle.std.proofs.lemmas.Grind.{same_number_lists}
use Rattle.std.proofs.lemmas.List.{get_or-append_right, get_or_append_left, get_or-take, get_or-drop, get_or_past, length-take, length-replicate}
use Rattle.block_format.specs.Inode.{blocks_of}
use Rattle.block_format.specs.declared.inode.Inode.TheVariants.{File}
use Rattle.image_model.specs.Nodes.{has_tail}
use Rattle.image_model.specs.Seen.{Seen}
use Rattle.image_model.specs.Slots.{held_at}
use Rattle.image_model.specs.Standing.{as_block}
use Rattle.image_model.specs.Stands.{bytes_from}
use Rattle.image_model.proofs.SpaceLaws.{file_length}
use Rattle.state_laws.proofs.Bytes.{block_of, block_byte, block_length, is_less, is_not_less}

block_long : (bytes : List ℕ) → length (as_block bytes) ≡ 4096
block_long bytes = omega (arith, length-take 4096 (bytes ++ replicate 4096 0), length-append bytes (replicate 4096 0), length-replicate {A = ℕ} 4096 0)

-- zeros behind bytes are what is read past their end
zeros_behind : (bytes : List ℕ) (m k : ℕ) → slice_index_or (bytes ++ replicate m 0) k 0 ≡ slice_index_or bytes k 0
zeros_behind bytes m k = by (nat_lt k (length bytes)) refl
  where
    by : (t : Bool) → nat_lt k (length bytes) ≡ t → slice_index_or (bytes ++ replicate m 0) k 0 ≡ slice_index_or bytes k 0
    by true is = get_or_append_left bytes (replicate m 0) 0 k (is_less k (length bytes) is)
    by false is =
        let past = is_not_less k (length bytes) is in
        get_or-append_right bytes (replicate m 0) (length bytes) k 0 refl past ∙ zero_at m (k - length bytes) ∙ sym (get_or_past bytes k 0 past)
      where
        zero_at : (m k : ℕ) → ◌≡◌ {A = ℕ} (slice_index_or (replicate m 0) k 0) 0
        zero_at zero k = refl
        zero_at (suc m) zero = refl
        zero_at (suc m) (suc k) = zero_at m k

as_byte : (bytes : List ℕ) (k : ℕ) → k < 4096 → slice_index_or (as_block bytes) k 0 ≡ slice_index_or bytes k 0
as_byte bytes k less = get_or-take 4096 (bytes ++ replicate 4096 0) k 0 less ∙ zeros_behind bytes 4096 k

-- all zeros read as zeros
zeros_read : (bytes : List ℕ) → list_all (λ b. b == 0) bytes ≡ true → (k : ℕ) → slice_index_or bytes k 0 ≡ 0
zeros_read [] all k = refl
zeros_read (b ∷ bs) all zero = eqb-true b 0 (first (b == 0) _ all)
  where
    first : (t u : Bool) → (t && u) ≡ true → t ≡ true
    first true u e = refl
    first false u e = cc
zeros_read (b ∷ bs) all (suc k) = zeros_read bs (second (b == 0) _ all) k
  where
    second : (t u : Bool) → (t && u) ≡ true → u ≡ true
    second true u e = e
    second false u e = cc

-- the bytes of so many places are those of their blocks
from_byte : (s : Seen) (n place k q j : ℕ) → q < k → j < 4096 → slice_index_or (bytes_from s.contents n place k) (4096 * q + j) 0 ≡ slice_index_or (as_block (held_at s.contents n (place + q))) j 0
from_byte s n place zero q j below less = absurd (omega (arith, below))
from_byte s n place (suc k) zero j below less =
    let here = as_block (held_at s.contents n place) in
    let at : 4096 * zero + j ≡ j = omega arith in
    let same : place ≡ place + zero = omega arith in
    ap (λ (i : ℕ). slice_index_or (bytes_from s.contents n place (suc k)) i 0) at
    ∙ get_or_append_left here (bytes_from s.contents n (place + 1) k) 0 j (omega (arith, less, block_long (held_at s.contents n place)))
    ∙ ap (λ (p : ℕ). slice_index_or (as_block (held_at s.contents n p)) j 0) same
from_byte s n place (suc k) (suc q) j below less =
    let here = as_block (held_at s.contents n place) in
    let left : 4096 * suc q + j - 4096 ≡ 4096 * q + j = omega arith in
    let same : place + 1 + q ≡ place + suc q = omega arith in
    get_or-append_right here (bytes_from s.contents n (place + 1) k) 4096 (4096 * suc q + j) 0 (block_long (held_at s.contents n place)) (omega arith)
    ∙ ap (λ (i : ℕ). slice_index_or (bytes_from s.contents n (place + 1) k) i 0) left
    ∙ from_byte s n (place + 1) k q j (omega (arith, below)) less
    ∙ ap (λ (p : ℕ). slice_index_or (as_block (held_at s.contents n p)) j 0) same

module _ (s : Seen) (n size height ptr : ℕ) (clean : has_tail s (n, File size height ptr) ≡ false) where
  -- the bytes of the file
  abbrev bytes : List ℕ
  bytes = take size (bytes_from s.contents n 0 (blocks_of size))

  tail_zero : (p k : ℕ) → p ≡ blocks_of size - 1 → size - 4096 * p ≤ k → k < 4096 → slice_index_or (held_at s.contents n p) k 0 ≡ 0
  tail_zero p k last past below =
      let m = size - 4096 * p in
      let front = take 4096 (held_at s.contents n p) in
      let all : list_all (λ b. b == 0) (drop m front) ≡ true = subst (λ (q : ℕ). list_all (λ b. b == 0) (drop (size - 4096 * q) (take 4096 (held_at s.contents n q))) ≡ true) (sym last) (none _ clean) in
      let at : m + (k - m) ≡ k = omega (arith, past) in
      sym (get_or-take 4096 (held_at s.contents n p) k 0 below) ∙ ap (λ (i : ℕ). slice_index_or front i 0) (sym at) ∙ sym (get_or-drop m front (k - m) 0) ∙ zeros_read (drop m front) all (k - m)
    where
      none : (t : Bool) → not t ≡ false → t ≡ true
      none true e = refl
      none false e = cc

  -- below its number of blocks a file reads as the block that is seen there
  pub block_is : (p : ℕ) → p < blocks_of size → block_of (take size (bytes_from s.contents n 0 (blocks_of size))) p ≡ as_block (held_at s.contents n p)
  block_is p lt =
      same_number_lists (block_of bytes p) (as_block (held_at s.contents n p)) (block_length bytes p ∙ sym (block_long (held_at s.contents n p))) (λ k less.
      let below : k < 4096 = omega (arith, less, block_length bytes p) in
      block_byte bytes p k below ∙ by k below (nat_lt (4096 * p + k) size) refl)
    where
      by : (k : ℕ) → k < 4096 → (t : Bool) → nat_lt (4096 * p + k) size ≡ t → slice_index_or (take size (bytes_from s.contents n 0 (blocks_of size))) (4096 * p + k) 0 ≡ slice_index_or (as_block (held_at s.contents n p)) k 0
      by k below true is =
          let inside = is_less (4096 * p + k) size is in
          let same : 0 + p ≡ p = omega arith in
          get_or-take size (bytes_from s.contents n 0 (blocks_of size)) (4096 * p + k) 0 inside ∙ from_byte s n 0 (blocks_of size) p k lt below
          ∙ ap (λ (q : ℕ). slice_index_or (as_block (held_at s.contents n q)) k 0) same
      by k below false is =
          let past = is_not_less (4096 * p + k) size is in
          let last : p ≡ blocks_of size - 1 = omega (arith, past, lt, below) in
          get_or_past (take size (bytes_from s.contents n 0 (blocks_of size))) (4096 * p + k) 0 (omega (arith, past, file_length s.contents n size))
          ∙ sym (as_byte (held_at s.contents n p) k below ∙ tail_zero p k last (omega (arith, past)) below)
