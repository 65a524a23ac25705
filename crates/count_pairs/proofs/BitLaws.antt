-- A bit of a list of bytes that is flipped.
use Rattle.std.proofs.Common.{◌≡◌, ◌≢◌, ◌<◌, ◌^◌, ℕ, zero, suc, ◌-◌, ◌*◌, ◌/◌, ◌%◌, List, length, set, refl, ap, sym, ◌∙◌, arith, ⊎_elim}
use Rattle.std.specs.Prelude.{slice_index, bit_xor}
use Rattle.std.specs.Int.{bit_at}
use Rattle.std.proofs.lemmas.Nat.Bits.{bit_at_xor, bit_at-pow_same, bit_at-pow_other, bit_at-lt}
use Rattle.std.proofs.lemmas.Bool.{cases_eq}
use Rattle.std.proofs.lemmas.List.{get_or-set_same, get_or-set_other}
use Rattle.block_format.specs.Homes.{home_bit}

small_power : (k : ℕ) → k < 8 → 1 * 2 ^ k % 256 ≡ 2 ^ k
small_power zero lt = refl
small_power (suc zero) lt = refl
small_power (suc (suc zero)) lt = refl
small_power (suc (suc (suc zero))) lt = refl
small_power (suc (suc (suc (suc zero)))) lt = refl
small_power (suc (suc (suc (suc (suc zero))))) lt = refl
small_power (suc (suc (suc (suc (suc (suc zero)))))) lt = refl
small_power (suc (suc (suc (suc (suc (suc (suc zero))))))) lt = refl
small_power (suc (suc (suc (suc (suc (suc (suc (suc k)))))))) lt = absurd (omega arith)

flipped_same : (x k : ℕ) → bit_at (bit_xor x (2 ^ k)) k ≡ 1 - bit_at x k
flipped_same x k =
    let e = bit_at_xor x (2 ^ k) k in
    let p = bit_at-pow_same k in
    let lt = bit_at-lt x k in
    omega (arith, e, p, lt)

flipped_other : (x k m : ℕ) → m ≢ k → bit_at (bit_xor x (2 ^ k)) m ≡ bit_at x m
flipped_other x k m ne =
    let e = bit_at_xor x (2 ^ k) m in
    let p = bit_at-pow_other k m ne in
    let lt = bit_at-lt x m in
    omega (arith, e, p, lt)

module _ (bytes : List ℕ) (i : ℕ) (within : i < 8 * length bytes) where
  abbrev byte : ℕ
  byte = bit_xor (slice_index bytes (i / 8)) (1 * 2 ^ (i % 8) % 256)

  byte_is : byte ≡ bit_xor (slice_index bytes (i / 8)) (2 ^ (i % 8))
  byte_is = ap (λ (p : ℕ). bit_xor (slice_index bytes (i / 8)) p) (small_power (i % 8) (omega arith))

  pub flipped_bit : home_bit (set bytes (i / 8) byte) i ≡ 1 - home_bit bytes i
  flipped_bit =
      let here : slice_index (set bytes (i / 8) byte) (i / 8) ≡ byte = get_or-set_same bytes (i / 8) byte 0 (omega (arith, within)) in
      ap (λ (x : ℕ). bit_at x (i % 8)) (here ∙ byte_is) ∙ flipped_same (slice_index bytes (i / 8)) (i % 8)

  pub other_bits : (j : ℕ) → j ≢ i → home_bit (set bytes (i / 8) byte) j ≡ home_bit bytes j
  other_bits j ne = ⊎_elim
      (λ same.
      let here : slice_index (set bytes (i / 8) byte) (j / 8) ≡ byte = ap (λ (q : ℕ). slice_index (set bytes (i / 8) byte) q) same ∙ get_or-set_same bytes (i / 8) byte 0 (omega (arith, within)) in
      ap (λ (x : ℕ). bit_at x (j % 8)) (here ∙ byte_is)
      ∙ (flipped_other (slice_index bytes (i / 8)) (i % 8) (j % 8) (λ r. ne (omega (arith, same, r))) ∙ ap (λ (q : ℕ). bit_at (slice_index bytes q) (j % 8)) (sym same)))
      (λ other. ap (λ (x : ℕ). bit_at x (j % 8)) (get_or-set_other bytes (i / 8) (j / 8) byte 0 other))
      (cases_eq (j / 8) (i / 8))

pub bit_small : (homes : List ℕ) (i : ℕ) → home_bit homes i < 2
bit_small homes i = bit_at-lt (slice_index homes (i / 8)) (i % 8)
