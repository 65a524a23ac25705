-- The bytes of a place of a file, as a list and one by one.
use Rattle.std.proofs.Common.{◌≡◌, ℕ, ◌+◌, ◌-◌, ◌*◌, ◌<◌, ◌≤◌, Bool, true, false, List, ◌++◌, length, take, drop, refl, sym, ap, subst, ◌∙◌, arith, slice_index_or, length-append}
use Rattle.std.specs.Prelude.{min, replicate, nat_lt}
use Rattle.std.proofs.lemmas.Bool.Decides.{nat_tests}
use Rattle.std.proofs.lemmas.Grind.{same_number_lists}
use Rattle.std.proofs.lemmas.List.{get_or-append_right, get_or_append_left, get_or-take, get_or-drop, get_or-replicate, get_or_past, length-take, length-drop, length-replicate}
use Rattle.state_laws.specs.Files.{zero_block}

-- the block at a place of a file with these bytes
abbrev pub block_of : List ℕ → ℕ → List ℕ
block_of bytes place = take 4096 (drop (4096 * place) bytes) ++ replicate (4096 - length (take 4096 (drop (4096 * place) bytes))) 0

pub is_less : (a b : ℕ) → nat_lt a b ≡ true → a < b
is_less a b e = grind (arith, nat_tests)

pub is_not_less : (a b : ℕ) → nat_lt a b ≡ false → b ≤ a
is_not_less a b e = grind (arith, nat_tests)

front : (bytes : List ℕ) (place : ℕ) → length (take 4096 (drop (4096 * place) bytes)) ≡ min 4096 (length bytes - 4096 * place)
front bytes place = length-take 4096 (drop (4096 * place) bytes) ∙ ap (min 4096) (length-drop (4096 * place) bytes)

filled : (n : ℕ) → n ≤ 4096 → n + (4096 - n) ≡ 4096
filled n le = omega (arith, le)

at_most : (n : ℕ) → min 4096 n ≤ 4096
at_most n = omega arith

pub block_length : (bytes : List ℕ) (place : ℕ) → length (block_of bytes place) ≡ 4096
block_length bytes place =
    length-append (take 4096 (drop (4096 * place) bytes)) (replicate (4096 - length (take 4096 (drop (4096 * place) bytes))) 0)
    ∙ ap (λ (n : ℕ). length (take 4096 (drop (4096 * place) bytes)) + n) (length-replicate (4096 - length (take 4096 (drop (4096 * place) bytes))) 0)
    ∙ filled (length (take 4096 (drop (4096 * place) bytes))) (subst (λ (n : ℕ). n ≤ 4096) (sym (front bytes place)) (at_most (length bytes - 4096 * place)))

-- a byte of the block is one of the file, where those past its end are zeros
pub block_byte : (bytes : List ℕ) (place k : ℕ) → k < 4096 → slice_index_or (block_of bytes place) k 0 ≡ slice_index_or bytes (4096 * place + k) 0
block_byte bytes place k less = by (nat_lt k (length (take 4096 (drop (4096 * place) bytes)))) refl
  where
    part : List ℕ
    part = take 4096 (drop (4096 * place) bytes)

    long : length part ≡ min 4096 (length bytes - 4096 * place)
    long = front bytes place

    by : (t : Bool) → nat_lt k (length (take 4096 (drop (4096 * place) bytes))) ≡ t → slice_index_or (block_of bytes place) k 0 ≡ slice_index_or bytes (4096 * place + k) 0
    by true is =
        let below : k < length part = is_less k (length part) is in
        get_or_append_left part (replicate (4096 - length part) 0) 0 k below ∙ get_or-take 4096 (drop (4096 * place) bytes) k 0 less ∙ get_or-drop (4096 * place) bytes k 0
    by false is =
        let past : length part ≤ k = is_not_less k (length part) is in
        get_or-append_right part (replicate (4096 - length part) 0) (length part) k 0 refl past
        ∙ get_or-replicate (4096 - length part) (k - length part) 0 0 (omega (arith, less, past))
        ∙ sym (get_or_past bytes (4096 * place + k) 0 (omega (arith, past, long, less)))

-- blocks are the same where the bytes are
pub same_block : (old new : List ℕ) (place : ℕ) → ((k : ℕ) → k < 4096 → slice_index_or new (4096 * place + k) 0 ≡ slice_index_or old (4096 * place + k) 0) → block_of new place ≡ block_of old place
same_block old new place same =
    same_number_lists (block_of new place) (block_of old place) (block_length new place ∙ sym (block_length old place)) (λ k less.
    let below : k < 4096 = omega (arith, less, block_length new place) in
    block_byte new place k below ∙ same k below ∙ sym (block_byte old place k below))

pub zeros_length : length zero_block ≡ 4096
unfolding zero_block
zeros_length = length-replicate {A = ℕ} 4096 0

zeros_byte : (k : ℕ) → k < 4096 → slice_index_or zero_block k 0 ≡ 0
unfolding zero_block
zeros_byte k less = get_or-replicate {A = ℕ} 4096 k 0 0 less

-- a place at or past the end of a file reads as zeros
pub past_end : (bytes : List ℕ) (place : ℕ) → length bytes ≤ 4096 * place → block_of bytes place ≡ zero_block
past_end bytes place past =
    same_number_lists (block_of bytes place) zero_block (block_length bytes place ∙ sym zeros_length) (λ k less.
    let below : k < 4096 = omega (arith, less, block_length bytes place) in
    block_byte bytes place k below ∙ get_or_past bytes (4096 * place + k) 0 (omega (arith, past)) ∙ sym (zeros_byte k below))
