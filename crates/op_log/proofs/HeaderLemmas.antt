-- The parts of a header, and of a block.
use Rattle.std.proofs.Common.{◌≡◌, ◌∙◌, ◌-◌, ℕ, List, [], ◌∷◌, ◌++◌, length, take, drop, refl, sym, ap, arith}
use Rattle.std.specs.Prelude.{replicate}
use Rattle.std.proofs.lemmas.List.{append_assoc, drop_at, take_at, drop-replicate, length-append}
use borrow.Rule.Slice.PartMut.{put_mid}
use Rattle.byteorder.specs.Endian.{little_bytes}
use Rattle.op_log.specs.Record.{filled, header}

-- the second part of a block, over the zeros behind the first
pub rest_written : (front rest : List ℕ) (k : ℕ) → k ≡ length rest → put_mid (length front) k (filled front) rest ≡ filled (front ++ rest)
rest_written front rest k is =
    let zeros : List ℕ = replicate (4096 - length front) 0 in
    let at_front : take (length front) (front ++ zeros) ≡ front = take_at front zeros (length front) refl in
    let behind : drop k (drop (length front) (front ++ zeros)) ≡ replicate (4096 - length front - k) 0 = ap (drop k) (drop_at front zeros (length front) refl) ∙ drop-replicate k (4096 - length front) 0 in
    let same : 4096 - length front - k ≡ 4096 - length (front ++ rest) = omega (arith, length-append front rest) in
    let left : drop k (drop (length front) (front ++ zeros)) ≡ replicate (4096 - length (front ++ rest)) 0 = behind ∙ ap (λ (n : ℕ). replicate n 0) same in
    (λ i. at_front i ++ (rest ++ left i)) ∙ sym (append_assoc front rest (replicate (4096 - length (front ++ rest)) 0))

-- the parts of a header, one behind the other
pub header_written : (d0 d1 d2 d3 d4 d5 : List ℕ) (kind path_length number rest_length : ℕ) → d0 ≡ [] → d1 ≡ d0 ++ (kind ∷ 0 ∷ 0 ∷ 0 ∷ []) → d2 ≡ d1 ++ little_bytes 4 path_length
    → d3 ≡ d2 ++ little_bytes 8 number → d4 ≡ d3 ++ little_bytes 4 rest_length → d5 ≡ d4 ++ replicate 4 0 → d5 ≡ header kind path_length number rest_length
unfolding header
header_written d0 d1 d2 d3 d4 d5 kind path_length number rest_length e0 e1 e2 e3 e4 e5 =
    let one : d1 ≡ kind ∷ 0 ∷ 0 ∷ 0 ∷ [] = e1 ∙ ap (λ (l : List ℕ). l ++ (kind ∷ 0 ∷ 0 ∷ 0 ∷ [])) e0 in
    e5 ∙ ap (λ (l : List ℕ). l ++ replicate 4 0) (e4 ∙ ap (λ (l : List ℕ). l ++ little_bytes 4 rest_length) (e3 ∙ ap (λ (l : List ℕ). l ++ little_bytes 8 number) (e2 ∙ ap (λ (l : List ℕ). l ++ little_bytes 4 path_length) one)))

pub length-header : (kind path_length number rest_length : ℕ) → length (header kind path_length number rest_length) ≡ 24
unfolding header
length-header kind path_length number rest_length = refl
