-- Bytes after a part of them was put into its place.
use Rattle.std.proofs.Common.{◌≡◌, ◌≢◌, ◌∙◌, ◌≤◌, ◌+◌, ◌-◌, ◌*◌, ◌⊎◌, ⊎_elim, ℕ, List, ◌++◌, length, take, drop, sym, ap, arith, length-append, length-take-le, append_assoc}
use Rattle.std.specs.Prelude.{slice_range}
use Rattle.std.proofs.lemmas.List.{take_at, drop_at, take-append-le, take-take}
use Rattle.std.proofs.lemmas.Slice.{between_is, drop-append-drop}

-- the bytes, with a part in the places from a up to e
abbrev pub with_part : List ℕ → List ℕ → ℕ → ℕ → List ℕ
with_part xs part a e = take a xs ++ part ++ drop e xs

-- what was put, under another name and by its length
pub renamed : (after xs put part : List ℕ) (a n : ℕ) → after ≡ take a xs ++ put ++ drop (a + length put) xs → put ≡ part → length part ≡ n → after ≡ with_part xs part a (a + n)
renamed after xs put part a n is same len =
    is ∙ ap (λ (p : List ℕ). take a xs ++ p ++ drop (a + length p) xs) same ∙ ap (λ (m : ℕ). take a xs ++ part ++ drop (a + m) xs) len

module _ (xs part : List ℕ) (a e : ℕ) (within : a ≤ length xs) (fits : a + length part ≡ e) where
  front : with_part xs part a e ≡ take a xs ++ (part ++ drop e xs)
  front = append_assoc (take a xs) part (drop e xs)

  -- the part itself
  pub part_put : slice_range (with_part xs part a e) a e ≡ part
  part_put =
      ap (λ (l : List ℕ). take (e - a) (drop a l)) front
      ∙ ap (λ (l : List ℕ). take (e - a) l) (drop_at (take a xs) (part ++ drop e xs) a (length-take-le a xs within))
      ∙ take_at part (drop e xs) (e - a) (omega arith)

  -- a part in front of it
  part_before : (i j : ℕ) → j ≤ a → slice_range (with_part xs part a e) i j ≡ slice_range xs i j
  part_before i j le =
      let cut : take j (with_part xs part a e) ≡ take j xs =
      ap (λ (l : List ℕ). take j l) front
      ∙ take-append-le j (take a xs) (part ++ drop e xs) (omega (arith, length-take-le a xs within))
      ∙ take-take j a xs le in
      between_is (with_part xs part a e) i j ∙ ap (λ (l : List ℕ). drop i l) cut ∙ sym (between_is xs i j)

  -- a part behind it
  part_behind : (i j : ℕ) → e ≤ i → slice_range (with_part xs part a e) i j ≡ slice_range xs i j
  part_behind i j le =
      let long : length (take a xs ++ part) ≡ e = omega (arith, length-append (take a xs) part, length-take-le a xs within) in
      ap (λ (l : List ℕ). take (j - i) l) (drop-append-drop e xs (take a xs ++ part) i le long)

  pub part_apart : (i j : ℕ) → (j ≤ a) ⊎ (e ≤ i) → slice_range (with_part xs part a e) i j ≡ slice_range xs i j
  part_apart i j = ⊎_elim (part_before i j) (part_behind i j)

-- parts of one size at different places don't meet
pub apart_64 : (j k : ℕ) → j ≢ k → (64 * j + 64 ≤ 64 * k) ⊎ (64 * k + 64 ≤ 64 * j)
apart_64 j k ne = grind arith

pub apart_256 : (j k : ℕ) → j ≢ k → (256 * j + 256 ≤ 256 * k) ⊎ (256 * k + 256 ≤ 256 * j)
apart_256 j k ne = grind arith
