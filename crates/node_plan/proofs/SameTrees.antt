-- Trees are the same where their index blocks are.
use Rattle.std.proofs.Common.{◌≡◌, ℕ, zero, suc, ◌+◌, Bool, true, false, not, cond, List, [], ◌∷◌, ◌++◌, take, refl, sym, ap, ◌∙◌}
use Rattle.std.specs.Prelude.{◌==◌}
use Rattle.std.specs.List.{list_all, AllByRecursion}
use Rattle.block_format.specs.Words.{words}
use Rattle.block_tree.specs.Tree.{Blocks, index_at, nonzero, block_in, block_below, pairs_from, leaves_pairs, pairs_below, indexes_below, IsFull}
use Rattle.block_tree.proofs.Pairs.{pairs_are}

module _ (read after : Blocks) where
  -- these blocks are as they were
  abbrev pub Same : List ℕ → Type 0
  Same bs = AllByRecursion (λ (b : ℕ). after b ≡ read b) bs

  index_same : (b : ℕ) → Same (nonzero (b ∷ [])) → index_at after b ≡ index_at read b
  index_same b same = by (b == 0) same
    where
      by : (t : Bool) → Same (cond (not t) (b ∷ []) []) → cond t [] (take 1024 (words (after b))) ≡ cond t [] (take 1024 (words (read b)))
      by true same = refl
      by false same = ap (λ (bytes : List ℕ). take 1024 (words bytes)) same.0

  split : (p : ℕ) (ps : List ℕ) → Same (nonzero (p ∷ ps)) → Same (nonzero (p ∷ [])) × Same (nonzero ps)
  split p ps same = by (p == 0) same
    where
      by : (t : Bool) → Same (cond (not t) (p ∷ nonzero ps) (nonzero ps)) → Same (cond (not t) (p ∷ []) []) × Same (nonzero ps)
      by true same = (tt, same)
      by false same = ((same.0, tt), same.1)

  leaves_same : (place : ℕ) (ps : List ℕ) → Same (nonzero ps) → leaves_pairs after place ps ≡ leaves_pairs read place ps
  leaves_same place [] same = refl
  leaves_same place (p ∷ ps) same = let parts = split p ps same in λ i. pairs_from place (index_same p parts.0 i) ++ leaves_same (place + 1024) ps parts.1 i

  pub indexes_same : (height ptr : ℕ) → Same (indexes_below read height ptr) → indexes_below after height ptr ≡ indexes_below read height ptr
  indexes_same zero ptr same = refl
  indexes_same (suc zero) ptr same = refl
  indexes_same (suc (suc height)) ptr same = ap (λ (ps : List ℕ). nonzero (ptr ∷ ps)) (index_same ptr (split ptr (index_at read ptr) same).0)

  pub pairs_same : (height ptr : ℕ) → Same (indexes_below read height ptr) → pairs_below after height ptr ≡ pairs_below read height ptr
  pairs_same zero ptr same = refl
  pairs_same (suc zero) ptr same = ap (pairs_from 0) (index_same ptr same)
  pairs_same (suc (suc height)) ptr same =
      let parts = split ptr (index_at read ptr) same in
      ap (leaves_pairs after 0) (index_same ptr parts.0) ∙ leaves_same 0 (index_at read ptr) parts.1

  pub block_same : (height ptr place : ℕ) → Same (indexes_below read height ptr) → block_below after height ptr place ≡ block_below read height ptr place
  block_same height ptr place same =
      sym (pairs_are after height ptr place) ∙ ap (λ (es : List (ℕ × ℕ)). block_in es place) (pairs_same height ptr same) ∙ pairs_are read height ptr place

  pub full_same : (bs : List ℕ) → Same bs → IsFull read bs → IsFull after bs
  full_same [] same full = tt
  full_same (b ∷ bs) same full =
      (ap (λ (bytes : List ℕ). list_all (λ p. p == 0) (cond (b == 0) [] (take 1024 (words bytes)))) same.0 ∙ full.0, full_same bs same.1 full.1)
