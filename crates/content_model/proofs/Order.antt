-- What is behind a block.
use Rattle.std.proofs.Common.{◌≡◌, ℕ, suc, ◌+◌, Bool, true, false, cond, not, List, [], ◌∷◌, length, Some, None, refl, sym, ap, subst, ◌∙◌, arith}
use Rattle.std.specs.Prelude.{◌||◌, nat_eq, nat_lt, slice_get, position, is_some}
use Rattle.std.specs.List.{position_or_len, prefix_len}
use Rattle.std.proofs.lemmas.Bool.Decides.{nat_tests}
use Rattle.place_words.specs.Different.{is_among}
use Rattle.volume_model.specs.Cache.{CacheList, cached_blocks}
use Rattle.content_model.specs.Order.{behind}

abbrev test : ℕ → List ℕ × ℕ → Bool
test block p = nat_eq p.1 block

-- it is behind the first place of the block, and there is none where the block isn't there
behind_from : (block : ℕ) (ps : CacheList) → behind block (cached_blocks ps) ≡ slice_get (cached_blocks ps) (position_or_len (test block) ps + 1)
behind_from block [] = refl
behind_from block (p ∷ ps) = by (nat_eq p.1 block) (behind_from block ps)
  where
    by : (t : Bool) → behind block (cached_blocks ps) ≡ slice_get (cached_blocks ps) (position_or_len (test block) ps + 1)
        → cond t (slice_get (cached_blocks ps) 0) (behind block (cached_blocks ps)) ≡ slice_get (p.1 ∷ cached_blocks ps) (cond (not t) (1 + prefix_len (λ (q : List ℕ × ℕ). not (test block q)) ps) 0 + 1)
    by true more = refl
    by false more =
        let next : (1 + position_or_len (test block) ps) + 1 ≡ suc (position_or_len (test block) ps + 1) = omega arith in
        more ∙ ap (λ (i : ℕ). slice_get (p.1 ∷ cached_blocks ps) i) (sym next)

-- where its first place is told
pub behind_place : (block place : ℕ) (ps : CacheList) → position (λ (p : List ℕ × ℕ). nat_eq p.1 block) ps ≡ Some place → slice_get (cached_blocks ps) (place + 1) ≡ behind block (cached_blocks ps)
behind_place block place ps e = by (nat_lt (position_or_len (test block) ps) (length ps)) e
  where
    by : (t : Bool) → cond t (Some (position_or_len (test block) ps)) None ≡ Some place → slice_get (cached_blocks ps) (place + 1) ≡ behind block (cached_blocks ps)
    by true e =
        let here : position_or_len (test block) ps ≡ place = cc in
        subst (λ (i : ℕ). slice_get (cached_blocks ps) (i + 1) ≡ behind block (cached_blocks ps)) here (sym (behind_from block ps))
    by false e = cc

-- ---- whether it is there

among_place : (block : ℕ) (ps : CacheList) → nat_lt (position_or_len (test block) ps) (length ps) ≡ is_among (cached_blocks ps) block
among_place block [] = refl
among_place block (p ∷ ps) = by (nat_eq p.1 block) (among_place block ps)
  where
    by : (t : Bool) → nat_lt (position_or_len (test block) ps) (length ps) ≡ is_among (cached_blocks ps) block
        → nat_lt (cond (not t) (1 + prefix_len (λ (q : List ℕ × ℕ). not (test block q)) ps) 0) (suc (length ps)) ≡ (t || is_among (cached_blocks ps) block)
    by true more = grind (arith, nat_tests)
    by false more =
        let same : nat_lt (1 + position_or_len (test block) ps) (suc (length ps)) ≡ nat_lt (position_or_len (test block) ps) (length ps) = grind (arith, nat_tests) in
        same ∙ more

-- where it has a place
pub place_some : (block : ℕ) (ps : CacheList) → is_some (position (λ (p : List ℕ × ℕ). nat_eq p.1 block) ps) ≡ is_among (cached_blocks ps) block
place_some block ps = by (nat_lt (position_or_len (test block) ps) (length ps)) (among_place block ps)
  where
    by : (t : Bool) → t ≡ is_among (cached_blocks ps) block → is_some (cond t (Some (position_or_len (test block) ps)) None) ≡ is_among (cached_blocks ps) block
    by true e = e
    by false e = e

absent : (block : ℕ) (ps : CacheList) → is_among (cached_blocks ps) block ≡ false → behind block (cached_blocks ps) ≡ None
absent block [] e = refl
absent block (p ∷ ps) e = by (nat_eq p.1 block) e (absent block ps)
  where
    by : (t : Bool) → (t || is_among (cached_blocks ps) block) ≡ false → (is_among (cached_blocks ps) block ≡ false → behind block (cached_blocks ps) ≡ None)
        → cond t (slice_get (cached_blocks ps) 0) (behind block (cached_blocks ps)) ≡ None
    by true e more = cc
    by false e more = more e

-- where it has none, nothing is behind it
pub behind_none : (block : ℕ) (ps : CacheList) → position (λ (p : List ℕ × ℕ). nat_eq p.1 block) ps ≡ None → None ≡ behind block (cached_blocks ps)
behind_none block ps e = sym (absent block ps (sym (place_some block ps) ∙ ap is_some e))
