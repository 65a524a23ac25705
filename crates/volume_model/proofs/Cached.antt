-- What the cache list keeps.
use Rattle.std.proofs.Common.{◌≡◌, ℕ, zero, suc, ◌≤◌, Bool, true, false, not, cond, List, [], ◌∷◌, length, filter, take, Some, None, refl, ap, subst, ◌∙◌, arith}
use Rattle.std.specs.Prelude.{◌||◌, ◌&&◌, nat_eq, nat_lt, Option}
use Rattle.std.specs.List.{list_any}
use Rattle.std.specs.Ordering.{eq_by_cmp}
use Rattle.std.specs.FinMap.{find}
use Rattle.std.proofs.lemmas.Bool.Decides.{nat_tests}
use Rattle.place_words.specs.Different.{Distinct}
use Rattle.tree_model.specs.Tree.{Tree}
use Rattle.volume_model.specs.Cache.{CacheList, cached_blocks, is_cached, has_fingerprint, forget, kin, without_last_kin, with_few_kin, use_block}
use Rattle.volume_model.specs.Laws.{UseKeeps}
use Rattle.volume_model.specs.Machine.{Machine, Rules, block_at}
use Rattle.volume_model.specs.Places.{Spot, Places, spot_cmp, is_block}
use Rattle.volume_model.specs.Point.{all_used, use_found, cache_after}

pub or_later : (a b : Bool) → b ≡ true → (a || b) ≡ true
or_later true b e = refl
or_later false b e = e

pub or_same : (a b c : Bool) → (b ≡ true → c ≡ true) → (a || b) ≡ true → (a || c) ≡ true
or_same true b c f e = refl
or_same false b c f e = f e

pub none_more : (a b : Bool) → (a ≡ true → b ≡ true) → b ≡ false → a ≡ false
none_more true b f e = let t : b ≡ true = f refl in cc
none_more false b f e = refl

-- ---- parts of the list

kept_cached : (test : List ℕ × ℕ → Bool) (pairs : CacheList) (b : ℕ) → is_cached (filter test pairs) b ≡ true → is_cached pairs b ≡ true
kept_cached test [] b e = e
kept_cached test (p ∷ ps) b e = by (test p) e (kept_cached test ps b)
  where
    by : (t : Bool) → is_cached (cond t (p ∷ filter test ps) (filter test ps)) b ≡ true → (is_cached (filter test ps) b ≡ true → is_cached ps b ≡ true) → (nat_eq p.1 b || is_cached ps b) ≡ true
    by true e more = or_same (nat_eq p.1 b) _ _ more e
    by false e more = or_later (nat_eq p.1 b) _ (more e)

took_cached : (n : ℕ) (pairs : CacheList) (b : ℕ) → is_cached (take n pairs) b ≡ true → is_cached pairs b ≡ true
took_cached zero pairs b e = cc
took_cached (suc n) [] b e = e
took_cached (suc n) (p ∷ ps) b e = or_same (nat_eq p.1 b) _ _ (took_cached n ps b) e

dropped_cached : (fingerprint : List ℕ) (pairs : CacheList) (b : ℕ) → is_cached (without_last_kin fingerprint pairs) b ≡ true → is_cached pairs b ≡ true
dropped_cached fingerprint [] b e = e
dropped_cached fingerprint (p ∷ ps) b e = by (has_fingerprint fingerprint p && not (list_any (has_fingerprint fingerprint) ps)) e (dropped_cached fingerprint ps b)
  where
    by : (t : Bool) → is_cached (cond t ps (p ∷ without_last_kin fingerprint ps)) b ≡ true → (is_cached (without_last_kin fingerprint ps) b ≡ true → is_cached ps b ≡ true) → (nat_eq p.1 b || is_cached ps b) ≡ true
    by true e more = or_later (nat_eq p.1 b) _ e
    by false e more = or_same (nat_eq p.1 b) _ _ more e

few_cached : (fingerprint : List ℕ) (pairs : CacheList) (b : ℕ) → is_cached (with_few_kin fingerprint pairs) b ≡ true → is_cached pairs b ≡ true
few_cached fingerprint pairs b e = by (nat_lt 8 (length (kin pairs fingerprint))) e
  where
    by : (t : Bool) → is_cached (cond t (without_last_kin fingerprint pairs) pairs) b ≡ true → is_cached pairs b ≡ true
    by true e = dropped_cached fingerprint pairs b e
    by false e = e

-- ---- each cached block is the block of a place

abbrev pub AreBlocks : Places → CacheList → Type 0
AreBlocks placed pairs = (b : ℕ) → is_cached pairs b ≡ true → is_block placed b ≡ true

used_blocks : (placed : Places) (capacity : ℕ) (pairs : CacheList) (fingerprint : List ℕ) (block : ℕ) → is_block placed block ≡ true → AreBlocks placed pairs → AreBlocks placed (use_block capacity pairs fingerprint block)
used_blocks placed capacity pairs fingerprint block is are b e =
    by (nat_eq block b) refl (few_cached fingerprint ((fingerprint, block) ∷ forget pairs block) b (took_cached capacity (with_few_kin fingerprint ((fingerprint, block) ∷ forget pairs block)) b e))
  where
    by : (t : Bool) → nat_eq block b ≡ t → (t || is_cached (forget pairs block) b) ≡ true → is_block placed b ≡ true
    by true same e = let here : block ≡ b = grind (arith, nat_tests) in subst (λ (n : ℕ). is_block placed n ≡ true) here is
    by false same e = are b (kept_cached (λ (p : List ℕ × ℕ). not (nat_eq p.1 block)) pairs b e)

pub found_block : (s : Spot) (placed : Places) (block : ℕ) → find spot_cmp s placed ≡ Some block → is_block placed block ≡ true
found_block s [] block e = cc
found_block s (p ∷ ps) block e = by (eq_by_cmp spot_cmp s p.0) e (found_block s ps block)
  where
    by : (t : Bool) → cond t (Some p.1) (find spot_cmp s ps) ≡ Some block → (find spot_cmp s ps ≡ Some block → is_block ps block ≡ true) → (nat_eq p.1 block || is_block ps block) ≡ true
    by true e more = let here : p.1 ≡ block = cc in let same : nat_eq p.1 block ≡ true = grind (arith, nat_tests) in ap (λ (t : Bool). t || is_block ps block) same
    by false e more = or_later (nat_eq p.1 block) _ (more e)

found_blocks : (r : Rules) (bytes : List ℕ) (placed : Places) (o : Option ℕ) (pairs : CacheList) → ((block : ℕ) → o ≡ Some block → is_block placed block ≡ true) → AreBlocks placed pairs → AreBlocks placed (use_found r bytes o pairs)
found_blocks r bytes placed None pairs is are = are
found_blocks r bytes placed (Some block) pairs is are = used_blocks placed r.capacity pairs (r.fingerprint bytes) block (is block refl) are

all_used_blocks : (r : Rules) (tree : Tree) (placed : Places) (spots : List Spot) (pairs : CacheList) → AreBlocks placed pairs → AreBlocks placed (all_used r tree placed spots pairs)
all_used_blocks r tree placed [] pairs are = are
all_used_blocks r tree placed (s ∷ ss) pairs are =
    all_used_blocks r tree placed ss (use_found r (block_at tree s) (find spot_cmp s placed) pairs)
    (found_blocks r (block_at tree s) placed (find spot_cmp s placed) pairs (found_block s placed) are)

left_blocks : (placed : Places) (pairs : CacheList) → AreBlocks placed (filter (λ (p : List ℕ × ℕ). is_block placed p.1) pairs)
left_blocks placed [] b e = cc
left_blocks placed (p ∷ ps) b e = by (is_block placed p.1) refl e (left_blocks placed ps b)
  where
    here : (t : Bool) → is_block placed p.1 ≡ true → nat_eq p.1 b ≡ t → (t || is_cached (filter (λ (p : List ℕ × ℕ). is_block placed p.1) ps) b) ≡ true
        → (is_cached (filter (λ (p : List ℕ × ℕ). is_block placed p.1) ps) b ≡ true → is_block placed b ≡ true) → is_block placed b ≡ true
    here true is same e more = let own : p.1 ≡ b = grind (arith, nat_tests) in subst (λ (n : ℕ). is_block placed n ≡ true) own is
    here false is same e more = more e

    by : (t : Bool) → is_block placed p.1 ≡ t → is_cached (cond t (p ∷ filter (λ (p : List ℕ × ℕ). is_block placed p.1) ps) (filter (λ (p : List ℕ × ℕ). is_block placed p.1) ps)) b ≡ true
        → (is_cached (filter (λ (p : List ℕ × ℕ). is_block placed p.1) ps) b ≡ true → is_block placed b ≡ true) → is_block placed b ≡ true
    by true is e more = here (nat_eq p.1 b) is refl e more
    by false is e more = more e

pub cache_after_blocks : (r : Rules) (m : Machine) (placed : Places) → AreBlocks placed (cache_after r m placed)
cache_after_blocks r m placed = all_used_blocks r m.tree placed m.dirty (filter (λ (p : List ℕ × ℕ). is_block placed p.1) m.cache) (left_blocks placed m.cache)

-- ---- each block once, and no more than the capacity

forgotten : (pairs : CacheList) (block : ℕ) → is_cached (forget pairs block) block ≡ false
forgotten [] block = refl
forgotten (p ∷ ps) block = by (nat_eq p.1 block) refl (forgotten ps block)
  where
    by : (t : Bool) → nat_eq p.1 block ≡ t → is_cached (forget ps block) block ≡ false → is_cached (cond (not t) (p ∷ forget ps block) (forget ps block)) block ≡ false
    by true is more = more
    by false is more = ap (λ (t : Bool). t || is_cached (forget ps block) block) is ∙ more

pub filter_once : (test : List ℕ × ℕ → Bool) (pairs : CacheList) → Distinct (cached_blocks pairs) → Distinct (cached_blocks (filter test pairs))
filter_once test [] once = tt
filter_once test (p ∷ ps) once = by (test p) (filter_once test ps once.1)
  where
    by : (t : Bool) → Distinct (cached_blocks (filter test ps)) → Distinct (cached_blocks (cond t (p ∷ filter test ps) (filter test ps)))
    by true more = (none_more _ _ (kept_cached test ps p.1) once.0, more)
    by false more = more

take_once : (n : ℕ) (pairs : CacheList) → Distinct (cached_blocks pairs) → Distinct (cached_blocks (take n pairs))
take_once zero pairs once = tt
take_once (suc n) [] once = tt
take_once (suc n) (p ∷ ps) once = (none_more _ _ (took_cached n ps p.1) once.0, take_once n ps once.1)

dropped_once : (fingerprint : List ℕ) (pairs : CacheList) → Distinct (cached_blocks pairs) → Distinct (cached_blocks (without_last_kin fingerprint pairs))
dropped_once fingerprint [] once = tt
dropped_once fingerprint (p ∷ ps) once = by (has_fingerprint fingerprint p && not (list_any (has_fingerprint fingerprint) ps)) (dropped_once fingerprint ps once.1)
  where
    by : (t : Bool) → Distinct (cached_blocks (without_last_kin fingerprint ps)) → Distinct (cached_blocks (cond t ps (p ∷ without_last_kin fingerprint ps)))
    by true more = once.1
    by false more = (none_more _ _ (dropped_cached fingerprint ps p.1) once.0, more)

few_once : (fingerprint : List ℕ) (pairs : CacheList) → Distinct (cached_blocks pairs) → Distinct (cached_blocks (with_few_kin fingerprint pairs))
few_once fingerprint pairs once = by (nat_lt 8 (length (kin pairs fingerprint)))
  where
    by : (t : Bool) → Distinct (cached_blocks (cond t (without_last_kin fingerprint pairs) pairs))
    by true = dropped_once fingerprint pairs once
    by false = once

take_length : (n : ℕ) (pairs : CacheList) → length (take n pairs) ≤ n
take_length zero pairs = omega arith
take_length (suc n) [] = omega arith
take_length (suc n) (p ∷ ps) = omega (arith, take_length n ps)

pub use_keeps : UseKeeps
use_keeps = record {
  once = λ capacity pairs fingerprint block once.
      take_once capacity (with_few_kin fingerprint ((fingerprint, block) ∷ forget pairs block))
      (few_once fingerprint ((fingerprint, block) ∷ forget pairs block) (forgotten pairs block, filter_once (λ (p : List ℕ × ℕ). not (nat_eq p.1 block)) pairs once));
  at_most = λ capacity pairs fingerprint block. take_length capacity (with_few_kin fingerprint ((fingerprint, block) ∷ forget pairs block));
}
