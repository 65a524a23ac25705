-- What uses and points make of a cache list is a cache list, and has few pairs of each fingerprint.
use Rattle.std.proofs.Common.{◌≡◌, ℕ, zero, suc, ◌+◌, ◌<◌, ◌≤◌, Bool, true, false, not, cond, List, [], ◌∷◌, length, filter, take, Some, None, refl, sym, ap, subst, ◌∙◌, arith}
use Rattle.std.specs.Prelude.{◌||◌, ◌&&◌, nat_eq, nat_lt, Option}
use Rattle.std.specs.Cmp.Lexicographic.{bytes_decides}
use Rattle.std.specs.FinMap.{find}
use Rattle.std.specs.List.{list_any}
use Rattle.std.proofs.lemmas.Bool.Decides.{nat_tests}
use Rattle.tree_model.specs.Tree.{Tree}
use Rattle.volume_model.specs.Cache.{CacheList, has_fingerprint, forget, kin, without_last_kin, with_few_kin, use_block, use_all}
use Rattle.volume_model.specs.CacheLaws.{IsCacheList, StaysACacheList, HasFewKin, EightAtMost}
use Rattle.volume_model.specs.Machine.{Machine, Rules, block_at}
use Rattle.volume_model.specs.Places.{Spot, Places, spot_cmp, is_block}
use Rattle.volume_model.specs.Point.{all_used, use_found}
use Rattle.volume_model.proofs.Cached.{use_keeps, filter_once}
use Rattle.volume_model.proofs.LineCounts.{one_if}

-- ---- what all uses keep

-- a use keeps it, and so does leaving pairs out
record Kept (capacity : ℕ) (P : CacheList → Type 0) : Type 0 where
  used : (pairs : CacheList) (fingerprint : List ℕ) (block : ℕ) → P pairs → P (use_block capacity pairs fingerprint block)
  left : (test : List ℕ × ℕ → Bool) (pairs : CacheList) → P pairs → P (filter test pairs)

all_kept : (capacity : ℕ) (P : CacheList → Type 0) → Kept capacity P → (uses pairs : CacheList) → P pairs → P (use_all capacity pairs uses)
all_kept capacity P kept [] pairs is = is
all_kept capacity P kept (u ∷ us) pairs is = all_kept capacity P kept us (use_block capacity pairs u.0 u.1) (kept.used pairs u.0 u.1 is)

found_kept : (r : Rules) (P : CacheList → Type 0) → Kept r.capacity P → (bytes : List ℕ) (o : Option ℕ) (pairs : CacheList) → P pairs → P (use_found r bytes o pairs)
found_kept r P kept bytes None pairs is = is
found_kept r P kept bytes (Some block) pairs is = kept.used pairs (r.fingerprint bytes) block is

places_kept : (r : Rules) (P : CacheList → Type 0) → Kept r.capacity P → (tree : Tree) (placed : Places) (spots : List Spot) (pairs : CacheList) → P pairs → P (all_used r tree placed spots pairs)
places_kept r P kept tree placed [] pairs is = is
places_kept r P kept tree placed (s ∷ ss) pairs is =
    places_kept r P kept tree placed ss (use_found r (block_at tree s) (find spot_cmp s placed) pairs) (found_kept r P kept (block_at tree s) (find spot_cmp s placed) pairs is)

point_kept : (r : Rules) (P : CacheList → Type 0) → Kept r.capacity P → (m : Machine) (placed : Places) → P m.cache → P (all_used r m.tree placed m.dirty (filter (λ (p : List ℕ × ℕ). is_block placed p.1) m.cache))
point_kept r P kept m placed is = places_kept r P kept m.tree placed m.dirty (filter (λ (p : List ℕ × ℕ). is_block placed p.1) m.cache) (kept.left (λ (p : List ℕ × ℕ). is_block placed p.1) m.cache is)

-- ---- each block once, and no more than the capacity

filter_length : (test : List ℕ × ℕ → Bool) (pairs : CacheList) → length (filter test pairs) ≤ length pairs
filter_length test [] = omega arith
filter_length test (p ∷ ps) = by (test p) (filter_length test ps)
  where
    by : (t : Bool) → length (filter test ps) ≤ length ps → length (cond t (p ∷ filter test ps) (filter test ps)) ≤ length (p ∷ ps)
    by true more = omega (arith, more)
    by false more = omega (arith, more)

list_kept : (capacity : ℕ) → Kept capacity (IsCacheList capacity)
list_kept capacity = record {
  used = λ pairs fingerprint block is. record { once = use_keeps.once capacity pairs fingerprint block is.once; at_most = use_keeps.at_most capacity pairs fingerprint block };
  left = λ test pairs is. record { once = filter_once test pairs is.once; at_most = omega (arith, is.at_most, filter_length test pairs) };
}

pub stays_a_cache_list : StaysACacheList
stays_a_cache_list = record {
  at_first = λ capacity. record { once = tt; at_most = omega arith };
  used = λ capacity pairs uses is. all_kept capacity (IsCacheList capacity) (list_kept capacity) uses pairs is;
  forgets = λ capacity pairs block is. (list_kept capacity).left (λ (p : List ℕ × ℕ). not (nat_eq p.1 block)) pairs is;
  after_point = λ r m placed is. point_kept r (IsCacheList r.capacity) (list_kept r.capacity) m placed is;
}

-- ---- at most eight of a fingerprint

kin_times : List ℕ → CacheList → ℕ
kin_times fingerprint [] = 0
kin_times fingerprint (p ∷ ps) = one_if (has_fingerprint fingerprint p) + kin_times fingerprint ps

kin_length : (fingerprint : List ℕ) (pairs : CacheList) → length (kin pairs fingerprint) ≡ kin_times fingerprint pairs
unfolding kin_times
kin_length fingerprint [] = refl
kin_length fingerprint (p ∷ ps) = by (has_fingerprint fingerprint p) (kin_length fingerprint ps)
  where
    by : (t : Bool) → length (kin ps fingerprint) ≡ kin_times fingerprint ps → length (cond t (p ∷ kin ps fingerprint) (kin ps fingerprint)) ≡ one_if t + kin_times fingerprint ps
    by true more = omega (arith, more)
    by false more = omega (arith, more)

filter_times : (test : List ℕ × ℕ → Bool) (fingerprint : List ℕ) (pairs : CacheList) → kin_times fingerprint (filter test pairs) ≤ kin_times fingerprint pairs
unfolding kin_times
filter_times test fingerprint [] = omega arith
filter_times test fingerprint (p ∷ ps) = by (test p) (filter_times test fingerprint ps)
  where
    by : (t : Bool) → kin_times fingerprint (filter test ps) ≤ kin_times fingerprint ps → kin_times fingerprint (cond t (p ∷ filter test ps) (filter test ps)) ≤ kin_times fingerprint (p ∷ ps)
    by true more = omega (arith, more)
    by false more = omega (arith, more)

take_times : (n : ℕ) (fingerprint : List ℕ) (pairs : CacheList) → kin_times fingerprint (take n pairs) ≤ kin_times fingerprint pairs
unfolding kin_times
take_times zero fingerprint pairs = omega arith
take_times (suc n) fingerprint [] = omega arith
take_times (suc n) fingerprint (p ∷ ps) = omega (arith, take_times n fingerprint ps)

dropped_times : (dropped fingerprint : List ℕ) (pairs : CacheList) → kin_times fingerprint (without_last_kin dropped pairs) ≤ kin_times fingerprint pairs
unfolding kin_times
dropped_times dropped fingerprint [] = omega arith
dropped_times dropped fingerprint (p ∷ ps) = by (has_fingerprint dropped p && not (list_any (has_fingerprint dropped) ps)) (dropped_times dropped fingerprint ps)
  where
    by : (t : Bool) → kin_times fingerprint (without_last_kin dropped ps) ≤ kin_times fingerprint ps → kin_times fingerprint (cond t ps (p ∷ without_last_kin dropped ps)) ≤ kin_times fingerprint (p ∷ ps)
    by true more = omega arith
    by false more = omega (arith, more)

some_times : (fingerprint : List ℕ) (pairs : CacheList) → list_any (has_fingerprint fingerprint) pairs ≡ true → 1 ≤ kin_times fingerprint pairs
unfolding kin_times
some_times fingerprint [] e = cc
some_times fingerprint (p ∷ ps) e = by (has_fingerprint fingerprint p) e (some_times fingerprint ps)
  where
    by : (t : Bool) → (t || list_any (has_fingerprint fingerprint) ps) ≡ true → (list_any (has_fingerprint fingerprint) ps ≡ true → 1 ≤ kin_times fingerprint ps) → 1 ≤ one_if t + kin_times fingerprint ps
    by true e more = omega arith
    by false e more = omega (arith, more e)

-- of the fingerprint that leaves there is one less
own_times : (fingerprint : List ℕ) (pairs : CacheList) → 1 ≤ kin_times fingerprint pairs → kin_times fingerprint (without_last_kin fingerprint pairs) + 1 ≡ kin_times fingerprint pairs
unfolding kin_times
own_times fingerprint [] some = absurd (omega (arith, some))
own_times fingerprint (p ∷ ps) some = by (has_fingerprint fingerprint p) (list_any (has_fingerprint fingerprint) ps) refl refl some (own_times fingerprint ps)
  where
    by : (t u : Bool) → has_fingerprint fingerprint p ≡ t → list_any (has_fingerprint fingerprint) ps ≡ u → 1 ≤ one_if t + kin_times fingerprint ps
        → (1 ≤ kin_times fingerprint ps → kin_times fingerprint (without_last_kin fingerprint ps) + 1 ≡ kin_times fingerprint ps)
        → kin_times fingerprint (cond (t && not u) ps (p ∷ without_last_kin fingerprint ps)) + 1 ≡ one_if t + kin_times fingerprint ps
    by true true own more some rest = ap (λ (t : Bool). one_if t + kin_times fingerprint (without_last_kin fingerprint ps) + 1) own ∙ omega (arith, rest (some_times fingerprint ps more))
    by true false own more some rest = omega arith
    by false u own more some rest = ap (λ (t : Bool). one_if t + kin_times fingerprint (without_last_kin fingerprint ps) + 1) own ∙ omega (arith, rest (omega (arith, some)))

few_times : (fingerprint : List ℕ) (pairs : CacheList) → kin_times fingerprint pairs ≤ 9 → kin_times fingerprint (with_few_kin fingerprint pairs) ≤ 8
few_times fingerprint pairs nine = by (nat_lt 8 (length (kin pairs fingerprint))) refl
  where
    more : nat_lt 8 (length (kin pairs fingerprint)) ≡ true → 8 < length (kin pairs fingerprint)
    more e = grind (arith, nat_tests)

    no_more : nat_lt 8 (length (kin pairs fingerprint)) ≡ false → length (kin pairs fingerprint) ≤ 8
    no_more e = grind (arith, nat_tests)

    by : (t : Bool) → nat_lt 8 (length (kin pairs fingerprint)) ≡ t → kin_times fingerprint (cond t (without_last_kin fingerprint pairs) pairs) ≤ 8
    by true e = let some : 1 ≤ kin_times fingerprint pairs = omega (arith, more e, kin_length fingerprint pairs) in omega (arith, nine, own_times fingerprint pairs some)
    by false e = omega (arith, no_more e, kin_length fingerprint pairs)

other_times : (used fingerprint : List ℕ) (pairs : CacheList) → kin_times fingerprint pairs ≤ 8 → kin_times fingerprint (with_few_kin used pairs) ≤ 8
other_times used fingerprint pairs few = by (nat_lt 8 (length (kin pairs used)))
  where
    by : (t : Bool) → kin_times fingerprint (cond t (without_last_kin used pairs) pairs) ≤ 8
    by true = omega (arith, few, dropped_times used fingerprint pairs)
    by false = few

use_few : (capacity : ℕ) (pairs : CacheList) (used : List ℕ) (block : ℕ) (fingerprint : List ℕ) → kin_times fingerprint pairs ≤ 8 → kin_times fingerprint (use_block capacity pairs used block) ≤ 8
unfolding kin_times
use_few capacity pairs used block fingerprint few = by (has_fingerprint fingerprint (used, block)) refl
  where
    rest : kin_times fingerprint (forget pairs block) ≤ kin_times fingerprint pairs
    rest = filter_times (λ (p : List ℕ × ℕ). not (nat_eq p.1 block)) fingerprint pairs

    counted : (t : Bool) → has_fingerprint fingerprint (used, block) ≡ t → kin_times fingerprint ((used, block) ∷ forget pairs block) ≡ one_if t + kin_times fingerprint (forget pairs block)
    counted t e = ap (λ (t : Bool). one_if t + kin_times fingerprint (forget pairs block)) e

    kept : kin_times fingerprint (with_few_kin used ((used, block) ∷ forget pairs block)) ≤ 8 → kin_times fingerprint (use_block capacity pairs used block) ≤ 8
    kept few = omega (arith, few, take_times capacity fingerprint (with_few_kin used ((used, block) ∷ forget pairs block)))

    by : (t : Bool) → has_fingerprint fingerprint (used, block) ≡ t → kin_times fingerprint (use_block capacity pairs used block) ≤ 8
    by true e =
        let same : used ≡ fingerprint = (bytes_decides used fingerprint).0 e in
        let nine : kin_times fingerprint ((used, block) ∷ forget pairs block) ≤ 9 = omega (arith, counted true e, rest, few) in
        kept (subst (λ (f : List ℕ). kin_times fingerprint (with_few_kin f ((used, block) ∷ forget pairs block)) ≤ 8) (sym same) (few_times fingerprint ((used, block) ∷ forget pairs block) nine))
    by false e = kept (other_times used fingerprint ((used, block) ∷ forget pairs block) (omega (arith, counted false e, rest, few)))

few_kept : (capacity : ℕ) → Kept capacity HasFewKin
few_kept capacity = record {
  used = λ pairs used block few fingerprint.
      omega (arith, kin_length fingerprint (use_block capacity pairs used block), use_few capacity pairs used block fingerprint (omega (arith, few fingerprint, kin_length fingerprint pairs)));
  left = λ test pairs few fingerprint. omega (arith, kin_length fingerprint (filter test pairs), filter_times test fingerprint pairs, few fingerprint, kin_length fingerprint pairs);
}

pub eight_at_most : EightAtMost
eight_at_most = record {
  at_first = λ fingerprint. omega arith;
  used = λ capacity pairs uses few. all_kept capacity HasFewKin (few_kept capacity) uses pairs few;
  forgets = λ pairs block few. (few_kept 0).left (λ (p : List ℕ × ℕ). not (nat_eq p.1 block)) pairs few;
  after_point = λ r m placed few. point_kept r HasFewKin (few_kept r.capacity) m placed few;
}
