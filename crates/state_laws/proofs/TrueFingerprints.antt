-- After a point each cached pair has the fingerprint of its block's bytes.
use Rattle.std.proofs.Common.{◌≡◌, ℕ, zero, suc, Bool, true, false, not, cond, List, [], ◌∷◌, length, filter, take, Some, None, refl, sym, ap, ◌∙◌}
use Rattle.std.specs.Prelude.{◌&&◌, ◌||◌, Option, nat_eq, nat_lt, option_map}
use Rattle.std.specs.List.{AllByRecursion, list_any}
use Rattle.std.specs.FinMap.{find}
use Rattle.std.proofs.lemmas.Bool.Decides.{nat_tests}
use Rattle.std.proofs.lemmas.List.Elements.{All-from_recursion, recursion_from_All}
use Rattle.std.proofs.Common.{arith}
use Rattle.tree_model.specs.Tree.{Tree}
use Rattle.tree_model.specs.declared.report.Report.{Report}
use Rattle.volume_model.specs.Cache.{CacheList, is_cached, has_fingerprint, forget, kin, without_last_kin, with_few_kin, use_block}
use Rattle.volume_model.specs.Machine.{Machine, Rules, block_at, held}
use Rattle.volume_model.specs.Places.{Spot, Places, spot_cmp, is_block, InOrder}
use Rattle.volume_model.specs.Point.{after_point, placed_after, use_found, all_used, fresh_in}
use Rattle.volume_model.specs.ReportLaws.{IsReport}
use Rattle.volume_model.proofs.Cached.{or_later}
use Rattle.volume_model.proofs.WholeLaws.{point_whole}
use Rattle.state_laws.specs.Files.{HasSameBytes}
use Rattle.state_laws.specs.States.{KeptIsUnchanged, HasTrueFingerprints}
use Rattle.state_laws.proofs.HeldBytes.{held_is, block_spot}
use Rattle.state_laws.proofs.PointBytes.{same_after, held_after}

-- ---- what holds of each pair stays so in uses

abbrev Pair : Type 0
Pair = List ℕ × ℕ

module _ (Q : Pair → Type 0) where
  filter_all : (test : Pair → Bool) (pairs : CacheList) → AllByRecursion Q pairs → AllByRecursion Q (filter test pairs)
  filter_all test [] all = tt
  filter_all test (p ∷ ps) all = by (test p) (filter_all test ps all.1)
    where
      by : (t : Bool) → AllByRecursion Q (filter test ps) → AllByRecursion Q (cond t (p ∷ filter test ps) (filter test ps))
      by true more = (all.0, more)
      by false more = more

  take_all : (n : ℕ) (pairs : CacheList) → AllByRecursion Q pairs → AllByRecursion Q (take n pairs)
  take_all zero pairs all = tt
  take_all (suc n) [] all = tt
  take_all (suc n) (p ∷ ps) all = (all.0, take_all n ps all.1)

  dropped_all : (fingerprint : List ℕ) (pairs : CacheList) → AllByRecursion Q pairs → AllByRecursion Q (without_last_kin fingerprint pairs)
  dropped_all fingerprint [] all = tt
  dropped_all fingerprint (p ∷ ps) all = by (has_fingerprint fingerprint p && not (list_any (has_fingerprint fingerprint) ps)) (dropped_all fingerprint ps all.1)
    where
      by : (t : Bool) → AllByRecursion Q (without_last_kin fingerprint ps) → AllByRecursion Q (cond t ps (p ∷ without_last_kin fingerprint ps))
      by true more = all.1
      by false more = (all.0, more)

  few_all : (fingerprint : List ℕ) (pairs : CacheList) → AllByRecursion Q pairs → AllByRecursion Q (with_few_kin fingerprint pairs)
  few_all fingerprint pairs all = by (nat_lt 8 (length (kin pairs fingerprint)))
    where
      by : (t : Bool) → AllByRecursion Q (cond t (without_last_kin fingerprint pairs) pairs)
      by true = dropped_all fingerprint pairs all
      by false = all

  use_all : (capacity : ℕ) (pairs : CacheList) (fingerprint : List ℕ) (block : ℕ) → Q (fingerprint, block) → AllByRecursion Q pairs → AllByRecursion Q (use_block capacity pairs fingerprint block)
  use_all capacity pairs fingerprint block own all =
      take_all capacity (with_few_kin fingerprint ((fingerprint, block) ∷ forget pairs block))
      (few_all fingerprint ((fingerprint, block) ∷ forget pairs block) (own, filter_all (λ (p : Pair). not (nat_eq p.1 block)) pairs all))

  found_all : (r : Rules) (bytes : List ℕ) (o : Option ℕ) (pairs : CacheList) → ((block : ℕ) → o ≡ Some block → Q (r.fingerprint bytes, block)) → AllByRecursion Q pairs → AllByRecursion Q (use_found r bytes o pairs)
  found_all r bytes None pairs each all = all
  found_all r bytes (Some block) pairs each all = use_all r.capacity pairs (r.fingerprint bytes) block (each block refl) all

  places_all : (r : Rules) (tree : Tree) (placed : Places) (spots : List Spot) (pairs : CacheList) → ((spot : Spot) (block : ℕ) → find spot_cmp spot placed ≡ Some block → Q (r.fingerprint (block_at tree spot), block))
      → AllByRecursion Q pairs → AllByRecursion Q (all_used r tree placed spots pairs)
  places_all r tree placed [] pairs each all = all
  places_all r tree placed (s ∷ ss) pairs each all =
      places_all r tree placed ss (use_found r (block_at tree s) (find spot_cmp s placed) pairs) each (found_all r (block_at tree s) (find spot_cmp s placed) pairs (each s) all)

-- ---- pairs whose blocks are still used

cached_more : (p : Pair) (pairs qs : CacheList) → AllByRecursion (λ (q : Pair). is_cached pairs q.1 ≡ true) qs → AllByRecursion (λ (q : Pair). is_cached (p ∷ pairs) q.1 ≡ true) qs
cached_more p pairs [] all = tt
cached_more p pairs (q ∷ qs) all = (or_later (nat_eq p.1 q.1) _ all.0, cached_more p pairs qs all.1)

all_cached : (pairs : CacheList) → AllByRecursion (λ (q : Pair). is_cached pairs q.1 ≡ true) pairs
all_cached [] = tt
all_cached (p ∷ ps) = (ap (λ (t : Bool). t || is_cached ps p.1) (itself p.1), cached_more p ps ps (all_cached ps))
  where
    itself : (n : ℕ) → nat_eq n n ≡ true
    itself n = grind (arith, nat_tests)

kept_pairs : (P Q : Pair → Type 0) (test : Pair → Bool) (pairs qs : CacheList) → ((p : Pair) → P p → is_cached pairs p.1 ≡ true → test p ≡ true → Q p)
    → AllByRecursion P qs → AllByRecursion (λ (q : Pair). is_cached pairs q.1 ≡ true) qs → AllByRecursion Q (filter test qs)
kept_pairs P Q test pairs [] each all cached = tt
kept_pairs P Q test pairs (q ∷ qs) each all cached = by (test q) refl (kept_pairs P Q test pairs qs each all.1 cached.1)
  where
    by : (t : Bool) → test q ≡ t → AllByRecursion Q (filter test qs) → AllByRecursion Q (cond t (q ∷ filter test qs) (filter test qs))
    by true passes more = (each q all.0 cached.0 passes, more)
    by false passes more = more

-- ---- the cache list after a point

abbrev HasItsFingerprint : Rules → Machine → Pair → Type 0
HasItsFingerprint r m p = option_map r.fingerprint (held m p.1) ≡ Some p.0

pub fingerprints_after : (r : Rules) (m : Machine) (report : Report) → IsReport r m report → HasSameBytes m.stored_tree m.stored_places → KeptIsUnchanged m → HasTrueFingerprints r m
    → HasTrueFingerprints r (after_point r m (fresh_in report))
fingerprints_after r m report is same unchanged true_before =
    let Q : Pair → Type 0 = HasItsFingerprint r (after_point r m (fresh_in report)) in
    let P : Pair → Type 0 = HasItsFingerprint r m in
    All-from_recursion Q (after_point r m (fresh_in report)).cache
    (places_all Q r m.tree placed m.dirty (filter (λ (p : Pair). is_block placed p.1) m.cache) used
    (kept_pairs P Q (λ (p : Pair). is_block placed p.1) m.cache m.cache kept (recursion_from_All P m.cache true_before) (all_cached m.cache)))
  where
    placed : Places
    placed = placed_after r m (fresh_in report)

    ordered : InOrder (placed_after r m (fresh_in report))
    ordered = (point_whole r m (fresh_in report) is.whole).stored_in_order

    holds : (spot : Spot) (block : ℕ) → find spot_cmp spot (placed_after r m (fresh_in report)) ≡ Some block → held (after_point r m (fresh_in report)) block ≡ Some (block_at m.tree spot)
    holds spot block found = held_is (after_point r m (fresh_in report)) ordered (same_after r m report is same unchanged) spot block found

    used : (spot : Spot) (block : ℕ) → find spot_cmp spot (placed_after r m (fresh_in report)) ≡ Some block → option_map r.fingerprint (held (after_point r m (fresh_in report)) block) ≡ Some (r.fingerprint (block_at m.tree spot))
    used spot block found = ap (option_map r.fingerprint) (holds spot block found)

    kept : (p : Pair) → option_map r.fingerprint (held m p.1) ≡ Some p.0 → is_cached m.cache p.1 ≡ true → is_block (placed_after r m (fresh_in report)) p.1 ≡ true → option_map r.fingerprint (held (after_point r m (fresh_in report)) p.1) ≡ Some p.0
    kept p before cached is_there =
        let there = block_spot (placed_after r m (fresh_in report)) p.1 ordered is_there in
        let now = holds there.spot p.1 there.found in
        let was = held_after r m report is same unchanged there.spot p.1 there.found cached in
        ap (option_map r.fingerprint) (now ∙ sym was) ∙ before
