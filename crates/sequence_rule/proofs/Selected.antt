-- Rows for the dirty blocks make the selection.
use Rattle.std.proofs.Common.{◌≡◌, ℕ, suc, ◌+◌, ◌<◌, ◌≤◌, Bool, true, false, ◌&&◌, ◌||◌, IsTrue, List, [], ◌∷◌, length, refl, sym, ap, subst, ◌∙◌, arith}
use Rattle.std.specs.Prelude.{nat_eq, max}
use Rattle.std.proofs.lemmas.Bool.Decides.{nat_tests}
use Rattle.vol_numbers.specs.declared.block.Block.{Block}
use Rattle.place_words.specs.Different.{is_among}
use Rattle.place_words.specs.Rising.{Rising, AllUnder}
use Rattle.place_words.proofs.Rising.{rising_less}
use Rattle.volume_model.specs.declared.sequence.Sequence.{Sequence}
use Rattle.volume_model.specs.Cache.{CacheList, is_cached}
use Rattle.volume_model.specs.Selection.{Matching, Picks, by_place, without, IsSelection}
use Rattle.volume_model.specs.Sharing.{and_then}
use Rattle.sequence_rule.specs.Choosing.{picks_along}
use Rattle.sequence_rule.specs.Matched.{matched_places, row_matches, rows_match, AreRowsOf}
use Rattle.sequence_rule.specs.Matches.{block_matches, matches, SelectsCached}
use Rattle.sequence_rule.specs.Runs.{DirtyBlock, places_of}
use Rattle.sequence_rule.specs.declared.matched.PlaceMatches.{PlaceMatches}
use Rattle.sequence_rule.proofs.Selecting.{Agree, along_is}

-- ---- the rows agree with what they match

agree_more : (low : ℕ) (matching : Matching) (test : ℕ → ℕ → Bool) → ((p b : ℕ) → low ≤ p → test p b ≡ false) → (rs : List PlaceMatches) → Rising low (matched_places rs) → Agree matching rs
    → Agree (λ p b. test p b || matching p b) rs
agree_more low matching test none [] rise agree = tt
agree_more low matching test none (r ∷ rs) rise agree = (
  (λ b. agree.0 b ∙ sym (ap (λ (t : Bool). t || matching r.place b) (none r.place b rise.0))),
  agree_more low matching test none rs (rising_less low (r.place + 1) (omega (arith, rise.0)) (matched_places rs) rise.1) agree.1,
)

none_match : (low p b : ℕ) → p < low → (rs : List PlaceMatches) → Rising low (matched_places rs) → rows_match rs p b ≡ false
none_match low p b less [] rise = refl
none_match low p b less (r ∷ rs) rise =
    let apart : nat_eq r.place p ≡ false = (let above : low ≤ r.place = rise.0 in grind (arith, nat_tests)) in
    rw (apart, none_match (r.place + 1) p b (omega (arith, less, rise.0)) rs rise.1) refl

or_false : (b : Bool) → b ≡ (b || false)
or_false true = refl
or_false false = refl

pub rows_agree : (low : ℕ) (rs : List PlaceMatches) → Rising low (matched_places rs) → Agree (rows_match rs) rs
rows_agree low [] rise = tt
rows_agree low (r ∷ rs) rise =
    (first, agree_more (r.place + 1) (rows_match rs) (row_matches r) later rs rise.1 (rows_agree (r.place + 1) rs rise.1))
  where
    own : nat_eq r.place r.place ≡ true
    own = grind (arith, nat_tests)

    first : (b : ℕ) → is_among r.blocks b ≡ rows_match (r ∷ rs) r.place b
    first b = rw (own, none_match (r.place + 1) r.place b (omega arith) rs rise.1) (or_false (is_among r.blocks b))

    later : (p b : ℕ) → r.place + 1 ≤ p → row_matches r p b ≡ false
    later p b above = let apart : nat_eq r.place p ≡ false = grind (arith, nat_tests) in rw apart refl

-- ---- the rows are of the dirty blocks

module _ (tells : Bool) (cache : CacheList) (contents : List Block) where
  pub places_are : (es : List DirtyBlock) (rs : List PlaceMatches) → AreRowsOf tells cache contents es rs → matched_places rs ≡ places_of es
  places_are [] [] are = refl
  places_are [] (r ∷ rs) are = absurd are
  places_are (e ∷ es) [] are = absurd are
  places_are (e ∷ es) (r ∷ rs) are = λ i. are.0.place i ∷ places_are es rs are.1 i

  pub rows_cached : (es : List DirtyBlock) (rs : List PlaceMatches) → AreRowsOf tells cache contents es rs → (p b : ℕ) → rows_match rs p b ≡ true → is_cached cache b ≡ true
  rows_cached [] [] are p b e = cc
  rows_cached [] (r ∷ rs) are p b e = absurd are
  rows_cached (e ∷ es) [] are p b h = cc
  rows_cached (e ∷ es) (r ∷ rs) are p b h = by (nat_eq r.place p) (is_among r.blocks b) refl h (rows_cached es rs are.1 p b)
    where
      by : (t u : Bool) → is_among r.blocks b ≡ u → ((t && u) || rows_match rs p b) ≡ true → (rows_match rs p b ≡ true → is_cached cache b ≡ true) → is_cached cache b ≡ true
      by true true is h more = are.0.cached b is
      by true false is h more = more h
      by false u is h more = more h

  pub rows_told : IsTrue tells → (es : List DirtyBlock) (rs : List PlaceMatches) → AreRowsOf tells cache contents es rs → (p b : ℕ) → rows_match rs p b ≡ matches cache contents es p b
  rows_told told [] [] are p b = refl
  rows_told told [] (r ∷ rs) are p b = absurd are
  rows_told told (e ∷ es) [] are p b = absurd are
  rows_told told (e ∷ es) (r ∷ rs) are p b =
      let rest = rows_told told es rs are.1 p b in
      let own : row_matches r p b ≡ and_then (nat_eq e.0 p) (λ _. block_matches cache contents e.1 b) =
      ap (λ (n : ℕ). nat_eq n p && is_among r.blocks b) are.0.place ∙ ap (λ (t : Bool). nat_eq e.0 p && t) (are.0.matches told b) ∙ and_is (nat_eq e.0 p) (block_matches cache contents e.1 b) in
      λ i. own i || rest i
    where
      and_is : (a b : Bool) → (a && b) ≡ and_then a (λ _. b)
      and_is true b = refl
      and_is false b = refl

-- ---- there are no more rows than places

fits : (n m : ℕ) (ns : List ℕ) → n ≤ m → Rising n ns → AllUnder m ns → n + length ns ≤ m
fits n m [] le rise under = omega arith
fits n m (x ∷ xs) le rise under = omega (arith, rise.0, fits (x + 1) m xs (omega (arith, under.0)) rise.1 under.1)

places_count : (rs : List PlaceMatches) → length (matched_places rs) ≡ length rs
places_count [] = refl
places_count (r ∷ rs) = ap suc (places_count rs)

pub few_rows : (tells : Bool) (cache : CacheList) (contents : List Block) (limit : ℕ) (es : List DirtyBlock) (rs : List PlaceMatches)
    → AreRowsOf tells cache contents es rs → Rising 0 (places_of es) → AllUnder limit (places_of es) → length rs ≤ limit
few_rows tells cache contents limit es rs are rise under =
    let count = ap (λ (ns : List ℕ). length ns) (places_are tells cache contents es rs are) in
    omega (arith, places_count rs, count, fits 0 limit (places_of es) (omega arith) rise under)

-- ---- a threshold of 0 is one of 1

module _ (matching : Matching) (low high : ℕ) (le : low ≤ high) (enough : (n : ℕ) → 0 < n → low ≤ n → high ≤ n) where
  picks_lower : (us : List ℕ) (qs : List Sequence) → Picks matching high us qs → Picks matching low us qs
  picks_lower us [] none = λ p is long. none p is (enough p.length is.0 long)
  picks_lower us (q ∷ qs) picked =
      let best = picked.0 in
      (record { sequence = best.sequence; enough = omega (arith, le, best.enough); first = λ p is long. best.first p is (enough p.length is.0 long) }, picks_lower (without us q) qs picked.1)

  pub lower : (us : List ℕ) (qs : List Sequence) → IsSelection matching high us qs → IsSelection matching low us qs
  lower us qs s = record { picked = s.picked; one_by_one = picks_lower us s.picked s.one_by_one; sorted = s.sorted }

-- ---- the selection

module _ (tells : Bool) (cache : CacheList) (contents : List Block) (threshold : ℕ) (es : List DirtyBlock) (rs : List PlaceMatches)
    (are : AreRowsOf tells cache contents es rs) (rise : Rising 0 (places_of es)) where
  by_rows : IsSelection (rows_match rs) threshold (places_of es) (by_place (picks_along (max threshold 1) (length rs) rs))
  by_rows =
      let places = places_are tells cache contents es rs are in
      let rises = subst (λ (us : List ℕ). Rising 0 us) (sym places) rise in
      let along = along_is (rows_match rs) (max threshold 1) (omega arith) rs 0 (rows_agree 0 rs rises) rises in
      lower (rows_match rs) threshold (max threshold 1) (omega arith) (λ n some le. omega arith) (places_of es) (by_place (picks_along (max threshold 1) (length rs) rs))
      (subst (λ (us : List ℕ). IsSelection (rows_match rs) (max threshold 1) us (by_place (picks_along (max threshold 1) (length rs) rs))) places along)

  pub selects_some : SelectsCached cache threshold (places_of es) (by_place (picks_along (max threshold 1) (length rs) rs))
  selects_some = record { matching = rows_match rs; cached = rows_cached tells cache contents es rs are; selection = by_rows }

  pub selects_told : IsTrue tells → IsSelection (matches cache contents es) threshold (places_of es) (by_place (picks_along (max threshold 1) (length rs) rs))
  selects_told told =
      let same : rows_match rs ≡ matches cache contents es = λ i p b. rows_told tells cache contents told es rs are p b i in
      subst (λ (m : Matching). IsSelection m threshold (places_of es) (by_place (picks_along (max threshold 1) (length rs) rs))) same by_rows
