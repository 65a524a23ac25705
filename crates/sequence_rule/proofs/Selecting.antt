-- What is picked along rows is the selection.
use Rattle.std.proofs.Common.{◌≡◌, ℕ, zero, suc, ◌+◌, ◌<◌, ◌≤◌, Bool, true, false, ◌&&◌, not, List, [], ◌∷◌, length, Some, None, refl, sym, ap, subst, ◌∙◌, arith, inl, inr, ◌||◌, add-zero, cond}
use Rattle.std.specs.Prelude.{Option, ◌⊎◌, nat_eq, nat_le}
use Rattle.std.proofs.lemmas.Bool.Decides.{nat_tests}
use Rattle.place_words.specs.Different.{is_among}
use Rattle.place_words.specs.Rising.{Rising}
use Rattle.place_words.proofs.Rising.{rising_less}
use Rattle.volume_model.specs.declared.sequence.Sequence.{Sequence}
use Rattle.volume_model.specs.Selection.{Matching, IsSequence, comes_before, IsBest, covers, without, Picks, by_place, IsSelection}
use Rattle.volume_model.specs.Select.{better, best_of_both, long_enough, with_value}
use Rattle.volume_model.proofs.Selecting.{before_itself, before_or_after, before_all}
use Rattle.sequence_rule.specs.declared.matched.PlaceMatches.{PlaceMatches}
use Rattle.sequence_rule.specs.Matched.{matched_places, row_matches}
use Rattle.sequence_rule.specs.Choosing.{reach_along, sequence_from, best_to, best_along, rows_without, picks_along}

-- ---- tests

and_both : (a b : Bool) → (a && b) ≡ true → (a ≡ true) × (b ≡ true)
and_both true b h = (refl, h)
and_both false b h = cc

both_and : (a b : Bool) → a ≡ true → b ≡ true → (a && b) ≡ true
both_and a b g h = rw (g, h) refl

either : (a b : Bool) → (a || b) ≡ true → (a ≡ true) ⊎ (b ≡ true)
either true b h = inl refl
either false b h = inr h

equal : (m n : ℕ) → nat_eq m n ≡ true → m ≡ n
equal m n h = grind (arith, nat_tests)

unequal : (m n : ℕ) → (m ≡ n → ⊥) → nat_eq m n ≡ false
unequal m n h = grind (arith, nat_tests)

-- ---- lists in order

among_later : (u : ℕ) (us : List ℕ) (x : ℕ) → is_among us x ≡ true → is_among (u ∷ us) x ≡ true
among_later u us x h = elim (nat_eq u x) as (λ b. (b || is_among us x) ≡ true) [ true ↦ refl | false ↦ h ]

among_above : (n : ℕ) (us : List ℕ) → Rising n us → (x : ℕ) → is_among us x ≡ true → n ≤ x
among_above n [] a x h = cc
among_above n (u ∷ us) a x h =
    elim (either (nat_eq u x) (is_among us x) h) [
      | inl same ↦ (let e : u ≡ x = equal u x same in omega arith)
      | inr later ↦ (let above : u + 1 ≤ x = among_above (u + 1) us a.1 x later in omega arith)
    ]

-- each row has the blocks that its place matches
abbrev pub Agree : Matching → List PlaceMatches → Type 0
Agree matches [] = Unit {0}
Agree matches (r ∷ rs) = ((b : ℕ) → is_among r.blocks b ≡ matches r.place b) × Agree matches rs

module _ (matches : Matching) where
  abbrev Holds : List PlaceMatches → ℕ → ℕ → ℕ → Type 0
  Holds rs p b m = (k : ℕ) → k < m → (is_among (matched_places rs) (p + k) && matches (p + k) (b + k)) ≡ true

  -- a row that is of a place and has a block tells of a match
  row_tells : (r : PlaceMatches) → ((b : ℕ) → is_among r.blocks b ≡ matches r.place b) → (p b : ℕ) → row_matches r p b ≡ true → (nat_eq r.place p ≡ true) × (matches p b ≡ true)
  row_tells r own p b h =
      let parts = and_both (nat_eq r.place p) (is_among r.blocks b) h in
      let same : r.place ≡ p = equal r.place p parts.0 in
      (parts.0, subst (λ (q : ℕ). matches q b ≡ true) same (sym (own b) ∙ parts.1))

  row_told : (r : PlaceMatches) → ((b : ℕ) → is_among r.blocks b ≡ matches r.place b) → (p b : ℕ) → r.place ≡ p → matches p b ≡ true → row_matches r p b ≡ true
  row_told r own p b same h =
      let there : nat_eq r.place p ≡ true = grind (arith, nat_tests) in
      both_and _ _ there (own b ∙ subst (λ (q : ℕ). matches q b ≡ true) (sym same) h)

  -- each of its places holds
  sound : (rs : List PlaceMatches) → Agree matches rs → (p b : ℕ) → Holds rs p b (reach_along p b rs)
  sound [] agree p b k h = absurd (omega arith)
  sound (r ∷ rs) agree p b zero h =
      elim (row_matches r p b) as (λ t. row_matches r p b ≡ t → 0 < cond t (reach_along (p + 1) (b + 1) rs + 1) 0 → (is_among (matched_places (r ∷ rs)) (p + 0) && matches (p + 0) (b + 0)) ≡ true) [
        | true ↦ λ e h.
            (let parts = row_tells r agree.0 p b e in
            let same : nat_eq r.place p ≡ true = parts.0 in
            let matched : matches p b ≡ true = parts.1 in
            simp (add-zero, same, matched))
        | false ↦ λ e h. absurd (omega arith)
      ] refl h
  sound (r ∷ rs) agree p b (suc k) h =
      elim (row_matches r p b) as (λ t. row_matches r p b ≡ t → suc k < cond t (reach_along (p + 1) (b + 1) rs + 1) 0 → (is_among (matched_places (r ∷ rs)) (p + suc k) && matches (p + suc k) (b + suc k)) ≡ true) [
        | true ↦ λ e h.
            (let below : k < reach_along (p + 1) (b + 1) rs = omega arith in
            let later = and_both (is_among (matched_places rs) ((p + 1) + k)) (matches ((p + 1) + k) ((b + 1) + k)) (sound rs agree.1 (p + 1) (b + 1) k below) in
            let p_same : (p + 1) + k ≡ p + suc k = omega arith in
            let b_same : (b + 1) + k ≡ b + suc k = omega arith in
            rw (← p_same, ← b_same) (both_and _ _ (among_later r.place (matched_places rs) _ later.0) later.1))
        | false ↦ λ e h. absurd (omega arith)
      ] refl h

  -- the first of places in order, where all are from p on and p is there
  first_is : (u : ℕ) (us : List ℕ) (p : ℕ) → Rising p (u ∷ us) → is_among (u ∷ us) p ≡ true → u ≡ p
  first_is u us p a h =
      elim (either (nat_eq u p) (is_among us p) h) [
        | inl same ↦ equal u p same
        | inr later ↦ (let above : u + 1 ≤ p = among_above (u + 1) us a.1 p later in let from : p ≤ u = a.0 in absurd (omega arith))
      ]

  -- no stretch that holds is longer
  most : (rs : List PlaceMatches) → Agree matches rs → (p b m : ℕ) → Rising p (matched_places rs) → Holds rs p b m → m ≤ reach_along p b rs
  most rs agree p b zero a s = omega arith
  most [] agree p b (suc m) a s = let first : false ≡ true = s 0 (omega arith) in cc
  most (r ∷ rs) agree p b (suc m) a s =
      let us = matched_places rs in
      let first = and_both (is_among (r.place ∷ us) p) (matches p b) (simp add-zero at (s 0 (omega arith))) in
      let same : r.place ≡ p = first_is r.place us p a first.0 in
      let there : row_matches r p b ≡ true = row_told r agree.0 p b same first.1 in
      let next : Rising (p + 1) us = rising_less (p + 1) (r.place + 1) (omega arith) us a.1 in
      let rest : Holds rs (p + 1) (b + 1) m = λ k h.
      (let parts = and_both (is_among (r.place ∷ us) (p + suc k)) (matches (p + suc k) (b + suc k)) (s (suc k) (omega arith)) in
      let apart : nat_eq r.place (p + suc k) ≡ false = unequal r.place (p + suc k) (λ e. omega arith) in
      let p_same : p + suc k ≡ (p + 1) + k = omega arith in
      let b_same : b + suc k ≡ (b + 1) + k = omega arith in
      let later : is_among us (p + suc k) ≡ true = rw apart at parts.0 in
      rw (← p_same, ← b_same) (both_and _ _ later parts.1)) in
      let more : m ≤ reach_along (p + 1) (b + 1) rs = most rs agree.1 (p + 1) (b + 1) m next rest in
      rw there (omega arith)

  -- ---- the best is a sequence

  abbrev Sound : List PlaceMatches → Option Sequence → Type 0
  Sound rs None = Unit {0}
  Sound rs (Some q) = Holds rs q.first q.block q.length

  better_sound : (rs : List PlaceMatches) (p : Sequence) (o : Option Sequence) → Holds rs p.first p.block p.length → Sound rs o → Sound rs (better p o)
  better_sound rs p None h g = h
  better_sound rs p (Some q) h g = elim (comes_before p q) as (λ b. Sound rs (Some (cond b p q))) [ true ↦ h | false ↦ g ]

  both_sound : (rs : List PlaceMatches) (o s : Option Sequence) → Sound rs o → Sound rs s → Sound rs (best_of_both o s)
  both_sound rs None s g h = h
  both_sound rs (Some p) s g h = better_sound rs p s g h

  best_to_sound : (rs : List PlaceMatches) → Agree matches rs → (p : ℕ) (blocks : List ℕ) → Sound rs (best_to p rs blocks)
  best_to_sound rs agree p [] = tt
  best_to_sound rs agree p (b ∷ blocks) = better_sound rs (sequence_from p b rs) (best_to p rs blocks) (sound rs agree p b) (best_to_sound rs agree p blocks)

  later_sound : (r : PlaceMatches) (rs : List PlaceMatches) (o : Option Sequence) → Sound rs o → Sound (r ∷ rs) o
  later_sound r rs None h = tt
  later_sound r rs (Some q) h = λ k below. (let parts = and_both (is_among (matched_places rs) (q.first + k)) (matches (q.first + k) (q.block + k)) (h k below) in both_and _ _ (among_later r.place (matched_places rs) _ parts.0) parts.1)

  best_sound : (rs : List PlaceMatches) → Agree matches rs → Sound rs (best_along rs)
  best_sound [] agree = tt
  best_sound (r ∷ rs) agree =
      both_sound (r ∷ rs) (best_to r.place (r ∷ rs) r.blocks) (best_along rs) (best_to_sound (r ∷ rs) agree r.place r.blocks) (later_sound r rs _ (best_sound rs agree.1))

  -- ---- no sequence comes before it

  abbrev Beats : Option Sequence → Sequence → Type 0
  Beats None p = ⊥
  Beats (Some q) p = comes_before q p ≡ true

  better_beats_own : (p : Sequence) (o : Option Sequence) → Beats (better p o) p
  better_beats_own p None = before_itself p
  better_beats_own p (Some q) = elim (comes_before p q) as (λ b. comes_before p q ≡ b → comes_before (cond b p q) p ≡ true) [ true ↦ λ e. before_itself p | false ↦ λ e. before_or_after p q e ] refl

  better_beats : (p : Sequence) (o : Option Sequence) (s : Sequence) → Beats o s → Beats (better p o) s
  better_beats p None s h = absurd h
  better_beats p (Some q) s h = elim (comes_before p q) as (λ b. comes_before p q ≡ b → comes_before (cond b p q) s ≡ true) [ true ↦ λ e. before_all p q s e h | false ↦ λ e. h ] refl

  both_beat_first : (o n : Option Sequence) (s : Sequence) → Beats o s → Beats (best_of_both o n) s
  both_beat_first None n s h = absurd h
  both_beat_first (Some p) None s h = h
  both_beat_first (Some p) (Some q) s h =
      elim (comes_before p q) as (λ b. comes_before p q ≡ b → comes_before (cond b p q) s ≡ true) [ true ↦ λ e. h | false ↦ λ e. before_all q p s (before_or_after p q e) h ] refl

  both_beat_second : (o n : Option Sequence) (s : Sequence) → Beats n s → Beats (best_of_both o n) s
  both_beat_second None n s h = h
  both_beat_second (Some p) n s h = better_beats p n s h

  best_to_beats : (rs : List PlaceMatches) (p : ℕ) (blocks : List ℕ) (b : ℕ) → is_among blocks b ≡ true → Beats (best_to p rs blocks) (sequence_from p b rs)
  best_to_beats rs p [] b h = cc
  best_to_beats rs p (c ∷ blocks) b h =
      elim (either (nat_eq c b) (is_among blocks b) h) [
        | inl same ↦ (let e : c ≡ b = equal c b same in subst (λ x. Beats (better (sequence_from p c rs) (best_to p rs blocks)) (sequence_from p x rs)) e (better_beats_own (sequence_from p c rs) _))
        | inr later ↦ better_beats (sequence_from p c rs) _ _ (best_to_beats rs p blocks b later)
      ]

  longer_before : (p q : Sequence) → q.length ≤ p.length → p.first ≡ q.first → p.block ≡ q.block → comes_before p q ≡ true
  longer_before p q h f b = grind (arith, nat_tests)

  beats_more : (o : Option Sequence) (p s : Sequence) → Beats o p → comes_before p s ≡ true → Beats o s
  beats_more None p s h g = absurd h
  beats_more (Some q) p s h g = before_all q p s h g

  best_beats : (rs : List PlaceMatches) → Agree matches rs → (n : ℕ) → Rising n (matched_places rs) → (q : Sequence) → 0 < q.length → Holds rs q.first q.block q.length → Beats (best_along rs) q
  best_beats [] agree n a q h s = let none : false ≡ true = s 0 h in cc
  best_beats (r ∷ rs) agree n a q h s =
      let us = matched_places rs in
      let first = and_both (is_among (r.place ∷ us) q.first) (matches q.first q.block) (simp add-zero at (s 0 h)) in
      elim (either (nat_eq r.place q.first) (is_among us q.first) first.0) [
        | inl same ↦
            (let e : r.place ≡ q.first = equal r.place q.first same in
            let order : Rising r.place (r.place ∷ us) = (omega arith, a.1) in
            let own : Holds (r ∷ rs) r.place q.block q.length = subst (λ x. Holds (r ∷ rs) x q.block q.length) (sym e) s in
            let far : q.length ≤ reach_along r.place q.block (r ∷ rs) = most (r ∷ rs) agree r.place q.block q.length order own in
            let has : is_among r.blocks q.block ≡ true = agree.0 q.block ∙ subst (λ (p : ℕ). matches p q.block ≡ true) (sym e) first.1 in
            let found = best_to_beats (r ∷ rs) r.place r.blocks q.block has in
            both_beat_first _ _ q (beats_more _ (sequence_from r.place q.block (r ∷ rs)) q found (longer_before (sequence_from r.place q.block (r ∷ rs)) q far e refl)))
        | inr later ↦
            (let above : r.place + 1 ≤ q.first = among_above (r.place + 1) us a.1 q.first later in
            let rest : Holds rs q.first q.block q.length = λ k below.
            (let parts = and_both (is_among (r.place ∷ us) (q.first + k)) (matches (q.first + k) (q.block + k)) (s k below) in
            let apart : nat_eq r.place (q.first + k) ≡ false = unequal r.place (q.first + k) (λ e. omega arith) in
            let there : is_among us (q.first + k) ≡ true = rw apart at parts.0 in
            both_and _ _ there parts.1) in
            both_beat_second (best_to r.place (r ∷ rs) r.blocks) _ q (best_beats rs agree.1 (r.place + 1) a.1 q h rest))
      ]

  -- ---- one pick

  module _ (threshold : ℕ) (positive : 0 < threshold) where
    best_is : (rs : List PlaceMatches) → (o : Option Sequence) → Sound rs o → ((s : Sequence) → 0 < s.length → Holds rs s.first s.block s.length → Beats o s)
        → (q : Sequence) → long_enough threshold o ≡ Some q → IsBest matches threshold (matched_places rs) q
    best_is rs None h beats q e = cc
    best_is rs (Some p) h beats q e =
        elim (nat_le threshold p.length) as (λ b. nat_le threshold p.length ≡ b → cond b (Some p) None ≡ Some q → IsBest matches threshold (matched_places rs) q) [
          | true ↦ λ t e.
              (let same : p ≡ q = cc in
              let enough : threshold ≤ p.length = grind (arith, nat_tests) in
              let some : 0 < p.length = omega arith in
              let own : IsBest matches threshold (matched_places rs) p = record { sequence = (some, h); enough = enough; first = λ s g l. beats s g.0 g.1 } in
              subst (λ x. IsBest matches threshold (matched_places rs) x) same own)
          | false ↦ λ t e. cc
        ] refl e

    none_is : (rs : List PlaceMatches) → (o : Option Sequence) → ((s : Sequence) → 0 < s.length → Holds rs s.first s.block s.length → Beats o s)
        → long_enough threshold o ≡ None → (s : Sequence) → IsSequence matches (matched_places rs) s → threshold ≤ s.length → ⊥
    none_is rs None beats e s g l = beats s g.0 g.1
    none_is rs (Some p) beats e s g l =
        (let before : comes_before p s ≡ true = beats s g.0 g.1 in
        let longer : s.length ≤ p.length = grind (arith, nat_tests) in
        let enough : nat_le threshold p.length ≡ true = grind (arith, nat_tests) in
        let found : long_enough threshold (Some p) ≡ Some p = rw enough refl in
        cc)

    -- ---- what is left

    places_without : (q : Sequence) (rs : List PlaceMatches) → matched_places (rows_without q rs) ≡ without (matched_places rs) q
    places_without q [] = refl
    places_without q (r ∷ rs) =
        elim (not (covers q r.place)) as (λ b. matched_places (cond b (r ∷ rows_without q rs) (rows_without q rs)) ≡ cond b (r.place ∷ without (matched_places rs) q) (without (matched_places rs) q)) [
          | true ↦ ap (λ (us : List ℕ). r.place ∷ us) (places_without q rs)
          | false ↦ places_without q rs
        ]

    agree_without : (q : Sequence) (rs : List PlaceMatches) → Agree matches rs → Agree matches (rows_without q rs)
    agree_without q [] agree = tt
    agree_without q (r ∷ rs) agree =
        elim (not (covers q r.place)) as (λ b. Agree matches (cond b (r ∷ rows_without q rs) (rows_without q rs))) [ true ↦ (agree.0, agree_without q rs agree.1) | false ↦ agree_without q rs agree.1 ]

    rising_without : (q : Sequence) (us : List ℕ) (n : ℕ) → Rising n us → Rising n (without us q)
    rising_without q [] n a = tt
    rising_without q (u ∷ us) n a =
        elim (not (covers q u)) as (λ b. Rising n (cond b (u ∷ without us q) (without us q))) [
          | true ↦ (a.0, rising_without q us (u + 1) a.1)
          | false ↦ rising_less n (u + 1) (omega arith) (without us q) (rising_without q us (u + 1) a.1)
        ]

    no_longer : (q : Sequence) (rs : List PlaceMatches) → length (rows_without q rs) ≤ length rs
    no_longer q [] = omega arith
    no_longer q (r ∷ rs) =
        elim (not (covers q r.place)) as (λ b. length (cond b (r ∷ rows_without q rs) (rows_without q rs)) ≤ length (r ∷ rs)) [ true ↦ omega (arith, no_longer q rs) | false ↦ omega (arith, no_longer q rs) ]

    shorter : (q : Sequence) (rs : List PlaceMatches) (x : ℕ) → is_among (matched_places rs) x ≡ true → covers q x ≡ true → length (rows_without q rs) < length rs
    shorter q [] x h g = cc
    shorter q (r ∷ rs) x h g =
        elim (either (nat_eq r.place x) (is_among (matched_places rs) x) h) [
          | inl same ↦
              (let e : r.place ≡ x = equal r.place x same in
              let covered_too : covers q r.place ≡ true = rw e g in
              let out : length (rows_without q (r ∷ rs)) ≡ length (rows_without q rs) = rw covered_too refl in
              omega (arith, out, no_longer q rs))
          | inr later ↦
              (let rest : length (rows_without q rs) < length rs = shorter q rs x later g in
              elim (not (covers q r.place)) as (λ b. length (cond b (r ∷ rows_without q rs) (rows_without q rs)) < length (r ∷ rs)) [ true ↦ omega arith | false ↦ omega arith ])
        ]

    -- ---- all picks

    picks_are : (m : ℕ) (rs : List PlaceMatches) (n : ℕ) → Agree matches rs → Rising n (matched_places rs) → length rs ≤ m → Picks matches threshold (matched_places rs) (picks_along threshold m rs)
    picks_are zero [] n agree a h = λ s g l. (let none : false ≡ true = g.1 0 g.0 in cc)
    picks_are zero (r ∷ rs) n agree a h = absurd (omega arith)
    picks_are (suc m) rs n agree a h =
        (let beats = λ (s : Sequence) (g : 0 < s.length) (t : Holds rs s.first s.block s.length). best_beats rs agree n a s g t in
        elim (long_enough threshold (best_along rs)) as (λ o. long_enough threshold (best_along rs) ≡ o → Picks matches threshold (matched_places rs) (with_value o [] (λ q. q ∷ picks_along threshold m (rows_without q rs)))) [
          | None ↦ λ e. none_is rs (best_along rs) beats e
          | Some q ↦ λ e.
              (let own : IsBest matches threshold (matched_places rs) q = best_is rs (best_along rs) (best_sound rs agree) beats q e in
              let first = and_both (is_among (matched_places rs) q.first) (matches q.first q.block) (simp add-zero at (own.sequence.1 0 own.sequence.0)) in
              let inside : covers q q.first ≡ true = (let some : 0 < q.length = own.sequence.0 in grind (arith, nat_tests)) in
              let less : length (rows_without q rs) < length rs = shorter q rs q.first first.0 inside in
              let places = places_without q rs in
              let rising = subst (λ (us : List ℕ). Rising n us) (sym places) (rising_without q (matched_places rs) n a) in
              let rest = picks_are m (rows_without q rs) n (agree_without q rs agree) rising (omega arith) in
              (own, subst (λ (us : List ℕ). Picks matches threshold us (picks_along threshold m (rows_without q rs))) places rest))
        ] refl)

    pub along_is : (rs : List PlaceMatches) (n : ℕ) → Agree matches rs → Rising n (matched_places rs) → IsSelection matches threshold (matched_places rs) (by_place (picks_along threshold (length rs) rs))
    along_is rs n agree a = record { picked = picks_along threshold (length rs) rs; one_by_one = picks_are (length rs) rs n agree a (omega arith); sorted = refl }
