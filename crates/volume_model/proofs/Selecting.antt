-- The function selects what the relation says, and nothing else is selected.
use Rattle.std.proofs.Common.{◌≡◌, ℕ, zero, suc, ◌+◌, ◌<◌, ◌≤◌, Bool, true, false, ◌&&◌, not, List, [], ◌∷◌, length, Some, None, refl, sym, ap, subst, ◌∙◌, arith, inl, inr, ◌||◌, add-zero, cond}
use Rattle.std.specs.Prelude.{Option, ◌⊎◌, nat_eq, nat_le}
use Rattle.std.proofs.lemmas.Bool.Decides.{nat_tests}
use Rattle.place_words.specs.Different.{is_among}
use Rattle.place_words.specs.Rising.{Rising}
use Rattle.volume_model.specs.declared.sequence.Sequence.{Sequence}
use Rattle.volume_model.specs.Selection.{Matching, IsSequence, comes_before, IsBest, covers, without, Picks, by_place, IsSelection}
use Rattle.volume_model.specs.Select.{reach, reach_of, better, best_at, best_of_both, best_of, long_enough, best, with_value, picks, select}

-- ---- the order of sequences

pub before_itself : (p : Sequence) → comes_before p p ≡ true
before_itself p = grind (arith, nat_tests)

pub before_or_after : (p q : Sequence) → comes_before p q ≡ false → comes_before q p ≡ true
before_or_after p q h = grind (arith, nat_tests)

pub before_all : (p q r : Sequence) → comes_before p q ≡ true → comes_before q r ≡ true → comes_before p r ≡ true
before_all p q r g h = grind (arith, nat_tests)

pub before_both : (p q : Sequence) → comes_before p q ≡ true → comes_before q p ≡ true → (p.length ≡ q.length) × (p.first ≡ q.first) × (p.block ≡ q.block)
before_both p q g h = (grind (arith, nat_tests), grind (arith, nat_tests), grind (arith, nat_tests))

-- ---- tests

and_both : (a b : Bool) → (a && b) ≡ true → (a ≡ true) × (b ≡ true)
and_both true b h = (refl, h)
and_both false b h = cc

both_and : (a b : Bool) → a ≡ true → b ≡ true → (a && b) ≡ true
both_and a b g h = rw (g, h) refl

either : (a b : Bool) → (a || b) ≡ true → (a ≡ true) ⊎ (b ≡ true)
either true b h = inl refl
either false b h = inr h

equal : (m n : ℕ) → nat_eq m n ≡ true → m ≡ n
equal m n h = grind (arith, nat_tests)

unequal : (m n : ℕ) → (m ≡ n → ⊥) → nat_eq m n ≡ false
unequal m n h = grind (arith, nat_tests)

-- ---- lists in order

among_later : (u : ℕ) (us : List ℕ) (x : ℕ) → is_among us x ≡ true → is_among (u ∷ us) x ≡ true
among_later u us x h = elim (nat_eq u x) as (λ b. (b || is_among us x) ≡ true) [ true ↦ refl | false ↦ h ]

among_above : (n : ℕ) (us : List ℕ) → Rising n us → (x : ℕ) → is_among us x ≡ true → n ≤ x
among_above n [] a x h = cc
among_above n (u ∷ us) a x h =
    elim (either (nat_eq u x) (is_among us x) h) [
      | inl same ↦ (let e : u ≡ x = equal u x same in omega arith)
      | inr later ↦ (let above : u + 1 ≤ x = among_above (u + 1) us a.1 x later in omega arith)
    ]

rising_from : (m n : ℕ) (us : List ℕ) → m ≤ n → Rising n us → Rising m us
rising_from m n [] h a = tt
rising_from m n (u ∷ us) h a = (omega arith, a.1)

module _ (matches : Matching) where
  abbrev Holds : List ℕ → ℕ → ℕ → ℕ → Type 0
  Holds us p b m = (k : ℕ) → k < m → (is_among us (p + k) && matches (p + k) (b + k)) ≡ true

  -- each of its places holds
  sound : (us : List ℕ) (p b : ℕ) → Holds us p b (reach matches p b us)
  sound [] p b k h = absurd (omega arith)
  sound (u ∷ us) p b zero h =
      elim (nat_eq u p && matches p b) as (λ t. (nat_eq u p && matches p b) ≡ t → 0 < cond t (reach matches (p + 1) (b + 1) us + 1) 0 → (is_among (u ∷ us) (p + 0) && matches (p + 0) (b + 0)) ≡ true) [
        | true ↦ λ e h.
            (let parts = and_both (nat_eq u p) (matches p b) e in
            let same : nat_eq u p ≡ true = parts.0 in
            let matched : matches p b ≡ true = parts.1 in
            simp (add-zero, same, matched))
        | false ↦ λ e h. absurd (omega arith)
      ] refl h
  sound (u ∷ us) p b (suc k) h =
      elim (nat_eq u p && matches p b) as (λ t. (nat_eq u p && matches p b) ≡ t → suc k < cond t (reach matches (p + 1) (b + 1) us + 1) 0 → (is_among (u ∷ us) (p + suc k) && matches (p + suc k) (b + suc k)) ≡ true) [
        | true ↦ λ e h.
            (let below : k < reach matches (p + 1) (b + 1) us = omega arith in
            let later = and_both (is_among us ((p + 1) + k)) (matches ((p + 1) + k) ((b + 1) + k)) (sound us (p + 1) (b + 1) k below) in
            let p_same : (p + 1) + k ≡ p + suc k = omega arith in
            let b_same : (b + 1) + k ≡ b + suc k = omega arith in
            rw (← p_same, ← b_same) (both_and _ _ (among_later u us _ later.0) later.1))
        | false ↦ λ e h. absurd (omega arith)
      ] refl h

  -- the first of places in order, where all are from p on and p is there
  first_is : (u : ℕ) (us : List ℕ) (p : ℕ) → Rising p (u ∷ us) → is_among (u ∷ us) p ≡ true → u ≡ p
  first_is u us p a h =
      elim (either (nat_eq u p) (is_among us p) h) [
        | inl same ↦ equal u p same
        | inr later ↦ (let above : u + 1 ≤ p = among_above (u + 1) us a.1 p later in let from : p ≤ u = a.0 in absurd (omega arith))
      ]

  -- no stretch that holds is longer
  most : (us : List ℕ) (p b m : ℕ) → Rising p us → Holds us p b m → m ≤ reach matches p b us
  most us p b zero a s = omega arith
  most [] p b (suc m) a s = let first : false ≡ true = s 0 (omega arith) in cc
  most (u ∷ us) p b (suc m) a s =
      let first = and_both (is_among (u ∷ us) p) (matches p b) (simp add-zero at (s 0 (omega arith))) in
      let same : u ≡ p = first_is u us p a first.0 in
      let there : nat_eq u p ≡ true = grind (arith, nat_tests) in
      let next : Rising (p + 1) us = rising_from (p + 1) (u + 1) us (omega arith) a.1 in
      let rest : Holds us (p + 1) (b + 1) m = λ k h.
      (let parts = and_both (is_among (u ∷ us) (p + suc k)) (matches (p + suc k) (b + suc k)) (s (suc k) (omega arith)) in
      let apart : nat_eq u (p + suc k) ≡ false = unequal u (p + suc k) (λ e. omega arith) in
      let p_same : p + suc k ≡ (p + 1) + k = omega arith in
      let b_same : b + suc k ≡ (b + 1) + k = omega arith in
      let later : is_among us (p + suc k) ≡ true = rw apart at parts.0 in
      rw (← p_same, ← b_same) (both_and _ _ later parts.1)) in
      let more : m ≤ reach matches (p + 1) (b + 1) us = most us (p + 1) (b + 1) m next rest in
      rw (there, first.1) (omega arith)

  -- ---- the best is a sequence

  abbrev Sound : List ℕ → Option Sequence → Type 0
  Sound us None = Unit {0}
  Sound us (Some q) = Holds us q.first q.block q.length

  better_sound : (us : List ℕ) (p : Sequence) (o : Option Sequence) → Holds us p.first p.block p.length → Sound us o → Sound us (better p o)
  better_sound us p None h g = h
  better_sound us p (Some q) h g = elim (comes_before p q) as (λ b. Sound us (Some (cond b p q))) [ true ↦ h | false ↦ g ]

  both_sound : (us : List ℕ) (o r : Option Sequence) → Sound us o → Sound us r → Sound us (best_of_both o r)
  both_sound us None r g h = h
  both_sound us (Some p) r g h = better_sound us p r g h

  best_at_sound : (us : List ℕ) (p : ℕ) (blocks : List ℕ) → Sound us (best_at matches p us blocks)
  best_at_sound us p [] = tt
  best_at_sound us p (b ∷ blocks) = better_sound us (reach_of matches p b us) (best_at matches p us blocks) (sound us p b) (best_at_sound us p blocks)

  later_sound : (u : ℕ) (us : List ℕ) (o : Option Sequence) → Sound us o → Sound (u ∷ us) o
  later_sound u us None h = tt
  later_sound u us (Some q) h = λ k below. (let parts = and_both (is_among us (q.first + k)) (matches (q.first + k) (q.block + k)) (h k below) in both_and _ _ (among_later u us _ parts.0) parts.1)

  best_of_sound : (blocks us : List ℕ) → Sound us (best_of matches blocks us)
  best_of_sound blocks [] = tt
  best_of_sound blocks (u ∷ us) =
      both_sound (u ∷ us) (best_at matches u (u ∷ us) blocks) (best_of matches blocks us) (best_at_sound (u ∷ us) u blocks) (later_sound u us _ (best_of_sound blocks us))

  -- ---- no sequence comes before it

  abbrev Beats : Option Sequence → Sequence → Type 0
  Beats None p = ⊥
  Beats (Some q) p = comes_before q p ≡ true

  better_beats_own : (p : Sequence) (o : Option Sequence) → Beats (better p o) p
  better_beats_own p None = before_itself p
  better_beats_own p (Some q) = elim (comes_before p q) as (λ b. comes_before p q ≡ b → comes_before (cond b p q) p ≡ true) [ true ↦ λ e. before_itself p | false ↦ λ e. before_or_after p q e ] refl

  better_beats : (p : Sequence) (o : Option Sequence) (r : Sequence) → Beats o r → Beats (better p o) r
  better_beats p None r h = absurd h
  better_beats p (Some q) r h = elim (comes_before p q) as (λ b. comes_before p q ≡ b → comes_before (cond b p q) r ≡ true) [ true ↦ λ e. before_all p q r e h | false ↦ λ e. h ] refl

  both_beat_first : (o s : Option Sequence) (r : Sequence) → Beats o r → Beats (best_of_both o s) r
  both_beat_first None s r h = absurd h
  both_beat_first (Some p) None r h = h
  both_beat_first (Some p) (Some q) r h =
      elim (comes_before p q) as (λ b. comes_before p q ≡ b → comes_before (cond b p q) r ≡ true) [ true ↦ λ e. h | false ↦ λ e. before_all q p r (before_or_after p q e) h ] refl

  both_beat_second : (o s : Option Sequence) (r : Sequence) → Beats s r → Beats (best_of_both o s) r
  both_beat_second None s r h = h
  both_beat_second (Some p) s r h = better_beats p s r h

  best_at_beats : (us : List ℕ) (p : ℕ) (blocks : List ℕ) (b : ℕ) → is_among blocks b ≡ true → Beats (best_at matches p us blocks) (reach_of matches p b us)
  best_at_beats us p [] b h = cc
  best_at_beats us p (c ∷ blocks) b h =
      elim (either (nat_eq c b) (is_among blocks b) h) [
        | inl same ↦ (let e : c ≡ b = equal c b same in subst (λ x. Beats (better (reach_of matches p c us) (best_at matches p us blocks)) (reach_of matches p x us)) e (better_beats_own (reach_of matches p c us) _))
        | inr later ↦ better_beats (reach_of matches p c us) _ _ (best_at_beats us p blocks b later)
      ]

  longer_before : (p q : Sequence) → q.length ≤ p.length → p.first ≡ q.first → p.block ≡ q.block → comes_before p q ≡ true
  longer_before p q h f b = grind (arith, nat_tests)

  beats_more : (o : Option Sequence) (p r : Sequence) → Beats o p → comes_before p r ≡ true → Beats o r
  beats_more None p r h g = absurd h
  beats_more (Some q) p r h g = before_all q p r h g

  best_of_beats : (blocks : List ℕ) → ((p b : ℕ) → matches p b ≡ true → is_among blocks b ≡ true) → (us : List ℕ) (n : ℕ) → Rising n us
      → (r : Sequence) → 0 < r.length → Holds us r.first r.block r.length → Beats (best_of matches blocks us) r
  best_of_beats blocks covered [] n a r h s = let none : false ≡ true = s 0 h in cc
  best_of_beats blocks covered (u ∷ us) n a r h s =
      let first = and_both (is_among (u ∷ us) r.first) (matches r.first r.block) (simp add-zero at (s 0 h)) in
      elim (either (nat_eq u r.first) (is_among us r.first) first.0) [
        | inl same ↦
            (let e : u ≡ r.first = equal u r.first same in
            let order : Rising u (u ∷ us) = (omega arith, a.1) in
            let own : Holds (u ∷ us) u r.block r.length = subst (λ x. Holds (u ∷ us) x r.block r.length) (sym e) s in
            let far : r.length ≤ reach matches u r.block (u ∷ us) = most (u ∷ us) u r.block r.length order own in
            let found = best_at_beats (u ∷ us) u blocks r.block (covered r.first r.block first.1) in
            both_beat_first _ _ r (beats_more _ (reach_of matches u r.block (u ∷ us)) r found (longer_before (reach_of matches u r.block (u ∷ us)) r far e refl)))
        | inr later ↦
            (let above : u + 1 ≤ r.first = among_above (u + 1) us a.1 r.first later in
            let rest : Holds us r.first r.block r.length = λ k below.
            (let parts = and_both (is_among (u ∷ us) (r.first + k)) (matches (r.first + k) (r.block + k)) (s k below) in
            let apart : nat_eq u (r.first + k) ≡ false = unequal u (r.first + k) (λ e. omega arith) in
            let there : is_among us (r.first + k) ≡ true = rw apart at parts.0 in
            both_and _ _ there parts.1) in
            both_beat_second (best_at matches u (u ∷ us) blocks) _ r (best_of_beats blocks covered us (u + 1) a.1 r h rest))
      ]

  -- ---- one pick

  module _ (threshold : ℕ) (positive : 0 < threshold) (blocks : List ℕ) (covered : (p b : ℕ) → matches p b ≡ true → is_among blocks b ≡ true) where
    best_is : (us : List ℕ) (n : ℕ) → Rising n us → (o : Option Sequence) → Sound us o → ((r : Sequence) → 0 < r.length → Holds us r.first r.block r.length → Beats o r)
        → (q : Sequence) → long_enough threshold o ≡ Some q → IsBest matches threshold us q
    best_is us n a None h beats q e = cc
    best_is us n a (Some p) h beats q e =
        elim (nat_le threshold p.length) as (λ b. nat_le threshold p.length ≡ b → cond b (Some p) None ≡ Some q → IsBest matches threshold us q) [
          | true ↦ λ t e.
              (let same : p ≡ q = cc in
              let enough : threshold ≤ p.length = grind (arith, nat_tests) in
              let some : 0 < p.length = omega arith in
              let own : IsBest matches threshold us p = record { sequence = (some, h); enough = enough; first = λ r g l. beats r g.0 g.1 } in
              subst (λ x. IsBest matches threshold us x) same own)
          | false ↦ λ t e. cc
        ] refl e

    none_is : (us : List ℕ) → (o : Option Sequence) → ((r : Sequence) → 0 < r.length → Holds us r.first r.block r.length → Beats o r)
        → long_enough threshold o ≡ None → (r : Sequence) → IsSequence matches us r → threshold ≤ r.length → ⊥
    none_is us None beats e r g l = beats r g.0 g.1
    none_is us (Some p) beats e r g l =
        (let before : comes_before p r ≡ true = beats r g.0 g.1 in
        let longer : r.length ≤ p.length = grind (arith, nat_tests) in
        let enough : nat_le threshold p.length ≡ true = grind (arith, nat_tests) in
        let found : long_enough threshold (Some p) ≡ Some p = rw enough refl in
        cc)

    -- ---- what is left

    rising_without : (us : List ℕ) (n : ℕ) (q : Sequence) → Rising n us → Rising n (without us q)
    rising_without [] n q a = tt
    rising_without (u ∷ us) n q a =
        elim (not (covers q u)) as (λ b. Rising n (cond b (u ∷ without us q) (without us q))) [
          | true ↦ (a.0, rising_without us (u + 1) q a.1)
          | false ↦ rising_from n (u + 1) (without us q) (omega arith) (rising_without us (u + 1) q a.1)
        ]

    no_longer : (us : List ℕ) (q : Sequence) → length (without us q) ≤ length us
    no_longer [] q = omega arith
    no_longer (u ∷ us) q =
        elim (not (covers q u)) as (λ b. length (cond b (u ∷ without us q) (without us q)) ≤ length (u ∷ us)) [ true ↦ omega (arith, no_longer us q) | false ↦ omega (arith, no_longer us q) ]

    shorter : (us : List ℕ) (q : Sequence) (x : ℕ) → is_among us x ≡ true → covers q x ≡ true → length (without us q) < length us
    shorter [] q x h g = cc
    shorter (u ∷ us) q x h g =
        elim (either (nat_eq u x) (is_among us x) h) [
          | inl same ↦
              (let e : u ≡ x = equal u x same in
              let covered_too : covers q u ≡ true = rw e g in
              let out : length (without (u ∷ us) q) ≡ length (without us q) = rw covered_too refl in
              omega (arith, out, no_longer us q))
          | inr later ↦
              (let rest : length (without us q) < length us = shorter us q x later g in
              elim (not (covers q u)) as (λ b. length (cond b (u ∷ without us q) (without us q)) < length (u ∷ us)) [ true ↦ omega arith | false ↦ omega arith ])
        ]

    -- ---- all picks

    picks_are : (m : ℕ) (us : List ℕ) (n : ℕ) → Rising n us → length us ≤ m → Picks matches threshold us (picks matches threshold blocks m us)
    picks_are zero [] n a h = λ r g l. (let none : false ≡ true = g.1 0 g.0 in cc)
    picks_are zero (u ∷ us) n a h = absurd (omega arith)
    picks_are (suc m) us n a h =
        (let beats = λ (r : Sequence) (g : 0 < r.length) (s : Holds us r.first r.block r.length). best_of_beats blocks covered us n a r g s in
        elim (best matches threshold blocks us) as (λ o. best matches threshold blocks us ≡ o → Picks matches threshold us (with_value o [] (λ q. q ∷ picks matches threshold blocks m (without us q)))) [
          | None ↦ λ e. none_is us (best_of matches blocks us) beats e
          | Some q ↦ λ e.
              (let own : IsBest matches threshold us q = best_is us n a (best_of matches blocks us) (best_of_sound blocks us) beats q e in
              let first = and_both (is_among us q.first) (matches q.first q.block) (simp add-zero at (own.sequence.1 0 own.sequence.0)) in
              let inside : covers q q.first ≡ true = (let some : 0 < q.length = own.sequence.0 in grind (arith, nat_tests)) in
              let less : length (without us q) < length us = shorter us q q.first first.0 inside in
              (own, picks_are m (without us q) n (rising_without us n q a) (omega arith)))
        ] refl)

  -- ---- nothing else is picked

  same_sequence : (p q : Sequence) → (p.length ≡ q.length) × (p.first ≡ q.first) × (p.block ≡ q.block) → p ≡ q
  same_sequence p q e = λ i. record { first = e.1 i; length = e.0 i; block = e.2 i }

  one_best : (threshold : ℕ) (us : List ℕ) (p q : Sequence) → IsBest matches threshold us p → IsBest matches threshold us q → p ≡ q
  one_best threshold us p q g h = same_sequence p q (before_both p q (g.first q h.sequence h.enough) (h.first p g.sequence g.enough))

  pub one_way : (threshold : ℕ) (us : List ℕ) (ps qs : List Sequence) → Picks matches threshold us ps → Picks matches threshold us qs → ps ≡ qs
  one_way threshold us [] [] g h = refl
  one_way threshold us [] (q ∷ qs) g h = absurd (g q h.0.sequence h.0.enough)
  one_way threshold us (p ∷ ps) [] g h = absurd (h p g.0.sequence g.0.enough)
  one_way threshold us (p ∷ ps) (q ∷ qs) g h =
      (let same : p ≡ q = one_best threshold us p q g.0 h.0 in
      let there : Picks matches threshold (without us p) qs = subst (λ x. Picks matches threshold (without us x) qs) (sym same) h.1 in
      λ i. same i ∷ one_way threshold (without us p) ps qs g.1 there i)

  -- the function selects what the relation says
  pub select_is : (threshold : ℕ) → 0 < threshold → (blocks : List ℕ) → ((p b : ℕ) → matches p b ≡ true → is_among blocks b ≡ true)
      → (us : List ℕ) (n : ℕ) → Rising n us → IsSelection matches threshold us (select matches threshold blocks us)
  select_is threshold h blocks covered us n a =
      record { picked = picks matches threshold blocks (length us) us; one_by_one = picks_are threshold h blocks covered (length us) us n a (omega arith); sorted = refl }

  -- and nothing else is selected
  pub one_selection : (threshold : ℕ) (us : List ℕ) (xs ys : List Sequence) → IsSelection matches threshold us xs → IsSelection matches threshold us ys → xs ≡ ys
  one_selection threshold us xs ys g h = g.sorted ∙ ap by_place (one_way threshold us g.picked h.picked g.one_by_one h.one_by_one) ∙ sym h.sorted
