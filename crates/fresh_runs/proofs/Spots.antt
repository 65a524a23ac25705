-- Spots, number by number.
use Rattle.std.proofs.Common.{◌≡◌, ◌≤◌, ◌<◌, ℕ, zero, suc, ◌+◌, Bool, true, false, cond, List, [], ◌∷◌, ◌++◌, length, map, filter, take, get_or, refl, sym, ap, subst, ◌∙◌, arith}
use Rattle.std.specs.Prelude.{◌&&◌, ◌||◌, nat_eq, nat_lt, not}
use Rattle.std.proofs.lemmas.Bool.Decides.{nat_tests}
use Rattle.std.proofs.lemmas.List.{map-append}
use Rattle.std.proofs.lemmas.List.Concat.{flat_map-cons}
use Rattle.std.specs.Ordering.{is_lt}
use Rattle.std.specs.FinMap.{is_sorted}
use Rattle.std.specs.FinMap.Entries.{below_all}
use Rattle.vol_numbers.specs.declared.block.Block.{Block}
use Rattle.vol_numbers.specs.declared.runs.Run.{Run}
use Rattle.place_words.specs.Different.{is_among, span}
use Rattle.place_words.specs.Rising.{Rising, AllUnder}
use Rattle.volume_model.specs.Places.{Spot, Places, spot_cmp, spot_eq, has_spot}
use Rattle.volume_model.specs.Point.{placed_at}
use Rattle.volume_model.proofs.Order.{first_of, second_of, spot_less}
use Rattle.dirty_store.specs.Entries.{Entries, AreWithin}
use Rattle.dirty_store.specs.Overlay.{dirty_places}
use Rattle.dirty_store.specs.Runs.{places_in}
use Rattle.fresh_runs.specs.Fresh.{AreNumbersOf, spots_at}
use Rattle.fresh_runs.specs.Inside.{spots_by, spots_from, spots_in}

-- ---- the spots of one number

at_cons : (s : Spot) (ss : List Spot) (n : ℕ) (t : Bool) → nat_eq s.0 n ≡ t → spots_at (s ∷ ss) n ≡ cond t (s ∷ spots_at ss n) (spots_at ss n)
at_cons s ss n t is = ap (λ (u : Bool). cond u (s ∷ spots_at ss n) (spots_at ss n)) is

pub spots_again : (ss : List Spot) (number : ℕ) → map (λ p. (number, p)) (map (λ (s : Spot). s.1) (spots_at ss number)) ≡ spots_at ss number
spots_again [] number = refl
spots_again (s ∷ ss) number = by (nat_eq s.0 number) refl (spots_again ss number)
  where
    by : (t : Bool) → nat_eq s.0 number ≡ t → map (λ p. (number, p)) (map (λ (s : Spot). s.1) (spots_at ss number)) ≡ spots_at ss number
        → map (λ p. (number, p)) (map (λ (s : Spot). s.1) (cond t (s ∷ spots_at ss number) (spots_at ss number))) ≡ cond t (s ∷ spots_at ss number) (spots_at ss number)
    by true is later = let same : number ≡ s.0 = grind (arith, nat_tests) in λ i. (same i, s.1) ∷ later i
    by false is later = later

pub places_are : {T : Type 0} (entries : Entries T) (number : ℕ) → dirty_places entries number ≡ map (λ (s : Spot). s.1) (spots_at (map (λ e. e.0) entries) number)
places_are [] number = refl
places_are {T} (e ∷ es) number = by (nat_eq e.0.0 number) (places_are es number)
  where
    by : (t : Bool) → dirty_places es number ≡ map (λ (s : Spot). s.1) (spots_at (map (λ e. e.0) es) number)
        → map (λ e. e.0.1) (cond t (e ∷ filter (λ e. nat_eq e.0.0 number) es) (filter (λ e. nat_eq e.0.0 number) es)) ≡ map (λ (s : Spot). s.1) (cond t (e.0 ∷ spots_at (map (λ e. e.0) es) number) (spots_at (map (λ e. e.0) es) number))
    by true later = ap (λ (xs : List ℕ). e.0.1 ∷ xs) later
    by false later = later

pub places_under : {T : Type 0} (entries : Entries T) (number : ℕ) → AreWithin entries → AllUnder 1048576 (dirty_places entries number)
places_under [] number within = tt
places_under {T} (e ∷ es) number within = by (nat_eq e.0.0 number) (places_under es number within.1)
  where
    by : (t : Bool) → AllUnder 1048576 (dirty_places es number) → AllUnder 1048576 (map (λ e. e.0.1) (cond t (e ∷ filter (λ e. nat_eq e.0.0 number) es) (filter (λ e. nat_eq e.0.0 number) es)))
    by true later = (within.0, later)
    by false later = later

pub runs_spots : (number : ℕ) (runs : List Run) → spots_in number runs ≡ map (λ p. (number, p)) (places_in runs)
runs_spots number [] = refl
runs_spots number (r ∷ rs) =
    let pair : ℕ → Spot = λ p. (number, p) in
    flat_map-cons (λ (r : Run). spots_from number r.first r.length) r rs ∙ ap (λ (ss : List Spot). spots_from number r.first r.length ++ ss) (runs_spots number rs)
    ∙ sym (map-append pair (span r.first r.length) (places_in rs)) ∙ ap (map pair) (sym (flat_map-cons (λ (q : Run). span q.first q.length) r rs))

-- ---- all spots

-- the numbers never fall, from one on
abbrev pub Climb : ℕ → List Spot → Type 0
Climb least [] = Unit {0}
Climb least (s ∷ ss) = (least ≤ s.0) × Climb s.0 ss

abbrev AllAmong : List ℕ → List Spot → Type 0
AllAmong numbers [] = Unit {0}
AllAmong numbers (s ∷ ss) = (is_among numbers s.0 ≡ true) × AllAmong numbers ss

less_number : (s t : Spot) → is_lt (spot_cmp s t) ≡ true → s.0 ≤ t.0
less_number s t less = let l = spot_less s t less in grind (arith, nat_tests)

climb_from : {T : Type 0} (s : Spot) (es : Entries T) → below_all spot_cmp s es ≡ true → is_sorted spot_cmp es ≡ true → Climb s.0 (map (λ e. e.0) es)
climb_from s [] below sorted = tt
climb_from s (e ∷ es) below sorted = (less_number s e.0 (first_of _ _ below), climb_from e.0 es (first_of _ _ sorted) (second_of _ _ sorted))

pub climbs : {T : Type 0} (es : Entries T) → is_sorted spot_cmp es ≡ true → Climb 0 (map (λ e. e.0) es)
climbs [] sorted = tt
climbs (e ∷ es) sorted = (omega arith, climb_from e.0 es (first_of _ _ sorted) (second_of _ _ sorted))

own_spot : (s : Spot) (ss : List Spot) → has_spot (s ∷ ss) s ≡ true
own_spot s ss = ap (λ (t : Bool). t || has_spot ss s) (let t : spot_eq s s ≡ true = grind (arith, nat_tests) in t)

later_spot : (s t : Spot) (ss : List Spot) → has_spot ss t ≡ true → has_spot (s ∷ ss) t ≡ true
later_spot s t ss has = ap (λ (u : Bool). spot_eq s t || u) has ∙ or_true (spot_eq s t)
  where
    or_true : (u : Bool) → (u || true) ≡ true
    or_true true = refl
    or_true false = refl

all_among : (numbers : List ℕ) (ss : List Spot) → ((s : Spot) → has_spot ss s ≡ true → is_among numbers s.0 ≡ true) → AllAmong numbers ss
all_among numbers [] each = tt
all_among numbers (s ∷ ss) each = (each s (own_spot s ss), all_among numbers ss (λ t has. each t (later_spot s t ss has)))

-- the spots of other numbers
abbrev others : List Spot → ℕ → List Spot
others spots n = filter (λ (s : Spot). not (nat_eq s.0 n)) spots

above_none : (n : ℕ) (ss : List Spot) → Climb (n + 1) ss → (spots_at ss n ≡ []) × (others ss n ≡ ss)
above_none n [] climb = (refl, refl)
above_none n (s ∷ ss) climb =
    let apart : nat_eq s.0 n ≡ false = (let first = climb.0 in grind (arith, nat_tests)) in
    let later = above_none n ss (lower s.0 ss (omega (arith, climb.0)) climb.1) in
    (ap (λ (t : Bool). cond t (s ∷ spots_at ss n) (spots_at ss n)) apart ∙ later.0, ap (λ (t : Bool). cond (not t) (s ∷ others ss n) (others ss n)) apart ∙ ap (λ (xs : List Spot). s ∷ xs) later.1)
  where
    lower : (k : ℕ) (xs : List Spot) → n + 1 ≤ k → Climb k xs → Climb (n + 1) xs
    lower k [] le c = tt
    lower k (x ∷ xs) le c = (omega (arith, le, c.0), c.1)

-- the spots of the least number come first
parted : (n : ℕ) (ss : List Spot) → Climb n ss → (spots_at ss n ++ others ss n ≡ ss) × Climb (n + 1) (others ss n)
parted n [] climb = (refl, tt)
parted n (s ∷ ss) climb = by (nat_eq s.0 n) refl (λ c. parted n ss c)
  where
    by : (t : Bool) → nat_eq s.0 n ≡ t → (Climb n ss → (spots_at ss n ++ others ss n ≡ ss) × Climb (n + 1) (others ss n))
        → (cond t (s ∷ spots_at ss n) (spots_at ss n) ++ cond (not t) (s ∷ others ss n) (others ss n) ≡ s ∷ ss) × Climb (n + 1) (cond (not t) (s ∷ others ss n) (others ss n))
    by true is later =
        let same : s.0 ≡ n = grind (arith, nat_tests) in
        let rest = later (subst (λ (k : ℕ). Climb k ss) same climb.1) in
        (ap (λ (xs : List Spot). s ∷ xs) rest.0, rest.1)
    by false is later =
        let above : n + 1 ≤ s.0 = (let first = climb.0 in grind (arith, nat_tests)) in
        let none = above_none n (s ∷ ss) (above, climb.1) in
        let own = ap (λ (t : Bool). cond t (s ∷ spots_at ss n) (spots_at ss n)) is in
        let other = ap (λ (t : Bool). cond (not t) (s ∷ others ss n) (others ss n)) is in
        let empty : spots_at ss n ≡ [] = sym own ∙ none.0 in
        let whole : s ∷ others ss n ≡ s ∷ ss = sym other ∙ none.1 in
        ((λ i. empty i ++ whole i), subst (λ (xs : List Spot). Climb (n + 1) xs) (sym whole) (above, climb.1))

same_at : (n m : ℕ) (ss : List Spot) → n < m → spots_at ss m ≡ spots_at (others ss n) m
same_at n m [] less = refl
same_at n m (s ∷ ss) less = by (nat_eq s.0 n) (nat_eq s.0 m) refl refl (same_at n m ss less)
  where
    by : (t u : Bool) → nat_eq s.0 n ≡ t → nat_eq s.0 m ≡ u → spots_at ss m ≡ spots_at (others ss n) m
        → cond u (s ∷ spots_at ss m) (spots_at ss m) ≡ spots_at (cond (not t) (s ∷ others ss n) (others ss n)) m
    by true true is also later = absurd (let a : s.0 ≡ n = grind (arith, nat_tests) in let b : s.0 ≡ m = grind (arith, nat_tests) in omega (arith, a, b, less))
    by true false is also later = later
    by false true is also later = ap (λ (xs : List Spot). s ∷ xs) later ∙ sym (at_cons s (others ss n) m true also)
    by false false is also later = later ∙ sym (at_cons s (others ss n) m false also)

by_cons : (ss : List Spot) (n : ℕ) (ns : List ℕ) → spots_by ss (n ∷ ns) ≡ spots_at ss n ++ spots_by ss ns
by_cons ss n ns = flat_map-cons (spots_at ss) n ns

same_by : (n m : ℕ) (ns : List ℕ) (ss : List Spot) → n < m → Rising m ns → spots_by ss ns ≡ spots_by (others ss n) ns
same_by n m [] ss less rise = refl
same_by n m (k ∷ ks) ss less rise =
    let first = same_at n k ss (omega (arith, less, rise.0)) in
    let later = same_by n (k + 1) ks ss (omega (arith, less, rise.0)) rise.1 in
    by_cons ss k ks ∙ (λ i. first i ++ later i) ∙ sym (by_cons (others ss n) k ks)

among_others : (n : ℕ) (ns : List ℕ) (ss : List Spot) → AllAmong (n ∷ ns) ss → AllAmong ns (others ss n)
among_others n ns [] all = tt
among_others n ns (s ∷ ss) all = by (nat_eq s.0 n) refl (among_others n ns ss all.1)
  where
    by : (t : Bool) → nat_eq s.0 n ≡ t → AllAmong ns (others ss n) → AllAmong ns (cond (not t) (s ∷ others ss n) (others ss n))
    by true is later = later
    by false is later =
        let apart : nat_eq n s.0 ≡ false = grind (arith, nat_tests) in
        (sym (ap (λ (t : Bool). t || is_among ns s.0) apart) ∙ all.0, later)

rising_least : (least n : ℕ) (ns : List ℕ) → Rising least ns → is_among ns n ≡ true → least ≤ n
rising_least least n [] rise among = cc
rising_least least n (k ∷ ks) rise among = by (nat_eq k n) refl (λ later. rising_least (k + 1) n ks rise.1 later) among
  where
    by : (t : Bool) → nat_eq k n ≡ t → (is_among ks n ≡ true → k + 1 ≤ n) → (t || is_among ks n) ≡ true → least ≤ n
    by true is later among = let same : k ≡ n = grind (arith, nat_tests) in omega (arith, same, rise.0)
    by false is later among = omega (arith, later among, rise.0)

-- the first number is no more than that of each spot
from_first : (least n : ℕ) (ns : List ℕ) (ss : List Spot) → Rising least (n ∷ ns) → Climb least ss → AllAmong (n ∷ ns) ss → Climb n ss
from_first least n ns [] rise climb all = tt
from_first least n ns (s ∷ ss) rise climb all = (rising_least n s.0 (n ∷ ns) (omega arith, rise.1) all.0, climb.1)

all_by : (least : ℕ) (ns : List ℕ) (ss : List Spot) → Rising least ns → Climb least ss → AllAmong ns ss → spots_by ss ns ≡ ss
all_by least [] [] rise climb all = refl
all_by least [] (s ∷ ss) rise climb all = cc
all_by least (n ∷ ns) ss rise climb all =
    let parts = parted n ss (from_first least n ns ss rise climb all) in
    let later = all_by (n + 1) ns (others ss n) rise.1 parts.1 (among_others n ns ss all) in
    by_cons ss n ns ∙ ap (λ (xs : List Spot). spots_at ss n ++ xs) (same_by n (n + 1) ns ss (omega arith) rise.1 ∙ later) ∙ parts.0

-- Spots in order are those of their numbers, number by number.
pub spots_all : {T : Type 0} (es : Entries T) (numbers : List ℕ) → is_sorted spot_cmp es ≡ true → AreNumbersOf (map (λ e. e.0) es) numbers → spots_by (map (λ e. e.0) es) numbers ≡ map (λ e. e.0) es
spots_all es numbers sorted are = all_by 0 numbers (map (λ e. e.0) es) are.rise (climbs es sorted) (all_among numbers (map (λ e. e.0) es) are.each)
