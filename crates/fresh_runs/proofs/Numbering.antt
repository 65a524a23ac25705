-- Numbers whose spots get their blocks one after the other.
use Rattle.std.proofs.Common.{◌≡◌, ◌≤◌, ◌<◌, ℕ, zero, suc, ◌+◌, Bool, true, false, cond, List, [], ◌∷◌, ◌++◌, length, map, filter, take, get_or, refl, sym, ap, subst, ◌∙◌, arith}
use Rattle.std.specs.Prelude.{nat_eq}
use Rattle.std.proofs.lemmas.Bool.Decides.{nat_tests}
use Rattle.std.proofs.lemmas.List.{append-nil, map-append, length-append, length-map}
use Rattle.std.proofs.lemmas.List.Concat.{flat_map-cons}
use Rattle.std.proofs.lemmas.List.Folds.{length-flat_map-take}
use Rattle.std.proofs.lemmas.Grind.{flat_map-append}
use Rattle.vol_numbers.specs.declared.runs.Change.{Change}
use Rattle.place_words.specs.Rising.{Rising, AllUnder}
use Rattle.run_allocator.specs.Runs.{Ascends}
use Rattle.tree_model.specs.declared.report.Line.{Line}
use Rattle.volume_model.specs.Lines.{lines_places}
use Rattle.volume_model.specs.Places.{Spot, Places}
use Rattle.volume_model.specs.Point.{placed_at}
use Rattle.fresh_runs.specs.Fresh.{as_changes, changes_of, left_after, lengths_at, run_lengths, spots_at, taken_for}
use Rattle.fresh_runs.specs.Inside.{Adds, ArePlaced, AreStretches, spots_by}
use Rattle.fresh_runs.proofs.Adding.{placed_append}
use Rattle.fresh_runs.proofs.Parting.{all_append, in_all, left_append, parted_for, taken_append}
use Rattle.fresh_runs.proofs.RunsOf.{lengths_many}

-- ---- spots and entries of one number, and of lower ones

abbrev SpotsOf : ℕ → List Spot → Type 0
SpotsOf n [] = Unit {0}
SpotsOf n (s ∷ ss) = (s.0 ≡ n) × SpotsOf n ss

abbrev SpotsUnder : ℕ → List Spot → Type 0
SpotsUnder n [] = Unit {0}
SpotsUnder n (s ∷ ss) = (s.0 < n) × SpotsUnder n ss

abbrev AreOf : ℕ → Places → Type 0
AreOf n [] = Unit {0}
AreOf n (e ∷ es) = (e.0.0 ≡ n) × AreOf n es

abbrev AreUnder : ℕ → Places → Type 0
AreUnder n [] = Unit {0}
AreUnder n (e ∷ es) = (e.0.0 < n) × AreUnder n es

at_number : (n : ℕ) (ss : List Spot) → SpotsOf n (spots_at ss n)
at_number n [] = tt
at_number n (s ∷ ss) = by (nat_eq s.0 n) refl (at_number n ss)
  where
    by : (t : Bool) → nat_eq s.0 n ≡ t → SpotsOf n (spots_at ss n) → SpotsOf n (cond t (s ∷ spots_at ss n) (spots_at ss n))
    by true is later = (let same : s.0 ≡ n = grind (arith, nat_tests) in same, later)
    by false is later = later

of_under : (k n : ℕ) (ss : List Spot) → k < n → SpotsOf k ss → SpotsUnder n ss
of_under k n [] less of = tt
of_under k n (s ∷ ss) less of = (omega (arith, less, of.0), of_under k n ss less of.1)

under_append : (n : ℕ) (ss ts : List Spot) → SpotsUnder n ss → SpotsUnder n ts → SpotsUnder n (ss ++ ts)
under_append n [] ts one two = two
under_append n (s ∷ ss) ts one two = (one.0, under_append n ss ts one.1 two)

by_under : (n : ℕ) (ss : List Spot) (ns : List ℕ) → AllUnder n ns → SpotsUnder n (spots_by ss ns)
by_under n ss [] under = tt
by_under n ss (k ∷ ks) under =
    subst (SpotsUnder n) (sym (flat_map-cons (spots_at ss) k ks)) (under_append n (spots_at ss k) (spots_by ss ks) (of_under k n (spots_at ss k) under.0 (at_number k ss)) (by_under n ss ks under.1))

placed_of : (n : ℕ) (ss : List Spot) (bs : List ℕ) → SpotsOf n ss → AreOf n (placed_at ss bs)
placed_of n [] bs of = tt
placed_of n (s ∷ ss) [] of = tt
placed_of n (s ∷ ss) (b ∷ bs) of = (of.0, placed_of n ss bs of.1)

placed_under : (n : ℕ) (ss : List Spot) (bs : List ℕ) → SpotsUnder n ss → AreUnder n (placed_at ss bs)
placed_under n [] bs under = tt
placed_under n (s ∷ ss) [] under = tt
placed_under n (s ∷ ss) (b ∷ bs) under = (under.0, placed_under n ss bs under.1)

-- ---- their changes

abbrev pub one_change : Spot × ℕ → Change
one_change e = record { place = e.0.1; block = e.1 }

pub changes_cons : (e : Spot × ℕ) (es : Places) (n : ℕ) (t : Bool) → nat_eq e.0.0 n ≡ t → changes_of (e ∷ es) n ≡ cond t (one_change e ∷ changes_of es n) (changes_of es n)
changes_cons e es n t is = ap (λ (u : Bool). as_changes (cond u (e ∷ filter (λ e. nat_eq e.0.0 n) es) (filter (λ e. nat_eq e.0.0 n) es))) is ∙ by t
  where
    by : (t : Bool) → as_changes (cond t (e ∷ filter (λ e. nat_eq e.0.0 n) es) (filter (λ e. nat_eq e.0.0 n) es)) ≡ cond t (one_change e ∷ changes_of es n) (changes_of es n)
    by true = refl
    by false = refl

under_none : (n : ℕ) (es : Places) → AreUnder n es → changes_of es n ≡ []
under_none n [] under = refl
under_none n (e ∷ es) under = changes_cons e es n false (let first = under.0 in grind (arith, nat_tests)) ∙ under_none n es under.1

of_all : (n : ℕ) (es : Places) → AreOf n es → changes_of es n ≡ as_changes es
of_all n [] of = refl
of_all n (e ∷ es) of = changes_cons e es n true (let first = of.0 in grind (arith, nat_tests)) ∙ ap (λ (cs : List Change). one_change e ∷ cs) (of_all n es of.1)

of_other : (n m : ℕ) (es : Places) → m < n → AreOf n es → changes_of es m ≡ []
of_other n m [] less of = refl
of_other n m (e ∷ es) less of = changes_cons e es m false (let first = of.0 in grind (arith, nat_tests)) ∙ of_other n m es less of.1

of_append : (ps qs : Places) (n : ℕ) → changes_of (ps ++ qs) n ≡ changes_of ps n ++ changes_of qs n
of_append [] qs n = refl
of_append (p ∷ ps) qs n = by (nat_eq p.0.0 n) refl (of_append ps qs n)
  where
    by : (t : Bool) → nat_eq p.0.0 n ≡ t → changes_of (ps ++ qs) n ≡ changes_of ps n ++ changes_of qs n → changes_of (p ∷ (ps ++ qs)) n ≡ changes_of (p ∷ ps) n ++ changes_of qs n
    by true is later = changes_cons p (ps ++ qs) n true is ∙ ap (λ (cs : List Change). one_change p ∷ cs) later ∙ ap (λ (cs : List Change). cs ++ changes_of qs n) (sym (changes_cons p ps n true is))
    by false is later = changes_cons p (ps ++ qs) n false is ∙ later ∙ ap (λ (cs : List Change). cs ++ changes_of qs n) (sym (changes_cons p ps n false is))

changes_kept : (ns : List ℕ) (n : ℕ) (ps qs : Places) → AllUnder n ns → AreOf n qs → map (changes_of (ps ++ qs)) ns ≡ map (changes_of ps) ns
changes_kept [] n ps qs under of = refl
changes_kept (k ∷ ks) n ps qs under of =
    let own = of_append ps qs k ∙ ap (λ (cs : List Change). changes_of ps k ++ cs) (of_other n k qs under.0 of) ∙ append-nil (changes_of ps k) in
    let later = changes_kept ks n ps qs under.1 of in
    λ i. own i ∷ later i

-- ---- how many

pub lengths_by : (ss : List Spot) (ns : List ℕ) → in_all (run_lengths ss ns) ≡ length (spots_by ss ns)
lengths_by ss [] = refl
lengths_by ss (n ∷ ns) =
    let own : in_all (lengths_at ss n) ≡ length (spots_at ss n) = lengths_many (map (λ (s : Spot). s.1) (spots_at ss n)) ∙ length-map (spots_at ss n) (λ (s : Spot). s.1) in
    ap in_all (flat_map-cons (lengths_at ss) n ns) ∙ all_append (lengths_at ss n) (run_lengths ss ns)
    ∙ (λ i. own i + lengths_by ss ns i) ∙ sym (ap (λ (xs : List Spot). length xs) (flat_map-cons (spots_at ss) n ns) ∙ length-append (spots_at ss n) (spots_by ss ns))

by_more : (ss : List Spot) (ns : List ℕ) (n : ℕ) → spots_by ss (ns ++ n ∷ []) ≡ spots_by ss ns ++ spots_at ss n
by_more ss ns n = flat_map-append (spots_at ss) ns (n ∷ []) ∙ ap (λ (xs : List Spot). spots_by ss ns ++ xs) (flat_map-cons (spots_at ss) n [] ∙ append-nil (spots_at ss n))

lengths_more : (ss : List Spot) (ns : List ℕ) (n : ℕ) → run_lengths ss (ns ++ n ∷ []) ≡ run_lengths ss ns ++ lengths_at ss n
lengths_more ss ns n = flat_map-append (lengths_at ss) ns (n ∷ []) ∙ ap (λ (xs : List ℕ). run_lengths ss ns ++ xs) (flat_map-cons (lengths_at ss) n [] ∙ append-nil (lengths_at ss n))

-- ---- a number more

pub no_numbers : (ss : List Spot) (free : List ℕ) → ArePlaced ss free [] [] free []
no_numbers ss free = record { places = refl; stretches = record { fresh = tt; longest = tt }; left = refl; changes = refl }

more_places : (ss : List Spot) (free ns : List ℕ) (n : ℕ) → length (taken_for free (run_lengths ss ns)) ≡ length (spots_by ss ns)
    → placed_at (spots_by ss (ns ++ n ∷ [])) (taken_for free (run_lengths ss (ns ++ n ∷ [])))
    ≡ placed_at (spots_by ss ns) (taken_for free (run_lengths ss ns)) ++ placed_at (spots_at ss n) (taken_for (left_after free (run_lengths ss ns)) (lengths_at ss n))
more_places ss free ns n many =
    let spots = by_more ss ns n in
    let blocks = ap (taken_for free) (lengths_more ss ns n) ∙ taken_append free (run_lengths ss ns) (lengths_at ss n) in
    (λ i. placed_at (spots i) (blocks i)) ∙ placed_append (spots_by ss ns) (spots_at ss n) (taken_for free (run_lengths ss ns)) (taken_for (left_after free (run_lengths ss ns)) (lengths_at ss n)) many

pub one_number : (ss : List Spot) (free ns : List ℕ) (n : ℕ) (rest after : List ℕ) (one two : List Line) (each : List (List Change)) (own : List Change)
    → Ascends 1 free → length (spots_by ss ns) ≤ length free → AllUnder n ns → ArePlaced ss free ns one rest each
    → Adds (spots_at ss n) (taken_for rest (lengths_at ss n)) one two [] own → after ≡ left_after rest (lengths_at ss n) → ArePlaced ss free (ns ++ n ∷ []) two after (each ++ own ∷ [])
one_number ss free ns n rest after one two each own up enough under placed step is =
    let many : length (taken_for free (run_lengths ss ns)) ≡ length (spots_by ss ns) =
    (parted_for free (run_lengths ss ns) up (omega (arith, lengths_by ss ns, enough))).many ∙ lengths_by ss ns in
    let ps = placed_at (spots_by ss ns) (taken_for free (run_lengths ss ns)) in
    let qs = placed_at (spots_at ss n) (taken_for rest (lengths_at ss n)) in
    let lines : lines_places two ≡ ps ++ qs = step.lines ∙ ap (λ (es : Places). es ++ qs) placed.places in
    let of = placed_of n (spots_at ss n) (taken_for rest (lengths_at ss n)) (at_number n ss) in
    let none = under_none n ps (placed_under n (spots_by ss ns) (taken_for free (run_lengths ss ns)) (by_under n ss ns under)) in
    let kept : map (changes_of (lines_places two)) ns ≡ each = ap (λ (es : Places). map (changes_of es) ns) lines ∙ changes_kept ns n ps qs under of ∙ sym (placed.changes ∙ ap (λ (es : Places). map (changes_of es) ns) placed.places) in
    let new : changes_of (lines_places two) n ≡ own = ap (λ (es : Places). changes_of es n) lines ∙ of_append ps qs n ∙ ap (λ (cs : List Change). cs ++ changes_of qs n) none ∙ of_all n qs of ∙ sym step.changes in
    record {
      places = lines ∙ ap (λ (xs : List ℕ). ps ++ placed_at (spots_at ss n) (taken_for xs (lengths_at ss n))) placed.left ∙ sym (more_places ss free ns n many);
      stretches = step.stretches placed.stretches;
      left = is ∙ ap (λ (xs : List ℕ). left_after xs (lengths_at ss n)) placed.left ∙ sym (ap (left_after free) (lengths_more ss ns n) ∙ left_append free (run_lengths ss ns) (lengths_at ss n));
      changes = sym (map-append (changes_of (lines_places two)) ns (n ∷ []) ∙ (λ i. kept i ++ new i ∷ []));
    }

-- ---- rising numbers

pub rising_under : (least : ℕ) (ns : List ℕ) (i d : ℕ) → Rising least ns → i < length ns → AllUnder (get_or ns i d) (take i ns) × (least ≤ get_or ns i d)
rising_under least [] i d rise lt = absurd (omega (arith, lt))
rising_under least (n ∷ ns) zero d rise lt = (tt, rise.0)
rising_under least (n ∷ ns) (suc i) d rise lt =
    let later = rising_under (n + 1) ns i d rise.1 (omega (arith, lt)) in
    ((omega (arith, later.1), later.0), omega (arith, later.1, rise.0))

-- What holds before the next number gets its blocks.
pub record HasRoomFor (ss : List Spot) (free numbers : List ℕ) (i : ℕ) : Type 0 where
  pub before : length (spots_by ss (take i numbers)) ≤ length free
  pub under : AllUnder (get_or numbers i 0) (take i numbers)
  pub ascends : Ascends 1 (left_after free (run_lengths ss (take i numbers)))
  pub enough : length (spots_at ss (get_or numbers i 0)) ≤ length (left_after free (run_lengths ss (take i numbers)))

pub room_for : (ss : List Spot) (free numbers : List ℕ) (i : ℕ) → spots_by ss numbers ≡ ss → Rising 0 numbers → Ascends 1 free → length ss ≤ length free → i < length numbers → HasRoomFor ss free numbers i
room_for ss free numbers i all rise up enough lt =
    let part = length-flat_map-take (spots_at ss) numbers i 0 lt in
    let whole = ap (λ (xs : List Spot). length xs) all in
    let many = lengths_by ss (take i numbers) in
    let parted = parted_for free (run_lengths ss (take i numbers)) up (omega (arith, part, whole, many, enough)) in
    record {
      before = omega (arith, part, whole, enough);
      under = (rising_under 0 numbers i 0 rise lt).0;
      ascends = parted.ascends;
      enough = omega (arith, part, whole, many, enough, parted.fewer);
    }
