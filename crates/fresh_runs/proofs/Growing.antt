-- Lines that grow at their end.
use Rattle.std.proofs.Common.{◌≡◌, ◌≤◌, ℕ, zero, suc, ◌+◌, Bool, true, false, List, [], ◌∷◌, ◌++◌, map, refl, sym, ap, subst, ◌∙◌, append_assoc, arith}
use Rattle.std.specs.Prelude.{◌&&◌, Some, None, nat_eq}
use Rattle.std.proofs.lemmas.List.{append-nil, map-append}
use Rattle.std.proofs.lemmas.List.Concat.{flat_map-cons}
use Rattle.std.proofs.lemmas.Bool.Decides.{nat_tests}
use Rattle.place_words.specs.Different.{span}
use Rattle.tree_model.specs.declared.report.Line.{Line}
use Rattle.dirty_store.proofs.LastLaws.{last, with_last}
use Rattle.volume_model.specs.Laws.{AreLongest, continues}
use Rattle.volume_model.specs.Lines.{is_fresh, line_places, lines_places}
use Rattle.volume_model.specs.Places.{Spot, Places}
use Rattle.fresh_runs.specs.Inside.{AreFresh, AreStretches, goes_on, lengthened}

-- ---- the last line

pub last_none : (ls : List Line) (line : Line) → last ls ≡ None → goes_on ls line ≡ false
last_none [] line none = refl
last_none (l ∷ []) line none = cc
last_none (l ∷ s ∷ ls) line none = last_none (s ∷ ls) line none

pub last_some : (ls : List Line) (l line : Line) → last ls ≡ Some l → goes_on ls line ≡ continues l line
last_some [] l line is = cc
last_some (q ∷ []) l line is = let same : q ≡ l = cc in ap (λ (x : Line). continues x line) same
last_some (q ∷ s ∷ ls) l line is = last_some (s ∷ ls) l line is

pub lengthened_last : (more : ℕ) (ls : List Line) (l : Line) → last ls ≡ Some l → with_last (record l { length = l.length + more }) ls ≡ lengthened more ls
lengthened_last more [] l is = refl
lengthened_last more (q ∷ []) l is = let same : l ≡ q = cc in ap (λ (x : Line). let longer : Line = record x { length = x.length + more } in longer ∷ []) same
lengthened_last more (q ∷ s ∷ ls) l is = ap (λ (xs : List Line). q ∷ xs) (lengthened_last more (s ∷ ls) l is)

pub ends_there : (l line : Line) → continues l line ≡ true → (l.number ≡ line.number) × (l.place + l.length ≡ line.place) × (l.block + l.length ≡ line.block)
ends_there l line on = (grind (arith, nat_tests), grind (arith, nat_tests), grind (arith, nat_tests))

-- ---- places of a longer line

shifted : {A : Type 0} (f g : ℕ → A) (by : ℕ) → ((k : ℕ) → f (by + k) ≡ g k) → (from n : ℕ) → map f (span (by + from) n) ≡ map g (span from n)
shifted f g by same from zero = refl
shifted f g by same from (suc n) = (λ i. same from i ∷ map f (span (by + from + 1) n)) ∙ ap (λ (x : ℕ). g from ∷ map f (span x n)) (moved by from) ∙ ap (λ xs. g from ∷ xs) (shifted f g by same (from + 1) n)
  where
    moved : (a b : ℕ) → a + b + 1 ≡ a + (b + 1)
    moved a b = omega arith

pub span_append : (from a b : ℕ) → span from (a + b) ≡ span from a ++ span (from + a) b
span_append from zero b = ap (span from) (none_more b) ∙ ap (λ (x : ℕ). span x b) (more_none from)
  where
    none_more : (k : ℕ) → 0 + k ≡ k
    none_more k = omega arith

    more_none : (k : ℕ) → k ≡ k + 0
    more_none k = omega arith
span_append from (suc a) b = ap (span from) (one_out a b) ∙ ap (λ (xs : List ℕ). from ∷ xs) (span_append (from + 1) a b) ∙ ap (λ (x : ℕ). from ∷ (span (from + 1) a ++ span x b)) (one_in from a)
  where
    one_out : (m k : ℕ) → suc m + k ≡ suc (m + k)
    one_out m k = omega arith

    one_in : (m k : ℕ) → m + 1 + k ≡ m + suc k
    one_in m k = omega arith

pub longer_places : (l line : Line) → continues l line ≡ true → line_places (record l { length = l.length + line.length }) ≡ line_places l ++ line_places line
longer_places l line on =
    let ends = ends_there l line on in
    let same : (k : ℕ) → ((l.number, l.place + (l.length + k)), l.block + (l.length + k)) ≡ ((line.number, line.place + k), line.block + k) =
    λ k. (let p : l.place + (l.length + k) ≡ line.place + k = omega (arith, ends.1) in let b : l.block + (l.length + k) ≡ line.block + k = omega (arith, ends.2) in λ i. ((ends.0 i, p i), b i)) in
    let f : ℕ → Spot × ℕ = λ k. ((l.number, l.place + k), l.block + k) in
    let g : ℕ → Spot × ℕ = λ k. ((line.number, line.place + k), line.block + k) in
    ap (map f) (span_append 0 l.length line.length)
    ∙ map-append f (span 0 l.length) (span (0 + l.length) line.length)
    ∙ ap (λ (x : ℕ). map f (span 0 l.length) ++ map f (span x line.length)) (turned l.length)
    ∙ ap (λ (es : Places). map f (span 0 l.length) ++ es) (shifted f g l.length same 0 line.length)
  where
    turned : (n : ℕ) → 0 + n ≡ n + 0
    turned n = omega arith

lines_cons : (l : Line) (ls : List Line) → lines_places (l ∷ ls) ≡ line_places l ++ lines_places ls
lines_cons l ls = flat_map-cons line_places l ls

lines_one : (l : Line) → lines_places (l ∷ []) ≡ line_places l
lines_one l = lines_cons l [] ∙ append-nil (line_places l)

pub lines_longer : (ls : List Line) (line : Line) → goes_on ls line ≡ true → lines_places (lengthened line.length ls) ≡ lines_places ls ++ line_places line
lines_longer [] line on = cc
lines_longer (l ∷ []) line on = lines_one (record l { length = l.length + line.length }) ∙ longer_places l line on ∙ ap (λ (es : Places). es ++ line_places line) (sym (lines_one l))
lines_longer (l ∷ s ∷ ls) line on =
    lines_cons l (lengthened line.length (s ∷ ls)) ∙ ap (λ (es : Places). line_places l ++ es) (lines_longer (s ∷ ls) line on)
    ∙ sym (append_assoc (line_places l) (lines_places (s ∷ ls)) (line_places line)) ∙ ap (λ (es : Places). es ++ line_places line) (sym (lines_cons l (s ∷ ls)))

pub lines_more : (ls : List Line) (line : Line) → lines_places (ls ++ line ∷ []) ≡ lines_places ls ++ line_places line
lines_more [] line = lines_one line
lines_more (l ∷ ls) line =
    lines_cons l (ls ++ line ∷ []) ∙ ap (λ (es : Places). line_places l ++ es) (lines_more ls line)
    ∙ sym (append_assoc (line_places l) (lines_places ls) (line_places line)) ∙ ap (λ (es : Places). es ++ line_places line) (sym (lines_cons l ls))

-- ---- stretches

fresh_longer : (more : ℕ) (ls : List Line) → AreFresh ls → AreFresh (lengthened more ls)
fresh_longer more [] are = tt
fresh_longer more (l ∷ []) are = let some = are.1 in (are.0, omega (arith, some), tt)
fresh_longer more (l ∷ s ∷ ls) are = (are.0, are.1, fresh_longer more (s ∷ ls) are.2)

longest_longer : (more : ℕ) (ls : List Line) → AreLongest ls → AreLongest (lengthened more ls)
longest_longer more [] are = tt
longest_longer more (l ∷ []) are = tt
longest_longer more (l ∷ s ∷ []) are = (are.0, tt)
longest_longer more (l ∷ s ∷ t ∷ ls) are = (are.0, longest_longer more (s ∷ t ∷ ls) are.1)

pub stretches_longer : (more : ℕ) (ls : List Line) → AreStretches ls → AreStretches (lengthened more ls)
stretches_longer more ls are = record { fresh = fresh_longer more ls are.fresh; longest = longest_longer more ls are.longest }

fresh_more : (ls : List Line) (line : Line) → is_fresh line ≡ true → 1 ≤ line.length → AreFresh ls → AreFresh (ls ++ line ∷ [])
fresh_more [] line fresh some are = (fresh, some, tt)
fresh_more (l ∷ ls) line fresh some are = (are.0, are.1, fresh_more ls line fresh some are.2)

longest_more : (ls : List Line) (line : Line) → goes_on ls line ≡ false → AreLongest ls → AreLongest (ls ++ line ∷ [])
longest_more [] line off are = tt
longest_more (l ∷ []) line off are = (off, tt)
longest_more (l ∷ s ∷ ls) line off are = (are.0, longest_more (s ∷ ls) line off are.1)

pub stretches_more : (ls : List Line) (line : Line) → is_fresh line ≡ true → 1 ≤ line.length → goes_on ls line ≡ false → AreStretches ls → AreStretches (ls ++ line ∷ [])
stretches_more ls line fresh some off are = record { fresh = fresh_more ls line fresh some are.fresh; longest = longest_more ls line off are.longest }
