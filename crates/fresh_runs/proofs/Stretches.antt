-- Lines that are stretches are the fresh lines of their places.
use Rattle.std.proofs.Common.{◌≡◌, ◌≤◌, ℕ, zero, suc, ◌+◌, Bool, true, false, cond, List, [], ◌∷◌, ◌++◌, length, map, refl, sym, ap, subst, ◌∙◌, arith}
use Rattle.std.specs.Prelude.{◌&&◌, nat_eq, sum_by}
use Rattle.std.proofs.lemmas.Bool.Decides.{nat_tests}
use Rattle.std.proofs.lemmas.List.Concat.{flat_map-cons}
use Rattle.place_words.specs.Different.{span}
use Rattle.tree_model.specs.declared.report.Line.{Line}
use Rattle.tree_model.specs.declared.report.LineKind.{LineKind}
use Rattle.tree_model.specs.declared.report.LineKind.TheVariants.{Fresh, Share}
use Rattle.volume_model.specs.Laws.{AreLongest, continues}
use Rattle.volume_model.specs.Lines.{fresh_line, fresh_lines, goes_on, is_fresh, kind_is_fresh, line_places, lines_places, with_fresh}
use Rattle.volume_model.specs.Places.{Spot, Places}
use Rattle.fresh_runs.specs.Inside.{AreFresh, AreStretches}

-- no line begins at this spot and block
abbrev BeginsElsewhere : ℕ → ℕ → ℕ → List Line → Type 0
BeginsElsewhere number place block [] = Unit {0}
BeginsElsewhere number place block (l ∷ ls) = (nat_eq number l.number && nat_eq place l.place && nat_eq block l.block) ≡ false

abbrev line_from : ℕ → ℕ → ℕ → ℕ → Line
line_from number place block n = record { kind = Fresh; number = number; place = place; length = n; block = block }

one_alone : (number place block : ℕ) (ls : List Line) → BeginsElsewhere number (place + 1) (block + 1) ls → with_fresh ((number, place), block) ls ≡ line_from number place block 1 ∷ ls
one_alone number place block [] apart = refl
one_alone number place block (l ∷ ls) apart = ap (λ (t : Bool). cond t (fresh_line ((number, place), block) (l.length + 1) ∷ ls) (fresh_line ((number, place), block) 1 ∷ l ∷ ls)) apart

one_longer : (number place block n next after : ℕ) (ls : List Line) → place + 1 ≡ next → block + 1 ≡ after
    → with_fresh ((number, place), block) (line_from number next after n ∷ ls) ≡ line_from number place block (n + 1) ∷ ls
one_longer number place block n next after ls is same =
    ap (λ (t : Bool). cond t (line_from number place block (n + 1) ∷ ls) (line_from number place block 1 ∷ line_from number next after n ∷ ls))
    (let on : goes_on ((number, place), block) (line_from number next after n) ≡ true = grind (arith, nat_tests) in on)

stretch : (number place block from n : ℕ) (rest : Places) → BeginsElsewhere number (place + from + suc n) (block + from + suc n) (fresh_lines rest)
    → fresh_lines (map (λ (k : ℕ). ((number, place + k), block + k)) (span from (suc n)) ++ rest) ≡ line_from number (place + from) (block + from) (suc n) ∷ fresh_lines rest
stretch number place block from zero rest apart = one_alone number (place + from) (block + from) (fresh_lines rest) apart
stretch number place block from (suc n) rest apart =
    let later = stretch number place block (from + 1) n rest
    (subst (λ (x : ℕ). BeginsElsewhere number x (block + (from + 1) + suc n) (fresh_lines rest)) (moved place from n)
    (subst (λ (x : ℕ). BeginsElsewhere number (place + from + suc (suc n)) x (fresh_lines rest)) (moved block from n) apart)) in
    ap (with_fresh ((number, place + from), block + from)) later
    ∙ one_longer number (place + from) (block + from) (suc n) (place + (from + 1)) (block + (from + 1)) (fresh_lines rest) (omega arith) (omega arith)
    ∙ ap (λ (m : ℕ). line_from number (place + from) (block + from) m ∷ fresh_lines rest) (let more : suc n + 1 ≡ suc (suc n) = omega arith in more)
  where
    moved : (a b m : ℕ) → a + b + suc (suc m) ≡ a + (b + 1) + suc m
    moved a b m = omega arith

whole_stretch : (number place block n : ℕ) (rest : Places) → 1 ≤ n → BeginsElsewhere number (place + n) (block + n) (fresh_lines rest)
    → fresh_lines (map (λ (k : ℕ). ((number, place + k), block + k)) (span 0 n) ++ rest) ≡ line_from number place block n ∷ fresh_lines rest
whole_stretch number place block zero rest some apart = absurd (omega (arith, some))
whole_stretch number place block (suc n) rest some apart =
    stretch number place block 0 n rest
    (subst (λ (x : ℕ). BeginsElsewhere number (x + suc n) (block + 0 + suc n) (fresh_lines rest)) (sym (none place)) (subst (λ (x : ℕ). BeginsElsewhere number (place + suc n) (x + suc n) (fresh_lines rest)) (sym (none block)) apart))
    ∙ ap (λ (x : ℕ). line_from number x (block + 0) (suc n) ∷ fresh_lines rest) (none place) ∙ ap (λ (x : ℕ). line_from number place x (suc n) ∷ fresh_lines rest) (none block)
  where
    none : (x : ℕ) → x + 0 ≡ x
    none x = omega arith

begins_elsewhere : (l : Line) (ls : List Line) → AreLongest (l ∷ ls) → BeginsElsewhere l.number (l.place + l.length) (l.block + l.length) ls
begins_elsewhere l [] are = tt
begins_elsewhere l (next ∷ ls) are = are.0

rest_longest : (l : Line) (ls : List Line) → AreLongest (l ∷ ls) → AreLongest ls
rest_longest l [] are = tt
rest_longest l (next ∷ ls) are = are.1

fresh_kind : (l : Line) → is_fresh l ≡ true → line_from l.number l.place l.block l.length ≡ l
fresh_kind l fresh = by l.kind refl fresh
  where
    by : (kind : LineKind) → l.kind ≡ kind → kind_is_fresh kind ≡ true → line_from l.number l.place l.block l.length ≡ l
    by Fresh is fresh = let back = sym is in λ i. record { kind = back i; number = l.number; place = l.place; length = l.length; block = l.block }
    by Share is fresh = cc

stretches : (ls : List Line) → AreFresh ls → AreLongest ls → fresh_lines (lines_places ls) ≡ ls
stretches [] fresh longest = refl
stretches (l ∷ ls) fresh longest =
    let later = stretches ls fresh.2 (rest_longest l ls longest) in
    ap fresh_lines (flat_map-cons line_places l ls)
    ∙ whole_stretch l.number l.place l.block l.length (lines_places ls) fresh.1 (subst (BeginsElsewhere l.number (l.place + l.length) (l.block + l.length)) (sym later) (begins_elsewhere l ls longest))
    ∙ ap (λ (xs : List Line). line_from l.number l.place l.block l.length ∷ xs) later ∙ ap (λ (x : Line). x ∷ ls) (fresh_kind l fresh.0)

pub stretches_are : (ls : List Line) → AreStretches ls → ls ≡ fresh_lines (lines_places ls)
stretches_are ls are = sym (stretches ls are.fresh are.longest)
