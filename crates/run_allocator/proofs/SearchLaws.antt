-- The search for the first run that is long enough, and the longer of two runs.
use Rattle.std.proofs.Common.{◌≡◌, ◌<◌, ◌≤◌, ℕ, zero, suc, ◌+◌, Bool, true, false, List, [], ◌∷◌, length, get_or, drop, refl, ap, sym, ◌∙◌, arith}
use Rattle.std.specs.Prelude.{slice_get, Some, nat_le, nat_lt, if◌then◌else◌}
use Rattle.std.proofs.lemmas.Bool.Decides.{nat_tests}
use Rattle.std.proofs.lemmas.List.{at_drop_more}
use Rattle.vol_numbers.specs.declared.runs.Run.{Run}
use Rattle.run_allocator.specs.Taken.{first_fit, longer}

pub get_there : (runs : List Run) (i : ℕ) (d : Run) → i < length runs → slice_get runs i ≡ Some (get_or runs i d)
get_there [] i d lt = absurd (omega arith)
get_there (x ∷ xs) zero d lt = refl
get_there (x ∷ xs) (suc i) d lt = get_there xs i d (omega arith)

-- the same for a run that was read
pub read_there : (runs : List Run) (i : ℕ) (r : Run) → r ≡ get_or runs i r → i < length runs → slice_get runs i ≡ Some r
read_there runs i r is lt = get_there runs i r lt ∙ ap (λ (x : Run). Some x) (sym is)

-- ---- the first that is long enough

fit_step : (n : ℕ) (runs : List Run) (i : ℕ) (r : Run) → r ≡ get_or runs i r → i < length runs → first_fit n (drop i runs) ≡ (if nat_le n r.length then Some r else first_fit n (drop (i + 1) runs))
fit_step n runs i r is lt = at_drop_more (first_fit n) runs i r lt ∙ ap (λ (x : Run). if nat_le n x.length then Some x else first_fit n (drop (i + 1) runs)) (sym is)

pub fit_found : (n : ℕ) (runs : List Run) (i : ℕ) (r : Run) → r ≡ get_or runs i r → i < length runs → first_fit n (drop i runs) ≡ first_fit n runs → n ≤ r.length → first_fit n runs ≡ Some r
fit_found n runs i r is lt so_far fits =
    sym so_far ∙ (fit_step n runs i r is lt
    ∙ ap (λ (t : Bool). if t then Some r else first_fit n (drop (i + 1) runs)) (let t : nat_le n r.length ≡ true = grind (arith, nat_tests, fits) in t))

-- ---- the longest

pub pick_left : (r s : Run) → s.length ≤ r.length → longer r (Some s) ≡ Some r
pick_left r s le = ap (λ (t : Bool). if t then Some s else Some r) (let t : nat_lt r.length s.length ≡ false = grind (arith, nat_tests, le) in t)

pub pick_right : (r s : Run) → r.length < s.length → longer r (Some s) ≡ Some s
pick_right r s less = ap (λ (t : Bool). if t then Some s else Some r) (let t : nat_lt r.length s.length ≡ true = grind (arith, nat_tests, less) in t)
