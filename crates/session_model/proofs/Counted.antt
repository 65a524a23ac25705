-- How the faults of a course are counted.
use Rattle.std.proofs.Common.{◌≡◌, ◌≤◌, ◌+◌, ℕ, Bool, List, [], ◌∷◌, ◌++◌, sym, subst, arith}
use Rattle.std.specs.Prelude.{Option}
use Rattle.tree_model.specs.declared.command.Command.{Command}
use Rattle.tree_model.specs.declared.report.Report.{Report}
use Rattle.session_model.specs.Course.{Exchange, Last}
use Rattle.session_model.specs.Course.Last.{Nothing, Untold, Stop}
use Rattle.session_model.specs.Follows.{Seen, faults_in, raised_by}
use Rattle.session_model.specs.CourseLaws.{StopIsCounted, FaultsAreExact}

pub none_raised : (count : ℕ) → count ≡ raised_by 0 count
none_raised count = omega arith

pub raised_then : (a b count : ℕ) → raised_by b (raised_by a count) ≡ raised_by (a + b) count
raised_then a b count = omega arith

pub one_counted : (e : Exchange) → faults_in [] (Untold e) ≡ faults_in (e ∷ []) Nothing
one_counted e = omega arith

pub faults_then : (a b : List Exchange) (last : Last) → faults_in (a ++ b) last ≡ faults_in a Nothing + faults_in b last
faults_then [] b last = omega arith
faults_then (e ∷ a) b last = omega (arith, faults_then a b last)

some_fault : (es : List Exchange) (command : Command) (report : Option Report) → 1 ≤ faults_in es (Stop command report)
some_fault [] command report = omega arith
some_fault (e ∷ es) command report = omega (arith, some_fault es command report)

pub stop_counted : (tells : Bool) (old new : Seen) → StopIsCounted tells old new
stop_counted tells old new r c command report stops lt follows =
    let some : 1 ≤ faults_in c.told c.last = subst (λ (l : Last). 1 ≤ faults_in c.told l) (sym stops) (some_fault c.told command report) in
    omega (arith, some, lt, follows.faults)

pub faults_exact : (tells : Bool) (old new : Seen) → FaultsAreExact tells old new
faults_exact tells old new r c lt follows = omega (arith, lt, follows.faults)
