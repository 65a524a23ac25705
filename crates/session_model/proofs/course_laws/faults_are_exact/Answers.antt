use Rattle.session_model.proofs.Counted.{faults_exact}
use Rattle.session_model.proofs.course_laws.faults_are_exact.Goals as goal

pub returns : goal.returns
returns g c = faults_exact _ _ _
