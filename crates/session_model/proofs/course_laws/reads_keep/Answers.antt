use Rattle.session_model.proofs.Never.{reads_kept}
use Rattle.session_model.proofs.course_laws.reads_keep.Goals as goal

pub returns : goal.returns
returns g c = reads_kept _ _ _
