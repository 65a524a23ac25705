use Rattle.volume_model.proofs.SharedBytes.{shared_bytes_are_equal}
use Rattle.volume_model.proofs.report_laws.shared_bytes_are_equal.Goals as goal

pub returns : goal.returns
returns c = shared_bytes_are_equal
