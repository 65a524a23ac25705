use Rattle.image_model.proofs.ExactLaws.{one_finding}
use Rattle.image_model.proofs.exact.one_finding.Goals as goal

pub returns : goal.returns
returns c = one_finding
