use Rattle.volume_model.proofs.LineLaws.{fresh_lines_are}
use Rattle.volume_model.proofs.laws.fresh_lines_are.Goals as goal

pub returns : goal.returns
returns c = fresh_lines_are
