use Rattle.session_model.proofs.Second.{second_answers}
use Rattle.session_model.proofs.runs.second_answers.Goals as goal

pub returns : goal.returns
returns c = second_answers
