use Rattle.session_model.proofs.Texts.{given_told}
use Rattle.session_model.proofs.course_laws.given_are_told.Goals as goal

pub returns : goal.returns
returns c = given_told c.none_begins_another.ensures
