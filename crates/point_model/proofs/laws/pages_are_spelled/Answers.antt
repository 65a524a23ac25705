use Rattle.point_model.proofs.DirectoriesStand.{directories_stand}
use Rattle.point_model.proofs.laws.pages_are_spelled.Goals as goal

pub returns : goal.returns
returns c = λ image s stands. directories_stand image stands.sound
