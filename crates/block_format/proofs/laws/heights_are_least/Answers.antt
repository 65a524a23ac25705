use Rattle.block_format.proofs.HeightLaws.{enough, least}
use Rattle.block_format.proofs.laws.heights_are_least.Goals as goal

pub returns : goal.returns
returns c = record { enough = enough c.args.blocks c.requires; least = least c.args.blocks }
