use Rattle.block_tree.proofs.PartLaws.{pointers_are}
use Rattle.block_tree.proofs.laws.pointers_are.Goals as goal

pub returns : goal.returns
returns c = pointers_are
