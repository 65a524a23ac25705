use Rattle.std.proofs.Common.{rules}
use Rattle.vol_numbers.specs.Geometry.{layout_of}
use Rattle.block_format.proofs.WordLaws.{words-spelled}
use Rattle.block_format.proofs.laws.index_of_spelling.Goals as goal

pub returns : goal.returns
returns c = words-spelled (layout_of c.args.g.now) (search rules) c.args.index.now.ptrs c.args.block.now.bytes c.requires
