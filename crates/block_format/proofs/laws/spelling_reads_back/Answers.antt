use Rattle.std.proofs.Common.{rules}
use Rattle.block_format.specs.Root.{root_of}
use Rattle.block_format.proofs.RootLaws.{HasRoom, root_in-root_bytes}
use Rattle.block_format.proofs.laws.spelling_reads_back.Goals as goal

pub returns : goal.returns
returns c =
    let fits = c.well_formed in
    let room : HasRoom (root_of c.args.body) = search rules in
    root_in-root_bytes _ room
