use Rattle.std.proofs.Common.{rules}
use Rattle.block_format.specs.Root.{root_of}
use Rattle.block_format.proofs.RootLaws.{HasRoom, root_in-spelled}
use Rattle.block_format.proofs.laws.root_of_spelling.Goals as goal

pub returns : goal.returns
returns c =
    let fits = c.well_formed in
    let room : HasRoom (root_of c.args.body) = search rules in
    root_in-spelled _ _ room c.requires
