use Rattle.std.proofs.Common.{rules}
use Rattle.block_format.specs.Fields.{root_from}
use Rattle.block_format.proofs.RootLaws.{HasRoom, root_in-root_bytes}
use Rattle.block_format.proofs.fields.Fields.header.Goals as goal

pub returns-clause-reads_back : goal.returns-clause-reads_back
returns-clause-reads_back c =
    let fits = c.well_formed in
    let room : HasRoom (root_from c.args.self) = search rules in
    root_in-root_bytes _ room
