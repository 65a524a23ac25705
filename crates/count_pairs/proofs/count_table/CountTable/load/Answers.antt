use Rattle.std.proofs.Common.{sym}
use Rattle.vol_numbers.specs.Geometry.{layout_of}
use Rattle.vol_numbers.specs.Layout.{count_blocks}
use Rattle.count_pairs.specs.Homes.{blocks_in}
use Rattle.count_pairs.proofs.CountLaws.{counts_are}
use Rattle.count_pairs.proofs.count_table.CountTable.load.Goals as goal

pub returns-clause-counts : goal.returns-clause-counts
returns-clause-counts g c tells =
    let body = c.args.body.now in
    sym (counts_are (blocks_in (g.D.Disk.state c.args.disk.now).contents) body.homes.bytes c.in_ok-counts.counts.items (count_blocks (layout_of body.geometry))
    c.in_ok-counts.ensures.long (c.in_ok-counts.ensures.stand tells))
