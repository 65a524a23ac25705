use Rattle.std.proofs.Common.{◌≤◌, ◌+◌, List, All, subst}
use Rattle.vol_numbers.specs.declared.runs.Run.{Run as RunOf}
use Rattle.block_format.specs.Inode.{blocks_of}
use Rattle.point_tests.proofs.StagedNow.{places_below}
use Rattle.point_tests.proofs.held.has_places.Goals as goal

pub returns : goal.returns
returns c below p is =
    places_below c.args.state.now.dirty.overlay c.args.n (blocks_of c.args.size) c.in-Ok.runs c.in-Ok.ensures
    (subst (λ (rs : List RunOf). All (λ (r : RunOf). r.first + r.length ≤ blocks_of c.args.size) rs) c.as_slice.ensures (c.are_below.ensures below)) p is
