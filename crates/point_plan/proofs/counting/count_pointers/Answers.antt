use Rattle.std.proofs.Common.{◌≡◌, ℕ, List, ap, arith}
use Rattle.place_words.specs.Different.{times}
use Rattle.point_plan.specs.Nodes.{all_added, all_dropped}
use Rattle.point_plan.proofs.Times.{times_append}
use Rattle.point_plan.proofs.counting.count_pointers.Goals as goal

pub returns-clause-moved : goal.returns-clause-moved
returns-clause-moved c = λ b lt countable.
    let nodes = c.args.nodes.now in
    let added : List ℕ = c.args.inodes.now.added in
    let dropped : List ℕ = c.args.inodes.now.dropped in
    let come = times_append b added (all_added nodes) in
    let go = times_append b dropped (all_dropped nodes) in
    let come_slice : times b c.as_slice.result.now ≡ times b added = ap (times b) c.as_slice.ensures in
    let go_slice : times b c.as_slice-2.result.now ≡ times b dropped = ap (times b) c.as_slice-2.ensures in
    let one = c.count_added.ensures.counted b lt (λ some. let room = countable.fits (omega (arith, come, come_slice, some)) in omega (arith, come, come_slice, room)) in
    let long_one = c.count_added.ensures.long in
    let two = c.count_nodes_added.ensures.counted b (omega (arith, long_one, lt)) (λ some. let room = countable.fits (omega (arith, come, some)) in omega (arith, come, come_slice, room, one)) in
    let long_two = c.count_nodes_added.ensures.long in
    let three = c.count_dropped.ensures.counted b (omega (arith, long_one, long_two, lt)) (omega (arith, countable.some, come, go, come_slice, go_slice, one, two)) in
    let long_three = c.count_dropped.ensures.long in
    let four = c.count_nodes_dropped.ensures.counted b (omega (arith, long_one, long_two, long_three, lt)) (omega (arith, countable.some, come, go, come_slice, go_slice, one, two, three)) in
    omega (arith, come, go, come_slice, go_slice, one, two, three, four)
