use Rattle.std.proofs.Common.{◌≤◌, length, arith}
use Rattle.name_check.proofs.ReachLaws.{through_more, through_all}
use Rattle.name_check.proofs.reaching.reached.Goals as goal

pub reach-requires-clause-search : goal.reach-requires-clause-search
reach-requires-clause-search c = c.in_ok-search.ensures.search c.args.directories.now

pub returns-in-None : goal.returns-in-None
returns-in-None c = through_all c.args.directories.now c.loop-i.search c.loop-i.i c.loop-i.invariant c.in-None.ensures.none

pub loop-i-preserved : goal.loop-i-preserved
loop-i-preserved c =
    let ends = c.in-Some.ensures in
    through_more c.args.directories.now c.loop-i.search c.go_through.new.self c.loop-i.i c.in-Some.number c.loop-i.invariant
    ends.within ends.at c.in_ok-go_through-in-Some.ensures.search c.in_ok-go_through-in-Some.ensures.reaches

pub returns : goal.returns
returns c =
    let room = c.loop-i.invariant.searched.room in
    let all : length c.loop-i.search.queue.items ≤ c.loop-i.i = omega (arith, room) in
    through_all c.args.directories.now c.loop-i.search c.loop-i.i c.loop-i.invariant all
