use Rattle.std.proofs.Common.{arith}
use Rattle.run_allocator.proofs.SearchLaws.{read_there}
use Rattle.run_allocator.proofs.StepLaws.{apart_at, front_taken, lowest_taken, lowest_positive, some_runs}
use Rattle.run_allocator.proofs.pieces.take_lowest.Goals as goal

pub cut-requires : goal.cut-requires
cut-requires c =
    let runs = c.args.runs.now.items in
    let r = c.index-run.result.now in
    let some = some_runs runs c.requires.some in
    let there = read_there runs 0 r c.index-run.ensures some in
    let apart = apart_at 1 runs 0 r c.requires.apart there in
    record { there = there; index = some; positive = omega arith; within = apart.0; end = apart.1 }

pub returns-clause-lowest : goal.returns-clause-lowest
returns-clause-lowest c =
    let runs = c.args.runs.now.items in
    let r = c.index-run.result.now in
    let there = read_there runs 0 r c.index-run.ensures (some_runs runs c.requires.some) in
    rw c.cut.ensures (lowest_taken runs r c.requires.apart there)

pub returns-clause-positive : goal.returns-clause-positive
returns-clause-positive c =
    let runs = c.args.runs.now.items in
    let r = c.index-run.result.now in
    lowest_positive runs r c.requires.apart (read_there runs 0 r c.index-run.ensures (some_runs runs c.requires.some))

pub returns-clause-apart : goal.returns-clause-apart
returns-clause-apart c =
    let runs = c.args.runs.now.items in
    let r = c.index-run.result.now in
    let there = read_there runs 0 r c.index-run.ensures (some_runs runs c.requires.some) in
    rw c.cut.ensures (front_taken 1 runs 0 r 1 c.requires.apart there (omega arith) (apart_at 1 runs 0 r c.requires.apart there).0).1
