use Rattle.std.proofs.Common.{◌<◌, ℕ, List, All, get_or, subst, arith}
use Rattle.consistency_point.proofs.ListLaws.{same_item}
use Rattle.point_tests.specs.Within.{IsNumberWithin}
use Rattle.point_tests.proofs.StagedNow.{next_one, staged_within}
use Rattle.point_tests.proofs.held.is_within.Goals as goal

pub loop-n-preserved : goal.loop-n-preserved
loop-n-preserved c k d lt =
    let items : List ℕ = c.as_slice-n-items.result.now in
    next_one (λ (i : ℕ). (e : ℕ) → IsNumberWithin c.args.state.now (get_or items i e)) c.loop-n.n-index (λ i below e. c.loop-n.invariant i e below)
    (λ e. subst (IsNumberWithin c.args.state.now) (same_item items c.loop-n.n-index _ e c.loop-n-test.true) (c.is_number.ensures c.if-not-is_number.false)) k lt d

pub returns : goal.returns
returns c is table =
    let all : All (IsNumberWithin c.args.state.now) c.as_slice-n-items.result.now = λ k d lt. c.loop-n.invariant k d (omega (arith, lt, c.loop-n-test.false)) in
    staged_within c.args.state.now c.in-Ok.numbers c.in-Ok.ensures (subst (All (IsNumberWithin c.args.state.now)) c.as_slice-n-items.ensures all)
    (c.are_directories.ensures c.if-not-are_directories.false) table
