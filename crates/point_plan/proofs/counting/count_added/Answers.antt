use Rattle.std.proofs.Common.{◌≡◌, ℕ, get_or, slice_index, ap, ◌∙◌, arith, ⊎_elim}
use Rattle.std.proofs.lemmas.Bool.{cases_eq}
use Rattle.point_plan.proofs.Times.{times_here, times_other}
use Rattle.point_plan.proofs.counting.count_added.Goals as goal

pub loop-b-preserved : goal.loop-b-preserved
loop-b-preserved c =
    let inv = c.loop-b.invariant in
    let one = c.count_one.ensures in
    let at : ℕ = get_or c.args.added.now c.loop-b.b-index 0 in
    let old = c.args.counts.now.counts in
    let was = c.loop-b.counts.counts in
    let now = c.count_one.new.counts.counts in
    record {
      counted = λ b lt fits. ⊎_elim
          (λ here.
          let more = times_here b c.args.added.now c.loop-b.b-index c.loop-b-test.true here in
          let room = fits (omega (arith, more)) in
          let before = inv.counted b lt (λ some. omega (arith, more, room)) in
          let same : slice_index was b ≡ slice_index was at = ap (λ (k : ℕ). slice_index was k) here in
          let also : slice_index now b ≡ slice_index now at = ap (λ (k : ℕ). slice_index now k) here in
          let counted = one.counted (omega (arith, inv.long, lt, here)) (omega (arith, same, before, more, room)) in
          omega (arith, also, counted, same, before, more))
          (λ other.
          let more = times_other b c.args.added.now c.loop-b.b-index c.loop-b-test.true other in
          omega (arith, one.others b other, inv.counted b lt (λ some. let room = fits (omega (arith, more, some)) in omega (arith, more, room)), more))
          (cases_eq b at);
      long = one.long ∙ inv.long;
      touched = one.touched ∙ inv.touched;
      kept = λ read homes kept. one.kept read homes (inv.kept read homes kept);
    }
