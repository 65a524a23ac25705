use Rattle.std.proofs.Common.{◌≡◌, ◌∙◌, ◌-◌, ℕ, true, ap, sym, subst, arith, ⊎_elim}
use Rattle.std.proofs.lemmas.Bool.{cases_eq, false≢true}
use Rattle.disk_model.specs.Disk.{State, is_among}
use Rattle.disk_model.proofs.Moments.{adds_then}
use Rattle.block_format.specs.Homes.{home_bit}
use Rattle.count_pairs.specs.Homes.{blocks_in, other_of}
use Rattle.count_pairs.specs.Table.{count_block, is_touched}
use Rattle.block_format.specs.Words.{words}
use Rattle.count_pairs.specs.Writing.{IsWritten}
use Rattle.count_pairs.proofs.ChangeLaws.{bytes_kept, changes_then, others_apart}
use Rattle.count_pairs.proofs.writing.write_touched.Goals as goal

pub loop-i-preserved : goal.loop-i-preserved
loop-i-preserved g c =
    let inv = c.loop-i.invariant in
    let one = c.in_ok-write_one.ensures in
    let i = c.loop-i.i in
    let homes = c.args.homes.now.bytes in
    let touched = c.args.touched.now in
    let counts = c.args.counts.now in
    let after : State = g.D.Disk.state c.write_one.new.disk in
    let flip = c.flip.ensures in
    let is_here : is_touched touched i ≡ true = c.if-not-touched-i.false in
    let within : (b : ℕ) → b ≡ other_of homes i → IsWritten homes touched b = λ b e. (i, is_here, e) in
    record {
      stand = λ tells j lt is. ⊎_elim
          (λ here. subst (λ (k : ℕ). words (blocks_in after.contents (other_of homes k)) ≡ count_block counts k) (sym here) (one.stands tells))
          (λ other. ap words (bytes_kept (other_of homes j) (one.changes tells) (others_apart homes j i other)) ∙ inv.stand tells j (omega (arith, other, lt)) is)
          (cases_eq j i);
      joined = λ tells j lt is. ⊎_elim
          (λ here. subst (λ (k : ℕ). is_among after.unsynced (other_of homes k) ≡ true) (sym here) (one.joined tells))
          (λ other. (one.changes tells).stay_unsynced (other_of homes j) (inv.joined tells j (omega (arith, other, lt)) is))
          (cases_eq j i);
      written = λ j lt is. ⊎_elim
          (λ here. subst (λ (k : ℕ). home_bit c.flip.new.homes.bytes k ≡ 1 - home_bit homes k) (sym here) (flip.flipped ∙ ap (λ (bit : ℕ). 1 - bit) (inv.rest i (omega arith))))
          (λ other. flip.others j other ∙ inv.written j (omega (arith, other, lt)) is)
          (cases_eq j i);
      others = λ j not. flip.others j (λ e. false≢true (sym not ∙ (ap (λ (k : ℕ). is_touched touched k) e ∙ is_here))) ∙ inv.others j not;
      rest = λ j le. flip.others j (λ e. omega (arith, e, le)) ∙ inv.rest j (omega (arith, le));
      changes = λ tells. changes_then (inv.changes tells) (one.changes tells) within;
      during = λ tells. adds_then (inv.during tells) one.during (λ s during. changes_then (inv.changes tells) during within);
      fixed = one.fixed ∙ inv.fixed;
      given = one.given ∙ inv.given;
      faults = one.cause ∙ inv.faults;
    }
