use Rattle.std.proofs.Common.{◌≡◌, ◌<◌, ◌+◌, ◌∙◌, ℕ, ap, sym, arith, ⊎_elim}
use Rattle.std.specs.FinMap.{find}
use Rattle.std.proofs.lemmas.Bool.{cases_eq}
use Rattle.disk_model.specs.Disk.{State}
use Rattle.disk_model.proofs.Moments.{adds_then}
use Rattle.block_tree.specs.Tree.{blocks_in}
use Rattle.count_pairs.proofs.ChangeLaws.{bytes_kept, changes_then}
use Rattle.volume_model.specs.Places.{spot_cmp}
use Rattle.consistency_point.specs.Writing.{IsBlockOf}
use Rattle.consistency_point.proofs.writing.write_line.Goals as goal

pub loop-k-preserved : goal.loop-k-preserved
loop-k-preserved g c =
    let inv = c.loop-k.invariant in
    let one = c.write_place.ensures in
    let line = c.args.line in
    let k = c.loop-k.k in
    let after : State = g.D.Disk.state c.write_place.new.disk in
    let within : (b : ℕ) → b ≡ line.block + k → IsBlockOf line b = λ b e. (k, c.loop-k-test.true, e) in
    record {
      stand = λ tells j staged lt found. ⊎_elim
          (λ same.
          ap (λ (i : ℕ). blocks_in after.contents (line.block + i)) same
          ∙ c.in_ok-write_place.ensures.stands tells staged (ap (λ (i : ℕ). find spot_cmp (line.number, line.place + i) c.args.dirty.now.overlay.blocks) (sym same) ∙ found))
          (λ other.
          let below : j < k = omega (arith, lt, other) in
          bytes_kept (line.block + j) (one.changes tells) (λ e. omega (arith, e, below)) ∙ inv.stand tells j staged below found)
          (cases_eq j k);
      changes = λ tells. changes_then (inv.changes tells) (one.changes tells) within;
      during = λ tells. adds_then (inv.during tells) one.during (λ s during. changes_then (inv.changes tells) during within);
      fixed = one.fixed ∙ inv.fixed;
      given = one.given ∙ inv.given;
      faults = c.in_ok-write_place.ensures.cause ∙ inv.faults;
    }

pub returns-in_err-write_place-clause-changes : goal.returns-in_err-write_place-clause-changes
returns-in_err-write_place-clause-changes g c = λ tells.
    let within : (b : ℕ) → b ≡ c.args.line.block + c.loop-k.k → IsBlockOf c.args.line b = λ b e. (c.loop-k.k, c.loop-k-test.true, e) in
    changes_then (c.loop-k.invariant.changes tells) (c.write_place.ensures.changes tells) within

pub returns-in_err-write_place-clause-during : goal.returns-in_err-write_place-clause-during
returns-in_err-write_place-clause-during g c = λ tells.
    let within : (b : ℕ) → b ≡ c.args.line.block + c.loop-k.k → IsBlockOf c.args.line b = λ b e. (c.loop-k.k, c.loop-k-test.true, e) in
    adds_then (c.loop-k.invariant.during tells) c.write_place.ensures.during (λ s during. changes_then (c.loop-k.invariant.changes tells) during within)
