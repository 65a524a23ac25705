use Rattle.std.proofs.Common.{◌≡◌, ℕ, sym, subst}
use Rattle.std.proofs.lemmas.Result.{on_err_weaker}
use Rattle.std.specs.Prelude.{Result, Ok, Err, OnOk, OnErr}
use Rattle.disk_model.specs.Disk.{State, DuringWrite}
use Rattle.disk_model.proofs.Moments.{adds_weaker, torn_unsynced}
use Rattle.count_pairs.specs.Writing.{ChangesOnly}
use Rattle.count_pairs.proofs.ChangeLaws.{one_written}
use Rattle.consistency_point.proofs.writing.write_at.Goals as goal

-- any moment of the write
one_during : (at : ℕ) (before s : State) → DuringWrite at before s → ChangesOnly (λ b. b ≡ at) before s
one_during at before s during = subst (λ (m : State). ChangesOnly (λ b. b ≡ at) before m) (sym during.is) (one_written at during.block before)

-- what holds after a success and after a failure
by_result : {T E P Q R : Type 0} (r : Result T E) → OnOk r P → OnErr r Q → (P → R) → (Q → R) → R
by_result (Ok x) ok err from_ok from_err = from_ok ok
by_result (Err e) ok err from_ok from_err = from_err err

pub returns-clause-changes : goal.returns-clause-changes
returns-clause-changes g c = by_result c.write_block.result c.write_block.ensures.written c.write_block.ensures.torn
    (λ is tells. one_during c.args.at _ _ (record { block = c.args.block.now; is = is tells }))
    (λ torn tells. one_during c.args.at _ _ (torn tells))

pub returns-clause-during : goal.returns-clause-during
returns-clause-during g c = adds_weaker c.write_block.ensures.moments (λ s during. one_during c.args.at _ s during)

pub returns-clause-unsynced : goal.returns-clause-unsynced
returns-clause-unsynced g c = on_err_weaker c.write_block.result (λ torn tells. torn_unsynced (torn tells)) c.write_block.ensures.torn
