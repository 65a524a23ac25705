use Rattle.std.proofs.Common.{ap, sym, ◌∙◌}
use Rattle.std.proofs.lemmas.Result.{on_err_weaker}
use Rattle.disk_model.specs.Disk.{State}
use Rattle.disk_model.proofs.Moments.{torn_unsynced, included-some}
use Rattle.std.specs.Prelude.{Result, Ok, Err, OnErr}
use Rattle.disk_model.proofs.durable.write_through.Goals as goal

on_err : {T E P : Type 0} (r : Result T E) → P → OnErr r P
on_err (Ok x) p = tt
on_err (Err e) p = p

pub returns-in_err-write_block-clause-unsynced : goal.returns-in_err-write_block-clause-unsynced
returns-in_err-write_block-clause-unsynced g c = on_err c.from_residual.result (λ tells. torn_unsynced (c.in_err-write_block.ensures.torn tells))

pub returns-clause-unsynced : goal.returns-clause-unsynced
returns-clause-unsynced g c =
    on_err_weaker c.sync.result (λ same tells e.
    included-some c.args.at (g.D.Disk.state c.args.disk.now).unsynced
    (sym (ap (λ (m : State). m.unsynced) (same tells ∙ c.in_ok-write_block.ensures.written tells)) ∙ e)) c.sync.ensures.not_synced

pub returns-in_err-write_block-clause-left : goal.returns-in_err-write_block-clause-left
returns-in_err-write_block-clause-left g c = on_err c.from_residual.result (λ tells. c.in_err-write_block.ensures.torn tells)

pub returns-clause-left : goal.returns-clause-left
returns-clause-left g c =
    on_err_weaker c.sync.result (λ same tells. record { block = _; is = same tells ∙ c.in_ok-write_block.ensures.written tells }) c.sync.ensures.not_synced
