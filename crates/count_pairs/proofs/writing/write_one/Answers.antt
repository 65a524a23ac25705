use Rattle.std.proofs.Common.{◌≡◌, ◌∙◌, ℕ, ap, sym, subst, true}
use Rattle.std.proofs.lemmas.Result.{on_ok_weaker, on_err_weaker}
use Rattle.std.specs.Prelude.{Result, Ok, Err, OnOk, OnErr}
use Rattle.vol_numbers.specs.declared.block.Block.{Block}
use Rattle.disk_model.specs.Disk.{State, DuringWrite, included, is_among, written}
use Rattle.disk_model.proofs.Moments.{adds_weaker, torn_unsynced}
use Rattle.count_pairs.specs.Writing.{ChangesOnly}
use Rattle.count_pairs.proofs.ChangeLaws.{one_written, is_among-included_same}
use Rattle.count_pairs.proofs.writing.write_one.Goals as goal

-- any moment of the write
one_during : (at home : ℕ) (before s : State) → at ≡ home → DuringWrite at before s → ChangesOnly (λ b. b ≡ home) before s
one_during at home before s e during =
    subst (λ (h : ℕ). ChangesOnly (λ b. b ≡ h) before s) e (subst (λ (m : State). ChangesOnly (λ b. b ≡ at) before m) (sym during.is) (one_written at during.block before))

-- what holds after a success and after a failure
by_result : {T E P Q R : Type 0} (r : Result T E) → OnOk r P → OnErr r Q → (P → R) → (Q → R) → R
by_result (Ok x) ok err from_ok from_err = from_ok ok
by_result (Err e) ok err from_ok from_err = from_err err

pub returns-clause-joined : goal.returns-clause-joined
returns-clause-joined g c = on_ok_weaker c.write_block.result (λ is tells. joined _ _ _ _ _ c.other_home.ensures (is tells)) c.write_block.ensures.written
  where
    joined : (at home : ℕ) (block : Block) (before after : State) → at ≡ home → after ≡ written at block before → is_among after.unsynced home ≡ true
    joined at home block before after e is =
        ap (λ (s : State). is_among s.unsynced home) is ∙ (ap (λ (h : ℕ). is_among (included at before.unsynced) h) (sym e) ∙ is_among-included_same at before.unsynced)

pub returns-clause-changes : goal.returns-clause-changes
returns-clause-changes g c = by_result c.write_block.result c.write_block.ensures.written c.write_block.ensures.torn
    (λ is tells. one_during _ _ _ _ c.other_home.ensures (record { block = c.block_of.result; is = is tells }))
    (λ torn tells. one_during _ _ _ _ c.other_home.ensures (torn tells))

pub returns-clause-during : goal.returns-clause-during
returns-clause-during g c = adds_weaker c.write_block.ensures.moments (λ s during. one_during _ _ _ _ c.other_home.ensures during)

pub returns-clause-unsynced : goal.returns-clause-unsynced
returns-clause-unsynced g c = on_err_weaker c.write_block.result (λ torn tells. torn_unsynced (torn tells)) c.write_block.ensures.torn
