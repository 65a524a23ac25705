use Rattle.std.proofs.Common.{◌≡◌, ◌-◌, suc, subst, true, false, arith, drop, ℕ, List}
use Rattle.std.specs.List.{list_any}
use Rattle.volume_model.specs.Cache.{has_fingerprint}
use Rattle.content_model.proofs.Using.{last_removed, none_removed}
use Rattle.content_model.proofs.plain_cache.last_kin.Goals as goal

pub returns-then-eq-clause-last : goal.returns-then-eq-clause-last
returns-then-eq-clause-last c =
    let read : has_fingerprint c.args.fp.now c.index-pairs-i.result ≡ true = cc in
    let here = subst (λ (p : List ℕ × ℕ). has_fingerprint c.args.fp.now p ≡ true) c.index-pairs-i.is read in
    let next : c.loop-i.i ≡ suc (c.loop-i.i - 1) = omega arith in
    let behind = subst (λ (i : ℕ). list_any (has_fingerprint c.args.fp.now) (drop i c.args.pairs.now) ≡ false) next c.loop-i.invariant in
    (omega arith, last_removed c.args.fp.now c.args.pairs.now (c.loop-i.i - 1) c.index-pairs-i.result (omega arith) here behind)

pub returns-clause-none : goal.returns-clause-none
returns-clause-none c =
    let none : c.loop-i.i ≡ 0 = omega arith in
    let all = subst (λ (i : ℕ). list_any (has_fingerprint c.args.fp.now) (drop i c.args.pairs.now) ≡ false) none c.loop-i.invariant in
    none_removed c.args.fp.now c.args.pairs.now all
