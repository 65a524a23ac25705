use Rattle.std.proofs.Common.{ap, sym, subst, ◌∙◌, ◌+◌, ◌*◌, arith}
use Rattle.std.specs.FinSet as set
use Rattle.number_set.specs.Least.{IsLeastAbsent}
use Rattle.number_set.proofs.MemberLaws.{contains_members}
use Rattle.number_set.proofs.SumLaws.{ones_at, all_there, word_within, least_is}
use Rattle.number_set.proofs.set.NumberSet.least_absent.Goals as goal

pub returns-then-group : goal.returns-then-group
returns-then-group c =
    let is = c.self.invariant in
    let o = c.ones-group.ensures in
    let first = ones_at c.self.inside.top.items 0 c.index.result.now c.ones-group.result c.index.ensures (omega (arith, is.top_length)) (record { within = o.within; below = o.below; next = o.next; full = o.full }) in
    λ k le. ap (λ s. set.contains s k) (sym c.self.view_is) ∙ contains_members c.self.inside.words.items k ∙ all_there _ _ _ is _ first c.if-group.true k le

pub returns : goal.returns
returns c =
    let is = c.self.invariant in
    let o = c.ones-group.ensures in
    let p = c.ones.ensures in
    let q = c.ones-2.ensures in
    let first = ones_at c.self.inside.top.items 0 c.index.result.now c.ones-group.result c.index.ensures (omega (arith, is.top_length)) (record { within = o.within; below = o.below; next = o.next; full = o.full }) in
    let second = ones_at c.self.inside.full.items c.ones-group.result c.index-2.result.now c.ones.result c.index-2.ensures (omega (arith, is.full_length)) (record { within = p.within; below = p.below; next = p.next; full = p.full }) in
    let short = word_within _ _ _ is _ first c.if-group.false _ second in
    let third = ones_at c.self.inside.words.items (64 * c.ones-group.result + c.ones.result) c.index-3.result.now c.ones-2.result c.index-3.ensures (omega (arith, is.words_length, short)) (record { within = q.within; below = q.below; next = q.next; full = q.full }) in
    subst (λ s. IsLeastAbsent s (64 * (64 * c.ones-group.result + c.ones.result) + c.ones-2.result)) c.self.view_is (least_is _ _ _ is _ first c.if-group.false _ second _ third)
