use Rattle.std.proofs.Common.{refl, ap, ◌∙◌}
use Rattle.number_set.specs.Bits.{members}
use Rattle.number_set.proofs.MemberLaws.{no_members}
use Rattle.number_set.proofs.SumLaws.{none_summed}
use Rattle.number_set.proofs.set.NumberSet.new.Goals as goal

pub invariant_of-result : goal.invariant_of-result
invariant_of-result c = none_summed 1024 16 1 _ _ _ c.in_ok-words.ensures c.in_ok-full.ensures c.in_ok-top.ensures refl refl refl

pub returns : goal.returns
returns c = ap members c.in_ok-words.ensures ∙ no_members 1024
