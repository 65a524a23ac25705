use Rattle.std.proofs.Common.{ap, sym, ◌/◌, arith}
use Rattle.std.specs.Prelude.{nat_eq}
use Rattle.number_set.specs.Bits.{full_word}
use Rattle.number_set.proofs.MemberLaws.{written_members}
use Rattle.number_set.proofs.SumLaws.{summed_written, read_at}
use Rattle.number_set.proofs.set.NumberSet.set.Goals as goal

pub invariant_of-self : goal.invariant_of-self
invariant_of-self c =
    let first = c.write_bit.ensures in
    let second = c.write_bit-2.ensures in
    let third = c.write_bit-3.ensures in
    summed_written _ _ _ _ _ _ c.args.number c.args.present _ _ c.self.invariant
    (record { bits = first.bits; words = first.words; length = first.length })
    (record { bits = second.bits; words = second.words; length = second.length })
    (record { bits = third.bits; words = third.words; length = third.length })
    (ap (λ w. nat_eq w full_word) (read_at c.write_bit.new.words.items (c.args.number / 64) c.index.result.now c.index.ensures (omega (arith, first.length, c.self.invariant.words_length))))
    (ap (λ w. nat_eq w full_word) (read_at c.write_bit-2.new.words.items (c.args.number / 64 / 64) c.index-2.result.now c.index-2.ensures (omega (arith, second.length, c.self.invariant.full_length))))

pub returns : goal.returns
returns c = written_members c.self.inside.words.items c.write_bit.new.words.items c.args.number c.args.present _ (sym c.self.view_is) c.write_bit.ensures.bits
