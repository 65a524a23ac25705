use Rattle.std.proofs.Common.{◌≡◌, [], arith}
use Rattle.std.proofs.lemmas.Grind.{common_steps}
use Rattle.wire_ends.proofs.PutLemmas.{part_of_more}
use Rattle.wire_ends.proofs.BufferLemmas.{out_behind, part_out_behind}
use Rattle.wire_ends.proofs.put_buffer.PutBuffer.flush_and_put.Goals as goal

pub returns-in-Err-clause-part : goal.returns-in-Err-clause-part
returns-in-Err-clause-part g c = part_of_more c.args.bytes.now c.in-Err.ensures.part

pub returns-clause-passed : goal.returns-clause-passed
returns-clause-passed g c =
    let none : c.try_extend_from_slice.new.self.items ≡ [] = grind (arith, common_steps) in
    out_behind (g.W.Sink.seen c.put.new.self) c.args.bytes.now c.put.result none c.in_default.ensures.whole c.put.ensures.whole

pub returns-clause-part : goal.returns-clause-part
returns-clause-part g c = part_out_behind (g.W.Sink.seen c.put.new.self) c.args.bytes.now c.put.result c.in_default.ensures.whole c.put.ensures.part
