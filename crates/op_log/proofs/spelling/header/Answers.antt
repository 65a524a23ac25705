use Rattle.std.proofs.Common.{◌∙◌, length, ap}
use Rattle.op_log.proofs.HeaderLemmas.{header_written, length-header}
use Rattle.op_log.proofs.spelling.header.Goals as goal

pub returns : goal.returns
returns c =
    let is = header_written c.new-head.result.items c.put.new.head.items c.put_u32.new.head.items c.put_u64.new.head.items c.put_u32-2.new.head.items c.put-2.new.head.items c.args.kind c.args.path_len c.args.number c.args.rest_len
    c.new-head.ensures c.put.ensures c.put_u32.ensures c.put_u64.ensures c.put_u32-2.ensures c.put-2.ensures in
    record { is = is; short = ap length is ∙ length-header c.args.kind c.args.path_len c.args.number c.args.rest_len }
