use Rattle.std.proofs.Common.{◌≡◌, ◌∙◌, ◌*◌, ◌+◌, ap, arith}
use Rattle.block_format.specs.Inode.{inode_in, inode_bytes, inode_part}
use Rattle.block_format.proofs.PartLaws.{with_part, renamed, part_put, part_apart, apart_64}
use Rattle.block_format.proofs.InodeLaws.{inode_in-bytes, length-inode_bytes}
use Rattle.block_format.proofs.inode.write_inode.Goals as goal

pub returns : goal.returns
returns c =
    let xs = c.args.into.now.bytes in
    let k = c.args.k in
    let inode = c.args.inode.now in
    let part = inode_bytes inode in
    let long = length-inode_bytes inode in
    let put : c.put.new.bytes ≡ with_part xs part (64 * k) (64 * k + 64) = renamed c.put.new.bytes xs c.spelled.result part (64 * k) 64 c.put.ensures c.spelled.ensures.spelled long in
    let spelled : inode_part k c.put.new.bytes ≡ part = ap (inode_part k) put ∙ part_put xs part (64 * k) (64 * k + 64) (omega arith) (omega arith) in
    record {
      bytes = put;
      spelled = spelled;
      reads_back = ap inode_in spelled ∙ inode_in-bytes inode c.requires.shape c.spelled.ensures.number;
      others = λ j ne. ap (inode_part j) put ∙ part_apart xs part (64 * k) (64 * k + 64) (omega arith) (omega arith) (64 * j) (64 * j + 64) (apart_64 j k ne);
    }
