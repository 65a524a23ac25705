use Rattle.std.proofs.Common.{◌∙◌, ap, refl}
use Rattle.vol_numbers.specs.declared.block.Block.{Block}
use Rattle.disk_model.specs.Disk.{written}
use Rattle.mem_disk.specs.Memory.{told}
use Rattle.mem_disk.proofs.mem_disk.MemDiskDisk.write_block.Goals as goal

pub returns-then-fails_now-clause-filled : goal.returns-then-fails_now-clause-filled
returns-then-fails_now-clause-filled c =
    let device = c.args.self.now.device in
    c.in_ok-write_block.ensures.written refl ∙ ap (λ (b : Block). written c.args.at b (told (device.cells.items, device.flags.items))) c.filled.ensures
