use Rattle.std.proofs.Common.{◌≡◌, length, drop}
use Rattle.disk_model.specs.Disk.{picked}
use Rattle.mem_disk.proofs.sure_disk.put_all.Given as goal

abbrev pub invariant-loop-pick : goal.invariant-loop-pick
invariant-loop-pick l = record {
  long : length l.cells.items ≡ length l.fn.cells.items;
  rest : picked (drop l.pick-index l.picks) l.cells.items ≡ picked l.picks l.fn.cells.items;
}
