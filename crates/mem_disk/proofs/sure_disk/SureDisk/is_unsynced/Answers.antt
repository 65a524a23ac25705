use Rattle.std.proofs.Common.{arith}
use Rattle.std.proofs.lemmas.Grind.{common_steps}
use Rattle.std.proofs.lemmas.Option.{gets}
use Rattle.mem_disk.proofs.MemoryLemmas.{is_among-numbers}
use Rattle.mem_disk.proofs.sure_disk.SureDisk.is_unsynced.Goals as goal

pub returns : goal.returns
returns c = let e = is_among-numbers c.args.self.now.flags.items c.args.at in grind (arith, common_steps, gets, e)
