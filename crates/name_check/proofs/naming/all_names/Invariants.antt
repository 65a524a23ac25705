use Rattle.std.proofs.Common.{take}
use Rattle.name_check.specs.Names.{HasNamed, numbers_by}
use Rattle.name_check.proofs.naming.all_names.Given as goal

abbrev pub invariant-loop-held : goal.invariant-loop-held
invariant-loop-held l = HasNamed l.naming (numbers_by (take l.held-index l.directories))
