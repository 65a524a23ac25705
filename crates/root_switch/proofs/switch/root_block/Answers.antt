use Rattle.std.proofs.Common.{◌∙◌, ap, sym}
use Rattle.block_format.specs.Root.{root_in}
use Rattle.root_switch.proofs.switch.root_block.Goals as goal

pub returns-clause-reads_back : goal.returns-clause-reads_back
returns-clause-reads_back c = ap root_in (sym c.write_root.ensures.spelled) ∙ c.write_root.ensures.reads_back
