use Rattle.name_check.proofs.LostLaws.{tree_none, tree_found}
use Rattle.name_check.proofs.tree_check.tree.Goals as goal

pub returns-in-Some-clause-found : goal.returns-in-Some-clause-found
returns-in-Some-clause-found c s same holds = tree_found s c.in_ok-marks.marks c.in-Some.number (c.in_ok-marks.ensures s same holds) c.in-Some.ensures.first

pub returns-clause-none : goal.returns-clause-none
returns-clause-none c s same holds = tree_none s c.in_ok-marks.marks (c.in_ok-marks.ensures s same holds) c.in-None.ensures.none
