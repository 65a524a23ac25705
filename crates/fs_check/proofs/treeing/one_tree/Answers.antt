use Rattle.std.proofs.Common.{arith}
use Rattle.place_words.proofs.Rising.{rising_less}
use Rattle.fs_check.specs.Faults.{of_names}
use Rattle.fs_check.proofs.CauseLaws.{cause_err, own_cause}
use Rattle.fs_check.proofs.PhaseLaws.{phase_err, tree_by}
use Rattle.fs_check.proofs.treeing.one_tree.Goals as goal

pub tree-requires : goal.tree-requires
tree-requires c = rising_less 0 1 (omega arith) _ c.requires.rising

pub returns-in_err-tree-clause-found : goal.returns-in_err-tree-clause-found
returns-in_err-tree-clause-found c s same holds =
    let fault = c.in_err-tree.field-0.0 in
    phase_err _ _ (of_names fault) c.from_residual.ensures.1 (tree_by s fault (c.in_err-tree.ensures.found s same holds))

pub returns-in_err-tree-clause-cause : goal.returns-in_err-tree-clause-cause
returns-in_err-tree-clause-cause c count =
    let fault = c.in_err-tree.field-0.0 in
    cause_err _ _ _ (of_names fault) c.from_residual.ensures.1 (own_cause count fault c.in_err-tree.ensures.cause)
