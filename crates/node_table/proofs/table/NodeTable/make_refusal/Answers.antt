use Rattle.std.proofs.Common.{sym, ◌∙◌}
use Rattle.node_table.proofs.RefusalLaws.{make_refused, make_numbered}
use Rattle.node_table.proofs.table.NodeTable.make_refusal.Goals as goal

pub returns-in-Err : goal.returns-in-Err
returns-in-Err c = λ tree h holds content. make_refused _ tree h holds c.args.path.now content c.in-Err.refusal (sym c.may_make.ensures ∙ c.in-Err.is)

pub returns-in-None : goal.returns-in-None
returns-in-None c = λ tree h holds content. make_numbered _ tree h holds c.args.path.now content _ (sym c.may_make.ensures ∙ c.in_default.is) c.next_number.result c.next_number.ensures _ c.in-None.is

pub returns-in-Some : goal.returns-in-Some
returns-in-Some c = λ tree h holds content. make_numbered _ tree h holds c.args.path.now content _ (sym c.may_make.ensures ∙ c.in_default.is) c.next_number.result c.next_number.ensures _ c.in-Some.is
