use Rattle.std.proofs.Common.{sym, ap, ◌∙◌}
use Rattle.dirty_store.specs.Undo.{node_back}
use Rattle.dirty_store.proofs.NodeLaws.{insert_put, succeeded, none_or_some}
use Rattle.dirty_store.proofs.node_change.node_back.Goals as goal

pub returns-in-Some : goal.returns-in-Some
returns-in-Some c =
    let es = c.args.nodes.now.entries in
    succeeded c.insert.result c.insert.ensures.entries c.insert.ensures.absent (none_or_some _ c.requires)
    ∙ insert_put es c.args.number c.in-Some.node ∙ ap (λ o. node_back c.args.number o es) (sym c.in-Some.is)

pub returns-in-None : goal.returns-in-None
returns-in-None c = c.remove.ensures.entries ∙ ap (λ o. node_back c.args.number o c.args.nodes.now.entries) (sym c.in-None.is)
