-- What the nodes tell is what the tree replies.
use Rattle.std.proofs.Common.{◌≡◌, ◌∙◌, inl, None, sym, ap, subst}
use Rattle.node_table.specs.Held.{HoldsNodes}
use Rattle.tree_model.specs.Step.{refusal_of, step}
use Rattle.tree_model.specs.declared.command.Command.{Command}
use Rattle.tree_model.specs.declared.command.Command.TheVariants.{List as ListOf}
use Rattle.tree_model.specs.declared.reply.Reply.TheVariants.{Entries}
use Rattle.volume_core.specs.Memory.{Memory}
use Rattle.volume_core.proofs.LookLaws.{refused_is, list_is, stat_is, rest_is_done}
use Rattle.volume_core.proofs.volume.Volume.tell.Goals as goal

pub returns-in-Some : goal.returns-in-Some
returns-in-Some c tree is holds =
    let inside = subst (λ (v : Memory). HoldsNodes v.nodes tree) (sym c.self.view_is) holds in
    inl (sym (refused_is tree c.args.command.now c.in-Some.refusal (c.in-Some.ensures tree is inside)))

pub returns-in-Ok : goal.returns-in-Ok
returns-in-Ok c tree is holds =
    let inside = subst (λ (v : Memory). HoldsNodes v.nodes tree) (sym c.self.view_is) holds in
    let free : refusal_of tree (ListOf c.in-List.path) ≡ None = ap (λ (x : Command). refusal_of tree x) (sym c.in-List.is) ∙ sym (c.in_default.ensures tree is inside) in
    inl (ap Entries (c.in-Ok.ensures tree is inside) ∙ sym (ap (λ (x : Command). (step tree x).0) c.in-List.is ∙ list_is tree c.in-List.path free))

pub returns-in-Ok-stat : goal.returns-in-Ok-stat
returns-in-Ok-stat c tree is holds =
    let inside = subst (λ (v : Memory). HoldsNodes v.nodes tree) (sym c.self.view_is) holds in
    inl (sym (ap (λ (x : Command). (step tree x).0) c.in-Stat.is ∙ stat_is tree c.in-Stat.path c.in-Ok-stat.reply (c.in-Ok-stat.ensures tree is inside)))

pub returns-in_default-command : goal.returns-in_default-command
returns-in_default-command c tree is holds =
    let inside = subst (λ (v : Memory). HoldsNodes v.nodes tree) (sym c.self.view_is) holds in
    inl (sym (rest_is_done tree c.args.command.now c.requires c.in_default-command.not-List c.in_default-command.not-Stat (sym (c.in_default.ensures tree is inside))))
