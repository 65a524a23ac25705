-- The commands that only look are answered by their sort.
use Rattle.std.proofs.Common.{◌∙◌, refl, sym, ap, subst}
use Rattle.tree_model.specs.declared.command.Command.{Command}
use Rattle.tree_model.specs.declared.command.Command.TheVariants.{Read, Space}
use Rattle.volume_core.specs.Answers.{IsReplyTo}
use Rattle.volume_core.proofs.Between.{holds_tree}
use Rattle.volume_core.proofs.LookLaws.{not_counted, told_is, told_no_fault}
use Rattle.volume_core.proofs.ReadLaws.{rest_tells, space_told}
use Rattle.volume_core.proofs.volume.Volume.look.Goals as goal

pub returns-in-Read-clause-reply : goal.returns-in-Read-clause-reply
returns-in-Read-clause-reply g c tells r m is =
    subst (λ (x : Command). IsReplyTo m x c.read.result) (sym (c.in-Read.is ∙ ap (Read c.in-Read.path c.in-Read.offset) (sym c.get.ensures.is))) (c.read.ensures.reply tells r m is)

pub returns-in-Space-clause-reply : goal.returns-in-Space-clause-reply
returns-in-Space-clause-reply g c tells r m is =
    subst (λ (x : Command). IsReplyTo m x c.space.result) (sym c.in-Space.is) (subst (IsReplyTo m Space) (sym c.space.ensures) (space_told r m (g.D.Disk.state c.args.disk.now) c.args.self.now is))

pub tell-requires : goal.tell-requires
tell-requires g c = rest_tells c.args.command.now c.requires.looks c.in_default.not-Read c.in_default.not-Space

pub returns-in_default-clause-reply : goal.returns-in_default-clause-reply
returns-in_default-clause-reply g c tells r m is =
    told_is m c.args.command.now c.tell.result (rest_tells c.args.command.now c.requires.looks c.in_default.not-Read c.in_default.not-Space)
    (c.tell.ensures m.tree is.holds.holds.coherent.tree (holds_tree r m (g.D.Disk.state c.args.disk.now) c.args.self.now is _ c.requires.fits c.table_holds_tree.ensures))

pub returns-in_default-clause-cause : goal.returns-in_default-clause-cause
returns-in_default-clause-cause g c =
    let some = c.requires.fits.tree in
    not_counted _ _ c.tell.result (told_no_fault some.tree c.args.command.now c.tell.result (c.tell.ensures some.tree some.is_tree some.holds)) refl
