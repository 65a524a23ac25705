use Rattle.std.proofs.Common.{◌∙◌, sym, subst, Result}
use Rattle.std.specs.Prelude.{IsTrue, OnErr}
use Rattle.std.proofs.lemmas.Bool.{false≢true}
use Rattle.disk_model.specs.Disk.{EachImage}
use Rattle.log_volume.specs.Fits.{StandsForSome, kept_by}
use Rattle.log_volume.specs.declared.answer.Answer.{Answer}
use Rattle.log_volume.specs.declared.answer.Stopped.{Stopped}
use Rattle.command_text.specs.declared.item.Item.{Item}
use Rattle.command_text.specs.declared.item.Item.TheVariants as item
use Rattle.command_server.specs.Items.{added_by}
use Rattle.command_server.proofs.StepLemmas.{stops_now}
use Rattle.command_server.proofs.serving.answer_to.Goals as goal

pub returns-in-Command-clause-left : goal.returns-in-Command-clause-left
returns-in-Command-clause-left g c =
    subst (λ (i : Item). OnErr c.apply.result (IsTrue g.D.Disk.tells → EachImage (StandsForSome (kept_by c.args.volume.now) (added_by c.args.volume.now.root.layout.log_blocks (kept_by c.args.volume.now) i c.apply.result)) (g.D.Disk.state c.apply.new.disk))) (sym c.in-Command.is)
    (stops_now (λ (r : Result Answer Stopped). IsTrue g.D.Disk.tells → EachImage (StandsForSome (kept_by c.args.volume.now) (added_by c.args.volume.now.root.layout.log_blocks (kept_by c.args.volume.now) (item.Command c.in-Command.command) r)) (g.D.Disk.state c.apply.new.disk))
    c.apply.result c.apply.ensures.left (λ before. false≢true (sym c.requires.sound ∙ c.apply.ensures.before.0 before)))
