use Rattle.std.proofs.Common.{sym}
use Rattle.std.proofs.lemmas.List.{append-nil}
use Rattle.image_walk.proofs.TreeLaws.{passes_err}
use Rattle.image_walk.proofs.reached.Reached.meet_content.Goals as goal

pub returns-in_err-meet_content-clause-walked : goal.returns-in_err-meet_content-clause-walked
returns-in_err-meet_content-clause-walked c =
    passes_err _ _ _ _ _ c.from_residual.result c.in_err-meet_content.field-0.0 c.from_residual.ensures.1 (c.in_err-meet_content.ensures.walked c.args.owner.now.number c.args.place)

pub returns-clause-walked : goal.returns-clause-walked
returns-clause-walked c = record {
  marks = c.in_ok-meet_content.ensures.walked c.args.owner.now.number c.args.place;
  pages = sym (append-nil c.args.self.now.pages.items);
  kept = c.in_ok-keep_last.ensures.kept;
}
