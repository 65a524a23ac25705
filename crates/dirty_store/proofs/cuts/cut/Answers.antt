use Rattle.std.proofs.Common.{sym, ap, ◌∙◌, ◌++◌}
use Rattle.std.proofs.lemmas.List.{append-nil}
use Rattle.dirty_store.specs.Entries.{cut_at, cut_away, uncut}
use Rattle.dirty_store.specs.Inside.{all_there}
use Rattle.dirty_store.proofs.KeptLaws.{cut_away-none, uncut-none}
use Rattle.dirty_store.proofs.cuts.cut.Goals as goal

pub returns-in_default-clause-cut : goal.returns-in_default-clause-cut
returns-in_default-clause-cut g c =
    let items = c.args.entries.now.items in
    sym (ap (λ o. uncut (cut_at c.args.number o) items) c.in_default.is ∙ uncut-none items)

pub returns-in_default-clause-was : goal.returns-in_default-clause-was
returns-in_default-clause-was g c =
    let items = c.args.entries.now.items in
    let was = c.args.was.now.items in
    sym (ap (λ o. was ++ all_there (cut_away (cut_at c.args.number o) items)) c.in_default.is ∙ ap (λ r. was ++ all_there r) (cut_away-none items) ∙ append-nil was)
