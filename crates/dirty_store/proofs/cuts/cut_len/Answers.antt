use Rattle.std.proofs.Common.{sym, ap, ◌∙◌, length}
use Rattle.dirty_store.specs.Entries.{cut_at, cut_away}
use Rattle.dirty_store.proofs.KeptLaws.{cut_away-none}
use Rattle.dirty_store.proofs.cuts.cut_len.Goals as goal

pub returns-in-None : goal.returns-in-None
returns-in-None g c =
    let items = c.args.entries.now in
    sym (ap (λ o. length (cut_away (cut_at c.args.number o) items)) c.in-None.is ∙ ap length (cut_away-none items))
