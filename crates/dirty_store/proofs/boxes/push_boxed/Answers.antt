use Rattle.std.proofs.Common.{◌∷◌, [], sym, subst}
use Rattle.dirty_store.specs.Entries.{AreWithin}
use Rattle.dirty_store.proofs.KeptLaws.{append_within}
use Rattle.dirty_store.proofs.boxes.push_boxed.Goals as goal

pub returns-clause-within : goal.returns-clause-within
returns-clause-within g c =
    subst AreWithin (sym c.in_ok-push.ensures.items) (append_within c.args.entries.now.items ((c.args.spot, c.in_ok-item.item) ∷ []) c.requires.within (c.requires.spot, tt))
