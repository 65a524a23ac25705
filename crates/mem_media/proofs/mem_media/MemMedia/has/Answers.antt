use Rattle.std.proofs.Common.{Option, List, ℕ, is_some, sym, ◌∙◌, ap}
use Rattle.std.specs.List.{position}
use Rattle.mem_media.specs.declared.named.Named.{Named}
use Rattle.mem_media.proofs.MediaLemmas.{has_name, found_placed, other_image}
use Rattle.mem_media.proofs.mem_media.MemMedia.has.Goals as goal

pub returns-else-is_name : goal.returns-else-is_name
returns-else-is_name c =
    let named = has_name c.args.name.now in
    c.is_some.ensures ∙ ap (λ (o : Option ℕ). is_some o) (c.place.ensures ∙ ap (λ (l : List Named). position named l) c.deref.ensures.value)
    ∙ found_placed c.args.self.now.others.items c.args.name.now ∙ sym (other_image _ _ _ (sym c.is_name.ensures ∙ c.if-is_name.false))
