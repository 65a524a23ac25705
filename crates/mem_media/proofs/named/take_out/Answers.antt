use Rattle.std.proofs.Common.{Some, None, List, ◌≡◌, sym, ◌∙◌, ap}
use Rattle.std.specs.List.{position}
use Rattle.mem_media.specs.declared.named.Named.{Named}
use Rattle.mem_media.proofs.MediaLemmas.{has_name, none_placed, find_placed, find_other}
use Rattle.mem_media.proofs.named.take_out.Goals as goal

pub returns-in_err-i-clause-found : goal.returns-in_err-i-clause-found
returns-in_err-i-clause-found c =
    let named = has_name c.args.name.now in
    let none : position named c.args.images.now.items ≡ None = sym (c.in_err-i.ensures ∙ ap (λ (l : List Named). position named l) c.deref.ensures.value) in
    rw c.from_residual.ensures (sym (none_placed c.args.images.now.items c.args.name.now none))

pub returns-clause-found : goal.returns-clause-found
returns-clause-found c =
    let named = has_name c.args.name.now in
    let some : position named c.args.images.now.items ≡ Some c.in_ok-i.i = sym (c.in_ok-i.ensures ∙ ap (λ (l : List Named). position named l) c.deref.ensures.value) in
    sym (find_placed c.args.images.now.items c.args.name.now c.in_ok-i.i c.remove-disk.result some c.remove-disk.ensures.value)

pub returns-clause-others : goal.returns-clause-others
returns-clause-others c other ne =
    let named = has_name c.args.name.now in
    let some : position named c.args.images.now.items ≡ Some c.in_ok-i.i = sym (c.in_ok-i.ensures ∙ ap (λ (l : List Named). position named l) c.deref.ensures.value) in
    rw c.remove-disk.ensures.items (find_other c.args.images.now.items c.args.name.now other c.in_ok-i.i c.remove-disk.result some ne)
