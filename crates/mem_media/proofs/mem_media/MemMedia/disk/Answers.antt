use Rattle.std.proofs.Common.{Some, None, List, ◌≡◌, false, refl, sym, ◌∙◌, ap, string_bytes, option_map}
use Rattle.std.specs.List.{position}
use Rattle.disk_model.specs.Media.{is_name_of}
use Rattle.mem_media.specs.declared.named.Named.{Named}
use Rattle.mem_media.proofs.MediaLemmas.{has_name, none_placed, found_disk, sets_other}
use Rattle.mem_media.proofs.mem_media.MemMedia.disk.Goals as goal

pub returns-in-Some : goal.returns-in-Some
returns-in-Some c =
    let m = c.args.self.now in
    let named = has_name c.args.name.now in
    let some : position named m.others.items ≡ Some c.in-Some.i = sym (c.in-Some.ensures ∙ ap (λ (l : List Named). position named l) c.deref.ensures.value) in
    let not_open : is_name_of (option_map string_bytes m.name) c.args.name.now ≡ false = sym c.if-is_name.ensures in (
      (refl, λ w. sets_other m c.args.name.now c.in-Some.i c.other_disk.result.now w c.other_disk.ensures.value some not_open, refl),
      rw not_open (sym (found_disk m.others.items c.args.name.now c.in-Some.i c.other_disk.result.now c.other_disk.ensures.value some)),
    )

pub returns-in-None : goal.returns-in-None
returns-in-None c =
    let m = c.args.self.now in
    let named = has_name c.args.name.now in
    let none : position named m.others.items ≡ None = sym (c.in-None.ensures ∙ ap (λ (l : List Named). position named l) c.deref.ensures.value) in
    let not_open : is_name_of (option_map string_bytes m.name) c.args.name.now ≡ false = sym c.if-is_name.ensures in
    ((refl, λ w. tt, refl), rw not_open (sym (none_placed m.others.items c.args.name.now none)))
