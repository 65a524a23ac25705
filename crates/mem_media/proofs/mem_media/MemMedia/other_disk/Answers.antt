use Rattle.std.proofs.Common.{Option, Some, ◌≡◌, refl, sym, ap, arith, slice_get, option_map}
use Rattle.std.proofs.lemmas.Option.{slice_get_read}
use Rattle.mem_media.specs.Lending.{with_named}
use Rattle.mem_media.specs.declared.named.Named.{Named}
use Rattle.mem_media.proofs.mem_media.MemMedia.other_disk.Goals as goal

pub returns : goal.returns
returns c =
    let m = c.args.self.now in
    let there : slice_get m.others.items c.args.i ≡ Some c.index_mut-named.result.now = slice_get_read m.others.items _ c.args.i c.index_mut-named.result.now refl (omega (arith, c.requires, m.others.ok.0)) c.index_mut-named.ensures.value in
    ((refl, λ w. ap (λ (o : Option Named). with_named m c.args.i o w) (sym there)), record { writes_back = tt; value = ap (λ (o : Option Named). option_map (λ (n : Named). n.disk) o) there })
