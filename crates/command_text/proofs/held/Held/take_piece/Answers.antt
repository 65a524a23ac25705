use Rattle.std.proofs.Common.{◌≡◌, ◌∙◌, ◌+◌, ◌-◌, ◌++◌, ◌≤◌, drop, take, length, ap, replicate, length-drop, arith}
use Rattle.std.specs.Prelude.{vec_len}
use Rattle.command_text.specs.Holding.{Holding}
use Rattle.command_text.proofs.HeldLemmas.{written_behind, old_front}
use Rattle.command_text.proofs.held.Held.take_piece.Goals as goal

pub returns-in-Ok-clause-more : goal.returns-in-Ok-clause-more
returns-in-Ok-clause-more g c =
    let bytes = c.self.inside.bytes.items in
    let end = c.len-end.result in
    let counted : length bytes ≡ end = omega (arith, c.len-end.ensures) in
    let resized : c.resize.new.self.items ≡ take (end + c.args.most) bytes ++ replicate (end + c.args.most - vec_len c.self.inside.bytes) 0 = c.in_default.ensures.items in
    let grown : take end c.deref_mut.result.now ≡ bytes = ap (take end) (c.deref_mut.ensures.value ∙ resized) ∙ old_front bytes (replicate (end + c.args.most - vec_len c.self.inside.bytes) 0) end c.args.most counted in
    let room : c.resize.new.self.len ≡ end + c.args.most = c.in_default.ensures.len in
    let within : c.in-Ok.count ≤ length c.take.new.into = c.in-Ok.ensures.within in
    let into : length c.take.new.into ≤ c.args.most = omega (arith, c.take.auto.into, c.deref_mut.ensures.len, length-drop end c.deref_mut.result.now) in
    let cut = c.truncate.ensures.items in
    record {
      piece = take c.in-Ok.count c.take.new.into;
      takes = c.in-Ok.ensures.taken;
      behind = ap (drop c.self.inside.at) (rw grown at cut) ∙ written_behind bytes c.take.new.into _ _ c.self.inside.at end c.in-Ok.count c.resize.new.self.len counted (omega arith) within (omega arith) ∙ ap (λ (h : Holding). h.bytes ++ take c.in-Ok.count c.take.new.into) c.self.view_is;
    }
