use Rattle.std.proofs.Common.{◌≡◌, ◌/◌, ◌∙◌, ℕ, List, Some, ap, sym, subst, arith, length}
use Rattle.node_table.specs.declared.change.Change.TheVariants.{Sized}
use Rattle.place_words.specs.Different.{up}
use Rattle.point_model.specs.Staging.{IsEffectOn}
use Rattle.tree_model.specs.Path.{Path}
use Rattle.tree_model.specs.declared.command.Command.{Command}
use Rattle.tree_model.specs.declared.command.Command.TheVariants.{Write, Truncate}
use Rattle.block_tree.proofs.DamageLaws.{damage_like}
use Rattle.command_effect.specs.Blocks.{AreFrom, cut_count}
use Rattle.command_effect.specs.Effects.{CanDo}
use Rattle.command_effect.proofs.BlockLaws.{are_also}
use Rattle.command_effect.proofs.FileEffects.{reaches, written_is_effect, written_places_within, write_on, truncate_on, IsWritten, IsCut}
use Rattle.command_effect.proofs.NodeEffects.{file_back}
use Rattle.command_effect.proofs.effect.sized_effect.Goals as goal

pub returns-in_ok-touched-in-Write-clause-effect : goal.returns-in_ok-touched-in-Write-clause-effect
returns-in_ok-touched-in-Write-clause-effect g c =
    let path : Path = c.in-Write.path in
    let given : List ℕ = c.as_slice.result.now in
    let command : c.args.command.now ≡ Write path c.in-Write.offset given = c.in-Write.is ∙ ap (Write path c.in-Write.offset) (sym c.as_slice.ensures.is) in
    let can = subst (λ (x : Command). CanDo x (Sized c.args.number c.args.size) c.args.nodes.now) command c.requires.done in
    let fits = reaches path c.in-Write.offset given c.args.number c.args.size c.args.nodes.now can in
    written_is_effect _ (λ place bytes is. is.whole) c.in-Write.offset c.args.size c.args.number given c.sized.result c.in_ok-touched-in-Write.touched.items c.in_ok-touched-in-Write.ensures.are c.in_ok-touched-in-Write.ensures.many fits
    c.sized.ensures.sized c.sized.ensures.touched c.requires.largest

pub returns-in_ok-touched-in-Write-clause-places : goal.returns-in_ok-touched-in-Write-clause-places
returns-in_ok-touched-in-Write-clause-places g c =
    let path : Path = c.in-Write.path in
    let given : List ℕ = c.as_slice.result.now in
    let command : c.args.command.now ≡ Write path c.in-Write.offset given = c.in-Write.is ∙ ap (Write path c.in-Write.offset) (sym c.as_slice.ensures.is) in
    let can = subst (λ (x : Command). CanDo x (Sized c.args.number c.args.size) c.args.nodes.now) command c.requires.done in
    let fits = reaches path c.in-Write.offset given c.args.number c.args.size c.args.nodes.now can in
    written_places_within _ (λ place bytes is. is.whole) c.in-Write.offset c.args.size c.args.number given c.sized.result c.in_ok-touched-in-Write.touched.items c.in_ok-touched-in-Write.ensures.are c.in_ok-touched-in-Write.ensures.many fits
    c.sized.ensures.sized c.sized.ensures.touched

pub returns-in_ok-touched-in-Write-clause-on : goal.returns-in_ok-touched-in-Write-clause-on
returns-in_ok-touched-in-Write-clause-on g c tells r m holds nodes =
    let path : Path = c.in-Write.path in
    let given : List ℕ = c.as_slice.result.now in
    let first : ℕ = c.in-Write.offset / 4096 in
    let command : c.args.command.now ≡ Write path c.in-Write.offset given = c.in-Write.is ∙ ap (Write path c.in-Write.offset) (sym c.as_slice.ensures.is) in
    let can = subst (λ (x : Command). CanDo x (Sized c.args.number c.args.size) c.args.nodes.now) command c.requires.done in
    let fits = reaches path c.in-Write.offset given c.args.number c.args.size c.args.nodes.now can in
    let h = holds.coherent.tree in
    let file = file_back c.args.nodes.now m.tree h nodes path c.args.number can.1.before can.1.path_is can.1.was in
    let done = c.in_ok-touched-in-Write.ensures in
    let items : c.sized.result.touched ≡ c.in_ok-touched-in-Write.touched.items = c.sized.ensures.touched in
    let are : AreFrom (IsWritten m h path c.args.number file.0 file.1 c.in-Write.offset given) first c.sized.result.touched =
    subst (AreFrom (IsWritten m h path c.args.number file.0 file.1 c.in-Write.offset given) first) (sym items) (are_also _ _ first c.in_ok-touched-in-Write.touched.items done.are (λ place bytes is. (is.whole, is.laid tells r m holds))) in
    subst (λ (x : Command). IsEffectOn m x c.sized.result) (sym command)
    (write_on m h path c.args.number file.0 file.1 c.in-Write.offset given c.sized.result (omega (arith, fits, c.requires.largest)) c.sized.ensures.sized.number_is c.sized.ensures.sized.cut_is are (ap length items ∙ done.many))

pub returns-in_ok-touched-in-Truncate-clause-on : goal.returns-in_ok-touched-in-Truncate-clause-on
returns-in_ok-touched-in-Truncate-clause-on g c tells r m holds nodes =
    let path : Path = c.in-Truncate.path in
    let size : ℕ = c.args.size in
    let can = subst (λ (x : Command). CanDo x (Sized c.args.number c.args.size) c.args.nodes.now) c.in-Truncate.is c.requires.done in
    let command : c.args.command.now ≡ Truncate path size = c.in-Truncate.is ∙ ap (Truncate path) (sym can.1.size_is) in
    let h = holds.coherent.tree in
    let file = file_back c.args.nodes.now m.tree h nodes path c.args.number c.size_of-before.result can.1.path_is c.size_of-before.ensures in
    let done = c.in_ok-touched-in-Truncate.ensures in
    let items : c.sized-in-Truncate.result.touched ≡ c.in_ok-touched-in-Truncate.touched.items = c.sized-in-Truncate.ensures.touched in
    let are : AreFrom (IsCut m h path c.args.number file.0 file.1 size) (size / 4096) c.sized-in-Truncate.result.touched =
    subst (AreFrom (IsCut m h path c.args.number file.0 file.1 size) (size / 4096)) (sym items) (are_also _ _ (size / 4096) c.in_ok-touched-in-Truncate.touched.items done.are (λ place bytes is. is.cut tells r m holds)) in
    let blocks : c.div_ceil.result ≡ up size 4096 = omega (arith, c.div_ceil.ensures) in
    subst (λ (x : Command). IsEffectOn m x c.sized-in-Truncate.result) (sym command)
    (truncate_on m h path c.args.number file.0 file.1 size c.sized-in-Truncate.result c.requires.largest c.sized-in-Truncate.ensures.sized.number_is (c.sized-in-Truncate.ensures.sized.cut_is ∙ ap (λ (n : ℕ). Some n) blocks) are
    (ap length items ∙ done.many ∙ ap (λ (n : ℕ). cut_count n size) (sym file.2)))

pub returns-in_err-touched-in-Write-clause-sound : goal.returns-in_err-touched-in-Write-clause-sound
returns-in_err-touched-in-Write-clause-sound g c tells r m holds layout =
    damage_like c.from_residual.result c.in_err-touched-in-Write.field-0.0 (λ b. ⊥) (λ b. ⊥) c.from_residual.ensures.1 (c.in_err-touched-in-Write.ensures.sound tells r m holds layout) (λ b is. is)

pub returns-in_err-touched-in-Truncate-clause-sound : goal.returns-in_err-touched-in-Truncate-clause-sound
returns-in_err-touched-in-Truncate-clause-sound g c tells r m holds layout =
    damage_like c.from_residual-in_err-touched-in-Truncate.result c.in_err-touched-in-Truncate.field-0.0 (λ b. ⊥) (λ b. ⊥) c.from_residual-in_err-touched-in-Truncate.ensures.1 (c.in_err-touched-in-Truncate.ensures.sound tells r m holds layout) (λ b is. is)
