use Rattle.std.proofs.Common.{◌≡◌, ◌∙◌, ℕ, true, IsTrue, List, None, ap, sym, subst, arith}
use Rattle.std.specs.Prelude.{Err}
use Rattle.std.specs.FinMap.{find}
use Rattle.std.specs.Option.{option_copied}
use Rattle.vol_numbers.specs.declared.block.Block.{Block}
use Rattle.vol_numbers.specs.Geometry.{layout_of}
use Rattle.vol_numbers.specs.Layout.{Layout}
use Rattle.disk_model.specs.Disk.{State}
use Rattle.block_format.specs.declared.inode.Inode.{Inode}
use Rattle.block_tree.specs.Causes.{IfLookDamaged, IsLookDamage}
use Rattle.block_tree.specs.Tree.{blocks_in}
use Rattle.block_tree.specs.declared.fault.LookFault.{LookFault}
use Rattle.place_words.specs.Different.{is_among}
use Rattle.place_read.specs.Stored.{block_of_place, bytes_at, indexes_of_place}
use Rattle.place_read.proofs.BlockLaws.{zero_bytes}
use Rattle.place_read.proofs.Places.{cut_bytes, left_bytes}
use Rattle.place_read.proofs.SoundLaws.{none_passed, not_damaged}
use Rattle.place_read.proofs.place.read_place.Goals as goal
use Rattle.volume_model.specs.Places.{spot_cmp}

pub returns-then-cut_to-place-clause-read : goal.returns-then-cut_to-place-clause-read
returns-then-cut_to-place-clause-read g c tells r m holds =
    let free : find spot_cmp (c.args.number, c.args.place) _ ≡ None = sym c.block.ensures ∙ ap option_copied c.in_default.is in
    ap (λ (b : Block). b.bytes) c.zero.ensures ∙ sym zero_bytes
    ∙ cut_bytes r m (g.D.Disk.state c.args.disk.now).contents c.args.inodes.now c.args.dirty.now.overlay holds (c.args.number, c.args.place) free (omega (arith, c.if-cut_to-place.true, c.cut_to.ensures))

pub returns-clause-read : goal.returns-clause-read
returns-clause-read g c tells r m holds =
    let image = (g.D.Disk.state c.args.disk.now).contents in
    let free : find spot_cmp (c.args.number, c.args.place) _ ≡ None = sym c.block.ensures ∙ ap option_copied c.in_default.is in
    left_bytes r m image c.args.inodes.now c.args.dirty.now.overlay holds c.args.number c.args.place c.read_stored.new.into.bytes free
    (omega (arith, c.if-cut_to-place.false, c.cut_to.ensures)) c.block_is_whole.ensures
    (c.in_ok-read_stored.ensures.read tells ∙ ap (λ (x : Inode). bytes_at (blocks_in image) (block_of_place (blocks_in image) x c.args.place)) c.get.ensures.is)

pub returns-in_err-read_stored-clause-sound : goal.returns-in_err-read_stored-clause-sound
returns-in_err-read_stored-clause-sound g c tells r m holds layout =
    none_passed c.from_residual.result c.in_err-read_stored.field-0.0 c.from_residual.ensures.1 (λ b is.
    let layout_now : Layout = layout_of c.args.g.now in
    let contents : List Block = (g.D.Disk.state c.args.disk.now).contents in
    let damage = subst (λ (f : LookFault). IsLookDamage {T = Unit {0}} layout_now g.D.Disk.tells (blocks_in (g.D.Disk.state c.read_stored.new.disk).contents) (g.D.Disk.given c.args.disk.now) (g.D.Disk.given c.read_stored.new.disk) (Err f)) is c.in_err-read_stored.ensures.damaged in
    let among = subst (λ (f : LookFault). IfLookDamaged {T = Unit {0}} (Err f) (λ k. IsTrue g.D.Disk.tells → is_among (indexes_of_place (blocks_in contents) c.get.result c.args.place) k ≡ true)) is c.in_err-read_stored.ensures.among in
    not_damaged r m contents c.args.inodes.now c.args.dirty.now.overlay holds layout_now layout c.args.number c.args.place b c.get.result (g.D.Disk.given c.read_stored.new.disk).block.bytes c.get.ensures.is (among tells)
    (ap (λ (s : State). blocks_in s.contents b) (sym (c.in_err-read_stored.ensures.same tells)) ∙ damage.stands tells) damage.pointer)
