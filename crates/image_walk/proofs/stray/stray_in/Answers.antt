use Rattle.std.proofs.Common.{◌≡◌, ◌∙◌, sym, ap, ℕ, refl}
use Rattle.std.specs.Prelude.{slice_index}
use Rattle.block_format.specs.Inode.{node_bytes}
use Rattle.image_walk.specs.Inodes.{stray_of}
use Rattle.image_walk.proofs.StrayLaws.{ptr_in, ptr_read, none_without_pointer, some_spelled}
use Rattle.image_walk.proofs.stray.stray_in.Goals as goal

pub returns-then-ptr-eq0 : goal.returns-then-ptr-eq0
returns-then-ptr-eq0 c = sym (none_without_pointer c.args.bytes.now (sym (ptr_read c.args.bytes.now) ∙ (sym c.read_u32-ptr.ensures ∙ c.if-ptr-eq0.true)))

pub returns : goal.returns
returns c =
    let bytes = c.args.bytes.now in
    let kind : ℕ = slice_index bytes 0 in
    let ptr : c.read_u32-ptr.result ≡ ptr_in bytes = c.read_u32-ptr.ensures ∙ ptr_read bytes in
    let spelled : bytes ≡ node_bytes kind 0 (ptr_in bytes) 0 = c.if-not-is_same.ensures.0 refl ∙ (c.stray_bytes.ensures ∙ ap (λ (p : ℕ). node_bytes kind 0 p 0) ptr) in
    c.stray_of.ensures ∙ (ap (stray_of kind) ptr ∙ sym (some_spelled bytes spelled (λ e. c.if-ptr-eq0.false (ptr ∙ e))))
