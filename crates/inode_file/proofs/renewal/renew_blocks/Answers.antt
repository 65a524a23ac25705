use Rattle.std.proofs.Common.{◌∙◌, ◌++◌, IsTrue, List, ℕ, ap, sym, subst, refl, arith, length}
use Rattle.std.specs.Prelude.{slice_index}
use Rattle.block_format.specs.Inode.{inode_shape}
use Rattle.block_format.specs.declared.inode.Inode.{Inode}
use Rattle.inode_file.specs.Inodes.{InodeTable, inode_of, block_of}
use Rattle.inode_file.specs.Rewriting.{is_fresh, only_if}
use Rattle.inode_file.specs.Renewal.{IsRenewed}
use Rattle.inode_file.proofs.BlockLaws.{each_in_block, length-block_of}
use Rattle.inode_file.proofs.RenewalLaws.{renewed_start, renewed_more, room_less}
use Rattle.inode_file.proofs.renewal.renew_blocks.Goals as goal

pub loop-k-init : goal.loop-k-init
loop-k-init c = record {
  renewed = renewed_start (record { inodes = c.args.inodes.now; stored = c.args.stored.now; pointers = c.args.pointers.now.ptrs; index = 0 }) c.args.free.now c.args.notes.now (omega arith);
  room = c.requires.free;
}

pub renew_block-requires : goal.renew_block-requires
renew_block-requires c = record {
  many = ap length c.block_of-block.ensures ∙ length-block_of c.args.inodes.now c.loop-k.k (omega arith);
  shape = λ j.
      subst (λ (xs : List Inode). IsTrue (inode_shape (inode_of xs j))) (sym c.block_of-block.ensures)
      (each_in_block (λ x. IsTrue (inode_shape x)) c.args.inodes.now c.loop-k.k refl c.requires.shape j);
  free = λ fresh. let room = c.loop-k.invariant.room in omega (arith, room);
}

pub loop-k-preserved : goal.loop-k-preserved
loop-k-preserved c =
    let inv = c.loop-k.invariant in
    let k = c.loop-k.k in
    let new = c.in_ok-new.new in
    let t : InodeTable = record { inodes = c.args.inodes.now; stored = c.args.stored.now; pointers = c.args.pointers.now.ptrs; index = 0 } in
    let step : IsRenewed (slice_index c.loop-k.pointers.ptrs k) (block_of t.stored k) (block_of t.inodes k) new c.loop-k.free c.renew_block.new.free c.loop-k.notes c.renew_block.new.notes =
    rw (← c.block_of-was.ensures, ← c.block_of-block.ensures) c.in_ok-new.ensures in
    record {
      renewed = renewed_more t k c.loop-k.pointers.ptrs new c.args.free.now c.loop-k.free c.renew_block.new.free c.args.notes.now c.loop-k.notes c.renew_block.new.notes (omega arith) inv.renewed step;
      room = room_less t k new c.loop-k.free c.renew_block.new.free (omega arith) inv.room
          (step.takes.taken ∙ ap (λ (p : ℕ). only_if (is_fresh p (block_of t.stored k) (block_of t.inodes k)) new ++ c.renew_block.new.free) (inv.renewed.rest k (omega arith)));
    }
