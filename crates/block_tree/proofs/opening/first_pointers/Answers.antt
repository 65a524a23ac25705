use Rattle.block_tree.specs.Tree.{blocks_in}
use Rattle.vol_numbers.specs.Geometry.{layout_of}
use Rattle.block_tree.proofs.EntryLaws.{one_is_pointer}
use Rattle.block_tree.proofs.OpeningLaws.{one_same, first_moved}
use Rattle.block_tree.proofs.opening.first_pointers.Goals as goal

pub returns-then-root-eq0-clause-entries : goal.returns-then-root-eq0-clause-entries
returns-then-root-eq0-clause-entries g c tells =
    let read = blocks_in (g.D.Disk.state c.args.disk.now).contents in
    rw (first_moved read c.args.root.now c.args.leaf c.if-root-eq0.true, c.one_pointer.ensures) (one_same c.args.root.now.ptr 1023)

pub returns-then-root-eq0-clause-pointers : goal.returns-then-root-eq0-clause-pointers
returns-then-root-eq0-clause-pointers g c = rw c.one_pointer.ensures (λ k d. one_is_pointer (layout_of c.args.g.now) c.args.root.now.ptr 1023 k d c.requires.root)
