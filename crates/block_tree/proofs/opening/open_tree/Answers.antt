use Rattle.std.proofs.Common.{◌≡◌, ℕ, ap, sym, subst, arith}
use Rattle.std.specs.Prelude.{slice_index}
use Rattle.vol_numbers.specs.Geometry.{layout_of}
use Rattle.block_tree.specs.Tree.{blocks_in}
use Rattle.block_tree.specs.Opened.{Opens, first_of}
use Rattle.block_tree.specs.declared.root.TreeRoot.{TreeRoot}
use Rattle.block_tree.proofs.EntryLaws.{zeros_are_pointers, one_is_pointer, zero_in}
use Rattle.block_tree.proofs.OpeningLaws.{opens_block, opens_leaf, opens_top}
use Rattle.block_tree.proofs.opening.open_tree.Goals as goal

-- a root of a known height
at_height : (root : TreeRoot) (h : ℕ) → root.height ≡ h → root ≡ record { height = h; ptr = root.ptr }
at_height root h e = ap (λ (k : ℕ). let r : TreeRoot = record { height = k; ptr = root.ptr } in r) e

pub returns-then-root-eq0-clause-opened : goal.returns-then-root-eq0-clause-opened
returns-then-root-eq0-clause-opened g c tells =
    let read = blocks_in (g.D.Disk.state c.args.disk.now).contents in
    let root = c.args.root.now in
    subst (λ (r : TreeRoot). Opens read r 0 c.no_pointers.result.ptrs c.no_pointers-then-root-eq0.result.ptrs (first_of read r (slice_index c.no_pointers-then-root-eq0.result.ptrs 0))) (sym (at_height root 0 c.if-root-eq0.true))
    (rw (c.no_pointers.ensures, c.no_pointers-then-root-eq0.ensures) (opens_block read root.ptr 1024 1023))

pub returns-then-root-eq0-clause-leaves : goal.returns-then-root-eq0-clause-leaves
returns-then-root-eq0-clause-leaves g c = rw c.no_pointers-then-root-eq0.ensures (zeros_are_pointers (layout_of c.args.g.now) 1024)

pub returns-then-root-eq0-clause-hole : goal.returns-then-root-eq0-clause-hole
returns-then-root-eq0-clause-hole g c is = rw c.no_pointers-then-root-eq0.ensures (zero_in 1024 0)

pub returns-then-root-eq1-clause-opened : goal.returns-then-root-eq1-clause-opened
returns-then-root-eq1-clause-opened g c tells =
    let read = blocks_in (g.D.Disk.state c.args.disk.now).contents in
    let root = c.args.root.now in
    subst (λ (r : TreeRoot). Opens read r 0 c.no_pointers-then-root-eq1.result.ptrs c.one_pointer.result.ptrs (first_of read r (slice_index c.one_pointer.result.ptrs 0))) (sym (at_height root 1 c.if-root-eq1.true))
    (rw (c.no_pointers-then-root-eq1.ensures, c.one_pointer.ensures) (opens_leaf read root.ptr 1024 1023))

pub returns-then-root-eq1-clause-leaves : goal.returns-then-root-eq1-clause-leaves
returns-then-root-eq1-clause-leaves g c = rw c.one_pointer.ensures (λ k d. one_is_pointer (layout_of c.args.g.now) c.args.root.now.ptr 1023 k d c.requires.root.ptr)

pub returns-clause-opened : goal.returns-clause-opened
returns-clause-opened g c tells =
    let read = blocks_in (g.D.Disk.state c.args.disk.now).contents in
    let root = c.args.root.now in
    let was = c.in_ok-was.was'.ptrs in
    let two : root.height ≡ 2 = omega arith in
    subst (λ (r : TreeRoot). Opens read r root.ptr was was (first_of read r (slice_index was 0))) (sym (at_height root 2 two))
    (opens_top read root.ptr was (c.in_ok-was.ensures.entries tells))
