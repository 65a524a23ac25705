use Rattle.std.proofs.Common.{◌≡◌, ◌+◌, Bool, true, false, cond, List, ap, sym, ◌∙◌, arith}
use Rattle.block_format.specs.declared.inode.Inode.{Inode}
use Rattle.inode_file.specs.Inodes.{block_of}
use Rattle.inode_file.specs.Rewriting.{has_used}
use Rattle.inode_file.proofs.CountingLaws.{left_all, left_from, left_none, left_step}
use Rattle.inode_file.proofs.renewal.count_used.Goals as goal
use Rattle.inode_file.proofs.renewal.count_used.Goals.{then-has_used, else-has_used}

pub loop-k-init : goal.loop-k-init
loop-k-init c = record { counted = omega (arith, left_all c.args.inodes.now c.requires); at_most = omega arith }

pub loop-k-preserved : goal.loop-k-preserved
loop-k-preserved c =
    let inodes : List Inode = c.args.inodes.now in
    let k = c.loop-k.k in
    let inv = c.loop-k.invariant in
    let step = left_step inodes k c.loop-k-test.true in
    let at : c.has_used.result ≡ has_used (block_of inodes k) = c.has_used.ensures ∙ ap has_used c.block_of.ensures in
    elim c.if-has_used.branch [
      | then-has_used w ↦ let is : has_used (block_of inodes k) ≡ true = sym at ∙ w.if-has_used.true in
          let one : left_from inodes k ≡ 1 + left_from inodes (k + 1) = step ∙ ap (λ (t : Bool). cond t 1 0 + left_from inodes (k + 1)) is in
          record { counted = omega (arith, w.count-is, one, inv.counted); at_most = omega (arith, w.count-is, inv.at_most) }
      | else-has_used w ↦ let is : has_used (block_of inodes k) ≡ false = sym at ∙ w.if-has_used.false in
          let none : left_from inodes k ≡ 0 + left_from inodes (k + 1) = step ∙ ap (λ (t : Bool). cond t 1 0 + left_from inodes (k + 1)) is in
          record { counted = omega (arith, w.count-is, none, inv.counted); at_most = omega (arith, w.count-is, inv.at_most) }
    ]

pub returns-clause-is : goal.returns-clause-is
returns-clause-is c = omega (arith, left_none c.args.inodes.now c.loop-k.k (omega arith), c.loop-k.invariant.counted)
