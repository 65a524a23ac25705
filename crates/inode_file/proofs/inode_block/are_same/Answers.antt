use Rattle.std.proofs.Common.{◌≡◌, ◌∙◌, refl, sym}
use Rattle.block_format.specs.contracts.inode.InodePartialEq.TheImpl.{eq-value}
use Rattle.block_format.specs.declared.inode.Inode.{Inode}
use Rattle.block_format.specs.declared.inode.Inode.TheVariants.{Unused, File, Directory}
use Rattle.inode_file.specs.Rewriting.{is_same}
use Rattle.inode_file.proofs.BlockLaws.{are_same-pointwise, are_same-Decides}
use Rattle.inode_file.proofs.inode_block.are_same.Goals as goal

each : (x y : Inode) → eq-value.it x y ≡ is_same x y
each Unused Unused = refl
each Unused (File s h p) = refl
each Unused (Directory w h p) = refl
each (File s h p) Unused = refl
each (File s h p) (File t k q) = refl
each (File s h p) (Directory w k q) = refl
each (Directory w h p) Unused = refl
each (Directory w h p) (File t k q) = refl
each (Directory w h p) (Directory v k q) = refl

pub returns-clause-test : goal.returns-clause-test
returns-clause-test c = c.eq.ensures ∙ are_same-pointwise _ each c.args.inodes.now c.args.other.now

pub returns-clause-is : goal.returns-clause-is
returns-clause-is c is = (are_same-Decides c.args.inodes.now c.args.other.now).0 (sym (returns-clause-test c) ∙ is)
