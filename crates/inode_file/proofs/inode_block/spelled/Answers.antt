use Rattle.std.proofs.Common.{◌≡◌, ◌∙◌, ℕ, ap, arith, ⊎_elim, sym}
use Rattle.std.specs.Prelude.{Some}
use Rattle.std.proofs.lemmas.Bool.{cases_eq}
use Rattle.block_format.specs.Inode.{inode_at, inode_part}
use Rattle.inode_file.specs.Inodes.{inode_of}
use Rattle.inode_file.proofs.BlockLaws.{at_spelled}
use Rattle.inode_file.proofs.inode_block.spelled.Goals as goal

pub loop-j-preserved : goal.loop-j-preserved
loop-j-preserved c i lt =
    let j = c.loop-j.j in
    let bytes = c.write_inode.new.into.bytes in
    ⊎_elim
    (λ (e : i ≡ j). ap (λ (k : ℕ). inode_at (inode_part k bytes)) e
    ∙ (at_spelled (inode_of c.args.inodes.now j) (inode_part j bytes) (c.requires.shape j) c.write_inode.ensures.spelled c.write_inode.ensures.reads_back ∙ ap (λ (k : ℕ). Some (inode_of c.args.inodes.now k)) (sym e)))
    (λ (ne : i ≡ j → ⊥). ap inode_at (c.write_inode.ensures.others i ne) ∙ c.loop-j.invariant i (omega (arith, lt, ne)))
    (cases_eq i j)
