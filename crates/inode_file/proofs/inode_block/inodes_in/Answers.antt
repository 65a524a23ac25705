use Rattle.std.proofs.Common.{◌≡◌, ◌∙◌, ℕ, ap, sym, subst, arith, ⊎_elim, length, length-set, List}
use Rattle.std.specs.Prelude.{Some, slice_set}
use Rattle.std.proofs.lemmas.Bool.{cases_eq}
use Rattle.std.proofs.lemmas.List.{get_or-set_same, get_or-set_other}
use Rattle.vol_numbers.specs.Geometry.{layout_of}
use Rattle.block_format.specs.Inode.{inode_at, inode_part}
use Rattle.block_format.specs.declared.inode.Inode.{Inode}
use Rattle.block_format.specs.declared.inode.Inode.TheVariants.{Unused}
use Rattle.inode_file.specs.Inodes.{inode_of}
use Rattle.inode_file.specs.Loading.{IsWhole}
use Rattle.inode_file.proofs.BlockLaws.{at_inode, unused_in, unused_is_whole}
use Rattle.inode_file.proofs.inode_block.inodes_in.Goals as goal

pub loop-j-init : goal.loop-j-init
loop-j-init c = record {
  many = ap (λ (xs : List Inode). length xs) c.no_inodes-inodes.ensures;
  spelled = λ i lt. absurd (omega (arith, lt));
  whole = λ i. subst (λ (x : Inode). IsWhole (layout_of c.args.g.now) x) (sym (ap (λ (xs : List Inode). inode_of xs i) c.no_inodes-inodes.ensures ∙ unused_in 64 i)) (unused_is_whole (layout_of c.args.g.now));
}

pub loop-j-preserved : goal.loop-j-preserved
loop-j-preserved c =
    let j = c.loop-j.j in
    let new = c.in_ok-inodes.field-0 in
    let found = c.in_ok-inodes.ensures.found in
    let here : (i : ℕ) → i ≡ j → new ≡ inode_of (slice_set c.loop-j.inodes j new) i = λ i e. sym (ap (λ (k : ℕ). inode_of (slice_set c.loop-j.inodes j new) k) e ∙ get_or-set_same c.loop-j.inodes j new Unused (omega arith)) in
    record {
      many = length-set c.loop-j.inodes j new ∙ c.loop-j.invariant.many;
      spelled = λ i lt. ⊎_elim
          (λ (e : i ≡ j). ap (λ (k : ℕ). inode_at (inode_part k c.args.block.now.bytes)) e ∙ (at_inode new _ found.is ∙ ap Some (here i e)))
          (λ (ne : i ≡ j → ⊥). c.loop-j.invariant.spelled i (omega (arith, lt, ne)) ∙ ap Some (sym (get_or-set_other c.loop-j.inodes j i new Unused ne)))
          (cases_eq i j);
      whole = λ i. ⊎_elim
          (λ (e : i ≡ j). subst (λ (x : Inode). IsWhole (layout_of c.args.g.now) x) (here i e) (record { shape = found.is.shape; pointer = found.pointer }))
          (λ (ne : i ≡ j → ⊥). subst (λ (x : Inode). IsWhole (layout_of c.args.g.now) x) (sym (get_or-set_other c.loop-j.inodes j i new Unused ne)) (c.loop-j.invariant.whole i))
          (cases_eq i j);
    }
