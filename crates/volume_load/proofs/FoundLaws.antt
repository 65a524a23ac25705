-- Where an image stands for something, nothing is found of its inodes.
use Rattle.std.proofs.Common.{◌≡◌, ℕ, ◌<◌, true, List, length, sym, ap, subst, ◌∙◌, arith}
use Rattle.std.specs.Prelude.{All, Result, Ok, Err}
use Rattle.std.specs.Result.{IsErrAnd}
use Rattle.vol_numbers.specs.Geometry.{layout_of}
use Rattle.vol_numbers.specs.Layout.{IsValid}
use Rattle.vol_numbers.specs.declared.block.Block.{Block}
use Rattle.disk_model.specs.Disk.{Given}
use Rattle.block_format.specs.Index.{IsInArea, IsPointer}
use Rattle.block_format.specs.Root.{Root}
use Rattle.block_format.specs.declared.inode.Inode.{Inode}
use Rattle.block_format.specs.declared.root.RootBody.{RootBody}
use Rattle.block_tree.specs.Tree.{blocks_in, index_at}
use Rattle.block_tree.specs.Causes.{HasTreeCause}
use Rattle.block_tree.specs.declared.fault.TreeFault.{TreeFault}
use Rattle.block_tree.specs.declared.fault.TreeFault.TheVariants as trees
use Rattle.fs_check.specs.Cause.{HasFaultCause}
use Rattle.fs_check.specs.declared.fault.CheckFault.{CheckFault}
use Rattle.image_model.specs.Seen.{seen}
use Rattle.image_model.specs.Slots.{inode_of as inode_among}
use Rattle.inode_file.specs.Inodes.{SpellsInodes}
use Rattle.inode_file.specs.Laws.{NotDamaged}
use Rattle.inode_file.specs.Loading.{HasDamage, IsWhole}
use Rattle.volume_load.specs.Known.{AreSound, AreWhole, FindsNothing, HasInodes, IsNoFinding, IsOfImage, of_tree}
use Rattle.volume_load.proofs.NumberLaws.{whole_among}
use Rattle.volume_load.proofs.SeenInodes.{seen_spelled}
use Rattle.volume_load.proofs.SeenPointers.{seen_whole}

module _ (image : List Block) (body : RootBody) (nodes : List (ℕ × Inode)) (is : IsOfImage image body nodes) where
  -- the index is in the area, and the inodes are whole
  pub sound_of : AreSound (layout_of body.geometry) body.inode_index nodes
  sound_of =
      let met = seen_whole image is.stored is.stands in
      record {
        index_in = subst (λ (r : Root). IsInArea r.layout r.inode_index) (sym is.root) met.index_in;
        whole = subst (λ (ns : List (ℕ × Inode)). AreWhole (layout_of body.geometry) ns) is.inodes (subst (λ (r : Root). AreWhole r.layout (seen image).nodes) (sym is.root) met.whole);
      }

  entries : All (IsPointer (layout_of body.geometry)) (index_at (blocks_in image) body.inode_index)
  entries = subst (λ (r : Root). All (IsPointer r.layout) (index_at (blocks_in image) r.inode_index)) (sym is.root) (seen_whole image is.stored is.stands).entries

  module _ (valid : IsValid (layout_of body.geometry)) (inodes : List Inode) (many : length inodes ≡ 65536) (has : HasInodes nodes inodes) where
    spelled : SpellsInodes (blocks_in image) body.inode_index inodes
    spelled = subst (λ (r : Root). SpellsInodes (blocks_in image) r.inode_index inodes) (sym is.root) (seen_spelled image is.stored is.stands inodes many (λ n. has n ∙ ap (λ ns. inode_among ns n) (sym is.inodes)))

    some : 0 < body.inode_index
    some = let low = sound_of.index_in.0 in omega (arith, low)

    -- so none of their blocks is damaged
    pub none_damaged : NotDamaged → (old new : Given) (fault : TreeFault) → HasDamage (layout_of body.geometry) true (blocks_in image) body.inode_index old new fault → IsNoFinding (of_tree fault)
    none_damaged law old new trees.Device damage = tt
    none_damaged law old new (trees.Damaged b) damage =
        law (layout_of body.geometry) (blocks_in image) body.inode_index inodes valid some spelled entries
        (λ n. subst (λ (x : Inode). IsWhole (layout_of body.geometry) x) (sym (has n)) (whole_among (layout_of body.geometry) nodes sound_of.whole n)) old new b damage
    none_damaged law old new trees.OutOfMemory damage = tt

-- ---- faults that are passed on

pub tree_cause : (T : Type 0) (old new : ℕ) (fault : TreeFault) → HasTreeCause {T = T} old new (Err fault) → HasFaultCause old new (of_tree fault)
tree_cause T old new trees.Device has = has
tree_cause T old new (trees.Damaged b) has = has
tree_cause T old new trees.OutOfMemory has = has

pub nothing_found : {T : Type 0} (r : Result T CheckFault) (fault : CheckFault) → IsErrAnd r (λ f. f ≡ fault) → IsNoFinding fault → FindsNothing r
nothing_found (Ok value) fault same none = absurd same
nothing_found (Err f) fault same none = subst IsNoFinding (sym same) none
