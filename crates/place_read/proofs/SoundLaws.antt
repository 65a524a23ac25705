-- Over contents that stand for something no index block of a file is damaged.
use Rattle.std.proofs.Common.{◌≡◌, ℕ, Bool, true, false, List, take, refl, sym, ap, subst, ◌∙◌}
use Rattle.std.specs.Prelude.{All, nat_lt, if◌then◌else◌, IsErrAnd, Result, Ok, Err, Some, None}
use Rattle.vol_numbers.specs.Layout.{Layout}
use Rattle.vol_numbers.specs.declared.block.Block.{Block}
use Rattle.block_format.specs.Index.{IsPointer}
use Rattle.block_format.specs.Inode.{blocks_of}
use Rattle.block_format.specs.Words.{words}
use Rattle.block_format.specs.declared.inode.Inode.{Inode}
use Rattle.block_format.specs.declared.inode.Inode.TheVariants.{Unused, File, Directory}
use Rattle.block_tree.specs.Causes.{IfLookDamaged}
use Rattle.block_tree.specs.Tree.{blocks_in}
use Rattle.block_tree.specs.declared.fault.LookFault.{LookFault}
use Rattle.block_tree.specs.declared.fault.LookFault.TheVariants.{Device, Damaged}
use Rattle.dirty_store.specs.Overlay.{Overlay}
use Rattle.inode_file.specs.Inodes.{InodeTable, inode_of}
use Rattle.place_read.specs.Holding.{HoldsFiles, stored_with}
use Rattle.place_read.specs.Stored.{indexes_in, indexes_of_place}
use Rattle.point_model.proofs.IndexStands.{index_stands}
use Rattle.place_words.specs.Different.{is_among}
use Rattle.point_model.specs.Holding.{inode_before}
use Rattle.volume_model.specs.Machine.{Machine, Rules}

module _ (r : Rules) (m : Machine) (image : List Block) (inodes : InodeTable) (o : Overlay) (holds : HoldsFiles r m image inodes o) (g : Layout) (layout : m.layout ≡ g) (n place b : ℕ) where
  of_inode : (x : Inode) → inode_before image n ≡ x → is_among (indexes_of_place (blocks_in image) x place) b ≡ true → All (IsPointer g) (take 1024 (words (blocks_in image b)))
  of_inode Unused is among = let never : false ≡ true = among in cc
  of_inode (Directory width height ptr) is among = let never : false ≡ true = among in cc
  of_inode (File size height ptr) is among = by (nat_lt place (blocks_of size)) among
    where
      by : (t : Bool) → is_among (indexes_in (blocks_in image) (if t then Some (record { height = height; ptr = ptr }) else None)) b ≡ true → All (IsPointer g) (take 1024 (words (blocks_in image b)))
      by true among = subst (λ (h : Layout). All (IsPointer h) (take 1024 (words (blocks_in image b)))) (sym holds.stands.layout ∙ layout) (index_stands image (stored_with holds.records m) holds.stands n size height ptr b is among)
      by false among = let never : false ≡ true = among in cc

  pub not_damaged : (x : Inode) (bytes : List ℕ) → x ≡ inode_of inodes.inodes n → is_among (indexes_of_place (blocks_in image) x place) b ≡ true → blocks_in image b ≡ bytes → (All (IsPointer g) (take 1024 (words bytes)) → ⊥) → ⊥
  not_damaged x bytes is among stands outside =
      outside (subst (λ (bs : List ℕ). All (IsPointer g) (take 1024 (words bs))) stands
      (of_inode (inode_before image n) refl (subst (λ (y : Inode). is_among (indexes_of_place (blocks_in image) y place) b ≡ true) (is ∙ holds.nodes n) among)))

-- a fault that is passed on names no block
pub none_passed : {T : Type 0} (r : Result T LookFault) (fault : LookFault) → IsErrAnd r (λ f. f ≡ fault) → ((b : ℕ) → fault ≡ Damaged b → ⊥) → IfLookDamaged r (λ b. ⊥)
none_passed (Ok value) fault same none = tt
none_passed {T = T} (Err f) fault same none = by f same
  where
    by : (f : LookFault) → f ≡ fault → IfLookDamaged {T = T} (Err f) (λ b. ⊥)
    by Device same = tt
    by (Damaged b) same = none b (sym same)
