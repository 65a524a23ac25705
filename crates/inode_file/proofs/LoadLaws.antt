-- Inodes that are read block by block.
use Rattle.std.proofs.Common.{◌≡◌, ◌<◌, ◌≤◌, ⊎_elim, ℕ, zero, suc, ◌+◌, ◌*◌, Bool, true, List, [], ◌∷◌, ◌++◌, length, take, drop, ap, sym, ◌∙◌, subst, arith}
use Rattle.std.specs.Prelude.{Result, Ok, Err, slice_index, ◌||◌, nat_eq}
use Rattle.std.specs.Result.{IsErrAnd}
use Rattle.std.proofs.lemmas.Bool.{cases_eq}
use Rattle.std.proofs.lemmas.List.{drop-append-le, drop_at, take-append-le, take_all, length-drop}
use Rattle.std.proofs.lemmas.Bool.Decides.{nat_tests}
use Rattle.place_words.specs.Different.{is_among}
use Rattle.vol_numbers.specs.Layout.{Layout}
use Rattle.disk_model.specs.Disk.{Given}
use Rattle.block_format.specs.declared.inode.Inode.{Inode}
use Rattle.block_tree.specs.Tree.{Blocks}
use Rattle.block_tree.specs.declared.fault.TreeFault.{TreeFault}
use Rattle.block_tree.specs.declared.fault.TreeFault.TheVariants.{Device, Damaged, OutOfMemory}
use Rattle.inode_file.specs.Inodes.{block_of, inode_of}
use Rattle.inode_file.specs.Loading.{HasDamage, IsLoadDamage}
use Rattle.inode_file.proofs.CountingLaws.{or_second}

-- a call that began earlier
pub damage_earlier : (g : Layout) (tells : Bool) (contents : Blocks) (index : ℕ) (old middle new : Given) (fault : TreeFault) → old.count ≤ middle.count
    → HasDamage g tells contents index middle new fault → HasDamage g tells contents index old new fault
damage_earlier g tells contents index old middle new Device le is = tt
damage_earlier g tells contents index old middle new (Damaged b) le is = record { number = is.number; rose = omega (arith, le, is.rose); outside = is.outside; stands = is.stands }
damage_earlier g tells contents index old middle new OutOfMemory le is = tt

-- whose fault is passed on
pub damage_passed : {T : Type 0} (g : Layout) (tells : Bool) (contents : Blocks) (index : ℕ) (old middle new : Given) (r : Result T TreeFault) (fault : TreeFault)
    → IsErrAnd r (λ f. f ≡ fault) → old.count ≤ middle.count → HasDamage g tells contents index middle new fault → IsLoadDamage g tells contents index old new r
damage_passed g tells contents index old middle new (Ok value) fault same le is = absurd same
damage_passed g tells contents index old middle new (Err f) fault same le is =
    damage_earlier g tells contents index old middle new f le (subst (λ (e : TreeFault). HasDamage g tells contents index middle new e) (sym same) is)

-- what holds of each inode of two lists
pub each_more : (P : Inode → Type 0) (xs ys : List Inode) → ((n : ℕ) → P (inode_of xs n)) → ((n : ℕ) → P (inode_of ys n)) → (n : ℕ) → P (inode_of (xs ++ ys) n)
each_more P [] ys p q n = q n
each_more P (x ∷ xs) ys p q zero = p 0
each_more P (x ∷ xs) ys p q (suc n) = each_more P xs ys (λ m. p (suc m)) q n

-- each pointer is among them
pub among_at : (ns : List ℕ) (k : ℕ) → k < length ns → is_among ns (slice_index ns k) ≡ true
among_at [] k lt = absurd (omega (arith, lt))
among_at (n ∷ ns) zero lt = ap (λ (t : Bool). t || is_among ns n) (itself n)
  where
    itself : (m : ℕ) → nat_eq m m ≡ true
    itself m = grind (arith, nat_tests)
among_at (n ∷ ns) (suc k) lt = or_second (nat_eq n (slice_index ns k)) (is_among ns (slice_index ns k)) (among_at ns k (omega (arith, lt)))

-- the last 64 inodes
pub last_block : (inodes block : List Inode) (k : ℕ) → length inodes ≡ 64 * k → length block ≡ 64 → block_of (inodes ++ block) k ≡ block
last_block inodes block k long full = ap (λ (xs : List Inode). take 64 xs) (drop_at inodes block (64 * k) long) ∙ take_all 64 block (omega (arith, full))

-- those before
pub earlier_block : (inodes block : List Inode) (j k : ℕ) → j < k → length inodes ≡ 64 * k → block_of (inodes ++ block) j ≡ block_of inodes j
earlier_block inodes block j k lt long =
    ap (λ (xs : List Inode). take 64 xs) (drop-append-le (64 * j) inodes block (omega (arith, long, lt)))
    ∙ take-append-le 64 (drop (64 * j) inodes) block (omega (arith, length-drop (64 * j) inodes, long, lt))

-- what holds of each block, after one more was read
pub blocks_more : (P : ℕ → List Inode → Type 0) (inodes block : List Inode) (k : ℕ) → length inodes ≡ 64 * k → length block ≡ 64 → ((j : ℕ) → j < k → P j (block_of inodes j)) → P k block
    → (j : ℕ) → j < k + 1 → P j (block_of (inodes ++ block) j)
blocks_more P inodes block k long full before is j lt = ⊎_elim
    (λ (e : j ≡ k). subst (λ (i : ℕ). P i (block_of (inodes ++ block) i)) (sym e) (subst (λ (b : List Inode). P k b) (sym (last_block inodes block k long full)) is))
    (λ (ne : j ≡ k → ⊥). subst (λ (b : List Inode). P j b) (sym (earlier_block inodes block j k (omega (arith, lt, ne)) long)) (before j (omega (arith, lt, ne))))
    (cases_eq j k)
