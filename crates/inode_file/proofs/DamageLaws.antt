-- Blocks that spell inodes are not damaged.
use Rattle.std.proofs.Common.{◌≡◌, ◌<◌, ◌≤◌, ⊎_elim, ℕ, zero, suc, ◌==◌, ◌^◌, Bool, true, false, cond, List, [], ◌∷◌, length, refl, ap, sym, ◌∙◌, subst, arith}
use Rattle.std.specs.Prelude.{All, slice_index, take, nat_eq, bytes_eq, Some, None}
use Rattle.std.proofs.lemmas.Bool.{eqb-true}
use Rattle.std.proofs.lemmas.Bool.Decides.{nat_tests}
use Rattle.std.proofs.lemmas.Slice.Eq.{bytes_eq-Decides}
use Rattle.vol_numbers.specs.Layout.{Layout, IsValid}
use Rattle.block_format.specs.Words.{words}
use Rattle.block_format.specs.Index.{IsPointer, IsInArea}
use Rattle.block_format.specs.Inode.{inode_at, inode_in, inode_bytes, inode_part, inode_shape, is_inode, pointer_of}
use Rattle.block_format.specs.declared.inode.Inode.{Inode}
use Rattle.place_words.specs.Different.{is_among}
use Rattle.block_tree.specs.Tree.{Blocks, index_at}
use Rattle.inode_file.specs.Inodes.{inode_of, block_of, SpellsInodeAt}
use Rattle.inode_file.specs.Laws.{NotDamaged}
use Rattle.inode_file.specs.Loading.{IsWhole, IsNoIndex, IsNoBlockOf}
use Rattle.inode_file.proofs.BlockLaws.{each_in_block, unused_is_whole}
use Rattle.inode_file.proofs.CountingLaws.{or_cases}
use Rattle.inode_file.proofs.RenewalLaws.{second_true}

-- a number among others stands somewhere
among_from : (ns : List ℕ) (b : ℕ) → is_among ns b ≡ true → (k : ℕ) × (k < length ns) × (slice_index ns k ≡ b)
among_from [] b e = let f : false ≡ true = e in cc
among_from (n ∷ ns) b e = ⊎_elim
    (λ here. (0, omega arith, eqb-true n b here))
    (λ rest. let r = among_from ns b rest in let lt = r.1 in (suc r.0, omega (arith, lt), r.2))
    (or_cases (nat_eq n b) (is_among ns b) e)

-- what bytes spell that are read as an inode
at_read : (bytes : List ℕ) (inode : Inode) → inode_at bytes ≡ Some inode → bytes ≡ inode_bytes inode
at_read bytes inode e = by_test (is_inode bytes) refl e
  where
    by_test : (t : Bool) → is_inode bytes ≡ t → cond t (Some (inode_in bytes)) None ≡ Some inode → bytes ≡ inode_bytes inode
    by_test true is f =
        let same : inode_in bytes ≡ inode = cc in
        sym ((bytes_eq-Decides (inode_bytes (inode_in bytes)) bytes).0 (second_true (inode_shape (inode_in bytes)) (bytes_eq (inode_bytes (inode_in bytes)) bytes) is)) ∙ ap inode_bytes same
    by_test false is f = cc

there : (read : Blocks) (b j : ℕ) (x : Inode) → 0 < b → SpellsInodeAt read b j x → inode_at (inode_part j (read b)) ≡ Some x
there read zero j x some is = absurd (omega (arith, some))
there read (suc b) j x some is = is

take_at_most : (n : ℕ) (xs : List ℕ) → length (take n xs) ≤ n
take_at_most zero xs = omega arith
take_at_most (suc n) [] = omega arith
take_at_most (suc n) (x ∷ xs) = omega (arith, take_at_most n xs)

is_some : (q : ℕ) → 0 < q → (q == 0) ≡ false
is_some q lt = grind (arith, nat_tests)

pointer_small : (g : Layout) (p : ℕ) → IsValid g → IsPointer g p → p < 2 ^ 32
pointer_small g p valid is = ⊎_elim (λ (e : p ≡ 0). omega (arith, e)) (λ (area : IsInArea g p). omega (arith, area.1, valid.blocks_at_most)) is

pub not_damaged : NotDamaged
not_damaged g contents index inodes valid some spelled pointers whole old new b damage = ⊎_elim index_bad block_bad damage.outside
  where
    entries : index_at contents index ≡ take 1024 (words (contents index))
    entries = ap (λ (t : Bool). cond t [] (take 1024 (words (contents index)))) (is_some index some)

    index_bad : IsNoIndex g index b new.block.bytes → ⊥
    index_bad bad =
        let bytes : contents index ≡ new.block.bytes = ap contents (sym bad.is) ∙ damage.stands refl in
        bad.pointer (subst (λ (ps : List ℕ). All (IsPointer g) ps) (entries ∙ ap (λ (bs : List ℕ). take 1024 (words bs)) bytes) pointers)

    block_bad : IsNoBlockOf g true contents index b new.block.bytes → ⊥
    block_bad bad =
        let found = among_from (index_at contents index) b (bad.among refl) in
        let k : ℕ = found.0 in
        let below = found.1 in
        let j : ℕ = bad.outside.position in
        let x : Inode = inode_of (block_of inodes k) j in
        let within : k < 1024 = omega (arith, below, ap length entries, take_at_most 1024 (words (contents index))) in
        let stands = there contents b j x bad.some (subst (λ (p : ℕ). SpellsInodeAt contents p j x) found.2 (spelled.each k within j bad.outside.below)) in
        let part : inode_part j new.block.bytes ≡ inode_bytes x = at_read (inode_part j new.block.bytes) x (ap (λ (bs : List ℕ). inode_at (inode_part j bs)) (sym (damage.stands refl)) ∙ stands) in
        let is : IsWhole g x = each_in_block (IsWhole g) inodes k (unused_is_whole g) whole j in
        bad.outside.outside x (record { is = record { shape = is.shape; number = pointer_small g (pointer_of x) valid is.pointer; spelled = part }; pointer = is.pointer })
