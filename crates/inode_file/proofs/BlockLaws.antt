-- Inodes in blocks.
use Rattle.std.proofs.Common.{◌≡◌, ◌<◌, ◌≤◌, ◌+◌, ◌*◌, ℕ, zero, suc, IsTrue, Bool, true, List, [], ◌∷◌, length, take, drop, refl, ap, ap₂, sym, ◌∙◌, arith, inl, replicate, cond}
use Rattle.std.specs.Prelude.{◌&&◌, bytes_eq, Some, None}
use Rattle.std.specs.Bool.{Decides}
use Rattle.std.specs.Cmp.Lexicographic.{pointwise}
use Rattle.std.proofs.lemmas.Bool.Decides.{nat_tests}
use Rattle.std.proofs.lemmas.Slice.Eq.{bytes_eq-Decides, slice_eq-Decides}
use Rattle.std.proofs.lemmas.List.{length-take-le, length-drop}
use Rattle.vol_numbers.specs.Layout.{Layout}
use Rattle.block_format.specs.Inode.{inode_at, inode_in, inode_bytes, inode_shape, is_inode, IsInode}
use Rattle.block_format.specs.declared.inode.Inode.{Inode}
use Rattle.block_format.specs.declared.inode.Inode.TheVariants.{Unused, File, Directory}
use Rattle.block_format.proofs.InodeLaws.{inode_in-spelled}
use Rattle.block_format.specs.Inode.{inode_part}
use Rattle.block_tree.specs.Tree.{Blocks}
use Rattle.inode_file.specs.Inodes.{inode_of, block_of, is_used, LeadsTo}
use Rattle.inode_file.specs.Loading.{IsWhole}
use Rattle.inode_file.specs.Rewriting.{is_same, are_same}

both_true : (a b : Bool) → a ≡ true → b ≡ true → (a && b) ≡ true
both_true a b p q = ap₂ (λ x y. x && y) p q

when_true : (b : Bool) (x : Inode) → b ≡ true → cond b (Some x) None ≡ Some x
when_true b x e = ap (λ t. cond t (Some x) None) e

-- bytes that spell an inode in shape
pub at_spelled : (inode : Inode) (bytes : List ℕ) → IsTrue (inode_shape inode) → bytes ≡ inode_bytes inode → inode_in bytes ≡ inode → inode_at bytes ≡ Some inode
at_spelled inode bytes shape is back =
    let fits : inode_shape (inode_in bytes) ≡ true = ap inode_shape back ∙ shape in
    let same : bytes_eq (inode_bytes (inode_in bytes)) bytes ≡ true = (bytes_eq-Decides (inode_bytes (inode_in bytes)) bytes).1 (ap inode_bytes back ∙ sym is) in
    when_true (is_inode bytes) (inode_in bytes) (both_true _ _ fits same) ∙ ap Some back

pub at_inode : (inode : Inode) (bytes : List ℕ) → IsInode inode bytes → inode_at bytes ≡ Some inode
at_inode inode bytes is = at_spelled inode bytes is.shape is.spelled (inode_in-spelled inode bytes is)

pub unused_is_whole : (g : Layout) → IsWhole g Unused
unused_is_whole g = record { shape = refl; pointer = inl refl }

pub unused_in : (n j : ℕ) → inode_of (replicate n Unused) j ≡ Unused
unused_in zero j = refl
unused_in (suc n) zero = refl
unused_in (suc n) (suc j) = unused_in n j

-- what holds of each inode holds of those of a block
each_taken : (P : Inode → Type 0) (k : ℕ) (xs : List Inode) → P Unused → ((n : ℕ) → P (inode_of xs n)) → (j : ℕ) → P (inode_of (take k xs) j)
each_taken P zero xs none each j = none
each_taken P (suc k) [] none each j = none
each_taken P (suc k) (x ∷ xs) none each zero = each 0
each_taken P (suc k) (x ∷ xs) none each (suc j) = each_taken P k xs none (λ n. each (suc n)) j

each_left : (P : Inode → Type 0) (k : ℕ) (xs : List Inode) → P Unused → ((n : ℕ) → P (inode_of xs n)) → (j : ℕ) → P (inode_of (drop k xs) j)
each_left P zero xs none each j = each j
each_left P (suc k) [] none each j = none
each_left P (suc k) (x ∷ xs) none each j = each_left P k xs none (λ n. each (suc n)) j

pub each_in_block : (P : Inode → Type 0) (inodes : List Inode) (k : ℕ) → P Unused → ((n : ℕ) → P (inode_of inodes n)) → (j : ℕ) → P (inode_of (block_of inodes k) j)
each_in_block P inodes k none each = each_taken P 64 (drop (64 * k) inodes) none (each_left P (64 * k) inodes none each)

pub length-block_of : (inodes : List Inode) (k : ℕ) → 64 * k + 64 ≤ length inodes → length (block_of inodes k) ≡ 64
length-block_of inodes k le = length-take-le 64 (drop (64 * k) inodes) (omega (arith, length-drop (64 * k) inodes, le))

-- a block has 64 inodes
beyond : (n : ℕ) (xs : List Inode) (j : ℕ) → is_used (inode_of (take n xs) j) ≡ true → j < n
beyond zero xs j e = cc
beyond (suc n) [] j e = cc
beyond (suc n) (x ∷ xs) zero e = omega arith
beyond (suc n) (x ∷ xs) (suc j) e = let lt = beyond n xs j e in omega (arith, lt)

pub beyond_block : (inodes : List Inode) (k j : ℕ) → is_used (inode_of (block_of inodes k) j) ≡ true → j < 64
beyond_block inodes k j e = beyond 64 (drop (64 * k) inodes) j e

pub leads_nowhere : (read : Blocks) (b : ℕ) (block : List Inode) → b ≡ 0 → ((j : ℕ) → inode_of block j ≡ Unused) → LeadsTo read b block
leads_nowhere read zero block e none = λ j lt. none j
leads_nowhere read (suc b) block e none = absurd (omega arith)

pub leads_there : (read : Blocks) (b : ℕ) (block : List Inode) → (b ≡ 0 → ⊥) → ((j : ℕ) → j < 64 → inode_at (inode_part j (read b)) ≡ Some (inode_of block j)) → LeadsTo read b block
leads_there read zero block some spelled = absurd (some refl)
leads_there read (suc b) block some spelled = spelled

-- two inodes are the same where their fields are
pub same-Decides : (x y : Inode) → Decides (is_same x y) (x ≡ y)
same-Decides Unused Unused = (λ e. refl, λ e. refl)
same-Decides Unused (File s h p) = (λ e. cc, λ e. cc)
same-Decides Unused (Directory w h p) = (λ e. cc, λ e. cc)
same-Decides (File s h p) Unused = (λ e. cc, λ e. cc)
same-Decides (File s h p) (File t k q) = grind (arith, nat_tests)
same-Decides (File s h p) (Directory w k q) = (λ e. cc, λ e. cc)
same-Decides (Directory w h p) Unused = (λ e. cc, λ e. cc)
same-Decides (Directory w h p) (File t k q) = (λ e. cc, λ e. cc)
same-Decides (Directory w h p) (Directory v k q) = grind (arith, nat_tests)

pub are_same-pointwise : (E : Inode → Inode → Bool) → ((x y : Inode) → E x y ≡ is_same x y) → (xs ys : List Inode) → pointwise E xs ys ≡ are_same xs ys
are_same-pointwise E each [] [] = refl
are_same-pointwise E each [] (y ∷ ys) = refl
are_same-pointwise E each (x ∷ xs) [] = refl
are_same-pointwise E each (x ∷ xs) (y ∷ ys) = ap₂ (λ a b. a && b) (each x y) (are_same-pointwise E each xs ys)

pub are_same-Decides : (xs ys : List Inode) → Decides (are_same xs ys) (xs ≡ ys)
are_same-Decides xs ys = slice_eq-Decides same-Decides xs ys (are_same xs ys) (sym (are_same-pointwise is_same (λ x y. refl) xs ys))
