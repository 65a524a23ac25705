-- Damaged blocks are among those that are read.
use Rattle.std.proofs.Common.{◌≡◌, ◌≢◌, ◌<◌, ◌∙◌, ℕ, zero, suc, ◌==◌, ◌||◌, Bool, true, false, List, [], ◌∷◌, refl, sym, subst, set, arith}
use Rattle.std.specs.Prelude.{All, take, if◌then◌else◌, not, slice_index, nat_eq, Result, Ok, Err, IsErrOf, IsErrAnd}
use Rattle.std.proofs.lemmas.Bool.Decides.{nat_tests}
use Rattle.std.proofs.lemmas.List.{get_or-set_other, take_all}
use Rattle.place_words.specs.Different.{is_among}
use Rattle.vol_numbers.specs.Layout.{Layout}
use Rattle.block_format.specs.Words.{words}
use Rattle.block_format.specs.Counts.{SpellsCounts}
use Rattle.block_format.specs.Index.{IsPointer, SpellsIndex}
use Rattle.block_tree.specs.Tree.{Blocks, index_at, leaf_below, indexes_below, nonzero}
use Rattle.block_tree.specs.Causes.{as_tree_fault, IfLookDamaged, IfTreeDamaged, IsBlockOf, IsBlockAmong}
use Rattle.block_tree.specs.Root.{tree_indexes}
use Rattle.block_tree.specs.Parts.{SameEntries}
use Rattle.block_tree.specs.Opened.{Opens}
use Rattle.block_tree.specs.declared.root.TreeRoot.{TreeRoot}
use Rattle.block_tree.specs.declared.fault.LookFault.{LookFault}
use Rattle.block_tree.specs.declared.fault.LookFault.TheVariants.{Device, Damaged}
use Rattle.block_tree.specs.declared.fault.TreeFault.{TreeFault}
use Rattle.block_tree.specs.declared.fault.TreeFault.TheVariants as trees

pub look_damaged : {T : Type 0} (r : Result T LookFault) (fact : ℕ → Type 0) (b : ℕ) → IfLookDamaged r fact → IsErrOf r (Damaged b) → fact b
look_damaged {T = T} r fact b is e = subst (λ (x : Result T LookFault). IfLookDamaged x fact) e is

pub tree_damaged : {T : Type 0} (r : Result T TreeFault) (fact : ℕ → Type 0) (b : ℕ) → IfTreeDamaged r fact → IsErrOf r (trees.Damaged b) → fact b
tree_damaged {T = T} r fact b is e = subst (λ (x : Result T TreeFault). IfTreeDamaged x fact) e is

-- what a pointer leads to
pub among_there : (xs : List ℕ) (i b : ℕ) → IsBlockOf (slice_index xs i) b → is_among (nonzero xs) b ≡ true
among_there [] i b of = absurd (of.some of.is)
among_there (x ∷ xs) zero b of = by_test (x == 0) refl
  where
    by_test : (t : Bool) → (x == 0) ≡ t → is_among (if not t then x ∷ nonzero xs else nonzero xs) b ≡ true
    by_test true e = absurd (of.some (of.is ∙ (let z : x ≡ 0 = grind (arith, nat_tests, e) in z)))
    by_test false e = let same : nat_eq x b ≡ true = (let is = of.is in grind (arith, nat_tests, is)) in rw same refl
among_there (x ∷ xs) (suc i) b of = by_test (x == 0) (nat_eq x b) (among_there xs i b of)
  where
    by_test : (t u : Bool) → is_among (nonzero xs) b ≡ true → is_among (if not t then x ∷ nonzero xs else nonzero xs) b ≡ true
    by_test true u rest = rest
    by_test false u rest = rw rest (or_true (nat_eq x b))
      where
        or_true : (v : Bool) → (v || true) ≡ true
        or_true true = refl
        or_true false = refl

-- the block of a leaf is an index block
pub leaf_among : (read : Blocks) (height ptr j b : ℕ) → IsBlockOf (leaf_below read height ptr j) b → is_among (indexes_below read height ptr) b ≡ true
leaf_among read zero ptr j b of = absurd (of.some of.is)
leaf_among read (suc zero) ptr j b of = by_test (j == 0) of
  where
    by_test : (t : Bool) → IsBlockOf (if t then ptr else 0) b → is_among (nonzero (ptr ∷ [])) b ≡ true
    by_test true of = among_there (ptr ∷ []) 0 b of
    by_test false of = absurd (of.some of.is)
leaf_among read (suc (suc height)) ptr j b of = among_there (ptr ∷ index_at read ptr) (suc j) b of

-- the block of the root of a tree with index blocks is one
pub root_among : (read : Blocks) (height ptr b : ℕ) → height ≢ 0 → IsBlockOf ptr b → is_among (indexes_below read height ptr) b ≡ true
root_among read zero ptr b some of = absurd (some refl)
root_among read (suc zero) ptr b some of = among_there (ptr ∷ []) 0 b of
root_among read (suc (suc height)) ptr b some of = among_there (ptr ∷ index_at read ptr) 0 b of

pub block_like : {x y b : ℕ} → x ≡ y → IsBlockOf x b → IsBlockOf y b
block_like e of = record { is = of.is ∙ e; some = of.some }

-- another fact of the same fault
pub damage_like : {T : Type 0} (r : Result T TreeFault) (fault : TreeFault) (known fact : ℕ → Type 0) → IsErrAnd r (λ f. f ≡ fault) → IfTreeDamaged {T = ℕ} (Err fault) known → ((b : ℕ) → known b → fact b) → IfTreeDamaged r fact
damage_like (Ok value) fault known fact same is weaker = tt
damage_like (Err trees.Device) fault known fact same is weaker = tt
damage_like (Err (trees.Damaged b)) fault known fact same is weaker = weaker b (subst (λ (f : TreeFault). IfTreeDamaged {T = ℕ} (Err f) known) (sym same) is)
damage_like (Err trees.OutOfMemory) fault known fact same is weaker = tt

-- the same of a fault that is passed on as one of a tree
pub look_passed : {T : Type 0} (r : Result T TreeFault) (fault : LookFault) (known fact : ℕ → Type 0) → IsErrAnd r (λ f. f ≡ as_tree_fault fault) → IfLookDamaged {T = ℕ} (Err fault) known → ((b : ℕ) → known b → fact b) → IfTreeDamaged r fact
look_passed (Ok value) fault known fact same is weaker = tt
look_passed {T = T} (Err f) fault known fact same is weaker = subst (λ (e : TreeFault). IfTreeDamaged {T = T} (Err e) fact) (sym same) (by fault is)
  where
    by : (fault : LookFault) → IfLookDamaged {T = ℕ} (Err fault) known → IfTreeDamaged {T = T} (Err (as_tree_fault fault)) fact
    by Device is = tt
    by (Damaged b) is = weaker b is

-- the leaves of a tree that is opened
pub opened_among : {read : Blocks} {root : TreeRoot} {top : ℕ} {was leaves first : List ℕ} → Opens read root top was leaves first → (j b : ℕ) → j < 1024 → IsBlockOf (slice_index leaves j) b → is_among (tree_indexes read root) b ≡ true
opened_among {read = read} {root = root} opened j b lt of = leaf_among read root.height root.ptr j b (block_like (opened.blocks j lt) of)

-- those from the leaf 1 on, whatever the leaf 0 is by then
pub rest_among : {read : Blocks} {root : TreeRoot} {top : ℕ} {was leaves first : List ℕ} → Opens read root top was leaves first → (new b : ℕ) → IsBlockAmong 1 (set leaves 0 new) b → is_among (tree_indexes read root) b ≡ true
rest_among {leaves = leaves} opened new b among = opened_among opened among.at b among.below (block_like (get_or-set_other leaves 0 among.at new 0 (λ e. omega (arith, e, among.from))) among.block)

-- the leaves of a top index that is read
pub top_among : (read : Blocks) (height ptr : ℕ) (tops : List ℕ) → height ≡ 2 → SameEntries (index_at read ptr) tops → (b : ℕ) → IsBlockAmong 0 tops b → is_among (indexes_below read height ptr) b ≡ true
top_among read height ptr tops two same b among = rw two (leaf_among read 2 ptr among.at b (block_like (sym (same.each among.at)) among.block))

-- numbers of a block that are pointers are an index
pub index_of_counts : (g : Layout) (bytes : List ℕ) → SpellsCounts (words bytes) bytes → All (IsPointer g) (take 1024 (words bytes)) → SpellsIndex g (words bytes) bytes
index_of_counts g bytes counts all = record {
  count = counts.count;
  each = subst (λ (ps : List ℕ). All (IsPointer g) ps) (take_all 1024 (words bytes) (omega (arith, counts.count))) all;
  spelled = counts.spelled;
}
