-- Trees of each height, opened.
use Rattle.std.proofs.Common.{◌≡◌, ◌<◌, ◌≤◌, ℕ, zero, suc, ◌+◌, ◌*◌, ◌/◌, ◌%◌, ◌==◌, List, [], ◌∷◌, ◌++◌, refl, ap, sym, ◌∙◌, subst, arith}
use Rattle.std.specs.Prelude.{slice_index, replicate, if◌then◌else◌, Bool, true, false}
use Rattle.std.specs.List.{flat_map}
use Rattle.std.proofs.lemmas.Bool.Decides.{nat_tests}
use Rattle.block_tree.specs.Tree.{Blocks, index_at, block_below, nonzero}
use Rattle.block_tree.specs.Parts.{leaf_of, leaf_under, SameEntries}
use Rattle.block_tree.specs.Root.{block_at}
use Rattle.place_words.specs.Different.{times}
use Rattle.block_tree.specs.Edit.{IsLeafBefore}
use Rattle.block_tree.specs.Leaf.{StaysAt, FullAt, level}
use Rattle.block_tree.specs.Opened.{Opens, first_of}
use Rattle.block_tree.specs.declared.root.TreeRoot.{TreeRoot}
use Rattle.std.proofs.lemmas.List.{get_or_past}
use Rattle.block_tree.proofs.Rise.{index_short}
use Rattle.block_tree.proofs.EditLaws.{cond_same, cond_other}
use Rattle.block_tree.proofs.EntryLaws.{zero_in, nonzero_zeros}
use Rattle.block_tree.specs.Notes.{refs}
use Rattle.block_tree.proofs.NoteLaws.{refs-append}
use Rattle.block_tree.proofs.LeafLaws.{index_stays, level_like, level_stays}

-- a place by its leaf
below_leaf : (read : Blocks) (height ptr k i : ℕ) → i < 1024 → block_below read height ptr (1024 * k + i) ≡ slice_index (leaf_under read height ptr k) i
below_leaf read zero ptr k i lt = by_test (k == 0) refl i
  where
    by_test : (t : Bool) → (k == 0) ≡ t → (i : ℕ) → (if 1024 * k + i == 0 then ptr else 0) ≡ slice_index (if t then ptr ∷ [] else []) i
    by_test true e zero = let z : k ≡ 0 = grind (arith, nat_tests, e) in cond_same (1024 * k + zero) 0 ptr 0 (omega (arith, z))
    by_test true e (suc i) = cond_other (1024 * k + suc i) 0 ptr 0 (λ z. omega (arith, z))
    by_test false e i = let ne : k ≡ 0 → ⊥ = λ z. grind (arith, nat_tests, e, z) in cond_other (1024 * k + i) 0 ptr 0 (λ z. ne (omega (arith, z)))
below_leaf read (suc zero) ptr k i lt = by_test (k == 0) refl
  where
    by_test : (t : Bool) → (k == 0) ≡ t → slice_index (index_at read ptr) (1024 * k + i) ≡ slice_index (if t then index_at read ptr else []) i
    by_test true e = let z : k ≡ 0 = grind (arith, nat_tests, e) in let same : 1024 * k + i ≡ i = omega (arith, z) in ap (λ (p : ℕ). slice_index (index_at read ptr) p) same
    by_test false e = let ne : k ≡ 0 → ⊥ = λ z. grind (arith, nat_tests, e, z) in get_or_past (index_at read ptr) (1024 * k + i) 0 (omega (arith, ne, index_short read ptr))
below_leaf read (suc (suc height)) ptr k i lt =
    let q : (1024 * k + i) / 1024 ≡ k = omega (arith, lt) in
    let r : (1024 * k + i) % 1024 ≡ i = omega (arith, lt) in
    λ t. slice_index (index_at read (slice_index (index_at read ptr) (q t))) (r t)

pub block_at_leaf : (read : Blocks) (root : TreeRoot) (k i : ℕ) → i < 1024 → block_at read root (1024 * k + i) ≡ slice_index (leaf_of read root k) i
block_at_leaf read root k i lt = below_leaf read root.height root.ptr k i lt

-- the places of a leaf from its pointers
leaf_places : (read : Blocks) (root : TreeRoot) (k : ℕ) (ptrs : List ℕ) → ((i : ℕ) → slice_index ptrs i ≡ slice_index (leaf_of read root k) i) → IsLeafBefore (block_at read root) k ptrs
leaf_places read root k ptrs e i lt = e i ∙ sym (block_at_leaf read root k i lt)

pub no_leaf : (x : List ℕ) (j : ℕ) → 1 ≤ j → [] ≡ (if j == 0 then x else [])
no_leaf x j some = by_test (j == 0) refl
  where
    by_test : (t : Bool) → (j == 0) ≡ t → [] ≡ (if t then x else [])
    by_test true e = absurd (let z : j ≡ 0 = grind (arith, nat_tests, e) in omega (arith, z, some))
    by_test false e = refl

one_in : (ptr n i : ℕ) → slice_index (ptr ∷ replicate n 0) i ≡ slice_index (ptr ∷ []) i
one_in ptr n zero = refl
one_in ptr n (suc i) = zero_in n i

nonzero_one : (ptr n : ℕ) → nonzero (ptr ∷ replicate n 0) ≡ nonzero (ptr ∷ [])
nonzero_one ptr n = ap (λ (v : List ℕ). if Rattle.std.specs.Prelude.not (ptr == 0) then ptr ∷ v else v) (nonzero_zeros n)

-- the pointer of the place 0 alone
pub one_same : (ptr n : ℕ) → SameEntries (ptr ∷ []) (ptr ∷ replicate n 0)
one_same ptr n = record { each = λ i. sym (one_in ptr n i); some = sym (nonzero_one ptr n) }

pub first_moved : (read : Blocks) (root : TreeRoot) (leaf : ℕ) → root.height ≡ 0 → first_of read root leaf ≡ root.ptr ∷ []
first_moved read root leaf e = ap (λ (t : Bool). if t then root.ptr ∷ [] else index_at read leaf) (let t : (root.height == 0) ≡ true = grind (arith, nat_tests, e) in t)

pub first_there : (read : Blocks) (root : TreeRoot) (leaf : ℕ) → 0 < root.height → first_of read root leaf ≡ index_at read leaf
first_there read root leaf lt = ap (λ (t : Bool). if t then root.ptr ∷ [] else index_at read leaf) (let t : (root.height == 0) ≡ false = grind (arith, nat_tests, lt) in t)

module _ (read : Blocks) (ptr : ℕ) (n m : ℕ) where
  abbrev none : List ℕ
  none = replicate n 0

  abbrev one : List ℕ
  one = ptr ∷ replicate m 0

  pub opens_block : Opens read (record { height = 0; ptr = ptr }) 0 none none (ptr ∷ [])
  opens_block =
      let root : TreeRoot = record { height = 0; ptr = ptr } in
      record {
        blocks = λ j lt. zero_in n j;
        tops = λ two. absurd (omega (arith, two));
        topped = λ some. absurd (omega (arith, some));
        first_places = leaf_places read root 0 (ptr ∷ []) (λ i. refl);
        rest_places = λ j some lt. leaf_places read root j (index_at read (slice_index none j)) (λ i.
            ap (λ (t : ℕ). slice_index (index_at read t) i) (zero_in n j) ∙ ap (λ (v : List ℕ). slice_index v i) (no_leaf (ptr ∷ []) j some));
        top_is = λ after stays some. absurd (omega (arith, some));
        stay = λ after stays j there. absurd (omega (arith, there, zero_in n j));
        full = λ full j there. absurd (omega (arith, there, zero_in n j));
        few = λ low j some. zero_in n j;
        pointers = λ after stays b.
            omega (arith, ap (λ (t : ℕ). refs b (index_at after t)) (zero_in n 0), level_like b after none [] (nonzero_zeros n));
        indexes = λ b. omega (arith, ap (λ (v : List ℕ). times b v) (nonzero_zeros n));
      }

  pub opens_leaf : Opens read (record { height = 1; ptr = ptr }) 0 none one (index_at read ptr)
  opens_leaf =
      let root : TreeRoot = record { height = 1; ptr = ptr } in
      record {
        blocks = λ j lt. one_at j;
        tops = λ two. absurd (omega (arith, two));
        topped = λ some. absurd (omega (arith, some));
        first_places = leaf_places read root 0 (index_at read ptr) (λ i. refl);
        rest_places = λ j some lt. leaf_places read root j (index_at read (slice_index one j)) (λ i.
            ap (λ (t : ℕ). slice_index (index_at read t) i) (past j some) ∙ ap (λ (v : List ℕ). slice_index v i) (no_leaf (index_at read ptr) j some));
        top_is = λ after stays some. absurd (omega (arith, some));
        stay = λ after stays j. at_leaf (StaysAt read after) stays (λ there. absurd (omega (arith, there))) j;
        full = λ full j. at_leaf (FullAt read) full (λ there. absurd (omega (arith, there))) j;
        few = λ low j some. past j some;
        pointers = λ after stays b.
            omega (
              arith,
              level_like b after one (ptr ∷ []) (nonzero_one ptr m),
              ap (λ (v : List ℕ). refs b v) (index_stays read after ptr stays),
              refs-append b (ptr ∷ []) (index_at read ptr),
              refs-append b (ptr ∷ []) (index_at after ptr ++ []),
              refs-append b (index_at after ptr) [],
            );
        indexes = λ b. omega (arith, ap (λ (v : List ℕ). times b v) (nonzero_one ptr m));
      }
    where
      one_at : (j : ℕ) → slice_index one j ≡ (if j == 0 then ptr else 0)
      one_at zero = sym (cond_same 0 0 ptr 0 refl)
      one_at (suc j) = zero_in m j ∙ sym (cond_other (suc j) 0 ptr 0 (λ e. omega (arith, e)))

      past : (j : ℕ) → 1 ≤ j → slice_index one j ≡ 0
      past zero some = absurd (omega (arith, some))
      past (suc j) some = zero_in m j

      at_leaf : (P : ℕ → Type 0) → P ptr → P 0 → (j : ℕ) → P (slice_index one j)
      at_leaf P here nowhere zero = here
      at_leaf P here nowhere (suc j) = subst P (sym (zero_in m j)) nowhere

pub opens_top : (read : Blocks) (ptr : ℕ) (was : List ℕ) → SameEntries (index_at read ptr) was
    → Opens read (record { height = 2; ptr = ptr }) ptr was was (index_at read (slice_index was 0))
opens_top read ptr was same =
    let root : TreeRoot = record { height = 2; ptr = ptr } in
    let tops = index_at read ptr in
    record {
      blocks = λ j lt. sym (same.each j);
      tops = λ two. (refl, λ j. sym (same.each j));
      topped = λ some. (refl, refl);
      first_places = leaf_places read root 0 (index_at read (slice_index was 0)) (λ i. ap (λ (t : ℕ). slice_index (index_at read t) i) (sym (same.each 0)));
      rest_places = λ j some lt. leaf_places read root j (index_at read (slice_index was j)) (λ i. ap (λ (t : ℕ). slice_index (index_at read t) i) (sym (same.each j)));
      top_is = λ after stays some. subst (λ (v : List ℕ). SameEntries v was) (sym (index_stays read after ptr stays.0)) same;
      stay = λ after stays j. subst (λ (t : ℕ). StaysAt read after t) (same.each j) (stays.1 j);
      full = λ full j. subst (λ (t : ℕ). FullAt read t) (same.each j) (full.1 j);
      few = λ low j some. absurd (omega (arith, low));
      pointers = λ after stays b.
          let first_stays = index_stays read after (slice_index was 0) (subst (λ (t : ℕ). StaysAt read after t) (same.each 0) (stays.1 0)) in
          omega (
            arith,
            refs-append b (ptr ∷ []) (level read tops),
            ap (λ (v : List ℕ). refs b v) (level_stays read after tops stays.1),
            level_like b after tops was same.some,
            ap (λ (v : List ℕ). refs b v) first_stays,
          );
      indexes = λ b. omega (arith, ap (λ (v : List ℕ). times b v) same.some, refs-append b (ptr ∷ []) tops);
    }
