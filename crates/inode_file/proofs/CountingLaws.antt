-- There are as many inode blocks as different positions of the numbers of nodes.
use Rattle.std.proofs.Common.{◌≡◌, ◌<◌, ◌≤◌, ◌⊎◌, ⊎_elim, ℕ, zero, suc, ◌+◌, ◌-◌, ◌*◌, ◌++◌, ◌/◌, ◌%◌, ◌==◌, Bool, true, false, cond, List, [], ◌∷◌, length, drop, refl, ap, ap₂, sym, subst, ◌∙◌, arith, inl, inr}
use Rattle.std.specs.Prelude.{slice_index, map, not, ◌&&◌, ◌||◌, nat_eq}
use Rattle.std.proofs.lemmas.Bool.{eqb-true}
use Rattle.std.proofs.lemmas.Bool.Decides.{nat_tests}
use Rattle.std.proofs.lemmas.List.{get_or-take, get_or-drop}
use Rattle.block_format.specs.declared.inode.Inode.{Inode}
use Rattle.block_format.specs.declared.inode.Inode.TheVariants.{Unused}
use Rattle.place_words.specs.Different.{is_among, passing, span, AllWithin}
use Rattle.place_words.proofs.Counting.{different_is}
use Rattle.place_words.proofs.Totals.{image_from, image_to}
use Rattle.block_tree.specs.Tree.{nonzero}
use Rattle.inode_file.specs.Inodes.{InodeTable, inode_of, block_of, is_used}
use Rattle.inode_file.specs.Rewriting.{has_used, is_written, only_if, passing_from, written_blocks}
use Rattle.inode_file.specs.Counting.{used_from, used_positions}
use Rattle.inode_file.proofs.BlockLaws.{beyond_block}

same_bool : (a b : Bool) → (a ≡ true → b ≡ true) → (b ≡ true → a ≡ true) → a ≡ b
same_bool true b f g = sym (f refl)
same_bool false true f g = g refl
same_bool false false f g = refl

pub or_cases : (a b : Bool) → (a || b) ≡ true → (a ≡ true) ⊎ (b ≡ true)
or_cases true b e = inl refl
or_cases false b e = inr e

or_first : (a b : Bool) → a ≡ true → (a || b) ≡ true
or_first a b e = ap (λ (t : Bool). t || b) e

pub or_second : (a b : Bool) → b ≡ true → (a || b) ≡ true
or_second true b e = refl
or_second false b e = e

-- some inode of the block is used
pub used_from_has : (block : List Inode) → has_used block ≡ true → (j : ℕ) × (is_used (inode_of block j) ≡ true)
used_from_has [] e = cc
used_from_has (x ∷ xs) e = ⊎_elim (λ here. (0, here)) (λ later. let r = used_from_has xs later in (suc r.0, r.1)) (or_cases (is_used x) (has_used xs) e)

pub has_used_at : (block : List Inode) (j : ℕ) → is_used (inode_of block j) ≡ true → has_used block ≡ true
has_used_at [] j e = e
has_used_at (x ∷ xs) zero e = or_first (is_used x) (has_used xs) e
has_used_at (x ∷ xs) (suc j) e = or_second (is_used x) (has_used xs) (has_used_at xs j e)

pub block_entry : (inodes : List Inode) (k j : ℕ) → j < 64 → inode_of (block_of inodes k) j ≡ inode_of inodes (64 * k + j)
block_entry inodes k j lt = get_or-take 64 (drop (64 * k) inodes) j Unused lt ∙ get_or-drop (64 * k) inodes j Unused

same_number : (a b : ℕ) → nat_eq a b ≡ true → a ≡ b
same_number a b e = eqb-true a b e

is_number : (a b : ℕ) → a ≡ b → nat_eq a b ≡ true
is_number a b e = grind (arith, nat_tests)

-- a number among those of nodes
found_first : (n m : ℕ) (x : Inode) (xs : List Inode) → (is_among (used_from (n + 1) xs) m ≡ true → (i : ℕ) × (n + 1 + i ≡ m) × (is_used (inode_of xs i) ≡ true)) → (t : Bool) → is_used x ≡ t
    → is_among (cond t (n ∷ used_from (n + 1) xs) (used_from (n + 1) xs)) m ≡ true → (i : ℕ) × (n + i ≡ m) × (is_used (inode_of (x ∷ xs) i) ≡ true)
found_first n m x xs later true is e = ⊎_elim
    (λ here. let same = same_number n m here in (0, omega (arith, same), is))
    (λ rest. let r = later rest in let at = r.1 in (suc r.0, omega (arith, at), r.2))
    (or_cases (nat_eq n m) (is_among (used_from (n + 1) xs) m) e)
found_first n m x xs later false is e = let r = later e in let at = r.1 in (suc r.0, omega (arith, at), r.2)

found : (n m : ℕ) (inodes : List Inode) → is_among (used_from n inodes) m ≡ true → (i : ℕ) × (n + i ≡ m) × (is_used (inode_of inodes i) ≡ true)
found n m [] e = cc
found n m (x ∷ xs) e = found_first n m x xs (found (n + 1) m xs) (is_used x) refl e

still_among : (t : Bool) (n m : ℕ) (ns : List ℕ) → is_among ns m ≡ true → is_among (cond t (n ∷ ns) ns) m ≡ true
still_among true n m ns e = or_second (nat_eq n m) (is_among ns m) e
still_among false n m ns e = e

listed : (n i : ℕ) (inodes : List Inode) → is_used (inode_of inodes i) ≡ true → is_among (used_from n inodes) (n + i) ≡ true
listed n i [] e = cc
listed n zero (x ∷ xs) e =
    ap (λ (t : Bool). is_among (cond t (n ∷ used_from (n + 1) xs) (used_from (n + 1) xs)) (n + 0)) e
    ∙ or_first (nat_eq n (n + 0)) (is_among (used_from (n + 1) xs) (n + 0)) (is_number n (n + 0) (omega arith))
listed n (suc i) (x ∷ xs) e =
    let at : n + suc i ≡ n + 1 + i = omega arith in
    ap (λ (m : ℕ). is_among (used_from n (x ∷ xs)) m) at ∙ still_among (is_used x) n (n + 1 + i) (used_from (n + 1) xs) (listed (n + 1) i xs e)

within_first : (t : Bool) (n limit : ℕ) (ns : List ℕ) → n / 64 < 0 + limit → AllWithin 0 (0 + limit) (map (λ m. m / 64) ns) → AllWithin 0 (0 + limit) (map (λ m. m / 64) (cond t (n ∷ ns) ns))
within_first true n limit ns lt rest = (omega arith, lt, rest)
within_first false n limit ns lt rest = rest

within : (n limit : ℕ) (inodes : List Inode) → n + length inodes ≤ 64 * limit → AllWithin 0 (0 + limit) (map (λ m. m / 64) (used_from n inodes))
within n limit [] le = tt
within n limit (x ∷ xs) le = within_first (is_used x) n limit (used_from (n + 1) xs) (omega (arith, le)) (within (n + 1) limit xs (omega (arith, le)))

-- a position is among those of the numbers of nodes where its block has one
pub position_used : (inodes : List Inode) (k : ℕ) → is_among (map (λ m. m / 64) (used_from 0 inodes)) k ≡ has_used (block_of inodes k)
position_used inodes k = same_bool _ _ there back
  where
    there : is_among (map (λ m. m / 64) (used_from 0 inodes)) k ≡ true → has_used (block_of inodes k) ≡ true
    there among =
        let image = image_from (λ m. m / 64) k (used_from 0 inodes) among in
        let m : ℕ = image.0 in
        let f = found 0 m inodes image.1 in
        let at : m / 64 ≡ k = image.2 in
        let number : f.0 ≡ 64 * k + m % 64 = let s = f.1 in omega (arith, s, at) in
        has_used_at (block_of inodes k) (m % 64) (ap is_used (block_entry inodes k (m % 64) (omega arith) ∙ ap (λ (i : ℕ). inode_of inodes i) (sym number)) ∙ f.2)

    back : has_used (block_of inodes k) ≡ true → is_among (map (λ m. m / 64) (used_from 0 inodes)) k ≡ true
    back has =
        let r = used_from_has (block_of inodes k) has in
        let j : ℕ = r.0 in
        let lt : j < 64 = beyond_block inodes k j r.1 in
        let at : (0 + (64 * k + j)) / 64 ≡ k = omega (arith, lt) in
        ap (λ (i : ℕ). is_among (map (λ m. m / 64) (used_from 0 inodes)) i) (sym at)
        ∙ image_to (λ m. m / 64) (0 + (64 * k + j)) (used_from 0 inodes) (listed 0 (64 * k + j) inodes (ap is_used (sym (block_entry inodes k j lt)) ∙ r.1))

first_some : (p : ℕ) (ps : List ℕ) → 0 < p → length (nonzero (p ∷ ps)) ≡ 1 + length (nonzero ps)
first_some p ps some =
    let more : suc (length (nonzero ps)) ≡ 1 + length (nonzero ps) = omega arith in
    ap (λ (t : Bool). length (cond (not t) (p ∷ nonzero ps) (nonzero ps))) (is_some p some) ∙ more
  where
    is_some : (q : ℕ) → 0 < q → (q == 0) ≡ false
    is_some q lt = grind (arith, nat_tests)

first_none : (p : ℕ) (ps : List ℕ) → p ≡ 0 → length (nonzero (p ∷ ps)) ≡ length (nonzero ps)
first_none p ps none = ap (λ (t : Bool). length (cond (not t) (p ∷ nonzero ps) (nonzero ps))) (is_none p none)
  where
    is_none : (q : ℕ) → q ≡ 0 → (q == 0) ≡ true
    is_none q e = grind (arith, nat_tests)

counted_first : (t : Bool) (p : ℕ) (ps : List ℕ) (rest : ℕ) → (t ≡ false → p ≡ 0) → (t ≡ true → 0 < p) → length (nonzero ps) ≡ rest → length (nonzero (p ∷ ps)) ≡ cond t 1 0 + rest
counted_first true p ps rest none some is = omega (arith, first_some p ps (some refl), is)
counted_first false p ps rest none some is = omega (arith, first_none p ps (none refl), is)

-- the pointers that lead to blocks, where they do so at the positions that pass a test
counted : (test : ℕ → Bool) (from : ℕ) (ps : List ℕ) → ((i : ℕ) → i < length ps → test (from + i) ≡ false → slice_index ps i ≡ 0)
    → ((i : ℕ) → i < length ps → test (from + i) ≡ true → 0 < slice_index ps i) → length (nonzero ps) ≡ passing test (span from (length ps))
counted test from [] none some = refl
counted test from (p ∷ ps) none some =
    let first : from + 0 ≡ from = omega arith in
    counted_first (test from) p ps (passing test (span (from + 1) (length ps)))
    (λ e. none 0 (omega arith) (ap test first ∙ e))
    (λ e. some 0 (omega arith) (ap test first ∙ e))
    (counted test (from + 1) ps
    (λ i lt e. none (suc i) (omega (arith, lt)) (ap test (later i) ∙ e))
    (λ i lt e. some (suc i) (omega (arith, lt)) (ap test (later i) ∙ e)))
  where
    later : (i : ℕ) → from + suc i ≡ from + 1 + i
    later i = omega arith

passing_same : (f g : ℕ → Bool) → ((k : ℕ) → f k ≡ g k) → (ks : List ℕ) → passing f ks ≡ passing g ks
passing_same f g same [] = refl
passing_same f g same (k ∷ ks) = ap₂ (λ (t : Bool) (n : ℕ). cond t 1 0 + n) (same k) (passing_same f g same ks)

pub blocks_counted : (inodes : List Inode) (pointers : List ℕ) → length inodes ≡ 65536 → length pointers ≡ 1024
    → ((k : ℕ) → k < 1024 → has_used (block_of inodes k) ≡ false → slice_index pointers k ≡ 0) → ((k : ℕ) → k < 1024 → has_used (block_of inodes k) ≡ true → 0 < slice_index pointers k)
    → length (nonzero pointers) ≡ used_positions inodes
blocks_counted inodes pointers many long none some =
    let test : ℕ → Bool = λ k. has_used (block_of inodes k) in
    let positions : List ℕ = map (λ m. m / 64) (used_from 0 inodes) in
    counted test 0 pointers
    (λ i lt e. none i (omega (arith, lt, long)) (ap test (sym (at i)) ∙ e))
    (λ i lt e. some i (omega (arith, lt, long)) (ap test (sym (at i)) ∙ e))
    ∙ (sym (passing_same (is_among positions) test (position_used inodes) (span 0 (length pointers)))
    ∙ sym (different_is 0 (length pointers) positions (within 0 (length pointers) inodes (omega (arith, many, long)))))
  where
    at : (i : ℕ) → 0 + i ≡ i
    at i = omega arith

-- there are as many as positions that have the number of a node
pub used_are : (inodes : List Inode) → length inodes ≡ 65536 → used_positions inodes ≡ passing (λ k. has_used (block_of inodes k)) (span 0 1024)
used_are inodes many =
    let positions : List ℕ = map (λ m. m / 64) (used_from 0 inodes) in
    different_is 0 1024 positions (within 0 1024 inodes (omega (arith, many))) ∙ passing_same (is_among positions) (λ k. has_used (block_of inodes k)) (position_used inodes) (span 0 1024)

-- how many positions from one on have the number of a node
pub left_from : List Inode → ℕ → ℕ
left_from inodes k = passing (λ i. has_used (block_of inodes i)) (span k (1024 - k))

pub left_all : (inodes : List Inode) → length inodes ≡ 65536 → left_from inodes 0 ≡ used_positions inodes
unfolding left_from
left_all inodes many = sym (used_are inodes many)

pub left_step : (inodes : List Inode) (k : ℕ) → k < 1024 → left_from inodes k ≡ (cond (has_used (block_of inodes k)) 1 0) + left_from inodes (k + 1)
unfolding left_from
left_step inodes k lt =
    let one : 1024 - k ≡ suc (1024 - (k + 1)) = omega (arith, lt) in
    ap (λ (n : ℕ). passing (λ i. has_used (block_of inodes i)) (span k n)) one

pub left_none : (inodes : List Inode) (k : ℕ) → 1024 ≤ k → left_from inodes k ≡ 0
unfolding left_from
left_none inodes k le =
    let none : 1024 - k ≡ 0 = omega (arith, le) in
    ap (λ (n : ℕ). passing (λ i. has_used (block_of inodes i)) (span k n)) none

-- no more positions pass a test than another one that is wider
pub most_passing : (f g : ℕ → Bool) (k : ℕ) (ps : List ℕ) → ((i : ℕ) → f i ≡ true → g i ≡ true) → length (passing_from f k ps) ≤ passing g (span k (length ps))
most_passing f g k [] wide = omega arith
most_passing f g k (p ∷ ps) wide = by (f k) (g k) refl refl (most_passing f g (k + 1) ps wide)
  where
    by : (t u : Bool) → f k ≡ t → g k ≡ u → length (passing_from f (k + 1) ps) ≤ passing g (span (k + 1) (length ps)) → length (only_if t p ++ passing_from f (k + 1) ps) ≤ cond u 1 0 + passing g (span (k + 1) (length ps))
    by true true is_f is_g le = omega (arith, le)
    by false u is_f is_g le = omega (arith, le)
    by true false is_f is_g le = let never : false ≡ true = sym is_g ∙ wide k is_f in cc

pub written_most : (t : InodeTable) → length t.inodes ≡ 65536 → length t.pointers ≡ 1024 → written_blocks t ≤ used_positions t.inodes
written_most t many long =
    let test : ℕ → Bool = λ k. has_used (block_of t.inodes k) in
    subst (λ (n : ℕ). written_blocks t ≤ n) (ap (λ (n : ℕ). passing test (span 0 n)) long ∙ sym (used_are t.inodes many))
    (most_passing (is_written t) test 0 t.pointers (λ i is. first (has_used (block_of t.inodes i)) _ is))
  where
    first : (a b : Bool) → (a && b) ≡ true → a ≡ true
    first true b e = refl
    first false b e = cc
