-- A full tree has as many index blocks as its places need.
use Rattle.std.proofs.Common.{◌≡◌, ℕ, suc, ◌+◌, ◌*◌, ◌/◌, ◌≤◌, Bool, true, false, not, cond, List, [], ◌∷◌, ◌++◌, length, take, map, refl, sym, ap, subst, ◌∙◌, arith}
use Rattle.std.specs.Prelude.{◌==◌, ◌&&◌, nat_le, nat_lt}
use Rattle.std.specs.List.{list_all}
use Rattle.std.proofs.lemmas.List.{map-append, length-take, append-nil}
use Rattle.std.proofs.lemmas.Bool.Decides.{nat_tests}
use Rattle.block_format.specs.Words.{words}
use Rattle.place_words.specs.Different.{different}
use Rattle.place_words.specs.Index.{index_blocks}
use Rattle.block_tree.specs.Tree.{Blocks, index_at, pairs_from, leaves_pairs, pairs_below, nonzero, indexes_below, IsFull}
use Rattle.block_tree.specs.Laws.{IndexCount}
use Rattle.block_tree.proofs.Groups.{AllAre, AllFrom, from_append, are_append, are_from, from_less, group_first}

-- the leaves that pairs lie under
leaves_of : List (ℕ × ℕ) → List ℕ
leaves_of pairs = map (λ q. q / 1024) (map (λ e. e.0) pairs)

split : (xs ys : List (ℕ × ℕ)) → leaves_of (xs ++ ys) ≡ leaves_of xs ++ leaves_of ys
unfolding leaves_of
split xs ys = ap (map (λ q. q / 1024)) (map-append (λ (e : ℕ × ℕ). e.0) xs ys) ∙ map-append (λ q. q / 1024) (map (λ (e : ℕ × ℕ). e.0) xs) (map (λ (e : ℕ × ℕ). e.0) ys)

leaves_length : (xs : List (ℕ × ℕ)) → length (leaves_of xs) ≡ length xs
unfolding leaves_of
leaves_length [] = refl
leaves_length (x ∷ xs) = ap suc (leaves_length xs)

-- places of one leaf
one_leaf : (t : Bool) (k place p : ℕ) → place / 1024 ≡ k → AllAre k (leaves_of (cond t [] ((place, p) ∷ [])))
unfolding leaves_of
one_leaf true k place p e = tt
one_leaf false k place p e = (e, tt)

leaf_group : (k place : ℕ) (ps : List ℕ) → 1024 * k ≤ place → place + length ps ≤ 1024 * k + 1024 → AllAre k (leaves_of (pairs_from place ps))
unfolding leaves_of
leaf_group k place [] le lt = tt
leaf_group k place (p ∷ ps) le lt =
    let here = one_leaf (p == 0) k place p (omega (arith, le, lt)) in
    let more = leaf_group k (place + 1) ps (omega (arith, le)) (omega (arith, lt)) in
    subst (AllAre k) (sym (split (cond (p == 0) [] ((place, p) ∷ [])) (pairs_from (place + 1) ps))) (are_append k _ _ here more)

index_short : (read : Blocks) (b : ℕ) → length (index_at read b) ≤ 1024
index_short read b = by (b == 0)
  where
    by : (t : Bool) → length (cond t [] (take 1024 (words (read b)))) ≤ 1024
    by true = omega arith
    by false = omega (arith, length-take 1024 (words (read b)))

leaf_at : (read : Blocks) (k b : ℕ) → AllAre k (leaves_of (pairs_from (1024 * k) (index_at read b)))
leaf_at read k b = leaf_group k (1024 * k) (index_at read b) (omega arith) (omega (arith, index_short read b))

first_pair : (t : Bool) (rest : Bool) (place p : ℕ) (pairs : List (ℕ × ℕ)) → (t && rest) ≡ false → (rest ≡ false → 1 ≤ length pairs) → 1 ≤ length (cond t [] ((place, p) ∷ []) ++ pairs)
first_pair true rest place p pairs none more = more none
first_pair false rest place p pairs none more = omega arith

-- a list with a number other than 0 has a pair
pub some_pair : (place : ℕ) (ps : List ℕ) → list_all (λ q. q == 0) ps ≡ false → 1 ≤ length (pairs_from place ps)
some_pair place [] none = cc
some_pair place (p ∷ ps) none = first_pair (p == 0) (list_all (λ q. q == 0) ps) place p (pairs_from (place + 1) ps) none (some_pair (place + 1) ps)

next_leaf : (k : ℕ) → 1024 * k + 1024 ≡ 1024 * (k + 1)
next_leaf k = omega arith

-- the leaves from the k-th on have places from there on
leaves_above : (read : Blocks) (k : ℕ) (ps : List ℕ) → AllFrom k (leaves_of (leaves_pairs read (1024 * k) ps))
unfolding leaves_of
leaves_above read k [] = tt
leaves_above read k (p ∷ ps) =
    let here = are_from k _ (leaf_at read k p) in
    let more : AllFrom (k + 1) (leaves_of (leaves_pairs read (1024 * k + 1024) ps)) = subst (λ n. AllFrom (k + 1) (leaves_of (leaves_pairs read n ps))) (sym (next_leaf k)) (leaves_above read (k + 1) ps) in
    subst (AllFrom k) (sym (split (pairs_from (1024 * k) (index_at read p)) (leaves_pairs read (1024 * k + 1024) ps))) (from_append k _ _ here (from_less k (k + 1) (omega arith) _ more))

-- behind a pointer there is a leaf more
count_step : (t : Bool) (read : Blocks) (k p : ℕ) (ps : List ℕ) → (p == 0) ≡ t → IsFull read (cond (not t) (p ∷ nonzero ps) (nonzero ps))
    → (IsFull read (nonzero ps) → length (nonzero ps) ≡ different (leaves_of (leaves_pairs read (1024 * (k + 1)) ps)))
    → length (cond (not t) (p ∷ nonzero ps) (nonzero ps)) ≡ different (leaves_of (leaves_pairs read (1024 * k) (p ∷ ps)))
count_step true read k p ps is full more =
    let none : pairs_from (1024 * k) (index_at read p) ≡ [] = ap (λ (t : Bool). pairs_from (1024 * k) (cond t [] (take 1024 (words (read p))))) is in
    let same : leaves_pairs read (1024 * k) (p ∷ ps) ≡ leaves_pairs read (1024 * (k + 1)) ps = (λ i. none i ++ leaves_pairs read (next_leaf k i) ps) in
    more full ∙ ap (λ (pairs : List (ℕ × ℕ)). different (leaves_of pairs)) (sym same)
count_step false read k p ps is full more =
    let here = leaf_at read k p in
    let above : AllFrom (k + 1) (leaves_of (leaves_pairs read (1024 * k + 1024) ps)) = subst (λ n. AllFrom (k + 1) (leaves_of (leaves_pairs read n ps))) (sym (next_leaf k)) (leaves_above read (k + 1) ps) in
    let one : 1 ≤ length (leaves_of (pairs_from (1024 * k) (index_at read p))) = omega (arith, leaves_length (pairs_from (1024 * k) (index_at read p)), some_pair (1024 * k) (index_at read p) full.0) in
    let group = group_first k (leaves_of (pairs_from (1024 * k) (index_at read p))) (leaves_of (leaves_pairs read (1024 * k + 1024) ps)) here one above in
    let rest : length (nonzero ps) ≡ different (leaves_of (leaves_pairs read (1024 * k + 1024) ps)) = more full.1 ∙ ap (λ (n : ℕ). different (leaves_of (leaves_pairs read n ps))) (sym (next_leaf k)) in
    let whole = ap different (split (pairs_from (1024 * k) (index_at read p)) (leaves_pairs read (1024 * k + 1024) ps)) in
    omega (arith, rest, group, whole)

count_leaves : (read : Blocks) (k : ℕ) (ps : List ℕ) → IsFull read (nonzero ps) → length (nonzero ps) ≡ different (leaves_of (leaves_pairs read (1024 * k) ps))
unfolding leaves_of
count_leaves read k [] full = refl
count_leaves read k (p ∷ ps) full = count_step (p == 0) read k p ps refl full (count_leaves read (k + 1) ps)

-- ---- the three heights

few_blocks : (blocks : ℕ) (ps : List ℕ) → nat_le blocks 1 ≡ true → index_blocks blocks ps ≡ 0
few_blocks blocks [] is = refl
few_blocks blocks (p ∷ ps) is = ap (λ (t : Bool). cond t 0 (different (map (λ q. q / 1024) (p ∷ ps)) + cond (nat_lt 1024 blocks) 1 0)) is

some_places : (blocks : ℕ) (ps : List ℕ) → 1 ≤ length ps → index_blocks blocks ps ≡ cond (nat_le blocks 1) 0 (different (map (λ q. q / 1024) ps) + cond (nat_lt 1024 blocks) 1 0)
some_places blocks [] some = absurd (omega arith)
some_places blocks (p ∷ ps) some = refl

with_tops : (blocks : ℕ) (pairs : List (ℕ × ℕ)) (top : Bool) → 1 ≤ length pairs → nat_le blocks 1 ≡ false → nat_lt 1024 blocks ≡ top → index_blocks blocks (map (λ e. e.0) pairs) ≡ different (leaves_of pairs) + cond top 1 0
unfolding leaves_of
with_tops blocks pairs top some more is =
    let there : 1 ≤ length (map (λ (e : ℕ × ℕ). e.0) pairs) = omega (arith, some, map_length pairs) in
    some_places blocks (map (λ e. e.0) pairs) there ∙ (λ i. cond (more i) 0 (different (map (λ q. q / 1024) (map (λ (e : ℕ × ℕ). e.0) pairs)) + cond (is i) 1 0))
  where
    map_length : (xs : List (ℕ × ℕ)) → length (map (λ (e : ℕ × ℕ). e.0) xs) ≡ length xs
    map_length [] = refl
    map_length (x ∷ xs) = ap suc (map_length xs)

no_pairs : (read : Blocks) (ptr : ℕ) → (ptr == 0) ≡ true → index_at read ptr ≡ []
no_pairs read ptr is = ap (λ (t : Bool). cond t [] (take 1024 (words (read ptr)))) is

-- one leaf
leaf_case : (t : Bool) (read : Blocks) (ptr blocks : ℕ) → (ptr == 0) ≡ t → nat_le blocks 1 ≡ false → nat_le blocks 1024 ≡ true → IsFull read (cond (not t) (ptr ∷ []) [])
    → length (cond (not t) (ptr ∷ []) []) ≡ index_blocks blocks (map (λ e. e.0) (pairs_from 0 (index_at read ptr)))
leaf_case true read ptr blocks is more few full = ap (λ (ps : List ℕ). index_blocks blocks (map (λ e. e.0) (pairs_from 0 ps))) (sym (no_pairs read ptr is))
leaf_case false read ptr blocks is more few full =
    let pairs = pairs_from 0 (index_at read ptr) in
    let some = some_pair 0 (index_at read ptr) full.0 in
    let low : nat_lt 1024 blocks ≡ false = grind (arith, nat_tests) in
    let group = group_first 0 (leaves_of pairs) [] (leaf_at read 0 ptr) (omega (arith, some, leaves_length pairs)) tt in
    let one : different (leaves_of pairs) ≡ 1 = ap different (sym (append-nil (leaves_of pairs))) ∙ group in
    omega (arith, with_tops blocks pairs false some more low, one)

-- a top index: it has a pointer, so there is a leaf, so there is a pair
top_case : (t : Bool) (read : Blocks) (ptr blocks : ℕ) → (ptr == 0) ≡ t → nat_le blocks 1 ≡ false → nat_le blocks 1024 ≡ false
    → IsFull read (cond (not t) (ptr ∷ nonzero (index_at read ptr)) (nonzero (index_at read ptr)))
    → length (cond (not t) (ptr ∷ nonzero (index_at read ptr)) (nonzero (index_at read ptr))) ≡ index_blocks blocks (map (λ e. e.0) (leaves_pairs read 0 (index_at read ptr)))
top_case true read ptr blocks is more many full =
    (λ i. length (nonzero (no_pairs read ptr is i))) ∙ ap (λ (ps : List ℕ). index_blocks blocks (map (λ e. e.0) (leaves_pairs read 0 ps))) (sym (no_pairs read ptr is))
top_case false read ptr blocks is more many full =
    let pairs = leaves_pairs read 0 (index_at read ptr) in
    let count : length (nonzero (index_at read ptr)) ≡ different (leaves_of pairs) = count_leaves read 0 (index_at read ptr) full.1 in
    let tops : 1 ≤ length (nonzero (index_at read ptr)) = some_one (index_at read ptr) full.0 in
    let there : 1 ≤ length pairs = omega (arith, leaves_length pairs, different_some (leaves_of pairs) (omega (arith, tops, count))) in
    let high : nat_lt 1024 blocks ≡ true = grind (arith, nat_tests) in
    omega (arith, with_tops blocks pairs true there more high, count)
  where
    step_one : (t : Bool) (p : ℕ) (ps : List ℕ) (rest : Bool) → (t && rest) ≡ false → (rest ≡ false → 1 ≤ length (nonzero ps)) → 1 ≤ length (cond (not t) (p ∷ nonzero ps) (nonzero ps))
    step_one true p ps rest none more = more none
    step_one false p ps rest none more = omega arith

    some_one : (ps : List ℕ) → list_all (λ q. q == 0) ps ≡ false → 1 ≤ length (nonzero ps)
    some_one [] none = cc
    some_one (p ∷ ps) none = step_one (p == 0) p ps (list_all (λ q. q == 0) ps) none (some_one ps)

    different_some : (xs : List ℕ) → 1 ≤ different xs → 1 ≤ length xs
    different_some [] le = le
    different_some (x ∷ xs) le = omega arith

abbrev Counts : Blocks → ℕ → ℕ → ℕ → Type 0
Counts read ptr blocks h = IsFull read (indexes_below read h ptr) → length (indexes_below read h ptr) ≡ index_blocks blocks (map (λ e. e.0) (pairs_below read h ptr))

by_height : (s t : Bool) (read : Blocks) (ptr blocks : ℕ) → nat_le blocks 1 ≡ s → nat_le blocks 1024 ≡ t → Counts read ptr blocks (cond s 0 (cond t 1 2))
by_height true t read ptr blocks is has = λ full. sym (few_blocks blocks _ is)
by_height false true read ptr blocks is has = leaf_case (ptr == 0) read ptr blocks refl is has
by_height false false read ptr blocks is has = top_case (ptr == 0) read ptr blocks refl is has

pub index_count : IndexCount
index_count read ptr blocks = by_height (nat_le blocks 1) (nat_le blocks 1024) read ptr blocks refl refl
