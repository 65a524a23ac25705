-- What the walk meets above the nodes: the inode index and the inode blocks, where it meets no fault.
use Rattle.std.proofs.Common.{◌≡◌, ℕ, zero, suc, ◌+◌, ◌*◌, ◌/◌, ◌≤◌, Bool, true, false, not, cond, List, [], ◌∷◌, ◌++◌, length, take, drop, map, refl, sym, ap, subst, ◌∙◌, arith}
use Rattle.std.specs.Prelude.{◌==◌, ◌&&◌, ◌||◌, bytes_eq}
use Rattle.std.specs.List.{list_any, AllByRecursion, flat_map}
use Rattle.std.proofs.lemmas.List.{map-append}
use Rattle.std.proofs.lemmas.List.Concat.{flat_map-cons}
use Rattle.std.proofs.lemmas.Bool.Decides.{nat_tests}
use Rattle.block_format.specs.Inode.{inode_in, inode_bytes, inode_shape, pointer_of}
use Rattle.block_format.specs.declared.inode.Inode.{Inode}
use Rattle.block_tree.specs.Tree.{Blocks, nonzero}
use Rattle.block_tree.proofs.Groups.{AllAre, AllFrom, from_append, are_from, from_less, group_first}
use Rattle.place_words.specs.Different.{different}
use Rattle.image_model.specs.Met.{not_inode, stray, NoFaults}
use Rattle.image_model.specs.Walk.{is_used, is_good, is_pointer_wrong, bad_met, block_met, blocks_met, inodes_from, blocks_inodes, nodes_of}
use Rattle.image_model.proofs.TreeLaws.{first_faults, other_faults}

-- the groups of 64 that nodes lie in
abbrev pub groups_of : List (ℕ × Inode) → List ℕ
groups_of nodes = map (λ n. n / 64) (map (λ (x : ℕ × Inode). x.0) nodes)

pub groups_split : (xs ys : List (ℕ × Inode)) → groups_of (xs ++ ys) ≡ groups_of xs ++ groups_of ys
groups_split xs ys = ap (map (λ n. n / 64)) (map-append (λ (x : ℕ × Inode). x.0) xs ys) ∙ map-append (λ n. n / 64) (map (λ (x : ℕ × Inode). x.0) xs) (map (λ (x : ℕ × Inode). x.0) ys)

groups_length : (xs : List (ℕ × Inode)) → length (groups_of xs) ≡ length xs
groups_length [] = refl
groups_length (x ∷ xs) = ap suc (groups_length xs)

pub used_split : (xs ys : List (ℕ × List ℕ)) → nodes_of (xs ++ ys) ≡ nodes_of xs ++ nodes_of ys
used_split [] ys = refl
used_split ((n, bytes) ∷ xs) ys = by (is_used (inode_in bytes)) (used_split xs ys)
  where
    by : (t : Bool) → nodes_of (xs ++ ys) ≡ nodes_of xs ++ nodes_of ys → cond t ((n, inode_in bytes) ∷ nodes_of (xs ++ ys)) (nodes_of (xs ++ ys)) ≡ cond t ((n, inode_in bytes) ∷ nodes_of xs) (nodes_of xs) ++ nodes_of ys
    by true more = ap (λ (nodes : List (ℕ × Inode)). (n, inode_in bytes) ∷ nodes) more
    by false more = more

-- the inodes of one block are of one group
one_node : (t : Bool) (k n : ℕ) (inode : Inode) (nodes : List (ℕ × Inode)) → n / 64 ≡ k → AllAre k (groups_of nodes) → AllAre k (groups_of (cond t ((n, inode) ∷ nodes) nodes))
one_node true k n inode nodes e all = (e, all)
one_node false k n inode nodes e all = all

block_group : (m k n : ℕ) (bytes : List ℕ) → 64 * k ≤ n → n + m ≤ 64 * k + 64 → AllAre k (groups_of (nodes_of (inodes_from m n bytes)))
unfolding inodes_from
block_group zero k n bytes le lt = tt
block_group (suc m) k n bytes le lt =
    one_node (is_used (inode_in (take 64 bytes))) k n (inode_in (take 64 bytes)) (nodes_of (inodes_from m (n + 1) (drop 64 bytes))) (omega (arith, le, lt)) (block_group m k (n + 1) (drop 64 bytes) (omega (arith, le)) (omega (arith, lt)))

-- where one is used, there is a node
pub some_used : (inodes : List (ℕ × List ℕ)) → list_any (λ x. is_used (inode_in x.1)) inodes ≡ true → 1 ≤ length (nodes_of inodes)
some_used [] any = cc
some_used ((n, bytes) ∷ inodes) any = by (is_used (inode_in bytes)) any (some_used inodes)
  where
    by : (t : Bool) → (t || list_any (λ (x : ℕ × List ℕ). is_used (inode_in x.1)) inodes) ≡ true → (list_any (λ (x : ℕ × List ℕ). is_used (inode_in x.1)) inodes ≡ true → 1 ≤ length (nodes_of inodes)) → 1 ≤ length (cond t ((n, inode_in bytes) ∷ nodes_of inodes) (nodes_of inodes))
    by true any more = omega arith
    by false any more = more any

-- what isn't met: the inodes are in the grammar, and number 0 isn't used
abbrev pub HasShapes : List (ℕ × Inode) → Type 0
HasShapes nodes = AllByRecursion (λ node. (inode_shape node.1 ≡ true) × (1 ≤ node.0)) nodes

shape_first : (a b c : Bool) → ((a && b) && c) ≡ true → a ≡ true
shape_first true b c e = refl
shape_first false b c e = e

pub good_none : (t : Bool) (n : ℕ) → NoFaults (cond t [] (not_inode n ∷ [])) → (t ≡ true) × (cond t [] (not_inode n ∷ []) ≡ [])
good_none true n none = (refl, refl)
good_none false n none = absurd none.0

-- an inode that isn't good is a fault, whichever
pub fault_none : (t u : Bool) (n p : ℕ) → NoFaults (cond t [] (cond u (stray n p ∷ []) (not_inode n ∷ []))) → (t ≡ true) × (cond t [] (cond u (stray n p ∷ []) (not_inode n ∷ [])) ≡ [])
fault_none true u n p none = (refl, refl)
fault_none false true n p none = absurd none.0
fault_none false false n p none = absurd none.0

with_shape : (t : Bool) (n : ℕ) (inode : Inode) (nodes : List (ℕ × Inode)) → inode_shape inode ≡ true → (t ≡ true → 1 ≤ n) → HasShapes nodes → HasShapes (cond t ((n, inode) ∷ nodes) nodes)
with_shape true n inode nodes is low all = ((is, low refl), all)
with_shape false n inode nodes is low all = all

shape_last : (a b c : Bool) → ((a && b) && c) ≡ true → c ≡ true
shape_last true true c e = e
shape_last true false c e = cc
shape_last false b c e = cc

not_zero : (n : ℕ) (u : Bool) → not (n == 0 && u) ≡ true → u ≡ true → 1 ≤ n
not_zero zero true e used = let is : (zero == 0) ≡ true = grind (arith, nat_tests) in cc
not_zero zero false e used = cc
not_zero (suc n) u e used = omega arith

each_good : (inodes : List (ℕ × List ℕ)) → NoFaults (flat_map bad_met inodes) → HasShapes (nodes_of inodes) × (flat_map bad_met inodes ≡ [])
each_good [] none = (tt, refl)
each_good ((n, bytes) ∷ inodes) none =
    let cons = flat_map-cons bad_met (n, bytes) inodes in
    let parts : NoFaults (bad_met (n, bytes) ++ flat_map bad_met inodes) = subst NoFaults cons none in
    let here = fault_none (is_good (n, bytes)) (is_pointer_wrong (n, bytes)) n (pointer_of (inode_in bytes)) (first_faults (bad_met (n, bytes)) (flat_map bad_met inodes) parts) in
    let more = each_good inodes (other_faults (bad_met (n, bytes)) (flat_map bad_met inodes) parts) in
    let shape : inode_shape (inode_in bytes) ≡ true = shape_first _ _ _ here.0 in
    (with_shape (is_used (inode_in bytes)) n (inode_in bytes) (nodes_of inodes) shape (not_zero n (is_used (inode_in bytes)) (shape_last (inode_shape (inode_in bytes)) (bytes_eq (inode_bytes (inode_in bytes)) bytes) (not (n == 0 && is_used (inode_in bytes))) here.0)) more.0, cons ∙ (λ i. here.1 i ++ more.1 i))

shapes_append : (xs ys : List (ℕ × Inode)) → HasShapes xs → HasShapes ys → HasShapes (xs ++ ys)
shapes_append [] ys a b = b
shapes_append (x ∷ xs) ys a b = (a.0, shapes_append xs ys a.1 b)

above : (read : Blocks) (k : ℕ) (es : List ℕ) → AllFrom k (groups_of (nodes_of (blocks_inodes read (64 * k) es)))
above read k [] = tt
above read k (e ∷ es) =
    let next : 64 * k + 64 ≡ 64 * (k + 1) = omega arith in
    let here = cond (e == 0) [] (inodes_from 64 (64 * k) (read e)) in
    let rest = blocks_inodes read (64 * k + 64) es in
    let more : AllFrom (k + 1) (groups_of (nodes_of rest)) = subst (λ n. AllFrom (k + 1) (groups_of (nodes_of (blocks_inodes read n es)))) (sym next) (above read (k + 1) es) in
    subst (AllFrom k) (sym (ap groups_of (used_split here rest) ∙ groups_split (nodes_of here) (nodes_of rest)))
    (from_append k (groups_of (nodes_of here)) (groups_of (nodes_of rest)) (are_from k _ (group (e == 0))) (from_less k (k + 1) (omega arith) _ more))
  where
    group : (t : Bool) → AllAre k (groups_of (nodes_of (cond t [] (inodes_from 64 (64 * k) (read e)))))
    group true = tt
    group false = block_group 64 k (64 * k) (read e) (omega arith) (omega arith)

-- Where no fault is met in the inode blocks, nothing is; the inodes have their shapes; and there are as many blocks as the nodes have groups.
pub record InodesMet (read : Blocks) (k : ℕ) (es : List ℕ) : Type 0 where
  pub none : blocks_met read (64 * k) es ≡ []
  pub shapes : HasShapes (nodes_of (blocks_inodes read (64 * k) es))
  pub count : length (nonzero es) ≡ different (groups_of (nodes_of (blocks_inodes read (64 * k) es)))

module _ (read : Blocks) (k e : ℕ) (es : List ℕ) where
  next : 64 * k + 64 ≡ 64 * (k + 1)
  next = omega arith

  abbrev inodes : List (ℕ × List ℕ)
  inodes = inodes_from 64 (64 * k) (read e)

  abbrev rest : List (ℕ × List ℕ)
  rest = blocks_inodes read (64 * k + 64) es

  inodes_step : (t : Bool) → NoFaults (cond t [] (block_met (64 * k) inodes) ++ blocks_met read (64 * k + 64) es) → InodesMet read (k + 1) es
      → ((cond t [] (block_met (64 * k) inodes) ++ blocks_met read (64 * k + 64) es) ≡ []) × HasShapes (nodes_of (cond t [] inodes ++ rest))
      × (length (cond (not t) (e ∷ nonzero es) (nonzero es)) ≡ different (groups_of (nodes_of (cond t [] inodes ++ rest))))
  inodes_step true none more = (
    (λ i. blocks_met read (next i) es) ∙ more.none,
    subst (λ (n : ℕ). HasShapes (nodes_of (blocks_inodes read n es))) (sym next) more.shapes,
    more.count ∙ ap (λ (n : ℕ). different (groups_of (nodes_of (blocks_inodes read n es)))) (sym next),
  )
  inodes_step false none more =
      let block = block_met (64 * k) inodes in
      let bad = flat_map bad_met inodes in
      let blank = cond (list_any (λ (x : ℕ × List ℕ). is_used (inode_in x.1)) inodes) [] (not_inode (64 * k) ∷ []) in
      let here = first_faults block (blocks_met read (64 * k + 64) es) none in
      let each = each_good inodes (first_faults bad blank here) in
      let used = good_none (list_any (λ (x : ℕ × List ℕ). is_used (inode_in x.1)) inodes) (64 * k) (other_faults bad blank here) in
      let shapes : HasShapes (nodes_of rest) = subst (λ (n : ℕ). HasShapes (nodes_of (blocks_inodes read n es))) (sym next) more.shapes in
      let count : length (nonzero es) ≡ different (groups_of (nodes_of rest)) = more.count ∙ ap (λ (n : ℕ). different (groups_of (nodes_of (blocks_inodes read n es)))) (sym next) in
      let from : AllFrom (k + 1) (groups_of (nodes_of rest)) = subst (λ n. AllFrom (k + 1) (groups_of (nodes_of (blocks_inodes read n es)))) (sym next) (above read (k + 1) es) in
      let one = group_first k (groups_of (nodes_of inodes)) (groups_of (nodes_of rest)) (block_group 64 k (64 * k) (read e) (omega arith) (omega arith)) (omega (arith, groups_length (nodes_of inodes), some_used inodes used.0)) from in
      let split = used_split inodes rest in (
        (λ i. (each.1 i ++ used.1 i) ++ blocks_met read (next i) es) ∙ more.none,
        subst HasShapes (sym split) (shapes_append (nodes_of inodes) (nodes_of rest) each.0 shapes),
        omega (arith, count, one, ap different (ap groups_of split ∙ groups_split (nodes_of inodes) (nodes_of rest))),
      )

pub inodes_good : (read : Blocks) (k : ℕ) (es : List ℕ) → NoFaults (blocks_met read (64 * k) es) → InodesMet read k es
inodes_good read k [] none = record { none = refl; shapes = tt; count = refl }
inodes_good read k (e ∷ es) none =
    let next : 64 * k + 64 ≡ 64 * (k + 1) = omega arith in
    let here = cond (e == 0) [] (block_met (64 * k) (inodes_from 64 (64 * k) (read e))) in
    let more = inodes_good read (k + 1) es (subst (λ (n : ℕ). NoFaults (blocks_met read n es)) next (other_faults here (blocks_met read (64 * k + 64) es) none)) in
    let step = inodes_step read k e es (e == 0) none more in
    record { none = step.0; shapes = step.1; count = step.2 }
