-- Where no pointer past a node's blocks is met, none is a stray.
use Rattle.std.proofs.Common.{◌≡◌, ℕ, zero, suc, ◌+◌, ◌*◌, Bool, true, false, not, cond, List, [], ◌∷◌, ◌++◌, refl, sym, ap, subst, ◌∙◌}
use Rattle.std.specs.Prelude.{◌==◌, ◌&&◌, bytes_eq, nat_lt, Option, Some, None}
use Rattle.std.specs.List.{flat_map, list_any, list_all, AllByRecursion}
use Rattle.std.proofs.lemmas.Bool.{eqb-true}
use Rattle.std.proofs.lemmas.Grind.{flat_map-append}
use Rattle.std.proofs.lemmas.List.Concat.{flat_map-cons}
use Rattle.vol_numbers.specs.Layout.{Layout}
use Rattle.block_format.specs.Inode.{blocks_of, inode_bytes, inode_in, pointer_of}
use Rattle.block_format.specs.declared.inode.Inode.{Inode}
use Rattle.block_format.specs.declared.inode.Inode.TheVariants.{Unused, File, Directory}
use Rattle.block_tree.specs.Tree.{Blocks, index_at}
use Rattle.image_model.specs.declared.finding.Finding.{Finding}
use Rattle.image_model.specs.Findings.{◌then◌, met_finding, reached_with, walk_finding}
use Rattle.image_model.specs.Met.{Met, index, page, content, past, empty, not_inode, stray}
use Rattle.image_model.specs.Walk.{places_met, empty_met, empty_at, leaf_met, tops_met, leaves_met, tree_met, node_met, is_used, is_directory, is_good, is_stray, is_pointer_wrong, bad_met, inodes_from, blocks_inodes, block_met, blocks_met, nodes_of, root_met, entries_met, nodes_at, walk}
use Rattle.image_model.proofs.InodeWalk.{used_split}

abbrev pub NotPast : Met → Type 0
NotPast (past b) = ⊥
NotPast other = Unit {0}

abbrev pub NotStray : Met → Type 0
NotStray (stray n p) = ⊥
NotStray other = Unit {0}

abbrev pub NonePast : List Met → Type 0
NonePast ms = AllByRecursion NotPast ms

abbrev pub NoneStray : List Met → Type 0
NoneStray ms = AllByRecursion NotStray ms

first : (xs ys : List Met) → NonePast (xs ++ ys) → NonePast xs
first [] ys all = tt
first (x ∷ xs) ys all = (all.0, first xs ys all.1)

second : (xs ys : List Met) → NonePast (xs ++ ys) → NonePast ys
second [] ys all = all
second (x ∷ xs) ys all = second xs ys all.1

both : (xs ys : List Met) → NoneStray xs → NoneStray ys → NoneStray (xs ++ ys)
both [] ys a b = b
both (x ∷ xs) ys a b = (a.0, both xs ys a.1 b)

-- where the walk finds nothing, it meets no pointer past a node's blocks
pub none_past : (g : Layout) (reached : List ℕ) (ms : List Met) → walk_finding g reached ms ≡ None → NonePast ms
none_past g reached [] none = tt
none_past g reached (m ∷ ms) none = (here m (then_none _ _ none).0, none_past g (reached_with reached m) ms (then_none (met_finding g reached m) _ none).1)
  where
    then_none : (a b : Option Finding) → (a then b) ≡ None → (a ≡ None) × (b ≡ None)
    then_none None b none = (refl, none)
    then_none (Some e) b none = cc

    here : (m : Met) → met_finding g reached m ≡ None → NotPast m
    here (index b) none = tt
    here (page n place b) none = tt
    here (content n place b) none = tt
    here (past b) none = cc
    here (empty b) none = tt
    here (not_inode n) none = tt
    here (stray n p) none = tt

-- ---- inodes

two : (a b : Bool) → (a && b) ≡ true → (a ≡ true) × (b ≡ true)
two true b e = (refl, e)
two false b e = cc

not_true : (a : Bool) → not a ≡ true → a ≡ false
not_true true e = cc
not_true false e = refl

-- the pointer of a node of no bytes is past its blocks
pointed : (t : Bool) (m : Met) (p : ℕ) (rest : List Met) → t ≡ false → NonePast (cond t [] (past p ∷ []) ++ rest) → ⊥
pointed true m p rest is all = cc
pointed false m p rest is all = all.0

stray_is_past : (read : Blocks) (n : ℕ) (x : Inode) → is_stray x ≡ true → (rest : List Met) → NonePast (node_met read (n, x) ++ rest) → ⊥
stray_is_past read n Unused is rest all = cc
stray_is_past read n (File size height ptr) is rest all =
    let a = two (size == 0 && height == 0) (not (ptr == 0)) is in
    let b = two (size == 0) (height == 0) a.0 in
    let whole = subst (λ (s : ℕ). NonePast (tree_met read (content n) (blocks_of s) height ptr ++ rest)) (eqb-true size 0 b.0) all in
    pointed (ptr == 0) (past ptr) ptr rest (not_true (ptr == 0) a.1) (subst (λ (h : ℕ). NonePast (tree_met read (content n) (blocks_of 0) h ptr ++ rest)) (eqb-true height 0 b.1) whole)
stray_is_past read n (Directory width height ptr) is rest all =
    let a = two (width == 0 && height == 0) (not (ptr == 0)) is in
    let b = two (width == 0) (height == 0) a.0 in
    let whole = subst (λ (w : ℕ). NonePast (tree_met read (page n) (blocks_of (256 * w)) height ptr ++ rest)) (eqb-true width 0 b.0) all in
    pointed (ptr == 0) (past ptr) ptr rest (not_true (ptr == 0) a.1) (subst (λ (h : ℕ). NonePast (tree_met read (page n) (blocks_of (256 * 0)) h ptr ++ rest)) (eqb-true height 0 b.1) whole)

stray_used : (x : Inode) → is_stray x ≡ true → is_used x ≡ true
stray_used Unused is = cc
stray_used (File size height ptr) is = refl
stray_used (Directory width height ptr) is = refl

module _ (read : Blocks) where
  abbrev below : List (ℕ × Inode) → List Met
  below nodes = flat_map (node_met read) nodes

  used_here : (u : Bool) (n : ℕ) (x : Inode) (rest : List (ℕ × Inode)) → is_used x ≡ u → NonePast (below (cond u ((n, x) ∷ rest) rest)) → (is_stray x ≡ true → ⊥) × NonePast (below rest)
  used_here true n x rest is all =
      let parts : NonePast (node_met read (n, x) ++ below rest) = subst NonePast (flat_map-cons (node_met read) (n, x) rest) all in
      (λ stray. stray_is_past read n x stray (below rest) parts, second (node_met read (n, x)) (below rest) parts)
  used_here false n x rest is all = (λ stray. let used = stray_used x stray in cc, all)

  bad_here : (t u : Bool) (n p : ℕ) → (u ≡ true → ⊥) → NoneStray (cond t [] (cond u (stray n p ∷ []) (not_inode n ∷ [])))
  bad_here true u n p never = tt
  bad_here false true n p never = absurd (never refl)
  bad_here false false n p never = (tt, tt)

  inodes_none : (xs : List (ℕ × List ℕ)) → NonePast (below (nodes_of xs)) → NoneStray (flat_map bad_met xs)
  inodes_none [] all = tt
  inodes_none ((n, bytes) ∷ xs) all =
      let here = used_here (is_used (inode_in bytes)) n (inode_in bytes) (nodes_of xs) refl all in
      subst NoneStray (sym (flat_map-cons bad_met (n, bytes) xs))
      (both (bad_met (n, bytes)) (flat_map bad_met xs)
      (bad_here (is_good (n, bytes)) (is_pointer_wrong (n, bytes)) n (pointer_of (inode_in bytes)) (λ wrong. here.0 (two (is_stray (inode_in bytes)) (bytes_eq (inode_bytes (inode_in bytes)) bytes) (two _ (not (n == 0)) wrong).0).0))
      (inodes_none xs here.1))

  none_used : (t : Bool) (n : ℕ) → NoneStray (cond t [] (not_inode n ∷ []))
  none_used true n = tt
  none_used false n = (tt, tt)

  block_none : (n : ℕ) (xs : List (ℕ × List ℕ)) → NonePast (below (nodes_of xs)) → NoneStray (block_met n xs)
  block_none n xs all = both (flat_map bad_met xs) _ (inodes_none xs all) (none_used (list_any (λ (x : ℕ × List ℕ). is_used (inode_in x.1)) xs) n)

  blocks_none : (n : ℕ) (es : List ℕ) → NonePast (below (nodes_of (blocks_inodes read n es))) → NoneStray (blocks_met read n es)
  blocks_none n [] all = tt
  blocks_none n (e ∷ es) all =
      let here = cond (e == 0) [] (inodes_from 64 n (read e)) in
      let rest = blocks_inodes read (n + 64) es in
      let split : below (nodes_of (here ++ rest)) ≡ below (nodes_of here) ++ below (nodes_of rest) = ap below (used_split here rest) ∙ flat_map-append (node_met read) (nodes_of here) (nodes_of rest) in
      let parts : NonePast (below (nodes_of here) ++ below (nodes_of rest)) = subst NonePast split all in
      both _ _ (by (e == 0) (first (below (nodes_of here)) (below (nodes_of rest)) parts)) (blocks_none (n + 64) es (second (below (nodes_of here)) (below (nodes_of rest)) parts))
    where
      by : (t : Bool) → NonePast (below (nodes_of (cond t [] (inodes_from 64 n (read e))))) → NoneStray (cond t [] (block_met n (inodes_from 64 n (read e))))
      by true all = tt
      by false all = block_none n (inodes_from 64 n (read e)) all

  -- ---- nothing else of the walk is a stray

  at_none : (what : ℕ → Met) → ((p : ℕ) → NotStray (what p)) → (t below : Bool) (p : ℕ) → NoneStray (cond t [] (cond below (what p) (past p) ∷ []))
  at_none what fine true below p = tt
  at_none what fine false true p = (fine p, tt)
  at_none what fine false false p = (tt, tt)

  entries_none : (es : List ℕ) → NoneStray (entries_met es)
  entries_none [] = tt
  entries_none (e ∷ es) = both _ (entries_met es) (at_none index (λ p. tt) (e == 0) true e) (entries_none es)

  root_none : (t : Bool) → NoneStray (cond t [] (not_inode 1 ∷ []))
  root_none true = tt
  root_none false = (tt, tt)

  empty_none : (t : Bool) (b : ℕ) → NoneStray (cond t (empty b ∷ []) [])
  empty_none true b = (tt, tt)
  empty_none false b = tt

  tops_none : (blocks place : ℕ) (ps : List ℕ) → NoneStray (tops_met blocks place ps)
  tops_none blocks place [] = tt
  tops_none blocks place (p ∷ ps) = both _ (tops_met blocks (place + 1024) ps) (at_none index (λ p. tt) (p == 0) (nat_lt place blocks) p) (tops_none blocks (place + 1024) ps)

  module _ (what : ℕ → ℕ → Met) (fine : (place p : ℕ) → NotStray (what place p)) (blocks : ℕ) where
    places_none : (place : ℕ) (ps : List ℕ) → NoneStray (places_met what blocks place ps)
    places_none place [] = tt
    places_none place (p ∷ ps) = both _ (places_met what blocks (place + 1) ps) (at_none (what place) (fine place) (p == 0) (nat_lt place blocks) p) (places_none (place + 1) ps)

    leaf_none : (place b : ℕ) → NoneStray (leaf_met read what blocks place b)
    leaf_none place b = by (b == 0)
      where
        by : (t : Bool) → NoneStray (cond t [] (empty_met b (index_at read b) ++ places_met what blocks place (index_at read b)))
        by true = tt
        by false = both (empty_met b (index_at read b)) _ (empty_none (list_all (λ p. p == 0) (index_at read b)) b) (places_none place (index_at read b))

    leaves_none : (place : ℕ) (ps : List ℕ) → NoneStray (leaves_met read what blocks place ps)
    leaves_none place [] = tt
    leaves_none place (p ∷ ps) = both (leaf_met read what blocks place p) _ (leaf_none place p) (leaves_none (place + 1024) ps)

    tree_none : (height ptr : ℕ) → NoneStray (tree_met read what blocks height ptr)
    tree_none zero ptr = at_none (what 0) (fine 0) (ptr == 0) (nat_lt 0 blocks) ptr
    tree_none (suc zero) ptr = both _ (leaf_met read what blocks 0 ptr) (at_none index (λ p. tt) (ptr == 0) (nat_lt 0 blocks) ptr) (leaf_none 0 ptr)
    tree_none (suc (suc height)) ptr =
        both _ _ (at_none index (λ p. tt) (ptr == 0) (nat_lt 0 blocks) ptr)
        (both (empty_at read ptr) _ (by (ptr == 0)) (both (tops_met blocks 0 (index_at read ptr)) _ (tops_none blocks 0 (index_at read ptr)) (leaves_none 0 (index_at read ptr))))
      where
        by : (t : Bool) → NoneStray (cond t [] (empty_met ptr (index_at read ptr)))
        by true = tt
        by false = empty_none (list_all (λ p. p == 0) (index_at read ptr)) ptr

  node_none : (n : ℕ) (x : Inode) → NoneStray (node_met read (n, x))
  node_none n Unused = tt
  node_none n (File size height ptr) = tree_none (content n) (λ place p. tt) (blocks_of size) height ptr
  node_none n (Directory width height ptr) = tree_none (page n) (λ place p. tt) (blocks_of (256 * width)) height ptr

  below_none : (nodes : List (ℕ × Inode)) → NoneStray (below nodes)
  below_none [] = tt
  below_none ((n, x) ∷ nodes) = subst NoneStray (sym (flat_map-cons (node_met read) (n, x) nodes)) (both (node_met read (n, x)) (below nodes) (node_none n x) (below_none nodes))

  pub none_stray : (at : ℕ) → NonePast (walk read at) → NoneStray (walk read at)
  unfolding walk
  none_stray at all =
      let es = index_at read at in
      let nodes = nodes_at read at in
      let root = root_met nodes in
      let blocks = second (entries_met es) (blocks_met read 0 es ++ (root ++ below nodes)) all.1 in
      let nodes_past = second root (below nodes) (second (blocks_met read 0 es) (root ++ below nodes) blocks) in (
        tt,
        both (entries_met es) _ (entries_none es) (both (blocks_met read 0 es) _ (blocks_none 0 es nodes_past)
            (both root _ (root_none (list_any (λ (node : ℕ × Inode). node.0 == 1 && is_directory node.1) nodes)) (below_none nodes))),
      )
