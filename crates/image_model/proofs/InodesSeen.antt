-- The inodes of a volume that is spelled are those that are seen.
use Rattle.std.proofs.Common.{◌≡◌, ℕ, zero, suc, ◌+◌, ◌<◌, ◌≤◌, Bool, true, false, cond, List, [], ◌∷◌, ◌++◌, map, refl, sym, ap, subst, ◌∙◌, arith}
use Rattle.std.specs.Prelude.{◌==◌}
use Rattle.std.specs.List.{flat_map}
use Rattle.std.proofs.lemmas.Bool.Decides.{nat_tests}
use Rattle.root_switch.specs.Current.{root_of_image}
use Rattle.block_format.specs.declared.inode.Inode.{Inode}
use Rattle.block_format.specs.declared.inode.Inode.TheVariants.{Unused, File, Directory}
use Rattle.block_tree.specs.Tree.{index_at, nonzero, blocks_in}
use Rattle.image_model.specs.Spelling.{InodesAreSeen}
use Rattle.image_model.specs.Met.{index, NoFaults}
use Rattle.image_model.specs.Planned.{node_trees, used_from}
use Rattle.image_model.specs.Seen.{seen}
use Rattle.image_model.specs.Slots.{inode_of}
use Rattle.image_model.specs.Walk.{is_used, walk}
use Rattle.image_model.proofs.PlanLaws.{faults_append, index_fine, nodes_fine}
use Rattle.image_model.proofs.WalkSpelled.{walk_spelled, nodes_spelled}

pub unused_is : (x : Inode) → is_used x ≡ false → Unused ≡ x
unused_is Unused e = refl
unused_is (File size height ptr) e = cc
unused_is (Directory width height ptr) e = cc

module _ (of : ℕ → Inode) where
  none_before : (n m k : ℕ) → k < n → inode_of (used_from of n m) k ≡ Unused
  unfolding used_from
  none_before n zero k lt = refl
  none_before n (suc m) k lt = by (is_used (of n)) (none_before (n + 1) m k (omega (arith, lt)))
    where
      by : (t : Bool) → inode_of (used_from of (n + 1) m) k ≡ Unused → inode_of (cond t ((n, of n) ∷ []) [] ++ used_from of (n + 1) m) k ≡ Unused
      by true more = let apart : (n == k) ≡ false = grind (arith, nat_tests) in ap (λ (t : Bool). cond t (of n) (inode_of (used_from of (n + 1) m) k)) apart ∙ more
      by false more = more

  used_there : (n m k : ℕ) → n ≤ k → k < n + m → inode_of (used_from of n m) k ≡ of k
  unfolding used_from
  used_there n zero k le lt = absurd (omega (arith, le, lt))
  used_there n (suc m) k le lt = by (n == k) refl (is_used (of n)) refl (λ above. used_there (n + 1) m k above (omega (arith, lt)))
    where
      by : (t : Bool) → (n == k) ≡ t → (u : Bool) → is_used (of n) ≡ u → (n + 1 ≤ k → inode_of (used_from of (n + 1) m) k ≡ of k) → inode_of (cond u ((n, of n) ∷ []) [] ++ used_from of (n + 1) m) k ≡ of k
      by true is true used more =
          let e : n ≡ k = grind (arith, nat_tests) in
          ap (λ (t : Bool). cond t (of n) (inode_of (used_from of (n + 1) m) k)) is ∙ ap of e
      by true is false used more =
          let e : n ≡ k = grind (arith, nat_tests) in
          none_before (n + 1) m k (omega (arith, e)) ∙ unused_is (of n) used ∙ ap of e
      by false is true used more = let above : n + 1 ≤ k = grind (arith, nat_tests) in ap (λ (t : Bool). cond t (of n) (inode_of (used_from of (n + 1) m) k)) is ∙ more above
      by false is false used more = let above : n + 1 ≤ k = grind (arith, nat_tests) in more above

pub inodes_are_seen : InodesAreSeen
unfolding seen
inodes_are_seen image of spelled =
    let read = blocks_in image in
    let at = (root_of_image image).inode_index in
    let fine : NoFaults (walk read at) = subst NoFaults (sym (walk_spelled read at of spelled)) (tt, faults_append (map index (nonzero (index_at read at))) (flat_map (node_trees read) (used_from of 0 65536)) (index_fine (nonzero (index_at read at))) (nodes_fine read (used_from of 0 65536))) in
    (fine, λ n lt. ap (λ (nodes : List (ℕ × Inode)). inode_of nodes n) (nodes_spelled read at of spelled) ∙ used_there of 0 65536 n (omega arith) (omega (arith, lt)))
