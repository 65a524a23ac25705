-- What is known of the nodes that are seen of an image whose pointers and directories are sound.
use Rattle.std.proofs.Common.{◌≡◌, ℕ, Bool, true, false, cond, List, [], ◌∷◌, length, refl, ap, subst, ◌∙◌, arith}
use Rattle.std.specs.Prelude.{◌==◌, ◌&&◌, ◌||◌, nat_eq, Contains}
use Rattle.std.specs.List.{list_any}
use Rattle.std.proofs.lemmas.Bool.{eqb-true}
use Rattle.std.proofs.lemmas.Bool.Decides.{nat_tests}
use Rattle.vol_numbers.specs.Layout.{Layout}
use Rattle.block_format.specs.declared.inode.Inode.{Inode}
use Rattle.block_format.specs.declared.inode.Inode.TheVariants.{Unused, File, Directory}
use Rattle.block_tree.specs.Tree.{Blocks, index_at}
use Rattle.place_words.specs.Different.{is_among, Distinct}
use Rattle.image_model.specs.Nodes.{is_bad_directory}
use Rattle.image_model.specs.Seen.{Seen, seen_from}
use Rattle.image_model.specs.Slots.{inode_of}
use Rattle.image_model.specs.Sound.{AllGood}
use Rattle.image_model.specs.Walk.{is_directory, nodes_at, blocks_inodes}
use Rattle.image_model.proofs.NamedLaws.{NodesKnown}
use Rattle.image_model.proofs.Naming.{met, no_slots, directory_fine, used_limits}
use Rattle.image_model.proofs.NodePlaces.{numbers, numbers_distinct, nodes_used, directory_pairs}

any_among : (ns : List (ℕ × Inode)) → list_any (λ (node : ℕ × Inode). node.0 == 1 && is_directory node.1) ns ≡ true → is_among (numbers ns) 1 ≡ true
any_among [] any = cc
any_among (node ∷ ns) any = by (node.0 == 1) (is_directory node.1) any (any_among ns)
  where
    by : (t u : Bool) → ((t && u) || list_any (λ (node : ℕ × Inode). node.0 == 1 && is_directory node.1) ns) ≡ true → (list_any (λ (node : ℕ × Inode). node.0 == 1 && is_directory node.1) ns ≡ true → is_among (numbers ns) 1 ≡ true) → (t || is_among (numbers ns) 1) ≡ true
    by true u any more = refl
    by false u any more = more any

pub root_directory : (ns : List (ℕ × Inode)) → Distinct (numbers ns) → list_any (λ (node : ℕ × Inode). node.0 == 1 && is_directory node.1) ns ≡ true → is_directory (inode_of ns 1) ≡ true
root_directory [] distinct any = cc
root_directory (node ∷ ns) distinct any = by (node.0 == 1) refl (is_directory node.1) refl any (root_directory ns distinct.1)
  where
    by : (t : Bool) → (node.0 == 1) ≡ t → (u : Bool) → is_directory node.1 ≡ u → ((t && u) || list_any (λ (node : ℕ × Inode). node.0 == 1 && is_directory node.1) ns) ≡ true
        → (list_any (λ (node : ℕ × Inode). node.0 == 1 && is_directory node.1) ns ≡ true → is_directory (inode_of ns 1) ≡ true) → is_directory (cond t node.1 (inode_of ns 1)) ≡ true
    by true is true d any more = d
    by true is false d any more =
        let e : node.0 ≡ 1 = eqb-true node.0 1 is in
        let out : is_among (numbers ns) 1 ≡ false = subst (λ (k : ℕ). is_among (numbers ns) k ≡ false) e distinct.0 in
        let there = any_among ns any in
        cc
    by false is u d any more = more any

no_pairs : (read : Blocks) (x : Inode) → is_directory x ≡ false → length (directory_pairs read x) ≡ 0
no_pairs read Unused e = refl
no_pairs read (File size height ptr) e = refl
no_pairs read (Directory width height ptr) e = cc

module _ (read : Blocks) (at : ℕ) (homes : List ℕ) (count : ℕ) (g : Layout)
    (pointers : AllGood g (seen_from read at homes count).met (seen_from read at homes count).met)
    (directories : (node : ℕ × Inode) → Contains (seen_from read at homes count).nodes node → is_bad_directory (seen_from read at homes count) node ≡ false) where
  abbrev nodes : List (ℕ × Inode)
  nodes = nodes_at read at

  pub known : NodesKnown (seen_from read at homes count)
  known = record {
    distinct = numbers_distinct read at;
    used = nodes_used (blocks_inodes read 0 (index_at read at));
    limits = used_limits read at homes count g pointers directories;
    root = root_directory nodes (numbers_distinct read at) (met read at homes count g pointers directories).root;
    others = λ n no. no_slots read at homes count g pointers directories n (no_pairs read (inode_of nodes n) no);
    entries = λ d. (directory_fine read at homes count g pointers directories d (inode_of nodes d) refl).0;
    no_twins = λ d. (directory_fine read at homes count g pointers directories d (inode_of nodes d) refl).1;
  }
