-- As many inode blocks as positions that have a node.
use Rattle.std.proofs.Common.{◌≡◌, ℕ, zero, suc, ◌+◌, ◌/◌, ◌<◌, Bool, true, false, cond, List, [], ◌∷◌, map, Some, None, refl, sym, ap, subst, ◌∙◌, arith}
use Rattle.std.specs.Prelude.{◌||◌, nat_eq, Option, option_map, is_some}
use Rattle.std.specs.Ordering.{eq_by_cmp}
use Rattle.std.proofs.lemmas.Bool.Decides.{nat_tests}
use Rattle.block_format.specs.declared.inode.Inode.{Inode}
use Rattle.block_format.specs.declared.inode.Inode.TheVariants.{Unused, File, Directory}
use Rattle.image_model.proofs.TreeNodes.{keys}
use Rattle.inode_file.specs.Counting.{used_from, used_positions}
use Rattle.inode_file.specs.Inodes.{inode_of, is_used}
use Rattle.node_table.specs.Held.{info, info_of}
use Rattle.node_table.specs.declared.held.HeldNode.{HeldNode}
use Rattle.node_table.specs.declared.held.NodeInfo.{NodeInfo}
use Rattle.place_words.specs.Different.{different, is_among}
use Rattle.place_words.proofs.Totals.{different_same, images_same}
use Rattle.point_model.specs.Holding.{HoldsNumbers, node_now}
use Rattle.point_model.specs.PointPlan.{told}
use Rattle.point_space.specs.Needs.{InodeBlocksAre}
use Rattle.point_space.proofs.TreeSums.{AreIn, all_in}
use Rattle.tree_model.specs.Path.{Path, path_cmp}
use Rattle.tree_model.specs.Shape.{IsTree}
use Rattle.tree_model.specs.Tree.{Tree, node_at}
use Rattle.tree_model.specs.declared.node.Node.{Node}
use Rattle.volume_model.specs.Space.{inode_blocks}

or_later : (a b : Bool) → b ≡ true → (a || b) ≡ true
or_later true b e = refl
or_later false b e = e

same_bool : (a b : Bool) → (a ≡ true → b ≡ true) → (b ≡ true → a ≡ true) → a ≡ b
same_bool true b f g = sym (f refl)
same_bool false true f g = g refl
same_bool false false f g = refl

-- ---- the numbers of a tree

-- the number of a node that is found is one of them
pub found_key : (es : Tree) (path : Path) (node : Node) → node_at es path ≡ Some node → is_among (keys es) node.number ≡ true
found_key [] path node found = cc
found_key (e ∷ es) path node found = by (eq_by_cmp path_cmp path e.0) found (found_key es path node)
  where
    by : (t : Bool) → cond t (Some e.1) (node_at es path) ≡ Some node → (node_at es path ≡ Some node → is_among (keys es) node.number ≡ true) → (nat_eq e.1.number node.number || is_among (keys es) node.number) ≡ true
    by true is more =
        let one : e.1 ≡ node = cc in
        let number = ap (λ (x : Node). x.number) one in
        let same : nat_eq e.1.number node.number ≡ true = grind (arith, nat_tests) in ap (λ (t : Bool). t || is_among (keys es) node.number) same
    by false is more = or_later (nat_eq e.1.number node.number) _ (more is)

module _ (node : ℕ → Option HeldNode) (tree : Tree) (is_tree : IsTree tree) (holds : HoldsNumbers node tree) where
  some_map : (h : Option HeldNode) (x : NodeInfo) → option_map info h ≡ Some x → is_some h ≡ true
  some_map None x e = cc
  some_map (Some h) x e = refl

  held_key : (es : Tree) → AreIn tree es → (n : ℕ) → is_among (keys es) n ≡ true → is_some (node n) ≡ true
  held_key [] found n among = cc
  held_key (e ∷ es) found n among = by (nat_eq e.1.number n) refl among (held_key es found.1 n)
    where
      by : (t : Bool) → nat_eq e.1.number n ≡ t → (t || is_among (keys es) n) ≡ true → (is_among (keys es) n ≡ true → is_some (node n) ≡ true) → is_some (node n) ≡ true
      by true is among more =
          let number : e.1.number ≡ n = grind (arith, nat_tests) in
          subst (λ (k : ℕ). is_some (node k) ≡ true) number (some_map (node e.1.number) (info_of e.1.content) (holds.each e.0 e.1 found.0))
      by false is among more = more among

  key_held : (n : ℕ) → is_some (node n) ≡ true → is_among (keys tree) n ≡ true
  key_held n is = let has = holds.others n is in subst (λ (k : ℕ). is_among (keys tree) k ≡ true) has.3 (found_key tree has.0 has.1 has.2)

  -- the numbers of the tree are those that are held
  pub keys_held : (n : ℕ) → is_among (keys tree) n ≡ is_some (node n)
  keys_held n = same_bool _ _ (held_key tree (all_in tree is_tree) n) (key_held n)

-- ---- the numbers of inodes

early_used : (from : ℕ) (inodes : List Inode) (n : ℕ) → n < from → is_among (used_from from inodes) n ≡ false
early_used from [] n lt = refl
early_used from (x ∷ xs) n lt = by (is_used x) (early_used (from + 1) xs n (omega (arith, lt)))
  where
    by : (t : Bool) → is_among (used_from (from + 1) xs) n ≡ false → is_among (cond t (from ∷ used_from (from + 1) xs) (used_from (from + 1) xs)) n ≡ false
    by true more = let apart : nat_eq from n ≡ false = grind (arith, nat_tests) in ap (λ (t : Bool). t || is_among (used_from (from + 1) xs) n) apart ∙ more
    by false more = more

used_among : (from : ℕ) (inodes : List Inode) (k : ℕ) → is_among (used_from from inodes) (from + k) ≡ is_used (inode_of inodes k)
used_among from [] zero = refl
used_among from [] (suc k) = refl
used_among from (x ∷ xs) zero = by (is_used x)
  where
    here : nat_eq from (from + 0) ≡ true
    here = grind (arith, nat_tests)

    by : (t : Bool) → is_among (cond t (from ∷ used_from (from + 1) xs) (used_from (from + 1) xs)) (from + 0) ≡ t
    by true = ap (λ (t : Bool). t || is_among (used_from (from + 1) xs) (from + 0)) here
    by false = early_used (from + 1) xs (from + 0) (omega arith)
used_among from (x ∷ xs) (suc k) = by (is_used x) (ap (is_among (used_from (from + 1) xs)) step ∙ used_among (from + 1) xs k)
  where
    step : from + suc k ≡ (from + 1) + k
    step = omega arith

    apart : nat_eq from (from + suc k) ≡ false
    apart = grind (arith, nat_tests)

    by : (t : Bool) → is_among (used_from (from + 1) xs) (from + suc k) ≡ is_used (inode_of xs k) → is_among (cond t (from ∷ used_from (from + 1) xs) (used_from (from + 1) xs)) (from + suc k) ≡ is_used (inode_of xs k)
    by true more = ap (λ (t : Bool). t || is_among (used_from (from + 1) xs) (from + suc k)) apart ∙ more
    by false more = more

used_there : (inodes : List Inode) (n : ℕ) → is_among (used_from 0 inodes) n ≡ is_used (inode_of inodes n)
used_there inodes n = let e : 0 + n ≡ n = omega arith in sym (ap (is_among (used_from 0 inodes)) e) ∙ used_among 0 inodes n

-- ---- both

used_some : (x : Inode) (h : Option HeldNode) → told x ≡ option_map info h → is_used x ≡ is_some h
used_some Unused None e = refl
used_some Unused (Some h) e = cc
used_some (File size height ptr) None e = cc
used_some (File size height ptr) (Some h) e = refl
used_some (Directory width height ptr) None e = cc
used_some (Directory width height ptr) (Some h) e = refl

tree_groups : (t : Tree) → map (λ (e : Path × Node). e.1.number / 64) t ≡ map (λ (n : ℕ). n / 64) (keys t)
tree_groups [] = refl
tree_groups (e ∷ t) = ap (λ (ns : List ℕ). e.1.number / 64 ∷ ns) (tree_groups t)

pub blocks_are : (node : ℕ → Option HeldNode) (tree : Tree) (inodes : List Inode) → IsTree tree → HoldsNumbers node tree → ((n : ℕ) → told (inode_of inodes n) ≡ option_map info (node n))
    → inode_blocks tree ≡ used_positions inodes
blocks_are node tree inodes is_tree holds kinds =
    ap different (tree_groups tree)
    ∙ different_same _ _ (images_same (λ (n : ℕ). n / 64) (keys tree) (used_from 0 inodes)
    (λ n. keys_held node tree is_tree holds n ∙ sym (used_there inodes n ∙ used_some (inode_of inodes n) (node n) (kinds n))))

pub inode_blocks_are : InodeBlocksAre
inode_blocks_are r old o m inodes coherent holds kinds = blocks_are (node_now old o) m.tree inodes coherent.tree holds.nodes kinds
