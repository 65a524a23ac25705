-- What is planned of a number and the node of the tree that has it.
use Rattle.std.proofs.Common.{◌≡◌, ℕ, ◌≤◌, Bool, true, false, [], Some, None, refl, sym, ap, subst, ◌∙◌, arith}
use Rattle.std.specs.Prelude.{Option, option_map, is_some}
use Rattle.block_format.specs.Inode.{pointer_of}
use Rattle.block_format.specs.declared.inode.Inode.{Inode}
use Rattle.block_format.specs.declared.inode.Inode.TheVariants.{Unused, File, Directory}
use Rattle.image_model.specs.Planned.{height_in}
use Rattle.image_model.specs.Walk.{is_used, is_directory}
use Rattle.node_table.specs.Held.{info, info_of}
use Rattle.node_table.specs.declared.held.HeldNode.{HeldNode}
use Rattle.node_table.specs.declared.held.NodeInfo.TheVariants as infos
use Rattle.point_model.specs.Holding.{HoldsNumbers}
use Rattle.point_model.specs.PointPlan.{told}
use Rattle.tree_model.specs.Path.{Path}
use Rattle.tree_model.specs.Shape.{IsTree, shape_of}
use Rattle.tree_model.specs.Tree.{Tree, node_at, is_directory as is_directory_node}
use Rattle.tree_model.specs.declared.node.Content.{Content}
use Rattle.tree_model.specs.declared.node.Content.TheVariants as content
use Rattle.tree_model.specs.declared.node.Node.{Node}

-- ---- inodes by what they tell

pub told_none : (x : Inode) → told x ≡ None → x ≡ Unused
told_none Unused e = refl
told_none (File size height ptr) e = cc
told_none (Directory width height ptr) e = cc

pub told_file : (x : Inode) (size : ℕ) → told x ≡ Some (infos.File size) → x ≡ File size (height_in x) (pointer_of x)
told_file Unused size e = cc
told_file (File own height ptr) size e = let same : own ≡ size = cc in ap (λ (s : ℕ). File s height ptr) same
told_file (Directory width height ptr) size e = cc

pub told_directory : (x : Inode) (width : ℕ) → told x ≡ Some (infos.Directory width) → x ≡ Directory width (height_in x) (pointer_of x)
told_directory Unused width e = cc
told_directory (File size height ptr) width e = cc
told_directory (Directory own height ptr) width e = let same : own ≡ width = cc in ap (λ (w : ℕ). Directory w height ptr) same

told_used : (x : Inode) → is_used x ≡ true → is_some (told x) ≡ true
told_used Unused e = cc
told_used (File size height ptr) e = refl
told_used (Directory width height ptr) e = refl

same_some : (x y : ℕ × Bool) → Some x ≡ Some y → x ≡ y
same_some x y e = cc

-- ---- the node of a number

-- a node of the tree has this number, and these inodes tell its kind and size
pub record HasNode (tree : Tree) (inode : ℕ → Inode) (n : ℕ) : Type 0 where
  pub path : Path
  pub at : Node
  pub stands : node_at tree path ≡ Some at
  pub number : at.number ≡ n
  pub tells : told (inode n) ≡ Some (info_of at.content)

module _ (node : ℕ → Option HeldNode) (tree : Tree) (is_tree : IsTree tree) (holds : HoldsNumbers node tree) (inode : ℕ → Inode) (kinds : (n : ℕ) → told (inode n) ≡ option_map info (node n)) where
  some_map : (h : Option HeldNode) → is_some (option_map info h) ≡ true → is_some h ≡ true
  some_map None e = e
  some_map (Some h) e = refl

  pub node_of_path : (path : Path) (at : Node) → node_at tree path ≡ Some at → told (inode at.number) ≡ Some (info_of at.content)
  node_of_path path at stands = kinds at.number ∙ holds.each path at stands

  pub node_of_number : (n : ℕ) → is_used (inode n) ≡ true → HasNode tree inode n
  node_of_number n used =
      let some : is_some (node n) ≡ true = some_map (node n) (ap is_some (sym (kinds n)) ∙ told_used (inode n) used) in
      let has = holds.others n some in
      record {
        path = has.0;
        at = has.1;
        stands = has.2;
        number = has.3;
        tells = subst (λ (k : ℕ). told (inode k) ≡ Some (info_of has.1.content)) has.3 (node_of_path has.0 has.1 has.2);
      }

  limits_of_shape : (at : Node) (path : Path) → node_at tree path ≡ Some at → at.number ≤ 65535
  limits_of_shape at path stands = (is_tree.shape.numbered path (at.number, is_directory_node at) (ap shape_of stands)).1

  unused_or : (t : Bool) (n : ℕ) → is_used (inode n) ≡ t → 65536 ≤ n → is_used (inode n) ≡ false
  unused_or false n is le = is
  unused_or true n is le =
      let has = node_of_number n is in
      absurd (omega (arith, le, has.number, limits_of_shape has.at has.path has.stands))

  pub unused_above : (n : ℕ) → 65536 ≤ n → is_used (inode n) ≡ false
  unused_above n le = unused_or (is_used (inode n)) n refl le

  -- no node has the number 0
  pub unused_zero : is_used (inode 0) ≡ false
  unused_zero = by (is_used (inode 0)) refl
    where
      by : (t : Bool) → is_used (inode 0) ≡ t → is_used (inode 0) ≡ false
      by false is = is
      by true is =
          let has = node_of_number 0 is in
          absurd (omega (arith, has.number, (is_tree.shape.numbered has.path (has.at.number, is_directory_node has.at) (ap shape_of has.stands)).0))

  pub root_directory : is_directory (inode 1) ≡ true
  root_directory = by (node_at tree []) refl is_tree.shape.root
    where
      of_content : (at : Node) (c : Content) → at.content ≡ c → node_at tree [] ≡ Some at → at.number ≡ 1 → is_directory_node at ≡ true → is_directory (inode 1) ≡ true
      of_content at (content.File bytes) is stands number kind =
          let never : false ≡ true = ap (λ (x : Content). is_directory_node (record { number = at.number; content = x })) (sym is) ∙ kind in cc
      of_content at (content.Directory width) is stands number kind =
          let tells : told (inode 1) ≡ Some (infos.Directory width) = subst (λ (k : ℕ). told (inode k) ≡ Some (info_of at.content)) number (node_of_path [] at stands) ∙ ap (λ (x : Content). Some (info_of x)) is in
          ap is_directory (told_directory (inode 1) width tells)

      by : (found : Option Node) → node_at tree [] ≡ found → shape_of found ≡ Some (1, true) → is_directory (inode 1) ≡ true
      by None is e = cc
      by (Some at) is e =
          let both = same_some (at.number, is_directory_node at) (1, true) e in
          let number : at.number ≡ 1 = ap (λ (p : ℕ × Bool). p.0) both in
          let kind : is_directory_node at ≡ true = ap (λ (p : ℕ × Bool). p.1) both in
          of_content at at.content refl is number kind
