-- The pointers of the inode index and of the inodes, in an image that stands for something.
use Rattle.std.proofs.Common.{◌≡◌, ℕ, zero, suc, Bool, true, false, cond, List, [], ◌∷◌, ◌++◌, map, inl, inr, refl, subst, arith}
use Rattle.std.specs.Prelude.{◌==◌, All, not}
use Rattle.std.specs.List.{AllByRecursion, flat_map}
use Rattle.std.proofs.lemmas.Bool.{eqb-true}
use Rattle.std.proofs.lemmas.Bool.Decides.{nat_tests}
use Rattle.std.proofs.lemmas.List.Concat.{flat_map-cons}
use Rattle.std.proofs.lemmas.List.Elements.{All-nil, All-cons}
use Rattle.vol_numbers.specs.Layout.{Layout}
use Rattle.vol_numbers.specs.declared.block.Block.{Block}
use Rattle.block_format.specs.Index.{IsPointer, IsInArea}
use Rattle.block_format.specs.Inode.{pointer_of}
use Rattle.block_format.specs.declared.inode.Inode.{Inode}
use Rattle.block_format.specs.declared.inode.Inode.TheVariants.{Unused, File, Directory}
use Rattle.block_tree.specs.Tree.{Blocks, blocks_in, index_at, indexes_below, pairs_below, nonzero}
use Rattle.image_model.specs.Findings.{is_in_area}
use Rattle.image_model.specs.Met.{Met, index, page, content}
use Rattle.image_model.specs.Planned.{node_trees}
use Rattle.image_model.specs.Seen.{seen}
use Rattle.image_model.specs.Sound.{AllGood, IsGood}
use Rattle.image_model.specs.Stands.{Stands, layout_in}
use Rattle.image_model.specs.Walk.{walk, nodes_at}
use Rattle.image_model.proofs.Area.{no_faults}
use Rattle.image_model.proofs.InodeWalk.{HasShapes}
use Rattle.image_model.proofs.NodeWalk.{WalkMet, walk_good}
use Rattle.inode_file.specs.Loading.{IsWhole}
use Rattle.root_switch.specs.Current.{root_of_image}
use Rattle.volume_model.specs.Machine.{Stored}
use Rattle.volume_load.specs.Known.{AreWhole}

to_all : {X : Type 0} (Q : X → Type 0) (xs : List X) → AllByRecursion Q xs → All Q xs
to_all Q [] all = All-nil Q
to_all Q (x ∷ xs) all = All-cons Q x xs all.0 (to_all Q xs all.1)

module _ (g : Layout) (whole : List Met) where
  in_area : (b : ℕ) → is_in_area g b ≡ true → IsInArea g b
  in_area b is = (grind (arith, nat_tests), grind (arith, nat_tests))

  no_block : (p : ℕ) → (p == 0) ≡ true → IsPointer g p
  no_block p is = inl (eqb-true p 0 is)

  good_behind : (xs ys : List Met) → AllGood g whole (xs ++ ys) → AllGood g whole ys
  good_behind [] ys good = good
  good_behind (x ∷ xs) ys good = good_behind xs ys good.1

  good_front : (xs ys : List Met) → AllGood g whole (xs ++ ys) → AllGood g whole xs
  good_front [] ys good = tt
  good_front (x ∷ xs) ys good = (good.0, good_front xs ys good.1)

  -- pointers to metadata, and those that are 0
  of_indexes : (ps : List ℕ) → AllGood g whole (map index (nonzero ps)) → AllByRecursion (IsPointer g) ps
  of_indexes [] good = tt
  of_indexes (p ∷ ps) good = by (p == 0) refl good (of_indexes ps)
    where
      by : (t : Bool) → (p == 0) ≡ t → AllGood g whole (map index (cond (not t) (p ∷ nonzero ps) (nonzero ps))) → (AllGood g whole (map index (nonzero ps)) → AllByRecursion (IsPointer g) ps) → AllByRecursion (IsPointer g) (p ∷ ps)
      by true is good more = (no_block p is, more good)
      by false is good more = (inr (in_area p good.0.0), more good.1)

  -- the pointer of a node, of which this is met at its places
  module _ (met : ℕ × ℕ → Met) (leads : (e : ℕ × ℕ) → IsGood g whole (met e) → is_in_area g e.1 ≡ true) where
    of_tree : (read : Blocks) (height ptr : ℕ) → AllGood g whole (map index (indexes_below read height ptr) ++ map met (pairs_below read height ptr)) → IsPointer g ptr
    of_tree read zero ptr good = by (ptr == 0) refl good
      where
        by : (t : Bool) → (ptr == 0) ≡ t → AllGood g whole (map met (cond t [] ((0, ptr) ∷ []) ++ [])) → IsPointer g ptr
        by true is good = no_block ptr is
        by false is good = inr (in_area ptr (leads (0, ptr) good.0))
    of_tree read (suc zero) ptr good = (of_indexes (ptr ∷ []) (good_front (map index (indexes_below read (suc zero) ptr)) (map met (pairs_below read (suc zero) ptr)) good)).0
    of_tree read (suc (suc height)) ptr good =
        (of_indexes (ptr ∷ index_at read ptr) (good_front (map index (nonzero (ptr ∷ index_at read ptr))) (map met (pairs_below read (suc (suc height)) ptr)) good)).0

  of_node : (read : Blocks) (n : ℕ) (x : Inode) → AllGood g whole (node_trees read (n, x)) → IsPointer g (pointer_of x)
  of_node read n Unused good = inl refl
  of_node read n (File size height ptr) good = of_tree (λ e. content n e.0 e.1) (λ e is. is) read height ptr good
  of_node read n (Directory width height ptr) good = of_tree (λ e. page n e.0 e.1) (λ e is. is.0) read height ptr good

  of_nodes : (read : Blocks) (nodes : List (ℕ × Inode)) → HasShapes nodes → AllGood g whole (flat_map (node_trees read) nodes) → AllByRecursion (λ (node : ℕ × Inode). IsWhole g node.1) nodes
  of_nodes read [] shapes good = tt
  of_nodes read ((n, x) ∷ nodes) shapes good =
      let both : AllGood g whole (node_trees read (n, x) ++ flat_map (node_trees read) nodes) = subst (AllGood g whole) (flat_map-cons (node_trees read) (n, x) nodes) good in (
        record { shape = shapes.0.0; pointer = of_node read n x (good_front (node_trees read (n, x)) (flat_map (node_trees read) nodes) both) },
        of_nodes read nodes shapes.1 (good_behind (node_trees read (n, x)) (flat_map (node_trees read) nodes) both),
      )

-- What the walk over an image has met of inodes and their index.
pub record IsMet (image : List Block) : Type 0 where
  pub index_in : IsInArea (layout_in image) (root_of_image image).inode_index
  pub entries : All (IsPointer (layout_in image)) (index_at (blocks_in image) (root_of_image image).inode_index)
  pub whole : AreWhole (layout_in image) (seen image).nodes

pub seen_whole : (image : List Block) (s : Stored) → Stands image s → IsMet image
unfolding seen
seen_whole image s stands =
    let read : Blocks = blocks_in image in
    let g : Layout = layout_in image in
    let at : ℕ = (root_of_image image).inode_index in
    let whole : List Met = walk read at in
    let met : WalkMet read at = walk_good read at (no_faults g whole whole stands.sound.pointers) in
    let good : AllGood g whole (index at ∷ (map index (nonzero (index_at read at)) ++ flat_map (node_trees read) (nodes_at read at))) = subst (AllGood g whole) met.is stands.sound.pointers in
    let entries = map index (nonzero (index_at read at)) in
    let trees = flat_map (node_trees read) (nodes_at read at) in
    record {
      index_in = in_area g whole at good.0.0;
      entries = to_all (IsPointer g) (index_at read at) (of_indexes g whole (index_at read at) (good_front g whole entries trees good.1));
      whole = to_all (λ (node : ℕ × Inode). IsWhole g node.1) (nodes_at read at) (of_nodes g whole read (nodes_at read at) met.shapes (good_behind g whole entries trees good.1));
    }
