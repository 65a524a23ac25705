-- The index blocks of files and directories are in the grammar, in an image that stands for something.
use Rattle.std.proofs.Common.{◌≡◌, ℕ, zero, suc, ◌+◌, Bool, true, false, cond, List, [], ◌∷◌, ◌++◌, map, take, inl, inr, refl, sym, ap, subst, arith}
use Rattle.std.specs.Prelude.{◌==◌, ◌||◌, All, not, nat_eq}
use Rattle.std.specs.List.{AllByRecursion, flat_map}
use Rattle.std.proofs.lemmas.Bool.{eqb-true}
use Rattle.std.proofs.lemmas.Bool.Decides.{nat_tests}
use Rattle.std.proofs.lemmas.List.Concat.{flat_map-cons}
use Rattle.std.proofs.lemmas.List.Elements.{All-nil, All-cons}
use Rattle.vol_numbers.specs.Layout.{Layout}
use Rattle.vol_numbers.specs.declared.block.Block.{Block}
use Rattle.block_format.specs.Index.{IsPointer, IsInArea}
use Rattle.block_format.specs.Inode.{pointer_of}
use Rattle.block_format.specs.Words.{words}
use Rattle.block_format.specs.declared.inode.Inode.{Inode}
use Rattle.block_format.specs.declared.inode.Inode.TheVariants.{Unused, File, Directory}
use Rattle.block_tree.specs.Tree.{Blocks, blocks_in, index_at, indexes_below, pairs_below, pairs_from, leaves_pairs, nonzero}
use Rattle.image_model.specs.Findings.{is_in_area}
use Rattle.image_model.specs.Met.{Met, index, page, content}
use Rattle.image_model.specs.Planned.{height_in, node_trees}
use Rattle.image_model.specs.Seen.{seen}
use Rattle.image_model.specs.Slots.{inode_of}
use Rattle.image_model.specs.Sound.{AllGood, IsGood}
use Rattle.image_model.specs.Stands.{Stands, layout_in}
use Rattle.image_model.specs.Walk.{walk, nodes_at}
use Rattle.image_model.proofs.NodeWalk.{WalkMet, walk_good}
use Rattle.image_states.proofs.SeenPlaces.{none}
use Rattle.place_words.specs.Different.{is_among}
use Rattle.point_model.specs.Holding.{inode_before}
use Rattle.root_switch.specs.Current.{root_of_image}
use Rattle.volume_model.specs.Machine.{Stored}

-- ---- lists

parts : {X : Type 0} (Q : X → Type 0) (xs ys : List X) → AllByRecursion Q (xs ++ ys) → AllByRecursion Q xs × AllByRecursion Q ys
parts Q [] ys all = (tt, all)
parts Q (x ∷ xs) ys all = let more = parts Q xs ys all.1 in ((all.0, more.0), more.1)

to_all : {X : Type 0} (Q : X → Type 0) (xs : List X) → AllByRecursion Q xs → All Q xs
to_all Q [] all = All-nil Q
to_all Q (x ∷ xs) all = All-cons Q x xs all.0 (to_all Q xs all.1)

-- what holds of all holds of each that is a block
among_all : (Q : ℕ → Type 0) (xs : List ℕ) (b : ℕ) → AllByRecursion Q xs → is_among (nonzero xs) b ≡ true → Q b × ((b == 0) ≡ false)
among_all Q [] b all among = let never : false ≡ true = among in cc
among_all Q (x ∷ xs) b all among = by (x == 0) refl among (among_all Q xs b all.1)
  where
    here : (u : Bool) → nat_eq x b ≡ u → (x == 0) ≡ false → (u || is_among (nonzero xs) b) ≡ true → (is_among (nonzero xs) b ≡ true → Q b × ((b == 0) ≡ false)) → Q b × ((b == 0) ≡ false)
    here true is some among more = let same : x ≡ b = eqb-true x b is in (subst Q same all.0, subst (λ (n : ℕ). (n == 0) ≡ false) same some)
    here false is some among more = more among

    by : (t : Bool) → (x == 0) ≡ t → is_among (cond (not t) (x ∷ nonzero xs) (nonzero xs)) b ≡ true → (is_among (nonzero xs) b ≡ true → Q b × ((b == 0) ≡ false)) → Q b × ((b == 0) ≡ false)
    by true is among more = more among
    by false is among more = here (nat_eq x b) refl is among more

module _ (g : Layout) where
  no_block : (p : ℕ) → (p == 0) ≡ true → IsPointer g p
  no_block p is = inl (eqb-true p 0 is)

  nonzero_back : (ps : List ℕ) → AllByRecursion (IsPointer g) (nonzero ps) → AllByRecursion (IsPointer g) ps
  nonzero_back [] all = tt
  nonzero_back (p ∷ ps) all = by (p == 0) refl all (nonzero_back ps)
    where
      by : (t : Bool) → (p == 0) ≡ t → AllByRecursion (IsPointer g) (cond (not t) (p ∷ nonzero ps) (nonzero ps)) → (AllByRecursion (IsPointer g) (nonzero ps) → AllByRecursion (IsPointer g) ps) → AllByRecursion (IsPointer g) (p ∷ ps)
      by true is all more = (no_block p is, more all)
      by false is all more = (all.0, more all.1)

  abbrev OfPairs : List (ℕ × ℕ) → Type 0
  OfPairs pairs = AllByRecursion (λ (e : ℕ × ℕ). IsPointer g e.1) pairs

  pairs_back : (place : ℕ) (ps : List ℕ) → OfPairs (pairs_from place ps) → AllByRecursion (IsPointer g) ps
  pairs_back place [] all = tt
  pairs_back place (p ∷ ps) all = by (p == 0) refl all (pairs_back (place + 1) ps)
    where
      by : (t : Bool) → (p == 0) ≡ t → OfPairs (cond t [] ((place, p) ∷ []) ++ pairs_from (place + 1) ps) → (OfPairs (pairs_from (place + 1) ps) → AllByRecursion (IsPointer g) ps) → AllByRecursion (IsPointer g) (p ∷ ps)
      by true is all more = (no_block p is, more all)
      by false is all more = (all.0, more all.1)

  leaves_back : (read : Blocks) (place : ℕ) (ps : List ℕ) → OfPairs (leaves_pairs read place ps) → AllByRecursion (λ (b : ℕ). AllByRecursion (IsPointer g) (index_at read b)) ps
  leaves_back read place [] all = tt
  leaves_back read place (p ∷ ps) all =
      let both = parts (λ (e : ℕ × ℕ). IsPointer g e.1) (pairs_from place (index_at read p)) (leaves_pairs read (place + 1024) ps) all in
      (pairs_back place (index_at read p) both.0, leaves_back read (place + 1024) ps both.1)

  -- ---- what is met

  module _ (whole : List Met) where
    in_area : (b : ℕ) → is_in_area g b ≡ true → IsInArea g b
    in_area b is = (grind (arith, nat_tests), grind (arith, nat_tests))

    good_behind : (xs ys : List Met) → AllGood g whole (xs ++ ys) → AllGood g whole ys
    good_behind [] ys good = good
    good_behind (x ∷ xs) ys good = good_behind xs ys good.1

    good_front : (xs ys : List Met) → AllGood g whole (xs ++ ys) → AllGood g whole xs
    good_front [] ys good = tt
    good_front (x ∷ xs) ys good = (good.0, good_front xs ys good.1)

    of_indexes : (bs : List ℕ) → AllGood g whole (map index bs) → AllByRecursion (IsPointer g) bs
    of_indexes [] good = tt
    of_indexes (b ∷ bs) good = (inr (in_area b good.0.0), of_indexes bs good.1)

    -- the trees of the nodes have that of a number
    of_node : (read : Blocks) (nodes : List (ℕ × Inode)) (n : ℕ) → AllGood g whole (flat_map (node_trees read) nodes) → (k : ℕ) × AllGood g whole (node_trees read (k, inode_of nodes n))
    of_node read [] n good = (0, tt)
    of_node read ((m, x) ∷ nodes) n good =
        let both : AllGood g whole (node_trees read (m, x) ++ flat_map (node_trees read) nodes) = subst (AllGood g whole) (flat_map-cons (node_trees read) (m, x) nodes) good in
        by (nat_eq m n) (good_front (node_trees read (m, x)) (flat_map (node_trees read) nodes) both) (of_node read nodes n (good_behind (node_trees read (m, x)) (flat_map (node_trees read) nodes) both))
      where
        by : (t : Bool) → AllGood g whole (node_trees read (m, x)) → (k : ℕ) × AllGood g whole (node_trees read (k, inode_of nodes n)) → (k : ℕ) × AllGood g whole (node_trees read (k, cond t x (inode_of nodes n)))
        by true own rest = (m, own)
        by false own rest = rest

    -- a tree, of what is met at its places
    module _ (met : ℕ × ℕ → Met) (leads : (e : ℕ × ℕ) → IsGood g whole (met e) → is_in_area g e.1 ≡ true) where
      of_places : (pairs : List (ℕ × ℕ)) → AllGood g whole (map met pairs) → OfPairs pairs
      of_places [] good = tt
      of_places (e ∷ pairs) good = (inr (in_area e.1 (leads e good.0)), of_places pairs good.1)

      -- the pointers in each index block of a tree lead nowhere or into the area
      index_fits : (read : Blocks) (height ptr b : ℕ) → AllGood g whole (map index (indexes_below read height ptr) ++ map met (pairs_below read height ptr))
          → is_among (indexes_below read height ptr) b ≡ true → AllByRecursion (IsPointer g) (index_at read b) × ((b == 0) ≡ false)
      index_fits read zero ptr b good among = let never : false ≡ true = among in cc
      index_fits read (suc zero) ptr b good among =
          let pairs = of_places (pairs_from 0 (index_at read ptr)) (good_behind (map index (nonzero (ptr ∷ []))) (map met (pairs_from 0 (index_at read ptr))) good) in
          among_all (λ (k : ℕ). AllByRecursion (IsPointer g) (index_at read k)) (ptr ∷ []) b (pairs_back 0 (index_at read ptr) pairs, tt) among
      index_fits read (suc (suc height)) ptr b good among =
          let tops = map index (nonzero (ptr ∷ index_at read ptr)) in
          let below = map met (leaves_pairs read 0 (index_at read ptr)) in
          let top = nonzero_back (ptr ∷ index_at read ptr) (of_indexes (nonzero (ptr ∷ index_at read ptr)) (good_front tops below good)) in
          let leaves = leaves_back read 0 (index_at read ptr) (of_places (leaves_pairs read 0 (index_at read ptr)) (good_behind tops below good)) in
          among_all (λ (k : ℕ). AllByRecursion (IsPointer g) (index_at read k)) (ptr ∷ index_at read ptr) b (top.1, leaves) among

    -- so do those below an inode
    inode_fits : (read : Blocks) (n : ℕ) (x : Inode) (b : ℕ) → AllGood g whole (node_trees read (n, x)) → is_among (indexes_below read (height_in x) (pointer_of x)) b ≡ true
        → AllByRecursion (IsPointer g) (index_at read b) × ((b == 0) ≡ false)
    inode_fits read n Unused b good among = let never : false ≡ true = among in cc
    inode_fits read n (File size height ptr) b good among = index_fits (λ e. content n e.0 e.1) (λ e is. is) read height ptr b good among
    inode_fits read n (Directory width height ptr) b good among = index_fits (λ e. page n e.0 e.1) (λ e is. is.0) read height ptr b good among

-- ---- an image that stands

abbrev read_as : Blocks → ℕ → List ℕ
read_as read b = take 1024 (words (read b))

there : (read : Blocks) (b : ℕ) → (b == 0) ≡ false → index_at read b ≡ read_as read b
there read b some = ap (λ (t : Bool). cond t [] (read_as read b)) some

-- All pointers in an index block of a file or a directory lead nowhere or into the area.
pub tree_stands : (image : List Block) (s : Stored) → Stands image s → (n b : ℕ) → is_among (indexes_below (blocks_in image) (height_in (inode_before image n)) (pointer_of (inode_before image n))) b ≡ true
    → All (IsPointer (layout_in image)) (take 1024 (words (blocks_in image b)))
unfolding seen
tree_stands image s stands n b among =
    let read : Blocks = blocks_in image in
    let g : Layout = layout_in image in
    let at : ℕ = (root_of_image image).inode_index in
    let whole : List Met = walk read at in
    let met : WalkMet read at = walk_good read at (none image s stands) in
    let good : AllGood g whole (index at ∷ (map index (nonzero (index_at read at)) ++ flat_map (node_trees read) (nodes_at read at))) = subst (AllGood g whole) met.is stands.sound.pointers in
    let trees = good_behind g whole (map index (nonzero (index_at read at))) (flat_map (node_trees read) (nodes_at read at)) good.1 in
    let own = of_node g whole read (nodes_at read at) n trees in
    let fits = inode_fits g whole read own.0 (inode_before image n) b own.1 among in
    subst (λ (ps : List ℕ). All (IsPointer g) ps) (there read b fits.1) (to_all (IsPointer g) (index_at read b) fits.0)

-- those of a file
pub index_stands : (image : List Block) (s : Stored) → Stands image s → (n size height ptr b : ℕ) → inode_before image n ≡ File size height ptr
    → is_among (indexes_below (blocks_in image) height ptr) b ≡ true → All (IsPointer (layout_in image)) (take 1024 (words (blocks_in image b)))
index_stands image s stands n size height ptr b is among =
    tree_stands image s stands n b (subst (λ (x : Inode). is_among (indexes_below (blocks_in image) (height_in x) (pointer_of x)) b ≡ true) (sym is) among)
