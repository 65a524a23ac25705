-- What a format leaves stands for the root directory alone.
use Rattle.std.proofs.Common.{◌≡◌, ℕ, zero, suc, ◌+◌, ◌*◌, ◌^◌, ◌<◌, ◌≤◌, Bool, true, false, not, cond, List, [], ◌∷◌, ◌++◌, length, map, take, replicate, get_or, Some, refl, sym, ap, subst, ◌∙◌, arith, inl}
use Rattle.std.specs.Prelude.{◌==◌, ◌||◌, nat_eq, option_map, Contains}
use Rattle.std.specs.List.{AllByRecursion, flat_map}
use Rattle.std.proofs.lemmas.Bool.Decides.{nat_tests}
use Rattle.std.proofs.lemmas.List.{take_all}
use Rattle.std.proofs.lemmas.List.Sums.{sum_by-cons}
use Rattle.vol_numbers.specs.Layout.{Layout, area_start, count_blocks}
use Rattle.vol_numbers.specs.declared.block.Block.{Block}
use Rattle.block_format.specs.Root.{Root}
use Rattle.root_switch.specs.Current.{root_of_image}
use Rattle.block_format.specs.Words.{words}
use Rattle.block_format.specs.Inode.{inode_shape, pointer_of}
use Rattle.block_format.specs.declared.inode.Inode.{Inode}
use Rattle.block_format.specs.declared.inode.Inode.TheVariants.{Unused, Directory}
use Rattle.block_format.proofs.WordLaws.{words-index_bytes}
use Rattle.block_tree.specs.Tree.{Blocks, index_at, nonzero, pairs_below, indexes_below, IsFull, blocks_in}
use Rattle.place_words.specs.Different.{is_among, times}
use Rattle.tree_model.specs.Path.{Path}
use Rattle.tree_model.specs.Tree.{new_tree, node_at}
use Rattle.tree_model.specs.declared.node.Node.{Node}
use Rattle.tree_model.specs.declared.node.Content.TheVariants as tree
use Rattle.tree_model.proofs.RenameLaws.{keeps_trees}
use Rattle.volume_model.specs.Space.{free_blocks, metadata_blocks}
use Rattle.image_model.specs.Findings.{is_in_area}
use Rattle.image_model.specs.Fresh.{IsFresh, fresh_inode, fresh_count, fresh_stored}
use Rattle.image_model.specs.Holds.{HoldsTree}
use Rattle.image_model.specs.Meanings.{FreshStands}
use Rattle.image_model.specs.Planning.{FreshHasPoint}
use Rattle.image_model.specs.Plan.{IsPlanned, metas_of}
use Rattle.image_model.specs.Point.{HasPoint, IsAssembled}
use Rattle.image_model.specs.Met.{Met, index, points_at, metas, files, pointers_to, NoFaults}
use Rattle.image_model.specs.Nodes.{has_tail, is_bad_directory, AllBelow, blocks_in_node}
use Rattle.image_model.specs.Planned.{inodes_bytes, InodesStand, HasSpellings, IsSpelled, used_from, node_trees, height_in}
use Rattle.image_model.specs.Seen.{Seen, seen, seen_from, all_held, page_held, content_held, counts_from}
use Rattle.image_model.specs.Slots.{inode_of}
use Rattle.image_model.specs.Stands.{Stands, node_of, layout_in, spot_of}
use Rattle.image_model.specs.Walk.{is_used, walk, nodes_at}
use Rattle.image_model.proofs.InodeSpelled.{inodes_long}
use Rattle.image_model.proofs.PointLaws.{assembled_stands}
use Rattle.image_model.proofs.WalkSpelled.{walk_spelled, nodes_spelled, counts_spelled}

-- ---- the inodes

by_inode : (P : Inode → Type 0) → P (Directory 0 0 0) → P Unused → (n : ℕ) → P (fresh_inode n)
by_inode P here other n = by (n == 1)
  where
    by : (t : Bool) → P (cond t (Directory 0 0 0) Unused)
    by true = here
    by false = other

spellings : HasSpellings fresh_inode
spellings = record {
  shapes = by_inode (λ x. inode_shape x ≡ true) refl refl;
  pointers = by_inode (λ x. pointer_of x < 2 ^ 32) (omega arith) (omega arith);
  zero_unused = refl;
}

none_used : (n m : ℕ) → 2 ≤ n → used_from fresh_inode n m ≡ []
unfolding used_from
none_used n zero le = refl
none_used n (suc m) le =
    let apart : (n == 1) ≡ false = grind (arith, nat_tests) in
    (λ i. cond (is_used (cond (apart i) (Directory 0 0 0) Unused)) ((n, cond (apart i) (Directory 0 0 0) Unused) ∷ []) [] ++ none_used (n + 1) m (omega (arith, le)) i)

-- of two numbers and more, number 1 alone
one_used : (m : ℕ) → used_from fresh_inode 0 (suc (suc m)) ≡ (1, Directory 0 0 0) ∷ []
unfolding used_from
one_used m = ap (λ (nodes : List (ℕ × Inode)). (1, Directory 0 0 0) ∷ nodes) (none_used 2 m (omega arith))

zeros_stand : (read : Blocks) (k n : ℕ) → 1 ≤ k → InodesStand read fresh_inode k (replicate n 0)
zeros_stand read k zero le = tt
zeros_stand read k (suc n) le =
    (record { absent = λ e. none_used (64 * k) 64 (omega (arith, le)); spelled = λ e. cc; some = λ e. cc }, zeros_stand read (k + 1) n (omega (arith, le)))

-- ---- an image that is fresh

small_pointers : (a n : ℕ) → a < 2 ^ 32 → AllByRecursion (λ p. p < 2 ^ 32) (a ∷ replicate n 0)
small_pointers a n lt = (lt, zeros n)
  where
    zeros : (n : ℕ) → AllByRecursion (λ p. p < 2 ^ 32) (replicate n 0)
    zeros zero = tt
    zeros (suc n) = (omega arith, zeros n)

no_zeros : (n : ℕ) → nonzero (replicate n 0) ≡ []
no_zeros zero = refl
no_zeros (suc n) = no_zeros n

module _ (g : Layout) (image : List Block) (fresh : IsFresh g image) where
  abbrev read : Blocks
  read = blocks_in image

  abbrev a : ℕ
  a = area_start g

  layout : layout_in image ≡ g
  layout = ap (λ (r : Root). r.layout) fresh.root

  low : a + 64 ≤ g.blocks
  low = subst (λ (l : Layout). area_start l + 64 ≤ l.blocks) layout fresh.fits.geometry.valid.area_at_least

  high : g.blocks ≤ 65536
  high = subst (λ (l : Layout). l.blocks ≤ 65536) layout fresh.fits.geometry.valid.blocks_at_most

  some_block : (b : ℕ) → 1 ≤ b → (b == 0) ≡ false
  some_block b le = grind (arith, nat_tests)

  index_is : index_at read (a + 1) ≡ a ∷ replicate 1023 0
  index_is =
      ap (λ (t : Bool). cond t [] (take 1024 (words (read (a + 1))))) (some_block (a + 1) (omega arith))
      ∙ ap (λ (bytes : List ℕ). take 1024 (words bytes)) fresh.index
      ∙ ap (take 1024) (words-index_bytes (a ∷ replicate 1023 0) (small_pointers a 1023 (omega (arith, low, high))))

  spelled : IsSpelled read (a + 1) fresh_inode
  spelled = record {
    spellings = spellings;
    count = ap (λ (es : List ℕ). length es) index_is;
    inodes = subst (InodesStand read fresh_inode 0) (sym index_is) (
      record {
        absent = λ e. let is = some_block a (omega (arith, low)) in cc;
        spelled = λ e. ap (take 4096) fresh.inodes ∙ take_all 4096 (inodes_bytes fresh_inode 0 64) (omega (arith, inodes_long fresh_inode 0 64));
        some = λ e. omega (arith, ap (λ (nodes : List (ℕ × Inode)). length nodes) (one_used 62));
      },
      zeros_stand read 1 1023 (omega arith),
    );
    root = refl;
    full = by_inode (λ x. IsFull read (indexes_below read (height_in x) (pointer_of x))) tt tt;
    below = by_inode (λ x. AllBelow (blocks_in_node x) (pairs_below read (height_in x) (pointer_of x))) tt tt;
  }

  at_is : (root_of_image image).inode_index ≡ a + 1
  at_is = ap (λ (r : Root). r.inode_index) fresh.root

  met_is : walk read (a + 1) ≡ index (a + 1) ∷ index a ∷ []
  met_is =
      walk_spelled read (a + 1) fresh_inode spelled
      ∙ (λ i. index (a + 1) ∷ (map index (nonzero (index_is i)) ++ flat_map (node_trees read) (one_used 65534 i)))
      ∙ (λ i. index (a + 1) ∷ (map index (cond (not (some_block a (omega (arith, low)) i)) (a ∷ no_zeros 1023 i) (no_zeros 1023 i)) ++ []))

  nodes_are : nodes_at read (a + 1) ≡ (1, Directory 0 0 0) ∷ []
  nodes_are = nodes_spelled read (a + 1) fresh_inode spelled ∙ one_used 65534

  -- what is seen
  seen_is : seen image ≡ record { met = index (a + 1) ∷ index a ∷ []; nodes = (1, Directory 0 0 0) ∷ []; pages = []; contents = []; kept = counts_from read (replicate 128 0) 0 (count_blocks g) }
  unfolding seen
  seen_is =
      (λ i. seen_from read (fresh.root i).inode_index (fresh.root i).homes (count_blocks (fresh.root i).layout))
      ∙ (λ i. record {
        met = met_is i;
        nodes = nodes_are i;
        pages = all_held (page_held read) (met_is i);
        contents = all_held (content_held read) (met_is i);
        kept = counts_from read (replicate 128 0) 0 (count_blocks g);
      })

  abbrev saw : Seen
  saw = record { met = index (a + 1) ∷ index a ∷ []; nodes = (1, Directory 0 0 0) ∷ []; pages = []; contents = []; kept = counts_from read (replicate 128 0) 0 (count_blocks g) }

  pointers_are : (b : ℕ) → pointers_to b (index (a + 1) ∷ index a ∷ []) ≡ fresh_count g b
  pointers_are b = omega (arith, sum_by-cons (λ (x : Met). cond (points_at b x) 1 0) (index (a + 1)) (index a ∷ []), sum_by-cons (λ (x : Met). cond (points_at b x) 1 0) (index a) [])

  small : (b : ℕ) → fresh_count g b < 2 ^ 32
  small b = by (a + 1 == b) (a == b)
    where
      by : (t u : Bool) → cond t 1 0 + cond u 1 0 < 2 ^ 32
      by true true = omega arith
      by true false = omega arith
      by false true = omega arith
      by false false = omega arith

  counts_are : (b : ℕ) → b < 1024 * count_blocks g → get_or saw.kept b 0 ≡ pointers_to b saw.met
  counts_are b lt = counts_spelled read (replicate 128 0) (fresh_count g) small (count_blocks g) fresh.counts b lt ∙ sym (pointers_are b)

  -- the two blocks of metadata
  metas_are : (b : ℕ) → is_among (metas saw.met) b ≡ true → (is_in_area g b ≡ true) × (pointers_to b saw.met ≡ 1)
  metas_are b among = by (nat_eq (a + 1) b) refl (nat_eq a b) refl among
    where
      by : (t : Bool) → nat_eq (a + 1) b ≡ t → (u : Bool) → nat_eq a b ≡ u → (t || (u || false)) ≡ true → (is_in_area g b ≡ true) × (pointers_to b saw.met ≡ 1)
      by true is true has among = absurd (let e : a + 1 ≡ b = grind (arith, nat_tests) in let f : a ≡ b = grind (arith, nat_tests) in omega arith)
      by true is false has among =
          let e : a + 1 ≡ b = grind (arith, nat_tests) in
          (let le = low in grind (arith, nat_tests), pointers_are b ∙ (λ i. cond (is i) 1 0 + cond (has i) 1 0))
      by false is true has among =
          let e : a ≡ b = grind (arith, nat_tests) in
          (let le = low in grind (arith, nat_tests), pointers_are b ∙ (λ i. cond (is i) 1 0 + cond (has i) 1 0))
      by false is false has among = cc

  one_node : (P : ℕ × Inode → Type 0) → P (1, Directory 0 0 0) → (node : ℕ × Inode) → Contains saw.nodes node → P node
  one_node P here node (zero, lt, is) = subst P is here
  one_node P here node (suc k, lt, is) = absurd (omega (arith, lt))

  root_only : (path : Path) (node : Node) → node_at new_tree path ≡ Some node → (path ≡ []) × (node_at new_tree [] ≡ Some node)
  root_only [] node is = (refl, is)
  root_only (name ∷ names) node is = cc

  holds : HoldsTree saw new_tree
  holds = record {
    inodes = λ path node is. let root = root_only path node is in let e : record { number = 1; content = tree.Directory 0 } ≡ node = let at_root = root.1 in cc in subst (λ (x : Node). node_of saw x.number (inode_of saw.nodes x.number) ≡ Some x) e refl;
    slots = λ path node name is. let root = root_only path node is in sym (ap (λ (p : Path). option_map (λ (n : Node). n.number) (node_at new_tree (p ++ name ∷ []))) root.0);
    others = λ n used. by n (1 == n) refl used;
  }
    where
      by : (n : ℕ) (t : Bool) → (1 == n) ≡ t → is_used (cond t (Directory 0 0 0) Unused) ≡ true → (path : Path) × (node : Node) × (node_at new_tree path ≡ Some node) × (node.number ≡ n)
      by n true is used = let e : 1 ≡ n = grind (arith, nat_tests) in ([], record { number = 1; content = tree.Directory 0 }, refl, e)
      by n false is used = cc

  has : IsAssembled image (fresh_stored g)
  has = record {
    laid = record {
      root = fresh.has_root;
      fits = fresh.fits;
      layout = sym layout;
      point = sym (ap (λ (r : Root). r.point) fresh.root);
      log_empty = (refl, ap (λ (r : Root). r.records) fresh.root, ap (λ (r : Root). r.log_used) fresh.root);
      counts = subst (λ (s : Seen). (b : ℕ) → b < 1024 * count_blocks (layout_in image) → get_or s.kept b 0 ≡ pointers_to b s.met) (sym seen_is)
          (subst (λ (l : Layout). (b : ℕ) → b < 1024 * count_blocks l → get_or saw.kept b 0 ≡ pointers_to b saw.met) (sym layout) counts_are);
      tails = subst (λ (s : Seen). (node : ℕ × Inode) → Contains s.nodes node → has_tail s node ≡ false) (sym seen_is) (one_node (λ node. has_tail saw node ≡ false) refl);
      directories = subst (λ (s : Seen). (node : ℕ × Inode) → Contains s.nodes node → is_bad_directory s node ≡ false) (sym seen_is) (one_node (λ node. is_bad_directory saw node ≡ false) refl);
      is_tree = keeps_trees.at_first;
      holds = subst (λ (s : Seen). HoldsTree s new_tree) (sym seen_is) holds;
      places = sym (ap (λ (s : Seen). map spot_of s.contents) seen_is);
      reserve = subst (λ (l : Layout). 16 ≤ free_blocks l new_tree []) (sym layout) free;
    };
    whole = subst (λ (s : Seen). NoFaults s.met) (sym seen_is) (tt, (tt, tt));
    metas = subst (λ (s : Seen). (b : ℕ) → is_among (metas s.met) b ≡ true → (is_in_area (layout_in image) b ≡ true) × (pointers_to b s.met ≡ 1)) (sym seen_is)
        (subst (λ (l : Layout). (b : ℕ) → is_among (metas saw.met) b ≡ true → (is_in_area l b ≡ true) × (pointers_to b saw.met ≡ 1)) (sym layout) metas_are);
    files = subst (λ (s : Seen). (b : ℕ) → is_among (files s.met) b ≡ true → is_in_area (layout_in image) b ≡ true) (sym seen_is) (λ b among. cc);
  }
    where
      two : metadata_blocks new_tree [] ≡ 2
      two = refl

      free : 16 ≤ free_blocks g new_tree []
      free = omega (arith, low, two)

  pub stands : Stands image (fresh_stored g)
  stands = assembled_stands image (fresh_stored g) has

  pub has_point : HasPoint image image (fresh_stored g)
  has_point = record {
    laid = has.laid;
    layout = refl;
    for_metadata = [];
    for_files = [];
    fresh = record { free = λ b among. cc; once = λ b. omega arith };
    leads = record { whole = has.whole; metas = λ b. omega arith; files = λ b among. inl among };
  }

  pub planned : IsPlanned image image fresh_inode
  planned = record {
    spelled = subst (λ (at : ℕ). IsSpelled read at fresh_inode) (sym at_is) spelled;
    for_inodes = [];
    for_node = λ n. [];
    inodes = λ b. omega arith;
    nodes = λ b n. by_inode (λ x. times b (metas (node_trees read (n, x))) ≤ times b (metas_of image (inode_of (seen image).nodes) n) + 0) (omega arith) (omega arith) n;
  }

pub fresh_stands : FreshStands
fresh_stands g image fresh = stands g image fresh

pub fresh_has_point : FreshHasPoint
fresh_has_point g image fresh = (has_point g image fresh, planned g image fresh)
