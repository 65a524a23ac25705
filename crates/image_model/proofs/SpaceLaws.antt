-- What is free by the counts is what is free by the formula.
use Rattle.std.proofs.Common.{◌≡◌, ℕ, zero, suc, ◌+◌, ◌*◌, ◌/◌, ◌<◌, ◌≤◌, Bool, true, false, not, cond, List, [], ◌∷◌, ◌++◌, length, take, map, replicate, Some, refl, sym, ap, subst, ◌∙◌, arith, length-append}
use Rattle.std.specs.Prelude.{◌==◌, ◌||◌, nat_eq, sum_by, count_by, Contains, get_or}
use Rattle.std.specs.List.{AllByRecursion, flat_map}
use Rattle.std.proofs.lemmas.Bool.{eqb-true}
use Rattle.std.proofs.lemmas.Bool.Decides.{nat_tests}
use Rattle.std.proofs.lemmas.List.{length-take, length-replicate}
use Rattle.std.proofs.lemmas.List.Sums.{sum_by-cons}
use Rattle.vol_numbers.specs.Layout.{Layout, area_start, count_blocks}
use Rattle.block_format.specs.Inode.{blocks_of}
use Rattle.block_format.specs.declared.inode.Inode.{Inode}
use Rattle.block_format.specs.declared.inode.Inode.TheVariants.{Unused, File, Directory}
use Rattle.block_tree.specs.Tree.{Blocks, pairs_below, index_at, nonzero}
use Rattle.block_tree.proofs.Rise.{pairs_rise}
use Rattle.place_words.specs.Different.{is_among, different, span, up, Distinct, total}
use Rattle.place_words.specs.Index.{index_blocks}
use Rattle.place_words.proofs.Totals.{total_same, different_same, images_same}
use Rattle.place_words.proofs.Rising.{rising_full}
use Rattle.place_words.specs.Rising.{AllUnder}
use Rattle.tree_model.specs.Path.{Path}
use Rattle.tree_model.specs.Tree.{Tree}
use Rattle.tree_model.specs.declared.node.Node.{Node}
use Rattle.tree_model.specs.declared.node.Content.TheVariants as tree
use Rattle.volume_model.specs.Machine.{Stored}
use Rattle.volume_model.specs.Places.{Places, places_of, blocks_of as blocks_in_places}
use Rattle.volume_model.specs.Space.{content_blocks, metadata_blocks, free_blocks}
use Rattle.image_model.specs.Met.{Met, index, page, content, past, empty, not_inode, metas, files, pointers_to, stray}
use Rattle.image_model.specs.Walk.{is_used, walk, nodes_at, blocks_inodes}
use Rattle.image_model.specs.Findings.{free_in}
use Rattle.image_model.specs.Nodes.{is_bad_directory, AllBelow, blocks_in_node}
use Rattle.image_model.specs.Planned.{node_trees}
use Rattle.image_model.specs.Seen.{Seen, SeenBlock, seen_from, all_held, content_held, page_held}
use Rattle.image_model.specs.Slots.{held_at, inode_of}
use Rattle.image_model.specs.Sound.{IsNamed, AllGood}
use Rattle.image_model.specs.Stands.{Shows, node_of, bytes_from, spot_of}
use Rattle.image_model.proofs.Area.{area_parts, no_faults}
use Rattle.image_model.proofs.InodeWalk.{groups_of}
use Rattle.image_model.proofs.NodeWalk.{node_meta, pairs_of_node, AllMet, WalkMet, walk_good}
use Rattle.image_model.proofs.NodePlaces.{numbers, nodes_used, numbers_distinct, node_spots, spots_are, places_at, file_places, directory_pairs, pages_at, is_of}
use Rattle.image_model.proofs.TreeNodes.{keys, Leads, all_lead, keys_distinct, keys_used}

-- ---- the bytes of a file are as many as its size says

pub held_length : (bytes : List ℕ) → length (take 4096 (bytes ++ replicate 4096 0)) ≡ 4096
held_length bytes = omega (arith, length-take 4096 (bytes ++ replicate 4096 0), length-append bytes (replicate 4096 0), length-replicate {A = ℕ} 4096 0)

pub bytes_length : (held : List SeenBlock) (n place k : ℕ) → length (bytes_from held n place k) ≡ 4096 * k
bytes_length held n place zero = refl
bytes_length held n place (suc k) =
    let here = take 4096 (held_at held n place ++ replicate 4096 0) in
    omega (arith, length-append here (bytes_from held n (place + 1) k), held_length (held_at held n place), bytes_length held n (place + 1) k)

pub file_length : (held : List SeenBlock) (n size : ℕ) → length (take size (bytes_from held n 0 (blocks_of size))) ≡ size
file_length held n size = omega (arith, length-take size (bytes_from held n 0 (blocks_of size)), bytes_length held n 0 (blocks_of size))

-- ---- a directory's places are all that it has

pub under : (blocks : ℕ) (pairs : List (ℕ × ℕ)) → AllBelow blocks pairs → AllUnder (0 + blocks) (map (λ (e : ℕ × ℕ). e.0) pairs)
under blocks [] below = tt
under blocks (e ∷ pairs) below = (let is = below.0 in grind (arith, nat_tests), under blocks pairs below.1)

places_length : (pairs : List (ℕ × ℕ)) → length (map (λ (e : ℕ × ℕ). e.0) pairs) ≡ length pairs
places_length [] = refl
places_length (e ∷ pairs) = ap suc (places_length pairs)

pub full_places : (read : Blocks) (blocks height ptr : ℕ) → AllBelow blocks (pairs_below read height ptr) → length (pairs_below read height ptr) ≡ blocks → map (λ (e : ℕ × ℕ). e.0) (pairs_below read height ptr) ≡ span 0 blocks
full_places read blocks height ptr below full = rising_full 0 blocks _ (pairs_rise read height ptr) (under blocks (pairs_below read height ptr) below) (places_length (pairs_below read height ptr) ∙ full)

-- ---- what is known of each node by its number

pub below_at : (read : Blocks) (nodes : List (ℕ × Inode)) → AllMet read nodes → (n : ℕ) → AllBelow (blocks_in_node (inode_of nodes n)) (pairs_of_node read (inode_of nodes n))
below_at read [] all n = tt
below_at read (node ∷ nodes) all n = by (node.0 == n) (below_at read nodes all.1 n)
  where
    by : (t : Bool) → AllBelow (blocks_in_node (inode_of nodes n)) (pairs_of_node read (inode_of nodes n)) → AllBelow (blocks_in_node (cond t node.1 (inode_of nodes n))) (pairs_of_node read (cond t node.1 (inode_of nodes n)))
    by true more = all.0.below
    by false more = more

-- the node of a used number is one of them
pub node_there : (nodes : List (ℕ × Inode)) (n : ℕ) → is_used (inode_of nodes n) ≡ true → Contains nodes (n, inode_of nodes n)
node_there [] n used = cc
node_there (node ∷ nodes) n used = by (node.0 == n) refl used (node_there nodes n)
  where
    by : (t : Bool) → (node.0 == n) ≡ t → is_used (cond t node.1 (inode_of nodes n)) ≡ true → (is_used (inode_of nodes n) ≡ true → Contains nodes (n, inode_of nodes n)) → Contains (node ∷ nodes) (n, cond t node.1 (inode_of nodes n))
    by true is used more = let e : node.0 ≡ n = eqb-true node.0 n is in (0, omega arith, λ i. (e i, node.1))
    by false is used more = let at = more used in (suc at.0, omega (arith, at.1), at.2)

abbrev Finds : List (ℕ × Inode) → List (ℕ × Inode) → Type 0
Finds whole nodes = AllByRecursion (λ (node : ℕ × Inode). inode_of whole node.0 ≡ node.1) nodes

finds_behind : (first : ℕ × Inode) (whole nodes : List (ℕ × Inode)) → is_among (numbers nodes) first.0 ≡ false → Finds whole nodes → Finds (first ∷ whole) nodes
finds_behind first whole [] out finds = tt
finds_behind first whole (node ∷ nodes) out finds =
    let apart : (first.0 == node.0) ≡ false = apart_by (nat_eq node.0 first.0) refl out in
    (ap (λ (t : Bool). cond t first.1 (inode_of whole node.0)) apart ∙ finds.0, finds_behind first whole nodes (later (nat_eq node.0 first.0) (is_among (numbers nodes) first.0) out) finds.1)
  where
    later : (a b : Bool) → (a || b) ≡ false → b ≡ false
    later true b e = cc
    later false b e = e

    apart_by : (t : Bool) → nat_eq node.0 first.0 ≡ t → (t || is_among (numbers nodes) first.0) ≡ false → (first.0 == node.0) ≡ false
    apart_by true is out = cc
    apart_by false is out = grind (arith, nat_tests)

finds_each : (nodes : List (ℕ × Inode)) → Distinct (numbers nodes) → Finds nodes nodes
finds_each [] distinct = tt
finds_each (node ∷ nodes) distinct =
    let same : (node.0 == node.0) ≡ true = grind (arith, nat_tests) in
    (ap (λ (t : Bool). cond t node.1 (inode_of nodes node.0)) same, finds_behind node nodes nodes distinct.0 (finds_each nodes distinct.1))

-- ---- sums over nodes

module _ (read : Blocks) (whole : List (ℕ × Inode)) where
  abbrev weight : ℕ → ℕ
  weight n = node_meta read (inode_of whole n)

  sum_nodes : (nodes : List (ℕ × Inode)) → Finds whole nodes → sum_by (λ (node : ℕ × Inode). node_meta read node.1) nodes ≡ total weight (numbers nodes)
  sum_nodes [] finds = refl
  sum_nodes (node ∷ nodes) finds = omega (arith, sum_by-cons (λ (node : ℕ × Inode). node_meta read node.1) node nodes, ap (node_meta read) finds.0, sum_nodes nodes finds.1)

  module _ (s : Seen) (placed : Places) (nodes_are : s.nodes ≡ whole) (distinct : Distinct (numbers whole)) (all : AllMet read whole) (places : placed ≡ flat_map (node_spots read) whole)
      (full : (n width height ptr : ℕ) → inode_of whole n ≡ Directory width height ptr → length (pairs_below read height ptr) ≡ blocks_of (256 * width)) where
    node_weight : (n : ℕ) (inode : Inode) (node : Node) → inode_of whole n ≡ inode → node_of s n inode ≡ Some node → content_blocks placed n node.content ≡ node_meta read inode
    node_weight n Unused node is of = cc
    node_weight n (File size height ptr) node is of =
        let e : record { number = n; content = tree.File (take size (bytes_from s.contents n 0 (blocks_of size))) } ≡ node = cc in
        let own : places_of placed n ≡ map (λ (e : ℕ × ℕ). e.0) (pairs_below read height ptr) = ap (λ (p : Places). places_of p n) places ∙ places_at read n whole distinct ∙ ap (file_places read) is in
        ap (λ (x : Node). content_blocks placed n x.content) (sym e) ∙ (λ i. index_blocks (up (file_length s.contents n size i) 4096) (own i))
    node_weight n (Directory width height ptr) node is of =
        let e : record { number = n; content = tree.Directory width } ≡ node = cc in
        let below : AllBelow (blocks_of (256 * width)) (pairs_below read height ptr) = subst (λ (x : Inode). AllBelow (blocks_in_node x) (pairs_of_node read x)) is (below_at read whole all n) in
        let count = full n width height ptr is in
        let blocks : blocks_of (256 * width) ≡ up width 16 = omega arith in
        let all_there = full_places read (blocks_of (256 * width)) height ptr below count in
        let indexes : index_blocks (blocks_of (256 * width)) (map (λ (e : ℕ × ℕ). e.0) (pairs_below read height ptr)) ≡ index_blocks (up width 16) (span 0 (up width 16)) = (λ i. index_blocks (blocks_of (256 * width)) (all_there i)) ∙ (λ i. index_blocks (blocks i) (span 0 (blocks i))) in
        ap (λ (x : Node). content_blocks placed n x.content) (sym e) ∙ omega (arith, indexes, count, blocks)

    sum_tree : (es : Tree) → AllByRecursion (λ (e : Path × Node). Leads s e.0 e.1) es → sum_by (λ (e : Path × Node). content_blocks placed e.1.number e.1.content) es ≡ total weight (keys es)
    sum_tree [] leads = refl
    sum_tree (e ∷ es) leads =
        let inode : inode_of s.nodes e.1.number ≡ inode_of whole e.1.number = ap (λ (ns : List (ℕ × Inode)). inode_of ns e.1.number) nodes_are in
        let of : node_of s e.1.number (inode_of whole e.1.number) ≡ Some e.1 = subst (λ (x : Inode). node_of s e.1.number x ≡ Some e.1) inode leads.0.inode in
        omega (arith, sum_by-cons (λ (e : Path × Node). content_blocks placed e.1.number e.1.content) e es, node_weight e.1.number (inode_of whole e.1.number) e.1 refl of, sum_tree es leads.1)

-- ---- the law

file_blocks : (read : Blocks) (ms : List Met) → blocks_in_places (map spot_of (all_held (content_held read) ms)) ≡ files ms
file_blocks read [] = refl
file_blocks read (index b ∷ ms) = file_blocks read ms
file_blocks read (page n place b ∷ ms) = file_blocks read ms
file_blocks read (content n place b ∷ ms) = ap (λ (bs : List ℕ). b ∷ bs) (file_blocks read ms)
file_blocks read (past b ∷ ms) = file_blocks read ms
file_blocks read (empty b ∷ ms) = file_blocks read ms
file_blocks read (not_inode n ∷ ms) = file_blocks read ms
file_blocks read (stray n p ∷ ms) = file_blocks read ms

tree_groups : (t : Tree) → map (λ (e : Path × Node). e.1.number / 64) t ≡ map (λ n. n / 64) (keys t)
tree_groups [] = refl
tree_groups (e ∷ t) = ap (λ (ns : List ℕ). e.1.number / 64 ∷ ns) (tree_groups t)

-- the first test of a directory that isn't bad
pub count_first : (a b c d : Bool) → (((not a || b) || c) || d) ≡ false → a ≡ true
count_first true b c d e = refl
count_first false b c d e = cc

module _ (read : Blocks) (at : ℕ) (homes : List ℕ) (count : ℕ) (g : Layout) (s : Stored) where
  abbrev saw : Seen
  saw = seen_from read at homes count

  full_directory : ((node : ℕ × Inode) → Contains (nodes_at read at) node → is_bad_directory saw node ≡ false) → WalkMet read at → (n width height ptr : ℕ) → inode_of (nodes_at read at) n ≡ Directory width height ptr → length (pairs_below read height ptr) ≡ blocks_of (256 * width)
  full_directory directories met n width height ptr is =
      let used : is_used (inode_of (nodes_at read at) n) ≡ true = ap is_used is in
      let there : Contains (nodes_at read at) (n, Directory width height ptr) = subst (λ (x : Inode). Contains (nodes_at read at) (n, x)) is (node_there (nodes_at read at) n used) in
      let fine = directories (n, Directory width height ptr) there in
      let counted : count_by (is_of n) (all_held (page_held read) (walk read at)) ≡ blocks_of (256 * width) = eqb-true _ _ (count_first _ _ _ _ fine) in
      let pages : count_by (is_of n) (all_held (page_held read) (walk read at)) ≡ length (directory_pairs read (inode_of (nodes_at read at) n)) =
      ap (λ (ms : List Met). count_by (is_of n) (all_held (page_held read) ms)) met.is ∙ no_index (nonzero (index_at read at)) (flat_map (node_trees read) (nodes_at read at)) ∙ pages_at read n (nodes_at read at) (numbers_distinct read at) in
      ap (λ (x : Inode). length (directory_pairs read x)) (sym is) ∙ sym pages ∙ counted
    where
      no_index : (bs : List ℕ) (ms : List Met) → count_by (is_of n) (all_held (page_held read) (map index bs ++ ms)) ≡ count_by (is_of n) (all_held (page_held read) ms)
      no_index [] ms = refl
      no_index (b ∷ bs) ms = no_index bs ms

  -- the walk meets the metadata of the formula
  pub metadata_seen : AllGood g saw.met saw.met → ((node : ℕ × Inode) → Contains (nodes_at read at) node → is_bad_directory saw node ≡ false) → IsNamed saw
      → Shows saw s → metadata_blocks s.tree s.places ≡ length (metas saw.met)
  metadata_seen pointers directories named shows =
      let nodes = nodes_at read at in
      let met = walk_good read at (no_faults g saw.met saw.met pointers) in
      let distinct = numbers_distinct read at in
      let placed : s.places ≡ flat_map (node_spots read) nodes = shows.places ∙ ap (λ (ms : List Met). map spot_of (all_held (content_held read) ms)) met.is ∙ spots_are read at nodes in
      let leads = all_lead saw s.tree shows.ordered shows.tree named in
      let same = keys_used saw s.tree shows.ordered shows.tree named (nodes_used (blocks_inodes read 0 (index_at read at))) in
      let sums : sum_by (λ (e : Path × Node). content_blocks s.places e.1.number e.1.content) s.tree ≡ sum_by (λ (node : ℕ × Inode). node_meta read node.1) nodes =
      sum_tree read nodes saw s.places refl distinct met.nodes placed (full_directory directories met) s.tree leads
      ∙ total_same (weight read nodes) (keys s.tree) (numbers nodes) (keys_distinct saw s.tree shows.ordered shows.tree named) distinct same
      ∙ sym (sum_nodes read nodes nodes (finds_each nodes distinct)) in
      let groups : different (map (λ (e : Path × Node). e.1.number / 64) s.tree) ≡ different (groups_of nodes) =
      ap different (tree_groups s.tree) ∙ different_same _ _ (images_same (λ n. n / 64) (keys s.tree) (numbers nodes) same) in
      omega (arith, met.meta, sums, groups)

  pub free_seen : AllGood g saw.met saw.met → ((node : ℕ × Inode) → Contains (nodes_at read at) node → is_bad_directory saw node ≡ false) → IsNamed saw
      → ((b : ℕ) → b < 1024 * count_blocks g → get_or saw.kept b 0 ≡ pointers_to b saw.met) → Shows saw s → area_start g ≤ g.blocks → free_in g saw.kept ≡ free_blocks g s.tree s.places
  free_seen pointers directories named counts shows le =
      let meta = metadata_seen pointers directories named shows in
      let data_blocks : different (files saw.met) ≡ different (blocks_in_places s.places) = ap different (sym (file_blocks read saw.met) ∙ ap blocks_in_places (sym shows.places)) in
      omega (arith, area_parts g saw.kept saw.met pointers counts le, meta, data_blocks)
