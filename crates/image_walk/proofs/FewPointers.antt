-- Where the walk finds nothing wrong, no block has more pointers than a count can hold: each index block is reached once, and has 1,024 pointers.
use Rattle.std.proofs.Common.{◌≡◌, ◌<◌, ◌≤◌, ℕ, zero, suc, ◌+◌, ◌*◌, ◌^◌, Bool, true, false, cond, List, [], ◌∷◌, ◌++◌, length, take, drop, refl, sym, ap, subst, ◌∙◌, arith}
use Rattle.std.specs.Prelude.{◌==◌, ◌&&◌, ◌||◌, nat_eq, nat_lt, None}
use Rattle.std.specs.List.{flat_map, list_all, list_any}
use Rattle.std.proofs.lemmas.List.{append_assoc, length-append, length-take}
use Rattle.std.proofs.lemmas.List.Concat.{flat_map-cons}
use Rattle.std.proofs.lemmas.Bool.Decides.{nat_tests}
use Rattle.vol_numbers.specs.Layout.{Layout}
use Rattle.place_words.specs.Different.{different, is_among, times, passing, span, AllWithin}
use Rattle.place_words.proofs.Counting.{different_is}
use Rattle.block_format.specs.Words.{words}
use Rattle.block_format.specs.Inode.{inode_in, blocks_of}
use Rattle.block_format.specs.declared.inode.Inode.{Inode}
use Rattle.block_format.specs.declared.inode.Inode.TheVariants.{Unused, File, Directory}
use Rattle.block_tree.specs.Tree.{Blocks, index_at}
use Rattle.image_model.specs.Met.{Met, index, page, content, past, empty, not_inode, stray, meta_of, file_of, metas, files, pointers_to, NoFaults}
use Rattle.image_model.specs.Findings.{walk_finding, is_in_area}
use Rattle.image_model.specs.Walk.{met_at, empty_met, empty_at, places_met, leaf_met, tops_met, leaves_met, tree_met, node_met, entries_met, blocks_met, root_met, is_used, is_directory, inodes_from, blocks_inodes, nodes_of, nodes_at, walk}
use Rattle.image_model.proofs.NodeWalk.{metas_append}
use Rattle.image_model.proofs.TreeLaws.{first_faults, other_faults}
use Rattle.image_model.proofs.InodeWalk.{inodes_good}
use Rattle.image_model.proofs.Strays.{none_past, none_stray}
use Rattle.image_model.proofs.FindingLaws.{WalkFine, walk_fine}
use Rattle.image_model.proofs.Area.{split_none}
use Rattle.image_walk.specs.Reads.{is_index, metadata_count}
use Rattle.image_walk.proofs.ReadsLaws.{metadata_first}

-- how many blocks of files, and of metadata
abbrev many_files : List Met → ℕ
many_files ms = length (files ms)

abbrev many_metas : List Met → ℕ
many_metas ms = length (metas ms)

files_append : (xs ys : List Met) → files (xs ++ ys) ≡ files xs ++ files ys
files_append [] ys = refl
files_append (x ∷ xs) ys = ap (λ (bs : List ℕ). file_of x ++ bs) (files_append xs ys) ∙ sym (append_assoc (file_of x) (files xs) (files ys))

more_files : (xs ys : List Met) → many_files (xs ++ ys) ≡ many_files xs + many_files ys
more_files xs ys = ap length (files_append xs ys) ∙ length-append (files xs) (files ys)

more_metas : (xs ys : List Met) → many_metas (xs ++ ys) ≡ many_metas xs + many_metas ys
more_metas xs ys = ap length (metas_append xs ys) ∙ length-append (metas xs) (metas ys)

times_few : (b : ℕ) (xs : List ℕ) → times b xs ≤ length xs
times_few b [] = omega arith
times_few b (x ∷ xs) = by (nat_eq x b) (times_few b xs)
  where
    by : (t : Bool) → times b xs ≤ length xs → cond t 1 0 + times b xs ≤ suc (length xs)
    by true more = omega (arith, more)
    by false more = omega (arith, more)

-- ---- the blocks of a node

-- how many of these aren't 0
abbrev some_of : List ℕ → ℕ
some_of [] = 0
some_of (p ∷ ps) = cond (p == 0) 0 1 + some_of ps

few_at : (t u : Bool) (m : Met) (p : ℕ) → many_files (m ∷ []) ≤ 1 → many_files (cond t [] (cond u m (past p) ∷ [])) ≤ 1
few_at true u m p few = omega arith
few_at false true m p few = few
few_at false false m p few = omega arith

index_files : (t u : Bool) (p : ℕ) → many_files (cond t [] (cond u (index p) (past p) ∷ [])) ≡ 0
index_files true u p = refl
index_files false true p = refl
index_files false false p = refl

index_metas : (t u : Bool) (p : ℕ) → NoFaults (cond t [] (cond u (index p) (past p) ∷ [])) → many_metas (cond t [] (cond u (index p) (past p) ∷ [])) ≡ cond t 0 1
index_metas true u p none = refl
index_metas false true p none = refl
index_metas false false p none = absurd none.0

empty_files : (t : Bool) (b : ℕ) → many_files (cond t (empty b ∷ []) []) ≡ 0
empty_files true b = refl
empty_files false b = refl

module _ (read : Blocks) (what : ℕ → ℕ → Met) (few : (place p : ℕ) → many_files (what place p ∷ []) ≤ 1) (blocks : ℕ) where
  few_places : (place : ℕ) (ps : List ℕ) → many_files (places_met what blocks place ps) ≤ length ps
  few_places place [] = omega arith
  few_places place (p ∷ ps) =
      omega (arith, more_files (met_at (what place) (nat_lt place blocks) p) (places_met what blocks (place + 1) ps), few_at (p == 0) (nat_lt place blocks) (what place p) p (few place p), few_places (place + 1) ps)

  few_entries : (t : Bool) (b : ℕ) → length (cond t [] (take 1024 (words (read b)))) ≤ 1024
  few_entries true b = omega arith
  few_entries false b = omega (arith, length-take 1024 (words (read b)))

  few_leaf : (place b : ℕ) → many_files (leaf_met read what blocks place b) ≤ 1024 * cond (b == 0) 0 1
  few_leaf place b = by (b == 0)
    where
      by : (t : Bool) → many_files (cond t [] (empty_met b (index_at read b) ++ places_met what blocks place (index_at read b))) ≤ 1024 * cond t 0 1
      by true = omega arith
      by false = omega (arith, more_files (empty_met b (index_at read b)) (places_met what blocks place (index_at read b)), empty_files (list_all (λ p. p == 0) (index_at read b)) b, few_places place (index_at read b), few_entries (b == 0) b)

  few_leaves : (place : ℕ) (ps : List ℕ) → many_files (leaves_met read what blocks place ps) ≤ 1024 * some_of ps
  few_leaves place [] = omega arith
  few_leaves place (p ∷ ps) = omega (arith, more_files (leaf_met read what blocks place p) (leaves_met read what blocks (place + 1024) ps), few_leaf place p, few_leaves (place + 1024) ps)

  tops_files : (place : ℕ) (ps : List ℕ) → many_files (tops_met blocks place ps) ≡ 0
  tops_files place [] = refl
  tops_files place (p ∷ ps) = omega (arith, more_files (met_at index (nat_lt place blocks) p) (tops_met blocks (place + 1024) ps), index_files (p == 0) (nat_lt place blocks) p, tops_files (place + 1024) ps)

  tops_metas : (place : ℕ) (ps : List ℕ) → NoFaults (tops_met blocks place ps) → many_metas (tops_met blocks place ps) ≡ some_of ps
  tops_metas place [] none = refl
  tops_metas place (p ∷ ps) none =
      let one = met_at index (nat_lt place blocks) p in
      let rest = tops_met blocks (place + 1024) ps in
      omega (arith, more_metas one rest, index_metas (p == 0) (nat_lt place blocks) p (first_faults one rest none), tops_metas (place + 1024) ps (other_faults one rest none))

  few_tree : (height ptr : ℕ) → NoFaults (tree_met read what blocks height ptr) → many_files (tree_met read what blocks height ptr) ≤ 1024 * many_metas (tree_met read what blocks height ptr) + 1
  few_tree zero ptr none = omega (arith, few_at (ptr == 0) (nat_lt 0 blocks) (what 0 ptr) ptr (few 0 ptr))
  few_tree (suc zero) ptr none =
      let one = met_at index (nat_lt 0 blocks) ptr in
      let leaf = leaf_met read what blocks 0 ptr in
      omega (arith, more_files one leaf, more_metas one leaf, index_files (ptr == 0) (nat_lt 0 blocks) ptr, index_metas (ptr == 0) (nat_lt 0 blocks) ptr (first_faults one leaf none), few_leaf 0 ptr)
  few_tree (suc (suc height)) ptr none =
      let one = met_at index (nat_lt 0 blocks) ptr in
      let blank = empty_at read ptr in
      let tops = tops_met blocks 0 (index_at read ptr) in
      let leaves = leaves_met read what blocks 0 (index_at read ptr) in
      let behind = other_faults one (blank ++ (tops ++ leaves)) none in
      let level = other_faults blank (tops ++ leaves) behind in
      omega (
        arith,
        more_files one (blank ++ (tops ++ leaves)),
        more_files blank (tops ++ leaves),
        more_files tops leaves,
        index_files (ptr == 0) (nat_lt 0 blocks) ptr,
        blank_files (ptr == 0) ptr,
        tops_files 0 (index_at read ptr),
        few_leaves 0 (index_at read ptr),
        more_metas one (blank ++ (tops ++ leaves)),
        more_metas blank (tops ++ leaves),
        more_metas tops leaves,
        tops_metas 0 (index_at read ptr) (first_faults tops leaves level),
      )
    where
      blank_files : (t : Bool) (b : ℕ) → many_files (cond t [] (empty_met b (index_at read b))) ≡ 0
      blank_files true b = refl
      blank_files false b = empty_files (list_all (λ p. p == 0) (index_at read b)) b

few_node : (read : Blocks) (n : ℕ) (x : Inode) → NoFaults (node_met read (n, x)) → many_files (node_met read (n, x)) ≤ 1024 * many_metas (node_met read (n, x)) + 1
few_node read n Unused none = omega arith
few_node read n (File size height ptr) none = few_tree read (content n) (λ place p. omega arith) (blocks_of size) height ptr none
few_node read n (Directory width height ptr) none = few_tree read (page n) (λ place p. omega arith) (blocks_of (256 * width)) height ptr none

few_nodes : (read : Blocks) (nodes : List (ℕ × Inode)) → NoFaults (flat_map (node_met read) nodes) → many_files (flat_map (node_met read) nodes) ≤ 1024 * many_metas (flat_map (node_met read) nodes) + length nodes
few_nodes read [] none = omega arith
few_nodes read ((n, x) ∷ nodes) none =
    let cons = flat_map-cons (node_met read) (n, x) nodes in
    let one = node_met read (n, x) in
    let rest = flat_map (node_met read) nodes in
    let parts : NoFaults (one ++ rest) = subst NoFaults cons none in
    omega (arith, ap many_files cons, ap many_metas cons, more_files one rest, more_metas one rest, few_node read n x (first_faults one rest parts), few_nodes read nodes (other_faults one rest parts))

-- ---- how many nodes there are

nodes_few : (inodes : List (ℕ × List ℕ)) → length (nodes_of inodes) ≤ length inodes
nodes_few [] = omega arith
nodes_few ((n, bytes) ∷ inodes) = by (is_used (inode_in bytes)) (nodes_few inodes)
  where
    by : (t : Bool) → length (nodes_of inodes) ≤ length inodes → length (cond t ((n, inode_in bytes) ∷ nodes_of inodes) (nodes_of inodes)) ≤ suc (length inodes)
    by true more = omega (arith, more)
    by false more = omega (arith, more)

inodes_many : (k n : ℕ) (bytes : List ℕ) → length (inodes_from k n bytes) ≡ k
unfolding inodes_from
inodes_many zero n bytes = refl
inodes_many (suc k) n bytes = ap suc (inodes_many k (n + 1) (drop 64 bytes))

inodes_few : (read : Blocks) (n : ℕ) (es : List ℕ) → length (blocks_inodes read n es) ≤ 64 * length es
inodes_few read n [] = omega arith
inodes_few read n (e ∷ es) = omega (arith, length-append (cond (e == 0) [] (inodes_from 64 n (read e))) (blocks_inodes read (n + 64) es), by (e == 0), inodes_few read (n + 64) es)
  where
    by : (t : Bool) → length (cond t [] (inodes_from 64 n (read e))) ≤ 64
    by true = omega arith
    by false = omega (arith, inodes_many 64 n (read e))

-- ---- how much metadata there is

within : (low high : ℕ) (xs : List ℕ) → ((b : ℕ) → is_among xs b ≡ true → (low ≤ b) × (b < high)) → AllWithin low high xs
within low high [] each = tt
within low high (x ∷ xs) each =
    let itself : nat_eq x x ≡ true = grind (arith, nat_tests) in
    let here = each x (ap (λ (t : Bool). t || is_among xs x) itself) in
    (here.0, here.1, within low high xs (λ b among. each b (or_second (nat_eq x b) (is_among xs b) among)))
  where
    or_second : (t u : Bool) → u ≡ true → (t || u) ≡ true
    or_second true u e = refl
    or_second false u e = e

passing_few : (test : ℕ → Bool) (from n : ℕ) → passing test (span from n) ≤ n
passing_few test from zero = omega arith
passing_few test from (suc n) = by (test from) (passing_few test (from + 1) n)
  where
    by : (t : Bool) → passing test (span (from + 1) n) ≤ n → cond t 1 0 + passing test (span (from + 1) n) ≤ suc n
    by true more = omega (arith, more)
    by false more = omega (arith, more)

among_step : (t : Bool) (b : ℕ) (xs : List ℕ) → (is_among xs b ≡ true → 1 ≤ times b xs) → (t || is_among xs b) ≡ true → 1 ≤ cond t 1 0 + times b xs
among_step true b xs more among = omega arith
among_step false b xs more among = omega (arith, more among)

among_times : (b : ℕ) (xs : List ℕ) → is_among xs b ≡ true → 1 ≤ times b xs
among_times b [] among = cc
among_times b (x ∷ xs) among = among_step (nat_eq x b) b xs (among_times b xs) among

distinct_step : (t : Bool) (x : ℕ) (xs : List ℕ) → is_among xs x ≡ t → times x (x ∷ xs) ≤ 1 → different xs ≡ length xs → cond t (different xs) (different xs + 1) ≡ suc (length xs)
distinct_step true x xs is once more =
    let weight : Bool → ℕ = λ t. cond t 1 0 in
    let same : nat_eq x x ≡ true = grind (arith, nat_tests) in
    absurd (omega (arith, once, ap weight same, among_times x xs is))
distinct_step false x xs is once more = omega (arith, more)

-- where none is there twice, there are as many different ones
distinct : (xs : List ℕ) → ((b : ℕ) → times b xs ≤ 1) → different xs ≡ length xs
distinct [] once = refl
distinct (x ∷ xs) once = distinct_step (is_among xs x) x xs refl (once x) (distinct xs (λ b. omega (arith, once b)))

below_blocks : (g : Layout) (b : ℕ) → is_in_area g b ≡ true → b < g.blocks
below_blocks g b is = grind (arith, nat_tests)

few_metas : (g : Layout) (ms : List Met) → WalkFine g [] ms → many_metas ms ≤ g.blocks
few_metas g ms fine =
    let all : AllWithin 0 (0 + g.blocks) (metas ms) = within 0 (0 + g.blocks) (metas ms) (λ b among. (omega arith, (let lt = below_blocks g b (fine.of_metas b among) in omega (arith, lt)))) in
    omega (arith, distinct (metas ms) (λ b. omega (arith, fine.once b (omega arith))), different_is 0 g.blocks (metas ms) all, passing_few (is_among (metas ms)) 0 g.blocks)

-- ---- what a walk reads

indexes_few : (ms : List Met) → metadata_count ms ≤ many_metas ms
indexes_few [] = omega arith
indexes_few (m ∷ ms) = omega (arith, metadata_first m ms, length-append (meta_of m) (metas ms), by m, indexes_few ms)
  where
    by : (m : Met) → cond (is_index m) 1 0 ≤ length (meta_of m)
    by (index b) = omega arith
    by (page n place b) = omega arith
    by (content n place b) = omega arith
    by (past b) = omega arith
    by (empty b) = omega arith
    by (not_inode n) = omega arith
    by (stray n b) = omega arith

pub few_indexes : (g : Layout) (read : Blocks) (at : ℕ) → walk_finding g [] (walk read at) ≡ None → metadata_count (walk read at) ≤ g.blocks
few_indexes g read at none =
    let fine = walk_fine g [] (walk read at) (none_stray read at (none_past g [] (walk read at) none)) none in
    omega (arith, few_metas g (walk read at) fine, indexes_few (walk read at))

-- ---- all pointers

pub few_pointers : (g : Layout) (read : Blocks) (at : ℕ) → g.blocks ≤ 65536 → walk_finding g [] (walk read at) ≡ None → (b : ℕ) → pointers_to b (walk read at) < 2 ^ 32
unfolding walk
few_pointers g read at le none b =
    let fine = walk_fine g [] (walk read at) (none_stray read at (none_past g [] (walk read at) none)) none in
    let es = index_at read at in
    let nodes = nodes_at read at in
    let root = root_met nodes in
    let below = flat_map (node_met read) nodes in
    let blocks = blocks_met read 0 es in
    let behind = other_faults (entries_met es) (blocks ++ (root ++ below)) fine.none.1 in
    let after = other_faults blocks (root ++ below) behind in
    let trees = few_nodes read nodes (other_faults root below after) in
    let no_inodes = (inodes_good read 0 es (first_faults blocks (root ++ below) behind)).none in
    omega (
      arith,
      split_none (walk read at) b fine.none,
      fine.once b (omega arith),
      times_few b (files (walk read at)),
      few_metas g (walk read at) fine,
      trees,
      more_files (entries_met es) (blocks ++ (root ++ below)),
      more_files blocks (root ++ below),
      more_files root below,
      more_metas (entries_met es) (blocks ++ (root ++ below)),
      more_metas blocks (root ++ below),
      more_metas root below,
      entries_files es,
      ap many_files no_inodes,
      root_files (list_any (λ (node : ℕ × Inode). node.0 == 1 && is_directory node.1) nodes),
      nodes_few (blocks_inodes read 0 es),
      inodes_few read 0 es,
      entries_few (at == 0),
    )
  where
    entries_files : (es : List ℕ) → many_files (entries_met es) ≡ 0
    entries_files [] = refl
    entries_files (e ∷ es) = omega (arith, more_files (met_at index true e) (entries_met es), index_files (e == 0) true e, entries_files es)

    root_files : (t : Bool) → many_files (cond t [] (not_inode 1 ∷ [])) ≡ 0
    root_files true = refl
    root_files false = refl

    entries_few : (t : Bool) → length (cond t [] (take 1024 (words (read at)))) ≤ 1024
    entries_few true = omega arith
    entries_few false = omega (arith, length-take 1024 (words (read at)))
