-- A point over a fresh volume with nothing pending is planned in an image with the next root.
use Rattle.std.proofs.Common.{◌≡◌, ℕ, zero, suc, ◌+◌, ◌*◌, ◌^◌, ◌<◌, ◌≤◌, Bool, true, false, cond, List, [], ◌∷◌, ◌++◌, length, take, drop, replicate, get_or, refl, sym, ap, subst, ◌∙◌, arith, length-append}
use Rattle.std.specs.Prelude.{◌==◌, ◌&&◌, nat_lt, nat_le, option_map}
use Rattle.std.specs.List.{flat_map}
use Rattle.std.proofs.lemmas.Bool.Decides.{nat_tests}
use Rattle.std.proofs.lemmas.List.{take_at}
use Rattle.vol_numbers.specs.Layout.{Layout, area_start, count_blocks}
use Rattle.vol_numbers.specs.declared.block.Block.{Block}
use Rattle.block_format.specs.Inode.{pointer_of}
use Rattle.block_format.specs.Root.{Root}
use Rattle.block_format.specs.Words.{words}
use Rattle.block_format.specs.declared.inode.Inode.{Inode}
use Rattle.block_format.specs.declared.inode.Inode.TheVariants.{Unused, File, Directory}
use Rattle.block_format.proofs.WordLaws.{words-index_bytes, small_words}
use Rattle.block_tree.specs.Planned.{pointers_of}
use Rattle.block_tree.specs.Tree.{Blocks, blocks_in, block_below, index_at, nonzero, indexes_below, pairs_below, IsFull}
use Rattle.count_pairs.specs.Table.{count_block}
use Rattle.dir_slots.specs.Pages.{pages_for}
use Rattle.dirty_store.specs.Overlay.{clean}
use Rattle.image_model.specs.Findings.{is_in_area}
use Rattle.image_model.specs.Fresh.{IsFresh, fresh_inode, fresh_count, fresh_stored}
use Rattle.image_model.specs.Live.{IsLive, home, logged, counted}
use Rattle.image_model.specs.Nodes.{AllBelow, blocks_in_node}
use Rattle.image_model.specs.Plan.{IsPlanned, taken_in}
use Rattle.image_model.specs.Planned.{InodesStand, height_in}
use Rattle.image_model.specs.Point.{TakesFree}
use Rattle.image_model.specs.Seen.{seen, counts_from, home_in}
use Rattle.image_model.specs.Slots.{slots_of as slots_seen}
use Rattle.image_model.specs.Stands.{Stands, layout_in}
use Rattle.image_model.proofs.FreshLaws.{fresh_stands, fresh_has_point}
use Rattle.image_model.proofs.InodesSeen.{inodes_are_seen}
use Rattle.image_model.proofs.Kept.{bytes_same}
use Rattle.node_table.specs.Held.{info}
use Rattle.place_words.specs.Different.{times, span}
use Rattle.point_model.specs.FreshPoint.{HasNextRoot, fresh_machine, fresh_report, FreshPointIsPlanned}
use Rattle.point_model.specs.Holding.{inode_before, node_now, slots_now, width_in, as_node}
use Rattle.point_model.specs.Laws.{MayTake, IsPlannedFor}
use Rattle.point_model.specs.NodePlan.{block_of_place, node_pointers, node_metas, TreeIsPlanned, PointersArePlanned}
use Rattle.point_model.specs.PointPlan.{RootIsPlanned, LiveStays, told, InodesArePlanned, ContentIsPlanned, NodeIsPlanned, CountsArePlanned, of_all}
use Rattle.point_model.proofs.AtRest.{clean_nodes, clean_slots}
use Rattle.point_model.proofs.Resting.{at_rest}
use Rattle.point_model.proofs.Spelled.{none_above, lt_true, lt_false}
use Rattle.root_switch.specs.Current.{root_of_image}
use Rattle.state_laws.specs.States.{IsMountable, IsCoherent}
use Rattle.state_laws.proofs.Commands.{mounted_coherent}
use Rattle.state_laws.proofs.FreshState.{fresh_is_mountable}
use Rattle.tree_model.specs.Tree.{new_tree}
use Rattle.volume_model.specs.Machine.{Rules}
use Rattle.volume_model.specs.Space.{free_blocks, metadata_blocks}

-- ---- the inode of each number

by_inode : (P : Inode → Type 0) → P (Directory 0 0 0) → P Unused → (n : ℕ) → P (fresh_inode n)
by_inode P here other n = by (n == 1)
  where
    by : (t : Bool) → P (cond t (Directory 0 0 0) Unused)
    by true = here
    by false = other

-- below a pointer 0 no place has a block
no_block : (read : Blocks) (place : ℕ) → block_below read 0 0 place ≡ 0
no_block read place = by (place == 0)
  where
    by : (t : Bool) → ◌≡◌ {A = ℕ} (cond t 0 0) 0
    by true = refl
    by false = refl

no_place : (image : List Block) (n place : ℕ) → block_of_place image (fresh_inode n) place ≡ 0
no_place image n place = by_inode (λ x. block_of_place image x place ≡ 0) (no_block (blocks_in image) place) (no_block (blocks_in image) place) n

zeros_move : (old new : Blocks) (k n : ℕ) → InodesStand old fresh_inode k (replicate n 0) → InodesStand new fresh_inode k (replicate n 0)
zeros_move old new k zero stand = tt
zeros_move old new k (suc n) stand = (record { absent = stand.0.absent; spelled = λ e. cc; some = stand.0.some }, zeros_move old new (k + 1) n stand.1)

-- nothing is taken
abbrev nothing : ℕ → List ℕ
nothing n = []

none_taken : (ns : List ℕ) → flat_map nothing ns ≡ []
none_taken [] = refl
none_taken (n ∷ ns) = none_taken ns

-- ---- counts

pointers_long : (at : ℕ → ℕ) (place n : ℕ) → length (pointers_of at place n) ≡ n
unfolding pointers_of
pointers_long at place zero = refl
pointers_long at place (suc n) = ap suc (pointers_long at (place + 1) n)

pointers_small : (at : ℕ → ℕ) → ((b : ℕ) → at b < 2 ^ 32) → (place n k : ℕ) → get_or (pointers_of at place n) k 0 < 2 ^ 32
unfolding pointers_of
pointers_small at small place zero k = omega arith
pointers_small at small place (suc n) zero = small place
pointers_small at small place (suc n) (suc k) = pointers_small at small (place + 1) n k

small_count : (g : Layout) (b : ℕ) → fresh_count g b < 2 ^ 32
small_count g b = by (area_start g + 1 == b) (area_start g == b)
  where
    by : (t u : Bool) → cond t 1 0 + cond u 1 0 < 2 ^ 32
    by true true = omega arith
    by true false = omega arith
    by false true = omega arith
    by false false = omega arith

module _ (read : Blocks) (homes : List ℕ) where
  -- blocks of 1,024 counts each
  abbrev AreLong : ℕ → ℕ → Type 0
  AreLong from many = (i : ℕ) → from ≤ i → i < from + many → length (words (read (home_in homes i))) ≡ 1024

  counts_long : (i n : ℕ) → AreLong i n → length (counts_from read homes i n) ≡ 1024 * n
  counts_long i zero long = omega arith
  counts_long i (suc n) long =
      omega (arith, length-append (words (read (home_in homes i))) (counts_from read homes (i + 1) n), long i (omega arith) (omega arith), counts_long (i + 1) n (λ j le lt. long j (omega (arith, le)) (omega (arith, lt))))

  drop_more : (n m : ℕ) (xs ys : List ℕ) → length xs ≡ n → drop (n + m) (xs ++ ys) ≡ drop m ys
  drop_more zero m [] ys long = let e : zero + m ≡ m = omega arith in ap (λ (k : ℕ). drop k ys) e
  drop_more zero m (x ∷ xs) ys long = absurd (omega (arith, long))
  drop_more (suc n) m [] ys long = absurd (omega (arith, long))
  drop_more (suc n) m (x ∷ xs) ys long = let e : suc n + m ≡ suc (n + m) = omega arith in ap (λ (k : ℕ). drop k (x ∷ (xs ++ ys))) e ∙ drop_more n m xs ys (omega (arith, long))

  -- each block has its part of the counts
  block_is : (i n k : ℕ) → AreLong i n → k < n → count_block (counts_from read homes i n) k ≡ words (read (home_in homes (i + k)))
  block_is i zero k long lt = absurd (omega (arith, lt))
  block_is i (suc n) zero long lt =
      let none : 1024 * zero ≡ 0 = omega arith in
      let same : i ≡ i + zero = omega arith in
      (λ j. take 1024 (drop (none j) (words (read (home_in homes i)) ++ counts_from read homes (i + 1) n)))
      ∙ take_at (words (read (home_in homes i))) (counts_from read homes (i + 1) n) 1024 (long i (omega arith) (omega arith))
      ∙ ap (λ (j : ℕ). words (read (home_in homes j))) same
  block_is i (suc n) (suc k) long lt =
      let next : 1024 * suc k ≡ 1024 + 1024 * k = omega arith in
      let same : i + 1 + k ≡ i + suc k = omega arith in
      (λ j. take 1024 (drop (next j) (words (read (home_in homes i)) ++ counts_from read homes (i + 1) n)))
      ∙ ap (take 1024) (drop_more 1024 (1024 * k) (words (read (home_in homes i))) (counts_from read homes (i + 1) n) (long i (omega arith) (omega arith)))
      ∙ block_is (i + 1) n k (λ j le before. long j (omega (arith, le)) (omega (arith, before))) (omega (arith, lt))
      ∙ ap (λ (j : ℕ). words (read (home_in homes j))) same

-- ---- the point

module _ (r : Rules) (g : Layout) (old new : List Block) (positive : 0 < r.threshold) (fresh : IsFresh g old) (next : HasNextRoot old new) where
  stands : Stands old (fresh_stored g)
  stands = fresh_stands g old fresh

  mountable : IsMountable (fresh_stored g)
  mountable = fresh_is_mountable g 0

  coherent : IsCoherent r (fresh_machine g)
  coherent = mounted_coherent r (fresh_stored g) mountable

  layout : layout_in old ≡ g
  layout = ap (λ (x : Root). x.layout) fresh.root

  low : area_start g + 64 ≤ g.blocks
  low = subst (λ (l : Layout). area_start l + 64 ≤ l.blocks) layout fresh.fits.geometry.valid.area_at_least

  may : MayTake r old clean (fresh_machine g) (fresh_report r g)
  may = record {
    stands = stands;
    holds = at_rest old (fresh_stored g) [] stands;
    coherent = coherent;
    is_report = record { positive = positive; whole = coherent.whole; point = record { may = refl; is = refl } };
    long = long;
  }
    where
      two : metadata_blocks new_tree [] ≡ 2
      two = refl

      enough : (free need : ℕ) → need ≤ free → nat_lt free need ≡ false
      enough free need le = grind (arith, nat_tests)

      long : nat_lt (free_blocks g new_tree []) (0 + metadata_blocks new_tree [] + 16) ≡ false
      long = enough (free_blocks g new_tree []) (0 + metadata_blocks new_tree [] + 16) (omega (arith, low, two))

  -- ---- the root, and what is as it was

  index_same : (root_of_image new).inode_index ≡ (root_of_image old).inode_index
  index_same = ap (λ (x : Root). x.inode_index) next.root

  homes_same : (root_of_image new).homes ≡ (root_of_image old).homes
  homes_same = ap (λ (x : Root). x.homes) next.root

  layout_same : layout_in new ≡ layout_in old
  layout_same = ap (λ (x : Root). x.layout) next.root

  root : RootIsPlanned old new (fresh_machine g)
  root = record {
    there = next.there;
    fits = next.fits;
    layout = layout_same;
    point = ap (λ (x : Root). x.point) next.root ∙ ap (λ (x : Root). x.point + 1) fresh.root;
    records = ap (λ (x : Root). x.records) next.root ∙ ap (λ (x : Root). x.records) fresh.root;
    log_used = ap (λ (x : Root). x.log_used) next.root ∙ ap (λ (x : Root). x.log_used) fresh.root;
  }

  same : (b : ℕ) → 3 ≤ b → blocks_in new b ≡ blocks_in old b
  same b le = bytes_same old new b (next.others b le)

  from_area : (l : Layout) (b : ℕ) → is_in_area l b ≡ true → 3 ≤ b
  from_area l b inside = by (nat_le (area_start l) b) refl inside
    where
      by : (t : Bool) → nat_le (area_start l) b ≡ t → (t && nat_lt b l.blocks) ≡ true → 3 ≤ b
      by true is inside = let le : area_start l ≤ b = grind (arith, nat_tests) in omega (arith, le)
      by false is inside = cc

  behind : (b : ℕ) → IsLive old b → 3 ≤ b
  behind _ (home i lt) = omega arith
  behind _ (logged i lt) = omega arith
  behind _ (counted b inside some) = from_area (layout_in old) b inside

  live : LiveStays old new
  live b is = next.others b (behind b is)

  -- ---- inodes

  abbrev a : ℕ
  a = area_start g

  at_is : (root_of_image old).inode_index ≡ a + 1
  at_is = ap (λ (x : Root). x.inode_index) fresh.root

  planned : IsPlanned old old fresh_inode
  planned = (fresh_has_point g old fresh).1

  index_new : index_at (blocks_in new) (root_of_image new).inode_index ≡ index_at (blocks_in old) (root_of_image old).inode_index
  index_new = ap (index_at (blocks_in new)) (index_same ∙ at_is) ∙ (λ i. cond (a + 1 == 0) [] (take 1024 (words (same (a + 1) (omega arith) i)))) ∙ ap (index_at (blocks_in old)) (sym at_is)

  index_is : index_at (blocks_in old) (root_of_image old).inode_index ≡ a ∷ replicate 1023 0
  index_is =
      ap (index_at (blocks_in old)) at_is
      ∙ ap (λ (t : Bool). cond t [] (take 1024 (words (blocks_in old (a + 1))))) some_block
      ∙ ap (λ (bytes : List ℕ). take 1024 (words bytes)) fresh.index
      ∙ ap (take 1024) (words-index_bytes (a ∷ replicate 1023 0) (small_words (a ∷ replicate 1023 0) small))
    where
      some_block : (a + 1 == 0) ≡ false
      some_block = not_zero (area_start g + 1) (omega arith)
        where
          not_zero : (b : ℕ) → 1 ≤ b → (b == 0) ≡ false
          not_zero b le = grind (arith, nat_tests)

      high : g.blocks ≤ 65536
      high = subst (λ (l : Layout). l.blocks ≤ 65536) layout fresh.fits.geometry.valid.blocks_at_most

      zeros : (n k : ℕ) → get_or (replicate n 0) k 0 < 2 ^ 32
      zeros zero k = omega arith
      zeros (suc n) zero = omega arith
      zeros (suc n) (suc k) = zeros n k

      small : (k : ℕ) → get_or (a ∷ replicate 1023 0) k 0 < 2 ^ 32
      small zero = omega (arith, low, high)
      small (suc k) = zeros 1023 k

  stand_old : InodesStand (blocks_in old) fresh_inode 0 (a ∷ replicate 1023 0)
  stand_old = subst (InodesStand (blocks_in old) fresh_inode 0) index_is planned.spelled.inodes

  stand_new : InodesStand (blocks_in new) fresh_inode 0 (a ∷ replicate 1023 0)
  stand_new = (record { absent = stand_old.0.absent; spelled = λ e. ap (take 4096) (same a (omega arith)) ∙ stand_old.0.spelled e; some = stand_old.0.some }, zeros_move (blocks_in old) (blocks_in new) 1 1023 stand_old.1)

  before_is : (n : ℕ) → inode_before old n ≡ fresh_inode n
  before_is n = by (nat_lt n 65536) refl
    where
      above : (n : ℕ) → 65536 ≤ n → Unused ≡ fresh_inode n
      above n le = let apart : (n == 1) ≡ false = grind (arith, nat_tests) in sym (ap (λ (t : Bool). cond t (Directory 0 0 0) Unused) apart)

      by : (t : Bool) → nat_lt n 65536 ≡ t → inode_before old n ≡ fresh_inode n
      by true is = (inodes_are_seen old fresh_inode planned.spelled).1 n (lt_true n 65536 is)
      by false is = let le = lt_false n 65536 is in none_above old (inodes_are_seen old fresh_inode planned.spelled).0 n le ∙ above n le

  inodes : InodesArePlanned old new clean fresh_inode [] []
  inodes = record {
    kinds = kinds;
    spellings = planned.spelled.spellings;
    count = ap length index_new ∙ planned.spelled.count;
    blocks = subst (InodesStand (blocks_in new) fresh_inode 0) (sym (index_new ∙ index_is)) stand_new;
    balance = λ b. (λ i. times b (sym index_same i ∷ nonzero (sym index_new i)) + 0);
  }
    where
      as_told : (n : ℕ) → told (fresh_inode n) ≡ option_map info (as_node (fresh_inode n) (take (width_in (fresh_inode n)) (slots_seen (seen old) n)))
      as_told n = by_inode (λ x. told x ≡ option_map info (as_node x (take (width_in x) (slots_seen (seen old) n)))) refl refl n

      kinds : (n : ℕ) → told (fresh_inode n) ≡ option_map info (node_now old clean n)
      kinds n = as_told n ∙ sym (ap (option_map info) (clean_nodes old n ∙ (λ i. as_node (before_is n i) (take (width_in (before_is n i)) (slots_seen (seen old) n)))))

  -- ---- nodes

  tree : (n : ℕ) → TreeIsPlanned old new (inode_before old n) (fresh_inode n) 1048576 []
  tree n = record {
    map = λ place lt. no_place new n place ∙ sym (cut_none (nat_lt place 1048576) (block_of_place old (inode_before old n) place) ((λ i. block_of_place old (before_is n i) place) ∙ no_place old n place));
    full = by_inode (λ x. IsFull (blocks_in new) (indexes_below (blocks_in new) (height_in x) (pointer_of x))) tt tt n;
    below = by_inode (λ x. AllBelow (blocks_in_node x) (pairs_below (blocks_in new) (height_in x) (pointer_of x))) tt tt n;
  }
    where
      cut_none : (t : Bool) (b : ℕ) → b ≡ 0 → cond t b 0 ≡ 0
      cut_none true b is = is
      cut_none false b is = refl

  pointers : (n : ℕ) → PointersArePlanned old new n (inode_before old n) (fresh_inode n) [] [] []
  pointers n = record {
    balance = λ b. (λ i. times b (node_pointers old (before_is n i)) + 0) ∙ by_inode (λ x. times b (node_pointers old x) + 0 ≡ times b (node_pointers new x) + 0) refl refl n;
    metas = λ b. no_metas b n;
  }
    where
      no_metas : (b n : ℕ) → times b (node_metas new n (fresh_inode n)) ≤ times b (node_metas old n (inode_before old n)) + times b []
      no_metas b n = by_inode (λ x. times b (node_metas new n x) ≤ times b (node_metas old n (inode_before old n)) + times b []) (omega arith) (omega arith) n

  content : (n : ℕ) (x : Inode) → fresh_inode n ≡ x → ContentIsPlanned old new clean (fresh_machine g) [] n [] x
  content n Unused is = tt
  content n (File size height ptr) is = absurd (no_file n is)
    where
      no_file : (n : ℕ) → fresh_inode n ≡ File size height ptr → ⊥
      no_file n is = by_inode (λ x. x ≡ File size height ptr → ⊥) (λ e. cc) (λ e. cc) n is
  content n (Directory width height ptr) is = record { there = λ place lt. absurd (none place lt); kept = λ place lt. absurd (none place lt); fresh = λ place lt. absurd (none place lt) }
    where
      no_width : (n : ℕ) → width_in (fresh_inode n) ≡ 0
      no_width n = by_inode (λ x. width_in x ≡ 0) refl refl n

      no_slots : length (slots_now old clean n) ≡ 0
      no_slots = ap length (clean_slots old n ∙ ap (λ (w : ℕ). take w (slots_seen (seen old) n)) (ap width_in (before_is n) ∙ no_width n))

      none : (place : ℕ) → place < pages_for (length (slots_now old clean n)) → ⊥
      none place lt = omega (arith, lt, no_slots)

  nodes : (n : ℕ) → NodeIsPlanned old new clean (fresh_machine g) [] n (fresh_inode n) [] [] []
  nodes n = record { changes = []; tree = tree n; pointers = pointers n; content = content n (fresh_inode n) refl }

  -- ---- counts

  abbrev many : ℕ
  many = count_blocks g

  abbrev kept : List ℕ
  kept = counts_from (blocks_in old) (replicate 128 0) 0 many

  long : AreLong (blocks_in old) (replicate 128 0) 0 many
  long i le lt =
      ap (λ (bytes : List ℕ). length (words bytes)) (fresh.counts i (omega (arith, lt)))
      ∙ ap (λ (ps : List ℕ). length ps) (words-index_bytes (pointers_of (fresh_count g) (1024 * i) 1024) (small_words (pointers_of (fresh_count g) (1024 * i) 1024) (pointers_small (fresh_count g) (small_count g) (1024 * i) 1024)))
      ∙ pointers_long (fresh_count g) (1024 * i) 1024

  kept_is : (seen old).kept ≡ kept
  unfolding seen
  kept_is = λ i. counts_from (blocks_in old) (fresh.root i).homes 0 (count_blocks (fresh.root i).layout)

  counts : CountsArePlanned old new kept (of_all [] (λ n. [])) (of_all [] (λ n. []))
  counts = record {
    many = counts_long (blocks_in old) (replicate 128 0) 0 many long ∙ ap (λ (l : Layout). 1024 * count_blocks l) (sym (layout_same ∙ layout));
    stand = record { each = each };
    moved = λ b lt. ap (λ (ks : List ℕ). get_or ks b 0 + times b (of_all [] (λ n. []))) kept_is;
  }
    where
      homes_are : (root_of_image new).homes ≡ replicate 128 0
      homes_are = homes_same ∙ ap (λ (x : Root). x.homes) fresh.root

      each : (i : ℕ) → i < count_blocks (layout_in new) → words (blocks_in new (home_in (root_of_image new).homes i)) ≡ count_block kept i
      each i lt =
          let within : i < many = subst (λ (l : Layout). i < count_blocks l) (layout_same ∙ layout) lt in
          let place : 0 + i ≡ i = omega arith in
          ap (λ (hs : List ℕ). words (blocks_in new (home_in hs i))) homes_are
          ∙ ap words (same (home_in (replicate 128 0) i) (omega arith))
          ∙ sym (block_is (blocks_in old) (replicate 128 0) 0 many i long within ∙ ap (λ (j : ℕ). words (blocks_in old (home_in (replicate 128 0) j))) place)

  -- ---- all of it

  free : TakesFree old (taken_in [] (λ n. [])) []
  free = subst (λ (ns : List ℕ). TakesFree old ns []) (sym (none_taken (span 0 65536))) (record { free = λ b among. cc; once = λ b. omega arith })

  is_planned : IsPlannedFor r old new clean (fresh_machine g) (fresh_report r g)
  is_planned = record {
    root = root;
    live = live;
    inode = fresh_inode;
    inodes_added = [];
    inodes_dropped = [];
    added = λ n. [];
    dropped = λ n. [];
    taken = λ n. [];
    inodes = inodes;
    nodes = nodes;
    counts = kept;
    counted = counts;
    free = free;
    written = λ spot block staged found. cc;
  }

pub fresh_point_is_planned : FreshPointIsPlanned
fresh_point_is_planned r g old new positive fresh next = (may r g old new positive fresh next, is_planned r g old new positive fresh next)
