-- A directory that stands in its blocks is what is seen of it.
use Rattle.std.proofs.Common.{◌≡◌, ℕ, zero, suc, ◌+◌, ◌-◌, ◌*◌, ◌<◌, ◌≤◌, Bool, true, false, not, cond, List, [], ◌∷◌, ◌++◌, length, take, drop, replicate, map, Some, refl, sym, ap, subst, ◌∙◌, arith, append_assoc}
use Rattle.std.specs.Prelude.{◌==◌, ◌&&◌, ◌||◌, nat_eq, bytes_eq, count_by, slice_index_or, Option}
use Rattle.std.specs.List.{list_all, list_any, flat_map}
use Rattle.std.proofs.lemmas.Bool.{eqb-true, eq-eqb}
use Rattle.std.proofs.lemmas.Bool.Decides.{nat_tests}
use Rattle.std.proofs.lemmas.List.{drop_at, map-append, append-nil}
use Rattle.std.proofs.lemmas.List.Concat.{flat_map-cons}
use Rattle.vol_numbers.specs.declared.block.Block.{Block}
use Rattle.root_switch.specs.Current.{root_of_image}
use Rattle.block_format.specs.Inode.{blocks_of}
use Rattle.block_format.specs.Slot.{slot_in, slot_bytes}
use Rattle.block_format.specs.declared.inode.Inode.{Inode}
use Rattle.block_format.specs.declared.inode.Inode.TheVariants.{Unused, File, Directory}
use Rattle.block_format.specs.declared.slot.Slot.{Slot}
use Rattle.block_format.specs.declared.slot.Slot.TheVariants as slots
use Rattle.block_format.proofs.SlotLaws.{slot_in-bytes}
use Rattle.block_tree.specs.Tree.{Blocks, index_at, nonzero, block_in, block_below, pairs_below, indexes_below, blocks_in}
use Rattle.block_tree.proofs.Pairs.{pairs_are}
use Rattle.block_tree.proofs.Rise.{places_in, pairs_rise}
use Rattle.dir_slots.specs.Pages.{IsPage, pages_for}
use Rattle.dir_slots.specs.Slots.{IsDirectory, slot_at, is_used as is_entry, name_of, number_in, HasNamesOnce}
use Rattle.place_words.specs.Different.{is_among, Distinct, span}
use Rattle.place_words.specs.Rising.{Rising, AllUnder}
use Rattle.place_words.proofs.Rising.{rising_less}
use Rattle.tree_model.specs.Path.{name_eq}
use Rattle.image_model.specs.Spelling.{DirectoryIsSeen}
use Rattle.image_model.specs.Met.{Met, index, page, content, NoFaults}
use Rattle.image_model.specs.Nodes.{is_bad_directory, is_slot_spelled, is_empty, has_twin, is_entry_name, AllBelow, blocks_in_node}
use Rattle.image_model.specs.Planned.{node_trees}
use Rattle.image_model.specs.Seen.{SeenBlock, seen, all_held, page_held}
use Rattle.image_model.specs.Slots.{slot_pieces, slots_from, slots_of, inode_of}
use Rattle.image_model.specs.Standing.{DirectoryStands}
use Rattle.image_model.specs.Walk.{nodes_at}
use Rattle.image_model.proofs.FileLaws.{drop_twice}
use Rattle.image_model.proofs.NodePlaces.{numbers, numbers_distinct, held_append, no_pages, file_pages, directory_pairs, is_of, pages_at}
use Rattle.image_model.proofs.NodeWalk.{pairs_of_node, walk_good}
use Rattle.image_model.proofs.Paths.{same_name}
use Rattle.image_model.proofs.SlotTests.{slot_passes}
use Rattle.image_model.proofs.SpaceLaws.{below_at, under}

-- ---- the slots of a number

abbrev pub Pieces : Type 0
Pieces = List (Slot × List ℕ)

-- the slots of the blocks of these pairs
abbrev pub pieces_in : Blocks → List (ℕ × ℕ) → Pieces
pieces_in read pairs = flat_map (λ (e : ℕ × ℕ). slots_from 16 (read e.1)) pairs

pub pieces_append : (xs ys : List SeenBlock) (n : ℕ) → slot_pieces (xs ++ ys) n ≡ slot_pieces xs n ++ slot_pieces ys n
pieces_append [] ys n = refl
pieces_append (h ∷ hs) ys n = by (h.number == n) (pieces_append hs ys n)
  where
    by : (t : Bool) → slot_pieces (hs ++ ys) n ≡ slot_pieces hs n ++ slot_pieces ys n → cond t (slots_from 16 h.bytes) [] ++ slot_pieces (hs ++ ys) n ≡ (cond t (slots_from 16 h.bytes) [] ++ slot_pieces hs n) ++ slot_pieces ys n
    by true more = ap (λ (ps : Pieces). slots_from 16 h.bytes ++ ps) more ∙ sym (append_assoc (slots_from 16 h.bytes) (slot_pieces hs n) (slot_pieces ys n))
    by false more = more

module _ (read : Blocks) (n : ℕ) where
  abbrev pub pieces : List Met → Pieces
  pieces ms = slot_pieces (all_held (page_held read) ms) n

  own : (m : ℕ) → nat_eq m n ≡ true → (pairs : List (ℕ × ℕ)) → pieces (map (λ (e : ℕ × ℕ). page m e.0 e.1) pairs) ≡ pieces_in read pairs
  own m same [] = refl
  own m same (e ∷ es) = (λ i. cond (same i) (slots_from 16 (read e.1)) [] ++ own m same es i) ∙ sym (flat_map-cons (λ (e : ℕ × ℕ). slots_from 16 (read e.1)) e es)

  other : (m : ℕ) → nat_eq m n ≡ false → (pairs : List (ℕ × ℕ)) → pieces (map (λ (e : ℕ × ℕ). page m e.0 e.1) pairs) ≡ []
  other m apart [] = refl
  other m apart (e ∷ es) = λ i. cond (apart i) (slots_from 16 (read e.1)) [] ++ other m apart es i

  pub met_append : (xs ys : List Met) → pieces (xs ++ ys) ≡ pieces xs ++ pieces ys
  met_append xs ys = ap (λ (hs : List SeenBlock). slot_pieces hs n) (held_append (page_held read) xs ys) ∙ pieces_append (all_held (page_held read) xs) (all_held (page_held read) ys) n

  pub none_indexes : (bs : List ℕ) → pieces (map index bs) ≡ []
  none_indexes bs = ap (λ (hs : List SeenBlock). slot_pieces hs n) (no_pages read bs)

  none_contents : (m : ℕ) (pairs : List (ℕ × ℕ)) → pieces (map (λ (e : ℕ × ℕ). content m e.0 e.1) pairs) ≡ []
  none_contents m pairs = ap (λ (hs : List SeenBlock). slot_pieces hs n) (file_pages read m pairs)

  node_own : (node : ℕ × Inode) → nat_eq node.0 n ≡ true → pieces (node_trees read node) ≡ pieces_in read (directory_pairs read node.1)
  node_own (m, Unused) same = refl
  node_own (m, File size height ptr) same = met_append (map index (indexes_below read height ptr)) _ ∙ (λ i. none_indexes (indexes_below read height ptr) i ++ none_contents m (pairs_below read height ptr) i)
  node_own (m, Directory width height ptr) same = met_append (map index (indexes_below read height ptr)) _ ∙ (λ i. none_indexes (indexes_below read height ptr) i ++ own m same (pairs_below read height ptr) i)

  node_other : (node : ℕ × Inode) → nat_eq node.0 n ≡ false → pieces (node_trees read node) ≡ []
  node_other (m, Unused) apart = refl
  node_other (m, File size height ptr) apart = met_append (map index (indexes_below read height ptr)) _ ∙ (λ i. none_indexes (indexes_below read height ptr) i ++ none_contents m (pairs_below read height ptr) i)
  node_other (m, Directory width height ptr) apart = met_append (map index (indexes_below read height ptr)) _ ∙ (λ i. none_indexes (indexes_below read height ptr) i ++ other m apart (pairs_below read height ptr) i)

  or_parts : (a b : Bool) → (a || b) ≡ false → (a ≡ false) × (b ≡ false)
  or_parts true b e = cc
  or_parts false b e = (refl, e)

  nodes_none : (nodes : List (ℕ × Inode)) → is_among (numbers nodes) n ≡ false → pieces (flat_map (node_trees read) nodes) ≡ []
  nodes_none [] out = refl
  nodes_none (node ∷ nodes) out =
      let parts = or_parts (nat_eq node.0 n) (is_among (numbers nodes) n) out in
      ap pieces (flat_map-cons (node_trees read) node nodes) ∙ met_append (node_trees read node) (flat_map (node_trees read) nodes) ∙ (λ i. node_other node parts.0 i ++ nodes_none nodes parts.1 i)

  pub nodes_pieces : (nodes : List (ℕ × Inode)) → Distinct (numbers nodes) → pieces (flat_map (node_trees read) nodes) ≡ pieces_in read (directory_pairs read (inode_of nodes n))
  nodes_pieces [] distinct = refl
  nodes_pieces (node ∷ nodes) distinct =
      ap pieces (flat_map-cons (node_trees read) node nodes) ∙ met_append (node_trees read node) (flat_map (node_trees read) nodes) ∙ by (nat_eq node.0 n) refl (nodes_pieces nodes distinct.1)
    where
      by : (t : Bool) → nat_eq node.0 n ≡ t → pieces (flat_map (node_trees read) nodes) ≡ pieces_in read (directory_pairs read (inode_of nodes n))
          → pieces (node_trees read node) ++ pieces (flat_map (node_trees read) nodes) ≡ pieces_in read (directory_pairs read (cond t node.1 (inode_of nodes n)))
      by true is more =
          let e : node.0 ≡ n = grind (arith, nat_tests) in
          let out : is_among (numbers nodes) n ≡ false = subst (λ (k : ℕ). is_among (numbers nodes) k ≡ false) e distinct.0 in
          (λ i. node_own node is i ++ nodes_none nodes out i) ∙ append-nil _
      by false is more = (λ i. node_other node is i ++ more i)

-- ---- a directory without a hole

-- places with their blocks
abbrev pub placed : (ℕ → ℕ) → ℕ → ℕ × ℕ
placed block p = (p, block p)

-- rising pairs that have each place of a span are those of the span
pub full_pairs : (k n : ℕ) (pairs : List (ℕ × ℕ)) → Rising k (places_in pairs) → AllUnder (k + n) (places_in pairs) → ((p : ℕ) → k ≤ p → p < k + n → (block_in pairs p == 0) ≡ false)
    → pairs ≡ map (placed (block_in pairs)) (span k n)
full_pairs k zero [] rising lies there = refl
full_pairs k zero (e ∷ es) rising lies there = absurd (omega (arith, rising.0, lies.0))
full_pairs k (suc n) [] rising lies there = absurd (none (there k (omega arith) (omega arith)))
  where
    none : (0 == 0) ≡ false → ⊥
    none e = cc
full_pairs k (suc n) (e ∷ es) rising lies there = by (e.0 == k) refl
    (full_pairs (k + 1) n es (rising_less (k + 1) (e.0 + 1) (omega (arith, rising.0)) (places_in es) rising.1) (subst (λ (m : ℕ). AllUnder m (places_in es)) (omega arith) lies.1))
  where
    none_below : (m q : ℕ) → q < m → (ps : List (ℕ × ℕ)) → Rising m (places_in ps) → block_in ps q ≡ 0
    none_below m q lt [] rise = refl
    none_below m q lt (x ∷ xs) rise =
        let le = rise.0 in
        let apart : (x.0 == q) ≡ false = grind (arith, nat_tests) in
        ap (λ (t : Bool). cond t x.1 (block_in xs q)) apart ∙ none_below (x.0 + 1) q (omega (arith, lt, le)) xs rise.1

    later : (p : ℕ) → k + 1 ≤ p → e.0 ≡ k → block_in (e ∷ es) p ≡ block_in es p
    later p le first = let apart : (e.0 == p) ≡ false = grind (arith, nat_tests) in ap (λ (t : Bool). cond t e.1 (block_in es p)) apart

    map_same : (m j : ℕ) → k + 1 ≤ m → e.0 ≡ k → map (placed (block_in es)) (span m j) ≡ map (placed (block_in (e ∷ es))) (span m j)
    map_same m zero le first = refl
    map_same m (suc j) le first = λ i. (m, sym (later m le first) i) ∷ map_same (m + 1) j (omega (arith, le)) first i

    by : (t : Bool) → (e.0 == k) ≡ t → (((p : ℕ) → k + 1 ≤ p → p < (k + 1) + n → (block_in es p == 0) ≡ false) → es ≡ map (placed (block_in es)) (span (k + 1) n))
        → e ∷ es ≡ map (placed (block_in (e ∷ es))) (span k (suc n))
    by true is more =
        let first : e.0 ≡ k = eqb-true e.0 k is in
        let rest = more (λ p le lt. sym (ap (λ (b : ℕ). b == 0) (later p le first)) ∙ there p (omega (arith, le)) (omega (arith, lt))) in
        let here : block_in (e ∷ es) k ≡ e.1 = ap (λ (t : Bool). cond t e.1 (block_in es k)) is in
        λ i. (first i, sym here i) ∷ (rest ∙ map_same (k + 1) n (omega arith) first) i
    by false is more =
        let above : k + 1 ≤ e.0 = let le = rising.0 in grind (arith, nat_tests) in
        let nothing : block_in (e ∷ es) k ≡ 0 = ap (λ (t : Bool). cond t e.1 (block_in es k)) is ∙ none_below (e.0 + 1) k (omega (arith, above)) es rising.1 in
        let some = there k (omega arith) (omega arith) in
        absurd (let e : (block_in (e ∷ es) k == 0) ≡ true = ap (λ (b : ℕ). b == 0) nothing in cc)

-- ---- slots that are spelled

module _ (ss : List Slot) (directory : IsDirectory ss) where
  -- the slot of a place, with its spelling
  abbrev spelled : ℕ → Slot × List ℕ
  spelled i = (slot_at ss i, slot_bytes (slot_at ss i))

  page_slots : (place j k : ℕ) (bytes : List ℕ) → j + k ≤ 16 → IsPage ss place bytes → slots_from k (drop (256 * j) bytes) ≡ map spelled (span (16 * place + j) k)
  unfolding slots_from
  page_slots place j zero bytes le is = refl
  page_slots place j (suc k) bytes le is =
      let width : 256 * j + 256 - 256 * j ≡ 256 = omega arith in
      let part : take 256 (drop (256 * j) bytes) ≡ slot_bytes (slot_at ss (16 * place + j)) = ap (λ (w : ℕ). take w (drop (256 * j) bytes)) (sym width) ∙ is j (omega (arith, le)) in
      let back = slot_in-bytes (slot_at ss (16 * place + j)) (directory.fits (16 * place + j)) in
      let next : 256 * j + 256 ≡ 256 * (j + 1) = omega arith in
      let place_next : 16 * place + (j + 1) ≡ 16 * place + j + 1 = omega arith in
      let more = page_slots place (j + 1) k bytes (omega (arith, le)) is in
      (λ i. (slot_in (part i), part i) ∷ slots_from k (drop_twice (256 * j) 256 bytes i))
      ∙ (λ i. (back i, slot_bytes (slot_at ss (16 * place + j))) ∷ (ap (λ (d : ℕ). slots_from k (drop d bytes)) next ∙ more ∙ ap (λ (m : ℕ). map spelled (span m k)) place_next) i)

  span_split : (k m n : ℕ) → span k (m + n) ≡ span k m ++ span (k + m) n
  span_split k zero n = (let e : zero + n ≡ n = omega arith in let z : k + zero ≡ k = omega arith in λ i. span (sym z i) (e i))
  span_split k (suc m) n =
      let e : suc m + n ≡ suc (m + n) = omega arith in
      let z : (k + 1) + m ≡ k + suc m = omega arith in
      ap (span k) e ∙ ap (λ (xs : List ℕ). k ∷ xs) (span_split (k + 1) m n ∙ ap (λ (j : ℕ). span (k + 1) m ++ span j n) z)

  module _ (read : Blocks) (block : ℕ → ℕ) (pages : ℕ) (stand : (place : ℕ) → place < pages → IsPage ss place (read (block place))) where
    all_slots : (place n : ℕ) → place + n ≤ pages → pieces_in read (map (placed block) (span place n)) ≡ map spelled (span (16 * place) (16 * n))
    all_slots place zero le = refl
    all_slots place (suc n) le =
        let here : slots_from 16 (read (block place)) ≡ map spelled (span (16 * place + 0) 16) = page_slots place 0 16 (read (block place)) (omega arith) (stand place (omega (arith, le))) in
        let start : 16 * place + 0 ≡ 16 * place = omega arith in
        let next : 16 * (place + 1) ≡ 16 * place + 16 = omega arith in
        let whole : 16 + 16 * n ≡ 16 * suc n = omega arith in
        flat_map-cons (λ (e : ℕ × ℕ). slots_from 16 (read e.1)) (place, block place) (map (placed block) (span (place + 1) n))
        ∙ (λ i. here i ++ all_slots (place + 1) n (omega (arith, le)) i)
        ∙ (λ i. map spelled (span (start i) 16) ++ map spelled (span (next i) (16 * n)))
        ∙ sym (map-append spelled (span (16 * place) 16) (span (16 * place + 16) (16 * n)))
        ∙ ap (map spelled) (sym (span_split (16 * place) 16 (16 * n)) ∙ ap (span (16 * place)) whole)

  all_good : (k n : ℕ) → list_all (λ (p : Slot × List ℕ). is_slot_spelled p.0 p.1) (map spelled (span k n)) ≡ true
  all_good k zero = refl
  all_good k (suc n) = ap (λ (t : Bool). t && list_all (λ (p : Slot × List ℕ). is_slot_spelled p.0 p.1) (map spelled (span (k + 1) n))) (slot_passes (slot_at ss k) (directory.fits k)) ∙ all_good (k + 1) n

-- slots by their places, from one on, are these slots and unused ones
slots_between : (at : ℕ → Slot) (k : ℕ) (ss : List Slot) (m : ℕ) → ((i : ℕ) → at (k + i) ≡ slice_index_or ss i slots.Unused) → map at (span k (length ss + m)) ≡ ss ++ replicate m slots.Unused
slots_between at k [] zero is = refl
slots_between at k [] (suc m) is =
    let e : length {A = Slot} [] + suc m ≡ suc (0 + m) = omega arith in
    let z : k + 0 ≡ k = omega arith in
    ap (λ (j : ℕ). map at (span k j)) e ∙ (λ i. (sym (ap at z) ∙ is 0) i ∷ slots_between at (k + 1) [] m (λ j. let s : (k + 1) + j ≡ k + suc j = omega arith in ap at s ∙ is (suc j)) i)
slots_between at k (x ∷ ss) m is =
    let e : length (x ∷ ss) + m ≡ suc (length ss + m) = omega arith in
    let z : k + 0 ≡ k = omega arith in
    ap (λ (j : ℕ). map at (span k j)) e ∙ (λ i. (sym (ap at z) ∙ is 0) i ∷ slots_between at (k + 1) ss m (λ j. let s : (k + 1) + j ≡ k + suc j = omega arith in ap at s ∙ is (suc j)) i)

-- ---- names

none_entries : (m : ℕ) (x : List ℕ) → list_any (is_entry_name x) (replicate m slots.Unused) ≡ false
none_entries zero x = refl
none_entries (suc m) x = none_entries m x

no_name : (ss : List Slot) (m : ℕ) (x : List ℕ) → ((i : ℕ) → is_entry (slot_at ss i) ≡ true → name_of (slot_at ss i) ≡ x → ⊥) → list_any (is_entry_name x) (ss ++ replicate m slots.Unused) ≡ false
no_name [] m x never = none_entries m x
no_name (slots.Unused ∷ ss) m x never = no_name ss m x (λ i. never (suc i))
no_name (slots.Entry number name ∷ ss) m x never = by (name_eq x name) refl (no_name ss m x (λ i. never (suc i)))
  where
    by : (t : Bool) → name_eq x name ≡ t → list_any (is_entry_name x) (ss ++ replicate m slots.Unused) ≡ false → (t || list_any (is_entry_name x) (ss ++ replicate m slots.Unused)) ≡ false
    by true is more = absurd (never 0 refl (sym (same_name x name is)))
    by false is more = more

pub no_twin : (ss : List Slot) (m : ℕ) → HasNamesOnce ss → has_twin (ss ++ replicate m slots.Unused) ≡ false
no_twin [] zero once = refl
no_twin [] (suc m) once = no_twin [] m once
no_twin (slots.Unused ∷ ss) m once = no_twin ss m (λ i j a b e. let s : suc i ≡ suc j = once (suc i) (suc j) a b e in omega (arith, s))
no_twin (slots.Entry number name ∷ ss) m once =
    (λ i. no_name ss m name (λ i used is. let s : zero ≡ suc i = once zero (suc i) refl used (sym is) in absurd (omega (arith, s))) i || has_twin (ss ++ replicate m slots.Unused))
    ∙ no_twin ss m (λ i j a b e. let s : suc i ≡ suc j = once (suc i) (suc j) a b e in omega (arith, s))

pub numbers_same : (ss : List Slot) (m : ℕ) (name : List ℕ) → number_in (ss ++ replicate m slots.Unused) name ≡ number_in ss name
numbers_same [] zero name = refl
numbers_same [] (suc m) name = numbers_same [] m name
numbers_same (slots.Unused ∷ ss) m name = numbers_same ss m name
numbers_same (slots.Entry number other ∷ ss) m name = ap (λ (o : Option ℕ). cond (bytes_eq other name) (Some number) o) (numbers_same ss m name)

pub all_empty : (m : ℕ) → list_all is_empty (replicate m slots.Unused) ≡ true
all_empty zero = refl
all_empty (suc m) = all_empty m

-- ---- the law

module _ (image : List Block) (n : ℕ) (ss : List Slot) (height ptr : ℕ) (none : NoFaults (seen image).met) (is : inode_of (seen image).nodes n ≡ Directory (length ss) height ptr)
    (stands : DirectoryStands (blocks_in image) ss height ptr) where
  abbrev read : Blocks
  read = blocks_in image

  abbrev at : ℕ
  at = (root_of_image image).inode_index

  abbrev pages : ℕ
  pages = pages_for (length ss)

  abbrev pairs : List (ℕ × ℕ)
  pairs = pairs_below read height ptr

  blocks : blocks_of (256 * length ss) ≡ pages
  blocks = omega arith

  in_pairs : (place : ℕ) → block_in pairs place ≡ block_below read height ptr place
  in_pairs place = pairs_are read height ptr place

  pairs_full : pairs ≡ map (placed (block_in pairs)) (span 0 pages)
  unfolding seen
  pairs_full =
      let met = walk_good read at none in
      let below : AllBelow (blocks_of (256 * length ss)) pairs = subst (λ (x : Inode). AllBelow (blocks_in_node x) (pairs_of_node read x)) is (below_at read (nodes_at read at) met.nodes n) in
      full_pairs 0 pages pairs (pairs_rise read height ptr) (under pages pairs (subst (λ (b : ℕ). AllBelow b pairs) blocks below))
      (λ p le lt. ap (λ (b : ℕ). b == 0) (in_pairs p) ∙ stands.there p (omega (arith, lt)))

  pieces_are : slot_pieces (seen image).pages n ≡ map (spelled ss stands.directory) (span 0 (16 * pages))
  unfolding seen
  pieces_are =
      ap (pieces read n) (walk_good read at none).is
      ∙ met_append read n (map index (nonzero (index_at read at))) (flat_map (node_trees read) (nodes_at read at))
      ∙ (λ i. none_indexes read n (nonzero (index_at read at)) i ++ nodes_pieces read n (nodes_at read at) (numbers_distinct read at) i)
      ∙ ap (λ (x : Inode). pieces_in read (directory_pairs read x)) is
      ∙ ap (pieces_in read) pairs_full
      ∙ all_slots ss stands.directory read (block_in pairs) pages (λ place lt. subst (λ (b : ℕ). IsPage ss place (read b)) (sym (in_pairs place)) (stands.spelled place lt)) 0 pages (omega arith)

  pub slots_are : slots_of (seen image) n ≡ ss ++ replicate (16 * pages - length ss) slots.Unused
  slots_are =
      let whole : length ss + (16 * pages - length ss) ≡ 16 * pages = omega arith in
      ap (map (λ (p : Slot × List ℕ). p.0)) pieces_are
      ∙ firsts 0 (16 * pages)
      ∙ ap (λ (k : ℕ). map (slot_at ss) (span 0 k)) (sym whole)
      ∙ slots_between (slot_at ss) 0 ss (16 * pages - length ss) (λ i. let e : 0 + i ≡ i = omega arith in ap (slot_at ss) e)
    where
      firsts : (k m : ℕ) → map (λ (p : Slot × List ℕ). p.0) (map (spelled ss stands.directory) (span k m)) ≡ map (slot_at ss) (span k m)
      firsts k zero = refl
      firsts k (suc m) = ap (λ (xs : List Slot). slot_at ss k ∷ xs) (firsts (k + 1) m)

  pages_counted : count_by (is_of n) (seen image).pages ≡ blocks_of (256 * length ss)
  unfolding seen
  pages_counted =
      ap (λ (ms : List Met). count_by (is_of n) (all_held (page_held read) ms)) (walk_good read at none).is ∙ skip (nonzero (index_at read at))
      ∙ pages_at read n (nodes_at read at) (numbers_distinct read at) ∙ ap (λ (x : Inode). length (directory_pairs read x)) is ∙ ap (λ (es : List (ℕ × ℕ)). length es) pairs_full ∙ long 0 pages ∙ sym blocks
    where
      skip : (bs : List ℕ) → count_by (is_of n) (all_held (page_held read) (map index bs ++ flat_map (node_trees read) (nodes_at read at))) ≡ count_by (is_of n) (all_held (page_held read) (flat_map (node_trees read) (nodes_at read at)))
      skip [] = refl
      skip (b ∷ bs) = skip bs

      long : (k m : ℕ) → length (map (placed (block_in pairs)) (span k m)) ≡ m
      long k zero = refl
      long k (suc m) = ap suc (long (k + 1) m)

  pub fine : is_bad_directory (seen image) (n, Directory (length ss) height ptr) ≡ false
  fine =
      none_of _ _ _ _ (ap not (eq-eqb _ _ pages_counted))
      (ap not (ap (list_all (λ (p : Slot × List ℕ). is_slot_spelled p.0 p.1)) pieces_are ∙ all_good ss stands.directory 0 (16 * pages)))
      (ap not (ap (λ (xs : List Slot). list_all is_empty (drop (length ss) xs)) slots_are ∙ ap (list_all is_empty) (drop_at ss _ (length ss) refl) ∙ all_empty (16 * pages - length ss)))
      (ap has_twin slots_are ∙ no_twin ss (16 * pages - length ss) stands.directory.names)
    where
      none_of : (a b c d : Bool) → a ≡ false → b ≡ false → c ≡ false → d ≡ false → (((a || b) || c) || d) ≡ false
      none_of true b c d e f g h = cc
      none_of false true c d e f g h = cc
      none_of false false true d e f g h = cc
      none_of false false false d e f g h = h

pub directory_is_seen : DirectoryIsSeen
directory_is_seen image n ss height ptr none is stands =
    (fine image n ss height ptr none is stands, λ name. ap (λ (xs : List Slot). number_in xs name) (slots_are image n ss height ptr none is stands) ∙ numbers_same ss (16 * pages_for (length ss) - length ss) name)
