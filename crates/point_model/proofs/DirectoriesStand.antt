-- The pages of the directories of an image that stands for something.
use Rattle.std.proofs.Common.{◌≡◌, ℕ, zero, suc, ◌+◌, ◌-◌, ◌*◌, ◌<◌, ◌≤◌, Bool, true, false, not, cond, List, [], ◌∷◌, ◌++◌, map, length, take, drop, refl, sym, ap, subst, ◌∙◌, arith, append_assoc}
use Rattle.std.specs.Prelude.{◌==◌, ◌&&◌, ◌||◌, nat_eq, bytes_eq, count_by, Contains}
use Rattle.std.specs.List.{flat_map, list_all, AllByRecursion}
use Rattle.std.proofs.lemmas.Bool.{eqb-true}
use Rattle.std.proofs.lemmas.Bool.Decides.{nat_tests}
use Rattle.std.proofs.lemmas.List.{append-nil, length-take}
use Rattle.std.proofs.lemmas.List.Concat.{flat_map-cons}
use Rattle.std.proofs.lemmas.Slice.Eq.{bytes_eq-Decides}
use Rattle.vol_numbers.specs.declared.block.Block.{Block}
use Rattle.root_switch.specs.Current.{root_of_image}
use Rattle.block_format.specs.Inode.{blocks_of}
use Rattle.block_format.specs.Slot.{slot_in, slot_part, slot_bytes}
use Rattle.block_format.specs.declared.inode.Inode.{Inode}
use Rattle.block_format.specs.declared.inode.Inode.TheVariants.{Unused, File, Directory}
use Rattle.block_format.specs.declared.slot.Slot.{Slot}
use Rattle.block_format.specs.declared.slot.Slot.TheVariants as slots
use Rattle.block_tree.specs.Tree.{Blocks, blocks_in, block_in, block_below, index_at, nonzero, pairs_from, leaves_pairs, pairs_below, indexes_below}
use Rattle.block_tree.proofs.Pairs.{pairs_are}
use Rattle.block_tree.proofs.Rise.{places_in, pairs_rise}
use Rattle.dir_slots.specs.Pages.{pages_for}
use Rattle.dir_slots.specs.Slots.{slot_at}
use Rattle.image_model.specs.Met.{Met, index, page, content, NoFaults}
use Rattle.image_model.specs.Nodes.{AllBelow, blocks_in_node, is_bad_directory, is_slot_spelled, is_empty}
use Rattle.image_model.specs.Planned.{node_trees}
use Rattle.image_model.specs.Seen.{SeenBlock, seen, all_held, page_held}
use Rattle.image_model.specs.Slots.{inode_of, slot_pieces, slots_from, slots_of}
use Rattle.image_model.specs.Sound.{IsSound}
use Rattle.image_model.specs.Stands.{layout_in}
use Rattle.image_model.specs.Walk.{is_used, nodes_at}
use Rattle.image_model.proofs.Area.{no_faults as none_found}
use Rattle.image_model.proofs.FileLaws.{drop_twice}
use Rattle.image_model.proofs.NodePlaces.{numbers, numbers_distinct, held_append, no_pages, file_pages, pages_at, directory_pairs, is_of}
use Rattle.image_model.proofs.NodeWalk.{pairs_of_node, walk_good}
use Rattle.image_model.proofs.SpaceLaws.{below_at, node_there}
use Rattle.place_words.proofs.Rising.{rising_full}
use Rattle.place_words.specs.Different.{is_among, span, Distinct}
use Rattle.place_words.specs.Rising.{AllUnder}
use Rattle.point_model.specs.OldPages.{PagesStand, DirectoriesStand}
use Rattle.point_model.proofs.Spelled.{lt_true}

-- the slots of the blocks of these pairs
abbrev pieces_in : Blocks → List (ℕ × ℕ) → List (Slot × List ℕ)
pieces_in read pairs = flat_map (λ (e : ℕ × ℕ). slots_from 16 (read e.1)) pairs

pieces_append : (xs ys : List SeenBlock) (n : ℕ) → slot_pieces (xs ++ ys) n ≡ slot_pieces xs n ++ slot_pieces ys n
pieces_append [] ys n = refl
pieces_append (h ∷ hs) ys n = by (h.number == n) (pieces_append hs ys n)
  where
    by : (t : Bool) → slot_pieces (hs ++ ys) n ≡ slot_pieces hs n ++ slot_pieces ys n → cond t (slots_from 16 h.bytes) [] ++ slot_pieces (hs ++ ys) n ≡ (cond t (slots_from 16 h.bytes) [] ++ slot_pieces hs n) ++ slot_pieces ys n
    by true more = ap (λ (ps : List (Slot × List ℕ)). slots_from 16 h.bytes ++ ps) more ∙ sym (append_assoc (slots_from 16 h.bytes) (slot_pieces hs n) (slot_pieces ys n))
    by false more = more

module _ (read : Blocks) (n : ℕ) where
  abbrev pieces : List Met → List (Slot × List ℕ)
  pieces ms = slot_pieces (all_held (page_held read) ms) n

  own : (m : ℕ) → nat_eq m n ≡ true → (pairs : List (ℕ × ℕ)) → pieces (map (λ (e : ℕ × ℕ). page m e.0 e.1) pairs) ≡ pieces_in read pairs
  own m same [] = refl
  own m same (e ∷ es) = (λ i. cond (same i) (slots_from 16 (read e.1)) [] ++ own m same es i) ∙ sym (flat_map-cons (λ (e : ℕ × ℕ). slots_from 16 (read e.1)) e es)

  other : (m : ℕ) → nat_eq m n ≡ false → (pairs : List (ℕ × ℕ)) → pieces (map (λ (e : ℕ × ℕ). page m e.0 e.1) pairs) ≡ []
  other m apart [] = refl
  other m apart (e ∷ es) = λ i. cond (apart i) (slots_from 16 (read e.1)) [] ++ other m apart es i

  met_append : (xs ys : List Met) → pieces (xs ++ ys) ≡ pieces xs ++ pieces ys
  met_append xs ys = ap (λ (hs : List SeenBlock). slot_pieces hs n) (held_append (page_held read) xs ys) ∙ pieces_append (all_held (page_held read) xs) (all_held (page_held read) ys) n

  none_indexes : (bs : List ℕ) → pieces (map index bs) ≡ []
  none_indexes bs = ap (λ (hs : List SeenBlock). slot_pieces hs n) (no_pages read bs)

  none_contents : (m : ℕ) (pairs : List (ℕ × ℕ)) → pieces (map (λ (e : ℕ × ℕ). content m e.0 e.1) pairs) ≡ []
  none_contents m pairs = ap (λ (hs : List SeenBlock). slot_pieces hs n) (file_pages read m pairs)

  node_own : (node : ℕ × Inode) → nat_eq node.0 n ≡ true → pieces (node_trees read node) ≡ pieces_in read (directory_pairs read node.1)
  node_own (m, Unused) same = refl
  node_own (m, File size height ptr) same = met_append (map index (indexes_below read height ptr)) _ ∙ (λ i. none_indexes (indexes_below read height ptr) i ++ none_contents m (pairs_below read height ptr) i)
  node_own (m, Directory width height ptr) same = met_append (map index (indexes_below read height ptr)) _ ∙ (λ i. none_indexes (indexes_below read height ptr) i ++ own m same (pairs_below read height ptr) i)

  node_other : (node : ℕ × Inode) → nat_eq node.0 n ≡ false → pieces (node_trees read node) ≡ []
  node_other (m, Unused) apart = refl
  node_other (m, File size height ptr) apart = met_append (map index (indexes_below read height ptr)) _ ∙ (λ i. none_indexes (indexes_below read height ptr) i ++ none_contents m (pairs_below read height ptr) i)
  node_other (m, Directory width height ptr) apart = met_append (map index (indexes_below read height ptr)) _ ∙ (λ i. none_indexes (indexes_below read height ptr) i ++ other m apart (pairs_below read height ptr) i)

  or_parts : (a b : Bool) → (a || b) ≡ false → (a ≡ false) × (b ≡ false)
  or_parts true b e = cc
  or_parts false b e = (refl, e)

  nodes_none : (nodes : List (ℕ × Inode)) → is_among (numbers nodes) n ≡ false → pieces (flat_map (node_trees read) nodes) ≡ []
  nodes_none [] out = refl
  nodes_none (node ∷ nodes) out =
      let parts = or_parts (nat_eq node.0 n) (is_among (numbers nodes) n) out in
      ap pieces (flat_map-cons (node_trees read) node nodes) ∙ met_append (node_trees read node) (flat_map (node_trees read) nodes) ∙ (λ i. node_other node parts.0 i ++ nodes_none nodes parts.1 i)

  nodes_pieces : (nodes : List (ℕ × Inode)) → Distinct (numbers nodes) → pieces (flat_map (node_trees read) nodes) ≡ pieces_in read (directory_pairs read (inode_of nodes n))
  nodes_pieces [] distinct = refl
  nodes_pieces (node ∷ nodes) distinct =
      ap pieces (flat_map-cons (node_trees read) node nodes) ∙ met_append (node_trees read node) (flat_map (node_trees read) nodes) ∙ by (nat_eq node.0 n) refl (nodes_pieces nodes distinct.1)
    where
      by : (t : Bool) → nat_eq node.0 n ≡ t → pieces (flat_map (node_trees read) nodes) ≡ pieces_in read (directory_pairs read (inode_of nodes n))
          → pieces (node_trees read node) ++ pieces (flat_map (node_trees read) nodes) ≡ pieces_in read (directory_pairs read (cond t node.1 (inode_of nodes n)))
      by true is more =
          let e : node.0 ≡ n = grind (arith, nat_tests) in
          let out : is_among (numbers nodes) n ≡ false = subst (λ (k : ℕ). is_among (numbers nodes) k ≡ false) e distinct.0 in
          (λ i. node_own node is i ++ nodes_none nodes out i) ∙ append-nil _
      by false is more = (λ i. node_other node is i ++ more i)

-- ---- slots in a page

-- whether each slot is spelled
abbrev all_spelled : List (Slot × List ℕ) → Bool
all_spelled ps = list_all (λ p. is_slot_spelled p.0 p.1) ps

abbrev firsts : List (Slot × List ℕ) → List Slot
firsts ps = map (λ p. p.0) ps

bytes_are : (xs ys : List ℕ) → bytes_eq xs ys ≡ true → xs ≡ ys
bytes_are xs ys e = grind (arith, bytes_eq-Decides)

spelled_bytes : (s : Slot) (bytes : List ℕ) → is_slot_spelled s bytes ≡ true → slot_bytes s ≡ bytes
spelled_bytes slots.Unused bytes e = bytes_are (slot_bytes slots.Unused) bytes e
spelled_bytes (slots.Entry number name) bytes e = bytes_are (slot_bytes (slots.Entry number name)) bytes (last_of _ _ e)
  where
    last_of : (a b : Bool) → (a && b) ≡ true → b ≡ true
    last_of true b e = e
    last_of false b e = cc

first_true : (a b : Bool) → (a && b) ≡ true → a ≡ true
first_true true b e = refl
first_true false b e = cc

second_true : (a b : Bool) → (a && b) ≡ true → b ≡ true
second_true true b e = e
second_true false b e = cc

-- a slot of a page, by its bytes
in_page : (m j : ℕ) (bytes : List ℕ) (rest : List (Slot × List ℕ)) → j < m → all_spelled (slots_from m bytes ++ rest) ≡ true
    → take 256 (drop (256 * j) bytes) ≡ slot_bytes (slot_at (firsts (slots_from m bytes ++ rest)) j)
unfolding slots_from
in_page zero j bytes rest lt all = absurd (omega (arith, lt))
in_page (suc m) zero bytes rest lt all = let e : 256 * zero ≡ zero = omega arith in ap (λ (k : ℕ). take 256 (drop k bytes)) e ∙ sym (spelled_bytes (slot_in (take 256 bytes)) (take 256 bytes) (first_true _ _ all))
in_page (suc m) (suc j) bytes rest lt all =
    let e : 256 * suc j ≡ 256 + 256 * j = omega arith in
    ap (λ (k : ℕ). take 256 (drop k bytes)) e ∙ ap (take 256) (sym (drop_twice 256 (256 * j) bytes)) ∙ in_page m j (drop 256 bytes) rest (omega (arith, lt)) (second_true _ _ all)

-- the slots behind a page
past_page : (m i : ℕ) (bytes : List ℕ) (rest : List (Slot × List ℕ)) → slot_at (firsts (slots_from m bytes ++ rest)) (m + i) ≡ slot_at (firsts rest) i
unfolding slots_from
past_page zero i bytes rest = let e : zero + i ≡ i = omega arith in ap (slot_at (firsts rest)) e
past_page (suc m) i bytes rest = let e : suc m + i ≡ suc (m + i) = omega arith in ap (slot_at (firsts (slots_from (suc m) bytes ++ rest))) e ∙ past_page m i (drop 256 bytes) rest

rest_spelled : (m : ℕ) (bytes : List ℕ) (rest : List (Slot × List ℕ)) → all_spelled (slots_from m bytes ++ rest) ≡ true → all_spelled rest ≡ true
unfolding slots_from
rest_spelled zero bytes rest all = all
rest_spelled (suc m) bytes rest all = rest_spelled m (drop 256 bytes) rest (second_true _ _ all)

-- each page of pairs whose places go on from one
each_page : (read : Blocks) (pairs : List (ℕ × ℕ)) (first k j : ℕ) → places_in pairs ≡ span first (length pairs) → k < length pairs → j < 16 → all_spelled (pieces_in read pairs) ≡ true
    → take 256 (drop (256 * j) (read (block_in pairs (first + k)))) ≡ slot_bytes (slot_at (firsts (pieces_in read pairs)) (16 * k + j))
each_page read [] first k j places lt less all = absurd (omega (arith, lt))
each_page read (e ∷ es) first k j places lt less all = by k (places_step e es first places) lt (λ k rest lt. each_page read es (first + 1) k j rest lt less (rest_spelled 16 (read e.1) (pieces_in read es) whole))
  where
    split : pieces_in read (e ∷ es) ≡ slots_from 16 (read e.1) ++ pieces_in read es
    split = flat_map-cons (λ (e : ℕ × ℕ). slots_from 16 (read e.1)) e es

    whole : all_spelled (slots_from 16 (read e.1) ++ pieces_in read es) ≡ true
    whole = subst (λ (ps : List (Slot × List ℕ)). all_spelled ps ≡ true) split all

    places_step : (e : ℕ × ℕ) (es : List (ℕ × ℕ)) (first : ℕ) → places_in (e ∷ es) ≡ span first (length (e ∷ es)) → (e.0 ≡ first) × (places_in es ≡ span (first + 1) (length es))
    places_step e es first is = cons_parts e.0 first (places_in es) (span (first + 1) (length es)) is
      where
        cons_parts : (x y : ℕ) (xs ys : List ℕ) → x ∷ xs ≡ y ∷ ys → (x ≡ y) × (xs ≡ ys)
        cons_parts x y xs ys is = ((let a : x ≡ y = cc in a), (let b : xs ≡ ys = cc in b))

    itself : (a b : ℕ) → a ≡ b → (a == b) ≡ true
    itself a b e = grind (arith, nat_tests)

    differ : (a b : ℕ) → a < b → (a == b) ≡ false
    differ a b lt = grind (arith, nat_tests)

    by : (k : ℕ) → (e.0 ≡ first) × (places_in es ≡ span (first + 1) (length es)) → k < length (e ∷ es)
        → ((k : ℕ) → places_in es ≡ span (first + 1) (length es) → k < length es → take 256 (drop (256 * j) (read (block_in es ((first + 1) + k)))) ≡ slot_bytes (slot_at (firsts (pieces_in read es)) (16 * k + j)))
        → take 256 (drop (256 * j) (read (block_in (e ∷ es) (first + k)))) ≡ slot_bytes (slot_at (firsts (pieces_in read (e ∷ es))) (16 * k + j))
    by zero parts lt more =
        let here : block_in (e ∷ es) (first + zero) ≡ e.1 = ap (λ (t : Bool). cond t e.1 (block_in es (first + zero))) (itself e.0 (first + zero) (omega (arith, parts.0))) in
        let at : j ≡ 16 * zero + j = omega arith in
        ap (λ (b : ℕ). take 256 (drop (256 * j) (read b))) here ∙ in_page 16 j (read e.1) (pieces_in read es) less whole ∙ ap (λ (ps : List (Slot × List ℕ)). slot_bytes (slot_at (firsts ps) j)) (sym split)
        ∙ ap (λ (i : ℕ). slot_bytes (slot_at (firsts (pieces_in read (e ∷ es))) i)) at
    by (suc k) parts lt more =
        let there : block_in (e ∷ es) (first + suc k) ≡ block_in es (first + suc k) = ap (λ (t : Bool). cond t e.1 (block_in es (first + suc k))) (differ e.0 (first + suc k) (omega (arith, parts.0))) in
        let on : first + suc k ≡ (first + 1) + k = omega arith in
        let at : 16 * suc k + j ≡ 16 + (16 * k + j) = omega arith in
        ap (λ (b : ℕ). take 256 (drop (256 * j) (read b))) (there ∙ ap (block_in es) on) ∙ more k parts.1 (omega (arith, lt))
        ∙ ap slot_bytes (sym (past_page 16 (16 * k + j) (read e.1) (pieces_in read es)) ∙ (λ i. slot_at (firsts (sym split i)) (sym at i)))

-- ---- places of pairs

under_below : (n : ℕ) (pairs : List (ℕ × ℕ)) → AllBelow n pairs → AllUnder n (places_in pairs)
under_below n [] all = tt
under_below n (e ∷ es) all = (lt_true e.0 n all.0, under_below n es all.1)

abbrev AllSome : List (ℕ × ℕ) → Type 0
AllSome es = AllByRecursion (λ (e : ℕ × ℕ). (e.1 == 0) ≡ false) es

some_append : (xs ys : List (ℕ × ℕ)) → AllSome xs → AllSome ys → AllSome (xs ++ ys)
some_append [] ys a b = b
some_append (x ∷ xs) ys a b = (a.0, some_append xs ys a.1 b)

from_some : (place : ℕ) (ps : List ℕ) → AllSome (pairs_from place ps)
from_some place [] = tt
from_some place (p ∷ ps) = some_append (cond (p == 0) [] ((place, p) ∷ [])) _ (by (p == 0) refl) (from_some (place + 1) ps)
  where
    by : (t : Bool) → (p == 0) ≡ t → AllSome (cond t [] ((place, p) ∷ []))
    by true is = tt
    by false is = (is, tt)

leaves_some : (read : Blocks) (place : ℕ) (ps : List ℕ) → AllSome (leaves_pairs read place ps)
leaves_some read place [] = tt
leaves_some read place (p ∷ ps) = some_append (pairs_from place (index_at read p)) _ (from_some place (index_at read p)) (leaves_some read (place + 1024) ps)

pairs_some : (read : Blocks) (height ptr : ℕ) → AllSome (pairs_below read height ptr)
pairs_some read zero ptr = from_some 0 (ptr ∷ [])
pairs_some read (suc zero) ptr = from_some 0 (index_at read ptr)
pairs_some read (suc (suc height)) ptr = leaves_some read 0 (index_at read ptr)

some_in : (es : List (ℕ × ℕ)) → AllSome es → (place : ℕ) → is_among (places_in es) place ≡ true → (block_in es place == 0) ≡ false
some_in [] all place among = cc
some_in (e ∷ es) all place among = by (e.0 == place) among (some_in es all.1 place)
  where
    by : (t : Bool) → (t || is_among (places_in es) place) ≡ true → (is_among (places_in es) place ≡ true → (block_in es place == 0) ≡ false) → (cond t e.1 (block_in es place) == 0) ≡ false
    by true among more = all.0
    by false among more = more among

among_span : (first n k : ℕ) → first ≤ k → k < first + n → is_among (span first n) k ≡ true
among_span first zero k le lt = absurd (omega (arith, le, lt))
among_span first (suc n) k le lt = by (nat_eq first k) refl (λ above. among_span (first + 1) n k above (omega (arith, lt)))
  where
    by : (t : Bool) → nat_eq first k ≡ t → (first + 1 ≤ k → is_among (span (first + 1) n) k ≡ true) → (t || is_among (span (first + 1) n) k) ≡ true
    by true is more = refl
    by false is more = let above : first + 1 ≤ k = grind (arith, nat_tests) in more above

-- ---- slots up to the width

cut_slot : (w k : ℕ) (ss : List Slot) → list_all is_empty (drop w ss) ≡ true → slot_at (take w ss) k ≡ slot_at ss k
cut_slot zero k ss empty = sym (all_empty ss k empty)
  where
    empty_is : (s : Slot) → is_empty s ≡ true → s ≡ slots.Unused
    empty_is slots.Unused e = refl
    empty_is (slots.Entry number name) e = cc

    all_empty : (ss : List Slot) (k : ℕ) → list_all is_empty ss ≡ true → slot_at ss k ≡ slots.Unused
    all_empty [] k e = refl
    all_empty (s ∷ ss) zero e = empty_is s (first_true _ _ e)
    all_empty (s ∷ ss) (suc k) e = all_empty ss k (second_true _ _ e)
cut_slot (suc w) k [] empty = refl
cut_slot (suc w) zero (s ∷ ss) empty = refl
cut_slot (suc w) (suc k) (s ∷ ss) empty = cut_slot w k ss empty

bad_none : (a b c d : Bool) → (((not a || not b) || not c) || d) ≡ false → (a ≡ true) × (b ≡ true) × (c ≡ true)
bad_none true true true d e = (refl, refl, refl)
bad_none true true false d e = cc
bad_none true false c d e = cc
bad_none false b c d e = cc

-- ---- a directory of an image

part_is : (j : ℕ) (bytes : List ℕ) → slot_part j bytes ≡ take 256 (drop (256 * j) bytes)
part_is j bytes = let e : (256 * j + 256) - 256 * j ≡ 256 = omega arith in ap (λ (k : ℕ). take k (drop (256 * j) bytes)) e

module _ (image : List Block) (sound : IsSound (layout_in image) (seen image)) (n width height ptr : ℕ) (is : inode_of (seen image).nodes n ≡ Directory width height ptr) where
  abbrev read : Blocks
  read = blocks_in image

  abbrev pairs : List (ℕ × ℕ)
  pairs = pairs_below read height ptr

  none : NoFaults (seen image).met
  none = none_found (layout_in image) (seen image).met (seen image).met sound.pointers

  pieces_are : slot_pieces (seen image).pages n ≡ pieces_in read pairs
  unfolding seen
  pieces_are =
      let at = (root_of_image image).inode_index in
      ap (pieces read n) (walk_good read at none).is
      ∙ met_append read n (map index (nonzero (index_at read at))) (flat_map (node_trees read) (nodes_at read at))
      ∙ (λ i. none_indexes read n (nonzero (index_at read at)) i ++ nodes_pieces read n (nodes_at read at) (numbers_distinct read at) i)
      ∙ ap (λ (x : Inode). pieces_in read (directory_pairs read x)) is

  counted : count_by (is_of n) (seen image).pages ≡ length pairs
  unfolding seen
  counted =
      let at = (root_of_image image).inode_index in
      ap (λ (ms : List Met). count_by (is_of n) (all_held (page_held read) ms)) (walk_good read at none).is ∙ skip (nonzero (index_at read at)) ∙ pages_at read n (nodes_at read at) (numbers_distinct read at) ∙ ap (λ (x : Inode). length (directory_pairs read x)) is
    where
      skip : (bs : List ℕ) → count_by (is_of n) (all_held (page_held read) (map index bs ++ flat_map (node_trees read) (nodes_at read (root_of_image image).inode_index))) ≡ count_by (is_of n) (all_held (page_held read) (flat_map (node_trees read) (nodes_at read (root_of_image image).inode_index)))
      skip [] = refl
      skip (b ∷ bs) = skip bs

  fine : is_bad_directory (seen image) (n, Directory width height ptr) ≡ false
  fine = sound.directories (n, Directory width height ptr) (subst (λ (x : Inode). Contains (seen image).nodes (n, x)) is (node_there (seen image).nodes n (ap is_used is)))

  parts : ((count_by (is_of n) (seen image).pages == blocks_of (256 * width)) ≡ true) × (list_all (λ p. is_slot_spelled p.0 p.1) (slot_pieces (seen image).pages n) ≡ true) × (list_all is_empty (drop width (slots_of (seen image) n)) ≡ true)
  parts = bad_none _ _ _ _ fine

  full : length pairs ≡ blocks_of (256 * width)
  full = sym counted ∙ eqb-true (count_by (is_of n) (seen image).pages) (blocks_of (256 * width)) parts.0

  below : AllBelow (blocks_of (256 * width)) pairs
  unfolding seen
  below = let at = (root_of_image image).inode_index in subst (λ (x : Inode). AllBelow (blocks_in_node x) (pairs_of_node read x)) is (below_at read (nodes_at read at) (walk_good read at none).nodes n)

  places : places_in pairs ≡ span 0 (length pairs)
  places =
      let e : blocks_of (256 * width) ≡ 0 + length pairs = omega (arith, full) in
      rising_full 0 (length pairs) (places_in pairs) (pairs_rise read height ptr) (subst (λ (k : ℕ). AllUnder k (places_in pairs)) e (under_below (blocks_of (256 * width)) pairs below)) (map_long pairs)
    where
      map_long : (es : List (ℕ × ℕ)) → length (places_in es) ≡ length es
      map_long [] = refl
      map_long (e ∷ es) = ap suc (map_long es)

  enough : (place : ℕ) → place < pages_for (length (take width (slots_of (seen image) n))) → place < length pairs
  enough place lt = omega (arith, lt, full, length-take width (slots_of (seen image) n))

  pub pages_stand : PagesStand (blocks_in image) (take width (slots_of (seen image) n)) height ptr
  pages_stand = record {
    there = λ place lt. ap (λ (b : ℕ). b == 0) (sym (pairs_are read height ptr place))
        ∙ some_in pairs (pairs_some read height ptr) place (subst (λ (ps : List ℕ). is_among ps place ≡ true) (sym places) (among_span 0 (length pairs) place (omega arith) (omega (arith, enough place lt))));
    spelled = λ place lt j less.
        let e : 0 + place ≡ place = omega arith in
        part_is j (read (block_below read height ptr place))
        ∙ ap (λ (b : ℕ). take 256 (drop (256 * j) (read b))) (sym (ap (block_in pairs) e ∙ pairs_are read height ptr place))
        ∙ each_page read pairs 0 place j places (enough place lt) less (subst (λ (ps : List (Slot × List ℕ)). all_spelled ps ≡ true) pieces_are parts.1)
        ∙ ap (λ (ps : List (Slot × List ℕ)). slot_bytes (slot_at (firsts ps) (16 * place + j))) (sym pieces_are)
        ∙ ap slot_bytes (sym (cut_slot width (16 * place + j) (slots_of (seen image) n) parts.2));
  }

pub directories_stand : (image : List Block) → IsSound (layout_in image) (seen image) → DirectoriesStand image
directories_stand image sound n width height ptr is = pages_stand image sound n width height ptr is
