-- The blocks of metadata below an inode, by the places that have a block.
use Rattle.std.proofs.Common.{◌≡◌, ℕ, zero, suc, ◌+◌, ◌*◌, ◌/◌, ◌<◌, ◌≤◌, Bool, true, false, not, cond, List, [], ◌∷◌, ◌++◌, length, map, refl, sym, ap, subst, ◌∙◌, arith, length-append}
use Rattle.std.specs.Prelude.{◌==◌, ◌&&◌, ◌||◌, nat_eq, nat_le, nat_lt}
use Rattle.std.specs.List.{AllByRecursion}
use Rattle.std.proofs.lemmas.Bool.{eqb-true}
use Rattle.std.proofs.lemmas.Bool.Decides.{nat_tests}
use Rattle.vol_numbers.specs.declared.block.Block.{Block}
use Rattle.block_format.specs.Inode.{blocks_of, height_of, inode_shape}
use Rattle.block_format.specs.declared.inode.Inode.TheVariants.{File, Directory}
use Rattle.block_tree.specs.Tree.{Blocks, blocks_in, index_at, pairs_from, leaves_pairs, pairs_below, indexes_below, block_below, block_in, IsFull}
use Rattle.block_tree.proofs.Count.{index_count}
use Rattle.block_tree.proofs.Pairs.{pairs_are}
use Rattle.block_tree.proofs.Rise.{pairs_rise}
use Rattle.image_model.specs.Met.{Met, index, page, content, metas}
use Rattle.image_model.specs.Nodes.{AllBelow}
use Rattle.image_model.proofs.NodeWalk.{metas_append}
use Rattle.place_words.specs.Different.{is_among, span, up}
use Rattle.place_words.specs.Index.{index_blocks, leaves_over}
use Rattle.place_words.specs.Rising.{Rising}
use Rattle.place_words.proofs.Counting.{distinct_count}
use Rattle.place_words.proofs.Rising.{rising_distinct}
use Rattle.place_words.proofs.Totals.{different_same, images_same}
use Rattle.point_model.specs.NodePlan.{node_metas}

-- ---- index blocks depend on which places there are

itself : (q : ℕ) (qs : List ℕ) → (nat_eq q q || is_among qs q) ≡ true
itself q qs = let own : nat_eq q q ≡ true = grind (arith, nat_tests) in ap (λ (t : Bool). t || is_among qs q) own

pub index_same : (b : ℕ) (ps qs : List ℕ) → ((k : ℕ) → is_among ps k ≡ is_among qs k) → index_blocks b ps ≡ index_blocks b qs
index_same b [] [] same = refl
index_same b [] (q ∷ qs) same = let e : false ≡ true = same q ∙ itself q qs in cc
index_same b (p ∷ ps) [] same = let e : true ≡ false = sym (itself p ps) ∙ same p in cc
index_same b (p ∷ ps) (q ∷ qs) same =
    let leaves : leaves_over (p ∷ ps) ≡ leaves_over (q ∷ qs) = different_same (map (λ (k : ℕ). k / 1024) (p ∷ ps)) (map (λ (k : ℕ). k / 1024) (q ∷ qs)) (images_same (λ (k : ℕ). k / 1024) (p ∷ ps) (q ∷ qs) same) in
    ap (λ (n : ℕ). cond (nat_le b 1) 0 (n + cond (nat_lt 1024 b) 1 0)) leaves

-- ---- the places of pairs

abbrev places_in : List (ℕ × ℕ) → List ℕ
places_in pairs = map (λ (e : ℕ × ℕ). e.0) pairs

abbrev AllSome : List (ℕ × ℕ) → Type 0
AllSome pairs = AllByRecursion (λ (e : ℕ × ℕ). (e.1 == 0) ≡ false) pairs

some_append : (xs ys : List (ℕ × ℕ)) → AllSome xs → AllSome ys → AllSome (xs ++ ys)
some_append [] ys a b = b
some_append (x ∷ xs) ys a b = (a.0, some_append xs ys a.1 b)

from_some : (place : ℕ) (ps : List ℕ) → AllSome (pairs_from place ps)
from_some place [] = tt
from_some place (p ∷ ps) = some_append (cond (p == 0) [] ((place, p) ∷ [])) (pairs_from (place + 1) ps) (here (p == 0) refl) (from_some (place + 1) ps)
  where
    here : (t : Bool) → (p == 0) ≡ t → AllSome (cond t [] ((place, p) ∷ []))
    here true is = tt
    here false is = (is, tt)

leaves_some : (read : Blocks) (place : ℕ) (ps : List ℕ) → AllSome (leaves_pairs read place ps)
leaves_some read place [] = tt
leaves_some read place (p ∷ ps) = some_append (pairs_from place (index_at read p)) (leaves_pairs read (place + 1024) ps) (from_some place (index_at read p)) (leaves_some read (place + 1024) ps)

below_some : (read : Blocks) (height ptr : ℕ) → AllSome (pairs_below read height ptr)
below_some read zero ptr = from_some 0 (ptr ∷ [])
below_some read (suc zero) ptr = from_some 0 (index_at read ptr)
below_some read (suc (suc height)) ptr = leaves_some read 0 (index_at read ptr)

among_pairs : (es : List (ℕ × ℕ)) → AllSome es → (k : ℕ) → is_among (places_in es) k ≡ not (block_in es k == 0)
among_pairs [] all k = refl
among_pairs (e ∷ es) all k = by (nat_eq e.0 k) (among_pairs es all.1 k)
  where
    by : (t : Bool) → is_among (places_in es) k ≡ not (block_in es k == 0) → (t || is_among (places_in es) k) ≡ not (cond t e.1 (block_in es k) == 0)
    by true more = sym (ap not all.0)
    by false more = more

-- the places that have a pair are those that have a block
pub places_below : (read : Blocks) (height ptr k : ℕ) → is_among (map (λ (e : ℕ × ℕ). e.0) (pairs_below read height ptr)) k ≡ not (block_below read height ptr k == 0)
places_below read height ptr k = among_pairs (pairs_below read height ptr) (below_some read height ptr) k ∙ ap (λ (b : ℕ). not (b == 0)) (pairs_are read height ptr k)

less : (a b : ℕ) → nat_lt a b ≡ true → a < b
less a b is = grind (arith, nat_tests)

-- a place past the blocks of a node has none
none_past : (blocks k : ℕ) (es : List (ℕ × ℕ)) → AllBelow blocks es → blocks ≤ k → block_in es k ≡ 0
none_past blocks k [] all le = refl
none_past blocks k (e ∷ es) all le =
    let apart : (e.0 == k) ≡ false = differ e.0 k (omega (arith, less e.0 blocks all.0, le)) in
    ap (λ (t : Bool). cond t e.1 (block_in es k)) apart ∙ none_past blocks k es all.1 le
  where
    differ : (a b : ℕ) → a < b → (a == b) ≡ false
    differ a b lt = grind (arith, nat_tests)

pub past_blocks : (read : Blocks) (blocks height ptr k : ℕ) → AllBelow blocks (pairs_below read height ptr) → blocks ≤ k → block_below read height ptr k ≡ 0
past_blocks read blocks height ptr k below le = sym (pairs_are read height ptr k) ∙ none_past blocks k (pairs_below read height ptr) below le

-- ---- a whole span of places

span_rises : (from size : ℕ) → Rising from (span from size)
span_rises from zero = tt
span_rises from (suc size) = (omega arith, span_rises (from + 1) size)

pub span_length : (from size : ℕ) → length (span from size) ≡ size
span_length from zero = refl
span_length from (suc size) = ap suc (span_length (from + 1) size)

early : (from size k : ℕ) → k < from → is_among (span from size) k ≡ false
early from zero k lt = refl
early from (suc size) k lt = let apart : nat_eq from k ≡ false = grind (arith, nat_tests) in ap (λ (t : Bool). t || is_among (span (from + 1) size) k) apart ∙ early (from + 1) size k (omega (arith, lt))

late : (from size k : ℕ) → from + size ≤ k → is_among (span from size) k ≡ false
late from zero k le = refl
late from (suc size) k le = let apart : nat_eq from k ≡ false = grind (arith, nat_tests) in ap (λ (t : Bool). t || is_among (span (from + 1) size) k) apart ∙ late (from + 1) size k (omega (arith, le))

within : (from size k : ℕ) → from ≤ k → k < from + size → is_among (span from size) k ≡ true
within from zero k le lt = absurd (omega (arith, le, lt))
within from (suc size) k le lt = by (nat_eq from k) refl (λ next. within (from + 1) size k next (omega (arith, lt)))
  where
    by : (t : Bool) → nat_eq from k ≡ t → (from + 1 ≤ k → is_among (span (from + 1) size) k ≡ true) → (t || is_among (span (from + 1) size) k) ≡ true
    by true is more = refl
    by false is more = let next : from + 1 ≤ k = grind (arith, nat_tests) in more next

-- ---- heights

second : (a b c : Bool) → (a && (b && c)) ≡ true → b ≡ true
second true true c e = refl
second true false c e = e
second false b c e = cc

file_height : (size height ptr : ℕ) → inode_shape (File size height ptr) ≡ true → height ≡ height_of (blocks_of size)
file_height size height ptr shape = eqb-true height (height_of (blocks_of size)) (second (nat_le size 4294967296) (height == height_of (blocks_of size)) _ shape)

directory_height : (width height ptr : ℕ) → inode_shape (Directory width height ptr) ≡ true → height ≡ height_of (blocks_of (256 * width))
directory_height width height ptr shape = eqb-true height (height_of (blocks_of (256 * width))) (second (nat_le width 65534) (height == height_of (blocks_of (256 * width))) _ shape)

-- a tree of the right height has as many index blocks as its places need
indexes_right : (read : Blocks) (blocks height ptr : ℕ) → height ≡ height_of blocks → IsFull read (indexes_below read height ptr)
    → length (indexes_below read height ptr) ≡ index_blocks blocks (map (λ (e : ℕ × ℕ). e.0) (pairs_below read height ptr))
indexes_right read blocks height ptr is full =
    subst (λ (h : ℕ). length (indexes_below read h ptr) ≡ index_blocks blocks (map (λ (e : ℕ × ℕ). e.0) (pairs_below read h ptr))) (sym is)
    (index_count read ptr blocks (subst (λ (h : ℕ). IsFull read (indexes_below read h ptr)) is full))

-- ---- how many blocks of metadata are met

metas_index : (bs : List ℕ) → length (metas (map index bs)) ≡ length bs
metas_index [] = refl
metas_index (b ∷ bs) = ap suc (metas_index bs)

metas_content : (n : ℕ) (pairs : List (ℕ × ℕ)) → length (metas (map (λ (e : ℕ × ℕ). content n e.0 e.1) pairs)) ≡ 0
metas_content n [] = refl
metas_content n (e ∷ pairs) = metas_content n pairs

metas_page : (n : ℕ) (pairs : List (ℕ × ℕ)) → length (metas (map (λ (e : ℕ × ℕ). page n e.0 e.1) pairs)) ≡ length pairs
metas_page n [] = refl
metas_page n (e ∷ pairs) = ap suc (metas_page n pairs)

metas_both : (xs ys : List Met) → length (metas (xs ++ ys)) ≡ length (metas xs) + length (metas ys)
metas_both xs ys = ap (λ (bs : List ℕ). length bs) (metas_append xs ys) ∙ length-append (metas xs) (metas ys)

-- ---- of a file and of a directory

module _ (image : List Block) (n : ℕ) where
  -- a file's index blocks are those that its places need
  pub file_metas : (size height ptr : ℕ) (places : List ℕ) → inode_shape (File size height ptr) ≡ true → IsFull (blocks_in image) (indexes_below (blocks_in image) height ptr)
      → ((k : ℕ) → is_among places k ≡ not (block_below (blocks_in image) height ptr k == 0)) → index_blocks (up size 4096) places ≡ length (node_metas image n (File size height ptr))
  file_metas size height ptr places shape full same =
      let read = blocks_in image in
      let pairs = pairs_below read height ptr in
      let places_are = index_same (blocks_of size) places (map (λ (e : ℕ × ℕ). e.0) pairs) (λ k. same k ∙ sym (places_below read height ptr k)) in
      omega (
        arith,
        metas_both (map index (indexes_below read height ptr)) (map (λ (e : ℕ × ℕ). content n e.0 e.1) pairs),
        metas_index (indexes_below read height ptr),
        metas_content n pairs,
        indexes_right read (blocks_of size) height ptr (file_height size height ptr shape) full,
        places_are,
      )

  -- a directory's are its pages and the index blocks that these need
  pub directory_metas : (width height ptr : ℕ) → inode_shape (Directory width height ptr) ≡ true → IsFull (blocks_in image) (indexes_below (blocks_in image) height ptr)
      → AllBelow (blocks_of (256 * width)) (pairs_below (blocks_in image) height ptr) → ((k : ℕ) → k < blocks_of (256 * width) → (block_below (blocks_in image) height ptr k == 0) ≡ false)
      → up width 16 + index_blocks (up width 16) (span 0 (up width 16)) ≡ length (node_metas image n (Directory width height ptr))
  directory_metas width height ptr shape full below there =
      let read = blocks_in image in
      let pairs = pairs_below read height ptr in
      let blocks : blocks_of (256 * width) ≡ up width 16 = omega arith in
      let many : length pairs ≡ blocks_of (256 * width) =
      sym (places_length pairs) ∙ sym (distinct_count (map (λ (e : ℕ × ℕ). e.0) pairs) (rising_distinct 0 _ (pairs_rise read height ptr)))
      ∙ different_same _ _ all_there ∙ distinct_count (span 0 (blocks_of (256 * width))) (rising_distinct 0 _ (span_rises 0 (blocks_of (256 * width)))) ∙ span_length 0 (blocks_of (256 * width)) in
      let places_are = index_same (blocks_of (256 * width)) (map (λ (e : ℕ × ℕ). e.0) pairs) (span 0 (blocks_of (256 * width))) all_there in
      let needs : index_blocks (blocks_of (256 * width)) (span 0 (blocks_of (256 * width))) ≡ index_blocks (up width 16) (span 0 (up width 16)) = (λ i. index_blocks (blocks i) (span 0 (blocks i))) in
      omega (
        arith,
        metas_both (map index (indexes_below read height ptr)) (map (λ (e : ℕ × ℕ). page n e.0 e.1) pairs),
        metas_index (indexes_below read height ptr),
        metas_page n pairs,
        indexes_right read (blocks_of (256 * width)) height ptr (directory_height width height ptr shape) full,
        places_are,
        needs,
        many,
        blocks,
      )
    where
      places_length : (es : List (ℕ × ℕ)) → length (map (λ (e : ℕ × ℕ). e.0) es) ≡ length es
      places_length [] = refl
      places_length (e ∷ es) = ap suc (places_length es)

      all_there : (k : ℕ) → is_among (map (λ (e : ℕ × ℕ). e.0) (pairs_below (blocks_in image) height ptr)) k ≡ is_among (span 0 (blocks_of (256 * width))) k
      all_there k = places_below (blocks_in image) height ptr k ∙ by (nat_lt k (blocks_of (256 * width))) refl
        where
          not_less : (a b : ℕ) → nat_lt a b ≡ false → b ≤ a
          not_less a b is = grind (arith, nat_tests)

          by : (t : Bool) → nat_lt k (blocks_of (256 * width)) ≡ t → not (block_below (blocks_in image) height ptr k == 0) ≡ is_among (span 0 (blocks_of (256 * width))) k
          by true is = let lt = less k (blocks_of (256 * width)) is in ap not (there k lt) ∙ sym (within 0 (blocks_of (256 * width)) k (omega arith) (omega (arith, lt)))
          by false is =
              let le = not_less k (blocks_of (256 * width)) is in
              ap (λ (b : ℕ). not (b == 0)) (past_blocks (blocks_in image) (blocks_of (256 * width)) height ptr k below le) ∙ sym (late 0 (blocks_of (256 * width)) k (omega (arith, le)))
