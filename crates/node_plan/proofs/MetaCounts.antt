-- How many blocks of metadata a node has.
use Rattle.std.proofs.Common.{◌≡◌, ℕ, zero, suc, ◌+◌, ◌*◌, ◌<◌, Bool, true, false, List, [], ◌∷◌, length, map, refl, sym, ap, subst, ◌∙◌, arith, length-append}
use Rattle.std.specs.Prelude.{◌==◌, ◌&&◌, nat_lt, not}
use Rattle.std.proofs.lemmas.Bool.Decides.{nat_tests}
use Rattle.vol_numbers.specs.declared.block.Block.{Block}
use Rattle.block_format.specs.Inode.{blocks_of, pointer_of}
use Rattle.block_format.specs.declared.inode.Inode.{Inode}
use Rattle.block_format.specs.declared.inode.Inode.TheVariants.{Unused, File, Directory}
use Rattle.block_tree.specs.Root.{Stays, tree_indexes}
use Rattle.block_tree.specs.Tree.{Blocks, blocks_in, block_below, pairs_below, indexes_below}
use Rattle.block_tree.proofs.Pairs.{pairs_are}
use Rattle.block_tree.proofs.Rise.{places_in, pairs_rise}
use Rattle.dir_slots.specs.Pages.{pages_for}
use Rattle.image_model.specs.Met.{index, content, metas}
use Rattle.image_model.specs.Nodes.{AllBelow, blocks_in_node}
use Rattle.image_model.specs.Planned.{height_in}
use Rattle.image_model.specs.Stands.{Stands}
use Rattle.image_model.proofs.NodeWalk.{metas_append}
use Rattle.image_model.proofs.SpaceLaws.{under}
use Rattle.place_words.specs.Different.{is_among, span}
use Rattle.place_words.proofs.Counting.{distinct_count}
use Rattle.place_words.proofs.Rising.{rising_distinct}
use Rattle.place_words.proofs.Totals.{different_part}
use Rattle.point_model.specs.Holding.{inode_before}
use Rattle.point_model.proofs.DirectoriesStand as pages_stand
use Rattle.volume_model.specs.Machine.{Stored}
use Rattle.node_plan.specs.Nodes.{HasMetas}
use Rattle.tree_plan.specs.Trees.{root_of, IsTop}
use Rattle.node_plan.proofs.AtPoint.{wide_before}
use Rattle.node_plan.proofs.LiveTrees.{tree_below}
use Rattle.tree_plan.proofs.MetaLaws.{metas_directory, metas_index, metas_content}
use Rattle.tree_plan.proofs.PageCounts.{under_among}
use Rattle.tree_plan.proofs.RisingLaws.{span_among, span_rises}
use Rattle.node_plan.proofs.SameTrees.{indexes_same}
use Rattle.tree_plan.proofs.SpelledLaws.{none_among}

-- ---- where each place below a number of blocks has one, and no other, there are so many

span_length : (m k : ℕ) → length (span m k) ≡ k
span_length m zero = refl
span_length m (suc k) = ap suc (span_length (m + 1) k)

in_span : (blocks k : ℕ) → k < blocks → is_among (span 0 blocks) k ≡ true
in_span blocks k lt = span_among 0 blocks k ∙ both
  where
    both : (not (nat_lt k 0) && nat_lt k (0 + blocks)) ≡ true
    both = let high : nat_lt k 0 ≡ false = grind (arith, nat_tests) in let low : nat_lt k (0 + blocks) ≡ true = grind (arith, nat_tests) in λ i. not (high i) && low i

of_span : (blocks k : ℕ) → is_among (span 0 blocks) k ≡ true → k < blocks
of_span blocks k among = by (nat_lt k (0 + blocks)) refl
  where
    second : (a b : Bool) → (a && b) ≡ true → b ≡ true
    second true b is = is
    second false b is = cc

    by : (t : Bool) → nat_lt k (0 + blocks) ≡ t → k < blocks
    by true is = grind (arith, nat_tests)
    by false is = let never : false ≡ true = sym is ∙ second _ _ (sym (span_among 0 blocks k) ∙ among) in cc

pairs_length : (pairs : List (ℕ × ℕ)) → length (places_in pairs) ≡ length (map (λ (e : ℕ × ℕ). e.1) pairs)
pairs_length [] = refl
pairs_length (e ∷ es) = ap suc (pairs_length es)

pub pairs_all : (read : Blocks) (height ptr blocks : ℕ) → AllBelow blocks (pairs_below read height ptr) → ((place : ℕ) → place < blocks → (block_below read height ptr place == 0) ≡ false)
    → length (map (λ (e : ℕ × ℕ). e.1) (pairs_below read height ptr)) ≡ blocks
pairs_all read height ptr blocks below there =
    omega (
      arith,
      pairs_length pairs,
      span_length 0 blocks,
      distinct_count (places_in pairs) (rising_distinct 0 (places_in pairs) (pairs_rise read height ptr)),
      distinct_count (span 0 blocks) (rising_distinct 0 (span 0 blocks) (span_rises 0 blocks)),
      different_part (places_in pairs) (span 0 blocks) (λ k among. in_span blocks k (omega (arith, under_among (0 + blocks) (places_in pairs) k (under blocks pairs below) among))),
      different_part (span 0 blocks) (places_in pairs) (λ k among. has k (of_span blocks k among) (is_among (places_in pairs) k) refl),
    )
  where
    pairs : List (ℕ × ℕ)
    pairs = pairs_below read height ptr

    has : (k : ℕ) → k < blocks → (t : Bool) → is_among (places_in (pairs_below read height ptr)) k ≡ t → is_among (places_in (pairs_below read height ptr)) k ≡ true
    has k lt true is = is
    has k lt false is =
        let none : block_below read height ptr k ≡ 0 = sym (pairs_are read height ptr k) ∙ none_among (pairs_below read height ptr) k is in
        let never : true ≡ false = sym (ap (λ (b : ℕ). b == 0) none) ∙ there k lt in
        cc

-- ---- one kind after the other

pub metas_unused : (image : List Block) (n : ℕ) → HasMetas image n Unused
metas_unused image n = omega arith

pub metas_of_file : (image : List Block) (n size height ptr : ℕ) → HasMetas image n (File size height ptr)
metas_of_file image n size height ptr =
    let indexes = indexes_below (blocks_in image) height ptr in
    let pairs = pairs_below (blocks_in image) height ptr in
    omega (
      arith,
      ap (λ (bs : List ℕ). length bs) (metas_append (map index indexes) (map (λ (e : ℕ × ℕ). content n e.0 e.1) pairs)),
      length-append (metas (map index indexes)) (metas (map (λ (e : ℕ × ℕ). content n e.0 e.1) pairs)),
      ap (λ (bs : List ℕ). length bs) (metas_index indexes),
      ap (λ (bs : List ℕ). length bs) (metas_content n pairs),
    )

pub metas_of_directory : (image : List Block) (n width height ptr : ℕ) → AllBelow (blocks_of (256 * width)) (pairs_below (blocks_in image) height ptr)
    → ((place : ℕ) → place < pages_for width → (block_below (blocks_in image) height ptr place == 0) ≡ false) → HasMetas image n (Directory width height ptr)
metas_of_directory image n width height ptr below there =
    let indexes = indexes_below (blocks_in image) height ptr in
    let pairs = pairs_below (blocks_in image) height ptr in
    omega (
      arith,
      ap (λ (bs : List ℕ). length bs) (metas_directory image n width height ptr),
      length-append indexes (map (λ (e : ℕ × ℕ). e.1) pairs),
      pairs_all (blocks_in image) height ptr (blocks_of (256 * width)) below (λ place lt. there place (fewer place lt)),
    )
  where
    fewer : (place : ℕ) → place < blocks_of (256 * width) → place < pages_for width
    fewer place lt = omega (arith, lt)

-- ---- the old one

pub metas_before : (old : List Block) (s : Stored) → Stands old s → (n : ℕ) (was : Inode) → was ≡ inode_before old n → HasMetas old n was
metas_before old s stands n was is = subst (HasMetas old n) (sym is) (by (inode_before old n) refl)
  where
    by : (x : Inode) → inode_before old n ≡ x → HasMetas old n (inode_before old n)
    by Unused same = subst (HasMetas old n) (sym same) (metas_unused old n)
    by (File size height ptr) same = subst (HasMetas old n) (sym same) (metas_of_file old n size height ptr)
    by (Directory width height ptr) same =
        subst (HasMetas old n) (sym same)
        (metas_of_directory old n width height ptr (subst (λ (x : Inode). AllBelow (blocks_in_node x) (pairs_below (blocks_in old) (height_in x) (pointer_of x))) same (tree_below old stands.sound n))
        (λ place lt. (pages_stand.directories_stand old stands.sound n width height ptr same).there place (subst (λ (w : ℕ). place < pages_for w) (sym (wide_before old s stands n width height ptr same)) lt)))

-- ---- a top index that is kept

pub top_count : (old new : List Block) (was x : Inode) → Stays (blocks_in old) (root_of was) (blocks_in new) → height_in x ≡ 2 → IsTop was (pointer_of x)
    → length (tree_indexes (blocks_in old) (root_of was)) ≡ length (tree_indexes (blocks_in new) (root_of x))
top_count old new was x stays two top =
    ap (λ (bs : List ℕ). length bs) (sym (indexes_same (blocks_in old) (blocks_in new) (height_in was) (pointer_of was) stays))
    ∙ (λ i. length (indexes_below (blocks_in new) ((top.0 ∙ sym two) i) (sym top.1 i)))
