-- How many pages a plan writes, and how many blocks of metadata there are then.
use Rattle.std.proofs.Common.{◌≡◌, ℕ, suc, ◌+◌, ◌<◌, ◌≤◌, Bool, true, false, cond, List, [], ◌∷◌, ◌++◌, length, map, refl, sym, ap, ◌∙◌, arith, length-append}
use Rattle.std.specs.Prelude.{◌==◌, ◌||◌, nat_eq, IsTrue, IfOk, Result, Ok, Err}
use Rattle.std.proofs.lemmas.Bool.{eqb-true}
use Rattle.std.proofs.lemmas.List.{map-append}
use Rattle.vol_numbers.specs.declared.block.Block.{Block}
use Rattle.vol_numbers.specs.declared.runs.Change.{Change}
use Rattle.vol_numbers.specs.declared.runs.Page.{Page}
use Rattle.block_format.specs.Inode.{pointer_of}
use Rattle.block_format.specs.declared.inode.Inode.{Inode}
use Rattle.block_format.specs.declared.inode.Inode.TheVariants.{File, Directory}
use Rattle.block_tree.specs.Edit.{changed_at}
use Rattle.block_tree.specs.Notes.{page_blocks, change_blocks}
use Rattle.block_tree.specs.Root.{tree_indexes, Stays}
use Rattle.block_tree.specs.Notes.{Stand}
use Rattle.block_tree.specs.Tree.{Blocks, blocks_in, block_in, block_below, pairs_below, indexes_below}
use Rattle.block_tree.specs.declared.fault.TreeFault.{TreeFault}
use Rattle.block_tree.specs.declared.root.TreeRoot.{TreeRoot}
use Rattle.block_tree.proofs.Pairs.{pairs_are}
use Rattle.block_tree.proofs.Rise.{places_in, pairs_rise}
use Rattle.image_model.specs.Planned.{height_in}
use Rattle.place_words.specs.Different.{is_among, times}
use Rattle.place_words.specs.Rising.{Rising, AllUnder}
use Rattle.place_words.proofs.Counting.{distinct_count}
use Rattle.place_words.proofs.Rising.{rising_distinct}
use Rattle.place_words.proofs.Totals.{different_part}
use Rattle.point_model.specs.NodePlan.{node_metas}
use Rattle.tree_plan.specs.Trees.{Carries, IsTop}
use Rattle.tree_plan.specs.declared.plan.TreePlan.{TreePlan}
use Rattle.tree_plan.proofs.LengthLaws.{times_length}
use Rattle.tree_plan.proofs.MetaLaws.{metas_directory, metas_file}
use Rattle.tree_plan.proofs.SpelledLaws.{pairs_of, changed_in, none_among, some_among}
use Rattle.tree_plan.proofs.TreeLaws.{AllSome}

-- ---- what is empty

pub none_at_most : (tells : Bool) (old : List Block) (was : Inode) (r : Result TreePlan TreeFault) → IfOk r (λ p. (p.pages ≡ []) × (p.added ≡ []))
    → IfOk r (λ p. IsTrue tells → (n : ℕ) (new : List Block) → Carries old new was p.pages → length (page_blocks p.pages) ≤ length (node_metas new n p.inode))
none_at_most tells old was (Ok p) nothing = λ told n new carries. omega (arith, ap (λ (qs : List Page). length (page_blocks qs)) nothing.0)
none_at_most tells old was (Err e) nothing = tt

pub none_used : (changes : List Change) (r : Result TreePlan TreeFault) → IfOk r (λ p. (p.pages ≡ []) × (p.added ≡ []))
    → IfOk r (λ p. (b : ℕ) → times b p.added ≤ times b (page_blocks p.pages) + times b (change_blocks changes))
none_used changes (Ok p) nothing = λ b. omega (arith, ap (times b) nothing.1)
none_used changes (Err e) nothing = tt

pub none_paged : (r : Result TreePlan TreeFault) → IfOk r (λ p. (p.pages ≡ []) × (p.added ≡ [])) → IfOk r (λ p. (b : ℕ) → times b p.added ≤ times b (page_blocks p.pages))
none_paged (Ok p) nothing = λ b. omega (arith, ap (times b) nothing.1)
none_paged (Err e) nothing = tt

pub no_top : (tells : Bool) (was x : Inode) → height_in x ≡ 0 → (r : Result TreePlan TreeFault) → IfOk r (λ p. p.inode ≡ x)
    → IfOk r (λ p. IsTrue tells → height_in p.inode ≡ 2 → 0 < pointer_of p.inode → is_among (page_blocks p.pages) (pointer_of p.inode) ≡ false → IsTop was (pointer_of p.inode))
no_top tells was x low (Ok p) is = λ told two some none. absurd (omega (arith, two, low, ap height_in is))
no_top tells was x low (Err e) is = tt

-- ---- pages that are index blocks

abbrev pub GivesPages : Blocks → List Page → List ℕ → TreeRoot → TreeRoot → Type 0
GivesPages read pages blocks new root = (after : Blocks) → Stand pages after → Stays read root after → (b : ℕ) → times b blocks ≤ times b (tree_indexes after new)

pub file_at_most : (new : List Block) (n size height ptr : ℕ) (blocks : List ℕ) → ((b : ℕ) → times b blocks ≤ times b (indexes_below (blocks_in new) height ptr)) → length blocks ≤ length (node_metas new n (File size height ptr))
file_at_most new n size height ptr blocks each = times_length blocks (node_metas new n (File size height ptr)) (λ b. omega (arith, each b, metas_file new n b size height ptr))

-- ---- places that are changed have blocks

pub under_among : (limit : ℕ) (xs : List ℕ) (p : ℕ) → AllUnder limit xs → is_among xs p ≡ true → p < limit
under_among limit [] p under among = cc
under_among limit (x ∷ xs) p under among = by (nat_eq x p) refl among (under_among limit xs p under.1)
  where
    by : (t : Bool) → nat_eq x p ≡ t → (t || is_among xs p) ≡ true → (is_among xs p ≡ true → p < limit) → p < limit
    by true is among more = omega (arith, under.0, eqb-true x p is)
    by false is among more = more among

module _ (read : Blocks) (height ptr : ℕ) (changes : List Change) (before : ℕ → ℕ) (places : (p : ℕ) → p < 1048576 → block_below read height ptr p ≡ changed_at changes before p)
    (rising : Rising 0 (places_in (pairs_of changes))) (under : AllUnder 1048576 (places_in (pairs_of changes))) (some : AllSome (pairs_of changes)) where
  pairs_there : (p : ℕ) → is_among (places_in (pairs_of changes)) p ≡ true → is_among (places_in (pairs_below read height ptr)) p ≡ true
  pairs_there p among = by (is_among (places_in (pairs_below read height ptr)) p) refl
    where
      there : (block_in (pairs_of changes) p == 0) ≡ false
      there = some_among (pairs_of changes) p some among

      block : block_in (pairs_below read height ptr) p ≡ block_in (pairs_of changes) p
      block =
          pairs_are read height ptr p ∙ places p (under_among 1048576 (places_in (pairs_of changes)) p under among) ∙ changed_in 0 changes before p rising some
          ∙ ap (λ (t : Bool). cond t (before p) (block_in (pairs_of changes) p)) there

      by : (t : Bool) → is_among (places_in (pairs_below read height ptr)) p ≡ t → is_among (places_in (pairs_below read height ptr)) p ≡ true
      by true is = is
      by false is =
          let none : block_in (pairs_of changes) p ≡ 0 = sym block ∙ none_among (pairs_below read height ptr) p is in
          let never : true ≡ false = sym (ap (λ (b : ℕ). b == 0) none) ∙ there in
          cc

  many : (cs : List Change) → length (places_in (pairs_of cs)) ≡ length (change_blocks cs)
  many [] = refl
  many (c ∷ cs) = ap suc (many cs)

  pub changes_there : length (change_blocks changes) ≤ length (map (λ (e : ℕ × ℕ). e.1) (pairs_below read height ptr))
  changes_there =
      omega (
        arith,
        different_part (places_in (pairs_of changes)) (places_in (pairs_below read height ptr)) pairs_there,
        distinct_count (places_in (pairs_of changes)) (rising_distinct 0 (places_in (pairs_of changes)) rising),
        distinct_count (places_in (pairs_below read height ptr)) (rising_distinct 0 (places_in (pairs_below read height ptr)) (pairs_rise read height ptr)),
        many changes,
        both (pairs_below read height ptr),
      )
    where
      both : (pairs : List (ℕ × ℕ)) → length (places_in pairs) ≡ length (map (λ (e : ℕ × ℕ). e.1) pairs)
      both [] = refl
      both (e ∷ es) = ap suc (both es)

-- a directory's metadata has its pages and its index blocks
pub directory_at_most : (new : List Block) (n width height ptr : ℕ) (first indexes : List Page) (changes : List Change) (before : ℕ → ℕ)
    → ((p : ℕ) → p < 1048576 → block_below (blocks_in new) height ptr p ≡ changed_at changes before p)
    → Rising 0 (places_in (pairs_of changes)) → AllUnder 1048576 (places_in (pairs_of changes)) → AllSome (pairs_of changes)
    → change_blocks changes ≡ page_blocks first → ((b : ℕ) → times b (page_blocks indexes) ≤ times b (indexes_below (blocks_in new) height ptr))
    → length (page_blocks (first ++ indexes)) ≤ length (node_metas new n (Directory width height ptr))
directory_at_most new n width height ptr first indexes changes before places rising under some leads each =
    omega (
      arith,
      ap (λ (bs : List ℕ). length bs) (map-append (λ (p : Page). p.at) first indexes),
      length-append (page_blocks first) (page_blocks indexes),
      ap (λ (bs : List ℕ). length bs) leads,
      changes_there (blocks_in new) height ptr changes before places rising under some,
      times_length (page_blocks indexes) (indexes_below (blocks_in new) height ptr) each,
      ap (λ (bs : List ℕ). length bs) (metas_directory new n width height ptr),
      length-append (indexes_below (blocks_in new) height ptr) (map (λ (e : ℕ × ℕ). e.1) (pairs_below (blocks_in new) height ptr)),
    )

-- what isn't among two lists isn't among the second
pub none_behind : (xs ys : List ℕ) (b : ℕ) → is_among (xs ++ ys) b ≡ false → is_among ys b ≡ false
none_behind [] ys b none = none
none_behind (x ∷ xs) ys b none = by (nat_eq x b) none (none_behind xs ys b)
  where
    by : (t : Bool) → (t || is_among (xs ++ ys) b) ≡ false → (is_among (xs ++ ys) b ≡ false → is_among ys b ≡ false) → is_among ys b ≡ false
    by true none more = cc
    by false none more = more none
