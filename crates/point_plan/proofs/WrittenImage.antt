-- An image in which planned pages stand.
use Rattle.std.proofs.Common.{◌≡◌, ◌≢◌, ℕ, zero, suc, ◌+◌, ◌<◌, ◌≤◌, Bool, true, cond, List, [], ◌∷◌, length, get_or, refl, ap, ◌∙◌, arith}
use Rattle.std.specs.Prelude.{All, nat_eq, slice_get, slice_set}
use Rattle.std.specs.List.{flat_map}
use Rattle.std.proofs.lemmas.Bool.Decides.{nat_tests}
use Rattle.std.proofs.lemmas.List.{get_or-set_other, get_or-set_same, length-set}
use Rattle.vol_numbers.specs.Block.{zero_block}
use Rattle.vol_numbers.specs.declared.block.Block.{Block}
use Rattle.vol_numbers.specs.declared.runs.Page.{Page}
use Rattle.block_tree.specs.Notes.{page_blocks}
use Rattle.block_tree.specs.Tree.{blocks_in}
use Rattle.disk_model.proofs.Moments.{slice_get-set_other}
use Rattle.place_words.specs.Different.{times}
use Rattle.point_plan.specs.declared.planned_node.PlannedNode.{PlannedNode}

-- the pages of planned nodes
abbrev pub all_pages : List PlannedNode → List Page
all_pages nodes = flat_map (λ (p : PlannedNode). p.pages) nodes

-- an image with these pages in their blocks
pub with_pages : List Block → List Page → List Block
with_pages image [] = image
with_pages image (p ∷ ps) = slice_set (with_pages image ps) p.at p.block

long : (image : List Block) (ps : List Page) → length (with_pages image ps) ≡ length image
unfolding with_pages
long image [] = refl
long image (p ∷ ps) = length-set (with_pages image ps) p.at p.block ∙ long image ps

times_first : (b : ℕ) (p : Page) (ps : List Page) → b ≡ p.at → 1 ≤ times b (page_blocks (p ∷ ps))
times_first b p ps here = let is : nat_eq p.at b ≡ true = grind (arith, nat_tests) in omega (arith, ap (λ (t : Bool). cond t 1 0 + times b (page_blocks ps)) is)

times_rest : (b : ℕ) (p : Page) (ps : List Page) → times b (page_blocks ps) ≤ times b (page_blocks (p ∷ ps))
times_rest b p ps = omega arith

pub others_stay : (image : List Block) (ps : List Page) (b : ℕ) → times b (page_blocks ps) ≡ 0 → slice_get (with_pages image ps) b ≡ slice_get image b
unfolding with_pages
others_stay image [] b none = refl
others_stay image (p ∷ ps) b none =
    slice_get-set_other (with_pages image ps) p.at b p.block (λ here. omega (arith, times_first b p ps here, none))
    ∙ others_stay image ps b (omega (arith, times_rest b p ps, none))

one_of : (qs : List Page) (k : ℕ) (d : Page) → k < length qs → 1 ≤ times (get_or qs k d).at (page_blocks qs)
one_of [] k d lt = absurd (omega (arith, lt))
one_of (q ∷ qs) zero d lt = times_first q.at q qs refl
one_of (q ∷ qs) (suc k) d lt = omega (arith, one_of qs k d (omega (arith, lt)), times_rest (get_or qs k d).at q qs)

pub pages_stand : (image : List Block) (ps : List Page) → ((b : ℕ) → times b (page_blocks ps) ≤ 1) → ((b : ℕ) → 1 ≤ times b (page_blocks ps) → b < length image) → All (λ (p : Page). blocks_in (with_pages image ps) p.at ≡ p.block.bytes) ps
unfolding with_pages
pages_stand image [] once within = λ k d lt. absurd (omega (arith, lt))
pages_stand image (p ∷ ps) once within = all (pages_stand image ps (λ b. omega (arith, once b, times_rest b p ps)) (λ b some. within b (omega (arith, some, times_rest b p ps))))
  where
    at_first : blocks_in (slice_set (with_pages image ps) p.at p.block) p.at ≡ p.block.bytes
    at_first =
        let lt = within p.at (times_first p.at p ps refl) in
        ap (λ (x : Block). x.bytes) (get_or-set_same (with_pages image ps) p.at p.block zero_block (omega (arith, lt, long image ps)))

    apart : (k : ℕ) (d : Page) → k < length ps → (get_or ps k d).at ≢ p.at
    apart k d lt = λ e.
        let at = (get_or ps k d).at in
        let both : times at (page_blocks (p ∷ ps)) ≡ 1 + times at (page_blocks ps) = let is : nat_eq p.at at ≡ true = grind (arith, nat_tests) in ap (λ (t : Bool). cond t 1 0 + times at (page_blocks ps)) is in
        omega (arith, both, once at, one_of ps k d lt)

    all : All (λ (q : Page). blocks_in (with_pages image ps) q.at ≡ q.block.bytes) ps → All (λ (q : Page). blocks_in (slice_set (with_pages image ps) p.at p.block) q.at ≡ q.block.bytes) (p ∷ ps)
    all rest zero d lt = at_first
    all rest (suc k) d lt =
        let low : k < length ps = omega (arith, lt) in
        ap (λ (x : Block). x.bytes) (get_or-set_other (with_pages image ps) p.at (get_or ps k d).at p.block zero_block (apart k d low)) ∙ rest k d low
