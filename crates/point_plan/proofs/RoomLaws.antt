-- The metadata after a point, counted node by node.
use Rattle.std.proofs.Common.{◌≡◌, ℕ, zero, suc, ◌+◌, ◌-◌, ◌<◌, ◌≤◌, Bool, true, false, cond, List, [], ◌∷◌, ◌++◌, length, get_or, drop, drop-cons, take, Option, Some, refl, sym, ap, subst, ◌∙◌, arith}
use Rattle.std.specs.Prelude.{◌==◌, All, option_map, sum_by}
use Rattle.std.proofs.lemmas.Bool.Decides.{nat_tests}
use Rattle.std.proofs.lemmas.List.{get_or-take, length-append, length-drop, length-map, length-take}
use Rattle.std.proofs.lemmas.List.Concat.{flat_map-cons}
use Rattle.std.proofs.lemmas.List.Sums.{sum_by-cons}
use Rattle.vol_numbers.specs.Geometry.{layout_of}
use Rattle.vol_numbers.specs.Layout.{Layout, area_start}
use Rattle.vol_numbers.specs.declared.block.Block.{Block}
use Rattle.block_format.specs.declared.inode.Inode.{Inode}
use Rattle.block_tree.specs.Notes.{page_blocks}
use Rattle.fresh_runs.specs.Fresh.{blocks_in as blocks_told}
use Rattle.fresh_runs.proofs.Parting.{parted_length}
use Rattle.image_model.specs.Findings.{free_in, zeros_from as zeros_in}
use Rattle.image_model.specs.Meanings.{FreeIsCounted}
use Rattle.image_model.specs.Stands.{layout_in}
use Rattle.inode_file.specs.Counting.{used_positions}
use Rattle.node_table.specs.Held.{info}
use Rattle.place_words.specs.Different.{total}
use Rattle.point_model.specs.Holding.{inode_before, node_now}
use Rattle.point_model.specs.NodePlan.{node_metas}
use Rattle.point_model.specs.PointPlan.{NodeIsPlanned, told}
use Rattle.point_plan.specs.Free.{free_now}
use Rattle.point_plan.specs.Gathered.{ArePlannedOver, IsGathered, metadata_given, metadata_had, numbers_in, pages_in}
use Rattle.point_plan.specs.Made.{taken_by}
use Rattle.point_plan.specs.Nodes.{Ascend, added_in, dropped_in, inode_or, planned_of}
use Rattle.point_plan.specs.Planning.{SharesNothing}
use Rattle.point_plan.specs.Room.{AreInodesAfter, IsCounted}
use Rattle.point_plan.specs.State.{HoldsPoint, IsOfSize}
use Rattle.point_plan.specs.declared.gathering.Gathered.{Gathered}
use Rattle.point_plan.specs.declared.planned_node.PlannedNode.{PlannedNode}
use Rattle.point_plan.specs.declared.state.PointState.{PointState}
use Rattle.point_plan.proofs.FreeBlocks.{free_now_is_free}
use Rattle.point_plan.proofs.GatheredLaws.{has_pages, reported, told as told_blocks}
use Rattle.point_plan.proofs.Steps.{here_of}
use Rattle.point_space.specs.Laws.{DirtyGetBlocks, MetadataIsCounted, NewMetadataIs, SomeNumbers}
use Rattle.point_space.specs.Metadata.{DirtyHaveBlocks, node_metadata}
use Rattle.point_space.specs.Needs.{InodeBlocksAre, OldInodeBlocksAre}
use Rattle.run_allocator.specs.Runs.{zeros_from}
use Rattle.volume_model.specs.Lines.{lines_places}
use Rattle.volume_model.specs.Machine.{Machine, Rules, free_of, stored}
use Rattle.volume_model.specs.Point.{may_be_fresh, placed_after}
use Rattle.volume_model.specs.Short.{kept_and_dirty}
use Rattle.volume_model.specs.Space.{free_blocks, inode_blocks, metadata_blocks}

-- ---- sums over planned nodes

rest_of : {A : Type 0} (P : A → Type 0) (x : A) (xs : List A) → All P (x ∷ xs) → All P xs
rest_of P x xs all = λ k d lt. all (suc k) d (omega (arith, lt))

sum_total : (f : ℕ → ℕ) (v : PlannedNode → ℕ) (nodes : List PlannedNode) → All (λ (p : PlannedNode). v p ≡ f p.number) nodes → sum_by v nodes ≡ total f (numbers_in nodes)
sum_total f v [] all = refl
sum_total f v (p ∷ ps) all =
    let first : v p ≡ f p.number = all 0 p (omega arith) in
    sum_by-cons v p ps ∙ (λ i. first i + sum_total f v ps (rest_of (λ (q : PlannedNode). v q ≡ f q.number) p ps all) i)

pages_most : (nodes : List PlannedNode) → All (λ (p : PlannedNode). length (page_blocks p.pages) ≤ p.metadata) nodes → length (pages_in nodes) ≤ metadata_given nodes
pages_most [] all = omega arith
pages_most (p ∷ ps) all =
    let first : length (page_blocks p.pages) ≤ p.metadata = all 0 p (omega arith) in
    let rest = pages_most ps (rest_of (λ (q : PlannedNode). length (page_blocks q.pages) ≤ q.metadata) p ps all) in
    let both : length (pages_in (p ∷ ps)) ≡ length (page_blocks p.pages) + length (pages_in ps) = ap (λ (bs : List ℕ). length bs) (flat_map-cons (λ (q : PlannedNode). page_blocks q.pages) p ps) ∙ length-append (page_blocks p.pages) (pages_in ps) in
    let sum : metadata_given (p ∷ ps) ≡ p.metadata + metadata_given ps = sum_by-cons (λ (q : PlannedNode). q.metadata) p ps in
    omega (arith, first, rest, both, sum)

number_from : (least : ℕ) (nodes : List PlannedNode) (k : ℕ) (d : PlannedNode) → Ascend least nodes → k < length nodes → least ≤ (get_or nodes k d).number
number_from least [] k d ascend lt = absurd (omega (arith, lt))
number_from least (p ∷ ps) zero d ascend lt = ascend.0
number_from least (p ∷ ps) (suc k) d ascend lt = let low = ascend.0 in omega (arith, low, number_from (p.number + 1) ps k d ascend.2 (omega (arith, lt)))

-- each is what is planned of its number
pub planned_at : (least : ℕ) (nodes : List PlannedNode) (k : ℕ) (d : PlannedNode) → Ascend least nodes → k < length nodes → planned_of nodes (get_or nodes k d).number ≡ Some (get_or nodes k d)
planned_at least [] k d ascend lt = absurd (omega (arith, lt))
planned_at least (p ∷ ps) zero d ascend lt = here_of p ps
planned_at least (p ∷ ps) (suc k) d ascend lt =
    let q : PlannedNode = get_or ps k d in
    let above = number_from (p.number + 1) ps k d ascend.2 (omega (arith, lt)) in
    let apart : (p.number == q.number) ≡ false = grind (arith, nat_tests) in
    ap (λ (t : Bool). cond t (Some p) (planned_of ps q.number)) apart ∙ planned_at (p.number + 1) ps k d ascend.2 (omega (arith, lt))

-- ---- the free blocks

-- the zeros of some counts, as places and as a count
zeros_counted : (cs : List ℕ) (b n : ℕ) → b + n ≤ length cs → length (zeros_from b (drop b (take (b + n) cs))) ≡ zeros_in cs b n
zeros_counted cs b zero le = none (drop b (take (b + zero) cs)) (omega (arith, length-drop b (take (b + zero) cs), length-take (b + zero) cs))
  where
    none : (xs : List ℕ) → length xs ≤ 0 → length (zeros_from b xs) ≡ 0
    none [] le = refl
    none (x ∷ xs) le = absurd (omega (arith, le))
zeros_counted cs b (suc n) le =
    let part : List ℕ = take (b + suc n) cs in
    let long : b < length part = omega (arith, length-take (b + suc n) cs, le) in
    let one : suc b ≡ b + 1 = omega arith in
    let more : b + suc n ≡ b + 1 + n = omega arith in
    let rest : drop (suc b) part ≡ drop (b + 1) (take (b + 1 + n) cs) = λ i. drop (one i) (take (more i) cs) in
    let first : get_or part b 0 ≡ get_or cs b 0 = get_or-take (b + suc n) cs b 0 (omega arith) in
    ap (λ (xs : List ℕ). length (zeros_from b xs)) (drop-cons part b 0 long ∙ (λ i. first i ∷ rest i)) ∙ by (get_or cs b 0 == 0) (zeros_counted cs (b + 1) n (omega (arith, le)))
  where
    by : (t : Bool) → length (zeros_from (b + 1) (drop (b + 1) (take (b + 1 + n) cs))) ≡ zeros_in cs (b + 1) n
        → length (cond t (b ∷ zeros_from (b + 1) (drop (b + 1) (take (b + 1 + n) cs))) (zeros_from (b + 1) (drop (b + 1) (take (b + 1 + n) cs)))) ≡ (cond t 1 0) + zeros_in cs (b + 1) n
    by true is = omega (arith, is)
    by false is = omega (arith, is)

pub area_counted : (l : Layout) (cs : List ℕ) → area_start l ≤ l.blocks → l.blocks ≤ length cs → length (zeros_from (area_start l) (drop (area_start l) (take l.blocks cs))) ≡ free_in l cs
area_counted l cs low le =
    let all : area_start l + (l.blocks - area_start l) ≡ l.blocks = omega (arith, low) in
    ap (λ (n : ℕ). length (zeros_from (area_start l) (drop (area_start l) (take n cs)))) (sym all) ∙ zeros_counted cs (area_start l) (l.blocks - area_start l) (omega (arith, all, le))

-- ---- over an image of the last point

module _ (r : Rules) (m : Machine) (old : List Block) (blocks : ℕ) (s : PointState) (g : Gathered) (inodes : List Inode) (shares : SharesNothing r) (holds : HoldsPoint r m old s) (sized : IsOfSize blocks s) (gathered : IsGathered s g)
    (over : ArePlannedOver r m old s g) (after : AreInodesAfter s g inodes) where
  module _ (gets : DirtyGetBlocks) (new_is : NewMetadataIs) where
    have_blocks : DirtyHaveBlocks m (placed_after r m (blocks_told g.lines))
    have_blocks =
        let may = (reported r m old blocks s g shares holds sized gathered).point.may in
        let told = told_blocks r m old blocks s g shares holds sized gathered in
        gets r old m (blocks_told g.lines) shares.threshold holds.stands holds.coherent (subst (λ (bs : List ℕ). may_be_fresh r m bs ≡ true) told may)

    -- a planned node has the metadata that the formula gives it
    node_is : All (λ (p : PlannedNode). p.metadata ≡ node_metadata m.tree (kept_and_dirty m) p.number) g.nodes
    node_is k d lt =
        let pages = has_pages r m old blocks s g shares holds sized gathered in
        let p : PlannedNode = get_or g.nodes k d in
        let at : planned_of g.nodes p.number ≡ Some p = planned_at 1 g.nodes k d gathered.nodes.ascend lt in
        let planned : NodeIsPlanned old pages.new s.dirty.overlay m (placed_after r m (blocks_told g.lines)) p.number p.is p.added p.dropped (page_blocks p.pages) =
        subst (λ (o : Option PlannedNode). NodeIsPlanned old pages.new s.dirty.overlay m (placed_after r m (blocks_told g.lines)) p.number (inode_or o (inode_before old p.number)) (added_in o) (dropped_in o) (taken_by o)) at
        (over.nodes.each pages.new pages.live pages.stand p.number) in
        let kind : told p.is ≡ option_map info (node_now old s.dirty.overlay p.number) = subst (λ (o : Option PlannedNode). told (inode_or o (inode_before old p.number)) ≡ option_map info (node_now old s.dirty.overlay p.number)) at (over.nodes.kinds p.number) in
        over.metadata pages.new pages.live pages.stand k d lt
        ∙ sym (new_is r old pages.new s.dirty.overlay m (placed_after r m (blocks_told g.lines)) p.number p.is p.added p.dropped (page_blocks p.pages) holds.stands holds.coherent holds.staged have_blocks planned kind (gathered.nodes.shapes k d lt))

    given_is : metadata_given g.nodes ≡ total (node_metadata m.tree (kept_and_dirty m)) (numbers_in g.nodes)
    given_is = sum_total (node_metadata m.tree (kept_and_dirty m)) (λ (p : PlannedNode). p.metadata) g.nodes node_is

    had_is : metadata_had g.nodes ≡ total (λ n. length (node_metas old n (inode_before old n))) (numbers_in g.nodes)
    had_is = sum_total (λ n. length (node_metas old n (inode_before old n))) (λ (p : PlannedNode). p.metadata_before) g.nodes
        (λ k d lt.
        let p : PlannedNode = get_or g.nodes k d in
        let was : p.was ≡ inode_before old p.number = sym (gathered.nodes.had k d lt) ∙ holds.nodes p.number in
        over.before k d lt ∙ ap (λ (x : Inode). length (node_metas old p.number x)) was)

    module _ (old_blocks : OldInodeBlocksAre) (new_blocks : InodeBlocksAre) (counted : MetadataIsCounted) (some : SomeNumbers) (free_counted : FreeIsCounted) where
      blocks_before : inode_blocks m.stored_tree ≡ used_positions s.inodes.inodes
      blocks_before = old_blocks old (stored m) s.inodes.inodes holds.stands holds.nodes

      blocks_after : inode_blocks m.tree ≡ used_positions inodes
      blocks_after = new_blocks r old s.dirty.overlay m inodes holds.coherent holds.staged
          (λ n. ap told (after n ∙ ap (inode_or (planned_of g.nodes n)) (holds.nodes n)) ∙ over.nodes.kinds n)

      metadata_is : metadata_blocks m.tree (kept_and_dirty m) + (metadata_had g.nodes + used_positions s.inodes.inodes) ≡ s.metadata + (metadata_given g.nodes + used_positions inodes)
      metadata_is = regroup _ _ _ _ _ _ _ _ _ _ _ (counted r old s.dirty.overlay m (numbers_in g.nodes) holds.stands holds.coherent holds.staged gathered.nodes.numbers) blocks_before blocks_after holds.metadata had_is given_is
        where
          regroup : (all ib used had_sum had kept ia used_after given_sum given s_metadata : ℕ) → all + (ib + had_sum) ≡ kept + (ia + given_sum) → ib ≡ used → ia ≡ used_after → s_metadata ≡ kept → had ≡ had_sum → given ≡ given_sum
              → all + (had + used) ≡ s_metadata + (given + used_after)
          regroup all ib used had_sum had kept ia used_after given_sum given s_metadata e a b c d f = omega (arith, e, a, b, c, d, f)

      pages_are : (1 + used_positions inodes) + length (pages_in g.nodes) ≤ metadata_blocks m.tree (kept_and_dirty m)
      pages_are = let few = has_pages r m old blocks s g shares holds sized gathered in most _ _ _ _ _ (some m.tree (kept_and_dirty m) (numbers_in g.nodes) holds.coherent.tree gathered.nodes.numbers.rises) (pages_most g.nodes (over.at_most few.new few.live few.stand)) blocks_after given_is
        where
          most : (ib used pages given all : ℕ) → {sum : ℕ} → 1 + ib + sum ≤ all → pages ≤ given → ib ≡ used → given ≡ sum → (1 + used) + pages ≤ all
          most ib used pages given all le few a b = omega (arith, le, few, a, b)

      free_is : free_of m ≡ g.free
      free_is =
          let l : Layout = layout_of s.geometry in
          let layout : l ≡ layout_in old = sym (ap (λ x. layout_of x) sized.root) ∙ ap (λ x. x.layout) holds.root in
          let valid = holds.stands.fits.geometry.valid in
          let low : area_start l ≤ l.blocks = subst (λ (x : Layout). area_start x ≤ x.blocks) (sym layout) (omega (arith, valid.area_at_least)) in
          let many : l.blocks ≤ length s.counts.counts = omega (arith, sized.counts) in
          sym (gathered.free ∙ area_counted l s.counts.counts low many ∙ (λ i. free_in (layout i) (holds.counts i)) ∙ free_counted old (stored m) holds.stands ∙ ap (λ (x : Layout). free_blocks x m.stored_tree m.stored_places) (sym holds.stands.layout))

      left_is : length g.left + (length (pages_in g.nodes) + g.dirty) ≡ g.free
      left_is =
          let up = (free_now_is_free.unused r m old blocks s holds sized).ascend in
          let one = parted_length (free_now s) (blocks_told g.lines) (pages_in g.nodes ++ g.left) up gathered.parted in
          let two = length-append (pages_in g.nodes) g.left in
          let three : length (blocks_told g.lines) ≡ g.dirty = length-map (lines_places g.lines) (λ e. e.1) ∙ sym (length-map (lines_places g.lines) (λ e. e.0)) ∙ ap (λ spots. length spots) gathered.spots ∙ sym gathered.dirty in
          omega (arith, one, two, three, gathered.free)

      pub is_counted : IsCounted m s g inodes
      is_counted = record {
        free = free_is;
        dirty = sym (gathered.dirty ∙ ap (λ spots. length spots) holds.staged.dirty);
        metadata = metadata_is;
        pages = pages_are;
        left = left_is;
      }
