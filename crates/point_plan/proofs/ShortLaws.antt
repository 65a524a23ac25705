-- A point for whose nodes too few blocks are free is short.
use Rattle.std.proofs.Common.{◌≡◌, ℕ, zero, suc, ◌+◌, ◌<◌, ◌≤◌, Bool, true, cond, List, [], ◌∷◌, ◌++◌, length, get_or, take, refl, sym, ap, subst, ◌∙◌, arith}
use Rattle.std.specs.Prelude.{◌==◌, All, IsTrue, option_map}
use Rattle.std.specs.List.{AllZip}
use Rattle.std.proofs.lemmas.List.{length-append, length-map, take_more}
use Rattle.std.proofs.lemmas.List.Concat.{flat_map-cons}
use Rattle.std.proofs.lemmas.List.Elements.{All-head, All-tail}
use Rattle.vol_numbers.specs.Geometry.{layout_of}
use Rattle.vol_numbers.specs.Layout.{Layout, area_start}
use Rattle.vol_numbers.specs.declared.block.Block.{Block}
use Rattle.vol_numbers.specs.declared.runs.Change.{Change}
use Rattle.block_format.specs.declared.inode.Inode.{Inode}
use Rattle.block_format.specs.declared.inode.Inode.TheVariants.{Unused, File, Directory}
use Rattle.block_format.specs.declared.slot.Slot.{Slot}
use Rattle.block_tree.specs.Edit.{leaves_of}
use Rattle.block_tree.specs.Notes.{page_blocks}
use Rattle.dirty_store.specs.Numbers.{AreOnce, staged_numbers}
use Rattle.dirty_store.specs.Overlay.{node_of, least_cut}
use Rattle.fresh_runs.specs.Fresh.{blocks_in as blocks_told}
use Rattle.fresh_runs.specs.Laws.{AreFreshLines}
use Rattle.fresh_runs.specs.declared.placed.Placed.{Placed}
use Rattle.fresh_runs.proofs.Parting.{parted_length}
use Rattle.image_model.specs.Findings.{free_in}
use Rattle.image_model.specs.Meanings.{FreeIsCounted}
use Rattle.image_model.specs.Stands.{layout_in}
use Rattle.held_list.specs.Held.{slots_at}
use Rattle.inode_file.specs.Inodes.{inode_of}
use Rattle.node_plan.specs.Nodes.{left_after, need_of, rough_need}
use Rattle.tree_plan.specs.Pages.{slots_or_none, written_pages}
use Rattle.node_table.specs.Held.{info}
use Rattle.place_words.specs.Different.{different, times, total}
use Rattle.place_words.specs.Rising.{Rising}
use Rattle.point_model.specs.Holding.{inode_now, kind_of, node_now, slots_left, staged_or}
use Rattle.point_model.specs.PointPlan.{told as told_of}
use Rattle.point_plan.specs.Free.{free_now}
use Rattle.point_plan.specs.Gathered.{numbers_in, pages_in}
use Rattle.point_plan.specs.PlacedFresh.{ArePlacedFresh, ShortPoints}
use Rattle.point_plan.specs.PlanNodes.{AreAllOfPlaces, AreAtDirty, IsPlanOf, IsPlanOver, StopsShort, need_at}
use Rattle.point_plan.specs.Planning.{SharesNothing}
use Rattle.point_plan.specs.State.{HoldsPoint, IsOfSize}
use Rattle.point_plan.specs.declared.planned_node.PlannedNode.{PlannedNode}
use Rattle.point_plan.specs.declared.state.PointState.{PointState}
use Rattle.point_plan.proofs.FreeBlocks.{free_now_is_free}
use Rattle.point_plan.proofs.GatheredLaws.{lines_reported, lines_told, some_pages}
use Rattle.point_plan.proofs.NumberPlanned.{image_slots, node_held}
use Rattle.point_plan.proofs.PlacedLaws.{changes_dirty, changes_placed}
use Rattle.point_plan.proofs.RoomLaws.{area_counted}
use Rattle.point_plan.proofs.Times.{times_append}
use Rattle.point_space.specs.Laws.{DirtyGetBlocks, NewMetadataIs}
use Rattle.point_space.specs.Metadata.{DirtyHaveBlocks, node_metadata}
use Rattle.point_space.specs.Needs.{RoughNeeds, ShortWhere}
use Rattle.tree_model.specs.declared.report.Line.{Line}
use Rattle.volume_model.specs.Lines.{lines_places}
use Rattle.volume_model.specs.Machine.{Machine, Rules, free_of, stored}
use Rattle.volume_model.specs.Places.{Places, Spot}
use Rattle.volume_model.specs.Point.{may_be_fresh, placed_after}
use Rattle.volume_model.specs.Short.{is_short, kept_and_dirty}
use Rattle.volume_model.specs.Space.{free_blocks}

-- ---- the free blocks

module _ (r : Rules) (m : Machine) (old : List Block) (blocks : ℕ) (s : PointState) (holds : HoldsPoint r m old s) (sized : IsOfSize blocks s) where
  -- the counts in memory call as many blocks free as the machine has
  pub free_is : FreeIsCounted → length (free_now s) ≡ free_of m
  free_is counted =
      let l : Layout = layout_of s.geometry in
      let layout : l ≡ layout_in old = sym (ap (λ x. layout_of x) sized.root) ∙ ap (λ x. x.layout) holds.root in
      let valid = holds.stands.fits.geometry.valid in
      let low : area_start l ≤ l.blocks = subst (λ (x : Layout). area_start x ≤ x.blocks) (sym layout) (omega (arith, valid.area_at_least)) in
      let many : l.blocks ≤ length s.counts.counts = omega (arith, sized.counts) in
      area_counted l s.counts.counts low many ∙ (λ i. free_in (layout i) (holds.counts i)) ∙ counted old (stored m) holds.stands ∙ ap (λ (x : Layout). free_blocks x m.stored_tree m.stored_places) (sym holds.stands.layout)

  -- fewer free blocks than dirty places
  pub places_are_short : FreeIsCounted → ShortWhere → length (free_now s) < length m.dirty → is_short m ≡ true
  places_are_short counted short few = short m [] holds.coherent.tree tt (omega (arith, few, free_is counted))

-- ---- sums

pages_few : (f : ℕ → ℕ) (nodes : List PlannedNode) → All (λ (p : PlannedNode). length (page_blocks p.pages) ≤ f p.number) nodes → length (pages_in nodes) ≤ total f (numbers_in nodes)
pages_few f [] all = omega arith
pages_few f (p ∷ ps) all =
    let first : length (page_blocks p.pages) ≤ f p.number = All-head (λ (q : PlannedNode). length (page_blocks q.pages) ≤ f q.number) p ps all in
    let rest = pages_few f ps (All-tail (λ (q : PlannedNode). length (page_blocks q.pages) ≤ f q.number) p ps all) in
    let both : length (pages_in (p ∷ ps)) ≡ length (page_blocks p.pages) + length (pages_in ps) = ap (λ (bs : List ℕ). length bs) (flat_map-cons (λ (q : PlannedNode). page_blocks q.pages) p ps) ∙ length-append (page_blocks p.pages) (pages_in ps) in
    omega (arith, first, rest, both)

total_more : (f : ℕ → ℕ) (ns : List ℕ) (n : ℕ) → total f (ns ++ n ∷ []) ≡ total f ns + f n
total_more f [] n = omega arith
total_more f (x ∷ xs) n = omega (arith, total_more f xs n)

rising_front : (least k : ℕ) (ns : List ℕ) → Rising least ns → Rising least (take k ns)
rising_front least zero ns rising = tt
rising_front least (suc k) [] rising = tt
rising_front least (suc k) (n ∷ ns) rising = (rising.0, rising_front (n + 1) k ns rising.1)

zip_get : (P : ℕ → List Change → Type 0) (ns : List ℕ) (cs : List (List Change)) (k : ℕ) → AllZip P ns cs → k < length ns → P (get_or ns k 0) (get_or cs k [])
zip_get P [] cs k all lt = absurd (omega (arith, lt))
zip_get P (n ∷ ns) [] k all lt = absurd all
zip_get P (n ∷ ns) (c ∷ cs) zero all lt = all.0
zip_get P (n ∷ ns) (c ∷ cs) (suc k) all lt = zip_get P ns cs k all.1 (omega (arith, lt))

-- ---- what a number needs at most

module _ (r : Rules) (m : Machine) (old : List Block) (s : PointState) (holds : HoldsPoint r m old s) (n : ℕ) (changes : List Change) (rough : RoughNeeds) (dirty : AreAtDirty m.dirty n changes) where
  abbrev worth : ℕ
  worth = node_metadata m.tree (kept_and_dirty m) n

  left_is : left_after s.dirty.overlay n (slots_or_none (slots_at s.directories n)) ≡ slots_left old s.dirty.overlay n
  left_is = ap (λ (ss : List Slot). cond (least_cut (node_of s.dirty.overlay n) == 0) [] ss) (ap slots_or_none (holds.directories n) ∙ image_slots old n)

  need_is : (x : Inode) → inode_now old s.dirty.overlay n ≡ x → need_of (different (leaves_of changes)) (length (written_pages (slots_left old s.dirty.overlay n) s.dirty.overlay n)) x ≤ worth + 8
  need_is Unused is = omega arith
  need_is (File size height ptr) is = (rough r old s.dirty.overlay m n changes holds.coherent holds.staged dirty).file (ap kind_of is)
  need_is (Directory width height ptr) is = (rough r old s.dirty.overlay m n changes holds.coherent holds.staged dirty).directory (ap kind_of is)

  pub need_at_most : rough_need s.dirty.overlay n (inode_of s.inodes.inodes n) (slots_or_none (slots_at s.directories n)) changes ≤ worth + 8
  need_at_most =
      let inode : staged_or (node_of s.dirty.overlay n) (inode_of s.inodes.inodes n) ≡ inode_now old s.dirty.overlay n = ap (staged_or (node_of s.dirty.overlay n)) (holds.nodes n) in
      subst (λ (k : ℕ). k ≤ worth + 8) (sym (λ i. need_of (different (leaves_of changes)) (length (written_pages (left_is i) s.dirty.overlay n)) (inode i))) (need_is (inode_now old s.dirty.overlay n) refl)

-- ---- numbers that are planned until too few blocks are left

module _ (r : Rules) (m : Machine) (old : List Block) (blocks : ℕ) (s : PointState) (lines : List Line) (left : List ℕ) (shares : SharesNothing r) (holds : HoldsPoint r m old s) (sized : IsOfSize blocks s)
    (fresh : AreFreshLines m lines) (parted : (b : ℕ) → times b (blocks_told lines) + times b left ≡ times b (free_now s)) where
  abbrev placed : Places
  placed = placed_after r m (blocks_told lines)

  have_blocks : DirtyGetBlocks → DirtyHaveBlocks m placed
  have_blocks gets =
      let may = (lines_reported r m old blocks s lines left shares holds sized fresh parted).point.may in
      gets r old m (blocks_told lines) shares.threshold holds.stands holds.coherent (subst (λ (bs : List ℕ). may_be_fresh r m bs ≡ true) (lines_told r m old blocks s lines left shares holds sized fresh parted) may)

  -- what is left are the free blocks without one for each dirty place
  left_many : length left + length m.dirty ≡ length (free_now s)
  left_many =
      let up = (free_now_is_free.unused r m old blocks s holds sized).ascend in
      let one = parted_length (free_now s) (blocks_told lines) left up parted in
      let two : length (blocks_told lines) ≡ length m.dirty = length-map (lines_places lines) (λ e. e.1) ∙ sym (length-map (lines_places lines) (λ e. e.0)) ∙ ap (λ spots. length spots) fresh.spots in
      omega (arith, one, two)

  module _ (tells : Bool) (numbers : List ℕ) (changes : List (List Change)) (stops : StopsShort tells old s numbers changes left) (told : IsTrue tells) (rising : Rising 0 numbers)
      (places : AreAllOfPlaces m.dirty placed numbers changes) (dirty : AllZip (AreAtDirty m.dirty) numbers changes) (gets : DirtyGetBlocks) (new_is : NewMetadataIs) where
    most : (b : ℕ) → times b (pages_in stops.nodes) ≤ times b (free_now s)
    most b = omega (arith, parted b, ap (times b) stops.taken, times_append b (pages_in stops.nodes) stops.rest)

    -- a planned number has no more pages than the formula gives it metadata
    pages_at_most : All (λ (p : PlannedNode). length (page_blocks p.pages) ≤ node_metadata m.tree (kept_and_dirty m) p.number) stops.nodes
    pages_at_most k d lt =
        let pages = some_pages r m old blocks s stops.nodes holds sized most in
        let p : PlannedNode = get_or stops.nodes k d in
        let plan : IsPlanOf s p = stops.plans k d lt in
        let over : IsPlanOver old s m numbers changes p = stops.planned k d lt told r m holds in
        let kind : told_of p.is ≡ option_map info (node_now old s.dirty.overlay p.number) = plan.kind ∙ ap (option_map info) (node_held r m old s holds p.number) in
        let is = new_is r old pages.new s.dirty.overlay m placed p.number p.is p.added p.dropped (page_blocks p.pages) holds.stands holds.coherent holds.staged (have_blocks gets)
        (over.planned placed places pages.new pages.live (pages.stand k d lt)) kind plan.shape in
        omega (arith, over.at_most pages.new pages.live (pages.stand k d lt), over.metadata pages.new pages.live (pages.stand k d lt), is)

    pub nodes_are_short : FreeIsCounted → RoughNeeds → ShortWhere → is_short m ≡ true
    nodes_are_short counted rough short =
        let k : ℕ = stops.place in
        let n : ℕ = get_or numbers k 0 in
        let first : length (pages_in stops.nodes) ≤ total (node_metadata m.tree (kept_and_dirty m)) (take k numbers) = subst (λ (ns : List ℕ). length (pages_in stops.nodes) ≤ total (node_metadata m.tree (kept_and_dirty m)) ns) stops.listed (pages_few (node_metadata m.tree (kept_and_dirty m)) stops.nodes pages_at_most) in
        let here : need_at s numbers changes k ≤ node_metadata m.tree (kept_and_dirty m) n + 8 = need_at_most r m old s holds n (get_or changes k []) rough (zip_get (AreAtDirty m.dirty) numbers changes k dirty stops.within) in
        let more = ap (total (node_metadata m.tree (kept_and_dirty m))) (take_more numbers k 0 stops.within) ∙ total_more (node_metadata m.tree (kept_and_dirty m)) (take k numbers) n in
        short m (take (k + 1) numbers) holds.coherent.tree (rising_front 0 (k + 1) numbers rising) (omega (arith, first, here, more, stops.short, left_many, free_is r m old blocks s holds sized counted))

-- ---- all of it

module _ (gets : DirtyGetBlocks) (new_is : NewMetadataIs) (rough : RoughNeeds) (short : ShortWhere) (counted : FreeIsCounted) where
  stops : (r : Rules) (m : Machine) (old : List Block) (blocks : ℕ) (s : PointState) (numbers : List ℕ) (p : Placed) (tells : Bool) → SharesNothing r → HoldsPoint r m old s → IsOfSize blocks s
      → AreOnce (staged_numbers s.dirty.overlay) numbers → ArePlacedFresh s numbers p → StopsShort tells old s numbers p.changes.items p.left → IsTrue tells → is_short m ≡ true
  stops r m old blocks s numbers p tells shares holds sized once placed stop told =
      let fresh : AreFreshLines m p.lines = record { spots = placed.spots ∙ holds.staged.dirty; longest = placed.longest } in
      nodes_are_short r m old blocks s p.lines p.left shares holds sized fresh placed.parted tells numbers p.changes.items stop told once.rises
      (changes_placed r m old blocks s p.lines p.left shares holds sized fresh placed.parted numbers p.changes.items placed.changes) (changes_dirty m.dirty p.lines p.changes.items numbers fresh.spots placed.changes) gets new_is counted rough short

  pub short_points : ShortPoints
  short_points = record {
    free = λ r m old blocks s holds sized. free_is r m old blocks s holds sized counted;
    places = λ r m old blocks s holds sized few. places_are_short r m old blocks s holds sized counted short (subst (λ (spots : List Spot). length (free_now s) < length spots) holds.staged.dirty few);
    nodes = stops;
  }
