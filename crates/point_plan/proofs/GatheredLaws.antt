-- What was gathered, over an image of the last point.
use Rattle.std.proofs.Common.{◌≡◌, ℕ, zero, suc, ◌+◌, ◌<◌, ◌≤◌, Bool, true, false, List, [], ◌∷◌, ◌++◌, length, refl, sym, ap, subst, ◌∙◌, arith}
use Rattle.std.specs.Prelude.{◌&&◌, All, nat_le, nat_lt}
use Rattle.std.proofs.lemmas.List.{map-append}
use Rattle.std.proofs.lemmas.List.Concat.{flat_map-cons}
use Rattle.std.proofs.lemmas.Bool.Decides.{nat_tests}
use Rattle.vol_numbers.specs.Geometry.{layout_of}
use Rattle.vol_numbers.specs.Layout.{Layout, area_start}
use Rattle.vol_numbers.specs.declared.block.Block.{Block}
use Rattle.vol_numbers.specs.declared.runs.Page.{Page}
use Rattle.block_format.specs.Root.{Root}
use Rattle.block_tree.specs.Notes.{Stand, page_blocks}
use Rattle.block_tree.specs.Tree.{blocks_in}
use Rattle.fresh_runs.specs.Fresh.{blocks_in as blocks_told}
use Rattle.fresh_runs.specs.Laws.{AreFreshLines, AreUnused, fresh_report}
use Rattle.fresh_runs.proofs.Reported.{fresh_is_reported, nothing_is_shared}
use Rattle.image_model.specs.Findings.{is_in_area}
use Rattle.image_model.specs.Live.{IsLive}
use Rattle.image_model.specs.Stands.{layout_in}
use Rattle.place_words.specs.Different.{times}
use Rattle.place_words.proofs.Counting.{times_among}
use Rattle.point_model.specs.PointPlan.{LiveStays}
use Rattle.point_plan.specs.Free.{IsFree, free_now}
use Rattle.point_plan.specs.Gathered.{IsGathered, pages_in}
use Rattle.point_plan.specs.Planning.{SharesNothing}
use Rattle.point_plan.specs.State.{HoldsPoint, IsOfSize}
use Rattle.point_plan.specs.declared.gathering.Gathered.{Gathered}
use Rattle.point_plan.specs.declared.planned_node.PlannedNode.{PlannedNode}
use Rattle.point_plan.specs.declared.state.PointState.{PointState}
use Rattle.point_plan.proofs.FreeBlocks.{free_now_is_free}
use Rattle.point_plan.proofs.Times.{times_append}
use Rattle.point_plan.proofs.WrittenImage.{all_pages, others_stay, pages_stand, with_pages}
use Rattle.tree_model.specs.declared.report.Line.{Line}
use Rattle.volume_model.specs.Machine.{Machine, Rules}
use Rattle.volume_model.specs.Point.{fresh_in, share_lines}
use Rattle.volume_model.specs.ReportLaws.{IsReport}

none_long : {A : Type 0} (xs : List A) → length xs ≤ 0 → xs ≡ []
none_long [] le = refl
none_long (x ∷ xs) le = absurd (omega (arith, le))

-- the blocks of all pages
pub blocks_of_pages : (nodes : List PlannedNode) → page_blocks (all_pages nodes) ≡ pages_in nodes
blocks_of_pages [] = refl
blocks_of_pages (p ∷ ps) =
    ap page_blocks (flat_map-cons (λ (q : PlannedNode). q.pages) p ps) ∙ map-append (λ (q : Page). q.at) p.pages (all_pages ps)
    ∙ ap (λ (bs : List ℕ). page_blocks p.pages ++ bs) (blocks_of_pages ps) ∙ sym (flat_map-cons (λ (q : PlannedNode). page_blocks q.pages) p ps)

abbrev AllStand : (ℕ → List ℕ) → List Page → Type 0
AllStand read pages = All (λ (q : Page). read q.at ≡ q.block.bytes) pages

stand_more : (read : ℕ → List ℕ) (x : Page) (xs : List Page) → read x.at ≡ x.block.bytes → AllStand read xs → AllStand read (x ∷ xs)
stand_more read x xs first rest zero d lt = first
stand_more read x xs first rest (suc k) d lt = rest k d (omega (arith, lt))

front : (read : ℕ → List ℕ) (xs ys : List Page) → AllStand read (xs ++ ys) → AllStand read xs
front read [] ys each = λ k d lt. absurd (omega (arith, lt))
front read (x ∷ xs) ys each = stand_more read x xs (each 0 x (omega arith)) (front read xs ys (λ k d lt. each (suc k) d (omega (arith, lt))))

behind : (read : ℕ → List ℕ) (xs ys : List Page) → AllStand read (xs ++ ys) → AllStand read ys
behind read [] ys each = each
behind read (x ∷ xs) ys each = behind read xs ys (λ k d lt. each (suc k) d (omega (arith, lt)))

nodes_more : (read : ℕ → List ℕ) (p : PlannedNode) (ps : List PlannedNode) → Stand p.pages read → All (λ (q : PlannedNode). Stand q.pages read) ps → All (λ (q : PlannedNode). Stand q.pages read) (p ∷ ps)
nodes_more read p ps first rest zero d lt = first
nodes_more read p ps first rest (suc k) d lt = rest k d (omega (arith, lt))

-- where all pages stand, those of each node do
pub each_stands : (read : ℕ → List ℕ) (nodes : List PlannedNode) → AllStand read (all_pages nodes) → All (λ (p : PlannedNode). Stand p.pages read) nodes
each_stands read [] all = λ k d lt. absurd (omega (arith, lt))
each_stands read (p ∷ ps) all =
    let joined : AllStand read (p.pages ++ all_pages ps) = subst (AllStand read) (flat_map-cons (λ (q : PlannedNode). q.pages) p ps) all in
    nodes_more read p ps (record { each = front read p.pages (all_pages ps) joined }) (each_stands read ps (behind read p.pages (all_pages ps) joined))

-- an image in which the pages stand, with the live blocks as they were
pub record HasPages (old : List Block) (nodes : List PlannedNode) : Type 0 where
  pub new : List Block
  pub live : LiveStays old new
  pub stand : All (λ (p : PlannedNode). Stand p.pages (blocks_in new)) nodes

-- ---- lines

module _ (r : Rules) (m : Machine) (old : List Block) (blocks : ℕ) (s : PointState) (lines : List Line) (left : List ℕ) (shares : SharesNothing r) (holds : HoldsPoint r m old s) (sized : IsOfSize blocks s)
    (fresh : AreFreshLines m lines) (parted : (b : ℕ) → times b (blocks_told lines) + times b left ≡ times b (free_now s)) where
  none_shared : share_lines r m ≡ []
  none_shared =
      let most = holds.coherent.cache.at_most in
      let none = shares.capacity in
      nothing_is_shared r m shares.threshold holds.coherent.whole (none_long m.cache (omega (arith, most, none)))

  unused : AreUnused m (free_now s)
  unused = free_now_is_free.unused r m old blocks s holds sized

  -- lines that have the dirty places are those of a report
  pub lines_reported : IsReport r m (fresh_report r m lines)
  lines_reported = fresh_is_reported.report r m lines (free_now s) left shares.threshold holds.coherent.whole none_shared fresh unused parted

  pub lines_told : fresh_in (fresh_report r m lines) ≡ blocks_told lines
  lines_told = fresh_is_reported.told r m lines fresh

-- ---- an image with pages

module _ (r : Rules) (m : Machine) (old : List Block) (blocks : ℕ) (s : PointState) (nodes : List PlannedNode) (holds : HoldsPoint r m old s) (sized : IsOfSize blocks s)
    (most : (b : ℕ) → times b (pages_in nodes) ≤ times b (free_now s)) where
  page_free : (b : ℕ) → 1 ≤ times b (pages_in nodes) → IsFree old b
  page_free b some = free_now_is_free.free r m old blocks s holds sized b (times_among b (free_now s) (omega (arith, some, most b)))

  in_image : (b : ℕ) → IsFree old b → b < length old
  in_image b free = within (layout_in old) free.area holds.stands.fits.size
    where
      within : (l : Layout) → is_in_area l b ≡ true → l.blocks ≡ length old → b < length old
      within l area size = by (nat_le (area_start l) b) (nat_lt b l.blocks) refl area
        where
          by : (t u : Bool) → nat_lt b l.blocks ≡ u → (t && u) ≡ true → b < length old
          by true true is e = let lt : b < l.blocks = grind (arith, nat_tests) in omega (arith, lt, size)
          by true false is e = cc
          by false u is e = cc

  -- pages for free blocks stand in some image
  pub some_pages : HasPages old nodes
  some_pages =
      let same : (b : ℕ) → times b (page_blocks (all_pages nodes)) ≡ times b (pages_in nodes) = λ b. ap (times b) (blocks_of_pages nodes) in
      record {
        new = with_pages old (all_pages nodes);
        live = λ b live. others_stay old (all_pages nodes) b (none b live (same b));
        stand = each_stands (blocks_in (with_pages old (all_pages nodes))) nodes
            (pages_stand old (all_pages nodes) (λ b. omega (arith, same b, most b, free_now_is_free.once s b)) (λ b some. in_image b (page_free b (omega (arith, some, same b)))));
      }
    where
      none : (b : ℕ) → IsLive old b → times b (page_blocks (all_pages nodes)) ≡ times b (pages_in nodes) → times b (page_blocks (all_pages nodes)) ≡ 0
      none b live e = by (times b (pages_in nodes)) refl e
        where
          by : (n : ℕ) → times b (pages_in nodes) ≡ n → times b (page_blocks (all_pages nodes)) ≡ times b (pages_in nodes) → times b (page_blocks (all_pages nodes)) ≡ 0
          by zero is e = e ∙ is
          by (suc n) is e = absurd ((page_free b (omega (arith, is))).not_live live)

-- ---- all of it

module _ (r : Rules) (m : Machine) (old : List Block) (blocks : ℕ) (s : PointState) (g : Gathered) (shares : SharesNothing r) (holds : HoldsPoint r m old s) (sized : IsOfSize blocks s) (gathered : IsGathered s g) where
  pub layout_is : layout_of s.geometry ≡ layout_in old
  layout_is = sym (ap (λ x. layout_of x) sized.root) ∙ ap (λ (x : Root). x.layout) holds.root

  pub lines_are : AreFreshLines m g.lines
  lines_are = record { spots = gathered.spots ∙ holds.staged.dirty; longest = gathered.longest }

  pub reported : IsReport r m (fresh_report r m g.lines)
  reported = lines_reported r m old blocks s g.lines (pages_in g.nodes ++ g.left) shares holds sized lines_are gathered.parted

  pub told : fresh_in (fresh_report r m g.lines) ≡ blocks_told g.lines
  told = lines_told r m old blocks s g.lines (pages_in g.nodes ++ g.left) shares holds sized lines_are gathered.parted

  pub has_pages : HasPages old g.nodes
  has_pages = some_pages r m old blocks s g.nodes holds sized (λ b. omega (arith, gathered.parted b, times_append b (pages_in g.nodes) g.left))
