-- What is put together is a plan.
use Rattle.std.proofs.Common.{◌≡◌, ℕ, ◌+◌, ◌<◌, ◌≤◌, ◌^◌, true, false, List, ◌++◌, length, refl, sym, ap, subst, ◌∙◌, arith, ⊎_elim}
use Rattle.std.specs.Prelude.{◌%◌, slice_index}
use Rattle.std.specs.List.{flat_map}
use Rattle.vol_numbers.specs.Geometry.{layout_of}
use Rattle.vol_numbers.specs.Layout.{Layout, IsValid}
use Rattle.vol_numbers.specs.declared.block.Block.{Block}
use Rattle.block_format.specs.Index.{IsPointer}
use Rattle.block_format.specs.Inode.{pointer_of}
use Rattle.block_format.specs.Root.{Root}
use Rattle.block_format.specs.declared.root.RootBody.{RootBody}
use Rattle.block_tree.specs.Notes.{page_blocks}
use Rattle.block_tree.specs.declared.plan.Rewritten.{Rewritten}
use Rattle.fresh_runs.specs.Fresh.{blocks_in as blocks_told}
use Rattle.fresh_runs.specs.Laws.{AreFreshLines, fresh_report}
use Rattle.fresh_runs.proofs.Parting.{distinct_of_times}
use Rattle.fresh_runs.proofs.Reported.{fresh_is_reported}
use Rattle.image_model.specs.Plan.{taken_in}
use Rattle.image_model.specs.Point.{TakesFree}
use Rattle.image_model.specs.Stands.{Stands, layout_in}
use Rattle.image_model.proofs.Area.{among_times}
use Rattle.inode_file.specs.Inodes.{inode_of}
use Rattle.place_words.specs.Different.{Distinct, is_among, span, times}
use Rattle.place_words.proofs.Counting.{times_among}
use Rattle.point_model.specs.Laws.{IsPlannedFor, IsSeenAsPlanned, PlannedIsSeen, PlannedStands}
use Rattle.point_plan.specs.Carries.{Carries}
use Rattle.point_plan.specs.Free.{IsFree, free_now}
use Rattle.point_plan.specs.Gathered.{pages_in}
use Rattle.point_plan.specs.Laws.{IsMadeFor}
use Rattle.point_plan.specs.Made.{AreCountsMoved, AreInodesPlanned, AreNodesPlanned, IsRootPlanned, taken_by}
use Rattle.point_plan.specs.Nodes.{all_added, planned_of}
use Rattle.point_plan.specs.Planning.{blocks_written, with_free}
use Rattle.point_plan.specs.PutTogether.{IsPutTogether, made_plan}
use Rattle.point_plan.specs.declared.gathering.Gathered.{Gathered}
use Rattle.point_plan.specs.declared.planned.Plan.{Plan}
use Rattle.point_plan.specs.declared.state.PointState.{PointState}
use Rattle.point_plan.proofs.CountsPlanned.{listed}
use Rattle.point_plan.proofs.FreeBlocks.{free_now_is_free}
use Rattle.point_plan.proofs.GatheredLaws.{layout_is as gathered_layout, lines_are as gathered_lines, reported as gathered_report, told as gathered_told}
use Rattle.point_plan.proofs.Times.{times_append}
use Rattle.point_plan.proofs.Whole.{made_inode, made_is_planned}
use Rattle.volume_model.specs.Lines.{line_blocks}
use Rattle.volume_model.specs.Machine.{Machine, Rules, free_of, stored}
use Rattle.volume_model.specs.Point.{after_point, fresh_in, next_point, placed_after}
use Rattle.volume_model.specs.ReportLaws.{IsReport}
use Rattle.volume_model.specs.Short.{is_short}

-- a block among two lists is counted in one
both_times : (written rest free : ℕ) → written + rest ≡ free → free ≤ 1 → written ≤ 1
both_times written rest free is le = omega (arith, is, le)

small_pointer : (g : Layout) (b : ℕ) → IsValid g → IsPointer g b → b < 2 ^ 32
small_pointer g b valid pointer = ⊎_elim (λ none. omega (arith, none)) (λ area. let lt = area.1 in let most = valid.blocks_at_most in omega (arith, lt, most)) pointer

module _ (r : Rules) (m : Machine) (old : List Block) (blocks : ℕ) (s after : PointState) (g : Gathered) (w : Rewritten) (root : RootBody) (free : ℕ) (put : IsPutTogether r m old blocks s after g w root free) where
  abbrev plan : Plan
  plan = made_plan g w root free

  abbrev fresh : List ℕ
  fresh = fresh_in plan.report

  layout_is : layout_of s.geometry ≡ layout_in old
  layout_is = gathered_layout r m old blocks s g put.shares put.holds put.sized put.gathered

  lines_are : AreFreshLines m g.lines
  lines_are = gathered_lines r m old blocks s g put.shares put.holds put.sized put.gathered

  reported : IsReport r m (fresh_report r m g.lines)
  reported = gathered_report r m old blocks s g put.shares put.holds put.sized put.gathered

  pub told : fresh ≡ blocks_told g.lines
  told = gathered_told r m old blocks s g put.shares put.holds put.sized put.gathered

  -- ---- the report

  number_is : root.point ≡ next_point m
  number_is =
      let point : s.current.body.point ≡ m.point = ap (λ (x : Root). x.point) put.holds.root ∙ sym put.holds.stands.point in
      put.next.point ∙ ap (λ (p : ℕ). (p + 1) % 2 ^ 64) point

  pub report_is : with_free plan.report (free_of (after_point r m fresh)) ≡ fresh_report r m g.lines
  report_is =
      let many : g.dirty ≡ line_blocks g.lines = put.gathered.dirty ∙ ap (λ spots. length spots) put.holds.staged.dirty ∙ sym (fresh_is_reported.many m g.lines lines_are) in
      let left : free_of (after_point r m fresh) ≡ free_of (after_point r m (blocks_told g.lines)) = ap (λ (bs : List ℕ). free_of (after_point r m bs)) told in
      λ i. record { number = number_is i; fresh = many i; shared = 0; free = left i; lines = g.lines }

  pub is_report : IsReport r m (with_free plan.report (free_of (after_point r m fresh)))
  is_report = subst (IsReport r m) (sym report_is) reported

  -- ---- blocks

  -- all that is written, with what is left, is free
  all_free : (b : ℕ) → times b (blocks_written plan) + times b put.inodes.rest ≡ times b (free_now s)
  all_free b =
      let one = times_append b (pages_in g.nodes ++ page_blocks w.pages) fresh in
      let two = times_append b (pages_in g.nodes) (page_blocks w.pages) in
      let three = times_append b (pages_in g.nodes) g.left in
      let four : times b g.left ≡ times b (page_blocks w.pages) + times b put.inodes.rest = ap (times b) (sym put.inodes.taken) ∙ times_append b (page_blocks w.pages) put.inodes.rest in
      let five : times b fresh ≡ times b (blocks_told g.lines) = ap (times b) told in
      omega (arith, one, two, three, four, five, put.gathered.parted b)

  pub written_once : (b : ℕ) → times b (blocks_written plan) ≤ 1
  written_once b = both_times (times b (blocks_written plan)) (times b put.inodes.rest) (times b (free_now s)) (all_free b) (free_now_is_free.once s b)

  pub written_free : (b : ℕ) → 1 ≤ times b (blocks_written plan) → IsFree old b
  written_free b some = free_now_is_free.free r m old blocks s put.holds put.sized b (times_among b (free_now s) (omega (arith, some, all_free b)))

  pub once : Distinct (blocks_written plan)
  once = distinct_of_times (blocks_written plan) written_once

  pub are_free : (b : ℕ) → is_among (blocks_written plan) b ≡ true → IsFree old b
  are_free b among = written_free b (among_times b (blocks_written plan) among)

  -- ---- what the steps of planning give

  -- what is taken for metadata and for files is what is written
  taken_is : (b : ℕ) → times b (taken_in w.added (λ n. taken_by (planned_of g.nodes n)) ++ fresh) ≡ times b (blocks_written plan)
  taken_is b =
      let pages : List ℕ = flat_map (λ n. taken_by (planned_of g.nodes n)) (span 0 65536) in
      let one = times_append b (w.added ++ pages) fresh in
      let two = times_append b w.added pages in
      let three : times b pages ≡ times b (pages_in g.nodes) = listed taken_by refl b g.nodes put.gathered.nodes.ascend in
      let four : times b w.added ≡ times b (page_blocks w.pages) = ap (times b) put.inodes.added in
      let five = times_append b (pages_in g.nodes ++ page_blocks w.pages) fresh in
      let six = times_append b (pages_in g.nodes) (page_blocks w.pages) in
      omega (arith, one, two, three, four, five, six)

  takes_free : TakesFree old (taken_in w.added (λ n. taken_by (planned_of g.nodes n))) fresh
  takes_free = record {
    free = λ b among. let is = written_free b (omega (arith, among_times b _ among, taken_is b)) in (is.area, is.uncounted);
    once = λ b. omega (arith, written_once b, taken_is b);
  }

  -- a block with a pointer that comes is free, and only one comes
  added_once : (b : ℕ) → times b (w.added ++ all_added g.nodes) ≤ times b (blocks_written plan)
  added_once b =
      let one = times_append b w.added (all_added g.nodes) in
      let two : times b w.added ≡ times b (page_blocks w.pages) = ap (times b) put.inodes.added in
      let three = times_append b (pages_in g.nodes ++ page_blocks w.pages) fresh in
      let four = times_append b (pages_in g.nodes) (page_blocks w.pages) in
      let five : times b fresh ≡ times b (blocks_told g.lines) = ap (times b) told in
      omega (arith, one, two, three, four, five, put.gathered.used b)

  uncounted : (b : ℕ) → 1 ≤ times b (blocks_written plan) → slice_index s.counts.counts b ≡ 0
  uncounted b some = ap (λ (cs : List ℕ). slice_index cs b) put.holds.counts ∙ (written_free b some).uncounted

  moved : AreCountsMoved s.counts.counts after.counts.counts g.nodes w
  moved = record {
    long = put.counts.long;
    moved = put.counts.moved;
    fits = λ b some. small (times b (w.added ++ all_added g.nodes)) (times b (blocks_written plan)) (slice_index s.counts.counts b) (added_once b) (written_once b) (uncounted b (omega (arith, some, added_once b)));
  }
    where
      small : (come written count : ℕ) → come ≤ written → written ≤ 1 → count ≡ 0 → count + come < 2 ^ 32
      small come written count le most none = omega (arith, le, most, none)

  valid : IsValid (layout_of s.geometry)
  valid = subst (λ g. IsValid (layout_of g)) put.sized.root put.sized.grammar.valid

  inodes_planned : AreInodesPlanned s.inodes after.inodes g.nodes w
  inodes_planned = record {
    whole = put.inodes.whole;
    settled = put.inodes.settled;
    inodes = put.inodes.inodes;
    stored = put.inodes.stored;
    some = put.inodes.some;
    pointers = put.inodes.pointers;
    small = λ n. small_pointer (layout_of s.geometry) (pointer_of (inode_of after.inodes.inodes n)) valid (put.inodes.within.inodes n).pointer;
  }

  -- the same plan, with the number of blocks that are free after the point
  abbrev known : Plan
  known = record plan { report = with_free plan.report (free_of (after_point r m fresh)) }

  root_planned : IsRootPlanned old m after.inodes known
  root_planned = record {
    layout = ap (λ g. layout_of g) put.next.geometry ∙ layout_is;
    point = number_is;
    records = put.next.records;
    log_used = put.next.log_used;
    index = put.next.index;
  }

  made : IsMadeFor r m old s after.inodes after.counts.counts known w
  made = record {
    nodes = subst (λ (bs : List ℕ). AreNodesPlanned old s.dirty.overlay m (placed_after r m bs) g.nodes) (sym told) put.over.nodes;
    inodes = inodes_planned;
    pages = refl;
    moved = moved;
    root = root_planned;
    free = takes_free;
  }

  pub planned_for : (new : List Block) → Carries old new s.dirty.overlay plan after.counts.counts → IsPlannedFor r old new s.dirty.overlay m known.report
  planned_for new carries = made_is_planned r m old new blocks s after.inodes after.counts.counts known w put.holds put.sized is_report made (record {
    live = carries.live;
    nodes = carries.nodes;
    inode_pages = carries.inode_pages;
    lines = carries.lines;
    there = carries.there;
    fits = carries.fits;
    root = carries.root;
    counts_stand = carries.counts_stand;
  })

  pub planned_inode : (new : List Block) (carries : Carries old new s.dirty.overlay plan after.counts.counts) (n : ℕ) → (planned_for new carries).inode n ≡ inode_of after.inodes.inodes n
  unfolding planned_for
  planned_inode new carries n = made_inode r m old new blocks s after.inodes after.counts.counts known w put.holds put.sized is_report made (record {
    live = carries.live;
    nodes = carries.nodes;
    inode_pages = carries.inode_pages;
    lines = carries.lines;
    there = carries.there;
    fits = carries.fits;
    root = carries.root;
    counts_stand = carries.counts_stand;
  }) n

  -- what is seen of such an image is what is planned
  pub seen_planned : PlannedIsSeen → is_short m ≡ false → (new : List Block) → Carries old new s.dirty.overlay plan after.counts.counts → IsSeenAsPlanned old new s.dirty.overlay (inode_of after.inodes.inodes)
  seen_planned seen long new carries =
      let is = seen r old new s.dirty.overlay m known.report
      (record { stands = put.holds.stands; holds = put.holds.staged; coherent = put.holds.coherent; is_report = is_report; long = long }) (planned_for new carries) in
      record {
        inodes = λ n. is.inodes n ∙ planned_inode new carries n;
        slots = λ n width height ptr has. is.slots n width height ptr (planned_inode new carries n ∙ has);
      }

  pub stands : PlannedStands → is_short m ≡ false → (new : List Block) → Carries old new s.dirty.overlay plan after.counts.counts → Stands new (stored (after_point r m fresh))
  stands planned_stands long new carries = planned_stands r old new s.dirty.overlay m known.report
      (record { stands = put.holds.stands; holds = put.holds.staged; coherent = put.holds.coherent; is_report = is_report; long = long }) (planned_for new carries)
