-- Memory before a plan is written, and after its root was switched to.
use Rattle.std.proofs.Common.{◌≡◌, ◌∙◌, ◌<◌, ℕ, false, List, length, inl, refl, sym, ap, subst, arith, inr, ⊎_elim}
use Rattle.std.specs.Prelude.{replicate, IsErrOf, IsErrAnd, Result, Ok, Err}
use Rattle.std.proofs.lemmas.List.{length-replicate}
use Rattle.vol_numbers.specs.Geometry.{layout_of}
use Rattle.vol_numbers.specs.Layout.{Layout, count_blocks}
use Rattle.vol_numbers.specs.declared.block.Block.{Block}
use Rattle.vol_numbers.specs.declared.geometry.Geometry.{Geometry}
use Rattle.disk_model.specs.Disk.{State, EachImage, IsImage, is_among}
use Rattle.block_format.specs.Root.{Root, root_of, HasGeometry}
use Rattle.block_format.specs.declared.root.RootBody.{RootBody}
use Rattle.block_tree.specs.Tree.{Blocks, blocks_in}
use Rattle.count_pairs.specs.Table.{AllStand, IsKept}
use Rattle.dirty_store.specs.Overlay.{Overlay, clean}
use Rattle.image_model.specs.Findings.{free_in}
use Rattle.image_model.specs.Seen.{seen}
use Rattle.image_model.specs.Stands.{Stands, layout_in}
use Rattle.image_model.proofs.ImageLaws.{kept_stands}
use Rattle.image_model.proofs.Kept.{image_keeps}
use Rattle.image_model.proofs.SpaceLaws.{free_seen}
use Rattle.point_plan.specs.Carries.{Carries}
use Rattle.point_plan.specs.Planning.{IsNextRoot, IsPlan, IsPlannedWithin, IsSettled, with_free}
use Rattle.point_plan.specs.State.{HoldsPoint, IsOfSize, IsStagedWithin}
use Rattle.point_plan.specs.declared.fault.PlanFault.{PlanFault}
use Rattle.point_plan.specs.declared.fault.PlanFault.TheVariants as plans
use Rattle.point_plan.specs.declared.planned.Plan.{Plan}
use Rattle.point_plan.specs.declared.state.PointState.{PointState}
use Rattle.root_switch.specs.Current.{root_of_image}
use Rattle.root_switch.specs.declared.reading.Current.{Current}
use Rattle.tree_model.specs.declared.report.Report.{Report}
use Rattle.volume_model.specs.Machine.{Machine, Rules, Stored, stored, free_of}
use Rattle.volume_model.specs.Point.{after_point, fresh_in}
use Rattle.volume_model.specs.ReportLaws.{IsReport}
use Rattle.volume_model.specs.Space.{free_blocks}
use Rattle.consistency_point.specs.Cause.{fault_of}
use Rattle.consistency_point.specs.Taking.{IsHeld, StandsBetween, StandsThrough}
use Rattle.consistency_point.specs.Writing.{HasSwitched, IsToBeWritten}
use Rattle.consistency_point.specs.declared.fault.PointFault.{PointFault}
use Rattle.consistency_point.specs.declared.fault.PointFault.TheVariants.{Damaged, Short}

-- ---- faults of a plan

-- a point that is called short, or damaged, was planned so
pub short_of : {T : Type 0} (r : Result T PointFault) (e : PlanFault) → IsErrAnd r (λ y. y ≡ fault_of e) → (free : ℕ) → IsErrOf r (Short free) → e ≡ plans.Short free
short_of (Ok v) e a free is = absurd a
short_of (Err y) e a free is = let inner : y ≡ Short free = cc in by e (sym a ∙ inner)
  where
    by : (e : PlanFault) → fault_of e ≡ Short free → e ≡ plans.Short free
    by plans.ReadFault eq = cc
    by (plans.Damaged b) eq = cc
    by plans.OutOfMemory eq = cc
    by (plans.Short f) eq = cc

pub damaged_of : {T : Type 0} (r : Result T PointFault) (e : PlanFault) → IsErrAnd r (λ y. y ≡ fault_of e) → (b : ℕ) → IsErrOf r (Damaged b) → e ≡ plans.Damaged b
damaged_of (Ok v) e a b is = absurd a
damaged_of (Err y) e a b is = let inner : y ≡ Damaged b = cc in by e (sym a ∙ inner)
  where
    by : (e : PlanFault) → fault_of e ≡ Damaged b → e ≡ plans.Damaged b
    by plans.ReadFault eq = cc
    by (plans.Damaged c) eq = cc
    by plans.OutOfMemory eq = cc
    by (plans.Short f) eq = cc

-- ---- before the first write

-- what stands by one of the points stands by some
pub through : (r : Rules) (m : Machine) (report : Report) → IsReport r m report → (s : State) → EachImage (StandsBetween r m report) s → EachImage (StandsThrough r m) s
through r m report is_report s each image is = ⊎_elim (λ stands. inl stands) (λ stands. inr (report, is_report, stands)) (each image is)

-- where nothing is unsynced each image stands for what is stored
held_image : (r : Rules) (m : Machine) (s : State) (state : PointState) → IsHeld r m s state → (image : List Block) → IsImage s image → Stands image (stored m)
held_image r m s state held image is =
    let synced : (k : ℕ) → is_among s.unsynced k ≡ false = λ k. ap (λ (u : List ℕ). is_among u k) held.synced in
    kept_stands s.contents image (stored m) (image_keeps s image (record { selector = synced 0; root = synced _; live = λ b live. synced b }) is) held.holds.stands

pub rest_through : (r : Rules) (m : Machine) (s u : State) (state : PointState) → IsHeld r m s state → u ≡ s → EachImage (StandsThrough r m) u
rest_through r m s u state held same = subst (EachImage (StandsThrough r m)) (sym same) (λ image is. inl (held_image r m s state held image is))

pub rest_between : (r : Rules) (m : Machine) (report : Report) (s u : State) (state : PointState) → IsHeld r m s state → u ≡ s → EachImage (StandsBetween r m report) u
rest_between r m report s u state held same = subst (EachImage (StandsBetween r m report)) (sym same) (λ image is. inl (held_image r m s state held image is))

module _ (r : Rules) (m : Machine) (s : State) (blocks : ℕ) (before after : PointState) (plan : Plan) (size : IsOfSize blocks before)
    (rest : after ≡ record before { inodes = after.inodes; counts = after.counts; directories = after.directories; metadata = after.metadata })
    (root : IsNextRoot before after plan) (within : IsPlannedWithin after) (keeps : (read : Blocks) (homes : List ℕ) → IsKept read homes before.counts → IsKept read homes after.counts)
    (is_plan : IsPlan r m s.contents before after plan) (held : IsHeld r m s before) where
  geometry_is : after.geometry ≡ before.geometry
  geometry_is = ap (λ (x : PointState). x.geometry) rest

  current_is : after.current ≡ before.current
  current_is = ap (λ (x : PointState). x.current) rest

  overlay_is : after.dirty.overlay ≡ before.dirty.overlay
  overlay_is = ap (λ (x : PointState). x.dirty.overlay) rest

  layout_is : layout_of before.geometry ≡ layout_in s.contents
  layout_is = ap layout_of (sym size.root) ∙ ap (λ (x : Root). x.layout) held.holds.root

  kept_before : IsKept (blocks_in s.contents) before.current.body.homes.bytes before.counts
  kept_before = record {
    each = λ i lt untouched. held.counted.each i (omega (arith, lt, ap length size.untouched, length-replicate (count_blocks (layout_of before.geometry)) false));
  }

  pub to_be_written : IsToBeWritten r m s after plan
  to_be_written = record {
    synced = held.synced;
    stands = held.holds.stands;
    planned = record {
      long = is_plan.long;
      report = is_plan.report;
      free = is_plan.free;
      once = is_plan.once;
      stands = λ new carries. is_plan.stands new (subst (λ (o : Overlay). Carries s.contents new o plan after.counts.counts) overlay_is carries);
      holds = λ new settled carries is_settled. is_plan.holds new settled (subst (λ (o : Overlay). Carries s.contents new o plan after.counts.counts) overlay_is carries) is_settled;
    };
    slot = ap (λ (x : Current). x.slot) current_is ∙ held.holds.slot;
    root = ap (λ (x : Current). root_of x.body) current_is ∙ held.holds.root;
    kept = subst (λ (x : Current). IsKept (blocks_in s.contents) x.body.homes.bytes after.counts) (sym current_is) (keeps (blocks_in s.contents) before.current.body.homes.bytes kept_before);
    layout = ap layout_of root.geometry ∙ layout_is;
    many = within.touched ∙ ap (λ (g : Geometry). count_blocks (layout_of g)) geometry_is ∙ ap count_blocks layout_is;
  }

-- ---- after the switch

-- the blocks of the area with count 0 are those that the formula counts
free_counted : (image : List Block) (s : Stored) → Stands image s → free_in (layout_in image) (seen image).kept ≡ free_blocks (layout_in image) s.tree s.places
unfolding seen
free_counted image s stands =
    free_seen (blocks_in image) (root_of_image image).inode_index (root_of_image image).homes (count_blocks (layout_in image)) (layout_in image) s stands.sound.pointers stands.sound.directories stands.sound.named stands.sound.counts stands.shows (omega (arith, stands.fits.geometry.valid.area_at_least))

module _ (state written after : PointState) (current : Current) (plan : Plan)
    (written_is : written ≡ record state { counts = record { counts = state.counts.counts; touched = replicate (length state.counts.touched) false } })
    (after_is : after ≡ record written { current = current; dirty = after.dirty }) (clean_is : after.dirty.overlay ≡ clean)
    (body_is : current.body ≡ record plan.root { homes = current.body.homes }) (root : IsNextRoot state state plan) where
  abbrev settled : PointState
  settled = record {
    geometry = state.geometry;
    current = current;
    counts = record { counts = state.counts.counts; touched = replicate (length state.counts.touched) false };
    inodes = state.inodes;
    directories = state.directories;
    metadata = state.metadata;
    dirty = after.dirty;
  }

  after_settled : after ≡ settled
  after_settled = after_is ∙ ap (λ (x : PointState). record x { current = current; dirty = after.dirty }) written_is

  -- on every disk memory is within the rules
  module _ (blocks : ℕ) (size : (layout_of state.geometry).blocks ≡ blocks) (slot : current.slot < 2) (grammar : HasGeometry (root_of current.body)) (within : IsPlannedWithin state) where
    staged : IsStagedWithin settled
    staged =
        let is = within.staged after.dirty clean_is in
        record { numbers = is.numbers; directories = is.directories; places = is.places; sizes = is.sizes }

    of_size : IsOfSize blocks settled
    of_size = record {
      size = size;
      root = ap (λ (b : RootBody). b.geometry) body_is ∙ root.geometry;
      slot = slot;
      grammar = grammar;
      table = within.table;
      index = sym root.index ∙ sym (ap (λ (b : RootBody). b.inode_index) body_is);
      within = within.within;
      settled = within.settled;
      counts = within.counts;
      untouched = ap (λ (n : ℕ). replicate n false) within.touched;
      staged = staged;
    }

    pub after_is_of_size : IsOfSize blocks after
    after_is_of_size = subst (IsOfSize blocks) (sym after_settled) of_size

  -- where the disk tells, memory holds the machine after the point
  module _ (r : Rules) (m : Machine) (s u : State) (w : IsToBeWritten r m s state plan) (switched : HasSwitched s state.dirty.overlay plan state.counts.counts current u) where
    abbrev next : Machine
    next = after_point r m (fresh_in plan.report)

    is_settled : IsSettled u.contents state settled
    is_settled = record { geometry = refl; inodes = refl; directories = refl; counts = refl; metadata = refl; clean = clean_is; slot = switched.slot; root = switched.root }

    holds_settled : HoldsPoint r next u.contents settled
    holds_settled = w.planned.holds u.contents settled switched.carries is_settled

    pub after_holds : HoldsPoint r next u.contents after
    after_holds = subst (HoldsPoint r next u.contents) (sym after_settled) holds_settled

    counted_settled : AllStand (blocks_in u.contents) settled.current.body.homes.bytes (count_blocks (layout_of settled.geometry)) settled.counts.counts
    counted_settled = record {
      each = λ i lt.
          let stand : AllStand (blocks_in u.contents) current.body.homes.bytes (count_blocks (layout_of plan.root.geometry)) state.counts.counts =
          subst (λ (hs : List ℕ). AllStand (blocks_in u.contents) hs (count_blocks (layout_of plan.root.geometry)) state.counts.counts) (sym (ap (λ (x : Root). x.homes) switched.root)) switched.carries.counts_stand in
          stand.each i (omega (arith, lt, ap (λ (g : Geometry). count_blocks (layout_of g)) root.geometry));
    }

    pub after_counted : AllStand (blocks_in u.contents) after.current.body.homes.bytes (count_blocks (layout_of after.geometry)) after.counts.counts
    after_counted = subst (λ (x : PointState). AllStand (blocks_in u.contents) x.current.body.homes.bytes (count_blocks (layout_of x.geometry)) x.counts.counts) (sym after_settled) counted_settled

    layout_settled : layout_of state.geometry ≡ layout_in u.contents
    layout_settled = ap layout_of (sym root.geometry) ∙ sym (ap (λ (x : Root). x.layout) switched.carries.root)

    -- the report has the number of free blocks after the point
    pub after_reports : (report : Report) → report ≡ with_free plan.report (free_in (layout_of after.geometry) after.counts.counts) → IsReport r m report
    after_reports report is =
        let stands : Stands u.contents (stored next) = w.planned.stands u.contents switched.carries in
        let counted : free_in (layout_of state.geometry) state.counts.counts ≡ free_in (layout_in u.contents) (seen u.contents).kept = (λ i. free_in (layout_settled i) (holds_settled.counts i)) in
        let same : free_in (layout_of state.geometry) state.counts.counts ≡ free_of next = counted ∙ free_counted u.contents (stored next) stands ∙ ap (λ (g : Layout). free_blocks g next.stored_tree next.stored_places) (sym stands.layout) in
        let told : report ≡ with_free plan.report (free_of next) = is ∙ ap (λ (x : PointState). with_free plan.report (free_in (layout_of x.geometry) x.counts.counts)) after_settled ∙ ap (with_free plan.report) same in
        subst (IsReport r m) (sym told) w.planned.report
