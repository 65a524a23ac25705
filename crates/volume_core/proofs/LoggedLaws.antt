-- After a change was staged and logged, disk and memory hold the machine after it.
use Rattle.std.proofs.Common.{◌≡◌, ◌∙◌, ◌+◌, ◌<◌, ◌≤◌, ℕ, zero, suc, Bool, true, false, List, [], ◌∷◌, ◌++◌, ◌⊎◌, inl, inr, length, map, cond, refl, sym, ap, subst, arith}
use Rattle.std.specs.Prelude.{slice_index, not, ◌==◌}
use Rattle.std.specs.List.{AllByRecursion, flat_map}
use Rattle.std.proofs.lemmas.Bool.Decides.{nat_tests}
use Rattle.vol_numbers.specs.Geometry.{layout_of}
use Rattle.vol_numbers.specs.Layout.{Layout, count_blocks, area_start}
use Rattle.vol_numbers.specs.declared.block.Block.{Block}
use Rattle.block_format.specs.Homes.{home_bit}
use Rattle.block_format.specs.Index.{IsPointer}
use Rattle.block_format.specs.Root.{Root, root_of, HasGeometry}
use Rattle.block_format.specs.Words.{words}
use Rattle.block_tree.specs.Tree.{Blocks, blocks_in, index_at, nonzero}
use Rattle.command_log.specs.Logging.{HasCurrent, KeepsBeside, IsBeside, next_root}
use Rattle.count_pairs.specs.Homes.{home_of}
use Rattle.count_pairs.specs.Table.{AllStand}
use Rattle.disk_model.specs.Disk.{State}
use Rattle.consistency_point.specs.Taking.{IsHeld}
use Rattle.image_model.proofs.Kept.{bytes_same}
use Rattle.image_model.proofs.NodeWalk.{WalkMet, walk_good}
use Rattle.image_model.specs.Findings.{is_in_area}
use Rattle.image_model.specs.Met.{index}
use Rattle.image_model.specs.Planned.{node_trees}
use Rattle.image_model.specs.Seen.{Seen, seen}
use Rattle.image_model.specs.Sound.{AllGood}
use Rattle.image_model.specs.Stands.{Stands, layout_in}
use Rattle.image_model.specs.Walk.{walk, nodes_at}
use Rattle.image_states.proofs.SeenPlaces.{none}
use Rattle.inode_file.specs.Inodes.{Stands as InodesStand}
use Rattle.inode_file.specs.Laws.{TableStays}
use Rattle.op_log.specs.Record.{record_blocks}
use Rattle.point_model.specs.Holding.{HoldsMachine}
use Rattle.point_plan.specs.State.{HoldsPoint}
use Rattle.point_plan.specs.declared.state.PointState.{PointState}
use Rattle.root_switch.specs.Current.{root_of_image}
use Rattle.root_switch.specs.declared.reading.Current.{Current}
use Rattle.space_account.specs.Charge.{charge, pending}
use Rattle.state_laws.specs.States.{IsCoherent}
use Rattle.tree_model.specs.declared.command.Command.{Command}
use Rattle.volume_model.specs.Done.{done}
use Rattle.volume_model.specs.Machine.{Machine, Rules, Stored, stored}
use Rattle.volume_core.proofs.SameSeen.{machine_seen, directory_seen, inode_seen}
use Rattle.volume_core.specs.Memory.{Memory, IsFitting, IsIn}

-- ---- what is pending

pub pending_more : (cs : List Command) (c : Command) → pending (cs ++ c ∷ []) ≡ pending cs + charge c
pending_more [] c = omega arith
pending_more (d ∷ cs) c = omega (arith, pending_more cs c)

-- ---- blocks beside the record

-- a block of the area is beside it
area_beside : (root : Root) (command : Command) → HasGeometry root → root.log_used + record_blocks command ≤ root.layout.log_blocks → (b : ℕ) → area_start root.layout ≤ b → IsBeside root command b
area_beside root command grammar room b above = (omega (arith, above), inr (omega (arith, above, room)))

-- so is a home of a count block
home_beside : (root : Root) (command : Command) (homes : List ℕ) (i : ℕ) → i < count_blocks root.layout → IsBeside root command (home_of homes i)
home_beside root command homes i lt = (omega arith, inl (omega (arith, lt, bit homes i)))
  where
    bit : (homes : List ℕ) (i : ℕ) → home_bit homes i ≤ 1
    bit homes i = omega arith

-- no block, or one from a start on
abbrev IsAbove : ℕ → ℕ → Type 0
IsAbove start b = (b ≡ 0) ⊎ (start ≤ b)

above_pointer : (g : Layout) (b : ℕ) → IsPointer g b → IsAbove (area_start g) b
above_pointer g b (inl none) = inl none
above_pointer g b (inr within) = inr within.0

-- what holds of each block from a start on holds of those to which pointers lead
each_above : (start : ℕ) (P : ℕ → Type 0) → ((b : ℕ) → start ≤ b → P b) → (ps : List ℕ) → ((i : ℕ) → i < length ps → IsAbove start (slice_index ps i)) → AllByRecursion P (nonzero ps)
each_above start P above [] all = tt
each_above start P above (p ∷ ps) all = by (p == 0) refl (each_above start P above ps (λ i lt. all (suc i) (omega (arith, lt))))
  where
    some : (p == 0) ≡ false → IsAbove start p → P p
    some is (inl none) = let never : true ≡ false = subst (λ (n : ℕ). (n == 0) ≡ false) none is in cc
    some is (inr within) = above p within

    by : (t : Bool) → (p == 0) ≡ t → AllByRecursion P (nonzero ps) → AllByRecursion P (cond (not t) (p ∷ nonzero ps) (nonzero ps))
    by true is rest = rest
    by false is rest = (some is (all 0 (omega arith)), rest)

-- the inode index of an image that stands for something is in the area
index_area : (image : List Block) (x : Stored) → Stands image x → area_start (layout_in image) ≤ (root_of_image image).inode_index
unfolding seen
index_area image x stands =
    let read : Blocks = blocks_in image in
    let at : ℕ = (root_of_image image).inode_index in
    let met : WalkMet read at = walk_good read at (none image x stands) in
    let good : AllGood (layout_in image) (walk read at) (index at ∷ (map index (nonzero (index_at read at)) ++ flat_map (node_trees read) (nodes_at read at))) = subst (AllGood (layout_in image) (walk read at)) met.is stands.sound.pointers in
    let within : is_in_area (layout_in image) at ≡ true = good.0.0 in
    grind (arith, nat_tests)

-- ---- the machine after it

-- What logging a change made of disk and memory: what was staged holds the machine after it over the old image, and the record alone was written
-- behind the root slots.
pub record WasLogged (r : Rules) (m : Machine) (command : Command) (s t : State) (v w : Memory) (current : Current) : Type 0 where
  pub state : w.state ≡ record v.state { current = current; dirty = w.state.dirty }
  pub machine : HoldsMachine s.contents w.state.dirty.overlay (done m command)
  pub coherent : IsCoherent r (done m command)
  pub room : v.state.current.body.log_used + record_blocks command ≤ (root_of v.state.current.body).layout.log_blocks
  pub root : root_of current.body ≡ next_root (root_of v.state.current.body) command
  pub has : HasCurrent current.slot (root_of current.body) t
  pub stands : Stands t.contents (stored (done m command))
  pub seen_is : seen t.contents ≡ seen s.contents
  pub beside : KeepsBeside (root_of v.state.current.body) command s.contents t.contents
  pub alive : w.is_failed ≡ v.is_failed
  pub pending_is : w.pending ≡ v.pending + charge command
  pub free_is : w.free ≡ v.free

module _ (stays : TableStays) (r : Rules) (m : Machine) (command : Command) (s t : State) (v w : Memory) (size : ℕ) (current : Current) (fits : IsFitting size v) (is : IsIn r m s v)
    (was : WasLogged r m command s t v w current) where
  abbrev before : HoldsPoint r m s.contents v.state
  before = is.holds.holds

  abbrev old_root : Root
  old_root = root_of v.state.current.body

  abbrev after : PointState
  after = record v.state { current = current; dirty = w.state.dirty }

  layout_is : old_root.layout ≡ layout_of v.state.geometry
  layout_is = ap layout_of fits.size.root

  same : (b : ℕ) → IsBeside old_root command b → blocks_in t.contents b ≡ blocks_in s.contents b
  same b there = bytes_same s.contents t.contents b (was.beside b there)

  in_area : (b : ℕ) → area_start (layout_of v.state.geometry) ≤ b → blocks_in t.contents b ≡ blocks_in s.contents b
  in_area b above = same b (area_beside old_root command fits.size.grammar was.room b (subst (λ (g : Layout). area_start g ≤ b) (sym layout_is) above))

  index_above : area_start (layout_of v.state.geometry) ≤ v.state.inodes.index
  index_above =
      omega (arith, index_area s.contents (stored m) before.stands, fits.size.index, ap (λ (x : Root). x.inode_index) before.root, ap (λ (x : Root). area_start x.layout) before.root, ap area_start layout_is)

  inodes : InodesStand (blocks_in t.contents) v.state.inodes
  inodes = stays (blocks_in s.contents) (blocks_in t.contents) v.state.inodes before.inodes
      (each_above (area_start (layout_of v.state.geometry)) (λ b. blocks_in t.contents b ≡ blocks_in s.contents b) in_area (v.state.inodes.index ∷ v.state.inodes.pointers) above)
    where
      above : (i : ℕ) → i < length (v.state.inodes.index ∷ v.state.inodes.pointers) → IsAbove (area_start (layout_of v.state.geometry)) (slice_index (v.state.inodes.index ∷ v.state.inodes.pointers) i)
      above zero lt = inr index_above
      above (suc i) lt = above_pointer (layout_of v.state.geometry) (slice_index v.state.inodes.pointers i) (fits.size.within.pointers i 0 (omega (arith, lt)))

  holds : HoldsPoint r (done m command) t.contents after
  holds = record {
    stands = was.stands;
    coherent = was.coherent;
    staged = machine_seen s.contents t.contents was.seen_is w.state.dirty.overlay (done m command) was.machine;
    slot = sym was.has.slot_is;
    root = sym was.has.root_is;
    counts = before.counts ∙ ap (λ (x : Seen). x.kept) (sym was.seen_is);
    inodes = inodes;
    nodes = λ n. before.nodes n ∙ inode_seen s.contents t.contents was.seen_is n;
    directories = λ n. before.directories n ∙ directory_seen s.contents t.contents was.seen_is n;
    metadata = before.metadata;
  }

  counted : AllStand (blocks_in t.contents) current.body.homes.bytes (count_blocks (layout_of v.state.geometry)) v.state.counts.counts
  counted = record {
    each = λ i lt.
        ap words (subst (λ (hs : List ℕ). blocks_in t.contents (home_of hs i) ≡ blocks_in s.contents (home_of v.state.current.body.homes.bytes i)) (sym (ap (λ (x : Root). x.homes) was.root))
        (same (home_of v.state.current.body.homes.bytes i) (home_beside old_root command v.state.current.body.homes.bytes i (omega (arith, lt, ap count_blocks layout_is)))))
        ∙ is.holds.counted.each i lt;
  }

  pub is_done : IsIn r (done m command) t w
  is_done = record {
    alive = was.alive ∙ is.alive;
    holds = subst (IsHeld r (done m command) t) (sym was.state) (record { shares = is.holds.shares; synced = was.has.all_synced; holds = holds; counted = counted });
    pending = was.pending_is ∙ ap (λ (n : ℕ). n + charge command) is.pending ∙ sym (pending_more m.records command);
    free = was.free_is ∙ is.free;
  }
