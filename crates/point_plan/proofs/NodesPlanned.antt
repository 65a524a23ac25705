-- All staged numbers are planned, and the others are as they were.
use Rattle.std.proofs.Common.{◌≡◌, ◌<◌, ℕ, ◌+◌, Bool, true, false, cond, List, [], ◌∷◌, ◌++◌, length, map, take, Option, Some, None, inl, inr, refl, sym, ap, subst, ◌∙◌, arith}
use Rattle.std.specs.Prelude.{◌==◌, ◌||◌, ◌⊎◌, nat_eq, max, All, option_map}
use Rattle.std.specs.FinMap.{find, nat_cmp-IsAntisymmetric}
use Rattle.std.specs.Ordering.{eq_by_cmp, nat_cmp}
use Rattle.std.proofs.lemmas.Bool.Decides.{nat_tests}
use Rattle.std.proofs.lemmas.List.Elements.{All-head, All-tail}
use Rattle.vol_numbers.specs.declared.block.Block.{Block}
use Rattle.vol_numbers.specs.declared.runs.Change.{Change}
use Rattle.block_format.specs.declared.inode.Inode.{Inode}
use Rattle.block_format.specs.declared.inode.Inode.TheVariants.{Unused, File, Directory}
use Rattle.block_tree.specs.Notes.{Stand, page_blocks}
use Rattle.block_tree.specs.Tree.{blocks_in}
use Rattle.dirty_store.specs.Entries.{Entries}
use Rattle.dirty_store.specs.Numbers.{AreOnce, numbers_in as numbers_staged, staged_numbers}
use Rattle.dirty_store.specs.Overlay.{Overlay, node_of, least_cut, width_of}
use Rattle.dirty_store.specs.declared.node_change.NodeChange.{NodeChange}
use Rattle.dirty_store.proofs.Places.{equal_of}
use Rattle.image_model.specs.Reading.{HasDirectory}
use Rattle.image_model.specs.Seen.{seen}
use Rattle.image_model.specs.Slots.{slots_of as slots_seen}
use Rattle.image_model.specs.Stands.{Stands, node_of as node_seen}
use Rattle.image_model.specs.Walk.{is_used}
use Rattle.image_model.proofs.DirectoryRead.{directories_stand as directory_stands}
use Rattle.image_model.proofs.HeldLaws.{tree_is_held}
use Rattle.tree_plan.proofs.RisingLaws.{append_among}
use Rattle.tree_plan.proofs.SlotLaws.{width_is}
use Rattle.node_plan.proofs.UnstagedLaws.{unstaged_is_planned}
use Rattle.node_table.specs.Held.{info}
use Rattle.node_table.specs.declared.held.NodeInfo.TheVariants as infos
use Rattle.place_words.specs.Different.{is_among}
use Rattle.place_words.specs.Rising.{Rising}
use Rattle.point_model.specs.Holding.{inode_before, inode_now, staged_or, slots_left, slots_now, as_node, node_now, width_in}
use Rattle.point_model.proofs.DirectoriesStand.{directories_stand}
use Rattle.point_model.specs.PointPlan.{LiveStays, NodeIsPlanned, told}
use Rattle.point_plan.specs.Gathered.{numbers_in}
use Rattle.point_plan.specs.Made.{AreNodesPlanned, taken_by}
use Rattle.point_plan.specs.Nodes.{Ascend, added_in, dropped_in, inode_or, planned_of}
use Rattle.point_plan.specs.PlanNodes.{AreAllOfPlaces, IsPlanOf, IsPlanOver}
use Rattle.point_plan.specs.State.{HoldsPoint, node_in}
use Rattle.point_plan.specs.declared.planned_node.PlannedNode.{PlannedNode}
use Rattle.point_plan.specs.declared.state.PointState.{PointState}
use Rattle.point_plan.proofs.NumberPlanned.{node_held}
use Rattle.volume_model.specs.Machine.{Machine, Rules, Stored, stored}
use Rattle.volume_model.specs.Places.{Places}

-- ---- planned nodes by number

-- A number is that of a planned node, of which this holds, or isn't planned.
pub planned_or_not : (P : PlannedNode → Type 0) (nodes : List PlannedNode) (n : ℕ) → All P nodes
    → ((p : PlannedNode) × (planned_of nodes n ≡ Some p) × (p.number ≡ n) × P p) ⊎ ((planned_of nodes n ≡ None) × (is_among (numbers_in nodes) n ≡ false))
planned_or_not P [] n all = inr (refl, refl)
planned_or_not P (p ∷ ps) n all = by (p.number == n) refl (planned_or_not P ps n (All-tail P p ps all))
  where
    by : (t : Bool) → (p.number == n) ≡ t → ((q : PlannedNode) × (planned_of ps n ≡ Some q) × (q.number ≡ n) × P q) ⊎ ((planned_of ps n ≡ None) × (is_among (numbers_in ps) n ≡ false))
        → ((q : PlannedNode) × (cond (p.number == n) (Some p) (planned_of ps n) ≡ Some q) × (q.number ≡ n) × P q) ⊎ ((cond (p.number == n) (Some p) (planned_of ps n) ≡ None) × ((p.number == n || is_among (numbers_in ps) n) ≡ false))
    by true is more = let same : p.number ≡ n = grind (arith, nat_tests) in inl (p, ap (λ (t : Bool). cond t (Some p) (planned_of ps n)) is, same, All-head P p ps all)
    by false is (inl more) = inl (more.0, ap (λ (t : Bool). cond t (Some p) (planned_of ps n)) is ∙ more.1, more.2, more.3)
    by false is (inr more) = inr (ap (λ (t : Bool). cond t (Some p) (planned_of ps n)) is ∙ more.0, ap (λ (t : Bool). t || is_among (numbers_in ps) n) is ∙ more.1)

-- numbers that rise, and are those of nodes, make nodes ascend
pub numbers_ascend : (least : ℕ) (nodes : List PlannedNode) → Rising least (numbers_in nodes) → All (λ (p : PlannedNode). p.number < 65536) nodes → Ascend least nodes
numbers_ascend least [] rising below = tt
numbers_ascend least (p ∷ ps) rising below =
    (rising.0, All-head (λ (q : PlannedNode). q.number < 65536) p ps below, numbers_ascend (p.number + 1) ps rising.1 (All-tail (λ (q : PlannedNode). q.number < 65536) p ps below))

-- ---- directories of the image

-- a directory's inode is that of one that stands
directory_there : (old : List Block) (s : Stored) (n width height ptr : ℕ) → Stands old s → inode_before old n ≡ Directory width height ptr → HasDirectory old n width
directory_there old s n width height ptr stands is =
    let held = tree_is_held old s stands in
    let has = held.others n (ap is_used is) in
    let node : node_seen (seen old) n (Directory width height ptr) ≡ Some has.1 = ap (node_seen (seen old) n) (sym is) ∙ subst (λ (k : ℕ). node_seen (seen old) k (inode_before old k) ≡ Some has.1) has.3 (held.inodes has.0 has.1 has.2) in
    directory_stands old s has.0 n width stands (has.2 ∙ sym node)

-- ---- numbers of which nothing is staged

pub left_none : (a b : Bool) → (a || b) ≡ false → a ≡ false
left_none true b e = cc
left_none false b e = refl

pub right_none : (a b : Bool) → (a || b) ≡ false → b ≡ false
right_none true b e = cc
right_none false b e = e

pub no_node : (nodes : List (ℕ × NodeChange)) (n : ℕ) → is_among (map (λ e. e.0) nodes) n ≡ false → find nat_cmp n nodes ≡ None
no_node [] n out = refl
no_node (e ∷ es) n out = ap (λ (t : Bool). cond t (Some e.1) (find nat_cmp n es)) (by (eq_by_cmp nat_cmp n e.0) refl) ∙ no_node es n (right_none _ _ out)
  where
    by : (b : Bool) → eq_by_cmp nat_cmp n e.0 ≡ b → b ≡ false
    by true tied =
        let same : n ≡ e.0 = nat_cmp-IsAntisymmetric n e.0 (equal_of _ tied) in
        let never : nat_eq e.0 n ≡ false = left_none _ _ out in
        absurd (grind (arith, nat_tests))
    by false tied = refl

pub no_width : {T : Type 0} → (es : Entries T) (n : ℕ) → is_among (numbers_staged es) n ≡ false → width_of es n ≡ 0
no_width [] n out = refl
no_width (e ∷ es) n out = ap (λ (t : Bool). cond t (max (e.0.1 + 1) (width_of es n)) (width_of es n)) (left_none _ _ out) ∙ no_width es n (right_none _ _ out)

module _ (old : List Block) (s : Stored) (o : Overlay) (n : ℕ) (stands : Stands old s) (out : is_among (staged_numbers o) n ≡ false) where
  behind : (is_among (map (λ e. e.0) o.nodes) n || is_among (numbers_staged o.slots) n) ≡ false
  behind =
      sym (append_among (map (λ e. e.0) o.nodes) (numbers_staged o.slots) n)
      ∙ right_none (is_among (numbers_staged o.blocks) n) (is_among (map (λ e. e.0) o.nodes ++ numbers_staged o.slots) n) (sym (append_among (numbers_staged o.blocks) (map (λ e. e.0) o.nodes ++ numbers_staged o.slots) n) ∙ out)

  node : node_of o n ≡ None
  node = no_node o.nodes n (left_none _ _ behind)

  same_inode : inode_now old o n ≡ inode_before old n
  same_inode = ap (λ t. staged_or t (inode_before old n)) node

  -- a directory has the slots that it had
  long : (width height ptr : ℕ) → inode_before old n ≡ Directory width height ptr → length (slots_now old o n) ≡ width
  long width height ptr is = width_is old o n (slots_left old o n) refl ∙ widest (length (slots_left old o n)) (width_of o.slots n) (no_width o.slots n (right_none _ _ behind)) ∙ ap length left ∙ (directory_there old s n width height ptr stands is).wide
    where
      widest : (a b : ℕ) → b ≡ 0 → max a b ≡ a
      widest a b none = omega (arith, none)

      left : slots_left old o n ≡ take width (slots_seen (seen old) n)
      left = ap (λ t. cond (least_cut t == 0) [] (take (width_in (inode_before old n)) (slots_seen (seen old) n))) node ∙ ap (λ (x : Inode). take (width_in x) (slots_seen (seen old) n)) is

  -- its inode tells what it is now
  told_unstaged : told (inode_before old n) ≡ option_map info (node_now old o n)
  told_unstaged = by (inode_before old n) refl ∙ ap (λ (x : Inode). option_map info (as_node x (slots_now old o n))) (sym same_inode)
    where
      by : (x : Inode) → inode_before old n ≡ x → told (inode_before old n) ≡ option_map info (as_node (inode_before old n) (slots_now old o n))
      by Unused is = ap told is ∙ sym (ap (λ (x : Inode). option_map info (as_node x (slots_now old o n))) is)
      by (File size height ptr) is = ap told is ∙ sym (ap (λ (x : Inode). option_map info (as_node x (slots_now old o n))) is)
      by (Directory width height ptr) is =
          ap told is ∙ ap (λ (w : ℕ). Some (infos.Directory w)) (sym (long width height ptr is)) ∙ sym (ap (λ (x : Inode). option_map info (as_node x (slots_now old o n))) is)

-- ---- all of it

module _ (r : Rules) (m : Machine) (old : List Block) (s : PointState) (numbers : List ℕ) (changes : List (List Change)) (nodes : List PlannedNode) (holds : HoldsPoint r m old s) (once : AreOnce (staged_numbers s.dirty.overlay) numbers)
    (same : numbers_in nodes ≡ numbers) where
  unstaged : (n : ℕ) → is_among (numbers_in nodes) n ≡ false → is_among (staged_numbers s.dirty.overlay) n ≡ false
  unstaged n none = sym (once.each n) ∙ ap (λ (ns : List ℕ). is_among ns n) (sym same) ∙ none

  kinds_told : All (IsPlanOf s) nodes → (n : ℕ) → told (inode_or (planned_of nodes n) (inode_before old n)) ≡ option_map info (node_now old s.dirty.overlay n)
  kinds_told plans n = by (planned_or_not (IsPlanOf s) nodes n plans)
    where
      by : ((p : PlannedNode) × (planned_of nodes n ≡ Some p) × (p.number ≡ n) × IsPlanOf s p) ⊎ ((planned_of nodes n ≡ None) × (is_among (numbers_in nodes) n ≡ false))
          → told (inode_or (planned_of nodes n) (inode_before old n)) ≡ option_map info (node_now old s.dirty.overlay n)
      by (inl has) = ap (λ q. told (inode_or q (inode_before old n))) has.1 ∙ has.3.kind ∙ ap (option_map info) (ap (node_in s) has.2 ∙ node_held r m old s holds n)
      by (inr none) = ap (λ q. told (inode_or q (inode_before old n))) none.0 ∙ told_unstaged old (stored m) s.dirty.overlay n holds.stands (unstaged n none.1)

  -- each number is planned in an image
  abbrev IsPlannedIn : List Block → Places → ℕ → Option PlannedNode → Type 0
  IsPlannedIn new placed n q = NodeIsPlanned old new s.dirty.overlay m placed n (inode_or q (inode_before old n)) (added_in q) (dropped_in q) (taken_by q)

  each_planned : All (IsPlanOver old s m numbers changes) nodes → (placed : Places) → AreAllOfPlaces m.dirty placed numbers changes → (new : List Block) → LiveStays old new → All (λ (p : PlannedNode). Stand p.pages (blocks_in new)) nodes → (n : ℕ) → IsPlannedIn new placed n (planned_of nodes n)
  each_planned over placed places new live stand n = by (planned_or_not (λ (p : PlannedNode). IsPlanOver old s m numbers changes p × Stand p.pages (blocks_in new)) nodes n (λ k d lt. (over k d lt, stand k d lt)))
    where
      by : ((p : PlannedNode) × (planned_of nodes n ≡ Some p) × (p.number ≡ n) × (IsPlanOver old s m numbers changes p × Stand p.pages (blocks_in new))) ⊎ ((planned_of nodes n ≡ None) × (is_among (numbers_in nodes) n ≡ false))
          → IsPlannedIn new placed n (planned_of nodes n)
      by (inl has) =
          let p = has.0 in
          subst (IsPlannedIn new placed n) (sym has.1)
          (subst (λ (k : ℕ). NodeIsPlanned old new s.dirty.overlay m placed k p.is p.added p.dropped (page_blocks p.pages)) has.2 (has.3.0.planned placed places new live has.3.1))
      by (inr none) =
          subst (IsPlannedIn new placed n) (sym none.0)
          (unstaged_is_planned old new (stored m) s.dirty.overlay m placed n holds.stands (directories_stand old holds.stands.sound) live holds.staged.dirty (unstaged n none.1))

  pub nodes_planned : Ascend 1 nodes → All (IsPlanOf s) nodes → All (IsPlanOver old s m numbers changes) nodes → (placed : Places) → AreAllOfPlaces m.dirty placed numbers changes → AreNodesPlanned old s.dirty.overlay m placed nodes
  nodes_planned ascend plans over placed places = record { ascend = ascend; each = each_planned over placed places; kinds = kinds_told plans }
