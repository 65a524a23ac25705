-- What is seen of an image that carries a plan is what memory has after it.
use Rattle.std.proofs.Common.{◌≡◌, ℕ, false, cond, List, [], Option, Some, None, refl, sym, ap, ◌∙◌, ⊎_elim}
use Rattle.std.specs.Prelude.{◌==◌, option_map, take}
use Rattle.vol_numbers.specs.declared.block.Block.{Block}
use Rattle.block_format.specs.declared.inode.Inode.{Inode}
use Rattle.block_format.specs.declared.inode.Inode.TheVariants.{Unused, File, Directory}
use Rattle.block_format.specs.declared.slot.Slot.{Slot}
use Rattle.dirty_store.specs.Numbers.{staged_numbers}
use Rattle.dirty_store.specs.Overlay.{least_cut, node_of}
use Rattle.held_list.specs.Held.{slots_at}
use Rattle.image_model.specs.Seen.{seen}
use Rattle.image_model.specs.Slots.{slots_of as slots_seen}
use Rattle.image_model.specs.Walk.{is_directory}
use Rattle.inode_file.specs.Inodes.{inode_of}
use Rattle.tree_plan.specs.Pages.{slots_or_none}
use Rattle.tree_plan.specs.Renewed.{slots_with}
use Rattle.node_table.specs.Held.{info}
use Rattle.place_words.specs.Different.{is_among}
use Rattle.point_model.specs.Holding.{inode_before, slots_left, slots_now}
use Rattle.point_model.specs.Laws.{IsSeenAsPlanned}
use Rattle.point_model.specs.PointPlan.{told}
use Rattle.point_plan.specs.Directories.{left_then, slots_after, slots_then}
use Rattle.point_plan.specs.Gathered.{AreFromMemory}
use Rattle.point_plan.specs.Nodes.{inode_or, planned_of}
use Rattle.point_plan.specs.State.{HoldsPoint, node_in, slots_before, slots_in}
use Rattle.point_plan.specs.declared.planned_node.PlannedNode.{PlannedNode}
use Rattle.point_plan.specs.declared.state.PointState.{PointState}
use Rattle.point_plan.proofs.NodesPlanned.{planned_or_not}
use Rattle.point_plan.proofs.NowLaws.{unstaged_slots}
use Rattle.point_plan.proofs.NumberPlanned.{image_slots}
use Rattle.volume_model.specs.Machine.{Machine, Rules}

-- the slots of a number in an image whose inode of it this is
abbrev slots_for : List Block → ℕ → Inode → Option (List Slot)
slots_for image n Unused = None
slots_for image n (File size height ptr) = None
slots_for image n (Directory width height ptr) = Some (take width (slots_seen (seen image) n))

slots_by_inode : (image : List Block) (n : ℕ) (x : Inode) → inode_before image n ≡ x → slots_before image n ≡ slots_for image n x
slots_by_inode image n x is = by (inode_before image n) x is
  where
    by : (y x : Inode) → y ≡ x → slots_for image n y ≡ slots_for image n x
    by y x same = ap (slots_for image n) same

module _ (r : Rules) (m : Machine) (old new : List Block) (s after : PointState) (nodes : List PlannedNode) (holds : HoldsPoint r m old s) (memory : AreFromMemory s nodes)
    (inodes : (n : ℕ) → inode_of after.inodes.inodes n ≡ inode_or (planned_of nodes n) (inode_of s.inodes.inodes n))
    (directories : (n : ℕ) → slots_at after.directories n ≡ slots_after (slots_then s.directories s.dirty.overlay) (planned_of nodes n) (slots_at s.directories n))
    (is : IsSeenAsPlanned old new s.dirty.overlay (inode_of after.inodes.inodes)) where
  -- the slots that memory says a number has now are those of now
  now : (n : ℕ) → slots_then s.directories s.dirty.overlay n ≡ slots_now old s.dirty.overlay n
  now n = ap (λ (left : List Slot). slots_with left s.dirty.overlay n) left
    where
      left : left_then s.directories s.dirty.overlay n ≡ slots_left old s.dirty.overlay n
      left = ap (λ (ss : List Slot). cond (least_cut (node_of s.dirty.overlay n) == 0) [] ss) (ap slots_or_none (holds.directories n) ∙ image_slots old n)

  -- a planned number
  planned_slots : (p : PlannedNode) (n : ℕ) → p.number ≡ n → (x : Inode) → p.is ≡ x → inode_of after.inodes.inodes n ≡ x → cond (is_directory x) (Some (slots_then s.directories s.dirty.overlay p.number)) None ≡ slots_for new n x
  planned_slots p n number Unused has known = refl
  planned_slots p n number (File size height ptr) has known = refl
  planned_slots p n number (Directory width height ptr) has known = ap (λ (ss : List Slot). Some ss) (ap (slots_then s.directories s.dirty.overlay) number ∙ now n ∙ sym (is.slots n width height ptr known))

  -- a number of which nothing is planned
  other_slots : (n : ℕ) → is_among (staged_numbers s.dirty.overlay) n ≡ false → (x : Inode) → inode_before old n ≡ x → inode_of after.inodes.inodes n ≡ x → slots_at s.directories n ≡ slots_for new n x
  other_slots n out Unused has known = holds.directories n ∙ slots_by_inode old n Unused has
  other_slots n out (File size height ptr) has known = holds.directories n ∙ slots_by_inode old n (File size height ptr) has
  other_slots n out (Directory width height ptr) has known =
      let there : slots_at s.directories n ≡ Some (take width (slots_seen (seen old) n)) = holds.directories n ∙ slots_by_inode old n (Directory width height ptr) has in
      let left : slots_in s n ≡ take width (slots_seen (seen old) n) = unstaged_slots s n out ∙ ap slots_or_none there in
      there ∙ ap (λ (ss : List Slot). Some ss) (sym left ∙ now n ∙ sym (is.slots n width height ptr known))

  abbrev Kind : PlannedNode → Type 0
  Kind p = told p.is ≡ option_map info (node_in s p.number)

  pub nodes_seen : (n : ℕ) → inode_of after.inodes.inodes n ≡ inode_before new n
  nodes_seen n = sym (is.inodes n)

  pub slots_are_seen : (n : ℕ) → slots_at after.directories n ≡ slots_before new n
  slots_are_seen n = directories n ∙ here ∙ sym (slots_by_inode new n (inode_of after.inodes.inodes n) (is.inodes n))
    where
      here : slots_after (slots_then s.directories s.dirty.overlay) (planned_of nodes n) (slots_at s.directories n) ≡ slots_for new n (inode_of after.inodes.inodes n)
      here = ⊎_elim
          (λ found.
          let p : PlannedNode = found.0 in
          let inode : inode_of after.inodes.inodes n ≡ p.is = inodes n ∙ ap (λ (x : Option PlannedNode). inode_or x (inode_of s.inodes.inodes n)) found.1 in
          ap (λ (x : Option PlannedNode). slots_after (slots_then s.directories s.dirty.overlay) x (slots_at s.directories n)) found.1 ∙ planned_slots p n found.2 p.is refl inode ∙ ap (slots_for new n) (sym inode))
          (λ none.
          let out : is_among (staged_numbers s.dirty.overlay) n ≡ false = sym (memory.numbers.each n) ∙ none.1 in
          let inode : inode_of after.inodes.inodes n ≡ inode_before old n = inodes n ∙ ap (λ (x : Option PlannedNode). inode_or x (inode_of s.inodes.inodes n)) none.0 ∙ holds.nodes n in
          ap (λ (x : Option PlannedNode). slots_after (slots_then s.directories s.dirty.overlay) x (slots_at s.directories n)) none.0 ∙ other_slots n out (inode_before old n) refl inode ∙ ap (slots_for new n) (sym inode))
          (planned_or_not Kind nodes n memory.kinds)
