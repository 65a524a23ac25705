-- What memory has of each number once nothing is staged is what it had of it before.
use Rattle.std.proofs.Common.{◌≡◌, ℕ, zero, suc, ◌+◌, ◌<◌, ◌≤◌, Bool, true, false, cond, List, [], ◌∷◌, ◌++◌, length, map, Option, Some, None, refl, sym, ap, subst, ◌∙◌, arith, ⊎_elim}
use Rattle.std.specs.Prelude.{◌==◌, ◌||◌, ◌&&◌, nat_eq, max, option_map}
use Rattle.std.specs.FinMap.{find}
use Rattle.block_format.specs.declared.inode.Inode.{Inode}
use Rattle.block_format.specs.declared.inode.Inode.TheVariants.{Unused, File, Directory}
use Rattle.block_format.specs.declared.slot.Slot.{Slot}
use Rattle.block_format.specs.Slot.{SlotFits}
use Rattle.block_format.specs.declared.slot.Slot.TheVariants as empty
use Rattle.dir_slots.specs.Slots.{IsDirectory, is_used, slot_at}
use Rattle.dirty_store.specs.Entries.{Entries}
use Rattle.dirty_store.specs.Numbers.{numbers_in as numbers_staged, staged_numbers}
use Rattle.dirty_store.specs.Overlay.{Overlay, clean, node_of, least_cut, width_of}
use Rattle.dirty_store.specs.Undo.{Store}
use Rattle.dirty_store.specs.declared.node_change.NodeChange.{NodeChange}
use Rattle.held_list.specs.Held.{slots_at}
use Rattle.held_list.specs.declared.held.Held.{Held}
use Rattle.image_model.specs.Walk.{is_directory}
use Rattle.inode_file.specs.Inodes.{inode_of}
use Rattle.tree_plan.proofs.RisingLaws.{append_among}
use Rattle.tree_plan.specs.Pages.{slot_with, slots_or_none, width_with}
use Rattle.node_table.specs.Held.{info}
use Rattle.node_table.specs.declared.held.HeldNode.{HeldNode}
use Rattle.node_table.specs.declared.held.HeldNode.TheVariants as held
use Rattle.place_words.specs.Different.{is_among}
use Rattle.point_model.specs.Holding.{as_node, slot_or, slots_from, staged_or}
use Rattle.point_model.specs.PointPlan.{told}
use Rattle.point_plan.specs.Directories.{left_then, slots_after, slots_then}
use Rattle.point_plan.specs.Gathered.{AreFromMemory}
use Rattle.point_plan.specs.Nodes.{inode_or, planned_of}
use Rattle.point_plan.specs.State.{inode_in, left_in, node_in, size_in, slots_in}
use Rattle.point_plan.specs.declared.planned_node.PlannedNode.{PlannedNode}
use Rattle.point_plan.specs.declared.state.PointState.{PointState}
use Rattle.point_plan.proofs.NodesPlanned.{left_none, no_node, no_width, planned_or_not, right_none}
use Rattle.volume_model.specs.Places.{spot_cmp}
use Rattle.volume_model.proofs.PlacesTold.{tie_is}

-- ---- nothing staged

-- a list that is read slot by slot
slots_are : (at : ℕ → Slot) (slots : List Slot) (j n : ℕ) → n ≡ length slots → ((k : ℕ) → k < length slots → at (j + k) ≡ slot_at slots k) → slots_from at j n ≡ slots
unfolding slots_from
slots_are at [] j zero long each = refl
slots_are at [] j (suc n) long each = absurd (omega (arith, long))
slots_are at (slot ∷ slots) j zero long each = absurd (omega (arith, long))
slots_are at (slot ∷ slots) j (suc n) long each =
    let e : j + zero ≡ j = omega arith in
    let first : at j ≡ slot = ap at (sym e) ∙ each 0 (omega arith) in
    let rest = slots_are at slots (j + 1) n (omega (arith, long)) (λ k lt. let f : j + 1 + k ≡ j + suc k = omega arith in ap at f ∙ each (suc k) (omega (arith, lt))) in
    λ i. first i ∷ rest i

-- where no slot of a number is staged, it has the slots that are left
pub slots_unstaged : (left : List Slot) (o : Overlay) (n : ℕ) → width_of o.slots n ≡ 0 → ((k : ℕ) → find spot_cmp (n, k) o.slots ≡ None) → slots_from (slot_with left o n) 0 (width_with left o n) ≡ left
slots_unstaged left o n width none =
    slots_are (slot_with left o n) left 0 (width_with left o n) (widest (length left) (width_of o.slots n) width)
    (λ k lt. ap (λ (x : Option Slot). slot_or x (slot_at left (0 + k))) (none (0 + k)) ∙ (let e : 0 + k ≡ k = omega arith in ap (slot_at left) e))
  where
    widest : (a b : ℕ) → b ≡ 0 → max a b ≡ a
    widest a b is = omega (arith, is)

pub clean_slots : (ds : List Held) (n : ℕ) → slots_then ds clean n ≡ slots_or_none (slots_at ds n)
clean_slots ds n = slots_unstaged (left_then ds clean n) clean n refl (λ k. refl)

-- ---- numbers of which nothing is staged

no_slot : (es : Entries Slot) (n k : ℕ) → is_among (numbers_staged es) n ≡ false → find spot_cmp (n, k) es ≡ None
no_slot [] n k out = refl
no_slot (e ∷ es) n k out =
    ap (λ (t : Bool). cond t (Some e.1) (find spot_cmp (n, k) es)) (tie_is (n, k) e.0 ∙ ap (λ (t : Bool). t && nat_eq e.0.1 k) (left_none _ _ out)) ∙ no_slot es n k (right_none _ _ out)

module _ (s : PointState) (n : ℕ) (out : is_among (staged_numbers s.dirty.overlay) n ≡ false) where
  abbrev o : Overlay
  o = s.dirty.overlay

  behind : (is_among (map (λ e. e.0) o.nodes) n || is_among (numbers_staged o.slots) n) ≡ false
  behind =
      sym (append_among (map (λ e. e.0) o.nodes) (numbers_staged o.slots) n)
      ∙ right_none (is_among (numbers_staged o.blocks) n) (is_among (map (λ e. e.0) o.nodes ++ numbers_staged o.slots) n) (sym (append_among (numbers_staged o.blocks) (map (λ e. e.0) o.nodes ++ numbers_staged o.slots) n) ∙ out)

  node : node_of o n ≡ None
  node = no_node o.nodes n (left_none _ _ behind)

  slots_out : is_among (numbers_staged o.slots) n ≡ false
  slots_out = right_none (is_among (map (λ e. e.0) o.nodes) n) (is_among (numbers_staged o.slots) n) behind

  unstaged_inode : inode_in s n ≡ inode_of s.inodes.inodes n
  unstaged_inode = ap (λ t. staged_or t (inode_of s.inodes.inodes n)) node

  unstaged_left : left_in s n ≡ slots_or_none (slots_at s.directories n)
  unstaged_left = ap (λ (t : Option NodeChange). cond (least_cut t == 0) [] (slots_or_none (slots_at s.directories n))) node

  pub unstaged_slots : slots_in s n ≡ slots_or_none (slots_at s.directories n)
  unstaged_slots = slots_unstaged (left_in s n) o n (no_width o.slots n slots_out) (λ k. no_slot o.slots n k slots_out) ∙ unstaged_left

-- ---- an inode that tells what a number is

-- a number is the node that its inode tells
same_node : (x y : Inode) (slots : List Slot) → told x ≡ option_map info (as_node y slots) → as_node x slots ≡ as_node y slots
same_node Unused Unused slots e = refl
same_node Unused (File size height ptr) slots e = cc
same_node Unused (Directory width height ptr) slots e = cc
same_node (File size height ptr) Unused slots e = cc
same_node (File size height ptr) (File other h p) slots e = let same : size ≡ other = cc in ap (λ (k : ℕ). Some (held.File k)) same
same_node (File size height ptr) (Directory width h p) slots e = cc
same_node (Directory width height ptr) Unused slots e = cc
same_node (Directory width height ptr) (File size h p) slots e = cc
same_node (Directory width height ptr) (Directory other h p) slots e = refl

-- nor is its size another one
same_size : (x y : Inode) (slots : List Slot) → told x ≡ option_map info (as_node y slots) → size_in x ≡ size_in y
same_size Unused Unused slots e = refl
same_size Unused (File size height ptr) slots e = cc
same_size Unused (Directory width height ptr) slots e = refl
same_size (File size height ptr) Unused slots e = cc
same_size (File size height ptr) (File other h p) slots e = cc
same_size (File size height ptr) (Directory width h p) slots e = cc
same_size (Directory width height ptr) Unused slots e = refl
same_size (Directory width height ptr) (File size h p) slots e = cc
same_size (Directory width height ptr) (Directory other h p) slots e = refl

-- a node has its slots only where it is a directory
same_slots : (p : PlannedNode) (slots : ℕ → List Slot) (other : Option (List Slot)) → as_node p.is (slots_or_none (slots_after slots (Some p) other)) ≡ as_node p.is (slots p.number)
same_slots p slots other = by p.is
  where
    by : (x : Inode) → as_node x (slots_or_none (cond (is_directory x) (Some (slots p.number)) None)) ≡ as_node x (slots p.number)
    by Unused = refl
    by (File size height ptr) = refl
    by (Directory width height ptr) = refl

-- no slots are a directory's
no_directory : IsDirectory []
no_directory = record {
  width = omega arith;
  fits = λ i. subst (λ (x : Slot). SlotFits x) (sym (nothing i)) tt;
  names = λ i j used other same. let never : is_used empty.Unused ≡ true = subst (λ (x : Slot). is_used x ≡ true) (nothing i) used in cc;
}
  where
    nothing : (i : ℕ) → slot_at [] i ≡ empty.Unused
    nothing i = refl

-- ---- all numbers

module _ (s after : PointState) (nodes : List PlannedNode) (memory : AreFromMemory s nodes) (inodes : (n : ℕ) → inode_of after.inodes.inodes n ≡ inode_or (planned_of nodes n) (inode_of s.inodes.inodes n))
    (directories : (n : ℕ) → slots_at after.directories n ≡ slots_after (slots_then s.directories s.dirty.overlay) (planned_of nodes n) (slots_at s.directories n)) where
  -- what is there of a number after, nothing being staged
  abbrev Kind : PlannedNode → Type 0
  Kind p = told p.is ≡ option_map info (node_in s p.number)

  abbrev node_after : Option PlannedNode → ℕ → Option HeldNode
  node_after planned n = as_node (inode_or planned (inode_of s.inodes.inodes n)) (slots_or_none (slots_after (slots_then s.directories s.dirty.overlay) planned (slots_at s.directories n)))

  known : (n : ℕ) → node_after (planned_of nodes n) n ≡ node_in s n
  known n = ⊎_elim
      (λ found.
      let p : PlannedNode = found.0 in
      let kind : Kind p = found.3 in
      let own : node_after (Some p) n ≡ node_in s p.number = same_slots p (slots_then s.directories s.dirty.overlay) (slots_at s.directories n) ∙ same_node p.is (inode_in s p.number) (slots_in s p.number) kind in
      ap (λ (x : Option PlannedNode). node_after x n) found.1 ∙ own ∙ ap (λ (k : ℕ). node_in s k) found.2)
      (λ none.
      let out : is_among (staged_numbers s.dirty.overlay) n ≡ false = sym (memory.numbers.each n) ∙ none.1 in
      ap (λ (x : Option PlannedNode). node_after x n) none.0 ∙ (λ i. as_node (sym (unstaged_inode s n out) i) (sym (unstaged_slots s n out) i)))
      (planned_or_not Kind nodes n memory.kinds)

  -- the slots after, and the size
  abbrev slots_known : Option PlannedNode → ℕ → List Slot
  slots_known planned n = slots_or_none (slots_after (slots_then s.directories s.dirty.overlay) planned (slots_at s.directories n))

  within_known : ((k : ℕ) → IsDirectory (slots_in s k)) → (n : ℕ) → IsDirectory (slots_known (planned_of nodes n) n)
  within_known fit n = ⊎_elim
      (λ found.
      let p : PlannedNode = found.0 in
      subst (λ (x : Option PlannedNode). IsDirectory (slots_known x n)) (sym found.1) (either (is_directory p.is) (fit p.number)))
      (λ none.
      let out : is_among (staged_numbers s.dirty.overlay) n ≡ false = sym (memory.numbers.each n) ∙ none.1 in
      subst (λ (x : Option PlannedNode). IsDirectory (slots_known x n)) (sym none.0) (subst IsDirectory (unstaged_slots s n out) (fit n)))
      (planned_or_not Kind nodes n memory.kinds)
    where
      either : {slots : List Slot} → (t : Bool) → IsDirectory slots → IsDirectory (slots_or_none (cond t (Some slots) None))
      either true is = is
      either false is = no_directory

  size_known : (n : ℕ) → size_in (inode_or (planned_of nodes n) (inode_of s.inodes.inodes n)) ≡ size_in (inode_in s n)
  size_known n = ⊎_elim
      (λ found.
      let p : PlannedNode = found.0 in
      let kind : Kind p = found.3 in
      ap (λ (x : Option PlannedNode). size_in (inode_or x (inode_of s.inodes.inodes n))) found.1 ∙ same_size p.is (inode_in s p.number) (slots_in s p.number) kind ∙ ap (λ (k : ℕ). size_in (inode_in s k)) found.2)
      (λ none.
      let out : is_among (staged_numbers s.dirty.overlay) n ≡ false = sym (memory.numbers.each n) ∙ none.1 in
      ap (λ (x : Option PlannedNode). size_in (inode_or x (inode_of s.inodes.inodes n))) none.0 ∙ ap size_in (sym (unstaged_inode s n out)))
      (planned_or_not Kind nodes n memory.kinds)

  pub directories_now : ((k : ℕ) → IsDirectory (slots_in s k)) → (dirty : Store) → dirty.overlay ≡ clean → (n : ℕ) → IsDirectory (slots_in (record after { dirty = dirty }) n)
  directories_now fit dirty is n =
      let slots : slots_in (record after { dirty = dirty }) n ≡ slots_known (planned_of nodes n) n = ap (λ (x : Overlay). slots_then after.directories x n) is ∙ clean_slots after.directories n ∙ ap (λ (x : Option (List Slot)). slots_or_none x) (directories n) in
      subst IsDirectory (sym slots) (within_known fit n)

  pub sizes_now : ((k : ℕ) → size_in (inode_in s k) ≤ 4294967296) → (dirty : Store) → dirty.overlay ≡ clean → (n : ℕ) → size_in (inode_in (record after { dirty = dirty }) n) ≤ 4294967296
  sizes_now small dirty is n =
      let size : size_in (inode_in (record after { dirty = dirty }) n) ≡ size_in (inode_in s n) = ap (λ (x : Overlay). size_in (staged_or (node_of x n) (inode_of after.inodes.inodes n))) is ∙ ap size_in (inodes n) ∙ size_known n in
      omega (arith, size, small n)

  -- what a number is once nothing is staged
  pub nodes_now : (dirty : Store) → dirty.overlay ≡ clean → (n : ℕ) → node_in (record after { dirty = dirty }) n ≡ node_in s n
  nodes_now dirty is n =
      let empty : node_in (record after { dirty = dirty }) n ≡ as_node (inode_of after.inodes.inodes n) (slots_then after.directories clean n) = ap (λ (x : Overlay). as_node (staged_or (node_of x n) (inode_of after.inodes.inodes n)) (slots_then after.directories x n)) is in
      empty ∙ (λ i. as_node (inodes n i) (clean_slots after.directories n i)) ∙ ap (λ (x : Option (List Slot)). as_node (inode_or (planned_of nodes n) (inode_of s.inodes.inodes n)) (slots_or_none x)) (directories n) ∙ known n
