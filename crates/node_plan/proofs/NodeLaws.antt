-- What is planned of a number, put together by its kind now.
use Rattle.std.proofs.Common.{◌≡◌, ℕ, ◌+◌, ◌*◌, ◌<◌, ◌≤◌, Bool, true, false, cond, List, [], length, Some, None, refl, sym, ap, subst, ◌∙◌, arith}
use Rattle.std.specs.Prelude.{◌==◌, ◌&&◌, IsTrue, max, nat_le, nat_lt, option_map, Option}
use Rattle.std.specs.FinMap.{find}
use Rattle.std.proofs.lemmas.Bool.Decides.{nat_tests}
use Rattle.vol_numbers.specs.declared.block.Block.{Block}
use Rattle.vol_numbers.specs.declared.runs.Change.{Change}
use Rattle.vol_numbers.specs.declared.runs.Page.{Page}
use Rattle.block_format.specs.Inode.{blocks_of, height_of, pointer_of, inode_shape}
use Rattle.block_format.specs.Slot.{SlotFits}
use Rattle.block_format.specs.declared.inode.Inode.{Inode}
use Rattle.block_format.specs.declared.inode.Inode.TheVariants.{Unused, File, Directory}
use Rattle.block_format.specs.declared.slot.Slot.{Slot}
use Rattle.block_tree.specs.Notes.{page_blocks, change_blocks}
use Rattle.block_tree.specs.Tree.{blocks_in, pairs_below}
use Rattle.dir_slots.specs.Pages.{pages_for}
use Rattle.dir_slots.specs.Slots.{IsDirectory, slot_at}
use Rattle.dirty_store.specs.Overlay.{Overlay, node_of, least_cut, width_of}
use Rattle.image_model.specs.Nodes.{AllBelow, blocks_in_node}
use Rattle.image_model.specs.Planned.{height_in}
use Rattle.node_table.specs.Held.{info}
use Rattle.node_table.specs.declared.held.NodeInfo.TheVariants as infos
use Rattle.place_words.specs.Different.{is_among, times}
use Rattle.point_model.specs.Holding.{inode_before, staged_or, kind_of, slot_or, as_node}
use Rattle.point_model.specs.NodePlan.{node_metas, TreeIsPlanned, PointersArePlanned}
use Rattle.point_model.specs.PointPlan.{NodeIsPlanned, ContentIsPlanned, told}
use Rattle.point_model.proofs.Numbers.{told_none, told_file}
use Rattle.volume_model.specs.Machine.{Machine}
use Rattle.volume_model.specs.Places.{Places, spot_cmp}
use Rattle.tree_plan.specs.Directories.{HoldsDirectory}
use Rattle.node_plan.specs.Nodes.{IsTreePlanned, HasMetas, left_after, slots_over}
use Rattle.tree_plan.specs.Pages.{width_with, SlotsFit}
use Rattle.tree_plan.specs.Trees.{Carries, EndsAt, IsFullTree, IsTop}
use Rattle.tree_plan.specs.declared.plan.TreePlan.{TreePlan}
use Rattle.node_plan.proofs.AtPoint.{whole, carries, left_is, unused_ends, file_ends, directory_held}
use Rattle.node_plan.proofs.MetaCounts.{metas_unused, metas_of_file, metas_of_directory}
use Rattle.tree_plan.proofs.SlotLaws.{in_list, length_from, none_past, width_is}

-- ---- the slots of now are a directory

pub width_over : (o : Overlay) (n : ℕ) (before : List Slot) → length (slots_over o n before) ≡ width_with (left_after o n before) o n
width_over o n before = length_from _ 0 (width_with (left_after o n before) o n)

pub slots_fit : (o : Overlay) (n : ℕ) (before : List Slot) → IsDirectory (slots_over o n before) → SlotsFit o n
slots_fit o n before directory = record {
  width = most (length (left_after o n before)) (width_of o.slots n) (length (slots_over o n before)) (width_over o n before) directory.width;
  each = λ k slot found.
      let below = above (length (left_after o n before)) (width_of o.slots n) k (found_below k slot found) in
      let first : 0 + k ≡ k = omega arith in
      let at : slot_at (slots_over o n before) k ≡ slot =
      in_list _ 0 (width_with (left_after o n before) o n) k below ∙ ap (λ (j : ℕ). slot_or (find spot_cmp (n, j) o.slots) (slot_at (left_after o n before) j)) first
      ∙ ap (λ (s : Option Slot). slot_or s (slot_at (left_after o n before) k)) found in
      subst SlotFits at (directory.fits k);
}
  where
    most : (a b w : ℕ) → w ≡ max a b → w ≤ 65534 → b ≤ 65534
    most a b w is le = omega (arith, is, le)

    found_below : (k : ℕ) (slot : Slot) → find spot_cmp (n, k) o.slots ≡ Some slot → k < width_of o.slots n
    found_below k slot found = by (nat_lt k (width_of o.slots n)) refl
      where
        lt_true : (a b : ℕ) → nat_lt a b ≡ true → a < b
        lt_true a b is = grind (arith, nat_tests)

        lt_false : (a b : ℕ) → nat_lt a b ≡ false → b ≤ a
        lt_false a b is = grind (arith, nat_tests)

        by : (t : Bool) → nat_lt k (width_of o.slots n) ≡ t → k < width_of o.slots n
        by true is = lt_true k (width_of o.slots n) is
        by false is = let never : None ≡ Some slot = sym (none_past o.slots n k (lt_false k (width_of o.slots n) is)) ∙ found in cc

    above : (a b k : ℕ) → k < b → k < max a b
    above a b k lt = omega (arith, lt)

pub left_short : (o : Overlay) (n : ℕ) (before : List Slot) → IsDirectory (slots_over o n before) → length (left_after o n before) ≤ 65534
left_short o n before directory = least (length (left_after o n before)) (width_of o.slots n) (length (slots_over o n before)) (width_over o n before) directory.width
  where
    least : (a b w : ℕ) → w ≡ max a b → w ≤ 65534 → a ≤ 65534
    least a b w is le = omega (arith, is, le)

-- ---- one kind after the other

module _ (tells : Bool) (old : List Block) (o : Overlay) (n : ℕ) (was : Inode) (before : List Slot) (changes : List Change) (p : TreePlan) where
  abbrev now : Inode
  now = staged_or (node_of o n) was

  abbrev cut : ℕ
  cut = least_cut (node_of o n)

  put_together : (at : was ≡ inode_before old n) (new : List Block) (m : Machine) (placed : Places) (cs : List Change) → TreeIsPlanned old new was p.inode cut cs
      → PointersArePlanned old new n was p.inode p.added p.dropped (page_blocks p.pages) → ContentIsPlanned old new o m placed n cs p.inode → NodeIsPlanned old new o m placed n p.inode p.added p.dropped (page_blocks p.pages)
  put_together at new m placed cs tree pointers content = record {
    changes = cs;
    tree = subst (λ (x : Inode). TreeIsPlanned old new x p.inode cut cs) at tree;
    pointers = subst (λ (x : Inode). PointersArePlanned old new n x p.inode p.added p.dropped (page_blocks p.pages)) at pointers;
    content = content;
  }

  pub unused_planned : told now ≡ None → p.inode ≡ Unused → (p.pages ≡ []) × (p.added ≡ [])
      → (IsTrue tells → (k : ℕ) → EndsAt old was k 0 → (new : List Block) → TreeIsPlanned old new was p.inode k [])
      → (IsTrue tells → (k : ℕ) (new : List Block) → PointersArePlanned old new k was p.inode p.added p.dropped [])
      → IsTreePlanned tells old o n was before changes p
  unused_planned none is nothing tree pointers = record {
    shape = subst (λ (x : Inode). IsTrue (inode_shape x)) (sym is) refl;
    kind = ap told is ∙ sym (ap (λ (x : Inode). option_map info (as_node x (slots_over o n before))) unused);
    used = λ b. omega (arith, ap (times b) nothing.1);
    planned = λ yes r m at placed places new live stand.
        put_together at.inode new m placed [] (tree yes cut (unused_ends r old o m n was before at unused) new)
        (subst (λ (qs : List Page). PointersArePlanned old new n was p.inode p.added p.dropped (page_blocks qs)) (sym nothing.0) (pointers yes n new))
        (subst (ContentIsPlanned old new o m placed n []) (sym is) tt);
    metas = λ yes r m at new live stand. subst (HasMetas new n) (sym is) (metas_unused new n);
    at_most = λ yes new carried. omega (arith, ap (λ (qs : List Page). length (page_blocks qs)) nothing.0);
    top = λ yes two. absurd (omega (arith, two, ap height_in is));
  }
    where
      unused : now ≡ Unused
      unused = told_none now none

  pub bytes_planned : (size : ℕ) → told now ≡ Some (infos.File size) → p.inode ≡ File size (height_in p.inode) (pointer_of p.inode) → IsTrue (inode_shape p.inode)
      → (IsTrue tells → EndsAt old was cut (blocks_of size) → IsFullTree old was → (new : List Block) → Carries old new was p.pages → TreeIsPlanned old new was p.inode cut changes)
      → (IsTrue tells → (k : ℕ) (new : List Block) → Carries old new was p.pages → PointersArePlanned old new k was p.inode p.added p.dropped (page_blocks p.pages))
      → (IsTrue tells → (k : ℕ) (new : List Block) → Carries old new was p.pages → length (page_blocks p.pages) ≤ length (node_metas new k p.inode))
      → (IsTrue tells → height_in p.inode ≡ 2 → 0 < pointer_of p.inode → is_among (page_blocks p.pages) (pointer_of p.inode) ≡ false → IsTop was (pointer_of p.inode))
      → ((b : ℕ) → times b p.added ≤ times b (page_blocks p.pages) + times b (change_blocks changes))
      → IsTreePlanned tells old o n was before changes p
  bytes_planned size file is shape tree pointers pages top used = record {
    shape = shape;
    kind = ap told is ∙ sym (ap (λ (x : Inode). option_map info (as_node x (slots_over o n before))) (told_file now size file));
    used = used;
    planned = λ yes r m at placed places new live stand.
        let carried = carries r old o m n was before at new p.pages live stand in
        put_together at.inode new m placed changes
        (tree yes (file_ends r old o m n was before at size (height_in now) (pointer_of now) (told_file now size file)) (whole r old o m n was before at) new carried)
        (pointers yes n new carried) (subst (ContentIsPlanned old new o m placed n changes) (sym is) places);
    metas = λ yes r m at new live stand. subst (HasMetas new n) (sym is) (metas_of_file new n size (height_in p.inode) (pointer_of p.inode));
    at_most = λ yes new carried. pages yes n new carried;
    top = top;
  }

  pub names_planned : (left : List Slot) → left ≡ left_after o n before → kind_of now ≡ Some true → IsDirectory (slots_over o n before)
      → p.inode ≡ Directory (width_with left o n) (height_in p.inode) (pointer_of p.inode) → IsTrue (inode_shape p.inode)
      → (IsTrue tells → HoldsDirectory old o n was left → (new : List Block) → Carries old new was p.pages → (m : Machine) (placed : Places) → NodeIsPlanned old new o m placed n p.inode p.added p.dropped (page_blocks p.pages))
      → (IsTrue tells → (k : ℕ) (new : List Block) → Carries old new was p.pages → length (page_blocks p.pages) ≤ length (node_metas new k p.inode))
      → (IsTrue tells → height_in p.inode ≡ 2 → 0 < pointer_of p.inode → is_among (page_blocks p.pages) (pointer_of p.inode) ≡ false → IsTop was (pointer_of p.inode))
      → ((b : ℕ) → times b p.added ≤ times b (page_blocks p.pages))
      → IsTreePlanned tells old o n was before changes p
  names_planned left same directory slots is shape planned pages top used = record {
    shape = shape;
    kind = ap told is ∙ ap (λ (w : ℕ). Some (infos.Directory w)) (ap (λ (ss : List Slot). width_with ss o n) same ∙ sym (width_over o n before)) ∙ sym (told_names now directory (slots_over o n before));
    used = λ b. omega (arith, used b);
    planned = λ yes r m at placed places new live stand.
        planned yes (subst (HoldsDirectory old o n was) (sym same) (directory_held r old o m n was before at directory (left_short o n before slots))) new (carries r old o m n was before at new p.pages live stand) m placed;
    metas = λ yes r m at new live stand.
        let done = planned yes (subst (HoldsDirectory old o n was) (sym same) (directory_held r old o m n was before at directory (left_short o n before slots))) new (carries r old o m n was before at new p.pages live stand) m [] in
        subst (HasMetas new n) (sym is)
        (metas_of_directory new n (width_with left o n) (height_in p.inode) (pointer_of p.inode) (subst (λ (x : Inode). AllBelow (blocks_in_node x) (pairs_below (blocks_in new) (height_in x) (pointer_of x))) is done.tree.below)
        (λ place lt. (subst (ContentIsPlanned old new o m [] n done.changes) is done.content).there place (subst (λ (w : ℕ). place < pages_for w) (sym (width_is old o n left (same ∙ left_is r old o m n was before at))) lt)));
    at_most = λ yes new carried. pages yes n new carried;
    top = top;
  }
    where
      told_names : (x : Inode) → kind_of x ≡ Some true → (ss : List Slot) → option_map info (as_node x ss) ≡ Some (infos.Directory (length ss))
      told_names Unused kind ss = cc
      told_names (File size height ptr) kind ss = cc
      told_names (Directory width height ptr) kind ss = refl

-- ---- heights

second_of : (a b : Bool) → (a && b) ≡ true → b ≡ true
second_of true b is = is
second_of false b is = cc

first_of : (a b : Bool) → (a && b) ≡ true → a ≡ true
first_of true b is = refl
first_of false b is = cc

least_low : (t u : Bool) → cond t 0 (cond u 1 2) ≤ 2
least_low true u = omega arith
least_low false true = omega arith
least_low false false = omega arith

same_height : (a b : ℕ) → (a == b) ≡ true → a ≡ b
same_height a b is = grind (arith, nat_tests)

fits_low : (size height : ℕ) (t : Bool) → (height == height_of (blocks_of size) && t) ≡ true → height ≤ 2
fits_low size height t is = omega (arith, same_height height (height_of (blocks_of size)) (first_of _ t is), least_low (nat_le (blocks_of size) 1) (nat_le (blocks_of size) 1024))

pub shape_low : (x : Inode) → IsTrue (inode_shape x) → height_in x ≤ 2
shape_low Unused shape = omega arith
shape_low (File size height ptr) shape = fits_low size height _ (second_of _ _ shape)
shape_low (Directory width height ptr) shape = fits_low (256 * width) height _ (second_of _ _ shape)
