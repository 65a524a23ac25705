-- The places of files in an image in which a point is planned.
use Rattle.std.proofs.Common.{◌≡◌, ℕ, ◌<◌, ◌≤◌, Bool, true, false, not, cond, List, map, length, Some, None, inl, inr, refl, sym, ap, subst, ◌∙◌, arith}
use Rattle.std.specs.Prelude.{◌==◌, ◌||◌, ◌⊎◌, nat_lt, nat_le, Option, option_map}
use Rattle.std.specs.FinMap.{find}
use Rattle.std.proofs.lemmas.Bool.Decides.{nat_tests}
use Rattle.vol_numbers.specs.Layout.{Layout, area_start}
use Rattle.vol_numbers.specs.declared.block.Block.{Block}
use Rattle.block_format.specs.Inode.{blocks_of, pointer_of, inode_shape}
use Rattle.block_format.specs.declared.inode.Inode.{Inode}
use Rattle.block_format.specs.declared.inode.Inode.TheVariants.{Unused, File, Directory}
use Rattle.block_tree.specs.Edit.{changed_at, cut_at}
use Rattle.block_tree.specs.Tree.{blocks_in, pairs_below}
use Rattle.block_tree.proofs.Pairs.{pairs_are}
use Rattle.dirty_store.specs.Overlay.{Overlay, node_of, least_cut}
use Rattle.image_model.specs.Met.{files, NoFaults}
use Rattle.image_model.specs.Nodes.{blocks_in_node}
use Rattle.image_model.specs.Planned.{height_in}
use Rattle.image_model.specs.Seen.{seen}
use Rattle.image_model.specs.Slots.{inode_of}
use Rattle.image_model.specs.Standing.{some_block}
use Rattle.image_model.specs.Stands.{spot_of, layout_in}
use Rattle.image_model.proofs.Area.{no_faults as none_found, files_within}
use Rattle.image_model.proofs.FileLaws.{places_are_seen}
use Rattle.image_model.proofs.NextLaws.{point_places}
use Rattle.node_table.specs.Held.{info}
use Rattle.node_table.specs.declared.held.NodeInfo.TheVariants as infos
use Rattle.place_words.specs.Different.{is_among}
use Rattle.point_model.specs.Holding.{inode_before, inode_now, node_now, as_node, slots_now, kind_of}
use Rattle.point_model.specs.Laws.{MayTake, IsPlannedFor}
use Rattle.point_model.specs.NodePlan.{block_of_place, AreOfPlaces}
use Rattle.point_model.specs.PointPlan.{ContentIsPlanned, told}
use Rattle.point_model.proofs.Numbers.{node_of_path, told_file}
use Rattle.point_model.proofs.Placed.{Comes, old as of_old, new as of_new, comes, in_file}
use Rattle.point_model.proofs.Places.{no_file, no_places, all_file_blocks, among_within, not_zero, past_none}
use Rattle.point_model.proofs.Spelled.{no_faults, inodes_new, lt_true, lt_false}
use Rattle.state_laws.proofs.HeldBytes.{block_spot}
use Rattle.tree_model.specs.declared.node.Content.TheVariants as content_of
use Rattle.tree_model.specs.declared.report.Report.{Report}
use Rattle.volume_model.specs.Machine.{Machine, Rules, stored}
use Rattle.volume_model.specs.Places.{Spot, Places, spot_cmp, has_spot, blocks_of as blocks_in_places, is_block}
use Rattle.volume_model.specs.Point.{placed_after, fresh_in}
use Rattle.volume_model.proofs.LineLaws.{fresh_are_unused}
use Rattle.volume_model.proofs.Order.{first_of}
use Rattle.volume_model.proofs.PlacesTold.{places_are_told}

some_some : (b : ℕ) → (b == 0) ≡ false → some_block b ≡ Some b
some_some b e = ap (λ (t : Bool). cond t None (Some b)) e

le_not : (a b : ℕ) (t : Bool) → nat_lt a b ≡ t → nat_le b a ≡ not t
le_not a b true e = grind (arith, nat_tests)
le_not a b false e = grind (arith, nat_tests)

le_true : (a b : ℕ) → nat_le a b ≡ true → a ≤ b
le_true a b e = grind (arith, nat_tests)

small_blocks : (size : ℕ) → size ≤ 4294967296 → blocks_of size ≤ 1048576
small_blocks size le = omega (arith, le)

module _ (r : Rules) (old new : List Block) (o : Overlay) (m : Machine) (report : Report) (may : MayTake r old o m report) (plan : IsPlannedFor r old new o m report) where
  abbrev placed : Places
  placed = placed_after r m (fresh_in report)

  -- a block of the last point lies in the area
  pub stored_in_area : (block : ℕ) → is_block m.stored_places block ≡ true → area_start (layout_in old) ≤ block
  stored_in_area block is =
      let files_are : blocks_in_places m.stored_places ≡ files (seen old).met = ap blocks_in_places may.stands.shows.places ∙ sym (all_file_blocks old) in
      among_within (area_start (layout_in old)) (layout_in old).blocks (files (seen old).met) (files_within (layout_in old) (seen old).met (seen old).met may.stands.sound.pointers) block
      (subst (λ (bs : List ℕ). is_among bs block ≡ true) files_are is)

  abbrev start_positive : Layout → Type 0
  start_positive g = 1 ≤ area_start g

  is_positive : (g : Layout) → start_positive g
  is_positive g = omega arith

  -- a place has no block 0
  pub not_none : (spot : Spot) (block : ℕ) → find spot_cmp spot placed ≡ Some block → (block == 0) ≡ false
  not_none spot block found = by (comes r m report may.coherent may.is_report spot block found)
    where
      by : Comes m report spot block → (block == 0) ≡ false
      by (of_old held stored) = not_zero block (omega (arith, stored_in_area block stored, is_positive (layout_in old)))
      by (of_new dirty fresh) = not_zero block (omega (arith, (fresh_are_unused.in_area r m report block may.is_report.point fresh).0, is_positive m.layout))

  -- a place that has a block is of a planned file, and within it
  record InPlanned (n place : ℕ) : Type 0 where
    size : ℕ
    is : plan.inode n ≡ File size (height_in (plan.inode n)) (pointer_of (plan.inode n))
    within : place < blocks_of size

  of_planned : (n place block : ℕ) → find spot_cmp (n, place) placed ≡ Some block → InPlanned n place
  of_planned n place block found =
      let has = in_file r m report may.coherent may.is_report (n, place) block found in
      let tells = node_of_path (node_now old o) m.tree may.coherent.tree may.holds.nodes plan.inode plan.inodes.kinds has.path (record { number = n; content = content_of.File has.bytes }) has.stands in
      record { size = length has.bytes; is = told_file (plan.inode n) (length has.bytes) tells; within = omega (arith, has.within) }

  -- what is no file has none
  none_elsewhere : (n place : ℕ) → no_file (plan.inode n) → find spot_cmp (n, place) placed ≡ None
  none_elsewhere n place not = by (find spot_cmp (n, place) placed) refl
    where
      by : (found : Option ℕ) → find spot_cmp (n, place) placed ≡ found → find spot_cmp (n, place) placed ≡ None
      by None is = is
      by (Some block) is = absurd (subst no_file (of_planned n place block is).is not)

  -- and neither has a file past its blocks
  none_past : (n place size height ptr : ℕ) → plan.inode n ≡ File size height ptr → blocks_of size ≤ place → find spot_cmp (n, place) placed ≡ None
  none_past n place size height ptr file le = by (find spot_cmp (n, place) placed) refl
    where
      same_size : (x : Inode) (s h p s' h' p' : ℕ) → x ≡ File s h p → x ≡ File s' h' p' → s ≡ s'
      same_size x s h p s' h' p' e f = let both : File s h p ≡ File s' h' p' = sym e ∙ f in cc

      by : (found : Option ℕ) → find spot_cmp (n, place) placed ≡ found → find spot_cmp (n, place) placed ≡ None
      by None is = is
      by (Some block) is =
          let has = of_planned n place block is in
          let same = same_size (plan.inode n) _ _ _ _ _ _ file has.is in
          absurd (omega (arith, has.within, le, same))

  -- ---- the block of each place of a file

  -- what a place of a number had at the last point, where its kind is as it was
  old_block : (n place : ℕ) → kind_of (inode_before old n) ≡ Some false → some_block (block_of_place old (inode_before old n) place) ≡ find spot_cmp (n, place) m.stored_places
  old_block n place kind = by (inode_before old n) refl kind
    where
      none : NoFaults (seen old).met
      none = none_found (layout_in old) (seen old).met (seen old).met may.stands.sound.pointers

      by : (x : Inode) → inode_before old n ≡ x → kind_of x ≡ Some false → some_block (block_of_place old x place) ≡ find spot_cmp (n, place) m.stored_places
      by Unused is kind = cc
      by (Directory width height ptr) is kind = cc
      by (File size height ptr) is kind = sym (ap (find spot_cmp (n, place)) may.stands.shows.places ∙ places_are_seen old n size height ptr place none is)

  -- a place that isn't dirty has what is left of the old one
  clean_block : (n place : ℕ) (before : ℕ → ℕ) → kind_of (inode_now old o n) ≡ Some false → before place ≡ block_of_place old (inode_before old n) place → has_spot m.dirty (n, place) ≡ false
      → some_block (cut_at (least_cut (node_of o n)) before place) ≡ find spot_cmp (n, place) placed
  clean_block n place before kind is clean =
      by (nat_lt place (least_cut (node_of o n))) refl (may.holds.renewed n)
      ∙ sym ((λ i. cond (clean i || nat_le (least_cut (node_of o n)) place) None (find spot_cmp (n, place) m.stored_places)))
      ∙ sym (may.holds.kept (n, place))
      ∙ sym (places_are_told.others r m report may.is_report (n, place) clean)
    where
      by : (t : Bool) → nat_lt place (least_cut (node_of o n)) ≡ t → (kind_of (inode_now old o n) ≡ kind_of (inode_before old n)) ⊎ (least_cut (node_of o n) ≡ 0)
          → some_block (cond t (before place) 0) ≡ cond (nat_le (least_cut (node_of o n)) place) None (find spot_cmp (n, place) m.stored_places)
      by false lt either = sym (ap (λ (t : Bool). cond t None (find spot_cmp (n, place) m.stored_places)) (le_not place (least_cut (node_of o n)) false lt))
      by true lt (inl same) =
          ap some_block is ∙ old_block n place (sym same ∙ kind) ∙ sym (ap (λ (t : Bool). cond t None (find spot_cmp (n, place) m.stored_places)) (le_not place (least_cut (node_of o n)) true lt))
      by true lt (inr zero_cut) = let below = lt_true place (least_cut (node_of o n)) lt in absurd (omega (arith, below, zero_cut))

  told_kind : (n size height ptr : ℕ) → plan.inode n ≡ File size height ptr → kind_of (inode_now old o n) ≡ Some false
  told_kind n size height ptr is = by (inode_now old o n) (sym (plan.inodes.kinds n) ∙ ap told is)
    where
      by : (x : Inode) → option_map info (as_node x (slots_now old o n)) ≡ Some (infos.File size) → kind_of x ≡ Some false
      by Unused e = cc
      by (File own height ptr) e = refl
      by (Directory width height ptr) e = cc

  -- a file has no more blocks than a node may have
  few_blocks : (n size height ptr : ℕ) → plan.inode n ≡ File size height ptr → blocks_of size ≤ 1048576
  few_blocks n size height ptr is = small_blocks size (limit (subst (λ (x : Inode). inode_shape x ≡ true) is (plan.inodes.spellings.shapes n)))
    where
      limit : inode_shape (File size height ptr) ≡ true → size ≤ 4294967296
      limit shape = le_true size 4294967296 (first_of _ _ shape)

  below_blocks : (n place size height ptr : ℕ) → plan.inode n ≡ File size height ptr → (content : AreOfPlaces m.dirty placed n (plan.nodes n).changes) → place < blocks_of size
      → some_block (block_of_place new (plan.inode n) place) ≡ find spot_cmp (n, place) placed
  below_blocks n place size height ptr is content lt =
      ap some_block ((plan.nodes n).tree.map place (omega (arith, lt, few_blocks n size height ptr is))) ∙ by (has_spot m.dirty (n, place)) refl
    where
      before : ℕ → ℕ
      before = block_of_place old (inode_before old n)

      by : (t : Bool) → has_spot m.dirty (n, place) ≡ t → some_block (changed_at (plan.nodes n).changes (cut_at (least_cut (node_of o n)) before) place) ≡ find spot_cmp (n, place) placed
      by true dirty = let found = content.dirty_places (cut_at (least_cut (node_of o n)) before) place dirty in some_some _ (not_none (n, place) _ found) ∙ sym found
      by false dirty = ap some_block (content.other_places (cut_at (least_cut (node_of o n)) before) place dirty) ∙ clean_block n place before (told_kind n size height ptr is) refl dirty

  past_blocks : (n place size height ptr : ℕ) → plan.inode n ≡ File size height ptr → blocks_of size ≤ place → block_of_place new (plan.inode n) place ≡ 0
  past_blocks n place size height ptr is le =
      sym (pairs_are (blocks_in new) (height_in (plan.inode n)) (pointer_of (plan.inode n)) place)
      ∙ past_none (blocks_in_node (plan.inode n)) place (pairs_below (blocks_in new) (height_in (plan.inode n)) (pointer_of (plan.inode n))) (plan.nodes n).tree.below
      (subst (λ (x : Inode). blocks_in_node x ≤ place) (sym is) le)

  -- each place of a file has the block that it has after the point
  pub file_places : (n place size height ptr : ℕ) → plan.inode n ≡ File size height ptr → some_block (block_of_place new (plan.inode n) place) ≡ find spot_cmp (n, place) placed
  file_places n place size height ptr is =
      by (nat_lt place (blocks_of size)) refl (subst (ContentIsPlanned old new o m placed n (plan.nodes n).changes) is (plan.nodes n).content)
    where
      by : (t : Bool) → nat_lt place (blocks_of size) ≡ t → AreOfPlaces m.dirty placed n (plan.nodes n).changes → some_block (block_of_place new (plan.inode n) place) ≡ find spot_cmp (n, place) placed
      by true lt content = below_blocks n place size height ptr is content (lt_true place (blocks_of size) lt)
      by false lt content =
          let le = lt_false place (blocks_of size) lt in
          ap some_block (past_blocks n place size height ptr is le) ∙ sym (none_past n place size height ptr is le)

  -- what is seen of each place
  place_new : (n place : ℕ) → find spot_cmp (n, place) (map spot_of (seen new).contents) ≡ find spot_cmp (n, place) placed
  place_new n place = by (plan.inode n) refl
    where
      none : NoFaults (seen new).met
      none = no_faults r old new o m report may plan

      seen_is : inode_of (seen new).nodes n ≡ plan.inode n
      seen_is = inodes_new r old new o m report may plan n

      by : (x : Inode) → plan.inode n ≡ x → find spot_cmp (n, place) (map spot_of (seen new).contents) ≡ find spot_cmp (n, place) placed
      by Unused is = no_places new n place none (subst no_file (sym (seen_is ∙ is)) tt) ∙ sym (none_elsewhere n place (subst no_file (sym is) tt))
      by (Directory width height ptr) is = no_places new n place none (subst no_file (sym (seen_is ∙ is)) tt) ∙ sym (none_elsewhere n place (subst no_file (sym is) tt))
      by (File size height ptr) is =
          places_are_seen new n size height ptr place none (seen_is ∙ is) ∙ sym (ap (λ (x : Inode). some_block (block_of_place new x place)) is) ∙ file_places n place size height ptr is

  pub places_new : map spot_of (seen new).contents ≡ placed
  places_new = point_places.seen new r m (fresh_in report) (no_faults r old new o m report may plan) may.coherent.whole.kept_in_order (λ spot. place_new spot.0 spot.1)

  -- a file's block was a file's before, or is fresh
  pub files_new : (b : ℕ) → is_among (files (seen new).met) b ≡ true → (is_among (files (seen old).met) b ≡ true) ⊎ (is_among (fresh_in report) b ≡ true)
  files_new b among =
      let is : is_block placed b ≡ true = subst (λ (bs : List ℕ). is_among bs b ≡ true) (all_file_blocks new ∙ ap blocks_in_places places_new) among in
      let at = block_spot placed b (point_places.in_order r m (fresh_in report) may.coherent.whole.kept_in_order) is in
      by (comes r m report may.coherent may.is_report at.spot b at.found)
    where
      by : {spot : Spot} → Comes m report spot b → (is_among (files (seen old).met) b ≡ true) ⊎ (is_among (fresh_in report) b ≡ true)
      by (of_old held is) = inl (subst (λ (bs : List ℕ). is_among bs b ≡ true) (ap blocks_in_places may.stands.shows.places ∙ sym (all_file_blocks old)) is)
      by (of_new dirty is) = inr is
