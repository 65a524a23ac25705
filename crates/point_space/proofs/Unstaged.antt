-- The metadata of a number of which nothing is staged, and what is counted before and after a point.
use Rattle.std.proofs.Common.{◌≡◌, ℕ, ◌+◌, Bool, true, false, cond, List, [], ◌∷◌, ◌++◌, length, map, take, Some, None, refl, sym, ap, ◌∙◌, arith}
use Rattle.std.specs.Prelude.{◌==◌, ◌||◌, nat_eq, max, Option, option_map}
use Rattle.std.specs.FinMap.{find, nat_cmp-IsAntisymmetric}
use Rattle.std.specs.Ordering.{eq_by_cmp, nat_cmp}
use Rattle.std.proofs.lemmas.Bool.Decides.{nat_tests}
use Rattle.vol_numbers.specs.declared.block.Block.{Block}
use Rattle.block_format.specs.declared.slot.Slot.{Slot}
use Rattle.dir_slots.specs.Slots.{slot_at}
use Rattle.dirty_store.specs.Entries.{Entries}
use Rattle.dirty_store.specs.Numbers.{numbers_in, staged_numbers}
use Rattle.dirty_store.specs.Overlay.{Overlay, clean, node_of, least_cut, width_of}
use Rattle.dirty_store.specs.declared.node_change.NodeChange.{NodeChange}
use Rattle.dirty_store.proofs.Places.{equal_of}
use Rattle.image_model.specs.Seen.{seen}
use Rattle.image_model.specs.Slots.{slots_of as slots_seen}
use Rattle.image_model.proofs.StandingTree.{standing_tree}
use Rattle.tree_plan.proofs.RisingLaws.{append_among}
use Rattle.node_plan.proofs.UnstagedLaws.{unstaged_is_planned}
use Rattle.node_table.specs.Held.{info}
use Rattle.place_words.specs.Different.{is_among, total}
use Rattle.place_words.proofs.Rising.{rising_distinct}
use Rattle.point_model.specs.Holding.{inode_before, staged_or, slot_or, slots_from, width_in, node_now, as_node}
use Rattle.point_model.specs.Laws.{PagesAreSpelled}
use Rattle.point_model.specs.NodePlan.{node_metas}
use Rattle.point_model.specs.Staging.{AtRest}
use Rattle.point_space.specs.Laws.{OldMetadataIs, UnstagedMetadataIs, MetadataIsCounted}
use Rattle.point_space.specs.Metadata.{node_metadata, DirtyHaveBlocks}
use Rattle.point_space.proofs.NewMetadata.{metadata_is}
use Rattle.point_space.proofs.OldNodes.{resting, holds_resting, told_before, shape_before}
use Rattle.point_space.proofs.TreeSums.{limit, sums_below, differ_there}
use Rattle.volume_model.specs.Machine.{Machine, stored}
use Rattle.volume_model.specs.Places.{Spot, spot_cmp}
use Rattle.volume_model.specs.Short.{kept_and_dirty}
use Rattle.volume_model.proofs.PlacesTold.{same_by_cmp}

left_none : (a b : Bool) → (a || b) ≡ false → a ≡ false
left_none true b e = cc
left_none false b e = refl

right_none : (a b : Bool) → (a || b) ≡ false → b ≡ false
right_none true b e = cc
right_none false b e = e

-- ---- what isn't staged is as it was

no_node : (nodes : List (ℕ × NodeChange)) (n : ℕ) → is_among (map (λ (e : ℕ × NodeChange). e.0) nodes) n ≡ false → find nat_cmp n nodes ≡ None
no_node [] n out = refl
no_node (e ∷ es) n out = ap (λ (t : Bool). cond t (Some e.1) (find nat_cmp n es)) (by (eq_by_cmp nat_cmp n e.0) refl) ∙ no_node es n (right_none _ _ out)
  where
    by : (b : Bool) → eq_by_cmp nat_cmp n e.0 ≡ b → b ≡ false
    by true tied =
        let same : n ≡ e.0 = nat_cmp-IsAntisymmetric n e.0 (equal_of _ tied) in
        let never : nat_eq e.0 n ≡ false = left_none _ _ out in
        absurd (grind (arith, nat_tests))
    by false tied = refl

no_slot : (es : Entries Slot) (n k : ℕ) → is_among (numbers_in es) n ≡ false → find spot_cmp (n, k) es ≡ None
no_slot [] n k out = refl
no_slot (e ∷ es) n k out = ap (λ (t : Bool). cond t (Some e.1) (find spot_cmp (n, k) es)) (by (eq_by_cmp spot_cmp (n, k) e.0) refl) ∙ no_slot es n k (right_none _ _ out)
  where
    by : (b : Bool) → eq_by_cmp spot_cmp (n, k) e.0 ≡ b → b ≡ false
    by true tied =
        let same : n ≡ e.0.0 = ap (λ (s : Spot). s.0) (same_by_cmp (n, k) e.0 tied) in
        let never : nat_eq e.0.0 n ≡ false = left_none _ _ out in
        absurd (grind (arith, nat_tests))
    by false tied = refl

no_width : (es : Entries Slot) (n : ℕ) → is_among (numbers_in es) n ≡ false → width_of es n ≡ 0
no_width [] n out = refl
no_width (e ∷ es) n out = ap (λ (t : Bool). cond t (max (e.0.1 + 1) (width_of es n)) (width_of es n)) (left_none _ _ out) ∙ no_width es n (right_none _ _ out)

node_stays : (old : List Block) (o : Overlay) (n : ℕ) → is_among (staged_numbers o) n ≡ false → node_now old o n ≡ node_now old clean n
node_stays old o n out = λ i.
    as_node (staged_or (node i) (inode_before old n))
    (slots_from (λ k. slot_or (slot k i) (slot_at (left_by (node i)) k)) 0 (max (length (left_by (node i))) (width i)))
  where
    left_by : Option NodeChange → List Slot
    left_by change = cond (least_cut change == 0) [] (take (width_in (inode_before old n)) (slots_seen (seen old) n))

    behind : (is_among (map (λ (e : ℕ × NodeChange). e.0) o.nodes) n || is_among (numbers_in o.slots) n) ≡ false
    behind = sym (append_among (map (λ (e : ℕ × NodeChange). e.0) o.nodes) (numbers_in o.slots) n)
        ∙ right_none (is_among (numbers_in o.blocks) n) _ (sym (append_among (numbers_in o.blocks) (map (λ (e : ℕ × NodeChange). e.0) o.nodes ++ numbers_in o.slots) n) ∙ out)

    node : node_of o n ≡ None
    node = no_node o.nodes n (left_none _ _ behind)

    slot : (k : ℕ) → find spot_cmp (n, k) o.slots ≡ None
    slot k = no_slot o.slots n k (right_none (is_among (map (λ (e : ℕ × NodeChange). e.0) o.nodes) n) _ behind)

    width : width_of o.slots n ≡ 0
    width = no_width o.slots n (right_none (is_among (map (λ (e : ℕ × NodeChange). e.0) o.nodes) n) _ behind)

no_block : (m : Machine) → DirtyHaveBlocks m []
no_block m spot block dirty found = cc

-- ---- the laws

module _ (rest : AtRest) (pages : PagesAreSpelled) where
  pub old_metadata_is : OldMetadataIs
  old_metadata_is old s n stands =
      metadata_is old old s clean (resting rest old s stands) [] n (inode_before old n) [] [] [] stands refl (standing_tree old s stands) (holds_resting rest old s stands) (no_block (resting rest old s stands))
      (unstaged_is_planned old old s clean (resting rest old s stands) [] n stands (pages old s stands) (λ b live. refl) refl refl) (told_before rest old s stands n) (shape_before old s stands n)

  pub unstaged_metadata_is : UnstagedMetadataIs
  unstaged_metadata_is r old o m n stands coherent holds out =
      metadata_is old old (stored m) o m [] n (inode_before old n) [] [] [] stands refl coherent.tree holds (no_block m)
      (unstaged_is_planned old old (stored m) o m [] n stands (pages old (stored m) stands) (λ b live. refl) holds.dirty out)
      (told_before rest old (stored m) stands n ∙ ap (option_map info) (sym (node_stays old o n out))) (shape_before old (stored m) stands n)
      ∙ sym (old_metadata_is old (stored m) n stands)

  pub metadata_is_counted : MetadataIsCounted
  metadata_is_counted r old o m ns stands coherent holds once =
      let before = node_metadata m.stored_tree m.stored_places in
      let after = node_metadata m.tree (kept_and_dirty m) in
      let below = limit ns in
      let same : total before ns ≡ total (λ n. length (node_metas old n (inode_before old n))) ns = (λ i. total (λ n. old_metadata_is old (stored m) n stands i) ns) in
      omega (
        arith,
        sums_below m.tree (kept_and_dirty m) coherent.tree below.most below.least,
        sums_below m.stored_tree m.stored_places coherent.mountable.tree below.most below.least,
        differ_there after before ns below.most below.all (rising_distinct 0 ns once.rises) (λ n out. unstaged_metadata_is r old o m n stands coherent holds (sym (once.each n) ∙ out)),
        same,
      )
