-- The pages that a point keeps spell the slots now, and their blocks are live.
use Rattle.std.proofs.Common.{◌≡◌, ℕ, ◌+◌, ◌<◌, ◌≤◌, Bool, true, false, not, cond, List, [], length, take, Some, refl, sym, ap, subst, ◌∙◌, arith}
use Rattle.std.specs.Prelude.{◌==◌, ◌&&◌, nat_lt}
use Rattle.vol_numbers.specs.declared.block.Block.{Block}
use Rattle.block_format.specs.declared.inode.Inode.{Inode}
use Rattle.block_format.specs.declared.inode.Inode.TheVariants.{Unused, File, Directory}
use Rattle.block_format.specs.declared.slot.Slot.{Slot}
use Rattle.block_tree.specs.Tree.{blocks_in}
use Rattle.dir_slots.specs.Pages.{IsPage, pages_for}
use Rattle.dirty_store.specs.Overlay.{Overlay, node_of, least_cut}
use Rattle.image_model.specs.Findings.{is_in_area}
use Rattle.image_model.specs.Live.{IsLive, counted}
use Rattle.image_model.specs.Met.{metas, files, pointers_to, NoFaults}
use Rattle.image_model.specs.Seen.{seen}
use Rattle.image_model.specs.Slots.{slots_of as slots_seen}
use Rattle.point_model.specs.OldPages.{PagesStand, DirectoriesStand}
use Rattle.image_model.specs.Stands.{layout_in}
use Rattle.image_model.specs.Sound.{IsSound}
use Rattle.image_model.proofs.Area.{no_faults as none_found, split_none, files_within, metas_within, not_among_times}
use Rattle.place_words.specs.Different.{is_among, times}
use Rattle.point_model.specs.Holding.{inode_before, inode_now, slots_left, slots_now, width_in, kind_of}
use Rattle.point_model.specs.Laws.{MayTake, IsPlannedFor}
use Rattle.point_model.specs.NodePlan.{block_of_place, node_pointers, is_kept_page, is_changed_page}
use Rattle.point_model.proofs.Counted.{old_counted}
use Rattle.point_model.proofs.FileBytes.{in_area, area_counted}
use Rattle.point_model.proofs.OldPages.{page_kept, pointer_there, one_of_total}
use Rattle.point_model.proofs.Spelled.{lt_true, lt_false, none_above}
use Rattle.tree_model.specs.declared.report.Report.{Report}
use Rattle.volume_model.specs.Machine.{Machine, Rules, stored}

-- a block to which a pointer leads is live
pub pointed_live : (old : List Block) → IsSound (layout_in old) (seen old) → (b : ℕ) → 1 ≤ pointers_to b (seen old).met → IsLive old b
pointed_live old sound b some = counted b area (positive _ _ (sound.counts b (area_counted (layout_in old) b area)) some)
  where
    positive : (kept pointers : ℕ) → kept ≡ pointers → 1 ≤ pointers → 0 < kept
    positive kept pointers e le = omega (arith, e, le)

    never : (all meta file : ℕ) → all ≡ meta + file → meta ≡ 0 → file ≡ 0 → 1 ≤ all → ⊥
    never all meta file e f g le = omega (arith, e, f, g, le)

    by : (t u : Bool) → is_among (metas (seen old).met) b ≡ t → is_among (files (seen old).met) b ≡ u → is_in_area (layout_in old) b ≡ true
    by true u is also = in_area (layout_in old) (metas (seen old).met) (metas_within (layout_in old) (seen old).met (seen old).met sound.pointers) b is
    by false true is also = in_area (layout_in old) (files (seen old).met) (files_within (layout_in old) (seen old).met (seen old).met sound.pointers) b also
    by false false is also =
        absurd (never _ _ _ (split_none (seen old).met b (none_found (layout_in old) (seen old).met (seen old).met sound.pointers))
        (not_among_times b (metas (seen old).met) is) (not_among_times b (files (seen old).met) also) some)

    area : is_in_area (layout_in old) b ≡ true
    area = by (is_among (metas (seen old).met) b) (is_among (files (seen old).met) b) refl refl

first_of : (a b : Bool) → (a && b) ≡ true → a ≡ true
first_of true b e = refl
first_of false b e = cc

second_not : (a b : Bool) → (a && not b) ≡ true → b ≡ false
second_not true true e = cc
second_not true false e = refl
second_not false b e = cc

no_pages : (place : ℕ) → place < pages_for (length {A = Slot} []) → ⊥
no_pages place lt = omega (arith, lt)

module _ (r : Rules) (old new : List Block) (o : Overlay) (m : Machine) (report : Report) (may : MayTake r old o m report) (plan : IsPlannedFor r old new o m report) (stand : DirectoriesStand old) where
  block_live : (n place : ℕ) → n < 65536 → (block_of_place old (inode_before old n) place == 0) ≡ false → IsLive old (block_of_place old (inode_before old n) place)
  block_live n place lt some =
      pointed_live old may.stands.sound (block_of_place old (inode_before old n) place)
      (enough _ _ _ _ (old_counted old (stored m) may.stands (block_of_place old (inode_before old n) place))
      (one_of_total (λ k. times (block_of_place old (inode_before old n) place) (node_pointers old (inode_before old k))) 0 65536 n (omega arith) (omega (arith, lt)))
      (pointer_there old (inode_before old n) place some))
    where
      enough : (all top sum one : ℕ) → all ≡ top + sum → one ≤ sum → 1 ≤ one → 1 ≤ all
      enough all top sum one e f g = omega (arith, e, f, g)

  few : (n width height ptr : ℕ) → inode_before old n ≡ Directory width height ptr → n < 65536
  few n width height ptr is = by (nat_lt n 65536) refl
    where
      none : NoFaults (seen old).met
      none = none_found (layout_in old) (seen old).met (seen old).met may.stands.sound.pointers

      by : (t : Bool) → nat_lt n 65536 ≡ t → n < 65536
      by true lt = lt_true n 65536 lt
      by false lt = let never : Directory width height ptr ≡ Unused = sym is ∙ none_above old none n (lt_false n 65536 lt) in cc

  abbrev Kept : ℕ → ℕ → Type 0
  Kept n place = IsPage (slots_now old o n) place (blocks_in old (block_of_place old (inode_before old n) place)) × IsLive old (block_of_place old (inode_before old n) place)

  of_directory : (n place width height ptr : ℕ) → inode_before old n ≡ Directory width height ptr → slots_left old o n ≡ take width (slots_seen (seen old) n) → place < pages_for (length (slots_left old o n)) → is_changed_page (slots_left old o n) o n place ≡ false → Kept n place
  of_directory n place width height ptr is left lt none =
      let stands : PagesStand (blocks_in old) (slots_left old o n) height ptr = subst (λ (ss : List Slot). PagesStand (blocks_in old) ss height ptr) (sym left) (stand n width height ptr is) in
      let there : (block_of_place old (inode_before old n) place == 0) ≡ false = ap (λ (x : Inode). block_of_place old x place == 0) is ∙ stands.there place lt in (
        subst (λ (x : Inode). IsPage (slots_now old o n) place (blocks_in old (block_of_place old x place))) (sym is) (page_kept old o n place height ptr stands lt none),
        block_live n place (few n width height ptr is) there,
      )

  by_inode : (n place : ℕ) (x : Inode) → inode_before old n ≡ x → slots_left old o n ≡ take (width_in x) (slots_seen (seen old) n) → place < pages_for (length (slots_left old o n)) → is_changed_page (slots_left old o n) o n place ≡ false → Kept n place
  by_inode n place Unused is left lt none = absurd (no_pages place (subst (λ (ss : List Slot). place < pages_for (length ss)) left lt))
  by_inode n place (File size height ptr) is left lt none = absurd (no_pages place (subst (λ (ss : List Slot). place < pages_for (length ss)) left lt))
  by_inode n place (Directory width height ptr) is left lt none = of_directory n place width height ptr is left lt none

  by_cut : (t : Bool) (n place : ℕ) → (least_cut (node_of o n) == 0) ≡ t → place < pages_for (length (slots_left old o n)) → is_changed_page (slots_left old o n) o n place ≡ false → Kept n place
  by_cut true n place cut lt none =
      let left : slots_left old o n ≡ [] = ap (λ (t : Bool). cond t [] (take (width_in (inode_before old n)) (slots_seen (seen old) n))) cut in
      absurd (no_pages place (subst (λ (ss : List Slot). place < pages_for (length ss)) left lt))
  by_cut false n place cut lt none =
      by_inode n place (inode_before old n) refl (ap (λ (t : Bool). cond t [] (take (width_in (inode_before old n)) (slots_seen (seen old) n))) cut) lt none

  pub old_pages : (n place : ℕ) → kind_of (inode_now old o n) ≡ Some true → is_kept_page old o n place ≡ true → Kept n place
  old_pages n place kind kept =
      by_cut (least_cut (node_of o n) == 0) n place refl (lt_true place (pages_for (length (slots_left old o n))) (first_of _ _ kept)) (second_not _ _ kept)
