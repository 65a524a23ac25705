-- What has to hold of a directory to plan it.
use Rattle.std.proofs.Common.{◌≡◌, ℕ, ◌*◌, ◌<◌, ◌≤◌, Bool, true, false, cond, List, [], ◌∷◌, length, take, Some, None, inl, inr, refl, sym, ap, subst, ◌∙◌, arith}
use Rattle.std.specs.Prelude.{◌==◌, ◌⊎◌, nat_lt, max}
use Rattle.std.proofs.lemmas.Bool.Decides.{nat_tests}
use Rattle.vol_numbers.specs.declared.block.Block.{Block}
use Rattle.block_format.specs.Inode.{blocks_of, pointer_of}
use Rattle.block_format.specs.declared.inode.Inode.{Inode}
use Rattle.block_format.specs.declared.inode.Inode.TheVariants.{Unused, File, Directory}
use Rattle.block_format.specs.declared.slot.Slot.{Slot}
use Rattle.block_tree.specs.Tree.{blocks_in, block_in, pairs_below}
use Rattle.block_tree.proofs.Pairs.{pairs_are}
use Rattle.dir_slots.specs.Pages.{pages_for}
use Rattle.dirty_store.specs.Overlay.{Overlay, node_of, least_cut, width_of}
use Rattle.image_model.specs.Nodes.{AllBelow, blocks_in_node}
use Rattle.image_model.specs.Planned.{height_in}
use Rattle.image_model.specs.Seen.{seen}
use Rattle.image_model.specs.Slots.{slots_of as slots_seen}
use Rattle.image_model.specs.Stands.{Stands}
use Rattle.point_model.specs.Holding.{inode_before, slots_left, kind_of, width_in}
use Rattle.point_model.specs.NodePlan.{block_of_place}
use Rattle.point_model.specs.OldPages.{DirectoriesStand, PagesStand}
use Rattle.volume_model.specs.Machine.{Stored}
use Rattle.node_plan.specs.Laws.{DirectoryHolds}
use Rattle.tree_plan.specs.Pages.{width_with}
use Rattle.tree_plan.specs.Trees.{EndsAt}
use Rattle.node_plan.proofs.LiveTrees.{tree_full, tree_below}

lt_true : (a b : ℕ) → nat_lt a b ≡ true → a < b
lt_true a b is = grind (arith, nat_tests)

-- past the blocks below which all pairs are there is none
none_past : (blocks p : ℕ) (pairs : List (ℕ × ℕ)) → AllBelow blocks pairs → blocks ≤ p → block_in pairs p ≡ 0
none_past blocks p [] below le = refl
none_past blocks p (e ∷ es) below le =
    let lt = lt_true e.0 blocks below.0 in
    let apart : (e.0 == p) ≡ false = grind (arith, nat_tests) in
    ap (λ (t : Bool). cond t e.1 (block_in es p)) apart ∙ none_past blocks p es below.1 le

module _ (old : List Block) (s : Stored) (o : Overlay) (n : ℕ) (left : List Slot) (standing : Stands old s) (spelled : DirectoriesStand old) (is_left : left ≡ slots_left old o n) where
  gone : least_cut (node_of o n) ≡ 0 → left ≡ []
  gone none =
      let test : (least_cut (node_of o n) == 0) ≡ true = ap (λ (k : ℕ). k == 0) none in
      is_left ∙ ap (λ (t : Bool). cond t [] (take (width_in (inode_before old n)) (slots_seen (seen old) n))) test

  none_there : (place : ℕ) → left ≡ [] → place < pages_for (length left) → ⊥
  none_there place empty lt = never (subst (λ (ss : List Slot). place < pages_for (length ss)) empty lt)
    where
      never : place < pages_for (length {A = Slot} []) → ⊥
      never lt = omega (arith, lt)

  there_by : (x : Inode) → inode_before old n ≡ x → (t : Bool) → (least_cut (node_of o n) == 0) ≡ t → ((kind_of x ≡ Some true) ⊎ (least_cut (node_of o n) ≡ 0)) → (place : ℕ) → place < pages_for (length left) → (block_of_place old (inode_before old n) place == 0) ≡ false
  there_by x is t cut (inr none) place lt = absurd (none_there place (gone none) lt)
  there_by x is true cut (inl kind) place lt = let none : least_cut (node_of o n) ≡ 0 = grind (arith, nat_tests) in absurd (none_there place (gone none) lt)
  there_by Unused is false cut (inl kind) place lt = absurd (never kind)
    where
      never : None ≡ Some true → ⊥
      never e = cc
  there_by (File size height ptr) is false cut (inl kind) place lt = absurd (never kind)
    where
      never : Some false ≡ Some true → ⊥
      never e = cc
  there_by (Directory width height ptr) is false cut (inl kind) place lt =
      let slots : left ≡ take width (slots_seen (seen old) n) =
      is_left ∙ ap (λ (t : Bool). cond t [] (take (width_in (inode_before old n)) (slots_seen (seen old) n))) cut ∙ ap (λ (x : Inode). take (width_in x) (slots_seen (seen old) n)) is in
      let stand : PagesStand (blocks_in old) left height ptr = subst (λ (ss : List Slot). PagesStand (blocks_in old) ss height ptr) (sym slots) (spelled n width height ptr is) in
      ap (λ (x : Inode). block_of_place old x place == 0) is ∙ stand.there place lt

  ends_by : (x : Inode) → inode_before old n ≡ x → ((kind_of x ≡ Some true) ⊎ (least_cut (node_of o n) ≡ 0)) → ((length left ≡ width_in x) ⊎ (least_cut (node_of o n) ≡ 0))
      → EndsAt old (inode_before old n) (least_cut (node_of o n)) (blocks_of (256 * width_with left o n))
  ends_by x is (inr none) wide place lt le low = absurd (omega (arith, lt, none))
  ends_by x is (inl kind) (inr none) place lt le low = absurd (omega (arith, lt, none))
  ends_by Unused is (inl kind) (inl long) place lt le low = absurd (never kind)
    where
      never : None ≡ Some true → ⊥
      never e = cc
  ends_by (File size height ptr) is (inl kind) (inl long) place lt le low = absurd (never kind)
    where
      never : Some false ≡ Some true → ⊥
      never e = cc
  ends_by (Directory width height ptr) is (inl kind) (inl long) place lt le low =
      sym (pairs_are (blocks_in old) (height_in (inode_before old n)) (pointer_of (inode_before old n)) place)
      ∙ none_past (blocks_in_node (inode_before old n)) place (pairs_below (blocks_in old) (height_in (inode_before old n)) (pointer_of (inode_before old n))) (tree_below old standing.sound n) past
    where
      fits : (w a b p : ℕ) → a ≡ w → blocks_of (256 * max a b) ≤ p → blocks_of (256 * w) ≤ p
      fits w a b p e le = omega (arith, e, le)

      past : blocks_in_node (inode_before old n) ≤ place
      past = subst (λ (x : Inode). blocks_in_node x ≤ place) (sym is) (fits width (length left) (width_of o.slots n) place long le)

pub directory_holds : DirectoryHolds
directory_holds old s o n left standing spelled is_left renewed uncut wide = record {
  before = refl;
  slots = is_left;
  full = tree_full old standing.sound n;
  there = there_by old s o n left standing spelled is_left (inode_before old n) refl (least_cut (node_of o n) == 0) refl renewed;
  uncut = uncut;
  ends = ends_by old s o n left standing spelled is_left (inode_before old n) refl renewed wide;
  renewed = renewed;
}
