-- A number of which nothing is staged.
use Rattle.std.proofs.Common.{◌≡◌, ℕ, ◌+◌, ◌*◌, ◌<◌, Bool, true, false, not, cond, List, [], ◌∷◌, ◌++◌, map, length, take, Some, None, refl, sym, ap, subst, ◌∙◌, arith}
use Rattle.std.specs.Prelude.{◌==◌, ◌&&◌, ◌||◌, nat_eq, nat_lt, max, Option}
use Rattle.std.specs.FinMap.{find, nat_cmp-IsAntisymmetric}
use Rattle.std.specs.Ordering.{eq_by_cmp, nat_cmp}
use Rattle.std.proofs.lemmas.Bool.Decides.{nat_tests}
use Rattle.vol_numbers.specs.declared.block.Block.{Block}
use Rattle.block_format.specs.Inode.{pointer_of}
use Rattle.block_format.specs.declared.inode.Inode.{Inode}
use Rattle.block_format.specs.declared.inode.Inode.TheVariants.{Unused, File, Directory}
use Rattle.block_format.specs.declared.slot.Slot.{Slot}
use Rattle.block_tree.specs.Tree.{blocks_in, pairs_below, indexes_below, IsFull}
use Rattle.dir_slots.specs.Pages.{pages_for}
use Rattle.dir_slots.specs.Slots.{slot_at}
use Rattle.dirty_store.specs.Entries.{Entries}
use Rattle.dirty_store.specs.Laws.{dirty_spots}
use Rattle.dirty_store.specs.Numbers.{numbers_in, staged_numbers}
use Rattle.dirty_store.specs.Overlay.{Overlay, node_of, least_cut, width_of}
use Rattle.dirty_store.specs.declared.node_change.NodeChange.{NodeChange}
use Rattle.dirty_store.proofs.Places.{equal_of}
use Rattle.image_model.specs.Met.{metas, index, page, content}
use Rattle.image_model.specs.Nodes.{AllBelow, blocks_in_node}
use Rattle.image_model.specs.Planned.{height_in}
use Rattle.image_model.specs.Seen.{seen}
use Rattle.image_model.specs.Slots.{slots_of as slots_seen}
use Rattle.image_model.specs.Stands.{Stands}
use Rattle.place_words.specs.Different.{is_among, times}
use Rattle.point_model.specs.Holding.{inode_before, slots_left, slots_now, width_in}
use Rattle.point_model.specs.NodePlan.{block_of_place, node_pointers, node_metas, differs, is_changed_page, is_kept_page, TreeIsPlanned, PointersArePlanned, PagesArePlanned}
use Rattle.point_model.specs.OldPages.{PagesStand, DirectoriesStand}
use Rattle.point_model.proofs.ChangedPages.{unchanged_page}
use Rattle.point_model.specs.PointPlan.{LiveStays, NodeIsPlanned, ContentIsPlanned}
use Rattle.volume_model.specs.Machine.{Machine, Stored}
use Rattle.volume_model.specs.Places.{Spot, Places, has_spot, spot_cmp}
use Rattle.volume_model.proofs.PlacesTold.{tie_is}
use Rattle.node_plan.specs.Laws.{UnstagedIsPlanned}
use Rattle.node_plan.proofs.LiveTrees.{tree_full, tree_below, tree_stays}
use Rattle.tree_plan.proofs.RisingLaws.{append_among}
use Rattle.node_plan.proofs.SameTrees.{Same, indexes_same, pairs_same, block_same, full_same}
use Rattle.tree_plan.proofs.SlotLaws.{width_is}

-- ---- what isn't staged

left_none : (a b : Bool) → (a || b) ≡ false → a ≡ false
left_none true b e = cc
left_none false b e = refl

right_none : (a b : Bool) → (a || b) ≡ false → b ≡ false
right_none true b e = cc
right_none false b e = e

no_node : (nodes : List (ℕ × NodeChange)) (n : ℕ) → is_among (map (λ e. e.0) nodes) n ≡ false → find nat_cmp n nodes ≡ None
no_node [] n out = refl
no_node (e ∷ es) n out = ap (λ (t : Bool). cond t (Some e.1) (find nat_cmp n es)) (by (eq_by_cmp nat_cmp n e.0) refl) ∙ no_node es n (right_none _ _ out)
  where
    by : (b : Bool) → eq_by_cmp nat_cmp n e.0 ≡ b → b ≡ false
    by true tied =
        let same : n ≡ e.0 = nat_cmp-IsAntisymmetric n e.0 (equal_of _ tied) in
        let never : nat_eq e.0 n ≡ false = left_none _ _ out in
        absurd (grind (arith, nat_tests))
    by false tied = refl

not_dirty : {T : Type 0} → (es : Entries T) (n p : ℕ) → is_among (numbers_in es) n ≡ false → has_spot (map (λ e. e.0) es) (n, p) ≡ false
not_dirty [] n p out = refl
not_dirty (e ∷ es) n p out = ap (λ (t : Bool). (t && nat_eq e.0.1 p) || has_spot (map (λ e. e.0) es) (n, p)) (left_none _ _ out) ∙ not_dirty es n p (right_none _ _ out)

no_width : {T : Type 0} → (es : Entries T) (n : ℕ) → is_among (numbers_in es) n ≡ false → width_of es n ≡ 0
no_width [] n out = refl
no_width (e ∷ es) n out = ap (λ (t : Bool). cond t (max (e.0.1 + 1) (width_of es n)) (width_of es n)) (left_none _ _ out) ∙ no_width es n (right_none _ _ out)

no_slot : {T : Type 0} → (es : Entries T) (n k : ℕ) → is_among (numbers_in es) n ≡ false → find spot_cmp (n, k) es ≡ None
no_slot [] n k out = refl
no_slot (e ∷ es) n k out =
    ap (λ (t : Bool). cond t (Some e.1) (find spot_cmp (n, k) es)) (tie_is (n, k) e.0 ∙ ap (λ (t : Bool). t && nat_eq e.0.1 k) (left_none _ _ out)) ∙ no_slot es n k (right_none _ _ out)

record IsUnstaged (o : Overlay) (n : ℕ) : Type 0 where
  node : node_of o n ≡ None
  dirty : (p : ℕ) → has_spot (dirty_spots o) (n, p) ≡ false
  width : width_of o.slots n ≡ 0
  page : (left : List Slot) (p : ℕ) → is_changed_page left o n p ≡ false

unstaged : (o : Overlay) (n : ℕ) → is_among (staged_numbers o) n ≡ false → IsUnstaged o n
unstaged o n out = record {
  node = no_node o.nodes n (left_none (is_among (map (λ e. e.0) o.nodes) n) (is_among (numbers_in o.slots) n) behind);
  dirty = λ p. not_dirty o.blocks n p (left_none (is_among (numbers_in o.blocks) n) (is_among (map (λ e. e.0) o.nodes ++ numbers_in o.slots) n) parts);
  width = no_width o.slots n (right_none (is_among (map (λ e. e.0) o.nodes) n) (is_among (numbers_in o.slots) n) behind);
  page = λ left p. unchanged_page left o n p
      (λ j lt. ap (λ (s : Option Slot). differs s (slot_at left (16 * p + j))) (no_slot o.slots n (16 * p + j) (right_none (is_among (map (λ e. e.0) o.nodes) n) (is_among (numbers_in o.slots) n) behind)));
}
  where
    parts : (is_among (numbers_in o.blocks) n || is_among (map (λ e. e.0) o.nodes ++ numbers_in o.slots) n) ≡ false
    parts = sym (append_among (numbers_in o.blocks) (map (λ e. e.0) o.nodes ++ numbers_in o.slots) n) ∙ out

    behind : (is_among (map (λ e. e.0) o.nodes) n || is_among (numbers_in o.slots) n) ≡ false
    behind = sym (append_among (map (λ e. e.0) o.nodes) (numbers_in o.slots) n) ∙ right_none (is_among (numbers_in o.blocks) n) (is_among (map (λ e. e.0) o.nodes ++ numbers_in o.slots) n) parts

-- ---- all of it

lt_test : (a b : ℕ) → a < b → nat_lt a b ≡ true
lt_test a b lt = grind (arith, nat_tests)

module _ (old new : List Block) (s : Stored) (o : Overlay) (m : Machine) (placed : Places) (n : ℕ) (standing : Stands old s) (spelled : DirectoriesStand old) (live : LiveStays old new) (dirty : dirty_spots o ≡ m.dirty) (free : IsUnstaged o n) where
  stays : Same (blocks_in old) (blocks_in new) (indexes_below (blocks_in old) (height_in (inode_before old n)) (pointer_of (inode_before old n)))
  stays = tree_stays old standing.sound new live n

  cut : least_cut (node_of o n) ≡ 1048576
  cut = ap least_cut free.node

  same_block : (p : ℕ) → block_of_place new (inode_before old n) p ≡ block_of_place old (inode_before old n) p
  same_block p = block_same (blocks_in old) (blocks_in new) (height_in (inode_before old n)) (pointer_of (inode_before old n)) p stays

  tree : TreeIsPlanned old new (inode_before old n) (inode_before old n) (least_cut (node_of o n)) []
  tree = record {
    map = λ p lt. same_block p ∙ sym (ap (λ (t : Bool). cond t (block_of_place old (inode_before old n) p) 0) (lt_test p (least_cut (node_of o n)) (omega (arith, lt, cut))));
    full = subst (IsFull (blocks_in new)) (sym indexes) (full_same (blocks_in old) (blocks_in new) _ stays (tree_full old standing.sound n));
    below = subst (AllBelow (blocks_in_node (inode_before old n))) (sym pairs) (tree_below old standing.sound n);
  }
    where
      indexes : indexes_below (blocks_in new) (height_in (inode_before old n)) (pointer_of (inode_before old n)) ≡ indexes_below (blocks_in old) (height_in (inode_before old n)) (pointer_of (inode_before old n))
      indexes = indexes_same (blocks_in old) (blocks_in new) (height_in (inode_before old n)) (pointer_of (inode_before old n)) stays

      pairs : pairs_below (blocks_in new) (height_in (inode_before old n)) (pointer_of (inode_before old n)) ≡ pairs_below (blocks_in old) (height_in (inode_before old n)) (pointer_of (inode_before old n))
      pairs = pairs_same (blocks_in old) (blocks_in new) (height_in (inode_before old n)) (pointer_of (inode_before old n)) stays

  same_pointers : node_pointers new (inode_before old n) ≡ node_pointers old (inode_before old n)
  same_pointers = λ i.
      indexes_same (blocks_in old) (blocks_in new) (height_in (inode_before old n)) (pointer_of (inode_before old n)) stays i
      ++ map (λ (e : ℕ × ℕ). e.1) (pairs_same (blocks_in old) (blocks_in new) (height_in (inode_before old n)) (pointer_of (inode_before old n)) stays i)

  same_metas : (x : Inode) → Same (blocks_in old) (blocks_in new) (indexes_below (blocks_in old) (height_in x) (pointer_of x)) → node_metas new n x ≡ node_metas old n x
  same_metas Unused same = refl
  same_metas (File size height ptr) same = λ i.
      metas (map index (indexes_same (blocks_in old) (blocks_in new) height ptr same i) ++ map (λ (e : ℕ × ℕ). content n e.0 e.1) (pairs_same (blocks_in old) (blocks_in new) height ptr same i))
  same_metas (Directory width height ptr) same = λ i.
      metas (map index (indexes_same (blocks_in old) (blocks_in new) height ptr same i) ++ map (λ (e : ℕ × ℕ). page n e.0 e.1) (pairs_same (blocks_in old) (blocks_in new) height ptr same i))

  pointers : PointersArePlanned old new n (inode_before old n) (inode_before old n) [] [] []
  pointers = record {
    balance = λ b. omega (arith, ap (times b) same_pointers);
    metas = λ b. omega (arith, ap (times b) (same_metas (inode_before old n) stays));
  }

  -- a directory's pages
  pages : (width height ptr : ℕ) → inode_before old n ≡ Directory width height ptr → PagesArePlanned old new o n (inode_before old n) (inode_before old n)
  pages width height ptr is = record {
    there = λ p lt. ap (λ (b : ℕ). b == 0) (same_block p) ∙ ap (λ (x : Inode). block_of_place old x p == 0) is ∙ stand.there p (before p lt);
    kept = λ p lt kept. same_block p;
    fresh = λ p lt kept. absurd (never p lt kept);
  }
    where
      whole : (least_cut (node_of o n) == 0) ≡ false
      whole = ap (λ (k : ℕ). k == 0) cut

      left : slots_left old o n ≡ take width (slots_seen (seen old) n)
      left = ap (λ (t : Bool). cond t [] (take (width_in (inode_before old n)) (slots_seen (seen old) n))) whole ∙ ap (λ (x : Inode). take (width_in x) (slots_seen (seen old) n)) is

      stand : PagesStand (blocks_in old) (slots_left old o n) height ptr
      stand = subst (λ (ss : List Slot). PagesStand (blocks_in old) ss height ptr) (sym left) (spelled n width height ptr is)

      long : length (slots_now old o n) ≡ length (slots_left old o n)
      long = width_is old o n (slots_left old o n) refl ∙ widest (length (slots_left old o n)) (width_of o.slots n) free.width
        where
          widest : (a b : ℕ) → b ≡ 0 → max a b ≡ a
          widest a b none = omega (arith, none)

      before : (p : ℕ) → p < pages_for (length (slots_now old o n)) → p < pages_for (length (slots_left old o n))
      before p lt = subst (λ (w : ℕ). p < pages_for w) long lt

      never : (p : ℕ) → p < pages_for (length (slots_now old o n)) → is_kept_page old o n p ≡ false → ⊥
      never p lt kept =
          let is_kept : is_kept_page old o n p ≡ true = (λ i. lt_test p (pages_for (length (slots_left old o n))) (before p lt) i && not (free.page (slots_left old o n) p i)) in
          let no : true ≡ false = sym is_kept ∙ kept in
          cc

  content_by : (x : Inode) → inode_before old n ≡ x → ContentIsPlanned old new o m placed n [] x
  content_by Unused is = tt
  content_by (File size height ptr) is = record {
    dirty_places = λ other p has. absurd (never p has);
    other_places = λ other p has. refl;
  }
    where
      never : (p : ℕ) → has_spot m.dirty (n, p) ≡ true → ⊥
      never p has = let no : false ≡ true = sym (free.dirty p) ∙ ap (λ (d : List Spot). has_spot d (n, p)) dirty ∙ has in cc
  content_by (Directory width height ptr) is = subst (PagesArePlanned old new o n (inode_before old n)) is (pages width height ptr is)

  all_planned : NodeIsPlanned old new o m placed n (inode_before old n) [] [] []
  all_planned = record {
    changes = [];
    tree = tree;
    pointers = pointers;
    content = content_by (inode_before old n) refl;
  }

pub unstaged_is_planned : UnstagedIsPlanned
unstaged_is_planned old new s o m placed n standing spelled live dirty out = all_planned old new s o m placed n standing spelled live dirty (unstaged o n out)
