-- What is known of a number where a point is taken.
use Rattle.std.proofs.Common.{◌≡◌, ℕ, ◌+◌, ◌-◌, ◌/◌, ◌<◌, ◌≤◌, Bool, true, false, cond, List, [], length, take, Some, None, inl, inr, refl, sym, ap, subst, ◌∙◌, arith}
use Rattle.std.specs.Prelude.{◌==◌, ◌||◌, ◌⊎◌, nat_le, option_map, Option}
use Rattle.std.specs.FinMap.{find}
use Rattle.std.proofs.lemmas.Bool.Decides.{nat_tests}
use Rattle.vol_numbers.specs.declared.block.Block.{Block}
use Rattle.vol_numbers.specs.declared.runs.Page.{Page}
use Rattle.block_format.specs.Inode.{blocks_of}
use Rattle.block_format.specs.declared.inode.Inode.{Inode}
use Rattle.block_format.specs.declared.inode.Inode.TheVariants.{Unused, File, Directory}
use Rattle.block_format.specs.declared.slot.Slot.{Slot}
use Rattle.block_tree.specs.Notes.{Stand}
use Rattle.block_tree.specs.Root.{Stays}
use Rattle.block_tree.specs.Tree.{blocks_in}
use Rattle.dir_slots.specs.Pages.{pages_for}
use Rattle.dirty_store.specs.Overlay.{Overlay, node_of, least_cut}
use Rattle.image_model.specs.Holds.{HoldsTree}
use Rattle.image_model.specs.Met.{NoFaults}
use Rattle.image_model.specs.Reading.{HasDirectory}
use Rattle.image_model.specs.Seen.{seen}
use Rattle.image_model.specs.Slots.{slots_of as slots_seen}
use Rattle.image_model.specs.Standing.{some_block}
use Rattle.image_model.specs.Stands.{Stands, node_of as node_seen, layout_in}
use Rattle.image_model.specs.Walk.{is_used}
use Rattle.image_model.proofs.Area.{no_faults as none_found}
use Rattle.image_model.proofs.DirectoryRead.{directories_stand}
use Rattle.image_model.proofs.FileLaws.{places_are_seen}
use Rattle.image_model.proofs.HeldLaws.{tree_is_held}
use Rattle.node_table.specs.Held.{info}
use Rattle.node_table.specs.declared.held.NodeInfo.TheVariants as infos
use Rattle.point_model.specs.Holding.{inode_before, inode_now, node_now, staged_or, slots_left, slots_now, kind_of, width_in, is_changed, as_node}
use Rattle.point_model.specs.NodePlan.{block_of_place}
use Rattle.point_model.specs.PointPlan.{LiveStays}
use Rattle.point_model.proofs.DirectoriesStand as pages_stand
use Rattle.state_laws.specs.Files.{HasPlace}
use Rattle.state_laws.proofs.HeldBytes.{found_spot}
use Rattle.tree_model.specs.Path.{Path}
use Rattle.tree_model.specs.Tree.{node_at}
use Rattle.tree_model.specs.declared.node.Content.TheVariants as content
use Rattle.tree_model.specs.declared.node.Node.{Node}
use Rattle.volume_model.specs.Machine.{Machine, Rules, Stored, stored}
use Rattle.volume_model.specs.Places.{spot_cmp, has_spot, spots_of}
use Rattle.tree_plan.specs.Directories.{HoldsDirectory}
use Rattle.node_plan.specs.Nodes.{IsAtPoint, left_after}
use Rattle.tree_plan.specs.Trees.{root_of, IsFullTree, EndsAt, Carries}
use Rattle.node_plan.proofs.HoldsLaws.{directory_holds}
use Rattle.node_plan.proofs.LiveTrees.{tree_full, tree_stays}

zero_of : (a : ℕ) → (a == 0) ≡ true → a ≡ 0
zero_of a is = grind (arith, nat_tests)

not_le : (a b : ℕ) → b < a → nat_le a b ≡ false
not_le a b lt = grind (arith, nat_tests)

none_of : (b : ℕ) → some_block b ≡ None → b ≡ 0
none_of b none = by (b == 0) refl
  where
    by : (t : Bool) → (b == 0) ≡ t → b ≡ 0
    by true is = zero_of b is
    by false is = let never : Some b ≡ None = sym (ap (λ (t : Bool). cond t None (Some b)) is) ∙ none in cc

-- ---- a directory is as wide as its inode tells

same_node : (a b : Node) → Some a ≡ Some b → a ≡ b
same_node a b e = cc

pub wide_before : (old : List Block) (s : Stored) → Stands old s → (n width height ptr : ℕ) → inode_before old n ≡ Directory width height ptr → length (take width (slots_seen (seen old) n)) ≡ width
wide_before old s stands n width height ptr is = (by has.0 has.1 has.2 has.3).wide
  where
    holds : HoldsTree (seen old) s.tree
    holds = tree_is_held old s stands

    has : (path : Path) × (at : Node) × (node_at s.tree path ≡ Some at) × (at.number ≡ n)
    has = holds.others n (ap is_used is)

    by : (path : Path) (at : Node) → node_at s.tree path ≡ Some at → at.number ≡ n → HasDirectory old n width
    by path at there number =
        let seen_node : node_seen (seen old) at.number (Directory width height ptr) ≡ Some at =
        ap (node_seen (seen old) at.number) ((λ i. sym is i) ∙ sym (λ i. inode_before old (number i))) ∙ holds.inodes path at there in
        let whole : record { number = at.number; content = content.Directory width } ≡ at = same_node _ at seen_node in
        directories_stand old s path n width stands (there ∙ ap Some (sym whole ∙ (λ i. record { number = number i; content = content.Directory width })))

-- ---- all of it

module _ (r : Rules) (old : List Block) (o : Overlay) (m : Machine) (n : ℕ) (was : Inode) (before : List Slot) (at : IsAtPoint r old o m n was before) where
  abbrev cut : ℕ
  cut = least_cut (node_of o n)

  pub left_is : left_after o n before ≡ slots_left old o n
  left_is = ap (λ (ss : List Slot). cond (cut == 0) [] ss) (at.slots ∙ ap (λ (x : Inode). take (width_in x) (slots_seen (seen old) n)) at.inode)

  pub now_is : staged_or (node_of o n) was ≡ inode_now old o n
  now_is = ap (staged_or (node_of o n)) at.inode

  pub whole : IsFullTree old was
  whole = subst (IsFullTree old) (sym at.inode) (tree_full old at.stands.sound n)

  pub carries : (new : List Block) (pages : List Page) → LiveStays old new → Stand pages (blocks_in new) → Carries old new was pages
  carries new pages live stand = record {
    stand = stand;
    stays = subst (λ (x : Inode). Stays (blocks_in old) (root_of x) (blocks_in new)) (sym at.inode) (tree_stays old at.stands.sound new live n);
  }

  -- the kind of now is that of before, or all is cut
  either : (kind : Option Bool) → kind_of (staged_or (node_of o n) was) ≡ kind → (kind_of was ≡ kind) ⊎ (cut ≡ 0)
  either kind is = by (at.holds.renewed n)
    where
      by : (kind_of (inode_now old o n) ≡ kind_of (inode_before old n)) ⊎ (cut ≡ 0) → (kind_of was ≡ kind) ⊎ (cut ≡ 0)
      by (inl same) = inl (ap kind_of at.inode ∙ sym same ∙ sym (ap kind_of now_is) ∙ is)
      by (inr none) = inr none

  -- ---- an unused number

  pub unused_ends : staged_or (node_of o n) was ≡ Unused → EndsAt old was cut 0
  unused_ends is place lt le small = by was refl (either None (ap kind_of is))
    where
      by : (x : Inode) → was ≡ x → (kind_of was ≡ None) ⊎ (cut ≡ 0) → block_of_place old was place ≡ 0
      by x same (inr none) = absurd (omega (arith, lt, none))
      by Unused same (inl kind) = ap (λ (y : Inode). block_of_place old y place) same ∙ hole (place == 0) 0
        where
          hole : (t : Bool) (z : ℕ) → cond t z z ≡ z
          hole true z = refl
          hole false z = refl
      by (File size height ptr) same (inl kind) = let never : Some false ≡ None = sym (ap kind_of same) ∙ kind in cc
      by (Directory width height ptr) same (inl kind) = let never : Some true ≡ None = sym (ap kind_of same) ∙ kind in cc

  -- ---- a file

  module _ (size height ptr : ℕ) (is : staged_or (node_of o n) was ≡ File size height ptr) where
    -- a place of the machine's file is below its blocks
    within : (place : ℕ) → HasPlace m.tree (n, place) → place < blocks_of size
    within place has = below (length has.bytes) has.within same
      where
        tells : option_map info (node_now old o n) ≡ Some (infos.File (length has.bytes))
        tells = at.holds.nodes.each has.path (record { number = n; content = content.File has.bytes }) has.stands

        same_size : (a b : ℕ) → Some (infos.File a) ≡ Some (infos.File b) → a ≡ b
        same_size a b e = cc

        same : size ≡ length has.bytes
        same = same_size size (length has.bytes) (sym (ap (λ (x : Inode). option_map info (as_node x (slots_now old o n))) (sym now_is ∙ is)) ∙ tells)

        below : (bytes : ℕ) → place < (bytes + (4096 - 1)) / 4096 → size ≡ bytes → place < blocks_of size
        below bytes lt e = omega (arith, lt, e)

    old_block : kind_of was ≡ Some false → (place : ℕ) → some_block (block_of_place old was place) ≡ find spot_cmp (n, place) m.stored_places
    old_block kind place = by was refl kind
      where
        none : NoFaults (seen old).met
        none = none_found (layout_in old) (seen old).met (seen old).met at.stands.sound.pointers

        by : (x : Inode) → was ≡ x → kind_of x ≡ Some false → some_block (block_of_place old was place) ≡ find spot_cmp (n, place) m.stored_places
        by Unused same kind = cc
        by (Directory width height ptr) same kind = cc
        by (File size height ptr) same kind =
            ap (λ (x : Inode). some_block (block_of_place old x place)) same
            ∙ sym (ap (find spot_cmp (n, place)) at.stands.shows.places ∙ places_are_seen old n size height ptr place none (sym at.inode ∙ same))

    pub file_ends : EndsAt old was cut (blocks_of size)
    file_ends place lt le small = by (either (Some false) (ap kind_of is))
      where
        not_held : (t : Bool) → (t ≡ true → HasPlace m.tree (n, place)) → t ≡ false
        not_held false has = refl
        not_held true has = absurd (omega (arith, le, within place (has refl)))

        clean : has_spot m.dirty (n, place) ≡ false
        clean = not_held (has_spot m.dirty (n, place)) (λ dirty. at.coherent.in_files (n, place) (second (has_spot (spots_of m.kept) (n, place)) dirty))
          where
            second : (a : Bool) {b : Bool} → b ≡ true → (a || b) ≡ true
            second true e = refl
            second false e = e

        not_kept : (found : Option ℕ) → find spot_cmp (n, place) m.kept ≡ found → find spot_cmp (n, place) m.kept ≡ None
        not_kept None found = found
        not_kept (Some b) found =
            let held = at.coherent.in_files (n, place) (ap (λ (t : Bool). t || has_spot m.dirty (n, place)) (found_spot m.kept (n, place) b found)) in
            absurd (omega (arith, le, within place held))

        unchanged : is_changed o m.dirty (n, place) ≡ false
        unchanged = λ i. clean i || not_le cut place lt i

        stored_none : find spot_cmp (n, place) m.stored_places ≡ None
        stored_none = sym (at.holds.kept (n, place) ∙ ap (λ (t : Bool). cond t None (find spot_cmp (n, place) m.stored_places)) unchanged) ∙ not_kept (find spot_cmp (n, place) m.kept) refl

        by : (kind_of was ≡ Some false) ⊎ (cut ≡ 0) → block_of_place old was place ≡ 0
        by (inr none) = absurd (omega (arith, lt, none))
        by (inl kind) = none_of (block_of_place old was place) (old_block kind place ∙ stored_none)

  -- ---- a directory

  pub directory_held : kind_of (staged_or (node_of o n) was) ≡ Some true → length (left_after o n before) ≤ 65534 → HoldsDirectory old o n was (left_after o n before)
  directory_held kind short =
      subst (λ (x : Inode). HoldsDirectory old o n x (left_after o n before)) (sym at.inode)
      (directory_holds old (stored m) o n (left_after o n before) at.stands (pages_stand.directories_stand old at.stands.sound) left_is (subst (λ (x : Inode). (kind_of x ≡ Some true) ⊎ (cut ≡ 0)) at.inode (either (Some true) kind))
      (uncut (at.holds.cuts n (sym (ap kind_of now_is) ∙ kind))) (wide (cut == 0) refl (either (Some true) kind)))
    where
      gone : cut ≡ 0 → left_after o n before ≡ []
      gone none = let test : (cut == 0) ≡ true = ap (λ (k : ℕ). k == 0) none in ap (λ (t : Bool). cond t [] before) test

      none_pages : (w : ℕ) → w ≡ 0 → pages_for w ≤ 0
      none_pages w none = omega (arith, none)

      few_pages : (w c : ℕ) → w ≤ 65534 → c ≡ 1048576 → pages_for w ≤ c
      few_pages w c le is = omega (arith, le, is)

      uncut : (cut ≡ 0) ⊎ (cut ≡ 1048576) → pages_for (length (left_after o n before)) ≤ cut
      uncut (inl none) = omega (arith, none_pages (length (left_after o n before)) (ap (λ (ss : List Slot). length ss) (gone none)))
      uncut (inr all) = few_pages (length (left_after o n before)) cut short all

      wide : (t : Bool) → (cut == 0) ≡ t → (kind_of was ≡ Some true) ⊎ (cut ≡ 0) → (length (left_after o n before) ≡ width_in (inode_before old n)) ⊎ (cut ≡ 0)
      wide t test (inr none) = inr none
      wide true test (inl is) = inr (zero_of cut test)
      wide false test (inl is) = inl (ap (λ (t : Bool). length (cond t [] before)) test ∙ by (inode_before old n) refl (sym (ap kind_of at.inode) ∙ is))
        where
          by : (x : Inode) → inode_before old n ≡ x → kind_of (inode_before old n) ≡ Some true → length before ≡ width_in (inode_before old n)
          by Unused same kind = let never : None ≡ Some true = sym (ap kind_of same) ∙ kind in cc
          by (File size height ptr) same kind = let never : Some false ≡ Some true = sym (ap kind_of same) ∙ kind in cc
          by (Directory width height ptr) same kind =
              ap (λ (ss : List Slot). length ss) at.slots
              ∙ ap (λ (x : Inode). length (take (width_in x) (slots_seen (seen old) n))) (at.inode ∙ same)
              ∙ wide_before old (stored m) at.stands n width height ptr same ∙ sym (ap width_in same)
