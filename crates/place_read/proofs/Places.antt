-- A place of a file: staged, cut off, or as it was at the last point.
use Rattle.std.proofs.Common.{◌≡◌, ℕ, ◌<◌, ◌≤◌, Bool, true, false, cond, List, [], ◌∷◌, map, length, replicate, Some, None, refl, sym, ap, subst, ◌∙◌, arith}
use Rattle.std.specs.Prelude.{◌==◌, ◌||◌, nat_lt, nat_le}
use Rattle.std.specs.FinMap.{find}
use Rattle.std.proofs.lemmas.Bool.Decides.{nat_tests}
use Rattle.std.proofs.lemmas.List.{take_at}
use Rattle.vol_numbers.specs.declared.block.Block.{Block}
use Rattle.block_format.specs.Inode.{blocks_of}
use Rattle.block_format.specs.declared.inode.Inode.{Inode}
use Rattle.block_format.specs.declared.inode.Inode.TheVariants.{Unused, File, Directory}
use Rattle.block_tree.specs.Tree.{blocks_in, block_below}
use Rattle.dirty_store.specs.Overlay.{Overlay, node_of, least_cut}
use Rattle.image_model.specs.Standing.{some_block}
use Rattle.image_model.proofs.FileLaws.{places_are_seen}
use Rattle.image_states.proofs.SeenPlaces.{FileAt, file_at, none, reads_block}
use Rattle.inode_file.specs.Inodes.{InodeTable, inode_of}
use Rattle.place_read.specs.Holding.{HoldsFiles, stored_with}
use Rattle.place_read.specs.Stored.{block_of_place, bytes_at}
use Rattle.point_model.specs.Holding.{inode_before}
use Rattle.state_laws.specs.Files.{zero_block}
use Rattle.state_laws.proofs.HeldBytes.{found_spot}
use Rattle.volume_model.specs.Machine.{Machine, Rules, block_at}
use Rattle.volume_model.specs.Places.{Spot, spot_cmp, spot_eq, has_spot, spots_of}
use Rattle.volume_model.proofs.PlacesTold.{tie_is, find_none}

-- a spot that isn't found isn't there
not_there : {T : Type 0} (spot : Spot) (es : List (Spot × T)) → find spot_cmp spot es ≡ None → has_spot (map (λ e. e.0) es) spot ≡ false
not_there spot [] none = refl
not_there {T} spot (e ∷ es) none = by (spot_eq e.0 spot) (sym (ap (λ (t : Bool). cond t (Some e.1) (find spot_cmp spot es)) (tie_is spot e.0)) ∙ none) (not_there spot es)
  where
    by : (t : Bool) → cond t (Some e.1) (find spot_cmp spot es) ≡ None → (find spot_cmp spot es ≡ None → has_spot (map (λ (e : Spot × T). e.0) es) spot ≡ false) → (t || has_spot (map (λ (e : Spot × T). e.0) es) spot) ≡ false
    by true none more = cc
    by false none more = more none

module _ (r : Rules) (m : Machine) (image : List Block) (inodes : InodeTable) (o : Overlay) (holds : HoldsFiles r m image inodes o) where
  clean : (spot : Spot) → find spot_cmp spot o.blocks ≡ None → has_spot m.dirty spot ≡ false
  clean spot free = subst (λ (ss : List Spot). has_spot ss spot ≡ false) holds.staged.dirty (not_there spot o.blocks free)

  -- what is neither dirty nor kept reads as zeros
  zeros : (spot : Spot) → find spot_cmp spot o.blocks ≡ None → find spot_cmp spot m.kept ≡ None → zero_block ≡ block_at m.tree spot
  zeros spot free gone = sym (holds.coherent.holes spot (λ i. not_there spot m.kept gone i || clean spot free i))

  -- so does what was cut off
  pub cut_bytes : (spot : Spot) → find spot_cmp spot o.blocks ≡ None → least_cut (node_of o spot.0) ≤ spot.1 → zero_block ≡ block_at m.tree spot
  cut_bytes spot free cut =
      let past : nat_le (least_cut (node_of o spot.0)) spot.1 ≡ true = grind (arith, nat_tests) in
      zeros spot free (holds.staged.kept spot ∙ (λ i. cond (clean spot free i || past i) None (find spot_cmp spot m.stored_places)))

  -- what isn't cut off is kept as it was
  kept_is : (spot : Spot) → find spot_cmp spot o.blocks ≡ None → spot.1 < least_cut (node_of o spot.0) → find spot_cmp spot m.kept ≡ find spot_cmp spot m.stored_places
  kept_is spot free left =
      let near : nat_le (least_cut (node_of o spot.0)) spot.1 ≡ false = grind (arith, nat_tests) in
      holds.staged.kept spot ∙ (λ i. cond (clean spot free i || near i) None (find spot_cmp spot m.stored_places))

  -- ---- the block of a place at the last point

  -- a place that had a block is one of a file
  no_place : (n p : ℕ) → (FileAt (inode_before image n) p → ⊥) → find spot_cmp (n, p) m.stored_places ≡ None
  no_place n p not = by (has_spot (spots_of m.stored_places) (n, p)) refl
    where
      by : (t : Bool) → has_spot (spots_of m.stored_places) (n, p) ≡ t → find spot_cmp (n, p) m.stored_places ≡ None
      by true has = absurd (not (file_at image (stored_with holds.records m) holds.stands n p has))
      by false has = find_none (n, p) m.stored_places has

  past_end : (x : Inode) (p size height ptr : ℕ) → x ≡ File size height ptr → nat_lt p (blocks_of size) ≡ false → FileAt x p → ⊥
  past_end x p size height ptr is past at =
      let same = same_size x size height ptr at.size at.height at.ptr is at.is in
      let far : blocks_of size ≤ p = grind (arith, nat_tests) in
      let near : p < blocks_of size = subst (λ (k : ℕ). p < blocks_of k) (sym same) at.below in
      omega (arith, far, near)
    where
      same_size : (x : Inode) (s h p s' h' p' : ℕ) → x ≡ File s h p → x ≡ File s' h' p' → s ≡ s'
      same_size x s h p s' h' p' e f = let both : File s h p ≡ File s' h' p' = sym e ∙ f in cc

  stored_block : (n p : ℕ) (x : Inode) → inode_before image n ≡ x → some_block (block_of_place (blocks_in image) x p) ≡ find spot_cmp (n, p) m.stored_places
  stored_block n p Unused is = sym (no_place n p (λ at. let e : Unused ≡ File at.size at.height at.ptr = sym is ∙ at.is in cc))
  stored_block n p (Directory width height ptr) is = sym (no_place n p (λ at. let e : Directory width height ptr ≡ File at.size at.height at.ptr = sym is ∙ at.is in cc))
  stored_block n p (File size height ptr) is = by (nat_lt p (blocks_of size)) refl
    where
      by : (t : Bool) → nat_lt p (blocks_of size) ≡ t → some_block (block_of_place (blocks_in image) (File size height ptr) p) ≡ find spot_cmp (n, p) m.stored_places
      by true lt = ap some_block (within lt) ∙ sym (ap (find spot_cmp (n, p)) holds.stands.shows.places ∙ places_are_seen image n size height ptr p (none image (stored_with holds.records m) holds.stands) is)
        where
          within : nat_lt p (blocks_of size) ≡ true → block_of_place (blocks_in image) (File size height ptr) p ≡ block_below (blocks_in image) height ptr p
          within lt = rw lt refl
      by false past = ap some_block (beyond past) ∙ sym (no_place n p (past_end (inode_before image n) p size height ptr is past))
        where
          beyond : nat_lt p (blocks_of size) ≡ false → block_of_place (blocks_in image) (File size height ptr) p ≡ 0
          beyond past = rw past refl

  -- ---- its bytes

  -- A place that is neither dirty nor cut off has the bytes of its block at the last point, zeros where it had none.
  pub left_bytes : (n p : ℕ) (bytes : List ℕ) → find spot_cmp (n, p) o.blocks ≡ None → p < least_cut (node_of o n) → length bytes ≡ 4096
      → bytes ≡ bytes_at (blocks_in image) (block_of_place (blocks_in image) (inode_of inodes.inodes n) p) → bytes ≡ block_at m.tree (n, p)
  left_bytes n p bytes free left long is = by (block_of_place (blocks_in image) (inode_before image n) p == 0) refl
    where
      b : ℕ
      b = block_of_place (blocks_in image) (inode_before image n) p

      here : bytes ≡ bytes_at (blocks_in image) b
      here = is ∙ ap (λ (x : Inode). bytes_at (blocks_in image) (block_of_place (blocks_in image) x p)) (holds.nodes n)

      kept : find spot_cmp (n, p) m.kept ≡ some_block b
      kept = kept_is (n, p) free left ∙ sym (stored_block n p (inode_before image n) refl)

      by : (t : Bool) → (b == 0) ≡ t → bytes ≡ block_at m.tree (n, p)
      by true hole = here ∙ ap (λ (t : Bool). cond t zero_block (blocks_in image b)) hole ∙ zeros (n, p) free (kept ∙ ap (λ (t : Bool). cond t None (Some b)) hole)
      by false some =
          let own : bytes ≡ blocks_in image b = here ∙ ap (λ (t : Bool). cond t zero_block (blocks_in image b)) some in
          let found : find spot_cmp (n, p) m.kept ≡ Some b = kept ∙ ap (λ (t : Bool). cond t None (Some b)) some in
          let was : find spot_cmp (n, p) m.stored_places ≡ Some b = sym (kept_is (n, p) free left) ∙ found in
          own ∙ sym (take_at (blocks_in image b) (replicate 4096 0) 4096 (ap length (sym own) ∙ long)) ∙ sym (reads_block image (stored_with holds.records m) holds.stands (n, p) b was) ∙ sym (holds.coherent.unchanged (n, p) (found_spot m.kept (n, p) b found))
