-- The blocks of places after a point.
use Rattle.std.proofs.Common.{◌≡◌, ℕ, ◌<◌, ◌≤◌, Bool, true, false, cond, List, [], ◌∷◌, length, Some, None, refl, sym, ap, subst, ◌∙◌, arith}
use Rattle.std.specs.Prelude.{◌==◌, ◌&&◌, nat_eq, nat_le}
use Rattle.std.specs.FinMap.{find, put}
use Rattle.std.specs.FinMap.Entries.{find-put}
use Rattle.std.specs.List.{list_all, AllByRecursion}
use Rattle.std.specs.Ordering.{eq_by_cmp}
use Rattle.std.proofs.lemmas.Bool.Decides.{nat_tests}
use Rattle.vol_numbers.specs.Layout.{Layout, area_start}
use Rattle.vol_numbers.specs.declared.block.Block.{Block}
use Rattle.block_format.specs.declared.inode.Inode.{Inode}
use Rattle.block_format.specs.declared.inode.Inode.TheVariants.{Unused, File, Directory}
use Rattle.block_tree.specs.Tree.{blocks_in, block_below}
use Rattle.image_model.specs.Seen.{seen}
use Rattle.image_model.specs.Standing.{some_block}
use Rattle.image_model.specs.Stands.{Stands, node_of}
use Rattle.image_model.proofs.FileLaws.{places_are_seen}
use Rattle.image_model.proofs.HeldLaws.{tree_is_held}
use Rattle.image_model.proofs.StandingTree.{content_is, apart}
use Rattle.place_words.specs.Different.{different}
use Rattle.point_model.specs.Holding.{inode_before}
use Rattle.point_space.specs.Laws.{DirtyGetBlocks}
use Rattle.point_space.proofs.OldNodes.{no_fault}
use Rattle.state_laws.specs.States.{IsCoherent}
use Rattle.state_laws.proofs.HeldBytes.{block_spot, found_spot}
use Rattle.tree_model.specs.declared.node.Content.TheVariants as content
use Rattle.tree_model.specs.declared.node.Node.{Node}
use Rattle.volume_model.specs.Lines.{lines_places}
use Rattle.volume_model.specs.Machine.{Machine, Rules, stored}
use Rattle.volume_model.specs.Places.{Spot, Places, spot_cmp, all_put}
use Rattle.volume_model.specs.Point.{placed_at, fresh_spots, share_lines, is_unused}
use Rattle.volume_model.proofs.Order.{first_of, second_of, spot_total}
use Rattle.volume_model.proofs.SharedPlaces.{AreShared, share_shared}

abbrev AllSome : Places → Type 0
AllSome es = AllByRecursion (λ (e : Spot × ℕ). 0 < e.1) es

-- a block that is found is one of those put, or was found before
found_put : (es placed : Places) (spot : Spot) (block : ℕ) → AllSome es → ((b : ℕ) → find spot_cmp spot placed ≡ Some b → 0 < b) → find spot_cmp spot (all_put es placed) ≡ Some block → 0 < block
found_put [] placed spot block all before found = before block found
found_put (e ∷ es) placed spot block all before found =
    found_put es (put spot_cmp e.0 e.1 placed) spot block all.1 (λ b at. by (eq_by_cmp spot_cmp spot e.0) b (sym (find-put spot_cmp spot_total spot e.0 e.1 placed) ∙ at)) found
  where
    by : (t : Bool) (b : ℕ) → cond t (Some e.1) (find spot_cmp spot placed) ≡ Some b → 0 < b
    by true b at = let same : e.1 ≡ b = cc in subst (λ (k : ℕ). 0 < k) same all.0
    by false b at = before b at

placed_some : (spots : List Spot) (blocks : List ℕ) → AllByRecursion (λ (b : ℕ). 0 < b) blocks → AllSome (placed_at spots blocks)
placed_some [] blocks all = tt
placed_some (s ∷ ss) [] all = tt
placed_some (s ∷ ss) (b ∷ bs) all = (all.0, placed_some ss bs all.1)

unused_some : (m : Machine) (block : ℕ) → is_unused m block ≡ true → 0 < block
unused_some m block is = high (area_start m.layout) block (first m.layout) (first_of _ _ (first_of _ _ is))
  where
    first : (g : Layout) → 0 < area_start g
    first g = omega arith

    high : (start b : ℕ) → 0 < start → nat_le start b ≡ true → 0 < b
    high start b lt e = let le : start ≤ b = grind (arith, nat_tests) in omega (arith, lt, le)

fresh_some : (m : Machine) (blocks : List ℕ) → list_all (is_unused m) blocks ≡ true → AllByRecursion (λ (b : ℕ). 0 < b) blocks
fresh_some m [] all = tt
fresh_some m (b ∷ bs) all = (unused_some m b (first_of _ _ all), fresh_some m bs (second_of (is_unused m b) _ all))

-- ---- blocks of the last point

none_is : (node : Node) → None ≡ Some node → ⊥
none_is node e = cc

some_is : (b block : ℕ) → some_block b ≡ Some block → 0 < block
some_is b block = go (b == 0) refl
  where
    go : (t : Bool) → (b == 0) ≡ t → cond t None (Some b) ≡ Some block → 0 < block
    go true is e = cc
    go false is e = let same : b ≡ block = cc in grind (arith, nat_tests)

module _ (r : Rules) (old : List Block) (m : Machine) (stands : Stands old (stored m)) (coherent : IsCoherent r m) where
  -- a place of the last point has a block other than 0
  stored_some : (spot : Spot) (block : ℕ) → find spot_cmp spot m.stored_places ≡ Some block → 0 < block
  stored_some spot block found =
      let has = coherent.mountable.in_files spot (found_spot m.stored_places spot block found) in
      by (inode_before old spot.0) refl has.bytes
      ((tree_is_held old (stored m) stands).inodes has.path (record { number = spot.0; content = content.File has.bytes }) has.stands)
    where
      by : (x : Inode) → inode_before old spot.0 ≡ x → (bytes : List ℕ) → node_of (seen old) spot.0 (inode_before old spot.0) ≡ Some (record { number = spot.0; content = content.File bytes }) → 0 < block
      by Unused is bytes node = absurd (none_is (record { number = spot.0; content = content.File bytes }) (sym (ap (node_of (seen old) spot.0) is) ∙ node))
      by (Directory width height ptr) is bytes node = absurd (apart bytes width (sym (content_is spot.0 (content.Directory width) (content.File bytes) (sym (ap (node_of (seen old) spot.0) is) ∙ node))))
      by (File size height ptr) is bytes node =
          some_is (block_below (blocks_in old) height ptr spot.1) block
          (sym (ap (find spot_cmp spot) stands.shows.places ∙ places_are_seen old spot.0 size height ptr spot.1 (no_fault old (stored m) stands) is) ∙ found)

  shared_some : (ps : Places) → AreShared m ps → AllSome ps
  shared_some [] all = tt
  shared_some (p ∷ ps) all =
      let at = block_spot m.stored_places p.1 coherent.whole.stored_in_order (coherent.whole.cached p.1 all.1) in
      (stored_some at.spot p.1 at.found, shared_some ps all.2)

pub dirty_get_blocks : DirtyGetBlocks
dirty_get_blocks r old m fresh positive stands coherent may spot block dirty found =
    let shares = lines_places (share_lines r m) in
    found_put (placed_at (fresh_spots m shares) fresh) (all_put shares m.kept) spot block
    (placed_some (fresh_spots m shares) fresh (fresh_some m fresh (second_of (nat_eq (length fresh) (length (fresh_spots m shares)) && nat_eq (different fresh) (length fresh)) _ may)))
    (λ b at. found_put shares m.kept spot b (shared_some r old m stands coherent shares (share_shared r m positive coherent.whole)) (λ b kept. stored_some r old m stands coherent spot b (coherent.whole.kept_is_stored spot b kept)) at)
    found
