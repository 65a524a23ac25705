-- The metadata of a planned number.
use Rattle.std.proofs.Common.{◌≡◌, ℕ, ◌+◌, ◌-◌, ◌/◌, ◌<◌, ◌≤◌, Bool, true, false, not, cond, List, [], ◌∷◌, length, map, Some, None, inl, inr, refl, sym, ap, subst, ◌∙◌, arith}
use Rattle.std.specs.Prelude.{◌==◌, ◌&&◌, ◌||◌, ◌⊎◌, nat_eq, nat_le, nat_lt, Option, option_map, is_some}
use Rattle.std.specs.FinMap.{find}
use Rattle.std.proofs.lemmas.Bool.Decides.{nat_tests}
use Rattle.vol_numbers.specs.declared.block.Block.{Block}
use Rattle.block_format.specs.Inode.{blocks_of, pointer_of, inode_shape}
use Rattle.block_format.specs.declared.inode.Inode.{Inode}
use Rattle.block_format.specs.declared.inode.Inode.TheVariants.{Unused, File, Directory}
use Rattle.block_tree.specs.Edit.{cut_at}
use Rattle.block_tree.specs.Tree.{blocks_in, indexes_below, pairs_below, IsFull}
use Rattle.dirty_store.specs.Entries.{Entries, AreWithin}
use Rattle.dirty_store.specs.Overlay.{Overlay, node_of, least_cut}
use Rattle.image_model.specs.Nodes.{AllBelow, blocks_in_node}
use Rattle.image_model.specs.Planned.{height_in}
use Rattle.image_model.specs.Standing.{some_block}
use Rattle.image_model.specs.Stands.{Stands}
use Rattle.image_model.proofs.FileLaws.{places_are_seen}
use Rattle.image_model.proofs.TreeNodes.{keys}
use Rattle.image_states.proofs.Mountable.{standing_is_mountable}
use Rattle.node_table.specs.Held.{info, info_of}
use Rattle.node_table.specs.declared.held.HeldNode.{HeldNode}
use Rattle.node_table.specs.declared.held.NodeInfo.{NodeInfo}
use Rattle.node_table.specs.declared.held.NodeInfo.TheVariants as infos
use Rattle.place_words.specs.Different.{is_among, span, up}
use Rattle.place_words.specs.Index.{index_blocks}
use Rattle.point_model.specs.Holding.{HoldsMachine, HoldsNumbers, inode_before, inode_now, node_now, as_node, slots_now, kind_of}
use Rattle.point_model.specs.NodePlan.{block_of_place, node_metas, AreOfPlaces, PagesArePlanned}
use Rattle.point_model.specs.PointPlan.{NodeIsPlanned, ContentIsPlanned, told}
use Rattle.point_space.specs.Laws.{NewMetadataIs}
use Rattle.point_space.specs.Metadata.{node_metadata, DirtyHaveBlocks}
use Rattle.point_space.proofs.InodeBlocks.{keys_held}
use Rattle.point_space.proofs.NodeMetas.{file_metas, directory_metas, past_blocks}
use Rattle.point_space.proofs.OldNodes.{no_fault}
use Rattle.point_space.proofs.TreeSums.{AreIn, all_in, no_metadata}
use Rattle.state_laws.proofs.HeldBytes.{found_spot}
use Rattle.tree_model.specs.Shape.{IsTree}
use Rattle.tree_model.specs.Tree.{Tree}
use Rattle.tree_model.specs.declared.node.Content.{Content}
use Rattle.tree_model.specs.declared.node.Content.TheVariants as content
use Rattle.volume_model.specs.Machine.{Machine, Stored, stored}
use Rattle.volume_model.specs.Places.{Spot, Places, spot_cmp, spot_eq, has_spot, places_of, unplaced}
use Rattle.volume_model.specs.Short.{kept_and_dirty}
use Rattle.volume_model.specs.Space.{content_blocks}
use Rattle.volume_model.proofs.PlacesTold.{tie_is}
use Rattle.volume_model.proofs.PointSpace.{has, has_place, all_put_has, zero_spots}

-- ---- the metadata of a number that is held

-- the content of the tree's node of a number
pub record HasContent (node : ℕ → Option HeldNode) (tree : Tree) (placed : Places) (n : ℕ) : Type 0 where
  pub content : Content
  pub metadata : node_metadata tree placed n ≡ content_blocks placed n content
  pub tells : option_map info (node n) ≡ Some (info_of content)

module _ (node : ℕ → Option HeldNode) (tree : Tree) (placed : Places) (is_tree : IsTree tree) (holds : HoldsNumbers node tree) (n : ℕ) where
  content_in : (es : Tree) → AreIn tree es → is_among (keys es) n ≡ true → (c : Content) × (node_metadata es placed n ≡ content_blocks placed n c) × (option_map info (node n) ≡ Some (info_of c))
  content_in [] found among = cc
  content_in (e ∷ es) found among = by (nat_eq e.1.number n) refl among (content_in es found.1)
    where
      by : (t : Bool) → nat_eq e.1.number n ≡ t → (t || is_among (keys es) n) ≡ true
          → (is_among (keys es) n ≡ true → (c : Content) × (node_metadata es placed n ≡ content_blocks placed n c) × (option_map info (node n) ≡ Some (info_of c)))
          → (c : Content) × (cond t (content_blocks placed n e.1.content) (node_metadata es placed n) ≡ content_blocks placed n c) × (option_map info (node n) ≡ Some (info_of c))
      by true is among more =
          let number : e.1.number ≡ n = grind (arith, nat_tests) in
          (e.1.content, refl, subst (λ (k : ℕ). option_map info (node k) ≡ Some (info_of e.1.content)) number (holds.each e.0 e.1 found.0))
      by false is among more = more among

  pub content_of : is_some (node n) ≡ true → HasContent node tree placed n
  content_of is = let all = content_in tree (all_in tree is_tree) (keys_held node tree is_tree holds n ∙ is) in record { content = all.0; metadata = all.1; tells = all.2 }

  pub nothing_of : is_some (node n) ≡ false → node_metadata tree placed n ≡ 0
  nothing_of is = no_metadata tree placed n (keys_held node tree is_tree holds n ∙ is)

  some_told : (h : Option HeldNode) (x : NodeInfo) → option_map info h ≡ Some x → is_some h ≡ true
  some_told None x e = cc
  some_told (Some h) x e = refl

  -- of a file of a size
  pub file_metadata : (size : ℕ) → option_map info (node n) ≡ Some (infos.File size) → node_metadata tree placed n ≡ index_blocks (up size 4096) (places_of placed n)
  file_metadata size tells = let c = content_of (some_told (node n) (infos.File size) tells) in by c.content c.metadata (sym c.tells ∙ tells)
    where
      by : (c : Content) → node_metadata tree placed n ≡ content_blocks placed n c → Some (info_of c) ≡ Some (infos.File size) → node_metadata tree placed n ≡ index_blocks (up size 4096) (places_of placed n)
      by (content.File bytes) is e = let same : length bytes ≡ size = cc in is ∙ ap (λ (k : ℕ). index_blocks (up k 4096) (places_of placed n)) same
      by (content.Directory width) is e = cc

  -- of a directory of a width
  pub directory_metadata : (width : ℕ) → option_map info (node n) ≡ Some (infos.Directory width) → node_metadata tree placed n ≡ up width 16 + index_blocks (up width 16) (span 0 (up width 16))
  directory_metadata width tells = let c = content_of (some_told (node n) (infos.Directory width) tells) in by c.content c.metadata (sym c.tells ∙ tells)
    where
      by : (c : Content) → node_metadata tree placed n ≡ content_blocks placed n c → Some (info_of c) ≡ Some (infos.Directory width) → node_metadata tree placed n ≡ up width 16 + index_blocks (up width 16) (span 0 (up width 16))
      by (content.File bytes) is e = cc
      by (content.Directory own) is e = let same : own ≡ width = cc in is ∙ ap (λ (k : ℕ). up k 16 + index_blocks (up k 16) (span 0 (up k 16))) same

-- ---- which places there are

pub there_is : (n k : ℕ) (es : Places) → has es n k ≡ is_some (find spot_cmp (n, k) es)
there_is n k [] = refl
there_is n k (e ∷ es) = by (spot_eq e.0 (n, k)) (there_is n k es) ∙ ap (λ (t : Bool). is_some (cond t (Some e.1) (find spot_cmp (n, k) es))) (sym (tie_is (n, k) e.0))
  where
    by : (t : Bool) → has es n k ≡ is_some (find spot_cmp (n, k) es) → (t || has es n k) ≡ is_some (cond t (Some e.1) (find spot_cmp (n, k) es))
    by true more = refl
    by false more = more

-- those that the point leaves
pub left_has : (m : Machine) (n k : ℕ) → is_among (places_of (kept_and_dirty m) n) k ≡ (has_spot m.dirty (n, k) || has m.kept n k)
left_has m n k = has_place (kept_and_dirty m) n k ∙ all_put_has (unplaced m.dirty) m.kept n k ∙ ap (λ (ss : List Spot). has_spot ss (n, k) || has m.kept n k) (zero_spots m.dirty)

entry_near : (es : Entries Block) (n k : ℕ) → AreWithin es → has_spot (map (λ (e : Spot × Block). e.0) es) (n, k) ≡ true → k < 1048576
entry_near [] n k all e = cc
entry_near (x ∷ xs) n k all e = by (nat_eq x.0.0 n) (nat_eq x.0.1 k) refl e (entry_near xs n k all.1)
  where
    by : (a b : Bool) → nat_eq x.0.1 k ≡ b → ((a && b) || has_spot (map (λ (e : Spot × Block). e.0) xs) (n, k)) ≡ true → (has_spot (map (λ (e : Spot × Block). e.0) xs) (n, k) ≡ true → k < 1048576) → k < 1048576
    by true true is e more = let same : x.0.1 ≡ k = grind (arith, nat_tests) in omega (arith, all.0, same)
    by true false is e more = more e
    by false b is e more = more e

le_not : (a b : ℕ) (t : Bool) → nat_lt a b ≡ t → nat_le b a ≡ not t
le_not a b true e = grind (arith, nat_tests)
le_not a b false e = grind (arith, nat_tests)

less : (a b : ℕ) → nat_lt a b ≡ true → a < b
less a b is = grind (arith, nat_tests)

not_less : (a b : ℕ) → nat_lt a b ≡ false → b ≤ a
not_less a b is = grind (arith, nat_tests)

positive : (b : ℕ) → 0 < b → (b == 0) ≡ false
positive b lt = grind (arith, nat_tests)

some_there : (b : ℕ) → is_some (some_block b) ≡ not (b == 0)
some_there b = by (b == 0)
  where
    by : (t : Bool) → is_some (cond t None (Some b)) ≡ not t
    by true = refl
    by false = refl

-- ---- a planned number

module _ (old new : List Block) (s : Stored) (o : Overlay) (m : Machine) (placed : Places) (n : ℕ) (is : Inode) (added dropped taken : List ℕ)
    (stands : Stands old s) (same_places : m.stored_places ≡ s.places) (is_tree : IsTree m.tree) (holds : HoldsMachine old o m) (blocks : DirtyHaveBlocks m placed)
    (plan : NodeIsPlanned old new o m placed n is added dropped taken) (tells : told is ≡ option_map info (node_now old o n)) (shape : inode_shape is ≡ true) where
  -- the places of the last point are near
  stored_near : (k block : ℕ) → find spot_cmp (n, k) m.stored_places ≡ Some block → k < 1048576
  stored_near k block found =
      let mountable = standing_is_mountable old s stands in
      let has = mountable.in_files (n, k) (found_spot s.places (n, k) block (ap (find spot_cmp (n, k)) (sym same_places) ∙ found)) in
      small (length has.bytes) k has.within (mountable.tree.sizes has.path n has.bytes has.stands)
    where
      small : (size place : ℕ) → place < (size + (4096 - 1)) / 4096 → size ≤ 4294967296 → place < 1048576
      small size place within le = omega (arith, within, le)

  -- and have the blocks of the old tree
  stored_is : (k : ℕ) → kind_of (inode_before old n) ≡ Some false → find spot_cmp (n, k) m.stored_places ≡ some_block (block_of_place old (inode_before old n) k)
  stored_is k = by (inode_before old n) refl
    where
      by : (x : Inode) → inode_before old n ≡ x → kind_of x ≡ Some false → find spot_cmp (n, k) m.stored_places ≡ some_block (block_of_place old x k)
      by Unused is kind = cc
      by (Directory width height ptr) is kind = cc
      by (File size height ptr) is kind = ap (find spot_cmp (n, k)) (same_places ∙ stands.shows.places) ∙ places_are_seen old n size height ptr k (no_fault old s stands) is

  kept_is : (k : ℕ) → has_spot m.dirty (n, k) ≡ false → has m.kept n k ≡ is_some (cond (nat_le (least_cut (node_of o n)) k) None (find spot_cmp (n, k) m.stored_places))
  kept_is k clean = there_is n k m.kept ∙ ap is_some (holds.kept (n, k)) ∙ ap (λ (t : Bool). is_some (cond (t || nat_le (least_cut (node_of o n)) k) None (find spot_cmp (n, k) m.stored_places))) clean

  -- ---- files

  module _ (size height ptr : ℕ) (file : is ≡ File size height ptr) where
    kind_now : kind_of (inode_now old o n) ≡ Some false
    kind_now = by (inode_now old o n) (sym tells ∙ ap told file)
      where
        by : (x : Inode) → option_map info (as_node x (slots_now old o n)) ≡ Some (infos.File size) → kind_of x ≡ Some false
        by Unused e = cc
        by (File own height ptr) e = refl
        by (Directory width height ptr) e = cc

    changed : AreOfPlaces m.dirty placed n plan.changes
    changed = subst (ContentIsPlanned old new o m placed n plan.changes) file plan.content

    few : blocks_of size ≤ 1048576
    few = limit (subst (λ (x : Inode). inode_shape x ≡ true) file shape)
      where
        first : (a b : Bool) → (a && b) ≡ true → a ≡ true
        first true b e = refl
        first false b e = cc

        most : nat_le size 4294967296 ≡ true → blocks_of size ≤ 1048576
        most e = let le : size ≤ 4294967296 = grind (arith, nat_tests) in omega (arith, le)

        limit : inode_shape (File size height ptr) ≡ true → blocks_of size ≤ 1048576
        limit e = most (first _ _ e)

    -- a place that isn't dirty has a block where it is kept
    clean_place : (k : ℕ) → has_spot m.dirty (n, k) ≡ false → has m.kept n k ≡ not (cut_at (least_cut (node_of o n)) (block_of_place old (inode_before old n)) k == 0)
    clean_place k clean = kept_is k clean ∙ by (nat_lt k (least_cut (node_of o n))) refl (holds.renewed n)
      where
        by : (t : Bool) → nat_lt k (least_cut (node_of o n)) ≡ t → (kind_of (inode_now old o n) ≡ kind_of (inode_before old n)) ⊎ (least_cut (node_of o n) ≡ 0)
            → is_some (cond (nat_le (least_cut (node_of o n)) k) None (find spot_cmp (n, k) m.stored_places)) ≡ not (cond t (block_of_place old (inode_before old n) k) 0 == 0)
        by false lt either = ap (λ (t : Bool). is_some (cond t None (find spot_cmp (n, k) m.stored_places))) (le_not k (least_cut (node_of o n)) false lt)
        by true lt (inl same) =
            ap (λ (t : Bool). is_some (cond t None (find spot_cmp (n, k) m.stored_places))) (le_not k (least_cut (node_of o n)) true lt)
            ∙ ap is_some (stored_is k (sym same ∙ kind_now)) ∙ some_there (block_of_place old (inode_before old n) k)
        by true lt (inr none) = let below = less k (least_cut (node_of o n)) lt in absurd (omega (arith, below, none))

    -- and a far place isn't kept
    far_place : (k : ℕ) → has_spot m.dirty (n, k) ≡ false → 1048576 ≤ k → has m.kept n k ≡ false
    far_place k clean far = kept_is k clean ∙ by (nat_le (least_cut (node_of o n)) k) (find spot_cmp (n, k) m.stored_places) refl
      where
        by : (t : Bool) (found : Option ℕ) → find spot_cmp (n, k) m.stored_places ≡ found → is_some (cond t None found) ≡ false
        by true found e = refl
        by false None e = refl
        by false (Some block) e = absurd (omega (arith, stored_near k block e, far))

    dirty_near : (k : ℕ) → has_spot m.dirty (n, k) ≡ true → k < 1048576
    dirty_near k dirty = entry_near o.blocks n k holds.in_order.blocks.within (ap (λ (ss : List Spot). has_spot ss (n, k)) holds.dirty ∙ dirty)

    far_block : (k : ℕ) → 1048576 ≤ k → block_of_place new is k ≡ 0
    far_block k far =
        ap (λ (x : Inode). block_of_place new x k) file
        ∙ past_blocks (blocks_in new) (blocks_of size) height ptr k (subst (λ (x : Inode). AllBelow (blocks_in_node x) (pairs_below (blocks_in new) (height_in x) (pointer_of x))) file plan.tree.below) (omega (arith, few, far))

    each_place : (k : ℕ) → (has_spot m.dirty (n, k) || has m.kept n k) ≡ not (block_of_place new is k == 0)
    each_place k = by (has_spot m.dirty (n, k)) refl
      where
        clean : (t : Bool) → nat_lt k 1048576 ≡ t → has_spot m.dirty (n, k) ≡ false → has m.kept n k ≡ not (block_of_place new is k == 0)
        clean true lt e =
            clean_place k e ∙ ap (λ (b : ℕ). not (b == 0)) (sym (plan.tree.map k (less k 1048576 lt) ∙ changed.other_places (cut_at (least_cut (node_of o n)) (block_of_place old (inode_before old n))) k e))
        clean false lt e = let far = not_less k 1048576 lt in far_place k e far ∙ ap (λ (b : ℕ). not (b == 0)) (sym (far_block k far))

        by : (t : Bool) → has_spot m.dirty (n, k) ≡ t → (t || has m.kept n k) ≡ not (block_of_place new is k == 0)
        by true e =
            let found = changed.dirty_places (cut_at (least_cut (node_of o n)) (block_of_place old (inode_before old n))) k e in
            let some = positive _ (blocks (n, k) _ e found) in
            sym (ap (λ (b : ℕ). not (b == 0)) (plan.tree.map k (dirty_near k e)) ∙ ap not some)
        by false e = clean (nat_lt k 1048576) refl e

    full : IsFull (blocks_in new) (indexes_below (blocks_in new) height ptr)
    full = subst (λ (x : Inode). IsFull (blocks_in new) (indexes_below (blocks_in new) (height_in x) (pointer_of x))) file plan.tree.full

    pub file_is : node_metadata m.tree (kept_and_dirty m) n ≡ length (node_metas new n is)
    file_is =
        file_metadata (node_now old o) m.tree (kept_and_dirty m) is_tree holds.nodes n size (sym tells ∙ ap told file)
        ∙ file_metas new n size height ptr (places_of (kept_and_dirty m) n) (subst (λ (x : Inode). inode_shape x ≡ true) file shape) full
        (λ k. left_has m n k ∙ each_place k ∙ ap (λ (x : Inode). not (block_of_place new x k == 0)) file)
        ∙ ap (λ (x : Inode). length (node_metas new n x)) (sym file)

  -- ---- directories

  module _ (width height ptr : ℕ) (directory : is ≡ Directory width height ptr) where
    pages : PagesArePlanned old new o n (inode_before old n) (Directory width height ptr)
    pages = subst (ContentIsPlanned old new o m placed n plan.changes) directory plan.content

    wide : length (slots_now old o n) ≡ width
    wide = by (inode_now old o n) (sym tells ∙ ap told directory)
      where
        by : (x : Inode) → option_map info (as_node x (slots_now old o n)) ≡ Some (infos.Directory width) → length (slots_now old o n) ≡ width
        by Unused e = cc
        by (File size height ptr) e = cc
        by (Directory own height ptr) e = cc

    pub directory_is : node_metadata m.tree (kept_and_dirty m) n ≡ length (node_metas new n is)
    directory_is =
        directory_metadata (node_now old o) m.tree (kept_and_dirty m) is_tree holds.nodes n width (sym tells ∙ ap told directory)
        ∙ directory_metas new n width height ptr (subst (λ (x : Inode). inode_shape x ≡ true) directory shape)
        (subst (λ (x : Inode). IsFull (blocks_in new) (indexes_below (blocks_in new) (height_in x) (pointer_of x))) directory plan.tree.full)
        (subst (λ (x : Inode). AllBelow (blocks_in_node x) (pairs_below (blocks_in new) (height_in x) (pointer_of x))) directory plan.tree.below)
        (λ k lt. pages.there k (omega (arith, lt, wide)))
        ∙ ap (λ (x : Inode). length (node_metas new n x)) (sym directory)

  -- ---- all

  nothing : is ≡ Unused → node_metadata m.tree (kept_and_dirty m) n ≡ length (node_metas new n is)
  nothing unused =
      nothing_of (node_now old o) m.tree (kept_and_dirty m) is_tree holds.nodes n (none (node_now old o n) (sym tells ∙ ap told unused)) ∙ ap (λ (x : Inode). length (node_metas new n x)) (sym unused)
    where
      none : (h : Option HeldNode) → option_map info h ≡ None → is_some h ≡ false
      none None e = refl
      none (Some h) e = cc

  pub metadata_is : node_metadata m.tree (kept_and_dirty m) n ≡ length (node_metas new n is)
  metadata_is = by is refl
    where
      by : (x : Inode) → is ≡ x → node_metadata m.tree (kept_and_dirty m) n ≡ length (node_metas new n is)
      by Unused e = nothing e
      by (File size height ptr) e = file_is size height ptr e
      by (Directory width height ptr) e = directory_is width height ptr e

pub new_metadata_is : NewMetadataIs
new_metadata_is r old new o m placed n is added dropped taken stands coherent holds blocks plan tells shape =
    metadata_is old new (stored m) o m placed n is added dropped taken stands refl coherent.tree holds blocks plan tells shape
