-- The places of files that are seen, and the blocks that files have there.
use Rattle.std.proofs.Common.{◌≡◌, ℕ, ◌<◌, ◌≤◌, Bool, true, false, cond, List, [], ◌∷◌, map, filter, take, replicate, Some, refl, sym, ap, subst, ◌∙◌, arith}
use Rattle.std.specs.Prelude.{◌&&◌, ◌||◌, Option, nat_eq, nat_lt}
use Rattle.std.specs.FinMap.{find}
use Rattle.std.proofs.lemmas.Bool.Decides.{nat_tests}
use Rattle.std.proofs.lemmas.List.{append-nil, take_at, length-replicate}
use Rattle.vol_numbers.specs.declared.block.Block.{Block}
use Rattle.root_switch.specs.Current.{root_of_image}
use Rattle.block_format.specs.Inode.{blocks_of}
use Rattle.block_format.specs.declared.inode.Inode.{Inode}
use Rattle.block_format.specs.declared.inode.Inode.TheVariants.{Unused, File, Directory}
use Rattle.block_tree.specs.Tree.{Blocks, blocks_in}
use Rattle.place_words.specs.Different.{is_among}
use Rattle.volume_model.specs.Machine.{Stored, block_at}
use Rattle.volume_model.specs.Places.{Spot, Places, spot_cmp, spots_of, has_spot, places_of}
use Rattle.volume_model.proofs.PlacesTold.{find_none}
use Rattle.image_model.specs.Met.{Met, NoFaults}
use Rattle.image_model.specs.Nodes.{has_tail, AllBelow, blocks_in_node}
use Rattle.image_model.specs.Seen.{seen, all_held, content_held}
use Rattle.image_model.specs.Slots.{held_at, inode_of}
use Rattle.image_model.specs.Standing.{as_block}
use Rattle.image_model.specs.Stands.{Stands, layout_in, node_of, bytes_from, spot_of}
use Rattle.image_model.specs.Walk.{is_used, nodes_at}
use Rattle.image_model.proofs.Area.{no_faults}
use Rattle.image_model.proofs.FileLaws.{places_are_seen}
use Rattle.image_model.proofs.HeldLaws.{tree_is_held}
use Rattle.image_model.proofs.NodePlaces.{numbers_distinct, spots_are, places_at, file_places}
use Rattle.image_model.proofs.NodeWalk.{WalkMet, pairs_of_node, walk_good}
use Rattle.image_model.proofs.NumberHeld.{bytes_held, held_from, held_here, file_found}
use Rattle.image_model.proofs.SpaceLaws.{below_at, node_there, file_length}
use Rattle.state_laws.specs.Files.{HasPlace, zero_block}
use Rattle.state_laws.proofs.Bytes.{block_of, past_end, is_less, is_not_less}
use Rattle.state_laws.proofs.HeldBytes.{found_spot}
use Rattle.image_states.proofs.FileBlocks.{block_is}
use Rattle.image_states.proofs.Numbered.{seen_bytes, numbered}

-- ---- places of one number

has_among : (placed : Places) (n p : ℕ) → has_spot (spots_of placed) (n, p) ≡ is_among (places_of placed n) p
has_among [] n p = refl
has_among (e ∷ es) n p = by (nat_eq e.0.0 n) (has_among es n p)
  where
    by : (t : Bool) → has_spot (spots_of es) (n, p) ≡ is_among (places_of es n) p
        → ((t && nat_eq e.0.1 p) || has_spot (spots_of es) (n, p)) ≡ is_among (map (λ (e : Spot × ℕ). e.0.1) (cond t (e ∷ filter (λ (e : Spot × ℕ). nat_eq e.0.0 n) es) (filter (λ (e : Spot × ℕ). nat_eq e.0.0 n) es))) p
    by true more = ap (λ (u : Bool). nat_eq e.0.1 p || u) more
    by false more = more

among_below : (blocks p : ℕ) (pairs : List (ℕ × ℕ)) → AllBelow blocks pairs → is_among (map (λ (e : ℕ × ℕ). e.0) pairs) p ≡ true → p < blocks
among_below blocks p [] below among = cc
among_below blocks p (e ∷ es) below among = by (nat_eq e.0 p) refl among (among_below blocks p es below.1)
  where
    by : (t : Bool) → nat_eq e.0 p ≡ t → (t || is_among (map (λ (e : ℕ × ℕ). e.0) es) p) ≡ true → (is_among (map (λ (e : ℕ × ℕ). e.0) es) p ≡ true → p < blocks) → p < blocks
    by true is among more = let same : e.0 ≡ p = grind (arith, nat_tests) in subst (λ (k : ℕ). k < blocks) same (is_less e.0 blocks below.0)
    by false is among more = more among

-- The inode is that of a file which has so many blocks that the place is one of them.
pub record FileAt (x : Inode) (p : ℕ) : Type 0 where
  pub size : ℕ
  pub height : ℕ
  pub ptr : ℕ
  pub is : x ≡ File size height ptr
  pub below : p < blocks_of size

file_of_place : (read : Blocks) (x : Inode) (p : ℕ) → AllBelow (blocks_in_node x) (pairs_of_node read x) → is_among (file_places read x) p ≡ true → FileAt x p
file_of_place read Unused p below among = cc
file_of_place read (File size height ptr) p below among =
    record { size = size; height = height; ptr = ptr; is = refl; below = among_below (blocks_of size) p (pairs_of_node read (File size height ptr)) below among }
file_of_place read (Directory width height ptr) p below among = cc

zeros_are : as_block [] ≡ zero_block
unfolding zero_block
zeros_are = ap (take 4096) (sym (append-nil (replicate 4096 0))) ∙ take_at (replicate 4096 0) [] 4096 (length-replicate {A = ℕ} 4096 0)

module _ (image : List Block) (s : Stored) (stands : Stands image s) where
  pub none : NoFaults (seen image).met
  none = no_faults (layout_in image) (seen image).met (seen image).met stands.sound.pointers

  abbrev nodes : List (ℕ × Inode)
  nodes = nodes_at (blocks_in image) (root_of_image image).inode_index

  met : WalkMet (blocks_in image) (root_of_image image).inode_index
  unfolding seen
  met = walk_good (blocks_in image) (root_of_image image).inode_index none

  -- the places of a number are those of its inode, which are below its number of blocks
  placed : (n : ℕ) → places_of s.places n ≡ file_places (blocks_in image) (inode_of (seen image).nodes n)
  unfolding seen
  placed n =
      ap (λ (ps : Places). places_of ps n) (stands.shows.places ∙ ap (λ (ms : List Met). map spot_of (all_held (content_held (blocks_in image)) ms)) met.is ∙ spots_are (blocks_in image) (root_of_image image).inode_index nodes)
      ∙ places_at (blocks_in image) n nodes (numbers_distinct (blocks_in image) (root_of_image image).inode_index)

  below : (n : ℕ) → AllBelow (blocks_in_node (inode_of (seen image).nodes n)) (pairs_of_node (blocks_in image) (inode_of (seen image).nodes n))
  unfolding seen
  below n = below_at (blocks_in image) nodes met.nodes n

  pub file_at : (n p : ℕ) → has_spot (spots_of s.places) (n, p) ≡ true → FileAt (inode_of (seen image).nodes n) p
  file_at n p has = file_of_place (blocks_in image) (inode_of (seen image).nodes n) p (below n) (ap (λ (ps : List ℕ). is_among ps p) (sym (placed n)) ∙ sym (has_among s.places n p) ∙ has)

  -- ---- a file that is seen

  module _ (n size height ptr : ℕ) (is : inode_of (seen image).nodes n ≡ File size height ptr) where
    used : is_used (inode_of (seen image).nodes n) ≡ true
    used = ap is_used is

    clean : has_tail (seen image) (n, File size height ptr) ≡ false
    clean = ap (λ (x : Inode). has_tail (seen image) (n, x)) (sym is) ∙ stands.sound.tails (n, inode_of (seen image).nodes n) (node_there (seen image).nodes n used)

    bytes_are : (p : ℕ) → block_at s.tree (n, p) ≡ block_of (take size (bytes_from (seen image).contents n 0 (blocks_of size))) p
    bytes_are p = ap (λ (bs : List ℕ). block_of bs p) (numbered image s stands n ∙ ap (seen_bytes (seen image) n) is)

    -- what is held at a place is the block that it has
    held_is : (p : ℕ) → held_at (seen image).contents n p ≡ bytes_held (held_here (blocks_in image) n p (find spot_cmp (n, p) s.places))
    held_is p =
        held_from (seen image).contents n p ∙ ap bytes_held (file_found image n size height ptr p none is)
        ∙ ap (λ (o : Option ℕ). bytes_held (held_here (blocks_in image) n p o)) (sym (ap (find spot_cmp (n, p)) stands.shows.places ∙ places_are_seen image n size height ptr p none is))

    pub reads_as : (p : ℕ) → p < blocks_of size → block_at s.tree (n, p) ≡ as_block (bytes_held (held_here (blocks_in image) n p (find spot_cmp (n, p) s.places)))
    reads_as p lt = bytes_are p ∙ block_is (seen image) n size height ptr clean p lt ∙ ap as_block (held_is p)

    pub reads_past : (p : ℕ) → blocks_of size ≤ p → block_at s.tree (n, p) ≡ zero_block
    reads_past p past = bytes_are p ∙ past_end (take size (bytes_from (seen image).contents n 0 (blocks_of size))) p (omega (arith, past, file_length (seen image).contents n size))

    -- the file stands in the tree
    pub has_place : (p : ℕ) → p < blocks_of size → HasPlace s.tree (n, p)
    has_place p lt =
        let at = (tree_is_held image s stands).others n used in
        let held = (tree_is_held image s stands).inodes at.0 at.1 at.2 in
        let here : node_of (seen image) n (File size height ptr) ≡ Some at.1 = ap (node_of (seen image) n) (sym is) ∙ subst (λ (k : ℕ). node_of (seen image) k (inode_of (seen image).nodes k) ≡ Some at.1) at.3 held in
        record {
          path = at.0;
          bytes = take size (bytes_from (seen image).contents n 0 (blocks_of size));
          stands = at.2 ∙ sym here;
          within = omega (arith, lt, file_length (seen image).contents n size);
        }

  -- ---- all places

  pub in_files : (spot : Spot) → has_spot (spots_of s.places) spot ≡ true → HasPlace s.tree spot
  in_files (n, p) has = let file = file_at n p has in has_place n file.size file.height file.ptr file.is p file.below

  pub holes : (spot : Spot) → has_spot (spots_of s.places) spot ≡ false → block_at s.tree spot ≡ zero_block
  holes (n, p) has = by (inode_of (seen image).nodes n) refl
    where
      empty : (x : Inode) → inode_of (seen image).nodes n ≡ x → seen_bytes (seen image) n x ≡ [] → block_at s.tree (n, p) ≡ zero_block
      empty x is nothing = ap (λ (bs : List ℕ). block_of bs p) (numbered image s stands n ∙ ap (seen_bytes (seen image) n) is ∙ nothing) ∙ past_end [] p (omega arith)

      by : (x : Inode) → inode_of (seen image).nodes n ≡ x → block_at s.tree (n, p) ≡ zero_block
      by Unused is = empty Unused is refl
      by (Directory width height ptr) is = empty (Directory width height ptr) is refl
      by (File size height ptr) is = inside (nat_lt p (blocks_of size)) refl
        where
          inside : (t : Bool) → nat_lt p (blocks_of size) ≡ t → block_at s.tree (n, p) ≡ zero_block
          inside true lt =
              reads_as n size height ptr is p (is_less p (blocks_of size) lt)
              ∙ ap (λ (o : Option ℕ). as_block (bytes_held (held_here (blocks_in image) n p o))) (find_none (n, p) s.places has) ∙ zeros_are
          inside false lt = reads_past n size height ptr is p (is_not_less p (blocks_of size) lt)

  -- a place reads as its block
  pub reads_block : (spot : Spot) (block : ℕ) → find spot_cmp spot s.places ≡ Some block → block_at s.tree spot ≡ as_block (blocks_in image block)
  reads_block (n, p) block found =
      let file = file_at n p (found_spot s.places (n, p) block found) in
      reads_as n file.size file.height file.ptr file.is p file.below ∙ ap (λ (o : Option ℕ). as_block (bytes_held (held_here (blocks_in image) n p o))) found
