-- The places that are seen in an image in which a point is planned.
use Rattle.std.proofs.Common.{◌≡◌, ℕ, ◌<◌, ◌≤◌, Bool, true, false, not, cond, List, [], ◌∷◌, ◌++◌, map, None, refl, sym, ap, subst, ◌∙◌, arith}
use Rattle.std.specs.Prelude.{◌==◌, ◌&&◌, ◌||◌, nat_eq}
use Rattle.std.specs.FinMap.{find}
use Rattle.std.specs.List.{flat_map}
use Rattle.std.proofs.lemmas.Bool.{eqb-true}
use Rattle.std.proofs.lemmas.Bool.Decides.{nat_tests}
use Rattle.std.proofs.lemmas.List.Concat.{flat_map-cons}
use Rattle.vol_numbers.specs.declared.block.Block.{Block}
use Rattle.root_switch.specs.Current.{root_of_image}
use Rattle.block_format.specs.declared.inode.Inode.{Inode}
use Rattle.block_format.specs.declared.inode.Inode.TheVariants.{Unused, File, Directory}
use Rattle.block_tree.specs.Tree.{Blocks, blocks_in, block_in, pairs_below}
use Rattle.image_model.specs.Met.{Met, index, page, content, past, empty, not_inode, stray, files, NoFaults}
use Rattle.image_model.specs.Nodes.{AllBelow}
use Rattle.image_model.specs.Seen.{seen, all_held, content_held}
use Rattle.image_model.specs.Slots.{inode_of}
use Rattle.image_model.specs.Stands.{spot_of}
use Rattle.image_model.specs.Walk.{nodes_at}
use Rattle.image_model.proofs.NodePlaces.{node_spots, spots_are, numbers, numbers_distinct}
use Rattle.image_model.proofs.NodeWalk.{walk_good}
use Rattle.place_words.specs.Different.{is_among, AllWithin, Distinct}
use Rattle.point_model.proofs.Spelled.{lt_true}
use Rattle.volume_model.specs.Places.{Spot, Places, spot_cmp, has_spot, spots_of, blocks_of as blocks_in_places}
use Rattle.volume_model.proofs.PlacesTold.{find_none}

-- ---- the places of a number that is no file's

abbrev pub no_file : Inode → Type 0
no_file Unused = Unit {0}
no_file (File size height ptr) = ⊥
no_file (Directory width height ptr) = Unit {0}

spots_append : (xs ys : Places) (spot : Spot) → has_spot (spots_of xs) spot ≡ false → has_spot (spots_of ys) spot ≡ false → has_spot (spots_of (xs ++ ys)) spot ≡ false
spots_append [] ys spot a b = b
spots_append (x ∷ xs) ys spot a b = both _ _ a (λ rest. spots_append xs ys spot rest b)
  where
    both : (t u : Bool) → (t || u) ≡ false → (u ≡ false → has_spot (spots_of (xs ++ ys)) spot ≡ false) → (t || has_spot (spots_of (xs ++ ys)) spot) ≡ false
    both true u e more = cc
    both false u e more = more e

other_number : (m n place : ℕ) (es : List (ℕ × ℕ)) → nat_eq m n ≡ false → has_spot (spots_of (map (λ (e : ℕ × ℕ). ((m, e.0), e.1)) es)) (n, place) ≡ false
other_number m n place [] apart = refl
other_number m n place (e ∷ es) apart = ap (λ (t : Bool). (t && nat_eq e.0 place) || has_spot (spots_of (map (λ (e : ℕ × ℕ). ((m, e.0), e.1)) es)) (n, place)) apart ∙ other_number m n place es apart

of_node : (read : Blocks) (m : ℕ) (x : Inode) (n place : ℕ) → (nat_eq m n ≡ true → no_file x) → has_spot (spots_of (node_spots read (m, x))) (n, place) ≡ false
of_node read m Unused n place not = refl
of_node read m (Directory width height ptr) n place not = refl
of_node read m (File size height ptr) n place not = by (nat_eq m n) refl
  where
    by : (t : Bool) → nat_eq m n ≡ t → has_spot (spots_of (node_spots read (m, File size height ptr))) (n, place) ≡ false
    by true is = absurd (not is)
    by false is = other_number m n place (pairs_below read height ptr) is

of_nodes : (read : Blocks) (nodes : List (ℕ × Inode)) (n place : ℕ) → Distinct (numbers nodes) → no_file (inode_of nodes n) → has_spot (spots_of (flat_map (node_spots read) nodes)) (n, place) ≡ false
of_nodes read [] n place distinct not = refl
of_nodes read (node ∷ nodes) n place distinct not =
    subst (λ (es : Places). has_spot (spots_of es) (n, place) ≡ false) (sym (flat_map-cons (node_spots read) node nodes))
    (by (nat_eq node.0 n) refl not (of_nodes read nodes n place distinct.1))
  where
    unlisted : (nodes : List (ℕ × Inode)) → is_among (numbers nodes) n ≡ false → no_file (inode_of nodes n)
    unlisted [] out = tt
    unlisted (node ∷ nodes) out = step (nat_eq node.0 n) out (unlisted nodes)
      where
        step : (t : Bool) → (t || is_among (numbers nodes) n) ≡ false → (is_among (numbers nodes) n ≡ false → no_file (inode_of nodes n)) → no_file (cond t node.1 (inode_of nodes n))
        step true out more = cc
        step false out more = more out

    by : (t : Bool) → nat_eq node.0 n ≡ t → no_file (cond t node.1 (inode_of nodes n)) → (no_file (inode_of nodes n) → has_spot (spots_of (flat_map (node_spots read) nodes)) (n, place) ≡ false)
        → has_spot (spots_of (node_spots read node ++ flat_map (node_spots read) nodes)) (n, place) ≡ false
    by true is not more =
        let e : node.0 ≡ n = eqb-true node.0 n is in
        spots_append (node_spots read node) (flat_map (node_spots read) nodes) (n, place) (of_node read node.0 node.1 n place (λ same. not))
        (more (unlisted nodes (subst (λ (k : ℕ). is_among (numbers nodes) k ≡ false) e distinct.0)))
    by false is not more =
        spots_append (node_spots read node) (flat_map (node_spots read) nodes) (n, place) (of_node read node.0 node.1 n place (λ same. absurd (let never : true ≡ false = sym same ∙ is in cc))) (more not)

-- what isn't a file has no place
pub no_places : (image : List Block) (n place : ℕ) → NoFaults (seen image).met → no_file (inode_of (seen image).nodes n) → find spot_cmp (n, place) (map spot_of (seen image).contents) ≡ None
unfolding seen
no_places image n place none not =
    let read = blocks_in image in
    let at = (root_of_image image).inode_index in
    ap (λ (ms : List Met). find spot_cmp (n, place) (map spot_of (all_held (content_held read) ms))) (walk_good read at none).is
    ∙ ap (find spot_cmp (n, place)) (spots_are read at (nodes_at read at))
    ∙ find_none (n, place) (flat_map (node_spots read) (nodes_at read at)) (of_nodes read (nodes_at read at) n place (numbers_distinct read at) not)

-- ---- blocks of places

-- the blocks of files are those of the places
pub file_blocks : (read : Blocks) (ms : List Met) → files ms ≡ blocks_in_places (map spot_of (all_held (content_held read) ms))
file_blocks read [] = refl
file_blocks read (index p ∷ ms) = file_blocks read ms
file_blocks read (page n place p ∷ ms) = file_blocks read ms
file_blocks read (content n place p ∷ ms) = ap (λ (bs : List ℕ). p ∷ bs) (file_blocks read ms)
file_blocks read (past p ∷ ms) = file_blocks read ms
file_blocks read (empty p ∷ ms) = file_blocks read ms
file_blocks read (not_inode n ∷ ms) = file_blocks read ms
file_blocks read (stray n p ∷ ms) = file_blocks read ms

pub all_file_blocks : (image : List Block) → files (seen image).met ≡ blocks_in_places (map spot_of (seen image).contents)
unfolding seen
all_file_blocks image = file_blocks (blocks_in image) (seen image).met

pub among_within : (low high : ℕ) (bs : List ℕ) → AllWithin low high bs → (b : ℕ) → is_among bs b ≡ true → low ≤ b
among_within low high [] all b e = cc
among_within low high (c ∷ cs) all b e = by (nat_eq c b) refl e (among_within low high cs all.2 b)
  where
    by : (t : Bool) → nat_eq c b ≡ t → (t || is_among cs b) ≡ true → (is_among cs b ≡ true → low ≤ b) → low ≤ b
    by true is e more = let same : c ≡ b = eqb-true c b is in subst (λ (k : ℕ). low ≤ k) same all.0
    by false is e more = more e

pub not_zero : (b : ℕ) → 1 ≤ b → (b == 0) ≡ false
not_zero b le = grind (arith, nat_tests)

-- a place past the blocks of a node has none
pub past_none : (blocks place : ℕ) (es : List (ℕ × ℕ)) → AllBelow blocks es → blocks ≤ place → block_in es place ≡ 0
past_none blocks place [] all le = refl
past_none blocks place (e ∷ es) all le =
    let lt = lt_true e.0 blocks all.0 in
    let apart : (e.0 == place) ≡ false = differ e.0 place (omega (arith, lt, le)) in
    ap (λ (t : Bool). cond t e.1 (block_in es place)) apart ∙ past_none blocks place es all.1 le
  where
    differ : (a b : ℕ) → a < b → (a == b) ≡ false
    differ a b lt = grind (arith, nat_tests)
