-- The places that are seen are in order.
use Rattle.std.proofs.Common.{◌≡◌, ℕ, ◌+◌, ◌<◌, Bool, true, false, cond, List, [], ◌∷◌, ◌++◌, map, refl, sym, ap, subst, ◌∙◌, arith}
use Rattle.std.specs.Prelude.{◌==◌, ◌&&◌, nat_lt}
use Rattle.std.specs.List.{flat_map}
use Rattle.std.specs.Ordering.{nat_cmp, ordering_then, is_lt}
use Rattle.std.specs.declared.cmp.Ordering.{Ordering}
use Rattle.std.specs.declared.cmp.Ordering.TheVariants.{Less, Equal, Greater}
use Rattle.std.specs.Cmp.{IsTotalOrder, nat_cmp_total, then_total, on_total}
use Rattle.std.specs.FinMap.Entries.{is_sorted, below_all, same_entries}
use Rattle.std.proofs.Math.Dec.{T}
use Rattle.std.proofs.lemmas.Bool.{eqb-true}
use Rattle.std.proofs.lemmas.Bool.Decides.{nat_tests}
use Rattle.std.proofs.lemmas.List.Concat.{flat_map-cons}
use Rattle.root_switch.specs.Current.{root_of_image}
use Rattle.block_format.specs.declared.inode.Inode.{Inode}
use Rattle.block_format.specs.declared.inode.Inode.TheVariants.{Unused, File, Directory}
use Rattle.block_tree.specs.Tree.{Blocks, index_at, pairs_below, blocks_in}
use Rattle.block_tree.proofs.Rise.{places_in, pairs_rise}
use Rattle.place_words.proofs.Rising.{rising_less}
use Rattle.place_words.specs.Rising.{Rising}
use Rattle.volume_model.specs.Places.{Places, Spot, spot_cmp}
use Rattle.image_model.specs.Spelling.{PlacesInOrder, SamePlaces}
use Rattle.image_model.specs.Met.{Met}
use Rattle.image_model.specs.Seen.{seen, all_held, content_held}
use Rattle.image_model.specs.Stands.{spot_of}
use Rattle.image_model.specs.Walk.{nodes_at}
use Rattle.image_model.proofs.NodePlaces.{numbers, node_spots, spots_are, blocks_rise}
use Rattle.image_model.proofs.NodeWalk.{walk_good}

cmp_less : (n m : ℕ) → n < m → nat_cmp n m ≡ Less
cmp_less n m lt = let is : nat_lt n m ≡ true = grind (arith, nat_tests) in ap (λ (t : Bool). cond t Less (cond (n == m) Equal Greater)) is

cmp_same : (n : ℕ) → nat_cmp n n ≡ Equal
cmp_same n = let no : nat_lt n n ≡ false = grind (arith, nat_tests) in let is : (n == n) ≡ true = grind (arith, nat_tests) in λ i. cond (no i) Less (cond (is i) Equal Greater)

less_number : (n p m q : ℕ) → n < m → is_lt (spot_cmp (n, p) (m, q)) ≡ true
less_number n p m q lt = ap (λ (o : Ordering). is_lt (ordering_then o (nat_cmp p q))) (cmp_less n m lt)

less_place : (n p q : ℕ) → p < q → is_lt (spot_cmp (n, p) (n, q)) ≡ true
less_place n p q lt = λ i. is_lt (ordering_then (cmp_same n i) (cmp_less p q lt i))

and_both : (a b : Bool) → a ≡ true → b ≡ true → (a && b) ≡ true
and_both true b e f = f
and_both false b e f = cc

abbrev own : ℕ → List (ℕ × ℕ) → Places
own n pairs = map (λ (e : ℕ × ℕ). ((n, e.0), e.1)) pairs

own_below : (n p : ℕ) (pairs : List (ℕ × ℕ)) → Rising (p + 1) (places_in pairs) → below_all spot_cmp (n, p) (own n pairs) ≡ true
own_below n p [] rising = refl
own_below n p (e ∷ es) rising = and_both _ _ (less_place n p e.0 (omega (arith, rising.0))) (own_below n p es (rising_less (p + 1) (e.0 + 1) (omega (arith, rising.0)) (places_in es) rising.1))

below_append : (spot : Spot) (xs ys : Places) → below_all spot_cmp spot xs ≡ true → below_all spot_cmp spot ys ≡ true → below_all spot_cmp spot (xs ++ ys) ≡ true
below_append spot [] ys a b = b
below_append spot (x ∷ xs) ys a b = and_both _ _ (and_first _ _ a) (below_append spot xs ys (and_second _ _ a) b)
  where
    and_first : (a b : Bool) → (a && b) ≡ true → a ≡ true
    and_first true b e = refl
    and_first false b e = cc

    and_second : (a b : Bool) → (a && b) ≡ true → b ≡ true
    and_second true b e = e
    and_second false b e = cc

-- the places of a later number
later_own : (n p m : ℕ) → n < m → (pairs : List (ℕ × ℕ)) → below_all spot_cmp (n, p) (own m pairs) ≡ true
later_own n p m lt [] = refl
later_own n p m lt (e ∷ es) = and_both _ _ (less_number n p m e.0 lt) (later_own n p m lt es)

later_node : (read : Blocks) (n p : ℕ) (node : ℕ × Inode) → n < node.0 → below_all spot_cmp (n, p) (node_spots read node) ≡ true
later_node read n p (m, Unused) lt = refl
later_node read n p (m, File size height ptr) lt = later_own n p m lt (pairs_below read height ptr)
later_node read n p (m, Directory width height ptr) lt = refl

later_nodes : (read : Blocks) (n p : ℕ) (nodes : List (ℕ × Inode)) → Rising (n + 1) (numbers nodes) → below_all spot_cmp (n, p) (flat_map (node_spots read) nodes) ≡ true
later_nodes read n p [] rising = refl
later_nodes read n p (node ∷ nodes) rising =
    subst (λ (es : Places). below_all spot_cmp (n, p) es ≡ true) (sym (flat_map-cons (node_spots read) node nodes))
    (below_append (n, p) (node_spots read node) (flat_map (node_spots read) nodes) (later_node read n p node (omega (arith, rising.0))) (later_nodes read n p nodes (rising_less (n + 1) (node.0 + 1) (omega (arith, rising.0)) (numbers nodes) rising.1)))

-- the places of one number in front of those of later ones
own_sorted : (n k : ℕ) (pairs : List (ℕ × ℕ)) (rest : Places) → Rising k (places_in pairs) → ((p : ℕ) → below_all spot_cmp (n, p) rest ≡ true) → is_sorted spot_cmp rest ≡ true → is_sorted spot_cmp (own n pairs ++ rest) ≡ true
own_sorted n k [] rest rising below sorted = sorted
own_sorted n k (e ∷ es) rest rising below sorted =
    and_both _ _ (below_append (n, e.0) (own n es) rest (own_below n e.0 es rising.1) (below e.0)) (own_sorted n (e.0 + 1) es rest rising.1 below sorted)

node_sorted : (read : Blocks) (node : ℕ × Inode) (rest : Places) → ((p : ℕ) → below_all spot_cmp (node.0, p) rest ≡ true) → is_sorted spot_cmp rest ≡ true → is_sorted spot_cmp (node_spots read node ++ rest) ≡ true
node_sorted read (n, Unused) rest below sorted = sorted
node_sorted read (n, File size height ptr) rest below sorted = own_sorted n 0 (pairs_below read height ptr) rest (pairs_rise read height ptr) below sorted
node_sorted read (n, Directory width height ptr) rest below sorted = sorted

nodes_sorted : (read : Blocks) (n : ℕ) (nodes : List (ℕ × Inode)) → Rising n (numbers nodes) → is_sorted spot_cmp (flat_map (node_spots read) nodes) ≡ true
nodes_sorted read n [] rising = refl
nodes_sorted read n (node ∷ nodes) rising =
    subst (λ (es : Places). is_sorted spot_cmp es ≡ true) (sym (flat_map-cons (node_spots read) node nodes))
    (node_sorted read node (flat_map (node_spots read) nodes) (λ p. later_nodes read node.0 p nodes rising.1) (nodes_sorted read (node.0 + 1) nodes rising.1))

pub places_in_order : PlacesInOrder
unfolding seen
places_in_order image none =
    let read = blocks_in image in
    let at = (root_of_image image).inode_index in
    let is = ap (λ (ms : List Met). map spot_of (all_held (content_held read) ms)) (walk_good read at none).is ∙ spots_are read at (nodes_at read at) in
    subst (λ (es : Places). is_sorted spot_cmp es ≡ true) (sym is) (nodes_sorted read 0 (nodes_at read at) (blocks_rise read 0 (index_at read at)))

-- ---- places by their spots

pub spot_total : IsTotalOrder spot_cmp
spot_total = then_total (on_total (λ (s : Spot). s.0) nat_cmp_total) (on_total (λ (s : Spot). s.1) nat_cmp_total)

nat_tie : (n m : ℕ) → nat_cmp n m ≡ Equal → n ≡ m
nat_tie n m e = by (nat_lt n m) (n == m) refl e
  where
    by : (t u : Bool) → (n == m) ≡ u → cond t Less (cond u Equal Greater) ≡ Equal → n ≡ m
    by true u is e = cc
    by false true is e = eqb-true n m is
    by false false is e = cc

both_tie : (a b : Ordering) → ordering_then a b ≡ Equal → (a ≡ Equal) × (b ≡ Equal)
both_tie Less b e = cc
both_tie Equal b e = (refl, e)
both_tie Greater b e = cc

pub spot_tie : (a b : Spot) → spot_cmp a b ≡ Equal → a ≡ b
spot_tie a b e =
    let two = both_tie (nat_cmp a.0 b.0) (nat_cmp a.1 b.1) e in
    λ i. (nat_tie a.0 b.0 two.0 i, nat_tie a.1 b.1 two.1 i)

pub T_true : (b : Bool) → T b → b ≡ true
T_true true h = refl
T_true false h = absurd h

pub true_T : (b : Bool) → b ≡ true → T b
true_T b e = subst T (sym e) tt

pub same_places : SamePlaces
same_places p q a b same = same_entries spot_cmp spot_total spot_tie p q (true_T _ a) (true_T _ b) same
