-- What a walk leaves, beside what is seen of the image.
use Rattle.std.proofs.Common.{◌≡◌, ◌<◌, ◌≤◌, ℕ, zero, suc, ◌+◌, ◌-◌, ◌*◌, Bool, true, false, cond, List, [], ◌∷◌, ◌++◌, map, refl, sym, ap, subst, ◌∙◌, arith}
use Rattle.std.specs.Prelude.{◌==◌, ◌&&◌, nat_lt, Contains}
use Rattle.std.specs.List.{flat_map, list_all, list_any}
use Rattle.std.proofs.lemmas.List.{append_assoc, map-append}
use Rattle.std.proofs.lemmas.List.Concat.{flat_map-cons}
use Rattle.std.proofs.lemmas.Bool.{eqb-true, eq-eqb}
use Rattle.std.proofs.lemmas.Bool.Decides.{nat_tests}
use Rattle.place_words.specs.Rising.{Rising}
use Rattle.block_format.specs.Inode.{inode_in, blocks_of, pointer_of}
use Rattle.block_format.specs.declared.inode.Inode.{Inode}
use Rattle.block_format.specs.declared.inode.Inode.TheVariants.{Unused, File, Directory}
use Rattle.block_tree.specs.Tree.{Blocks, index_at}
use Rattle.image_model.specs.Met.{Met, index, page, content, past, empty, not_inode, stray}
use Rattle.image_model.specs.Nodes.{blocks_in_node}
use Rattle.image_model.specs.Seen.{SeenBlock, all_held, page_held, content_held}
use Rattle.image_model.specs.Slots.{held_at, slots_from, slot_pieces, inode_of}
use Rattle.image_model.specs.Walk.{met_at, empty_met, empty_at, places_met, leaf_met, tops_met, leaves_met, tree_met, node_met, entries_met, blocks_met, block_met, bad_met, root_met, is_used, is_directory, is_good, is_pointer_wrong, inodes_from, nodes_at, walk}
use Rattle.image_model.proofs.NodePlaces.{numbers, blocks_rise, held_append}
use Rattle.image_walk.specs.Blocks.{block_held, blocks_held}
use Rattle.image_walk.specs.Kept.{pages_of, lasts_of, node_lasts, all_lasts}
use Rattle.image_walk.specs.Left.{SeesEnds, HasOwners, OfSeen}

-- ---- what holds of all that is met

abbrev AllMet : (Met → Type 0) → List Met → Type 0
AllMet P [] = Unit {0}
AllMet P (m ∷ ms) = P m × AllMet P ms

-- a block of this node, below so many places
abbrev IsOf : ℕ → ℕ → Met → Type 0
IsOf n blocks (page m place b) = m ≡ n
IsOf n blocks (content m place b) = (m ≡ n) × (place < blocks)
IsOf n blocks other = Unit {0}

-- no directory's block
abbrev IsNoPage : Met → Type 0
IsNoPage (page m place b) = ⊥
IsNoPage other = Unit {0}

-- no node's block
abbrev IsBare : Met → Type 0
IsBare (page m place b) = ⊥
IsBare (content m place b) = ⊥
IsBare other = Unit {0}

all_append : (P : Met → Type 0) (xs ys : List Met) → AllMet P xs → AllMet P ys → AllMet P (xs ++ ys)
all_append P [] ys first second = second
all_append P (x ∷ xs) ys first second = (first.0, all_append P xs ys first.1 second)

module _ (P : Met → Type 0) (on_index : (p : ℕ) → P (index p)) (on_past : (p : ℕ) → P (past p)) (on_empty : (p : ℕ) → P (empty p)) where
  at_all : (f : ℕ → Met) (t u : Bool) (p : ℕ) → (u ≡ true → P (f p)) → AllMet P (cond t [] (cond u (f p) (past p) ∷ []))
  at_all f true u p on = tt
  at_all f false true p on = (on refl, tt)
  at_all f false false p on = (on_past p, tt)

  empty_all : (t : Bool) (b : ℕ) → AllMet P (cond t (empty b ∷ []) [])
  empty_all true b = (on_empty b, tt)
  empty_all false b = tt

  tops_all : (blocks place : ℕ) (ps : List ℕ) → AllMet P (tops_met blocks place ps)
  tops_all blocks place [] = tt
  tops_all blocks place (p ∷ ps) = all_append P (met_at index (nat_lt place blocks) p) (tops_met blocks (place + 1024) ps) (at_all index (p == 0) (nat_lt place blocks) p (λ e. on_index p)) (tops_all blocks (place + 1024) ps)

  entries_all : (es : List ℕ) → AllMet P (entries_met es)
  entries_all [] = tt
  entries_all (e ∷ es) = all_append P (met_at index true e) (entries_met es) (at_all index (e == 0) true e (λ is. on_index e)) (entries_all es)

  module _ (read : Blocks) (what : ℕ → ℕ → Met) (blocks : ℕ) (on_what : (place p : ℕ) → place < blocks → P (what place p)) where
    place_all : (place p : ℕ) → AllMet P (met_at (what place) (nat_lt place blocks) p)
    place_all place p = at_all (what place) (p == 0) (nat_lt place blocks) p (λ is. on_what place p (below is))
      where
        below : nat_lt place blocks ≡ true → place < blocks
        below is = grind (arith, nat_tests)

    places_all : (place : ℕ) (ps : List ℕ) → AllMet P (places_met what blocks place ps)
    places_all place [] = tt
    places_all place (p ∷ ps) = all_append P (met_at (what place) (nat_lt place blocks) p) (places_met what blocks (place + 1) ps) (place_all place p) (places_all (place + 1) ps)

    leaf_all : (place b : ℕ) → AllMet P (leaf_met read what blocks place b)
    leaf_all place b = by (b == 0)
      where
        by : (t : Bool) → AllMet P (cond t [] (empty_met b (index_at read b) ++ places_met what blocks place (index_at read b)))
        by true = tt
        by false = all_append P (empty_met b (index_at read b)) (places_met what blocks place (index_at read b)) (empty_all (list_all (λ p. p == 0) (index_at read b)) b) (places_all place (index_at read b))

    leaves_all : (place : ℕ) (ps : List ℕ) → AllMet P (leaves_met read what blocks place ps)
    leaves_all place [] = tt
    leaves_all place (p ∷ ps) = all_append P (leaf_met read what blocks place p) (leaves_met read what blocks (place + 1024) ps) (leaf_all place p) (leaves_all (place + 1024) ps)

    empty_at_all : (b : ℕ) → AllMet P (empty_at read b)
    empty_at_all b = by (b == 0)
      where
        by : (t : Bool) → AllMet P (cond t [] (empty_met b (index_at read b)))
        by true = tt
        by false = empty_all (list_all (λ p. p == 0) (index_at read b)) b

    tree_all : (height ptr : ℕ) → AllMet P (tree_met read what blocks height ptr)
    tree_all zero ptr = place_all 0 ptr
    tree_all (suc zero) ptr = all_append P (met_at index (nat_lt 0 blocks) ptr) (leaf_met read what blocks 0 ptr) (at_all index (ptr == 0) (nat_lt 0 blocks) ptr (λ e. on_index ptr)) (leaf_all 0 ptr)
    tree_all (suc (suc height)) ptr =
        let leaves = leaves_met read what blocks 0 (index_at read ptr) in
        let tops = tops_met blocks 0 (index_at read ptr) in
        all_append P (met_at index (nat_lt 0 blocks) ptr) (empty_at read ptr ++ (tops ++ leaves)) (at_all index (ptr == 0) (nat_lt 0 blocks) ptr (λ e. on_index ptr))
        (all_append P (empty_at read ptr) (tops ++ leaves) (empty_at_all ptr) (all_append P tops leaves (tops_all blocks 0 (index_at read ptr)) (leaves_all 0 (index_at read ptr))))

-- what is met below a node is its own, and no directory's where it is none
node_of_own : (read : Blocks) (n : ℕ) (x : Inode) → AllMet (IsOf n (blocks_in_node x)) (node_met read (n, x))
node_of_own read n Unused = tt
node_of_own read n (File size height ptr) = tree_all (IsOf n (blocks_of size)) (λ p. tt) (λ p. tt) (λ p. tt) read (content n) (blocks_of size) (λ place p lt. (refl, lt)) height ptr
node_of_own read n (Directory width height ptr) = tree_all (IsOf n (blocks_of (256 * width))) (λ p. tt) (λ p. tt) (λ p. tt) read (page n) (blocks_of (256 * width)) (λ place p lt. refl) height ptr

no_page_of : (read : Blocks) (n : ℕ) (x : Inode) → is_directory x ≡ false → AllMet IsNoPage (node_met read (n, x))
no_page_of read n Unused is = tt
no_page_of read n (File size height ptr) is = tree_all IsNoPage (λ p. tt) (λ p. tt) (λ p. tt) read (content n) (blocks_of size) (λ place p lt. tt) height ptr
no_page_of read n (Directory width height ptr) is = cc

-- ---- what comes before the nodes

bad_bare : (t u : Bool) (n p : ℕ) → AllMet IsBare (cond t [] (cond u (stray n p ∷ []) (not_inode n ∷ [])))
bad_bare true u n p = tt
bad_bare false true n p = (tt, tt)
bad_bare false false n p = (tt, tt)

inodes_bare : (inodes : List (ℕ × List ℕ)) → AllMet IsBare (flat_map bad_met inodes)
inodes_bare [] = tt
inodes_bare ((n, bytes) ∷ inodes) =
    subst (AllMet IsBare) (sym (flat_map-cons bad_met (n, bytes) inodes))
    (all_append IsBare (bad_met (n, bytes)) (flat_map bad_met inodes) (bad_bare (is_good (n, bytes)) (is_pointer_wrong (n, bytes)) n (pointer_of (inode_in bytes))) (inodes_bare inodes))

if_bare : (t : Bool) (n : ℕ) → AllMet IsBare (cond t [] (not_inode n ∷ []))
if_bare true n = tt
if_bare false n = (tt, tt)

blocks_bare : (read : Blocks) (n : ℕ) (es : List ℕ) → AllMet IsBare (blocks_met read n es)
blocks_bare read n [] = tt
blocks_bare read n (e ∷ es) = all_append IsBare (cond (e == 0) [] (block_met n (inodes_from 64 n (read e)))) (blocks_met read (n + 64) es) (by (e == 0)) (blocks_bare read (n + 64) es)
  where
    by : (t : Bool) → AllMet IsBare (cond t [] (block_met n (inodes_from 64 n (read e))))
    by true = tt
    by false =
        let inodes = inodes_from 64 n (read e) in
        let some = list_any (λ (x : ℕ × List ℕ). is_used (inode_in x.1)) inodes in
        all_append IsBare (flat_map bad_met inodes) (cond some [] (not_inode n ∷ [])) (inodes_bare inodes) (if_bare some n)

record Split (read : Blocks) (at : ℕ) : Type 0 where
  front : List Met
  bare : AllMet IsBare front
  is : walk read at ≡ front ++ flat_map (node_met read) (nodes_at read at)

walk_split : (read : Blocks) (at : ℕ) → Split read at
unfolding walk
walk_split read at =
    let es = index_at read at in
    let nodes = nodes_at read at in
    let entries = entries_met es in
    let blocks = blocks_met read 0 es in
    let root = root_met nodes in
    let trees = flat_map (node_met read) nodes in
    record {
      front = index at ∷ (entries ++ (blocks ++ root));
      bare = (
        tt,
        all_append IsBare entries (blocks ++ root) (entries_all IsBare (λ p. tt) (λ p. tt) (λ p. tt) es)
            (all_append IsBare blocks root (blocks_bare read 0 es) (if_bare (list_any (λ (node : ℕ × Inode). node.0 == 1 && is_directory node.1) nodes) 1)),
      );
      is = sym (ap (λ (ms : List Met). index at ∷ ms) (append_assoc entries (blocks ++ root) trees ∙ ap (λ (ms : List Met). entries ++ ms) (append_assoc blocks root trees)));
    }

-- ---- blocks of other nodes

abbrev NotOf : ℕ → List SeenBlock → Type 0
NotOf n [] = Unit {0}
NotOf n (h ∷ hs) = (h.number ≡ n → ⊥) × NotOf n hs

not_append : (n : ℕ) (xs ys : List SeenBlock) → NotOf n xs → NotOf n ys → NotOf n (xs ++ ys)
not_append n [] ys first second = second
not_append n (x ∷ xs) ys first second = (first.0, not_append n xs ys first.1 second)

other_test : (m n : ℕ) → (m ≡ n → ⊥) → (m == n) ≡ false
other_test m n other = grind (arith, nat_tests)

held_right : (n q : ℕ) (xs ys : List SeenBlock) → NotOf n xs → held_at (xs ++ ys) n q ≡ held_at ys n q
held_right n q [] ys not = refl
held_right n q (x ∷ xs) ys not = ap (λ (t : Bool). cond (t && x.place == q) x.bytes (held_at (xs ++ ys) n q)) (other_test x.number n not.0) ∙ held_right n q xs ys not.1

held_nothing : (n q : ℕ) (xs : List SeenBlock) → NotOf n xs → held_at xs n q ≡ []
held_nothing n q [] not = refl
held_nothing n q (x ∷ xs) not = ap (λ (t : Bool). cond (t && x.place == q) x.bytes (held_at xs n q)) (other_test x.number n not.0) ∙ held_nothing n q xs not.1

held_left : (n q : ℕ) (xs ys : List SeenBlock) → NotOf n ys → held_at (xs ++ ys) n q ≡ held_at xs n q
held_left n q [] ys not = held_nothing n q ys not
held_left n q (x ∷ xs) ys not = ap (λ (bytes : List ℕ). cond (x.number == n && x.place == q) x.bytes bytes) (held_left n q xs ys not)

no_slots : (n : ℕ) (hs : List SeenBlock) → NotOf n hs → slot_pieces hs n ≡ []
no_slots n [] not = refl
no_slots n (h ∷ hs) not = ap (λ (t : Bool). cond t (slots_from 16 h.bytes) [] ++ slot_pieces hs n) (other_test h.number n not.0) ∙ no_slots n hs not.1

both_no : (t u : Bool) → u ≡ false → (x y : List ℕ) → cond (t && u) x y ≡ y
both_no true u e x y = ap (λ (s : Bool). cond s x y) e
both_no false u e x y = refl

not_both : (t : Bool) → t ≡ true → t ≡ false → ⊥
not_both t a b = cc

module _ (read : Blocks) where
  bare_contents : (n : ℕ) (ms : List Met) → AllMet IsBare ms → NotOf n (all_held (content_held read) ms)
  bare_contents n [] bare = tt
  bare_contents n (index b ∷ ms) bare = bare_contents n ms bare.1
  bare_contents n (page m place b ∷ ms) bare = absurd bare.0
  bare_contents n (content m place b ∷ ms) bare = absurd bare.0
  bare_contents n (past b ∷ ms) bare = bare_contents n ms bare.1
  bare_contents n (empty b ∷ ms) bare = bare_contents n ms bare.1
  bare_contents n (not_inode m ∷ ms) bare = bare_contents n ms bare.1
  bare_contents n (stray m b ∷ ms) bare = bare_contents n ms bare.1

  no_pages : (n : ℕ) (ms : List Met) → AllMet IsNoPage ms → NotOf n (all_held (page_held read) ms)
  no_pages n [] none = tt
  no_pages n (index b ∷ ms) none = no_pages n ms none.1
  no_pages n (page m place b ∷ ms) none = absurd none.0
  no_pages n (content m place b ∷ ms) none = no_pages n ms none.1
  no_pages n (past b ∷ ms) none = no_pages n ms none.1
  no_pages n (empty b ∷ ms) none = no_pages n ms none.1
  no_pages n (not_inode m ∷ ms) none = no_pages n ms none.1
  no_pages n (stray m b ∷ ms) none = no_pages n ms none.1

  bare_no_page : (ms : List Met) → AllMet IsBare ms → AllMet IsNoPage ms
  bare_no_page [] bare = tt
  bare_no_page (index b ∷ ms) bare = (tt, bare_no_page ms bare.1)
  bare_no_page (page m place b ∷ ms) bare = absurd bare.0
  bare_no_page (content m place b ∷ ms) bare = absurd bare.0
  bare_no_page (past b ∷ ms) bare = (tt, bare_no_page ms bare.1)
  bare_no_page (empty b ∷ ms) bare = (tt, bare_no_page ms bare.1)
  bare_no_page (not_inode m ∷ ms) bare = (tt, bare_no_page ms bare.1)
  bare_no_page (stray m b ∷ ms) bare = (tt, bare_no_page ms bare.1)

  module _ (m n : ℕ) (other : m ≡ n → ⊥) (blocks : ℕ) where
    other_contents : (ms : List Met) → AllMet (IsOf m blocks) ms → NotOf n (all_held (content_held read) ms)
    other_contents [] own = tt
    other_contents (index b ∷ ms) own = other_contents ms own.1
    other_contents (page k place b ∷ ms) own = other_contents ms own.1
    other_contents (content k place b ∷ ms) own = (λ e. other (sym own.0.0 ∙ e), other_contents ms own.1)
    other_contents (past b ∷ ms) own = other_contents ms own.1
    other_contents (empty b ∷ ms) own = other_contents ms own.1
    other_contents (not_inode k ∷ ms) own = other_contents ms own.1
    other_contents (stray k b ∷ ms) own = other_contents ms own.1

    other_pages : (ms : List Met) → AllMet (IsOf m blocks) ms → NotOf n (all_held (page_held read) ms)
    other_pages [] own = tt
    other_pages (index b ∷ ms) own = other_pages ms own.1
    other_pages (page k place b ∷ ms) own = (λ e. other (sym own.0 ∙ e), other_pages ms own.1)
    other_pages (content k place b ∷ ms) own = other_pages ms own.1
    other_pages (past b ∷ ms) own = other_pages ms own.1
    other_pages (empty b ∷ ms) own = other_pages ms own.1
    other_pages (not_inode k ∷ ms) own = other_pages ms own.1
    other_pages (stray k b ∷ ms) own = other_pages ms own.1

    other_lasts : (ms : List Met) → AllMet (IsOf m blocks) ms → NotOf n (blocks_held read (lasts_of blocks ms))
    other_lasts [] own = tt
    other_lasts (index b ∷ ms) own = other_lasts ms own.1
    other_lasts (page k place b ∷ ms) own = other_lasts ms own.1
    other_lasts (content k place b ∷ ms) own = by (place + 1 == blocks) (other_lasts ms own.1)
      where
        by : (t : Bool) → NotOf n (blocks_held read (lasts_of blocks ms)) → NotOf n (blocks_held read (cond t (record { number = k; place = place; block = b } ∷ []) [] ++ lasts_of blocks ms))
        by true more = (λ e. other (sym own.0.0 ∙ e), more)
        by false more = more
    other_lasts (past b ∷ ms) own = other_lasts ms own.1
    other_lasts (empty b ∷ ms) own = other_lasts ms own.1
    other_lasts (not_inode k ∷ ms) own = other_lasts ms own.1
    other_lasts (stray k b ∷ ms) own = other_lasts ms own.1

  -- ---- the last block of one file

  module _ (n blocks : ℕ) where
    end_one : (ms : List Met) → AllMet (IsOf n blocks) ms → held_at (all_held (content_held read) ms) n (blocks - 1) ≡ held_at (blocks_held read (lasts_of blocks ms)) n (blocks - 1)
    end_one [] own = refl
    end_one (index b ∷ ms) own = end_one ms own.1
    end_one (page k place b ∷ ms) own = end_one ms own.1
    end_one (content k place b ∷ ms) own = by (place + 1 == blocks) refl (end_one ms own.1)
      where
        by : (t : Bool) → (place + 1 == blocks) ≡ t → held_at (all_held (content_held read) ms) n (blocks - 1) ≡ held_at (blocks_held read (lasts_of blocks ms)) n (blocks - 1)
            → cond (k == n && place == blocks - 1) (read b) (held_at (all_held (content_held read) ms) n (blocks - 1))
            ≡ held_at (blocks_held read (cond t (record { number = k; place = place; block = b } ∷ []) [] ++ lasts_of blocks ms)) n (blocks - 1)
        by true is more = ap (λ (bytes : List ℕ). cond (k == n && place == blocks - 1) (read b) bytes) more
        by false is more =
            let lt : place < blocks = own.0.1 in
            let apart : (place == blocks - 1) ≡ false = grind (arith, nat_tests) in
            both_no (k == n) (place == blocks - 1) apart (read b) (held_at (all_held (content_held read) ms) n (blocks - 1)) ∙ more
    end_one (past b ∷ ms) own = end_one ms own.1
    end_one (empty b ∷ ms) own = end_one ms own.1
    end_one (not_inode k ∷ ms) own = end_one ms own.1
    end_one (stray k b ∷ ms) own = end_one ms own.1

  -- ---- all nodes

  abbrev trees : List (ℕ × Inode) → List Met
  trees nodes = flat_map (node_met read) nodes

  contents_next : (node : ℕ × Inode) (nodes : List (ℕ × Inode)) → all_held (content_held read) (trees (node ∷ nodes)) ≡ all_held (content_held read) (node_met read node) ++ all_held (content_held read) (trees nodes)
  contents_next node nodes = ap (all_held (content_held read)) (flat_map-cons (node_met read) node nodes) ∙ held_append (content_held read) (node_met read node) (trees nodes)

  pages_next : (node : ℕ × Inode) (nodes : List (ℕ × Inode)) → all_held (page_held read) (trees (node ∷ nodes)) ≡ all_held (page_held read) (node_met read node) ++ all_held (page_held read) (trees nodes)
  pages_next node nodes = ap (all_held (page_held read)) (flat_map-cons (node_met read) node nodes) ∙ held_append (page_held read) (node_met read node) (trees nodes)

  lasts_next : (node : ℕ × Inode) (nodes : List (ℕ × Inode)) → blocks_held read (all_lasts read (node ∷ nodes)) ≡ blocks_held read (node_lasts read node) ++ blocks_held read (all_lasts read nodes)
  lasts_next node nodes = ap (blocks_held read) (flat_map-cons (node_lasts read) node nodes) ∙ map-append (block_held read) (node_lasts read node) (all_lasts read nodes)

  not_contents : (low n : ℕ) (nodes : List (ℕ × Inode)) → n < low → Rising low (numbers nodes) → NotOf n (all_held (content_held read) (trees nodes))
  not_contents low n [] lt rise = tt
  not_contents low n ((m, x) ∷ nodes) lt rise =
      let le : low ≤ m = rise.0 in
      subst (NotOf n) (sym (contents_next (m, x) nodes))
      (not_append n (all_held (content_held read) (node_met read (m, x))) (all_held (content_held read) (trees nodes))
      (other_contents m n (λ e. omega (arith, e, le, lt)) (blocks_in_node x) (node_met read (m, x)) (node_of_own read m x)) (not_contents (m + 1) n nodes (omega (arith, le, lt)) rise.1))

  not_pages : (low n : ℕ) (nodes : List (ℕ × Inode)) → n < low → Rising low (numbers nodes) → NotOf n (all_held (page_held read) (trees nodes))
  not_pages low n [] lt rise = tt
  not_pages low n ((m, x) ∷ nodes) lt rise =
      let le : low ≤ m = rise.0 in
      subst (NotOf n) (sym (pages_next (m, x) nodes))
      (not_append n (all_held (page_held read) (node_met read (m, x))) (all_held (page_held read) (trees nodes))
      (other_pages m n (λ e. omega (arith, e, le, lt)) (blocks_in_node x) (node_met read (m, x)) (node_of_own read m x)) (not_pages (m + 1) n nodes (omega (arith, le, lt)) rise.1))

  not_lasts : (low n : ℕ) (nodes : List (ℕ × Inode)) → n < low → Rising low (numbers nodes) → NotOf n (blocks_held read (all_lasts read nodes))
  not_lasts low n [] lt rise = tt
  not_lasts low n ((m, x) ∷ nodes) lt rise =
      let le : low ≤ m = rise.0 in
      subst (NotOf n) (sym (lasts_next (m, x) nodes))
      (not_append n (blocks_held read (node_lasts read (m, x))) (blocks_held read (all_lasts read nodes))
      (other_lasts m n (λ e. omega (arith, e, le, lt)) (blocks_in_node x) (node_met read (m, x)) (node_of_own read m x)) (not_lasts (m + 1) n nodes (omega (arith, le, lt)) rise.1))

  ends_in : (low n size height ptr : ℕ) (nodes : List (ℕ × Inode)) → Rising low (numbers nodes) → Contains nodes (n, File size height ptr)
      → held_at (all_held (content_held read) (trees nodes)) n (blocks_of size - 1) ≡ held_at (blocks_held read (all_lasts read nodes)) n (blocks_of size - 1)
  ends_in low n size height ptr [] rise (k, lt, is) = absurd (omega (arith, lt))
  ends_in low n size height ptr (node ∷ nodes) rise (zero, lt, is) =
      let q = blocks_of size - 1 in
      let here : n < node.0 + 1 = let e : node.0 ≡ n = ap (λ (p : ℕ × Inode). p.0) is in omega (arith, e) in
      ap (λ (hs : List SeenBlock). held_at hs n q) (contents_next node nodes)
      ∙ held_left n q (all_held (content_held read) (node_met read node)) (all_held (content_held read) (trees nodes)) (not_contents (node.0 + 1) n nodes here rise.1)
      ∙ subst (λ (p : ℕ × Inode). held_at (all_held (content_held read) (node_met read p)) n q ≡ held_at (blocks_held read (node_lasts read p)) n q) (sym is)
      (end_one n (blocks_of size) (node_met read (n, File size height ptr)) (node_of_own read n (File size height ptr)))
      ∙ sym (held_left n q (blocks_held read (node_lasts read node)) (blocks_held read (all_lasts read nodes)) (not_lasts (node.0 + 1) n nodes here rise.1))
      ∙ sym (ap (λ (hs : List SeenBlock). held_at hs n q) (lasts_next node nodes))
  ends_in low n size height ptr (node ∷ nodes) rise (suc k, lt, is) =
      let q = blocks_of size - 1 in
      let there : Contains nodes (n, File size height ptr) = (k, omega (arith, lt), is) in
      let behind : node.0 + 1 ≤ n = low_of (node.0 + 1) nodes rise.1 there in
      let apart : node.0 ≡ n → ⊥ = λ e. omega (arith, e, behind) in
      ap (λ (hs : List SeenBlock). held_at hs n q) (contents_next node nodes)
      ∙ held_right n q (all_held (content_held read) (node_met read node)) (all_held (content_held read) (trees nodes)) (other_contents node.0 n apart (blocks_in_node node.1) (node_met read node) (node_of_own read node.0 node.1))
      ∙ ends_in (node.0 + 1) n size height ptr nodes rise.1 there
      ∙ sym (held_right n q (blocks_held read (node_lasts read node)) (blocks_held read (all_lasts read nodes)) (other_lasts node.0 n apart (blocks_in_node node.1) (node_met read node) (node_of_own read node.0 node.1)))
      ∙ sym (ap (λ (hs : List SeenBlock). held_at hs n q) (lasts_next node nodes))
    where
      low_of : (from : ℕ) (xs : List (ℕ × Inode)) → Rising from (numbers xs) → Contains xs (n, File size height ptr) → from ≤ n
      low_of from [] up (j, below, same) = absurd (omega (arith, below))
      low_of from (x ∷ xs) up (zero, below, same) = let e : x.0 ≡ n = ap (λ (p : ℕ × Inode). p.0) same in let a = up.0 in omega (arith, e, a)
      low_of from (x ∷ xs) up (suc j, below, same) = let more = low_of (x.0 + 1) xs up.1 (j, omega (arith, below), same) in let a = up.0 in omega (arith, more, a)

  owners_in : (low n : ℕ) (nodes : List (ℕ × Inode)) → Rising low (numbers nodes) → is_directory (inode_of nodes n) ≡ false → NotOf n (all_held (page_held read) (trees nodes))
  owners_in low n [] rise is = tt
  owners_in low n ((m, x) ∷ nodes) rise is =
      subst (NotOf n) (sym (pages_next (m, x) nodes))
      (by (m == n) refl is (owners_in (m + 1) n nodes rise.1))
    where
      by : (t : Bool) → (m == n) ≡ t → is_directory (cond t x (inode_of nodes n)) ≡ false → (is_directory (inode_of nodes n) ≡ false → NotOf n (all_held (page_held read) (trees nodes))) → NotOf n (all_held (page_held read) (node_met read (m, x)) ++ all_held (page_held read) (trees nodes))
      by true e off more =
          let same : m ≡ n = eqb-true m n e in
          not_append n (all_held (page_held read) (node_met read (m, x))) (all_held (page_held read) (trees nodes)) (no_pages n (node_met read (m, x)) (no_page_of read m x off)) (not_pages (m + 1) n nodes (omega (arith, same)) rise.1)
      by false e off more =
          let apart : m ≡ n → ⊥ = λ same. not_both (m == n) (eq-eqb m n same) e in
          not_append n (all_held (page_held read) (node_met read (m, x))) (all_held (page_held read) (trees nodes)) (other_pages m n apart (blocks_in_node x) (node_met read (m, x)) (node_of_own read m x)) (more off)

-- ---- of the whole walk

pub pages_seen : (read : Blocks) (ms : List Met) → all_held (page_held read) ms ≡ blocks_held read (pages_of ms)
pages_seen read [] = refl
pages_seen read (index b ∷ ms) = pages_seen read ms
pages_seen read (page n place b ∷ ms) = ap (λ (hs : List SeenBlock). record { number = n; place = place; block = b; bytes = read b } ∷ hs) (pages_seen read ms)
pages_seen read (content n place b ∷ ms) = pages_seen read ms
pages_seen read (past b ∷ ms) = pages_seen read ms
pages_seen read (empty b ∷ ms) = pages_seen read ms
pages_seen read (not_inode n ∷ ms) = pages_seen read ms
pages_seen read (stray n b ∷ ms) = pages_seen read ms

pub owners_seen : (read : Blocks) (at : ℕ) → OfSeen read at HasOwners
owners_seen read at homes many n is =
    let split = walk_split read at in
    let nodes = nodes_at read at in
    let pages : all_held (page_held read) (walk read at) ≡ all_held (page_held read) split.front ++ all_held (page_held read) (flat_map (node_met read) nodes) =
    ap (all_held (page_held read)) split.is ∙ held_append (page_held read) split.front (flat_map (node_met read) nodes) in
    let none : NotOf n (all_held (page_held read) (walk read at)) =
    subst (NotOf n) (sym pages) (not_append n _ _ (no_pages read n split.front (bare_no_page read split.front split.bare)) (owners_in read 0 n nodes (blocks_rise read 0 (index_at read at)) is)) in
    ap (map (λ p. p.0)) (no_slots n (all_held (page_held read) (walk read at)) none)

pub ends_seen : (read : Blocks) (at : ℕ) → OfSeen read at (SeesEnds read (all_lasts read (nodes_at read at)))
ends_seen read at homes many n size height ptr has =
    let split = walk_split read at in
    let nodes = nodes_at read at in
    let q = blocks_of size - 1 in
    ap (λ (ms : List Met). held_at (all_held (content_held read) ms) n q) split.is
    ∙ ap (λ (hs : List SeenBlock). held_at hs n q) (held_append (content_held read) split.front (flat_map (node_met read) nodes))
    ∙ held_right n q (all_held (content_held read) split.front) (all_held (content_held read) (flat_map (node_met read) nodes)) (bare_contents read n split.front split.bare)
    ∙ ends_in read 0 n size height ptr nodes (blocks_rise read 0 (index_at read at)) has
