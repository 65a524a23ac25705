-- The places of each node among those of all nodes.
use Rattle.std.proofs.Common.{◌≡◌, ℕ, zero, suc, ◌+◌, Bool, true, false, cond, List, [], ◌∷◌, ◌++◌, length, take, drop, map, filter, refl, sym, ap, subst, ◌∙◌, arith}
use Rattle.std.specs.Prelude.{◌==◌, ◌||◌, nat_eq, count_by}
use Rattle.std.specs.List.{AllByRecursion, flat_map}
use Rattle.std.proofs.lemmas.Bool.Decides.{nat_tests}
use Rattle.std.proofs.lemmas.List.{map-append, append-nil, append_assoc}
use Rattle.std.proofs.lemmas.List.Elements.{filter-append}
use Rattle.std.proofs.lemmas.List.Concat.{flat_map-cons}
use Rattle.std.proofs.lemmas.List.Sums.{sum_by-cons, sum_by-append}
use Rattle.block_format.specs.Inode.{inode_in}
use Rattle.block_format.specs.declared.inode.Inode.{Inode}
use Rattle.block_format.specs.declared.inode.Inode.TheVariants.{Unused, File, Directory}
use Rattle.block_tree.specs.Tree.{Blocks, index_at, pairs_below, indexes_below, nonzero}
use Rattle.place_words.specs.Different.{is_among, Distinct}
use Rattle.place_words.proofs.Rising.{rising_less, rising_distinct}
use Rattle.place_words.specs.Rising.{Rising}
use Rattle.volume_model.specs.Places.{Places, Spot, places_of}
use Rattle.image_model.specs.Met.{Met, index, page, content}
use Rattle.image_model.specs.Walk.{is_used, inodes_from, blocks_inodes, nodes_of, nodes_at}
use Rattle.image_model.specs.Planned.{node_trees}
use Rattle.image_model.specs.Seen.{SeenBlock, all_held, content_held, page_held}
use Rattle.image_model.specs.Slots.{inode_of}
use Rattle.image_model.specs.Stands.{spot_of}

-- the numbers of nodes
abbrev pub numbers : List (ℕ × Inode) → List ℕ
numbers nodes = map (λ (node : ℕ × Inode). node.0) nodes

-- ---- each number is of one node

inodes_rise : (m n : ℕ) (bytes : List ℕ) (rest : List (ℕ × List ℕ)) → Rising (n + m) (numbers (nodes_of rest)) → Rising n (numbers (nodes_of (inodes_from m n bytes ++ rest)))
unfolding inodes_from
inodes_rise zero n bytes rest more = subst (λ k. Rising k (numbers (nodes_of rest))) (omega arith) more
inodes_rise (suc m) n bytes rest more = by (is_used (inode_in (take 64 bytes)))
    (inodes_rise m (n + 1) (drop 64 bytes) rest (subst (λ k. Rising k (numbers (nodes_of rest))) (omega arith) more))
  where
    by : (t : Bool) → Rising (n + 1) (numbers (nodes_of (inodes_from m (n + 1) (drop 64 bytes) ++ rest)))
        → Rising n (numbers (cond t ((n, inode_in (take 64 bytes)) ∷ nodes_of (inodes_from m (n + 1) (drop 64 bytes) ++ rest)) (nodes_of (inodes_from m (n + 1) (drop 64 bytes) ++ rest))))
    by true all = (omega arith, all)
    by false all = rising_less n (n + 1) (omega arith) _ all

pub blocks_rise : (read : Blocks) (n : ℕ) (es : List ℕ) → Rising n (numbers (nodes_of (blocks_inodes read n es)))
blocks_rise read n [] = tt
blocks_rise read n (e ∷ es) = by (e == 0) (blocks_rise read (n + 64) es)
  where
    by : (t : Bool) → Rising (n + 64) (numbers (nodes_of (blocks_inodes read (n + 64) es))) → Rising n (numbers (nodes_of (cond t [] (inodes_from 64 n (read e)) ++ blocks_inodes read (n + 64) es)))
    by true more = rising_less n (n + 64) (omega arith) _ more
    by false more = inodes_rise 64 n (read e) (blocks_inodes read (n + 64) es) more

pub numbers_distinct : (read : Blocks) (at : ℕ) → Distinct (numbers (nodes_at read at))
numbers_distinct read at = rising_distinct 0 _ (blocks_rise read 0 (index_at read at))

-- ---- each node is used

abbrev pub AllUsed : List (ℕ × Inode) → Type 0
AllUsed nodes = AllByRecursion (λ (node : ℕ × Inode). is_used node.1 ≡ true) nodes

pub nodes_used : (inodes : List (ℕ × List ℕ)) → AllUsed (nodes_of inodes)
nodes_used [] = tt
nodes_used ((n, bytes) ∷ inodes) = by (is_used (inode_in bytes)) refl (nodes_used inodes)
  where
    by : (t : Bool) → is_used (inode_in bytes) ≡ t → AllUsed (nodes_of inodes) → AllUsed (cond t ((n, inode_in bytes) ∷ nodes_of inodes) (nodes_of inodes))
    by true is more = (is, more)
    by false is more = more

-- the numbers that are used are those of the nodes
pub used_among : (nodes : List (ℕ × Inode)) → AllUsed nodes → (n : ℕ) → is_used (inode_of nodes n) ≡ is_among (numbers nodes) n
used_among [] used n = refl
used_among (node ∷ nodes) used n = by (nat_eq node.0 n) (used_among nodes used.1 n)
  where
    by : (t : Bool) → is_used (inode_of nodes n) ≡ is_among (numbers nodes) n → is_used (cond t node.1 (inode_of nodes n)) ≡ (t || is_among (numbers nodes) n)
    by true more = used.0
    by false more = more

-- ---- the places of files

abbrev pub node_spots : Blocks → ℕ × Inode → Places
node_spots read (n, Unused) = []
node_spots read (n, File size height ptr) = map (λ (e : ℕ × ℕ). ((n, e.0), e.1)) (pairs_below read height ptr)
node_spots read (n, Directory width height ptr) = []

pub held_append : (f : Met → List SeenBlock) (xs ys : List Met) → all_held f (xs ++ ys) ≡ all_held f xs ++ all_held f ys
held_append f [] ys = refl
held_append f (x ∷ xs) ys = ap (λ (hs : List SeenBlock). f x ++ hs) (held_append f xs ys) ∙ sym (append_assoc (f x) (all_held f xs) (all_held f ys))

pub no_contents : (read : Blocks) (bs : List ℕ) → all_held (content_held read) (map index bs) ≡ []
no_contents read [] = refl
no_contents read (b ∷ bs) = no_contents read bs

pub page_contents : (read : Blocks) (n : ℕ) (pairs : List (ℕ × ℕ)) → all_held (content_held read) (map (λ (e : ℕ × ℕ). page n e.0 e.1) pairs) ≡ []
page_contents read n [] = refl
page_contents read n (e ∷ pairs) = page_contents read n pairs

file_contents : (read : Blocks) (n : ℕ) (pairs : List (ℕ × ℕ)) → map spot_of (all_held (content_held read) (map (λ (e : ℕ × ℕ). content n e.0 e.1) pairs)) ≡ map (λ (e : ℕ × ℕ). ((n, e.0), e.1)) pairs
file_contents read n [] = refl
file_contents read n (e ∷ pairs) = ap (λ (ps : Places). ((n, e.0), e.1) ∷ ps) (file_contents read n pairs)

spots_of_met : Blocks → List Met → Places
spots_of_met read ms = map spot_of (all_held (content_held read) ms)

spots_append : (read : Blocks) (xs ys : List Met) → spots_of_met read (xs ++ ys) ≡ spots_of_met read xs ++ spots_of_met read ys
unfolding spots_of_met
spots_append read xs ys = ap (map spot_of) (held_append (content_held read) xs ys) ∙ map-append spot_of (all_held (content_held read) xs) (all_held (content_held read) ys)

node_spots_are : (read : Blocks) (node : ℕ × Inode) → spots_of_met read (node_trees read node) ≡ node_spots read node
unfolding spots_of_met
node_spots_are read (n, Unused) = refl
node_spots_are read (n, File size height ptr) =
    spots_append read (map index (indexes_below read height ptr)) (map (λ (e : ℕ × ℕ). content n e.0 e.1) (pairs_below read height ptr))
    ∙ (λ i. map spot_of (no_contents read (indexes_below read height ptr) i) ++ file_contents read n (pairs_below read height ptr) i)
node_spots_are read (n, Directory width height ptr) =
    spots_append read (map index (indexes_below read height ptr)) (map (λ (e : ℕ × ℕ). page n e.0 e.1) (pairs_below read height ptr))
    ∙ (λ i. map spot_of (no_contents read (indexes_below read height ptr) i) ++ map spot_of (page_contents read n (pairs_below read height ptr) i))

nodes_spots_are : (read : Blocks) (nodes : List (ℕ × Inode)) → spots_of_met read (flat_map (node_trees read) nodes) ≡ flat_map (node_spots read) nodes
unfolding spots_of_met
nodes_spots_are read [] = refl
nodes_spots_are read (node ∷ nodes) =
    ap (spots_of_met read) (flat_map-cons (node_trees read) node nodes) ∙ spots_append read (node_trees read node) (flat_map (node_trees read) nodes)
    ∙ (λ i. node_spots_are read node i ++ nodes_spots_are read nodes i) ∙ sym (flat_map-cons (node_spots read) node nodes)

-- the places of files in a walk in which no fault is met
pub spots_are : (read : Blocks) (at : ℕ) (nodes : List (ℕ × Inode)) → map spot_of (all_held (content_held read) (index at ∷ (map index (nonzero (index_at read at)) ++ flat_map (node_trees read) nodes))) ≡ flat_map (node_spots read) nodes
unfolding spots_of_met
spots_are read at nodes =
    spots_append read (map index (nonzero (index_at read at))) (flat_map (node_trees read) nodes)
    ∙ (λ i. map spot_of (no_contents read (nonzero (index_at read at)) i) ++ nodes_spots_are read nodes i)

-- ---- the places of one number

places_append : (xs ys : Places) (n : ℕ) → places_of (xs ++ ys) n ≡ places_of xs n ++ places_of ys n
places_append xs ys n = ap (map (λ (e : Spot × ℕ). e.0.1)) (filter-append (λ (e : Spot × ℕ). nat_eq e.0.0 n) xs ys) ∙ map-append (λ (e : Spot × ℕ). e.0.1) (filter (λ (e : Spot × ℕ). nat_eq e.0.0 n) xs) (filter (λ (e : Spot × ℕ). nat_eq e.0.0 n) ys)

own_places : (n m : ℕ) (pairs : List (ℕ × ℕ)) → nat_eq m n ≡ true → places_of (map (λ (e : ℕ × ℕ). ((m, e.0), e.1)) pairs) n ≡ map (λ (e : ℕ × ℕ). e.0) pairs
own_places n m [] same = refl
own_places n m (e ∷ pairs) same = rw same (ap (λ (ps : List ℕ). e.0 ∷ ps) (own_places n m pairs same))

other_places : (n m : ℕ) (pairs : List (ℕ × ℕ)) → nat_eq m n ≡ false → places_of (map (λ (e : ℕ × ℕ). ((m, e.0), e.1)) pairs) n ≡ []
other_places n m [] apart = refl
other_places n m (e ∷ pairs) apart = rw apart (other_places n m pairs apart)

abbrev pub file_places : Blocks → Inode → List ℕ
file_places read Unused = []
file_places read (File size height ptr) = map (λ (e : ℕ × ℕ). e.0) (pairs_below read height ptr)
file_places read (Directory width height ptr) = []

node_own : (read : Blocks) (n : ℕ) (node : ℕ × Inode) → nat_eq node.0 n ≡ true → places_of (node_spots read node) n ≡ file_places read node.1
node_own read n (m, Unused) same = refl
node_own read n (m, File size height ptr) same = own_places n m (pairs_below read height ptr) same
node_own read n (m, Directory width height ptr) same = refl

node_other : (read : Blocks) (n : ℕ) (node : ℕ × Inode) → nat_eq node.0 n ≡ false → places_of (node_spots read node) n ≡ []
node_other read n (m, Unused) apart = refl
node_other read n (m, File size height ptr) apart = other_places n m (pairs_below read height ptr) apart
node_other read n (m, Directory width height ptr) apart = refl

or_parts : (a b : Bool) → (a || b) ≡ false → (a ≡ false) × (b ≡ false)
or_parts true b e = cc
or_parts false b e = (refl, e)

none_places : (read : Blocks) (n : ℕ) (nodes : List (ℕ × Inode)) → is_among (numbers nodes) n ≡ false → places_of (flat_map (node_spots read) nodes) n ≡ []
none_places read n [] out = refl
none_places read n (node ∷ nodes) out =
    let parts = or_parts (nat_eq node.0 n) (is_among (numbers nodes) n) out in
    ap (λ (ps : Places). places_of ps n) (flat_map-cons (node_spots read) node nodes) ∙ places_append (node_spots read node) (flat_map (node_spots read) nodes) n
    ∙ (λ i. node_other read n node parts.0 i ++ none_places read n nodes parts.1 i)

-- the places of a number are those of its node
pub places_at : (read : Blocks) (n : ℕ) (nodes : List (ℕ × Inode)) → Distinct (numbers nodes) → places_of (flat_map (node_spots read) nodes) n ≡ file_places read (inode_of nodes n)
places_at read n [] distinct = refl
places_at read n (node ∷ nodes) distinct =
    ap (λ (ps : Places). places_of ps n) (flat_map-cons (node_spots read) node nodes) ∙ places_append (node_spots read node) (flat_map (node_spots read) nodes) n ∙ by (nat_eq node.0 n) refl (places_at read n nodes distinct.1)
  where
    by : (t : Bool) → nat_eq node.0 n ≡ t → places_of (flat_map (node_spots read) nodes) n ≡ file_places read (inode_of nodes n) → places_of (node_spots read node) n ++ places_of (flat_map (node_spots read) nodes) n ≡ file_places read (cond t node.1 (inode_of nodes n))
    by true is more =
        let e : node.0 ≡ n = grind (arith, nat_tests) in
        let out : is_among (numbers nodes) n ≡ false = subst (λ (k : ℕ). is_among (numbers nodes) k ≡ false) e distinct.0 in
        (λ i. node_own read n node is i ++ none_places read n nodes out i) ∙ append-nil (file_places read node.1)
    by false is more = (λ i. node_other read n node is i ++ more i)

-- ---- the blocks of directories

abbrev pub is_of : ℕ → SeenBlock → Bool
is_of n h = h.number == n

abbrev pub directory_pairs : Blocks → Inode → List (ℕ × ℕ)
directory_pairs read Unused = []
directory_pairs read (File size height ptr) = []
directory_pairs read (Directory width height ptr) = pairs_below read height ptr

pub no_pages : (read : Blocks) (bs : List ℕ) → all_held (page_held read) (map index bs) ≡ []
no_pages read [] = refl
no_pages read (b ∷ bs) = no_pages read bs

pub file_pages : (read : Blocks) (n : ℕ) (pairs : List (ℕ × ℕ)) → all_held (page_held read) (map (λ (e : ℕ × ℕ). content n e.0 e.1) pairs) ≡ []
file_pages read n [] = refl
file_pages read n (e ∷ pairs) = file_pages read n pairs

pub nil_either : (t : Bool) → zero ≡ cond t zero zero
nil_either true = refl
nil_either false = refl

pages_count : (read : Blocks) (n m : ℕ) (pairs : List (ℕ × ℕ)) → count_by (is_of n) (all_held (page_held read) (map (λ (e : ℕ × ℕ). page m e.0 e.1) pairs)) ≡ cond (nat_eq m n) (length pairs) 0
pages_count read n m [] = nil_either (nat_eq m n)
pages_count read n m (e ∷ pairs) =
    sum_by-cons (λ (h : SeenBlock). cond (is_of n h) 1 0) (record { number = m; place = e.0; block = e.1; bytes = read e.1 }) (all_held (page_held read) (map (λ (e : ℕ × ℕ). page m e.0 e.1) pairs))
    ∙ by (nat_eq m n) (pages_count read n m pairs)
  where
    by : (t : Bool) → count_by (is_of n) (all_held (page_held read) (map (λ (e : ℕ × ℕ). page m e.0 e.1) pairs)) ≡ cond t (length pairs) 0
        → cond t 1 0 + count_by (is_of n) (all_held (page_held read) (map (λ (e : ℕ × ℕ). page m e.0 e.1) pairs)) ≡ cond t (suc (length pairs)) 0
    by true more = omega (arith, more)
    by false more = omega (arith, more)

count_append : (n : ℕ) (xs ys : List SeenBlock) → count_by (is_of n) (xs ++ ys) ≡ count_by (is_of n) xs + count_by (is_of n) ys
count_append n xs ys = sum_by-append (λ (h : SeenBlock). cond (is_of n h) 1 0) xs ys

node_pages : (read : Blocks) (n : ℕ) (node : ℕ × Inode) → count_by (is_of n) (all_held (page_held read) (node_trees read node)) ≡ cond (nat_eq node.0 n) (length (directory_pairs read node.1)) 0
node_pages read n (m, Unused) = nil_either (nat_eq m n)
node_pages read n (m, File size height ptr) =
    ap (count_by (is_of n)) (held_append (page_held read) (map index (indexes_below read height ptr)) (map (λ (e : ℕ × ℕ). content m e.0 e.1) (pairs_below read height ptr)))
    ∙ (λ i. count_by (is_of n) (no_pages read (indexes_below read height ptr) i ++ file_pages read m (pairs_below read height ptr) i)) ∙ nil_either (nat_eq m n)
node_pages read n (m, Directory width height ptr) =
    ap (count_by (is_of n)) (held_append (page_held read) (map index (indexes_below read height ptr)) (map (λ (e : ℕ × ℕ). page m e.0 e.1) (pairs_below read height ptr)))
    ∙ (λ i. count_by (is_of n) (no_pages read (indexes_below read height ptr) i ++ all_held (page_held read) (map (λ (e : ℕ × ℕ). page m e.0 e.1) (pairs_below read height ptr))))
    ∙ pages_count read n m (pairs_below read height ptr)

none_pages : (read : Blocks) (n : ℕ) (nodes : List (ℕ × Inode)) → is_among (numbers nodes) n ≡ false → count_by (is_of n) (all_held (page_held read) (flat_map (node_trees read) nodes)) ≡ 0
none_pages read n [] out = refl
none_pages read n (node ∷ nodes) out =
    let parts = or_parts (nat_eq node.0 n) (is_among (numbers nodes) n) out in
    let whole = ap (λ (ms : List Met). count_by (is_of n) (all_held (page_held read) ms)) (flat_map-cons (node_trees read) node nodes)
    ∙ ap (count_by (is_of n)) (held_append (page_held read) (node_trees read node) (flat_map (node_trees read) nodes)) ∙ count_append n (all_held (page_held read) (node_trees read node)) (all_held (page_held read) (flat_map (node_trees read) nodes)) in
    let here = node_pages read n node ∙ ap (λ (t : Bool). cond t (length (directory_pairs read node.1)) 0) parts.0 in
    omega (arith, whole, here, none_pages read n nodes parts.1)

pub pages_at : (read : Blocks) (n : ℕ) (nodes : List (ℕ × Inode)) → Distinct (numbers nodes) → count_by (is_of n) (all_held (page_held read) (flat_map (node_trees read) nodes)) ≡ length (directory_pairs read (inode_of nodes n))
pages_at read n [] distinct = refl
pages_at read n (node ∷ nodes) distinct = by (nat_eq node.0 n) refl (pages_at read n nodes distinct.1)
  where
    whole : count_by (is_of n) (all_held (page_held read) (flat_map (node_trees read) (node ∷ nodes))) ≡ count_by (is_of n) (all_held (page_held read) (node_trees read node)) + count_by (is_of n) (all_held (page_held read) (flat_map (node_trees read) nodes))
    whole = ap (λ (ms : List Met). count_by (is_of n) (all_held (page_held read) ms)) (flat_map-cons (node_trees read) node nodes)
        ∙ ap (count_by (is_of n)) (held_append (page_held read) (node_trees read node) (flat_map (node_trees read) nodes)) ∙ count_append n (all_held (page_held read) (node_trees read node)) (all_held (page_held read) (flat_map (node_trees read) nodes))

    by : (t : Bool) → nat_eq node.0 n ≡ t → count_by (is_of n) (all_held (page_held read) (flat_map (node_trees read) nodes)) ≡ length (directory_pairs read (inode_of nodes n))
        → count_by (is_of n) (all_held (page_held read) (flat_map (node_trees read) (node ∷ nodes))) ≡ length (directory_pairs read (cond t node.1 (inode_of nodes n)))
    by true is more =
        let e : node.0 ≡ n = grind (arith, nat_tests) in
        let out : is_among (numbers nodes) n ≡ false = subst (λ (k : ℕ). is_among (numbers nodes) k ≡ false) e distinct.0 in
        let here = node_pages read n node ∙ ap (λ (t : Bool). cond t (length (directory_pairs read node.1)) 0) is in
        omega (arith, whole, here, none_pages read n nodes out)
    by false is more =
        let here = node_pages read n node ∙ ap (λ (t : Bool). cond t (length (directory_pairs read node.1)) 0) is in
        omega (arith, whole, here, more)
