-- What a point plans, number by number, and what is met of it.
use Rattle.std.proofs.Common.{◌≡◌, ℕ, zero, suc, ◌+◌, ◌*◌, ◌≤◌, Bool, true, false, cond, List, [], ◌∷◌, ◌++◌, length, map, take, drop, refl, sym, ap, subst, ◌∙◌, arith}
use Rattle.std.specs.Prelude.{◌==◌, ◌||◌, nat_eq}
use Rattle.std.specs.List.{flat_map}
use Rattle.std.proofs.lemmas.Bool.Decides.{nat_tests}
use Rattle.std.proofs.lemmas.Bool.{eqb-true}
use Rattle.std.proofs.lemmas.List.{length-take}
use Rattle.std.proofs.lemmas.List.Concat.{flat_map-cons}
use Rattle.root_switch.specs.Current.{root_of_image}
use Rattle.block_format.specs.Words.{words}
use Rattle.block_format.specs.Inode.{inode_in}
use Rattle.block_format.specs.declared.inode.Inode.{Inode}
use Rattle.block_format.specs.declared.inode.Inode.TheVariants.{Unused, File, Directory}
use Rattle.block_tree.specs.Tree.{Blocks, index_at, nonzero, pairs_below, indexes_below, blocks_in}
use Rattle.place_words.specs.Different.{times, span, is_among, total}
use Rattle.place_words.proofs.Rising.{rising_less}
use Rattle.place_words.specs.Rising.{Rising, AllUnder}
use Rattle.image_model.specs.Planning.{PlanLeads}
use Rattle.image_model.specs.Met.{Met, index, page, content, metas, NoFaults}
use Rattle.image_model.specs.Plan.{taken_in}
use Rattle.image_model.specs.Planned.{node_trees, used_from}
use Rattle.image_model.specs.Seen.{seen}
use Rattle.image_model.specs.Slots.{inode_of}
use Rattle.image_model.specs.Stands.{layout_in}
use Rattle.image_model.specs.Walk.{is_used, walk, nodes_at, nodes_of, blocks_inodes, inodes_from}
use Rattle.image_model.proofs.Area.{no_faults}
use Rattle.image_model.proofs.InodeWalk.{HasShapes}
use Rattle.image_model.proofs.NodeWalk.{walk_good, metas_append}
use Rattle.image_model.proofs.NodePlaces.{numbers, AllUsed, nodes_used, blocks_rise}
use Rattle.image_model.proofs.WalkSpelled.{walk_spelled, metas_by_number, times_append}

-- ---- nodes by number

used_same : (f g : ℕ → Inode) (n m : ℕ) → ((k : ℕ) → n ≤ k → f k ≡ g k) → used_from f n m ≡ used_from g n m
unfolding used_from
used_same f g n zero same = refl
used_same f g n (suc m) same = λ i. cond (is_used (same n (omega arith) i)) ((n, same n (omega arith) i) ∷ []) [] ++ used_same f g (n + 1) m (λ k le. same k (omega (arith, le))) i

-- a number below all of them is unused
pub unused_below : (nodes : List (ℕ × Inode)) (n : ℕ) → Rising (n + 1) (numbers nodes) → inode_of nodes n ≡ Unused
unused_below [] n rising = refl
unused_below (node ∷ nodes) n rising =
    let le = rising.0 in
    let apart : (node.0 == n) ≡ false = grind (arith, nat_tests) in
    ap (λ (t : Bool). cond t node.1 (inode_of nodes n)) apart ∙ unused_below nodes n (rising_less (n + 1) (node.0 + 1) (omega (arith, le)) (numbers nodes) rising.1)

here_step : (node : ℕ × Inode) (nodes : List (ℕ × Inode)) (n m : ℕ) → node.0 ≡ n → is_used node.1 ≡ true → used_from (inode_of nodes) (n + 1) m ≡ nodes → used_from (inode_of (node ∷ nodes)) n (suc m) ≡ node ∷ nodes
unfolding used_from
here_step node nodes n m same used more =
    let is : (node.0 == n) ≡ true = grind (arith, nat_tests) in
    let here : inode_of (node ∷ nodes) n ≡ node.1 = ap (λ (t : Bool). cond t node.1 (inode_of nodes n)) is in
    let rest : used_from (inode_of (node ∷ nodes)) (n + 1) m ≡ used_from (inode_of nodes) (n + 1) m =
    used_same (inode_of (node ∷ nodes)) (inode_of nodes) (n + 1) m (λ k le. let apart : (node.0 == k) ≡ false = grind (arith, nat_tests) in ap (λ (t : Bool). cond t node.1 (inode_of nodes k)) apart) in
    (λ i. cond (is_used (here i)) ((n, here i) ∷ []) [] ++ (rest ∙ more) i) ∙ (λ i. cond (used i) ((sym same i, node.1) ∷ []) [] ++ nodes)

later_step : (node : ℕ × Inode) (nodes : List (ℕ × Inode)) (n m : ℕ) → Rising (n + 1) (numbers (node ∷ nodes)) → used_from (inode_of (node ∷ nodes)) (n + 1) m ≡ node ∷ nodes → used_from (inode_of (node ∷ nodes)) n (suc m) ≡ node ∷ nodes
unfolding used_from
later_step node nodes n m rising more =
    let here : inode_of (node ∷ nodes) n ≡ Unused = unused_below (node ∷ nodes) n rising in
    λ i. cond (is_used (here i)) ((n, here i) ∷ []) [] ++ more i

pick_step : (t : Bool) (node : ℕ × Inode) (nodes : List (ℕ × Inode)) (n m : ℕ) → (node.0 == n) ≡ t → Rising n (numbers (node ∷ nodes)) → is_used node.1 ≡ true
    → (Rising (n + 1) (numbers nodes) → used_from (inode_of nodes) (n + 1) m ≡ nodes) → (Rising (n + 1) (numbers (node ∷ nodes)) → used_from (inode_of (node ∷ nodes)) (n + 1) m ≡ node ∷ nodes)
    → used_from (inode_of (node ∷ nodes)) n (suc m) ≡ node ∷ nodes
pick_step true node nodes n m is rising used inner outer =
    let same : node.0 ≡ n = eqb-true node.0 n is in
    here_step node nodes n m same used (inner (rising_less (n + 1) (node.0 + 1) (omega (arith, same)) (numbers nodes) rising.1))
pick_step false node nodes n m is rising used inner outer =
    let le = rising.0 in
    let above : n + 1 ≤ node.0 = grind (arith, nat_tests) in
    later_step node nodes n m (above, rising.1) (outer (above, rising.1))

-- nodes that rise are those that are used, by number
by_number : (m n : ℕ) (nodes : List (ℕ × Inode)) → Rising n (numbers nodes) → AllUnder (n + m) (numbers nodes) → AllUsed nodes → used_from (inode_of nodes) n m ≡ nodes
unfolding used_from
by_number zero n [] rising under used = refl
by_number zero n (node ∷ nodes) rising under used = absurd (omega (arith, rising.0, under.0))
by_number (suc m) n [] rising under used = by_number m (n + 1) [] tt tt tt
by_number (suc m) n (node ∷ nodes) rising under used =
    let e : n + suc m ≡ (n + 1) + m = omega arith in
    pick_step (node.0 == n) node nodes n m refl rising used.0
    (λ inner. by_number m (n + 1) nodes inner (subst (λ (k : ℕ). AllUnder k (numbers nodes)) e under.1) used.1)
    (λ outer. by_number m (n + 1) (node ∷ nodes) outer (subst (λ (k : ℕ). AllUnder k (numbers (node ∷ nodes))) e under) used)

-- ---- numbers are below 65,536

under_more : (a b : ℕ) → a ≤ b → (xs : List ℕ) → AllUnder a xs → AllUnder b xs
under_more a b le [] under = tt
under_more a b le (x ∷ xs) under = (omega (arith, under.0, le), under_more a b le xs under.1)

inodes_under : (limit m n : ℕ) (bytes : List ℕ) (rest : List (ℕ × List ℕ)) → n + m ≤ limit → AllUnder limit (numbers (nodes_of rest)) → AllUnder limit (numbers (nodes_of (inodes_from m n bytes ++ rest)))
unfolding inodes_from
inodes_under limit zero n bytes rest le more = more
inodes_under limit (suc m) n bytes rest le more = by (is_used (inode_in (take 64 bytes))) (inodes_under limit m (n + 1) (drop 64 bytes) rest (omega (arith, le)) more)
  where
    by : (t : Bool) → AllUnder limit (numbers (nodes_of (inodes_from m (n + 1) (drop 64 bytes) ++ rest)))
        → AllUnder limit (numbers (cond t ((n, inode_in (take 64 bytes)) ∷ nodes_of (inodes_from m (n + 1) (drop 64 bytes) ++ rest)) (nodes_of (inodes_from m (n + 1) (drop 64 bytes) ++ rest))))
    by true all = (omega (arith, le), all)
    by false all = all

blocks_under : (read : Blocks) (limit n : ℕ) (es : List ℕ) → n + 64 * length es ≤ limit → AllUnder limit (numbers (nodes_of (blocks_inodes read n es)))
blocks_under read limit n [] le = tt
blocks_under read limit n (e ∷ es) le = by (e == 0) (blocks_under read limit (n + 64) es (omega (arith, le)))
  where
    by : (t : Bool) → AllUnder limit (numbers (nodes_of (blocks_inodes read (n + 64) es))) → AllUnder limit (numbers (nodes_of (cond t [] (inodes_from 64 n (read e)) ++ blocks_inodes read (n + 64) es)))
    by true more = more
    by false more = inodes_under limit 64 n (read e) (blocks_inodes read (n + 64) es) (omega (arith, le)) more

index_short : (read : Blocks) (b : ℕ) → length (index_at read b) ≤ 1024
index_short read b = by (b == 0)
  where
    by : (t : Bool) → length (cond t [] (take 1024 (words (read b)))) ≤ 1024
    by true = omega arith
    by false = omega (arith, length-take 1024 (words (read b)))

nodes_by_number : (read : Blocks) (at : ℕ) → used_from (inode_of (nodes_at read at)) 0 65536 ≡ nodes_at read at
nodes_by_number read at =
    by_number 65536 0 (nodes_at read at) (blocks_rise read 0 (index_at read at))
    (blocks_under read (0 + 65536) 0 (index_at read at) (omega (arith, index_short read at))) (nodes_used (blocks_inodes read 0 (index_at read at)))

numbers_under : (read : Blocks) (at : ℕ) → AllUnder 65536 (numbers (nodes_at read at))
numbers_under read at = blocks_under read 65536 0 (index_at read at) (omega (arith, index_short read at))

limits_of : (nodes : List (ℕ × Inode)) → HasShapes nodes → AllUnder 65536 (numbers nodes) → (n : ℕ) → is_among (numbers nodes) n ≡ true → (1 ≤ n) × (n ≤ 65535)
limits_of [] shapes under n among = cc
limits_of (node ∷ nodes) shapes under n among = by (nat_eq node.0 n) refl among (limits_of nodes shapes.1 under.1 n)
  where
    by : (t : Bool) → nat_eq node.0 n ≡ t → (t || is_among (numbers nodes) n) ≡ true → (is_among (numbers nodes) n ≡ true → (1 ≤ n) × (n ≤ 65535)) → (1 ≤ n) × (n ≤ 65535)
    by true is among more = let e : node.0 ≡ n = eqb-true node.0 n is in (omega (arith, e, shapes.0.1), omega (arith, e, under.0))
    by false is among more = more among

-- the numbers of nodes are from 1 to 65,535
pub nodes_limits : (read : Blocks) (at : ℕ) → HasShapes (nodes_at read at) → (n : ℕ) → is_among (numbers (nodes_at read at)) n ≡ true → (1 ≤ n) × (n ≤ 65535)
nodes_limits read at shapes n among = limits_of (nodes_at read at) shapes (numbers_under read at) n among

-- ---- pointers

total_most : (f g h : ℕ → ℕ) → ((n : ℕ) → f n ≤ g n + h n) → (ns : List ℕ) → total f ns ≤ total g ns + total h ns
total_most f g h each [] = omega arith
total_most f g h each (n ∷ ns) = omega (arith, each n, total_most f g h each ns)

times_taken : (b : ℕ) (f : ℕ → List ℕ) (ns : List ℕ) → times b (flat_map f ns) ≡ total (λ n. times b (f n)) ns
times_taken b f [] = refl
times_taken b f (n ∷ ns) = ap (times b) (flat_map-cons f n ns) ∙ times_append b (f n) (flat_map f ns) ∙ ap (λ (k : ℕ). times b (f n) + k) (times_taken b f ns)

metas_indexes : (bs : List ℕ) → metas (map index bs) ≡ bs
metas_indexes [] = refl
metas_indexes (b ∷ bs) = ap (λ (cs : List ℕ). b ∷ cs) (metas_indexes bs)

-- the metadata of an image, by number
by_parts : (m : ℕ) (read : Blocks) (at : ℕ) (inode : ℕ → Inode) (b : ℕ) (es : List ℕ)
    → times b (metas (index at ∷ (map index es ++ flat_map (node_trees read) (used_from inode 0 m)))) ≡ times b (at ∷ es) + total (λ n. times b (metas (node_trees read (n, inode n)))) (span 0 m)
by_parts m read at inode b es =
    let trees = flat_map (node_trees read) (used_from inode 0 m) in
    let front : times b (metas (map index es ++ trees)) ≡ times b es + times b (metas trees) = ap (times b) (metas_append (map index es) trees ∙ ap (λ (bs : List ℕ). bs ++ metas trees) (metas_indexes es)) ∙ times_append b es (metas trees) in
    omega (arith, front, metas_by_number read inode b 0 m)

sum_up : (new_all old_all new_top old_top new_sum old_sum taken_top taken_sum taken_all : ℕ) → new_all ≡ new_top + new_sum → old_all ≡ old_top + old_sum → new_sum ≤ old_sum + taken_sum → taken_all ≡ taken_top + taken_sum → new_top ≤ old_top + taken_top → new_all ≤ old_all + taken_all
sum_up new_all old_all new_top old_top new_sum old_sum taken_top taken_sum taken_all a b c d e = omega arith

-- of so many numbers
leads_by_number : (m : ℕ) (read was : Blocks) (at before_at : ℕ) (inode old_inode : ℕ → Inode) (es old_es for_inodes : List ℕ) (for_node : ℕ → List ℕ) (b : ℕ)
    → times b (at ∷ es) ≤ times b (before_at ∷ old_es) + times b for_inodes
    → ((n : ℕ) → times b (metas (node_trees read (n, inode n))) ≤ times b (metas (node_trees was (n, old_inode n))) + times b (for_node n))
    → times b (metas (index at ∷ (map index es ++ flat_map (node_trees read) (used_from inode 0 m))))
    ≤ times b (metas (index before_at ∷ (map index old_es ++ flat_map (node_trees was) (used_from old_inode 0 m)))) + times b (for_inodes ++ flat_map for_node (span 0 m))
leads_by_number m read was at before_at inode old_inode es old_es for_inodes for_node b tops nodes =
    sum_up _ _ _ _ _ _ _ _ _ (by_parts m read at inode b es) (by_parts m was before_at old_inode b old_es)
    (total_most (λ n. times b (metas (node_trees read (n, inode n)))) (λ n. times b (metas (node_trees was (n, old_inode n)))) (λ n. times b (for_node n)) nodes (span 0 m))
    (times_append b for_inodes (flat_map for_node (span 0 m)) ∙ ap (λ (k : ℕ). times b for_inodes + k) (times_taken b for_node (span 0 m))) tops

-- ---- no fault is met in what is spelled

pub faults_append : (xs ys : List Met) → NoFaults xs → NoFaults ys → NoFaults (xs ++ ys)
faults_append [] ys a b = b
faults_append (x ∷ xs) ys a b = (a.0, faults_append xs ys a.1 b)

pub index_fine : (bs : List ℕ) → NoFaults (map index bs)
index_fine [] = tt
index_fine (b ∷ bs) = (tt, index_fine bs)

content_fine : (n : ℕ) (pairs : List (ℕ × ℕ)) → NoFaults (map (λ (e : ℕ × ℕ). content n e.0 e.1) pairs)
content_fine n [] = tt
content_fine n (e ∷ pairs) = (tt, content_fine n pairs)

page_fine : (n : ℕ) (pairs : List (ℕ × ℕ)) → NoFaults (map (λ (e : ℕ × ℕ). page n e.0 e.1) pairs)
page_fine n [] = tt
page_fine n (e ∷ pairs) = (tt, page_fine n pairs)

node_fine : (read : Blocks) (node : ℕ × Inode) → NoFaults (node_trees read node)
node_fine read (n, Unused) = tt
node_fine read (n, File size height ptr) = faults_append _ _ (index_fine (indexes_below read height ptr)) (content_fine n (pairs_below read height ptr))
node_fine read (n, Directory width height ptr) = faults_append _ _ (index_fine (indexes_below read height ptr)) (page_fine n (pairs_below read height ptr))

pub nodes_fine : (read : Blocks) (nodes : List (ℕ × Inode)) → NoFaults (flat_map (node_trees read) nodes)
nodes_fine read [] = tt
nodes_fine read (node ∷ nodes) = subst NoFaults (sym (flat_map-cons (node_trees read) node nodes)) (faults_append _ _ (node_fine read node) (nodes_fine read nodes))

pub plan_leads : PlanLeads
unfolding seen
plan_leads old new before inode stands plan =
    let read = blocks_in new in
    let at = (root_of_image new).inode_index in
    let was = blocks_in old in
    let before_at = (root_of_image old).inode_index in
    let nodes = nodes_at was before_at in
    let is = walk_spelled read at inode plan.spelled in
    let fine : NoFaults (walk read at) = subst NoFaults (sym is) (tt, faults_append (map index (nonzero (index_at read at))) (flat_map (node_trees read) (used_from inode 0 65536)) (index_fine (nonzero (index_at read at))) (nodes_fine read (used_from inode 0 65536))) in
    let met = (walk_good was before_at (no_faults (layout_in old) (seen old).met (seen old).met stands.sound.pointers)).is in
    let numbered : walk was before_at ≡ index before_at ∷ (map index (nonzero (index_at was before_at)) ++ flat_map (node_trees was) (used_from (inode_of nodes) 0 65536)) =
    met ∙ ap (λ (ns : List (ℕ × Inode)). index before_at ∷ (map index (nonzero (index_at was before_at)) ++ flat_map (node_trees was) ns)) (sym (nodes_by_number was before_at)) in (
      fine,
      λ b.
          let leads = leads_by_number 65536 read was at before_at inode (inode_of nodes) (nonzero (index_at read at)) (nonzero (index_at was before_at)) plan.for_inodes plan.for_node b (plan.inodes b) (plan.nodes b) in
          subst (λ (ms : List Met). times b (metas ms) ≤ times b (metas (walk was before_at)) + times b (taken_in plan.for_inodes plan.for_node)) (sym is)
          (subst (λ (ms : List Met). times b (metas (index at ∷ (map index (nonzero (index_at read at)) ++ flat_map (node_trees read) (used_from inode 0 65536)))) ≤ times b (metas ms) + times b (taken_in plan.for_inodes plan.for_node)) (sym numbered) leads),
    )
