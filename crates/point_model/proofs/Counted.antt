-- The counts of an image in which a point is planned are its pointers.
use Rattle.std.proofs.Common.{◌≡◌, ℕ, zero, suc, ◌+◌, ◌*◌, ◌<◌, ◌≤◌, Bool, true, false, cond, List, [], ◌∷◌, ◌++◌, map, refl, sym, ap, subst, ◌∙◌, arith}
use Rattle.std.specs.Prelude.{◌==◌, ◌||◌, get_or, nat_eq}
use Rattle.std.specs.List.{flat_map}
use Rattle.std.proofs.lemmas.Bool.Decides.{nat_tests}
use Rattle.std.proofs.lemmas.List.Concat.{flat_map-cons}
use Rattle.vol_numbers.specs.Layout.{count_blocks}
use Rattle.vol_numbers.specs.declared.block.Block.{Block}
use Rattle.root_switch.specs.Current.{root_of_image}
use Rattle.block_format.specs.declared.inode.Inode.{Inode}
use Rattle.block_format.specs.declared.inode.Inode.TheVariants.{Unused, File, Directory}
use Rattle.block_tree.specs.Tree.{blocks_in, index_at, nonzero, indexes_below, pairs_below}
use Rattle.count_pairs.proofs.CountLaws.{counts_are}
use Rattle.dirty_store.specs.Overlay.{Overlay}
use Rattle.image_model.specs.Met.{Met, index, page, content, pointers_to}
use Rattle.image_model.specs.Plan.{inode_pointers}
use Rattle.image_model.specs.Planned.{node_trees, used_from}
use Rattle.image_model.specs.Seen.{seen}
use Rattle.image_model.specs.Slots.{inode_of}
use Rattle.image_model.specs.Stands.{Stands, layout_in}
use Rattle.image_model.specs.Walk.{is_used, nodes_at}
use Rattle.image_model.proofs.Area.{no_faults as none_found, points-cons}
use Rattle.image_model.proofs.NodePlaces.{numbers, AllUsed, nodes_used, numbers_distinct, used_among}
use Rattle.image_model.proofs.NodeWalk.{walk_good}
use Rattle.image_model.proofs.PlanLaws.{nodes_limits}
use Rattle.image_model.proofs.WalkSpelled.{times_append, walk_spelled}
use Rattle.place_words.specs.Different.{times, span, total, is_among, Distinct}
use Rattle.point_model.specs.Holding.{inode_before}
use Rattle.point_model.specs.Laws.{CountsArePointers, MayTake, IsPlannedFor}
use Rattle.point_model.specs.NodePlan.{node_pointers}
use Rattle.point_model.specs.PointPlan.{of_all}
use Rattle.point_model.proofs.Spelled.{spelled, unused_is}
use Rattle.tree_model.specs.declared.report.Report.{Report}
use Rattle.volume_model.specs.Machine.{Machine, Rules, Stored, stored}

-- ---- pointers of what is met, as a list

both_counted : (b : ℕ) (xs ys : List Met) → pointers_to b (xs ++ ys) ≡ pointers_to b xs + pointers_to b ys
both_counted b [] ys = omega arith
both_counted b (x ∷ xs) ys = omega (arith, points-cons b x (xs ++ ys), points-cons b x xs, both_counted b xs ys)

indexes_counted : (b : ℕ) (bs : List ℕ) → pointers_to b (map index bs) ≡ times b bs
indexes_counted b [] = refl
indexes_counted b (p ∷ bs) = omega (arith, points-cons b (index p) (map index bs), indexes_counted b bs)

contents_counted : (b n : ℕ) (es : List (ℕ × ℕ)) → pointers_to b (map (λ (e : ℕ × ℕ). content n e.0 e.1) es) ≡ times b (map (λ (e : ℕ × ℕ). e.1) es)
contents_counted b n [] = refl
contents_counted b n (e ∷ es) = omega (arith, points-cons b (content n e.0 e.1) (map (λ (e : ℕ × ℕ). content n e.0 e.1) es), contents_counted b n es)

pages_counted : (b n : ℕ) (es : List (ℕ × ℕ)) → pointers_to b (map (λ (e : ℕ × ℕ). page n e.0 e.1) es) ≡ times b (map (λ (e : ℕ × ℕ). e.1) es)
pages_counted b n [] = refl
pages_counted b n (e ∷ es) = omega (arith, points-cons b (page n e.0 e.1) (map (λ (e : ℕ × ℕ). page n e.0 e.1) es), pages_counted b n es)

-- those of a node
node_counted : (image : List Block) (b n : ℕ) (x : Inode) → pointers_to b (node_trees (blocks_in image) (n, x)) ≡ times b (node_pointers image x)
node_counted image b n Unused = refl
node_counted image b n (File size height ptr) =
    let bs = indexes_below (blocks_in image) height ptr in
    let es = pairs_below (blocks_in image) height ptr in
    omega (arith, both_counted b (map index bs) (map (λ (e : ℕ × ℕ). content n e.0 e.1) es), indexes_counted b bs, contents_counted b n es, times_append b bs (map (λ (e : ℕ × ℕ). e.1) es))
node_counted image b n (Directory width height ptr) =
    let bs = indexes_below (blocks_in image) height ptr in
    let es = pairs_below (blocks_in image) height ptr in
    omega (arith, both_counted b (map index bs) (map (λ (e : ℕ × ℕ). page n e.0 e.1) es), indexes_counted b bs, pages_counted b n es, times_append b bs (map (λ (e : ℕ × ℕ). e.1) es))

-- those of all nodes, number by number
nodes_counted : (image : List Block) (inode : ℕ → Inode) (b n m : ℕ) → pointers_to b (flat_map (node_trees (blocks_in image)) (used_from inode n m)) ≡ total (λ k. times b (node_pointers image (inode k))) (span n m)
unfolding used_from
nodes_counted image inode b n zero = refl
nodes_counted image inode b n (suc m) = by (inode n) (node_counted image b n (inode n)) (nodes_counted image inode b (n + 1) m)
  where
    by : (x : Inode) → pointers_to b (node_trees (blocks_in image) (n, x)) ≡ times b (node_pointers image x) → pointers_to b (flat_map (node_trees (blocks_in image)) (used_from inode (n + 1) m)) ≡ total (λ k. times b (node_pointers image (inode k))) (span (n + 1) m)
        → pointers_to b (flat_map (node_trees (blocks_in image)) (cond (is_used x) ((n, x) ∷ []) [] ++ used_from inode (n + 1) m)) ≡ times b (node_pointers image x) + total (λ k. times b (node_pointers image (inode k))) (span (n + 1) m)
    by Unused one more = omega (arith, more)
    by (File size height ptr) one more =
        ap (pointers_to b) (flat_map-cons (node_trees (blocks_in image)) (n, File size height ptr) (used_from inode (n + 1) m))
        ∙ both_counted b (node_trees (blocks_in image) (n, File size height ptr)) _ ∙ omega (arith, one, more)
    by (Directory width height ptr) one more =
        ap (pointers_to b) (flat_map-cons (node_trees (blocks_in image)) (n, Directory width height ptr) (used_from inode (n + 1) m))
        ∙ both_counted b (node_trees (blocks_in image) (n, Directory width height ptr)) _ ∙ omega (arith, one, more)

-- ---- those of nodes in a list, number by number

pub same_totals : (g h : ℕ → ℕ) (n m : ℕ) → ((k : ℕ) → n ≤ k → g k ≡ h k) → total g (span n m) ≡ total h (span n m)
same_totals g h n zero same = refl
same_totals g h n (suc m) same = λ i. same n (omega arith) i + same_totals g h (n + 1) m (λ k le. same k (omega (arith, le))) i

pub no_total : (n m : ℕ) → total (λ k. 0) (span n m) ≡ 0
no_total n zero = refl
no_total n (suc m) = omega (arith, no_total (n + 1) m)

-- one number has so much more
one_total : (g h : ℕ → ℕ) (j v : ℕ) → ((k : ℕ) → (j == k) ≡ false → g k ≡ h k) → g j ≡ v + h j → (n m : ℕ) → n ≤ j → j < n + m → total g (span n m) ≡ v + total h (span n m)
one_total g h j v others own n zero le lt = absurd (omega (arith, le, lt))
one_total g h j v others own n (suc m) le lt = by (j == n) refl (λ above. one_total g h j v others own (n + 1) m above (omega (arith, lt)))
  where
    by : (t : Bool) → (j == n) ≡ t → (n + 1 ≤ j → total g (span (n + 1) m) ≡ v + total h (span (n + 1) m)) → total g (span n (suc m)) ≡ v + total h (span n (suc m))
    by true is more =
        let e : j ≡ n = grind (arith, nat_tests) in
        let here : g n ≡ v + h n = subst (λ (k : ℕ). g k ≡ v + h k) e own in
        let rest = same_totals g h (n + 1) m (λ k above. others k (let apart : (j == k) ≡ false = grind (arith, nat_tests) in apart)) in
        omega (arith, here, rest)
    by false is more =
        let above : n + 1 ≤ j = grind (arith, nat_tests) in
        omega (arith, others n is, more above)

listed : (image : List Block) (b m : ℕ) (nodes : List (ℕ × Inode)) → Distinct (numbers nodes) → AllUsed nodes → ((n : ℕ) → is_among (numbers nodes) n ≡ true → n < m)
    → pointers_to b (flat_map (node_trees (blocks_in image)) nodes) ≡ total (λ k. times b (node_pointers image (inode_of nodes k))) (span 0 m)
listed image b m [] distinct used limits = sym (no_total 0 m)
listed image b m (node ∷ nodes) distinct used limits =
    let own : nat_eq node.0 node.0 ≡ true = grind (arith, nat_tests) in
    let here : inode_of (node ∷ nodes) node.0 ≡ node.1 = ap (λ (t : Bool). cond t node.1 (inode_of nodes node.0)) own in
    let gone : inode_of nodes node.0 ≡ Unused = unused_is (inode_of nodes node.0) (used_among nodes used.1 node.0 ∙ distinct.0) in
    let counted = node_counted image b node.0 node.1 in
    let none : times b (node_pointers image (inode_of nodes node.0)) ≡ 0 = ap (λ (x : Inode). times b (node_pointers image x)) gone in
    let mine : times b (node_pointers image (inode_of (node ∷ nodes) node.0)) ≡ times b (node_pointers image node.1) = ap (λ (x : Inode). times b (node_pointers image x)) here in
    let rest = listed image b m nodes distinct.1 used.1 (λ n among. limits n (or_later (nat_eq node.0 n) _ among)) in
    let sum = one_total (λ k. times b (node_pointers image (inode_of (node ∷ nodes) k))) (λ k. times b (node_pointers image (inode_of nodes k))) node.0 (times b (node_pointers image node.1))
    (λ k apart. ap (λ (t : Bool). times b (node_pointers image (cond t node.1 (inode_of nodes k)))) apart) (omega (arith, mine, none)) 0 m (omega arith) (omega (arith, limits node.0 (ap (λ (t : Bool). t || is_among (numbers nodes) node.0) own))) in
    ap (pointers_to b) (flat_map-cons (node_trees (blocks_in image)) node nodes) ∙ both_counted b (node_trees (blocks_in image) node) (flat_map (node_trees (blocks_in image)) nodes) ∙ omega (arith, counted, rest, sum)
  where
    or_later : (a c : Bool) → c ≡ true → (a || c) ≡ true
    or_later true c e = refl
    or_later false c e = e

-- those of a whole walk
walk_counted : (image : List Block) (inode : ℕ → Inode) (b m : ℕ)
    → pointers_to b (index (root_of_image image).inode_index ∷ (map index (nonzero (index_at (blocks_in image) (root_of_image image).inode_index)) ++ flat_map (node_trees (blocks_in image)) (used_from inode 0 m)))
    ≡ times b (inode_pointers image) + total (λ k. times b (node_pointers image (inode k))) (span 0 m)
walk_counted image inode b m =
    let bs = inode_pointers image in
    both_counted b (map index bs) (flat_map (node_trees (blocks_in image)) (used_from inode 0 m)) ∙ omega (arith, indexes_counted b bs, nodes_counted image inode b 0 m)

-- ---- sums

totals_balance : (f g h k : ℕ → ℕ) → ((n : ℕ) → f n + g n ≡ h n + k n) → (ns : List ℕ) → total f ns + total g ns ≡ total h ns + total k ns
totals_balance f g h k each [] = refl
totals_balance f g h k each (n ∷ ns) = omega (arith, each n, totals_balance f g h k each ns)

pub of_numbers : (b : ℕ) (f : ℕ → List ℕ) (ns : List ℕ) → times b (flat_map f ns) ≡ total (λ n. times b (f n)) ns
of_numbers b f [] = refl
of_numbers b f (n ∷ ns) = ap (times b) (flat_map-cons f n ns) ∙ times_append b (f n) (flat_map f ns) ∙ ap (λ (k : ℕ). times b (f n) + k) (of_numbers b f ns)

-- of so many numbers
pub all_balance : (m b : ℕ) (old_top new_top added dropped : List ℕ) (old_of new_of added_of dropped_of : ℕ → List ℕ) → times b old_top + times b added ≡ times b new_top + times b dropped
    → ((n : ℕ) → times b (old_of n) + times b (added_of n) ≡ times b (new_of n) + times b (dropped_of n))
    → (times b old_top + total (λ k. times b (old_of k)) (span 0 m)) + times b (added ++ flat_map added_of (span 0 m)) ≡ (times b new_top + total (λ k. times b (new_of k)) (span 0 m)) + times b (dropped ++ flat_map dropped_of (span 0 m))
all_balance m b old_top new_top added dropped old_of new_of added_of dropped_of tops each =
    let sums = totals_balance (λ k. times b (old_of k)) (λ k. times b (added_of k)) (λ k. times b (new_of k)) (λ k. times b (dropped_of k)) each (span 0 m) in
    omega (arith, tops, sums, times_append b added (flat_map added_of (span 0 m)), times_append b dropped (flat_map dropped_of (span 0 m)), of_numbers b added_of (span 0 m), of_numbers b dropped_of (span 0 m))

-- the pointers of an image that stands for something, number by number
pub old_counted : (old : List Block) (s : Stored) → Stands old s → (b : ℕ) → pointers_to b (seen old).met ≡ times b (inode_pointers old) + total (λ k. times b (node_pointers old (inode_before old k))) (span 0 65536)
unfolding seen
old_counted old s stands b =
    let read = blocks_in old in
    let at = (root_of_image old).inode_index in
    let met = walk_good read at (none_found (layout_in old) (seen old).met (seen old).met stands.sound.pointers) in
    let nodes = nodes_at read at in
    let limits : (n : ℕ) → is_among (numbers nodes) n ≡ true → n < 65536 = λ n among. omega (arith, (nodes_limits read at met.shapes n among).1) in
    let sum = listed old b 65536 nodes (numbers_distinct read at) (nodes_used _) limits in
    ap (pointers_to b) met.is ∙ both_counted b (map index (inode_pointers old)) (flat_map (node_trees read) nodes) ∙ (λ i. indexes_counted b (inode_pointers old) i + sum i)

pub counts_are_pointers : CountsArePointers
counts_are_pointers image s stands b lt = stands.sound.counts b lt ∙ old_counted image s stands b

module _ (r : Rules) (old new : List Block) (o : Overlay) (m : Machine) (report : Report) (may : MayTake r old o m report) (plan : IsPlannedFor r old new o m report) where
  new_counted : (b : ℕ) → pointers_to b (seen new).met ≡ times b (inode_pointers new) + total (λ k. times b (node_pointers new (plan.inode k))) (span 0 65536)
  unfolding seen
  new_counted b = ap (pointers_to b) (walk_spelled (blocks_in new) (root_of_image new).inode_index plan.inode (spelled r old new o m report may plan)) ∙ walk_counted new plan.inode b 65536

  -- pointers are the old ones with what is added and without what is dropped
  pointers_move : (b : ℕ) → pointers_to b (seen old).met + times b (of_all plan.inodes_added plan.added) ≡ pointers_to b (seen new).met + times b (of_all plan.inodes_dropped plan.dropped)
  pointers_move b =
      (λ i. old_counted old (stored m) may.stands b i + times b (of_all plan.inodes_added plan.added))
      ∙ all_balance 65536 b (inode_pointers old) (inode_pointers new) plan.inodes_added plan.inodes_dropped (λ k. node_pointers old (inode_before old k)) (λ k. node_pointers new (plan.inode k)) plan.added plan.dropped
      (plan.inodes.balance b) (λ n. (plan.nodes n).pointers.balance b)
      ∙ (λ i. sym (new_counted b) i + times b (of_all plan.inodes_dropped plan.dropped))

  -- the counts that are kept are those that stand
  kept_new : (b : ℕ) → get_or (seen new).kept b 0 ≡ get_or plan.counts b 0
  unfolding seen
  kept_new b = ap (λ (ks : List ℕ). get_or ks b 0) (counts_are (blocks_in new) (root_of_image new).homes plan.counts (count_blocks (layout_in new)) plan.counted.many plan.counted.stand)

  pub counts_new : (b : ℕ) → b < 1024 * count_blocks (layout_in new) → get_or (seen new).kept b 0 ≡ pointers_to b (seen new).met
  counts_new b lt =
      let was : get_or (seen old).kept b 0 ≡ pointers_to b (seen old).met = may.stands.sound.counts b (subst (λ g. b < 1024 * count_blocks g) plan.root.layout lt) in
      added_up _ _ _ _ _ _ was (plan.counted.moved b lt) (pointers_move b) (kept_new b)
    where
      added_up : (kept_old was_old added dropped is_new kept : ℕ) → kept_old ≡ was_old → kept_old + added ≡ kept + dropped → was_old + added ≡ is_new + dropped → get_or (seen new).kept b 0 ≡ kept → get_or (seen new).kept b 0 ≡ is_new
      added_up kept_old was_old added dropped is_new kept e f g h = omega (arith, e, f, g, h)
