-- The tree that is planned below an inode.
use Rattle.std.proofs.Common.{◌≡◌, ℕ, zero, suc, ◌+◌, ◌*◌, ◌<◌, ◌≤◌, Bool, true, false, cond, List, [], ◌∷◌, ◌++◌, length, refl, sym, ap, subst, ◌∙◌, arith}
use Rattle.std.specs.Prelude.{◌==◌, nat_lt, All, IsTrue, IfOk, Result, Ok, Err}
use Rattle.std.specs.List.{AllByRecursion}
use Rattle.std.proofs.lemmas.Bool.Decides.{nat_tests}
use Rattle.std.proofs.lemmas.List.{map-append}
use Rattle.vol_numbers.specs.declared.block.Block.{Block}
use Rattle.vol_numbers.specs.declared.runs.Change.{Change}
use Rattle.vol_numbers.specs.declared.runs.Page.{Page}
use Rattle.block_format.specs.Inode.{pointer_of}
use Rattle.block_format.specs.Inode.{blocks_of}
use Rattle.block_format.specs.declared.inode.Inode.{Inode}
use Rattle.block_format.specs.declared.inode.Inode.TheVariants.{File}
use Rattle.block_tree.specs.Edit.{changed_at, cut_at}
use Rattle.block_tree.specs.Notes.{Stand}
use Rattle.block_tree.specs.Root.{block_at, tree_indexes, tree_pointers, Stays}
use Rattle.block_tree.specs.Tree.{Blocks, blocks_in, block_in, block_below, index_at, pairs_from, leaves_pairs, pairs_below, indexes_below, IsFull}
use Rattle.block_tree.specs.declared.fault.TreeFault.{TreeFault}
use Rattle.block_tree.specs.declared.root.TreeRoot.{TreeRoot}
use Rattle.block_tree.proofs.Pairs.{pairs_are}
use Rattle.block_tree.proofs.Rise.{places_in, pairs_rise, leaf_under, index_short}
use Rattle.image_model.specs.Nodes.{AllBelow, blocks_in_node}
use Rattle.image_model.specs.Planned.{height_in}
use Rattle.place_words.specs.Different.{times}
use Rattle.place_words.specs.Rising.{Rising, AllUnder}
use Rattle.point_model.specs.NodePlan.{block_of_place, TreeIsPlanned}
use Rattle.tree_plan.specs.Trees.{IsFullTree, EndsAt, Carries}
use Rattle.tree_plan.specs.declared.plan.TreePlan.{TreePlan}

-- ---- pairs of a tree

-- each pair has a block
abbrev pub AllSome : List (ℕ × ℕ) → Type 0
AllSome pairs = AllByRecursion (λ (e : ℕ × ℕ). (e.1 == 0) ≡ false) pairs

some_append : (xs ys : List (ℕ × ℕ)) → AllSome xs → AllSome ys → AllSome (xs ++ ys)
some_append [] ys first second = second
some_append (x ∷ xs) ys first second = (first.0, some_append xs ys first.1 second)

leaf_some : (place : ℕ) (ps : List ℕ) → AllSome (pairs_from place ps)
leaf_some place [] = tt
leaf_some place (p ∷ ps) = by (p == 0) refl (leaf_some (place + 1) ps)
  where
    by : (t : Bool) → (p == 0) ≡ t → AllSome (pairs_from (place + 1) ps) → AllSome (cond t [] ((place, p) ∷ []) ++ pairs_from (place + 1) ps)
    by true is more = more
    by false is more = (is, more)

leaves_some : (read : Blocks) (place : ℕ) (ps : List ℕ) → AllSome (leaves_pairs read place ps)
leaves_some read place [] = tt
leaves_some read place (p ∷ ps) = some_append (pairs_from place (index_at read p)) (leaves_pairs read (place + 1024) ps) (leaf_some place (index_at read p)) (leaves_some read (place + 1024) ps)

pub pairs_some : (read : Blocks) (height ptr : ℕ) → AllSome (pairs_below read height ptr)
pairs_some read zero ptr = leaf_some 0 (ptr ∷ [])
pairs_some read (suc zero) ptr = leaf_some 0 (index_at read ptr)
pairs_some read (suc (suc height)) ptr = leaves_some read 0 (index_at read ptr)

under_append : (limit : ℕ) (xs ys : List ℕ) → AllUnder limit xs → AllUnder limit ys → AllUnder limit (xs ++ ys)
under_append limit [] ys first second = second
under_append limit (x ∷ xs) ys first second = (first.0, under_append limit xs ys first.1 second)

leaves_under : (read : Blocks) (limit place : ℕ) (ps : List ℕ) → place + 1024 * length ps ≤ limit → AllUnder limit (places_in (leaves_pairs read place ps))
leaves_under read limit place [] le = tt
leaves_under read limit place (p ∷ ps) le =
    subst (AllUnder limit) (sym (map-append (λ (e : ℕ × ℕ). e.0) (pairs_from place (index_at read p)) (leaves_pairs read (place + 1024) ps)))
    (under_append limit (places_in (pairs_from place (index_at read p))) (places_in (leaves_pairs read (place + 1024) ps))
    (leaf_under limit place (index_at read p) (omega (arith, index_short read p, le)))
    (leaves_under read limit (place + 1024) ps (omega (arith, le))))

pub pairs_under : (read : Blocks) (height ptr : ℕ) → AllUnder 1048576 (places_in (pairs_below read height ptr))
pairs_under read zero ptr = leaf_under 1048576 0 (ptr ∷ []) (omega arith)
pairs_under read (suc zero) ptr = leaf_under 1048576 0 (index_at read ptr) (omega (arith, index_short read ptr))
pairs_under read (suc (suc height)) ptr = leaves_under read 1048576 0 (index_at read ptr) (omega (arith, index_short read ptr))

-- ---- looking up among pairs

pub none_below : (n q : ℕ) → q < n → (pairs : List (ℕ × ℕ)) → Rising n (places_in pairs) → block_in pairs q ≡ 0
none_below n q lt [] rising = refl
none_below n q lt (e ∷ es) rising =
    let le = rising.0 in
    let apart : (e.0 == q) ≡ false = grind (arith, nat_tests) in
    ap (λ (t : Bool). cond t e.1 (block_in es q)) apart ∙ none_below (e.0 + 1) q (omega (arith, lt, le)) es rising.1

pub itself : (k : ℕ) → (k == k) ≡ true
itself k = grind (arith, nat_tests)

apart_below : (a b : ℕ) → a < b → (a == b) ≡ false
apart_below a b lt = grind (arith, nat_tests)

lt_true : (a b : ℕ) → a < b → nat_lt a b ≡ true
lt_true a b lt = grind (arith, nat_tests)

true_lt : (a b : ℕ) → nat_lt a b ≡ true → a < b
true_lt a b is = grind (arith, nat_tests)

false_le : (a b : ℕ) → nat_lt a b ≡ false → b ≤ a
false_le a b is = grind (arith, nat_tests)

-- where no place from one on has a block, all pairs are below it
pairs_end : (blocks m : ℕ) (pairs : List (ℕ × ℕ)) → Rising m (places_in pairs) → AllUnder 1048576 (places_in pairs) → AllSome pairs
    → ((p : ℕ) → blocks ≤ p → p < 1048576 → block_in pairs p ≡ 0) → AllBelow blocks pairs
pairs_end blocks m [] rising under some none = tt
pairs_end blocks m (e ∷ es) rising under some none = (here (nat_lt e.0 blocks) refl, pairs_end blocks (e.0 + 1) es rising.1 under.1 some.1 later)
  where
    own : block_in (e ∷ es) e.0 ≡ e.1
    own = ap (λ (t : Bool). cond t e.1 (block_in es e.0)) (itself e.0)

    here : (t : Bool) → nat_lt e.0 blocks ≡ t → nat_lt e.0 blocks ≡ true
    here true is = is
    here false is =
        let zero_here : e.1 ≡ 0 = sym own ∙ none e.0 (false_le e.0 blocks is) under.0 in
        let never : true ≡ false = sym (ap (λ (b : ℕ). b == 0) zero_here) ∙ some.0 in
        cc

    later : (p : ℕ) → blocks ≤ p → p < 1048576 → block_in es p ≡ 0
    later p le lt = by (nat_lt e.0 p) refl
      where
        by : (t : Bool) → nat_lt e.0 p ≡ t → block_in es p ≡ 0
        by true is = sym (ap (λ (t : Bool). cond t e.1 (block_in es p)) (apart_below e.0 p (true_lt e.0 p is))) ∙ none p le lt
        by false is = none_below (e.0 + 1) p (omega (arith, false_le e.0 p is)) es rising.1

pub tree_ends : (read : Blocks) (height ptr blocks : ℕ) → ((p : ℕ) → blocks ≤ p → p < 1048576 → block_below read height ptr p ≡ 0) → AllBelow blocks (pairs_below read height ptr)
tree_ends read height ptr blocks none =
    pairs_end blocks 0 (pairs_below read height ptr) (pairs_rise read height ptr) (pairs_under read height ptr) (pairs_some read height ptr) (λ p le lt. pairs_are read height ptr p ∙ none p le lt)

-- ---- changes

-- past all changes a place has what it had
past_changes : (changes : List Change) (old : ℕ → ℕ) (blocks p : ℕ) → All (λ (c : Change). c.place < blocks) changes → blocks ≤ p → changed_at changes old p ≡ old p
past_changes [] old blocks p all le = refl
past_changes (c ∷ cs) old blocks p all le =
    past_changes cs (λ q. cond (q == c.place) c.block (old q)) blocks p (λ k d lt. all (suc k) d (omega (arith, lt))) le
    ∙ ap (λ (t : Bool). cond t c.block (old p)) (apart p c.place (omega (arith, all 0 c (omega arith), le)))
  where
    apart : (a b : ℕ) → b < a → (a == b) ≡ false
    apart a b lt = grind (arith, nat_tests)

cut_gone : (cut p : ℕ) (old : ℕ → ℕ) → (p < cut → old p ≡ 0) → cut_at cut old p ≡ 0
cut_gone cut p old gone = by (nat_lt p cut) refl
  where
    by : (t : Bool) → nat_lt p cut ≡ t → cond t (old p) 0 ≡ 0
    by true is = gone (true_lt p cut is)
    by false is = refl

-- ---- all of it

pub tree_planned : (old new : List Block) (was is : Inode) (cut : ℕ) (changes : List Change) → All (λ (c : Change). c.place < blocks_in_node is) changes → EndsAt old was cut (blocks_in_node is)
    → ((p : ℕ) → p < 1048576 → block_of_place new is p ≡ changed_at changes (cut_at cut (block_of_place old was)) p)
    → IsFullTree new is → TreeIsPlanned old new was is cut changes
tree_planned old new was is cut changes within ends places full = record {
  map = places;
  full = full;
  below = tree_ends (blocks_in new) (height_in is) (pointer_of is) (blocks_in_node is)
      (λ p le lt. places p lt ∙ past_changes changes (cut_at cut (block_of_place old was)) (blocks_in_node is) p within le ∙ cut_gone cut p (block_of_place old was) (λ below. ends p below le lt));
}

none_changed : (changes : List Change) → All (λ (c : Change). c.place < 0) changes → changes ≡ []
none_changed [] all = refl
none_changed (c ∷ cs) all = absurd (omega (arith, all 0 c (omega arith)))

-- a node that has no blocks any more
pub empty_planned : (old new : List Block) (was is : Inode) (cut : ℕ) (changes : List Change) → height_in is ≡ 0 → pointer_of is ≡ 0 → blocks_in_node is ≡ 0
    → All (λ (c : Change). c.place < blocks_in_node is) changes → EndsAt old was cut (blocks_in_node is) → TreeIsPlanned old new was is cut changes
empty_planned old new was is cut changes low none blocks within ends = tree_planned old new was is cut changes within ends places full
  where
    gone : changes ≡ []
    gone = none_changed changes (subst (λ (b : ℕ). All (λ (c : Change). c.place < b) changes) blocks within)

    hole : (t : Bool) (z : ℕ) → cond t z z ≡ z
    hole true z = refl
    hole false z = refl

    places : (p : ℕ) → p < 1048576 → block_of_place new is p ≡ changed_at changes (cut_at cut (block_of_place old was)) p
    places p lt =
        (λ i. block_below (blocks_in new) (low i) (none i) p) ∙ hole (p == 0) 0
        ∙ sym (ap (λ (cs : List Change). changed_at cs (cut_at cut (block_of_place old was)) p) gone ∙ cut_gone cut p (block_of_place old was) (λ below. ends p below (omega (arith, blocks)) lt))

    full : IsFullTree new is
    full = subst (λ (h : ℕ). IsFull (blocks_in new) (indexes_below (blocks_in new) h (pointer_of is))) (sym low) tt

pub empty_file : (tells : Bool) (old : List Block) (was : Inode) (size cut : ℕ) (changes : List Change) → size ≡ 0 → All (λ (c : Change). c.place < blocks_of size) changes
    → (r : Result TreePlan TreeFault) → IfOk r (λ p. p.inode ≡ File size 0 0)
    → IfOk r (λ p. IsTrue tells → EndsAt old was cut (blocks_of size) → IsFullTree old was → (new : List Block) → Carries old new was p.pages → TreeIsPlanned old new was p.inode cut changes)
empty_file tells old was size cut changes none within (Ok p) is =
    λ told ends full new carries. subst (λ (x : Inode). TreeIsPlanned old new was x cut changes) (sym is) (empty_planned old new was (File size 0 0) cut changes refl refl (omega (arith, none)) within ends)
empty_file tells old was size cut changes none within (Err e) is = tt

-- ---- what a rewriting gives, by the root of the old tree

abbrev pub GivesMap : Blocks → ℕ → List Change → List Page → TreeRoot → TreeRoot → Type 0
GivesMap read cut changes pages new root = (after : Blocks) → Stand pages after → Stays read root after → (p : ℕ) → p < 1048576 → block_at after new p ≡ changed_at changes (cut_at cut (block_at read root)) p

abbrev pub GivesFull : Blocks → List Page → TreeRoot → TreeRoot → Type 0
GivesFull read pages new root = (after : Blocks) → Stand pages after → Stays read root after → IsFull read (tree_indexes read root) → IsFull after (tree_indexes after new)

abbrev pub GivesPointers : Blocks → List Page → List ℕ → List ℕ → TreeRoot → TreeRoot → Type 0
GivesPointers read pages added dropped new root = (after : Blocks) → Stand pages after → Stays read root after → (b : ℕ) → times b (tree_pointers read root) + times b added ≡ times b (tree_pointers after new) + times b dropped

abbrev pub GivesIndexes : Blocks → List Page → List ℕ → TreeRoot → TreeRoot → Type 0
GivesIndexes read pages blocks new root = (after : Blocks) → Stand pages after → Stays read root after → (b : ℕ) → times b (tree_indexes after new) ≤ times b (tree_indexes read root) + times b blocks
