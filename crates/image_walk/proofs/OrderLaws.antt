-- Numbers of nodes, and of the blocks that are kept of them, in their order.
use Rattle.std.proofs.Common.{◌≡◌, ◌<◌, ◌≤◌, ℕ, zero, suc, ◌+◌, ◌*◌, Bool, true, false, not, cond, List, [], ◌∷◌, ◌++◌, length, take, drop, map, replicate, refl, sym, ap, subst, ◌∙◌, arith}
use Rattle.std.specs.Prelude.{◌==◌, ◌&&◌, nat_le, Option, Some, None, ◌||◌, Result, Ok, Err, OnOk}
use Rattle.std.specs.List.{flat_map, list_any}
use Rattle.std.proofs.lemmas.List.{append_assoc, append-nil}
use Rattle.std.proofs.lemmas.List.Concat.{flat_map-cons}
use Rattle.std.proofs.lemmas.Bool.Decides.{nat_tests}
use Rattle.vol_numbers.specs.Layout.{Layout}
use Rattle.place_words.specs.Rising.{Rising}
use Rattle.block_format.specs.Inode.{inode_in, inode_shape, node_fits, pointer_of}
use Rattle.block_format.specs.declared.inode.Inode.{Inode}
use Rattle.block_format.specs.declared.inode.Inode.TheVariants.{Unused, File, Directory}
use Rattle.image_model.specs.Met.{Met, not_inode, stray}
use Rattle.image_model.specs.Findings.{◌then◌, walk_finding}
use Rattle.image_model.specs.Slots.{inode_of}
use Rattle.image_model.specs.Walk.{is_used, is_stray, is_good, is_pointer_wrong, bad_met, inodes_from, is_directory, nodes_of, root_met}
use Rattle.image_model.specs.declared.finding.Finding.{Finding}
use Rattle.image_walk.specs.Blocks.{number_at, NeverFall, AreOnDisk}
use Rattle.image_walk.specs.Going.{Goes, reached_after}
use Rattle.image_walk.specs.Left.{AreWithin, HaveWidths, IsWithin}
use Rattle.image_walk.specs.Marks.{no_mark}
use Rattle.image_walk.specs.Order.{IsNode, NodesRise, NodesGrow, AllOwn, BlocksGrow, KeepsOf, Ordered, InOrder}
use Rattle.image_walk.specs.declared.marks.Mark.{Mark}
use Rattle.image_walk.specs.declared.node_block.NodeBlock.{NodeBlock}
use Rattle.image_walk.specs.declared.reached.Reached.{Reached}
use Rattle.image_walk.proofs.GoingLaws.{finding_append}
use Rattle.image_walk.proofs.MarkLaws.{says_nothing}

-- ---- blocks of one node

own_append : (size n : ℕ) (xs ys : List NodeBlock) → AllOwn size n xs → AllOwn size n ys → AllOwn size n (xs ++ ys)
own_append size n [] ys first second = second
own_append size n (x ∷ xs) ys first second = (first.0, first.1, own_append size n xs ys first.2 second)

pub grow_none : (size n : ℕ) (bs : List NodeBlock) → BlocksGrow size n bs bs
grow_none size n bs = record { more = []; is = sym (append-nil bs); own = tt }

grow_then : (size n : ℕ) (a b c : List NodeBlock) → BlocksGrow size n a b → BlocksGrow size n b c → BlocksGrow size n a c
grow_then size n a b c first second = record {
  more = first.more ++ second.more;
  is = second.is ∙ (ap (λ (zs : List NodeBlock). zs ++ second.more) first.is ∙ append_assoc a first.more second.more);
  own = own_append size n first.more second.more first.own second.own;
}

pub grow_one : (size : ℕ) (a c : List NodeBlock) (b : NodeBlock) → b.block < size → c ≡ a ++ b ∷ [] → BlocksGrow size b.number a c
grow_one size a c b lt e = record { more = b ∷ []; is = e; own = (refl, lt, tt) }

pub keeps_none : (size n : ℕ) (a : Reached) → KeepsOf size n a a
keeps_none size n a = record { pages = grow_none size n a.pages.items; lasts = grow_none size n a.lasts.items }

pub keeps_then : (size n : ℕ) (a b c : Reached) → KeepsOf size n a b → KeepsOf size n b c → KeepsOf size n a c
keeps_then size n a b c first second = record {
  pages = grow_then size n a.pages.items b.pages.items c.pages.items first.pages second.pages;
  lasts = grow_then size n a.lasts.items b.lasts.items c.lasts.items first.lasts second.lasts;
}

-- ---- blocks in the order of their nodes

ordered_own : (size m low : ℕ) (bs : List NodeBlock) → low ≤ m → AllOwn size m bs → Ordered size low (m + 1) bs
ordered_own size m low [] le own = tt
ordered_own size m low (b ∷ bs) le own =
    let e : b.number ≡ m = own.0 in
    (omega (arith, e, le), omega (arith, e), own.1, ordered_own size m b.number bs (omega (arith, e)) own.2)

ordered_more : (size n m low : ℕ) (bs more : List NodeBlock) → n ≤ m → low ≤ m → Ordered size low n bs → AllOwn size m more → Ordered size low (m + 1) (bs ++ more)
ordered_more size n m low [] more le below all own = ordered_own size m low more below own
ordered_more size n m low (b ∷ bs) more le below all own =
    let lt : b.number < n = all.1 in
    (all.0, omega (arith, lt, le), all.2, ordered_more size n m b.number bs more le (omega (arith, lt, le)) all.3 own)

pub order_next : (size : ℕ) (left rest : List (ℕ × Inode)) (node : ℕ × Inode) (a b : Reached) → left ≡ node ∷ rest → InOrder size left a → KeepsOf size node.0 a b → InOrder size rest b
order_next size left rest node a b e before keeps =
    let rise : Rising before.next (map (λ (x : ℕ × Inode). x.0) (node ∷ rest)) = subst (λ (xs : List (ℕ × Inode)). Rising before.next (map (λ (x : ℕ × Inode). x.0) xs)) e before.rise in
    record {
      next = node.0 + 1;
      rise = rise.1;
      pages = subst (Ordered size 0 (node.0 + 1)) (sym keeps.pages.is) (ordered_more size before.next node.0 0 a.pages.items keeps.pages.more rise.0 (omega arith) before.pages keeps.pages.own);
      lasts = subst (Ordered size 0 (node.0 + 1)) (sym keeps.lasts.is) (ordered_more size before.next node.0 0 a.lasts.items keeps.lasts.more rise.0 (omega arith) before.lasts keeps.lasts.own);
    }

pub order_start : (size : ℕ) (nodes : List (ℕ × Inode)) (a : Reached) → Rising 0 (map (λ (node : ℕ × Inode). node.0) nodes) → a.pages.items ≡ [] → a.lasts.items ≡ [] → InOrder size nodes a
order_start size nodes a rise pages lasts = record {
  next = 0;
  rise = rise;
  pages = subst (Ordered size 0 0) (sym pages) tt;
  lasts = subst (Ordered size 0 0) (sym lasts) tt;
}

ordered_low : (size low high : ℕ) (bs : List NodeBlock) (k : ℕ) → Ordered size low high bs → k < length bs → low ≤ number_at bs k
ordered_low size low high [] k all lt = absurd (omega (arith, lt))
ordered_low size low high (b ∷ bs) zero all lt = all.0
ordered_low size low high (b ∷ bs) (suc k) all lt = let more = ordered_low size b.number high bs k all.3 (omega (arith, lt)) in let here = all.0 in omega (arith, more, here)

pub never_fall : (size low high : ℕ) (bs : List NodeBlock) → Ordered size low high bs → NeverFall bs
never_fall size low high [] all j k le lt = absurd (omega (arith, lt))
never_fall size low high (b ∷ bs) all zero zero le lt = omega arith
never_fall size low high (b ∷ bs) all zero (suc k) le lt = ordered_low size b.number high bs k all.3 (omega (arith, lt))
never_fall size low high (b ∷ bs) all (suc j) zero le lt = absurd (omega (arith, le))
never_fall size low high (b ∷ bs) all (suc j) (suc k) le lt = never_fall size b.number high bs all.3 j k (omega (arith, le)) (omega (arith, lt))

pub on_disk : (size low high : ℕ) (bs : List NodeBlock) → Ordered size low high bs → AreOnDisk size bs
on_disk size low high [] all k lt = absurd (omega (arith, lt))
on_disk size low high (b ∷ bs) all zero lt = all.2
on_disk size low high (b ∷ bs) all (suc k) lt = on_disk size b.number high bs all.3 k (omega (arith, lt))

-- ---- nodes

rise_less : (low mid high : ℕ) (xs : List (ℕ × Inode)) → low ≤ mid → NodesRise mid high xs → NodesRise low high xs
rise_less low mid high [] le all = tt
rise_less low mid high (x ∷ xs) le all = let here = all.0 in (omega (arith, here, le), all.1, all.2, all.3)

nodes_append : (low mid high : ℕ) (xs ys : List (ℕ × Inode)) → low ≤ mid → mid ≤ high → NodesRise low mid xs → NodesRise mid high ys → NodesRise low high (xs ++ ys)
nodes_append low mid high [] ys le under first second = rise_less low mid high ys le second
nodes_append low mid high (x ∷ xs) ys le under first second =
    let lt : x.0 < mid = first.1 in
    (first.0, omega (arith, lt, under), first.2, nodes_append (x.0 + 1) mid high xs ys (omega (arith, lt)) under first.3 second)

pub nodes_none : (low high : ℕ) (xs : List (ℕ × Inode)) → NodesGrow low high xs xs
nodes_none low high xs = record { more = []; is = sym (append-nil xs); rise = tt }

pub nodes_then : (low mid high : ℕ) (a b c : List (ℕ × Inode)) → low ≤ mid → mid ≤ high → NodesGrow low mid a b → NodesGrow mid high b c → NodesGrow low high a c
nodes_then low mid high a b c le under first second = record {
  more = first.more ++ second.more;
  is = second.is ∙ (ap (λ (zs : List (ℕ × Inode)). zs ++ second.more) first.is ∙ append_assoc a first.more second.more);
  rise = nodes_append low mid high first.more second.more le under first.rise second.rise;
}

-- the inodes of a block with which nothing is wrong
both_none : (a b : Option Finding) → (a then b) ≡ None → (a ≡ None) × (b ≡ None)
both_none None b none = (refl, none)
both_none (Some f) b none = cc

and_left : (a b : Bool) → (a && b) ≡ true → a ≡ true
and_left true b e = refl
and_left false b e = cc

and_right : (a b : Bool) → (a && b) ≡ true → b ≡ true
and_right true b e = e
and_right false b e = cc

not_zero : (n : ℕ) → not (n == 0) ≡ true → 1 ≤ n
not_zero n e = by (n == 0) refl e
  where
    by : (t : Bool) → (n == 0) ≡ t → not t ≡ true → 1 ≤ n
    by true is e = cc
    by false is e = grind (arith, nat_tests)

zero_of : (t u : Bool) → u ≡ true → not (t && u) ≡ true → not t ≡ true
zero_of true u used e = sym (ap not used) ∙ e
zero_of false u used e = refl

node_shape : (n : ℕ) (x : Inode) (t : Bool) → is_used x ≡ true → ((inode_shape x && t) && not (n == 0 && is_used x)) ≡ true → IsNode (n, x)
node_shape n Unused t used is = cc
node_shape n (File size height ptr) t used is =
    let shape = and_left (nat_le size 4294967296) (node_fits size height ptr) (and_left (nat_le size 4294967296 && node_fits size height ptr) t (and_left _ (not (n == 0 && true)) is)) in
    (not_zero n (zero_of (n == 0) true refl (and_right (inode_shape (File size height ptr) && t) (not (n == 0 && true)) is)), grind (arith, nat_tests))
node_shape n (Directory width height ptr) t used is =
    let shape = and_left (nat_le width 65534) (node_fits (256 * width) height ptr) (and_left (nat_le width 65534 && node_fits (256 * width) height ptr) t (and_left _ (not (n == 0 && true)) is)) in
    (not_zero n (zero_of (n == 0) true refl (and_right (inode_shape (Directory width height ptr) && t) (not (n == 0 && true)) is)), grind (arith, nat_tests))

node_stray : (n : ℕ) (x : Inode) (t : Bool) → is_used x ≡ true → ((is_stray x && t) && not (n == 0)) ≡ true → IsNode (n, x)
node_stray n Unused t used is = cc
node_stray n (File size height ptr) t used is =
    let none = and_left (size == 0) (height == 0) (and_left (size == 0 && height == 0) (not (ptr == 0)) (and_left (is_stray (File size height ptr)) t (and_left _ (not (n == 0)) is))) in
    (not_zero n (and_right (is_stray (File size height ptr) && t) (not (n == 0)) is), grind (arith, nat_tests))
node_stray n (Directory width height ptr) t used is =
    let none = and_left (width == 0) (height == 0) (and_left (width == 0 && height == 0) (not (ptr == 0)) (and_left (is_stray (Directory width height ptr)) t (and_left _ (not (n == 0)) is))) in
    (not_zero n (and_right (is_stray (Directory width height ptr) && t) (not (n == 0)) is), grind (arith, nat_tests))

node_by : (g : Layout) (reached : List ℕ) (n p : ℕ) (x : Inode) (t u : Bool) → (t ≡ true → IsNode (n, x)) → (u ≡ true → IsNode (n, x))
    → walk_finding g reached (cond t [] (cond u (stray n p ∷ []) (not_inode n ∷ []))) ≡ None → IsNode (n, x)
node_by g reached n p x true u good wrong none = good refl
node_by g reached n p x false true good wrong none = wrong refl
node_by g reached n p x false false good wrong none = cc

node_met : (g : Layout) (reached : List ℕ) (n : ℕ) (bytes : List ℕ) → is_used (inode_in bytes) ≡ true → walk_finding g reached (bad_met (n, bytes)) ≡ None → IsNode (n, inode_in bytes)
node_met g reached n bytes used none =
    node_by g reached n (pointer_of (inode_in bytes)) (inode_in bytes) (is_good (n, bytes)) (is_pointer_wrong (n, bytes))
    (λ is. node_shape n (inode_in bytes) _ used is) (λ is. node_stray n (inode_in bytes) _ used is) none

used_rise : (t : Bool) (low high : ℕ) (x : Inode) (rest : List (ℕ × Inode)) → low < high → (t ≡ true → IsNode (low, x)) → NodesRise (low + 1) high rest → NodesRise low high (cond t ((low, x) ∷ rest) rest)
used_rise true low high x rest lt node more = (omega arith, lt, node refl, more)
used_rise false low high x rest lt node more = rise_less low (low + 1) high rest (omega arith) more

inodes_rise : (g : Layout) (reached : List ℕ) (m first : ℕ) (bytes : List ℕ) → walk_finding g reached (flat_map bad_met (inodes_from m first bytes)) ≡ None
    → NodesRise first (first + m) (nodes_of (inodes_from m first bytes))
unfolding inodes_from
inodes_rise g reached zero first bytes none = tt
inodes_rise g reached (suc m) first bytes none =
    let one : List Met = bad_met (first, take 64 bytes) in
    let rest : List (ℕ × List ℕ) = inodes_from m (first + 1) (drop 64 bytes) in
    let parts = both_none (walk_finding g reached one) (walk_finding g (reached_after reached one) (flat_map bad_met rest))
    (sym (finding_append g reached one (flat_map bad_met rest)) ∙ ap (walk_finding g reached) (sym (flat_map-cons bad_met (first, take 64 bytes) rest)) ∙ none) in
    used_rise (is_used (inode_in (take 64 bytes))) first (first + suc m) (inode_in (take 64 bytes)) (nodes_of rest) (omega arith) (λ used. node_met g reached first (take 64 bytes) used parts.0)
    (subst (λ (high : ℕ). NodesRise (first + 1) high (nodes_of rest)) (omega arith) (inodes_rise g (reached_after reached one) m (first + 1) (drop 64 bytes) parts.1))

pub block_grows : (g : Layout) (first : ℕ) (bytes : List ℕ) (old new : List (ℕ × Inode)) → ((marks : List Mark) → Goes g marks marks (flat_map bad_met (inodes_from 64 first bytes)))
    → new ≡ old ++ nodes_of (inodes_from 64 first bytes) → NodesGrow first (first + 64) old new
block_grows g first bytes old new goes is = record {
  more = nodes_of (inodes_from 64 first bytes);
  is = is;
  rise = inodes_rise g [] 64 first bytes ((goes (replicate 0 no_mark)).fine [] (says_nothing 0));
}

one_at_least : (n : ℕ) (x : Inode) → IsNode (n, x) → 1 ≤ n
one_at_least n Unused node = absurd node
one_at_least n (File size height ptr) node = node.0
one_at_least n (Directory width height ptr) node = node.0

behind_rise : (low high : ℕ) (nodes : List (ℕ × Inode)) → NodesRise low high nodes → Rising low (map (λ (node : ℕ × Inode). node.0) nodes)
behind_rise low high [] all = tt
behind_rise low high (node ∷ nodes) all = (all.0, behind_rise (node.0 + 1) high nodes all.3)

pub all_rise : (low high : ℕ) (nodes : List (ℕ × Inode)) → NodesRise low high nodes → Rising 1 (map (λ (node : ℕ × Inode). node.0) nodes)
all_rise low high [] all = tt
all_rise low high (node ∷ nodes) all = (one_at_least node.0 node.1 all.2, behind_rise (node.0 + 1) high nodes all.3)

-- from nothing on
pub grown : (low high : ℕ) (old new : List (ℕ × Inode)) → old ≡ [] → NodesGrow low high old new → NodesRise low high new
grown low high old new none grows = subst (NodesRise low high) (sym (grows.is ∙ ap (λ (xs : List (ℕ × Inode)). xs ++ grows.more) none)) grows.rise

node_within : (n : ℕ) (x : Inode) → IsNode (n, x) → IsWithin x
node_within n Unused node = node
node_within n (File size height ptr) node = node.1
node_within n (Directory width height ptr) node = node.1

pub are_within : (low high : ℕ) (nodes : List (ℕ × Inode)) → high ≤ 65536 → NodesRise low high nodes → AreWithin nodes
are_within low high [] few all n inode (k, lt, is) = absurd (omega (arith, lt))
are_within low high (node ∷ nodes) few all n inode (zero, lt, is) =
    let below : node.0 < high = all.1 in
    let number : node.0 ≡ n = ap (λ (p : ℕ × Inode). p.0) is in
    (omega (arith, below, number, few), subst IsWithin (ap (λ (p : ℕ × Inode). p.1) is) (node_within node.0 node.1 all.2))
are_within low high (node ∷ nodes) few all n inode (suc k, lt, is) = are_within (node.0 + 1) high nodes few all.3 n inode (k, omega (arith, lt), is)

pub have_widths : (nodes : List (ℕ × Inode)) → AreWithin nodes → HaveWidths nodes
have_widths nodes within n width height ptr has = (within n (Directory width height ptr) has).1

-- ---- the root directory

no_other_root : (low : ℕ) (nodes : List (ℕ × Inode)) → 1 < low → Rising low (map (λ (node : ℕ × Inode). node.0) nodes) → list_any (λ node. node.0 == 1 && is_directory node.1) nodes ≡ false
no_other_root low [] lt rise = refl
no_other_root low (node ∷ nodes) lt rise =
    let le : low ≤ node.0 = rise.0 in
    let apart : (node.0 == 1) ≡ false = grind (arith, nat_tests) in
    ap (λ (t : Bool). (t && is_directory node.1) || list_any (λ (x : ℕ × Inode). x.0 == 1 && is_directory x.1) nodes) apart ∙ no_other_root (node.0 + 1) nodes (omega (arith, lt, le)) rise.1

left_of : (t u : Bool) → u ≡ false → (t || u) ≡ true → t ≡ true
left_of true u e some = refl
left_of false u e some = sym e ∙ some

never : (t : Bool) → t ≡ false → t ≡ true → ⊥
never t a b = cc

has_root : (nodes : List (ℕ × Inode)) → Rising 1 (map (λ (node : ℕ × Inode). node.0) nodes) → list_any (λ node. node.0 == 1 && is_directory node.1) nodes ≡ true → is_directory (inode_of nodes 1) ≡ true
has_root [] rise some = cc
has_root (node ∷ nodes) rise some = by (node.0 == 1) refl some
  where
    behind : list_any (λ (x : ℕ × Inode). x.0 == 1 && is_directory x.1) nodes ≡ false
    behind = no_other_root (node.0 + 1) nodes (let le : 1 ≤ node.0 = rise.0 in omega (arith, le)) rise.1

    by : (t : Bool) → (node.0 == 1) ≡ t → ((t && is_directory node.1) || list_any (λ (x : ℕ × Inode). x.0 == 1 && is_directory x.1) nodes) ≡ true → is_directory (cond t node.1 (inode_of nodes 1)) ≡ true
    by true is any = left_of (is_directory node.1) (list_any (λ (x : ℕ × Inode). x.0 == 1 && is_directory x.1) nodes) behind any
    by false is any = absurd (never _ behind any)

pub root_there : (g : Layout) (nodes : List (ℕ × Inode)) → Rising 1 (map (λ (node : ℕ × Inode). node.0) nodes) → ((marks : List Mark) → Goes g marks marks (root_met nodes)) → is_directory (inode_of nodes 1) ≡ true
root_there g nodes rise goes = has_root nodes rise (by (list_any (λ (node : ℕ × Inode). node.0 == 1 && is_directory node.1) nodes) ((goes (replicate 0 no_mark)).fine [] (says_nothing 0)))
  where
    by : (t : Bool) → walk_finding g [] (cond t [] (not_inode 1 ∷ [])) ≡ None → t ≡ true
    by true none = refl
    by false none = cc

pub on_ok : {T E : Type 0} (r : Result T E) (X : Type 0) → X → OnOk r X
on_ok (Ok value) X x = x
on_ok (Err fault) X x = tt
