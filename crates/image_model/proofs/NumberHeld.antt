-- What is seen of one number: its blocks by their places.
use Rattle.std.proofs.Common.{◌≡◌, ℕ, zero, suc, ◌+◌, Bool, true, false, cond, List, [], ◌∷◌, ◌++◌, map, Some, None, refl, sym, ap, subst, ◌∙◌, arith}
use Rattle.std.specs.Prelude.{◌==◌, ◌&&◌, ◌||◌, nat_eq, Option, option_map}
use Rattle.std.specs.List.{flat_map, AllByRecursion}
use Rattle.std.specs.FinMap.{find}
use Rattle.std.specs.Ordering.{eq_by_cmp, is_eq}
use Rattle.std.specs.Cmp.{tied_itself}
use Rattle.std.specs.declared.cmp.Ordering.{Ordering}
use Rattle.std.specs.declared.cmp.Ordering.TheVariants.{Less, Equal, Greater}
use Rattle.std.proofs.lemmas.Bool.{eqb-true, eq-eqb}
use Rattle.std.proofs.lemmas.Bool.Decides.{nat_tests}
use Rattle.std.proofs.lemmas.List.Concat.{flat_map-cons}
use Rattle.vol_numbers.specs.declared.block.Block.{Block}
use Rattle.root_switch.specs.Current.{root_of_image}
use Rattle.block_format.specs.declared.inode.Inode.{Inode}
use Rattle.block_format.specs.declared.inode.Inode.TheVariants.{Unused, File, Directory}
use Rattle.block_tree.specs.Tree.{Blocks, index_at, nonzero, block_in, block_below, pairs_from, leaves_pairs, pairs_below, indexes_below, blocks_in}
use Rattle.block_tree.proofs.Pairs.{pairs_are}
use Rattle.place_words.specs.Different.{is_among, Distinct}
use Rattle.volume_model.specs.Places.{Spot, spot_cmp}
use Rattle.image_model.specs.Met.{Met, index, page, content, NoFaults}
use Rattle.image_model.specs.Standing.{some_block}
use Rattle.image_model.specs.Planned.{node_trees}
use Rattle.image_model.specs.Seen.{SeenBlock, seen, all_held, content_held}
use Rattle.image_model.specs.Slots.{held_at, inode_of}
use Rattle.image_model.specs.Stands.{spot_of}
use Rattle.image_model.specs.Walk.{nodes_at}
use Rattle.image_model.proofs.NodePlaces.{numbers, numbers_distinct, held_append, no_contents, page_contents}
use Rattle.image_model.proofs.NodeWalk.{walk_good}
use Rattle.image_model.proofs.PlaceOrder.{spot_total, spot_tie}

-- what is held at a place of a number
pub found_at : List SeenBlock → ℕ → ℕ → Option SeenBlock
found_at [] n p = None
found_at (h ∷ hs) n p = cond (h.number == n && h.place == p) (Some h) (found_at hs n p)

abbrev pub bytes_held : Option SeenBlock → List ℕ
bytes_held None = []
bytes_held (Some h) = h.bytes

pub held_from : (hs : List SeenBlock) (n p : ℕ) → held_at hs n p ≡ bytes_held (found_at hs n p)
unfolding found_at
held_from [] n p = refl
held_from (h ∷ hs) n p = by (h.number == n && h.place == p) (held_from hs n p)
  where
    by : (t : Bool) → held_at hs n p ≡ bytes_held (found_at hs n p) → cond t h.bytes (held_at hs n p) ≡ bytes_held (cond t (Some h) (found_at hs n p))
    by true more = refl
    by false more = more

is_equal : (o : Ordering) → is_eq o ≡ true → o ≡ Equal
is_equal Less e = cc
is_equal Equal e = refl
is_equal Greater e = cc

-- spots tie where number and place are the same
spot_test : (n p m q : ℕ) → eq_by_cmp spot_cmp (n, p) (m, q) ≡ (m == n && q == p)
spot_test n p m q = by (m == n) refl (q == p) refl
  where
    never : (t : Bool) → eq_by_cmp spot_cmp (n, p) (m, q) ≡ t → ((m == n && q == p) ≡ true → ⊥) → eq_by_cmp spot_cmp (n, p) (m, q) ≡ false
    never true is not =
        let tie = spot_tie (n, p) (m, q) (is_equal _ is) in
        let first : (m == n) ≡ true = eq-eqb m n (sym (ap (λ (s : Spot). s.0) tie)) in
        let second : (q == p) ≡ true = eq-eqb q p (sym (ap (λ (s : Spot). s.1) tie)) in
        absurd (not ((λ i. first i && q == p) ∙ second))
    never false is not = is

    by : (t : Bool) → (m == n) ≡ t → (u : Bool) → (q == p) ≡ u → eq_by_cmp spot_cmp (n, p) (m, q) ≡ (t && u)
    by true a true b =
        let e : m ≡ n = eqb-true m n a in
        let f : q ≡ p = eqb-true q p b in
        (λ i. eq_by_cmp spot_cmp (n, p) (e i, f i)) ∙ ap is_eq (tied_itself spot_total (n, p))
    by true a false b = never _ refl (λ both. let no : (m == n && q == p) ≡ false = (λ i. a i && q == p) ∙ b in cc)
    by false a u b = never _ refl (λ both. let no : (m == n && q == p) ≡ false = ap (λ (t : Bool). t && q == p) a in cc)

pub find_from : (hs : List SeenBlock) (n p : ℕ) → find spot_cmp (n, p) (map spot_of hs) ≡ option_map (λ (h : SeenBlock). h.block) (found_at hs n p)
unfolding found_at
find_from [] n p = refl
find_from (h ∷ hs) n p = ap (λ (t : Bool). cond t (Some h.block) (find spot_cmp (n, p) (map spot_of hs))) (spot_test n p h.number h.place) ∙ by (h.number == n && h.place == p) (find_from hs n p)
  where
    by : (t : Bool) → find spot_cmp (n, p) (map spot_of hs) ≡ option_map (λ (h : SeenBlock). h.block) (found_at hs n p)
        → cond t (Some h.block) (find spot_cmp (n, p) (map spot_of hs)) ≡ option_map (λ (h : SeenBlock). h.block) (cond t (Some h) (found_at hs n p))
    by true more = refl
    by false more = more

or_else : Option SeenBlock → Option SeenBlock → Option SeenBlock
or_else None b = b
or_else (Some x) b = Some x

found_append : (xs ys : List SeenBlock) (n p : ℕ) → found_at (xs ++ ys) n p ≡ or_else (found_at xs n p) (found_at ys n p)
unfolding found_at or_else
found_append [] ys n p = refl
found_append (h ∷ hs) ys n p = by (h.number == n && h.place == p) (found_append hs ys n p)
  where
    by : (t : Bool) → found_at (hs ++ ys) n p ≡ or_else (found_at hs n p) (found_at ys n p) → cond t (Some h) (found_at (hs ++ ys) n p) ≡ or_else (cond t (Some h) (found_at hs n p)) (found_at ys n p)
    by true more = refl
    by false more = more

or_none : (o : Option SeenBlock) → or_else o None ≡ o
unfolding or_else
or_none None = refl
or_none (Some x) = refl

-- ---- pairs of places and blocks

pair_at : List (ℕ × ℕ) → ℕ → Option ℕ
pair_at [] p = None
pair_at (e ∷ es) p = cond (e.0 == p) (Some e.1) (pair_at es p)

abbrev pub AllSome : List (ℕ × ℕ) → Type 0
AllSome es = AllByRecursion (λ (e : ℕ × ℕ). (e.1 == 0) ≡ false) es

some_append : (xs ys : List (ℕ × ℕ)) → AllSome xs → AllSome ys → AllSome (xs ++ ys)
some_append [] ys a b = b
some_append (x ∷ xs) ys a b = (a.0, some_append xs ys a.1 b)

from_some : (place : ℕ) (ps : List ℕ) → AllSome (pairs_from place ps)
from_some place [] = tt
from_some place (p ∷ ps) = some_append (cond (p == 0) [] ((place, p) ∷ [])) _ (by (p == 0) refl) (from_some (place + 1) ps)
  where
    by : (t : Bool) → (p == 0) ≡ t → AllSome (cond t [] ((place, p) ∷ []))
    by true is = tt
    by false is = (is, tt)

leaves_some : (read : Blocks) (place : ℕ) (ps : List ℕ) → AllSome (leaves_pairs read place ps)
leaves_some read place [] = tt
leaves_some read place (p ∷ ps) = some_append (pairs_from place (index_at read p)) _ (from_some place (index_at read p)) (leaves_some read (place + 1024) ps)

pub pairs_some : (read : Blocks) (height ptr : ℕ) → AllSome (pairs_below read height ptr)
pairs_some read zero ptr = from_some 0 (ptr ∷ [])
pairs_some read (suc zero) ptr = from_some 0 (index_at read ptr)
pairs_some read (suc (suc height)) ptr = leaves_some read 0 (index_at read ptr)

pair_block : (es : List (ℕ × ℕ)) → AllSome es → (p : ℕ) → pair_at es p ≡ some_block (block_in es p)
unfolding pair_at
pair_block [] all p = refl
pair_block (e ∷ es) all p = by (e.0 == p) (pair_block es all.1 p)
  where
    by : (t : Bool) → pair_at es p ≡ some_block (block_in es p) → cond t (Some e.1) (pair_at es p) ≡ some_block (cond t e.1 (block_in es p))
    by true more = sym (ap (λ (t : Bool). cond t None (Some e.1)) all.0)
    by false more = more

pair_below : (read : Blocks) (height ptr p : ℕ) → pair_at (pairs_below read height ptr) p ≡ some_block (block_below read height ptr p)
pair_below read height ptr p = pair_block (pairs_below read height ptr) (pairs_some read height ptr) p ∙ ap some_block (pairs_are read height ptr p)

-- ---- the blocks of files

abbrev pub held_here : Blocks → ℕ → ℕ → Option ℕ → Option SeenBlock
held_here read n p o = option_map (λ (b : ℕ). record { number = n; place = p; block = b; bytes = read b }) o

abbrev file_pairs : Blocks → Inode → List (ℕ × ℕ)
file_pairs read Unused = []
file_pairs read (File size height ptr) = pairs_below read height ptr
file_pairs read (Directory width height ptr) = []

module _ (read : Blocks) (n p : ℕ) where
  abbrev contents : List Met → Option SeenBlock
  contents ms = found_at (all_held (content_held read) ms) n p

  own : (m : ℕ) → nat_eq m n ≡ true → (pairs : List (ℕ × ℕ)) → contents (map (λ (e : ℕ × ℕ). content m e.0 e.1) pairs) ≡ held_here read n p (pair_at pairs p)
  unfolding found_at pair_at
  own m same [] = refl
  own m same (e ∷ es) = ap (λ (t : Bool). cond (t && e.0 == p) (Some (record { number = m; place = e.0; block = e.1; bytes = read e.1 })) (contents (map (λ (e : ℕ × ℕ). content m e.0 e.1) es))) same ∙ by (e.0 == p) refl (own m same es)
    where
      by : (t : Bool) → (e.0 == p) ≡ t → contents (map (λ (e : ℕ × ℕ). content m e.0 e.1) es) ≡ held_here read n p (pair_at es p)
          → cond t (Some (record { number = m; place = e.0; block = e.1; bytes = read e.1 })) (contents (map (λ (e : ℕ × ℕ). content m e.0 e.1) es)) ≡ held_here read n p (cond t (Some e.1) (pair_at es p))
      by true is more = let a : m ≡ n = grind (arith, nat_tests) in let b : e.0 ≡ p = eqb-true e.0 p is in λ i. Some (record { number = a i; place = b i; block = e.1; bytes = read e.1 })
      by false is more = more

  other : (m : ℕ) → nat_eq m n ≡ false → (pairs : List (ℕ × ℕ)) → contents (map (λ (e : ℕ × ℕ). content m e.0 e.1) pairs) ≡ None
  unfolding found_at
  other m apart [] = refl
  other m apart (e ∷ es) = ap (λ (t : Bool). cond (t && e.0 == p) (Some (record { number = m; place = e.0; block = e.1; bytes = read e.1 })) (contents (map (λ (e : ℕ × ℕ). content m e.0 e.1) es))) apart ∙ other m apart es

  contents_append : (xs ys : List Met) → contents (xs ++ ys) ≡ or_else (contents xs) (contents ys)
  contents_append xs ys = ap (λ (hs : List SeenBlock). found_at hs n p) (held_append (content_held read) xs ys) ∙ found_append (all_held (content_held read) xs) (all_held (content_held read) ys) n p

  none_indexes : (bs : List ℕ) → contents (map index bs) ≡ None
  unfolding found_at
  none_indexes bs = ap (λ (hs : List SeenBlock). found_at hs n p) (no_contents read bs)

  none_pages : (m : ℕ) (pairs : List (ℕ × ℕ)) → contents (map (λ (e : ℕ × ℕ). page m e.0 e.1) pairs) ≡ None
  unfolding found_at
  none_pages m pairs = ap (λ (hs : List SeenBlock). found_at hs n p) (page_contents read m pairs)

  node_own : (node : ℕ × Inode) → nat_eq node.0 n ≡ true → contents (node_trees read node) ≡ held_here read n p (pair_at (file_pairs read node.1) p)
  unfolding found_at pair_at or_else
  node_own (m, Unused) same = refl
  node_own (m, File size height ptr) same = contents_append (map index (indexes_below read height ptr)) _ ∙ (λ i. or_else (none_indexes (indexes_below read height ptr) i) (own m same (pairs_below read height ptr) i))
  node_own (m, Directory width height ptr) same = contents_append (map index (indexes_below read height ptr)) _ ∙ (λ i. or_else (none_indexes (indexes_below read height ptr) i) (none_pages m (pairs_below read height ptr) i))

  node_other : (node : ℕ × Inode) → nat_eq node.0 n ≡ false → contents (node_trees read node) ≡ None
  unfolding found_at or_else
  node_other (m, Unused) apart = refl
  node_other (m, File size height ptr) apart = contents_append (map index (indexes_below read height ptr)) _ ∙ (λ i. or_else (none_indexes (indexes_below read height ptr) i) (other m apart (pairs_below read height ptr) i))
  node_other (m, Directory width height ptr) apart = contents_append (map index (indexes_below read height ptr)) _ ∙ (λ i. or_else (none_indexes (indexes_below read height ptr) i) (none_pages m (pairs_below read height ptr) i))

  or_parts : (a b : Bool) → (a || b) ≡ false → (a ≡ false) × (b ≡ false)
  or_parts true b e = cc
  or_parts false b e = (refl, e)

  nodes_none : (nodes : List (ℕ × Inode)) → is_among (numbers nodes) n ≡ false → contents (flat_map (node_trees read) nodes) ≡ None
  unfolding found_at or_else
  nodes_none [] out = refl
  nodes_none (node ∷ nodes) out =
      let parts = or_parts (nat_eq node.0 n) (is_among (numbers nodes) n) out in
      ap contents (flat_map-cons (node_trees read) node nodes) ∙ contents_append (node_trees read node) (flat_map (node_trees read) nodes) ∙ (λ i. or_else (node_other node parts.0 i) (nodes_none nodes parts.1 i))

  nodes_found : (nodes : List (ℕ × Inode)) → Distinct (numbers nodes) → contents (flat_map (node_trees read) nodes) ≡ held_here read n p (pair_at (file_pairs read (inode_of nodes n)) p)
  unfolding found_at or_else pair_at
  nodes_found [] distinct = refl
  nodes_found (node ∷ nodes) distinct =
      ap contents (flat_map-cons (node_trees read) node nodes) ∙ contents_append (node_trees read node) (flat_map (node_trees read) nodes) ∙ by (nat_eq node.0 n) refl (nodes_found nodes distinct.1)
    where
      by : (t : Bool) → nat_eq node.0 n ≡ t → contents (flat_map (node_trees read) nodes) ≡ held_here read n p (pair_at (file_pairs read (inode_of nodes n)) p)
          → or_else (contents (node_trees read node)) (contents (flat_map (node_trees read) nodes)) ≡ held_here read n p (pair_at (file_pairs read (cond t node.1 (inode_of nodes n))) p)
      by true is more =
          let e : node.0 ≡ n = grind (arith, nat_tests) in
          let out : is_among (numbers nodes) n ≡ false = subst (λ (k : ℕ). is_among (numbers nodes) k ≡ false) e distinct.0 in
          (λ i. or_else (node_own node is i) (nodes_none nodes out i)) ∙ or_none _
      by false is more = (λ i. or_else (node_other node is i) (more i))

-- what is held of a file at a place
pub file_found : (image : List Block) (n size height ptr p : ℕ) → NoFaults (seen image).met → inode_of (seen image).nodes n ≡ File size height ptr
    → found_at (seen image).contents n p ≡ held_here (blocks_in image) n p (some_block (block_below (blocks_in image) height ptr p))
unfolding seen found_at or_else
file_found image n size height ptr p none is =
    let read = blocks_in image in
    let at = (root_of_image image).inode_index in
    let nodes = nodes_at read at in
    ap (contents read n p) (walk_good read at none).is
    ∙ contents_append read n p (map index (nonzero (index_at read at))) (flat_map (node_trees read) nodes)
    ∙ (λ i. or_else (none_indexes read n p (nonzero (index_at read at)) i) (nodes_found read n p nodes (numbers_distinct read at) i))
    ∙ ap (λ (x : Inode). held_here read n p (pair_at (file_pairs read x) p)) is
    ∙ ap (held_here read n p) (pair_below read height ptr p)
