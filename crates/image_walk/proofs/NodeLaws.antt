-- The blocks of nodes, part by part.
use Rattle.std.proofs.Common.{◌≡◌, ◌<◌, ℕ, zero, suc, ◌+◌, ◌-◌, ◌*◌, Bool, true, false, cond, List, [], ◌∷◌, ◌++◌, length, drop, get_or, refl, sym, ap, subst, ◌∙◌, arith}
use Rattle.std.specs.Prelude.{◌==◌, nat_lt, Result, Some}
use Rattle.std.specs.List.{list_all, flat_map}
use Rattle.std.proofs.lemmas.Bool.{eq-eqb}
use Rattle.std.proofs.lemmas.Bool.Decides.{nat_tests}
use Rattle.std.proofs.lemmas.List.{drop_more}
use Rattle.std.proofs.lemmas.List.Concat.{flat_map-cons}
use Rattle.vol_numbers.specs.Layout.{Layout}
use Rattle.block_format.specs.declared.inode.Inode.{Inode}
use Rattle.block_format.specs.Inode.{blocks_of}
use Rattle.block_format.specs.declared.inode.Inode.TheVariants.{Unused, File, Directory}
use Rattle.block_tree.specs.Tree.{Blocks, index_at}
use Rattle.image_model.specs.Met.{Met, index, page, content, past, empty}
use Rattle.image_model.specs.Walk.{met_at, empty_met, places_met, leaf_met, tops_met, leaves_met, tree_met, node_met}
use Rattle.image_model.specs.Findings.{walk_finding}
use Rattle.image_model.specs.declared.finding.Finding.TheVariants.{BadPointer}
use Rattle.image_walk.specs.declared.fault.WalkFault.{WalkFault}
use Rattle.image_walk.specs.declared.reached.Owner.{Owner}
use Rattle.image_walk.specs.declared.reached.Reached.{Reached}
use Rattle.image_walk.specs.Going.{Goes, EndsBy}
use Rattle.image_walk.specs.Kept.{pages_of, lasts_of, node_lasts, all_lasts}
use Rattle.image_walk.specs.Trees.{owner_met, place_met, top_met, Passes, PassesOver}
use Rattle.image_walk.proofs.GoingLaws.{ends_then, ends_front}
use Rattle.image_walk.proofs.TreeLaws.{pages_append, lasts_append, passes_marks, over_then}

-- ---- one element more

pub places_next : (o : Owner) (place i : ℕ) (ptrs : List ℕ) → i < length ptrs
    → places_met (owner_met o) o.blocks (place + i) (drop i ptrs) ≡ place_met o (place + i) (get_or ptrs i 0) ++ places_met (owner_met o) o.blocks (place + (i + 1)) (drop (i + 1) ptrs)
places_next o place i ptrs lt =
    let e : (place + i) + 1 ≡ place + (i + 1) = omega arith in
    ap (places_met (owner_met o) o.blocks (place + i)) (drop_more ptrs i 0 lt)
    ∙ ap (λ (n : ℕ). place_met o (place + i) (get_or ptrs i 0) ++ places_met (owner_met o) o.blocks n (drop (i + 1) ptrs)) e

pub tops_next : (blocks k : ℕ) (tops : List ℕ) → k < length tops
    → tops_met blocks (1024 * k) (drop k tops) ≡ met_at index (nat_lt (1024 * k) blocks) (get_or tops k 0) ++ tops_met blocks (1024 * (k + 1)) (drop (k + 1) tops)
tops_next blocks k tops lt =
    let e : 1024 * k + 1024 ≡ 1024 * (k + 1) = omega arith in
    ap (tops_met blocks (1024 * k)) (drop_more tops k 0 lt)
    ∙ ap (λ (n : ℕ). met_at index (nat_lt (1024 * k) blocks) (get_or tops k 0) ++ tops_met blocks n (drop (k + 1) tops)) e

pub leaves_next : (read : Blocks) (o : Owner) (k : ℕ) (tops : List ℕ) → k < length tops
    → leaves_met read (owner_met o) o.blocks (1024 * k) (drop k tops) ≡ leaf_met read (owner_met o) o.blocks (1024 * k) (get_or tops k 0) ++ leaves_met read (owner_met o) o.blocks (1024 * (k + 1)) (drop (k + 1) tops)
leaves_next read o k tops lt =
    let e : 1024 * k + 1024 ≡ 1024 * (k + 1) = omega arith in
    ap (leaves_met read (owner_met o) o.blocks (1024 * k)) (drop_more tops k 0 lt)
    ∙ ap (λ (n : ℕ). leaf_met read (owner_met o) o.blocks (1024 * k) (get_or tops k 0) ++ leaves_met read (owner_met o) o.blocks n (drop (k + 1) tops)) e

-- what is read behind the last node
abbrev pub no_node : ℕ × Inode
no_node = (0, Unused)

pub nodes_next : (read : Blocks) (nodes : List (ℕ × Inode)) (i : ℕ) → i < length nodes
    → flat_map (node_met read) (drop i nodes) ≡ node_met read (get_or nodes i no_node) ++ flat_map (node_met read) (drop (i + 1) nodes)
nodes_next read nodes i lt = ap (flat_map (node_met read)) (drop_more nodes i no_node lt) ∙ flat_map-cons (node_met read) (get_or nodes i no_node) (drop (i + 1) nodes)

pub lasts_next : (read : Blocks) (nodes : List (ℕ × Inode)) (i : ℕ) → i < length nodes → all_lasts read (drop i nodes) ≡ node_lasts read (get_or nodes i no_node) ++ all_lasts read (drop (i + 1) nodes)
lasts_next read nodes i lt = ap (all_lasts read) (drop_more nodes i no_node lt) ∙ flat_map-cons (node_lasts read) (get_or nodes i no_node) (drop (i + 1) nodes)

-- ---- index blocks alone: no pages, no last blocks

pub no_pages_at : (t below : Bool) (p : ℕ) → pages_of (cond t [] (cond below (index p) (past p) ∷ [])) ≡ []
no_pages_at true below p = refl
no_pages_at false true p = refl
no_pages_at false false p = refl

pub no_lasts_at : (blocks : ℕ) (t below : Bool) (p : ℕ) → lasts_of blocks (cond t [] (cond below (index p) (past p) ∷ [])) ≡ []
no_lasts_at blocks true below p = refl
no_lasts_at blocks false true p = refl
no_lasts_at blocks false false p = refl

none_two : {X : Type 0} (xs ys : List X) → xs ≡ [] → ys ≡ [] → xs ++ ys ≡ []
none_two xs ys a b = λ i. a i ++ b i

pub no_pages_tops : (blocks place : ℕ) (ps : List ℕ) → pages_of (tops_met blocks place ps) ≡ []
no_pages_tops blocks place [] = refl
no_pages_tops blocks place (p ∷ ps) =
    pages_append (met_at index (nat_lt place blocks) p) (tops_met blocks (place + 1024) ps)
    ∙ none_two _ _ (no_pages_at (p == 0) (nat_lt place blocks) p) (no_pages_tops blocks (place + 1024) ps)

pub no_lasts_tops : (b blocks place : ℕ) (ps : List ℕ) → lasts_of b (tops_met blocks place ps) ≡ []
no_lasts_tops b blocks place [] = refl
no_lasts_tops b blocks place (p ∷ ps) =
    lasts_append b (met_at index (nat_lt place blocks) p) (tops_met blocks (place + 1024) ps)
    ∙ none_two _ _ (no_lasts_at b (p == 0) (nat_lt place blocks) p) (no_lasts_tops b blocks (place + 1024) ps)

no_pages_empty : (t : Bool) (b : ℕ) → pages_of (cond t (empty b ∷ []) []) ≡ []
no_pages_empty true b = refl
no_pages_empty false b = refl

no_lasts_empty : (blocks : ℕ) (t : Bool) (b : ℕ) → lasts_of blocks (cond t (empty b ∷ []) []) ≡ []
no_lasts_empty blocks true b = refl
no_lasts_empty blocks false b = refl

pub passes_empty : (g : Layout) (a : Reached) (blocks b : ℕ) (ptrs : List ℕ) → Goes g a.marks a.marks (empty_met b ptrs) → Passes g a a (empty_met b ptrs) (lasts_of blocks (empty_met b ptrs))
passes_empty g a blocks b ptrs goes = passes_marks g a a blocks (empty_met b ptrs) goes refl refl (no_pages_empty (list_all (λ p. p == 0) ptrs) b) (no_lasts_empty blocks (list_all (λ p. p == 0) ptrs) b)

pub empty_found : (g : Layout) (reached : List ℕ) (t : Bool) (b : ℕ) → t ≡ true → walk_finding g reached (cond t (empty b ∷ []) []) ≡ Some (BadPointer b)
empty_found g reached true b e = refl
empty_found g reached false b e = cc

-- ---- a leaf

leaf_test : (read : Blocks) (what : ℕ → ℕ → Met) (blocks place b : ℕ) (t : Bool) → (b == 0) ≡ t → leaf_met read what blocks place b ≡ cond t [] (empty_met b (index_at read b) ++ places_met what blocks place (index_at read b))
leaf_test read what blocks place b t e = ap (λ (u : Bool). cond u [] (empty_met b (index_at read b) ++ places_met what blocks place (index_at read b))) e

some_test : (b : ℕ) → (b ≡ 0 → ⊥) → (b == 0) ≡ false
some_test b some = grind (arith, nat_tests)

pub leaf_none : (read : Blocks) (what : ℕ → ℕ → Met) (blocks place b : ℕ) → b ≡ 0 → leaf_met read what blocks place b ≡ []
leaf_none read what blocks place b e = leaf_test read what blocks place b true (eq-eqb b 0 e)

pub leaf_some : (read : Blocks) (what : ℕ → ℕ → Met) (blocks place b : ℕ) (ptrs : List ℕ) → (b ≡ 0 → ⊥) → index_at read b ≡ ptrs → leaf_met read what blocks place b ≡ empty_met b ptrs ++ places_met what blocks place ptrs
leaf_some read what blocks place b ptrs some e = leaf_test read what blocks place b false (some_test b some) ∙ ap (λ (ps : List ℕ). empty_met b ps ++ places_met what blocks place ps) e

module _ (g : Layout) (o : Owner) (read : Blocks) where
  -- a list of what is met, with the last blocks in it
  same_over : {T : Type 0} (a c : Reached) (xs ys : List Met) (r : Result T WalkFault) → xs ≡ ys → PassesOver g a c ys (lasts_of o.blocks ys) r → PassesOver g a c xs (lasts_of o.blocks xs) r
  same_over a c xs ys r e over = subst (λ (ms : List Met). PassesOver g a c ms (lasts_of o.blocks ms) r) (sym e) over

  pub leaf_over : {T : Type 0} (a c : Reached) (place b : ℕ) (ptrs : List ℕ) (r : Result T WalkFault) → (b ≡ 0 → ⊥) → index_at read b ≡ ptrs → Goes g a.marks a.marks (empty_met b ptrs)
      → PassesOver g a c (places_met (owner_met o) o.blocks place ptrs) (lasts_of o.blocks (places_met (owner_met o) o.blocks place ptrs)) r
      → PassesOver g a c (leaf_met read (owner_met o) o.blocks place b) (lasts_of o.blocks (leaf_met read (owner_met o) o.blocks place b)) r
  leaf_over a c place b ptrs r some e goes over =
      same_over a c _ _ r (leaf_some read (owner_met o) o.blocks place b ptrs some e)
      (over_then g a a c o.blocks (empty_met b ptrs) (places_met (owner_met o) o.blocks place ptrs) r (passes_empty g a o.blocks b ptrs goes) over)

  pub leaf_ends : (a : Reached) (place b : ℕ) (ptrs : List ℕ) (fault : WalkFault) → (b ≡ 0 → ⊥) → index_at read b ≡ ptrs → EndsBy g a.marks (empty_met b ptrs) fault
      → EndsBy g a.marks (leaf_met read (owner_met o) o.blocks place b) fault
  leaf_ends a place b ptrs fault some e ends =
      subst (λ (ms : List Met). EndsBy g a.marks ms fault) (sym (leaf_some read (owner_met o) o.blocks place b ptrs some e)) (ends_front g a.marks (empty_met b ptrs) (places_met (owner_met o) o.blocks place ptrs) fault ends)

  -- ---- a top index

  pub top_none : (b : ℕ) → b ≡ 0 → top_met read o b ≡ []
  top_none b e = subst (λ (k : ℕ). top_met read o k ≡ []) (sym e) refl

  pub top_some : (b : ℕ) (tops : List ℕ) → (b ≡ 0 → ⊥) → index_at read b ≡ tops → top_met read o b ≡ empty_met b tops ++ (tops_met o.blocks 0 tops ++ leaves_met read (owner_met o) o.blocks 0 tops)
  top_some b tops some e =
      ap (λ (t : Bool). cond t [] (empty_met b (index_at read b)) ++ (tops_met o.blocks 0 (index_at read b) ++ leaves_met read (owner_met o) o.blocks 0 (index_at read b))) (some_test b some)
      ∙ ap (λ (ps : List ℕ). empty_met b ps ++ (tops_met o.blocks 0 ps ++ leaves_met read (owner_met o) o.blocks 0 ps)) e

  pub top_over : {T : Type 0} (a m c : Reached) (b : ℕ) (tops : List ℕ) (r : Result T WalkFault) → (b ≡ 0 → ⊥) → index_at read b ≡ tops → Goes g a.marks a.marks (empty_met b tops)
      → Goes g a.marks m.marks (tops_met o.blocks 0 tops) → m.pages ≡ a.pages → m.lasts ≡ a.lasts
      → PassesOver g m c (leaves_met read (owner_met o) o.blocks 0 tops) (lasts_of o.blocks (leaves_met read (owner_met o) o.blocks 0 tops)) r
      → PassesOver g a c (top_met read o b) (lasts_of o.blocks (top_met read o b)) r
  top_over a m c b tops r some e goes level pages lasts over =
      same_over a c _ _ r (top_some b tops some e)
      (over_then g a a c o.blocks (empty_met b tops) _ r (passes_empty g a o.blocks b tops goes)
      (over_then g a m c o.blocks (tops_met o.blocks 0 tops) _ r (passes_marks g a m o.blocks (tops_met o.blocks 0 tops) level pages lasts (no_pages_tops o.blocks 0 tops) (no_lasts_tops o.blocks o.blocks 0 tops)) over))

  pub top_empty_ends : (a : Reached) (b : ℕ) (tops : List ℕ) (fault : WalkFault) → (b ≡ 0 → ⊥) → index_at read b ≡ tops → EndsBy g a.marks (empty_met b tops) fault → EndsBy g a.marks (top_met read o b) fault
  top_empty_ends a b tops fault some e ends = subst (λ (ms : List Met). EndsBy g a.marks ms fault) (sym (top_some b tops some e)) (ends_front g a.marks (empty_met b tops) _ fault ends)

  pub top_tops_ends : (a : Reached) (b : ℕ) (tops : List ℕ) (fault : WalkFault) → (b ≡ 0 → ⊥) → index_at read b ≡ tops → Goes g a.marks a.marks (empty_met b tops)
      → EndsBy g a.marks (tops_met o.blocks 0 tops) fault → EndsBy g a.marks (top_met read o b) fault
  top_tops_ends a b tops fault some e goes ends =
      subst (λ (ms : List Met). EndsBy g a.marks ms fault) (sym (top_some b tops some e))
      (ends_then g a.marks a.marks (empty_met b tops) _ fault goes (ends_front g a.marks (tops_met o.blocks 0 tops) _ fault ends))

  -- ---- a tree

  pub index_passes : (a m : Reached) (ptr : ℕ) → Goes g a.marks m.marks (met_at index (nat_lt 0 o.blocks) ptr) → m.pages ≡ a.pages → m.lasts ≡ a.lasts
      → Passes g a m (met_at index (nat_lt 0 o.blocks) ptr) (lasts_of o.blocks (met_at index (nat_lt 0 o.blocks) ptr))
  index_passes a m ptr goes pages lasts = passes_marks g a m o.blocks (met_at index (nat_lt 0 o.blocks) ptr) goes pages lasts (no_pages_at (ptr == 0) (nat_lt 0 o.blocks) ptr) (no_lasts_at o.blocks (ptr == 0) (nat_lt 0 o.blocks) ptr)

  pub tree_zero : {T : Type 0} (a c : Reached) (height ptr : ℕ) (r : Result T WalkFault) → height ≡ 0 → PassesOver g a c (place_met o 0 ptr) (lasts_of o.blocks (place_met o 0 ptr)) r
      → PassesOver g a c (tree_met read (owner_met o) o.blocks height ptr) (lasts_of o.blocks (tree_met read (owner_met o) o.blocks height ptr)) r
  tree_zero a c height ptr r e over = same_over a c _ _ r (ap (λ (h : ℕ). tree_met read (owner_met o) o.blocks h ptr) e) over

  pub tree_one : {T : Type 0} (a m c : Reached) (height ptr : ℕ) (r : Result T WalkFault) → height ≡ 1 → Goes g a.marks m.marks (met_at index (nat_lt 0 o.blocks) ptr) → m.pages ≡ a.pages → m.lasts ≡ a.lasts
      → PassesOver g m c (leaf_met read (owner_met o) o.blocks 0 ptr) (lasts_of o.blocks (leaf_met read (owner_met o) o.blocks 0 ptr)) r
      → PassesOver g a c (tree_met read (owner_met o) o.blocks height ptr) (lasts_of o.blocks (tree_met read (owner_met o) o.blocks height ptr)) r
  tree_one a m c height ptr r e goes pages lasts over =
      same_over a c _ _ r (ap (λ (h : ℕ). tree_met read (owner_met o) o.blocks h ptr) e)
      (over_then g a m c o.blocks (met_at index (nat_lt 0 o.blocks) ptr) (leaf_met read (owner_met o) o.blocks 0 ptr) r (index_passes a m ptr goes pages lasts) over)

  two_more : (height : ℕ) → (height ≡ 0 → ⊥) → (height ≡ 1 → ⊥) → height ≡ suc (suc (height - 2))
  two_more height not_zero not_one = omega (arith, not_zero, not_one)

  pub tree_more : {T : Type 0} (a m c : Reached) (height ptr : ℕ) (r : Result T WalkFault) → (height ≡ 0 → ⊥) → (height ≡ 1 → ⊥) → Goes g a.marks m.marks (met_at index (nat_lt 0 o.blocks) ptr) → m.pages ≡ a.pages → m.lasts ≡ a.lasts
      → PassesOver g m c (top_met read o ptr) (lasts_of o.blocks (top_met read o ptr)) r
      → PassesOver g a c (tree_met read (owner_met o) o.blocks height ptr) (lasts_of o.blocks (tree_met read (owner_met o) o.blocks height ptr)) r
  tree_more a m c height ptr r not_zero not_one goes pages lasts over =
      same_over a c _ _ r (ap (λ (h : ℕ). tree_met read (owner_met o) o.blocks h ptr) (two_more height not_zero not_one))
      (over_then g a m c o.blocks (met_at index (nat_lt 0 o.blocks) ptr) (top_met read o ptr) r (index_passes a m ptr goes pages lasts) over)

  index_first : (a : Reached) (height ptr : ℕ) (fault : WalkFault) → EndsBy g a.marks (met_at index (nat_lt 0 o.blocks) ptr) fault → EndsBy g a.marks (tree_met read (owner_met o) o.blocks (suc height) ptr) fault
  index_first a zero ptr fault ends = ends_front g a.marks (met_at index (nat_lt 0 o.blocks) ptr) (leaf_met read (owner_met o) o.blocks 0 ptr) fault ends
  index_first a (suc height) ptr fault ends = ends_front g a.marks (met_at index (nat_lt 0 o.blocks) ptr) (top_met read o ptr) fault ends

  pub tree_ends : (a : Reached) (height ptr : ℕ) (fault : WalkFault) → (height ≡ 0 → ⊥) → EndsBy g a.marks (met_at index (nat_lt 0 o.blocks) ptr) fault → EndsBy g a.marks (tree_met read (owner_met o) o.blocks height ptr) fault
  tree_ends a height ptr fault not_zero ends =
      let e : suc (height - 1) ≡ height = omega (arith, not_zero) in
      subst (λ (h : ℕ). EndsBy g a.marks (tree_met read (owner_met o) o.blocks h ptr) fault) e (index_first a (height - 1) ptr fault ends)

-- ---- a node

pub file_over : {T : Type 0} (g : Layout) (read : Blocks) (a c : Reached) (node : ℕ × Inode) (size height ptr blocks : ℕ) (r : Result T WalkFault) → node.1 ≡ File size height ptr → blocks ≡ blocks_of size
    → PassesOver g a c (tree_met read (content node.0) blocks height ptr) (lasts_of blocks (tree_met read (content node.0) blocks height ptr)) r
    → PassesOver g a c (node_met read node) (node_lasts read node) r
file_over g read a c node size height ptr blocks r is many over =
    subst (λ (x : Inode). PassesOver g a c (node_met read (node.0, x)) (node_lasts read (node.0, x)) r) (sym is)
    (subst (λ (n : ℕ). let ms : List Met = tree_met read (content node.0) n height ptr in PassesOver g a c ms (lasts_of n ms) r) many over)

pub directory_over : {T : Type 0} (g : Layout) (read : Blocks) (a c : Reached) (node : ℕ × Inode) (width height ptr blocks : ℕ) (r : Result T WalkFault) → node.1 ≡ Directory width height ptr → blocks ≡ blocks_of (256 * width)
    → PassesOver g a c (tree_met read (page node.0) blocks height ptr) (lasts_of blocks (tree_met read (page node.0) blocks height ptr)) r
    → PassesOver g a c (node_met read node) (node_lasts read node) r
directory_over g read a c node width height ptr blocks r is many over =
    subst (λ (x : Inode). PassesOver g a c (node_met read (node.0, x)) (node_lasts read (node.0, x)) r) (sym is)
    (subst (λ (n : ℕ). let ms : List Met = tree_met read (page node.0) n height ptr in PassesOver g a c ms (lasts_of n ms) r) many over)
