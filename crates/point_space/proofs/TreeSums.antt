-- The metadata of a tree as a sum over numbers.
use Rattle.std.proofs.Common.{◌≡◌, ℕ, ◌+◌, ◌≤◌, Bool, true, false, cond, List, [], ◌∷◌, Some, refl, sym, ap, subst, ◌∙◌, arith}
use Rattle.std.specs.Prelude.{◌&&◌, ◌||◌, nat_eq, sum_by}
use Rattle.std.specs.List.{AllByRecursion}
use Rattle.std.specs.Ordering.{is_lt}
use Rattle.std.specs.declared.cmp.Ordering.{Ordering}
use Rattle.std.specs.declared.cmp.Ordering.TheVariants.{Less, Equal, Greater}
use Rattle.std.specs.Cmp.{tied_itself}
use Rattle.std.specs.FinMap.Entries.{is_sorted, below_all}
use Rattle.std.proofs.lemmas.Bool.Decides.{nat_tests}
use Rattle.std.proofs.lemmas.List.Sums.{sum_by-cons}
use Rattle.image_model.proofs.TreeNodes.{keys, entries_found}
use Rattle.place_words.specs.Different.{is_among, span, total, Distinct, AllWithin}
use Rattle.place_words.proofs.Rising.{rising_distinct}
use Rattle.place_words.proofs.Totals.{chosen, total_span}
use Rattle.point_space.specs.Laws.{SumsByNumber, SomeNumbers}
use Rattle.point_space.specs.Metadata.{node_metadata}
use Rattle.state_laws.proofs.FilesNumbered.{one_path}
use Rattle.tree_model.specs.Path.{Path, path_cmp}
use Rattle.tree_model.specs.Shape.{IsTree, shape_of}
use Rattle.tree_model.specs.Tree.{Tree, node_at, is_directory}
use Rattle.tree_model.specs.declared.node.Node.{Node}
use Rattle.tree_model.proofs.AttemptLaws.{path_total}
use Rattle.volume_model.specs.Places.{Places}
use Rattle.volume_model.specs.Space.{content_blocks, metadata_blocks, inode_blocks}

and_first : (a b : Bool) → (a && b) ≡ true → a ≡ true
and_first true b e = refl
and_first false b e = cc

and_second : (a b : Bool) → (a && b) ≡ true → b ≡ true
and_second true b e = e
and_second false b e = cc

is_less : (o : Ordering) → is_lt o ≡ true → o ≡ Less
is_less Less e = refl
is_less Equal e = cc
is_less Greater e = cc

-- ---- each number is of one node

-- the entries are found at their paths
abbrev pub AreIn : Tree → Tree → Type 0
AreIn t es = AllByRecursion (λ (e : Path × Node). node_at t e.0 ≡ Some e.1) es

pub all_in : (t : Tree) → IsTree t → AreIn t t
all_in t is = entries_found t is.ordered

module _ (t : Tree) (is_tree : IsTree t) where
  not_later : (e : Path × Node) (es : Tree) → node_at t e.0 ≡ Some e.1 → below_all path_cmp e.0 es ≡ true → AreIn t es → is_among (keys es) e.1.number ≡ false
  not_later e [] here below found = refl
  not_later e (f ∷ fs) here below found = by (nat_eq f.1.number e.1.number) refl (not_later e fs here (and_second _ _ below) found.1)
    where
      by : (t : Bool) → nat_eq f.1.number e.1.number ≡ t → is_among (keys fs) e.1.number ≡ false → (t || is_among (keys fs) e.1.number) ≡ false
      by true is more =
          let number : e.1.number ≡ f.1.number = grind (arith, nat_tests) in
          let path = one_path t is_tree e.0 f.0 e.1 f.1 here found.0 number in
          let less : path_cmp e.0 f.0 ≡ Less = is_less _ (and_first _ _ below) in
          let tied : path_cmp e.0 f.0 ≡ Equal = ap (λ (p : Path). path_cmp e.0 p) (sym path) ∙ tied_itself path_total e.0 in
          cc
      by false is more = more

  distinct_from : (es : Tree) → is_sorted path_cmp es ≡ true → AreIn t es → Distinct (keys es)
  distinct_from [] sorted found = tt
  distinct_from (e ∷ es) sorted found = (not_later e es found.0 (and_first _ _ sorted) found.1, distinct_from es (and_second _ _ sorted) found.1)

  pub numbers_apart : Distinct (keys t)
  numbers_apart = distinct_from t is_tree.ordered (all_in t is_tree)

  within : (most : ℕ) → 65536 ≤ most → (es : Tree) → AreIn t es → AllWithin 0 most (keys es)
  within most le [] found = tt
  within most le (e ∷ es) found = (omega arith, omega (arith, le, (is_tree.shape.numbered e.0 (e.1.number, is_directory e.1) (ap shape_of found.0)).1), within most le es found.1)

-- ---- a number of no node has nothing

pub no_metadata : (t : Tree) (placed : Places) (n : ℕ) → is_among (keys t) n ≡ false → node_metadata t placed n ≡ 0
no_metadata [] placed n out = refl
no_metadata (e ∷ es) placed n out = by (nat_eq e.1.number n) out (no_metadata es placed n)
  where
    by : (t : Bool) → (t || is_among (keys es) n) ≡ false → (is_among (keys es) n ≡ false → node_metadata es placed n ≡ 0) → cond t (content_blocks placed n e.1.content) (node_metadata es placed n) ≡ 0
    by true out more = cc
    by false out more = more out

-- ---- sums

-- what each of some numbers is worth is the same
total_where : (g h : ℕ → ℕ) (ns : List ℕ) → ((k : ℕ) → is_among ns k ≡ true → g k ≡ h k) → total g ns ≡ total h ns
total_where g h [] same = refl
total_where g h (n ∷ ns) same =
    let own : nat_eq n n ≡ true = grind (arith, nat_tests) in
    λ i. same n (ap (λ (t : Bool). t || is_among ns n) own) i + total_where g h ns (λ k among. same k (later (nat_eq n k) _ among)) i
  where
    later : (a b : Bool) → b ≡ true → (a || b) ≡ true
    later true b e = refl
    later false b e = e

-- the sum over the nodes is one over their numbers
by_nodes : (placed : Places) (es : Tree) → Distinct (keys es) → sum_by (λ (e : Path × Node). content_blocks placed e.1.number e.1.content) es ≡ total (node_metadata es placed) (keys es)
by_nodes placed [] distinct = refl
by_nodes placed (e ∷ es) distinct =
    let own : nat_eq e.1.number e.1.number ≡ true = grind (arith, nat_tests) in
    let here : node_metadata (e ∷ es) placed e.1.number ≡ content_blocks placed e.1.number e.1.content = ap (λ (t : Bool). cond t (content_blocks placed e.1.number e.1.content) (node_metadata es placed e.1.number)) own in
    let others = total_where (node_metadata (e ∷ es) placed) (node_metadata es placed) (keys es) (λ k among. apart (nat_eq e.1.number k) k refl among) in
    omega (arith, sum_by-cons (λ (e : Path × Node). content_blocks placed e.1.number e.1.content) e es, here, others, by_nodes placed es distinct.1)
  where
    apart : (t : Bool) (k : ℕ) → nat_eq e.1.number k ≡ t → is_among (keys es) k ≡ true → cond t (content_blocks placed k e.1.content) (node_metadata es placed k) ≡ node_metadata es placed k
    apart true k is among =
        let same : e.1.number ≡ k = grind (arith, nat_tests) in
        let never : true ≡ false = sym among ∙ subst (λ (j : ℕ). is_among (keys es) j ≡ false) same distinct.0 in cc
    apart false k is among = refl

module _ (tree : Tree) (placed : Places) (is_tree : IsTree tree) where
  -- the sum over all numbers below any limit from 65,536 on
  pub sums_below : (most : ℕ) → 65536 ≤ most → metadata_blocks tree placed ≡ 1 + inode_blocks tree + total (node_metadata tree placed) (span 0 most)
  sums_below most le =
      let start : 0 + most ≡ most = omega arith in
      let all = total_span (node_metadata tree placed) 0 most (keys tree) (subst (λ (k : ℕ). AllWithin 0 k (keys tree)) (sym start) (within tree is_tree most le tree (all_in tree is_tree))) (numbers_apart tree is_tree) in
      let each : total (chosen (node_metadata tree placed) (is_among (keys tree))) (span 0 most) ≡ total (node_metadata tree placed) (span 0 most) = (λ i. total (λ k. chosen_is (is_among (keys tree) k) k refl i) (span 0 most)) in
      omega (arith, by_nodes placed tree (numbers_apart tree is_tree), all, each)
    where
      chosen_is : (t : Bool) (k : ℕ) → is_among (keys tree) k ≡ t → cond t (node_metadata tree placed k) 0 ≡ node_metadata tree placed k
      chosen_is true k is = refl
      chosen_is false k is = sym (no_metadata tree placed k is)

pub sums_by_number : SumsByNumber
sums_by_number tree placed is_tree = sums_below tree placed is_tree 65536 (omega arith)

-- ---- some of the numbers

total_most : (g h : ℕ → ℕ) → ((k : ℕ) → g k ≤ h k) → (ns : List ℕ) → total g ns ≤ total h ns
total_most g h le [] = omega arith
total_most g h le (n ∷ ns) = omega (arith, le n, total_most g h le ns)

-- every list has a limit
pub record Limit (ns : List ℕ) : Type 0 where
  pub most : ℕ
  pub least : 65536 ≤ most
  pub all : AllWithin 0 (0 + most) ns

wider : (a b : ℕ) → a ≤ b → (ns : List ℕ) → AllWithin 0 a ns → AllWithin 0 b ns
wider a b le [] all = tt
wider a b le (n ∷ ns) all = (all.0, omega (arith, all.1, le), wider a b le ns all.2)

pub limit : (ns : List ℕ) → Limit ns
limit [] = record { most = 65536; least = omega arith; all = tt }
limit (n ∷ ns) =
    let more = limit ns in
    record { most = more.most + n + 1; least = omega (arith, more.least); all = (omega arith, omega arith, wider (0 + more.most) (0 + (more.most + n + 1)) (omega arith) ns more.all) }

pub some_numbers : SomeNumbers
some_numbers tree placed ns is_tree rising =
    let below = limit ns in
    let sums = sums_below tree placed is_tree below.most below.least in
    let mine = total_span (node_metadata tree placed) 0 below.most ns below.all (rising_distinct 0 ns rising) in
    omega (arith, sums, mine, total_most (chosen (node_metadata tree placed) (is_among ns)) (node_metadata tree placed) (λ k. part (is_among ns k) (node_metadata tree placed k)) (span 0 below.most))
  where
    part : (t : Bool) (v : ℕ) → cond t v 0 ≤ v
    part true v = omega arith
    part false v = omega arith

-- ---- two sums that differ at some numbers alone

swapped : (g h : ℕ → ℕ) (test : ℕ → Bool) → ((k : ℕ) → test k ≡ false → g k ≡ h k) → (ns : List ℕ) → total g ns + total (chosen h test) ns ≡ total h ns + total (chosen g test) ns
swapped g h test same [] = refl
swapped g h test same (n ∷ ns) = omega (arith, one (test n) refl, swapped g h test same ns)
  where
    one : (t : Bool) → test n ≡ t → g n + cond t (h n) 0 ≡ h n + cond t (g n) 0
    one true is = omega arith
    one false is = omega (arith, same n is)

pub differ_there : (g h : ℕ → ℕ) (ns : List ℕ) (most : ℕ) → AllWithin 0 (0 + most) ns → Distinct ns → ((k : ℕ) → is_among ns k ≡ false → g k ≡ h k)
    → total g (span 0 most) + total h ns ≡ total h (span 0 most) + total g ns
differ_there g h ns most all distinct same =
    omega (arith, swapped g h (is_among ns) same (span 0 most), total_span g 0 most ns all distinct, total_span h 0 most ns all distinct)
