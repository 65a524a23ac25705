-- How many entries a directory has after each change, and how many nodes a tree can have.
use Rattle.std.proofs.Common.{◌≡◌, ℕ, suc, ◌+◌, ◌≤◌, ◌<◌, List, [], ◌∷◌, ◌++◌, length, true, false, not, refl, sym, ap, subst, ◌∙◌, Some, None, cond, inl, inr, arith, append-nil, append_assoc}
use Rattle.std.specs.Prelude.{Option, Bool, ◌&&◌, ◌||◌, is_some, nat_eq}
use Rattle.std.specs.List.{IsDistinct, AllByRecursion, list_any, cons_option}
use Rattle.std.specs.Ordering.{is_eq}
use Rattle.std.specs.declared.cmp.Ordering.TheVariants.{Less, Equal, Greater}
use Rattle.std.specs.Cmp.Lexicographic.{nat_list_eq_equiv}
use Rattle.std.specs.FinMap.Entries.{by_order, length-put, length_without}
use Rattle.std.proofs.lemmas.Bool.{eqb-true}
use Rattle.std.proofs.lemmas.Map.Steps.{length-le_from_distinct_below}
use Rattle.tree_model.specs.declared.node.Node.{Node}
use Rattle.tree_model.specs.declared.reply.Entry.{Entry}
use Rattle.tree_model.specs.Path.{Path, path_cmp, parent_of, strip}
use Rattle.tree_model.specs.Tree.{Tree, node_at, with_node, without, entries_of, entry_below, is_directory, new_path, moved_onto}
use Rattle.tree_model.specs.Order.{IsOrdered}
use Rattle.tree_model.specs.Shape.{IsShape, shape_of, shape_at}
use Rattle.tree_model.proofs.AttemptLaws.{path_total, true_T}
use Rattle.tree_model.proofs.Fronts.{tie, tie_is, tie_itself, test_fails, strip_is, strip_back, strip_none, compare}
use Rattle.tree_model.proofs.Lookups.{IsClear, clear_head, clear_tail, new_is}

-- 1 where exactly one name is left
abbrev pub alone : Option Path → ℕ
alone None = 0
alone (Some []) = 0
alone (Some (name ∷ [])) = 1
alone (Some (name ∷ next ∷ names)) = 0

-- 1 where the path is of an entry of the directory
abbrev pub one : Path → Path → ℕ
one q p = alone (strip q p)

-- how many entries a directory has
abbrev pub total : Path → Tree → ℕ
total q [] = 0
total q (e ∷ es) = one q e.0 + total q es

counted : (o : Option Path) (n : Node) (es : List Entry) → length (cons_option (entry_below o n) es) ≡ alone o + length es
counted None n es = omega arith
counted (Some []) n es = omega arith
counted (Some (name ∷ [])) n es = omega arith
counted (Some (name ∷ next ∷ names)) n es = omega arith

pub total_is : (tree : Tree) (q : Path) → length (entries_of tree q) ≡ total q tree
total_is [] q = refl
total_is (e ∷ es) q = counted (strip q e.0) e.1 (entries_of es q) ∙ ap (λ n. one q e.0 + n) (total_is es q)

-- ---- one path

at_most_one : (o : Option Path) → alone o ≤ 1
at_most_one None = omega arith
at_most_one (Some []) = omega arith
at_most_one (Some (name ∷ [])) = omega arith
at_most_one (Some (name ∷ next ∷ names)) = omega arith

root_alone : (q : Path) → one q [] ≡ 0
root_alone [] = refl
root_alone (name ∷ q) = refl

pub one_itself : (p : Path) → one p p ≡ 0
one_itself p = ap alone (ap (λ x. strip p x) (sym (append-nil p)) ∙ strip_back p [])

parent_is : (q : Path) (name : List ℕ) → parent_of (q ++ name ∷ []) ≡ q
parent_is [] name = refl
parent_is (x ∷ []) name = refl
parent_is (x ∷ y ∷ q) name = ap (λ p. x ∷ p) (parent_is (y ∷ q) name)

-- nothing but one name more makes an entry
alone_zero : (q p : Path) → ((name : List ℕ) → p ≡ q ++ name ∷ [] → ⊥) → one q p ≡ 0
alone_zero q p never =
    elim (strip q p) as (λ o. strip q p ≡ o → alone o ≡ 0) [
      | None ↦ λ e. refl
      | Some r ↦ λ e. left r (strip_is q p r e)
    ] refl
  where
    left : (r : Path) → p ≡ q ++ r → alone (Some r) ≡ 0
    left [] e = refl
    left (name ∷ []) e = absurd (never name e)
    left (name ∷ next ∷ names) e = refl

-- a path is an entry of its parent alone
pub one_apart : (q p : Path) → tie q (parent_of p) ≡ false → one q p ≡ 0
one_apart q p apart = alone_zero q p (λ name e.
    let tied : tie q (parent_of p) ≡ true = ap (λ x. tie q x) (ap parent_of e ∙ parent_is q name) ∙ tie_itself q in
    cc)

-- ---- a node put, or taken away

module _ (q k : Path) (v : Node) where
  pub put_most : (es : Tree) → total q (with_node es k v) ≤ total q es + one q k
  put_most [] = omega arith
  put_most (e ∷ es) =
      elim (path_cmp k e.0) as (λ r. total q (by_order r ((k, v) ∷ e ∷ es) ((e.0, v) ∷ es) (e ∷ with_node es k v)) ≤ total q (e ∷ es) + one q k) [
        | Less ↦ omega arith
        | Equal ↦ omega arith
        | Greater ↦ omega (arith, put_most es)
      ]

  pub put_least : (es : Tree) → total q es ≤ total q (with_node es k v)
  put_least [] = omega arith
  put_least (e ∷ es) =
      elim (path_cmp k e.0) as (λ r. total q (e ∷ es) ≤ total q (by_order r ((k, v) ∷ e ∷ es) ((e.0, v) ∷ es) (e ∷ with_node es k v))) [
        | Less ↦ omega arith
        | Equal ↦ omega arith
        | Greater ↦ omega (arith, put_least es)
      ]

and_right : (a b : Bool) → (a && b) ≡ true → b ≡ true
and_right true b e = e
and_right false b e = cc

pub ordered_rest : (e : Path × Node) (es : Tree) → IsOrdered (e ∷ es) → IsOrdered es
ordered_rest e es h = and_right _ _ h

-- a path below the first isn't found
not_below : (k : Path) (v old : Node) (e : Path × Node) (es : Tree) → IsOrdered (e ∷ es) → path_cmp k e.0 ≡ Less → node_at (e ∷ es) k ≡ Some old → ⊥
not_below k v old e es h less stood =
    let long : suc (suc (length es)) ≡ cond (is_some (node_at (e ∷ es) k)) (length (e ∷ es)) (length (e ∷ es) + 1) =
    sym (ap (λ r. length (by_order r ((k, v) ∷ e ∷ es) ((e.0, v) ∷ es) (e ∷ with_node es k v))) less) ∙ length-put path_cmp path_total k v (e ∷ es) (true_T _ h) in
    let short : suc (suc (length es)) ≡ suc (length es) = long ∙ ap (λ o. cond (is_some o) (length (e ∷ es)) (length (e ∷ es) + 1)) stood in
    absurd (omega arith)

-- a node put where one is changes no number of entries
pub put_same : (q k : Path) (v old : Node) (es : Tree) → IsOrdered es → node_at es k ≡ Some old → total q (with_node es k v) ≡ total q es
put_same q k v old [] h stood = cc
put_same q k v old (e ∷ es) h stood =
    elim (path_cmp k e.0) as (λ r. path_cmp k e.0 ≡ r → total q (by_order r ((k, v) ∷ e ∷ es) ((e.0, v) ∷ es) (e ∷ with_node es k v)) ≡ total q (e ∷ es)) [
      | Less ↦ λ p. absurd (not_below k v old e es h p stood)
      | Equal ↦ λ p. refl
      | Greater ↦ λ p. ap (λ n. one q e.0 + n) (put_same q k v old es (ordered_rest e es h) (subst (λ r. cond (is_eq r) (Some e.1) (node_at es k) ≡ Some old) p stood))
    ] refl

pub without_most : (q p : Path) (es : Tree) → total q (without es p) ≤ total q es
without_most q p [] = omega arith
without_most q p (e ∷ es) =
    elim (tie p e.0) as (λ b. total q (cond (not b) (e ∷ without es p) (without es p)) ≤ total q (e ∷ es)) [
      | true ↦ omega (arith, without_most q p es)
      | false ↦ omega (arith, without_most q p es)
    ]

-- ---- a rename

strip_through : (a b c : Path) → strip (a ++ b) (a ++ c) ≡ strip b c
strip_through [] b c = refl
strip_through (name ∷ a) b c = ap (λ (t : Bool). cond t (strip (a ++ b) (a ++ c)) None) (nat_list_eq_equiv.refl name) ∙ strip_through a b c

module _ (from to : Path) where
  -- where each new path is an entry only if its old path was one, the entries are as many at most
  moved_most : (q old : Path) → ((k : Path) → ((r : Path) → k ≡ to ++ r → ⊥) → one q (new_path from to k) ≤ one old k) → (es : Tree) → IsClear to es → total q (moved_onto from to es []) ≤ total old es
  moved_most q old each [] clear = omega arith
  moved_most q old each (e ∷ es) clear =
      omega (arith, put_most q (new_path from to e.0) e.1 (moved_onto from to es []), each e.0 (clear_head to e es clear), moved_most q old each es (clear_tail to e es clear))

  below_each : (rest k : Path) → ((r : Path) → k ≡ to ++ r → ⊥) → one (to ++ rest) (new_path from to k) ≤ one (from ++ rest) k
  below_each rest k clear =
      elim (new_is from to k) [
        | inl w ↦
            let new : one (to ++ rest) (new_path from to k) ≡ alone (strip rest w.rest) = ap (λ p. one (to ++ rest) p) w.is ∙ ap alone (strip_through to rest w.rest) in
            let was : one (from ++ rest) k ≡ alone (strip rest w.rest) = ap (λ p. one (from ++ rest) p) w.was ∙ ap alone (strip_through from rest w.rest) in
            omega arith
        | inr s ↦
            let none : one (to ++ rest) (new_path from to k) ≡ 0 = alone_zero (to ++ rest) (new_path from to k) (λ name e. clear (rest ++ name ∷ []) (sym s.is ∙ e ∙ append_assoc to rest (name ∷ []))) in
            omega arith
      ]

  -- the entries of what is below the path that the node came to are those of what was below the one that it left
  pub below_most : (rest : Path) (tree : Tree) → IsClear to tree → total (to ++ rest) (moved_onto from to tree []) ≤ total (from ++ rest) tree
  below_most rest tree clear = moved_most (to ++ rest) (from ++ rest) (below_each rest) tree clear

  one_more : (q : Path) (x : List ℕ) (more w : Path) (name : List ℕ) → (q ++ x ∷ more) ++ w ≡ q ++ name ∷ [] → more ≡ []
  one_more [] x [] w name e = refl
  one_more [] x (y ∷ more) w name e = cc
  one_more (z ∷ q) x more w name e = let tails : (q ++ x ∷ more) ++ w ≡ q ++ name ∷ [] = cc in one_more q x more w name tails

  other_each : (q : Path) → strip to q ≡ None → tie q (parent_of to) ≡ false → (k : Path) → ((r : Path) → k ≡ to ++ r → ⊥) → one q (new_path from to k) ≤ one q k
  other_each q none apart k clear =
      elim (new_is from to k) [
        | inl w ↦
            let zero : one q (new_path from to k) ≡ 0 = alone_zero q (new_path from to k) (λ name e.
            elim (compare q to w.rest name [] (sym e ∙ w.is)) [
              | inl u ↦ strip_none to q u.more none u.is
              | inr a ↦
                  let whole : (q ++ a.name ∷ a.more) ++ w.rest ≡ q ++ name ∷ [] = ap (λ p. p ++ w.rest) (sym a.is) ∙ sym w.is ∙ e in
                  let last : to ≡ q ++ a.name ∷ [] = a.is ∙ ap (λ m. q ++ a.name ∷ m) (one_more q a.name a.more w.rest name whole) in
                  let tied : tie q (parent_of to) ≡ true = ap (λ x. tie q x) (ap parent_of last ∙ parent_is q a.name) ∙ tie_itself q in
                  cc
            ]) in
            omega arith
        | inr s ↦ let same : one q (new_path from to k) ≡ one q k = ap (λ p. one q p) s.is in omega arith
      ]

  -- no directory but the one that the node comes into has more entries
  pub other_most : (q : Path) (tree : Tree) → IsClear to tree → strip to q ≡ None → tie q (parent_of to) ≡ false → total q (moved_onto from to tree []) ≤ total q tree
  other_most q tree clear none apart = moved_most q q (other_each q none apart) tree clear

-- ---- no entries

-- where no path with one name more is found, there are no entries
pub none_total : (es : Tree) (q : Path) → ((name : List ℕ) → node_at es (q ++ name ∷ []) ≡ None) → total q es ≡ 0
none_total [] q none = refl
none_total (e ∷ es) q none =
    let here : one q e.0 ≡ 0 = alone_zero q e.0 (λ name is.
    let some : node_at (e ∷ es) (q ++ name ∷ []) ≡ Some e.1 = ap (λ p. node_at (e ∷ es) p) (sym is) ∙ ap (λ b. cond b (Some e.1) (node_at es e.0)) (tie_itself e.0) in
    let nothing : node_at (e ∷ es) (q ++ name ∷ []) ≡ None = none name in
    cc) in
    let rest : total q es ≡ 0 = none_total es q (λ name.
    elim (tie (q ++ name ∷ []) e.0) as (λ b. cond b (Some e.1) (node_at es (q ++ name ∷ [])) ≡ None → node_at es (q ++ name ∷ []) ≡ None) [ true ↦ λ n. cc | false ↦ λ n. n ] (none name)) in
    omega arith

-- ---- how many nodes there are

-- the path of the first node isn't found among the others
head_apart : (e : Path × Node) (es : Tree) → IsOrdered (e ∷ es) → node_at es e.0 ≡ None
head_apart e es h =
    let left = without es e.0 in
    let whole : 1 + length left ≡ suc (length es) =
    subst (λ (t : Bool). cond (is_some (cond t (Some e.1) (node_at es e.0))) 1 0 + length (cond (not t) (e ∷ left) left) ≡ suc (length es)) (tie_itself e.0) (length_without path_cmp path_total e.0 (e ∷ es) (true_T _ h)) in
    let rest : cond (is_some (node_at es e.0)) 1 0 + length left ≡ length es = length_without path_cmp path_total e.0 es (true_T _ (ordered_rest e es h)) in
    elim (node_at es e.0) as (λ o. cond (is_some o) 1 0 + length left ≡ length es → o ≡ None) [ None ↦ λ n. refl | Some x ↦ λ n. absurd (omega arith) ] rest

in_whole : (e : Path × Node) (es : Tree) → IsOrdered (e ∷ es) → (p : Path) (node : Node) → node_at es p ≡ Some node → node_at (e ∷ es) p ≡ Some node
in_whole e es h p node stood =
    let apart : tie p e.0 ≡ false = test_fails _ (λ t. let none : node_at es p ≡ None = ap (λ x. node_at es x) (tie_is _ _ t) ∙ head_apart e es h in cc) in
    ap (λ b. cond b (Some e.1) (node_at es p)) apart ∙ stood

at_head : (e : Path × Node) (es : Tree) → node_at (e ∷ es) e.0 ≡ Some e.1
at_head e es = ap (λ b. cond b (Some e.1) (node_at es e.0)) (tie_itself e.0)

abbrev numbers : Tree → List ℕ
numbers [] = []
numbers (e ∷ es) = e.1.number ∷ numbers es

record Found (es : Tree) (number : ℕ) : Type 0 where
  path : Path
  node : Node
  stood : node_at es path ≡ Some node
  is : node.number ≡ number

found : (es : Tree) → IsOrdered es → (number : ℕ) → list_any (nat_eq number) (numbers es) ≡ true → Found es number
found [] h number e = cc
found (e ∷ es) h number any =
    elim (nat_eq number e.1.number) as (λ b. nat_eq number e.1.number ≡ b → (b || list_any (nat_eq number) (numbers es)) ≡ true → Found (e ∷ es) number) [
      | true ↦ λ same more. record { path = e.0; node = e.1; stood = at_head e es; is = sym (eqb-true _ _ same) }
      | false ↦ λ other more. let f = found es (ordered_rest e es h) number more in record { path = f.path; node = f.node; stood = in_whole e es h f.path f.node f.stood; is = f.is }
    ] refl any

abbrev IsApart : Tree → Type 0
IsApart es = (p q : Path) (a b : Node) → node_at es p ≡ Some a → node_at es q ≡ Some b → a.number ≡ b.number → p ≡ q

none_alike : (x : ℕ) (xs : List ℕ) → list_any (nat_eq x) xs ≡ false → AllByRecursion (λ y. nat_eq x y ≡ false) xs
none_alike x [] e = tt
none_alike x (y ∷ ys) e =
    elim (nat_eq x y) as (λ b. nat_eq x y ≡ b → (b || list_any (nat_eq x) ys) ≡ false → AllByRecursion (λ y. nat_eq x y ≡ false) (y ∷ ys)) [
      | true ↦ λ same none. cc
      | false ↦ λ other none. (other, none_alike x ys none)
    ] refl e

distinct : (es : Tree) → IsOrdered es → IsApart es → IsDistinct nat_eq (numbers es)
unfolding IsDistinct
distinct [] h apart = tt
distinct (e ∷ es) h apart = (
  none_alike e.1.number (numbers es) (test_fails _ (λ any.
      let f = found es (ordered_rest e es h) e.1.number any in
      let is : f.path ≡ e.0 = apart f.path e.0 f.node e.1 (in_whole e es h f.path f.node f.stood) (at_head e es) f.is in
      let some : node_at es e.0 ≡ Some f.node = ap (λ p. node_at es p) (sym is) ∙ f.stood in
      let none = head_apart e es h in
      cc)),
  distinct es (ordered_rest e es h) (λ p q a b s t same. apart p q a b (in_whole e es h p a s) (in_whole e es h q b t) same),
)

zero_distinct : (es : Tree) → IsDistinct nat_eq (numbers es) → list_any (nat_eq 0) (numbers es) ≡ false → IsDistinct nat_eq (0 ∷ numbers es)
unfolding IsDistinct
zero_distinct es h none = (none_alike 0 (numbers es) none, h)

numbers_length : (es : Tree) → length (numbers es) ≡ length es
numbers_length [] = refl
numbers_length (e ∷ es) = ap suc (numbers_length es)

-- nodes with numbers from 1 on, no two alike, are no more than the numbers
few : (es : Tree) (limit : ℕ) → IsOrdered es → IsApart es → ((p : Path) (node : Node) → node_at es p ≡ Some node → (1 ≤ node.number) × (node.number ≤ limit)) → length es ≤ limit
few es limit h apart within =
    let none : list_any (nat_eq 0) (numbers es) ≡ false = test_fails _ (λ any. let f = found es h 0 any in omega (arith, (within f.path f.node f.stood).0, f.is)) in
    let all : length (0 ∷ numbers es) ≤ limit + 1 = length-le_from_distinct_below (0 ∷ numbers es) (limit + 1) (zero_distinct es (distinct es h apart) none) (λ q any. below q any) in
    omega (arith, numbers_length es)
  where
    below : (q : ℕ) → (nat_eq q 0 || list_any (nat_eq q) (numbers es)) ≡ true → q < limit + 1
    below q any =
        elim (nat_eq q 0) as (λ b. nat_eq q 0 ≡ b → (b || list_any (nat_eq q) (numbers es)) ≡ true → q < limit + 1) [
          | true ↦ λ same more. omega (arith, eqb-true _ _ same)
          | false ↦ λ other more. let f = found es h q more in omega (arith, (within f.path f.node f.stood).1, f.is)
        ] refl any

total_most : (q : Path) (es : Tree) → total q es ≤ length es
total_most q [] = omega arith
total_most q (e ∷ es) = omega (arith, total_most q es, at_most_one (strip q e.0))

-- the root is no entry
root_not : (q : Path) (es : Tree) (node : Node) → node_at es [] ≡ Some node → total q es + 1 ≤ length es
root_not q [] node e = cc
root_not q (e ∷ es) node stood =
    elim (tie [] e.0) as (λ b. tie [] e.0 ≡ b → cond b (Some e.1) (node_at es []) ≡ Some node → total q (e ∷ es) + 1 ≤ length (e ∷ es)) [
      | true ↦ λ t s. let none : one q e.0 ≡ 0 = ap (λ p. one q p) (sym (tie_is [] e.0 t)) ∙ root_alone q in omega (arith, total_most q es)
      | false ↦ λ t s. omega (arith, root_not q es node s, at_most_one (strip q e.0))
    ] refl stood

is_there : (o : Option Node) (number : ℕ) (b : Bool) → shape_of o ≡ Some (number, b) → (node : Node) × (o ≡ Some node)
is_there None number b e = cc
is_there (Some node) number b e = (node, refl)

apart_in : (tree : Tree) → IsShape (shape_at tree) → IsApart tree
apart_in tree shape p q a b s t same = shape.one_path p q a.number (is_directory a) (is_directory b) (ap shape_of s) (ap shape_of t ∙ ap (λ n. Some (n, is_directory b)) (sym same))

-- a directory has at most 65,534 entries
pub few_entries : (tree : Tree) → IsOrdered tree → IsShape (shape_at tree) → (q : Path) → total q tree ≤ 65534
few_entries tree h shape q =
    let root = is_there (node_at tree []) 1 true shape.root in
    let nodes : length tree ≤ 65535 = few tree 65535 h (apart_in tree shape) (λ p node s. shape.numbered p (node.number, is_directory node) (ap shape_of s)) in
    omega (arith, root_not q tree root.0 root.1)
