-- The numbers that a table gives are those that the tree gives.
use Rattle.std.proofs.Common.{◌≡◌, ℕ, ◌≤◌, ◌<◌, ◌+◌, suc, Bool, true, false, not, cond, [], ◌∷◌, length, Some, None, refl, sym, ap, subst, ◌∙◌, arith, ⊎_elim}
use Rattle.std.specs.Prelude.{Option, is_some, nat_eq, ◌||◌, MatchOption}
use Rattle.std.specs.Option.{option_map}
use Rattle.std.specs.FinMap.Entries.{length_without}
use Rattle.std.proofs.lemmas.Bool.{cases_lt, cases_eq, eqb-true}
use Rattle.tree_model.specs.Path.{Path, path_cmp}
use Rattle.tree_model.specs.Laws.{IsLeastUnused}
use Rattle.tree_model.specs.Order.{IsOrdered}
use Rattle.tree_model.specs.Shape.{IsTree, shape_of}
use Rattle.tree_model.specs.Tree.{Tree, node_at, without, is_used, least_unused, is_directory}
use Rattle.tree_model.specs.declared.node.Node.{Node}
use Rattle.tree_model.proofs.AttemptLaws.{path_total, true_T}
use Rattle.tree_model.proofs.EntryCounts.{ordered_rest}
use Rattle.tree_model.proofs.Fronts.{tie, tie_is, tie_itself, test_fails}
use Rattle.tree_model.proofs.Numbers.{gives_least}
use Rattle.tree_model.proofs.Paths.{same_test}
use Rattle.tree_model.proofs.StepShapes.{used_at}
use Rattle.node_table.specs.Numbers.{IsNext, AllUsed}
use Rattle.node_table.specs.Held.{Nodes, HoldsNodes, held, info}
use Rattle.node_table.specs.declared.held.HeldNode.{HeldNode}
use Rattle.node_table.specs.declared.held.NodeInfo.{NodeInfo}
use Rattle.node_table.proofs.WalkLaws.{node_of}

-- ---- nodes of a tree in order

-- the path of the first node isn't found among the others
pub head_apart : (e : Path × Node) (es : Tree) → IsOrdered (e ∷ es) → node_at es e.0 ≡ None
head_apart e es h =
    let left = without es e.0 in
    let whole : 1 + length left ≡ suc (length es) =
    subst (λ (t : Bool). cond (is_some (cond t (Some e.1) (node_at es e.0))) 1 0 + length (cond (not t) (e ∷ left) left) ≡ suc (length es)) (tie_itself e.0) (length_without path_cmp path_total e.0 (e ∷ es) (true_T _ h)) in
    let rest : cond (is_some (node_at es e.0)) 1 0 + length left ≡ length es = length_without path_cmp path_total e.0 es (true_T _ (ordered_rest e es h)) in
    elim (node_at es e.0) as (λ o. cond (is_some o) 1 0 + length left ≡ length es → o ≡ None) [ None ↦ λ n. refl | Some x ↦ λ n. absurd (omega arith) ] rest

pub in_whole : (e : Path × Node) (es : Tree) → IsOrdered (e ∷ es) → (p : Path) (node : Node) → node_at es p ≡ Some node → node_at (e ∷ es) p ≡ Some node
in_whole e es h p node stood =
    let apart : tie p e.0 ≡ false = test_fails _ (λ t. let none : node_at es p ≡ None = ap (λ x. node_at es x) (tie_is _ _ t) ∙ head_apart e es h in cc) in
    ap (λ b. cond b (Some e.1) (node_at es p)) apart ∙ stood

pub at_head : (e : Path × Node) (es : Tree) → node_at (e ∷ es) e.0 ≡ Some e.1
at_head e es = ap (λ b. cond b (Some e.1) (node_at es e.0)) (tie_itself e.0)

-- the node of a used number
used_stands : (es : Tree) → IsOrdered es → (number : ℕ) → is_used es number ≡ true → (path : Path) × (node : Node) × (node_at es path ≡ Some node) × (node.number ≡ number)
used_stands [] h number used = cc
used_stands (e ∷ es) h number used =
    elim (nat_eq e.1.number number) as (λ b. nat_eq e.1.number number ≡ b → (b || is_used es number) ≡ true → (path : Path) × (node : Node) × (node_at (e ∷ es) path ≡ Some node) × (node.number ≡ number)) [
      | true ↦ λ same more. (e.0, e.1, at_head e es, eqb-true _ _ same)
      | false ↦ λ other more. let f = used_stands es (ordered_rest e es h) number more in (f.0, f.1, in_whole e es h f.0 f.1 f.2, f.3)
    ] refl used

-- ---- numbers of a table

is_held : (o : Option HeldNode) (i : NodeInfo) → option_map info o ≡ Some i → is_some o ≡ true
is_held None i e = cc
is_held (Some entry) i e = refl

module _ (nodes : Nodes) (tree : Tree) (h : IsTree tree) (holds : HoldsNodes nodes tree) where
  -- a node of the tree is held
  pub held_there : (path : Path) (node : Node) → node_at tree path ≡ Some node → is_some (held nodes node.number) ≡ true
  held_there path node is = is_held _ _ (holds.each path node is)

  pub used_is : (number : ℕ) → is_used tree number ≡ is_some (held nodes number)
  used_is number = same_test _ _
      (λ used. let s = used_stands tree h.ordered number used in subst (λ (n : ℕ). is_some (held nodes n) ≡ true) s.3 (held_there s.0 s.1 s.2))
      (λ some. let o = holds.others number some in used_at tree o.0 number (is_directory o.1) (ap shape_of o.2 ∙ (λ i. Some (o.3 i, is_directory o.1))))

  root_held : is_some (held nodes 1) ≡ true
  root_held = let root = node_of (node_at tree []) 1 true h.shape.root in subst (λ (n : ℕ). is_some (held nodes n) ≡ true) root.2 (held_there [] root.0 root.1)

  from_two : (number : ℕ) → IsNext nodes number → 2 ≤ number
  from_two number next =
      ⊎_elim (λ (is : number ≡ 1). let no : is_some (held nodes 1) ≡ false = ap (λ n. is_some (held nodes n)) (sym is) ∙ next.free in let yes = root_held in cc)
      (λ (ne : number ≡ 1 → ⊥). omega (arith, next.at_least, ne)) (cases_eq number 1)

  not_less : (number other : ℕ) → IsNext nodes number → IsLeastUnused tree other → number < other → ⊥
  not_less number other next unused lt = let used : is_some (held nodes number) ≡ true = sym (used_is number) ∙ unused.least number (from_two number next) lt in let free = next.free in cc

  not_more : (number other : ℕ) → IsNext nodes number → IsLeastUnused tree other → other < number → ⊥
  not_more number other next unused lt = let used : is_used tree other ≡ true = used_is other ∙ next.least other (omega (arith, unused.at_least)) lt in let free = unused.unused in cc

  same_number : (number other : ℕ) → IsNext nodes number → IsLeastUnused tree other → number ≡ other
  same_number number other next unused =
      ⊎_elim (λ (lt : number < other). absurd (not_less number other next unused lt))
      (λ (ge : other ≤ number). ⊎_elim (λ (lt : other < number). absurd (not_more number other next unused lt)) (λ (le : number ≤ other). omega arith) (cases_lt other number))
      (cases_lt number other)

  next_some : (number : ℕ) → IsNext nodes number → (o : Option ℕ) → least_unused tree ≡ o → Some number ≡ o
  next_some number next (Some other) is = ap Some (same_number number other next (gives_least.some tree other is))
  next_some number next None is =
      let used : is_some (held nodes number) ≡ true = sym (used_is number) ∙ gives_least.none tree is number (from_two number next) next.at_most in let free = next.free in cc

  next_none : AllUsed nodes → (o : Option ℕ) → least_unused tree ≡ o → None ≡ o
  next_none all (Some other) is =
      let unused = gives_least.some tree other is in
      let used : is_used tree other ≡ true = used_is other ∙ all other (omega (arith, unused.at_least)) unused.at_most in let free = unused.unused in cc
  next_none all None is = refl

  -- the number that a table gives out is the tree's
  pub next_is : (r : Option ℕ) → MatchOption r (AllUsed nodes) (λ number. IsNext nodes number) → r ≡ least_unused tree
  next_is None all = next_none all (least_unused tree) refl
  next_is (Some number) next = next_some number next (least_unused tree) refl
