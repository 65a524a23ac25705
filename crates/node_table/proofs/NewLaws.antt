-- The table with the root alone.
use Rattle.std.proofs.Common.{◌≡◌, ◌≢◌, ℕ, false, List, [], ◌∷◌, ◌++◌, length, Some, None, refl, sym, ap, subst, ◌∙◌, ⊎_elim}
use Rattle.std.specs.Prelude.{is_some, nat_eq, ◌||◌}
use Rattle.std.specs.Option.{option_map}
use Rattle.std.specs.Cmp.{nat_cmp_total}
use Rattle.std.specs.Ordering.{nat_cmp, eq_by_cmp}
use Rattle.std.specs.FinSet as sets
use Rattle.std.proofs.Common.{arith}
use Rattle.std.proofs.lemmas.Bool.{cases_eq}
use Rattle.std.proofs.lemmas.Bool.Decides.{nat_tests}
use Rattle.dir_slots.specs.Slots.{number_in}
use Rattle.tree_model.specs.Path.{Path}
use Rattle.tree_model.specs.Tree.{new_tree, node_at}
use Rattle.tree_model.specs.declared.node.Node.{Node}
use Rattle.tree_model.specs.declared.node.Content.TheVariants as contents
use Rattle.node_table.specs.Held.{Nodes, HoldsNodes, held, info, info_of, slots_of}
use Rattle.node_table.specs.Kept.{IsKept}
use Rattle.node_table.specs.declared.held.HeldNode.TheVariants.{Directory}

-- no node, and 0 set apart
pub kept_none : (nodes : Nodes) (used : sets.FinSet nat_cmp) → length nodes ≡ 65536 → ((k : ℕ) → held nodes k ≡ None) → used ≡ sets.insert sets.empty 0 → IsKept nodes used
kept_none nodes used long none is = record {
  places = long;
  numbers = λ k.
      ap (λ s. sets.contains s k) is ∙ sets.contains-insert nat_cmp_total sets.empty 0 k
      ∙ (λ i. tied k i || sets.contains-empty nat_cmp k i) ∙ ap (λ o. nat_eq k 0 || is_some o) (sym (none k));
  directories = λ k slots there. let clash : None ≡ Some (Directory slots) = sym (none k) ∙ there in cc;
}
  where
    tied : (k : ℕ) → eq_by_cmp nat_cmp k 0 ≡ nat_eq k 0
    tied k = grind (arith, nat_tests)

root : Node
root = record { number = 1; content = contents.Directory 0 }

module _ (nodes : Nodes) (first : held nodes 1 ≡ Some (Directory [])) (none : (k : ℕ) → k ≢ 1 → held nodes k ≡ None) where
  new_each : (path : Path) (node : Node) → node_at new_tree path ≡ Some node → option_map info (held nodes node.number) ≡ Some (info_of node.content)
  new_each [] node e =
      let same : record { number = 1; content = contents.Directory 0 } ≡ node = cc in
      subst (λ (x : Node). option_map info (held nodes x.number) ≡ Some (info_of x.content)) same (ap (option_map info) first)
  new_each (name ∷ path) node e = cc

  new_slots : (path : Path) (node : Node) (name : List ℕ) → node_at new_tree path ≡ Some node → number_in (slots_of (held nodes node.number)) name ≡ option_map (λ (n : Node). n.number) (node_at new_tree (path ++ name ∷ []))
  new_slots [] node name e =
      let same : record { number = 1; content = contents.Directory 0 } ≡ node = cc in
      subst (λ (x : Node). number_in (slots_of (held nodes x.number)) name ≡ None) same (ap (λ o. number_in (slots_of o) name) first)
  new_slots (other ∷ path) node name e = cc

  pub new_holds : HoldsNodes nodes new_tree
  new_holds = record {
    each = new_each;
    slots = new_slots;
    others = λ number there.
        ⊎_elim (λ (is : number ≡ 1). ([], record { number = 1; content = contents.Directory 0 }, refl, sym is))
        (λ (ne : number ≡ 1 → ⊥). let nothing : is_some (held nodes number) ≡ false = ap is_some (none number ne) in cc) (cases_eq number 1);
  }
