-- Numbers, slots and sizes of a planned change are within the rules.
use Rattle.std.proofs.Common.{◌≡◌, ◌≢◌, ◌<◌, ◌≤◌, ℕ, Bool, true, false, length, Some, refl, sym, ap, ◌∙◌, arith}
use Rattle.std.specs.Prelude.{nat_lt, nat_eq, min, Result, Ok, Err, is_some, if◌then◌else◌}
use Rattle.std.specs.Option.{option_map}
use Rattle.std.proofs.lemmas.Bool.Decides.{nat_tests}
use Rattle.dir_slots.specs.Slots.{slot_of, first_unused}
use Rattle.tree_model.specs.Path.{Path}
use Rattle.tree_model.specs.Shape.{IsTree}
use Rattle.tree_model.specs.Step.{◌>>=◌, refuse_if}
use Rattle.tree_model.specs.Tree.{Tree, node_at}
use Rattle.tree_model.specs.declared.node.Content.{Content}
use Rattle.tree_model.specs.declared.node.Content.TheVariants as contents
use Rattle.tree_model.specs.declared.node.Node.{Node}
use Rattle.tree_model.specs.declared.refusal.Refusal.{Refusal}
use Rattle.tree_model.specs.declared.refusal.Refusal.TheVariants.{TooBig}
use Rattle.node_table.specs.Changes.{HoldsSlots, IsNumber}
use Rattle.node_table.specs.Checks.{file_at, may_size}
use Rattle.node_table.specs.Held.{AreDirectories, Nodes, HoldsNodes, held, info, info_of, slots_of}
use Rattle.node_table.specs.declared.held.HeldNode.{HeldNode}
use Rattle.node_table.specs.declared.held.HeldNode.TheVariants.{File}
use Rattle.node_table.specs.declared.held.NodeInfo.{NodeInfo}
use Rattle.node_table.specs.declared.held.NodeInfo.TheVariants as infos
use Rattle.node_table.proofs.MoveSlots.{slot_within}
use Rattle.node_table.proofs.PlanLaws.{comes_into}
use Rattle.node_table.proofs.ShapeLaws.{holds_shape}

module _ (nodes : Nodes) (tree : Tree) (h : IsTree tree) (holds : HoldsNodes nodes tree) where
  -- a number that has a node is one
  pub number_within : (n : ℕ) (node : HeldNode) → held nodes n ≡ Some node → IsNumber n
  number_within n node is =
      let at = (holds_shape nodes tree holds).others n (ap is_some is) in
      h.shape.numbered at.0 (n, at.1) at.2

  -- a file that is held has at most so many bytes
  pub size_within : (n size : ℕ) → held nodes n ≡ Some (File size) → size ≤ 4294967296
  size_within n size is =
      let at = holds.others n (ap is_some is) in
      let node : Node = at.1 in
      by at.0 node at.2 node.content refl (sym (ap (option_map info) (ap (held nodes) at.3 ∙ is)) ∙ holds.each at.0 node at.2)
    where
      told : NodeInfo → ℕ
      told (infos.File n) = n
      told (infos.Directory n) = n

      by : (path : Path) (node : Node) → node_at tree path ≡ Some node → (c : Content) → node.content ≡ c → Some (infos.File size) ≡ Some (info_of node.content) → size ≤ 4294967296
      by path node stands (contents.File bytes) same e =
          let both : Some (infos.File size) ≡ Some (infos.File (length bytes)) = e ∙ ap (λ x. Some (info_of x)) same in
          let inner : infos.File size ≡ infos.File (length bytes) = cc in
          let long = h.sizes path node.number bytes (stands ∙ (λ i. Some (record { number = node.number; content = same i }))) in
          omega (arith, long, ap told inner)
      by path node stands (contents.Directory width) same e =
          let both : Some (infos.File size) ≡ Some (infos.Directory width) = e ∙ ap (λ x. Some (info_of x)) same in
          let inner : infos.File size ≡ infos.Directory width = cc in cc

-- a size that isn't refused
pub few_bytes : (nodes : Nodes) (path : Path) (size number : ℕ) → may_size nodes path size ≡ Ok number → size ≤ 4294967296
few_bytes nodes path size number e = by (file_at nodes path) (nat_lt 4294967296 size) refl e
  where
    by : (r : Result ℕ Refusal) (t : Bool) → nat_lt 4294967296 size ≡ t → (r >>= (λ n. refuse_if t TooBig >>= (λ _. Ok n))) ≡ Ok number → size ≤ 4294967296
    by (Ok n) true is e = cc
    by (Ok n) false is e = grind (arith, nat_tests)
    by (Err refusal) t is e = cc

-- ---- slots

-- the slot of a name is below the greatest width
pub slot_below : (nodes : Nodes) → AreDirectories nodes → (parent slot : ℕ) (name : _) → HoldsSlots nodes parent → slot_of (slots_of (held nodes parent)) name ≡ Some slot → slot < 65534
slot_below nodes directories parent slot name is at = omega (arith, slot_within (slots_of (held nodes parent)) name slot at, (directories parent (slots_of (held nodes parent)) is).width)

-- so is the one that an entry comes into
pub comes_below : (nodes : Nodes) (parent into slot into_slot : ℕ) → slot < 65534 → (parent ≢ into → first_unused (slots_of (held nodes into)) < 65534) → into_slot ≡ comes_into nodes parent into slot → into_slot < 65534
comes_below nodes parent into slot into_slot below room is = by (nat_eq into parent) refl is
  where
    first : ℕ
    first = first_unused (slots_of (held nodes into))

    by : (t : Bool) → nat_eq into parent ≡ t → into_slot ≡ (if t then min (first_unused (slots_of (held nodes into))) slot else first_unused (slots_of (held nodes into))) → into_slot < 65534
    by true same e = omega (arith, e, below)
    by false apart e = let differ : parent ≢ into = grind (arith, nat_tests) in omega (arith, e, room differ)
