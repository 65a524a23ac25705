-- What is held of the shape of a tree, after a node is made, taken away or renamed.
use Rattle.std.proofs.Common.{◌≡◌, ◌≢◌, ℕ, Bool, true, false, not, cond, List, [], ◌∷◌, ◌++◌, Some, None, refl, sym, ap, subst, ◌∙◌, inl, inr, ⊎_elim, append-nil}
use Rattle.std.specs.Prelude.{Option, is_some, bytes_eq, if◌then◌else◌}
use Rattle.std.specs.Option.{option_map}
use Rattle.std.proofs.lemmas.Bool.{cases_eq}
use Rattle.std.specs.Cmp.Lexicographic.{nat_list_eq_equiv}
use Rattle.dir_slots.specs.Slots.{number_in}
use Rattle.tree_model.specs.Path.{Path}
use Rattle.tree_model.specs.Shape.{IsShape, shape_at, shape_of}
use Rattle.tree_model.specs.Tree.{Tree, node_at}
use Rattle.tree_model.specs.Tree as trees
use Rattle.tree_model.specs.declared.node.Node.{Node}
use Rattle.tree_model.proofs.Fronts.{tie, tie_is, tie_same, tie_itself, test_fails, decide, no_longer}
use Rattle.tree_model.proofs.Paths.{same_name}
use Rattle.tree_model.proofs.Shapes.{Shape, with_shape, without_shape}
use Rattle.node_table.specs.Held.{Nodes, HoldsNodes, held, info, info_of, slots_of, is_directory}
use Rattle.node_table.specs.declared.held.HeldNode.{HeldNode}
use Rattle.node_table.proofs.WalkLaws.{same_kind, node_of}

abbrev pub kind : Option HeldNode → Option Bool
kind o = option_map (λ (e : HeldNode). is_directory (info e)) o

abbrev pub number_of : Option (ℕ × Bool) → Option ℕ
number_of o = option_map (λ (x : ℕ × Bool). x.0) o

-- the nodes are those of a shape
pub record HoldsShape (nodes : Nodes) (s : Shape) : Type 0 where
  pub kinds : (q : Path) (n : ℕ) (b : Bool) → s q ≡ Some (n, b) → kind (held nodes n) ≡ Some b
  pub slots : (q : Path) (n : ℕ) (b : Bool) (name : List ℕ) → s q ≡ Some (n, b) → number_in (slots_of (held nodes n)) name ≡ number_of (s (q ++ name ∷ []))
  pub others : (n : ℕ) → is_some (held nodes n) ≡ true → (q : Path) × (b : Bool) × (s q ≡ Some (n, b))

-- ---- of a tree

kind_is : (o : Option HeldNode) (node : Node) → option_map info o ≡ Some (info_of node.content) → kind o ≡ Some (trees.is_directory node)
kind_is None node e = cc
kind_is (Some entry) node e = let same : info entry ≡ info_of node.content = cc in ap (λ i. Some (is_directory i)) same ∙ ap Some (same_kind node.content)

numbers_are : (o : Option Node) → option_map (λ (n : Node). n.number) o ≡ number_of (shape_of o)
numbers_are None = refl
numbers_are (Some node) = refl

pub holds_shape : (nodes : Nodes) (tree : Tree) → HoldsNodes nodes tree → HoldsShape nodes (shape_at tree)
holds_shape nodes tree holds = record {
  kinds = λ q n b e.
      let d = node_of (node_at tree q) n b e in
      subst (λ (k : ℕ). kind (held nodes k) ≡ Some b) d.2 (kind_is (held nodes d.0.number) d.0 (holds.each q d.0 d.1) ∙ ap Some d.3);
  slots = λ q n b name e.
      let d = node_of (node_at tree q) n b e in
      subst (λ (k : ℕ). number_in (slots_of (held nodes k)) name ≡ number_of (shape_at tree (q ++ name ∷ []))) d.2 (holds.slots q d.0 name d.1 ∙ numbers_are (node_at tree (q ++ name ∷ [])));
  others = λ n there. let o = holds.others n there in (o.0, trees.is_directory o.1, ap shape_of o.2 ∙ (λ i. Some (o.3 i, trees.is_directory o.1)));
}

pub holds_nodes : (nodes : Nodes) (tree : Tree) → HoldsShape nodes (shape_at tree) → ((path : Path) (node : Node) → node_at tree path ≡ Some node → option_map info (held nodes node.number) ≡ Some (info_of node.content)) → HoldsNodes nodes tree
holds_nodes nodes tree shape each = record {
  each = each;
  slots = λ path node name e. shape.slots path node.number (trees.is_directory node) name (ap shape_of e) ∙ sym (numbers_are (node_at tree (path ++ name ∷ [])));
  others = λ number there.
      let o = shape.others number there in
      let d = node_of (node_at tree o.0) number o.1 o.2 in
      (o.0, d.0, d.1, d.2);
}

pub same_holds : (nodes : Nodes) (s t : Shape) → ((q : Path) → t q ≡ s q) → HoldsShape nodes s → HoldsShape nodes t
same_holds nodes s t same h = let e : s ≡ t = λ i q. sym (same q) i in subst (HoldsShape nodes) e h

-- ---- paths of one name more

pub one_name : (p q : Path) (x y : List ℕ) → p ++ x ∷ [] ≡ q ++ y ∷ [] → (p ≡ q) × (x ≡ y)
one_name [] [] x y e = let both : x ≡ y = cc in (refl, both)
one_name [] (b ∷ []) x y e = cc
one_name [] (b ∷ c ∷ q) x y e = cc
one_name (a ∷ []) [] x y e = cc
one_name (a ∷ c ∷ p) [] x y e = cc
one_name (a ∷ p) (b ∷ q) x y e =
    let heads : a ≡ b = cc in
    let tails : p ++ x ∷ [] ≡ q ++ y ∷ [] = cc in
    let rest = one_name p q x y tails in
    let fronts : p ≡ q = rest.0 in
    let whole : a ∷ p ≡ b ∷ q = cc in
    (whole, rest.1)

-- what is at a path is a child of what is in front of it
pub child_of : (s : Shape) → IsShape s → (p : Path) (name : List ℕ) (x : ℕ × Bool) → s (p ++ name ∷ []) ≡ Some x → (number : ℕ) × (s p ≡ Some (number, true))
child_of s h p name x e = h.fronts p name [] x e

pub none_of : {A : Type 0} (o : Option A) → ((x : A) → o ≡ Some x → ⊥) → o ≡ None
none_of None f = refl
none_of (Some x) f = absurd (f x refl)

-- nothing stands below where nothing stands
pub none_below : (s : Shape) → IsShape s → (p : Path) (name : List ℕ) → s p ≡ None → s (p ++ name ∷ []) ≡ None
none_below s h p name none = none_of (s (p ++ name ∷ [])) (λ x e. let d = child_of s h p name x e in let some : s p ≡ Some (d.0, true) = d.1 in cc)

pub not_itself : (p : Path) (name : List ℕ) → p ++ name ∷ [] ≡ p → ⊥
not_itself p name e = no_longer p [] name [] (sym e ∙ ap (λ x. x ++ name ∷ []) (sym (append-nil p)))

one_path : (s : Shape) → IsShape s → (p q : Path) (n : ℕ) (a b : Bool) → s p ≡ Some (n, a) → s q ≡ Some (n, b) → p ≡ q
one_path s h p q n a b e f = h.one_path p q n a b e f

is_some_kind : (o : Option HeldNode) → is_some (kind o) ≡ is_some o
is_some_kind None = refl
is_some_kind (Some entry) = refl

pub there_still : (o p : Option HeldNode) → kind o ≡ kind p → is_some o ≡ true → is_some p ≡ true
there_still o p e there = sym (is_some_kind p) ∙ ap is_some (sym e) ∙ is_some_kind o ∙ there

first_is : (x y : Option (ℕ × Bool)) (n m : ℕ) (a b : Bool) → x ≡ y → x ≡ Some (n, a) → y ≡ Some (m, b) → n ≡ m
first_is x y n m a b e f g = let same : Some (n, a) ≡ Some (m, b) = sym f ∙ e ∙ g in let pairs : (n, a) ≡ (m, b) = cc in ap (λ (z : ℕ × Bool). z.0) pairs

pub same_bytes : (a b : List ℕ) → bytes_eq a b ≡ true → a ≡ b
same_bytes a b e = same_name a b e

pub bytes_itself : (a : List ℕ) → bytes_eq a a ≡ true
bytes_itself a = nat_list_eq_equiv.refl a

-- ---- a new node

-- the nodes after a new one: its directory's slots have its number under its name
pub record NodesMade (old new : Nodes) (parent number : ℕ) (name : List ℕ) (fresh : Option HeldNode) : Type 0 where
  pub apart : number ≢ parent
  pub at_number : held new number ≡ fresh
  pub at_parent : (x : List ℕ) → number_in (slots_of (held new parent)) x ≡ (if bytes_eq name x then Some number else number_in (slots_of (held old parent)) x)
  pub parent_kind : kind (held new parent) ≡ kind (held old parent)
  pub others : (k : ℕ) → k ≢ number → k ≢ parent → held new k ≡ held old k

module _ (s : Shape) (h : IsShape s) (above : Path) (name : List ℕ) (parent number : ℕ) (b : Bool) (fresh : HeldNode) (old new : Nodes)
    (holds : HoldsShape old s) (parent_is : s above ≡ Some (parent, true)) (free : s (above ++ name ∷ []) ≡ None) (unused : held old number ≡ None)
    (fresh_kind : kind (Some fresh) ≡ Some b) (fresh_slots : slots_of (Some fresh) ≡ []) (made : NodesMade old new parent number name (Some fresh)) where
  -- a node of before has another number than the new one
  not_new : (q : Path) (n : ℕ) (c : Bool) → s q ≡ Some (n, c) → n ≢ number
  not_new q n c e is = let some : kind (held old n) ≡ Some c = holds.kinds q n c e in let none : kind (held old n) ≡ None = ap (λ k. kind (held old k)) is ∙ ap kind unused in cc

  kept : (q : Path) → (q ≡ above ++ name ∷ [] → ⊥) → with_shape s (above ++ name ∷ []) (number, b) q ≡ s q
  kept q ne = ap (λ t. cond t (Some (number, b)) (s q)) (test_fails (tie q (above ++ name ∷ [])) (λ t. ne (tie_is _ _ t)))

  at_new : with_shape s (above ++ name ∷ []) (number, b) (above ++ name ∷ []) ≡ Some (number, b)
  at_new = ap (λ t. cond t (Some (number, b)) (s (above ++ name ∷ []))) (tie_itself (above ++ name ∷ []))

  data Found (q : Path) (n : ℕ) (c : Bool) : Type 0 where
    it : q ≡ above ++ name ∷ [] → number ≡ n → b ≡ c → Found q n c
    old_one : (q ≡ above ++ name ∷ [] → ⊥) → s q ≡ Some (n, c) → Found q n c

  found : (q : Path) (n : ℕ) (c : Bool) → with_shape s (above ++ name ∷ []) (number, b) q ≡ Some (n, c) → Found q n c
  found q n c e =
      elim (decide q (above ++ name ∷ [])) [
        | inl is ↦
            let same : Some (number, b) ≡ Some (n, c) = sym at_new ∙ ap (with_shape s (above ++ name ∷ []) (number, b)) (sym is) ∙ e in
            let pairs : (number, b) ≡ (n, c) = cc in
            it is (ap (λ (x : ℕ × Bool). x.0) pairs) (ap (λ (x : ℕ × Bool). x.1) pairs)
        | inr untied ↦ old_one (λ is. let yes = tie_same q (above ++ name ∷ []) is in cc) (sym (ap (λ t. cond t (Some (number, b)) (s q)) untied) ∙ e)
      ]

  kind_kept : (n : ℕ) → n ≢ number → kind (held new n) ≡ kind (held old n)
  kind_kept n ne = ⊎_elim (λ (is : n ≡ parent). ap (λ k. kind (held new k)) is ∙ made.parent_kind ∙ sym (ap (λ k. kind (held old k)) is)) (λ (np : n ≡ parent → ⊥). ap kind (made.others n ne np)) (cases_eq n parent)

  new_slots : (x : List ℕ) → number_in (slots_of (held new number)) x ≡ number_of (with_shape s (above ++ name ∷ []) (number, b) ((above ++ name ∷ []) ++ x ∷ []))
  new_slots x =
      ap (λ o. number_in (slots_of o) x) made.at_number ∙ ap (λ slots. number_in slots x) fresh_slots
      ∙ sym (ap number_of (kept ((above ++ name ∷ []) ++ x ∷ []) (not_itself (above ++ name ∷ []) x) ∙ none_below s h (above ++ name ∷ []) x free))

  parent_slots : (x : List ℕ) → number_in (slots_of (held new parent)) x ≡ number_of (with_shape s (above ++ name ∷ []) (number, b) (above ++ x ∷ []))
  parent_slots x =
      made.at_parent x
      ∙ elim (bytes_eq name x) as (λ t. bytes_eq name x ≡ t → (if t then Some number else number_in (slots_of (held old parent)) x) ≡ number_of (with_shape s (above ++ name ∷ []) (number, b) (above ++ x ∷ []))) [
        | true ↦ λ e. sym (ap (λ y. number_of (with_shape s (above ++ name ∷ []) (number, b) (above ++ y ∷ []))) (sym (same_bytes name x e)) ∙ ap number_of at_new)
        | false ↦ λ e. holds.slots above parent true x parent_is
            ∙ sym (ap number_of (kept (above ++ x ∷ []) (λ is. let names = one_name above above x name is in let yes : bytes_eq name x ≡ true = ap (bytes_eq name) names.1 ∙ bytes_itself name in cc)))
      ] refl

  old_slots : (q : Path) (n : ℕ) (c : Bool) (x : List ℕ) → s q ≡ Some (n, c) → number_in (slots_of (held new n)) x ≡ number_of (with_shape s (above ++ name ∷ []) (number, b) (q ++ x ∷ []))
  old_slots q n c x e =
      ⊎_elim (λ (is : n ≡ parent).
      let place : q ≡ above = one_path s h q above n c true e (parent_is ∙ (λ i. Some (sym is i, true))) in
      ap (λ k. number_in (slots_of (held new k)) x) is ∙ parent_slots x ∙ sym (ap (λ p. number_of (with_shape s (above ++ name ∷ []) (number, b) (p ++ x ∷ []))) place))
      (λ (np : n ≡ parent → ⊥).
      ap (λ o. number_in (slots_of o) x) (made.others n (not_new q n c e) np) ∙ holds.slots q n c x e
      ∙ sym (ap number_of (kept (q ++ x ∷ []) (λ is. np (first_is (s q) (s above) n parent c true (ap s (one_name q above x name is).0) e parent_is)))))
      (cases_eq n parent)

  kinds_at : (q : Path) (n : ℕ) (c : Bool) → Found q n c → kind (held new n) ≡ Some c
  kinds_at q n c (it is same kinds) = ap (λ k. kind (held new k)) (sym same) ∙ ap kind made.at_number ∙ fresh_kind ∙ ap Some kinds
  kinds_at q n c (old_one ne e) = kind_kept n (not_new q n c e) ∙ holds.kinds q n c e

  slots_at : (q : Path) (n : ℕ) (c : Bool) (x : List ℕ) → Found q n c → number_in (slots_of (held new n)) x ≡ number_of (with_shape s (above ++ name ∷ []) (number, b) (q ++ x ∷ []))
  slots_at q n c x (it is same kinds) = ap (λ k. number_in (slots_of (held new k)) x) (sym same) ∙ new_slots x ∙ sym (ap (λ p. number_of (with_shape s (above ++ name ∷ []) (number, b) (p ++ x ∷ []))) is)
  slots_at q n c x (old_one ne e) = old_slots q n c x e

  pub made_holds : HoldsShape new (with_shape s (above ++ name ∷ []) (number, b))
  made_holds = record {
    kinds = λ q n c e. kinds_at q n c (found q n c e);
    slots = λ q n c x e. slots_at q n c x (found q n c e);
    others = λ n there.
        ⊎_elim (λ (is : n ≡ number). (above ++ name ∷ [], b, at_new ∙ (λ i. Some (sym is i, b))))
        (λ (ne : n ≡ number → ⊥).
        let o = holds.others n (there_still (held new n) (held old n) (kind_kept n ne) there) in
        (o.0, o.1, kept o.0 (λ is. let none : s o.0 ≡ None = ap s is ∙ free in let some : s o.0 ≡ Some (n, o.1) = o.2 in cc) ∙ o.2))
        (cases_eq n number);
  }

-- ---- a node taken away

-- the nodes after one is gone: its directory's slots have no number under its name
pub record NodesRemoved (old new : Nodes) (parent number : ℕ) (name : List ℕ) : Type 0 where
  pub at_number : held new number ≡ None
  pub at_parent : (x : List ℕ) → number_in (slots_of (held new parent)) x ≡ (if bytes_eq name x then None else number_in (slots_of (held old parent)) x)
  pub parent_kind : kind (held new parent) ≡ kind (held old parent)
  pub others : (k : ℕ) → k ≢ number → k ≢ parent → held new k ≡ held old k

module _ (s : Shape) (h : IsShape s) (above : Path) (name : List ℕ) (parent number : ℕ) (b : Bool) (old new : Nodes)
    (holds : HoldsShape old s) (parent_is : s above ≡ Some (parent, true)) (there : s (above ++ name ∷ []) ≡ Some (number, b)) (gone : NodesRemoved old new parent number name) where
  left : (q : Path) → (q ≡ above ++ name ∷ [] → ⊥) → without_shape s (above ++ name ∷ []) q ≡ s q
  left q ne = ap (λ t. cond (not t) (s q) None) (test_fails (tie (above ++ name ∷ []) q) (λ t. ne (sym (tie_is _ _ t))))

  at_gone : without_shape s (above ++ name ∷ []) (above ++ name ∷ []) ≡ None
  at_gone = ap (λ t. cond (not t) (s (above ++ name ∷ [])) None) (tie_itself (above ++ name ∷ []))

  record Stood (q : Path) (n : ℕ) (c : Bool) : Type 0 where
    apart : q ≡ above ++ name ∷ [] → ⊥
    is : s q ≡ Some (n, c)

  stood : (q : Path) (n : ℕ) (c : Bool) → without_shape s (above ++ name ∷ []) q ≡ Some (n, c) → Stood q n c
  stood q n c e =
      let apart : q ≡ above ++ name ∷ [] → ⊥ = λ is. let none : without_shape s (above ++ name ∷ []) q ≡ None = ap (without_shape s (above ++ name ∷ [])) is ∙ at_gone in cc in
      record { apart = apart; is = sym (left q apart) ∙ e }

  not_gone : (q : Path) (n : ℕ) (c : Bool) → Stood q n c → n ≢ number
  not_gone q n c o is = o.apart (one_path s h q (above ++ name ∷ []) n c b o.is (there ∙ (λ i. Some (sym is i, b))))

  kind_left : (n : ℕ) → n ≢ number → kind (held new n) ≡ kind (held old n)
  kind_left n ne = ⊎_elim (λ (is : n ≡ parent). ap (λ k. kind (held new k)) is ∙ gone.parent_kind ∙ sym (ap (λ k. kind (held old k)) is)) (λ (np : n ≡ parent → ⊥). ap kind (gone.others n ne np)) (cases_eq n parent)

  above_slots : (x : List ℕ) → number_in (slots_of (held new parent)) x ≡ number_of (without_shape s (above ++ name ∷ []) (above ++ x ∷ []))
  above_slots x =
      gone.at_parent x
      ∙ elim (bytes_eq name x) as (λ t. bytes_eq name x ≡ t → (if t then None else number_in (slots_of (held old parent)) x) ≡ number_of (without_shape s (above ++ name ∷ []) (above ++ x ∷ []))) [
        | true ↦ λ e. sym (ap (λ y. number_of (without_shape s (above ++ name ∷ []) (above ++ y ∷ []))) (sym (same_bytes name x e)) ∙ ap number_of at_gone)
        | false ↦ λ e. holds.slots above parent true x parent_is
            ∙ sym (ap number_of (left (above ++ x ∷ []) (λ is. let names = one_name above above x name is in let yes : bytes_eq name x ≡ true = ap (bytes_eq name) names.1 ∙ bytes_itself name in cc)))
      ] refl

  left_slots : (q : Path) (n : ℕ) (c : Bool) (x : List ℕ) → Stood q n c → number_in (slots_of (held new n)) x ≡ number_of (without_shape s (above ++ name ∷ []) (q ++ x ∷ []))
  left_slots q n c x o =
      ⊎_elim (λ (is : n ≡ parent).
      let place : q ≡ above = one_path s h q above n c true o.is (parent_is ∙ (λ i. Some (sym is i, true))) in
      ap (λ k. number_in (slots_of (held new k)) x) is ∙ above_slots x ∙ sym (ap (λ p. number_of (without_shape s (above ++ name ∷ []) (p ++ x ∷ []))) place))
      (λ (np : n ≡ parent → ⊥).
      ap (λ o. number_in (slots_of o) x) (gone.others n (not_gone q n c o) np) ∙ holds.slots q n c x o.is
      ∙ sym (ap number_of (left (q ++ x ∷ []) (λ is. np (first_is (s q) (s above) n parent c true (ap s (one_name q above x name is).0) o.is parent_is)))))
      (cases_eq n parent)

  pub removed_holds : HoldsShape new (without_shape s (above ++ name ∷ []))
  removed_holds = record {
    kinds = λ q n c e. let o = stood q n c e in kind_left n (not_gone q n c o) ∙ holds.kinds q n c o.is;
    slots = λ q n c x e. left_slots q n c x (stood q n c e);
    others = λ n some.
        let ne : n ≢ number = λ is. let none : held new n ≡ None = ap (held new) is ∙ gone.at_number in cc in
        let o = holds.others n (there_still (held new n) (held old n) (kind_left n ne) some) in
        (o.0, o.1, left o.0 (λ is. ne (first_is (s o.0) (s (above ++ name ∷ [])) n number o.1 b (ap s is) o.2 there)) ∙ o.2);
  }
