-- The nodes of a tree and those that are seen, by their numbers.
use Rattle.std.proofs.Common.{◌≡◌, ℕ, Bool, true, false, cond, List, [], ◌∷◌, take, map, Some, None, refl, sym, ap, subst, ◌∙◌, arith}
use Rattle.std.specs.Prelude.{◌&&◌, ◌||◌, nat_eq, Option, option_and_then}
use Rattle.std.specs.List.{AllByRecursion}
use Rattle.std.specs.Ordering.{eq_by_cmp, ordering_reverse, is_lt, is_eq}
use Rattle.std.specs.declared.cmp.Ordering.{Ordering}
use Rattle.std.specs.declared.cmp.Ordering.TheVariants.{Less, Equal, Greater}
use Rattle.std.specs.Cmp.{tied_itself}
use Rattle.std.specs.FinMap.Entries.{is_sorted, below_all}
use Rattle.std.proofs.lemmas.Bool.Decides.{nat_tests}
use Rattle.block_format.specs.Inode.{blocks_of}
use Rattle.block_format.specs.declared.inode.Inode.{Inode}
use Rattle.block_format.specs.declared.inode.Inode.TheVariants.{Unused, File, Directory}
use Rattle.place_words.specs.Different.{is_among, Distinct}
use Rattle.tree_model.specs.Path.{Path, path_cmp}
use Rattle.tree_model.specs.Tree.{Tree, node_at}
use Rattle.tree_model.specs.declared.node.Node.{Node}
use Rattle.tree_model.specs.declared.node.Content.TheVariants as tree
use Rattle.tree_model.proofs.AttemptLaws.{path_total}
use Rattle.image_model.specs.Walk.{is_used}
use Rattle.image_model.specs.Seen.{Seen}
use Rattle.image_model.specs.Slots.{inode_of, number_along}
use Rattle.image_model.specs.Sound.{IsNamed}
use Rattle.image_model.specs.Stands.{node_along, node_of, bytes_from}
use Rattle.image_model.proofs.NodePlaces.{numbers, AllUsed, used_among}

-- ---- the entries of a tree in order are found in it

abbrev Found : Tree → Tree → Type 0
Found whole es = AllByRecursion (λ (e : Path × Node). node_at whole e.0 ≡ Some e.1) es

and_first : (a b : Bool) → (a && b) ≡ true → a ≡ true
and_first true b e = refl
and_first false b e = cc

and_second : (a b : Bool) → (a && b) ≡ true → b ≡ true
and_second true b e = e
and_second false b e = cc

is_less : (o : Ordering) → is_lt o ≡ true → o ≡ Less
is_less Less e = refl
is_less Equal e = cc
is_less Greater e = cc

-- what is found behind an entry is found with it
found_behind : (e : Path × Node) (es fs : Tree) → below_all path_cmp e.0 fs ≡ true → Found es fs → Found (e ∷ es) fs
found_behind e es [] below found = tt
found_behind e es (f ∷ fs) below found =
    let less : path_cmp e.0 f.0 ≡ Less = is_less _ (and_first _ _ below) in
    let apart : path_cmp f.0 e.0 ≡ Greater = path_total.antisymm f.0 e.0 ∙ ap ordering_reverse less in
    (ap (λ (o : Ordering). cond (is_eq o) (Some e.1) (node_at es f.0)) apart ∙ found.0, found_behind e es fs (and_second _ _ below) found.1)

pub entries_found : (es : Tree) → is_sorted path_cmp es ≡ true → Found es es
entries_found [] sorted = tt
entries_found (e ∷ es) sorted = (
  ap (λ (o : Ordering). cond (is_eq o) (Some e.1) (node_at es e.0)) (tied_itself path_total e.0),
  found_behind e es es (and_first _ _ sorted) (entries_found es (and_second _ _ sorted)),
)

-- ---- what a path leads to

abbrev pub keys : Tree → List ℕ
keys es = map (λ (e : Path × Node). e.1.number) es

-- a path that has a node leads to the node's number, whose inode is that node's
pub record Leads (s : Seen) (path : Path) (node : Node) : Type 0 where
  pub number : number_along s 1 path ≡ Some node.number
  pub inode : node_of s node.number (inode_of s.nodes node.number) ≡ Some node

number_of_node : (s : Seen) (n : ℕ) (inode : Inode) (node : Node) → node_of s n inode ≡ Some node → n ≡ node.number
number_of_node s n Unused node is = cc
number_of_node s n (File size height ptr) node is = let e : record { number = n; content = tree.File (take size (bytes_from s.contents n 0 (blocks_of size))) } ≡ node = cc in ap (λ (x : Node). x.number) e
number_of_node s n (Directory width height ptr) node is = let e : record { number = n; content = tree.Directory width } ≡ node = cc in ap (λ (x : Node). x.number) e

leads_by : (s : Seen) (path : Path) (node : Node) (o : Option ℕ) → number_along s 1 path ≡ o → option_and_then (λ n. node_of s n (inode_of s.nodes n)) o ≡ Some node → Leads s path node
leads_by s path node None along is = cc
leads_by s path node (Some n) along is =
    let e = number_of_node s n (inode_of s.nodes n) node is in
    record {
      number = along ∙ ap (λ (m : ℕ). Some m) e;
      inode = subst (λ (m : ℕ). node_of s m (inode_of s.nodes m) ≡ Some node) e is;
    }

pub leads : (s : Seen) (path : Path) (node : Node) → node_along s path ≡ Some node → Leads s path node
leads s path node is = leads_by s path node (number_along s 1 path) refl is

module _ (s : Seen) (t : Tree) (ordered : is_sorted path_cmp t ≡ true) (same : (path : Path) → node_at t path ≡ node_along s path) (named : IsNamed s) where
  abbrev AllLead : Tree → Type 0
  AllLead es = AllByRecursion (λ (e : Path × Node). Leads s e.0 e.1) es

  lead_each : (es : Tree) → Found t es → AllLead es
  lead_each [] found = tt
  lead_each (e ∷ es) found = (leads s e.0 e.1 (sym (same e.0) ∙ found.0), lead_each es found.1)

  pub all_lead : AllLead t
  all_lead = lead_each t (entries_found t ordered)

  -- two paths that lead to nodes of one number are one
  one : (p q : Path) (m n : Node) → Leads s p m → Leads s q n → m.number ≡ n.number → p ≡ q
  one p q m n a b e = named.one_path p q n.number (a.number ∙ ap (λ (k : ℕ). Some k) e) b.number

  not_later : (e : Path × Node) (es : Tree) → Leads s e.0 e.1 → below_all path_cmp e.0 es ≡ true → AllLead es → is_among (keys es) e.1.number ≡ false
  not_later e [] here below all = refl
  not_later e (f ∷ fs) here below all = by (nat_eq f.1.number e.1.number) refl (not_later e fs here (and_second _ _ below) all.1)
    where
      by : (t : Bool) → nat_eq f.1.number e.1.number ≡ t → is_among (keys fs) e.1.number ≡ false → (t || is_among (keys fs) e.1.number) ≡ false
      by true is more =
          let number : e.1.number ≡ f.1.number = grind (arith, nat_tests) in
          let path = one e.0 f.0 e.1 f.1 here all.0 number in
          let less : path_cmp e.0 f.0 ≡ Less = is_less _ (and_first _ _ below) in
          let tied : path_cmp e.0 f.0 ≡ Equal = ap (λ (p : Path). path_cmp e.0 p) (sym path) ∙ tied_itself path_total e.0 in
          cc
      by false is more = more

  distinct_from : (es : Tree) → is_sorted path_cmp es ≡ true → AllLead es → Distinct (keys es)
  distinct_from [] sorted all = tt
  distinct_from (e ∷ es) sorted all = (not_later e es all.0 (and_first _ _ sorted) all.1, distinct_from es (and_second _ _ sorted) all.1)

  pub keys_distinct : Distinct (keys t)
  keys_distinct = distinct_from t ordered all_lead

  -- ---- the numbers of the tree are those that are used

  used_key : (es : Tree) → AllLead es → (n : ℕ) → is_among (keys es) n ≡ true → is_used (inode_of s.nodes n) ≡ true
  used_key [] all n among = cc
  used_key (e ∷ es) all n among = by (nat_eq e.1.number n) refl (used_key es all.1 n) among
    where
      by : (t : Bool) → nat_eq e.1.number n ≡ t → (is_among (keys es) n ≡ true → is_used (inode_of s.nodes n) ≡ true) → (t || is_among (keys es) n) ≡ true → is_used (inode_of s.nodes n) ≡ true
      by true is more among = let number : e.1.number ≡ n = grind (arith, nat_tests) in subst (λ (k : ℕ). is_used (inode_of s.nodes k) ≡ true) number (named.used e.0 e.1.number all.0.number)
      by false is more among = more among

  found_key : (es : Tree) (path : Path) (node : Node) → node_at es path ≡ Some node → is_among (keys es) node.number ≡ true
  found_key [] path node found = cc
  found_key (e ∷ es) path node found = by (eq_by_cmp path_cmp path e.0) found (found_key es path node)
    where
      later : (a b : Bool) → b ≡ true → (a || b) ≡ true
      later true b e = refl
      later false b e = e

      by : (t : Bool) → cond t (Some e.1) (node_at es path) ≡ Some node → (node_at es path ≡ Some node → is_among (keys es) node.number ≡ true) → (nat_eq e.1.number node.number || is_among (keys es) node.number) ≡ true
      by true is more = let one : e.1 ≡ node = cc in let number = ap (λ (x : Node). x.number) one in let same : nat_eq e.1.number node.number ≡ true = grind (arith, nat_tests) in ap (λ (t : Bool). t || is_among (keys es) node.number) same
      by false is more = later (nat_eq e.1.number node.number) _ (more is)

  some_node : (n : ℕ) (inode : Inode) → is_used inode ≡ true → (node : Node) × (node_of s n inode ≡ Some node) × (node.number ≡ n)
  some_node n Unused used = cc
  some_node n (File size height ptr) used = (record { number = n; content = tree.File (take size (bytes_from s.contents n 0 (blocks_of size))) }, refl, refl)
  some_node n (Directory width height ptr) used = (record { number = n; content = tree.Directory width }, refl, refl)

  key_used : (n : ℕ) → is_used (inode_of s.nodes n) ≡ true → is_among (keys t) n ≡ true
  key_used n used =
      let path = named.reached n used in
      let node = some_node n (inode_of s.nodes n) used in
      let found : node_at t path.0 ≡ Some node.0 = same path.0 ∙ ap (option_and_then (λ m. node_of s m (inode_of s.nodes m))) path.1 ∙ node.1 in
      subst (λ (k : ℕ). is_among (keys t) k ≡ true) node.2 (found_key t path.0 node.0 found)

  same_bool : (a b : Bool) → (a ≡ true → b ≡ true) → (b ≡ true → a ≡ true) → a ≡ b
  same_bool true b f g = sym (f refl)
  same_bool false true f g = g refl
  same_bool false false f g = refl

  pub keys_used : AllUsed s.nodes → (n : ℕ) → is_among (keys t) n ≡ is_among (numbers s.nodes) n
  keys_used used n = same_bool _ _ (used_key t all_lead n) (key_used n) ∙ used_among s.nodes used n
