-- Where each used number has one path, the nodes at these paths are a tree.
use Rattle.std.proofs.Common.{◌≡◌, ℕ, Bool, true, false, cond, List, [], ◌∷◌, ◌++◌, Some, None, refl, sym, ap, subst, ◌∙◌, arith}
use Rattle.std.specs.Prelude.{Option, option_and_then, nat_eq, ◌||◌}
use Rattle.std.specs.List.{AllByRecursion}
use Rattle.std.specs.Ordering.{eq_by_cmp, is_eq}
use Rattle.std.specs.Cmp.{tied_itself}
use Rattle.std.specs.declared.cmp.Ordering.{Ordering}
use Rattle.std.specs.declared.cmp.Ordering.TheVariants.{Less, Equal, Greater}
use Rattle.std.specs.FinMap.Entries.{is_sorted, is_sorted-put}
use Rattle.std.proofs.Math.Dec.{T}
use Rattle.std.proofs.lemmas.Bool.Decides.{nat_tests}
use Rattle.block_format.specs.declared.inode.Inode.{Inode}
use Rattle.block_format.specs.declared.inode.Inode.TheVariants.{Unused, File, Directory}
use Rattle.place_words.specs.Different.{is_among}
use Rattle.tree_model.specs.Path.{Path, path_cmp}
use Rattle.tree_model.specs.Tree.{Tree, node_at, with_node}
use Rattle.tree_model.specs.declared.node.Node.{Node}
use Rattle.tree_model.proofs.AttemptLaws.{path_total, put_at}
use Rattle.tree_model.proofs.Paths.{same_path}
use Rattle.image_model.specs.Trees.{TreeExists}
use Rattle.image_model.specs.Seen.{Seen}
use Rattle.image_model.specs.Slots.{inode_of, number_along}
use Rattle.image_model.specs.Sound.{IsNamed}
use Rattle.image_model.specs.Stands.{node_along, node_of}
use Rattle.image_model.specs.Walk.{is_used}
use Rattle.image_model.proofs.NodePlaces.{numbers}
use Rattle.image_model.proofs.TreeNodes.{leads, Leads}

-- the entries put one after another, the last of them first
built : List (Path × Node) → Tree
built [] = []
built (e ∷ es) = with_node (built es) e.0 e.1

T_true : (b : Bool) → T b → b ≡ true
T_true true h = refl
T_true false h = absurd h

sorted : (es : List (Path × Node)) → T (is_sorted path_cmp (built es))
unfolding built
sorted [] = tt
sorted (e ∷ es) = is_sorted-put path_cmp path_total e.0 e.1 (built es) (sorted es)

is_equal : (o : Ordering) → is_eq o ≡ true → o ≡ Equal
is_equal Less e = cc
is_equal Equal e = refl
is_equal Greater e = cc

tie_path : (p q : Path) → eq_by_cmp path_cmp p q ≡ true → p ≡ q
tie_path p q e = same_path p q (is_equal _ e)

module _ (s : Seen) where
  abbrev AllAlong : List (Path × Node) → Type 0
  AllAlong es = AllByRecursion (λ (e : Path × Node). node_along s e.0 ≡ Some e.1) es

  -- what was put is what the path leads to
  only : (es : List (Path × Node)) → AllAlong es → (q : Path) (node : Node) → node_at (built es) q ≡ Some node → node_along s q ≡ Some node
  unfolding built
  only [] all q node found = cc
  only (e ∷ es) all q node found = by (eq_by_cmp path_cmp q e.0) refl (sym (put_at (built es) e.0 e.1 q) ∙ found) (only es all.1 q node)
    where
      by : (t : Bool) → eq_by_cmp path_cmp q e.0 ≡ t → cond t (Some e.1) (node_at (built es) q) ≡ Some node → (node_at (built es) q ≡ Some node → node_along s q ≡ Some node) → node_along s q ≡ Some node
      by true is same more = ap (node_along s) (tie_path q e.0 is) ∙ all.0 ∙ same
      by false is same more = more same

  -- an entry among them is found
  there : (es : List (Path × Node)) → AllAlong es → (q : Path) (node : Node) → node_along s q ≡ Some node → (e : Path × Node) → node_at (built es) q ≡ Some node → node_along s e.0 ≡ Some e.1 → node_at (with_node (built es) e.0 e.1) q ≡ Some node
  there es all q node along e found own = put_at (built es) e.0 e.1 q ∙ by (eq_by_cmp path_cmp q e.0) refl
    where
      by : (t : Bool) → eq_by_cmp path_cmp q e.0 ≡ t → cond t (Some e.1) (node_at (built es) q) ≡ Some node
      by true is = sym own ∙ ap (node_along s) (sym (tie_path q e.0 is)) ∙ along
      by false is = found

  first : (es : List (Path × Node)) (q : Path) (e : Path × Node) → e.0 ≡ q → node_at (with_node (built es) e.0 e.1) q ≡ Some e.1
  first es q e same =
      let tied : eq_by_cmp path_cmp q e.0 ≡ true = ap is_eq (ap (λ (p : Path). path_cmp q p) same ∙ tied_itself path_total q) in
      put_at (built es) e.0 e.1 q ∙ ap (λ (t : Bool). cond t (Some e.1) (node_at (built es) q)) tied

  module _ (named : IsNamed s) where
    -- the node of a used number, with its path
    record Own (n : ℕ) : Type 0 where
      entry : Path × Node
      along : node_along s entry.0 ≡ Some entry.1
      number : number_along s 1 entry.0 ≡ Some n

    node_some : (n : ℕ) (inode : Inode) → is_used inode ≡ true → (node : Node) × (node_of s n inode ≡ Some node)
    node_some n Unused used = cc
    node_some n (File size height ptr) used = (_, refl)
    node_some n (Directory width height ptr) used = (_, refl)

    own : (n : ℕ) → is_used (inode_of s.nodes n) ≡ true → Own n
    own n used =
        let path = named.reached n used in
        let node = node_some n (inode_of s.nodes n) used in
        record { entry = (path.0, node.0); along = ap (option_and_then (λ m. node_of s m (inode_of s.nodes m))) path.1 ∙ node.1; number = path.1 }

    entry_of : (n : ℕ) (t : Bool) → is_used (inode_of s.nodes n) ≡ t → List (Path × Node)
    entry_of n true used = (own n used).entry ∷ []
    entry_of n false used = []

    entries : List ℕ → List (Path × Node)
    entries [] = []
    entries (n ∷ ns) = entry_of n (is_used (inode_of s.nodes n)) refl ++ entries ns

    all_along : (ns : List ℕ) → AllAlong (entries ns)
    unfolding entries entry_of
    all_along [] = tt
    all_along (n ∷ ns) = by (is_used (inode_of s.nodes n)) refl (all_along ns)
      where
        by : (t : Bool) (is : is_used (inode_of s.nodes n) ≡ t) → AllAlong (entries ns) → AllAlong (entry_of n t is ++ entries ns)
        by true is more = ((own n is).along, more)
        by false is more = more

    reached : (ns : List ℕ) (q : Path) (node : Node) → node_along s q ≡ Some node → is_among ns node.number ≡ true → node_at (built (entries ns)) q ≡ Some node
    unfolding entries entry_of built
    reached [] q node along among = cc
    reached (n ∷ ns) q node along among = by (is_used (inode_of s.nodes n)) refl (nat_eq n node.number) refl among (reached ns q node along)
      where
        lead : Leads s q node
        lead = leads s q node along

        by : (t : Bool) (is : is_used (inode_of s.nodes n) ≡ t) (u : Bool) → nat_eq n node.number ≡ u → (u || is_among ns node.number) ≡ true
            → (is_among ns node.number ≡ true → node_at (built (entries ns)) q ≡ Some node) → node_at (built (entry_of n t is ++ entries ns)) q ≡ Some node
        by true is true same among more =
            let number : n ≡ node.number = grind (arith, nat_tests) in
            let mine = own n is in
            let path : mine.entry.0 ≡ q = named.one_path mine.entry.0 q node.number (mine.number ∙ ap (λ (k : ℕ). Some k) number) lead.number in
            first (entries ns) q mine.entry path ∙ sym mine.along ∙ ap (node_along s) path ∙ along
        by true is false same among more = there (entries ns) (all_along ns) q node along (own n is).entry (more among) (own n is).along
        by false is true same among more =
            let number : n ≡ node.number = grind (arith, nat_tests) in
            let used = named.used q node.number lead.number in
            let not_used : is_used (inode_of s.nodes node.number) ≡ false = subst (λ (k : ℕ). is_used (inode_of s.nodes k) ≡ false) number is in
            cc
        by false is false same among more = more among

    -- a used number is that of a node
    used_there : (nodes : List (ℕ × Inode)) (n : ℕ) → is_used (inode_of nodes n) ≡ true → is_among (numbers nodes) n ≡ true
    used_there [] n used = cc
    used_there (node ∷ nodes) n used = by (nat_eq node.0 n) used (used_there nodes n)
      where
        by : (t : Bool) → is_used (cond t node.1 (inode_of nodes n)) ≡ true → (is_used (inode_of nodes n) ≡ true → is_among (numbers nodes) n ≡ true) → (t || is_among (numbers nodes) n) ≡ true
        by true used more = refl
        by false used more = more used

    tree : Tree
    tree = built (entries (numbers s.nodes))

    tree_is : (path : Path) → node_at tree path ≡ node_along s path
    unfolding tree
    tree_is path = by (node_at tree path) refl (node_along s path) refl
      where
        by : (a : Option Node) → node_at tree path ≡ a → (b : Option Node) → node_along s path ≡ b → node_at tree path ≡ node_along s path
        by (Some node) is b along = is ∙ sym (only (entries (numbers s.nodes)) (all_along (numbers s.nodes)) path node is)
        by None is None along = is ∙ sym along
        by None is (Some node) along =
            let lead = leads s path node along in
            let found = reached (numbers s.nodes) path node along (used_there s.nodes node.number (named.used path node.number lead.number)) in
            found ∙ sym along

    tree_sorted : T (is_sorted path_cmp tree)
    unfolding tree
    tree_sorted = sorted (entries (numbers s.nodes))

pub tree_exists : TreeExists
tree_exists s named = (tree s named, T_true _ (tree_sorted s named), tree_is s named)
