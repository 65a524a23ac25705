-- The entries of a directory are exactly the nodes one name further, and their names rise.
use Rattle.std.proofs.Common.{◌≡◌, ℕ, zero, suc, Bool, true, false, cond, List, [], ◌∷◌, ◌++◌, Some, None, refl, sym, ap, subst, ◌∙◌, arith}
use Rattle.std.specs.Prelude.{◌&&◌, Option, Contains}
use Rattle.std.specs.List.{cons_option}
use Rattle.std.specs.Ordering.{is_lt, is_eq, nat_cmp, ordering_then, ordering_reverse}
use Rattle.std.specs.declared.cmp.Ordering.{Ordering}
use Rattle.std.specs.declared.cmp.Ordering.TheVariants.{Less, Equal, Greater}
use Rattle.std.specs.Cmp.Lexicographic.{slice_cmp, nat_list_cmp_total}
use Rattle.std.specs.FinMap.Entries.{is_sorted, below_all}
use Rattle.std.proofs.lemmas.Cmp.{tied_itself}
use Rattle.tree_model.specs.declared.node.Node.{Node}
use Rattle.tree_model.specs.declared.reply.Entry.{Entry}
use Rattle.tree_model.specs.Laws.{EntriesAre, NamesRise, entry_of}
use Rattle.tree_model.specs.Path.{Path, path_cmp, strip}
use Rattle.tree_model.specs.Tree.{Tree, node_at, entries_of, entry_below}
use Rattle.tree_model.proofs.AttemptLaws.{path_total}
use Rattle.tree_model.proofs.Fronts.{tie, tie_is, tie_itself, strip_is, strip_back}

first_test : (a b : Bool) → (a && b) ≡ true → a ≡ true
first_test true b e = refl
first_test false b e = cc

second_test : (a b : Bool) → (a && b) ≡ true → b ≡ true
second_test true b e = e
second_test false b e = cc

is_less : (o : Ordering) → is_lt o ≡ true → o ≡ Less
is_less Less e = refl
is_less Equal e = cc
is_less Greater e = cc

-- ---- each node has its entry

in_more : (o : Option Entry) (xs : List Entry) (x : Entry) → Contains xs x → Contains (cons_option o xs) x
in_more None xs x c = c
in_more (Some y) xs x c = (suc c.0, omega (arith, c.1), c.2)

has_entry : (tree : Tree) (path : Path) (name : List ℕ) (node : Node) → node_at tree (path ++ name ∷ []) ≡ Some node → Contains (entries_of tree path) (entry_of name node)
has_entry [] path name node at = cc
has_entry (e ∷ es) path name node at = by (tie (path ++ name ∷ []) e.0) refl at (has_entry es path name node)
  where
    by : (t : Bool) → tie (path ++ name ∷ []) e.0 ≡ t → cond t (Some e.1) (node_at es (path ++ name ∷ [])) ≡ Some node
        → (node_at es (path ++ name ∷ []) ≡ Some node → Contains (entries_of es path) (entry_of name node)) → Contains (cons_option (entry_below (strip path e.0) e.1) (entries_of es path)) (entry_of name node)
    by true is at more =
        let one : e.1 ≡ node = cc in
        let left : strip path e.0 ≡ Some (name ∷ []) = ap (strip path) (sym (tie_is _ _ is)) ∙ strip_back path (name ∷ []) in
        subst (λ (o : Option Path). Contains (cons_option (entry_below o e.1) (entries_of es path)) (entry_of name node)) (sym left) (0, omega arith, ap (entry_of name) one)
    by false is at more = in_more (entry_below (strip path e.0) e.1) (entries_of es path) (entry_of name node) (more at)

-- ---- each entry has its node

-- what is found among later ones is behind the path
found_above : (x : Path) (es : Tree) (q : Path) (node : Node) → below_all path_cmp x es ≡ true → node_at es q ≡ Some node → path_cmp x q ≡ Less
found_above x [] q node below at = cc
found_above x (e ∷ es) q node below at = by (tie q e.0) refl at (found_above x es q node (second_test _ _ below))
  where
    by : (t : Bool) → tie q e.0 ≡ t → cond t (Some e.1) (node_at es q) ≡ Some node → (node_at es q ≡ Some node → path_cmp x q ≡ Less) → path_cmp x q ≡ Less
    by true is at more = ap (path_cmp x) (tie_is q e.0 is) ∙ is_less _ (first_test _ _ below)
    by false is at more = more at

-- the node of an entry
record IsEntry (tree : Tree) (path : Path) (entry : Entry) : Type 0 where
  pub node : Node
  pub at : node_at tree (path ++ entry.name ∷ []) ≡ Some node
  pub is : entry ≡ entry_of entry.name node

later_entry : (e : Path × Node) (es : Tree) (path : Path) (entry : Entry) → below_all path_cmp e.0 es ≡ true → IsEntry es path entry → IsEntry (e ∷ es) path entry
later_entry e es path entry below found =
    let q = path ++ entry.name ∷ [] in
    let apart : path_cmp q e.0 ≡ Greater = path_total.antisymm q e.0 ∙ ap ordering_reverse (found_above e.0 es q found.node below found.at) in
    record { node = found.node; at = ap (λ (o : Ordering). cond (is_eq o) (Some e.1) (node_at es q)) apart ∙ found.at; is = found.is }

is_entry : (tree : Tree) (path : Path) (entry : Entry) → is_sorted path_cmp tree ≡ true → Contains (entries_of tree path) entry → IsEntry tree path entry
is_entry [] path entry sorted c = absurd (omega (arith, c.1))
is_entry (e ∷ es) path entry sorted c = by (strip path e.0) refl c (is_entry es path entry (second_test _ _ sorted))
  where
    below : below_all path_cmp e.0 es ≡ true
    below = first_test _ _ sorted

    here : (name : List ℕ) → strip path e.0 ≡ Some (name ∷ []) → Contains (entry_of name e.1 ∷ entries_of es path) entry → (Contains (entries_of es path) entry → IsEntry es path entry) → IsEntry (e ∷ es) path entry
    here name left (zero, less, is) more =
        let named : name ≡ entry.name = ap (λ (x : Entry). x.name) is in
        let same : e.0 ≡ path ++ entry.name ∷ [] = strip_is path e.0 (name ∷ []) left ∙ ap (λ (n : List ℕ). path ++ n ∷ []) named in
        record {
          node = e.1;
          at = subst (λ (q : Path). cond (tie q e.0) (Some e.1) (node_at es q) ≡ Some e.1) same (ap (λ (t : Bool). cond t (Some e.1) (node_at es e.0)) (tie_itself e.0));
          is = sym is ∙ ap (λ (n : List ℕ). entry_of n e.1) named;
        }
    here name left (suc k, less, is) more = later_entry e es path entry (first_test _ _ sorted) (more (k, omega (arith, less), is))

    by : (o : Option Path) → strip path e.0 ≡ o → Contains (cons_option (entry_below o e.1) (entries_of es path)) entry → (Contains (entries_of es path) entry → IsEntry es path entry) → IsEntry (e ∷ es) path entry
    by None left c more = later_entry e es path entry (first_test _ _ sorted) (more c)
    by (Some []) left c more = later_entry e es path entry (first_test _ _ sorted) (more c)
    by (Some (name ∷ [])) left c more = here name left c more
    by (Some (name ∷ next ∷ names)) left c more = later_entry e es path entry (first_test _ _ sorted) (more c)

-- ---- the names rise

then_equal : (o : Ordering) → ordering_then o Equal ≡ o
then_equal Less = refl
then_equal Equal = refl
then_equal Greater = refl

-- paths that differ in their last name alone compare as these
last_names : (path : Path) (a b : List ℕ) → path_cmp (path ++ a ∷ []) (path ++ b ∷ []) ≡ slice_cmp nat_cmp a b
last_names [] a b = then_equal (slice_cmp nat_cmp a b)
last_names (name ∷ path) a b = ap (λ (o : Ordering). ordering_then o (path_cmp (path ++ a ∷ []) (path ++ b ∷ []))) (tied_itself nat_list_cmp_total name) ∙ last_names path a b

-- each name is behind this one
abbrev AllBehind : List ℕ → List Entry → Type 0
AllBehind name [] = Unit {0}
AllBehind name (e ∷ es) = (slice_cmp nat_cmp name e.name ≡ Less) × AllBehind name es

behind : (es : Tree) (path : Path) (name : List ℕ) → below_all path_cmp (path ++ name ∷ []) es ≡ true → AllBehind name (entries_of es path)
behind [] path name below = tt
behind (e ∷ es) path name below = by (strip path e.0) refl (behind es path name (second_test _ _ below))
  where
    by : (o : Option Path) → strip path e.0 ≡ o → AllBehind name (entries_of es path) → AllBehind name (cons_option (entry_below o e.1) (entries_of es path))
    by None left more = more
    by (Some []) left more = more
    by (Some (other ∷ [])) left more =
        (sym (last_names path name other) ∙ ap (path_cmp (path ++ name ∷ [])) (sym (strip_is path e.0 (other ∷ []) left)) ∙ is_less _ (first_test _ _ below), more)
    by (Some (other ∷ next ∷ names)) left more = more

rise_with : (x : Entry) (xs : List Entry) → AllBehind x.name xs → NamesRise xs → NamesRise (x ∷ xs)
rise_with x [] all rise = tt
rise_with x (y ∷ ys) all rise = (all.0, rise)

names_rise : (tree : Tree) (path : Path) → is_sorted path_cmp tree ≡ true → NamesRise (entries_of tree path)
names_rise [] path sorted = tt
names_rise (e ∷ es) path sorted = by (strip path e.0) refl (names_rise es path (second_test _ _ sorted))
  where
    by : (o : Option Path) → strip path e.0 ≡ o → NamesRise (entries_of es path) → NamesRise (cons_option (entry_below o e.1) (entries_of es path))
    by None left more = more
    by (Some []) left more = more
    by (Some (name ∷ [])) left more =
        rise_with (entry_of name e.1) (entries_of es path)
        (behind es path name (subst (λ (q : Path). below_all path_cmp q es ≡ true) (strip_is path e.0 (name ∷ []) left) (first_test _ _ sorted))) more
    by (Some (name ∷ next ∷ names)) left more = more

pub entries_are : EntriesAre
entries_are = record {
  each = has_entry;
  only = λ tree path entry sorted c. let found = is_entry tree path entry sorted c in (found.node, found.at, found.is);
  rise = names_rise;
}
