-- The entries of a directory in the order of their names are the tree's.
use Rattle.std.proofs.Common.{◌≡◌, ℕ, zero, suc, ◌+◌, Bool, true, false, cond, List, [], ◌∷◌, ◌++◌, map, Some, None, refl, sym, ap, subst, ◌∙◌, arith, get_or}
use Rattle.std.specs.Prelude.{Option, Result, Ok, Err, IfOk, is_some, filter, bytes_eq, ◌||◌, ◌&&◌, if◌then◌else◌}
use Rattle.std.specs.Option.{option_map}
use Rattle.std.specs.Cmp.{IsStrictWeakOrder, tied_itself}
use Rattle.std.specs.Cmp.Lexicographic.{slice_cmp, nat_list_cmp_total}
use Rattle.std.specs.FinMap.{slice_cmp-IsAntisymmetric, nat_cmp-IsAntisymmetric}
use Rattle.std.specs.FinMap.Entries.{find, is_sorted, below_all, same_entries}
use Rattle.std.specs.List.{IsDistinct, AllByRecursion, All, cons_option}
use Rattle.std.specs.List.Sorted.{IsPermutation, IsSortedBy}
use Rattle.std.specs.Ordering.{nat_cmp, is_lt, is_eq, ordering_reverse, ordering_then}
use Rattle.std.specs.Set.{is_member}
use Rattle.std.specs.declared.cmp.Ordering.{Ordering}
use Rattle.std.specs.declared.cmp.Ordering.TheVariants.{Less, Equal, Greater}
use Rattle.std.proofs.lemmas.List.Sorted.{All-permutation, list_any-IsPermutation, IsPermutation-map}
use Rattle.std.proofs.lemmas.List.MinMax.{ranks_by}
use Rattle.std.proofs.lemmas.Map.Keys.{IsDistinct-IsPermutation, IsDistinct-head, IsDistinct-tail}
use Rattle.std.proofs.lemmas.Map.Text.{is_eq-slice_cmp}
use Rattle.block_format.specs.declared.slot.Slot.{Slot}
use Rattle.block_format.specs.declared.slot.Slot.TheVariants.{Unused, Entry}
use Rattle.dir_slots.specs.Slots.{HasNamesOnce, is_used, number_in}
use Rattle.tree_model.specs.Order.{IsOrdered}
use Rattle.tree_model.specs.Path.{Path, name_eq, path_cmp, strip}
use Rattle.tree_model.specs.Shape.{IsTree, shape_at, shape_of}
use Rattle.tree_model.specs.Step.{walk}
use Rattle.tree_model.specs.declared.refusal.Refusal.{Refusal}
use Rattle.tree_model.proofs.Accepted.{walked}
use Rattle.tree_model.specs.Tree.{Tree, node_at, entries_of, entry_below, kind_of}
use Rattle.tree_model.specs.declared.node.Node.{Node}
use Rattle.tree_model.specs.declared.reply.Entry as entries
use Rattle.tree_model.proofs.AttemptLaws.{true_T}
use Rattle.tree_model.proofs.EntryCounts.{ordered_rest}
use Rattle.tree_model.proofs.Fronts.{strip_is}
use Rattle.tree_model.proofs.Paths.{same_name}
use Rattle.node_table.proofs.CountLaws.{names_in, name_sym, slot_member, slots_distinct, rest_once, entry_member}
use Rattle.node_table.proofs.NumberLaws.{in_whole, at_head}
use Rattle.node_table.specs.Held.{AreDirectories, Nodes, HoldsNodes, held, info, info_of, slots_of}
use Rattle.node_table.specs.declared.held.HeldNode.{HeldNode}
use Rattle.node_table.proofs.ListLaws.{same_kinds}
use Rattle.node_table.specs.Found.{found, found_of}
use Rattle.node_table.specs.Walks.{look}
use Rattle.node_table.specs.declared.held.FoundNode.{FoundNode}
use Rattle.node_table.specs.declared.held.HeldNode.TheVariants.{File, Directory}
use Rattle.node_table.proofs.ReadyLaws.{some_shape}
use Rattle.node_table.proofs.WalkLaws.{look_is, look_there}
use Rattle.node_table.proofs.ShapeLaws.{bytes_itself, same_bytes, none_below}
use Rattle.node_table.proofs.SlotNumbers.{none_later}
use Rattle.node_table.specs.Listing.{kind_at, kind_in, listed, is_before, AreEntries}

abbrev pub EntryOf : Type 0
EntryOf = entries.Entry

abbrev name_cmp : List ℕ → List ℕ → Ordering
name_cmp = slice_cmp nat_cmp

abbrev names : List EntryOf → List (List ℕ)
names xs = map (λ (e : EntryOf). e.name) xs

abbrev keyed : List EntryOf → List (List ℕ × EntryOf)
keyed xs = map (λ (e : EntryOf). (e.name, e)) xs

unkeyed : (xs ys : List EntryOf) → keyed xs ≡ keyed ys → xs ≡ ys
unkeyed xs ys e = sym (back xs) ∙ ap (λ (k : List (List ℕ × EntryOf)). map (λ (p : List ℕ × EntryOf). p.1) k) e ∙ back ys
  where
    back : (zs : List EntryOf) → map (λ (p : List ℕ × EntryOf). p.1) (keyed zs) ≡ zs
    back [] = refl
    back (z ∷ zs) = ap (λ rest. z ∷ rest) (back zs)

-- ---- entries that are what a name is expected to be

-- each entry is the one of its name
abbrev AreGood : (List ℕ → Option EntryOf) → List EntryOf → Type 0
AreGood expected xs = AllByRecursion (λ (e : EntryOf). Some e ≡ expected e.name) xs

find_good : (expected : List ℕ → Option EntryOf) (xs : List EntryOf) → AreGood expected xs → (x : List ℕ) → find name_cmp x (keyed xs) ≡ cond (is_member name_eq (names xs) x) (expected x) None
find_good expected [] good x = refl
find_good expected (e ∷ xs) good x =
    ap (λ b. cond b (Some e) (find name_cmp x (keyed xs))) (is_eq-slice_cmp x e.name)
    ∙ elim (name_eq x e.name) as (λ b. name_eq x e.name ≡ b → cond b (Some e) (find name_cmp x (keyed xs)) ≡ cond (b || is_member name_eq (names xs) x) (expected x) None) [
      | true ↦ λ same. good.0 ∙ ap expected (sym (same_name x e.name same))
      | false ↦ λ other. find_good expected xs good.1 x
    ] refl

same_lists : (expected : List ℕ → Option EntryOf) (xs ys : List EntryOf) → AreGood expected xs → AreGood expected ys → is_sorted name_cmp (keyed xs) ≡ true → is_sorted name_cmp (keyed ys) ≡ true
    → ((x : List ℕ) → is_member name_eq (names xs) x ≡ is_member name_eq (names ys) x) → xs ≡ ys
same_lists expected xs ys good fine rising climbing same =
    unkeyed xs ys (same_entries name_cmp nat_list_cmp_total (slice_cmp-IsAntisymmetric nat_cmp-IsAntisymmetric) (keyed xs) (keyed ys) (true_T _ rising) (true_T _ climbing)
    (λ x. find_good expected xs good x ∙ ap (λ b. cond b (expected x) None) (same x) ∙ sym (find_good expected ys fine x)))

-- ---- all of a list, by recursion and by place

all_by_place : {X : Type 0} (P : X → Type 0) (xs : List X) → AllByRecursion P xs → All P xs
all_by_place P [] all k d lt = absurd (omega arith)
all_by_place P (x ∷ xs) all zero d lt = all.0
all_by_place P (x ∷ xs) all (suc k) d lt = all_by_place P xs all.1 k d (omega arith)

all_in_turn : {X : Type 0} (P : X → Type 0) (xs : List X) → All P xs → AllByRecursion P xs
all_in_turn P [] all = tt
all_in_turn P (x ∷ xs) all = (all 0 x (omega arith), all_in_turn P xs (λ k d lt. all (suc k) d (omega arith)))

all_kept : {X : Type 0} (P Q : X → Type 0) (xs : List X) → ((x : X) → P x → Q x) → AllByRecursion P xs → AllByRecursion Q xs
all_kept P Q [] f all = tt
all_kept P Q (x ∷ xs) f all = (f x all.0, all_kept P Q xs f all.1)

-- ---- sorted lists rise where names differ

turned_less : (a b : List ℕ) → name_cmp a b ≡ Less → name_cmp b a ≡ Greater
turned_less a b e = nat_list_cmp_total.antisymm b a ∙ ap ordering_reverse e

turned_greater : (a b : List ℕ) → name_cmp a b ≡ Greater → name_cmp b a ≡ Less
turned_greater a b e = nat_list_cmp_total.antisymm b a ∙ ap ordering_reverse e

turned_equal : (a b : List ℕ) → name_cmp a b ≡ Equal → name_cmp b a ≡ Equal
turned_equal a b e = nat_list_cmp_total.antisymm b a ∙ ap ordering_reverse e

chained : (x y z : List ℕ) → is_lt (name_cmp x y) ≡ false → is_lt (name_cmp y z) ≡ false → is_lt (name_cmp x z) ≡ false
chained x y z e f =
    elim (name_cmp x y) as (λ r. name_cmp x y ≡ r → is_lt r ≡ false → is_lt (name_cmp x z) ≡ false) [
      | Less ↦ λ is lt. cc
      | Equal ↦ λ is lt. ap is_lt (nat_list_cmp_total.congr x y z is) ∙ f
      | Greater ↦ λ is lt.
          elim (name_cmp y z) as (λ r. name_cmp y z ≡ r → is_lt r ≡ false → is_lt (name_cmp x z) ≡ false) [
            | Less ↦ λ also clash. cc
            | Equal ↦ λ also _. ap is_lt (turned_less z x (nat_list_cmp_total.congr z y x (turned_equal y z also) ∙ turned_greater x y is))
            | Greater ↦ λ also _. ap is_lt (turned_less z x (nat_list_cmp_total.trans z y x (turned_greater y z also) (turned_greater x y is)))
          ] refl f
    ] refl e

pub weak : IsStrictWeakOrder is_before
weak = ranks_by nat_list_cmp_total (λ (e : EntryOf). e.name)

sorted_rest : (x : EntryOf) (xs : List EntryOf) → IsSortedBy is_before (x ∷ xs) → IsSortedBy is_before xs
sorted_rest x xs sorted k d low high =
    let more : suc k + 1 ≡ suc (k + 1) = omega arith in
    ap (λ i. is_before (get_or (x ∷ xs) i d) (get_or xs k d)) (sym more) ∙ sorted (suc k) d (omega arith) (omega arith)

sorted_first : (x : EntryOf) (xs : List EntryOf) → IsSortedBy is_before (x ∷ xs) → AllByRecursion (λ (y : EntryOf). is_before y x ≡ false) xs
sorted_first x [] sorted = tt
sorted_first x (y ∷ ys) sorted =
    let first : is_before y x ≡ false = sorted 0 x (omega arith) (omega arith) in
    (first, all_kept _ _ ys (λ (z : EntryOf) (e : is_before z y ≡ false). chained z.name y.name x.name e first) (sorted_first y ys (sorted_rest x (y ∷ ys) sorted)))

less_than : (x y : List ℕ) → name_eq x y ≡ false → is_lt (name_cmp y x) ≡ false → is_lt (name_cmp x y) ≡ true
less_than x y differs e =
    elim (name_cmp x y) as (λ r. name_cmp x y ≡ r → is_lt r ≡ true) [
      | Less ↦ λ is. refl
      | Equal ↦ λ is. let yes : name_eq x y ≡ true = sym (is_eq-slice_cmp x y) ∙ ap is_eq is in cc
      | Greater ↦ λ is. let yes : is_lt (name_cmp y x) ≡ true = ap is_lt (turned_greater x y is) in cc
    ] refl

below_rest : (x : List ℕ) (xs : List EntryOf) → AllByRecursion (λ y. name_eq x y ≡ false) (names xs) → AllByRecursion (λ (y : EntryOf). is_lt (name_cmp y.name x) ≡ false) xs → below_all name_cmp x (keyed xs) ≡ true
below_rest x [] differ after = refl
below_rest x (y ∷ ys) differ after = (λ i. less_than x y.name differ.0 after.0 i && below_rest x ys differ.1 after.1 i)

rising : (xs : List EntryOf) → IsDistinct name_eq (names xs) → IsSortedBy is_before xs → is_sorted name_cmp (keyed xs) ≡ true
rising [] distinct sorted = refl
rising (x ∷ xs) distinct sorted =
    (λ i. below_rest x.name xs (IsDistinct-head name_eq x.name (names xs) distinct) (sorted_first x xs sorted) i && rising xs (IsDistinct-tail name_eq x.name (names xs) distinct) (sorted_rest x xs sorted) i)

-- ---- the entries of the tree

path_last : (q : Path) (x y : List ℕ) → path_cmp (q ++ x ∷ []) (q ++ y ∷ []) ≡ ordering_then (name_cmp x y) Equal
path_last [] x y = refl
path_last (a ∷ q) x y = ap (λ r. ordering_then r (path_cmp (q ++ x ∷ []) (q ++ y ∷ []))) (tied_itself nat_list_cmp_total a) ∙ path_last q x y

then_equal : (r : Ordering) → is_lt (ordering_then r Equal) ≡ is_lt r
then_equal Less = refl
then_equal Equal = refl
then_equal Greater = refl

and_first : (a b : Bool) → (a && b) ≡ true → a ≡ true
and_first true b e = refl
and_first false b e = cc

and_second : (a b : Bool) → (a && b) ≡ true → b ≡ true
and_second true b e = e
and_second false b e = cc

abbrev with_entry : Option Path → Node → List EntryOf → List EntryOf
with_entry o n rest = cons_option (entry_below o n) rest

below_entries : (q : Path) (x : List ℕ) (es : Tree) → below_all path_cmp (q ++ x ∷ []) es ≡ true → below_all name_cmp x (keyed (entries_of es q)) ≡ true
below_entries q x [] e = refl
below_entries q x (f ∷ es) e =
    elim (strip q f.0) as (λ o. strip q f.0 ≡ o → below_all name_cmp x (keyed (with_entry o f.1 (entries_of es q))) ≡ true) [
      | None ↦ λ is. below_entries q x es (and_second _ _ e)
      | Some r ↦ λ is. by (below_entries q x es (and_second _ _ e)) r is
    ] refl
  where
    by : below_all name_cmp x (keyed (entries_of es q)) ≡ true → (r : Path) → strip q f.0 ≡ Some r → below_all name_cmp x (keyed (with_entry (Some r) f.1 (entries_of es q))) ≡ true
    by rest [] is = rest
    by rest (y ∷ z ∷ more) is = rest
    by rest (y ∷ []) is =
        let less : is_lt (name_cmp x y) ≡ true = sym (then_equal (name_cmp x y)) ∙ ap is_lt (sym (path_last q x y) ∙ ap (path_cmp (q ++ x ∷ [])) (sym (strip_is q f.0 (y ∷ []) is))) ∙ and_first _ _ e in
        (λ i. less i && rest i)

climbing : (es : Tree) → IsOrdered es → (q : Path) → is_sorted name_cmp (keyed (entries_of es q)) ≡ true
climbing [] h q = refl
climbing (e ∷ es) h q =
    elim (strip q e.0) as (λ o. strip q e.0 ≡ o → is_sorted name_cmp (keyed (with_entry o e.1 (entries_of es q))) ≡ true) [
      | None ↦ λ is. climbing es (ordered_rest e es h) q
      | Some r ↦ λ is. by (climbing es (ordered_rest e es h) q) r is
    ] refl
  where
    by : is_sorted name_cmp (keyed (entries_of es q)) ≡ true → (r : Path) → strip q e.0 ≡ Some r → is_sorted name_cmp (keyed (with_entry (Some r) e.1 (entries_of es q))) ≡ true
    by rest [] is = rest
    by rest (y ∷ z ∷ more) is = rest
    by rest (y ∷ []) is = (λ i. below_entries q y es (ap (λ p. below_all path_cmp p es) (sym (strip_is q e.0 (y ∷ []) is)) ∙ and_first _ _ h) i && rest i)

-- what a name's entry is, by the node there
abbrev pub at_name : List ℕ → Option Node → Option EntryOf
at_name x o = option_map (λ (n : Node). record { kind = kind_of n.content; number = n.number; name = x }) o

good_entries : (es : Tree) → IsOrdered es → (q : Path) → AreGood (λ x. at_name x (node_at es (q ++ x ∷ []))) (entries_of es q)
good_entries [] h q = tt
good_entries (e ∷ es) h q =
    elim (strip q e.0) as (λ o. strip q e.0 ≡ o → AreGood (λ x. at_name x (node_at (e ∷ es) (q ++ x ∷ []))) (with_entry o e.1 (entries_of es q))) [
      | None ↦ λ is. rest (good_entries es (ordered_rest e es h) q)
      | Some r ↦ λ is. by (rest (good_entries es (ordered_rest e es h) q)) r is
    ] refl
  where
    later : (f : EntryOf) (o : Option Node) → node_at es (q ++ f.name ∷ []) ≡ o → Some f ≡ at_name f.name o → Some f ≡ at_name f.name (node_at (e ∷ es) (q ++ f.name ∷ []))
    later f None is good = cc
    later f (Some n) is good = good ∙ ap (at_name f.name) (sym (in_whole e es h (q ++ f.name ∷ []) n is))

    rest : AreGood (λ x. at_name x (node_at es (q ++ x ∷ []))) (entries_of es q) → AreGood (λ x. at_name x (node_at (e ∷ es) (q ++ x ∷ []))) (entries_of es q)
    rest before = all_kept _ _ (entries_of es q) (λ (f : EntryOf) good. later f (node_at es (q ++ f.name ∷ [])) refl good) before

    by : AreGood (λ x. at_name x (node_at (e ∷ es) (q ++ x ∷ []))) (entries_of es q) → (r : Path) → strip q e.0 ≡ Some r → AreGood (λ x. at_name x (node_at (e ∷ es) (q ++ x ∷ []))) (with_entry (Some r) e.1 (entries_of es q))
    by more [] is = more
    by more (y ∷ z ∷ path) is = more
    by more (y ∷ []) is = (sym (ap (at_name y) (ap (node_at (e ∷ es)) (sym (strip_is q e.0 (y ∷ []) is)) ∙ at_head e es)), more)

-- ---- the entries of a table

some_number : (o : Option Node) → is_some (option_map (λ (n : Node). n.number) o) ≡ is_some o
some_number None = refl
some_number (Some node) = refl

kind_held : (o : Option HeldNode) (n : Node) → option_map info o ≡ Some (info_of n.content) → kind_at o ≡ kind_of n.content
kind_held None n e = cc
kind_held (Some entry) n e = let same : info entry ≡ info_of n.content = cc in ap kind_in same ∙ same_kinds n.content

abbrev of_number : Nodes → List ℕ → Option ℕ → Option EntryOf
of_number nodes x o = option_map (λ (n : ℕ). record { kind = kind_at (held nodes n); number = n; name = x }) o

module _ (nodes : Nodes) where
  good_listed : (slots : List Slot) → HasNamesOnce slots → AreGood (λ x. of_number nodes x (number_in slots x)) (listed nodes (filter is_used slots))
  good_listed [] once = tt
  good_listed (Unused ∷ slots) once = good_listed slots (rest_once Unused slots once)
  good_listed (Entry number name ∷ slots) once = (
    sym (ap (λ b. of_number nodes name (if b then Some number else number_in slots name)) (bytes_itself name)),
    all_kept _ _ (listed nodes (filter is_used slots)) (λ (f : EntryOf) good. later f good) (good_listed slots (rest_once (Entry number name) slots once)),
  )
    where
      later : (f : EntryOf) → Some f ≡ of_number nodes f.name (number_in slots f.name) → Some f ≡ of_number nodes f.name (if bytes_eq name f.name then Some number else number_in slots f.name)
      later f good =
          elim (bytes_eq name f.name) as (λ b. bytes_eq name f.name ≡ b → Some f ≡ of_number nodes f.name (if b then Some number else number_in slots f.name)) [
            | true ↦ λ same. let none : of_number nodes f.name (number_in slots f.name) ≡ None = ap (of_number nodes f.name) (ap (number_in slots) (sym (same_bytes name f.name same)) ∙ none_later number name slots once) in cc
            | false ↦ λ other. good
          ] refl

  listed_names : (slots : List Slot) → names (listed nodes (filter is_used slots)) ≡ names_in slots
  listed_names [] = refl
  listed_names (Unused ∷ slots) = listed_names slots
  listed_names (Entry number name ∷ slots) = ap (λ rest. name ∷ rest) (listed_names slots)

module _ (nodes : Nodes) (tree : Tree) (h : IsTree tree) (holds : HoldsNodes nodes tree) (path : Path) (node : Node) (stood : node_at tree path ≡ Some node) where
  abbrev slots : List Slot
  slots = slots_of (held nodes node.number)

  same_entry : (x : List ℕ) → of_number nodes x (number_in slots x) ≡ at_name x (node_at tree (path ++ x ∷ []))
  same_entry x = ap (of_number nodes x) (holds.slots path node x stood) ∙ by (node_at tree (path ++ x ∷ [])) refl
    where
      by : (o : Option Node) → node_at tree (path ++ x ∷ []) ≡ o → of_number nodes x (option_map (λ (n : Node). n.number) o) ≡ at_name x o
      by None is = refl
      by (Some n) is = (λ i. Some (record { kind = kind_held (held nodes n.number) n (holds.each (path ++ x ∷ []) n is) i; number = n.number; name = x }))

  pub entries_are : HasNamesOnce slots → (sorted : List EntryOf) → AreEntries nodes slots sorted → sorted ≡ entries_of tree path
  entries_are once sorted are =
      let good : AreGood (λ x. of_number nodes x (number_in slots x)) sorted =
      all_in_turn (λ (e : EntryOf). Some e ≡ of_number nodes e.name (number_in slots e.name)) sorted (All-permutation (λ (e : EntryOf). Some e ≡ of_number nodes e.name (number_in slots e.name)) (listed nodes (filter is_used slots)) sorted are.same (all_by_place (λ (e : EntryOf). Some e ≡ of_number nodes e.name (number_in slots e.name)) (listed nodes (filter is_used slots)) (good_listed nodes slots once))) in
      let fine : AreGood (λ x. of_number nodes x (number_in slots x)) (entries_of tree path) =
      all_kept _ _ (entries_of tree path) (λ (f : EntryOf) (e : Some f ≡ at_name f.name (node_at tree (path ++ f.name ∷ []))). e ∙ sym (same_entry f.name)) (good_entries tree h.ordered path) in
      let moved : IsPermutation (names (listed nodes (filter is_used slots))) (names sorted) = IsPermutation-map (λ (e : EntryOf). e.name) (listed nodes (filter is_used slots)) sorted are.same in
      let distinct : IsDistinct name_eq (names sorted) =
      IsDistinct-IsPermutation name_eq name_sym (names (listed nodes (filter is_used slots))) (names sorted) moved (subst (IsDistinct name_eq) (sym (listed_names nodes slots)) (slots_distinct slots once)) in
      same_lists (λ x. of_number nodes x (number_in slots x)) sorted (entries_of tree path) good fine (rising sorted distinct are.rising) (climbing tree h.ordered path)
      (λ x.
      sym (list_any-IsPermutation (name_eq x) (names (listed nodes (filter is_used slots))) (names sorted) moved)
      ∙ ap (λ ns. is_member name_eq ns x) (listed_names nodes slots) ∙ slot_member slots x ∙ ap is_some (holds.slots path node x stood) ∙ some_number (node_at tree (path ++ x ∷ [])) ∙ sym (entry_member tree path x))

-- ---- where a path leads

empty_of : (xs : List EntryOf) → ((x : List ℕ) → is_member name_eq (names xs) x ≡ false) → [] ≡ xs
empty_of [] none = refl
empty_of (e ∷ xs) none = let yes : is_member name_eq (names (e ∷ xs)) e.name ≡ true = ap (λ b. b || is_member name_eq (names xs) e.name) (bytes_itself e.name) in let no = none e.name in cc

names_once : (nodes : Nodes) → AreDirectories nodes → (number : ℕ) (o : Option HeldNode) → held nodes number ≡ o → HasNamesOnce (slots_of o)
names_once nodes directories number None e = λ i j a b same. let clash : false ≡ true = a in cc
names_once nodes directories number (Some (File size)) e = λ i j a b same. let clash : false ≡ true = a in cc
names_once nodes directories number (Some (Directory slots)) e = (directories number slots e).names

module _ (nodes : Nodes) (path : Path) (tree : Tree) (h : IsTree tree) (holds : HoldsNodes nodes tree) where
  -- where nothing is, there are no entries
  pub none_listed : (refusal : Refusal) → look nodes path ≡ Err refusal → [] ≡ entries_of tree path
  none_listed refusal e = empty_of (entries_of tree path) (λ x. entry_member tree path x ∙ sym (some_shape (node_at tree (path ++ x ∷ []))) ∙ ap is_some (none_below (shape_at tree) h.shape path x (ap shape_of (by (node_at tree path) refl))))
    where
      by : (o : Option Node) → node_at tree path ≡ o → node_at tree path ≡ None
      by None is = is
      by (Some node) is = let ok = look_there nodes tree h holds path node is in cc

  pub all_listed : AreDirectories nodes → (f : FoundNode) → look nodes path ≡ Ok f → (sorted : List EntryOf) → AreEntries nodes (slots_of (held nodes f.number)) sorted → sorted ≡ entries_of tree path
  all_listed directories f e sorted are = by (walk tree path) refl (sym (look_is nodes tree h holds path) ∙ e)
    where
      by : (r : Result Node Refusal) → walk tree path ≡ r → found r ≡ Ok f → sorted ≡ entries_of tree path
      by (Err refusal) is same = cc
      by (Ok node) is same =
          let one : found_of node ≡ f = cc in
          entries_are nodes tree h holds path node (walked tree path node is) (names_once nodes directories node.number (held nodes node.number) refl) sorted
          (subst (λ (g : FoundNode). AreEntries nodes (slots_of (held nodes g.number)) sorted) (sym one) are)

pub ok_then : {A E : Type 0} (P Q : A → Type 0) (r : Result A E) → ((x : A) → P x → Q x) → IfOk r P → IfOk r Q
ok_then P Q (Ok x) f p = f x p
ok_then P Q (Err e) f p = tt
