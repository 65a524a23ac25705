-- A directory has as many used slots as its node has entries.
use Rattle.std.proofs.Common.{◌≡◌, ◌≤◌, ℕ, suc, true, false, cond, List, [], ◌∷◌, ◌++◌, length, map, Some, None, refl, sym, ap, subst, ◌∙◌, arith}
use Rattle.std.specs.Prelude.{Option, is_some, filter, ◌||◌}
use Rattle.std.specs.List.{IsDistinct, AllByRecursion, cons_option}
use Rattle.std.specs.Set.{is_member}
use Rattle.std.specs.Cmp.Lexicographic.{nat_list_eq_equiv}
use Rattle.std.proofs.lemmas.Map.Made.{length-from_same_keys, length-le_from_is_member}
use Rattle.block_format.specs.declared.slot.Slot.{Slot}
use Rattle.block_format.specs.declared.slot.Slot.TheVariants.{Unused, Entry}
use Rattle.dir_slots.specs.Slots.{HasNamesOnce, is_used, name_of, number_in, slot_at}
use Rattle.tree_model.specs.Order.{IsOrdered}
use Rattle.tree_model.specs.Path.{Path, name_eq, strip}
use Rattle.tree_model.specs.Tree.{Tree, node_at, entries_of, entry_below}
use Rattle.tree_model.specs.declared.reply.Entry as entries
use Rattle.tree_model.proofs.EntryCounts.{ordered_rest}
use Rattle.tree_model.proofs.Fronts.{tie, tie_is, tie_itself, test_fails, strip_is, strip_back}
use Rattle.tree_model.proofs.Paths.{same_name, same_test}
use Rattle.node_table.specs.Counts.{count}
use Rattle.node_table.proofs.NumberLaws.{head_apart}

-- ---- names in slots

abbrev pub names_in : List Slot → List (List ℕ)
names_in slots = map name_of (filter is_used slots)

names_length : (slots : List Slot) → length (names_in slots) ≡ count slots
names_length [] = refl
names_length (Unused ∷ slots) = names_length slots
names_length (Entry number name ∷ slots) = ap suc (names_length slots)

pub name_sym : (a b : List ℕ) → name_eq a b ≡ name_eq b a
name_sym a b = same_test _ _
    (λ e. subst (λ (x : List ℕ). name_eq x a ≡ true) (same_name a b e) (nat_list_eq_equiv.refl a))
    (λ e. subst (λ (x : List ℕ). name_eq x b ≡ true) (same_name b a e) (nat_list_eq_equiv.refl b))

pub slot_member : (slots : List Slot) (name : List ℕ) → is_member name_eq (names_in slots) name ≡ is_some (number_in slots name)
slot_member [] name = refl
slot_member (Unused ∷ slots) name = slot_member slots name
slot_member (Entry number other ∷ slots) name =
    ap (λ b. b || is_member name_eq (names_in slots) name) (name_sym name other)
    ∙ elim (name_eq other name) as (λ b. (b || is_member name_eq (names_in slots) name) ≡ is_some (cond b (Some number) (number_in slots name))) [ true ↦ refl | false ↦ slot_member slots name ]

pub rest_once : (slot : Slot) (slots : List Slot) → HasNamesOnce (slot ∷ slots) → HasNamesOnce slots
rest_once slot slots once = λ i j a b same. let next : suc i ≡ suc j = once (suc i) (suc j) a b same in omega arith

pub member_at : (slots : List Slot) (name : List ℕ) → is_member name_eq (names_in slots) name ≡ true → (i : ℕ) × (is_used (slot_at slots i) ≡ true) × (name_of (slot_at slots i) ≡ name)
member_at [] name e = cc
member_at (Unused ∷ slots) name e = let m = member_at slots name e in (suc m.0, m.1, m.2)
member_at (Entry number other ∷ slots) name e =
    elim (name_eq name other) as (λ b. name_eq name other ≡ b → (b || is_member name_eq (names_in slots) name) ≡ true → (i : ℕ) × (is_used (slot_at (Entry number other ∷ slots) i) ≡ true) × (name_of (slot_at (Entry number other ∷ slots) i) ≡ name)) [
      | true ↦ λ same more. (0, refl, sym (same_name name other same))
      | false ↦ λ differs more. let m = member_at slots name more in (suc m.0, m.1, m.2)
    ] refl e

none_like : (x : List ℕ) (xs : List (List ℕ)) → is_member name_eq xs x ≡ false → AllByRecursion (λ y. name_eq x y ≡ false) xs
none_like x [] e = tt
none_like x (y ∷ ys) e =
    elim (name_eq x y) as (λ b. name_eq x y ≡ b → (b || is_member name_eq ys x) ≡ false → AllByRecursion (λ y. name_eq x y ≡ false) (y ∷ ys)) [
      | true ↦ λ same none. cc
      | false ↦ λ other none. (other, none_like x ys none)
    ] refl e

pub slots_distinct : (slots : List Slot) → HasNamesOnce slots → IsDistinct name_eq (names_in slots)
unfolding IsDistinct
slots_distinct [] once = tt
slots_distinct (Unused ∷ slots) once = slots_distinct slots (rest_once Unused slots once)
slots_distinct (Entry number name ∷ slots) once = (
  none_like name (names_in slots) (test_fails _ (λ e.
      let m = member_at slots name e in
      let same : 0 ≡ suc m.0 = once 0 (suc m.0) refl m.1 (sym m.2) in
      absurd (omega arith))),
  slots_distinct slots (rest_once (Entry number name) slots once),
)

-- ---- names of entries

abbrev pub names_of : Tree → Path → List (List ℕ)
names_of es q = map (λ (e : entries.Entry). e.name) (entries_of es q)

entries_length : (xs : List entries.Entry) → length (map (λ (e : entries.Entry). e.name) xs) ≡ length xs
entries_length [] = refl
entries_length (x ∷ xs) = ap suc (entries_length xs)

abbrev names_with : Option entries.Entry → List entries.Entry → List (List ℕ)
names_with o rest = map (λ (e : entries.Entry). e.name) (cons_option o rest)

-- how the first of some nodes stands to a name in a directory
tied_name : (q : Path) (x name : List ℕ) → tie (q ++ name ∷ []) (q ++ x ∷ []) ≡ name_eq name x
tied_name q x name = same_test _ _
    (λ t. let same : name ∷ [] ≡ x ∷ [] = cancel q (tie_is _ _ t) in let is : name ≡ x = cc in subst (λ (y : List ℕ). name_eq name y ≡ true) is (nat_list_eq_equiv.refl name))
    (λ e. ap (λ y. tie (q ++ name ∷ []) (q ++ y ∷ [])) (sym (same_name name x e)) ∙ tie_itself (q ++ name ∷ []))
  where
    cancel : (p : Path) → p ++ name ∷ [] ≡ p ++ x ∷ [] → name ∷ [] ≡ x ∷ []
    cancel [] e = e
    cancel (y ∷ p) e = let rest : p ++ name ∷ [] ≡ p ++ x ∷ [] = cc in cancel p rest

untied : (q p : Path) (name : List ℕ) → ((r : Path) → strip q p ≡ Some r → r ≡ name ∷ [] → ⊥) → tie (q ++ name ∷ []) p ≡ false
untied q p name never = test_fails _ (λ t. never (name ∷ []) (ap (strip q) (sym (tie_is _ _ t)) ∙ strip_back q (name ∷ [])) refl)

pub entry_member : (es : Tree) (q : Path) (name : List ℕ) → is_member name_eq (names_of es q) name ≡ is_some (node_at es (q ++ name ∷ []))
entry_member [] q name = refl
entry_member (e ∷ es) q name =
    elim (strip q e.0) as (λ o. strip q e.0 ≡ o → is_member name_eq (names_with (entry_below o e.1) (entries_of es q)) name ≡ is_some (cond (tie (q ++ name ∷ []) e.0) (Some e.1) (node_at es (q ++ name ∷ [])))) [
      | None ↦ λ is. entry_member es q name ∙ sym (skip (λ r some same. let clash : None ≡ Some r = sym is ∙ some in cc))
      | Some r ↦ λ is. by (entry_member es q name) r is
    ] refl
  where
    skip : ((r : Path) → strip q e.0 ≡ Some r → r ≡ name ∷ [] → ⊥) → is_some (cond (tie (q ++ name ∷ []) e.0) (Some e.1) (node_at es (q ++ name ∷ []))) ≡ is_some (node_at es (q ++ name ∷ []))
    skip never = ap (λ b. is_some (cond b (Some e.1) (node_at es (q ++ name ∷ [])))) (untied q e.0 name never)

    by : is_member name_eq (names_of es q) name ≡ is_some (node_at es (q ++ name ∷ []))
        → (r : Path) → strip q e.0 ≡ Some r → is_member name_eq (names_with (entry_below (Some r) e.1) (entries_of es q)) name ≡ is_some (cond (tie (q ++ name ∷ []) e.0) (Some e.1) (node_at es (q ++ name ∷ [])))
    by rest [] is = rest ∙ sym (skip (λ r some same. let clash : Some [] ≡ Some (name ∷ []) = sym is ∙ some ∙ ap Some same in cc))
    by rest (x ∷ y ∷ more) is = rest ∙ sym (skip (λ r some same. let clash : Some (x ∷ y ∷ more) ≡ Some (name ∷ []) = sym is ∙ some ∙ ap Some same in cc))
    by rest (x ∷ []) is =
        sym (ap (λ b. is_some (cond b (Some e.1) (node_at es (q ++ name ∷ [])))) (ap (tie (q ++ name ∷ [])) (strip_is q e.0 (x ∷ []) is) ∙ tied_name q x name)
        ∙ elim (name_eq name x) as (λ b. is_some (cond b (Some e.1) (node_at es (q ++ name ∷ []))) ≡ (b || is_member name_eq (names_of es q) name)) [ true ↦ refl | false ↦ sym rest ])

entries_distinct : (es : Tree) → IsOrdered es → (q : Path) → IsDistinct name_eq (names_of es q)
unfolding IsDistinct
entries_distinct [] h q = tt
entries_distinct (e ∷ es) h q =
    elim (strip q e.0) as (λ o. strip q e.0 ≡ o → IsDistinct name_eq (names_with (entry_below o e.1) (entries_of es q))) [
      | None ↦ λ is. entries_distinct es (ordered_rest e es h) q
      | Some r ↦ λ is. by (entries_distinct es (ordered_rest e es h) q) r is
    ] refl
  where
    by : IsDistinct name_eq (names_of es q) → (r : Path) → strip q e.0 ≡ Some r → IsDistinct name_eq (names_with (entry_below (Some r) e.1) (entries_of es q))
    by rest [] is = rest
    by rest (x ∷ y ∷ more) is = rest
    by rest (x ∷ []) is = (none_like x (names_of es q) (entry_member es q x ∙ ap is_some (ap (node_at es) (sym (strip_is q e.0 (x ∷ []) is)) ∙ head_apart e es h)), rest)

-- ---- both

pub count_is : (slots : List Slot) (tree : Tree) (q : Path) → HasNamesOnce slots → IsOrdered tree → ((name : List ℕ) → is_some (number_in slots name) ≡ is_some (node_at tree (q ++ name ∷ []))) → count slots ≡ length (entries_of tree q)
count_is slots tree q once ordered same =
    sym (names_length slots)
    ∙ length-from_same_keys nat_list_eq_equiv (names_in slots) (names_of tree q) (slots_distinct slots once) (entries_distinct tree ordered q) (λ name. slot_member slots name ∙ same name ∙ sym (entry_member tree q name))
    ∙ entries_length (entries_of tree q)

distinct_more : (x : List ℕ) (xs : List (List ℕ)) → AllByRecursion (λ y. name_eq x y ≡ false) xs → IsDistinct name_eq xs → IsDistinct name_eq (x ∷ xs)
unfolding IsDistinct
distinct_more x xs none rest = (none, rest)

-- a directory that has each entry of another and one name more
pub more_entries : (s t : Tree) (q : Path) (name : List ℕ) → IsOrdered s → node_at s (q ++ name ∷ []) ≡ None → is_some (node_at t (q ++ name ∷ [])) ≡ true
    → ((x : List ℕ) → is_some (node_at s (q ++ x ∷ [])) ≡ true → is_some (node_at t (q ++ x ∷ [])) ≡ true) → suc (length (entries_of s q)) ≤ length (entries_of t q)
more_entries s t q name ordered none there all =
    let longer = length-le_from_is_member nat_list_eq_equiv (name ∷ names_of s q) (names_of t q) (one_more (none_like name (names_of s q) (entry_member s q name ∙ ap is_some none)) (entries_distinct s ordered q)) member in
    omega (arith, longer, entries_length (entries_of s q), entries_length (entries_of t q))
  where
    one_more : AllByRecursion (λ y. name_eq name y ≡ false) (names_of s q) → IsDistinct name_eq (names_of s q) → IsDistinct name_eq (name ∷ names_of s q)
    one_more none rest = distinct_more name (names_of s q) none rest

    member : (x : List ℕ) → is_member name_eq (name ∷ names_of s q) x ≡ true → is_member name_eq (names_of t q) x ≡ true
    member x e =
        elim (name_eq x name) as (λ b. name_eq x name ≡ b → (b || is_member name_eq (names_of s q) x) ≡ true → is_member name_eq (names_of t q) x ≡ true) [
          | true ↦ λ same more. ap (is_member name_eq (names_of t q)) (same_name x name same) ∙ entry_member t q name ∙ there
          | false ↦ λ other more. entry_member t q x ∙ all x (sym (entry_member s q x) ∙ more)
        ] refl e
