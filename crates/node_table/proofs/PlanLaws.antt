-- What a change says is told before it is done.
use Rattle.std.proofs.Common.{◌≡◌, ◌≢◌, ◌≤◌, ◌<◌, ℕ, true, false, List, [], ◌∷◌, ◌++◌, Some, refl, sym, ap, ◌∙◌, arith}
use Rattle.std.specs.Prelude.{Ok, nat_eq, nat_lt, min, if◌then◌else◌}
use Rattle.std.proofs.lemmas.Bool.Decides.{nat_tests}
use Rattle.block_format.specs.declared.slot.Slot.{Slot}
use Rattle.dir_slots.specs.Slots.{number_in, slot_of, first_unused, without_slot}
use Rattle.tree_model.specs.Path.{Path, parent_of}
use Rattle.node_table.specs.Changes.{IsSet, LeadsTo, IsMade, IsSized, IsRemoved, IsRenamed}
use Rattle.node_table.specs.Held.{Nodes, held, slots_of}
use Rattle.node_table.specs.Numbers.{IsNext}
use Rattle.node_table.specs.declared.change.Change.{Change}
use Rattle.node_table.specs.declared.change.Change.TheVariants.{Made, Sized, Removed, Renamed}
use Rattle.node_table.specs.declared.held.FoundNode.{FoundNode}
use Rattle.node_table.specs.declared.held.HeldNode.{HeldNode}
use Rattle.node_table.specs.declared.held.HeldNode.TheVariants.{File, Directory}
use Rattle.node_table.proofs.MoveSlots.{first_kept, first_cleared, slot_within}

-- ---- each part is told once

same_lead : (nodes : Nodes) (path : Path) (a b : ℕ) → LeadsTo nodes path a → LeadsTo nodes path b → a ≡ b
same_lead nodes path a b p q =
    let both : Ok p.0 ≡ Ok q.0 = sym p.1 ∙ q.1 in
    let one : p.0 ≡ q.0 = cc in sym p.2 ∙ ap (λ (found : FoundNode). found.number) one ∙ q.2

not_less : (nodes : Nodes) (a b : ℕ) → IsNext nodes a → IsNext nodes b → a < b → ⊥
not_less nodes a b p q lt = let clash : true ≡ false = sym (q.least a p.at_least lt) ∙ p.free in cc

one_next : (nodes : Nodes) (a b : ℕ) → IsNext nodes a → IsNext nodes b → a ≡ b
one_next nodes a b p q = omega (arith, not_less nodes a b p q, not_less nodes b a q p)

same_end : (path : Path) (x y : List ℕ) → path ++ x ∷ [] ≡ path ++ y ∷ [] → x ≡ y
same_end [] x y e = cc
same_end (name ∷ path) x y e = same_end path x y (let rest : path ++ x ∷ [] ≡ path ++ y ∷ [] = cc in rest)

one_slot : (slots : List Slot) (name other : List ℕ) (i j : ℕ) → name ≡ other → slot_of slots name ≡ Some i → slot_of slots other ≡ Some j → i ≡ j
one_slot slots name other i j same is also = let both : Some i ≡ Some j = sym is ∙ ap (slot_of slots) same ∙ also in cc

one_number : (slots : List Slot) (name other : List ℕ) (i j : ℕ) → name ≡ other → number_in slots name ≡ Some i → number_in slots other ≡ Some j → i ≡ j
one_number slots name other i j same is also = let both : Some i ≡ Some j = sym is ∙ ap (number_in slots) same ∙ also in cc

-- the first unused slot, once the slot of a name is free too
first_without : (slots : List Slot) (name : List ℕ) (i : ℕ) → slot_of slots name ≡ Some i → first_unused (without_slot slots (Some i)) ≡ min (first_unused slots) i
first_without slots name i is =
    elim (nat_lt (first_unused slots) i) as (λ b. nat_lt (first_unused slots) i ≡ b → first_unused (without_slot slots (Some i)) ≡ min (first_unused slots) i) [
      | true ↦ λ e. let lt : first_unused slots < i = grind (arith, nat_tests) in omega (arith, lt, first_kept slots i lt (slot_within slots name i is))
      | false ↦ λ e. let le : i ≤ first_unused slots = grind (arith, nat_tests) in omega (arith, le, first_cleared slots i le (slot_within slots name i is))
    ] refl

-- ---- a new node

pub made_said : (nodes : Nodes) (path : Path) (parent slot number : ℕ) → LeadsTo nodes (parent_of path) parent → slot ≡ first_unused (slots_of (held nodes parent)) → IsNext nodes number
    → (fresh : HeldNode) (change : Change) (new : Nodes) → IsMade path fresh change nodes new → change ≡ Made parent slot number
made_said nodes path parent slot number leads first next fresh (Made p s n) new m =
    let parents : p ≡ parent = same_lead nodes (parent_of path) p parent m.parent_is leads in
    let numbers : n ≡ number = one_next nodes n number m.least next in
    let slots : s ≡ slot = m.entry.first ∙ ap (λ k. first_unused (slots_of (held nodes k))) parents ∙ sym first in cc
made_said nodes path parent slot number leads first next fresh (Sized n size) new m = absurd m
made_said nodes path parent slot number leads first next fresh (Removed p s n) new m = absurd m
made_said nodes path parent slot number leads first next fresh (Renamed n from from_slot to to_slot) new m = absurd m

-- ---- a file of another size

pub sized_said : (nodes : Nodes) (path : Path) (size_after : ℕ → ℕ) (number before size : ℕ) → LeadsTo nodes path number → held nodes number ≡ Some (File before) → size ≡ size_after before
    → (change : Change) (new : Nodes) → IsSized path size_after change nodes new → change ≡ Sized number size
sized_said nodes path size_after number before size leads was is (Sized n s) new m =
    let numbers : n ≡ number = same_lead nodes path n number m.path_is leads in
    let both : Some (File m.before) ≡ Some (File before) = sym m.was ∙ ap (held nodes) numbers ∙ was in
    let inner : File m.before ≡ File before = cc in
    let same : m.before ≡ before = cc in
    let sizes : s ≡ size = m.size_is ∙ ap size_after same ∙ sym is in cc
sized_said nodes path size_after number before size leads was is (Made p s n) new m = absurd m
sized_said nodes path size_after number before size leads was is (Removed p s n) new m = absurd m
sized_said nodes path size_after number before size leads was is (Renamed n from from_slot to to_slot) new m = absurd m

-- ---- a node gone

pub removed_said : (nodes : Nodes) (path : Path) (parent slot number : ℕ) (name : List ℕ) → path ≡ parent_of path ++ name ∷ [] → LeadsTo nodes (parent_of path) parent
    → slot_of (slots_of (held nodes parent)) name ≡ Some slot → number_in (slots_of (held nodes parent)) name ≡ Some number
    → (change : Change) (new : Nodes) → IsRemoved path change nodes new → change ≡ Removed parent slot number
removed_said nodes path parent slot number name path_is leads slot_is number_is (Removed p s n) new m =
    let parents : p ≡ parent = same_lead nodes (parent_of path) p parent m.parent_is leads in
    let names : m.name ≡ name = same_end (parent_of path) m.name name (sym m.path_is ∙ path_is) in
    let slots : s ≡ slot = one_slot (slots_of (held nodes parent)) m.name name s slot names (ap (λ k. slot_of (slots_of (held nodes k)) m.name) (sym parents) ∙ m.entry.slot_is) slot_is in
    let numbers : n ≡ number = one_number (slots_of (held nodes parent)) m.name name n number names (ap (λ k. number_in (slots_of (held nodes k)) m.name) (sym parents) ∙ m.entry.number_is) number_is in cc
removed_said nodes path parent slot number name path_is leads slot_is number_is (Made p s n) new m = absurd m
removed_said nodes path parent slot number name path_is leads slot_is number_is (Sized n size) new m = absurd m
removed_said nodes path parent slot number name path_is leads slot_is number_is (Renamed n from from_slot to to_slot) new m = absurd m

-- ---- a node renamed

-- where its entry comes in, by whether that is the directory that it leaves
abbrev pub comes_into : (nodes : Nodes) (parent into from_slot : ℕ) → ℕ
comes_into nodes parent into from_slot = if nat_eq into parent then min (first_unused (slots_of (held nodes into))) from_slot else first_unused (slots_of (held nodes into))

pub comes_back : (nodes : Nodes) (parent into from_slot first slot : ℕ) → parent ≡ into → first ≡ first_unused (slots_of (held nodes into)) → slot ≡ min first from_slot → slot ≡ comes_into nodes parent into from_slot
comes_back nodes parent into from_slot first slot same is least =
    let yes : nat_eq into parent ≡ true = grind (arith, nat_tests) in
    least ∙ ap (λ k. min k from_slot) is ∙ sym (ap (λ b. if b then min (first_unused (slots_of (held nodes into))) from_slot else first_unused (slots_of (held nodes into))) yes)

pub comes_over : (nodes : Nodes) (parent into from_slot first : ℕ) → parent ≢ into → first ≡ first_unused (slots_of (held nodes into)) → first ≡ comes_into nodes parent into from_slot
comes_over nodes parent into from_slot first differs is =
    let no : nat_eq into parent ≡ false = grind (arith, nat_tests) in
    is ∙ sym (ap (λ b. if b then min (first_unused (slots_of (held nodes into))) from_slot else first_unused (slots_of (held nodes into))) no)

-- the first unused slot of a directory, once the entry has left
pub first_between : (nodes between : Nodes) (p i s : ℕ) (name : List ℕ) → slot_of (slots_of (held nodes p)) name ≡ Some s → IsSet nodes p (Some (Directory (without_slot (slots_of (held nodes p)) (Some s)))) between
    → first_unused (slots_of (held between i)) ≡ comes_into nodes p i s
first_between nodes between p i s name slot_is is =
    ap (λ o. first_unused (slots_of o)) (is i)
    ∙ elim (nat_eq i p) as (λ b. nat_eq i p ≡ b → first_unused (slots_of (if b then Some (Directory (without_slot (slots_of (held nodes p)) (Some s))) else held nodes i)) ≡ (if b then min (first_unused (slots_of (held nodes i))) s else first_unused (slots_of (held nodes i)))) [
      | true ↦ λ e. let same : i ≡ p = grind (arith, nat_tests) in
          first_without (slots_of (held nodes p)) name s slot_is ∙ ap (λ k. min (first_unused (slots_of (held nodes k))) s) (sym same)
      | false ↦ λ e. refl
    ] refl

pub renamed_said : (nodes : Nodes) (from to : Path) (number parent slot into into_slot : ℕ) (name : List ℕ) → from ≡ parent_of from ++ name ∷ []
    → LeadsTo nodes (parent_of from) parent → LeadsTo nodes (parent_of to) into → slot_of (slots_of (held nodes parent)) name ≡ Some slot → number_in (slots_of (held nodes parent)) name ≡ Some number
    → into_slot ≡ comes_into nodes parent into slot
    → (change : Change) (new : Nodes) → IsRenamed from to change nodes new → change ≡ Renamed number parent slot into into_slot
renamed_said nodes from to number parent slot into into_slot name from_is leads into_leads slot_is number_is comes (Renamed n p s i t) new m =
    let parents : p ≡ parent = same_lead nodes (parent_of from) p parent m.parent_is leads in
    let intos : i ≡ into = same_lead nodes (parent_of to) i into m.into_is into_leads in
    let names : m.name ≡ name = same_end (parent_of from) m.name name (sym m.from_is ∙ from_is) in
    let slots : s ≡ slot = one_slot (slots_of (held nodes parent)) m.name name s slot names (ap (λ k. slot_of (slots_of (held nodes k)) m.name) (sym parents) ∙ m.entry.left.slot_is) slot_is in
    let numbers : n ≡ number = one_number (slots_of (held nodes parent)) m.name name n number names (ap (λ k. number_in (slots_of (held nodes k)) m.name) (sym parents) ∙ m.entry.left.number_is) number_is in
    let came : t ≡ comes_into nodes p i s = m.entry.came.first ∙ first_between nodes m.entry.between p i s m.name m.entry.left.slot_is m.entry.left.set in
    let into_slots : t ≡ into_slot = came ∙ ap (λ k. comes_into nodes k i s) parents ∙ ap (λ k. comes_into nodes parent k s) intos ∙ ap (comes_into nodes parent into) slots ∙ sym comes in cc
renamed_said nodes from to number parent slot into into_slot name from_is leads into_leads slot_is number_is comes (Made p s n) new m = absurd m
renamed_said nodes from to number parent slot into into_slot name from_is leads into_leads slot_is number_is comes (Sized n size) new m = absurd m
renamed_said nodes from to number parent slot into into_slot name from_is leads into_leads slot_is number_is comes (Removed p s n) new m = absurd m
