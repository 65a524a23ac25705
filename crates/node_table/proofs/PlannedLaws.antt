-- What is planned can be done: some table comes of it.
use Rattle.std.proofs.Common.{◌≡◌, ◌<◌, ◌≤◌, ℕ, Bool, true, false, List, [], ◌∷◌, ◌++◌, length, Some, None, refl, sym, ap, ◌∙◌, arith, set, length-set}
use Rattle.std.specs.Prelude.{nat_eq, nat_lt, if◌then◌else◌, Option}
use Rattle.std.proofs.lemmas.Bool.Decides.{nat_tests}
use Rattle.std.proofs.lemmas.List.{get_or_past}
use Rattle.block_format.specs.declared.slot.Slot.TheVariants.{Entry}
use Rattle.dir_slots.specs.Slots.{slot_of, first_unused, with_slot, without_slot}
use Rattle.tree_model.specs.Path.{Path, parent_of}
use Rattle.node_table.specs.Changes.{HoldsSlots, LeadsTo, Makes, Sizes, Removes, Renames}
use Rattle.node_table.specs.Held.{Nodes, held, slots_of}
use Rattle.node_table.specs.Numbers.{IsNext}
use Rattle.node_table.specs.declared.held.HeldNode.{HeldNode}
use Rattle.node_table.specs.declared.held.HeldNode.TheVariants.{File, Directory}
use Rattle.node_table.proofs.AcceptedLaws.{MakeReady, RemoveReady, RenameReady}
use Rattle.node_table.proofs.KeptLaws.{list_set}
use Rattle.node_table.proofs.PlanLaws.{comes_into, first_between}

-- a number that has a node has a place in the table
within : (nodes : Nodes) (n : ℕ) (node : HeldNode) → held nodes n ≡ Some node → n < length nodes
within nodes n node is = by (nat_lt n (length nodes)) refl
  where
    by : (t : Bool) → nat_lt n (length nodes) ≡ t → n < length nodes
    by true lt = grind (arith, nat_tests)
    by false ge = let past : length nodes ≤ n = grind (arith, nat_tests) in let never : None ≡ Some node = sym (get_or_past nodes n None past) ∙ is in cc

-- a number with a directory has the slots that it has
own_slots : (nodes : Nodes) (n : ℕ) (own : Option HeldNode) → held nodes n ≡ own → own ≡ Some (Directory (slots_of own)) → HoldsSlots nodes n
own_slots nodes n own is directory = is ∙ directory ∙ ap (λ o. Some (Directory (slots_of o))) (sym is)

pub made_does : (nodes : Nodes) (path : Path) (parent slot number : ℕ) (name : List ℕ) → length nodes ≡ 65536 → MakeReady nodes path parent name → path ≡ parent_of path ++ name ∷ []
    → slot ≡ first_unused (slots_of (held nodes parent)) → IsNext nodes number → (fresh : HeldNode) → (new : Nodes) × Makes path fresh parent slot number nodes new
made_does nodes path parent slot number name many ready path_is first next fresh =
    let entry : Option HeldNode = Some (Directory (with_slot (slots_of (held nodes parent)) slot (Entry number name))) in
    let between : Nodes = set nodes parent entry in (
      set between number (Some fresh),
      record {
        name = name;
        between = between;
        path_is = path_is;
        parent_is = ready.leads;
        least = next;
        entry = record { directory = ready.directory; first = first; set = list_set nodes parent entry (within nodes parent _ ready.directory) };
        node = list_set between number (Some fresh) (omega (arith, length-set nodes parent entry, many, next.at_most));
      },
    )

pub sized_does : (nodes : Nodes) (path : Path) (size_after : ℕ → ℕ) (number before size : ℕ) → LeadsTo nodes path number → held nodes number ≡ Some (File before) → size ≡ size_after before
    → (new : Nodes) × Sizes path size_after number size nodes new
sized_does nodes path size_after number before size leads was is = (
  set nodes number (Some (File size)),
  record { before = before; path_is = leads; was = was; size_is = is; node = list_set nodes number (Some (File size)) (within nodes number _ was) },
)

pub removed_does : (nodes : Nodes) (path : Path) (parent slot number : ℕ) (name : List ℕ) → length nodes ≡ 65536 → RemoveReady nodes path parent number name → path ≡ parent_of path ++ name ∷ []
    → slot_of (slots_of (held nodes parent)) name ≡ Some slot → (new : Nodes) × Removes path parent slot number nodes new
removed_does nodes path parent slot number name many ready path_is slot_is =
    let entry : Option HeldNode = Some (Directory (without_slot (slots_of (held nodes parent)) (Some slot))) in
    let between : Nodes = set nodes parent entry in (
      set between number None,
      record {
        name = name;
        between = between;
        path_is = path_is;
        parent_is = ready.leads;
        entry = record { directory = ready.directory; slot_is = slot_is; number_is = ready.number_is; set = list_set nodes parent entry (within nodes parent _ ready.directory) };
        node = list_set between number None (omega (arith, length-set nodes parent entry, many, ready.at_most));
      },
    )

module _ (nodes : Nodes) (from to : Path) (number parent slot into into_slot : ℕ) (name into_name : List ℕ) (many : length nodes ≡ 65536) (ready : RenameReady nodes from to parent into number name into_name)
    (from_is : from ≡ parent_of from ++ name ∷ []) (to_is : to ≡ parent_of to ++ into_name ∷ []) (slot_is : slot_of (slots_of (held nodes parent)) name ≡ Some slot) (comes : into_slot ≡ comes_into nodes parent into slot) where
  left : Option HeldNode
  left = Some (Directory (without_slot (slots_of (held nodes parent)) (Some slot)))

  between : Nodes
  between = set nodes parent left

  is_between : (k : ℕ) → held between k ≡ (if nat_eq k parent then left else held nodes k)
  unfolding between
  is_between = list_set nodes parent left (within nodes parent _ ready.directory)

  still : HoldsSlots between into
  unfolding left
  still = by (nat_eq into parent) refl
    where
      by : (t : Bool) → nat_eq into parent ≡ t → HoldsSlots between into
      by true same = own_slots between into left (is_between into ∙ ap (λ t. if t then left else held nodes into) same) refl
      by false apart = own_slots between into (held nodes into) (is_between into ∙ ap (λ t. if t then left else held nodes into) apart) ready.into_directory

  came : Option HeldNode
  came = Some (Directory (with_slot (slots_of (held between into)) into_slot (Entry number into_name)))

  pub renamed_does : (new : Nodes) × Renames from to number parent slot into into_slot nodes new
  unfolding left came
  renamed_does = (
    set between into came,
    record {
      name = name;
      into_name = into_name;
      from_is = from_is;
      to_is = to_is;
      parent_is = ready.leads;
      into_is = ready.into_leads;
      entry = record {
        between = between;
        left = record { directory = ready.directory; slot_is = slot_is; number_is = ready.number_is; set = is_between };
        came = record {
          directory = still;
          first = comes ∙ sym (first_between nodes between parent into slot name slot_is is_between);
          set = list_set between into came (within between into _ still);
        };
      };
    },
  )
