-- An entry that moves, as a directory that loses it and one that gets it then.
use Rattle.std.proofs.Common.{◌≡◌, ◌≢◌, ◌<◌, ℕ, true, false, List, length, Some, None, refl, sym, ap, subst, ◌∙◌, ⊎_elim, set}
use Rattle.std.specs.Prelude.{Option, Result, Ok, Err, IfOk, IsSome, is_some, nat_eq, if◌then◌else◌}
use Rattle.std.proofs.lemmas.Bool.{cases_eq, eqb-true}
use Rattle.std.proofs.lemmas.Bool.Decides.{nat_tests}
use Rattle.std.proofs.Common.{arith, rules}
use Rattle.std.specs.declared.alloc.AllocError.{AllocError}
use Rattle.block_format.specs.declared.slot.Slot.{Slot}
use Rattle.block_format.specs.declared.slot.Slot.TheVariants.{Entry}
use Rattle.dir_slots.specs.Slots.{number_in, slot_of, first_unused, with_slot, without_slot}
use Rattle.node_table.specs.Changes.{IsSet, HoldsSlots, GetsEntry, LosesEntry, MovesEntry}
use Rattle.node_table.specs.Held.{Nodes, held, slots_of}
use Rattle.node_table.specs.Moves.{MovesWithin}
use Rattle.node_table.specs.declared.counted.MovedSlots.{MovedSlots}
use Rattle.node_table.specs.declared.held.HeldNode.{HeldNode}
use Rattle.node_table.specs.declared.held.HeldNode.TheVariants.{Directory}
use Rattle.node_table.proofs.MoveSlots.{has_slot}
use Rattle.node_table.proofs.KeptLaws.{list_set, set_same, set_other, there_within}

-- a number is held
pub within_of : (nodes : Nodes) (number : ℕ) → HoldsSlots nodes number → number < length nodes
within_of nodes number there = there_within nodes number (ap is_some there)

-- a number set, told by what it is and what others are
pub is_set : (old new : Nodes) (number : ℕ) (o : Option HeldNode) → held new number ≡ o → ((k : ℕ) → k ≢ number → held new k ≡ held old k) → IsSet old number o new
is_set old new number o same others k =
    elim (nat_eq k number) as (λ b. nat_eq k number ≡ b → held new k ≡ (if b then o else held old k)) [
      | true ↦ λ e. ap (held new) (eqb-true k number e) ∙ same
      | false ↦ λ e. let ne : k ≢ number = grind (arith, nat_tests) in others k ne
    ] refl

module _ (old new : Nodes) (parent number : ℕ) (name into_name : List ℕ) (directory : HoldsSlots old parent) (there : number_in (slots_of (held old parent)) name ≡ Some number) where
  abbrev slots : List Slot
  slots = slots_of (held old parent)

  abbrev between : ℕ → Nodes
  between left = set old parent (Some (Directory (without_slot slots (Some left))))

  between_set : (left : ℕ) → IsSet old parent (Some (Directory (without_slot slots (Some left)))) (between left)
  between_set left = list_set old parent _ (within_of old parent directory)

  between_parent : (left : ℕ) → held (between left) parent ≡ Some (Directory (without_slot slots (Some left)))
  between_parent left = set_same old (between left) parent _ (between_set left)

  loses : (left : ℕ) → slot_of slots name ≡ Some left → LosesEntry old parent left number name (between left)
  loses left is = record { directory = directory; slot_is = is; number_is = there; set = between_set left }

  -- in one directory
  pub moves_within : (moved : MovedSlots) → MovesWithin old parent name number into_name moved new → MovesEntry old parent moved.left parent moved.came number name into_name new
  moves_within moved m =
      let same : slots_of (held (between moved.left) parent) ≡ without_slot slots (Some moved.left) = ap slots_of (between_parent moved.left) in
      record {
        between = between moved.left;
        left = loses moved.left m.1.left;
        came = record {
          directory = between_parent moved.left ∙ ap (λ s. Some (Directory s)) (sym same);
          first = m.1.came ∙ ap first_unused (sym same);
          set = is_set (between moved.left) new parent _
              (set_same old new parent _ m.2 ∙ ap (λ s. Some (Directory s)) (m.1.now ∙ ap (λ s. with_slot s moved.came (Entry number into_name)) (sym same)))
              (λ k ne. set_other old new parent _ m.2 k ne ∙ sym (set_other old (between moved.left) parent _ (between_set moved.left) k ne));
        };
      }

  -- from one directory to another, which got it first
  module _ (into : ℕ) (apart : parent ≢ into) (mid : Nodes) (came left : ℕ) (gets : GetsEntry old into came number into_name mid) (slot_is : slot_of (slots_of (held mid parent)) name ≡ Some left)
      (taken : IsSet mid parent (Some (Directory (without_slot (slots_of (held mid parent)) (Some left)))) new) where
    pub mid_parent : held mid parent ≡ held old parent
    mid_parent = set_other old mid into _ gets.set parent apart

    between_into : held (between left) into ≡ held old into
    between_into = set_other old (between left) parent _ (between_set left) into (λ is. apart (sym is))

    new_into : held new into ≡ held mid into
    new_into = set_other mid new parent _ taken into (λ is. apart (sym is))

    new_parent : held new parent ≡ Some (Directory (without_slot slots (Some left)))
    new_parent = set_same mid new parent _ taken ∙ ap (λ o. Some (Directory (without_slot (slots_of o) (Some left)))) mid_parent

    others : (k : ℕ) → k ≢ into → held new k ≡ held (between left) k
    others k ne =
        ⊎_elim (λ (is : k ≡ parent). ap (held new) is ∙ new_parent ∙ sym (ap (held (between left)) is ∙ between_parent left))
        (λ (np : k ≡ parent → ⊥). set_other mid new parent _ taken k np ∙ set_other old mid into _ gets.set k ne ∙ sym (set_other old (between left) parent _ (between_set left) k np))
        (cases_eq k parent)

    pub moves_apart : MovesEntry old parent left into came number name into_name new
    moves_apart = record {
      between = between left;
      left = loses left (ap (λ o. slot_of (slots_of o) name) (sym mid_parent) ∙ slot_is);
      came = record {
        directory = between_into ∙ gets.directory ∙ ap (λ o. Some (Directory (slots_of o))) (sym between_into);
        first = gets.first ∙ ap (λ o. first_unused (slots_of o)) (sym between_into);
        set = is_set (between left) new into _ (new_into ∙ set_same old mid into _ gets.set ∙ ap (λ o. Some (Directory (with_slot (slots_of o) came (Entry number into_name)))) (sym between_into)) others;
      };
    }

pub moved_ok : (r : Result MovedSlots AllocError) (old new : Nodes) (parent into number : ℕ) (name into_name : List ℕ) → HoldsSlots old parent → number_in (slots_of (held old parent)) name ≡ Some number → parent ≡ into
    → IfOk r (λ moved. MovesWithin old parent name number into_name moved new) → IfOk r (λ moved. MovesEntry old parent moved.left into moved.came number name into_name new)
moved_ok (Err e) old new parent into number name into_name directory there same m = tt
moved_ok (Ok moved) old new parent into number name into_name directory there same m =
    subst (λ (k : ℕ). MovesEntry old parent moved.left k moved.came number name into_name new) same (moves_within old new parent number name into_name directory there moved m)

pub slot_there : (slots : List Slot) (name : List ℕ) (number : ℕ) → number_in slots name ≡ Some number → IsSome (slot_of slots name)
slot_there slots name number some = by (slot_of slots name) refl
  where
    by : (o : Option ℕ) → slot_of slots name ≡ o → IsSome o
    by None none = absurd (has_slot slots name number some none)
    by (Some i) e = search rules
