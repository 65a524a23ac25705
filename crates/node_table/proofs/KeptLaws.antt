-- What is kept beside the nodes, after one node is set.
use Rattle.std.proofs.Common.{◌≡◌, ◌≢◌, ◌≤◌, ◌<◌, ℕ, Bool, true, false, not, List, length, Some, None, refl, sym, ap, subst, ◌∙◌, arith, ⊎_elim, set, get_or-set_same, get_or-set_other, length-set}
use Rattle.std.specs.Prelude.{Option, is_some, nat_eq, ◌||◌, ◌&&◌, if◌then◌else◌}
use Rattle.std.specs.Cmp.{nat_cmp_total}
use Rattle.std.specs.Ordering.{nat_cmp, eq_by_cmp}
use Rattle.std.specs.FinSet as sets
use Rattle.std.proofs.lemmas.Bool.{cases_lt, eqb-true, eq-eqb}
use Rattle.std.proofs.lemmas.List.{get_or_past}
use Rattle.std.proofs.lemmas.Bool.Decides.{nat_tests}
use Rattle.block_format.specs.declared.slot.Slot.{Slot}
use Rattle.dir_slots.specs.Slots.{IsDirectory}
use Rattle.node_table.specs.Changes.{IsSet}
use Rattle.node_table.specs.Held.{Nodes, held}
use Rattle.node_table.specs.Kept.{IsKept, Fits}
use Rattle.node_table.specs.declared.held.HeldNode.{HeldNode}
use Rattle.node_table.specs.declared.held.HeldNode.TheVariants.{Directory}

-- ---- one number set

pub set_same : (old new : Nodes) (number : ℕ) (o : Option HeldNode) → IsSet old number o new → held new number ≡ o
set_same old new number o h = h number ∙ ap (λ b. if b then o else held old number) (eq-eqb number number refl)

pub set_other : (old new : Nodes) (number : ℕ) (o : Option HeldNode) → IsSet old number o new → (k : ℕ) → k ≢ number → held new k ≡ held old k
set_other old new number o h k ne = let no : nat_eq k number ≡ false = grind (arith, nat_tests) in h k ∙ ap (λ b. if b then o else held old k) no

-- what is in a list after one element is set
pub list_set : (nodes : Nodes) (number : ℕ) (o : Option HeldNode) → number < length nodes → IsSet nodes number o (set nodes number o)
list_set nodes number o lt k =
    elim (nat_eq k number) as (λ b. nat_eq k number ≡ b → held (set nodes number o) k ≡ (if b then o else held nodes k)) [
      | true ↦ λ e. ap (λ j. held (set nodes number o) j) (eqb-true k number e) ∙ get_or-set_same nodes number o None lt
      | false ↦ λ e. let ne : k ≢ number = grind (arith, nat_tests) in get_or-set_other nodes number k o None ne
    ] refl

fits_at : (o : Option HeldNode) → ((node : HeldNode) → o ≡ Some node → Fits node) → (slots : List Slot) → o ≡ Some (Directory slots) → IsDirectory slots
fits_at o fits slots e = fits (Directory slots) e

-- ---- what is kept

module _ (nodes : Nodes) (used after : sets.FinSet nat_cmp) (kept : IsKept nodes used) (number : ℕ) (o : Option HeldNode) (none_at_zero : is_some o ≡ (nat_eq number 0 || is_some o)) (at_most : number ≤ 65535) where
  kept_set : ((k : ℕ) → sets.contains after k ≡ (if nat_eq k number then is_some o else sets.contains used k)) → ((node : HeldNode) → o ≡ Some node → Fits node) → IsKept (set nodes number o) after
  kept_set has fits =
      let is : IsSet nodes number o (set nodes number o) = list_set nodes number o (omega (arith, kept.places)) in
      record {
        places = length-set nodes number o ∙ kept.places;
        numbers = λ k. has k ∙ elim (nat_eq k number) as (λ b. nat_eq k number ≡ b → held (set nodes number o) k ≡ (if b then o else held nodes k) → (if b then is_some o else sets.contains used k) ≡ (nat_eq k 0 || is_some (held (set nodes number o) k))) [
          | true ↦ λ e there. none_at_zero ∙ (λ i. nat_eq (sym (eqb-true k number e) i) 0 || is_some (sym there i))
          | false ↦ λ e there. kept.numbers k ∙ ap (λ n. nat_eq k 0 || is_some n) (sym there)
        ] refl (is k);
        directories = λ k slots there. elim (nat_eq k number) as (λ b. held (set nodes number o) k ≡ (if b then o else held nodes k) → IsDirectory slots) [
          | true ↦ λ e. fits_at o fits slots (sym e ∙ there)
          | false ↦ λ e. kept.directories k slots (sym e ∙ there)
        ] (is k);
      }

above_zero : (number : ℕ) (b : Bool) → 1 ≤ number → b ≡ (nat_eq number 0 || b)
above_zero number b le = let no : nat_eq number 0 ≡ false = grind (arith, nat_tests) in ap (λ x. x || b) (sym no)

true_after : (a : Bool) → true ≡ (a || true)
true_after true = refl
true_after false = refl

tied : (q n : ℕ) → eq_by_cmp nat_cmp q n ≡ nat_eq q n
tied q n = grind (arith, nat_tests)

inserted : (used : sets.FinSet nat_cmp) (number k : ℕ) → sets.contains (sets.insert used number) k ≡ (if nat_eq k number then true else sets.contains used k)
inserted used number k =
    sets.contains-insert nat_cmp_total used number k ∙ ap (λ b. b || sets.contains used k) (tied k number)
    ∙ elim (nat_eq k number) as (λ b. (b || sets.contains used k) ≡ (if b then true else sets.contains used k)) [ true ↦ refl | false ↦ refl ]

removed : (used : sets.FinSet nat_cmp) (number k : ℕ) → sets.contains (sets.remove used number) k ≡ (if nat_eq k number then false else sets.contains used k)
removed used number k =
    sets.contains-remove nat_cmp_total used number k ∙ ap (λ b. not b && sets.contains used k) (tied k number)
    ∙ elim (nat_eq k number) as (λ b. (not b && sets.contains used k) ≡ (if b then false else sets.contains used k)) [ true ↦ refl | false ↦ refl ]

pub kept_put : (nodes : Nodes) (used after : sets.FinSet nat_cmp) (number : ℕ) (node : HeldNode) → IsKept nodes used → 1 ≤ number → number ≤ 65535 → Fits node → after ≡ sets.insert used number → IsKept (set nodes number (Some node)) after
kept_put nodes used after number node kept at_least at_most fits is =
    kept_set nodes used after kept number (Some node) (above_zero number true at_least) at_most (λ k. ap (λ s. sets.contains s k) is ∙ inserted used number k) (λ other e. let same : node ≡ other = cc in subst Fits same fits)

pub kept_taken : (nodes : Nodes) (used after : sets.FinSet nat_cmp) (number : ℕ) → IsKept nodes used → 1 ≤ number → number ≤ 65535 → after ≡ sets.remove used number → IsKept (set nodes number None) after
kept_taken nodes used after number kept at_least at_most is =
    kept_set nodes used after kept number None (above_zero number false at_least) at_most (λ k. ap (λ s. sets.contains s k) is ∙ removed used number k) (λ other e. cc)

-- a number that has a node is in the set
used_there : (nodes : Nodes) (used : sets.FinSet nat_cmp) (number : ℕ) → IsKept nodes used → is_some (held nodes number) ≡ true → sets.contains used number ≡ true
used_there nodes used number kept there = kept.numbers number ∙ ap (λ b. nat_eq number 0 || b) there ∙ elim (nat_eq number 0) as (λ b. (b || true) ≡ true) [ true ↦ refl | false ↦ refl ]

pub there_within : (nodes : Nodes) (number : ℕ) → is_some (held nodes number) ≡ true → number < length nodes
there_within nodes number there =
    ⊎_elim (λ (lt : number < length nodes). lt) (λ (ge : length nodes ≤ number). let none : held nodes number ≡ None = get_or_past nodes number None ge in cc) (cases_lt number (length nodes))

pub kept_changed : (nodes : Nodes) (used : sets.FinSet nat_cmp) (number : ℕ) (node : HeldNode) → IsKept nodes used → is_some (held nodes number) ≡ true → Fits node → IsKept (set nodes number (Some node)) used
kept_changed nodes used number node kept there fits =
    kept_set nodes used used kept number (Some node) (true_after (nat_eq number 0)) (omega (arith, there_within nodes number there, kept.places))
    (λ k. elim (nat_eq k number) as (λ b. nat_eq k number ≡ b → sets.contains used k ≡ (if b then true else sets.contains used k)) [
      | true ↦ λ e. ap (λ j. sets.contains used j) (eqb-true k number e) ∙ used_there nodes used number kept there
      | false ↦ λ e. refl
    ] refl)
    (λ other e. let same : node ≡ other = cc in subst Fits same fits)
