-- The numbers whose bits are set.
use Rattle.std.proofs.Common.{◌≡◌, ℕ, zero, suc, ◌*◌, ◌/◌, ◌%◌, ◌^◌, ◌<◌, ◌≤◌, Bool, true, false, cond, List, ◌∷◌, length, refl, sym, ap, ◌∙◌, arith, ⊎_elim, replicate, slice_index}
use Rattle.std.specs.Prelude.{nat_eq, nat_lt, ◌&&◌, ◌||◌, not, if◌then◌else◌}
use Rattle.std.specs.Cmp.{nat_cmp_total, unsigned_tied}
use Rattle.std.specs.List.{list_any}
use Rattle.std.specs.Ordering.{nat_cmp, eq_by_cmp}
use Rattle.std.specs.FinSet as set
use Rattle.std.proofs.lemmas.Bool.{cases_lt, eqb-true}
use Rattle.std.proofs.lemmas.Bool.Decides.{nat_tests}
use Rattle.std.proofs.lemmas.List.{get_or_past, get_or-replicate, length-replicate}
use Rattle.std.proofs.lemmas.Nat.Bits.{bit_at-zero}
use Rattle.number_set.specs.Bits.{has_bit, below, members}

and_false : (a b : Bool) → b ≡ false → (a && b) ≡ false
and_false true b e = e
and_false false b e = refl

module _ (p : ℕ → Bool) where
  -- whether q is below n + 1, where it is n and where it isn't
  lt_more : (n q : ℕ) → nat_eq n q ≡ false → nat_lt q n ≡ nat_lt q (suc n)
  lt_more n q ne = grind (arith, nat_tests)

  lt_itself : (n : ℕ) → nat_lt n (suc n) ≡ true
  lt_itself n = grind (arith, nat_tests)

  fails : (n q : ℕ) → nat_eq n q ≡ true → p n ≡ false → p q ≡ false
  fails n q e none = ap p (sym (eqb-true n q e)) ∙ none

  any_below : (n q : ℕ) → list_any (λ y. nat_eq y q) (below p n) ≡ (nat_lt q n && p q)
  unfolding below
  any_below zero q = grind (arith, nat_tests)
  any_below (suc n) q =
      elim (nat_eq n q) as (λ b. nat_eq n q ≡ b → list_any (λ y. nat_eq y q) (cond (p n) (n ∷ below p n) (below p n)) ≡ (nat_lt q (suc n) && p q)) [
        | true ↦ λ e. elim (p n) as (λ b. p n ≡ b → list_any (λ y. nat_eq y q) (cond b (n ∷ below p n) (below p n)) ≡ (nat_lt q (suc n) && p q)) [
          | true ↦ λ here. ap (λ b. b || list_any (λ y. nat_eq y q) (below p n)) e ∙ sym (ap (λ m. nat_lt m (suc n) && p m) (sym (eqb-true n q e)) ∙ ap (λ b. b && p n) (lt_itself n) ∙ here)
          | false ↦ λ none. any_below n q ∙ and_false (nat_lt q n) (p q) (fails n q e none) ∙ sym (and_false (nat_lt q (suc n)) (p q) (fails n q e none))
        ] refl
        | false ↦ λ e. elim (p n) as (λ b. list_any (λ y. nat_eq y q) (cond b (n ∷ below p n) (below p n)) ≡ (nat_lt q (suc n) && p q)) [
          | true ↦ ap (λ b. b || list_any (λ y. nat_eq y q) (below p n)) e ∙ any_below n q ∙ ap (λ b. b && p q) (lt_more n q e)
          | false ↦ any_below n q ∙ ap (λ b. b && p q) (lt_more n q e)
        ]
      ] refl

no_bit : (words : List ℕ) (q : ℕ) → slice_index words (q / 64) ≡ 0 → has_bit words q ≡ false
no_bit words q none = ap (λ n. nat_eq (n / 2 ^ (q % 64) % 2) 1) none ∙ ap (λ n. nat_eq n 1) (bit_at-zero (q % 64))

past_end : (words : List ℕ) (q : ℕ) → 64 * length words ≤ q → has_bit words q ≡ false
past_end words q past = no_bit words q (get_or_past words (q / 64) 0 (omega arith))

pub contains_members : (words : List ℕ) (q : ℕ) → set.contains (members words) q ≡ has_bit words q
unfolding members
contains_members words q =
    set.contains-from_list_nat (below (has_bit words) (64 * length words)) q
    ∙ any_below (has_bit words) (64 * length words) q
    ∙ elim (nat_lt q (64 * length words)) as (λ b. nat_lt q (64 * length words) ≡ b → (b && has_bit words q) ≡ has_bit words q) [
      | true ↦ λ e. refl
      | false ↦ λ e. let past : 64 * length words ≤ q = grind (arith, nat_tests) in sym (past_end words q past)
    ] refl

pub no_word : (n i : ℕ) → slice_index (replicate n 0) i ≡ 0
no_word n i = ⊎_elim (λ (lt : i < n). get_or-replicate n i 0 0 lt) (λ (ge : n ≤ i). get_or_past (replicate n 0) i 0 (omega (arith, length-replicate {A = ℕ}))) (cases_lt i n)

pub none_set : (n q : ℕ) → has_bit (replicate n 0) q ≡ false
none_set n q = no_bit (replicate n 0) q (no_word n (q / 64))

pub no_members : (n : ℕ) → members (replicate n 0) ≡ set.empty
no_members n = set.same_set nat_cmp_total set.nat_cmp-IsAntisymmetric _ _ (λ q. contains_members (replicate n 0) q ∙ none_set n q ∙ sym (set.contains-empty nat_cmp q))

chosen_true : (b c : Bool) → (if b then true else c) ≡ (b || c)
chosen_true true c = refl
chosen_true false c = refl

chosen_false : (b c : Bool) → (if b then false else c) ≡ (not b && c)
chosen_false true c = refl
chosen_false false c = refl

pub put_members : (old new : List ℕ) (n : ℕ) → ((k : ℕ) → has_bit new k ≡ (if nat_eq k n then true else has_bit old k)) → members new ≡ set.insert (members old) n
put_members old new n h = set.same_set nat_cmp_total set.nat_cmp-IsAntisymmetric _ _ (λ q.
    contains_members new q
    ∙ h q
    ∙ chosen_true (nat_eq q n) (has_bit old q)
    ∙ (λ i. sym (unsigned_tied q n) i || sym (contains_members old q) i)
    ∙ sym (set.contains-insert nat_cmp_total (members old) n q))

pub taken_members : (old new : List ℕ) (n : ℕ) → ((k : ℕ) → has_bit new k ≡ (if nat_eq k n then false else has_bit old k)) → members new ≡ set.remove (members old) n
taken_members old new n h = set.same_set nat_cmp_total set.nat_cmp-IsAntisymmetric _ _ (λ q.
    contains_members new q
    ∙ h q
    ∙ chosen_false (nat_eq q n) (has_bit old q)
    ∙ (λ i. not (sym (unsigned_tied q n) i) && sym (contains_members old q) i)
    ∙ sym (set.contains-remove nat_cmp_total (members old) n q))

pub written_members : (old new : List ℕ) (n : ℕ) (present : Bool) (was : set.FinSet nat_cmp) → was ≡ members old → ((k : ℕ) → has_bit new k ≡ (if nat_eq k n then present else has_bit old k))
    → members new ≡ (if present then set.insert was n else set.remove was n)
written_members old new n true was is h = put_members old new n h ∙ ap (λ s. set.insert s n) (sym is)
written_members old new n false was is h = taken_members old new n h ∙ ap (λ s. set.remove s n) (sym is)
