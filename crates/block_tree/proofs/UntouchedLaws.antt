-- Which edits of a leaf need a fresh block.
use Rattle.std.proofs.Common.{◌≡◌, ◌<◌, ◌≤◌, ℕ, zero, suc, ◌+◌, ◌-◌, ◌*◌, ◌/◌, ◌==◌, Bool, true, false, List, [], length, refl, ap, sym, ◌∙◌, arith, ⊎_elim}
use Rattle.std.specs.Prelude.{slice_index}
use Rattle.std.proofs.lemmas.Bool.{cases_lt}
use Rattle.std.proofs.lemmas.Bool.Decides.{nat_tests}
use Rattle.vol_numbers.specs.declared.runs.Change.{Change}
use Rattle.place_words.specs.Different.{is_among}
use Rattle.block_tree.specs.Tree.{nonzero}
use Rattle.block_tree.specs.Edit.{cut_at, leaves_of, portion, IsEdit}
use Rattle.block_tree.specs.Renewal.{NeedsBlock}
use Rattle.block_tree.specs.Room.{one_if, leaf_room}
use Rattle.block_tree.proofs.EditLaws.{changed_elsewhere, kept_below, cut_off}
use Rattle.block_tree.proofs.EntryLaws.{same_list}
use Rattle.block_tree.proofs.PortionLaws.{portion_none}
use Rattle.block_tree.proofs.LeafLaws.{zeros_lead_nowhere}

module _ (changes : List Change) (cut k : ℕ) (was ptrs : List ℕ) (edits : IsEdit changes cut k was ptrs) (none : portion k changes ≡ []) (long : length ptrs ≡ 1024) where
  -- the map of the leaf alone
  is_old : (i : ℕ) → i < 1024 → slice_index was i ≡ slice_index was (1024 * k + i - 1024 * k)
  is_old i lt = let e : i ≡ 1024 * k + i - 1024 * k = omega arith in ap (λ (j : ℕ). slice_index was j) e

  edit_at : (i : ℕ) → i < 1024 → slice_index ptrs i ≡ cut_at cut (λ p. slice_index was (p - 1024 * k)) (1024 * k + i)
  edit_at i lt = edits (λ p. slice_index was (p - 1024 * k)) is_old i lt ∙ changed_elsewhere k (1024 * k + i) changes (cut_at cut (λ p. slice_index was (p - 1024 * k))) none (omega (arith, lt))

  -- below the cut it is as it was
  pub edit_keeps : length was ≡ 1024 → 1024 * k + 1024 ≤ cut → ptrs ≡ was
  edit_keeps as_long le = same_list ptrs was (long ∙ sym as_long) (λ i lt.
      edit_at i (omega (arith, lt, long)) ∙ (kept_below cut (λ p. slice_index was (p - 1024 * k)) (1024 * k + i) (omega (arith, lt, long, le)) ∙ sym (is_old i (omega (arith, lt, long)))))

  -- past the cut nothing is left
  pub edit_drops : cut ≤ 1024 * k → nonzero ptrs ≡ []
  edit_drops le = zeros_lead_nowhere ptrs (λ i lt. edit_at i (omega (arith, lt, long)) ∙ cut_off cut (λ p. slice_index was (p - 1024 * k)) (1024 * k + i) (omega (arith, le)))

-- a fresh block is needed only where a change or the cut is in the leaf
pub needs_room : (changes : List Change) (cut k leaf : ℕ) (was ptrs : List ℕ) → IsEdit changes cut k was ptrs → length was ≡ 1024 → length ptrs ≡ 1024 → (leaf ≡ 0 → nonzero was ≡ [])
    → NeedsBlock leaf was ptrs → 1 ≤ leaf_room changes cut k
needs_room changes cut k leaf was ptrs edits as_long long hole needs = by (is_among (leaves_of changes) k) (k == cut / 1024) refl refl
  where
    unneeded : (l : ℕ) → leaf ≡ l → ptrs ≡ was → ⊥
    unneeded zero e same = needs.some (ap nonzero same ∙ hole e)
    unneeded (suc l) e same = needs.other (omega (arith, e)) same

    by : (s t : Bool) → is_among (leaves_of changes) k ≡ s → (k == cut / 1024) ≡ t → 1 ≤ one_if s + one_if t
    by true t a b = omega arith
    by false true a b = omega arith
    by false false a b =
        let other : k ≡ cut / 1024 → ⊥ = λ e. grind (arith, nat_tests, b, e) in
        absurd (⊎_elim
        (λ below. unneeded leaf refl (edit_keeps changes cut k was ptrs edits (portion_none k changes a) long as_long (omega (arith, below))))
        (λ past. needs.some (edit_drops changes cut k was ptrs edits (portion_none k changes a) long (omega (arith, past, other))))
        (cases_lt k (cut / 1024)))

-- what is taken at most, where nothing is taken without need
pub room_kept : {Needs : Type 0} (n : ℕ) (free left : List ℕ) → length free ≤ length left + 1 → (Needs → 1 ≤ n) → ((Needs → ⊥) → left ≡ free) → length free ≤ length left + n
room_kept zero free left most needs spares = omega (arith, ap length (spares (λ n. absurd (omega (arith, needs n)))))
room_kept (suc n) free left most needs spares = omega (arith, most)
