-- What is staged of nodes and slots after a staging.
use Rattle.std.proofs.Common.{◌≡◌, ℕ, Bool, true, false, cond, List, [], ◌∷◌, refl, sym, ap, ◌∙◌, arith}
use Rattle.std.specs.Prelude.{not, nat_eq, Option, Some, None}
use Rattle.std.specs.Ordering.{is_eq, eq_by_cmp, nat_cmp}
use Rattle.std.specs.Cmp.{nat_cmp_total, tied_itself}
use Rattle.std.specs.FinMap.{find, put, nat_cmp-IsAntisymmetric}
use Rattle.std.specs.FinMap.Entries.{find-put}
use Rattle.std.proofs.lemmas.Bool.Decides.{nat_tests}
use Rattle.block_format.specs.declared.slot.Slot.{Slot}
use Rattle.volume_model.specs.Places.{Spot, spot_cmp, spot_eq}
use Rattle.volume_model.specs.Done.{is_cut}
use Rattle.volume_model.proofs.Order.{spot_total}
use Rattle.dirty_store.specs.declared.effect.Effect.{Effect}
use Rattle.dirty_store.specs.declared.effect.SlotChange.{SlotChange}
use Rattle.dirty_store.specs.Entries.{Entries, all_put, cut_at, uncut}
use Rattle.dirty_store.specs.Overlay.{Overlay, slot_entries, node_of, node_after, whole, forgotten, staged}
use Rattle.dirty_store.specs.Laws.{first_of_two, changed_to}
use Rattle.dirty_store.proofs.Places.{spot_eq_is, equal_of}
use Rattle.dirty_store.proofs.BackLaws.{find_uncut}

-- ---- nodes

pub own_node : (o : Overlay) (e : Effect) → node_of (staged o e) e.number ≡ Some (node_after e.inode e.cut_to (node_of o e.number))
own_node o e =
    let node = node_after e.inode e.cut_to (node_of o e.number) in
    find-put nat_cmp nat_cmp_total e.number e.number node o.nodes ∙ ap (λ r. cond (is_eq r) (Some node) (node_of o e.number)) (tied_itself nat_cmp_total e.number)

apart : (n m : ℕ) → nat_eq n m ≡ false → eq_by_cmp nat_cmp n m ≡ false
apart n m is = by (eq_by_cmp nat_cmp n m) refl
  where
    by : (b : Bool) → eq_by_cmp nat_cmp n m ≡ b → b ≡ false
    by true tied = let same : n ≡ m = nat_cmp-IsAntisymmetric n m (equal_of _ tied) in grind (arith, nat_tests)
    by false tied = refl

pub other_node : (o : Overlay) (e : Effect) (number : ℕ) → nat_eq number e.number ≡ false → node_of (staged o e) number ≡ node_of o number
other_node o e number is =
    let node = node_after e.inode e.cut_to (node_of o e.number) in
    find-put nat_cmp nat_cmp_total number e.number node o.nodes ∙ ap (λ b. cond b (Some node) (node_of o number)) (apart number e.number is)

-- ---- slots

find_changed : (cs : List SlotChange) (spot : Spot) (es : Entries Slot) → find spot_cmp spot (all_put (slot_entries cs) es) ≡ first_of_two (changed_to cs spot) (find spot_cmp spot es)
find_changed [] spot es = refl
find_changed (c ∷ cs) spot es =
    find_changed cs spot (put spot_cmp (c.directory, c.slot) c.content es)
    ∙ ap (first_of_two (changed_to cs spot)) (find-put spot_cmp spot_total spot (c.directory, c.slot) c.content es
    ∙ ap (λ b. cond b (Some c.content) (find spot_cmp spot es)) (sym (spot_eq_is (c.directory, c.slot) spot)))
    ∙ by (changed_to cs spot) (spot_eq (c.directory, c.slot) spot)
  where
    by : (later : Option Slot) (here : Bool)
        → first_of_two later (cond here (Some c.content) (find spot_cmp spot es)) ≡ first_of_two (first_of_two later (cond here (Some c.content) None)) (find spot_cmp spot es)
    by (Some content) here = refl
    by None true = refl
    by None false = refl

pub changed_is : (o : Overlay) (e : Effect) (spot : Spot) (content : Slot)
    → changed_to e.slots spot ≡ Some content → find spot_cmp spot (staged o e).slots ≡ Some content
changed_is o e spot content is =
    find_changed e.slots spot (uncut (forgotten e) o.slots) ∙ ap (λ c. first_of_two c (find spot_cmp spot (uncut (forgotten e) o.slots))) is

left_is : (o : Overlay) (e : Effect) (spot : Spot) (cut : Bool) → changed_to e.slots spot ≡ None → is_cut (forgotten e) spot ≡ cut
    → find spot_cmp spot (staged o e).slots ≡ cond (not cut) (find spot_cmp spot o.slots) None
left_is o e spot cut is away =
    find_changed e.slots spot (uncut (forgotten e) o.slots)
    ∙ ap (λ c. first_of_two c (find spot_cmp spot (uncut (forgotten e) o.slots))) is
    ∙ find_uncut spot (forgotten e) o.slots
    ∙ ap (λ b. cond (not b) (find spot_cmp spot o.slots) None) away

all_cut : (n k : ℕ) → is_cut (cut_at n (whole (Some 0))) (n, k) ≡ true
all_cut n k = grind (arith, nat_tests)

pub forgotten_is : (o : Overlay) (e : Effect) (k : ℕ)
    → e.cut_to ≡ Some 0 → changed_to e.slots (e.number, k) ≡ None → find spot_cmp (e.number, k) (staged o e).slots ≡ None
forgotten_is o e k cut is = left_is o e (e.number, k) true is (ap (λ c. is_cut (cut_at e.number (whole c)) (e.number, k)) cut ∙ all_cut e.number k)

pub other_slot : (o : Overlay) (e : Effect) (spot : Spot)
    → is_cut (forgotten e) spot ≡ false → changed_to e.slots spot ≡ None → find spot_cmp spot (staged o e).slots ≡ find spot_cmp spot o.slots
other_slot o e spot away is = left_is o e spot false is away
