-- The bytes of a file after a write and after a truncation.
use Rattle.std.proofs.Common.{◌≡◌, ℕ, zero, suc, ◌+◌, ◌-◌, ◌*◌, ◌/◌, ◌%◌, ◌<◌, ◌≤◌, List, [], ◌∷◌, ◌++◌, length, take, drop, true, false, not, refl, sym, ap, ◌∙◌, arith, slice_index_or, length-append}
use Rattle.std.specs.Prelude.{min, replicate, nat_lt, nat_eq, ◌&&◌, if◌then◌else◌, Contains}
use Rattle.std.proofs.lemmas.List.{get_or-append_right, get_or_append_left, get_or-take, get_or-drop, get_or-replicate, get_or_past, length-take, length-replicate}
use Rattle.std.proofs.lemmas.Bool.{eqb-true}
use Rattle.tree_model.specs.declared.node.Content.TheVariants.{File}
use Rattle.tree_model.specs.Tree.{resized, written}
use Rattle.tree_model.specs.Touched.{places, cut_place}
use Rattle.tree_model.specs.Follow.{KeepsUntouched}

-- ---- places

length_places : (number first count : ℕ) → length (places number first count) ≡ count
unfolding places
length_places number first zero = refl
length_places number first (suc count) = ap suc (length_places number (first + 1) count)

places_at : (number first count k : ℕ) (d : ℕ × ℕ) → k < count → slice_index_or (places number first count) k d ≡ (number, first + k)
unfolding places
places_at number first zero k d h = absurd (omega arith)
places_at number first (suc count) zero d h = let same : first ≡ first + 0 = omega arith in ap (λ x. (number, x)) same
places_at number first (suc count) (suc k) d h =
    let next : first + 1 + k ≡ first + suc k = omega arith in
    places_at number (first + 1) count k d (omega arith) ∙ ap (λ x. (number, x)) next

pub contains_places : (number first count place : ℕ) → first ≤ place → place < first + count → Contains (places number first count) (number, place)
contains_places number first count place h k =
    let at : first + (place - first) ≡ place = omega arith in
    (place - first, omega (arith, length_places number first count), places_at number first count (place - first) (number, place) (omega arith) ∙ ap (λ x. (number, x)) at)

pub within_places : (number first count m place : ℕ) → Contains (places number first count) (m, place) → (first ≤ place) × (place < first + count)
within_places number first count m place (k, below, is) =
    let counted : length (places number first count) ≡ count = length_places number first count in
    let at : (number, first + k) ≡ (m, place) = sym (places_at number first count k (m, place) (omega arith)) ∙ is in
    let same : first + k ≡ place = ap (λ (x : ℕ × ℕ). x.1) at in
    let from : first ≤ place = omega arith in
    let to : place < first + count = omega arith in
    (from, to)

-- ---- bytes

pub length_resized : (bytes : List ℕ) (size : ℕ) → length (resized bytes size) ≡ size
length_resized bytes size = simp (length-append, length-take, length-replicate) (omega arith)

resized_at : (bytes : List ℕ) (size i : ℕ) → i < size → slice_index_or (resized bytes size) i 0 ≡ slice_index_or bytes i 0
resized_at bytes size i h =
    let kept : length (take size bytes) ≡ min size (length bytes) = length-take size bytes in
    elim (nat_lt i (length bytes)) as (λ b. nat_lt i (length bytes) ≡ b → slice_index_or (resized bytes size) i 0 ≡ slice_index_or bytes i 0) [
      | true ↦ λ t.
          let below : i < length bytes = grind arith in
          get_or_append_left (take size bytes) (replicate (size - length bytes) 0) 0 i (omega arith) ∙ get_or-take size bytes i 0 h
      | false ↦ λ t.
          let past : length bytes ≤ i = grind arith in
          get_or-append_right (take size bytes) (replicate (size - length bytes) 0) (length bytes) i 0 (omega arith) past
          ∙ get_or-replicate (size - length bytes) (i - length bytes) 0 0 (omega arith)
          ∙ sym (get_or_past bytes i 0 past)
    ] refl

written_before : (bytes more : List ℕ) (offset i : ℕ) → i < offset → slice_index_or (written bytes offset more) i 0 ≡ slice_index_or bytes i 0
written_before bytes more offset i h =
    let front : length (resized bytes offset) ≡ offset = length_resized bytes offset in
    let both : length (resized bytes offset ++ more) ≡ length (resized bytes offset) + length more = length-append (resized bytes offset) more in
    get_or_append_left (resized bytes offset ++ more) (drop (offset + length more) bytes) 0 i (omega arith)
    ∙ get_or_append_left (resized bytes offset) more 0 i (omega arith)
    ∙ resized_at bytes offset i h

written_after : (bytes more : List ℕ) (offset i : ℕ) → offset + length more ≤ i → slice_index_or (written bytes offset more) i 0 ≡ slice_index_or bytes i 0
written_after bytes more offset i h =
    let front : length (resized bytes offset) ≡ offset = length_resized bytes offset in
    let both : length (resized bytes offset ++ more) ≡ length (resized bytes offset) + length more = length-append (resized bytes offset) more in
    let at : offset + length more + (i - (offset + length more)) ≡ i = omega arith in
    get_or-append_right (resized bytes offset ++ more) (drop (offset + length more) bytes) (offset + length more) i 0 (omega arith) h
    ∙ get_or-drop (offset + length more) bytes (i - (offset + length more)) 0
    ∙ ap (λ j. slice_index_or bytes j 0) at

-- ---- what isn't touched

pub write_keeps : (number offset : ℕ) (bytes more : List ℕ) → 0 < length more
    → KeepsUntouched (places number (offset / 4096) ((offset + length more - 1) / 4096 + 1 - offset / 4096)) number bytes (written bytes offset more)
write_keeps number offset bytes more some i within untouched =
    elim (nat_lt i offset) as (λ b. nat_lt i offset ≡ b → slice_index_or (written bytes offset more) i 0 ≡ slice_index_or bytes i 0) [
      | true ↦ λ t. let before : i < offset = grind arith in written_before bytes more offset i before
      | false ↦ λ t.
          let from : offset ≤ i = grind arith in
          elim (nat_lt i (offset + length more)) as (λ b. nat_lt i (offset + length more) ≡ b → slice_index_or (written bytes offset more) i 0 ≡ slice_index_or bytes i 0) [
            | true ↦ λ u.
                let below : i < offset + length more = grind arith in
                absurd (untouched (contains_places number (offset / 4096) ((offset + length more - 1) / 4096 + 1 - offset / 4096) (i / 4096) (omega arith) (omega arith)))
            | false ↦ λ u. let after : offset + length more ≤ i = grind arith in written_after bytes more offset i after
          ] refl
    ] refl

past_both : (bytes : List ℕ) (size i : ℕ) → length bytes ≤ i → size ≤ i → slice_index_or (resized bytes size) i 0 ≡ slice_index_or bytes i 0
past_both bytes size i h k = let long : length (resized bytes size) ≡ size = length_resized bytes size in get_or_past (resized bytes size) i 0 (omega arith) ∙ sym (get_or_past bytes i 0 h)

first_is : (number place i : ℕ) → place ≡ i → Contains {X = ℕ × ℕ} ((number, place) ∷ []) (number, i)
first_is number place i e = (0, omega arith, ap (λ x. (number, x)) e)

cut_keeps : (number size i : ℕ) (bytes : List ℕ) → size ≤ i → 4096 * (i / 4096) < size → (Contains {X = ℕ × ℕ} (cut_place number (File bytes) size) (number, i / 4096) → ⊥) → slice_index_or (resized bytes size) i 0 ≡ slice_index_or bytes i 0
cut_keeps number size i bytes past within untouched =
    elim (nat_lt size (length bytes)) as (λ b. nat_lt size (length bytes) ≡ b → (Contains {X = ℕ × ℕ} (if b && not (nat_eq (size % 4096) 0) then (number, size / 4096) ∷ [] else []) (number, i / 4096) → ⊥) → slice_index_or (resized bytes size) i 0 ≡ slice_index_or bytes i 0) [
      | true ↦ λ t untouched.
          elim (nat_eq (size % 4096) 0) as (λ b. nat_eq (size % 4096) 0 ≡ b → (Contains {X = ℕ × ℕ} (if not b then (number, size / 4096) ∷ [] else []) (number, i / 4096) → ⊥) → slice_index_or (resized bytes size) i 0 ≡ slice_index_or bytes i 0) [
            | true ↦ λ u f. let whole : size % 4096 ≡ 0 = eqb-true _ _ u in absurd (omega arith)
            | false ↦ λ u f. absurd (f (first_is number (size / 4096) (i / 4096) (omega arith)))
          ] refl untouched
      | false ↦ λ t _. let short : length bytes ≤ size = grind arith in past_both bytes size i (omega arith) past
    ] refl untouched

pub truncate_keeps : (number size : ℕ) (bytes : List ℕ) → KeepsUntouched (cut_place number (File bytes) size) number bytes (resized bytes size)
truncate_keeps number size bytes i within untouched =
    let long : length (resized bytes size) ≡ size = length_resized bytes size in
    elim (nat_lt i size) as (λ b. nat_lt i size ≡ b → slice_index_or (resized bytes size) i 0 ≡ slice_index_or bytes i 0) [
      | true ↦ λ t. let below : i < size = grind arith in resized_at bytes size i below
      | false ↦ λ t. let past : size ≤ i = grind arith in cut_keeps number size i bytes past (omega arith) untouched
    ] refl
