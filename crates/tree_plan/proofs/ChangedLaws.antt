-- Which pages differ from what is left of them: the bytes of a page tell, and such a page has a staged slot.
use Rattle.std.proofs.Common.{◌≡◌, ℕ, zero, suc, ◌+◌, ◌-◌, ◌*◌, ◌/◌, ◌<◌, Bool, true, false, not, cond, List, [], ◌∷◌, ◌++◌, length, map, filter, take, drop, refl, sym, ap, ◌∙◌, arith}
use Rattle.std.specs.Prelude.{◌&&◌, ◌||◌, nat_eq, bytes_eq, Option, Some, None}
use Rattle.std.specs.FinMap.{find}
use Rattle.std.proofs.lemmas.Bool.Decides.{nat_tests}
use Rattle.std.proofs.lemmas.List.{drop-take, take-append-drop, take-take, take_all}
use Rattle.std.proofs.lemmas.Slice.Eq.{bytes_eq-Decides}
use Rattle.block_format.specs.Slot.{slot_bytes, slot_part}
use Rattle.block_format.specs.declared.slot.Slot.{Slot}
use Rattle.dir_slots.specs.Pages.{IsPage}
use Rattle.dir_slots.specs.Slots.{slot_at}
use Rattle.dirty_store.specs.Entries.{Entries}
use Rattle.dirty_store.specs.Numbers.{staged_pages}
use Rattle.dirty_store.specs.Overlay.{Overlay, dirty_places}
use Rattle.place_words.specs.Different.{is_among}
use Rattle.point_model.specs.NodePlan.{differs, is_changed_page}
use Rattle.point_model.proofs.ChangedPages.{unchanged_page, unchanged_slot}
use Rattle.volume_model.specs.Places.{spot_cmp}
use Rattle.volume_model.proofs.PlacesTold.{tie_is}
use Rattle.tree_plan.specs.Pages.{part_with}

-- ---- bytes by their parts

part_more : (n : ℕ) (a : List ℕ) → take (256 * suc n) a ≡ take (256 * n) a ++ slot_part n a
part_more n a =
    let next : 256 * suc n ≡ 256 * n + 256 = omega arith in
    let long : (256 * n + 256) - 256 * n ≡ 256 = omega arith in
    ap (λ (k : ℕ). take k a) next
    ∙ sym (take-append-drop (256 * n) (take (256 * n + 256) a))
    ∙ (λ i. take-take (256 * n) (256 * n + 256) a (omega arith) i ++ drop-take (256 * n) 256 a i)
    ∙ ap (λ (k : ℕ). take (256 * n) a ++ take k (drop (256 * n) a)) (sym long)

parts_same : (n : ℕ) (a b : List ℕ) → ((j : ℕ) → j < n → slot_part j a ≡ slot_part j b) → take (256 * n) a ≡ take (256 * n) b
parts_same zero a b same = refl
parts_same (suc n) a b same =
    part_more n a ∙ (λ i. parts_same n a b (λ j lt. same j (omega (arith, lt))) i ++ same n (omega arith) i) ∙ sym (part_more n b)

-- the parts of a block make it up
block_same : (a b : List ℕ) → length a ≡ 4096 → length b ≡ 4096 → ((j : ℕ) → j < 16 → slot_part j a ≡ slot_part j b) → a ≡ b
block_same a b long also same =
    sym (whole a long) ∙ parts_same 16 a b same ∙ whole b also
  where
    whole : (l : List ℕ) → length l ≡ 4096 → take (256 * 16) l ≡ l
    whole l is = take_all (256 * 16) l (omega (arith, is))

-- ---- the bytes of a page tell

module _ (left : List Slot) (o : Overlay) (n place : ℕ) (before after : List ℕ) (long : length before ≡ 4096) (also : length after ≡ 4096) (was : IsPage left place before)
    (put : (j : ℕ) → j < 16 → slot_part j after ≡ part_with (find spot_cmp (n, 16 * place + j) o.slots) (slot_part j before)) where
  -- a part stays where its slot is staged as it was
  part_stays : (staged : Option Slot) (slot : Slot) → differs staged slot ≡ false → part_with staged (slot_bytes slot) ≡ slot_bytes slot
  part_stays None slot same = refl
  part_stays (Some other) slot same = (bytes_eq-Decides (slot_bytes other) (slot_bytes slot)).0 (not_false (bytes_eq (slot_bytes other) (slot_bytes slot)) same)
    where
      not_false : (a : Bool) → not a ≡ false → a ≡ true
      not_false true e = refl
      not_false false e = cc

  slot_stays : (staged : Option Slot) (slot : Slot) → part_with staged (slot_bytes slot) ≡ slot_bytes slot → differs staged slot ≡ false
  slot_stays None slot same = refl
  slot_stays (Some other) slot same = ap not ((bytes_eq-Decides (slot_bytes other) (slot_bytes slot)).1 same)

  put_is : (j : ℕ) → j < 16 → slot_part j after ≡ part_with (find spot_cmp (n, 16 * place + j) o.slots) (slot_bytes (slot_at left (16 * place + j)))
  put_is j lt = put j lt ∙ ap (part_with (find spot_cmp (n, 16 * place + j) o.slots)) (was j lt)

  of_same : after ≡ before → is_changed_page left o n place ≡ false
  of_same same =
      unchanged_page left o n place (λ j lt. slot_stays (find spot_cmp (n, 16 * place + j) o.slots) (slot_at left (16 * place + j)) (sym (put_is j lt) ∙ ap (slot_part j) same ∙ was j lt))

  of_unchanged : is_changed_page left o n place ≡ false → after ≡ before
  of_unchanged same =
      block_same after before also long
      (λ j lt. put_is j lt ∙ part_stays (find spot_cmp (n, 16 * place + j) o.slots) (slot_at left (16 * place + j)) (unchanged_slot left o n place j same lt) ∙ sym (was j lt))

  pub changed_is : not (bytes_eq after before) ≡ is_changed_page left o n place
  changed_is = by (bytes_eq after before) refl (is_changed_page left o n place) refl
    where
      by : (t : Bool) → bytes_eq after before ≡ t → (u : Bool) → is_changed_page left o n place ≡ u → not t ≡ u
      by true same false also = refl
      by false other true also = refl
      by true same true also = let never : true ≡ false = sym also ∙ of_same ((bytes_eq-Decides after before).0 same) in cc
      by false other false also = let never : false ≡ true = sym other ∙ (bytes_eq-Decides after before).1 (of_unchanged also) in cc

-- ---- such a page has a staged slot

none_staged : (es : Entries Slot) (n place k : ℕ) → k / 16 ≡ place → is_among (map (λ k. k / 16) (dirty_places es n)) place ≡ false → find spot_cmp (n, k) es ≡ None
none_staged [] n place k at none = refl
none_staged (e ∷ es) n place k at none =
    ap (λ (t : Bool). cond t (Some e.1) (find spot_cmp (n, k) es)) (tie_is (n, k) e.0) ∙ by (nat_eq e.0.0 n) (nat_eq e.0.1 k) refl none (none_staged es n place k at)
  where
    here : nat_eq e.0.1 k ≡ true → nat_eq (e.0.1 / 16) place ≡ true
    here is = let same : e.0.1 ≡ k = grind (arith, nat_tests) in (λ i. nat_eq (same i / 16) place) ∙ itself (k / 16) place at
      where
        itself : (a b : ℕ) → a ≡ b → nat_eq a b ≡ true
        itself a b e = grind (arith, nat_tests)

    rest : (a b : Bool) → (a || b) ≡ false → b ≡ false
    rest true b e = cc
    rest false b e = e

    own : (a b : Bool) → (a || b) ≡ false → a ≡ true → ⊥
    own true b e is = cc
    own false b e is = cc

    by : (t u : Bool) → nat_eq e.0.1 k ≡ u → is_among (map (λ k. k / 16) (map (λ e. e.0.1) (cond t (e ∷ filter (λ e. nat_eq e.0.0 n) es) (filter (λ e. nat_eq e.0.0 n) es)))) place ≡ false
        → (is_among (map (λ k. k / 16) (dirty_places es n)) place ≡ false → find spot_cmp (n, k) es ≡ None) → cond (t && u) (Some e.1) (find spot_cmp (n, k) es) ≡ None
    by true true is none more = absurd (own _ _ none (here is))
    by true false is none more = more (rest _ _ none)
    by false u is none more = more none

pub changed_staged : (left : List Slot) (o : Overlay) (n place : ℕ) → is_among (staged_pages o n) place ≡ false → is_changed_page left o n place ≡ false
changed_staged left o n place none =
    unchanged_page left o n place
    (λ j lt. let at : (16 * place + j) / 16 ≡ place = omega (arith, lt) in ap (λ (s : Option Slot). differs s (slot_at left (16 * place + j))) (none_staged o.slots n place (16 * place + j) at none))
