-- The pages of directories that a point keeps.
use Rattle.std.proofs.Common.{◌≡◌, ℕ, zero, suc, ◌+◌, ◌*◌, ◌<◌, ◌≤◌, Bool, true, false, cond, List, [], ◌∷◌, ◌++◌, map, length, Some, None, refl, sym, ap, subst, ◌∙◌, arith}
use Rattle.std.specs.Prelude.{◌==◌, ◌||◌, nat_eq, nat_lt, bytes_eq, not, max, Option}
use Rattle.std.specs.FinMap.{find}
use Rattle.std.proofs.lemmas.Bool.{eqb-true}
use Rattle.std.proofs.lemmas.Bool.Decides.{nat_tests}
use Rattle.std.proofs.lemmas.Slice.Eq.{bytes_eq-Decides}
use Rattle.vol_numbers.specs.declared.block.Block.{Block}
use Rattle.block_format.specs.Inode.{pointer_of}
use Rattle.block_format.specs.Slot.{slot_bytes}
use Rattle.block_format.specs.declared.inode.Inode.{Inode}
use Rattle.block_format.specs.declared.slot.Slot.{Slot}
use Rattle.block_format.specs.declared.slot.Slot.TheVariants as slots
use Rattle.block_tree.specs.Tree.{blocks_in, block_in, block_below, pairs_below, indexes_below}
use Rattle.block_tree.proofs.Pairs.{pairs_are}
use Rattle.dir_slots.specs.Pages.{IsPage, pages_for}
use Rattle.dir_slots.specs.Slots.{slot_at}
use Rattle.dirty_store.specs.Overlay.{Overlay, width_of}
use Rattle.image_model.specs.Planned.{height_in}
use Rattle.place_words.specs.Different.{is_among, times, span, total}
use Rattle.place_words.proofs.Counting.{among_times}
use Rattle.point_model.specs.Holding.{slots_left, slot_now, slot_or, slots_from, slots_now, width_now}
use Rattle.point_model.specs.OldPages.{PagesStand}
use Rattle.point_model.specs.NodePlan.{block_of_place, node_pointers, differs, is_changed_page}
use Rattle.point_model.proofs.ChangedPages.{unchanged_slot}
use Rattle.point_model.proofs.Spelled.{lt_true, lt_false}
use Rattle.volume_model.specs.Places.{spot_cmp}

-- ---- slots of a page that isn't changed

slot_in_list : (at : ℕ → Slot) (first n k : ℕ) → k < n → slot_at (slots_from at first n) k ≡ at (first + k)
unfolding slots_from
slot_in_list at first zero k lt = absurd (omega (arith, lt))
slot_in_list at first (suc n) zero lt = let e : first ≡ first + zero = omega arith in ap at e
slot_in_list at first (suc n) (suc k) lt = let e : (first + 1) + k ≡ first + suc k = omega arith in slot_in_list at (first + 1) n k (omega (arith, lt)) ∙ ap at e

slot_past_list : (at : ℕ → Slot) (first n k : ℕ) → n ≤ k → slot_at (slots_from at first n) k ≡ slots.Unused
unfolding slots_from
slot_past_list at first zero k le = refl
slot_past_list at first (suc n) zero le = absurd (omega (arith, le))
slot_past_list at first (suc n) (suc k) le = slot_past_list at (first + 1) n k (omega (arith, le))

slot_past : (ss : List Slot) (k : ℕ) → length ss ≤ k → slot_at ss k ≡ slots.Unused
slot_past [] k le = refl
slot_past (s ∷ ss) zero le = absurd (omega (arith, le))
slot_past (s ∷ ss) (suc k) le = slot_past ss k (omega (arith, le))

-- a slot that is staged as it was has the bytes that it had
staged_bytes : (staged : Option Slot) (left : Slot) → differs staged left ≡ false → slot_bytes (slot_or staged left) ≡ slot_bytes left
staged_bytes None left same = refl
staged_bytes (Some slot) left same = (bytes_eq-Decides (slot_bytes slot) (slot_bytes left)).0 (not_false (bytes_eq (slot_bytes slot) (slot_bytes left)) same)
  where
    not_false : (a : Bool) → not a ≡ false → a ≡ true
    not_false true e = refl
    not_false false e = cc

-- a slot of a page that isn't changed has the bytes that it had
same_slot : (old : List Block) (o : Overlay) (n place j : ℕ) → is_changed_page (slots_left old o n) o n place ≡ false → j < 16
    → slot_bytes (slot_at (slots_now old o n) (16 * place + j)) ≡ slot_bytes (slot_at (slots_left old o n) (16 * place + j))
same_slot old o n place j same less = by (16 * place + j) (unchanged_slot (slots_left old o n) o n place j same less) (nat_lt (16 * place + j) (width_now old o n)) refl
  where
    by : (k : ℕ) → differs (find spot_cmp (n, k) o.slots) (slot_at (slots_left old o n) k) ≡ false → (t : Bool) → nat_lt k (width_now old o n) ≡ t → slot_bytes (slot_at (slots_now old o n) k) ≡ slot_bytes (slot_at (slots_left old o n) k)
    by k same true is =
        let e : 0 + k ≡ k = omega arith in
        ap slot_bytes (slot_in_list (slot_now old o n) 0 (width_now old o n) k (lt_true k (width_now old o n) is) ∙ ap (slot_now old o n) e) ∙ staged_bytes (find spot_cmp (n, k) o.slots) (slot_at (slots_left old o n) k) same
    by k same false is =
        let past = lt_false k (width_now old o n) is in
        ap slot_bytes (slot_past_list (slot_now old o n) 0 (width_now old o n) k past ∙ sym (slot_past (slots_left old o n) k (shorter (length (slots_left old o n)) (width_of o.slots n) k past)))
      where
        shorter : (a b c : ℕ) → max a b ≤ c → a ≤ c
        shorter a b c le = omega (arith, le)

-- ---- the page of a directory that stands

pub page_kept : (old : List Block) (o : Overlay) (n place height ptr : ℕ) → PagesStand (blocks_in old) (slots_left old o n) height ptr → place < pages_for (length (slots_left old o n)) → is_changed_page (slots_left old o n) o n place ≡ false
    → IsPage (slots_now old o n) place (blocks_in old (block_below (blocks_in old) height ptr place))
page_kept old o n place height ptr stands lt same j less = stands.spelled place lt j less ∙ sym (same_slot old o n place j same less)

-- ---- its block is live

among_pairs : (es : List (ℕ × ℕ)) (place : ℕ) → (block_in es place == 0) ≡ false → is_among (map (λ (e : ℕ × ℕ). e.1) es) (block_in es place) ≡ true
among_pairs [] place some = cc
among_pairs (e ∷ es) place some = by (e.0 == place) some (among_pairs es place)
  where
    itself : (a : ℕ) → nat_eq a a ≡ true
    itself a = grind (arith, nat_tests)

    or_later : (a b : Bool) → b ≡ true → (a || b) ≡ true
    or_later true b e = refl
    or_later false b e = e

    by : (t : Bool) → (cond t e.1 (block_in es place) == 0) ≡ false → ((block_in es place == 0) ≡ false → is_among (map (λ (e : ℕ × ℕ). e.1) es) (block_in es place) ≡ true)
        → (nat_eq e.1 (cond t e.1 (block_in es place)) || is_among (map (λ (e : ℕ × ℕ). e.1) es) (cond t e.1 (block_in es place))) ≡ true
    by true some more = ap (λ (t : Bool). t || is_among (map (λ (e : ℕ × ℕ). e.1) es) e.1) (itself e.1)
    by false some more = or_later (nat_eq e.1 (block_in es place)) _ (more some)

among_behind : (xs ys : List ℕ) (b : ℕ) → is_among ys b ≡ true → is_among (xs ++ ys) b ≡ true
among_behind [] ys b is = is
among_behind (x ∷ xs) ys b is = or_later (nat_eq x b) _ (among_behind xs ys b is)
  where
    or_later : (a b : Bool) → b ≡ true → (a || b) ≡ true
    or_later true b e = refl
    or_later false b e = e

-- the block of a place is among a node's pointers
pub pointer_there : (image : List Block) (x : Inode) (place : ℕ) → (block_of_place image x place == 0) ≡ false → 1 ≤ times (block_of_place image x place) (node_pointers image x)
pointer_there image x place some = among_times (block_of_place image x place) (node_pointers image x) (among_behind (indexes_below (blocks_in image) (height_in x) (pointer_of x)) (map (λ (e : ℕ × ℕ). e.1) pairs) (block_of_place image x place) there)
  where
    pairs : List (ℕ × ℕ)
    pairs = pairs_below (blocks_in image) (height_in x) (pointer_of x)

    is : block_in pairs place ≡ block_of_place image x place
    is = pairs_are (blocks_in image) (height_in x) (pointer_of x) place

    there : is_among (map (λ (e : ℕ × ℕ). e.1) pairs) (block_of_place image x place) ≡ true
    there = subst (λ (b : ℕ). is_among (map (λ (e : ℕ × ℕ). e.1) pairs) b ≡ true) is (among_pairs pairs place (ap (λ (b : ℕ). b == 0) is ∙ some))

pub one_of_total : (f : ℕ → ℕ) (first m n : ℕ) → first ≤ n → n < first + m → f n ≤ total f (span first m)
one_of_total f first zero n le lt = absurd (omega (arith, le, lt))
one_of_total f first (suc m) n le lt = by (first == n) refl (λ above. one_of_total f (first + 1) m n above (omega (arith, lt)))
  where
    by : (t : Bool) → (first == n) ≡ t → (first + 1 ≤ n → f n ≤ total f (span (first + 1) m)) → f n ≤ total f (span first (suc m))
    by true is more = let e : first ≡ n = eqb-true first n is in let same = ap f e in omega (arith, same)
    by false is more = let above : first + 1 ≤ n = grind (arith, nat_tests) in omega (arith, more above)
