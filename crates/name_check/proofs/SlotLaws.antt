-- Slots in the bytes of a directory's blocks, and the tests over them.
use Rattle.std.proofs.Common.{◌≡◌, ℕ, zero, suc, ◌+◌, ◌-◌, ◌*◌, ◌<◌, ◌≤◌, Bool, true, false, not, List, [], ◌∷◌, ◌++◌, length, take, drop, replicate, map, refl, sym, ap, subst, ◌∙◌, arith}
use Rattle.std.specs.Prelude.{◌≢◌, ◌==◌, ◌&&◌, ◌||◌, nat_le, bytes_eq, slice_index_or, All}
use Rattle.std.specs.List.{list_all, list_any}
use Rattle.std.proofs.lemmas.Bool.Decides.{nat_tests}
use Rattle.std.proofs.lemmas.List.{map-append}
use Rattle.std.proofs.lemmas.List.Elements.{All-head, All-tail}
use Rattle.std.proofs.lemmas.Slice.Eq.{bytes_eq-Decides}
use Rattle.vol_numbers.specs.Name.{IsName}
use Rattle.vol_numbers.specs.declared.runs.Page.{Page}
use Rattle.block_format.specs.Slot.{SlotFits, slot_in, slot_bytes}
use Rattle.block_format.specs.declared.slot.Slot.{Slot}
use Rattle.block_format.specs.declared.slot.Slot.TheVariants as slots
use Rattle.block_format.proofs.SlotLaws.{slot_in-bytes}
use Rattle.dir_slots.specs.Pages.{IsPage, bytes_at}
use Rattle.dir_slots.specs.Slots.{IsDirectory, slot_at, is_used as is_entry, name_of, HasNamesOnce}
use Rattle.place_words.specs.Different.{span}
use Rattle.tree_model.specs.Path.{name_eq}
use Rattle.image_model.specs.Nodes.{is_slot_spelled, is_empty, has_twin, is_entry_name}
use Rattle.image_model.specs.Slots.{slots_from, is_name}
use Rattle.image_model.proofs.FileLaws.{drop_twice}
use Rattle.image_model.proofs.Paths.{same_name}

abbrev pub Pieces : Type 0
Pieces = List (Slot × List ℕ)

-- the slots of blocks, each with its bytes
abbrev pub pieces_of : List Page → Pieces
pieces_of [] = []
pieces_of (p ∷ ps) = slots_from 16 p.block.bytes ++ pieces_of ps

-- ---- what is spelled is read

module _ (ss : List Slot) (directory : IsDirectory ss) where
  -- the slot of a place, with its spelling
  abbrev pub spelled : ℕ → Slot × List ℕ
  spelled i = (slot_at ss i, slot_bytes (slot_at ss i))

  page_slots : (place j k : ℕ) (bytes : List ℕ) → j + k ≤ 16 → IsPage ss place bytes → slots_from k (drop (256 * j) bytes) ≡ map spelled (span (16 * place + j) k)
  unfolding slots_from
  page_slots place j zero bytes le is = refl
  page_slots place j (suc k) bytes le is =
      let width : 256 * j + 256 - 256 * j ≡ 256 = omega arith in
      let part : take 256 (drop (256 * j) bytes) ≡ slot_bytes (slot_at ss (16 * place + j)) = ap (λ (w : ℕ). take w (drop (256 * j) bytes)) (sym width) ∙ is j (omega (arith, le)) in
      let back = slot_in-bytes (slot_at ss (16 * place + j)) (directory.fits (16 * place + j)) in
      let next : 256 * j + 256 ≡ 256 * (j + 1) = omega arith in
      let place_next : 16 * place + (j + 1) ≡ 16 * place + j + 1 = omega arith in
      let more = page_slots place (j + 1) k bytes (omega (arith, le)) is in
      (λ i. (slot_in (part i), part i) ∷ slots_from k (drop_twice (256 * j) 256 bytes i))
      ∙ (λ i. (back i, slot_bytes (slot_at ss (16 * place + j))) ∷ (ap (λ (d : ℕ). slots_from k (drop d bytes)) next ∙ more ∙ ap (λ (m : ℕ). map spelled (span m k)) place_next) i)

  span_split : (k m n : ℕ) → span k (m + n) ≡ span k m ++ span (k + m) n
  span_split k zero n = (let e : zero + n ≡ n = omega arith in let z : k + zero ≡ k = omega arith in λ i. span (sym z i) (e i))
  span_split k (suc m) n =
      let e : suc m + n ≡ suc (m + n) = omega arith in
      let z : (k + 1) + m ≡ k + suc m = omega arith in
      ap (span k) e ∙ ap (λ (xs : List ℕ). k ∷ xs) (span_split (k + 1) m n ∙ ap (λ (j : ℕ). span (k + 1) m ++ span j n) z)

  pub all_slots : (place : ℕ) (pages : List Page) → ((j : ℕ) → j < length pages → IsPage ss (place + j) (bytes_at pages j)) → pieces_of pages ≡ map spelled (span (16 * place) (16 * length pages))
  all_slots place [] stand = refl
  all_slots place (p ∷ ps) stand =
      let at : place + 0 ≡ place = omega arith in
      let first : IsPage ss place p.block.bytes = subst (λ (k : ℕ). IsPage ss k p.block.bytes) at (stand 0 (omega arith)) in
      let here : slots_from 16 p.block.bytes ≡ map spelled (span (16 * place + 0) 16) = page_slots place 0 16 p.block.bytes (omega arith) first in
      let start : 16 * place + 0 ≡ 16 * place = omega arith in
      let next : 16 * (place + 1) ≡ 16 * place + 16 = omega arith in
      let whole : 16 + 16 * length ps ≡ 16 * length (p ∷ ps) = omega arith in
      let rest = all_slots (place + 1) ps (λ j lt. let e : place + suc j ≡ (place + 1) + j = omega arith in subst (λ (k : ℕ). IsPage ss k (bytes_at ps j)) e (stand (suc j) (omega (arith, lt)))) in
      (λ i. here i ++ rest i)
      ∙ (λ i. map spelled (span (start i) 16) ++ map spelled (span (next i) (16 * length ps)))
      ∙ sym (map-append spelled (span (16 * place) 16) (span (16 * place + 16) (16 * length ps)))
      ∙ ap (map spelled) (sym (span_split (16 * place) 16 (16 * length ps)) ∙ ap (span (16 * place)) whole)

  name_good : (name : List ℕ) → IsName name → is_name name ≡ true
  name_good name is =
      let low : nat_le 1 (length name) ≡ true = let a = is.some in grind (arith, nat_tests) in
      let high : nat_le (length name) 250 ≡ true = let b = is.at_most in grind (arith, nat_tests) in
      and_both _ _ (and_both _ _ (and_both _ _ (and_both _ _ low high) (plain name is.plain)) (other (46 ∷ []) is.not_dot)) (other (46 ∷ 46 ∷ []) is.not_dots)
    where
      and_both : (a b : Bool) → a ≡ true → b ≡ true → (a && b) ≡ true
      and_both true b e f = f
      and_both false b e f = cc

      apart : (b c : ℕ) → b ≢ c → not (b == c) ≡ true
      apart b c never = let no : (b == c) ≡ false = grind (arith, nat_tests) in ap not no

      plain : (bytes : List ℕ) → All (λ b. (b ≢ 0) × (b ≢ 47)) bytes → list_all (λ b. not (b == 0) && not (b == 47)) bytes ≡ true
      plain [] all = refl
      plain (b ∷ bytes) all =
          let here = All-head (λ b. (b ≢ 0) × (b ≢ 47)) b bytes all in
          and_both (not (b == 0) && not (b == 47)) (list_all (λ b. not (b == 0) && not (b == 47)) bytes) (and_both _ _ (apart b 0 here.0) (apart b 47 here.1)) (plain bytes (All-tail (λ b. (b ≢ 0) × (b ≢ 47)) b bytes all))

      other : (dots : List ℕ) → (name ≡ dots → ⊥) → not (bytes_eq name dots) ≡ true
      other dots never = by (bytes_eq name dots) refl
        where
          by : (t : Bool) → bytes_eq name dots ≡ t → not t ≡ true
          by true e = absurd (never ((bytes_eq-Decides name dots).0 e))
          by false e = refl

  spelled_good : (slot : Slot) → SlotFits slot → is_slot_spelled slot (slot_bytes slot) ≡ true
  spelled_good slots.Unused fits = (bytes_eq-Decides (slot_bytes slots.Unused) (slot_bytes slots.Unused)).1 refl
  spelled_good (slots.Entry number name) fits =
      let low : nat_le 1 number ≡ true = let a = fits.0 in grind (arith, nat_tests) in
      let high : nat_le number 65535 ≡ true = let b = fits.1 in grind (arith, nat_tests) in
      and_both _ _ (and_both _ _ (and_both _ _ low high) (name_good name fits.2)) ((bytes_eq-Decides (slot_bytes (slots.Entry number name)) (slot_bytes (slots.Entry number name))).1 refl)
    where
      and_both : (a b : Bool) → a ≡ true → b ≡ true → (a && b) ≡ true
      and_both true b e f = f
      and_both false b e f = cc

  pub all_good : (k n : ℕ) → list_all (λ (p : Slot × List ℕ). is_slot_spelled p.0 p.1) (map spelled (span k n)) ≡ true
  all_good k zero = refl
  all_good k (suc n) = ap (λ (t : Bool). t && list_all (λ (p : Slot × List ℕ). is_slot_spelled p.0 p.1) (map spelled (span (k + 1) n))) (spelled_good (slot_at ss k) (directory.fits k)) ∙ all_good (k + 1) n

  pub spelled_slots : (k n : ℕ) → map (λ (p : Slot × List ℕ). p.0) (map spelled (span k n)) ≡ map (slot_at ss) (span k n)
  spelled_slots k zero = refl
  spelled_slots k (suc n) = ap (λ (rest : List Slot). slot_at ss k ∷ rest) (spelled_slots (k + 1) n)

-- slots by their places, from one on, are these slots and unused ones
pub slots_between : (at : ℕ → Slot) (k : ℕ) (ss : List Slot) (m : ℕ) → ((i : ℕ) → at (k + i) ≡ slice_index_or ss i slots.Unused) → map at (span k (length ss + m)) ≡ ss ++ replicate m slots.Unused
slots_between at k [] zero is = refl
slots_between at k [] (suc m) is =
    let e : length {A = Slot} [] + suc m ≡ suc (0 + m) = omega arith in
    let z : k + 0 ≡ k = omega arith in
    ap (λ (j : ℕ). map at (span k j)) e ∙ (λ i. (sym (ap at z) ∙ is 0) i ∷ slots_between at (k + 1) [] m (λ j. let s : (k + 1) + j ≡ k + suc j = omega arith in ap at s ∙ is (suc j)) i)
slots_between at k (x ∷ ss) m is =
    let e : length (x ∷ ss) + m ≡ suc (length ss + m) = omega arith in
    let z : k + 0 ≡ k = omega arith in
    ap (λ (j : ℕ). map at (span k j)) e ∙ (λ i. (sym (ap at z) ∙ is 0) i ∷ slots_between at (k + 1) ss m (λ j. let s : (k + 1) + j ≡ k + suc j = omega arith in ap at s ∙ is (suc j)) i)

none_entries : (m : ℕ) (x : List ℕ) → list_any (is_entry_name x) (replicate m slots.Unused) ≡ false
none_entries zero x = refl
none_entries (suc m) x = none_entries m x

no_name : (ss : List Slot) (m : ℕ) (x : List ℕ) → ((i : ℕ) → is_entry (slot_at ss i) ≡ true → name_of (slot_at ss i) ≡ x → ⊥) → list_any (is_entry_name x) (ss ++ replicate m slots.Unused) ≡ false
no_name [] m x never = none_entries m x
no_name (slots.Unused ∷ ss) m x never = no_name ss m x (λ i. never (suc i))
no_name (slots.Entry number name ∷ ss) m x never = by (name_eq x name) refl (no_name ss m x (λ i. never (suc i)))
  where
    by : (t : Bool) → name_eq x name ≡ t → list_any (is_entry_name x) (ss ++ replicate m slots.Unused) ≡ false → (t || list_any (is_entry_name x) (ss ++ replicate m slots.Unused)) ≡ false
    by true is more = absurd (never 0 refl (sym (same_name x name is)))
    by false is more = more

pub no_twin : (ss : List Slot) (m : ℕ) → HasNamesOnce ss → has_twin (ss ++ replicate m slots.Unused) ≡ false
no_twin [] zero once = refl
no_twin [] (suc m) once = no_twin [] m once
no_twin (slots.Unused ∷ ss) m once = no_twin ss m (λ i j a b e. let s : suc i ≡ suc j = once (suc i) (suc j) a b e in omega (arith, s))
no_twin (slots.Entry number name ∷ ss) m once =
    (λ i. no_name ss m name (λ i used is. let s : zero ≡ suc i = once zero (suc i) refl used (sym is) in absurd (omega (arith, s))) i || has_twin (ss ++ replicate m slots.Unused))
    ∙ no_twin ss m (λ i j a b e. let s : suc i ≡ suc j = once (suc i) (suc j) a b e in omega (arith, s))

pub all_empty : (m : ℕ) → list_all is_empty (replicate m slots.Unused) ≡ true
all_empty zero = refl
all_empty (suc m) = all_empty m
