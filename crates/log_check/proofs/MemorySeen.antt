-- Directories in memory as they are seen, had their blocks been written.
use Rattle.std.proofs.Common.{◌≡◌, ℕ, zero, suc, ◌+◌, ◌-◌, ◌*◌, ◌≤◌, Bool, true, false, cond, List, [], ◌∷◌, ◌++◌, length, take, drop, replicate, map, Some, None, refl, sym, ap, ◌∙◌, arith, length-append}
use Rattle.std.specs.Prelude.{◌==◌, Option}
use Rattle.std.proofs.lemmas.Bool.Decides.{nat_tests}
use Rattle.std.proofs.lemmas.List.{drop_at, take_at, map-append, length-take, length-drop, length-replicate, take-append-drop}
use Rattle.block_format.specs.Slot.{SlotFits, slot_in, slot_bytes}
use Rattle.block_format.specs.declared.inode.Inode.{Inode}
use Rattle.block_format.specs.declared.slot.Slot.{Slot}
use Rattle.block_format.specs.declared.slot.Slot.TheVariants.{Unused}
use Rattle.block_format.proofs.SlotLaws.{slot_in-bytes, length-slot_bytes}
use Rattle.dir_slots.specs.Pages.{pages_for}
use Rattle.dir_slots.specs.Slots.{slot_at}
use Rattle.held_list.specs.Held.{slots_at}
use Rattle.held_list.specs.declared.held.Held.{Held as Directories}
use Rattle.image_model.specs.Seen.{Seen, SeenBlock}
use Rattle.image_model.specs.Slots.{slots_from, slot_pieces}
use Rattle.image_model.proofs.DirectoryLaws.{Pieces, pieces_append}
use Rattle.place_words.specs.Rising.{Rising}

-- each slot fits
abbrev pub AllFit : List Slot → Type 0
AllFit ss = (i : ℕ) → SlotFits (slot_at ss i)

fits_take : (m : ℕ) (ss : List Slot) → AllFit ss → AllFit (take m ss)
fits_take zero ss fits i = tt
fits_take (suc m) [] fits i = tt
fits_take (suc m) (s ∷ ss) fits zero = fits 0
fits_take (suc m) (s ∷ ss) fits (suc i) = fits_take m ss (λ j. fits (suc j)) i

fits_drop : (m : ℕ) (ss : List Slot) → AllFit ss → AllFit (drop m ss)
fits_drop zero ss fits i = fits i
fits_drop (suc m) [] fits i = tt
fits_drop (suc m) (s ∷ ss) fits i = fits_drop m ss (λ j. fits (suc j)) i

fits_unused : (m : ℕ) → AllFit (replicate m Unused)
fits_unused zero i = tt
fits_unused (suc m) zero = tt
fits_unused (suc m) (suc i) = fits_unused m i

pub fits_append : (ss : List Slot) (m : ℕ) → AllFit ss → AllFit (ss ++ replicate m Unused)
fits_append [] m fits i = fits_unused m i
fits_append (s ∷ ss) m fits zero = fits 0
fits_append (s ∷ ss) m fits (suc i) = fits_append ss m (λ j. fits (suc j)) i

-- the bytes of slots, one after the other
spelled : List Slot → List ℕ
spelled [] = []
spelled (s ∷ ss) = slot_bytes s ++ spelled ss

abbrev pub firsts : Pieces → List Slot
firsts ps = map (λ (p : Slot × List ℕ). p.0) ps

slots_back : (ss : List Slot) → AllFit ss → firsts (slots_from (length ss) (spelled ss)) ≡ ss
unfolding slots_from spelled
slots_back [] fits = refl
slots_back (s ∷ ss) fits =
    let front : take 256 (slot_bytes s ++ spelled ss) ≡ slot_bytes s = take_at (slot_bytes s) (spelled ss) 256 (length-slot_bytes s (fits 0)) in
    let behind : drop 256 (slot_bytes s ++ spelled ss) ≡ spelled ss = drop_at (slot_bytes s) (spelled ss) 256 (length-slot_bytes s (fits 0)) in
    (λ i. slot_in (front i) ∷ firsts (slots_from (length ss) (behind i))) ∙ (λ i. slot_in-bytes s (fits 0) i ∷ slots_back ss (λ j. fits (suc j)) i)

-- k blocks of a directory, with 16 slots each
blocks_of_slots : ℕ → ℕ → List Slot → List SeenBlock
blocks_of_slots n zero ss = []
blocks_of_slots n (suc k) ss = record { number = n; place = 0; block = 0; bytes = spelled (take 16 ss) } ∷ blocks_of_slots n k (drop 16 ss)

own_slots : (n k : ℕ) (ss : List Slot) → length ss ≡ 16 * k → AllFit ss → firsts (slot_pieces (blocks_of_slots n k ss) n) ≡ ss
unfolding blocks_of_slots
own_slots n zero [] long fits = refl
own_slots n zero (s ∷ ss) long fits = absurd (omega (arith, long))
own_slots n (suc k) ss long fits =
    let same : (n == n) ≡ true = grind (arith, nat_tests) in
    let full : length (take 16 ss) ≡ 16 = omega (arith, length-take 16 ss, long) in
    let rest : length (drop 16 ss) ≡ 16 * k = omega (arith, length-drop 16 ss, long) in
    let here : firsts (slots_from 16 (spelled (take 16 ss))) ≡ take 16 ss = ap (λ (m : ℕ). firsts (slots_from m (spelled (take 16 ss)))) (sym full) ∙ slots_back (take 16 ss) (fits_take 16 ss fits) in
    ap (λ (t : Bool). firsts (cond t (slots_from 16 (spelled (take 16 ss))) [] ++ slot_pieces (blocks_of_slots n k (drop 16 ss)) n)) same
    ∙ map-append (λ (p : Slot × List ℕ). p.0) (slots_from 16 (spelled (take 16 ss))) (slot_pieces (blocks_of_slots n k (drop 16 ss)) n)
    ∙ (λ i. here i ++ own_slots n k (drop 16 ss) rest (fits_drop 16 ss fits) i)
    ∙ take-append-drop 16 ss

no_slots : (m n : ℕ) → (m == n) ≡ false → (k : ℕ) (ss : List Slot) → slot_pieces (blocks_of_slots m k ss) n ≡ []
unfolding blocks_of_slots
no_slots m n apart zero ss = refl
no_slots m n apart (suc k) ss = ap (λ (t : Bool). cond t (slots_from 16 (spelled (take 16 ss))) [] ++ slot_pieces (blocks_of_slots m k (drop 16 ss)) n) apart ∙ no_slots m n apart k (drop 16 ss)

-- ---- all directories

-- how many unused slots fill the last block
abbrev pub filled : List Slot → ℕ
filled ss = 16 * pages_for (length ss) - length ss

pub pages_in : List Directories → List SeenBlock
pages_in [] = []
pages_in (h ∷ hs) = blocks_of_slots h.number (pages_for (length h.slots)) (h.slots ++ replicate (filled h.slots) Unused) ++ pages_in hs

-- nodes and directories as they are seen
abbrev pub memory_seen : List (ℕ × Inode) → List Directories → Seen
memory_seen nodes directories = record { met = []; nodes = nodes; pages = pages_in directories; contents = []; kept = [] }

numbers_behind : (n m : ℕ) → n + 1 ≤ m → (hs : List Directories) → Rising m (map (λ h. h.number) hs) → slots_at hs n ≡ None
numbers_behind n m lt [] rising = refl
numbers_behind n m lt (h ∷ hs) rising =
    let le = rising.0 in
    let apart : (h.number == n) ≡ false = grind (arith, nat_tests) in
    ap (λ (t : Bool). cond t (Some h.slots) (slots_at hs n)) apart ∙ numbers_behind n (h.number + 1) (omega (arith, lt, le)) hs rising.1

abbrev pub AllSlotsFit : List Directories → Type 0
AllSlotsFit hs = (n : ℕ) (ss : List Slot) → slots_at hs n ≡ Some ss → AllFit ss

module _ (n : ℕ) where
  -- what is seen of the directory of the number, none where there is none
  abbrev pub seen_slots : Option (List Slot) → List Slot
  seen_slots None = []
  seen_slots (Some ss) = ss ++ replicate (filled ss) Unused

  -- the first directory's own slots
  first_fits : (h : Directories) (hs : List Directories) → AllSlotsFit (h ∷ hs) → AllFit h.slots
  first_fits h hs all = let same : (h.number == h.number) ≡ true = grind (arith, nat_tests) in all h.number h.slots (ap (λ (t : Bool). cond t (Some h.slots) (slots_at hs h.number)) same)

  others_fit : (m : ℕ) (h : Directories) (hs : List Directories) → Rising m (map (λ h. h.number) (h ∷ hs)) → AllSlotsFit (h ∷ hs) → AllSlotsFit hs
  others_fit m h hs rising all k ss is = by (h.number == k) refl
    where
      by : (t : Bool) → (h.number == k) ≡ t → AllFit ss
      by true same = let e : h.number ≡ k = grind (arith, nat_tests) in let none = numbers_behind k (h.number + 1) (omega (arith, e)) hs rising.1 in cc
      by false apart = all k ss (ap (λ (t : Bool). cond t (Some h.slots) (slots_at hs k)) apart ∙ is)

  abbrev whole_of : Directories → List Slot
  whole_of h = h.slots ++ replicate (filled h.slots) Unused

  abbrev own_of : Directories → List SeenBlock
  own_of h = blocks_of_slots h.number (pages_for (length h.slots)) (whole_of h)

  parted : (h : Directories) (hs : List Directories) → firsts (slot_pieces (own_of h ++ pages_in hs) n) ≡ firsts (slot_pieces (own_of h) n) ++ firsts (slot_pieces (pages_in hs) n)
  parted h hs = ap firsts (pieces_append (own_of h) (pages_in hs) n) ∙ map-append (λ (p : Slot × List ℕ). p.0) (slot_pieces (own_of h) n) (slot_pieces (pages_in hs) n)

  long_whole : (h : Directories) → length (whole_of h) ≡ 16 * pages_for (length h.slots)
  long_whole h = omega (arith, length-append h.slots (replicate (filled h.slots) Unused), length-replicate {A = Slot} (filled h.slots) Unused)

  append_nil : (xs : List Slot) → xs ++ [] ≡ xs
  append_nil [] = refl
  append_nil (x ∷ xs) = ap (λ (ys : List Slot). x ∷ ys) (append_nil xs)

  pub memory_slots : (m : ℕ) (hs : List Directories) → Rising m (map (λ h. h.number) hs) → AllSlotsFit hs → firsts (slot_pieces (pages_in hs) n) ≡ seen_slots (slots_at hs n)
  unfolding pages_in
  memory_slots m [] rising all = refl
  memory_slots m (h ∷ hs) rising all = by (h.number == n) refl (memory_slots (h.number + 1) hs rising.1 (others_fit m h hs rising all))
    where
      by : (t : Bool) → (h.number == n) ≡ t → firsts (slot_pieces (pages_in hs) n) ≡ seen_slots (slots_at hs n) → firsts (slot_pieces (own_of h ++ pages_in hs) n) ≡ seen_slots (cond t (Some h.slots) (slots_at hs n))
      by true same more =
          let e : h.number ≡ n = grind (arith, nat_tests) in
          let mine : firsts (slot_pieces (own_of h) n) ≡ whole_of h = ap (λ (k : ℕ). firsts (slot_pieces (blocks_of_slots k (pages_for (length h.slots)) (whole_of h)) n)) e
          ∙ own_slots n (pages_for (length h.slots)) (whole_of h) (long_whole h) (fits_append h.slots (filled h.slots) (first_fits h hs all)) in
          let rest : firsts (slot_pieces (pages_in hs) n) ≡ [] = more ∙ ap seen_slots (numbers_behind n (h.number + 1) (omega (arith, e)) hs rising.1) in
          parted h hs ∙ (λ i. mine i ++ rest i) ∙ append_nil (whole_of h)
      by false apart more = parted h hs ∙ ap (λ (ps : Pieces). firsts ps ++ firsts (slot_pieces (pages_in hs) n)) (no_slots h.number n apart (pages_for (length h.slots)) (whole_of h)) ∙ more
