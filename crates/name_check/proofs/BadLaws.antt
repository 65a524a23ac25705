-- A directory is bad exactly where its blocks spell none of its width.
use Rattle.std.proofs.Common.{◌≡◌, ℕ, zero, suc, ◌+◌, ◌-◌, ◌*◌, ◌<◌, ◌≤◌, Bool, true, false, not, cond, List, [], ◌∷◌, ◌++◌, length, take, drop, replicate, map, get_or, refl, sym, ap, subst, ◌∙◌, arith}
use Rattle.std.specs.Prelude.{◌==◌, ◌||◌, nat_eq, nat_lt, count_by, Result, Ok, Err, IfOk, IfErr}
use Rattle.std.specs.List.{list_all}
use Rattle.std.proofs.lemmas.Bool.{eqb-true, eq-eqb}
use Rattle.std.proofs.lemmas.Bool.Decides.{nat_tests}
use Rattle.std.proofs.lemmas.List.{drop_at, get_or_past, get_or-take, get_or-drop, length-take-le, length-drop, length-map}
use Rattle.std.proofs.lemmas.List.Sums.{sum_by-cons}
use Rattle.vol_numbers.specs.declared.runs.Page.{Page}
use Rattle.block_format.specs.Inode.{blocks_of}
use Rattle.block_format.specs.Slot.{SlotFits, slot_bytes}
use Rattle.block_format.specs.declared.inode.Inode.TheVariants.{Directory}
use Rattle.block_format.specs.declared.slot.Slot.{Slot}
use Rattle.block_format.specs.declared.slot.Slot.TheVariants as slots
use Rattle.block_tree.specs.Tree.{Blocks}
use Rattle.dir_slots.specs.Pages.{IsPage, pages_for, bytes_at, SpellsDirectory}
use Rattle.dir_slots.specs.Slots.{slot_at, is_used as is_entry, name_of, HasNamesOnce}
use Rattle.place_words.specs.Different.{span}
use Rattle.image_model.specs.Nodes.{is_slot_spelled, is_empty, has_twin}
use Rattle.image_model.specs.Seen.{SeenBlock}
use Rattle.image_model.specs.Slots.{slots_from, slot_pieces}
use Rattle.image_walk.specs.Blocks.{block_held, blocks_held}
use Rattle.name_check.specs.Directories.{is_bad, HaveBytes, IsRead, IsBad, FindsBad, FindsNone}
use Rattle.name_check.specs.declared.fault.NameFault.{NameFault}
use Rattle.name_check.specs.declared.fault.NameFault.TheVariants.{Found, Device, OutOfMemory}
use Rattle.image_walk.specs.declared.node_block.NodeBlock.{NodeBlock}
use Rattle.name_check.proofs.ReadLaws.{no_piece, piece_at, all_at, length_pieces, slot_is, names_once}
use Rattle.name_check.proofs.RunLaws.{own}
use Rattle.name_check.proofs.SlotLaws.{Pieces, pieces_of, all_slots, all_good, spelled_slots, slots_between, no_twin, all_empty}

-- ---- the blocks of a number

abbrev slots_in : Pieces → List Slot
slots_in ps = map (λ (p : Slot × List ℕ). p.0) ps

abbrev are_spelled : Pieces → Bool
are_spelled ps = list_all (λ (p : Slot × List ℕ). is_slot_spelled p.0 p.1) ps

-- the four tests
abbrev faults : ℕ → ℕ → Pieces → Bool
faults count width ps = not (count == blocks_of (256 * width)) || not (are_spelled ps) || not (list_all is_empty (drop width (slots_in ps))) || has_twin (slots_in ps)

abbrev pieces_in : List (List ℕ) → Pieces
pieces_in [] = []
pieces_in (bytes ∷ rest) = slots_from 16 bytes ++ pieces_in rest

pages_in : (blocks : List Page) → pieces_of blocks ≡ pieces_in (map (λ p. p.block.bytes) blocks)
pages_in [] = refl
pages_in (p ∷ ps) = ap (λ (rest : Pieces). slots_from 16 p.block.bytes ++ rest) (pages_in ps)

module _ (read : Blocks) (n : ℕ) where
  counted : (pages : List NodeBlock) → count_by (λ h. h.number == n) (blocks_held read pages) ≡ length (own n pages)
  counted [] = refl
  counted (b ∷ bs) = sum_by-cons (λ (h : SeenBlock). cond (h.number == n) 1 0) (block_held read b) (blocks_held read bs) ∙ by (nat_eq b.number n) (counted bs)
    where
      by : (t : Bool) → count_by (λ h. h.number == n) (blocks_held read bs) ≡ length (own n bs) → cond t 1 0 + count_by (λ h. h.number == n) (blocks_held read bs) ≡ length (cond t (b ∷ own n bs) (own n bs))
      by true more = omega (arith, more)
      by false more = omega (arith, more)

  own_pieces : (pages : List NodeBlock) → slot_pieces (blocks_held read pages) n ≡ pieces_in (map (λ b. read b.block) (own n pages))
  own_pieces [] = refl
  own_pieces (b ∷ bs) = by (nat_eq b.number n) (own_pieces bs)
    where
      by : (t : Bool) → slot_pieces (blocks_held read bs) n ≡ pieces_in (map (λ b. read b.block) (own n bs))
          → cond t (slots_from 16 (read b.block)) [] ++ slot_pieces (blocks_held read bs) n ≡ pieces_in (map (λ b. read b.block) (cond t (b ∷ own n bs) (own n bs)))
      by true more = ap (λ (rest : Pieces). slots_from 16 (read b.block) ++ rest) more
      by false more = more

  pub pieces_are : (pages : List NodeBlock) (blocks : List Page) → HaveBytes read (own n pages) blocks → slot_pieces (blocks_held read pages) n ≡ pieces_of blocks
  pieces_are pages blocks same = own_pieces pages ∙ ap pieces_in (sym same) ∙ sym (pages_in blocks)

  as_many : (pages : List NodeBlock) (blocks : List Page) → HaveBytes read (own n pages) blocks → length (own n pages) ≡ length blocks
  as_many pages blocks same = sym (length-map (own n pages) (λ b. read b.block)) ∙ ap length (sym same) ∙ length-map blocks (λ p. p.block.bytes)

  faults_are : (pages : List NodeBlock) (blocks : List Page) (width height ptr : ℕ) → HaveBytes read (own n pages) blocks → is_bad read pages (n, Directory width height ptr) ≡ faults (length blocks) width (pieces_of blocks)
  faults_are pages blocks width height ptr same = λ i. faults ((counted pages ∙ as_many pages blocks same) i) width (pieces_are pages blocks same i)

-- ---- what is spelled is good

spelled_slots_are : (blocks : List Page) (ss : List Slot) → SpellsDirectory blocks ss → slots_in (pieces_of blocks) ≡ ss ++ replicate (16 * length blocks - length ss) slots.Unused
spelled_slots_are blocks ss is =
    let count = is.count in
    let pieces = all_slots ss is.directory 0 blocks (λ j lt. let e : j ≡ 0 + j = omega arith in subst (λ (k : ℕ). IsPage ss k (bytes_at blocks j)) e (is.each j lt)) in
    let start : 16 * 0 ≡ 0 = omega arith in
    let whole : 16 * length blocks ≡ length ss + (16 * length blocks - length ss) = omega (arith, count) in
    ap slots_in pieces ∙ spelled_slots ss is.directory (16 * 0) (16 * length blocks)
    ∙ (λ i. map (slot_at ss) (span (start i) (whole i)))
    ∙ slots_between (slot_at ss) 0 ss (16 * length blocks - length ss) (λ i. let e : 0 + i ≡ i = omega arith in ap (slot_at ss) e)

no_faults : (blocks : List Page) (ss : List Slot) → SpellsDirectory blocks ss → faults (length blocks) (length ss) (pieces_of blocks) ≡ false
no_faults blocks ss is =
    let m = 16 * length blocks - length ss in
    let count = is.count in
    let full : length blocks ≡ blocks_of (256 * length ss) = count ∙ omega arith in
    let pieces = all_slots ss is.directory 0 blocks (λ j lt. let e : j ≡ 0 + j = omega arith in subst (λ (k : ℕ). IsPage ss k (bytes_at blocks j)) e (is.each j lt)) in
    let good : are_spelled (pieces_of blocks) ≡ true = ap are_spelled pieces ∙ all_good ss is.directory (16 * 0) (16 * length blocks) in
    let slots_are = spelled_slots_are blocks ss is in
    let empty : list_all is_empty (drop (length ss) (slots_in (pieces_of blocks))) ≡ true =
    ap (λ (xs : List Slot). list_all is_empty (drop (length ss) xs)) slots_are ∙ ap (list_all is_empty) (drop_at ss (replicate m slots.Unused) (length ss) refl) ∙ all_empty m in
    let once : has_twin (slots_in (pieces_of blocks)) ≡ false = ap has_twin slots_are ∙ no_twin ss m is.directory.names in
    none _ _ _ _ (ap not (eq-eqb (length blocks) (blocks_of (256 * length ss)) full)) (ap not good) (ap not empty) once
  where
    none : (a b c d : Bool) → a ≡ false → b ≡ false → c ≡ false → d ≡ false → (a || b || c || d) ≡ false
    none a b c d ea eb ec ed = λ i. ea i || eb i || ec i || ed i

-- ---- what is good is spelled

module _ (blocks : List Page) (width : ℕ) (few : width ≤ 65534) (fine : faults (length blocks) width (pieces_of blocks) ≡ false) where
  abbrev ps : Pieces
  ps = pieces_of blocks

  abbrev all : List Slot
  all = slots_in ps

  neither : (a b : Bool) → (a || b) ≡ false → (a ≡ false) × (b ≡ false)
  neither true b e = cc
  neither false b e = (refl, e)

  is_so : (t : Bool) → not t ≡ false → t ≡ true
  is_so true e = refl
  is_so false e = cc

  parts : (not (length blocks == blocks_of (256 * width)) ≡ false) × (not (are_spelled ps) ≡ false) × (not (list_all is_empty (drop width all)) ≡ false) × (has_twin all ≡ false)
  parts =
      let c = neither _ _ fine in
      let b = neither _ _ c.0 in
      let a = neither _ _ b.0 in
      (a.0, a.1, b.1, c.1)

  full : length blocks ≡ blocks_of (256 * width)
  full = eqb-true (length blocks) (blocks_of (256 * width)) (is_so _ parts.0)

  long : length all ≡ 16 * length blocks
  long = length-map ps (λ (p : Slot × List ℕ). p.0) ∙ length_pieces blocks

  wide : length (take width all) ≡ width
  wide = length-take-le width all (omega (arith, long, full))

  map_at : (xs : Pieces) (k : ℕ) → get_or (slots_in xs) k slots.Unused ≡ (get_or xs k no_piece).0
  map_at [] k = refl
  map_at (x ∷ xs) zero = refl
  map_at (x ∷ xs) (suc k) = map_at xs k

  empty_is : (s : Slot) → is_empty s ≡ true → s ≡ slots.Unused
  empty_is slots.Unused e = refl
  empty_is (slots.Entry number name) e = let f : false ≡ true = e in cc

  behind : (k : ℕ) → width ≤ k → slot_at all k ≡ slots.Unused
  behind k le = by (nat_lt k (length all)) refl
    where
      by : (t : Bool) → nat_lt k (length all) ≡ t → slot_at all k ≡ slots.Unused
      by true is =
          let less : k < length all = grind (arith, nat_tests) in
          let shorter = length-drop width all in
          let place : width + (k - width) ≡ k = omega (arith, le) in
          empty_is (slot_at all k) (ap is_empty (sym (get_or-drop width all (k - width) slots.Unused ∙ ap (λ (j : ℕ). get_or all j slots.Unused) place))
          ∙ all_at is_empty (drop width all) slots.Unused (is_so _ parts.2) (k - width) (omega (arith, shorter, less, le)))
      by false is = get_or_past all k slots.Unused (grind (arith, nat_tests))

  same_slot : (k : ℕ) → slot_at (take width all) k ≡ slot_at all k
  same_slot k = by (nat_lt k width) refl
    where
      by : (t : Bool) → nat_lt k width ≡ t → slot_at (take width all) k ≡ slot_at all k
      by true is = get_or-take width all k slots.Unused (grind (arith, nat_tests))
      by false is = let le : width ≤ k = grind (arith, nat_tests) in get_or_past (take width all) k slots.Unused (omega (arith, wide, le)) ∙ sym (behind k le)

  piece_good : (k : ℕ) → k < length ps → SlotFits (get_or ps k no_piece).0 × ((get_or ps k no_piece).1 ≡ slot_bytes (get_or ps k no_piece).0)
  piece_good k lt = slot_is (get_or ps k no_piece).0 (get_or ps k no_piece).1 (all_at (λ (p : Slot × List ℕ). is_slot_spelled p.0 p.1) ps no_piece (is_so _ parts.1) k lt)

  fits : (k : ℕ) → SlotFits (slot_at all k)
  fits k = by (nat_lt k (length ps)) refl
    where
      by : (t : Bool) → nat_lt k (length ps) ≡ t → SlotFits (slot_at all k)
      by true is = subst SlotFits (sym (map_at ps k)) (piece_good k (grind (arith, nat_tests))).0
      by false is =
          let past : length all ≤ k = let e = length-map ps (λ (p : Slot × List ℕ). p.0) in grind (arith, nat_tests) in
          subst SlotFits (sym (get_or_past all k slots.Unused past)) tt

  once : HasNamesOnce (take width all)
  once i j a b e =
      names_once all parts.3 i j (ap is_entry (sym (same_slot i)) ∙ a) (ap is_entry (sym (same_slot j)) ∙ b)
      (ap name_of (sym (same_slot i)) ∙ e ∙ ap name_of (same_slot j))

  each : (place : ℕ) → place < length blocks → IsPage (take width all) place (bytes_at blocks place)
  each place lt j less =
      let k : ℕ = 16 * place + j in
      let l = length_pieces blocks in
      let within : k < length ps = omega (arith, l, lt, less) in
      let at = piece_at blocks place j lt less in
      let w : 256 * j + 256 - 256 * j ≡ 256 = omega arith in
      ap (λ (size : ℕ). take size (drop (256 * j) (bytes_at blocks place))) w
      ∙ ap (λ (p : Slot × List ℕ). p.1) (sym at) ∙ (piece_good k within).1
      ∙ ap slot_bytes (sym (map_at ps k) ∙ sym (same_slot k))

  spelled_by_tests : SpellsDirectory blocks (take width all)
  spelled_by_tests = record {
    directory = record {
      width = omega (arith, wide, few);
      fits = λ k. subst SlotFits (sym (same_slot k)) (fits k);
      names = once;
    };
    count = full ∙ (let w = wide in omega (arith, w));
    each = each;
  }

-- ---- both

pub spelled_is_read : (read : Blocks) (pages : List NodeBlock) (n width : ℕ) (blocks : List Page) (ss : List Slot) → HaveBytes read (own n pages) blocks → SpellsDirectory blocks ss → length ss ≡ width → IsRead read pages n width ss
spelled_is_read read pages n width blocks ss same is wide = record {
  wide = wide;
  good = λ height ptr. faults_are read n pages blocks width height ptr same ∙ subst (λ (w : ℕ). faults (length blocks) w (pieces_of blocks) ≡ false) wide (no_faults blocks ss is);
  seen = (16 * length blocks - length ss, ap slots_in (pieces_are read n pages blocks same) ∙ spelled_slots_are blocks ss is);
}

pub none_spelled_is_bad : (read : Blocks) (pages : List NodeBlock) (n width : ℕ) (blocks : List Page) → HaveBytes read (own n pages) blocks → width ≤ 65534
    → ((ss : List Slot) → length ss ≡ width → SpellsDirectory blocks ss → ⊥) → IsBad read pages n width
none_spelled_is_bad read pages n width blocks same few never height ptr = faults_are read n pages blocks width height ptr same ∙ by (faults (length blocks) width (pieces_of blocks)) refl
  where
    by : (t : Bool) → faults (length blocks) width (pieces_of blocks) ≡ t → t ≡ true
    by true is = refl
    by false is = absurd (never (take width (slots_in (pieces_of blocks))) (wide blocks width few is) (spelled_by_tests blocks width few is))

pub wrong_count_is_bad : (read : Blocks) (pages : List NodeBlock) (n width : ℕ) → (length (own n pages) ≡ pages_for width → ⊥) → IsBad read pages n width
wrong_count_is_bad read pages n width never height ptr =
    first (count_by (λ h. h.number == n) (blocks_held read pages) == blocks_of (256 * width)) _ _ _
    (by (count_by (λ h. h.number == n) (blocks_held read pages) == blocks_of (256 * width)) refl)
  where
    by : (t : Bool) → (count_by (λ h. h.number == n) (blocks_held read pages) == blocks_of (256 * width)) ≡ t → t ≡ false
    by true is = let a = counted read n pages in let b = eqb-true _ _ is in absurd (never (sym a ∙ b ∙ omega arith))
    by false is = refl

    first : (a b c d : Bool) → a ≡ false → (not a || b || c || d) ≡ true
    first a b c d e = ap (λ (t : Bool). not t || b || c || d) e ∙ top b c d
      where
        top : (b c d : Bool) → (true || b || c || d) ≡ true
        top b c d = refl

-- ---- of what is answered

pub all_read : (read : Blocks) (pages : List NodeBlock) (n width : ℕ) (blocks : List Page) (r : Result (List Slot) NameFault) → HaveBytes read (own n pages) blocks → IfOk r (λ ss. SpellsDirectory blocks ss) → IfOk r (λ ss. length ss ≡ width)
    → IfOk r (λ ss. IsRead read pages n width ss)
all_read read pages n width blocks (Ok ss) same is long_as = spelled_is_read read pages n width blocks ss same is long_as
all_read read pages n width blocks (Err fault) same is long_as = tt

pub all_bad : (read : Blocks) (pages : List NodeBlock) (n width : ℕ) (blocks : List Page) (r : Result (List Slot) NameFault) → HaveBytes read (own n pages) blocks → width ≤ 65534 → IfErr r (λ fault. FindsNone blocks n width fault)
    → IfErr r (λ fault. FindsBad read pages n width fault)
all_bad read pages n width blocks (Ok ss) same few never = tt
all_bad read pages n width blocks (Err (Found f)) same few never = (never.0, none_spelled_is_bad read pages n width blocks same few never.1)
all_bad read pages n width blocks (Err Device) same few never = tt
all_bad read pages n width blocks (Err OutOfMemory) same few never = tt

-- what holds of an answer wherever something is so
pub if_ok_under : {T E : Type 0} (C : Type 0) (r : Result T E) (P : T → Type 0) → (C → IfOk r P) → IfOk r (λ x. C → P x)
if_ok_under C (Ok x) P holds = holds
if_ok_under C (Err e) P holds = tt

pub if_err_under : {T E : Type 0} (C : Type 0) (r : Result T E) (P : E → Type 0) → (C → IfErr r P) → IfErr r (λ e. C → P e)
if_err_under C (Ok x) P holds = tt
if_err_under C (Err e) P holds = holds
