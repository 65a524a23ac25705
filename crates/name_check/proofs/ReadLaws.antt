-- What passes all tests is spelled.
use Rattle.std.proofs.Common.{◌≡◌, ℕ, zero, suc, ◌+◌, ◌*◌, ◌<◌, ◌≤◌, Bool, true, false, not, List, [], ◌∷◌, ◌++◌, length, take, drop, get_or, refl, sym, ap, ◌∙◌, arith}
use Rattle.std.specs.Prelude.{◌≢◌, ◌==◌, ◌&&◌, ◌||◌, nat_le, bytes_eq, All}
use Rattle.std.specs.List.{list_all, list_any}
use Rattle.std.proofs.lemmas.Bool.Decides.{nat_tests}
use Rattle.std.proofs.lemmas.List.{get_or_append_left, get_or-append-add, length-append}
use Rattle.std.proofs.lemmas.List.Elements.{All-nil, All-cons}
use Rattle.std.proofs.lemmas.Slice.Eq.{bytes_eq-Decides}
use Rattle.vol_numbers.specs.Name.{IsName}
use Rattle.vol_numbers.specs.declared.runs.Page.{Page}
use Rattle.block_format.specs.Slot.{SlotFits, slot_in, slot_bytes}
use Rattle.block_format.specs.declared.slot.Slot.{Slot}
use Rattle.block_format.specs.declared.slot.Slot.TheVariants as slots
use Rattle.dir_slots.specs.Pages.{bytes_at}
use Rattle.dir_slots.specs.Slots.{slot_at, is_used as is_entry, name_of, HasNamesOnce}
use Rattle.tree_model.specs.Path.{name_eq}
use Rattle.image_model.specs.Nodes.{is_slot_spelled, has_twin, is_entry_name}
use Rattle.image_model.specs.Slots.{slots_from, is_name}
use Rattle.image_model.proofs.FileLaws.{drop_twice}
use Rattle.image_model.proofs.Paths.{both, name_itself}
use Rattle.name_check.proofs.SlotLaws.{pieces_of}

-- ---- the piece of a place

abbrev pub piece : ℕ → List ℕ → Slot × List ℕ
piece j bytes = (slot_in (take 256 (drop (256 * j) bytes)), take 256 (drop (256 * j) bytes))

abbrev pub no_piece : Slot × List ℕ
no_piece = (slots.Unused, [])

length_from : (k : ℕ) (bytes : List ℕ) → length (slots_from k bytes) ≡ k
unfolding slots_from
length_from zero bytes = refl
length_from (suc k) bytes = ap suc (length_from k (drop 256 bytes))

from_at : (k j : ℕ) (bytes : List ℕ) → j < k → get_or (slots_from k bytes) j no_piece ≡ piece j bytes
unfolding slots_from
from_at zero j bytes lt = absurd (omega (arith, lt))
from_at (suc k) zero bytes lt = refl
from_at (suc k) (suc j) bytes lt =
    let e : 256 + 256 * j ≡ 256 * suc j = omega arith in
    from_at k j (drop 256 bytes) (omega (arith, lt))
    ∙ ap (λ (bs : List ℕ). let p : Slot × List ℕ = (slot_in (take 256 bs), take 256 bs) in p) (drop_twice 256 (256 * j) bytes ∙ ap (λ (d : ℕ). drop d bytes) e)

pub length_pieces : (pages : List Page) → length (pieces_of pages) ≡ 16 * length pages
length_pieces [] = refl
length_pieces (p ∷ ps) = length-append (slots_from 16 p.block.bytes) (pieces_of ps) ∙ (let a = length_from 16 p.block.bytes in let b = length_pieces ps in omega (arith, a, b))

pub piece_at : (pages : List Page) (place j : ℕ) → place < length pages → j < 16 → get_or (pieces_of pages) (16 * place + j) no_piece ≡ piece j (bytes_at pages place)
piece_at [] place j lt less = absurd (omega (arith, lt))
piece_at (p ∷ ps) zero j lt less =
    let e : 16 * zero + j ≡ j = omega arith in
    let l = length_from 16 p.block.bytes in
    ap (λ (k : ℕ). get_or (slots_from 16 p.block.bytes ++ pieces_of ps) k no_piece) e
    ∙ get_or_append_left (slots_from 16 p.block.bytes) (pieces_of ps) no_piece j (omega (arith, less, l)) ∙ from_at 16 j p.block.bytes less
piece_at (p ∷ ps) (suc place) j lt less =
    let l = length_from 16 p.block.bytes in
    let e : 16 * suc place + j ≡ length (slots_from 16 p.block.bytes) + (16 * place + j) = omega (arith, l) in
    ap (λ (k : ℕ). get_or (slots_from 16 p.block.bytes ++ pieces_of ps) k no_piece) e
    ∙ get_or-append-add (slots_from 16 p.block.bytes) (pieces_of ps) (16 * place + j) no_piece ∙ piece_at ps place j (omega (arith, lt)) less

-- ---- what the tests say

pub all_at : {X : Type 0} (f : X → Bool) (xs : List X) (d : X) → list_all f xs ≡ true → (k : ℕ) → k < length xs → f (get_or xs k d) ≡ true
all_at f [] d all k lt = absurd (omega (arith, lt))
all_at f (x ∷ xs) d all zero lt = (both (f x) (list_all f xs) all).0
all_at f (x ∷ xs) d all (suc k) lt = all_at f xs d (both (f x) (list_all f xs) all).1 k (omega (arith, lt))

is_not : (t : Bool) → not t ≡ true → t ≡ false
is_not true e = cc
is_not false e = refl

plain_bytes : (bytes : List ℕ) → list_all (λ b. not (b == 0) && not (b == 47)) bytes ≡ true → All (λ b. (b ≢ 0) × (b ≢ 47)) bytes
plain_bytes [] all = All-nil (λ b. (b ≢ 0) × (b ≢ 47))
plain_bytes (b ∷ bytes) all =
    let parts = both (not (b == 0) && not (b == 47)) _ all in
    let here = both (not (b == 0)) (not (b == 47)) parts.0 in
    let zero_no = is_not _ here.0 in
    let slash_no = is_not _ here.1 in
    All-cons (λ c. (c ≢ 0) × (c ≢ 47)) b bytes ((λ e. let same : (b == 0) ≡ true = ap (λ c. c == 0) e in cc), (λ e. let same : (b == 47) ≡ true = ap (λ c. c == 47) e in cc)) (plain_bytes bytes parts.1)

name_is : (name : List ℕ) → is_name name ≡ true → IsName name
name_is name good =
    let plain : Bool = list_all (λ b. not (b == 0) && not (b == 47)) name in
    let low : Bool = nat_le 1 (length name) in
    let high : Bool = nat_le (length name) 250 in
    let dot : Bool = not (bytes_eq name (46 ∷ [])) in
    let a = both (low && high && plain && dot) (not (bytes_eq name (46 ∷ 46 ∷ []))) good in
    let b = both (low && high && plain) dot a.0 in
    let c = both (low && high) plain b.0 in
    let d = both low high c.0 in
    record {
      some = least (length name) d.0;
      at_most = most (length name) d.1;
      plain = plain_bytes name c.1;
      not_dot = apart (46 ∷ []) b.1;
      not_dots = apart (46 ∷ 46 ∷ []) a.1;
    }
  where
    least : (k : ℕ) → nat_le 1 k ≡ true → 1 ≤ k
    least k e = grind (arith, nat_tests)

    most : (k : ℕ) → nat_le k 250 ≡ true → k ≤ 250
    most k e = grind (arith, nat_tests)

    apart : (dots : List ℕ) → not (bytes_eq name dots) ≡ true → name ≡ dots → ⊥
    apart dots differ is = let same : bytes_eq name dots ≡ true = (bytes_eq-Decides name dots).1 is in let never = is_not _ differ in cc

pub slot_is : (slot : Slot) (bytes : List ℕ) → is_slot_spelled slot bytes ≡ true → SlotFits slot × (bytes ≡ slot_bytes slot)
slot_is slots.Unused bytes good = (tt, sym ((bytes_eq-Decides (slot_bytes slots.Unused) bytes).0 good))
slot_is (slots.Entry number name) bytes good =
    let a = both (nat_le 1 number && nat_le number 65535 && is_name name) (bytes_eq (slot_bytes (slots.Entry number name)) bytes) good in
    let b = both (nat_le 1 number && nat_le number 65535) (is_name name) a.0 in
    let c = both (nat_le 1 number) (nat_le number 65535) b.0 in
    let low = c.0 in
    let high = c.1 in
    ((grind (arith, nat_tests), grind (arith, nat_tests), name_is name b.1), sym ((bytes_eq-Decides (slot_bytes (slots.Entry number name)) bytes).0 a.1))

any_at : (name : List ℕ) (rest : List Slot) → list_any (is_entry_name name) rest ≡ false → (j : ℕ) → is_entry_name name (slot_at rest j) ≡ false
any_at name [] none j = refl
any_at name (s ∷ rest) none zero = (neither _ _ none).0
  where
    neither : (a b : Bool) → (a || b) ≡ false → (a ≡ false) × (b ≡ false)
    neither true b e = cc
    neither false b e = (refl, e)
any_at name (s ∷ rest) none (suc j) = any_at name rest (later (is_entry_name name s) _ none) j
  where
    later : (a b : Bool) → (a || b) ≡ false → b ≡ false
    later true b e = cc
    later false b e = e

pub names_once : (ss : List Slot) → has_twin ss ≡ false → HasNamesOnce ss
names_once [] none i j a b e = let f : false ≡ true = a in cc
names_once (slots.Unused ∷ ss) none zero j a b e = let f : false ≡ true = a in cc
names_once (slots.Unused ∷ ss) none (suc i) zero a b e = let f : false ≡ true = b in cc
names_once (slots.Unused ∷ ss) none (suc i) (suc j) a b e = ap suc (names_once ss none i j a b e)
names_once (slots.Entry number name ∷ ss) none zero zero a b e = refl
names_once (slots.Entry number name ∷ ss) none zero (suc j) a b e = absurd (twice (slot_at ss j) b e (any_at name ss (first _ _ none) j))
  where
    first : (x y : Bool) → (x || y) ≡ false → x ≡ false
    first true y f = cc
    first false y f = refl

    twice : (s : Slot) → is_entry s ≡ true → name ≡ name_of s → is_entry_name name s ≡ false → ⊥
    twice slots.Unused used is differ = let f : false ≡ true = used in cc
    twice (slots.Entry m other) used is differ = let same : name_eq name other ≡ true = ap (name_eq name) (sym is) ∙ name_itself name in cc
names_once (slots.Entry number name ∷ ss) none (suc i) zero a b e = absurd (twice (slot_at ss i) a (sym e) (any_at name ss (first _ _ none) i))
  where
    first : (x y : Bool) → (x || y) ≡ false → x ≡ false
    first true y f = cc
    first false y f = refl

    twice : (s : Slot) → is_entry s ≡ true → name ≡ name_of s → is_entry_name name s ≡ false → ⊥
    twice slots.Unused used is differ = let f : false ≡ true = used in cc
    twice (slots.Entry m other) used is differ = let same : name_eq name other ≡ true = ap (name_eq name) (sym is) ∙ name_itself name in cc
names_once (slots.Entry number name ∷ ss) none (suc i) (suc j) a b e = ap suc (names_once ss (later _ _ none) i j a b e)
  where
    later : (x y : Bool) → (x || y) ≡ false → y ≡ false
    later true y f = cc
    later false y f = f
