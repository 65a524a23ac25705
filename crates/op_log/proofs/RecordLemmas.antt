-- A record is read as it was spelled.
use Rattle.std.proofs.Common.{◌≡◌, ◌∙◌, ◌+◌, ◌-◌, ◌*◌, ◌^◌, ◌<◌, ◌≤◌, ⊎_elim, ℕ, zero, suc, List, [], ◌++◌, length, take, drop, refl, sym, ap, arith, length-drop}
use Rattle.std.specs.Prelude.{replicate}
use Rattle.std.proofs.Math.Seq.{take-add}
use Rattle.std.proofs.lemmas.Bool.{cases_lt}
use Rattle.std.proofs.lemmas.List.{append_assoc, append-nil, drop_at, drop-drop, length-append, length-take-le, nil_from_length, take_all, take_at, take-append-drop, take-take}
use Rattle.byteorder.specs.Numbers.{little_number-reads_back}
use Rattle.vol_numbers.specs.declared.block.Block.{Block}
use Rattle.tree_model.specs.Path.{Path}
use Rattle.tree_model.specs.declared.command.Command.{Command}
use Rattle.tree_model.specs.declared.command.Command.TheVariants.{Mkdir, Create, Write, Truncate, Remove, Rename, Read, List as ListOf, Stat, Layout, Space, Checkpoint, End}
use Rattle.op_log.specs.Record.{Fields, HasRecord, IsLogPath, blocks_for, fields_of, filled, header, path_bytes, record_block, record_blocks, record_text, text_block, text_of}
use Rattle.op_log.specs.Reading.{fields_in, head_in, HasLimits, Spells}
use Rattle.op_log.specs.declared.head.Head.{Head}
use Rattle.op_log.proofs.HeaderLemmas.{length-header}
use Rattle.op_log.proofs.PathLemmas.{length-path_bytes}
use Rattle.op_log.proofs.PieceLemmas.{take-append-over}

-- each field has room for what it says
pub record FieldsFit (f : Fields) : Type 0 where
  pub path : length f.path ≤ 1024
  pub number : f.number < 2 ^ 64
  pub rest : length f.rest ≤ 65536

path_fits : (path : Path) → IsLogPath path → length (path_bytes path) ≤ 1024
path_fits path is = omega (arith, length-path_bytes path, is.limits.length_at_most)

pub fields_fit : (c : Command) → HasRecord c → FieldsFit (fields_of c)
fields_fit (Mkdir path) has = record { path = path_fits path has; number = omega arith; rest = omega arith }
fields_fit (Create path) has = record { path = path_fits path has; number = omega arith; rest = omega arith }
fields_fit (Write path offset bytes) has = record { path = path_fits path has.0; number = has.1; rest = has.3 }
fields_fit (Truncate path size) has = record { path = path_fits path has.0; number = has.1; rest = omega arith }
fields_fit (Remove path) has = record { path = path_fits path has; number = omega arith; rest = omega arith }
fields_fit (Rename from to) has = record { path = path_fits from has.0; number = omega arith; rest = omega (arith, path_fits to has.1) }
fields_fit (Read path offset length) has = absurd has
fields_fit (ListOf path) has = absurd has
fields_fit (Stat path) has = absurd has
fields_fit (Layout path) has = absurd has
fields_fit Space has = absurd has
fields_fit Checkpoint has = absurd has
fields_fit End has = absurd has

abbrev pub head_of : Fields → Head
head_of f = record { kind = f.kind; path_len = length f.path; number = f.number; rest_len = length f.rest }

abbrev header_of : Fields → List ℕ
header_of f = header f.kind (length f.path) f.number (length f.rest)

head_in-header : (f : Fields) (z : List ℕ) → FieldsFit f → head_in (header_of f ++ z) ≡ head_of f
unfolding head_in header
head_in-header f z fits = λ i. record {
  kind = f.kind;
  path_len = little_number-reads_back 4 (length f.path) [] (omega (arith, fits.path)) i;
  number = little_number-reads_back 8 f.number [] fits.number i;
  rest_len = little_number-reads_back 4 (length f.rest) [] (omega (arith, fits.rest)) i;
}

-- what the first block says is what was spelled
head_in-first : (f : Fields) (bytes : List ℕ) → FieldsFit f → take 4096 bytes ≡ (text_block (text_of f) 0).bytes → head_in bytes ≡ head_of f
head_in-first f bytes fits first =
    let h : List ℕ = header_of f in
    let x : List ℕ = f.path ++ f.rest in
    let part : List ℕ = take (4096 - length h) x in
    let text : text_of f ≡ h ++ x = append_assoc h f.path f.rest in
    let front : take 4096 (text_of f) ≡ h ++ part = ap (take 4096) text ∙ take-append-over 4096 h x (omega (arith, length-header f.kind (length f.path) f.number (length f.rest))) in
    let z : List ℕ = replicate (4096 - length (h ++ part)) 0 in
    let d : List ℕ = drop 4096 bytes in
    let filled_front : filled (take 4096 (text_of f)) ≡ h ++ (part ++ z) = ap filled front ∙ append_assoc h part z in
    let is : bytes ≡ h ++ ((part ++ z) ++ d) =
    sym (take-append-drop 4096 bytes) ∙ ap (λ (l : List ℕ). l ++ d) (first ∙ filled_front) ∙ append_assoc h (part ++ z) d in
    ap head_in is ∙ head_in-header f ((part ++ z) ++ d) fits

-- one block more
text_step : (text bytes : List ℕ) → take 4096 bytes ≡ filled (take 4096 text) → take (length (drop 4096 text)) (drop 4096 bytes) ≡ drop 4096 text → take (length text) bytes ≡ text
text_step text bytes first rest = ⊎_elim short long (cases_lt (length text) 4097)
  where
    short : length text < 4097 → take (length text) bytes ≡ text
    short lt =
        let all : take 4096 text ≡ text = take_all 4096 text (omega arith) in
        let z : List ℕ = replicate (4096 - length text) 0 in
        sym (take-take (length text) 4096 bytes (omega arith)) ∙ ap (take (length text)) (first ∙ ap filled all) ∙ take_at text z (length text) refl

    long : 4097 ≤ length text → take (length text) bytes ≡ text
    long le =
        let m : ℕ = length (drop 4096 text) in
        let len : length text ≡ 4096 + m = omega (arith, length-drop 4096 text) in
        let full : length (take 4096 text) ≡ 4096 = length-take-le 4096 text (omega arith) in
        let no_zeros : 4096 - length (take 4096 text) ≡ 0 = omega (arith, full) in
        let whole : filled (take 4096 text) ≡ take 4096 text = ap (λ (k : ℕ). take 4096 text ++ replicate k 0) no_zeros ∙ append-nil (take 4096 text) in
        ap (λ (k : ℕ). take k bytes) len ∙ take-add 4096 m bytes ∙ (λ i. (first ∙ whole) i ++ rest i) ∙ take-append-drop 4096 text

-- the bytes of blocks of a text begin with the text
text_front : (n : ℕ) (text bytes : List ℕ) → ((i : ℕ) → i < n → take 4096 (drop (4096 * i) bytes) ≡ (text_block text i).bytes) → length text ≤ 4096 * n → take (length text) bytes ≡ text
text_front zero text bytes blocks fits = let none : length text ≡ 0 = omega arith in ap (λ (k : ℕ). take k bytes) none ∙ sym (nil_from_length text none)
text_front (suc n) text bytes blocks fits =
    text_step text bytes (blocks 0 (omega arith)) (text_front n (drop 4096 text) (drop 4096 bytes) later (omega (arith, length-drop 4096 text)))
  where
    later : (i : ℕ) → i < n → take 4096 (drop (4096 * i) (drop 4096 bytes)) ≡ (text_block (drop 4096 text) i).bytes
    later i lt =
        let at : 4096 + 4096 * i ≡ 4096 * suc i = omega arith in
        ap (take 4096) (drop-drop (4096 * i) 4096 bytes ∙ ap (λ (k : ℕ). drop k bytes) at) ∙ blocks (suc i) (omega arith)
        ∙ ap (λ (l : List ℕ). filled (take 4096 l)) (sym (drop-drop (4096 * i) 4096 text ∙ ap (λ (k : ℕ). drop k text) at))

-- the fields of bytes that begin with a text say what was spelled
pub fields_in-text : (f : Fields) (bytes z : List ℕ) → FieldsFit f → bytes ≡ text_of f ++ z → fields_in bytes ≡ f
fields_in-text f bytes z fits is =
    let h : List ℕ = header_of f in
    let parts : bytes ≡ h ++ (f.path ++ (f.rest ++ z)) = is ∙ append_assoc (h ++ f.path) f.rest z ∙ append_assoc h f.path (f.rest ++ z) in
    let head : head_in bytes ≡ head_of f = ap head_in parts ∙ head_in-header f (f.path ++ (f.rest ++ z)) fits in
    let behind : drop 24 bytes ≡ f.path ++ (f.rest ++ z) =
    ap (drop 24) parts ∙ drop_at h (f.path ++ (f.rest ++ z)) 24 (length-header f.kind (length f.path) f.number (length f.rest)) in
    let last : drop (24 + length f.path) bytes ≡ f.rest ++ z =
    sym (drop-drop (length f.path) 24 bytes) ∙ ap (drop (length f.path)) behind ∙ drop_at f.path (f.rest ++ z) (length f.path) refl in
    let path : take (length f.path) (drop 24 bytes) ≡ f.path = ap (take (length f.path)) behind ∙ take_at f.path (f.rest ++ z) (length f.path) refl in
    let rest : take (length f.rest) (drop (24 + length f.path) bytes) ≡ f.rest = ap (take (length f.rest)) last ∙ take_at f.rest z (length f.rest) refl in
    ap (fields_by bytes) head ∙ (λ i. record { kind = f.kind; number = f.number; path = path i; rest = rest i })
  where
    fields_by : List ℕ → Head → Fields
    fields_by bytes h = record { kind = h.kind; number = h.number; path = take h.path_len (drop 24 bytes); rest = take h.rest_len (drop (24 + h.path_len) bytes) }

pub length-text : (f : Fields) → length (text_of f) ≡ 24 + length f.path + length f.rest
length-text f =
    omega (arith, length-append (header_of f ++ f.path) f.rest, length-append (header_of f) f.path, length-header f.kind (length f.path) f.number (length f.rest))

-- the blocks of a record have room for it
pub text_fits : (f : Fields) → length (text_of f) ≤ 4096 * blocks_for (24 + length f.path + length f.rest)
text_fits f = omega (arith, length-text f)

-- the bytes of a record's blocks say what the record says
pub spelled_fields : (c : Command) (bytes : List ℕ) → HasRecord c → Spells c bytes → fields_in bytes ≡ fields_of c
spelled_fields c bytes has spells =
    let text : List ℕ = record_text c in
    let front : take (length text) bytes ≡ text = text_front (record_blocks c) text bytes (λ i lt. ap (λ (b : Block). b.bytes) (spells.blocks i lt)) (text_fits (fields_of c)) in
    fields_in-text (fields_of c) bytes (drop (length text) bytes) (fields_fit c has) (sym (take-append-drop (length text) bytes) ∙ ap (λ (l : List ℕ). l ++ drop (length text) bytes) front)

-- so does the first block of a record
pub first_head : (c : Command) (bytes : List ℕ) → HasRecord c → take 4096 bytes ≡ (record_block c 0).bytes → head_in bytes ≡ head_of (fields_of c)
first_head c bytes has first = head_in-first (fields_of c) bytes (fields_fit c has) first

pub first_limits : (c : Command) (bytes : List ℕ) → HasRecord c → take 4096 bytes ≡ (record_block c 0).bytes → HasLimits (head_in bytes)
first_limits c bytes has first =
    let head = first_head c bytes has first in
    let fits = fields_fit c has in
    record { path = omega (arith, ap (λ (h : Head). h.path_len) head, fits.path); rest = omega (arith, ap (λ (h : Head). h.rest_len) head, fits.rest) }

-- the fields as they are cut from the bytes
pub fields_read : (bytes : List ℕ) (h : Head) (c : Command) → h ≡ head_in bytes → HasRecord c → Spells c bytes
    → fields_of c ≡ record { kind = h.kind; number = h.number; path = take (24 + h.path_len - 24) (drop 24 bytes); rest = take (24 + h.path_len + h.rest_len - (24 + h.path_len)) (drop (24 + h.path_len) bytes) }
fields_read bytes h c is has spells =
    let path_len : h.path_len ≡ 24 + h.path_len - 24 = omega arith in
    let rest_len : h.rest_len ≡ 24 + h.path_len + h.rest_len - (24 + h.path_len) = omega arith in
    sym (spelled_fields c bytes has spells) ∙ ap (fields_by bytes) (sym is)
    ∙ (λ i. record { kind = h.kind; number = h.number; path = take (path_len i) (drop 24 bytes); rest = take (rest_len i) (drop (24 + h.path_len) bytes) })
  where
    fields_by : List ℕ → Head → Fields
    fields_by bytes h = record { kind = h.kind; number = h.number; path = take h.path_len (drop 24 bytes); rest = take h.rest_len (drop (24 + h.path_len) bytes) }
