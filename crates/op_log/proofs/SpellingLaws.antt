-- Each spelling has one command.
use Rattle.std.proofs.Common.{◌≡◌, ◌∙◌, ◌+◌, ◌*◌, ◌<◌, ◌≤◌, ℕ, zero, suc, List, [], ◌++◌, length, take, drop, refl, sym, ap, arith, length-drop}
use Rattle.std.specs.Prelude.{replicate, ◌-◌}
use Rattle.std.proofs.lemmas.Option.{same_Some}
use Rattle.std.proofs.lemmas.List.{append-nil, drop-drop, length-append, length-replicate, length-take, nil_from_length, take-append-drop, take_all, take_at}
use Rattle.vol_numbers.specs.declared.block.Block.{Block}
use Rattle.tree_model.specs.Path.{Path}
use Rattle.tree_model.specs.declared.command.Command.{Command}
use Rattle.tree_model.specs.declared.command.Command.TheVariants.{Mkdir, Create, Write, Truncate, Remove, Rename, Read, List as ListOf, Stat, Layout, Space, Checkpoint, End}
use Rattle.op_log.specs.Log.{RecordStands}
use Rattle.op_log.specs.Record.{Fields, HasRecord, IsLogPath, fields_of, filled, path_bytes, record_block, record_blocks, record_text, text_block}
use Rattle.op_log.specs.Reading.{fields_in}
use Rattle.op_log.specs.declared.head.Head.{Head}
use Rattle.op_log.proofs.NameLemmas.{path_bytes-same}
use Rattle.op_log.proofs.RecordLemmas.{fields_fit, fields_in-text, first_head, head_of, length-text, text_fits}

path_same : (p q : Path) → IsLogPath p → IsLogPath q → path_bytes p ≡ path_bytes q → p ≡ q
path_same p q is other e = path_bytes-same p q is.names other.names e

kind_same : (f g : Fields) → f ≡ g → f.kind ≡ g.kind
kind_same f g e = ap (λ (h : Fields). h.kind) e

mkdir_same : (path : Path) (d : Command) → HasRecord (Mkdir path) → HasRecord d → fields_of (Mkdir path) ≡ fields_of d → Mkdir path ≡ d
mkdir_same path (Mkdir path') has other e = ap Mkdir (path_same path path' has other (ap (λ (f : Fields). f.path) e))
mkdir_same path (Create path') has other e = absurd (let kind : 1 ≡ 2 = kind_same (fields_of (Mkdir path)) (fields_of (Create path')) e in omega arith)
mkdir_same path (Write path' offset' bytes') has other e = absurd (let kind : 1 ≡ 3 = kind_same (fields_of (Mkdir path)) (fields_of (Write path' offset' bytes')) e in omega arith)
mkdir_same path (Truncate path' size') has other e = absurd (let kind : 1 ≡ 4 = kind_same (fields_of (Mkdir path)) (fields_of (Truncate path' size')) e in omega arith)
mkdir_same path (Remove path') has other e = absurd (let kind : 1 ≡ 5 = kind_same (fields_of (Mkdir path)) (fields_of (Remove path')) e in omega arith)
mkdir_same path (Rename from' to') has other e = absurd (let kind : 1 ≡ 6 = kind_same (fields_of (Mkdir path)) (fields_of (Rename from' to')) e in omega arith)
mkdir_same path (Read path' offset' length') has other e = absurd other
mkdir_same path (ListOf path') has other e = absurd other
mkdir_same path (Stat path') has other e = absurd other
mkdir_same path (Layout path') has other e = absurd other
mkdir_same path Space has other e = absurd other
mkdir_same path Checkpoint has other e = absurd other
mkdir_same path End has other e = absurd other

create_same : (path : Path) (d : Command) → HasRecord (Create path) → HasRecord d → fields_of (Create path) ≡ fields_of d → Create path ≡ d
create_same path (Mkdir path') has other e = absurd (let kind : 2 ≡ 1 = kind_same (fields_of (Create path)) (fields_of (Mkdir path')) e in omega arith)
create_same path (Create path') has other e = ap Create (path_same path path' has other (ap (λ (f : Fields). f.path) e))
create_same path (Write path' offset' bytes') has other e = absurd (let kind : 2 ≡ 3 = kind_same (fields_of (Create path)) (fields_of (Write path' offset' bytes')) e in omega arith)
create_same path (Truncate path' size') has other e = absurd (let kind : 2 ≡ 4 = kind_same (fields_of (Create path)) (fields_of (Truncate path' size')) e in omega arith)
create_same path (Remove path') has other e = absurd (let kind : 2 ≡ 5 = kind_same (fields_of (Create path)) (fields_of (Remove path')) e in omega arith)
create_same path (Rename from' to') has other e = absurd (let kind : 2 ≡ 6 = kind_same (fields_of (Create path)) (fields_of (Rename from' to')) e in omega arith)
create_same path (Read path' offset' length') has other e = absurd other
create_same path (ListOf path') has other e = absurd other
create_same path (Stat path') has other e = absurd other
create_same path (Layout path') has other e = absurd other
create_same path Space has other e = absurd other
create_same path Checkpoint has other e = absurd other
create_same path End has other e = absurd other

write_same : (path : Path) (offset : ℕ) (bytes : List ℕ) (d : Command) → HasRecord (Write path offset bytes) → HasRecord d → fields_of (Write path offset bytes) ≡ fields_of d → Write path offset bytes ≡ d
write_same path offset bytes (Mkdir path') has other e = absurd (let kind : 3 ≡ 1 = kind_same (fields_of (Write path offset bytes)) (fields_of (Mkdir path')) e in omega arith)
write_same path offset bytes (Create path') has other e = absurd (let kind : 3 ≡ 2 = kind_same (fields_of (Write path offset bytes)) (fields_of (Create path')) e in omega arith)
write_same path offset bytes (Write path' offset' bytes') has other e =
    let same : path ≡ path' = path_same path path' has.0 other.0 (ap (λ (f : Fields). f.path) e) in
    λ i. Write (same i) (e i).number (e i).rest
write_same path offset bytes (Truncate path' size') has other e = absurd (let kind : 3 ≡ 4 = kind_same (fields_of (Write path offset bytes)) (fields_of (Truncate path' size')) e in omega arith)
write_same path offset bytes (Remove path') has other e = absurd (let kind : 3 ≡ 5 = kind_same (fields_of (Write path offset bytes)) (fields_of (Remove path')) e in omega arith)
write_same path offset bytes (Rename from' to') has other e = absurd (let kind : 3 ≡ 6 = kind_same (fields_of (Write path offset bytes)) (fields_of (Rename from' to')) e in omega arith)
write_same path offset bytes (Read path' offset' length') has other e = absurd other
write_same path offset bytes (ListOf path') has other e = absurd other
write_same path offset bytes (Stat path') has other e = absurd other
write_same path offset bytes (Layout path') has other e = absurd other
write_same path offset bytes Space has other e = absurd other
write_same path offset bytes Checkpoint has other e = absurd other
write_same path offset bytes End has other e = absurd other

truncate_same : (path : Path) (size : ℕ) (d : Command) → HasRecord (Truncate path size) → HasRecord d → fields_of (Truncate path size) ≡ fields_of d → Truncate path size ≡ d
truncate_same path size (Mkdir path') has other e = absurd (let kind : 4 ≡ 1 = kind_same (fields_of (Truncate path size)) (fields_of (Mkdir path')) e in omega arith)
truncate_same path size (Create path') has other e = absurd (let kind : 4 ≡ 2 = kind_same (fields_of (Truncate path size)) (fields_of (Create path')) e in omega arith)
truncate_same path size (Write path' offset' bytes') has other e = absurd (let kind : 4 ≡ 3 = kind_same (fields_of (Truncate path size)) (fields_of (Write path' offset' bytes')) e in omega arith)
truncate_same path size (Truncate path' size') has other e =
    let same : path ≡ path' = path_same path path' has.0 other.0 (ap (λ (f : Fields). f.path) e) in
    λ i. Truncate (same i) (e i).number
truncate_same path size (Remove path') has other e = absurd (let kind : 4 ≡ 5 = kind_same (fields_of (Truncate path size)) (fields_of (Remove path')) e in omega arith)
truncate_same path size (Rename from' to') has other e = absurd (let kind : 4 ≡ 6 = kind_same (fields_of (Truncate path size)) (fields_of (Rename from' to')) e in omega arith)
truncate_same path size (Read path' offset' length') has other e = absurd other
truncate_same path size (ListOf path') has other e = absurd other
truncate_same path size (Stat path') has other e = absurd other
truncate_same path size (Layout path') has other e = absurd other
truncate_same path size Space has other e = absurd other
truncate_same path size Checkpoint has other e = absurd other
truncate_same path size End has other e = absurd other

remove_same : (path : Path) (d : Command) → HasRecord (Remove path) → HasRecord d → fields_of (Remove path) ≡ fields_of d → Remove path ≡ d
remove_same path (Mkdir path') has other e = absurd (let kind : 5 ≡ 1 = kind_same (fields_of (Remove path)) (fields_of (Mkdir path')) e in omega arith)
remove_same path (Create path') has other e = absurd (let kind : 5 ≡ 2 = kind_same (fields_of (Remove path)) (fields_of (Create path')) e in omega arith)
remove_same path (Write path' offset' bytes') has other e = absurd (let kind : 5 ≡ 3 = kind_same (fields_of (Remove path)) (fields_of (Write path' offset' bytes')) e in omega arith)
remove_same path (Truncate path' size') has other e = absurd (let kind : 5 ≡ 4 = kind_same (fields_of (Remove path)) (fields_of (Truncate path' size')) e in omega arith)
remove_same path (Remove path') has other e = ap Remove (path_same path path' has other (ap (λ (f : Fields). f.path) e))
remove_same path (Rename from' to') has other e = absurd (let kind : 5 ≡ 6 = kind_same (fields_of (Remove path)) (fields_of (Rename from' to')) e in omega arith)
remove_same path (Read path' offset' length') has other e = absurd other
remove_same path (ListOf path') has other e = absurd other
remove_same path (Stat path') has other e = absurd other
remove_same path (Layout path') has other e = absurd other
remove_same path Space has other e = absurd other
remove_same path Checkpoint has other e = absurd other
remove_same path End has other e = absurd other

rename_same : (from to : Path) (d : Command) → HasRecord (Rename from to) → HasRecord d → fields_of (Rename from to) ≡ fields_of d → Rename from to ≡ d
rename_same from to (Mkdir path') has other e = absurd (let kind : 6 ≡ 1 = kind_same (fields_of (Rename from to)) (fields_of (Mkdir path')) e in omega arith)
rename_same from to (Create path') has other e = absurd (let kind : 6 ≡ 2 = kind_same (fields_of (Rename from to)) (fields_of (Create path')) e in omega arith)
rename_same from to (Write path' offset' bytes') has other e = absurd (let kind : 6 ≡ 3 = kind_same (fields_of (Rename from to)) (fields_of (Write path' offset' bytes')) e in omega arith)
rename_same from to (Truncate path' size') has other e = absurd (let kind : 6 ≡ 4 = kind_same (fields_of (Rename from to)) (fields_of (Truncate path' size')) e in omega arith)
rename_same from to (Remove path') has other e = absurd (let kind : 6 ≡ 5 = kind_same (fields_of (Rename from to)) (fields_of (Remove path')) e in omega arith)
rename_same from to (Rename from' to') has other e =
    let first : from ≡ from' = path_same from from' has.0 other.0 (ap (λ (f : Fields). f.path) e) in
    let second : to ≡ to' = path_same to to' has.1 other.1 (ap (λ (f : Fields). f.rest) e) in
    λ i. Rename (first i) (second i)
rename_same from to (Read path' offset' length') has other e = absurd other
rename_same from to (ListOf path') has other e = absurd other
rename_same from to (Stat path') has other e = absurd other
rename_same from to (Layout path') has other e = absurd other
rename_same from to Space has other e = absurd other
rename_same from to Checkpoint has other e = absurd other
rename_same from to End has other e = absurd other

-- two commands with records of the same fields are the same
pub fields_same : (c d : Command) → HasRecord c → HasRecord d → fields_of c ≡ fields_of d → c ≡ d
fields_same (Mkdir path) d has other e = mkdir_same path d has other e
fields_same (Create path) d has other e = create_same path d has other e
fields_same (Write path offset bytes) d has other e = write_same path offset bytes d has other e
fields_same (Truncate path size) d has other e = truncate_same path size d has other e
fields_same (Remove path) d has other e = remove_same path d has other e
fields_same (Rename from to) d has other e = rename_same from to d has other e
fields_same (Read path offset length) d has other e = absurd has
fields_same (ListOf path) d has other e = absurd has
fields_same (Stat path) d has other e = absurd has
fields_same (Layout path) d has other e = absurd has
fields_same Space d has other e = absurd has
fields_same Checkpoint d has other e = absurd has
fields_same End d has other e = absurd has

length-filled : (part : List ℕ) → length part ≤ 4096 → length (filled part) ≡ 4096
length-filled part short = omega (arith, length-append part (replicate (4096 - length part) 0), length-replicate {A = ℕ} (4096 - length part) 0)

-- one block more
text_more : (xs ys : List ℕ) → filled (take 4096 xs) ≡ filled (take 4096 ys) → length xs ≡ length ys → drop 4096 xs ≡ drop 4096 ys → xs ≡ ys
text_more xs ys first long rest =
    let x : List ℕ = take 4096 xs in
    let y : List ℕ = take 4096 ys in
    let same_length : length y ≡ length x = omega (arith, length-take 4096 xs, length-take 4096 ys, long) in
    let front : x ≡ y =
    sym (take_at x (replicate (4096 - length x) 0) (length x) refl) ∙ ap (take (length x)) first ∙ take_at y (replicate (4096 - length y) 0) (length x) same_length in
    sym (take-append-drop 4096 xs) ∙ (λ i. front i ++ rest i) ∙ take-append-drop 4096 ys

-- two texts of one length with the same blocks are the same
text_same : (n : ℕ) (xs ys : List ℕ) → ((i : ℕ) → i < n → (text_block xs i).bytes ≡ (text_block ys i).bytes) → length xs ≡ length ys → length xs ≤ 4096 * n → xs ≡ ys
text_same zero xs ys blocks long fits = nil_from_length xs (omega arith) ∙ sym (nil_from_length ys (omega arith))
text_same (suc n) xs ys blocks long fits =
    text_more xs ys (blocks 0 (omega arith)) long (text_same n (drop 4096 xs) (drop 4096 ys) later (omega (arith, length-drop 4096 xs, length-drop 4096 ys)) (omega (arith, length-drop 4096 xs)))
  where
    later : (i : ℕ) → i < n → (text_block (drop 4096 xs) i).bytes ≡ (text_block (drop 4096 ys) i).bytes
    later i lt =
        let at : 4096 + 4096 * i ≡ 4096 * suc i = omega arith in
        ap (λ (l : List ℕ). filled (take 4096 l)) (drop-drop (4096 * i) 4096 xs ∙ ap (λ (k : ℕ). drop k xs) at) ∙ blocks (suc i) (omega arith)
        ∙ ap (λ (l : List ℕ). filled (take 4096 l)) (sym (drop-drop (4096 * i) 4096 ys ∙ ap (λ (k : ℕ). drop k ys) at))

first_full : (c : Command) → take 4096 (record_block c 0).bytes ≡ (record_block c 0).bytes
first_full c =
    let part : List ℕ = take 4096 (record_text c) in
    take_all 4096 (filled part) (omega (arith, length-filled part (omega (arith, length-take 4096 (record_text c)))))

text_says : (c : Command) → HasRecord c → fields_in (record_text c) ≡ fields_of c
text_says c has = fields_in-text (fields_of c) (record_text c) [] (fields_fit c has) (sym (append-nil (record_text c)))

-- only one command has a record that stands at a place
pub one_command : (image : List Block) (at : ℕ) (c d : Command) → HasRecord c → HasRecord d → RecordStands image at c → RecordStands image at d → c ≡ d
one_command image at c d has other stands other_stands =
    let block : (i : ℕ) → i < record_blocks c → i < record_blocks d → record_block c i ≡ record_block d i =
    λ i lt less. same_Some (record_block c i) (record_block d i) (sym (stands i lt) ∙ other_stands i less) in
    let first : (record_block c 0).bytes ≡ (record_block d 0).bytes = ap (λ (b : Block). b.bytes) (block 0 (omega arith) (omega arith)) in
    let head : head_of (fields_of c) ≡ head_of (fields_of d) =
    sym (first_head c (record_block c 0).bytes has (first_full c)) ∙ first_head d (record_block c 0).bytes other (first_full c ∙ first) in
    let path : length (fields_of c).path ≡ length (fields_of d).path = ap (λ (h : Head). h.path_len) head in
    let rest : length (fields_of c).rest ≡ length (fields_of d).rest = ap (λ (h : Head). h.rest_len) head in
    let text : record_text c ≡ record_text d =
    text_same (record_blocks c) (record_text c) (record_text d) (λ i lt. ap (λ (b : Block). b.bytes) (block i lt (omega (arith, lt, path, rest))))
    (omega (arith, length-text (fields_of c), length-text (fields_of d), path, rest)) (text_fits (fields_of c)) in
    fields_same c d has other (sym (text_says c has) ∙ ap fields_in text ∙ text_says d other)
