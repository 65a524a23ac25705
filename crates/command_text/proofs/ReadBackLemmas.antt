-- Commands that are spelled and read back.
use Rattle.std.proofs.Common.{◌≡◌, ◌≢◌, ◌∙◌, ◌<◌, ◌≤◌, ◌+◌, ◌-◌, ◌^◌, ◌++◌, ℕ, Bool, true, false, not, ◌&&◌, Option, Some, List, [], ◌∷◌, length, get_or, drop, take, All, refl, sym, ap, subst, arith, append_assoc, append-nil, length-append, take_all, take-add, get_or-append-add}
use Rattle.std.proofs.Math.ListN.{get_or-append}
use Rattle.std.specs.Prelude.{◌==◌, decimal, codes, position}
use Rattle.std.specs.List.{list_all, slice_split}
use Rattle.std.proofs.lemmas.Bool.Decides.{nat_tests}
use Rattle.std.proofs.lemmas.List.{take-append-le, drop-append-le, drop-drop, drop_all}
use Rattle.std.proofs.lemmas.List.Elements.{All-nil, All-cons, All-append, All-weaker, All-get_or}
use Rattle.std.proofs.lemmas.List.Splits.{slice_split_none, slice_split_at}
use Rattle.std.proofs.lemmas.List.Sums.{position_or_len_is}
use Rattle.tree_model.specs.Path.{Path}
use Rattle.tree_model.specs.declared.command.Command.{Command}
use Rattle.tree_model.specs.declared.command.Command.TheVariants.{Mkdir, Create, Write, Truncate, Remove, Rename, Read, List as ListOf, Stat, Layout, Space, Checkpoint, End}
use Rattle.command_text.specs.declared.item.Item.{Item}
use Rattle.command_text.specs.declared.item.Item.TheVariants as item
use Rattle.line_text.specs.declared.line.Said.{Said}
use Rattle.line_text.specs.declared.line.Said.TheVariants as line
use Rattle.line_text.specs.declared.verb.PathVerb.{PathVerb}
use Rattle.line_text.specs.declared.verb.PathVerb.TheVariants as verb
use Rattle.command_text.specs.Filling.{LineEnds, AsksToWrite, IsWhole}
use Rattle.command_text.specs.Front.{front, is_newline, write_of}
use Rattle.line_text.specs.Lines.{line_in, line_of_parts, path_verb, path_line, on_path, command_on, truncate_line, rename_line, read_line, write_line}
use Rattle.line_text.specs.Numbers.{length_in}
use Rattle.line_text.specs.Paths.{path_in}
use Rattle.command_text.specs.ReadBack.{IsCommandPath, IsCommand, ReadsBack}
use Rattle.command_text.specs.Spelling.{path_spelling, spelling}
use Rattle.command_text.specs.Text.{Text, next, next_from, is_end}
use Rattle.command_text.specs.Text.Next.{Given}
use Rattle.command_text.proofs.FrontLemmas.{whole_command, whole_written}
use Rattle.line_text.proofs.LineLemmas.{line_of_split, two_fields, three_fields, four_fields}
use Rattle.line_text.proofs.PlaceLemmas.{found_at}
use Rattle.command_text.proofs.SpellingLemmas.{IsOfField, path_back, path_of_field, path_short, number_back, number_of_field, number_short, length_back}

-- ---- fields

-- a word that passes the test
word_of_field : (word : List ℕ) → list_all (λ b. not (b == 10) && not (b == 32)) word ≡ true → All IsOfField word
word_of_field [] all = All-nil IsOfField
word_of_field (b ∷ word) all =
    let rest : list_all (λ c. not (c == 10) && not (c == 32)) word ≡ true = grind (arith, nat_tests) in
    let here : IsOfField b = record { no_newline = grind (arith, nat_tests); no_space = grind (arith, nat_tests) } in
    All-cons IsOfField b word here (word_of_field word rest)

no_space : (b : ℕ) → IsOfField b → (b == 32) ≡ false
no_space b is = let ne = is.no_space in grind (arith, nat_tests)

unspaced : (field : List ℕ) → All IsOfField field → All (λ b. (b == 32) ≡ false) field
unspaced field all = All-weaker IsOfField (λ b. (b == 32) ≡ false) no_space field all

abbrev spaced : List ℕ → List (List ℕ)
spaced text = slice_split (λ b. b == 32) text

abbrev IsOfLine : ℕ → Type 0
IsOfLine b = b ≢ 10

of_line : (field : List ℕ) → All IsOfField field → All IsOfLine field
of_line field all = All-weaker IsOfField IsOfLine (λ b is. is.no_newline) field all

-- a text without a newline, cut into fields
record Cut (text : List ℕ) (fields : List (List ℕ)) : Type 0 where
  pub parts : spaced text ≡ fields
  pub ends : All IsOfLine text

last_field : (field : List ℕ) → All IsOfField field → Cut field (field ∷ [])
last_field field all = record { parts = slice_split_none (λ b. b == 32) field (unspaced field all); ends = of_line field all }

-- a field, and a space and more behind it
first_field : (field text : List ℕ) (fields : List (List ℕ)) → All IsOfField field → Cut text fields → Cut (field ++ 32 ∷ text) (field ∷ fields)
first_field field text fields all rest = record {
  parts = slice_split_at (λ b. b == 32) field 32 text (unspaced field all) refl ∙ ap (λ (l : List (List ℕ)). field ∷ l) rest.parts;
  ends = All-append IsOfLine field (32 ∷ text) (of_line field all) (All-cons IsOfLine 32 text (omega arith) rest.ends);
}

-- ---- lines

-- a text that is a line of at most 8,192 bytes and says this
record Says (text : List ℕ) (line : Said) : Type 0 where
  pub says : line_in text ≡ line
  pub ends : All IsOfLine text
  pub short : length text ≤ 8192

said : (text : List ℕ) (fields : List (List ℕ)) (line : Said) → Cut text fields → line_of_parts fields ≡ line → length text ≤ 8192 → Says text line
said text fields line cut is short = record { says = line_of_split text fields cut.parts ∙ is; ends = cut.ends; short = short }

abbrev passes : List ℕ → Bool
passes word = list_all (λ b. not (b == 10) && not (b == 32)) word

on_a_path : (word : List ℕ) (name : PathVerb) (path : Path) → passes word ≡ true → length word ≤ 100 → path_verb word ≡ Some name → IsCommandPath path
    → Says (word ++ 32 ∷ path_spelling path) (line.Command (command_on name path))
on_a_path word name path plain short is_verb is =
    let field = path_spelling path in
    let sized = path_short path is in
    let counted = length-append word (32 ∷ field) in
    said (word ++ 32 ∷ field) (word ∷ field ∷ []) (line.Command (command_on name path))
    (first_field word field (field ∷ []) (word_of_field word plain) (last_field field (path_of_field path is)))
    (two_fields word field sized.0 ∙ ap (λ (v : Option PathVerb). path_line v field) is_verb ∙ ap (λ (p : Option Path). on_path p (command_on name)) (path_back path is))
    (omega arith)

truncates : (path : Path) (size : ℕ) → IsCommandPath path → size < 2 ^ 64 → Says (codes "truncate" ++ 32 ∷ (path_spelling path ++ 32 ∷ decimal size)) (line.Command (Truncate path size))
truncates path size is small =
    let word = codes "truncate" in
    let field = path_spelling path in
    let digits = decimal size in
    let path_sized = path_short path is in
    let size_sized = number_short size small in
    let counted = length-append field (32 ∷ digits) in
    said (word ++ 32 ∷ (field ++ 32 ∷ digits)) (word ∷ field ∷ digits ∷ []) (line.Command (Truncate path size))
    (first_field word (field ++ 32 ∷ digits) (field ∷ digits ∷ []) (word_of_field word refl) (first_field field digits (digits ∷ []) (path_of_field path is) (last_field digits (number_of_field size small))))
    (three_fields word field digits path_sized.0 size_sized.0 ∙ ap (truncate_line field) (number_back size small) ∙ ap (λ (p : Option Path). on_path p (λ q. Truncate q size)) (path_back path is))
    (omega arith)

renames : (from to : Path) → IsCommandPath from → IsCommandPath to → Says (codes "rename" ++ 32 ∷ (path_spelling from ++ 32 ∷ path_spelling to)) (line.Command (Rename from to))
renames from to one two =
    let word = codes "rename" in
    let field = path_spelling from in
    let other = path_spelling to in
    let one_sized = path_short from one in
    let two_sized = path_short to two in
    let counted = length-append field (32 ∷ other) in
    said (word ++ 32 ∷ (field ++ 32 ∷ other)) (word ∷ field ∷ other ∷ []) (line.Command (Rename from to))
    (first_field word (field ++ 32 ∷ other) (field ∷ other ∷ []) (word_of_field word refl) (first_field field other (other ∷ []) (path_of_field from one) (last_field other (path_of_field to two))))
    (three_fields word field other one_sized.0 two_sized.0 ∙ ap (λ (p : Option Path). rename_line p (path_in other)) (path_back from one) ∙ ap (λ (p : Option Path). rename_line (Some from) p) (path_back to two))
    (omega arith)

-- a verb, a path and two numbers
module _ (word : List ℕ) (path : Path) (offset count : ℕ) (plain : passes word ≡ true) (short : length word ≤ 100) (is : IsCommandPath path) (small : offset < 2 ^ 64) (at_most : count ≤ 65536) where
  three_say : (line : Said) → line_of_parts (word ∷ path_spelling path ∷ decimal offset ∷ decimal count ∷ []) ≡ line → Says (word ++ 32 ∷ (path_spelling path ++ 32 ∷ (decimal offset ++ 32 ∷ decimal count))) line
  three_say line is_line =
      let field = path_spelling path in
      let first = decimal offset in
      let second = decimal count in
      let path_sized = path_short path is in
      let first_sized = number_short offset small in
      let second_sized = number_short count (omega arith) in
      let counted = length-append word (32 ∷ (field ++ 32 ∷ (first ++ 32 ∷ second))) in
      let more_counted = length-append field (32 ∷ (first ++ 32 ∷ second)) in
      let last_counted = length-append first (32 ∷ second) in
      said (word ++ 32 ∷ (field ++ 32 ∷ (first ++ 32 ∷ second))) (word ∷ field ∷ first ∷ second ∷ []) line
      (first_field word (field ++ 32 ∷ (first ++ 32 ∷ second)) (field ∷ first ∷ second ∷ []) (word_of_field word plain)
      (first_field field (first ++ 32 ∷ second) (first ∷ second ∷ []) (path_of_field path is)
      (first_field first second (second ∷ []) (number_of_field offset small) (last_field second (number_of_field count (omega arith))))))
      is_line
      (omega arith)

reading : (path : Path) (offset count : ℕ) → IsCommandPath path → offset < 2 ^ 64 → count ≤ 65536 → Says (codes "read" ++ 32 ∷ (path_spelling path ++ 32 ∷ (decimal offset ++ 32 ∷ decimal count))) (line.Command (Read path offset count))
reading path offset count is small at_most =
    let field = path_spelling path in
    let path_sized = path_short path is in
    let first_sized = number_short offset small in
    three_say (codes "read") path offset count refl (omega arith) is small at_most (line.Command (Read path offset count))
    (four_fields (codes "read") field (decimal offset) (decimal count) path_sized.0 first_sized.0
    ∙ ap (λ (o : Option ℕ). read_line field o (length_in (decimal count))) (number_back offset small)
    ∙ ap (λ (o : Option ℕ). read_line field (Some offset) o) (length_back count at_most)
    ∙ ap (λ (p : Option Path). on_path p (λ q. Read q offset count)) (path_back path is))

writing : (path : Path) (offset count : ℕ) → IsCommandPath path → offset < 2 ^ 64 → count ≤ 65536 → Says (codes "write" ++ 32 ∷ (path_spelling path ++ 32 ∷ (decimal offset ++ 32 ∷ decimal count))) (line.Write (Some path) offset count)
writing path offset count is small at_most =
    let field = path_spelling path in
    let path_sized = path_short path is in
    let first_sized = number_short offset small in
    three_say (codes "write") path offset count refl (omega arith) is small at_most (line.Write (Some path) offset count)
    (four_fields (codes "write") field (decimal offset) (decimal count) path_sized.0 first_sized.0
    ∙ ap (λ (o : Option ℕ). write_line field o (length_in (decimal count))) (number_back offset small)
    ∙ ap (λ (o : Option ℕ). write_line field (Some offset) o) (length_back count at_most)
    ∙ ap (λ (p : Option Path). line.Write p offset count) (path_back path is))

-- ---- fronts

take_front : (text rest : List ℕ) → take (length text) (text ++ rest) ≡ text
take_front text rest = take-append-le (length text) text rest (omega arith) ∙ take_all (length text) text (omega arith)

drop_front : (text rest : List ℕ) → drop (length text) (text ++ rest) ≡ rest
drop_front text rest = drop-append-le (length text) text rest (omega arith) ∙ ap (λ (l : List ℕ). l ++ rest) (drop_all (length text) text (omega arith))

drop_line : (text rest : List ℕ) → drop (length text + 1) (text ++ 10 ∷ rest) ≡ rest
drop_line text rest = sym (drop-drop 1 (length text) (text ++ 10 ∷ rest)) ∙ ap (drop 1) (drop_front text (10 ∷ rest))

is_not_newline : (b : ℕ) → b ≢ 10 → is_newline b ≡ false
is_not_newline b ne = grind (arith, nat_tests)

newline_behind : (text rest : List ℕ) → All IsOfLine text → position is_newline (text ++ 10 ∷ rest) ≡ Some (length text)
newline_behind text rest all =
    let counted = length-append text (10 ∷ rest) in
    let before : (k : ℕ) → k < length text → is_newline (get_or (text ++ 10 ∷ rest) k 0) ≡ false = λ k lt. ap is_newline (get_or-append text (10 ∷ rest) 0 k lt) ∙ is_not_newline (get_or text k 0) (All-get_or IsOfLine text k 0 lt all) in
    let here : get_or (text ++ 10 ∷ rest) (length text) 0 ≡ 10 = ap (λ (k : ℕ). get_or (text ++ 10 ∷ rest) k 0) (omega arith) ∙ get_or-append-add text (10 ∷ rest) 0 0 in
    found_at is_newline (text ++ 10 ∷ rest) (length text) (position_or_len_is is_newline (text ++ 10 ∷ rest) (length text) 0 (omega arith) before (λ _. ap is_newline here)) (omega arith)

line_ends : (text rest : List ℕ) (line : Said) → Says text line → LineEnds (text ++ 10 ∷ rest) (length text)
line_ends text rest line says = record { found = newline_behind text rest says.ends; at_most = says.short }

line_says : (text rest : List ℕ) (line : Said) → Says text line → line_in (take (length text) (text ++ 10 ∷ rest)) ≡ line
line_says text rest line says = ap line_in (take_front text (10 ∷ rest)) ∙ says.says

-- all of these bytes spell the item
record IsAll (bytes : List ℕ) (item : Item) : Type 0 where
  pub whole : IsWhole bytes item (length bytes)

line_is_all : (text : List ℕ) (command : Command) → Says text (line.Command command) → IsAll (text ++ 10 ∷ []) (item.Command command)
line_is_all text command says =
    let whole = whole_command (text ++ 10 ∷ []) (length text) command (line_ends text [] (line.Command command) says) (line_says text [] (line.Command command) says) in
    record { whole = subst (IsWhole (text ++ 10 ∷ []) (item.Command command)) (sym (length-append text (10 ∷ []))) whole }

write_is_all : (text : List ℕ) (path : Path) (offset : ℕ) (bytes : List ℕ) → Says text (line.Write (Some path) offset (length bytes)) → IsAll (text ++ 10 ∷ (bytes ++ 10 ∷ [])) (item.Command (Write path offset bytes))
write_is_all text path offset bytes says =
    let all = text ++ 10 ∷ (bytes ++ 10 ∷ []) in
    let asks : AsksToWrite all (length text) (Some path) offset (length bytes) = record {
      ends = line_ends text (bytes ++ 10 ∷ []) (line.Write (Some path) offset (length bytes)) says;
      says = line_says text (bytes ++ 10 ∷ []) (line.Write (Some path) offset (length bytes)) says;
    } in
    let counted = length-append text (10 ∷ (bytes ++ 10 ∷ [])) in
    let more_counted = length-append bytes (10 ∷ []) in
    let behind = drop_line text (bytes ++ 10 ∷ []) in
    let ended : is_newline (get_or all (length text + 1 + length bytes) 0) ≡ true =
    ap is_newline (
    ap (λ (k : ℕ). get_or all k 0) (omega arith) ∙ get_or-append-add text (10 ∷ (bytes ++ 10 ∷ [])) (1 + length bytes) 0
    ∙ ap (λ (k : ℕ). get_or (10 ∷ (bytes ++ 10 ∷ [])) k 0) (omega arith) ∙ get_or-append-add (10 ∷ bytes) (10 ∷ []) 0 0) in
    let whole = whole_written all (length text) (Some path) offset (length bytes) asks (omega arith) ended in
    let same : take (length bytes) (drop (length text + 1) all) ≡ bytes = ap (take (length bytes)) behind ∙ take_front bytes (10 ∷ []) in
    let item_same : write_of (Some path) offset (take (length bytes) (drop (length text + 1) all)) ≡ item.Command (Write path offset bytes) = ap (λ (l : List ℕ). item.Command (Write path offset l)) same in
    let count_same : length text + 1 + length bytes + 1 ≡ length all = omega arith in
    record { whole = subst (IsWhole all (item.Command (Write path offset bytes))) count_same (subst (λ (i : Item). IsWhole all i (length text + 1 + length bytes + 1)) item_same whole) }

-- ---- items

all_given : (bytes more : List ℕ) (item : Item) (budget : ℕ) → IsAll bytes item
    → next (record { bytes = bytes ++ more; budget = length bytes + budget; is_over = false }) ≡ Given item (record { bytes = more; budget = budget; is_over = is_end item })
unfolding next
all_given bytes more item budget all =
    let text : Text = record { bytes = bytes ++ more; budget = length bytes + budget; is_over = false } in
    let allowed : take (length bytes + budget) (bytes ++ more) ≡ bytes ++ take budget more = take_past bytes more budget in
    ap (next_from text) (ap front allowed ∙ all.whole.whole (take budget more))
    ∙ ap (λ (l : List ℕ). Given item (record { bytes = l; budget = length bytes + budget - length bytes; is_over = is_end item })) (drop_front bytes more)
    ∙ ap (λ (n : ℕ). Given item (record { bytes = more; budget = n; is_over = is_end item })) (omega arith)
  where
    take_past : (bytes more : List ℕ) (budget : ℕ) → take (length bytes + budget) (bytes ++ more) ≡ bytes ++ take budget more
    take_past bytes more budget =
        take-add (length bytes) budget (bytes ++ more) ∙ ap (λ (l : List ℕ). l ++ take budget (drop (length bytes) (bytes ++ more))) (take_front bytes more)
        ∙ ap (λ (l : List ℕ). bytes ++ take budget l) (drop_front bytes more)

given_back : (command : Command) (bytes : List ℕ) → spelling command ≡ bytes → IsAll bytes (item.Command command) → ReadsBack command
given_back command bytes same all more budget =
    ap (λ (l : List ℕ). next (record { bytes = l ++ more; budget = length l + budget; is_over = false })) same ∙ all_given bytes more (item.Command command) budget all

line_back : (command : Command) (text : List ℕ) → spelling command ≡ text ++ 10 ∷ [] → Says text (line.Command command) → ReadsBack command
line_back command text same says = given_back command (text ++ 10 ∷ []) same (line_is_all text command says)

path_line_back : (command : Command) (word : List ℕ) (name : PathVerb) (path : Path) → command ≡ command_on name path → spelling command ≡ (word ++ 32 ∷ path_spelling path) ++ 10 ∷ []
    → passes word ≡ true → length word ≤ 100 → path_verb word ≡ Some name → IsCommandPath path → ReadsBack command
path_line_back command word name path is_command same plain short is_verb is =
    line_back command (word ++ 32 ∷ path_spelling path) same (subst (λ (c : Command). Says (word ++ 32 ∷ path_spelling path) (line.Command c)) (sym is_command) (on_a_path word name path plain short is_verb is))

bare_back : (command : Command) (word : List ℕ) → spelling command ≡ word ++ 10 ∷ [] → line_in word ≡ line.Command command → passes word ≡ true → length word ≤ 100 → ReadsBack command
bare_back command word same says plain short =
    line_back command word same (record { says = says; ends = of_line word (word_of_field word plain); short = omega arith })

two_behind : (verb field last : List ℕ) → (verb ++ field ++ last) ++ codes "\n" ++ [] ≡ (verb ++ (field ++ last)) ++ 10 ∷ []
two_behind verb field last = simp (append_assoc, append-nil)

three_behind : (verb field next_field last : List ℕ) → (verb ++ field ++ next_field ++ last) ++ codes "\n" ++ [] ≡ (verb ++ (field ++ (next_field ++ last))) ++ 10 ∷ []
three_behind verb field next_field last = simp (append_assoc, append-nil)

written : (verb field first second more : List ℕ) → (verb ++ field ++ first ++ second) ++ codes "\n" ++ more ≡ (verb ++ (field ++ (first ++ second))) ++ 10 ∷ more
written verb field first second more = simp append_assoc

-- the spelling of every command reads back as the command
pub reads_back : (command : Command) → IsCommand command → ReadsBack command
unfolding line_in line_of_parts
reads_back (Mkdir path) is = path_line_back (Mkdir path) (codes "mkdir") verb.Mkdir path refl (append-nil _) refl (omega arith) refl is
reads_back (Create path) is = path_line_back (Create path) (codes "create") verb.Create path refl (append-nil _) refl (omega arith) refl is
reads_back (Remove path) is = path_line_back (Remove path) (codes "remove") verb.Remove path refl (append-nil _) refl (omega arith) refl is
reads_back (ListOf path) is = path_line_back (ListOf path) (codes "list") verb.List path refl (append-nil _) refl (omega arith) refl is
reads_back (Stat path) is = path_line_back (Stat path) (codes "stat") verb.Stat path refl (append-nil _) refl (omega arith) refl is
reads_back (Layout path) is = path_line_back (Layout path) (codes "layout") verb.Layout path refl (append-nil _) refl (omega arith) refl is
reads_back (Truncate path size) is =
    line_back (Truncate path size) (codes "truncate" ++ 32 ∷ (path_spelling path ++ 32 ∷ decimal size)) (two_behind (codes "truncate ") (path_spelling path) (32 ∷ decimal size)) (truncates path size is.0 is.1)
reads_back (Rename from to) is =
    line_back (Rename from to) (codes "rename" ++ 32 ∷ (path_spelling from ++ 32 ∷ path_spelling to)) (three_behind (codes "rename ") (path_spelling from) (codes " ") (path_spelling to)) (renames from to is.0 is.1)
reads_back (Read path offset count) is =
    line_back (Read path offset count) (codes "read" ++ 32 ∷ (path_spelling path ++ 32 ∷ (decimal offset ++ 32 ∷ decimal count))) (three_behind (codes "read ") (path_spelling path) (32 ∷ decimal offset) (32 ∷ decimal count)) (reading path offset count is.0 is.1 is.2)
reads_back (Write path offset bytes) is =
    given_back (Write path offset bytes) ((codes "write" ++ 32 ∷ (path_spelling path ++ 32 ∷ (decimal offset ++ 32 ∷ decimal (length bytes)))) ++ 10 ∷ (bytes ++ 10 ∷ []))
    (written (codes "write ") (path_spelling path) (32 ∷ decimal offset) (32 ∷ decimal (length bytes)) (bytes ++ 10 ∷ []))
    (write_is_all (codes "write" ++ 32 ∷ (path_spelling path ++ 32 ∷ (decimal offset ++ 32 ∷ decimal (length bytes)))) path offset bytes (writing path offset (length bytes) is.0 is.1 is.2))
reads_back Space is = bare_back Space (codes "space") refl refl refl (omega arith)
reads_back Checkpoint is = bare_back Checkpoint (codes "checkpoint") refl refl refl (omega arith)
reads_back End is = bare_back End (codes "end") refl refl refl (omega arith)
