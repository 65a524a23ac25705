-- Lines by their fields.
use Rattle.std.proofs.Common.{◌≡◌, ◌∙◌, ◌<◌, ℕ, Bool, true, false, cond, Option, Some, None, List, [], ◌∷◌, length, refl, sym, ap, arith}
use Rattle.std.specs.Borrow.{Bor}
use Rattle.std.specs.Prelude.{◌==◌, MatchOption, codes, bytes_eq}
use Rattle.std.specs.List.{list_all, slice_split}
use Rattle.std.proofs.lemmas.Bool.{cond_both, false≢true}
use Rattle.std.proofs.lemmas.Bool.Decides.{nat_tests}
use Rattle.std.proofs.lemmas.List.Splits.{length-slice_split}
use Rattle.line_text.specs.declared.line.Said.{Said}
use Rattle.line_text.specs.Numbers.{number_in, length_in}
use Rattle.line_text.specs.Lines.{line_in, line_of_parts, has_bytes, bad_command, bare_line, path_verb, path_line, two_line, three_line, read_line, write_line}

-- a text has one part at least
pub some_part : (p : ℕ → Bool) (text : List ℕ) → (part : List ℕ) × (parts : List (List ℕ)) × (slice_split p text ≡ part ∷ parts)
some_part p text =
    let counted = length-slice_split p text in
    first_of_some (slice_split p text) (omega arith)
  where
    first_of_some : (parts : List (List ℕ)) → 0 < length parts → (part : List ℕ) × (more : List (List ℕ)) × (parts ≡ part ∷ more)
    first_of_some [] some = absurd (omega arith)
    first_of_some (part ∷ more) some = (part, more, refl)

same_both : (test : Bool) (line : Said) → cond test line line ≡ line
same_both true line = refl
same_both false line = refl

no_path : (verb : List ℕ) (parts : List (List ℕ)) → line_of_parts (verb ∷ [] ∷ parts) ≡ bad_command
unfolding line_of_parts
no_path [] parts = refl
no_path (b ∷ verb) parts = refl

no_field : (verb path : List ℕ) (parts : List (List ℕ)) → line_of_parts (verb ∷ path ∷ [] ∷ parts) ≡ bad_command
unfolding line_of_parts
no_field [] path parts = refl
no_field (b ∷ verb) [] parts = refl
no_field (b ∷ verb) (c ∷ path) parts = refl

-- more than four fields
pub too_many : (verb path offset count part : List ℕ) (parts : List (List ℕ)) → line_of_parts (verb ∷ path ∷ offset ∷ count ∷ part ∷ parts) ≡ bad_command
unfolding line_of_parts
too_many verb path offset count part parts = same_both (list_all has_bytes (verb ∷ path ∷ offset ∷ count ∷ part ∷ parts)) bad_command

no_length : length_in [] ≡ None
unfolding number_in
no_length = refl

read_without : (path : List ℕ) (offset : Option ℕ) → read_line path offset None ≡ bad_command
read_without path None = refl
read_without path (Some offset) = refl

write_without : (path : List ℕ) (offset : Option ℕ) → write_line path offset None ≡ bad_command
write_without path None = refl
write_without path (Some offset) = refl

three_without : (verb path offset : List ℕ) → three_line verb path offset [] ≡ bad_command
three_without verb path offset =
    let read = ap (read_line path (number_in offset)) no_length ∙ read_without path (number_in offset) in
    let write = ap (write_line path (number_in offset)) no_length ∙ write_without path (number_in offset) in
    cond_both (bytes_eq verb (codes "read")) (read_line path (number_in offset) (length_in [])) (cond (bytes_eq verb (codes "write")) (write_line path (number_in offset) (length_in [])) bad_command) (λ line. line ≡ bad_command)
    (λ _. read)
    (λ _. cond_both (bytes_eq verb (codes "write")) (write_line path (number_in offset) (length_in [])) bad_command (λ line. line ≡ bad_command) (λ _. write) (λ _. refl))

pub one_field : (verb : List ℕ) → line_of_parts (verb ∷ []) ≡ bare_line verb
unfolding line_of_parts
one_field [] = refl
one_field (b ∷ verb) = refl

pub two_fields : (verb path : List ℕ) → 0 < length path → line_of_parts (verb ∷ path ∷ []) ≡ path_line (path_verb verb) path
unfolding line_of_parts
two_fields verb [] some = absurd (omega arith)
two_fields [] (c ∷ path) some = refl
two_fields (b ∷ verb) (c ∷ path) some = refl

pub three_fields : (verb path field : List ℕ) → 0 < length path → 0 < length field → line_of_parts (verb ∷ path ∷ field ∷ []) ≡ two_line verb path field
unfolding line_of_parts
three_fields verb [] field some more = absurd (omega arith)
three_fields verb (c ∷ path) [] some more = absurd (omega arith)
three_fields [] (c ∷ path) (d ∷ field) some more = refl
three_fields (b ∷ verb) (c ∷ path) (d ∷ field) some more = refl

pub four_fields : (verb path offset count : List ℕ) → 0 < length path → 0 < length offset → line_of_parts (verb ∷ path ∷ offset ∷ count ∷ []) ≡ three_line verb path offset count
unfolding line_of_parts
four_fields verb [] offset count some more = absurd (omega arith)
four_fields verb (c ∷ path) [] count some more = absurd (omega arith)
four_fields [] (c ∷ path) (d ∷ offset) count some more = refl
four_fields (b ∷ verb) (c ∷ path) (d ∷ offset) [] some more = sym (three_without (b ∷ verb) (c ∷ path) (d ∷ offset))
four_fields (b ∷ verb) (c ∷ path) (d ∷ offset) (e ∷ count) some more = refl

abbrev spaced : List ℕ → List (List ℕ)
spaced text = slice_split (λ b. b == 32) text

-- an empty path
pub empty_path_cut : (verb path rest : List ℕ) (behind : Option (Bor (List ℕ))) → MatchOption behind (spaced rest ≡ path ∷ []) (λ r. spaced rest ≡ path ∷ spaced r.now)
    → length path ≡ 0 → line_of_parts (verb ∷ spaced rest) ≡ bad_command
empty_path_cut verb [] rest None parts empty = ap (λ (l : List (List ℕ)). line_of_parts (verb ∷ l)) parts ∙ no_path verb []
empty_path_cut verb [] rest (Some r) parts empty = ap (λ (l : List (List ℕ)). line_of_parts (verb ∷ l)) parts ∙ no_path verb (spaced r.now)
empty_path_cut verb (b ∷ path) rest behind parts empty = absurd (omega arith)

-- an empty field behind the path
pub empty_field_cut : (verb path field rest : List ℕ) (behind : Option (Bor (List ℕ))) → MatchOption behind (spaced rest ≡ field ∷ []) (λ r. spaced rest ≡ field ∷ spaced r.now)
    → length field ≡ 0 → line_of_parts (verb ∷ path ∷ spaced rest) ≡ bad_command
empty_field_cut verb path [] rest None parts empty = ap (λ (l : List (List ℕ)). line_of_parts (verb ∷ path ∷ l)) parts ∙ no_field verb path []
empty_field_cut verb path [] rest (Some r) parts empty = ap (λ (l : List (List ℕ)). line_of_parts (verb ∷ path ∷ l)) parts ∙ no_field verb path (spaced r.now)
empty_field_cut verb path (b ∷ field) rest behind parts empty = absurd (omega arith)

pub line_of_split : (line : List ℕ) (parts : List (List ℕ)) → slice_split (λ b. b == 32) line ≡ parts → line_in line ≡ line_of_parts parts
unfolding line_in
line_of_split line parts e = ap line_of_parts e

-- what the test for an empty text says
pub no_bytes : (text : List ℕ) → true ≡ (length text == 0) → length text ≡ 0
no_bytes text is = grind (arith, nat_tests)

pub some_bytes : (text : List ℕ) → false ≡ (length text == 0) → 0 < length text
some_bytes [] is = absurd (false≢true is)
some_bytes (b ∷ text) is = omega arith
