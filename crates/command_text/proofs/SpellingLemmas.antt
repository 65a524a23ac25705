-- Fields as commands spell them, read back.
use Rattle.std.proofs.Common.{◌≡◌, ◌≢◌, ◌∙◌, ◌<◌, ◌≤◌, ◌*◌, ◌^◌, ◌++◌, ℕ, zero, suc, true, false, Option, Some, None, List, [], ◌∷◌, length, map, All, refl, ap, arith, append-nil, length-append}
use Rattle.std.specs.Prelude.{◌==◌, decimal, codes, bytes_eq, nat_le}
use Rattle.std.specs.List.{list_all, flat_map, slice_split}
use Rattle.std.specs.Char.{is_ascii_digit}
use Rattle.std.specs.Str.Parse.{digits_value}
use Rattle.std.proofs.lemmas.Bool.{cond_both, cond-true, cond-false}
use Rattle.std.proofs.lemmas.Bool.Decides.{nat_tests}
use Rattle.std.proofs.lemmas.Fmt.{digits_decimal, digits_value-decimal, decimal_digit, decimal_nonempty, first_decimal, length-decimal-le}
use Rattle.std.proofs.lemmas.List.Elements.{All-nil, All-cons, All-head, All-tail, All-append, All-weaker}
use Rattle.std.proofs.lemmas.List.Splits.{slice_split_none, slice_split_at}
use Rattle.percent_encoding.specs.Percent.{percent_encode_byte, percent_decode}
use Rattle.percent_encoding.proofs.PercentLemmas.{IsEscapeByte, All-percent_encode_byte, length-percent_decode}
use Rattle.vol_numbers.specs.Name.{IsName}
use Rattle.tree_model.specs.Path.{Path, path_length}
use Rattle.line_text.specs.Numbers.{number_in, length_in, at_most_one_payload, is_decimal}
use Rattle.line_text.specs.Paths.{is_name, is_path, names_in, path_in, path_of_names}
use Rattle.command_text.specs.ReadBack.{IsCommandPath}
use Rattle.reply_text.specs.Replies.{needs_escape, escaped, escaped_byte}
use Rattle.command_text.specs.Spelling.{name_spelling, path_spelling}
use Rattle.reply_text.specs.Telling.{IsByte}
use Rattle.line_text.proofs.NameLemmas.{name_passes, other}
use Rattle.line_text.proofs.NumberLemmas.{own, fits}
use Rattle.reply_text.proofs.TellLemmas.{name_decoded}

-- a byte that ends no name, no field and no line
pub record IsInside (b : ℕ) : Type 0 where
  pub no_newline : b ≢ 10
  pub no_space : b ≢ 32
  pub no_slash : b ≢ 47

-- a byte that ends no field and no line
pub record IsOfField (b : ℕ) : Type 0 where
  pub no_newline : b ≢ 10
  pub no_space : b ≢ 32

-- ---- names

escape_inside : (b : ℕ) → IsEscapeByte b → IsInside b
escape_inside b is = record { no_newline = grind arith; no_space = grind arith; no_slash = grind arith }

kept_inside : (b : ℕ) → needs_escape b ≡ false → b ≢ 47 → IsInside b
kept_inside b kept other_byte = record { no_newline = grind (arith, nat_tests); no_space = grind (arith, nat_tests); no_slash = other_byte }

byte_inside : (b : ℕ) → b ≢ 47 → All IsInside (escaped_byte b)
byte_inside b other_byte =
    cond_both (needs_escape b) (percent_encode_byte b) (b ∷ []) (All IsInside)
    (λ _. All-weaker IsEscapeByte IsInside escape_inside (percent_encode_byte b) (All-percent_encode_byte b))
    (λ kept. All-cons IsInside b [] (kept_inside b kept other_byte) (All-nil IsInside))

abbrev IsNameByte : ℕ → Type 0
IsNameByte b = (b ≢ 0) × (b ≢ 47)

name_inside : (name : List ℕ) → All IsNameByte name → All IsInside (escaped name)
unfolding escaped
name_inside [] all = All-nil IsInside
name_inside (b ∷ name) all =
    All-append IsInside (escaped_byte b) (flat_map escaped_byte name) (byte_inside b (All-head IsNameByte b name all).1) (name_inside name (All-tail IsNameByte b name all))

-- as long as the name, and at most three times as long
escaped_long : (name : List ℕ) → All IsByte name → (length name ≤ length (escaped name)) × (length (escaped name) ≤ 3 * length name)
escaped_long name bytes =
    let long = length-percent_decode (escaped name) in
    let same : length (percent_decode (escaped name)) ≡ length name = ap length (name_decoded name bytes) in
    (omega arith, omega arith)

-- ---- paths

not_slash : (b : ℕ) → IsInside b → (b == 47) ≡ false
not_slash b is = let ne = is.no_slash in grind (arith, nat_tests)

of_field : (b : ℕ) → IsInside b → IsOfField b
of_field b is = record { no_newline = is.no_newline; no_space = is.no_space }

unslashed : (name : List ℕ) → IsName name → All (λ b. (b == 47) ≡ false) (escaped name)
unslashed name is = All-weaker IsInside (λ b. (b == 47) ≡ false) not_slash (escaped name) (name_inside name is.plain)

-- names with slashes between them are cut into the names
parts_back : (name : List ℕ) (names : Path) → IsName name → All IsName names → slice_split (λ b. b == 47) (escaped name ++ flat_map name_spelling names) ≡ escaped name ∷ map escaped names
parts_back name [] is all = ap (slice_split (λ b. b == 47)) (append-nil (escaped name)) ∙ slice_split_none (λ b. b == 47) (escaped name) (unslashed name is)
parts_back name (next ∷ names) is all =
    slice_split_at (λ b. b == 47) (escaped name) 47 (escaped next ++ flat_map name_spelling names) (unslashed name is) refl
    ∙ ap (λ (l : List (List ℕ)). escaped name ∷ l) (parts_back next names (All-head IsName next names all) (All-tail IsName next names all))

all_decoded : (names : Path) → All (λ name. All IsByte name) names → map percent_decode (map escaped names) ≡ names
all_decoded [] all = refl
all_decoded (name ∷ names) all =
    let here = name_decoded name (All-head (λ n. All IsByte n) name names all) in
    let rest = all_decoded names (All-tail (λ n. All IsByte n) name names all) in
    cc

names_back : (name : List ℕ) (names : Path) → IsCommandPath (name ∷ names) → names_in (escaped name ++ flat_map name_spelling names) ≡ name ∷ names
unfolding names_in
names_back name names is =
    ap (map percent_decode) (parts_back name names (All-head IsName name names is.names) (All-tail IsName name names is.names)) ∙ all_decoded (name ∷ names) is.bytes

names_pass : (names : Path) → All IsName names → list_all is_name names ≡ true
names_pass [] all = refl
names_pass (name ∷ names) all =
    let here = name_passes name (All-head IsName name names all) in
    let rest = names_pass names (All-tail IsName name names all) in
    grind (arith, nat_tests)

path_passes : (path : Path) → IsCommandPath path → is_path path ≡ true
path_passes path is =
    let names = names_pass path is.names in
    let count = is.limits.names_at_most in
    let size = is.limits.length_at_most in
    grind (arith, nat_tests)

-- the field of a path is read as the path
pub path_back : (path : Path) → IsCommandPath path → path_in (path_spelling path) ≡ Some path
path_back [] is = refl
path_back (name ∷ names) is =
    let more = escaped name ++ flat_map name_spelling names in
    let some = (All-head IsName name names is.names).some in
    let long = (escaped_long name (All-head (λ n. All IsByte n) name names is.bytes)).0 in
    let counted = length-append (escaped name) (flat_map name_spelling names) in
    let not_alone : bytes_eq (47 ∷ more) (codes "/") ≡ false = other (47 ∷ more) (codes "/") (λ e. let same : length (47 ∷ more) ≡ 1 = ap length e in omega arith) in
    cond-false (bytes_eq (47 ∷ more) (codes "/")) (Some []) (path_of_names (names_in more)) not_alone
    ∙ ap path_of_names (names_back name names is)
    ∙ cond-true (is_path (name ∷ names)) (Some (name ∷ names)) None (path_passes (name ∷ names) is)

names_of_field : (names : Path) → All IsName names → All IsOfField (flat_map name_spelling names)
names_of_field [] all = All-nil IsOfField
names_of_field (name ∷ names) all =
    let slash : IsOfField 47 = record { no_newline = omega arith; no_space = omega arith } in
    let plain = (All-head IsName name names all).plain in
    let here = All-weaker IsInside IsOfField of_field (escaped name) (name_inside name plain) in
    All-append IsOfField (name_spelling name) (flat_map name_spelling names) (All-cons IsOfField 47 (escaped name) slash here) (names_of_field names (All-tail IsName name names all))

pub path_of_field : (path : Path) → IsCommandPath path → All IsOfField (path_spelling path)
path_of_field [] is = All-cons IsOfField 47 [] (record { no_newline = omega arith; no_space = omega arith }) (All-nil IsOfField)
path_of_field (name ∷ names) is = names_of_field (name ∷ names) is.names

names_short : (names : Path) → All (λ name. All IsByte name) names → length (flat_map name_spelling names) ≤ 3 * path_length names
names_short [] all = omega arith
names_short (name ∷ names) all =
    let here = (escaped_long name (All-head (λ n. All IsByte n) name names all)).1 in
    let rest = names_short names (All-tail (λ n. All IsByte n) name names all) in
    let counted = length-append (name_spelling name) (flat_map name_spelling names) in
    omega arith

pub path_short : (path : Path) → IsCommandPath path → (0 < length (path_spelling path)) × (length (path_spelling path) ≤ 3072)
path_short [] is = (omega arith, omega arith)
path_short (name ∷ names) is =
    let at_most = names_short (name ∷ names) is.bytes in
    let limit = is.limits.length_at_most in
    let counted = length-append (name_spelling name) (flat_map name_spelling names) in
    (omega arith, omega arith)

-- ---- numbers

digit_of_field : (bytes : List ℕ) → list_all is_ascii_digit bytes ≡ true → All IsOfField bytes
digit_of_field [] all = All-nil IsOfField
digit_of_field (b ∷ bytes) all =
    let rest : list_all is_ascii_digit bytes ≡ true = grind (arith, nat_tests) in
    let here : IsOfField b = record { no_newline = grind (arith, nat_tests); no_space = grind (arith, nat_tests) } in
    All-cons IsOfField b bytes here (digit_of_field bytes rest)

pub number_of_field : (n : ℕ) → n < 2 ^ 64 → All IsOfField (decimal n)
number_of_field n small = digit_of_field (decimal n) (digits_decimal own n small)

zero_is_decimal : is_decimal (decimal 0) ≡ true
zero_is_decimal = ap is_decimal (decimal_digit 0 (omega arith))

pub number_is_decimal : (n : ℕ) → n < 2 ^ 64 → is_decimal (decimal n) ≡ true
number_is_decimal zero small = zero_is_decimal
number_is_decimal (suc n) small =
    let digits = digits_decimal own (suc n) small in
    let first = first_decimal (suc n) (omega arith) small in
    let some = decimal_nonempty (suc n) small in
    grind (arith, nat_tests)

pub number_back : (n : ℕ) → n < 2 ^ 64 → number_in (decimal n) ≡ Some n
number_back n small =
    let same = digits_value-decimal own n small in
    let below : digits_value 10 (decimal n) < 2 ^ 64 = rw same small in
    fits (decimal n) (number_is_decimal n small) below ∙ ap (λ (k : ℕ). Some k) same

pub length_back : (n : ℕ) → n ≤ 65536 → length_in (decimal n) ≡ Some n
length_back n at_most =
    let number = number_back n (omega arith) in
    let passes : nat_le n 65536 ≡ true = grind (arith, nat_tests) in
    ap (λ (o : Option ℕ). at_most_one_payload o) number ∙ cond-true (nat_le n 65536) (Some n) None passes

pub number_short : (n : ℕ) → n < 2 ^ 64 → (0 < length (decimal n)) × (length (decimal n) ≤ 20)
number_short n small = (decimal_nonempty n small, length-decimal-le 20 n (omega arith) (omega arith) small)
