-- What std's `parse` makes of a decimal field.
use Rattle.std.proofs.Common.{◌≡◌, ◌∙◌, ◌<◌, ◌^◌, ℕ, List, length, true, false, Some, None, Ok, Err, Result, sym, ap, rules, arith}
use Rattle.std.specs.Prelude.{IsUtf8, All, [], ◌∷◌}
use Rattle.std.proofs.lemmas.List.Elements.{All-cons}
use Rattle.std.proofs.lemmas.Str.{IsUtf8-from_ascii}
use Rattle.std.proofs.lemmas.Str.Ascii.{IsAscii-from_all}
use Rattle.std.specs.List.{list_all}
use Rattle.std.specs.Char.{is_ascii_digit}
use Rattle.std.specs.Result.{OkIff, result_ok}
use Rattle.std.specs.Str.Parse.{digits_value, ParsesUnsigned}
use Rattle.std.proofs.lemmas.Bool.Decides.{nat_tests}
use Rattle.std.proofs.lemmas.Str.Parse.{IsDigitsTest, IsNumeralModel, numerals_by_value, parse_digits}
use Rattle.line_text.specs.Numbers.{number_in, is_decimal}

are_digits : IsDigitsTest (λ ds. list_all is_ascii_digit ds ≡ true)
are_digits = search rules

pub own : IsNumeralModel (λ ds. list_all is_ascii_digit ds ≡ true) (digits_value 10)
own = numerals_by_value _ are_digits

digits_of_decimal : (word : List ℕ) → is_decimal word ≡ true → list_all is_ascii_digit word ≡ true
digits_of_decimal word is = grind (arith, nat_tests)

some_of_decimal : (word : List ℕ) → is_decimal word ≡ true → 0 < length word
some_of_decimal word is = grind (arith, nat_tests)

pub fits : (word : List ℕ) → is_decimal word ≡ true → digits_value 10 word < 2 ^ 64 → number_in word ≡ Some (digits_value 10 word)
unfolding number_in
fits word is lt = grind (arith, nat_tests)

passes : (word : List ℕ) → (digits_value 10 word < 2 ^ 64 → ⊥) → number_in word ≡ None
unfolding number_in
passes word not_lt = grind (arith, nat_tests)

-- a field that is no decimal writes no number
pub no_number : (word : List ℕ) → is_decimal word ≡ false → number_in word ≡ None
unfolding number_in
no_number word is = grind (arith, nat_tests)

-- a decimal field is parsed as the number that it writes
pub number_read : {E : Type 0} (word : List ℕ) (r : Result ℕ E) → ParsesUnsigned 64 10 word r → is_decimal word ≡ true → result_ok r ≡ number_in word
number_read {E = E} word (Ok x) parses is =
    let iff : OkIff {E = E} (Ok x) ((0 < length word) × (digits_value 10 word < 2 ^ 64)) (digits_value 10 word) = parse_digits own {E = E} 64 word (Ok x) parses (digits_of_decimal word is) in
    ap (λ (n : ℕ). Some n) iff.1 ∙ sym (fits word is iff.0.1)
number_read {E = E} word (Err e) parses is =
    let iff : OkIff {E = E} (Err e) ((0 < length word) × (digits_value 10 word < 2 ^ 64)) (digits_value 10 word) = parse_digits own {E = E} 64 word (Err e) parses (digits_of_decimal word is) in
    sym (passes word (λ lt. iff (some_of_decimal word is, lt)))

ascii_of_digits : (word : List ℕ) → list_all is_ascii_digit word ≡ true → All (λ b. b < 128) word
ascii_of_digits [] all = search rules
ascii_of_digits (b ∷ word) all =
    let rest : list_all is_ascii_digit word ≡ true = grind (arith, nat_tests) in
    let front : b < 128 = grind (arith, nat_tests) in
    All-cons (λ x. x < 128) b word front (ascii_of_digits word rest)

-- a decimal field is text
pub decimal_is_text : (word : List ℕ) → is_decimal word ≡ true → IsUtf8 word
decimal_is_text word is = IsUtf8-from_ascii word (IsAscii-from_all word (ascii_of_digits word (digits_of_decimal word is)))
