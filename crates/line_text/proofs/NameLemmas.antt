-- The test of a name.
use Rattle.std.proofs.Common.{◌≡◌, ◌≢◌, ◌∙◌, ℕ, true, false, Some, None, Ok, Err, Result, List, [], ◌∷◌, All, refl, sym, ap, arith, rules}
use Rattle.std.specs.Prelude.{IsOk, IfOk, ◌↔◌, if◌then◌else◌, codes, bytes_eq}
use Rattle.std.specs.List.{list_all}
use Rattle.std.specs.Result.{result_ok}
use Rattle.std.proofs.lemmas.Bool.{false_from_ne_true, cond-true, cond-false, false≢true}
use Rattle.std.proofs.lemmas.Bool.Decides.{nat_tests}
use Rattle.std.proofs.lemmas.List.Elements.{All-nil, All-cons, All-head, All-tail}
use Rattle.std.proofs.lemmas.Slice.Eq.{bytes_eq-Decides}
use Rattle.vol_numbers.specs.Name.{IsName}
use Rattle.line_text.specs.Paths.{is_name, is_name_byte}

abbrev IsNameByte : ℕ → Type 0
IsNameByte b = (b ≢ 0) × (b ≢ 47)

byte_passes : (b : ℕ) → IsNameByte b → is_name_byte b ≡ true
byte_passes b is = grind (arith, nat_tests)

passes_byte : (b : ℕ) → is_name_byte b ≡ true → IsNameByte b
passes_byte b is = (grind (arith, nat_tests), grind (arith, nat_tests))

bytes_pass : (bytes : List ℕ) → All IsNameByte bytes → list_all is_name_byte bytes ≡ true
bytes_pass [] all = refl
bytes_pass (b ∷ bytes) all =
    let here = byte_passes b (All-head IsNameByte b bytes all) in
    let rest = bytes_pass bytes (All-tail IsNameByte b bytes all) in
    grind (arith, nat_tests)

pass_bytes : (bytes : List ℕ) → list_all is_name_byte bytes ≡ true → All IsNameByte bytes
pass_bytes [] all = All-nil IsNameByte
pass_bytes (b ∷ bytes) all =
    let here : is_name_byte b ≡ true = grind (arith, nat_tests) in
    let rest : list_all is_name_byte bytes ≡ true = grind (arith, nat_tests) in
    All-cons IsNameByte b bytes (passes_byte b here) (pass_bytes bytes rest)

pub other : (one two : List ℕ) → one ≢ two → bytes_eq one two ≡ false
other one two ne = false_from_ne_true (bytes_eq one two) (λ e. ne ((bytes_eq-Decides one two).0 e))

same : (one two : List ℕ) → bytes_eq one two ≡ false → one ≢ two
same one two ne e = let is : bytes_eq one two ≡ true = (bytes_eq-Decides one two).1 e in cc

pub name_passes : (bytes : List ℕ) → IsName bytes → is_name bytes ≡ true
name_passes bytes name =
    let all = bytes_pass bytes name.plain in
    let dot = other bytes (codes ".") name.not_dot in
    let dots = other bytes (codes "..") name.not_dots in
    let some = name.some in
    let at_most = name.at_most in
    grind (arith, nat_tests)

pub passes_name : (bytes : List ℕ) → is_name bytes ≡ true → IsName bytes
passes_name bytes is =
    let all : list_all is_name_byte bytes ≡ true = grind (arith, nat_tests) in
    let dot : bytes_eq bytes (codes ".") ≡ false = grind (arith, nat_tests) in
    let dots : bytes_eq bytes (codes "..") ≡ false = grind (arith, nat_tests) in
    record {
      some = grind (arith, nat_tests);
      at_most = grind (arith, nat_tests);
      plain = pass_bytes bytes all;
      not_dot = same bytes (codes ".") dot;
      not_dots = same bytes (codes "..") dots;
    }

-- what comes of making a name of bytes
pub made_name : {E : Type 0} (bytes : List ℕ) (r : Result (List ℕ) E) → IsOk r ↔ IsName bytes → IfOk r (λ name. name ≡ bytes) → result_ok r ≡ (if is_name bytes then Some bytes else None)
made_name bytes (Ok x) valid value =
    let is = name_passes bytes (valid.0 (search rules)) in
    ap (λ (b : List ℕ). Some b) value ∙ sym (cond-true (is_name bytes) (Some bytes) None is)
made_name bytes (Err e) valid value =
    let never : is_name bytes ≡ false = false_from_ne_true (is_name bytes) (λ is. false≢true (valid.1 (passes_name bytes is))) in
    sym (cond-false (is_name bytes) (Some bytes) None never)
