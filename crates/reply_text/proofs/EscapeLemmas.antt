-- Which bytes are escaped.
use Rattle.std.proofs.Common.{◌≡◌, ◌≢◌, ◌∙◌, ◌<◌, ◌≤◌, ◌++◌, ℕ, Bool, true, cond, List, [], ◌∷◌, refl, ap, ⊎_elim, arith}
use Rattle.std.specs.Prelude.{◌||◌, ◌==◌, nat_lt}
use Rattle.std.specs.List.{flat_map}
use Rattle.std.proofs.lemmas.Bool.{agree_below_at, cases_lt, cases_eq}
use Rattle.std.proofs.lemmas.Bool.Decides.{nat_tests}
use Rattle.percent_encoding.specs.declared.ascii_set.AsciiSet.{AsciiSet}
use Rattle.percent_encoding.specs.declared.ascii_set.TheConstants.{CONTROLS}
use Rattle.percent_encoding.specs.AsciiSet.{contains, should_percent_encode}
use Rattle.percent_encoding.specs.Percent.{percent_encode, percent_encode_byte, encode_byte}
use Rattle.percent_encoding.proofs.StandardFacts.{controls}
use Rattle.reply_text.specs.Replies.{needs_escape, escaped, escaped_byte}

-- a set that has the bytes that are escaped
pub set_is : (set : AsciiSet) → ((b : ℕ) → b < 128 → contains set b ≡ needs_escape b) → (b : ℕ) → should_percent_encode set b ≡ needs_escape b
unfolding should_percent_encode
set_is set is b =
    ⊎_elim
    (λ (low : b < 128). let same = is b low in grind (arith, nat_tests))
    (λ (high : 128 ≤ b). grind (arith, nat_tests))
    (cases_lt b 128)

-- the controls, the space and `%`
pub controls_and_two : (spaced set : AsciiSet) → contains spaced 32 ≡ true → ((b : ℕ) → b ≢ 32 → contains spaced b ≡ contains CONTROLS b)
    → contains set 37 ≡ true → ((b : ℕ) → b ≢ 37 → contains set b ≡ contains spaced b) → (b : ℕ) → b < 128 → contains set b ≡ needs_escape b
controls_and_two spaced set space spaces percent percents b low =
    let control = agree_below_at (contains CONTROLS) (λ x. nat_lt x 32 || (x == 127)) 128 b controls low in
    ⊎_elim
    (λ (is : b ≡ 37). rw is (percent))
    (λ (other : b ≢ 37). ⊎_elim
    (λ (is : b ≡ 32). percents b other ∙ rw is (space))
    (λ (more : b ≢ 32). percents b other ∙ spaces b more ∙ control ∙ plain b low other more)
    (cases_eq b 32))
    (cases_eq b 37)
  where
    plain : (b : ℕ) → b < 128 → b ≢ 37 → b ≢ 32 → (nat_lt b 32 || (b == 127)) ≡ needs_escape b
    plain b low one two = grind (arith, nat_tests)

-- bytes that are escaped by such a set
pub encode_is : (set : AsciiSet) (name : List ℕ) → ((b : ℕ) → should_percent_encode set b ≡ needs_escape b) → percent_encode set name ≡ escaped name
unfolding percent_encode escaped
encode_is set [] is = refl
encode_is set (b ∷ name) is =
    ap (λ (test : Bool). cond test (percent_encode_byte b) (b ∷ []) ++ flat_map (encode_byte set) name) (is b) ∙ ap (λ (l : List ℕ). escaped_byte b ++ l) (encode_is set name is)
