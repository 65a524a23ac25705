-- Texts that tell what they are of, whatever follows.
use Rattle.std.proofs.Common.{◌≡◌, ◌≢◌, ◌∙◌, ◌^◌, ◌++◌, ℕ, Bool, true, false, List, [], ◌∷◌, length, All, refl, sym, ap, rules, arith, append_assoc}
use Rattle.std.proofs.Common.{◌+◌, ◌-◌, get_or}
use Rattle.std.specs.Prelude.{decimal, codes, not, ◌==◌}
use Rattle.std.proofs.lemmas.Bool.{agree_below, agree_below_at}
use Rattle.std.proofs.lemmas.List.Elements.{All-nil, All-cons, All-head, All-tail}
use Rattle.percent_encoding.specs.declared.ascii_set.AsciiSet.{AsciiSet}
use Rattle.percent_encoding.specs.AsciiSet.{contains, should_percent_encode}
use Rattle.percent_encoding.specs.Percent.{percent_encode, percent_decode}
use Rattle.percent_encoding.proofs.PercentLemmas.{round_trip, All-percent_encode, IsEscapeByte}
use Rattle.reply_text.proofs.EscapeLemmas.{set_is, encode_is}
use Rattle.std.specs.List.{list_all, flat_map, AllByRecursion}
use Rattle.std.specs.Char.{is_ascii_digit}
use Rattle.std.proofs.lemmas.Bool.{false≢true}
use Rattle.std.proofs.lemmas.Bool.Decides.{nat_tests}
use Rattle.std.proofs.lemmas.Fmt.{digits_decimal, decimal_injective}
use Rattle.std.proofs.lemmas.Str.Parse.{IsDigitsTest, numerals_by_value}
use Rattle.std.proofs.lemmas.List.{append_cancel_left}
use Rattle.tree_model.specs.declared.reply.Kind.{Kind}
use Rattle.tree_model.specs.declared.reply.Kind.TheVariants.{File, Directory}
use Rattle.tree_model.specs.declared.reply.Entry.{Entry}
use Rattle.reply_text.specs.Replies.{needs_escape, escaped, kind_text, entry_text}
use Rattle.reply_text.specs.Telling.{IsNumber, IsByte, IsEntry}

first_passes : (p : ℕ → Bool) (b : ℕ) (bs : List ℕ) → list_all p (b ∷ bs) ≡ true → p b ≡ true
first_passes p b bs all = grind (arith, nat_tests)

rest_passes : (p : ℕ → Bool) (b : ℕ) (bs : List ℕ) → list_all p (b ∷ bs) ≡ true → list_all p bs ≡ true
rest_passes p b bs all = grind (arith, nat_tests)

not_both : (p : ℕ → Bool) (a b : ℕ) → a ≡ b → p a ≡ true → p b ≡ false → ⊥
not_both p a b e holds fails = false≢true (sym fails ∙ sym (ap p e) ∙ holds)

-- two texts that pass a test go up to the first byte that doesn't
pub same_front : (p : ℕ → Bool) (xs ys : List ℕ) (d e : ℕ) (x y : List ℕ) → list_all p xs ≡ true → list_all p ys ≡ true → p d ≡ false → p e ≡ false → xs ++ d ∷ x ≡ ys ++ e ∷ y → (xs ≡ ys) × (d ∷ x ≡ e ∷ y)
same_front p [] [] d e x y one two d_not e_not same = (refl, same)
same_front p [] (b ∷ ys) d e x y one two d_not e_not same = absurd (not_both p b d (cc) (first_passes p b ys two) d_not)
same_front p (b ∷ xs) [] d e x y one two d_not e_not same = absurd (not_both p b e (cc) (first_passes p b xs one) e_not)
same_front p (b ∷ xs) (c ∷ ys) d e x y one two d_not e_not same =
    let tails : xs ++ d ∷ x ≡ ys ++ e ∷ y = cc in
    let more = same_front p xs ys d e x y (rest_passes p b xs one) (rest_passes p c ys two) d_not e_not tails in
    let heads : b ≡ c = cc in
    let front : xs ≡ ys = more.0 in
    (cc, more.1)

are_digits : IsDigitsTest (λ ds. list_all is_ascii_digit ds ≡ true)
are_digits = search rules

digits_pass : (n : ℕ) → IsNumber n → list_all is_ascii_digit (decimal n) ≡ true
digits_pass n is = digits_decimal (numerals_by_value _ are_digits) n is

-- a number and a byte that is no digit
pub number_tells : (m n d e : ℕ) (x y : List ℕ) → IsNumber m → IsNumber n → is_ascii_digit d ≡ false → is_ascii_digit e ≡ false → decimal m ++ d ∷ x ≡ decimal n ++ e ∷ y → (m ≡ n) × (d ∷ x ≡ e ∷ y)
number_tells m n d e x y one two d_not e_not same =
    let fronts = same_front is_ascii_digit (decimal m) (decimal n) d e x y (digits_pass m one) (digits_pass n two) d_not e_not same in
    (decimal_injective m n one two fronts.0, fronts.1)

-- as many bytes
pub same_bytes : (xs ys x y : List ℕ) → length xs ≡ length ys → xs ++ x ≡ ys ++ y → xs ≡ ys
same_bytes [] [] x y counted same = refl
same_bytes [] (b ∷ ys) x y counted same = absurd (omega arith)
same_bytes (b ∷ xs) [] x y counted same = absurd (omega arith)
same_bytes (b ∷ xs) (c ∷ ys) x y counted same =
    let rest : xs ≡ ys = same_bytes xs ys x y (omega arith) (cc) in
    let head : b ≡ c = cc in
    cc

-- A text of items tells the items, if there are as many and each text tells its item.
pub same_items : {A : Type 0} (f : A → List ℕ) (Is : A → Type 0) → ((a b : A) (x y : List ℕ) → Is a → Is b → f a ++ x ≡ f b ++ y → a ≡ b)
    → (ones others : List A) (x y : List ℕ) → length ones ≡ length others → AllByRecursion Is ones → AllByRecursion Is others → flat_map f ones ++ x ≡ flat_map f others ++ y → ones ≡ others
same_items f Is tells [] [] x y counted one two same = refl
same_items f Is tells [] (b ∷ others) x y counted one two same = absurd (omega arith)
same_items f Is tells (a ∷ ones) [] x y counted one two same = absurd (omega arith)
same_items {A} f Is tells (a ∷ ones) (b ∷ others) x y counted one two same =
    let regrouped = sym (append_assoc (f a) (flat_map f ones) x) ∙ same ∙ append_assoc (f b) (flat_map f others) y in
    let head = tells a b (flat_map f ones ++ x) (flat_map f others ++ y) one.0 two.0 regrouped in
    let tails = append_cancel_left (f a) (flat_map f ones ++ x) (flat_map f others ++ y) (regrouped ∙ ap (λ (c : A). f c ++ (flat_map f others ++ y)) (sym head)) in
    let rest = same_items f Is tells ones others x y (omega arith) one.1 two.1 tails in
    cc

-- ---- names

escapes_set : AsciiSet
escapes_set = record { mask = 2 ^ 127 + 2 ^ 37 + 2 ^ 33 - 1 }

set_agrees : agree_below (contains escapes_set) needs_escape 128 ≡ true
unfolding escapes_set
set_agrees = refl

has_percent : contains escapes_set 37 ≡ true
unfolding escapes_set
has_percent = refl

set_escapes : (b : ℕ) → should_percent_encode escapes_set b ≡ needs_escape b
set_escapes = set_is escapes_set (λ b low. agree_below_at (contains escapes_set) needs_escape 128 b set_agrees low)

all_bytes : (name : List ℕ) → AllByRecursion IsByte name → All IsByte name
all_bytes [] all = All-nil IsByte
all_bytes (b ∷ name) all = All-cons IsByte b name all.0 (all_bytes name all.1)

-- an escaped name is decoded as the name
pub name_decoded : (name : List ℕ) → All IsByte name → percent_decode (escaped name) ≡ name
name_decoded name bytes = ap percent_decode (sym (encode_is escapes_set name set_escapes)) ∙ round_trip escapes_set name has_percent bytes

same_name : (m n : List ℕ) → AllByRecursion IsByte m → AllByRecursion IsByte n → escaped m ≡ escaped n → m ≡ n
same_name m n one two e = sym (name_decoded m (all_bytes m one)) ∙ ap percent_decode e ∙ name_decoded n (all_bytes n two)

abbrev is_inside : ℕ → Bool
is_inside b = not (b == 10)

inside_all : (bytes : List ℕ) → All (λ b. b ≢ 10) bytes → list_all is_inside bytes ≡ true
inside_all [] all = refl
inside_all (b ∷ bytes) all =
    let here = All-head (λ x. x ≢ 10) b bytes all in
    let rest = inside_all bytes (All-tail (λ x. x ≢ 10) b bytes all) in
    grind (arith, nat_tests)

kept_inside : (b : ℕ) → should_percent_encode escapes_set b ≡ false → b ≢ 10
kept_inside b kept is = let escapes : needs_escape b ≡ false = sym (set_escapes b) ∙ kept in false≢true (sym escapes ∙ ap needs_escape is)

escape_inside : (b : ℕ) → IsEscapeByte b → b ≢ 10
escape_inside b is = grind arith

name_inside : (name : List ℕ) → list_all is_inside (escaped name) ≡ true
name_inside name = ap (list_all is_inside) (sym (encode_is escapes_set name set_escapes)) ∙ inside_all (percent_encode escapes_set name) (All-percent_encode (λ b. b ≢ 10) escapes_set name kept_inside escape_inside)

-- ---- entries and pieces

pub kinds_tell : (k l : Kind) (x y : List ℕ) → kind_text k ++ x ≡ kind_text l ++ y → (k ≡ l) × (x ≡ y)
kinds_tell File File x y same = (refl, cc)
kinds_tell File Directory x y same = let e : ◌≡◌ {A = ℕ} 102 100 = ap (λ (l : List ℕ). get_or l 0 0) same in absurd (omega arith)
kinds_tell Directory File x y same = let e : ◌≡◌ {A = ℕ} 100 102 = ap (λ (l : List ℕ). get_or l 0 0) same in absurd (omega arith)
kinds_tell Directory Directory x y same = (refl, cc)

entry_right : (k : Kind) (number : ℕ) (name x : List ℕ) → (kind_text k ++ codes " " ++ decimal number ++ codes " " ++ name ++ codes "\n") ++ x ≡ kind_text k ++ (32 ∷ (decimal number ++ 32 ∷ (name ++ 10 ∷ x)))
entry_right k number name x = simp append_assoc

pub entry_tells : (a b : Entry) (x y : List ℕ) → IsEntry a → IsEntry b → entry_text a ++ x ≡ entry_text b ++ y → a ≡ b
entry_tells a b x y one two same =
    let right = sym (entry_right a.kind a.number (escaped a.name) x) ∙ same ∙ entry_right b.kind b.number (escaped b.name) y in
    let kinds = kinds_tell a.kind b.kind _ _ right in
    let behind : decimal a.number ++ 32 ∷ (escaped a.name ++ 10 ∷ x) ≡ decimal b.number ++ 32 ∷ (escaped b.name ++ 10 ∷ y) = let e = kinds.1 in cc in
    let numbers = number_tells a.number b.number 32 32 _ _ one.number two.number refl refl behind in
    let named : escaped a.name ++ 10 ∷ x ≡ escaped b.name ++ 10 ∷ y = let e = numbers.1 in cc in
    let fronts = same_front is_inside (escaped a.name) (escaped b.name) 10 10 x y (name_inside a.name) (name_inside b.name) refl refl named in
    same_entry a b kinds.0 numbers.0 (same_name a.name b.name one.name two.name fronts.0)
  where
    same_entry : (a b : Entry) → a.kind ≡ b.kind → a.number ≡ b.number → a.name ≡ b.name → a ≡ b
    same_entry a b k n m =
        let with_kind : Kind → Entry = λ x. record { kind = x; number = a.number; name = a.name } in
        let with_number : ℕ → Entry = λ x. record { kind = b.kind; number = x; name = a.name } in
        let with_name : List ℕ → Entry = λ x. record { kind = b.kind; number = b.number; name = x } in
        ap with_kind k ∙ ap with_number n ∙ ap with_name m

pub two_tell : (m n k l : ℕ) (d : ℕ) (x y : List ℕ) → IsNumber m → IsNumber n → IsNumber k → IsNumber l → is_ascii_digit d ≡ false → decimal m ++ d ∷ (decimal n ++ 10 ∷ x) ≡ decimal k ++ d ∷ (decimal l ++ 10 ∷ y) → (m ≡ k) × (n ≡ l)
two_tell m n k l d x y one two three four not_digit same =
    let first = number_tells m k d d _ _ one three not_digit not_digit same in
    let behind : decimal n ++ 10 ∷ x ≡ decimal l ++ 10 ∷ y = let e = first.1 in cc in
    (first.0, (number_tells n l 10 10 x y two four refl refl behind).0)
