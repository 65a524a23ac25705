-- Names one after the other.
use Rattle.std.proofs.Common.{◌≡◌, ◌≤◌, ◌++◌, ℕ, true, false, Option, Some, None, List, [], ◌∷◌, length, ap, arith, length-append}
use Rattle.std.specs.Prelude.{map, ◌==◌, MatchOption, if◌then◌else◌}
use Rattle.std.specs.Borrow.{Bor}
use Rattle.std.specs.List.{list_all, slice_split}
use Rattle.std.proofs.lemmas.Bool.Decides.{nat_tests}
use Rattle.std.proofs.lemmas.List.Folds.{list_all-append}
use Rattle.percent_encoding.specs.Percent.{percent_decode}
use Rattle.line_text.specs.Paths.{is_name, few_names, names_in}

pub names_in_more : (field part rest : List ℕ) → slice_split (λ b. b == 47) field ≡ part ∷ slice_split (λ b. b == 47) rest → names_in field ≡ percent_decode part ∷ names_in rest
unfolding names_in
names_in_more field part rest e = ap (map percent_decode) e

pub names_in_last : (field part : List ℕ) → slice_split (λ b. b == 47) field ≡ part ∷ [] → names_in field ≡ percent_decode part ∷ []
unfolding names_in
names_in_last field part e = ap (map percent_decode) e

-- a part that is no name
pub few_fails : (before : List (List ℕ)) (name : List ℕ) (rest : List (List ℕ)) → is_name name ≡ false → few_names (before ++ name ∷ rest) ≡ None
few_fails before name rest fails =
    let all = list_all-append is_name before (name ∷ rest) in
    grind (arith, nat_tests)

-- more than 32 parts
pub few_pass : (before : List (List ℕ)) (name : List ℕ) (rest : List (List ℕ)) → 32 ≤ length before → few_names (before ++ name ∷ rest) ≡ None
few_pass before name rest many =
    let all = length-append before (name ∷ rest) in
    grind (arith, nat_tests)

-- one name more
pub names_more : (names : List (List ℕ)) (name : List ℕ) → list_all is_name names ≡ true → is_name name ≡ true → list_all is_name (names ++ name ∷ []) ≡ true
names_more names name all is =
    let both = list_all-append is_name names (name ∷ []) in
    grind (arith, nat_tests)

-- the names in what is left of a field
abbrev pub names_left : Option (Bor (List ℕ)) → List (List ℕ)
names_left None = []
names_left (Some rest) = names_in rest.now

-- the first name, and those that are left behind it
pub names_step : (field part : List ℕ) (behind : Option (Bor (List ℕ)))
    → MatchOption behind (slice_split (λ b. b == 47) field ≡ part ∷ []) (λ rest. slice_split (λ b. b == 47) field ≡ part ∷ slice_split (λ b. b == 47) rest.now)
    → names_in field ≡ percent_decode part ∷ names_left behind
names_step field part None e = names_in_last field part e
names_step field part (Some rest) e = names_in_more field part rest.now e

-- a name that was made, and one that wasn't
pub name_made : (bytes name : List ℕ) → ◌≡◌ {A = Option (List ℕ)} (Some name) (if is_name bytes then Some bytes else None) → (is_name bytes ≡ true) × (name ≡ bytes)
name_made bytes name e = (grind (arith, nat_tests), grind (arith, nat_tests))

pub name_not_made : (bytes : List ℕ) → ◌≡◌ {A = Option (List ℕ)} None (if is_name bytes then Some bytes else None) → is_name bytes ≡ false
name_not_made bytes e = grind (arith, nat_tests)
