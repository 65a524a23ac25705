-- The names that bytes spell, one after the other.
use Rattle.std.proofs.Common.{◌≡◌, ◌≢◌, ◌∙◌, ◌+◌, ◌<◌, ◌≤◌, ℕ, zero, suc, List, [], ◌∷◌, ◌++◌, length, drop, get_or, refl, sym, ap, arith, Option, Some, None}
use Rattle.std.specs.Prelude.{All, Result, Ok, Err, IsOk, IfOk}
use Rattle.std.specs.Result.{result_ok}
use Rattle.std.specs.List.{AllByRecursion}
use Rattle.std.proofs.lemmas.List.{append_assoc, drop_at, append-nil}
use Rattle.std.proofs.lemmas.List.Elements.{All-head, All-tail, recursion_from_All}
use Rattle.vol_numbers.specs.Name.{IsName}
use Rattle.tree_model.specs.Path.{Path}
use Rattle.op_log.specs.Record.{path_bytes}

abbrev NoSlash : List ℕ → Type 0
NoSlash [] = Unit {0}
NoSlash (b ∷ bs) = (b ≢ 47) × NoSlash bs

no_slash_in : (bytes : List ℕ) → AllByRecursion (λ b. (b ≢ 0) × (b ≢ 47)) bytes → NoSlash bytes
no_slash_in [] all = tt
no_slash_in (b ∷ bs) all = (all.0.1, no_slash_in bs all.1)

no_slash : (name : List ℕ) → IsName name → NoSlash name
no_slash name is = no_slash_in name (recursion_from_All (λ b. (b ≢ 0) × (b ≢ 47)) name is.plain)

-- a name ends where the next slash stands, or with the bytes
ends : (name : List ℕ) (path : Path) (len : ℕ) → NoSlash name → len ≤ length (name ++ path_bytes path) → ((k : ℕ) → k < len → get_or (name ++ path_bytes path) k 0 ≢ 47)
    → (len < length (name ++ path_bytes path) → get_or (name ++ path_bytes path) len 0 ≡ 47) → len ≡ length name
ends [] [] len plain within before found = omega arith
ends [] (next ∷ path) zero plain within before found = refl
ends [] (next ∷ path) (suc len) plain within before found = absurd (before 0 (omega arith) refl)
ends (b ∷ bs) path zero plain within before found = absurd (plain.0 (found (omega arith)))
ends (b ∷ bs) path (suc len) plain within before found =
    let rest = ends bs path len plain.1 (omega arith) (λ k lt. before (suc k) (omega arith)) (λ lt. found (omega arith)) in omega (arith, rest)

pub name_ends : (name : List ℕ) (path : Path) (len : ℕ) → IsName name → len ≤ length (name ++ path_bytes path) → ((k : ℕ) → k < len → get_or (name ++ path_bytes path) k 0 ≢ 47)
    → (len < length (name ++ path_bytes path) → get_or (name ++ path_bytes path) len 0 ≡ 47) → len ≡ length name
name_ends name path len is = ends name path len (no_slash name is)

-- the first name of one spelling is that of the other
cut : (n m : List ℕ) (p q : Path) → NoSlash n → NoSlash m → n ++ path_bytes p ≡ m ++ path_bytes q → (n ≡ m) × (path_bytes p ≡ path_bytes q)
cut [] [] p q plain other e = (refl, e)
cut [] (y ∷ ms) [] q plain other e = absurd (let h : [] ≡ y ∷ (ms ++ path_bytes q) = e in cc)
cut [] (y ∷ ms) (k ∷ p) q plain other e = absurd (other.0 (let h : 47 ∷ (k ++ path_bytes p) ≡ y ∷ (ms ++ path_bytes q) = e in cc))
cut (x ∷ ns) [] p [] plain other e = absurd (let h : x ∷ (ns ++ path_bytes p) ≡ [] = e in cc)
cut (x ∷ ns) [] p (k ∷ q) plain other e = absurd (plain.0 (let h : x ∷ (ns ++ path_bytes p) ≡ 47 ∷ (k ++ path_bytes q) = e in cc))
cut (x ∷ ns) (y ∷ ms) p q plain other e =
    let h : x ∷ (ns ++ path_bytes p) ≡ y ∷ (ms ++ path_bytes q) = e in
    let first : x ≡ y = cc in
    let behind : ns ++ path_bytes p ≡ ms ++ path_bytes q = cc in
    let rest = cut ns ms p q plain.1 other.1 behind in
    ((λ i. first i ∷ rest.0 i), rest.1)

-- two paths of names that are spelled the same are the same
pub path_bytes-same : (p q : Path) → All IsName p → All IsName q → path_bytes p ≡ path_bytes q → p ≡ q
path_bytes-same [] [] named other e = refl
path_bytes-same [] (m ∷ q) named other e = absurd (let h : [] ≡ 47 ∷ (m ++ path_bytes q) = e in cc)
path_bytes-same (n ∷ p) [] named other e = absurd (let h : 47 ∷ (n ++ path_bytes p) ≡ [] = e in cc)
path_bytes-same (n ∷ p) (m ∷ q) named other e =
    let h : 47 ∷ (n ++ path_bytes p) ≡ 47 ∷ (m ++ path_bytes q) = e in
    let behind : n ++ path_bytes p ≡ m ++ path_bytes q = cc in
    let first = cut n m p q (no_slash n (All-head IsName n p named)) (no_slash m (All-head IsName m q other)) behind in
    let rest = path_bytes-same p q (All-tail IsName n p named) (All-tail IsName m q other) first.1 in
    λ i. first.0 i ∷ rest i

-- the names are the first ones of the path, and the rest of the bytes spells the later ones
pub record Left (names path : Path) (rest : List ℕ) : Type 0 where
  pub later : Path
  pub is : path ≡ names ++ later
  pub named : All IsName later
  pub bytes : path_bytes later ≡ rest

more_later : (names path later : Path) (rest name : List ℕ) → path ≡ names ++ later → All IsName later → path_bytes later ≡ rest → 0 < length rest
    → ((n : List ℕ) (p : Path) → IsName n → path_bytes (n ∷ p) ≡ rest → ◌≡◌ {A = Option (List ℕ)} (Some name) (Some n)) → Left (names ++ name ∷ []) path (drop (1 + length name) rest)
more_later names path [] rest name is named e some first = absurd (omega (arith, ap length e))
more_later names path (n ∷ p) rest name is named e some first =
    let here = first n p (All-head IsName n p named) e in
    let same : name ≡ n = cc in
    record {
      later = p;
      is = is ∙ sym (append_assoc names (n ∷ []) p) ∙ ap (λ (m : List ℕ). (names ++ m ∷ []) ++ p) (sym same);
      named = All-tail IsName n p named;
      bytes = sym (drop_at (47 ∷ n) (path_bytes p) (1 + length name) (omega (arith, ap length same))) ∙ ap (drop (1 + length name)) e;
    }

pub left_more : (names path : Path) (rest name : List ℕ) → Left names path rest → 0 < length rest
    → ((n : List ℕ) (p : Path) → IsName n → path_bytes (n ∷ p) ≡ rest → ◌≡◌ {A = Option (List ℕ)} (Some name) (Some n)) → Left (names ++ name ∷ []) path (drop (1 + length name) rest)
left_more names path rest name left some first = more_later names path left.later rest name left.is left.named left.bytes some first

none_later : (later : Path) (rest : List ℕ) → All IsName later → path_bytes later ≡ rest → 0 < length rest
    → ((n : List ℕ) (p : Path) → IsName n → path_bytes (n ∷ p) ≡ rest → ◌≡◌ {A = Option (List ℕ)} None (Some n)) → ⊥
none_later [] rest named e some first = omega (arith, ap length e)
none_later (n ∷ p) rest named e some first = let here = first n p (All-head IsName n p named) e in cc

-- where no name comes, there is no such path
pub left_none : (names path : Path) (rest : List ℕ) → Left names path rest → 0 < length rest
    → ((n : List ℕ) (p : Path) → IsName n → path_bytes (n ∷ p) ≡ rest → ◌≡◌ {A = Option (List ℕ)} None (Some n)) → ⊥
left_none names path rest left some first = none_later left.later rest left.named left.bytes some first

no_later : (later : Path) → path_bytes later ≡ [] → later ≡ []
no_later [] e = refl
no_later (n ∷ p) e = absurd (let h : 47 ∷ (n ++ path_bytes p) ≡ [] = e in cc)

-- where nothing is left, these are all names
pub left_end : (names path : Path) (rest : List ℕ) → Left names path rest → rest ≡ [] → names ≡ path
left_end names path rest left none = sym (left.is ∙ ap (λ (p : Path). names ++ p) (no_later left.later (left.bytes ∙ none)) ∙ append-nil names)

pub ok_value : {T E : Type 0} (r : Result T E) (v : T) → IsOk r → IfOk r (λ x. x ≡ v) → result_ok r ≡ Some v
ok_value (Ok x) v is e = ap Some e
ok_value (Err x) v is e = absurd (let h = is in cc)
