-- The bytes of a path, name by name.
use Rattle.std.proofs.Common.{◌≡◌, ◌∙◌, ◌+◌, ◌<◌, ◌≤◌, ℕ, zero, suc, List, [], ◌∷◌, ◌++◌, length, take, get_or, refl, sym, ap, arith}
use Rattle.std.proofs.lemmas.List.{append_assoc, length-append, take_more}
use Rattle.tree_model.specs.Path.{Path, path_length}
use Rattle.op_log.specs.Record.{path_bytes}

pub length-path_bytes : (path : Path) → length (path_bytes path) ≡ path_length path
length-path_bytes [] = refl
length-path_bytes (name ∷ names) = omega (arith, length-path_bytes names, length-append name (path_bytes names))

pub path_bytes-append : (path more : Path) → path_bytes (path ++ more) ≡ path_bytes path ++ path_bytes more
path_bytes-append [] more = refl
path_bytes-append (name ∷ names) more =
    ap (λ (l : List ℕ). 47 ∷ name ++ l) (path_bytes-append names more) ∙ sym (append_assoc (47 ∷ name) (path_bytes names) (path_bytes more))

append_none : (xs : List ℕ) → xs ++ [] ≡ xs
append_none [] = refl
append_none (x ∷ xs) = ap (λ (l : List ℕ). x ∷ l) (append_none xs)

-- one name more
pub path_bytes-more : (path : Path) (i : ℕ) (d : List ℕ) → i < length path → path_bytes (take (i + 1) path) ≡ path_bytes (take i path) ++ (47 ∷ get_or path i d)
path_bytes-more path i d lt =
    ap path_bytes (take_more path i d lt) ∙ path_bytes-append (take i path) (get_or path i d ∷ []) ∙ ap (λ (l : List ℕ). path_bytes (take i path) ++ (47 ∷ l)) (append_none (get_or path i d))

-- a part of a path is no longer than the path
pub path_length-more : (path : Path) (i : ℕ) (d : List ℕ) → i < length path → path_length (take i path) + 1 + length (get_or path i d) ≤ path_length path
path_length-more [] i d lt = absurd (omega arith)
path_length-more (name ∷ names) zero d lt = omega arith
path_length-more (name ∷ names) (suc i) d lt = omega (arith, path_length-more names i d (omega arith))

-- there is room for one name more
pub room_for_name : (start head : List ℕ) (items : Path) (i : ℕ) (d : List ℕ) → head ≡ start ++ path_bytes (take i items) → i < length items
    → length head + 1 + length (get_or items i d) ≤ length start + path_length items
room_for_name start head items i d is lt =
    omega (arith, ap length is, length-append start (path_bytes (take i items)), length-path_bytes (take i items), path_length-more items i d lt)

-- a slash and a name more are written
pub written_more : (start head mid after : List ℕ) (items : Path) (i : ℕ) (name : List ℕ) → head ≡ start ++ path_bytes (take i items) → i < length items → name ≡ get_or items i name
    → mid ≡ head ++ 47 ∷ [] → after ≡ mid ++ name → after ≡ start ++ path_bytes (take (i + 1) items)
written_more start head mid after items i name is lt name_is slash end =
    let before : List ℕ = path_bytes (take i items) in
    end ∙ ap (λ (l : List ℕ). l ++ name) (slash ∙ ap (λ (l : List ℕ). l ++ 47 ∷ []) is)
    ∙ append_assoc (start ++ before) (47 ∷ []) name ∙ append_assoc start before (47 ∷ name)
    ∙ ap (λ (l : List ℕ). start ++ (before ++ 47 ∷ l)) name_is
    ∙ ap (λ (l : List ℕ). start ++ l) (sym (path_bytes-more items i name lt))
