-- Paths: names from the root on.
use Rattle.std.specs.Prelude.{ℕ, ◌+◌, ◌≤◌, Bool, true, false, List, [], ◌∷◌, length, nat_eq, if◌then◌else◌, Option, Some, None}
use Rattle.std.specs.Ordering.{nat_cmp}
use Rattle.std.specs.Cmp.Lexicographic.{slice_cmp, pointwise}
use Rattle.std.specs.declared.cmp.Ordering.{Ordering}

-- names from the root on, each of them bytes, of any number
abbrev pub Path : Type 0
Path = List (List ℕ)

-- each name counts its bytes and one
abbrev pub path_length : Path → ℕ
path_length [] = 0
path_length (name ∷ names) = length name + 1 + path_length names

-- the limits of the path of a command
pub record IsPath (path : Path) : Type 0 where
  pub names_at_most : length path ≤ 32
  pub length_at_most : path_length path ≤ 1024

-- the order of paths, by the bytes of their names
abbrev pub path_cmp : Path → Path → Ordering
path_cmp = slice_cmp (slice_cmp nat_cmp)

abbrev pub name_eq : List ℕ → List ℕ → Bool
name_eq = pointwise nat_eq

abbrev pub is_root : Path → Bool
is_root [] = true
is_root (name ∷ names) = false

-- the path without its last name
abbrev pub parent_of : Path → Path
parent_of [] = []
parent_of (name ∷ []) = []
parent_of (name ∷ next ∷ names) = name ∷ parent_of (next ∷ names)

-- what follows the front in a path that begins with it
abbrev pub strip : Path → Path → Option Path
strip [] path = Some path
strip (name ∷ front) [] = None
strip (name ∷ front) (other ∷ path) = if name_eq name other then strip front path else None
