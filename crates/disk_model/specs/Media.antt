-- The images of a medium by their names.
use Rattle.std.specs.Prelude.{if◌then◌else◌, ℕ, Bool, false, List, bytes_eq, Option, Some, None}
use Rattle.disk_model.specs.Disk.{State}

-- What no call of a disk changes: how many blocks there are; and of a medium, the name of the open image, and the images of the other names.
pub record Fixed : Type 0 where
  pub size : ℕ
  pub current : Option (List ℕ)
  pub others : List ℕ → Option State

-- of a disk that is no medium
abbrev pub of_size : ℕ → Fixed
of_size n = record { size = n; current = None; others = λ _. None }

abbrev pub is_name_of : Option (List ℕ) → List ℕ → Bool
is_name_of None name = false
is_name_of (Some other) name = bytes_eq other name

-- the image of a name, where the open image is this
abbrev pub image_named : Fixed → State → List ℕ → Option State
image_named fixed state name = if is_name_of fixed.current name then Some state else fixed.others name
