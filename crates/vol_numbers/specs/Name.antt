-- Names of files and directories.
use Rattle.std.specs.Prelude.{ℕ, ◌≢◌, ◌≤◌, List, [], ◌∷◌, length, All, ◌++◌, ◌-◌, replicate}

-- from 1 to 250 bytes, none of them 0 or a slash, and neither one dot nor two
pub record IsName (bytes : List ℕ) : Type 0 where
  pub some : 1 ≤ length bytes
  pub at_most : length bytes ≤ 250
  pub plain : All (λ b. (b ≢ 0) × (b ≢ 47)) bytes
  pub not_dot : bytes ≢ 46 ∷ []
  pub not_dots : bytes ≢ 46 ∷ 46 ∷ []

-- filled up with zeros to 250 bytes
abbrev pub padded : List ℕ → List ℕ
padded bytes = bytes ++ replicate (250 - length bytes) 0
