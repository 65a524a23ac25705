-- What is seen of a reader and of a writer of std.
use Rattle.std.specs.Prelude.{ℕ, List, [], Option, is_some, unwrap_or}
use Rattle.wire_ends.specs.Ends.{Input, Output}

-- the bytes that a reader will give, if they are known, and a count of faults
abbrev pub input_of : Option (List ℕ) → ℕ → Input
input_of remaining faults = record { is_told = is_some remaining; left = unwrap_or remaining []; faults = faults }

-- the bytes that a writer holds, if they are known, and a count of faults
abbrev pub output_of : Option (List ℕ) → ℕ → Output
output_of contents faults = record { is_told = is_some contents; got = unwrap_or contents []; faults = faults }
