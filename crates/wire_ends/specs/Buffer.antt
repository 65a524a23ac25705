-- What goes through a buffer in front of a sink.
use Rattle.std.specs.Prelude.{◌≡◌, ◌++◌, ℕ, List, Result, Ok, Err}
use Rattle.wire_ends.specs.Ends.{Output, Puts, PutsPart}

-- What the sink got, and what is held behind it, is what was held before and then these bytes.
pub record Passes (old new : Output) (held rest bytes : List ℕ) : Type 0 where
  pub out : List ℕ
  pub puts : Puts old new out
  pub order : held ++ bytes ≡ out ++ rest

-- Bytes went through a buffer. At a fault the sink has a prefix of what was held and of them.
abbrev pub PutsThrough : {T E : Type 0} → Output → Output → List ℕ → List ℕ → List ℕ → Result T E → Type 0
PutsThrough old new held rest bytes (Ok done) = Passes old new held rest bytes
PutsThrough old new held rest bytes (Err fault) = PutsPart old new (held ++ bytes)
