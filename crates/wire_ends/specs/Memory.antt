-- The ends in memory, as contracts see them.
use Rattle.std.specs.Prelude.{ℕ, List}

-- the bytes that are left, how many a call gives at most, the number of the next call, the numbers of the calls that fail, and how often one has failed
pub record MemInput : Type 0 where
  pub left : List ℕ
  pub piece : ℕ
  pub call : ℕ
  pub fails : List ℕ
  pub faults : ℕ

-- the bytes that were put, for how many there is room, the number of the next call, the numbers of the calls that fail, and how often one has failed
pub record MemOutput : Type 0 where
  pub got : List ℕ
  pub room : ℕ
  pub call : ℕ
  pub fails : List ℕ
  pub faults : ℕ
