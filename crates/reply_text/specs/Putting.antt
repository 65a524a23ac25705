-- What is put of a text.
use Rattle.std.specs.Prelude.{◌≡◌, ℕ, List, Result, Ok, Err}
use Rattle.vol_numbers.specs.Cause.{raised}
use Rattle.wire_ends.specs.Ends.{Output, Puts, PutsPart}
use Rattle.reply_text.specs.declared.fault.PutFault.{PutFault}
use Rattle.reply_text.specs.declared.fault.PutFault.TheVariants.{Sink, OutOfMemory}

-- all of it, or at a fault a prefix
abbrev pub PutsText : {T E : Type 0} → Output → Output → List ℕ → Result T E → Type 0
PutsText old new text (Ok done) = Puts old new text
PutsText old new text (Err fault) = PutsPart old new text

-- All of it, or at the sink's fault a prefix. Where memory was wanting the sink is as it was.
abbrev pub PutsAnswer : {T : Type 0} → Output → Output → List ℕ → Result T PutFault → Type 0
PutsAnswer old new text (Ok done) = Puts old new text
PutsAnswer old new text (Err Sink) = PutsPart old new text
PutsAnswer old new text (Err OutOfMemory) = new ≡ old

-- a failed sink is counted, and nothing else
abbrev pub HasPutCause : {T : Type 0} → ℕ → ℕ → Result T PutFault → Type 0
HasPutCause old new (Ok done) = new ≡ old
HasPutCause old new (Err Sink) = new ≡ raised old
HasPutCause old new (Err OutOfMemory) = new ≡ old
