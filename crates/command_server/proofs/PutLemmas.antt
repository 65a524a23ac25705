-- What is put of a text, from the clauses of a call.
use Rattle.std.proofs.Common.{◌≡◌, ℕ, List, Result, Ok, Err, subst}
use Rattle.std.specs.Prelude.{OnOk, OnErr}
use Rattle.wire_ends.specs.Ends.{Output, Puts, PutsPart}
use Rattle.reply_text.specs.Putting.{PutsText}

pub puts_text : {T E : Type 0} (old new : Output) (bytes text : List ℕ) (r : Result T E) → bytes ≡ text
    → OnOk r (Puts old new bytes) → OnErr r (PutsPart old new bytes) → PutsText old new text r
puts_text old new bytes text (Ok x) e whole part = subst (Puts old new) e whole
puts_text old new bytes text (Err x) e whole part = subst (PutsPart old new) e part
