-- What is put in several calls.
use Rattle.std.proofs.Common.{◌∙◌, ◌+◌, ◌++◌, ℕ, List, [], length, min, sym, ap, subst, append_assoc, arith}
use Rattle.std.proofs.lemmas.List.{append-nil, take-append-le, take_min}
use Rattle.std.proofs.Math.Seq.{take-append-add}
use Rattle.wire_ends.specs.Ends.{Output, Puts, PutsPart}

pub puts_none : (sink : Output) → Puts sink sink []
puts_none sink = record { told = λ told. told; appended = λ told. sym (append-nil sink.got) }

-- two puts in a row are one
pub puts_both : {old mid new : Output} {first second : List ℕ} → Puts old mid first → Puts mid new second → Puts old new (first ++ second)
puts_both {old = old} {first = first} {second = second} one two = record {
  told = λ told. two.told (one.told told);
  appended = λ told. two.appended (one.told told) ∙ ap (λ (l : List ℕ). l ++ second) (one.appended told) ∙ append_assoc old.got first second;
}

-- a part that is put behind a whole is a part of both
pub part_behind : {old mid new : Output} {first second : List ℕ} → Puts old mid first → PutsPart mid new second → PutsPart old new (first ++ second)
part_behind {old} {mid} {new} {first} {second} one part = record {
  count = length first + part.count;
  puts = subst (Puts old new) (sym (take-append-add first second part.count)) (puts_both one part.puts);
}

-- a part of the first bytes is a part of all of them
pub part_of_more : {old new : Output} {first : List ℕ} (second : List ℕ) → PutsPart old new first → PutsPart old new (first ++ second)
part_of_more {old} {new} {first} second part = record {
  count = min part.count (length first);
  puts = subst (Puts old new) (sym (take-append-le (min part.count (length first)) first second (omega arith) ∙ take_min part.count first)) part.puts;
}
