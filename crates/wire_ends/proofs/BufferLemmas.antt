-- What goes through a buffer in several calls.
use Rattle.std.proofs.Common.{◌≡◌, ◌∙◌, ◌++◌, ℕ, List, [], sym, ap, subst, append_assoc}
use Rattle.std.specs.Prelude.{Result, Ok, Err, OnOk, OnErr}
use Rattle.std.proofs.lemmas.List.{append-nil}
use Rattle.wire_ends.specs.Buffer.{Passes, PutsThrough}
use Rattle.wire_ends.specs.Ends.{Output, Puts, PutsPart}
use Rattle.wire_ends.proofs.PutLemmas.{puts_both, part_behind, part_of_more}

-- what is held was let out, and then the bytes
pub passes_out : {old mid new : Output} {held rest bytes : List ℕ} → rest ≡ [] → Puts old mid held → Puts mid new bytes → Passes old new held rest bytes
passes_out {held = held} {bytes = bytes} none first second = record { out = held ++ bytes; puts = puts_both first second; order = sym (ap (λ (l : List ℕ). held ++ bytes ++ l) none ∙ append-nil (held ++ bytes)) }

-- the same, by what became of the bytes
pub out_behind : {T E : Type 0} {old mid : Output} (new : Output) {held rest : List ℕ} (bytes : List ℕ) (r : Result T E) → rest ≡ [] → Puts old mid held → OnOk r (Puts mid new bytes)
    → OnOk r (Passes old new held rest bytes)
out_behind new bytes (Ok done) none first second = passes_out none first second
out_behind new bytes (Err fault) none first second = tt

pub part_out_behind : {T E : Type 0} {old mid : Output} (new : Output) {held : List ℕ} (bytes : List ℕ) (r : Result T E) → Puts old mid held → OnErr r (PutsPart mid new bytes) → OnErr r (PutsPart old new (held ++ bytes))
part_out_behind new bytes (Ok done) first part = tt
part_out_behind new bytes (Err fault) first part = part_behind first part

-- two pieces in a row are one
pub passes_both : {old mid new : Output} {held kept rest first second : List ℕ} → Passes old mid held kept first → Passes mid new kept rest second → Passes old new held rest (first ++ second)
passes_both {held = held} {kept = kept} {rest = rest} {first = first} {second = second} one two = record {
  out = one.out ++ two.out;
  puts = puts_both one.puts two.puts;
  order =
      sym (append_assoc held first second) ∙ ap (λ (l : List ℕ). l ++ second) one.order ∙ append_assoc one.out kept second ∙ ap (λ (l : List ℕ). one.out ++ l) two.order
      ∙ sym (append_assoc one.out two.out rest);
}

-- a fault behind a piece that went through
pub passes_part : {old mid new : Output} {held kept first : List ℕ} (second : List ℕ) → Passes old mid held kept first → PutsPart mid new (kept ++ second) → PutsPart old new (held ++ (first ++ second))
passes_part {old} {new = new} {held = held} {kept = kept} {first = first} second one part =
    let order : one.out ++ (kept ++ second) ≡ held ++ (first ++ second) =
    sym (append_assoc one.out kept second) ∙ ap (λ (l : List ℕ). l ++ second) (sym one.order) ∙ append_assoc held first second in
    subst (PutsPart old new) order (part_behind one.puts part)

-- a fault in a piece, where more was to follow
pub part_in_first : {old new : Output} (held first second : List ℕ) → PutsPart old new (held ++ first) → PutsPart old new (held ++ (first ++ second))
part_in_first {old} {new} held first second part = subst (PutsPart old new) (append_assoc held first second) (part_of_more second part)

-- all that went through a buffer that was empty is out, once it is let out
pub passes_whole : {old mid new : Output} {rest bytes : List ℕ} → Passes old mid [] rest bytes → Puts mid new rest → Puts old new bytes
passes_whole {old} {new = new} one out = subst (Puts old new) (sym one.order) (puts_both one.puts out)

pub passes_whole_part : {old mid new : Output} {rest bytes : List ℕ} → Passes old mid [] rest bytes → PutsPart mid new rest → PutsPart old new bytes
passes_whole_part {old} {new = new} one part = subst (PutsPart old new) (sym one.order) (part_behind one.puts part)

-- one piece behind another, by what became of the second
pub through_both : {T E : Type 0} {old mid : Output} (new : Output) {held kept first : List ℕ} (rest second : List ℕ) (r : Result T E) → Passes old mid held kept first → PutsThrough mid new kept rest second r
    → PutsThrough old new held rest (first ++ second) r
through_both new rest second (Ok done) one two = passes_both one two
through_both new rest second (Err fault) one two = passes_part second one two

-- what a call of the buffer put
pub through : {T E : Type 0} (old new : Output) (held rest bytes : List ℕ) (r : Result T E) → OnOk r (Passes old new held rest bytes) → OnErr r (PutsPart old new (held ++ bytes)) → PutsThrough old new held rest bytes r
through old new held rest bytes (Ok done) passed part = passed
through old new held rest bytes (Err fault) passed part = part
