-- An item isn't decided before its last byte.
use Rattle.std.proofs.Common.{◌≡◌, ◌∙◌, ◌<◌, ◌≤◌, ◌+◌, ◌++◌, ℕ, true, false, Option, List, length, take, drop, sym, ap, ⊎_elim, arith}
use Rattle.std.specs.Prelude.{position, slice_index}
use Rattle.std.proofs.lemmas.Bool.{cases_lt, cases_Bool}
use Rattle.tree_model.specs.declared.command.Command.{Command}
use Rattle.tree_model.specs.declared.refusal.Refusal.{Refusal}
use Rattle.command_text.specs.declared.item.Item.{Item}
use Rattle.line_text.specs.declared.line.Said.TheVariants as line
use Rattle.line_text.specs.Lines.{line_in}
use Rattle.command_text.specs.Front.{is_newline}
use Rattle.command_text.specs.Front.Front.{Whole, Wrong, Partial}
use Rattle.command_text.specs.Reading.{Undecided}
use Rattle.command_text.specs.Filling.{LineEnds, AsksToWrite}
use Rattle.line_text.proofs.PlaceLemmas.{found_in_front}
use Rattle.command_text.proofs.FrontLemmas.{front_command, front_refused, front_unended, front_written, line_with_more}

whole_is_not_partial : (item : Item) (count : ℕ) → Whole item count ≡ Partial → ⊥
whole_is_not_partial item count e = cc

wrong_is_not_partial : Wrong ≡ Partial → ⊥
wrong_is_not_partial e = cc

module _ (bytes before piece : List ℕ) (i : ℕ) (parts : bytes ≡ before ++ piece) (ends : LineEnds bytes i) (within : i < length before) where
  ends_in_front : LineEnds before i
  ends_in_front = record { found = found_in_front is_newline before piece i (ap (λ (l : List ℕ). position is_newline l) (sym parts) ∙ ends.found) within; at_most = ends.at_most }

  line_in_front : line_in (take i before) ≡ line_in (take i bytes)
  line_in_front = sym (line_with_more before piece i ends_in_front) ∙ ap (λ (l : List ℕ). line_in (take i l)) (sym parts)

pub command_needs : (bytes : List ℕ) (i : ℕ) (command : Command) → LineEnds bytes i → line_in (take i bytes) ≡ line.Command command → (before piece : List ℕ) → bytes ≡ before ++ piece → Undecided before → length before < i + 1
command_needs bytes i command ends says before piece parts undecided =
    ⊎_elim
    (λ (lt : i < length before). absurd (whole_is_not_partial _ _ (sym (front_command before i command (ends_in_front bytes before piece i parts ends lt) (line_in_front bytes before piece i parts ends lt ∙ says)) ∙ undecided)))
    (λ (ge : length before ≤ i). omega arith)
    (cases_lt i (length before))

pub refused_needs : (bytes : List ℕ) (i : ℕ) (refusal : Refusal) → LineEnds bytes i → line_in (take i bytes) ≡ line.Refused refusal → (before piece : List ℕ) → bytes ≡ before ++ piece → Undecided before → length before < i + 1
refused_needs bytes i refusal ends says before piece parts undecided =
    ⊎_elim
    (λ (lt : i < length before). absurd (whole_is_not_partial _ _ (sym (front_refused before i refusal (ends_in_front bytes before piece i parts ends lt) (line_in_front bytes before piece i parts ends lt ∙ says)) ∙ undecided)))
    (λ (ge : length before ≤ i). omega arith)
    (cases_lt i (length before))

written_decides : (before : List ℕ) (i : ℕ) (path : Option (List (List ℕ))) (offset count : ℕ) → AsksToWrite before i path offset count → i + 1 + count + 1 ≤ length before → Undecided before → ⊥
written_decides before i path offset count asks long undecided =
    ⊎_elim
    (λ (ended : is_newline (slice_index (drop (i + 1) before) count) ≡ true). whole_is_not_partial _ _ (sym (front_written before i path offset count asks long ended) ∙ undecided))
    (λ (other : is_newline (slice_index (drop (i + 1) before) count) ≡ false). wrong_is_not_partial (sym (front_unended before i path offset count asks long other) ∙ undecided))
    (cases_Bool (is_newline (slice_index (drop (i + 1) before) count)))

pub write_needs : (bytes : List ℕ) (i : ℕ) (path : Option (List (List ℕ))) (offset count : ℕ) → AsksToWrite bytes i path offset count → (before piece : List ℕ) → bytes ≡ before ++ piece → Undecided before → length before < i + 1 + count + 1
write_needs bytes i path offset count asks before piece parts undecided =
    ⊎_elim
    (λ (lt : i + 1 + count < length before).
    let within : i < length before = omega arith in
    let front_asks : AsksToWrite before i path offset count = record { ends = ends_in_front bytes before piece i parts asks.ends within; says = line_in_front bytes before piece i parts asks.ends within ∙ asks.says } in
    absurd (written_decides before i path offset count front_asks (omega arith) undecided))
    (λ (ge : length before ≤ i + 1 + count). omega arith)
    (cases_lt (i + 1 + count) (length before))
