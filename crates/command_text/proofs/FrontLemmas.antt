-- What bytes begin with.
use Rattle.std.proofs.Common.{◌≡◌, ◌∙◌, ◌<◌, ◌≤◌, ◌+◌, ◌++◌, ℕ, true, false, cond, Option, Some, None, List, length, get_or, take, drop, refl, ap, arith, length-append, length-drop, get_or-drop}
use Rattle.std.proofs.Math.ListN.{get_or-append}
use Rattle.std.specs.Prelude.{position, nat_le, slice_index}
use Rattle.std.proofs.lemmas.Bool.{cond-true, cond-false}
use Rattle.std.proofs.lemmas.Bool.Decides.{nat_tests}
use Rattle.std.proofs.lemmas.List.{take-append-le, drop-append-le}
use Rattle.tree_model.specs.declared.command.Command.{Command}
use Rattle.tree_model.specs.declared.refusal.Refusal.{Refusal}
use Rattle.command_text.specs.declared.item.Item.TheVariants as item
use Rattle.line_text.specs.declared.line.Said.{Said}
use Rattle.line_text.specs.declared.line.Said.TheVariants as line
use Rattle.line_text.specs.Lines.{line_in}
use Rattle.command_text.specs.Front.{front, front_up_to, front_of_line, front_of_data, write_of, is_newline}
use Rattle.command_text.specs.Front.Front.{Whole, Wrong, Partial}
use Rattle.command_text.specs.Filling.{LineEnds, AsksToWrite, IsWrong, IsWhole}
use Rattle.line_text.proofs.PlaceLemmas.{place_of_found, found_before_more, found_behind}

le_true : (a b : ℕ) → a ≤ b → nat_le a b ≡ true
le_true a b le = grind (arith, nat_tests)

le_false : (a b : ℕ) → b < a → nat_le a b ≡ false
le_false a b lt = grind (arith, nat_tests)

pub front_missing : (bytes : List ℕ) → position is_newline bytes ≡ None → length bytes ≤ 8192 → front bytes ≡ Partial
unfolding front
front_missing bytes none short = ap (front_up_to bytes) none ∙ cond-true (nat_le (length bytes) 8192) Partial Wrong (le_true (length bytes) 8192 short)

pub front_too_long : (bytes : List ℕ) → position is_newline bytes ≡ None → 8192 < length bytes → front bytes ≡ Wrong
unfolding front
front_too_long bytes none long = ap (front_up_to bytes) none ∙ cond-false (nat_le (length bytes) 8192) Partial Wrong (le_false (length bytes) 8192 long)

pub front_ends_late : (bytes : List ℕ) (i : ℕ) → position is_newline bytes ≡ Some i → 8192 < i → front bytes ≡ Wrong
unfolding front
front_ends_late bytes i found late = ap (front_up_to bytes) found ∙ cond-false (nat_le i 8192) (front_of_line (line_in (take i bytes)) (i + 1) (drop (i + 1) bytes)) Wrong (le_false i 8192 late)

pub front_of_ended : (bytes : List ℕ) (i : ℕ) → LineEnds bytes i → front bytes ≡ front_of_line (line_in (take i bytes)) (i + 1) (drop (i + 1) bytes)
unfolding front
front_of_ended bytes i ends = ap (front_up_to bytes) ends.found ∙ cond-true (nat_le i 8192) (front_of_line (line_in (take i bytes)) (i + 1) (drop (i + 1) bytes)) Wrong (le_true i 8192 ends.at_most)

pub front_command : (bytes : List ℕ) (i : ℕ) (command : Command) → LineEnds bytes i → line_in (take i bytes) ≡ line.Command command → front bytes ≡ Whole (item.Command command) (i + 1)
front_command bytes i command ends says = front_of_ended bytes i ends ∙ ap (λ (l : Said). front_of_line l (i + 1) (drop (i + 1) bytes)) says

pub front_refused : (bytes : List ℕ) (i : ℕ) (refusal : Refusal) → LineEnds bytes i → line_in (take i bytes) ≡ line.Refused refusal → front bytes ≡ Whole (item.Refused refusal) (i + 1)
front_refused bytes i refusal ends says = front_of_ended bytes i ends ∙ ap (λ (l : Said). front_of_line l (i + 1) (drop (i + 1) bytes)) says

pub front_of_write : (bytes : List ℕ) (i : ℕ) (path : Option (List (List ℕ))) (offset count : ℕ) → AsksToWrite bytes i path offset count → front bytes ≡ front_of_data path offset count (i + 1) (drop (i + 1) bytes)
front_of_write bytes i path offset count asks = front_of_ended bytes i asks.ends ∙ ap (λ (l : Said). front_of_line l (i + 1) (drop (i + 1) bytes)) asks.says

module _ (bytes : List ℕ) (i : ℕ) (path : Option (List (List ℕ))) (offset count : ℕ) (asks : AsksToWrite bytes i path offset count) where
  pub front_short : length bytes < i + 1 + count + 1 → front bytes ≡ Partial
  front_short short =
      let within = place_of_found is_newline bytes i asks.ends.found in
      front_of_write bytes i path offset count asks ∙ cond-true (nat_le (length (drop (i + 1) bytes)) count) Partial (cond (is_newline (slice_index (drop (i + 1) bytes) count)) (Whole (write_of path offset (take count (drop (i + 1) bytes))) (i + 1 + count + 1)) Wrong) (le_true (length (drop (i + 1) bytes)) count (omega (arith, length-drop (i + 1) bytes)))

  front_long : i + 1 + count + 1 ≤ length bytes → front bytes ≡ cond (is_newline (slice_index (drop (i + 1) bytes) count)) (Whole (write_of path offset (take count (drop (i + 1) bytes))) (i + 1 + count + 1)) Wrong
  front_long long =
      front_of_write bytes i path offset count asks ∙ cond-false (nat_le (length (drop (i + 1) bytes)) count) Partial (cond (is_newline (slice_index (drop (i + 1) bytes) count)) (Whole (write_of path offset (take count (drop (i + 1) bytes))) (i + 1 + count + 1)) Wrong) (le_false (length (drop (i + 1) bytes)) count (omega (arith, length-drop (i + 1) bytes)))

  pub front_unended : i + 1 + count + 1 ≤ length bytes → is_newline (slice_index (drop (i + 1) bytes) count) ≡ false → front bytes ≡ Wrong
  front_unended long other = front_long long ∙ cond-false (is_newline (slice_index (drop (i + 1) bytes) count)) (Whole (write_of path offset (take count (drop (i + 1) bytes))) (i + 1 + count + 1)) Wrong other

  pub front_written : i + 1 + count + 1 ≤ length bytes → is_newline (slice_index (drop (i + 1) bytes) count) ≡ true → front bytes ≡ Whole (write_of path offset (take count (drop (i + 1) bytes))) (i + 1 + count + 1)
  front_written long ended = front_long long ∙ cond-true (is_newline (slice_index (drop (i + 1) bytes) count)) (Whole (write_of path offset (take count (drop (i + 1) bytes))) (i + 1 + count + 1)) Wrong ended

-- a line that ended ends there with more bytes behind it
pub ends_with_more : (bytes more : List ℕ) (i : ℕ) → LineEnds bytes i → LineEnds (bytes ++ more) i
ends_with_more bytes more i ends = record { found = found_before_more is_newline bytes more i ends.found; at_most = ends.at_most }

pub line_with_more : (bytes more : List ℕ) (i : ℕ) → LineEnds bytes i → line_in (take i (bytes ++ more)) ≡ line_in (take i bytes)
line_with_more bytes more i ends =
    let within = place_of_found is_newline bytes i ends.found in
    ap line_in (take-append-le i bytes more (omega arith))

pub asks_with_more : (bytes more : List ℕ) (i : ℕ) (path : Option (List (List ℕ))) (offset count : ℕ) → AsksToWrite bytes i path offset count → AsksToWrite (bytes ++ more) i path offset count
asks_with_more bytes more i path offset count asks = record {
  ends = ends_with_more bytes more i asks.ends;
  says = line_with_more bytes more i asks.ends ∙ asks.says;
}

-- however the bytes go on
pub wrong_too_long : (bytes : List ℕ) → position is_newline bytes ≡ None → 8192 < length bytes → IsWrong bytes
wrong_too_long bytes none long more = by_place (position is_newline (bytes ++ more)) refl
  where
    by_place : (place : Option ℕ) → position is_newline (bytes ++ more) ≡ place → front (bytes ++ more) ≡ Wrong
    by_place None is = front_too_long (bytes ++ more) is (omega (arith, length-append bytes more))
    by_place (Some i) is = front_ends_late (bytes ++ more) i is (omega (arith, found_behind is_newline bytes more i none is))

pub wrong_ends_late : (bytes : List ℕ) (i : ℕ) → position is_newline bytes ≡ Some i → 8192 < i → IsWrong bytes
wrong_ends_late bytes i found late more = front_ends_late (bytes ++ more) i (found_before_more is_newline bytes more i found) late

pub whole_command : (bytes : List ℕ) (i : ℕ) (command : Command) → LineEnds bytes i → line_in (take i bytes) ≡ line.Command command → IsWhole bytes (item.Command command) (i + 1)
whole_command bytes i command ends says = record {
  within = omega (arith, (place_of_found is_newline bytes i ends.found).1);
  whole = λ more. front_command (bytes ++ more) i command (ends_with_more bytes more i ends) (line_with_more bytes more i ends ∙ says);
}

pub whole_refused : (bytes : List ℕ) (i : ℕ) (refusal : Refusal) → LineEnds bytes i → line_in (take i bytes) ≡ line.Refused refusal → IsWhole bytes (item.Refused refusal) (i + 1)
whole_refused bytes i refusal ends says = record {
  within = omega (arith, (place_of_found is_newline bytes i ends.found).1);
  whole = λ more. front_refused (bytes ++ more) i refusal (ends_with_more bytes more i ends) (line_with_more bytes more i ends ∙ says);
}

module _ (bytes : List ℕ) (i : ℕ) (path : Option (List (List ℕ))) (offset count : ℕ) (asks : AsksToWrite bytes i path offset count) (long : i + 1 + count + 1 ≤ length bytes) where
  byte_with_more : (more : List ℕ) → is_newline (slice_index (drop (i + 1) (bytes ++ more)) count) ≡ is_newline (get_or bytes (i + 1 + count) 0)
  byte_with_more more =
      let inside : i + 1 + count < length bytes = omega arith in
      ap is_newline (get_or-drop (i + 1) (bytes ++ more) count 0 ∙ get_or-append bytes more 0 (i + 1 + count) inside)

  pub wrong_unended : is_newline (get_or bytes (i + 1 + count) 0) ≡ false → IsWrong bytes
  wrong_unended other more =
      front_unended (bytes ++ more) i path offset count (asks_with_more bytes more i path offset count asks) (omega (arith, length-append bytes more)) (byte_with_more more ∙ other)

  pub whole_written : is_newline (get_or bytes (i + 1 + count) 0) ≡ true → IsWhole bytes (write_of path offset (take count (drop (i + 1) bytes))) (i + 1 + count + 1)
  whole_written ended = record {
    within = long;
    whole = λ more.
        let within : count ≤ length (drop (i + 1) bytes) = omega (arith, length-drop (i + 1) bytes) in
        let same : take count (drop (i + 1) (bytes ++ more)) ≡ take count (drop (i + 1) bytes) = ap (take count) (drop-append-le (i + 1) bytes more (omega arith)) ∙ take-append-le count (drop (i + 1) bytes) more within in
        front_written (bytes ++ more) i path offset count (asks_with_more bytes more i path offset count asks) (omega (arith, length-append bytes more)) (byte_with_more more ∙ ended)
        ∙ ap (λ (data_bytes : List ℕ). Whole (write_of path offset data_bytes) (i + 1 + count + 1)) same;
  }
