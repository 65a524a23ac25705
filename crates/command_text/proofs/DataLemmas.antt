-- The data of a write.
use Rattle.std.proofs.Common.{◌++◌, ◌≡◌, ◌≢◌, ◌<◌, ◌≤◌, ◌+◌, ℕ, false, Option, Some, None, Ok, Err, List, length, get_or, take, drop, refl, sym, subst, inl, arith}
use Rattle.std.proofs.lemmas.Bool.{eq-eqb}
use Rattle.std.proofs.lemmas.Bool.Decides.{nat_tests}
use Rattle.wire_ends.specs.Ends.{Input}
use Rattle.command_text.specs.declared.fault.TextFault.{TextFault}
use Rattle.command_text.specs.declared.fault.TextFault.TheVariants.{BadStream, OutOfMemory}
use Rattle.command_text.specs.declared.item.Item.{Item}
use Rattle.command_text.specs.declared.item.Item.TheVariants as item
use Rattle.line_text.specs.declared.line.Said.TheVariants as line
use Rattle.tree_model.specs.declared.command.Command.{Command}
use Rattle.tree_model.specs.declared.refusal.Refusal.{Refusal}
use Rattle.line_text.specs.Lines.{line_in}
use Rattle.command_text.specs.Front.{write_of, is_newline}
use Rattle.command_text.specs.Reading.{Reading, Undecided}
use Rattle.command_text.specs.Filling.{Fills, IsShorter, LineEnds, AsksToWrite, Fails, Reads, Answers, IsWhole}
use Rattle.command_text.proofs.FrontLemmas.{wrong_unended, whole_written, whole_command, whole_refused}
use Rattle.command_text.proofs.NeedLemmas.{command_needs, refused_needs, write_needs}
use Rattle.command_text.proofs.FillLemmas.{fills_data, asks_after, data_stopped}

no_newline : (byte : ℕ) → byte ≢ 10 → is_newline byte ≡ false
no_newline byte not = grind (arith, nat_tests)

answered : (path : Option (List (List ℕ))) (offset : ℕ) (bytes : List ℕ) (full new : Reading) (from to : Input) (count : ℕ) → 0 < count → IsWhole full.held (write_of path offset bytes) count → ((before piece : List ℕ) → full.held ≡ before ++ piece → Undecided before → length before < count) → new ≡ record full { held = drop count full.held }
    → Answers full new from to (Ok (write_of path offset bytes))
answered None offset bytes full new from to count some whole needs behind = record { count = count; some = some; whole = whole; needs = needs; behind = behind }
answered (Some path) offset bytes full new from to count some whole needs behind = record { count = count; some = some; whole = whole; needs = needs; behind = behind }

module _ (old full : Reading) (from to : Input) (end : ℕ) (path : Option (List (List ℕ))) (offset count : ℕ) (asks : AsksToWrite old.held end path offset count) (fills : Fills (IsShorter (end + 1 + count + 1)) old full from to) where
  after : AsksToWrite full.held end path offset count
  after = asks_after old full from to (IsShorter (end + 1 + count + 1)) end path offset count asks fills

  pub data_fails : (fault : TextFault) → length full.held < end + 1 + count + 1 → Fails fault full from to → Reads old full from to (Err fault)
  data_fails fault short fails = record {
    full = full;
    fills = fills_data old full from to end path offset count asks fills;
    answers = record { stopped = data_stopped fault full from to end path offset count after short fails; same = refl };
  }

  pub data_unended : end + 1 + count + 1 ≤ length full.held → get_or full.held (end + 1 + count) 0 ≢ 10 → Reads old full from to (Err BadStream)
  data_unended long other = record {
    full = full;
    fills = fills_data old full from to end path offset count asks fills;
    answers = record { stopped = inl (wrong_unended full.held end path offset count after long (no_newline (get_or full.held (end + 1 + count) 0) other)); same = refl };
  }

  pub data_without_memory : Reads old full from to (Err OutOfMemory)
  data_without_memory = record { full = full; fills = fills_data old full from to end path offset count asks fills; answers = record { stopped = tt; same = refl } }

  pub data_read : (new : Reading) (item : Item) → end + 1 + count + 1 ≤ length full.held → get_or full.held (end + 1 + count) 0 ≡ 10 → new ≡ record full { held = drop (end + 1 + count + 1) full.held }
      → item ≡ write_of path offset (take count (drop (end + 1) full.held)) → Reads old new from to (Ok item)
  data_read new item long ended behind made =
      subst (λ (i : Item). Reads old new from to (Ok i)) (sym made) (record {
        full = full;
        fills = fills_data old full from to end path offset count asks fills;
        answers = answered path offset (take count (drop (end + 1) full.held)) full new from to (end + 1 + count + 1) (omega arith) (whole_written full.held end path offset count after long (eq-eqb (get_or full.held (end + 1 + count) 0) 10 ended)) (write_needs full.held end path offset count after) behind;
      })

-- a line that needs no data
pub command_read : (old full new : Reading) (from to : Input) (end : ℕ) (command : Command) → Fills Undecided old full from to → LineEnds full.held end → line_in (take end full.held) ≡ line.Command command
    → new ≡ record full { held = drop (end + 1) full.held } → Reads old new from to (Ok (item.Command command))
command_read old full new from to end command fills ends says behind = record { full = full; fills = fills; answers = record { count = end + 1; some = omega arith; whole = whole_command full.held end command ends says; needs = command_needs full.held end command ends says; behind = behind } }

pub refused_read : (old full new : Reading) (from to : Input) (end : ℕ) (refusal : Refusal) → Fills Undecided old full from to → LineEnds full.held end → line_in (take end full.held) ≡ line.Refused refusal
    → new ≡ record full { held = drop (end + 1) full.held } → Reads old new from to (Ok (item.Refused refusal))
refused_read old full new from to end refusal fills ends says behind = record { full = full; fills = fills; answers = record { count = end + 1; some = omega arith; whole = whole_refused full.held end refusal ends says; needs = refused_needs full.held end refusal ends says; behind = behind } }
