-- How a reader fills up.
use Rattle.std.proofs.Common.{◌≡◌, ◌∙◌, ◌+◌, ◌++◌, ℕ, List, [], length, refl, sym, ap, subst, inl, inr, arith, append_assoc, length-append}
use Rattle.std.proofs.Common.{◌<◌, ◌∷◌, Option, Some, None, Result, Ok, Err}
use Rattle.std.proofs.Common.{⊎_elim}
use Rattle.command_text.specs.Front.{is_newline}
use Rattle.line_text.proofs.PlaceLemmas.{place_of_found}
use Rattle.std.specs.Prelude.{IsTrue, IfOk, IfErr, IfNone}
use Rattle.std.proofs.lemmas.List.{append-nil}
use Rattle.command_text.specs.declared.fault.TextFault.{TextFault}
use Rattle.command_text.specs.declared.item.Item.{Item}
use Rattle.command_text.specs.declared.item.Item.TheVariants as item
use Rattle.command_text.proofs.FrontLemmas.{front_short, asks_with_more}
use Rattle.command_text.specs.declared.fault.TextFault.TheVariants.{Source, BadStream, Budget, OutOfMemory}
use Rattle.wire_ends.specs.Ends.{Input}
use Rattle.command_text.specs.Reading.{Reading, Undecided, TakesNeeded}
use Rattle.command_text.proofs.PieceLemmas.{needs_none, needs_piece, needs_both, needs_weaker}
use Rattle.command_text.specs.Filling.{HoldsMore, TakesPiece, Fills, InputEnds, EndsInside, Stopped, Fails, AsksToWrite, IsShorter, Reads, Answers, IsWrong}

-- where nothing changed, the piece is empty
pub took_nothing : (old new : Reading) (from to : Input) → HoldsMore old.held new.held from to → new ≡ old → TakesPiece old new from to
took_nothing old new from to more same =
    let counted : length new.held ≡ length old.held = ap (λ (r : Reading). length r.held) same in
    let budget : new.budget ≡ old.budget = ap (λ (r : Reading). r.budget) same in
    let lengths = ap length more.behind ∙ length-append old.held more.piece in
    record {
      piece = more.piece;
      takes = more.takes;
      held = more.behind;
      counted = omega arith;
      at_most = omega arith;
      over = ap (λ (r : Reading). r.is_over) same;
      fault = ap (λ (r : Reading). r.fault) same;
    }

-- at first nothing is taken
pub no_fill : (Holds : List ℕ → Type 0) (reading : Reading) (source : Input) → Fills Holds reading reading source source
no_fill Holds reading source = record {
  taken = [];
  takes = record { told = λ told. told; next = λ told. refl };
  held = sym (append-nil reading.held);
  counted = omega arith;
  needed = needs_none Holds reading.held;
  over = refl;
  fault = refl;
}

-- one piece more, which is needed
pub fills_more : (Holds : List ℕ → Type 0) (old mid new : Reading) (from between to : Input) → Fills Holds old mid from between → Holds mid.held → TakesPiece mid new between to → Fills Holds old new from to
fills_more Holds old mid new from between to fills needed piece = record {
  taken = fills.taken ++ piece.piece;
  takes = record {
    told = λ told. piece.takes.told (fills.takes.told told);
    next = λ told. fills.takes.next told ∙ ap (λ (l : List ℕ). fills.taken ++ l) (piece.takes.next (fills.takes.told told)) ∙ sym (append_assoc fills.taken piece.piece to.left);
  };
  held = piece.held ∙ ap (λ (l : List ℕ). l ++ piece.piece) fills.held ∙ append_assoc old.held fills.taken piece.piece;
  counted = omega (arith, fills.counted, piece.counted, length-append fills.taken piece.piece);
  needed = needs_both Holds old.held fills.taken piece.piece fills.needed (needs_piece Holds (old.held ++ fills.taken) piece.piece piece.at_most (subst Holds fills.held needed));
  over = piece.over ∙ fills.over;
  fault = piece.fault ∙ fills.fault;
}

-- pieces were taken so far, and none failed
pub record FilledSoFar (Same : Type 0) (Filled : Type 0) : Type 0 where
  pub filled : Filled
  pub same : Same

all_empty : (piece rest : List ℕ) → [] ≡ piece ++ rest → rest ≡ []
all_empty [] rest e = sym e
all_empty (b ∷ piece) rest e = cc

-- an empty piece was the end of the input
pub input_ends : (old new : Reading) (start from to : Input) → (IsTrue start.is_told → IsTrue from.is_told) → 0 < old.budget → new ≡ old → (IsTrue from.is_told → from.left ≡ []) → TakesPiece old new from to → InputEnds new start to
input_ends old new start from to told some same empty piece = record {
  some_budget = let budget : new.budget ≡ old.budget = ap (λ (r : Reading). r.budget) same in omega arith;
  nothing_left = λ is. all_empty piece.piece to.left (sym (empty (told is)) ∙ piece.takes.next (told is));
}

-- whatever was answered
pub where_none : (P : Type 0) (r : Result (Option ℕ) TextFault) → P → IfOk r (λ end. IfNone end P)
where_none P (Ok None) holds = holds
where_none P (Ok (Some end)) holds = tt
where_none P (Err fault) holds = tt

-- inside a line the input ends with a fault
pub ends_inside : (reading : Reading) (from to : Input) (r : Result (Option ℕ) TextFault) → IfErr r (λ fault. (fault ≡ BadStream) × (0 < length reading.held)) → Undecided reading.held → InputEnds reading from to
    → IfErr r (λ fault. Stopped fault reading from to)
ends_inside reading from to (Ok end) err undecided ends = tt
ends_inside reading from to (Err BadStream) err undecided ends = inr (record { undecided = undecided; some = err.1; ends = ends })
ends_inside reading from to (Err Source) err undecided ends = absurd (let e = err.0 in cc)
ends_inside reading from to (Err Budget) err undecided ends = absurd (let e = err.0 in cc)
ends_inside reading from to (Err OutOfMemory) err undecided ends = absurd (let e = err.0 in cc)

-- a fill that was needed by one test was needed by another
pub fills_weaker : (One Two : List ℕ → Type 0) (old new : Reading) (from to : Input) → ((taken : List ℕ) → One (old.held ++ taken) → Two (old.held ++ taken)) → Fills One old new from to → Fills Two old new from to
fills_weaker One Two old new from to follows fills = record {
  taken = fills.taken;
  takes = fills.takes;
  held = fills.held;
  counted = fills.counted;
  needed = needs_weaker One Two old.held fills.taken follows fills.needed;
  over = fills.over;
  fault = fills.fault;
}

-- two fills are one
pub fills_both : (Holds : List ℕ → Type 0) (old mid new : Reading) (from between to : Input) → Fills Holds old mid from between → Fills Holds mid new between to → Fills Holds old new from to
fills_both Holds old mid new from between to one two = record {
  taken = one.taken ++ two.taken;
  takes = record {
    told = λ told. two.takes.told (one.takes.told told);
    next = λ told. one.takes.next told ∙ ap (λ (l : List ℕ). one.taken ++ l) (two.takes.next (one.takes.told told)) ∙ sym (append_assoc one.taken two.taken to.left);
  };
  held = two.held ∙ ap (λ (l : List ℕ). l ++ two.taken) one.held ∙ append_assoc old.held one.taken two.taken;
  counted = omega (arith, one.counted, two.counted, length-append one.taken two.taken);
  needed = needs_both Holds old.held one.taken two.taken one.needed (subst (λ (l : List ℕ). TakesNeeded Holds l two.taken) one.held two.needed);
  over = two.over ∙ one.over;
  fault = two.fault ∙ one.fault;
}

-- the fill for the data of a write
pub fills_data : (old new : Reading) (from to : Input) (end : ℕ) (path : Option (List (List ℕ))) (offset count : ℕ) → AsksToWrite old.held end path offset count
    → Fills (IsShorter (end + 1 + count + 1)) old new from to → Fills Undecided old new from to
fills_data old new from to end path offset count asks fills =
    fills_weaker (IsShorter (end + 1 + count + 1)) Undecided old new from to (λ taken short. front_short (old.held ++ taken) end path offset count (asks_with_more old.held taken end path offset count asks) short) fills

-- what the line asks for stays
pub asks_after : (old new : Reading) (from to : Input) (Holds : List ℕ → Type 0) (end : ℕ) (path : Option (List (List ℕ))) (offset count : ℕ) → AsksToWrite old.held end path offset count
    → Fills Holds old new from to → AsksToWrite new.held end path offset count
asks_after old new from to Holds end path offset count asks fills =
    subst (λ (l : List ℕ). AsksToWrite l end path offset count) (sym fills.held) (asks_with_more old.held fills.taken end path offset count asks)

-- a fill for data that stopped
pub data_stopped : (fault : TextFault) (reading : Reading) (from to : Input) (end : ℕ) (path : Option (List (List ℕ))) (offset count : ℕ) → AsksToWrite reading.held end path offset count
    → length reading.held < end + 1 + count + 1 → Fails fault reading from to → Stopped fault reading from to
data_stopped BadStream reading from to end path offset count asks short fails =
    inr (record { undecided = front_short reading.held end path offset count asks short; some = omega (arith, (place_of_found is_newline reading.held end asks.ends.found).1); ends = fails })
data_stopped Budget reading from to end path offset count asks short fails = record { undecided = front_short reading.held end path offset count asks short; spent = fails }
data_stopped Source reading from to end path offset count asks short fails = front_short reading.held end path offset count asks short
data_stopped OutOfMemory reading from to end path offset count asks short fails = tt

-- what was answered of the input between is answered of the input before
inside_from : (reading : Reading) (from between to : Input) → (IsTrue from.is_told → IsTrue between.is_told) → EndsInside reading between to → EndsInside reading from to
inside_from reading from between to told inside = record { undecided = inside.undecided; some = inside.some; ends = record { some_budget = inside.ends.some_budget; nothing_left = λ is. inside.ends.nothing_left (told is) } }

stopped_from : (fault : TextFault) (reading : Reading) (from between to : Input) → (IsTrue from.is_told → IsTrue between.is_told) → Stopped fault reading between to → Stopped fault reading from to
stopped_from BadStream reading from between to told stopped = ⊎_elim (λ (wrong : IsWrong reading.held). inl wrong) (λ (inside : EndsInside reading between to). inr (inside_from reading from between to told inside)) stopped
stopped_from Budget reading from between to told stopped = stopped
stopped_from Source reading from between to told stopped = stopped
stopped_from OutOfMemory reading from between to told stopped = tt

answers_from : (old new : Reading) (from between to : Input) (result : Result Item TextFault) → (IsTrue from.is_told → IsTrue between.is_told) → Answers old new between to result → Answers old new from to result
answers_from old new from between to (Ok (item.Command command)) told answers = answers
answers_from old new from between to (Ok (item.Refused refusal)) told answers = answers
answers_from old new from between to (Ok item.Ended) told answers = record { nothing = answers.nothing; ends = record { some_budget = answers.ends.some_budget; nothing_left = λ is. answers.ends.nothing_left (told is) }; same = answers.same }
answers_from old new from between to (Err fault) told answers = record { stopped = stopped_from fault old from between to told answers.stopped; same = answers.same }

-- a reader that reads on after a fill
pub reads_after : (old mid new : Reading) (from between to : Input) (result : Result Item TextFault) → Fills Undecided old mid from between → Reads mid new between to result → Reads old new from to result
reads_after old mid new from between to result fills reads = record {
  full = reads.full;
  fills = fills_both Undecided old mid reads.full from between to fills reads.fills;
  answers = answers_from reads.full new from between to result fills.takes.told reads.answers;
}
