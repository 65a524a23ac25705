-- What is read is what comes next.
use Rattle.std.proofs.Common.{◌≤◌, ◌≡◌, ◌∙◌, ◌<◌, ◌+◌, ◌-◌, ◌++◌, ℕ, Bool, true, false, Result, Ok, Err, List, [], ◌∷◌, length, take, drop, refl, sym, ap, subst, ⊎_elim, arith, append_assoc, length-append, length-drop}
use Rattle.std.specs.Prelude.{OnOk, IsTrue, nat_le}
use Rattle.std.proofs.lemmas.Bool.{cond-true, cond-false}
use Rattle.std.proofs.lemmas.Bool.Decides.{nat_tests}
use Rattle.std.proofs.lemmas.Grind.{common_steps}
use Rattle.std.proofs.lemmas.List.{append-nil, drop-append-le}
use Rattle.std.proofs.Math.Seq.{take-append-add}
use Rattle.wire_ends.specs.Ends.{Input}
use Rattle.command_text.specs.declared.fault.TextFault.{TextFault}
use Rattle.command_text.specs.declared.fault.TextFault.TheVariants.{Source, BadStream, Budget, OutOfMemory}
use Rattle.command_text.specs.declared.item.Item.{Item}
use Rattle.command_text.specs.declared.item.Item.TheVariants as item
use Rattle.command_text.specs.Front.{front}
use Rattle.command_text.specs.Text.{Text, next, next_from, at_input_end, is_end}
use Rattle.command_text.specs.Text.Next.{Given, Ended, Bad, Spent}
use Rattle.command_text.proofs.PieceLemmas.{LastPiece, last_piece}
use Rattle.command_text.specs.Reading.{Reading, unread, ReadsNext, Undecided, Falls, settled}
use Rattle.command_text.specs.Filling.{Fills, IsWrong, IsWhole, EndsInside, Stopped, GivesItem, Answers, ReadsSettled}

abbrev text_behind : List ℕ → List ℕ → ℕ → Text
text_behind held left budget = record { bytes = held ++ left; budget = length held + budget; is_over = false }

pub over_ends : (text : Text) → text.is_over ≡ true → next text ≡ Ended
unfolding next
over_ends text over = cond-true text.is_over Ended (next_from text (front (take text.budget text.bytes))) over

next_goes_on : (text : Text) → text.is_over ≡ false → next text ≡ next_from text (front (take text.budget text.bytes))
unfolding next
next_goes_on text over = cond-false text.is_over Ended (next_from text (front (take text.budget text.bytes))) over

next_seen : (held left : List ℕ) (budget : ℕ) → next (text_behind held left budget) ≡ next_from (text_behind held left budget) (front (held ++ take budget left))
next_seen held left budget = next_goes_on (text_behind held left budget) refl ∙ ap (λ (l : List ℕ). next_from (text_behind held left budget) (front l)) (take-append-add held left budget)

next_whole : (held left : List ℕ) (budget : ℕ) (item : Item) (count : ℕ) → IsWhole held item count
    → next (text_behind held left budget) ≡ Given item (record { bytes = drop count held ++ left; budget = length (drop count held) + budget; is_over = is_end item })
next_whole held left budget item count whole =
    let bytes : drop count (held ++ left) ≡ drop count held ++ left = drop-append-le count held left whole.within in
    let counted : length held + budget - count ≡ length (drop count held) + budget = let within = whole.within in omega (arith, length-drop count held) in
    next_seen held left budget
    ∙ ap (next_from (text_behind held left budget)) (whole.whole (take budget left))
    ∙ ap (λ (l : List ℕ). Given item (record { bytes = l; budget = length held + budget - count; is_over = is_end item })) bytes
    ∙ ap (λ (n : ℕ). Given item (record { bytes = drop count held ++ left; budget = n; is_over = is_end item })) counted

next_wrong : (held left : List ℕ) (budget : ℕ) → IsWrong held → next (text_behind held left budget) ≡ Bad
next_wrong held left budget wrong = next_seen held left budget ∙ ap (next_from (text_behind held left budget)) (wrong (take budget left))

next_spent : (held left : List ℕ) (budget : ℕ) → Undecided held → budget ≡ 0 → next (text_behind held left budget) ≡ Spent
next_spent held left budget undecided spent =
    let none : take budget left ≡ [] = ap (λ (n : ℕ). take n left) spent in
    let fits : nat_le (length held + budget) (length (held ++ left)) ≡ true = let e = length-append held left in grind (arith, nat_tests) in
    next_seen held left budget
    ∙ ap (λ (l : List ℕ). next_from (text_behind held left budget) (front (held ++ l))) none
    ∙ ap (λ (l : List ℕ). next_from (text_behind held left budget) (front l)) (append-nil held)
    ∙ ap (next_from (text_behind held left budget)) undecided
    ∙ cond-true (nat_le (length held + budget) (length (held ++ left))) Spent (at_input_end (held ++ left)) fits

take_none : (n : ℕ) (l : List ℕ) → l ≡ [] → take n l ≡ []
take_none n l nothing = grind (arith, common_steps)

next_at_end : (held left : List ℕ) (budget : ℕ) → Undecided held → 0 < budget → left ≡ [] → next (text_behind held left budget) ≡ at_input_end held
next_at_end held left budget undecided some nothing =
    let none : take budget left ≡ [] = take_none budget left nothing in
    let more : nat_le (length held + budget) (length (held ++ left)) ≡ false = let e = length-append held left in let l = ap length nothing in grind (arith, nat_tests) in
    next_seen held left budget
    ∙ ap (λ (l : List ℕ). next_from (text_behind held left budget) (front (held ++ l))) none
    ∙ ap (λ (l : List ℕ). next_from (text_behind held left budget) (front l)) (append-nil held)
    ∙ ap (next_from (text_behind held left budget)) undecided
    ∙ cond-false (nat_le (length held + budget) (length (held ++ left))) Spent (at_input_end (held ++ left)) more
    ∙ ap at_input_end (ap (λ (l : List ℕ). held ++ l) nothing ∙ append-nil held)

bad_inside : (held : List ℕ) → 0 < length held → at_input_end held ≡ Bad
bad_inside [] some = absurd (omega arith)
bad_inside (b ∷ held) some = refl

nothing_undecided : Undecided []
unfolding front
nothing_undecided = refl

-- what is to be read stays the same while bytes are taken
same_text : (old full : Reading) (from to : Input) → Fills Undecided old full from to → old.is_over ≡ false → IsTrue from.is_told → unread old from ≡ text_behind full.held to.left full.budget
same_text old full from to fills over told =
    let bytes : old.held ++ from.left ≡ full.held ++ to.left = ap (λ (l : List ℕ). old.held ++ l) (fills.takes.next told) ∙ sym (append_assoc old.held fills.taken to.left) ∙ ap (λ (l : List ℕ). l ++ to.left) (sym fills.held) in
    let counted : length old.held + old.budget ≡ length full.held + full.budget = omega (arith, fills.counted, ap length fills.held, length-append old.held fills.taken) in
    ap (λ (l : List ℕ). record { bytes = l; budget = length old.held + old.budget; is_over = old.is_over }) bytes
    ∙ ap (λ (n : ℕ). record { bytes = full.held ++ to.left; budget = n; is_over = old.is_over }) counted
    ∙ ap (λ (b : Bool). record { bytes = full.held ++ to.left; budget = length full.held + full.budget; is_over = b }) over

given : (full before : Reading) (to : Input) (item : Item) → GivesItem item full before → next (text_behind full.held to.left full.budget) ≡ Given item (unread (record before { is_over = is_end item }) to)
given full before to item gives =
    next_whole full.held to.left full.budget item gives.count gives.whole
    ∙ ap (λ (r : Reading). Given item (unread (record r { is_over = is_end item }) to)) (sym gives.behind)

stopped_next : (fault : TextFault) (full : Reading) (from to : Input) (behind : Text) → IsTrue from.is_told → Stopped fault full from to → ReadsNext (next (text_behind full.held to.left full.budget)) behind (Err fault)
stopped_next BadStream full from to behind told stopped =
    ⊎_elim
    (λ (wrong : IsWrong full.held). next_wrong full.held to.left full.budget wrong)
    (λ (inside : EndsInside full from to). next_at_end full.held to.left full.budget inside.undecided inside.ends.some_budget (inside.ends.nothing_left told) ∙ bad_inside full.held inside.some)
    stopped
stopped_next Budget full from to behind told stopped = next_spent full.held to.left full.budget stopped.undecided stopped.spent
stopped_next Source full from to behind told stopped = tt
stopped_next OutOfMemory full from to behind told stopped = tt

answered_next : (full before : Reading) (from to : Input) (result : Result Item TextFault) → IsTrue from.is_told → Answers full before from to result
    → ReadsNext (next (text_behind full.held to.left full.budget)) (unread (settled before result) to) result
answered_next full before from to (Ok (item.Command command)) told answers = given full before to (item.Command command) answers
answered_next full before from to (Ok (item.Refused refusal)) told answers = given full before to (item.Refused refusal) answers
answered_next full before from to (Ok item.Ended) told answers =
    next_at_end full.held to.left full.budget (subst Undecided (sym answers.nothing) nothing_undecided) answers.ends.some_budget (answers.ends.nothing_left told) ∙ ap at_input_end answers.nothing
answered_next full before from to (Err fault) told answers = stopped_next fault full from to (unread (settled before (Err fault)) to) told answers.stopped

pub settled_next : (old new : Reading) (from to : Input) (result : Result Item TextFault) → ReadsSettled old new from to result → old.is_over ≡ false → IsTrue from.is_told
    → ReadsNext (next (unread old from)) (unread new to) result
settled_next old new from to result reads over told =
    let full = reads.reads.full in
    let same = same_text old full from to reads.reads.fills over told in
    let answered = answered_next full reads.before from to result told reads.reads.answers in
    subst (λ (r : Reading). ReadsNext (next (unread old from)) (unread r to) result) (sym reads.settled_after)
    (subst (λ (t : Text). ReadsNext (next t) (unread (settled reads.before result) to) result) (sym same) answered)

-- after an item less is left
item_falls : (old full before : Reading) (from to : Input) (item : Item) → Fills Undecided old full from to → GivesItem item full before → length before.held + before.budget < length old.held + old.budget
item_falls old full before from to item fills gives =
    let some = gives.some in
    let within = gives.whole.within in
    let held = ap (λ (r : Reading). length r.held) gives.behind ∙ length-drop gives.count full.held in
    let budget : before.budget ≡ full.budget = ap (λ (r : Reading). r.budget) gives.behind in
    omega (arith, fills.counted, ap length fills.held, length-append old.held fills.taken)

pub settled_falls : (old new : Reading) (from to : Input) (result : Result Item TextFault) → ReadsSettled old new from to result → Falls (length old.held + old.budget) (length new.held + new.budget) result
settled_falls old new from to (Ok (item.Command command)) reads =
    subst (λ (r : Reading). length r.held + r.budget < length old.held + old.budget) (sym reads.settled_after) (item_falls old reads.reads.full reads.before from to (item.Command command) reads.reads.fills reads.reads.answers)
settled_falls old new from to (Ok (item.Refused refusal)) reads =
    subst (λ (r : Reading). length r.held + r.budget < length old.held + old.budget) (sym reads.settled_after) (item_falls old reads.reads.full reads.before from to (item.Refused refusal) reads.reads.fills reads.reads.answers)
settled_falls old new from to (Ok item.Ended) reads = tt
settled_falls old new from to (Err fault) reads = tt

-- after an item less than a piece is held
item_holds : (old full before : Reading) (from to : Input) (item : Item) → Fills Undecided old full from to → GivesItem item full before → length old.held ≤ 4096 → length before.held ≤ 4096
item_holds old full before from to item fills gives few =
    let held = ap (λ (r : Reading). length r.held) gives.behind ∙ length-drop gives.count full.held in
    ⊎_elim
    (λ (none : fills.taken ≡ []). omega (arith, ap length fills.held, length-append old.held fills.taken, ap length none))
    (λ (last : LastPiece Undecided old.held fills.taken).
    let parts : full.held ≡ (old.held ++ last.before) ++ last.piece = fills.held ∙ ap (λ (l : List ℕ). old.held ++ l) last.parts ∙ sym (append_assoc old.held last.before last.piece) in
    let needed = gives.needs (old.held ++ last.before) last.piece parts last.needed in
    let at_most = last.at_most in
    omega (arith, ap length parts, length-append (old.held ++ last.before) last.piece))
    (last_piece Undecided old.held fills.taken fills.needed)

pub settled_holds : (old new : Reading) (from to : Input) (result : Result Item TextFault) → ReadsSettled old new from to result → length old.held ≤ 4096 → OnOk result (length new.held ≤ 4096)
settled_holds old new from to (Ok (item.Command command)) reads few =
    subst (λ (r : Reading). length r.held ≤ 4096) (sym reads.settled_after) (item_holds old reads.reads.full reads.before from to (item.Command command) reads.reads.fills reads.reads.answers few)
settled_holds old new from to (Ok (item.Refused refusal)) reads few =
    subst (λ (r : Reading). length r.held ≤ 4096) (sym reads.settled_after) (item_holds old reads.reads.full reads.before from to (item.Refused refusal) reads.reads.fills reads.reads.answers few)
settled_holds old new from to (Ok item.Ended) reads few =
    let none = ap length reads.reads.answers.nothing in
    let held = ap (λ (r : Reading). length r.held) (reads.settled_after ∙ ap (λ (r : Reading). settled r (Ok item.Ended)) reads.reads.answers.same) in
    omega arith
settled_holds old new from to (Err fault) reads few = tt
