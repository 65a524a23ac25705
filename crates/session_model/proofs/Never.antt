-- Where nothing is asked for but what is read, nothing is written.
use Rattle.std.proofs.Common.{◌≡◌, ◌∙◌, Bool, true, false, List, [], ◌∷◌, refl, sym, ap}
use Rattle.std.specs.Prelude.{◌&&◌, not, if◌then◌else◌, Option, None, Some, is_some}
use Rattle.std.proofs.lemmas.Bool.{true≢false, false≢true}
use Rattle.tree_model.specs.declared.command.Command.{Command}
use Rattle.tree_model.specs.declared.command.Command.TheVariants.{Mkdir, Create, Write, Truncate, Remove, Rename, Read, List as ListOf, Stat, Layout, Space, Checkpoint, End}
use Rattle.tree_model.specs.declared.report.Report.{Report}
use Rattle.tree_model.specs.declared.report.Answer.{Answer}
use Rattle.tree_model.specs.Step.{is_change, refusal_of}
use Rattle.volume_model.specs.Legal.{IsLegal, MayReport, changes, is_due, is_full, is_done, is_nothing}
use Rattle.volume_model.specs.Machine.{Machine, Rules}
use Rattle.volume_model.specs.Short.{AnswerForNow, answered, point_short, IsLegalForNow, is_short}
use Rattle.command_text.specs.declared.item.Item.{Item}
use Rattle.command_text.specs.declared.item.Item.TheVariants as item
use Rattle.session_model.specs.Course.{Exchange, Last, next_by}
use Rattle.session_model.specs.Course.Last.{Nothing, Untold, Stop}
use Rattle.session_model.specs.Answered.{IsPaired, EachPaired, IsLegalAt, EachLegal, may_write}
use Rattle.session_model.specs.Follows.{Seen, is_idle, all_idle}
use Rattle.session_model.specs.CourseLaws.{only_reads, item_reads, each_reads, ReadsKeep}
use Rattle.session_model.proofs.Joining.{and_left, and_right, and_both}

reads_are : (r : Rules) (m : Machine) (command : Command) → only_reads command ≡ true → (is_due m command ≡ false) × (is_change command ≡ false)
reads_are r m (Mkdir path) e = absurd (false≢true e)
reads_are r m (Create path) e = absurd (false≢true e)
reads_are r m (Write path offset []) e = (refl, refl)
reads_are r m (Write path offset (b ∷ bytes)) e = absurd (false≢true e)
reads_are r m (Truncate path size) e = absurd (false≢true e)
reads_are r m (Remove path) e = absurd (false≢true e)
reads_are r m (Rename from to) e = absurd (false≢true e)
reads_are r m (Read path offset len) e = (refl, refl)
reads_are r m (ListOf path) e = (refl, refl)
reads_are r m (Stat path) e = (refl, refl)
reads_are r m (Layout path) e = (refl, refl)
reads_are r m Space e = (refl, refl)
reads_are r m Checkpoint e = absurd (false≢true e)
reads_are r m End e = (refl, refl)

no_report : (r : Rules) (m : Machine) (command : Command) (report : Option Report) → is_due m command ≡ false → MayReport r m command report → is_some report ≡ false
no_report r m command None not_due may = refl
no_report r m command (Some report) not_due may = absurd (true≢false (sym may.0 ∙ not_due))

-- where no point is due, an answer that is legal for now is legal, and never that a point lacks blocks
legal_command : (r : Rules) (m : Machine) (command : Command) (given : Answer) → is_due m command ≡ false → IsLegalForNow r m command (answered given) → IsLegal r m command given
legal_command r m command given not_due legal = let e : (is_due m command && is_short m) ≡ false = ap (λ (b : Bool). b && is_short m) not_due in rw e at legal

never_short : (r : Rules) (m : Machine) (command : Command) → is_due m command ≡ false → IsLegalForNow r m command point_short → ⊥
never_short r m command not_due legal = let e : (is_due m command && is_short m) ≡ false = ap (λ (b : Bool). b && is_short m) not_due in rw e at legal

idle_command : (r : Rules) (m : Machine) (command : Command) (answer : AnswerForNow) → only_reads command ≡ true → IsLegalForNow r m command answer → is_idle (record { item = item.Command command; answer = answer }) ≡ true
idle_command r m command (answered given) reads legal =
    let are = reads_are r m command reads in
    ap (λ (b : Bool). not b && is_nothing (if is_change command && is_done given.reply then command ∷ [] else [])) (no_report r m command given.report are.0 (legal_command r m command given are.0 legal).report)
    ∙ ap (λ (b : Bool). is_nothing (if b && is_done given.reply then command ∷ [] else [])) are.1
idle_command r m command point_short reads legal = absurd (never_short r m command (reads_are r m command reads).0 legal)

idle_at : (r : Rules) (m : Machine) (i : Item) (answer : AnswerForNow) → IsPaired (record { item = i; answer = answer }) → IsLegalAt r m (record { item = i; answer = answer }) → item_reads i ≡ true
    → is_idle (record { item = i; answer = answer }) ≡ true
idle_at r m (item.Command command) answer paired legal reads = idle_command r m command answer reads legal.0
idle_at r m (item.Refused refusal) answer paired legal reads = ap (λ (a : AnswerForNow). is_idle (record { item = item.Refused refusal; answer = a })) paired
idle_at r m item.Ended answer paired legal reads = absurd paired

not_written : (r : Rules) (m : Machine) (command : Command) → only_reads command ≡ true → may_write m command ≡ false
not_written r m command reads =
    let are = reads_are r m command reads in
    ap (λ (b : Bool). if b then not (is_short m) else changes m command && not (is_full m command)) are.0
    ∙ ap (λ (b : Bool). (b && not (is_some (refusal_of m.tree command))) && not (is_full m command)) are.1

idle_each : (r : Rules) (m : Machine) (es : List Exchange) (last : Last) → EachPaired es last → EachLegal r m es last → each_reads es last ≡ true → all_idle es last ≡ true
idle_each r m [] Nothing paired legal reads = refl
idle_each r m [] (Untold e) paired legal reads = idle_at r m e.item e.answer paired legal reads
idle_each r m [] (Stop command report) paired legal reads = absurd (true≢false (sym legal.writes ∙ not_written r m command reads))
idle_each r m (e ∷ es) last paired legal reads =
    and_both (is_idle e) (all_idle es last) (idle_at r m e.item e.answer paired.0 legal.0 (and_left (item_reads e.item) (each_reads es last) reads))
    (idle_each r (next_by r m e) es last paired.1 legal.1 (and_right (item_reads e.item) (each_reads es last) reads))

pub reads_kept : (tells : Bool) (old new : Seen) → ReadsKeep tells old new
reads_kept tells old new r c is reads follows = follows.idle is (idle_each r c.start c.told c.last follows.paired (follows.legal is) reads)
