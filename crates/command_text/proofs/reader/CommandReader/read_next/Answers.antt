use Rattle.std.proofs.Common.{◌≡◌, ◌∙◌, ◌+◌, ℕ, List, take, drop, ap, sym}
use Rattle.line_text.specs.Lines.{line_in}
use Rattle.command_text.specs.Holding.{Holding}
use Rattle.command_text.specs.Reading.{Reading}
use Rattle.command_text.proofs.DataLemmas.{command_read, refused_read}
use Rattle.command_text.proofs.FillLemmas.{reads_after}
use Rattle.command_text.proofs.reader.CommandReader.read_next.Goals as goal

pub returns-in-Ok-Command-clause-reads : goal.returns-in-Ok-Command-clause-reads
returns-in-Ok-Command-clause-reads g c =
    let ends = rw c.in-Some.is at c.in_ok-end.ensures.line in
    let inside : c.self.inside.held.bytes ≡ c.fill_line.new.self.held = ap (λ (r : Reading). r.held) c.self.view_is in
    let said = rw c.in-Ok-Command.field-0-is at c.in-Ok-Command.ensures in
    let skipped : c.skip.new.self.bytes ≡ drop (c.in-Some.end + 1) c.fill_line.new.self.held = ap (λ (h : Holding). h.bytes) c.skip.ensures ∙ ap (λ (l : List ℕ). drop (c.in-Some.end + 1) l) inside in
    command_read c.args.self.now c.fill_line.new.self _ (g.R.Source.seen c.args.source.now) (g.R.Source.seen c.fill_line.new.source) c.in-Some.end c.in-Ok-Command.command c.in_ok-end.ensures.fills ends
    (sym (said ∙ ap (λ (l : List ℕ). line_in (take c.in-Some.end l)) (c.as_slice.ensures ∙ inside)))
    (ap (λ (r : Reading). record r { held = c.skip.new.self.bytes }) c.self.view_is ∙ ap (λ (l : List ℕ). record c.fill_line.new.self { held = l }) skipped)

pub returns-in-Ok-Refused-clause-reads : goal.returns-in-Ok-Refused-clause-reads
returns-in-Ok-Refused-clause-reads g c =
    let ends = rw c.in-Some.is at c.in_ok-end.ensures.line in
    let inside : c.self.inside.held.bytes ≡ c.fill_line.new.self.held = ap (λ (r : Reading). r.held) c.self.view_is in
    let said = rw c.in-Ok-Refused.field-0-is at c.in-Ok-Refused.ensures in
    let skipped : c.skip-in-Ok-Refused.new.self.bytes ≡ drop (c.in-Some.end + 1) c.fill_line.new.self.held = ap (λ (h : Holding). h.bytes) c.skip-in-Ok-Refused.ensures ∙ ap (λ (l : List ℕ). drop (c.in-Some.end + 1) l) inside in
    refused_read c.args.self.now c.fill_line.new.self _ (g.R.Source.seen c.args.source.now) (g.R.Source.seen c.fill_line.new.source) c.in-Some.end c.in-Ok-Refused.refusal c.in_ok-end.ensures.fills ends
    (sym (said ∙ ap (λ (l : List ℕ). line_in (take c.in-Some.end l)) (c.as_slice.ensures ∙ inside)))
    (ap (λ (r : Reading). record r { held = c.skip-in-Ok-Refused.new.self.bytes }) c.self.view_is ∙ ap (λ (l : List ℕ). record c.fill_line.new.self { held = l }) skipped)

pub returns-in-Ok-Write-clause-reads : goal.returns-in-Ok-Write-clause-reads
returns-in-Ok-Write-clause-reads g c =
    reads_after c.args.self.now c.fill_line.new.self c.read_data.new.self (g.R.Source.seen c.args.source.now) (g.R.Source.seen c.fill_line.new.source) (g.R.Source.seen c.read_data.new.source) c.read_data.result c.in_ok-end.ensures.fills c.read_data.ensures.reads
