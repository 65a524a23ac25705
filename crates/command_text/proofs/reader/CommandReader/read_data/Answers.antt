use Rattle.std.proofs.Common.{◌≡◌, ◌∙◌, ◌+◌, ◌-◌, ℕ, List, get_or, take, drop, ap, sym, subst, arith}
use Rattle.command_text.specs.Holding.{Holding}
use Rattle.command_text.specs.Reading.{Reading}
use Rattle.command_text.specs.Filling.{AsksToWrite}
use Rattle.command_text.specs.Front.{write_of}
use Rattle.command_text.proofs.DataLemmas.{data_fails, data_unended, data_without_memory, data_read}
use Rattle.command_text.proofs.reader.CommandReader.read_data.Goals as goal

pub returns-in-Err-clause-reads : goal.returns-in-Err-clause-reads
returns-in-Err-clause-reads g c =
    let asks = subst (λ (n : ℕ). AsksToWrite c.args.self.now.held c.args.end c.args.path c.args.offset n) (sym c.get.ensures.is) c.requires in
    let e = c.in-Err.ensures in
    data_fails c.args.self.now c.fill_to.new.self (g.R.Source.seen c.args.source.now) (g.R.Source.seen c.fill_to.new.source) c.args.end c.args.path c.args.offset c.get.result asks e.fills c.in-Err.fault e.short e.err

pub returns-then-bytes-behind-ne10-clause-reads : goal.returns-then-bytes-behind-ne10-clause-reads
returns-then-bytes-behind-ne10-clause-reads g c =
    let asks = subst (λ (n : ℕ). AsksToWrite c.args.self.now.held c.args.end c.args.path c.args.offset n) (sym c.get.ensures.is) c.requires in
    let e = c.in_default.ensures in
    let held = c.as_slice-bytes.ensures ∙ ap (λ (r : Reading). r.held) c.self.view_is in
    data_unended c.args.self.now c.fill_to.new.self (g.R.Source.seen c.args.source.now) (g.R.Source.seen c.fill_to.new.source) c.args.end c.args.path c.args.offset c.get.result asks e.fills e.full
    (λ is. c.if-bytes-behind-ne10.true (ap (λ (l : List ℕ). get_or l (c.args.end + 1 + c.get.result) 0) held ∙ is))

pub returns-in-Err-written-clause-reads : goal.returns-in-Err-written-clause-reads
returns-in-Err-written-clause-reads g c =
    let asks = subst (λ (n : ℕ). AsksToWrite c.args.self.now.held c.args.end c.args.path c.args.offset n) (sym c.get.ensures.is) c.requires in
    data_without_memory c.args.self.now c.fill_to.new.self (g.R.Source.seen c.args.source.now) (g.R.Source.seen c.fill_to.new.source) c.args.end c.args.path c.args.offset c.get.result asks c.in_default.ensures.fills

pub returns-in-Ok-clause-reads : goal.returns-in-Ok-clause-reads
returns-in-Ok-clause-reads g c =
    let asks = subst (λ (n : ℕ). AsksToWrite c.args.self.now.held c.args.end c.args.path c.args.offset n) (sym c.get.ensures.is) c.requires in
    let e = c.in_default.ensures in
    let inside : c.self.inside.held.bytes ≡ c.fill_to.new.self.held = ap (λ (r : Reading). r.held) c.self.view_is in
    let held : c.as_slice-bytes.result.now ≡ c.fill_to.new.self.held = c.as_slice-bytes.ensures ∙ inside in
    let count : c.args.end + 1 + c.get.result - (c.args.end + 1) ≡ c.get.result = omega arith in
    let skipped : c.skip.new.self.bytes ≡ drop (c.args.end + 1 + c.get.result + 1) c.fill_to.new.self.held = ap (λ (h : Holding). h.bytes) c.skip.ensures ∙ ap (λ (l : List ℕ). drop (c.args.end + 1 + c.get.result + 1) l) inside in
    data_read c.args.self.now c.fill_to.new.self (g.R.Source.seen c.args.source.now) (g.R.Source.seen c.fill_to.new.source) c.args.end c.args.path c.args.offset c.get.result asks e.fills
    _ c.in-Ok.item e.full (ap (λ (l : List ℕ). get_or l (c.args.end + 1 + c.get.result) 0) (sym held) ∙ c.if-bytes-behind-ne10.false)
    (ap (λ (r : Reading). record r { held = c.skip.new.self.bytes }) c.self.view_is ∙ ap (λ (l : List ℕ). record c.fill_to.new.self { held = l }) skipped)
    (c.in-Ok.ensures ∙ ap (write_of c.args.path c.args.offset) (ap (λ (n : ℕ). take n (drop (c.args.end + 1) c.as_slice-bytes.result.now)) count ∙ ap (λ (l : List ℕ). take c.get.result (drop (c.args.end + 1) l)) held))
