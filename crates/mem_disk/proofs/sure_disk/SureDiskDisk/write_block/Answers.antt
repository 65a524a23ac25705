use Rattle.std.proofs.Common.{◌<◌, length, arith, true}
use Rattle.std.specs.Prelude.{slice_set}
use Rattle.mem_disk.specs.Memory.{Cells}
use Rattle.mem_disk.proofs.MemoryLemmas.{Notes, adds_noted, keeps_noted, told_write, undone_write}
use Rattle.mem_disk.proofs.sure_disk.SureDiskDisk.write_block.Goals as goal

pub returns-clause-written : goal.returns-clause-written
returns-clause-written c tells =
    let within : c.args.at < length c.args.self.now.flags.items = omega (arith, c.args.self.now.paired) in
    told_write (c.args.self.now.cells.items, c.args.self.now.flags.items) c.args.at c.args.from.now within

pub returns-clause-moments : goal.returns-clause-moments
returns-clause-moments c =
    let old : Cells = (c.args.self.now.cells.items, c.args.self.now.flags.items) in
    let new : Cells = (slice_set old.0 c.args.at c.args.from.now, slice_set old.1 c.args.at true) in
    let within : c.args.at < length c.args.self.now.flags.items = omega (arith, c.args.self.now.paired) in
    let notes : Notes c.args.self.now.is_told c.note.new.is_told c.args.self.now.steps.items c.note.new.steps.items old new = record {
      kept = λ is. let kept = c.note.ensures.kept is in (kept.0, (_, undone_write old.0 old.1 c.args.at c.args.from.now c.index.result.now c.index-2.result.now c.index.ensures c.index-2.ensures, kept.1));
    } in
    adds_noted _ _ _ _ old new _ notes (record { block = c.args.from.now; is = told_write old c.args.at c.args.from.now within })

pub returns-clause-keeps : goal.returns-clause-keeps
returns-clause-keeps c =
    let old : Cells = (c.args.self.now.cells.items, c.args.self.now.flags.items) in
    let new : Cells = (slice_set old.0 c.args.at c.args.from.now, slice_set old.1 c.args.at true) in
    let notes : Notes c.args.self.now.is_told c.note.new.is_told c.args.self.now.steps.items c.note.new.steps.items old new = record {
      kept = λ is. let kept = c.note.ensures.kept is in (kept.0, (_, undone_write old.0 old.1 c.args.at c.args.from.now c.index.result.now c.index-2.result.now c.index.ensures c.index-2.ensures, kept.1));
    } in
    keeps_noted _ _ _ _ old new notes
