use Rattle.std.proofs.Common.{inr, subst, Bool, List}
use Rattle.mem_disk.specs.Memory.{Cells, IsSyncOf}
use Rattle.mem_disk.proofs.MemoryLemmas.{Notes, adds_noted, keeps_noted, told_sync, undone_sync}
use Rattle.mem_disk.proofs.sure_disk.SureDiskDisk.sync.Goals as goal

pub returns-clause-synced : goal.returns-clause-synced
returns-clause-synced c tells = told_sync (c.args.self.now.cells.items, c.args.self.now.flags.items) c.close_all.new.flags.items c.close_all.ensures.closed

pub returns-clause-moments : goal.returns-clause-moments
returns-clause-moments c =
    let old : Cells = (c.args.self.now.cells.items, c.args.self.now.flags.items) in
    let notes : Notes c.args.self.now.is_told c.note_sync.new.is_told c.args.self.now.steps.items c.note_sync.new.steps.items old (c.args.self.now.cells.items, c.close_all.new.flags.items) = record {
      kept = λ is. let kept = c.note_sync.ensures.kept is in (kept.0, (kept.1.0, undone_sync kept.1.0 _ _ _ (subst (λ (f : List Bool). IsSyncOf kept.1.0 f) c.deref.ensures.value kept.1.1), kept.1.2));
    } in
    adds_noted _ _ _ _ old _ _ notes (inr (told_sync old c.close_all.new.flags.items c.close_all.ensures.closed))

pub returns-clause-keeps : goal.returns-clause-keeps
returns-clause-keeps c =
    let old : Cells = (c.args.self.now.cells.items, c.args.self.now.flags.items) in
    let notes : Notes c.args.self.now.is_told c.note_sync.new.is_told c.args.self.now.steps.items c.note_sync.new.steps.items old (c.args.self.now.cells.items, c.close_all.new.flags.items) = record {
      kept = λ is. let kept = c.note_sync.ensures.kept is in (kept.0, (kept.1.0, undone_sync kept.1.0 _ _ _ (subst (λ (f : List Bool). IsSyncOf kept.1.0 f) c.deref.ensures.value kept.1.1), kept.1.2));
    } in
    keeps_noted _ _ _ _ old _ notes
