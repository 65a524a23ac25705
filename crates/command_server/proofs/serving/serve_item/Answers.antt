use Rattle.std.proofs.Common.{sym, ap, subst, Some, Err, Result}
use Rattle.std.specs.Prelude.{IsTrue}
use Rattle.log_volume.specs.Fits.{kept_by}
use Rattle.command_text.specs.Reading.{unread}
use Rattle.command_text.specs.declared.fault.TextFault.{TextFault}
use Rattle.command_text.specs.declared.item.Item.{Item}
use Rattle.command_server.specs.Serving.{no_text}
use Rattle.command_server.specs.Session.{Session, point}
use Rattle.command_server.specs.declared.status.Status.{Status}
use Rattle.command_server.proofs.StepLemmas.{nothing_read, unread_ends}
use Rattle.command_server.proofs.serving.serve_item.Goals as goal

pub returns-in-Err-clause-session : goal.returns-in-Err-clause-session
returns-in-Err-clause-session g c =
    let failed : TextFault → Result Item TextFault = λ f. Err f in
    subst (λ (status : Status). Session c.args.volume.now.root.layout.log_blocks g.D.Disk.tells
    (point (unread c.args.reader.now (g.R.Source.seen c.args.source.now)) (g.R.Source.seen c.args.source.now) (g.W.Sink.seen c.args.sink.now) (kept_by c.args.volume.now) (g.D.Disk.state c.args.disk.now) (g.D.Disk.past c.args.disk.now))
    (point no_text (g.R.Source.seen c.read_command.new.source) (g.W.Sink.seen c.args.sink.now) (kept_by c.args.volume.now) (g.D.Disk.state c.args.disk.now) (g.D.Disk.past c.args.disk.now)) (Some status)) (sym c.status_of.ensures)
    (nothing_read c.read_command.ensures.takes.takes.told c.requires.fits
    (unread_ends (IsTrue (g.R.Source.seen c.args.source.now).is_told) c.in-Err.fault (unread c.args.reader.now (g.R.Source.seen c.args.source.now)) (unread c.read_command.new.self (g.R.Source.seen c.read_command.new.source)) (g.R.Source.seen c.read_command.new.source) (g.W.Sink.seen c.args.sink.now)
    (kept_by c.args.volume.now) (g.D.Disk.state c.args.disk.now) (g.D.Disk.past c.args.disk.now)
    (λ told. c.in-Err.ensures.reads c.requires.no_fault told)
    (λ told is. let left = c.in-Err.ensures.undecided c.requires.no_fault (ap failed is) in record { held = c.read_command.new.self.held; parts = left.kept told; undecided = left.undecided })))

pub returns-in-Ok-clause-session : goal.returns-in-Ok-clause-session
returns-in-Ok-clause-session g c = c.answer_item-served.ensures.session _ _ _ _ (record { told = c.read_command.ensures.takes.takes.told; comes = c.in-Ok.ensures.reads c.requires.no_fault })
