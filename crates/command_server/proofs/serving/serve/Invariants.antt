use Rattle.std.proofs.Common.{◌≡◌, ◌+◌, None, length, false}
use Rattle.std.specs.Prelude.{IsTrue}
use Rattle.log_volume.specs.Fits.{Fits, kept_by}
use Rattle.command_text.specs.Reading.{unread}
use Rattle.command_server.specs.Serving.{text_of_source}
use Rattle.command_server.specs.Session.{Session, point}
use Rattle.command_server.proofs.serving.serve.Given as goal

abbrev pub invariant-items : goal.invariant-items
invariant-items g l = record {
  layout : l.volume.root.layout ≡ l.fn.volume.root.layout;
  sound : l.volume.is_failed ≡ false;
  fits : IsTrue g.D.Disk.tells → Fits l.volume (g.D.Disk.state l.disk);
  no_fault : l.reader.fault ≡ None;
  fixed : g.D.Disk.fixed l.disk ≡ g.D.Disk.fixed l.fn.disk;
  device : g.D.Disk.faults l.disk ≡ g.D.Disk.faults l.fn.disk;
  source : (g.R.Source.seen l.source).faults ≡ (g.R.Source.seen l.fn.source).faults;
  sink : (g.W.Sink.seen l.sink).faults ≡ (g.W.Sink.seen l.fn.sink).faults;
  so_far : Session l.fn.volume.root.layout.log_blocks g.D.Disk.tells
      (point (text_of_source l.budget (g.R.Source.seen l.fn.source)) (g.R.Source.seen l.fn.source) (g.W.Sink.seen l.fn.sink) (kept_by l.fn.volume) (g.D.Disk.state l.fn.disk) (g.D.Disk.past l.fn.disk))
      (point (unread l.reader (g.R.Source.seen l.source)) (g.R.Source.seen l.source) (g.W.Sink.seen l.sink) (kept_by l.volume) (g.D.Disk.state l.disk) (g.D.Disk.past l.disk))
      None;
}

abbrev pub decreases-items : goal.decreases-items
decreases-items g l = length l.reader.held + l.reader.budget
