use Rattle.std.proofs.Common.{◌≡◌, ◌∙◌, ℕ, [], false, inl, refl, sym, ap, subst, None, Some, zero-add}
use Rattle.vol_numbers.specs.Layout.{Layout}
use Rattle.wire_ends.specs.Ends.{Input}
use Rattle.log_volume.specs.Fits.{kept_by}
use Rattle.command_text.specs.Reading.{Reading, unread}
use Rattle.command_text.specs.Text.{Text}
use Rattle.command_server.specs.Serving.{text_of_source, no_text}
use Rattle.command_server.specs.Session.{Session, point}
use Rattle.command_server.proofs.SessionLemmas.{session_then}
use Rattle.command_server.proofs.StepLemmas.{nothing_read}
use Rattle.command_server.proofs.serving.serve.Goals as goal

pub returns-in_default-clause-session : goal.returns-in_default-clause-session
returns-in_default-clause-session g c = nothing_read (λ told. told) c.requires.fits (inl refl)

-- nothing is held at first
unread_first : (reader : Reading) (budget : ℕ) (source : Input) → reader ≡ record { held = []; budget = budget; is_over = false; fault = None } → unread reader source ≡ text_of_source budget source
unread_first reader budget source is = ap (λ (r : Reading). unread r source) is ∙ ap (λ (n : ℕ). the_text n) (zero-add budget)
  where
    the_text : ℕ → Text
    the_text n = record { bytes = source.left; budget = n; is_over = false }

pub items-init : goal.items-init
items-init g c = record {
  layout = λ i. c.args.volume.now.root.layout;
  sound = c.requires.sound;
  fits = c.requires.fits;
  no_fault = ap (λ (r : Reading). r.fault) c.in-Ok.ensures;
  fixed = λ i. g.D.Disk.fixed c.args.disk.now;
  device = refl;
  source = refl;
  sink = refl;
  so_far = nothing_read (λ told. told) c.requires.fits (refl, λ told. sym (unread_first c.in-Ok.reader c.args.budget (g.R.Source.seen c.args.source.now) c.in-Ok.ensures));
}

pub items-preserved : goal.items-preserved
items-preserved g c =
    let so_far = c.items.invariant in
    record {
      layout = c.serve_item.ensures.layout ∙ so_far.layout;
      sound = c.in-GoesOn.ensures.sound refl;
      fits = c.in-GoesOn.ensures.fits refl;
      no_fault = c.in-GoesOn.ensures.no_fault refl;
      fixed = c.serve_item.ensures.fixed ∙ so_far.fixed;
      device = c.in-GoesOn.ensures.device_faults ∙ so_far.device;
      source = c.in-GoesOn.ensures.source_faults ∙ so_far.source;
      sink = c.in-GoesOn.ensures.sink_faults ∙ so_far.sink;
      so_far = session_then so_far.so_far (subst (λ (n : ℕ). Session n g.D.Disk.tells
          (point (unread c.items.reader (g.R.Source.seen c.items.source)) (g.R.Source.seen c.items.source) (g.W.Sink.seen c.items.sink) (kept_by c.items.volume) (g.D.Disk.state c.items.disk) (g.D.Disk.past c.items.disk))
          (point (unread c.serve_item.new.reader (g.R.Source.seen c.serve_item.new.source)) (g.R.Source.seen c.serve_item.new.source) (g.W.Sink.seen c.serve_item.new.sink) (kept_by c.serve_item.new.volume) (g.D.Disk.state c.serve_item.new.disk) (g.D.Disk.past c.serve_item.new.disk))
          None) (ap (λ (l : Layout). l.log_blocks) so_far.layout) c.in-GoesOn.ensures.session);
    }

pub returns-in-Ends-clause-session : goal.returns-in-Ends-clause-session
returns-in-Ends-clause-session g c =
    let so_far = c.items.invariant in
    session_then so_far.so_far (subst (λ (n : ℕ). Session n g.D.Disk.tells
    (point (unread c.items.reader (g.R.Source.seen c.items.source)) (g.R.Source.seen c.items.source) (g.W.Sink.seen c.items.sink) (kept_by c.items.volume) (g.D.Disk.state c.items.disk) (g.D.Disk.past c.items.disk))
    (point no_text (g.R.Source.seen c.serve_item.new.source) (g.W.Sink.seen c.serve_item.new.sink) (kept_by c.serve_item.new.volume) (g.D.Disk.state c.serve_item.new.disk) (g.D.Disk.past c.serve_item.new.disk))
    (Some c.in-Ends.status)) (ap (λ (l : Layout). l.log_blocks) so_far.layout) c.in-Ends.ensures.session)
