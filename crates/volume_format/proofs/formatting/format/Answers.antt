use Rattle.std.proofs.Common.{◌≡◌, ◌∙◌, length}
use Rattle.disk_model.proofs.Moments.{adds_weaker}
use Rattle.vol_numbers.specs.Geometry.{layout_of}
use Rattle.volume_format.proofs.FormatLemmas.{long_moment, ordered_moment}
use Rattle.volume_format.proofs.FreshLaws.{image_fresh}
use Rattle.volume_format.proofs.formatting.format.Goals as goal

pub returns-in_err-write_volume-clause-moments : goal.returns-in_err-write_volume-clause-moments
returns-in_err-write_volume-clause-moments g c tells =
    let layout = layout_of c.args.g.now in
    let long : length (g.D.Disk.state c.args.disk.now).contents ≡ layout.blocks = g.met.D.Disk.has_size c.args.disk.now tells ∙ c.requires in
    adds_weaker (c.write_volume.ensures.moments tells) (λ m either. long_moment layout (g.D.Disk.state c.args.disk.now) m long either)

pub returns-in_err-write_volume-clause-order : goal.returns-in_err-write_volume-clause-order
returns-in_err-write_volume-clause-order g c tells closed =
    adds_weaker (c.write_volume.ensures.moments tells) (λ m either. ordered_moment (layout_of c.args.g.now) (g.D.Disk.state c.args.disk.now) m closed either)

pub returns-clause-moments : goal.returns-clause-moments
returns-clause-moments g c tells =
    let layout = layout_of c.args.g.now in
    let long : length (g.D.Disk.state c.args.disk.now).contents ≡ layout.blocks = g.met.D.Disk.has_size c.args.disk.now tells ∙ c.requires in
    adds_weaker (c.write_volume.ensures.moments tells) (λ m either. long_moment layout (g.D.Disk.state c.args.disk.now) m long either)

pub returns-clause-order : goal.returns-clause-order
returns-clause-order g c tells closed =
    adds_weaker (c.write_volume.ensures.moments tells) (λ m either. ordered_moment (layout_of c.args.g.now) (g.D.Disk.state c.args.disk.now) m closed either)

pub returns-clause-stands : goal.returns-clause-stands
returns-clause-stands g c tells =
    let layout = layout_of c.args.g.now in
    let contents = (g.D.Disk.state c.write_volume.new.disk).contents in
    c.fresh_stands.ensures layout contents (image_fresh layout c.args.g.now.valid contents (c.in_ok-write_volume.ensures.formatted tells).fresh)
