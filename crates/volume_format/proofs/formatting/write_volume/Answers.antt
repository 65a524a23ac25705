use Rattle.std.proofs.Common.{◌≡◌, ◌∙◌, subst, sym, length}
use Rattle.std.proofs.lemmas.Result.{on_ok_weaker}
use Rattle.vol_numbers.specs.Geometry.{layout_of}
use Rattle.volume_format.specs.Formatting.{IsFormatted}
use Rattle.volume_format.proofs.FormatLemmas.{adds_bodies, adds_moments, formatted, parts_written}
use Rattle.volume_format.proofs.formatting.write_volume.Goals as goal

pub returns-in_err-write_inodes-clause-moments : goal.returns-in_err-write_inodes-clause-moments
returns-in_err-write_inodes-clause-moments g c tells =
    adds_bodies (layout_of c.args.g.now) _ _ (c.in_ok-write_counts.ensures.written tells) (c.write_counts.ensures.moments tells) (c.write_inodes.ensures.moments tells)

pub returns-clause-moments : goal.returns-clause-moments
returns-clause-moments g c tells =
    let layout = layout_of c.args.g.now in
    let long : length (g.D.Disk.state c.args.disk.now).contents ≡ layout.blocks = g.met.D.Disk.has_size c.args.disk.now tells ∙ c.requires in
    adds_moments layout _ _ _ _ c.args.g.now.valid long c.root_block.ensures (c.in_ok-write_counts.ensures.written tells) (c.in_ok-write_inodes.ensures.written tells)
    (c.write_counts.ensures.moments tells) (c.write_inodes.ensures.moments tells) (c.write_named.ensures.order tells)

pub returns-clause-formatted : goal.returns-clause-formatted
returns-clause-formatted g c = on_ok_weaker c.write_named.result (λ last tells.
    let layout = layout_of c.args.g.now in
    let long : length (g.D.Disk.state c.args.disk.now).contents ≡ layout.blocks = g.met.D.Disk.has_size c.args.disk.now tells ∙ c.requires in
    subst (IsFormatted layout) (sym (parts_written layout (g.D.Disk.state c.args.disk.now) _ _ _ _ c.root_block.ensures (c.in_ok-write_counts.ensures.written tells) (c.in_ok-write_inodes.ensures.written tells) (last tells)))
    (formatted layout c.args.g.now.valid (g.D.Disk.state c.args.disk.now) long)) c.write_named.ensures.written
