use Rattle.std.proofs.Common.{◌≡◌, ◌∙◌, refl, sym, ap}
use Rattle.disk_model.specs.Media.{Fixed}
use Rattle.point_tests.proofs.StagedNow.{fresh_within}
use Rattle.point_tests.proofs.loading.fresh_state.Goals as goal

pub returns-clause-size : goal.returns-clause-size
returns-clause-size g c =
    let same : g.D.Disk.fixed c.inodes_of.new.disk ≡ g.D.Disk.fixed c.args.disk.now = c.inodes_of.ensures.fixed ∙ c.load.ensures.fixed ∙ c.read_current.ensures.fixed in
    record {
      size = c.in-Ok.ensures.size ∙ ap (λ (f : Fixed). f.size) (sym same);
      root = refl;
      slot = c.in-Ok.ensures.slot;
      grammar = c.in-Ok.ensures.grammar;
      table = c.in_ok-inodes.ensures.whole;
      index = c.in_ok-inodes.ensures.index;
      within = c.in_ok-inodes.ensures.within;
      settled = c.in_ok-inodes.ensures.settled;
      counts = c.in-Ok-load.ensures.long;
      untouched = c.in-Ok-load.ensures.untouched;
      staged = fresh_within _ c.new.ensures c.in_ok-directories.ensures c.in_ok-inodes.ensures.whole;
    }
