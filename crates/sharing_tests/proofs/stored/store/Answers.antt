use Rattle.std.proofs.Common.{ap}
use Rattle.disk_model.specs.Disk.{State}
use Rattle.sharing_tests.proofs.Storing.{used_below, used_fingerprints}
use Rattle.sharing_tests.proofs.stored.store.Goals as goal

pub returns-clause-blocks : goal.returns-clause-blocks
returns-clause-blocks g c =
    used_below (g.D.Disk.fixed c.args.disk.now).size (g.K.ContentCache.capacity c.args.cache.now) (g.K.ContentCache.list c.args.cache.now) (g.K.ContentCache.list c.use_block.new.self)
    c.fingerprint.result c.args.at c.requires.at c.requires.blocks c.use_block.ensures.used

pub returns-clause-fingerprints : goal.returns-clause-fingerprints
returns-clause-fingerprints g c told =
    let written = ap (λ (s : State). s.contents) (c.in_ok-write_block.ensures.written told) in
    used_fingerprints (g.D.Disk.state c.args.disk.now).contents (g.D.Disk.state c.write_block.new.self).contents (g.K.ContentCache.capacity c.args.cache.now)
    (g.K.ContentCache.list c.args.cache.now) (g.K.ContentCache.list c.use_block.new.self) c.fingerprint.result c.args.at c.filled-block.result (c.requires.fingerprints told) written
    c.fingerprint.ensures c.use_block.ensures.used
