use Rattle.mem_media.proofs.MediaLemmas.{adds_later}
use Rattle.mem_media.proofs.mem_media.MemMediaDisk.sync.Goals as goal

-- src/mem_media.rt:176:5
pub returns-then-is_err-clause-moments : goal.returns-then-is_err-clause-moments
returns-then-is_err-clause-moments c = adds_later c.args.self.now.earlier c.args.self.now.is_told _ _ _ c.sync-result.ensures.moments

-- src/mem_media.rt:176:5
pub returns-else-is_err-clause-moments : goal.returns-else-is_err-clause-moments
returns-else-is_err-clause-moments c = adds_later c.args.self.now.earlier c.args.self.now.is_told _ _ _ c.sync-result.ensures.moments
