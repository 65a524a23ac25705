use Rattle.mem_media.proofs.MediaLemmas.{adds_later}
use Rattle.mem_media.proofs.mem_media.MemMediaDisk.read_block.Goals as goal

-- src/mem_media.rt:162:13
pub returns-in-Err-clause-moments : goal.returns-in-Err-clause-moments
returns-in-Err-clause-moments c = adds_later c.args.self.now.earlier c.args.self.now.is_told _ _ _ c.read_block.ensures.moments

-- src/mem_media.rt:159:5
pub returns-clause-moments : goal.returns-clause-moments
returns-clause-moments c = adds_later c.args.self.now.earlier c.args.self.now.is_told _ _ _ c.read_block.ensures.moments
