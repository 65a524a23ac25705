use Rattle.mem_disk.proofs.MemoryLemmas.{told_blank}
use Rattle.mem_disk.proofs.sure_disk.SureDisk.new.Goals as goal

pub returns-clause-blank : goal.returns-clause-blank
returns-clause-blank c = told_blank c.args.blocks _ _ _ c.zero.ensures (c.in_ok-vec.ensures.items_if_clones_equal (λ y h. h)) (c.in_ok-vec-2.ensures.items_if_clones_equal (λ y h. h))
