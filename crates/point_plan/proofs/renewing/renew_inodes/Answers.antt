use Rattle.std.proofs.Common.{List, ◌≡◌, ◌∙◌, ap, sym, arith}
use Rattle.std.proofs.lemmas.Grind.{common_steps}
use Rattle.inode_file.specs.Inodes.{InodeTable, inode_of}
use Rattle.block_format.specs.declared.inode.Inode.{Inode}
use Rattle.block_tree.specs.Notes.{page_blocks}
use Rattle.point_plan.proofs.WithinLaws.{renewed_within}
use Rattle.point_plan.proofs.Numbered.{table_back}
use Rattle.point_plan.proofs.renewing.renew_inodes.Goals as goal

pub returns-then-room-from-clause-unchanged : goal.returns-then-room-from-clause-unchanged
returns-then-room-from-clause-unchanged c =
    table_back c.args.inodes.now c.set_new.new.inodes c.set_old.new.inodes c.args.nodes.now c.requires.whole c.set_old.ensures.whole c.requires.had
    c.set_new.ensures.set c.set_old.ensures.set c.set_new.ensures.rest c.set_old.ensures.rest

pub returns-in-Err-clause-unchanged : goal.returns-in-Err-clause-unchanged
returns-in-Err-clause-unchanged c =
    let same : InodeTable = c.rewrite.new.self in
    let left : c.rewrite.new.self ≡ c.set_new.new.inodes = grind (arith, common_steps) in
    let t : InodeTable = c.args.inodes.now in
    table_back t c.rewrite.new.self c.set_old-in-Err.new.inodes c.args.nodes.now c.requires.whole c.set_old-in-Err.ensures.whole c.requires.had
    (λ n. ap (λ (x : InodeTable). inode_of x.inodes n) left ∙ c.set_new.ensures.set n) c.set_old-in-Err.ensures.set
    (left ∙ c.set_new.ensures.rest ∙ ap (λ (x : InodeTable). record t { inodes = x.inodes }) (sym left)) c.set_old-in-Err.ensures.rest

pub returns-in-Ok-clause-within : goal.returns-in-Ok-clause-within
returns-in-Ok-clause-within c = λ g within all whole.
    renewed_within g c.args.inodes.now c.set_new.new.inodes c.rewrite.new.self c.args.nodes.now (page_blocks c.in-Ok.rewritten.pages) c.args.free.now c.rewrite.new.free within c.set_new.ensures.rest
    c.in-Ok.ensures.whole.pointers (λ n. ap (λ (inodes : List Inode). inode_of inodes n) c.in-Ok.ensures.inodes ∙ c.set_new.ensures.set n) whole all c.in-Ok.ensures.taken c.in-Ok.ensures.pages c.in-Ok.ensures.dropped c.in-Ok.ensures.kept
