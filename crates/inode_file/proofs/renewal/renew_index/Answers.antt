use Rattle.std.proofs.Common.{◌≡◌, ◌∙◌, true, false, sym, ap, arith}
use Rattle.std.specs.Prelude.{not}
use Rattle.inode_file.proofs.RenewalLaws.{index_fresh}
use Rattle.inode_file.proofs.renewal.renew_index.Goals as goal

pub returns : goal.returns
returns c =
    rw (c.in_ok-write.ensures, c.in_ok-remove.ensures)
    (index_fresh _ c.args.old c.args.was.now.ptrs c.args.index.now.ptrs c.take_one-at.result c.args.free.now c.take_one-at.new.self c.args.notes.now c.spelled_index.result
    (ap not (sym c.is_same.ensures.test ∙ c.if-is_same.false)) (λ e. let t : false ≡ true = sym c.if-is_same.false ∙ c.is_same.ensures.is.1 (sym e) in cc)
    c.take_one-at.ensures.positive c.take_one-at.ensures.lowest c.spelled_index.ensures (omega arith))
