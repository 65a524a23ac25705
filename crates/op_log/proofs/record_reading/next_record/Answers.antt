use Rattle.std.proofs.Common.{List, ℕ, sym, subst}
use Rattle.vol_numbers.specs.declared.block.Block.{Block}
use Rattle.op_log.specs.Reading.{Spells}
use Rattle.op_log.proofs.ReadLemmas.{if_none_weaker, stands_spells}
use Rattle.op_log.proofs.record_reading.next_record.Goals as goal

pub returns-in-Ok-clause-none : goal.returns-in-Ok-clause-none
returns-in-Ok-clause-none g c =
    let known = rw c.in-Ok-Some.field-0-is at c.in-Ok-Some.ensures in
    let image : List Block = (g.D.Disk.state c.args.disk.now).contents in
    let bytes : List ℕ = c.in-Ok-Some.bytes.items in
    if_none_weaker c.in-Ok.found (λ none tells command has fits stands.
    none command has (subst (Spells command) (sym c.deref.ensures.value) (stands_spells image c.args.at c.args.left bytes command known.whole (known.are_blocks tells) has stands))) c.in-Ok.ensures.none
