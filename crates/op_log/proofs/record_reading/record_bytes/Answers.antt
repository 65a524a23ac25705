use Rattle.std.proofs.Common.{◌≡◌, ◌∙◌, ◌*◌, ℕ, List, sym, ap, subst, arith}
use Rattle.std.proofs.lemmas.Bool.{false≢true}
use Rattle.vol_numbers.specs.declared.block.Block.{Block}
use Rattle.disk_model.specs.Disk.{State}
use Rattle.op_log.specs.Reading.{AreBlocks, HasLimits, blocks_in, head_in}
use Rattle.op_log.proofs.RecordLemmas.{first_limits}
use Rattle.disk_model.proofs.Moments.{adds_read}
use Rattle.op_log.proofs.ReadLemmas.{blocks_same, first_same, head_stays}
use Rattle.op_log.proofs.record_reading.record_bytes.Goals as goal

pub returns-in_default-blocks-clause-none : goal.returns-in_default-blocks-clause-none
returns-in_default-blocks-clause-none g c = λ tells command has fits stands.
    let image : List Block = (g.D.Disk.state c.args.disk.now).contents in
    let bytes : List ℕ = c.read_up_to.new.bytes.items in
    let first = first_same image c.args.at 1 bytes command (omega arith) (c.in_default.ensures.blocks tells) stands in
    let head : c.read.result ≡ head_in bytes = c.read.ensures ∙ ap head_in c.deref.ensures.value in
    false≢true (c.in_default-blocks.ensures.within.1 (subst HasLimits (sym head) (first_limits command bytes has first)))

pub returns-then-count-left-clause-none : goal.returns-then-count-left-clause-none
returns-then-count-left-clause-none g c = λ tells command has fits stands.
    let image : List Block = (g.D.Disk.state c.args.disk.now).contents in
    let bytes : List ℕ = c.read_up_to.new.bytes.items in
    let first = first_same image c.args.at 1 bytes command (omega arith) (c.in_default.ensures.blocks tells) stands in
    let head : c.read.result ≡ head_in bytes = c.read.ensures ∙ ap head_in c.deref.ensures.value in
    omega (arith, c.in-Some.ensures.value ∙ ap blocks_in head ∙ blocks_same command bytes has first, fits, c.if-count-left.true)

pub returns-in-Ok-clause-whole : goal.returns-in-Ok-clause-whole
returns-in-Ok-clause-whole g c =
    let bytes : List ℕ = c.read_up_to.new.bytes.items in
    let whole : List ℕ = c.read_up_to-2.new.bytes.items in
    let head : c.read.result ≡ head_in whole = c.read.ensures ∙ ap head_in c.deref.ensures.value ∙ sym (head_stays bytes whole c.in_default.ensures.long c.in-Ok.ensures.front) in
    let count : c.in-Some.count ≡ blocks_in (head_in whole) = c.in-Some.ensures.value ∙ ap blocks_in head in
    record { long = c.in-Ok.ensures.long ∙ ap (λ (n : ℕ). 4096 * n) count; within = omega (arith, count, c.if-count-left.false) }

pub returns-in-Ok-clause-are_blocks : goal.returns-in-Ok-clause-are_blocks
returns-in-Ok-clause-are_blocks g c = λ tells.
    let bytes : List ℕ = c.read_up_to.new.bytes.items in
    let whole : List ℕ = c.read_up_to-2.new.bytes.items in
    let head : c.read.result ≡ head_in whole = c.read.ensures ∙ ap head_in c.deref.ensures.value ∙ sym (head_stays bytes whole c.in_default.ensures.long c.in-Ok.ensures.front) in
    let count : c.in-Some.count ≡ blocks_in (head_in whole) = c.in-Some.ensures.value ∙ ap blocks_in head in
    subst (λ (s : State). AreBlocks s.contents c.args.at (blocks_in (head_in whole)) whole) (c.in_default.ensures.same tells)
    (subst (λ (n : ℕ). AreBlocks (g.D.Disk.state c.read_up_to.new.disk).contents c.args.at n whole) count (c.in-Ok.ensures.blocks tells))

pub returns-in-Ok-clause-moments : goal.returns-in-Ok-clause-moments
returns-in-Ok-clause-moments g c = λ tells. adds_read (c.in_default.ensures.moments tells) (c.in_default.ensures.same tells) (c.in-Ok.ensures.moments tells)

pub returns-in-Ok-clause-reads : goal.returns-in-Ok-clause-reads
returns-in-Ok-clause-reads g c =
    let bytes : List ℕ = c.read_up_to.new.bytes.items in
    let whole : List ℕ = c.read_up_to-2.new.bytes.items in
    let head : c.read.result ≡ head_in whole = c.read.ensures ∙ ap head_in c.deref.ensures.value ∙ sym (head_stays bytes whole c.in_default.ensures.long c.in-Ok.ensures.front) in
    let count : c.in-Some.count ≡ blocks_in (head_in whole) = c.in-Some.ensures.value ∙ ap blocks_in head in
    omega (arith, c.in_default.ensures.reads, c.in-Ok.ensures.reads, count)
