use Rattle.std.proofs.Common.{◌≡◌, ◌∙◌, ap, sym, subst, List, ℕ, arith}
use Rattle.block_format.specs.Words.{words}
use Rattle.std.specs.Prelude.{All, take}
use Rattle.block_format.specs.Index.{IsPointer, SpellsIndex}
use Rattle.disk_model.specs.Disk.{State}
use Rattle.vol_numbers.specs.declared.block.Block.{Block}
use Rattle.vol_numbers.specs.Geometry.{layout_of}
use Rattle.block_tree.specs.Parts.{SameEntries}
use Rattle.block_tree.specs.Tree.{index_at, blocks_in}
use Rattle.block_tree.proofs.DamageLaws.{index_of_counts}
use Rattle.block_tree.proofs.EntryLaws.{same_hole, same_refl, nonzero_zeros, zeros_are_pointers, block_read, index_there}
use Rattle.block_tree.proofs.looking.entries.Goals as goal

pub returns-then-at-eq0-clause-entries : goal.returns-then-at-eq0-clause-entries
returns-then-at-eq0-clause-entries g c tells = rw (c.if-at-eq0.true, c.no_pointers.ensures) (same_hole 1024)

pub returns-then-at-eq0-clause-pointers : goal.returns-then-at-eq0-clause-pointers
returns-then-at-eq0-clause-pointers g c = rw c.no_pointers.ensures (zeros_are_pointers (layout_of c.args.g.now) 1024)

pub returns-then-at-eq0-clause-hole : goal.returns-then-at-eq0-clause-hole
returns-then-at-eq0-clause-hole g c is = rw c.no_pointers.ensures (nonzero_zeros 1024)

pub returns-in-Some-clause-entries : goal.returns-in-Some-clause-entries
returns-in-Some-clause-entries g c tells =
    let read = blocks_in (g.D.Disk.state c.args.disk.now).contents in
    let bytes = block_read (g.D.Disk.state c.args.disk.now).contents c.args.at c.read_block.new.into (c.in_default.ensures.read tells) in
    let there : index_at read c.args.at ≡ c.in-Some.index.ptrs = index_there read c.args.at c.in-Some.index.ptrs c.if-at-eq0.false (ap words bytes ∙ sym c.in-Some.ensures.words) (omega arith) in
    subst (λ (xs : List ℕ). SameEntries xs c.in-Some.index.ptrs) (sym there) (same_refl c.in-Some.index.ptrs)

pub returns-in-Some-clause-hole : goal.returns-in-Some-clause-hole
returns-in-Some-clause-hole g c is = absurd (c.if-at-eq0.false is)

pub returns-in-None-clause-damaged : goal.returns-in-None-clause-damaged
returns-in-None-clause-damaged g c =
    let given = c.in_default.ensures.given in
    record {
      number = given.number;
      rose = omega (arith, given.counted);
      outside = λ ptrs spells. c.in-None.ensures.none ptrs (subst (λ (b : Block). SpellsIndex (layout_of c.args.g.now) ptrs b.bytes) given.bytes spells);
      pointer = λ all. c.in-None.ensures.none (words c.read_block.new.into.bytes)
          (index_of_counts (layout_of c.args.g.now) c.read_block.new.into.bytes c.counts_of_block.ensures (subst (λ (b : Block). All (IsPointer (layout_of c.args.g.now)) (take 1024 (words b.bytes))) given.bytes all));
      stands = λ tells.
          ap (λ (s : State). blocks_in s.contents c.args.at) (c.in_default.ensures.same tells)
          ∙ (block_read (g.D.Disk.state c.args.disk.now).contents c.args.at c.read_block.new.into (c.in_default.ensures.read tells) ∙ ap (λ (b : Block). b.bytes) (sym given.bytes));
    }
