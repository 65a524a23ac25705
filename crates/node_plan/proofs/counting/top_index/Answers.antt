use Rattle.std.proofs.Common.{◌≡◌, ◌∙◌, refl, ap, sym, subst, arith}
use Rattle.std.specs.Prelude.{All, take}
use Rattle.vol_numbers.specs.Geometry.{layout_of}
use Rattle.vol_numbers.specs.declared.block.Block.{Block}
use Rattle.disk_model.specs.Disk.{State}
use Rattle.block_format.specs.Index.{SpellsIndex, IsPointer}
use Rattle.block_format.specs.Words.{words}
use Rattle.block_tree.specs.Tree.{blocks_in}
use Rattle.block_tree.proofs.DamageLaws.{index_of_counts}
use Rattle.block_tree.proofs.EntryLaws.{block_read, index_there}
use Rattle.node_plan.proofs.counting.top_index.Goals as goal

pub returns-in-Some-clause-pointers : goal.returns-in-Some-clause-pointers
returns-in-Some-clause-pointers g c tells =
    let contents = (g.D.Disk.state c.args.disk.now).contents in
    let bytes = block_read contents c.args.at c.read_block.new.into (c.in_default.ensures.read tells) in
    let there : c.args.at ≡ 0 → ⊥ = λ none. omega (arith, none, c.requires.some) in
    index_there (blocks_in contents) c.args.at c.in-Some.index.ptrs there (ap words bytes ∙ sym c.in-Some.ensures.words) (omega arith)

pub returns-in-None-clause-damaged : goal.returns-in-None-clause-damaged
returns-in-None-clause-damaged g c =
    let given = c.in_default.ensures.given in
    record {
      number = given.number;
      rose = omega (arith, given.counted);
      outside = λ ptrs spells. c.in-None.ensures.none ptrs (subst (λ (b : Block). SpellsIndex (layout_of c.args.g.now) ptrs b.bytes) given.bytes spells);
      pointer = λ all. c.in-None.ensures.none (words c.read_block.new.into.bytes)
          (index_of_counts (layout_of c.args.g.now) c.read_block.new.into.bytes c.counts_of_block.ensures (subst (λ (b : Block). All (IsPointer (layout_of c.args.g.now)) (take 1024 (words b.bytes))) given.bytes all));
      stands = λ tells.
          ap (λ (s : State). blocks_in s.contents c.args.at) (c.in_default.ensures.same tells)
          ∙ (block_read (g.D.Disk.state c.args.disk.now).contents c.args.at c.read_block.new.into (c.in_default.ensures.read tells) ∙ ap (λ (b : Block). b.bytes) (sym given.bytes));
    }

pub returns-in-None-clause-read : goal.returns-in-None-clause-read
returns-in-None-clause-read g c = record { is = refl; some = λ e. omega (arith, e, c.requires.some) }
