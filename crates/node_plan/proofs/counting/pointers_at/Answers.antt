use Rattle.std.proofs.Common.{◌≡◌, ℕ, List, length, sym, ap, ◌∙◌, arith}
use Rattle.block_format.specs.Words.{words}
use Rattle.block_tree.specs.Tree.{nonzero}
use Rattle.block_tree.proofs.EntryLaws.{index_there}
use Rattle.node_plan.proofs.PagesAt.{among_more}
use Rattle.node_plan.proofs.counting.pointers_at.Goals as goal

pub returns-then-page-at-clause-found : goal.returns-then-page-at-clause-found
returns-then-page-at-clause-found c read stand =
    let there : c.args.at ≡ 0 → ⊥ = λ none. omega (arith, none, c.requires) in
    let bytes = sym (ap read c.if-page-at.true) ∙ stand.each c.loop-page.page-index _ c.loop-page-test.true in
    c.pointers_in.ensures.is ∙ ap (λ (ps : List ℕ). length (nonzero ps)) (sym (index_there read c.args.at c.read_counts.result there (ap words bytes ∙ sym c.read_counts.ensures.counts) c.read_counts.ensures.spelled.count))

pub loop-page-preserved : goal.loop-page-preserved
loop-page-preserved c = among_more c.args.pages.now c.loop-page.page-index _ c.args.at c.loop-page-test.true c.loop-page.invariant c.if-page-at.false
