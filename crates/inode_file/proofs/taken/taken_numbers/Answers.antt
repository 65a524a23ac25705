use Rattle.std.proofs.Common.{◌≡◌, ◌≢◌, ◌∙◌, ℕ, ap, subst, sym, arith, ⊎_elim}
use Rattle.std.specs.FinSet as set
use Rattle.std.specs.Ordering.{nat_cmp}
use Rattle.std.proofs.lemmas.Bool.{cases_eq}
use Rattle.inode_file.specs.Taken.{is_taken}
use Rattle.inode_file.proofs.TakenLaws.{SetsNumber, number_written}
use Rattle.inode_file.proofs.taken.taken_numbers.Goals as goal

pub loop-n-preserved : goal.loop-n-preserved
loop-n-preserved c m lt =
    let sets : SetsNumber c.loop-n.numbers c.loop-n.n c.is_taken.result c.set.new.self =
    subst (λ (s : set.FinSet nat_cmp). SetsNumber c.loop-n.numbers c.loop-n.n c.is_taken.result s) (sym c.set.ensures) (number_written c.loop-n.numbers c.loop-n.n c.is_taken.result) in
    ⊎_elim
    (λ (e : m ≡ c.loop-n.n). ap (λ (i : ℕ). set.contains c.set.new.self i) e ∙ (sets.here ∙ (c.is_taken.ensures ∙ ap (λ (i : ℕ). is_taken c.args.inodes.now i) (sym e))))
    (λ (ne : m ≢ c.loop-n.n). sets.others m ne ∙ c.loop-n.invariant m (omega (arith, lt, ne)))
    (cases_eq m c.loop-n.n)
