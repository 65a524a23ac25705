use Rattle.std.proofs.Common.{◌≡◌, ◌≤◌, ◌<◌, ◌+◌, ◌∙◌, ◌∷◌, ℕ, List, true, false, zero, suc, length, drop, get_or, refl, sym, subst, arith}
use Rattle.std.specs.Prelude.{nat_le}
use Rattle.std.proofs.lemmas.Bool.Decides.{nat_tests}
use Rattle.std.proofs.lemmas.List.{at_drop_more}
use Rattle.vol_numbers.specs.declared.runs.Run.{Run}
use Rattle.run_allocator.specs.Order.{AreWhole}
use Rattle.run_allocator.proofs.OrderLaws.{some_left, size_more}
use Rattle.run_allocator.proofs.order.whole_runs.Goals as goal

pub loop-left-preserved : goal.loop-left-preserved
loop-left-preserved c =
    let inv = c.loop-left.invariant in
    let order : List Run = c.args.order.now in
    let i = c.loop-left.runs in
    let r : Run = get_or order i (record { first = 0; length = 0 }) in
    let within : i < length order = some_left order i (omega (arith, inv.some, inv.enough)) in
    let is : nat_le c.loop-left.left r.length ≡ false = sym c.is_enough.ensures ∙ c.loop-left-test.true in
    let less : r.length < c.loop-left.left = grind (arith, nat_tests, is) in
    let rest : drop i order ≡ r ∷ drop (i + 1) order = at_drop_more (λ (xs : List Run). xs) order i (record { first = 0; length = 0 }) within in
    record {
      whole = λ k left after.
          let next : i + suc k ≡ i + 1 + k = omega arith in
          subst (λ (m : ℕ). AreWhole order c.args.n m left) next
          (inv.whole (suc k) left (subst (λ (xs : List Run). AreWhole xs c.loop-left.left (suc k) left) (sym rest) (less, after)));
      some = omega (arith, less);
      enough = omega (arith, inv.enough, size_more order i (record { first = 0; length = 0 }) within);
    }

pub returns : goal.returns
returns c =
    let inv = c.loop-left.invariant in
    let order : List Run = c.args.order.now in
    let i = c.loop-left.runs in
    let r : Run = get_or order i (record { first = 0; length = 0 }) in
    let within : i < length order = some_left order i (omega (arith, inv.some, inv.enough)) in
    let is : nat_le c.loop-left.left r.length ≡ true = sym c.is_enough.ensures ∙ c.loop-left-test.false in
    let fits : c.loop-left.left ≤ r.length = grind (arith, nat_tests, is) in
    let rest : drop i order ≡ r ∷ drop (i + 1) order = at_drop_more (λ (xs : List Run). xs) order i (record { first = 0; length = 0 }) within in
    let last : i + zero ≡ i = omega arith in
    subst (λ (m : ℕ). AreWhole order c.args.n m c.loop-left.left) last
    (inv.whole zero c.loop-left.left (subst (λ (xs : List Run). AreWhole xs c.loop-left.left zero c.loop-left.left) (sym rest) (refl, fits)))
