use Rattle.std.proofs.Common.{◌≡◌, ◌<◌, ◌+◌, ◌-◌, ◌∙◌, ◌∷◌, ℕ, List, ap, sym, length, arith}
use Rattle.run_allocator.specs.Runs.{numbers_of}
use Rattle.run_allocator.proofs.RunLaws.{apart_lower}
use Rattle.run_allocator.proofs.ZeroLaws.{with_numbers, with_apart, zero_there, none_there}
use Rattle.run_allocator.proofs.zeros.runs_of_zeros.Goals as goal

pub loop-b-preserved-then-is_free : goal.loop-b-preserved-then-is_free
loop-b-preserved-then-is_free c =
    let inv = c.loop-b.invariant in
    let b = c.loop-b.b - 1 in
    let old = c.loop-b.runs.items in
    let some : 0 < c.loop-b.b = omega (arith, c.loop-b-test.true) in
    let e : b + 1 ≡ c.loop-b.b = omega (arith, some) in
    let items = c.in_ok-put_below.ensures in
    let numbers = ap numbers_of items ∙ with_numbers b old in
    record {
      numbers = numbers ∙ (ap (λ (bs : List ℕ). b ∷ bs) inv.numbers ∙ sym (zero_there c.args.counts.now c.loop-b.b _ some inv.within (sym c.is_free.ensures ∙ c.if-is_free.true)));
      apart = rw items (with_apart b old (omega (arith, inv.within, c.requires.end)) (rw e inv.apart));
      free = let l = ap length numbers in omega (arith, l, inv.free);
      few = omega (arith, inv.few, some);
      start = omega (arith, c.loop-b-test.true);
      within = omega (arith, inv.within);
    }

pub loop-b-preserved : goal.loop-b-preserved
loop-b-preserved c =
    let inv = c.loop-b.invariant in
    let some : 0 < c.loop-b.b = omega (arith, c.loop-b-test.true) in
    record {
      numbers = inv.numbers ∙ sym (none_there c.args.counts.now c.loop-b.b _ some inv.within (sym c.is_free.ensures ∙ c.if-is_free.false));
      apart = apart_lower (c.loop-b.b - 1) c.loop-b.b c.loop-b.runs.items (omega arith) inv.apart;
      free = inv.free;
      few = omega (arith, inv.few);
      start = omega (arith, c.loop-b-test.true);
      within = omega (arith, inv.within);
    }

pub returns-clause-apart : goal.returns-clause-apart
returns-clause-apart c = apart_lower 1 c.loop-b.b c.loop-b.runs.items (omega (arith, c.loop-b.invariant.start, c.requires.some)) c.loop-b.invariant.apart
