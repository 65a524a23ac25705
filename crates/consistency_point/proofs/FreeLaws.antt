-- Blocks with count 0, one after the other.
use Rattle.std.proofs.Common.{◌≡◌, ◌≢◌, ◌<◌, ℕ, suc, ◌+◌, ◌-◌, Bool, false, cond, List, get_or, ap, arith}
use Rattle.std.specs.Prelude.{◌==◌}
use Rattle.std.proofs.lemmas.Bool.{eq-eqb}
use Rattle.std.proofs.lemmas.Bool.Decides.{nat_tests}
use Rattle.image_model.specs.Findings.{zeros_from}

module _ (kept : List ℕ) (b n : ℕ) (lt : b < n) where
  zeros_next : zeros_from kept b (n - b) ≡ cond (get_or kept b 0 == 0) 1 0 + zeros_from kept (b + 1) (n - (b + 1))
  zeros_next = let one : n - b ≡ suc (n - (b + 1)) = omega arith in ap (zeros_from kept b) one

  pub zeros_free : get_or kept b 0 ≡ 0 → zeros_from kept b (n - b) ≡ 1 + zeros_from kept (b + 1) (n - (b + 1))
  zeros_free is = omega (arith, zeros_next, ap {B = ℕ} (λ (t : Bool). cond t 1 0) (eq-eqb (get_or kept b 0) 0 is))

  pub zeros_used : get_or kept b 0 ≢ 0 → zeros_from kept b (n - b) ≡ zeros_from kept (b + 1) (n - (b + 1))
  zeros_used some =
      let test : (get_or kept b 0 == 0) ≡ false = grind (arith, nat_tests) in
      omega (arith, zeros_next, ap {B = ℕ} (λ (t : Bool). cond t 1 0) test)
