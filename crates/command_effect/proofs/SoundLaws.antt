-- Faults that are passed on name no block, where those before name none.
use Rattle.std.proofs.Common.{◌≡◌, sym, subst}
use Rattle.std.specs.Prelude.{Result, Ok, Err, IsErrAnd}
use Rattle.block_tree.specs.Causes.{IfLookDamaged}
use Rattle.block_tree.specs.declared.fault.LookFault.{LookFault}
use Rattle.block_tree.specs.declared.fault.LookFault.TheVariants.{Device, Damaged}

pub none_like : {T : Type 0} (r : Result T LookFault) (fault : LookFault) → IsErrAnd r (λ f. f ≡ fault) → IfLookDamaged {T = Unit {0}} (Err fault) (λ b. ⊥) → IfLookDamaged r (λ b. ⊥)
none_like (Ok value) fault same none = tt
none_like {T = T} (Err f) fault same none = subst (λ (e : LookFault). IfLookDamaged {T = T} (Err e) (λ b. ⊥)) (sym same) (by fault none)
  where
    by : (fault : LookFault) → IfLookDamaged {T = Unit {0}} (Err fault) (λ b. ⊥) → IfLookDamaged {T = T} (Err fault) (λ b. ⊥)
    by Device none = tt
    by (Damaged b) none = none
