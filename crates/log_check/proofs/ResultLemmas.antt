-- What is known of a result, by its cases.
use Rattle.std.proofs.Common.{◌≡◌, ℕ, sym, subst}
use Rattle.std.specs.Prelude.{Result, Ok, Err, Option, Some, IfOk, IfNone}
use Rattle.log_check.specs.Cause.{IfFound, HasCheckCause}
use Rattle.log_check.specs.declared.fault.LogCheckFault.{LogCheckFault}
use Rattle.log_check.specs.declared.fault.LogCheckFault.TheVariants.{Found, Device, OutOfMemory}

pub found_map : {T : Type 0} (r : Result T LogCheckFault) (P Q : ℕ → Type 0) → ((i : ℕ) → P i → Q i) → IfFound r P → IfFound r Q
found_map (Ok value) P Q f found = tt
found_map (Err (Found i)) P Q f found = f i found
found_map (Err Device) P Q f found = tt
found_map (Err OutOfMemory) P Q f found = tt

-- a fault is found whatever there would be without it
pub found_same : (S T : Type 0) (fault : LogCheckFault) (P : ℕ → Type 0) → IfFound {T = S} (Err fault) P → IfFound {T = T} (Err fault) P
found_same S T (Found i) P found = found
found_same S T Device P found = tt
found_same S T OutOfMemory P found = tt

pub cause_moved : {T : Type 0} (r : Result T LogCheckFault) (old new : ℕ) → new ≡ old → ((count : ℕ) → HasCheckCause count count r) → HasCheckCause old new r
cause_moved r old new same none = subst (λ (n : ℕ). HasCheckCause old n r) (sym same) (none old)

pub cause_same : (S T : Type 0) (fault : LogCheckFault) (count : ℕ) → HasCheckCause {T = S} count count (Err fault) → HasCheckCause {T = T} count count (Err fault)
cause_same S T (Found i) count cause = cause
cause_same S T Device count cause = cause
cause_same S T OutOfMemory count cause = cause

-- what is known anyway
pub found_known : {T : Type 0} (r : Result T LogCheckFault) (W : Type 0) → W → IfFound r (λ _. W)
found_known (Ok value) W w = tt
found_known (Err (Found i)) W w = w
found_known (Err Device) W w = tt
found_known (Err OutOfMemory) W w = tt

-- where there is a value nothing is asked of there being none
pub some_not_none : {X : Type 0} (o : Option X) (x : X) (P : Type 0) → o ≡ Some x → IfNone o P
some_not_none o x P is = subst (λ (v : Option _). IfNone v P) (sym is) tt

-- what is known of the value that is answered
pub ok_is : {T E : Type 0} (r : Result T E) (x : T) (W : Type 0) (P : T → Type 0) → IfOk r (λ _. W) → IfOk r (λ y. y ≡ x) → (W → P x) → IfOk r P
ok_is (Ok y) x W P w is f = subst P (sym is) (f w)
ok_is (Err e) x W P w is f = tt
