-- Causes of faults that are passed on.
use Rattle.std.proofs.Common.{◌≡◌, ℕ, refl, sym, ap, subst}
use Rattle.std.specs.Prelude.{Result, Ok, Err}
use Rattle.std.specs.Result.{IsErrAnd, IsErrOf}
use Rattle.vol_numbers.specs.Cause.{raised}
use Rattle.count_check.specs.Cause.{HasCountCheckCause}
use Rattle.count_check.specs.declared.fault.CountCheckFault.{CountCheckFault}
use Rattle.count_check.specs.declared.fault.CountCheckFault.TheVariants as counts
use Rattle.image_walk.specs.Cause.{HasWalkCause}
use Rattle.image_walk.specs.declared.fault.WalkFault.{WalkFault}
use Rattle.image_walk.specs.declared.fault.WalkFault.TheVariants as walks
use Rattle.log_check.specs.Cause.{HasCheckCause}
use Rattle.log_check.specs.declared.fault.LogCheckFault.{LogCheckFault}
use Rattle.log_check.specs.declared.fault.LogCheckFault.TheVariants as logs
use Rattle.name_check.specs.Cause.{HasNameCause, IsOwn}
use Rattle.name_check.specs.declared.fault.NameFault.{NameFault}
use Rattle.name_check.specs.declared.fault.NameFault.TheVariants as names
use Rattle.root_switch.specs.declared.reading.RootFault.{RootFault}
use Rattle.root_switch.specs.declared.reading.RootFault.TheVariants as roots
use Rattle.fs_check.specs.Cause.{HasFaultCause, HasFsCause}
use Rattle.fs_check.specs.Faults.{of_root, of_walk, of_names, of_counts, of_log}
use Rattle.fs_check.specs.declared.fault.CheckFault.{CheckFault}

pub cause_err : {T : Type 0} (old new : ℕ) (r : Result T CheckFault) (fault : CheckFault) → IsErrAnd r (λ f. f ≡ fault) → HasFaultCause old new fault → HasFsCause old new r
cause_err old new (Ok value) fault same has = absurd same
cause_err old new (Err f) fault same has = subst (HasFaultCause old new) (sym same) has

-- behind calls that counted none
pub cause_then : (old mid new : ℕ) (fault : CheckFault) → mid ≡ old → HasFaultCause mid new fault → HasFaultCause old new fault
cause_then old mid new fault same has = subst (λ (n : ℕ). HasFaultCause n new fault) same has

pub root_cause : (old new : ℕ) (fault : RootFault) → (fault ≡ roots.Device → new ≡ raised old) → ((fault ≡ roots.Device → ⊥) → new ≡ old) → HasFaultCause old new (of_root fault)
root_cause old new roots.NoRoot device kept = kept (λ e. cc)
root_cause old new roots.BadGeometry device kept = kept (λ e. cc)
root_cause old new roots.Device device kept = device refl

pub walk_cause : (T : Type 0) (old new : ℕ) (fault : WalkFault) → HasWalkCause {T = T} old new (Err fault) → HasFaultCause old new (of_walk fault)
walk_cause T old new (walks.Found f) has = has
walk_cause T old new walks.Device has = has
walk_cause T old new walks.OutOfMemory has = has

pub name_cause : (T : Type 0) (old new : ℕ) (fault : NameFault) → HasNameCause {T = T} old new (Err fault) → HasFaultCause old new (of_names fault)
name_cause T old new (names.Found f) has = has
name_cause T old new names.Device has = has
name_cause T old new names.OutOfMemory has = has

pub own_cause : (count : ℕ) (fault : NameFault) → IsOwn fault → HasFaultCause count count (of_names fault)
own_cause count (names.Found f) own = refl
own_cause count names.Device own = absurd own
own_cause count names.OutOfMemory own = refl

pub count_cause : (T : Type 0) (old new : ℕ) (fault : CountCheckFault) → HasCountCheckCause {T = T} old new (Err fault) → HasFaultCause old new (of_counts fault)
count_cause T old new (counts.Found f) has = has
count_cause T old new counts.Device has = has
count_cause T old new counts.OutOfMemory has = has

pub log_cause : (T : Type 0) (old new : ℕ) (fault : LogCheckFault) → HasCheckCause {T = T} old new (Err fault) → HasFaultCause old new (of_log fault)
log_cause T old new (logs.Found f) has = has
log_cause T old new logs.Device has = has
log_cause T old new logs.OutOfMemory has = has

pub is_err : (T E : Type 0) (a b : E) → a ≡ b → IsErrOf {T = T} {E = E} (Err a) b
is_err T E a b e = ap (λ (x : E). let r : Result T E = Err x in r) e

pub err_is : (T E : Type 0) (a b : E) → IsErrOf {T = T} {E = E} (Err a) b → a ≡ b
err_is T E a b e = cc
