-- What a walk answers.
use Rattle.std.specs.Prelude.{◌≡◌, List, [], Result, Ok, Err, Some, None}
use Rattle.vol_numbers.specs.Layout.{Layout}
use Rattle.image_model.specs.Met.{Met}
use Rattle.image_model.specs.Findings.{walk_finding}
use Rattle.image_walk.specs.declared.fault.WalkFault.{WalkFault}
use Rattle.image_walk.specs.declared.fault.WalkFault.TheVariants.{Found, Device, OutOfMemory}

-- A finding is what is wrong first with all that is met, and an answer without one means that nothing is.
abbrev pub IsFinding : {T : Type 0} → Layout → List Met → Result T WalkFault → Type 0
IsFinding g met (Ok value) = walk_finding g [] met ≡ None
IsFinding g met (Err (Found f)) = walk_finding g [] met ≡ Some f
IsFinding g met (Err Device) = Unit {0}
IsFinding g met (Err OutOfMemory) = Unit {0}
