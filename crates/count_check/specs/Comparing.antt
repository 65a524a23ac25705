-- What a comparison of counts answers.
use Rattle.std.specs.Prelude.{◌≡◌, ◌*◌, Result, Ok, Err, Some, None}
use Rattle.vol_numbers.specs.Layout.{Layout, count_blocks}
use Rattle.image_model.specs.Findings.{count_finding}
use Rattle.image_model.specs.Seen.{Seen}
use Rattle.count_check.specs.declared.fault.CountCheckFault.{CountCheckFault}
use Rattle.count_check.specs.declared.fault.CountCheckFault.TheVariants.{Found, Device, OutOfMemory}

-- A finding is the first wrong count of all that is seen, and an answer without one means that there is none.
abbrev pub IsCountFinding : {T : Type 0} → Layout → Seen → Result T CountCheckFault → Type 0
IsCountFinding g s (Ok value) = count_finding s.met s.kept 0 (1024 * count_blocks g) ≡ None
IsCountFinding g s (Err (Found f)) = count_finding s.met s.kept 0 (1024 * count_blocks g) ≡ Some f
IsCountFinding g s (Err Device) = Unit {0}
IsCountFinding g s (Err OutOfMemory) = Unit {0}
