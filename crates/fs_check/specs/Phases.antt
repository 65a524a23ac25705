-- Of private functions: what a phase, or several one after the other, find.
use Rattle.std.specs.Prelude.{◌≡◌, ◌*◌, Option, Result, Ok, Err, Some, None}
use Rattle.vol_numbers.specs.Layout.{Layout, count_blocks}
use Rattle.image_model.specs.Findings.{◌then◌, mixed_finding, count_finding, reserve_finding}
use Rattle.image_model.specs.Nodes.{tail_finding, directory_finding, tree_finding}
use Rattle.image_model.specs.Seen.{Seen}
use Rattle.image_model.specs.declared.finding.Finding.{Finding}
use Rattle.fs_check.specs.declared.fault.CheckFault.{CheckFault}
use Rattle.fs_check.specs.declared.fault.CheckFault.TheVariants.{Found, Device, OutOfMemory}

-- what is found is this, or a fault of the device or of memory comes before
abbrev pub FindsBy : Option Finding → CheckFault → Type 0
FindsBy finding (Found f) = finding ≡ Some f
FindsBy finding Device = Unit {0}
FindsBy finding OutOfMemory = Unit {0}

-- An answer with a finding has this one, and an answer without a fault means that there is none.
abbrev pub IsPhase : {T : Type 0} → Option Finding → Result T CheckFault → Type 0
IsPhase finding (Ok value) = finding ≡ None
IsPhase finding (Err fault) = FindsBy finding fault

-- the phases behind the walk and before the counts: blocks that are metadata and a file's, tails, directories, the tree
abbrev pub names_finding : Layout → Seen → Option Finding
names_finding g s = mixed_finding s.met 0 g.blocks then tail_finding s then directory_finding s then tree_finding s

-- the phases of counts
abbrev pub counts_finding : Layout → Seen → Option Finding
counts_finding g s = count_finding s.met s.kept 0 (1024 * count_blocks g) then reserve_finding g s.kept

-- all phases between the walk and the log
abbrev pub rest_finding : Layout → Seen → Option Finding
rest_finding g s = names_finding g s then counts_finding g s
