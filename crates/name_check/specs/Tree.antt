-- What is wrong with the tree that entries make.
use Rattle.std.specs.Prelude.{◌≡◌, Some}
use Rattle.image_model.specs.Nodes.{tree_finding}
use Rattle.image_model.specs.Seen.{Seen}
use Rattle.name_check.specs.declared.fault.NameFault.{NameFault}
use Rattle.name_check.specs.declared.fault.NameFault.TheVariants.{Found, Device, OutOfMemory}

-- what is found is the number that is named or reached wrongly first
abbrev pub FindsInTree : Seen → NameFault → Type 0
FindsInTree s (Found f) = tree_finding s ≡ Some f
FindsInTree s Device = Unit {0}
FindsInTree s OutOfMemory = Unit {0}
