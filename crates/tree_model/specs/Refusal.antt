-- The numbers of refusals.
use Rattle.std.specs.Prelude.{ℕ}
use Rattle.tree_model.specs.declared.refusal.Refusal.{Refusal}
use Rattle.tree_model.specs.declared.refusal.Refusal.TheVariants.{BadCommand, BadName, NotFound, NotADirectory, IsADirectory, Exists, RootFixed, Inside, NotEmpty, TooBig, NoNumbers, NoSpace, DeviceFault, Damaged, OutOfMemory}

abbrev pub number_of : Refusal → ℕ
number_of BadCommand = 1
number_of BadName = 2
number_of NotFound = 3
number_of NotADirectory = 4
number_of IsADirectory = 5
number_of Exists = 6
number_of RootFixed = 7
number_of Inside = 8
number_of NotEmpty = 9
number_of TooBig = 10
number_of NoNumbers = 11
number_of (NoSpace free need) = 12
number_of DeviceFault = 13
number_of (Damaged block) = 14
number_of OutOfMemory = 15
