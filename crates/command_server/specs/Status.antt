-- The number of each status.
use Rattle.std.specs.Prelude.{ℕ}
use Rattle.command_server.specs.declared.status.Status.{Status}
use Rattle.command_server.specs.declared.status.Status.TheVariants.{Done, Usage, BadVolume, Device, SourceFailed, SinkFailed, NoMemory, BadStream, Budget}

abbrev pub number_of : Status → ℕ
number_of Done = 0
number_of Usage = 2
number_of BadVolume = 3
number_of Device = 4
number_of SourceFailed = 5
number_of SinkFailed = 6
number_of NoMemory = 7
number_of BadStream = 8
number_of Budget = 9
