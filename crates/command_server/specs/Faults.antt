-- How often the media, the source and the sink have failed after a call of the program, by its status. The first call of theirs that
-- fails ends it, so there is one fault more, or none.
use Rattle.std.specs.Prelude.{ℕ, Option, Some, None}
use Rattle.vol_numbers.specs.Cause.{raised}
use Rattle.command_server.specs.declared.status.Status.{Status}
use Rattle.command_server.specs.declared.status.Status.TheVariants.{Device, SourceFailed, SinkFailed}

-- one fault of the media more with the status Device, and none with any other
abbrev pub device_faults : Status → ℕ → ℕ
device_faults Device count = raised count
device_faults status count = count

-- one fault of the source more with the status SourceFailed, and none with any other
abbrev pub source_faults : Status → ℕ → ℕ
source_faults SourceFailed count = raised count
source_faults status count = count

-- one fault of the sink more with the status SinkFailed, and none with any other
abbrev pub sink_faults : Status → ℕ → ℕ
sink_faults SinkFailed count = raised count
sink_faults status count = count

-- the count where a session has ended so, or goes on
abbrev pub faults_then : (Status → ℕ → ℕ) → Option Status → ℕ → ℕ
faults_then faults None count = count
faults_then faults (Some status) count = faults status count
