-- What answering one item does.
use Rattle.std.specs.Prelude.{◌≡◌, ℕ, List}
use Rattle.wire_ends.specs.Ends.{Output, Puts, PutsPart}
use Rattle.command_text.specs.declared.fault.TextFault.{TextFault}
use Rattle.command_text.specs.declared.fault.TextFault.TheVariants as fault
use Rattle.command_server.specs.declared.serving.Served.{Served}
use Rattle.command_server.specs.declared.serving.Served.TheVariants.{GoesOn, Ends}
use Rattle.command_server.specs.declared.status.Status.{Status}
use Rattle.command_server.specs.declared.status.Status.TheVariants.{Done, Usage, BadVolume, Device, SourceFailed, SinkFailed, NoMemory, BadStream, Budget}

-- the status of a session whose next item can't be read
abbrev pub status_of : TextFault → Status
status_of fault.Source = SourceFailed
status_of fault.BadStream = BadStream
status_of fault.Budget = Budget
status_of fault.OutOfMemory = NoMemory

-- What is put of an answer's text: all, and the session goes on; or a part at the sink's failure; or nothing for want of memory.
abbrev pub Says : List ℕ → Served → Output → Output → Type 0
Says text GoesOn old new = Puts old new text
Says text (Ends SinkFailed) old new = PutsPart old new text
Says text (Ends NoMemory) old new = new ≡ old
Says text (Ends Done) old new = ⊥
Says text (Ends Usage) old new = ⊥
Says text (Ends BadVolume) old new = ⊥
Says text (Ends Device) old new = ⊥
Says text (Ends SourceFailed) old new = ⊥
Says text (Ends BadStream) old new = ⊥
Says text (Ends Budget) old new = ⊥
