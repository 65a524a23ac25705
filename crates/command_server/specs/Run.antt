-- What a call of the program does, by what the words ask for and by its status.
use Rattle.std.specs.Prelude.{◌≡◌, ◌≢◌, ◌⊎◌, ◌-◌, ℕ, List, length, Option, None, Some}
use Rattle.vol_numbers.specs.Layout.{area_size}
use Rattle.disk_model.specs.Disk.{State}
use Rattle.disk_model.specs.Media.{Fixed, image_named}
use Rattle.wire_ends.specs.Ends.{Output, Puts, PutsPart}
use Rattle.volume_format.specs.Formatting.{IsFormatted}
use Rattle.command_server.specs.Words.{Request, Format, Serve, Check}
use Rattle.command_server.specs.Texts.{usage_text, formatted_text}
use Rattle.command_server.specs.declared.status.Status.{Status}
use Rattle.command_server.specs.declared.status.Status.TheVariants.{Done, Usage, BadVolume, Device, SourceFailed, SinkFailed, NoMemory, BadStream, Budget}

-- What the sink gets: the text, or a part of it where the sink fails, or nothing. No other status comes.
abbrev pub PutsBy : Status → List ℕ → Output → Output → Type 0
PutsBy Done text old new = Puts old new text
PutsBy Usage text old new = Puts old new text
PutsBy SinkFailed text old new = PutsPart old new text
PutsBy Device text old new = new ≡ old
PutsBy NoMemory text old new = new ≡ old
PutsBy BadVolume text old new = ⊥
PutsBy SourceFailed text old new = ⊥
PutsBy BadStream text old new = ⊥
PutsBy Budget text old new = ⊥

-- What the sink gets, of words outside the table and of a format, after which two blocks of the area are taken: by the inode block and the
-- inode index. What it gets in a session is said of the session, and what it gets of a check of the check.
abbrev pub PutsFor : Option Request → Status → Output → Output → Type 0
PutsFor None status old new = PutsBy status usage_text old new
PutsFor (Some (Format image g)) status old new = PutsBy status (formatted_text (area_size g - 2)) old new
PutsFor (Some (Serve image)) status old new = Unit {0}
PutsFor (Some (Check image)) status old new = Unit {0}

-- a session is asked for
abbrev pub IsServe : Option Request → Type 0
IsServe None = ⊥
IsServe (Some (Format image g)) = ⊥
IsServe (Some (Serve image)) = Unit {0}
IsServe (Some (Check image)) = ⊥

-- P holds of the image, if a session over it is asked for
abbrev pub IfServe : Option Request → (List ℕ → Type 0) → Type 0
IfServe None P = Unit {0}
IfServe (Some (Format image g)) P = Unit {0}
IfServe (Some (Serve image)) P = P image
IfServe (Some (Check image)) P = Unit {0}

-- P holds of the image, if a check of it is asked for
abbrev pub IfCheck : Option Request → (List ℕ → Type 0) → Type 0
IfCheck None P = Unit {0}
IfCheck (Some (Format image g)) P = Unit {0}
IfCheck (Some (Serve image)) P = Unit {0}
IfCheck (Some (Check image)) P = P image

-- the format was done, whether or not the sink took the text of it
abbrev pub IsActionDone : Status → Type 0
IsActionDone status = (status ≡ Done) ⊎ (status ≡ SinkFailed)

-- after a format the image that was asked for is open, nothing in it is unsynced, and it is a fresh volume
abbrev pub IsMade : Request → Fixed → State → Type 0
IsMade (Format image g) fixed state = (fixed.current ≡ Some image) × IsFormatted g state
IsMade (Serve image) fixed state = Unit {0}
IsMade (Check image) fixed state = Unit {0}

-- The images of all other names are as they were. After a check the named image is too, with its unsynced blocks.
abbrev pub KeepsOthers : Request → Fixed → State → Fixed → State → Type 0
KeepsOthers (Format image g) old old_state new new_state = (other : List ℕ) → other ≢ image → image_named new new_state other ≡ image_named old old_state other
KeepsOthers (Serve image) old old_state new new_state = (other : List ℕ) → other ≢ image → image_named new new_state other ≡ image_named old old_state other
KeepsOthers (Check image) old old_state new new_state = (name : List ℕ) → image_named new new_state name ≡ image_named old old_state name

-- A moment of a format: the image has its blocks, and none of what they hold is promised. A moment of a check: the image is as it was before. Or
-- nothing was opened, and this is the last moment.
abbrev pub IsDuring : Request → (List ℕ → Option State) → State → State → Type 0
IsDuring (Format image g) before last s = (length s.contents ≡ g.blocks) ⊎ (s ≡ last)
IsDuring (Serve image) before last s = Unit {0}
IsDuring (Check image) before last s = (before image ≡ Some s) ⊎ (s ≡ last)
