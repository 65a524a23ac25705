-- How calls that follow one another compose.
use Rattle.std.specs.Prelude.{◌≡◌, ◌++◌, List, [], ℕ, IsTrue}
use Rattle.wire_ends.specs.Buffer.{Passes}
use Rattle.wire_ends.specs.Ends.{Input, Output, Takes, Puts, PutsPart}

-- two pieces in a row are one
abbrev pub TakesCompose : Type 0
TakesCompose = (old mid new : Input) (first second : List ℕ) → Takes old mid first → Takes mid new second → Takes old new (first ++ second)

-- all that a source had was taken, if nothing is left
abbrev pub TakesWhole : Type 0
TakesWhole = (old new : Input) (bytes : List ℕ) → Takes old new bytes → IsTrue old.is_told → new.left ≡ [] → old.left ≡ bytes

-- two puts in a row are one
abbrev pub PutsCompose : Type 0
PutsCompose = (old mid new : Output) (first second : List ℕ) → Puts old mid first → Puts mid new second → Puts old new (first ++ second)

-- a part that is put behind a whole is a part of both
abbrev pub PartBehind : Type 0
PartBehind = (old mid new : Output) (first second : List ℕ) → Puts old mid first → PutsPart mid new second → PutsPart old new (first ++ second)

-- a part of the first bytes is a part of all of them
abbrev pub PartOfMore : Type 0
PartOfMore = (old new : Output) (first second : List ℕ) → PutsPart old new first → PutsPart old new (first ++ second)

-- two pieces that go through a buffer in a row are one
abbrev pub PassesCompose : Type 0
PassesCompose = (old mid new : Output) (held kept rest first second : List ℕ) → Passes old mid held kept first → Passes mid new kept rest second → Passes old new held rest (first ++ second)

-- what goes through a buffer that was empty was put, once the buffer is let out
abbrev pub PassesWhole : Type 0
PassesWhole = (old mid new : Output) (rest bytes : List ℕ) → Passes old mid [] rest bytes → Puts mid new rest → Puts old new bytes

-- a part of what is held and of what follows is a part of all that was to go through
abbrev pub PassesPart : Type 0
PassesPart = (old mid new : Output) (held kept first second : List ℕ) → Passes old mid held kept first → PutsPart mid new (kept ++ second) → PutsPart old new (held ++ (first ++ second))
