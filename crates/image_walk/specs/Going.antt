-- Of private functions: how far a walk has come.
use Rattle.std.specs.Prelude.{◌≡◌, ℕ, List, [], ◌∷◌, ◌++◌, length, Result, Ok, Err, Some, None}
use Rattle.vol_numbers.specs.Layout.{Layout}
use Rattle.image_model.specs.Met.{Met}
use Rattle.image_model.specs.Findings.{walk_finding, reached_with}
use Rattle.image_model.specs.declared.finding.Finding.{Finding}
use Rattle.image_walk.specs.declared.fault.WalkFault.{WalkFault}
use Rattle.image_walk.specs.declared.fault.WalkFault.TheVariants.{Found, Device, OutOfMemory}
use Rattle.image_walk.specs.declared.marks.Mark.{Mark}
use Rattle.image_walk.specs.Marks.{SaysUpTo}

-- the metadata that is reached after so much was met
abbrev pub reached_after : List ℕ → List Met → List ℕ
reached_after reached [] = reached
reached_after reached (m ∷ ms) = reached_after (reached_with reached m) ms

-- Whatever was met before: all of this was met too, and nothing is wrong with it.
pub record Goes (g : Layout) (old new : List Mark) (ms : List Met) : Type 0 where
  pub long : length new ≡ length old
  pub says : (before : List Met) → SaysUpTo old before → SaysUpTo new (before ++ ms)
  pub fine : (before : List Met) → SaysUpTo old before → walk_finding g (reached_after [] before) ms ≡ None

-- Whatever was met before: this is what is wrong with it first.
abbrev pub Finds : Layout → List Mark → List Met → Finding → Type 0
Finds g old ms f = (before : List Met) → SaysUpTo old before → walk_finding g (reached_after [] before) ms ≡ Some f

-- a walk over this ends so
abbrev pub EndsBy : Layout → List Mark → List Met → WalkFault → Type 0
EndsBy g old ms (Found f) = Finds g old ms f
EndsBy g old ms Device = Unit {0}
EndsBy g old ms OutOfMemory = Unit {0}

-- the walk over this went well, or ended so
abbrev pub Walks : {T : Type 0} → Layout → List Mark → List Mark → List Met → Result T WalkFault → Type 0
Walks g old new ms (Ok value) = Goes g old new ms
Walks g old new ms (Err fault) = EndsBy g old ms fault

-- This much of the whole was met, and that is still to be met.
pub record Part (g : Layout) (old now : List Mark) (whole rest : List Met) : Type 0 where
  pub front : List Met
  pub split : front ++ rest ≡ whole
  pub goes : Goes g old now front

-- the same of what is no pointer: no mark changes
abbrev pub Checks : {T : Type 0} → Layout → List Met → Result T WalkFault → Type 0
Checks g ms result = (marks : List Mark) → Walks g marks marks ms result
