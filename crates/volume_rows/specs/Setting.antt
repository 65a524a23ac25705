-- Volumes with a log of 64 blocks, files of one-letter names, and blocks of one letter. A block is told by its first byte here.
use Rattle.std.specs.Prelude.{ℕ, List, [], ◌∷◌, replicate, take}
use Rattle.std.specs.List.{flat_map}
use Rattle.tree_model.specs.declared.command.Command.{Command}
use Rattle.tree_model.specs.declared.command.Command.TheVariants.{Create, Write}
use Rattle.tree_model.specs.declared.report.Line.{Line}
use Rattle.tree_model.specs.declared.report.LineKind.TheVariants.{Fresh, Share}
use Rattle.tree_model.specs.declared.report.Report.{Report}
use Rattle.tree_model.specs.Path.{Path}
use Rattle.tree_model.specs.Tree.{new_tree}
use Rattle.place_words.specs.Different.{span}
use Rattle.volume_model.specs.Done.{mounted, all_done}
use Rattle.volume_model.specs.Machine.{Machine, Rules}
use Rattle.volume_model.specs.Point.{after_point}

-- served with a threshold
abbrev pub with_threshold : ℕ → Rules
with_threshold threshold = record { threshold = threshold; capacity = 16384; fingerprint = λ bytes. take 1 bytes }

abbrev pub rules : Rules
rules = with_threshold 4

-- with no room in the cache list, so that nothing is shared
abbrev pub uncached : Rules
uncached = record rules { capacity = 0 }

-- a volume of so many blocks, as a format leaves it
abbrev pub fresh_volume : ℕ → Machine
fresh_volume blocks = mounted (record { layout = record { blocks = blocks; log_blocks = 64 }; tree = new_tree; places = []; records = []; point = 0 })

abbrev pub file : ℕ → Path
file letter = (letter ∷ []) ∷ []

-- one block of each letter
abbrev pub blocks : List ℕ → List ℕ
blocks letters = flat_map (λ letter. replicate 4096 letter) letters

-- a file is made with one block of each letter
abbrev pub made : ℕ → List ℕ → List Command
made name letters = Create (file name) ∷ Write (file name) 0 (blocks letters) ∷ []

abbrev pub fresh : ℕ → ℕ → ℕ → ℕ → Line
fresh number place length block = record { kind = Fresh; number = number; place = place; length = length; block = block }

abbrev pub share : ℕ → ℕ → ℕ → ℕ → Line
share number place length block = record { kind = Share; number = number; place = place; length = length; block = block }

-- the report of a point: its number, its fresh and its shared blocks, and what is free after it
abbrev pub point : ℕ → ℕ → ℕ → ℕ → List Line → Report
point number fresh shared free lines = record { number = number; fresh = fresh; shared = shared; free = free; lines = lines }

-- ---- states that several rows begin with

-- the file /a of the blocks A to H, which isn't stored yet
abbrev pub one_file : Machine
one_file = all_done (fresh_volume 2048) (made 97 (span 65 8))

abbrev pub one_stored : Machine
one_stored = after_point rules one_file (span 105 8)

-- /b of the same blocks, which isn't stored yet
abbrev pub two_files : Machine
two_files = all_done one_stored (made 98 (span 65 8))

abbrev pub two_stored : Machine
two_stored = after_point rules two_files []
