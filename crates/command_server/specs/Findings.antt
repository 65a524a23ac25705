-- What a check writes.
use Rattle.std.specs.Prelude.{ℕ, List, ◌++◌, codes, decimal}
use Rattle.fs_check.specs.declared.checking.Summary.{Summary}
use Rattle.image_model.specs.declared.finding.Finding.{Finding}
use Rattle.image_model.specs.declared.finding.Finding.TheVariants.{NoRoot, BadGeometry, BadPointer, BadInode, MixedBlock, BadTail, BadDirectory, NotATree, WrongCount, NoReserve, BadLog}

-- the line that tells how much there is in a good image
abbrev pub good_text : Summary → List ℕ
good_text sum = codes "good nodes=" ++ decimal sum.nodes ++ codes " records=" ++ decimal sum.records ++ codes " free=" ++ decimal sum.free ++ codes "\n"

-- the line for a block with another count than the pointers to it
abbrev pub wrong_count_text : ℕ → ℕ → ℕ → List ℕ
wrong_count_text block kept counted = codes "bad WrongCount " ++ decimal block ++ codes " " ++ decimal kept ++ codes " " ++ decimal counted ++ codes "\n"

-- a line that begins so and ends with a number
abbrev pub numbered_text : List ℕ → ℕ → List ℕ
numbered_text begin number = begin ++ decimal number ++ codes "\n"

-- the line that tells what is wrong with an image
abbrev pub bad_text : Finding → List ℕ
bad_text NoRoot = codes "bad NoRoot\n"
bad_text BadGeometry = codes "bad BadGeometry\n"
bad_text (BadPointer block) = numbered_text (codes "bad BadPointer ") block
bad_text (BadInode number) = numbered_text (codes "bad BadInode ") number
bad_text (MixedBlock block) = numbered_text (codes "bad MixedBlock ") block
bad_text (BadTail number) = numbered_text (codes "bad BadTail ") number
bad_text (BadDirectory number) = numbered_text (codes "bad BadDirectory ") number
bad_text (NotATree number) = numbered_text (codes "bad NotATree ") number
bad_text (WrongCount block kept counted) = wrong_count_text block kept counted
bad_text (NoReserve free) = numbered_text (codes "bad NoReserve ") free
bad_text (BadLog record_index) = numbered_text (codes "bad BadLog ") record_index
