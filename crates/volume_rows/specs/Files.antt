-- Rows on files: what is written, cut, removed and read.
use Rattle.std.specs.Prelude.{◌≡◌, ℕ, ◌-◌, ◌^◌, true, false, List, [], ◌∷◌, replicate, None}
use Rattle.tree_model.specs.declared.command.Command.TheVariants.{Create, Write, Truncate, Remove, Read, Stat, Layout, Space, Checkpoint}
use Rattle.tree_model.specs.declared.reply.Kind.TheVariants as kinds
use Rattle.tree_model.specs.declared.reply.Piece.TheVariants.{Placed, Dirty}
use Rattle.tree_model.specs.declared.reply.Reply.TheVariants as reply
use Rattle.tree_model.specs.Touched.{touched}
use Rattle.place_words.specs.Different.{span}
use Rattle.volume_model.specs.Done.{all_done}
use Rattle.volume_model.specs.Legal.{is_due, reply_to, next}
use Rattle.volume_model.specs.Machine.{Machine}
use Rattle.volume_model.specs.Point.{after_point, report_of, may_be_fresh, fresh_in}
use Rattle.volume_rows.specs.Setting.{rules, fresh_volume, file, made, fresh, share, point, one_file, one_stored, two_stored}

-- all of the area is free but an inode block and the inode index
abbrev pub FormatRow : Type 0
FormatRow = reply_to (fresh_volume 2048) Space ≡ reply.Space 1943 0 0

-- Of two commands 28 blocks are pending, and 10 of the log are used. The point takes eight blocks, an index block and a block of the root directory.
pub record OneFileRows : Type 0 where
  pub space : reply_to one_file Space ≡ reply.Space 1943 28 10
  pub due : is_due one_file Checkpoint ≡ true
  pub may : may_be_fresh rules one_file (span 105 8) ≡ true
  pub report : report_of rules one_file (span 105 8) ≡ point 1 8 0 1933 (fresh 2 0 8 105 ∷ [])
  pub told : fresh_in (report_of rules one_file (span 105 8)) ≡ span 105 8
  pub layout : reply_to one_file (Layout (file 97)) ≡ reply.Layout (Dirty 0 8 ∷ [])
  pub after : reply_to one_stored (Layout (file 97)) ≡ reply.Layout (Placed 0 8 105 ∷ [])
  pub rest : reply_to one_stored Space ≡ reply.Space 1933 0 0

-- Blocks may not be fresh where one is there twice, is one of the last point, lies outside the area, or is missing.
pub record NotFreshRows : Type 0 where
  pub twice : may_be_fresh rules one_file (105 ∷ 105 ∷ span 107 6) ≡ false
  pub stored : may_be_fresh rules (all_done one_stored (Write (file 97) 0 (replicate 4096 90) ∷ [])) (105 ∷ []) ≡ false
  pub below : may_be_fresh rules one_file (span 102 8) ≡ false
  pub past : may_be_fresh rules one_file (span 2041 8) ≡ false
  pub few : may_be_fresh rules one_file (span 105 7) ≡ false

-- one block written over is one fresh block, below the threshold
abbrev pub OneBlockRow : Type 0
OneBlockRow = report_of rules (all_done two_stored (Write (file 97) 8192 (replicate 4096 67) ∷ [])) (113 ∷ []) ≡ point 3 1 0 1931 (fresh 2 2 1 113 ∷ [])

abbrev pub cut : Machine
cut = all_done one_stored (Truncate (file 97) 4098 ∷ [])

-- A file is cut in its second block, which is dirty and written afresh, and what is cut off comes back as zeros.
pub record CutRows : Type 0 where
  pub layout : reply_to cut (Layout (file 97)) ≡ reply.Layout (Placed 0 1 105 ∷ Dirty 1 1 ∷ [])
  pub report : report_of rules cut (103 ∷ []) ≡ point 2 1 0 1939 (fresh 2 1 1 103 ∷ [])
  pub read : reply_to (all_done (after_point rules cut (103 ∷ [])) (Truncate (file 97) 8192 ∷ [])) (Read (file 97) 4094 6) ≡ reply.Data (65 ∷ 65 ∷ 66 ∷ 66 ∷ 0 ∷ 0 ∷ [])

abbrev pub evenly : Machine
evenly = all_done one_stored (Truncate (file 97) 8192 ∷ [])

-- A file that is cut at a multiple of 4,096 has no block cut in two. It touches no place, the point has nothing to write, and two blocks of
-- the file and the leaf over them stay: 1,945 blocks of the area without these 2 and 4 of metadata.
pub record EvenRows : Type 0 where
  pub touches : touched one_stored.tree (Truncate (file 97) 8192) ≡ []
  pub layout : reply_to evenly (Layout (file 97)) ≡ reply.Layout (Placed 0 2 105 ∷ [])
  pub may : may_be_fresh rules evenly [] ≡ true
  pub report : report_of rules evenly [] ≡ point 2 0 0 1939 []

-- a file that grows within its last block, or into holes, keeps what it has
pub record GrownRows : Type 0 where
  pub within : reply_to (all_done (after_point rules cut (103 ∷ [])) (Truncate (file 97) 4100 ∷ [])) (Layout (file 97)) ≡ reply.Layout (Placed 0 1 105 ∷ Placed 1 1 103 ∷ [])
  pub beyond : reply_to (all_done one_stored (Truncate (file 97) 65536 ∷ [])) (Layout (file 97)) ≡ reply.Layout (Placed 0 8 105 ∷ [])
  pub between : reply_to (all_done one_stored (Write (file 97) 12288 (90 ∷ []) ∷ [])) (Layout (file 97)) ≡ reply.Layout (Placed 0 3 105 ∷ Dirty 3 1 ∷ Placed 4 4 109 ∷ [])

-- a write of no bytes changes and records nothing
pub record NoBytesRows : Type 0 where
  pub given : reply_to (all_done (fresh_volume 2048) (Create (file 97) ∷ [])) (Write (file 97) 7 []) ≡ reply.Done
  pub space : reply_to (next rules (all_done (fresh_volume 2048) (Create (file 97) ∷ [])) (Write (file 97) 7 []) (record { report = None; reply = reply.Done })) Space ≡ reply.Space 1943 12 1
  pub stat : reply_to (all_done (fresh_volume 2048) (Create (file 97) ∷ [])) (Stat (file 97)) ≡ reply.Stat kinds.File 2 0

abbrev pub removed : Machine
removed = all_done two_stored (Remove (file 97) ∷ [])

-- the first of two files is removed, and the blocks that the second shares stay
pub record RemovedRows : Type 0 where
  pub report : report_of rules removed [] ≡ point 3 0 0 1933 []
  pub read : reply_to (after_point rules removed []) (Read (file 98) 4095 2) ≡ reply.Data (65 ∷ 66 ∷ [])

-- the stored file is removed and made again, with the same eight blocks or with two others
abbrev pub again : List ℕ → Machine
again letters = all_done one_stored (Remove (file 97) ∷ made 97 letters)

-- A file that is removed and made again before the next point has the old number, and no place of the old file is kept. Its blocks of the
-- last point may still be shared. Free are 1,945 blocks less the file's, 8 or 2, and 4 of metadata.
pub record MadeAgainRows : Type 0 where
  pub stat : reply_to (again (span 65 8)) (Stat (file 97)) ≡ reply.Stat kinds.File 2 32768
  pub layout : reply_to (again (span 65 8)) (Layout (file 97)) ≡ reply.Layout (Dirty 0 8 ∷ [])
  pub shared : report_of rules (again (span 65 8)) [] ≡ point 2 0 8 1933 (share 2 0 8 105 ∷ [])
  pub shorter : reply_to (again (90 ∷ 91 ∷ [])) (Layout (file 97)) ≡ reply.Layout (Dirty 0 2 ∷ [])
  pub fresh : report_of rules (again (90 ∷ 91 ∷ [])) (113 ∷ 114 ∷ []) ≡ point 2 2 0 1939 (fresh 2 0 2 113 ∷ [])

-- a point with nothing pending changes the number alone, behind whose greatest comes 0
pub record AtRestRows : Type 0 where
  pub due : is_due (fresh_volume 2048) Checkpoint ≡ true
  pub first : report_of rules (fresh_volume 2048) [] ≡ point 1 0 0 1943 []
  pub second : report_of rules (after_point rules (fresh_volume 2048) []) [] ≡ point 2 0 0 1943 []
  pub last : (after_point rules (record (fresh_volume 2048) { point = 2 ^ 64 - 1 }) []).point ≡ 0
