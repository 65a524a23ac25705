-- Rows on space and on the log.
use Rattle.std.specs.Prelude.{◌≡◌, ℕ, zero, suc, ◌+◌, ◌/◌, ◌%◌, true, false, List, [], ◌∷◌, None}
use Rattle.tree_model.specs.declared.command.Command.{Command}
use Rattle.tree_model.specs.declared.command.Command.TheVariants.{Create, Write, Remove, Rename}
use Rattle.tree_model.specs.declared.refusal.Refusal.TheVariants.{NoSpace, NotFound, IsADirectory, Exists}
use Rattle.tree_model.specs.declared.reply.Reply.TheVariants as reply
use Rattle.place_words.specs.Different.{span}
use Rattle.volume_model.specs.Done.{all_done}
use Rattle.volume_model.specs.Legal.{is_due, reply_to, next}
use Rattle.volume_model.specs.Machine.{Machine}
use Rattle.volume_model.specs.Point.{after_point, report_of}
use Rattle.volume_model.specs.Short.{is_short}
use Rattle.volume_rows.specs.Setting.{rules, uncached, fresh_volume, file, blocks, made, fresh, point}

-- a volume of 165 blocks with a file of 16 blocks, before a point and after it, and of 32
abbrev pub half_full : Machine
half_full = all_done (fresh_volume 165) (made 102 (span 65 16))

abbrev pub half_stored : Machine
half_stored = after_point uncached half_full (span 103 16)

abbrev pub full : Machine
full = after_point uncached (all_done half_stored (Write (file 102) 65536 (blocks (span 97 16)) ∷ [])) (span 123 16)

-- a write of so many blocks behind the file's end
abbrev pub write_of : ℕ → Command
write_of count = Write (file 102) 131072 (blocks (span 48 count))

-- what is free after each of the two points
pub record FilledRows : Type 0 where
  pub first : report_of uncached half_full (span 103 16) ≡ point 1 16 0 44 (fresh 2 0 16 103 ∷ [])
  pub second : report_of uncached (all_done half_stored (Write (file 102) 65536 (blocks (span 97 16)) ∷ [])) (span 123 16) ≡ point 2 16 0 28 (fresh 2 16 16 123 ∷ [])

-- A write for which 40 blocks have to be free is refused where 28 are, and no point is due before it.
pub record FullRows : Type 0 where
  pub no_point : is_due full (write_of 16) ≡ false
  pub refused : reply_to full (write_of 16) ≡ reply.Refused (NoSpace 28 40)

-- a write that needs just as many as are free has space, and one that needs one more hasn't
pub record JustEnoughRows : Type 0 where
  pub just_enough : reply_to full (write_of 4) ≡ reply.Done
  pub one_more : reply_to full (write_of 5) ≡ reply.Refused (NoSpace 28 29)

-- the full volume after it refused a write, once
abbrev pub asked : Machine
asked = next uncached full (write_of 16) (record { report = None; reply = reply.Refused (NoSpace 28 40) })

-- The refusal changes nothing, so that a full volume that is asked again answers the same.
pub record AskedTwiceRows : Type 0 where
  pub stays : asked ≡ full
  pub no_point : is_due asked (write_of 16) ≡ false
  pub again : reply_to asked (write_of 16) ≡ reply.Refused (NoSpace 28 40)

-- On a full volume a change that the tree refuses gets the tree's refusal, though it needs more than 28 blocks. A write of 16 blocks needs
-- 40 and a rename 36.
pub record TreeFirstRows : Type 0 where
  pub missing : reply_to full (Write (file 103) 0 (blocks (span 48 16))) ≡ reply.Refused NotFound
  pub directory : reply_to full (Write [] 0 (blocks (span 48 16))) ≡ reply.Refused IsADirectory
  pub taken : reply_to full (Rename (file 102) (file 102)) ≡ reply.Refused Exists
  pub accepted : reply_to full (Rename (file 102) (file 103)) ≡ reply.Refused (NoSpace 28 36)

-- A remove has space. The file that is made behind it makes a point due, which frees the removed one's blocks.
pub record FreedRows : Type 0 where
  pub removed : reply_to full (Remove (file 102)) ≡ reply.Done
  pub due : is_due (all_done full (Remove (file 102) ∷ [])) (Create (file 103)) ≡ true
  pub report : report_of uncached (all_done full (Remove (file 102) ∷ [])) [] ≡ point 3 0 0 61 []
  pub after : reply_to (after_point uncached (all_done full (Remove (file 102) ∷ [])) []) (Create (file 103)) ≡ reply.Done

-- Behind a record of 12 a write that brings charges and reserve to just the 44 free blocks makes no point due, and one of a block more does.
pub record DueRows : Type 0 where
  pub just_enough : is_due (all_done half_stored (Create (file 103) ∷ [])) (Write (file 103) 0 (blocks (span 65 8))) ≡ false
  pub one_more : is_due (all_done half_stored (Create (file 103) ∷ [])) (Write (file 103) 0 (blocks (span 65 9))) ≡ true
  pub refused_by_the_tree : is_due (all_done half_stored (Create (file 103) ∷ [])) (Write (file 104) 0 (blocks (span 65 9))) ≡ false

-- so many files, each named by two digits behind a letter
abbrev pub creates : ℕ → List Command
creates zero = []
creates (suc n) = Create (((102 ∷ (48 + n / 10) ∷ (48 + n % 10) ∷ []) ∷ [])) ∷ creates n

-- A log of 64 records of a block is full, and the next record makes a point due.
pub record FullLogRows : Type 0 where
  pub last : is_due (all_done (fresh_volume 2048) (creates 63)) (Create (file 97)) ≡ false
  pub due : is_due (all_done (fresh_volume 2048) (creates 64)) (Create (file 97)) ≡ true
  pub report : report_of rules (all_done (fresh_volume 2048) (creates 64)) [] ≡ point 1 0 0 1937 []

-- A point is short by the formula where the dirty places, the metadata after it and 16 are more than what is free.
pub record ShortRows : Type 0 where
  pub room : is_short half_full ≡ false
  pub just_enough : is_short (all_done full (Write (file 102) 0 (blocks (span 48 8)) ∷ [])) ≡ false
  pub short : is_short (all_done full (Write (file 102) 0 (blocks (span 48 9)) ∷ [])) ≡ true
