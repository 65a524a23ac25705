-- What holds of the definitions, in words that they don't use.
use Rattle.std.specs.Prelude.{◌≡◌, ◌⊎◌, ◌≤◌, ◌<◌, ℕ, ◌+◌, Bool, ◌&&◌, true, false, if◌then◌else◌, IsTrue, List, [], ◌∷◌, ◌++◌, length, map, nat_eq, Some, None}
use Rattle.std.specs.List.{flat_map}
use Rattle.vol_numbers.specs.Layout.{area_start}
use Rattle.tree_model.specs.declared.command.Command.{Command}
use Rattle.tree_model.specs.declared.command.Command.TheVariants.{Space, Checkpoint, End}
use Rattle.tree_model.specs.declared.refusal.Refusal.TheVariants.{NoSpace}
use Rattle.tree_model.specs.declared.reply.Reply.{Reply}
use Rattle.tree_model.specs.declared.reply.Reply.TheVariants as reply
use Rattle.tree_model.specs.declared.reply.Piece.{Piece}
use Rattle.tree_model.specs.declared.reply.Piece.TheVariants.{Placed, Dirty}
use Rattle.tree_model.specs.declared.report.Answer.{Answer}
use Rattle.tree_model.specs.declared.report.Line.{Line}
use Rattle.tree_model.specs.declared.report.Report.{Report}
use Rattle.tree_model.specs.Step.{step, is_change, is_plain}
use Rattle.place_words.specs.Different.{different, is_among, span, Distinct}
use Rattle.volume_model.specs.declared.sequence.Sequence.{Sequence}
use Rattle.volume_model.specs.Accepted.{HasRoom}
use Rattle.volume_model.specs.Cache.{CacheList, cached_blocks, use_block}
use Rattle.space_account.specs.Charge.{need}
use Rattle.volume_model.specs.Done.{mounted}
use Rattle.volume_model.specs.Legal.{IsLegal, is_due, is_excuse, is_outside, is_done, reply_to, answer_with, fresh_told, next, when_answered}
use Rattle.volume_model.specs.Lines.{fresh_lines, lines_places}
use Rattle.volume_model.specs.Machine.{Machine, Rules, Stored, stored, free_of}
use Rattle.volume_model.specs.Pieces.{place_of, joined, single_pieces, pieces}
use Rattle.volume_model.specs.Places.{Places, is_block, unplaced, InOrder}
use Rattle.volume_model.specs.Point.{IsPoint, after_point, report_of, may_be_fresh, fresh_in}
use Rattle.volume_model.specs.Selection.{Matching, IsSelection}
use Rattle.volume_model.specs.Sharing.{matches, selected, dirty_places}
use Rattle.volume_model.specs.Short.{is_short, answered, IsLegalForNow}
use Rattle.volume_model.specs.Whole.{IsWhole}

-- ---- the selection

-- There is one selection.
abbrev pub OneSelection : Type 0
OneSelection = (matches : Matching) (threshold : ℕ) (places : List ℕ) (ps qs : List Sequence)
    → IsSelection matches threshold places ps → IsSelection matches threshold places qs → ps ≡ qs

-- What is shared of a file is the selection among its dirty places.
abbrev pub SelectedIs : Type 0
SelectedIs = (r : Rules) (m : Machine) (number : ℕ) → 0 < r.threshold → InOrder (unplaced m.dirty)
    → IsSelection (matches m number) r.threshold (dirty_places m number) (selected r m number)

-- ---- the cache list

-- The block that is used is in front, each block stays there once, and no more than the capacity.
pub record UseKeeps : Type 0 where
  pub once : (capacity : ℕ) (pairs : CacheList) (fingerprint : List ℕ) (block : ℕ) → Distinct (cached_blocks pairs) → Distinct (cached_blocks (use_block capacity pairs fingerprint block))
  pub at_most : (capacity : ℕ) (pairs : CacheList) (fingerprint : List ℕ) (block : ℕ) → length (use_block capacity pairs fingerprint block) ≤ capacity

-- ---- states

-- What a mounted volume stores is what it was mounted with.
abbrev pub MountedStores : Type 0
MountedStores = (s : Stored) → stored (mounted s) ≡ s

-- A volume that was mounted is whole, and each answer leaves it so.
pub record IsAlwaysWhole : Type 0 where
  pub at_first : (s : Stored) → InOrder s.places → IsWhole (mounted s)
  pub later : (r : Rules) (m : Machine) (command : Command) (answer : Answer) → IsWhole m → IsWhole (next r m command answer)

-- A point that isn't short leaves 16 blocks free.
abbrev pub PointFits : Type 0
PointFits = (r : Rules) (m : Machine) (fresh : List ℕ) → 0 < r.threshold → IsWhole m → may_be_fresh r m fresh ≡ true → is_short m ≡ false → 16 ≤ free_of (after_point r m fresh)

-- ---- points

-- whether a line goes on where another ends, at its next block
abbrev pub continues : Line → Line → Bool
continues l next = nat_eq l.number next.number && nat_eq (l.place + l.length) next.place && nat_eq (l.block + l.length) next.block

-- no line goes on where the one before it ends
abbrev pub AreLongest : List Line → Type 0
AreLongest [] = Unit {0}
AreLongest (l ∷ []) = Unit {0}
AreLongest (l ∷ next ∷ ls) = (continues l next ≡ false) × AreLongest (next ∷ ls)

-- The fresh lines have these places with these blocks, in this order, in the longest stretches.
pub record FreshLinesAre : Type 0 where
  pub places : (placed : Places) → lines_places (fresh_lines placed) ≡ placed
  pub longest : (placed : Places) → AreLongest (fresh_lines placed)

-- The fresh blocks of a point are all different, lie in the area, and no place had one of them at the last point.
pub record FreshAreUnused : Type 0 where
  pub once : (r : Rules) (m : Machine) (report : Report) → IsPoint r m report → different (fresh_in report) ≡ length (fresh_in report)
  pub in_area : (r : Rules) (m : Machine) (report : Report) (block : ℕ) → IsPoint r m report → IsTrue (is_among (fresh_in report) block) → (area_start m.layout ≤ block) × (block < m.layout.blocks)
  pub unused : (r : Rules) (m : Machine) (report : Report) (block : ℕ) → IsPoint r m report → IsTrue (is_among (fresh_in report) block) → is_block m.stored_places block ≡ false

-- Blocks that may be fresh make a report of a point, which tells of them.
abbrev pub PointsExist : Type 0
PointsExist = (r : Rules) (m : Machine) (fresh : List ℕ) → InOrder (unplaced m.dirty) → may_be_fresh r m fresh ≡ true
    → IsPoint r m (report_of r m fresh) × (fresh_in (report_of r m fresh) ≡ fresh)

-- Reports of a point that tell of the same fresh blocks are one.
abbrev pub OnePoint : Type 0
OnePoint = (r : Rules) (m : Machine) (p q : Report) → IsPoint r m p → IsPoint r m q → fresh_in p ≡ fresh_in q → p ≡ q

-- ---- layouts

-- No two pieces that follow each other could be one.
abbrev pub IsJoined : List Piece → Type 0
IsJoined [] = Unit {0}
IsJoined (p ∷ []) = Unit {0}
IsJoined (p ∷ q ∷ ps) = (joined p q ≡ None) × IsJoined (q ∷ ps)

-- a piece as one piece for each of its places
abbrev pub singles : Piece → List Piece
singles (Placed place length block) = map (λ k. Placed (place + k) 1 (block + k)) (span 0 length)
singles (Dirty place length) = map (λ k. Dirty (place + k) 1) (span 0 length)

-- by their places
abbrev pub AreByPlace : List Piece → Type 0
AreByPlace [] = Unit {0}
AreByPlace (p ∷ []) = Unit {0}
AreByPlace (p ∷ q ∷ ps) = (place_of p ≤ place_of q) × AreByPlace (q ∷ ps)

-- The pieces of a file are its kept and dirty places, by place, in the longest stretches.
pub record PiecesAre : Type 0 where
  pub places : (m : Machine) (number : ℕ) → flat_map singles (pieces m number) ≡ single_pieces m number
  pub by_place : (m : Machine) (number : ℕ) → AreByPlace (single_pieces m number)
  pub longest : (m : Machine) (number : ℕ) → IsJoined (pieces m number)

-- ---- answers

-- An answer that is legal and no excuse is the one that its fresh blocks determine.
abbrev pub LegalIs : Type 0
LegalIs = (r : Rules) (m : Machine) (command : Command) (answer : Answer) → IsLegal r m command answer → is_excuse command answer ≡ false
    → answer ≡ answer_with r m command (fresh_told answer.report)

-- Space and end always have their reply, and no report. A checkpoint that tells of a point is done. Where a point was due and isn't told
-- of, there is an excuse.
pub record ExcusesAreFew : Type 0 where
  pub space : (r : Rules) (m : Machine) (answer : Answer) → IsLegal r m Space answer → answer ≡ record { report = None; reply = reply_to m Space }
  pub ended : (r : Rules) (m : Machine) (answer : Answer) → IsLegal r m End answer → answer ≡ record { report = None; reply = reply.Done }
  pub checkpoint : (r : Rules) (m : Machine) (report : Report) (given : Reply) → IsLegal r m Checkpoint (record { report = Some report; reply = given }) → given ≡ reply.Done
  pub due : (r : Rules) (m : Machine) (command : Command) (given : Reply) → is_due m command ≡ true → IsLegal r m command (record { report = None; reply = given }) → IsTrue (is_outside given)

-- Some answer is legal: where a point is due the one with any blocks that may be fresh, and where none is due the one with no point.
pub record SomeIsLegal : Type 0 where
  pub due : (r : Rules) (m : Machine) (command : Command) (fresh : List ℕ) → is_due m command ≡ true → InOrder (unplaced m.dirty) → may_be_fresh r m fresh ≡ true
      → IsLegal r m command (answer_with r m command fresh)
  pub not_due : (r : Rules) (m : Machine) (command : Command) → is_due m command ≡ false → IsLegal r m command (answer_with r m command [])

-- A change that is answered as done has room in the state in which it is answered, also by an answer that is legal for now.
pub record DoneHasRoom : Type 0 where
  pub legal : (r : Rules) (m : Machine) (command : Command) (answer : Answer) → is_change command ≡ true → IsLegal r m command answer → answer.reply ≡ reply.Done
      → HasRoom (when_answered r m answer.report) command
  pub for_now : (r : Rules) (m : Machine) (command : Command) (answer : Answer) → is_change command ≡ true → IsLegalForNow r m command (answered answer) → answer.reply ≡ reply.Done
      → HasRoom (when_answered r m answer.report) command

-- A legal answer that is no excuse has the tree's reply to a command of the tree, or says that there is no space.
abbrev pub RepliesAreTheTrees : Type 0
RepliesAreTheTrees = (r : Rules) (m : Machine) (command : Command) (answer : Answer) → IsLegal r m command answer → is_excuse command answer ≡ false → IsTrue (is_plain command)
    → (answer.reply ≡ (step m.tree command).0) ⊎ (answer.reply ≡ reply.Refused (NoSpace (free_of (when_answered r m answer.report)) (need command)))

-- A legal answer determines the next state: its tree is the tree's where a change is done, and else the tree stays.
abbrev pub NextTree : Type 0
NextTree = (r : Rules) (m : Machine) (command : Command) (answer : Answer) → (next r m command answer).tree ≡ (if is_change command && is_done answer.reply then (step m.tree command).1 else m.tree)

-- with a record more
abbrev pub recorded : Stored → Command → Stored
recorded s command = record s { records = s.records ++ command ∷ [] }

-- What is stored after an answer is what was stored before it, or by the point that it tells of, with a record more where a change is done.
abbrev pub NextStored : Type 0
NextStored = (r : Rules) (m : Machine) (command : Command) (answer : Answer)
    → stored (next r m command answer)
    ≡ (if is_change command && is_done answer.reply then recorded (stored (when_answered r m answer.report)) command else stored (when_answered r m answer.report))
