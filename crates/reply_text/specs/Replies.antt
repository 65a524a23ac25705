-- The text of answers.
use Rattle.std.specs.Prelude.{◌≡◌, ℕ, ◌==◌, ◌||◌, nat_lt, if◌then◌else◌, Bool, List, [], ◌∷◌, ◌++◌, length, codes, decimal, Option, Some, None}
use Rattle.std.specs.List.{flat_map}
use Rattle.percent_encoding.specs.Percent.{percent_encode_byte}
use Rattle.tree_model.specs.declared.refusal.Refusal.{Refusal}
use Rattle.tree_model.specs.declared.refusal.Refusal.TheVariants.{BadCommand, BadName, NotFound, NotADirectory, IsADirectory, Exists, RootFixed, Inside, NotEmpty, TooBig, NoNumbers, NoSpace, DeviceFault, Damaged, OutOfMemory}
use Rattle.tree_model.specs.declared.reply.Kind.{Kind}
use Rattle.tree_model.specs.declared.reply.Kind.TheVariants.{File, Directory}
use Rattle.tree_model.specs.declared.reply.Entry.{Entry}
use Rattle.tree_model.specs.declared.reply.Piece.{Piece}
use Rattle.tree_model.specs.declared.reply.Piece.TheVariants.{Placed, Dirty}
use Rattle.tree_model.specs.declared.reply.Reply.{Reply}
use Rattle.tree_model.specs.declared.reply.Reply.TheVariants.{Done, Data, Entries, Stat, Layout, Space, Refused}
use Rattle.tree_model.specs.declared.report.LineKind.{LineKind}
use Rattle.tree_model.specs.declared.report.LineKind.TheVariants.{Fresh, Share}
use Rattle.tree_model.specs.declared.report.Line.{Line}
use Rattle.tree_model.specs.declared.report.Report.{Report}
use Rattle.tree_model.specs.declared.report.Answer.{Answer}

-- a byte below 33 or above 126, or `%`
abbrev pub needs_escape : ℕ → Bool
needs_escape byte = nat_lt byte 33 || nat_lt 126 byte || byte == 37

-- such a byte is written as `%` and its two upper-case hexadecimal digits
abbrev pub escaped_byte : ℕ → List ℕ
escaped_byte byte = if needs_escape byte then percent_encode_byte byte else byte ∷ []

-- a name as replies write it
unfoldable pub escaped : List ℕ → List ℕ
escaped name = flat_map escaped_byte name

abbrev pub kind_text : Kind → List ℕ
kind_text File = codes "f"
kind_text Directory = codes "d"

abbrev pub entry_text : Entry → List ℕ
entry_text entry = kind_text entry.kind ++ codes " " ++ decimal entry.number ++ codes " " ++ escaped entry.name ++ codes "\n"

abbrev pub piece_text : Piece → List ℕ
piece_text (Placed place size block) = codes "run " ++ decimal place ++ codes " " ++ decimal size ++ codes " " ++ decimal block ++ codes "\n"
piece_text (Dirty place size) = codes "dirty " ++ decimal place ++ codes " " ++ decimal size ++ codes "\n"

-- a refusal by its number and its name
abbrev pub refusal_text : Refusal → List ℕ
refusal_text BadCommand = codes "refused 1 BadCommand\n"
refusal_text BadName = codes "refused 2 BadName\n"
refusal_text NotFound = codes "refused 3 NotFound\n"
refusal_text NotADirectory = codes "refused 4 NotADirectory\n"
refusal_text IsADirectory = codes "refused 5 IsADirectory\n"
refusal_text Exists = codes "refused 6 Exists\n"
refusal_text RootFixed = codes "refused 7 RootFixed\n"
refusal_text Inside = codes "refused 8 Inside\n"
refusal_text NotEmpty = codes "refused 9 NotEmpty\n"
refusal_text TooBig = codes "refused 10 TooBig\n"
refusal_text NoNumbers = codes "refused 11 NoNumbers\n"
refusal_text (NoSpace free need) = codes "refused 12 NoSpace " ++ decimal free ++ codes " " ++ decimal need ++ codes "\n"
refusal_text DeviceFault = codes "refused 13 DeviceFault\n"
refusal_text (Damaged block) = codes "refused 14 Damaged " ++ decimal block ++ codes "\n"
refusal_text OutOfMemory = codes "refused 15 OutOfMemory\n"

-- A line that tells how much follows, and then that.
abbrev pub counted_text : List ℕ → ℕ → List ℕ
counted_text word count = word ++ decimal count ++ codes "\n"

abbrev pub reply_text : Reply → List ℕ
reply_text Done = codes "ok\n"
reply_text (Data bytes) = counted_text (codes "data ") (length bytes) ++ (bytes ++ codes "\n")
reply_text (Entries entries) = counted_text (codes "list ") (length entries) ++ flat_map entry_text entries
reply_text (Stat kind number size) = codes "stat " ++ kind_text kind ++ codes " " ++ decimal number ++ codes " " ++ decimal size ++ codes "\n"
reply_text (Layout pieces) = counted_text (codes "layout ") (length pieces) ++ flat_map piece_text pieces
reply_text (Space free pending log) = codes "space free=" ++ decimal free ++ codes " pending=" ++ decimal pending ++ codes " log=" ++ decimal log ++ codes "\n"
reply_text (Refused refusal) = refusal_text refusal

abbrev pub line_kind_text : LineKind → List ℕ
line_kind_text Fresh = codes "fresh "
line_kind_text Share = codes "share "

abbrev pub line_text : Line → List ℕ
line_text line = line_kind_text line.kind ++ decimal line.number ++ codes " " ++ decimal line.place ++ codes " " ++ decimal line.length ++ codes " " ++ decimal line.block ++ codes "\n"

abbrev pub point_text : Report → List ℕ
point_text report = codes "point " ++ decimal report.number ++ codes " fresh=" ++ decimal report.fresh ++ codes " shared=" ++ decimal report.shared ++ codes " free=" ++ decimal report.free ++ codes "\n"

abbrev pub report_text : Option Report → List ℕ
report_text None = []
report_text (Some report) = point_text report ++ flat_map line_text report.lines

-- an answer is its report, if it has one, and its reply
abbrev pub answer_text : Answer → List ℕ
answer_text answer = report_text answer.report ++ reply_text answer.reply

-- the reply is a list
abbrev pub HasEntries : Reply → Type 0
HasEntries (Entries entries) = Unit {0}
HasEntries reply = ⊥

-- Where the reply is a list, the text is that of the list.
abbrev pub IsListText : Reply → List ℕ → Type 0
IsListText (Entries entries) text = text ≡ reply_text (Entries entries)
IsListText reply text = Unit {0}
