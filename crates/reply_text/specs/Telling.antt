-- The text of an answer tells the answer.
use Rattle.std.specs.Prelude.{◌≡◌, ◌<◌, ◌^◌, ◌++◌, ℕ, List, length, Option, Some, None}
use Rattle.std.specs.List.{AllByRecursion}
use Rattle.tree_model.specs.declared.refusal.Refusal.{Refusal}
use Rattle.tree_model.specs.declared.refusal.Refusal.TheVariants.{NoSpace, Damaged}
use Rattle.tree_model.specs.declared.reply.Entry.{Entry}
use Rattle.tree_model.specs.declared.reply.Piece.{Piece}
use Rattle.tree_model.specs.declared.reply.Piece.TheVariants.{Placed, Dirty}
use Rattle.tree_model.specs.declared.reply.Reply.{Reply}
use Rattle.tree_model.specs.declared.reply.Reply.TheVariants.{Done, Data, Entries, Stat, Layout, Space, Refused}
use Rattle.tree_model.specs.declared.report.Line.{Line}
use Rattle.tree_model.specs.declared.report.Report.{Report}
use Rattle.tree_model.specs.declared.report.Answer.{Answer}
use Rattle.reply_text.specs.Replies.{answer_text}

-- a number of the program
abbrev pub IsNumber : ℕ → Type 0
IsNumber number = number < 2 ^ 64

abbrev pub IsByte : ℕ → Type 0
IsByte byte = byte < 256

pub record IsEntry (entry : Entry) : Type 0 where
  pub number : IsNumber entry.number
  pub name : AllByRecursion IsByte entry.name

abbrev pub IsPiece : Piece → Type 0
IsPiece (Placed place size block) = IsNumber place × IsNumber size × IsNumber block
IsPiece (Dirty place size) = IsNumber place × IsNumber size

abbrev pub IsRefusal : Refusal → Type 0
IsRefusal (NoSpace free need) = IsNumber free × IsNumber need
IsRefusal (Damaged block) = IsNumber block
IsRefusal refusal = Unit {0}

abbrev pub IsReply : Reply → Type 0
IsReply Done = Unit {0}
IsReply (Data bytes) = IsNumber (length bytes)
IsReply (Entries entries) = IsNumber (length entries) × AllByRecursion IsEntry entries
IsReply (Stat kind number size) = IsNumber number × IsNumber size
IsReply (Layout pieces) = IsNumber (length pieces) × AllByRecursion IsPiece pieces
IsReply (Space free pending log) = IsNumber free × IsNumber pending × IsNumber log
IsReply (Refused refusal) = IsRefusal refusal

pub record IsLine (line : Line) : Type 0 where
  pub number : IsNumber line.number
  pub place : IsNumber line.place
  pub size : IsNumber line.length
  pub block : IsNumber line.block

pub record IsReport (report : Report) : Type 0 where
  pub number : IsNumber report.number
  pub fresh : IsNumber report.fresh
  pub shared : IsNumber report.shared
  pub free : IsNumber report.free
  pub lines : AllByRecursion IsLine report.lines

abbrev pub IsReportIfAny : Option Report → Type 0
IsReportIfAny None = Unit {0}
IsReportIfAny (Some report) = IsReport report

-- an answer of the program: its numbers are below 2^64, and its names are bytes
pub record IsAnswer (answer : Answer) : Type 0 where
  pub report : IsReportIfAny answer.report
  pub reply : IsReply answer.reply

-- No answer's text begins another's.
abbrev pub NoneBeginsAnother : Type 0
NoneBeginsAnother = (one two : Answer) (more : List ℕ) → IsAnswer one → IsAnswer two → answer_text one ++ more ≡ answer_text two → one ≡ two
