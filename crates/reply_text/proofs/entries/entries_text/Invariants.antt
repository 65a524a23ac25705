use Rattle.std.proofs.Common.{◌≡◌, ◌++◌, take, length}
use Rattle.std.specs.Prelude.{codes}
use Rattle.std.specs.List.{flat_map}
use Rattle.std.specs.String.{string_bytes}
use Rattle.reply_text.specs.Replies.{entry_text, counted_text}
use Rattle.reply_text.proofs.entries.entries_text.Given as goal

abbrev pub invariant-loop-entry : goal.invariant-loop-entry
invariant-loop-entry l = string_bytes l.text ≡ counted_text (codes "list ") (length l.entries) ++ flat_map entry_text (take l.entry-index l.entries)
