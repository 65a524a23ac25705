use Rattle.std.proofs.Common.{◌∙◌, sym, ap}
use Rattle.command_server.specs.Findings.{bad_text}
use Rattle.command_server.proofs.findings.bad_line.Goals as goal

pub returns-in-BadPointer-clause-text : goal.returns-in-BadPointer-clause-text
returns-in-BadPointer-clause-text c = c.numbered_line.ensures.text ∙ ap bad_text (sym c.in-BadPointer.is)

pub returns-in-BadInode-clause-text : goal.returns-in-BadInode-clause-text
returns-in-BadInode-clause-text c = c.numbered_line-in-BadInode.ensures.text ∙ ap bad_text (sym c.in-BadInode.is)

pub returns-in-MixedBlock-clause-text : goal.returns-in-MixedBlock-clause-text
returns-in-MixedBlock-clause-text c = c.numbered_line-in-MixedBlock.ensures.text ∙ ap bad_text (sym c.in-MixedBlock.is)

pub returns-in-BadTail-clause-text : goal.returns-in-BadTail-clause-text
returns-in-BadTail-clause-text c = c.numbered_line-in-BadTail.ensures.text ∙ ap bad_text (sym c.in-BadTail.is)

pub returns-in-BadDirectory-clause-text : goal.returns-in-BadDirectory-clause-text
returns-in-BadDirectory-clause-text c = c.numbered_line-in-BadDirectory.ensures.text ∙ ap bad_text (sym c.in-BadDirectory.is)

pub returns-in-NotATree-clause-text : goal.returns-in-NotATree-clause-text
returns-in-NotATree-clause-text c = c.numbered_line-in-NotATree.ensures.text ∙ ap bad_text (sym c.in-NotATree.is)

pub returns-in-NoReserve-clause-text : goal.returns-in-NoReserve-clause-text
returns-in-NoReserve-clause-text c = c.numbered_line-in-NoReserve.ensures.text ∙ ap bad_text (sym c.in-NoReserve.is)

pub returns-in-BadLog-clause-text : goal.returns-in-BadLog-clause-text
returns-in-BadLog-clause-text c = c.numbered_line-in-BadLog.ensures.text ∙ ap bad_text (sym c.in-BadLog.is)
