use Rattle.std.proofs.Common.{ap, sym, subst, ◌∙◌, length, ◌+◌}
use Rattle.std.specs.Result.{result_err}
use Rattle.tree_model.specs.Step.{refusal_of}
use Rattle.node_table.specs.Held.{AreDirectories}
use Rattle.node_table.specs.Checks.{may_size}
use Rattle.node_table.specs.Walks.{look}
use Rattle.node_table.proofs.RefusalLaws.{write_same, truncate_same, remove_same, rename_same, read_same, layout_same, listed_same, stats_same}
use Rattle.node_table.proofs.table.NodeTable.refusal.Goals as goal

pub returns-in-Write : goal.returns-in-Write
returns-in-Write c = λ tree h holds.
    c.err.ensures.value ∙ ap result_err c.may_write.ensures ∙ ap (λ given. result_err (may_size c.args.self.now c.in-Write.path (c.in-Write.offset + length given))) c.as_slice.ensures.is
    ∙ write_same c.args.self.now tree h holds c.in-Write.path c.in-Write.offset c.in-Write.bytes ∙ sym (ap (refusal_of tree) c.in-Write.is)

pub returns-in-Truncate : goal.returns-in-Truncate
returns-in-Truncate c = λ tree h holds.
    c.err-in-Truncate.ensures.value ∙ ap result_err c.may_size.ensures ∙ truncate_same c.args.self.now tree h holds c.in-Truncate.path c.in-Truncate.size ∙ sym (ap (refusal_of tree) c.in-Truncate.is)

pub returns-in-Remove : goal.returns-in-Remove
returns-in-Remove c = λ tree h holds.
    c.err-in-Remove.ensures.value ∙ ap result_err c.may_remove.ensures
    ∙ remove_same c.args.self.now tree h holds (subst AreDirectories c.self.view_is c.self.invariant.directories) c.in-Remove.path ∙ sym (ap (refusal_of tree) c.in-Remove.is)

pub returns-in-Rename : goal.returns-in-Rename
returns-in-Rename c = λ tree h holds.
    c.err-in-Rename.ensures.value ∙ ap result_err c.may_rename.ensures ∙ rename_same c.args.self.now tree h holds c.in-Rename.from c.in-Rename.to ∙ sym (ap (refusal_of tree) c.in-Rename.is)

pub returns-in-List : goal.returns-in-List
returns-in-List c = λ tree h holds.
    c.err-in-List.ensures.value ∙ ap result_err c.may_list.ensures ∙ listed_same c.args.self.now tree h holds c.in-List.path ∙ sym (ap (refusal_of tree) c.in-List.is)

pub returns-in-Stat : goal.returns-in-Stat
returns-in-Stat c = λ tree h holds.
    c.err-in-Stat.ensures.value ∙ ap result_err c.look.ensures ∙ ap (λ path. result_err (look c.args.self.now path)) c.names.ensures.is
    ∙ stats_same c.args.self.now tree h holds c.in-Stat.path ∙ sym (ap (refusal_of tree) c.in-Stat.is)

pub returns-in-Read : goal.returns-in-Read
returns-in-Read c = λ tree h holds.
    c.err-in-Read.ensures.value ∙ ap result_err c.file_at.ensures ∙ read_same c.args.self.now tree h holds c.in-Read.path c.in-Read.offset c.in-Read.length ∙ sym (ap (refusal_of tree) c.in-Read.is)

pub returns-in-Layout : goal.returns-in-Layout
returns-in-Layout c = λ tree h holds.
    c.err-in-Layout.ensures.value ∙ ap result_err c.file_at-in-Layout.ensures ∙ layout_same c.args.self.now tree h holds c.in-Layout.path ∙ sym (ap (refusal_of tree) c.in-Layout.is)
