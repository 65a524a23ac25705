use Rattle.std.proofs.Common.{ap, ◌∙◌}
use Rattle.dir_slots.specs.Slots.{number_in}
use Rattle.node_table.specs.Held.{held, slots_of}
use Rattle.node_table.proofs.KeptLaws.{set_other}
use Rattle.node_table.proofs.MoveLaws.{moved_ok, moves_apart, slot_there}
use Rattle.node_table.proofs.table.NodeTable.move_entry.Goals as goal

pub returns-then-parent-into-clause-moved : goal.returns-then-parent-into-clause-moved
returns-then-parent-into-clause-moved c =
    moved_ok c.rename_entry.result _ _ c.args.parent c.args.into c.args.number c.args.from.now c.args.to.now c.requires.directory c.requires.there c.if-parent-into.true c.rename_entry.ensures.moved

pub remove_entry-left-requires-clause-there : goal.remove_entry-left-requires-clause-there
remove_entry-left-requires-clause-there c =
    slot_there (slots_of (held c.add_entry.new.self c.args.parent)) c.args.from.now c.args.number
    (ap (λ o. number_in (slots_of o) c.args.from.now) (set_other _ _ c.args.into _ c.in_ok-came.ensures.added.set c.args.parent c.if-parent-into.false) ∙ c.requires.there)

pub returns-clause-moved : goal.returns-clause-moved
returns-clause-moved c =
    moves_apart _ _ c.args.parent c.args.number c.args.from.now c.args.to.now c.requires.directory c.requires.there c.args.into c.if-parent-into.false c.add_entry.new.self c.in_ok-came.came c.remove_entry-left.result
    c.in_ok-came.ensures.added c.remove_entry-left.ensures.slot c.remove_entry-left.ensures.removed
