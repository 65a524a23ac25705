use Rattle.command_effect.proofs.NodeEffects.{node_on}
use Rattle.command_effect.proofs.effect.effect_of.Goals as goal

pub node_effect-requires-clause-kind : goal.node_effect-requires-clause-kind
node_effect-requires-clause-kind g c = c.in-None.ensures.other

pub returns-in_ok-node_effect-in-None-clause-on : goal.returns-in_ok-node_effect-in-None-clause-on
returns-in_ok-node_effect-in-None-clause-on g c tells r m holds nodes =
    node_on m c.args.nodes.now holds.coherent.tree holds.coherent.in_files nodes c.args.command.now c.args.change.now c.in_ok-node_effect-in-None.field-0 c.in-None.ensures.other c.requires.done
    c.in_ok-node_effect-in-None.ensures.built c.in_ok-node_effect-in-None.ensures.none
