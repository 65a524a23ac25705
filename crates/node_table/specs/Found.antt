-- What a walk of the tree comes to, as a table tells it.
use Rattle.std.specs.Prelude.{Result, Ok, Err}
use Rattle.tree_model.specs.declared.node.Node.{Node}
use Rattle.tree_model.specs.declared.refusal.Refusal.{Refusal}
use Rattle.node_table.specs.declared.held.FoundNode.{FoundNode}
use Rattle.node_table.specs.Held.{info_of}

-- a node as it is found
abbrev pub found_of : Node → FoundNode
found_of node = record { number = node.number; info = info_of node.content }

-- the node, or why there is none
abbrev pub found : Result Node Refusal → Result FoundNode Refusal
found (Ok node) = Ok (found_of node)
found (Err refusal) = Err refusal
