-- Where the slots of a table lead.
use Rattle.std.specs.Prelude.{ℕ, List, [], ◌∷◌, Option, Some, None, Result, Ok, Err}
use Rattle.dir_slots.specs.Slots.{number_in}
use Rattle.tree_model.specs.Path.{Path}
use Rattle.tree_model.specs.Step.{◌>>=◌, or_refuse}
use Rattle.tree_model.specs.declared.refusal.Refusal.{Refusal}
use Rattle.tree_model.specs.declared.refusal.Refusal.TheVariants.{NotFound, NotADirectory}
use Rattle.node_table.specs.declared.held.FoundNode.{FoundNode}
use Rattle.node_table.specs.declared.held.HeldNode.{HeldNode}
use Rattle.node_table.specs.declared.held.HeldNode.TheVariants.{File, Directory}
use Rattle.node_table.specs.Held.{Nodes, held, info}

-- the number that a name has in a directory
abbrev pub number_below : Option HeldNode → List ℕ → Result ℕ Refusal
number_below None name = Err NotFound
number_below (Some (File size)) name = Err NotADirectory
number_below (Some (Directory slots)) name = or_refuse (number_in slots name) NotFound

-- what is known of the node of a number, or that there is none
abbrev pub found_at : Option HeldNode → ℕ → Result FoundNode Refusal
found_at None number = Err NotFound
found_at (Some node) number = Ok (record { number = number; info = info node })

-- from the node of a number on along names
abbrev pub look_from : Nodes → ℕ → Path → Result FoundNode Refusal
look_from nodes number [] = found_at (held nodes number) number
look_from nodes number (name ∷ names) = do
  next ← number_below (held nodes number) name
  look_from nodes next names

-- from the root on
abbrev pub look : Nodes → Path → Result FoundNode Refusal
look nodes path = look_from nodes 1 path
