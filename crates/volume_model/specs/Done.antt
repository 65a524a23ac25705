-- What an accepted command does to the state, and the state of a volume that was mounted.
use Rattle.std.specs.Prelude.{ℕ, Bool, false, not, ◌&&◌, List, [], ◌∷◌, ◌++◌, filter, nat_eq, nat_le, Option, Some, None}
use Rattle.tree_model.specs.declared.node.Node.{Node}
use Rattle.tree_model.specs.declared.command.Command.{Command}
use Rattle.tree_model.specs.declared.command.Command.TheVariants.{Remove, Truncate}
use Rattle.tree_model.specs.Tree.{Tree, node_at}
use Rattle.tree_model.specs.Step.{step}
use Rattle.tree_model.specs.Touched.{touched}
use Rattle.place_words.specs.Different.{up}
use Rattle.volume_model.specs.Places.{Spot, has_spot, with_spots}
use Rattle.volume_model.specs.Machine.{Machine, Stored, at_point}

-- A cut of a node: it has no place from this number of blocks on.
pub record Cut : Type 0 where
  pub number : ℕ
  pub blocks : ℕ

abbrev pub is_cut : Option Cut → Spot → Bool
is_cut None spot = false
is_cut (Some cut) spot = nat_eq spot.0 cut.number && nat_le cut.blocks spot.1

-- a node has at most so many blocks left
abbrev pub cut_to : ℕ → Option Node → Option Cut
cut_to blocks None = None
cut_to blocks (Some node) = Some (record { number = node.number; blocks = blocks })

-- a removed node is cut to no block, and a truncated one to its new number of blocks
abbrev pub cut_by : Tree → Command → Option Cut
cut_by tree (Remove path) = cut_to 0 (node_at tree path)
cut_by tree (Truncate path size) = cut_to (up size 4096) (node_at tree path)
cut_by tree command = None

-- The tree does the command, which is recorded. What it cuts off is neither kept nor dirty, and then what it touches is dirty and not kept.
abbrev pub done : Machine → Command → Machine
done m command =
    let cut = cut_by m.tree command in
    let spots = touched m.tree command in
    record m {
      tree = (step m.tree command).1;
      kept = filter (λ e. not (is_cut cut e.0) && not (has_spot spots e.0)) m.kept;
      dirty = with_spots spots (filter (λ s. not (is_cut cut s)) m.dirty);
      records = m.records ++ command ∷ [];
    }

abbrev pub all_done : Machine → List Command → Machine
all_done m [] = m
all_done m (command ∷ commands) = all_done (done m command) commands

-- the state of a volume that was mounted: nothing is cached, and the recorded commands are done
abbrev pub mounted : Stored → Machine
mounted s = all_done (at_point s.layout s.tree s.places s.point []) s.records
