-- A write touches exactly the places in which it has a byte.
use Rattle.std.proofs.Common.{◌≡◌, ℕ, ◌+◌, ◌-◌, ◌*◌, ◌/◌, ◌<◌, ◌≤◌, List, [], ◌∷◌, length, Some, None, refl, sym, subst, arith}
use Rattle.std.specs.Prelude.{Option, Result, Ok, Err, max, Contains}
use Rattle.std.specs.Result.{result_err}
use Rattle.tree_model.specs.declared.command.Command.TheVariants.{Write}
use Rattle.tree_model.specs.declared.node.Node.{Node}
use Rattle.tree_model.specs.declared.refusal.Refusal.{Refusal}
use Rattle.tree_model.specs.declared.reply.Reply.{Reply}
use Rattle.tree_model.specs.Path.{Path}
use Rattle.tree_model.specs.Tree.{Tree, node_at}
use Rattle.tree_model.specs.Step.{attempt}
use Rattle.tree_model.specs.Touched.{touched_by, where_accepted, written_places}
use Rattle.tree_model.specs.Laws.{TouchesWritten}
use Rattle.tree_model.proofs.ByteLaws.{within_places, contains_places}

-- a byte from the offset on, so many, that is in the place
abbrev ByteIn : ℕ → ℕ → ℕ → Type 0
ByteIn offset len place = (i : ℕ) × (offset ≤ i) × (i < offset + len) × (i / 4096 ≡ place)

none_in : {A : Type 0} (number place : ℕ) → Contains {X = ℕ × ℕ} [] (number, place) → A
none_in number place (k, below, is) = absurd (omega arith)

byte_in : (offset len place : ℕ) → 0 < len → offset / 4096 ≤ place → place < offset / 4096 + ((offset + len - 1) / 4096 + 1 - offset / 4096) → ByteIn offset len place
byte_in offset len place some from below =
    (max offset (4096 * place), omega arith, omega arith, omega arith)

in_node : (o : Option Node) (offset len number place : ℕ) → 0 < len → Contains (written_places o offset len) (number, place) → ByteIn offset len place
in_node None offset len number place some c = none_in number place c
in_node (Some node) offset len number place some c =
    let within = within_places node.number (offset / 4096) ((offset + len - 1) / 4096 + 1 - offset / 4096) number place c in
    byte_in offset len place some within.0 within.1

in_touched : (tree : Tree) (path : Path) (offset : ℕ) (bytes : List ℕ) (number place : ℕ) → Contains (touched_by tree (Write path offset bytes)) (number, place) → ByteIn offset (length bytes) place
in_touched tree path offset [] number place c = none_in number place c
in_touched tree path offset (b ∷ bytes) number place c = in_node (node_at tree path) offset (length (b ∷ bytes)) number place (omega arith) c

in_accepted : (r : Result (Reply × Tree) Refusal) (tree : Tree) (path : Path) (offset : ℕ) (bytes : List ℕ) (number place : ℕ)
    → Contains (where_accepted r (touched_by tree (Write path offset bytes))) (number, place) → ByteIn offset (length bytes) place
in_accepted (Ok done) tree path offset bytes number place c = in_touched tree path offset bytes number place c
in_accepted (Err refusal) tree path offset bytes number place c = none_in number place c

-- ---- each byte of a write is in a place that it touches

in_places : (node : Node) (offset len i : ℕ) → offset ≤ i → i < offset + len → Contains (written_places (Some node) offset len) (node.number, i / 4096)
in_places node offset len i from below =
    contains_places node.number (offset / 4096) ((offset + len - 1) / 4096 + 1 - offset / 4096) (i / 4096) (omega (arith, from)) (omega (arith, from, below))

by_bytes : (tree : Tree) (path : Path) (offset : ℕ) (bytes : List ℕ) (node : Node) (i : ℕ) → node_at tree path ≡ Some node → offset ≤ i → i < offset + length bytes
    → Contains (touched_by tree (Write path offset bytes)) (node.number, i / 4096)
by_bytes tree path offset [] node i at from below = absurd (omega (arith, from, below))
by_bytes tree path offset (b ∷ bytes) node i at from below =
    subst (λ (o : Option Node). Contains (written_places o offset (length (b ∷ bytes))) (node.number, i / 4096)) (sym at) (in_places node offset (length (b ∷ bytes)) i from below)

accepted_places : (r : Result (Reply × Tree) Refusal) (spots : List (ℕ × ℕ)) → result_err r ≡ None → spots ≡ where_accepted r spots
accepted_places (Ok done) spots e = refl
accepted_places (Err refusal) spots e = cc

pub touches_written : TouchesWritten
touches_written = record {
  has_byte = λ tree path offset bytes number place c. in_accepted (attempt tree (Write path offset bytes)) tree path offset bytes number place c;
  each_byte = λ tree path offset bytes node i fine at from below.
      subst (λ (spots : List (ℕ × ℕ)). Contains spots (node.number, i / 4096)) (accepted_places (attempt tree (Write path offset bytes)) (touched_by tree (Write path offset bytes)) fine)
      (by_bytes tree path offset bytes node i at from below);
}
