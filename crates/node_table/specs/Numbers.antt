-- Which numbers nodes have.
use Rattle.std.specs.Prelude.{◌≡◌, ◌≤◌, ◌<◌, ℕ, true, false, is_some}
use Rattle.node_table.specs.Held.{Nodes, held}

-- the least number from 1 on that no node has
pub record IsNext (nodes : Nodes) (number : ℕ) : Type 0 where
  pub at_least : 1 ≤ number
  pub at_most : number ≤ 65535
  pub free : is_some (held nodes number) ≡ false
  pub least : (k : ℕ) → 1 ≤ k → k < number → is_some (held nodes k) ≡ true

-- each number from 1 to 65,535 is a node's
abbrev pub AllUsed : Nodes → Type 0
AllUsed nodes = (k : ℕ) → 1 ≤ k → k ≤ 65535 → is_some (held nodes k) ≡ true
