-- How many fresh index blocks a rewriting may take.
use Rattle.std.specs.Prelude.{ℕ, ◌+◌, ◌-◌, ◌/◌, ◌==◌, Bool, if◌then◌else◌, List}
use Rattle.vol_numbers.specs.declared.runs.Change.{Change}
use Rattle.place_words.specs.Different.{is_among, total, span}
use Rattle.block_tree.specs.Edit.{leaves_of}

abbrev pub one_if : Bool → ℕ
one_if t = if t then 1 else 0

-- for the leaf k: one where a change is in it, and one where the cut is in it
abbrev pub leaf_room : List Change → ℕ → ℕ → ℕ
leaf_room changes cut k = one_if (is_among (leaves_of changes) k) + one_if (k == cut / 1024)

-- for the leaves from one on and below another
abbrev pub leaves_room : List Change → ℕ → ℕ → ℕ → ℕ
leaves_room changes cut k end = total (leaf_room changes cut) (span k (end - k))
