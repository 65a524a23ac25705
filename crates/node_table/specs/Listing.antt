-- What a table says of a node, in words of private functions alone.
use Rattle.std.specs.Prelude.{ℕ, Bool, filter, List, Option, Some, None}
use Rattle.std.specs.Cmp.Lexicographic.{slice_cmp}
use Rattle.std.specs.List.{filter_map}
use Rattle.std.specs.List.Sorted.{IsPermutation, IsSortedBy}
use Rattle.std.specs.Ordering.{is_lt, nat_cmp}
use Rattle.block_format.specs.declared.slot.Slot.{Slot}
use Rattle.block_format.specs.declared.slot.Slot.TheVariants.{Unused, Entry}
use Rattle.dir_slots.specs.Slots.{is_used}
use Rattle.tree_model.specs.declared.reply.Entry as entries
use Rattle.tree_model.specs.declared.reply.Kind.{Kind}
use Rattle.tree_model.specs.declared.reply.Kind.TheVariants as kinds
use Rattle.tree_model.specs.declared.reply.Reply.{Reply}
use Rattle.tree_model.specs.declared.reply.Reply.TheVariants.{Stat}
use Rattle.node_table.specs.declared.held.FoundNode.{FoundNode}
use Rattle.node_table.specs.declared.held.HeldNode.{HeldNode}
use Rattle.node_table.specs.declared.held.NodeInfo.{NodeInfo}
use Rattle.node_table.specs.declared.held.NodeInfo.TheVariants as infos
use Rattle.node_table.specs.Counts.{count}
use Rattle.node_table.specs.Held.{Nodes, held, info, slots_of}

-- the kind of a node
abbrev pub kind_in : NodeInfo → Kind
kind_in (infos.File size) = kinds.File
kind_in (infos.Directory width) = kinds.Directory

-- how many bytes a file has, or how many entries a directory has
abbrev pub size_in : Nodes → ℕ → NodeInfo → ℕ
size_in nodes number (infos.File size) = size
size_in nodes number (infos.Directory width) = count (slots_of (held nodes number))

-- what is told of a node
abbrev pub stat_of : Nodes → FoundNode → Reply
stat_of nodes found = Stat (kind_in found.info) found.number (size_in nodes found.number found.info)

-- ---- the entries of a directory

-- the kind of the node of a number, a file's where there is none
abbrev pub kind_at : Option HeldNode → Kind
kind_at None = kinds.File
kind_at (Some node) = kind_in (info node)

-- the entry in a slot, with the kind of its node
abbrev pub entry_in : Nodes → Slot → Option entries.Entry
entry_in nodes Unused = None
entry_in nodes (Entry number name) = Some (record { kind = kind_at (held nodes number); number = number; name = name })

-- the entries in the order of their slots
abbrev pub listed : Nodes → List Slot → List entries.Entry
listed nodes slots = filter_map (entry_in nodes) slots

-- whether the one name is before the other
abbrev pub is_before : entries.Entry → entries.Entry → Bool
is_before a b = is_lt (slice_cmp nat_cmp a.name b.name)

-- the entries by the bytes of their names
pub record AreEntries (nodes : Nodes) (slots : List Slot) (sorted : List entries.Entry) : Type 0 where
  pub same : IsPermutation (listed nodes (filter is_used slots)) sorted
  pub rising : IsSortedBy is_before sorted
