-- What holds of stored states that can be mounted, and of the states that are reached from these.
use Rattle.std.specs.Prelude.{◌≡◌, ◌≤◌, ℕ, Bool, true, false, ◌||◌, length, Some, All, option_map}
use Rattle.vol_numbers.specs.Layout.{IsValid}
use Rattle.tree_model.specs.declared.node.Content.TheVariants.{Directory}
use Rattle.tree_model.specs.declared.node.Node.{Node}
use Rattle.tree_model.specs.declared.report.Answer.{Answer}
use Rattle.tree_model.specs.declared.command.Command.{Command}
use Rattle.tree_model.specs.Path.{Path}
use Rattle.tree_model.specs.Shape.{IsTree}
use Rattle.tree_model.specs.Step.{is_change}
use Rattle.tree_model.specs.Tree.{Tree, node_at, entries_of}
use Rattle.op_log.specs.Record.{HasRecord}
use Rattle.volume_model.specs.Accepted.{Accepts}
use Rattle.volume_model.specs.CacheLaws.{IsCacheList, HasFewKin}
use Rattle.volume_model.specs.Done.{mounted}
use Rattle.volume_model.specs.Legal.{IsLegal, next}
use Rattle.volume_model.specs.LogUse.{log_use}
use Rattle.volume_model.specs.Machine.{Machine, Rules, Stored, stored, block_at, held}
use Rattle.volume_model.specs.Places.{Spot, InOrder, has_spot, spots_of}
use Rattle.volume_model.specs.Short.{AnswerForNow, IsLegalForNow, next_for_now}
use Rattle.volume_model.specs.Space.{free_blocks}
use Rattle.volume_model.specs.Whole.{IsWhole}
use Rattle.state_laws.specs.Files.{HasPlace, HasSameBytes, zero_block}

-- What is stored can be mounted: the tree is one, its places are places of files, all others read as zeros, and places with the same block have
-- the same bytes. The records are changes, which the tree accepts in turn with their charges, and they fit into the log of a valid layout.
pub record IsMountable (s : Stored) : Type 0 where
  pub tree : IsTree s.tree
  pub in_order : InOrder s.places
  pub in_files : (spot : Spot) → has_spot (spots_of s.places) spot ≡ true → HasPlace s.tree spot
  pub holes : (spot : Spot) → has_spot (spots_of s.places) spot ≡ false → block_at s.tree spot ≡ zero_block
  pub same : HasSameBytes s.tree s.places
  pub changes : All (λ command. is_change command ≡ true) s.records
  pub accepted : Accepts (free_blocks s.layout s.tree s.places) s.tree 0 s.records
  pub fits : IsValid s.layout → All HasRecord s.records → log_use s.records ≤ s.layout.log_blocks

-- ---- what holds of a state

-- whether a place is kept or dirty
abbrev pub is_held : Machine → Spot → Bool
is_held m spot = has_spot (spots_of m.kept) spot || has_spot m.dirty spot

-- each kept or dirty place is a place of a file
abbrev pub IsInFiles : Machine → Type 0
IsInFiles m = (spot : Spot) → is_held m spot ≡ true → HasPlace m.tree spot

-- a kept place has the bytes that it had at the last point
abbrev pub KeptIsUnchanged : Machine → Type 0
KeptIsUnchanged m = (spot : Spot) → has_spot (spots_of m.kept) spot ≡ true → block_at m.tree spot ≡ block_at m.stored_tree spot

-- a place that is neither kept nor dirty reads as zeros, in a file and outside
abbrev pub HolesAreZeros : Machine → Type 0
HolesAreZeros m = (spot : Spot) → is_held m spot ≡ false → block_at m.tree spot ≡ zero_block

-- each cached block has a place at the last point, and its fingerprint is that of its bytes
abbrev pub HasTrueFingerprints : Rules → Machine → Type 0
HasTrueFingerprints r m = All (λ pair. option_map r.fingerprint (held m pair.1) ≡ Some pair.0) m.cache

-- the state is that of mounting what it stores, but for its cache list
abbrev pub IsWhatItStores : Machine → Type 0
IsWhatItStores m = record (mounted (stored m)) { cache = m.cache } ≡ m

-- a directory is at least as wide as it has entries
abbrev pub IsWide : Tree → Type 0
IsWide tree = (path : Path) (node : Node) (width : ℕ) → node_at tree path ≡ Some node → node.content ≡ Directory width → length (entries_of tree path) ≤ width

-- All of this holds of the state, and what it stores can be mounted.
pub record IsCoherent (r : Rules) (m : Machine) : Type 0 where
  pub whole : IsWhole m
  pub mountable : IsMountable (stored m)
  pub tree : IsTree m.tree
  pub in_files : IsInFiles m
  pub unchanged : KeptIsUnchanged m
  pub holes : HolesAreZeros m
  pub cache : IsCacheList r.capacity m.cache
  pub few_kin : HasFewKin m.cache
  pub fingerprints : HasTrueFingerprints r m
  pub what_it_stores : IsWhatItStores m

-- the states that are reached from a mounted volume by answers that are legal, or legal for now
pub data IsReached (r : Rules) : Machine → Type 0 where
  mount : (s : Stored) → IsMountable s → IsReached r (mounted s)
  answer : (m : Machine) (command : Command) (given : Answer) → IsReached r m → IsLegal r m command given → IsReached r (next r m command given)
  answer_for_now : (m : Machine) (command : Command) (given : AnswerForNow) → IsReached r m → IsLegalForNow r m command given → IsReached r (next_for_now r m command given)
