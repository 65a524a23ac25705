-- What writing a plan changes, and what stands once it is written. `IsToBeWritten` is what has to hold for that; the others are for private functions.
use Rattle.std.specs.Prelude.{◌≡◌, ◌⊎◌, ◌<◌, ◌+◌, ℕ, Bool, true, List, [], All, length}
use Rattle.std.specs.List.{flat_map}
use Rattle.vol_numbers.specs.Geometry.{layout_of}
use Rattle.vol_numbers.specs.Layout.{count_blocks}
use Rattle.vol_numbers.specs.declared.runs.Page.{Page}
use Rattle.block_format.specs.Root.{root_of}
use Rattle.block_tree.specs.Notes.{Stand, page_blocks}
use Rattle.block_tree.specs.Tree.{Blocks, blocks_in}
use Rattle.count_pairs.specs.Table.{IsKept}
use Rattle.count_pairs.specs.Writing.{IsWritten}
use Rattle.dirty_store.specs.Overlay.{Overlay}
use Rattle.disk_model.specs.Disk.{State}
use Rattle.image_model.specs.Stands.{Stands, layout_in}
use Rattle.place_words.specs.Different.{is_among}
use Rattle.point_plan.specs.Carries.{Carries, LineStands}
use Rattle.point_plan.specs.Planning.{IsPlan, blocks_written}
use Rattle.point_plan.specs.declared.planned.Plan.{Plan}
use Rattle.point_plan.specs.declared.planned_node.PlannedNode.{PlannedNode}
use Rattle.point_plan.specs.declared.state.PointState.{PointState}
use Rattle.root_switch.specs.Current.{current_slot, root_of_image}
use Rattle.root_switch.specs.declared.reading.Current.{Current}
use Rattle.tree_model.specs.declared.report.Line.{Line}
use Rattle.volume_model.specs.Lines.{line_places}
use Rattle.volume_model.specs.Machine.{Machine, Rules, stored}
use Rattle.volume_model.specs.Places.{blocks_of}

-- the block is that of one of these pages
abbrev pub IsPageOf : List Page → ℕ → Type 0
IsPageOf pages b = is_among (page_blocks pages) b ≡ true

-- the block is that of one of a line's places
abbrev pub IsBlockOf : Line → ℕ → Type 0
IsBlockOf l b = (k : ℕ) × (k < l.length) × (b ≡ l.block + k)

-- the block is one of these
abbrev pub IsOneOf : List ℕ → ℕ → Type 0
IsOneOf bs b = is_among bs b ≡ true

-- the blocks of the pages of nodes
abbrev pub blocks_of_nodes : List PlannedNode → List ℕ
blocks_of_nodes nodes = flat_map (λ (p : PlannedNode). page_blocks p.pages) nodes

-- the blocks of lines
abbrev pub blocks_of_lines : List Line → List ℕ
blocks_of_lines lines = flat_map (λ (l : Line). blocks_of (line_places l)) lines

-- The pages of nodes and of inodes stand, and the staged blocks of the lines.
pub record PlanStands (o : Overlay) (plan : Plan) (read : Blocks) : Type 0 where
  pub nodes : All (λ (p : PlannedNode). Stand p.pages read) plan.nodes
  pub inode_pages : Stand plan.inode_pages read
  pub lines : All (LineStands o read) plan.report.lines

-- the block is one that a plan writes, or the home that isn't named of a count block with a touched count
abbrev pub IsOfPoint : Plan → List ℕ → List Bool → ℕ → Type 0
IsOfPoint plan homes touched b = IsOneOf (blocks_written plan) b ⊎ IsWritten homes touched b

-- A plan is to be written: nothing is unsynced, and memory has the root of the contents, the plan and the counts after it, of which those that
-- aren't touched stand.
pub record IsToBeWritten (r : Rules) (m : Machine) (s : State) (state : PointState) (plan : Plan) : Type 0 where
  pub synced : s.unsynced ≡ []
  pub stands : Stands s.contents (stored m)
  pub planned : IsPlan r m s.contents state state plan
  pub slot : state.current.slot ≡ current_slot s.contents
  pub root : root_of state.current.body ≡ root_of_image s.contents
  pub kept : IsKept (blocks_in s.contents) state.current.body.homes.bytes state.counts
  pub layout : layout_of plan.root.geometry ≡ layout_in s.contents
  pub many : length state.counts.touched ≡ count_blocks (layout_in s.contents)

-- it is of some machine
abbrev pub WritesSome : State → PointState → Plan → Type 0
WritesSome s state plan = (r : Rules) × (m : Machine) × IsToBeWritten r m s state plan

-- The new contents carry the plan with the counts of memory, have this root in this slot, and nothing is unsynced.
pub record HasSwitched (before : State) (o : Overlay) (plan : Plan) (counts : List ℕ) (current : Current) (after : State) : Type 0 where
  pub carries : Carries before.contents after.contents o plan counts
  pub synced : after.unsynced ≡ []
  pub slot : current.slot ≡ current_slot after.contents
  pub root : root_of current.body ≡ root_of_image after.contents
