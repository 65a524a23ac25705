-- What was acknowledged stays.
use Rattle.std.specs.Prelude.{◌≡◌, ◌≤◌, ◌++◌, ℕ, List, length, map, take, Ok}
use Rattle.vol_numbers.specs.declared.block.Block.{Block}
use Rattle.disk_model.specs.Disk.{State, IsImage}
use Rattle.tree_model.specs.declared.command.Command.{Command}
use Rattle.log_volume.specs.Image.{Stands}
use Rattle.log_volume.specs.Replay.{Kept, after}
use Rattle.log_volume.specs.declared.answer.Answer.{Answer}
use Rattle.command_text.specs.declared.item.Item.{Item}
use Rattle.command_server.specs.Session.{AllLegal, Last, Leaves, all_added, last_outcome}

-- How a session stands at its end, by the names of its record: its answers are legal, and this is what it leaves on its disk.
pub record HasEnded (room : ℕ) (start : Kept) (items : List Item) (answers : List Answer) (last : Last) (state : State) : Type 0 where
  pub legal : AllLegal room start items (map Ok answers ++ last_outcome last)
  pub leaves : Leaves last start (length (all_added room start items (map Ok answers))) (all_added room start items (map Ok answers ++ last_outcome last)) state

-- the tree is that after the first of the accepted commands, among them all that were acknowledged
pub record KeepsAcknowledged (start kept : Kept) (acknowledged accepted : List Command) : Type 0 where
  pub count : ℕ
  pub at_least : length acknowledged ≤ count
  pub at_most : count ≤ length accepted
  pub is : kept ≡ after (take count accepted) start

-- However a session ended: what an image that a power cut may leave of its disk stands for keeps all that the session acknowledged.
abbrev pub AcknowledgedStay : Type 0
AcknowledgedStay = (room : ℕ) (start : Kept) (items : List Item) (answers : List Answer) (last : Last) (state : State) → HasEnded room start items answers last state
    → (image : List Block) (kept : Kept) → IsImage state image → Stands image kept
    → KeepsAcknowledged start kept (all_added room start items (map Ok answers)) (all_added room start items (map Ok answers ++ last_outcome last))
