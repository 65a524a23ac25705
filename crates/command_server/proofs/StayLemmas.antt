-- What was acknowledged stays.
use Rattle.std.proofs.Common.{◌≤◌, ◌++◌, ◌∷◌, [], ℕ, List, length, length-append, map, take, Ok, arith}
use Rattle.vol_numbers.specs.declared.block.Block.{Block}
use Rattle.disk_model.specs.Disk.{State, IsImage}
use Rattle.tree_model.specs.declared.command.Command.{Command}
use Rattle.log_volume.specs.Image.{Stands}
use Rattle.log_volume.specs.Replay.{Kept, after}
use Rattle.log_volume.proofs.ImageLaws.{one_meaning}
use Rattle.command_text.specs.declared.item.Item.{Item}
use Rattle.command_server.specs.Items.{Outcome, added_by}
use Rattle.command_server.specs.Session.{AllLegal, all_added, Last, last_outcome, Leaves, StandsForPrefix}
use Rattle.command_server.specs.Session.Last.{Nothing, Cut, Stop}
use Rattle.command_server.specs.Staying.{KeepsAcknowledged, AcknowledgedStay}

kept_prefix : (start kept : Kept) (acknowledged accepted : List Command) (least : ℕ) (image : List Block) → length acknowledged ≤ least → StandsForPrefix start least accepted image → Stands image kept
    → KeepsAcknowledged start kept acknowledged accepted
kept_prefix start kept acknowledged accepted least image le some stands = record {
  count = some.count;
  at_least = omega (arith, le, some.at_least);
  at_most = some.at_most;
  is = one_meaning image kept (after (take some.count accepted) start) stands some.stands;
}

kept_of : (last : Last) (start kept : Kept) (acknowledged accepted : List Command) (s : State) (image : List Block) → length acknowledged ≤ length accepted → Leaves last start (length acknowledged) accepted s → IsImage s image → Stands image kept
    → KeepsAcknowledged start kept acknowledged accepted
kept_of Nothing start kept acknowledged accepted s image le left is stands = kept_prefix start kept acknowledged accepted (length accepted) image le (left.1 image is) stands
kept_of (Cut answer count) start kept acknowledged accepted s image le left is stands = kept_prefix start kept acknowledged accepted (length accepted) image le (left.1 image is) stands
kept_of (Stop stopped) start kept acknowledged accepted s image le left is stands = kept_prefix start kept acknowledged accepted (length acknowledged) image (omega arith) (left.1 image is) stands

-- no fewer are accepted than acknowledged
at_least_acknowledged : (room : ℕ) (start : Kept) (items : List Item) (one two : List Outcome) → AllLegal room start items (one ++ two) → length (all_added room start items one) ≤ length (all_added room start items (one ++ two))
at_least_acknowledged room start [] one two legal = omega arith
at_least_acknowledged room start (i ∷ items) [] two legal = omega arith
at_least_acknowledged room start (i ∷ items) (o ∷ one) two legal =
    omega (
      arith,
      length-append (added_by room start i o) (all_added room (after (added_by room start i o) start) items one),
      length-append (added_by room start i o) (all_added room (after (added_by room start i o) start) items (one ++ two)),
      at_least_acknowledged room (after (added_by room start i o) start) items one two legal.1,
    )

pub acknowledged_stay : AcknowledgedStay
acknowledged_stay room start items answers last state ended image kept is stands =
    kept_of last start kept _ _ state image (at_least_acknowledged room start items (map Ok answers) (last_outcome last) ended.legal) ended.leaves is stands
