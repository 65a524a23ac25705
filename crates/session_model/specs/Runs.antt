-- What a run leaves, and what a second one finds.
use Rattle.std.specs.Prelude.{◌≡◌, ◌≤◌, ◌++◌, ℕ, Bool, true, false, List, [], ◌∷◌, length, take}
use Rattle.std.specs.List.{flat_map}
use Rattle.vol_numbers.specs.Layout.{Layout}
use Rattle.vol_numbers.specs.declared.block.Block.{Block}
use Rattle.disk_model.specs.Disk.{State, IsImage, EachImage}
use Rattle.tree_model.specs.declared.command.Command.{Command}
use Rattle.tree_model.specs.declared.command.Command.TheVariants.{Read, List as ListOf, Stat}
use Rattle.tree_model.specs.declared.report.Answer.{Answer}
use Rattle.tree_model.specs.declared.reply.Reply.{Reply}
use Rattle.tree_model.specs.Tree.{Tree, new_tree}
use Rattle.tree_model.specs.Step.{step}
use Rattle.volume_model.specs.Legal.{is_excuse}
use Rattle.volume_model.specs.Machine.{Machine, Rules, stored}
use Rattle.volume_model.specs.Short.{answered}
use Rattle.state_laws.specs.States.{IsWhatItStores}
use Rattle.image_model.specs.Finds.{Finds}
use Rattle.image_model.specs.Fresh.{IsFresh}
use Rattle.image_model.specs.Stands.{Stands}
use Rattle.image_model.specs.declared.finding.Finding.{Finding}
use Rattle.command_text.specs.declared.item.Item.TheVariants as item
use Rattle.session_model.specs.Course.{Course, Exchange, Last, accepted, accepted_by, acknowledged, tree_after}
use Rattle.session_model.specs.Stages.{StandsForPrefix, passed}
use Rattle.session_model.specs.Answered.{EachLegal}
use Rattle.session_model.specs.Follows.{Leaves}

-- a volume over this image is in this state
pub record IsVolume (m : Machine) (image : List Block) : Type 0 where
  pub stands : Stands image (stored m)
  pub stores : IsWhatItStores m

-- the tree is that after the first of the accepted changes, among them all that were acknowledged
pub record KeepsAcknowledged (start : Tree) (acknowledged accepted : List Command) (tree : Tree) : Type 0 where
  pub count : ℕ
  pub at_least : length acknowledged ≤ count
  pub at_most : count ≤ length accepted
  pub is : tree ≡ tree_after start (take count accepted)

-- What a run leaves on a disk that tells what it holds: a format the root directory alone, a session what its course says.
pub data HasRun : State → Tree → List Command → List Command → Type 0 where
  formatted : (g : Layout) (s : State) → s.unsynced ≡ [] → IsFresh g s.contents → HasRun s new_tree [] []
  served : (r : Rules) (c : Course) (image : List Block) (s : State) → IsVolume c.start image → Leaves r c c.last s → HasRun s c.start.tree (acknowledged c) (accepted r c)

-- Nothing is found in the image. A volume can be over it, and whatever volume is keeps what was acknowledged.
pub record MustKeep (start : Tree) (acknowledged accepted : List Command) (image : List Block) : Type 0 where
  pub nothing_found : (finding : Finding) → ¬ Finds image finding
  pub can : (m : Machine) × IsVolume m image
  pub keeps : (m : Machine) → IsVolume m image → KeepsAcknowledged start acknowledged accepted m.tree

-- A run, a power cut, and a check or a volume over what remains.
abbrev pub TwoRuns : Type 0
TwoRuns = (s : State) (start : Tree) (acknowledged accepted : List Command) → HasRun s start acknowledged accepted
    → (image : List Block) → IsImage s image → MustKeep start acknowledged accepted image

-- The same at any moment of a session, where the tree is that after some first changes.
abbrev pub AnyMoment : Type 0
AnyMoment = (r : Rules) (c : Course) (start : List Block) (s : State) → IsVolume c.start start → EachImage (StandsForPrefix r c (passed r c) 0) s
    → (image : List Block) → IsImage s image → MustKeep c.start.tree [] (accepted r c) image

-- a command that only looks at the tree
abbrev pub looks : Command → Bool
looks (Read path offset len) = true
looks (ListOf path) = true
looks (Stat path) = true
looks command = false

-- The reply is the plain tree's, in the tree after the first of the accepted changes, all acknowledged ones among them, and then these.
pub record RepliesFrom (start : Tree) (acknowledged accepted since : List Command) (command : Command) (reply : Reply) : Type 0 where
  pub tree : Tree
  pub keeps : KeepsAcknowledged start acknowledged accepted tree
  pub is : reply ≡ (step (tree_after tree since) command).0

-- A run, a power cut, and a second session over what remains: whoever looks then sees what was acknowledged in the first, and since then.
abbrev pub SecondAnswers : Type 0
SecondAnswers = (s : State) (start : Tree) (acknowledged accepted : List Command) → HasRun s start acknowledged accepted → (image : List Block) → IsImage s image
    → (r : Rules) (m : Machine) → IsVolume m image → (before later : List Exchange) (last : Last) (command : Command) (answer : Answer)
    → EachLegal r m (before ++ record { item = item.Command command; answer = answered answer } ∷ later) last → looks command ≡ true → is_excuse command answer ≡ false
    → RepliesFrom start acknowledged accepted (flat_map accepted_by before) command answer.reply
