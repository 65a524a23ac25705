-- Replies behind a report, by the form of the command.
use Rattle.std.proofs.Common.{◌≡◌, ℕ, Bool, true, false, cond, [], ◌∷◌, Option, inr, refl}
use Rattle.std.specs.Prelude.{◌&&◌, Err}
use Rattle.block_tree.specs.declared.fault.TreeFault.{TreeFault}
use Rattle.block_tree.specs.declared.fault.TreeFault.TheVariants.{Device, Damaged, OutOfMemory}
use Rattle.tree_model.specs.declared.command.Command.{Command}
use Rattle.tree_model.specs.declared.command.Command.TheVariants.{Mkdir, Create, Write, Truncate, Remove, Rename, Read, List as ListOf, Stat, Layout, Space, Checkpoint, End}
use Rattle.tree_model.specs.declared.refusal.Refusal.{Refusal}
use Rattle.tree_model.specs.declared.reply.Reply.{Reply}
use Rattle.tree_model.specs.declared.reply.Reply.TheVariants.{Refused}
use Rattle.tree_model.specs.declared.report.Report.{Report}
use Rattle.tree_model.specs.Step.{is_change}
use Rattle.volume_model.specs.Legal.{is_excuse, is_outside}
use Rattle.volume_model.specs.Machine.{Machine}
use Rattle.volume_model.specs.Short.{answered}
use Rattle.session_model.specs.Course.{accepted_by}
use Rattle.volume_core.specs.Answers.{IsReplyIn, IsReplyTo, HasReplyCause, exchange, only_looks, refusal_by}
use Rattle.volume_core.specs.Changing.{HasChangeCause}
use Rattle.volume_core.specs.declared.given.Undone.TheVariants.{Fault}

-- A command that only looks may have the same reply behind a report.
pub look_reply : (m : Machine) (command : Command) (report : Option Report) (given : Reply) → only_looks command ≡ true → IsReplyTo m command given → IsReplyIn m command (record { report = report; reply = given })
look_reply m (Mkdir path) report given looks is = cc
look_reply m (Create path) report given looks is = cc
look_reply m (Write path offset bytes) report given looks is = record { is = is.is; whole = is.whole }
look_reply m (Truncate path size) report given looks is = cc
look_reply m (Remove path) report given looks is = cc
look_reply m (Rename from to) report given looks is = cc
look_reply m (Read path offset len) report given looks is = record { is = is.is; whole = is.whole }
look_reply m (ListOf path) report given looks is = record { is = is.is; whole = is.whole }
look_reply m (Stat path) report given looks is = record { is = is.is; whole = is.whole }
look_reply m (Layout path) report given looks is = cc
look_reply m Space report given looks is = record { is = is.is; whole = is.whole }
look_reply m Checkpoint report given looks is = cc
look_reply m End report given looks is = record { is = is.is; whole = is.whole }

-- nothing is accepted by what is no change
pub none_by_look : (command : Command) (report : Option Report) (given : Reply) → is_change command ≡ false → accepted_by (exchange command (answered (record { report = report; reply = given }))) ≡ []
none_by_look command report given is = rw is refl

-- nor by a refusal
pub none_by_refusal : (command : Command) (report : Option Report) (refusal : Refusal) → accepted_by (exchange command (answered (record { report = report; reply = Refused refusal }))) ≡ []
none_by_refusal command report refusal = by (is_change command)
  where
    by : (x : Bool) → cond (x && false) (command ∷ []) [] ≡ []
    by true = refl
    by false = refl

-- A change may be answered that the device failed, that a block is damaged, or that memory is wanting.
pub change_excuse : (command : Command) (report : Option Report) (refusal : Refusal) → is_change command ≡ true → is_outside (Refused refusal) ≡ true → is_excuse command (record { report = report; reply = Refused refusal }) ≡ true
change_excuse (Mkdir path) report refusal is outside = outside
change_excuse (Create path) report refusal is outside = outside
change_excuse (Write path offset bytes) report refusal is outside = outside
change_excuse (Truncate path size) report refusal is outside = outside
change_excuse (Remove path) report refusal is outside = outside
change_excuse (Rename from to) report refusal is outside = outside
change_excuse (Read path offset len) report refusal is outside = cc
change_excuse (ListOf path) report refusal is outside = cc
change_excuse (Stat path) report refusal is outside = cc
change_excuse (Layout path) report refusal is outside = cc
change_excuse Space report refusal is outside = cc
change_excuse Checkpoint report refusal is outside = cc
change_excuse End report refusal is outside = cc

-- So is each fault of a tree, but that a block is damaged is for the caller to exclude.
pub fault_reply : (m : Machine) (command : Command) (report : Option Report) (fault : TreeFault) → is_change command ≡ true → ((b : ℕ) → fault ≡ Damaged b → ⊥)
    → IsReplyIn m command (record { report = report; reply = Refused (refusal_by fault) })
fault_reply m command report Device is none = record { is = inr (change_excuse command report (refusal_by Device) is refl); whole = refl }
fault_reply m command report (Damaged b) is none = absurd (none b refl)
fault_reply m command report OutOfMemory is none = record { is = inr (change_excuse command report (refusal_by OutOfMemory) is refl); whole = refl }

pub fault_cause : (T : Type 0) (old new : ℕ) (fault : TreeFault) → HasChangeCause {T = T} old new (Err (Fault fault)) → HasReplyCause old new (Refused (refusal_by fault))
fault_cause T old new Device cause = cause
fault_cause T old new (Damaged b) cause = cause
fault_cause T old new OutOfMemory cause = cause
