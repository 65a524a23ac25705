-- What is known where a change is staged and logged.
use Rattle.std.proofs.Common.{◌≡◌, ◌∙◌, ◌+◌, ◌≤◌, ℕ, Bool, true, false, cond, None, inl, refl, sym, ap, subst, arith}
use Rattle.std.specs.Prelude.{◌&&◌, nat_lt, Err}
use Rattle.std.proofs.lemmas.Bool.Decides.{nat_tests}
use Rattle.vol_numbers.specs.Geometry.{layout_of}
use Rattle.block_format.specs.Root.{root_of}
use Rattle.block_tree.specs.Causes.{HasTreeCause, IfTreeDamaged}
use Rattle.block_tree.specs.declared.fault.TreeFault.{TreeFault}
use Rattle.block_tree.specs.declared.fault.TreeFault.TheVariants.{Device, Damaged, OutOfMemory}
use Rattle.command_log.specs.Logging.{HasCurrent, KeepsBeside, MayDo, StandsForEither, next_root}
use Rattle.dirty_store.specs.Undo.{Store}
use Rattle.disk_model.specs.Disk.{State, EachImage}
use Rattle.image_model.specs.Seen.{seen}
use Rattle.image_model.specs.Stands.{Stands}
use Rattle.inode_file.specs.Laws.{TableStays}
use Rattle.node_table.specs.Held.{Nodes, HoldsNodes}
use Rattle.op_log.specs.Record.{record_blocks}
use Rattle.point_model.specs.Staging.{TableHoldsTree}
use Rattle.root_switch.specs.declared.reading.Current.{Current}
use Rattle.session_model.proofs.Stored.{synced_stands}
use Rattle.space_account.specs.Charge.{charge, need, pending}
use Rattle.state_laws.specs.Accepted.{IsAccepted}
use Rattle.state_laws.specs.Laws.{AcceptedIsDone, AlwaysCoherent}
use Rattle.state_laws.specs.States.{IsCoherent}
use Rattle.tree_model.specs.Shape.{IsTree}
use Rattle.tree_model.specs.Step.{is_change, refusal_of}
use Rattle.tree_model.specs.Tree.{Tree}
use Rattle.tree_model.specs.declared.command.Command.{Command}
use Rattle.tree_model.specs.declared.reply.Reply.TheVariants.{Done}
use Rattle.volume_model.specs.Done.{done}
use Rattle.volume_model.specs.Legal.{is_due, is_full, is_nothing, reply_to}
use Rattle.volume_model.specs.Machine.{Machine, Rules, free_of, stored}
use Rattle.volume_core.specs.Changing.{HasChangeCause, IfDamaged}
use Rattle.volume_core.specs.Memory.{Memory, IsFitting, IsIn}
use Rattle.volume_core.specs.Staging.{HoldsNow, IsStaged}
use Rattle.volume_core.specs.declared.given.Undone.TheVariants.{Fault}
use Rattle.volume_core.proofs.Between.{holds_files, holds_tree, layout_is, may_do, table_is}
use Rattle.volume_core.proofs.ChangeReplies.{done_reply}
use Rattle.volume_core.proofs.Fitting.{with_staged}
use Rattle.volume_core.proofs.LoggedLaws.{is_done}

-- ---- a change that has its space

not_both : (x y : Bool) → y ≡ false → (x && y) ≡ false
not_both true y none = none
not_both false y none = refl

-- it isn't refused for want of it
not_full : (m : Machine) (command : Command) → pending m.records + need command ≤ free_of m → is_full m command ≡ false
not_full m command room =
    let short : nat_lt (free_of m) (need command) ≡ false = grind (arith, nat_tests) in
    not_both (is_nothing m.records) (nat_lt (free_of m) (need command)) short

-- memory with this store, this table, this root and this much pending
abbrev pub with_logged : Memory → Store → Nodes → Current → ℕ → Memory
with_logged v d nodes current count = record v { state = record v.state { current = current; dirty = d }; nodes = nodes; pending = count }

module _ (r : Rules) (m : Machine) (s : State) (v : Memory) (size : ℕ) (fits : IsFitting size v) (is : IsIn r m s v) where
  pub now_is : HoldsNow r m s.contents v
  now_is = record {
    files = holds_files r m s v is;
    layout = sym (layout_is r m s.contents v.state is.holds.holds) ∙ ap layout_of fits.size.root;
    table = table_is r m s v is size fits;
  }

  -- with nothing unsynced each image stands for what is stored
  pub either_now : (command : Command) → EachImage (StandsForEither m command) s
  either_now command image is_image = inl (synced_stands s (stored m) is.holds.synced is.holds.holds.stands image is_image)

  -- The log is written over the same state of the disk.
  module _ (command : Command) (tree_law : TableHoldsTree) (change : is_change command ≡ true) (accepted : (tree : Tree) → IsTree tree → HoldsNodes v.nodes tree → refusal_of tree command ≡ None)
      (space : v.pending + need command ≤ v.free) (q : State) (same : q ≡ s) where
    accepted_now : IsAccepted m.tree command
    accepted_now = record { change = change; accepted = accepted m.tree is.holds.holds.coherent.tree (holds_tree r m s v is size fits tree_law) }

    pub may_now : MayDo r m command q.contents
    may_now = subst (λ (x : State). MayDo r m command x.contents) (sym same) (may_do r m s v is command accepted_now space)

    -- the machine after it is one that is reached
    done_coherent : AlwaysCoherent → AcceptedIsDone → is_due m command ≡ false → IsCoherent r (done m command)
    done_coherent always law due =
        let full : is_full m command ≡ false = not_full m command (omega (arith, space, is.pending, is.free)) in
        let reply : reply_to m command ≡ Done = done_reply law m command change accepted_now.accepted full in
        subst (λ (x : Bool). IsCoherent r (cond (x && true) (done m command) m)) change
        (always.later r m command (record { report = None; reply = Done }) is.holds.shares.threshold is.holds.holds.coherent (record { report = tt; reply = inl (due, sym reply) }))

    module _ (always : AlwaysCoherent) (law : AcceptedIsDone) (stays : TableStays) (d : Store) (nodes : Nodes) (current : Current) (t : State)
        (room : v.state.current.body.log_used + record_blocks command ≤ (root_of v.state.current.body).layout.log_blocks) where
      -- after what was staged was logged, disk and memory hold the machine after it
      pub done_in : is_due m command ≡ false → IsStaged m command s.contents (with_staged v d nodes) → root_of current.body ≡ next_root (root_of v.state.current.body) command
          → HasCurrent current.slot (root_of current.body) t → Stands t.contents (stored (done m command)) → seen t.contents ≡ seen q.contents
          → KeepsBeside (root_of v.state.current.body) command q.contents t.contents → IsIn r (done m command) t (with_logged v d nodes current (v.pending + charge command))
      done_in due staged root has stands seen_is beside = is_done stays r m command s t v (with_logged v d nodes current (v.pending + charge command)) size current fits is (record {
        state = refl;
        machine = staged.machine;
        coherent = done_coherent always law due;
        room = room;
        root = root;
        has = has;
        stands = stands;
        seen_is = seen_is ∙ ap (λ (x : State). seen x.contents) same;
        beside = subst (λ (x : State). KeepsBeside (root_of v.state.current.body) command x.contents t.contents) same beside;
        alive = refl;
        pending_is = refl;
        free_is = refl;
      })

-- ---- a change that wasn't staged

-- a fault is counted as it was at the staging,
pub fault_cause : (T : Type 0) (old new : ℕ) (fault : TreeFault) → HasTreeCause {T = T} old new (Err fault) → HasChangeCause {T = T} old new (Err (Fault fault))
fault_cause T old new Device is = is
fault_cause T old new (Damaged b) is = is
fault_cause T old new OutOfMemory is = is

-- and no block is damaged where none was
pub fault_sound : (T P : Type 0) (fault : TreeFault) → (P → IfTreeDamaged {T = T} (Err fault) (λ b. ⊥)) → IfDamaged {T = T} (Err (Fault fault)) (P → ⊥)
fault_sound T P Device never = tt
fault_sound T P (Damaged b) never = never
fault_sound T P OutOfMemory never = tt
