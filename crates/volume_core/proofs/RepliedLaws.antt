-- What replying to a command does, by what came of it.
use Rattle.std.proofs.Common.{◌≡◌, ◌∙◌, ◌≤◌, ℕ, Bool, true, false, [], Some, None, inl, inr, refl, sym, ap, arith}
use Rattle.std.specs.Prelude.{◌≢◌, IsTrue, Ok, Err}
use Rattle.vol_numbers.specs.Cause.{raised}
use Rattle.vol_numbers.specs.Layout.{Layout}
use Rattle.block_tree.specs.declared.fault.TreeFault.{TreeFault}
use Rattle.block_tree.specs.declared.fault.TreeFault.TheVariants.{Damaged}
use Rattle.command_log.specs.Logging.{StandsForEither}
use Rattle.disk_model.specs.Disk.{EachImage}
use Rattle.disk_model.specs.Past.{Adds}
use Rattle.disk_model.proofs.Moments.{adds_none}
use Rattle.node_table.specs.Held.{HoldsNodes}
use Rattle.op_log.specs.Record.{record_blocks}
use Rattle.point_model.specs.Staging.{TableHoldsTree}
use Rattle.session_model.specs.Follows.{Seen, IsAtRest}
use Rattle.space_account.specs.Charge.{need}
use Rattle.state_laws.specs.Laws.{AcceptedIsDone}
use Rattle.tree_model.specs.Shape.{IsTree}
use Rattle.tree_model.specs.Step.{is_change, refusal_of, step}
use Rattle.tree_model.specs.Tree.{Tree}
use Rattle.tree_model.specs.declared.command.Command.{Command}
use Rattle.tree_model.specs.declared.command.Command.TheVariants.{Checkpoint}
use Rattle.tree_model.specs.declared.refusal.Refusal.{Refusal}
use Rattle.tree_model.specs.declared.refusal.Refusal.TheVariants.{NoSpace}
use Rattle.tree_model.specs.declared.reply.Reply.{Reply}
use Rattle.tree_model.specs.declared.reply.Reply.TheVariants.{Done, Refused}
use Rattle.volume_model.specs.Done.{done}
use Rattle.volume_model.specs.Legal.{is_due, is_full, is_outside, lacks_room, reply_to}
use Rattle.volume_model.specs.Machine.{Machine, Rules, free_of}
use Rattle.volume_core.specs.Answers.{IsReplyTo, HasReplyCause, only_looks, refusal_by}
use Rattle.volume_core.specs.Changing.{HasChangeCause}
use Rattle.volume_core.specs.Memory.{Memory, IsFitting, IsIn}
use Rattle.volume_core.specs.Replied.{Replied}
use Rattle.volume_core.specs.declared.given.Stopped.TheVariants.{Now}
use Rattle.volume_core.specs.declared.given.Undone.TheVariants.{Fault}
use Rattle.volume_core.proofs.Between.{holds_tree, layout_is}
use Rattle.volume_core.proofs.ChangeReplies.{taken, refused_reply, full_reply, done_reply, full_is}
use Rattle.volume_core.proofs.LookLaws.{not_damaged, no_fault, not_counted}
use Rattle.volume_core.proofs.ReplyForms.{look_reply, none_by_look, none_by_refusal, fault_reply, fault_cause}
use Rattle.volume_core.proofs.TreeReplies.{refusal_inside}

-- A command that only looks was answered.
pub looked : (tells : Bool) (m : Machine) (command : Command) (given : Reply) (mid new : Seen) → only_looks command ≡ true → is_change command ≡ false → (IsTrue tells → IsReplyTo m command given)
    → (IsTrue tells → new.state ≡ mid.state) → (IsTrue tells → Adds mid.past new.past (λ s. s ≡ mid.state)) → HasReplyCause mid.faults new.faults given → Replied tells m command (Ok given) mid new
looked tells m command given mid new looks is replies state moments cause = inl (record {
  owed = λ t report. look_reply m command report given looks (replies t);
  nothing = λ report. none_by_look command report given is;
  kept = λ t. record { state = state t; moments = moments t };
  cause = cause;
})

done_at_checkpoint : (m : Machine) → Done ≡ reply_to m Checkpoint
unfolding step
done_at_checkpoint m = refl

-- The point that was asked for was taken.
pub pointed : (tells : Bool) (m : Machine) (mid : Seen) → Replied tells m Checkpoint (Ok Done) mid mid
pointed tells m mid = inl (record {
  owed = λ t report. record { is = inl (done_at_checkpoint m); whole = refl };
  nothing = λ report. refl;
  kept = λ t. record { state = refl; moments = adds_none mid.past _ };
  cause = refl;
})

-- ---- a change

module _ (law : TableHoldsTree) (r : Rules) (tells : Bool) (m : Machine) (command : Command) (mid : Seen) (v : Memory) (size : ℕ) (fits : IsFitting size v)
    (change : is_change command ≡ true) (due : IsTrue tells → is_due m command ≡ false) (is_in : IsTrue tells → IsIn r m mid.state v) where
  tree_held : IsTrue tells → HoldsNodes v.nodes m.tree
  tree_held t = holds_tree r m mid.state v (is_in t) size fits law

  is_tree : IsTrue tells → IsTree m.tree
  is_tree t = (is_in t).holds.holds.coherent.tree

  -- The tree refuses it.
  pub refused_by_tree : (e : Refusal) → ((tree : Tree) → IsTree tree → HoldsNodes v.nodes tree → Some e ≡ refusal_of tree command) → Replied tells m command (Ok (Refused e)) mid mid
  refused_by_tree e tells_it =
      let inside : is_outside (Refused e) ≡ false = refusal_inside fits.tree.tree command e (sym (tells_it fits.tree.tree fits.tree.is_tree fits.tree.holds)) in
      inl (record {
        owed = λ t report. record { is = inl (refused_reply m command e change (sym (tells_it m.tree (is_tree t) (tree_held t)))); whole = not_damaged (Refused e) inside };
        nothing = λ report. none_by_refusal command report e;
        kept = λ t. record { state = refl; moments = adds_none mid.past _ };
        cause = not_counted mid.faults mid.faults (Refused e) (no_fault (Refused e) inside) refl;
      })

  module _ (none : (tree : Tree) → IsTree tree → HoldsNodes v.nodes tree → None ≡ refusal_of tree command) (few : record_blocks command ≤ 17) where
    accepted : IsTrue tells → refusal_of m.tree command ≡ None
    accepted t = sym (none m.tree (is_tree t) (tree_held t))

    full : IsTrue tells → is_full m command ≡ lacks_room m command
    full t =
        let layout = layout_is r m mid.state.contents v.state (is_in t).holds.holds in
        full_is m command change (taken m command change (accepted t)) (due t) few (omega (arith, fits.size.grammar.valid.log_at_least, ap (λ (g : Layout). g.log_blocks) layout))

    -- It has no room.
    pub without_room : (needs : ℕ) → needs ≡ need command → (IsTrue tells → lacks_room m command ≡ true) → Replied tells m command (Ok (Refused (NoSpace v.free needs))) mid mid
    without_room needs is lacks = inl (record {
      owed = λ t report. record {
        is = inl (ap (λ (n : ℕ). Refused (NoSpace n needs)) (is_in t).free ∙ ap (λ (n : ℕ). Refused (NoSpace (free_of m) n)) is ∙ full_reply m command change (accepted t) (full t ∙ lacks t));
        whole = refl;
      };
      nothing = λ report. none_by_refusal command report (NoSpace v.free needs);
      kept = λ t. record { state = refl; moments = adds_none mid.past _ };
      cause = refl;
    })

    -- It was done.
    pub done_now : AcceptedIsDone → (new : Seen) → (IsTrue tells → lacks_room m command ≡ false) → (IsTrue tells → IsAtRest (done m command) new.state)
        → (IsTrue tells → Adds mid.past new.past (EachImage (StandsForEither m command))) → new.faults ≡ mid.faults → Replied tells m command (Ok Done) mid new
    done_now accepting new room rest during faults = inr (record {
      is = refl;
      change = change;
      owed = λ t. done_reply accepting m command change (accepted t) (full t ∙ room t);
      rest = rest;
      during = during;
      faults = faults;
    })

    -- A write or a sync of it failed.
    pub stopped_now : (new : Seen) → (IsTrue tells → lacks_room m command ≡ false) → (IsTrue tells → new.state.unsynced ≢ []) → (IsTrue tells → EachImage (StandsForEither m command) new.state)
        → (IsTrue tells → Adds mid.past new.past (EachImage (StandsForEither m command))) → new.faults ≡ raised mid.faults → Replied tells m command (Err Now) mid new
    stopped_now new room unsynced left during faults = record {
      takes = λ t. taken m command change (accepted t);
      room = λ t. full t ∙ room t;
      unsynced = unsynced;
      left = left;
      during = during;
      faults = faults;
    }

  -- It ended before any write.
  pub fault_told : (T : Type 0) (fault : TreeFault) (new : Seen) → (IsTrue tells → (b : ℕ) → fault ≡ Damaged b → ⊥) → (IsTrue tells → new.state ≡ mid.state) → (IsTrue tells → Adds mid.past new.past (λ s. s ≡ mid.state))
      → HasChangeCause {T = T} mid.faults new.faults (Err (Fault fault)) → Replied tells m command (Ok (Refused (refusal_by fault))) mid new
  fault_told T fault new whole state moments cause = inl (record {
    owed = λ t report. fault_reply m command report fault change (whole t);
    nothing = λ report. none_by_refusal command report (refusal_by fault);
    kept = λ t. record { state = state t; moments = moments t };
    cause = fault_cause T mid.faults new.faults fault cause;
  })
