-- When a point is due, as memory tells it.
use Rattle.std.proofs.Common.{◌≡◌, ◌∙◌, Bool, true, false, List, [], ◌∷◌, refl, sym, arith, length}
use Rattle.std.specs.Prelude.{◌&&◌, ◌≢◌, not, is_some}
use Rattle.disk_model.specs.Disk.{State}
use Rattle.tree_model.specs.Step.{is_change, refusal_of}
use Rattle.tree_model.specs.declared.command.Command.{Command}
use Rattle.tree_model.specs.declared.command.Command.TheVariants.{Mkdir, Create, Write, Truncate, Remove, Rename, Read, List as ListOf, Stat, Layout, Space, Checkpoint, End}
use Rattle.volume_model.specs.Legal.{changes, is_due, is_nothing, lacks_room}
use Rattle.volume_model.specs.Machine.{Machine, Rules}
use Rattle.volume_core.specs.Memory.{Memory, IsIn}
use Rattle.volume_core.proofs.Between.{count_is}

-- But for a checkpoint, a point is due before a change that lacks room behind others.
pub due_before : (m : Machine) (command : Command) → (command ≡ Checkpoint → ⊥) → is_due m command ≡ (changes m command && not (is_nothing m.records) && lacks_room m command)
due_before m (Mkdir path) apart = refl
due_before m (Create path) apart = refl
due_before m (Write path offset bytes) apart = refl
due_before m (Truncate path size) apart = refl
due_before m (Remove path) apart = refl
due_before m (Rename from to) apart = refl
due_before m (Read path offset len) apart = refl
due_before m (ListOf path) apart = refl
due_before m (Stat path) apart = refl
due_before m (Layout path) apart = refl
due_before m Space apart = refl
due_before m Checkpoint apart = absurd (apart refl)
due_before m End apart = refl

nothing_is : (cs : List Command) → length cs ≡ 0 → is_nothing cs ≡ true
nothing_is [] e = refl
nothing_is (c ∷ cs) e = absurd (omega arith)

something_is : (cs : List Command) → length cs ≢ 0 → is_nothing cs ≡ false
something_is [] ne = absurd (ne refl)
something_is (c ∷ cs) ne = refl

module _ (r : Rules) (m : Machine) (s : State) (v : Memory) (is : IsIn r m s v) where
  -- The records are none exactly where the root counts none.
  none_pend : v.state.current.body.records ≡ 0 → is_nothing m.records ≡ true
  none_pend e = nothing_is m.records (sym (count_is r m s.contents v.state is.holds.holds) ∙ e)

  some_pend : v.state.current.body.records ≢ 0 → is_nothing m.records ≡ false
  some_pend ne = something_is m.records (λ e. ne (count_is r m s.contents v.state is.holds.holds ∙ e))

  module _ (command : Command) (apart : command ≡ Checkpoint → ⊥) where
    by_tests : (change refused nothing : Bool) → is_change command ≡ change → is_some (refusal_of m.tree command) ≡ refused → is_nothing m.records ≡ nothing
        → is_due m command ≡ (change && not refused && not nothing && lacks_room m command)
    by_tests true true nothing is none pend = due_before m command apart ∙ rw (is, none) refl
    by_tests true false true is none pend = due_before m command apart ∙ rw (is, none, pend) refl
    by_tests true false false is none pend = due_before m command apart ∙ rw (is, none, pend) refl
    by_tests false refused nothing is none pend = due_before m command apart ∙ rw is refl

    -- No point is due before what is no change,
    pub no_change : is_change command ≡ false → false ≡ is_due m command
    no_change is = sym (by_tests false (is_some (refusal_of m.tree command)) (is_nothing m.records) is refl refl)

    -- before what the tree refuses,
    pub is_refused : is_change command ≡ true → is_some (refusal_of m.tree command) ≡ true → false ≡ is_due m command
    is_refused is refused = sym (by_tests true true (is_nothing m.records) is refused refl)

    -- and where nothing is pending.
    pub nothing_pends : is_change command ≡ true → is_some (refusal_of m.tree command) ≡ false → v.state.current.body.records ≡ 0 → false ≡ is_due m command
    nothing_pends is none e = sym (by_tests true false true is none (none_pend e))

    -- Before every other change one is due where it lacks room.
    pub by_room : is_change command ≡ true → is_some (refusal_of m.tree command) ≡ false → v.state.current.body.records ≢ 0 → (lacks : Bool) → lacks ≡ lacks_room m command → lacks ≡ is_due m command
    by_room is none ne lacks e = e ∙ sym (by_tests true false false is none (some_pend ne))
