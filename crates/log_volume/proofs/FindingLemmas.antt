-- An image in which something is found stands for nothing.
use Rattle.std.proofs.Common.{◌≡◌, ◌<◌, ◌≤◌, ◌+◌, ⊎_elim, ℕ, List, [], ◌∷◌, ◌++◌, length, sym, ◌∙◌, ap, subst, arith}
use Rattle.vol_numbers.specs.Layout.{log_start}
use Rattle.vol_numbers.specs.declared.block.Block.{Block}
use Rattle.tree_model.specs.declared.command.Command.{Command}
use Rattle.op_log.specs.Log.{HoldsRecords, RecordsStand, blocks_of}
use Rattle.op_log.specs.Record.{record_blocks}
use Rattle.op_log.proofs.LogLemmas.{one_log}
use Rattle.op_log.proofs.SpellingLaws.{one_command}
use Rattle.log_volume.specs.Finding.{HasBadLog}
use Rattle.log_volume.specs.Image.{Logs, layout_in, records_in, used_in}
use Rattle.log_volume.specs.Laws.{FindsNothing}
use Rattle.log_volume.specs.Replay.{Kept, nothing_kept, and_command, after, IsDone, DoesEach}
use Rattle.log_volume.specs.declared.finding.Finding.TheVariants.{NoRoot, BadGeometry, Unbuilt, BadLog}

-- the record behind some of a log's, and that the tree does its command
record Next (image : List Block) (at : ℕ) (kept : Kept) (before all : List Command) : Type 0 where
  command : Command
  stand : RecordsStand image at (before ++ command ∷ [])
  within : blocks_of (before ++ command ∷ []) ≤ blocks_of all
  done : IsDone (after before kept) command

next_of : (image : List Block) (at : ℕ) (kept : Kept) (before all : List Command) → RecordsStand image at before → RecordsStand image at all → DoesEach kept all → length before < length all
    → Next image at kept before all
next_of image at kept before [] stand other does lt = absurd (omega arith)
next_of image at kept [] (c ∷ all) stand other does lt = record { command = c; stand = (other.0, other.1, tt); within = omega arith; done = does.0 }
next_of image at kept (b ∷ before) (c ∷ all) stand other does lt =
    let first : c ≡ b = one_command image at c b other.0 stand.0 other.1 stand.1 in
    let next = next_of image (at + record_blocks b) (and_command kept b) before all stand.2
    (subst (λ (d : Command). RecordsStand image (at + record_blocks d) all) first other.2) (subst (λ (d : Command). DoesEach (and_command kept d) all) first does.1) (omega arith) in
    record {
      command = next.command;
      stand = (stand.0, stand.1, next.stand);
      within = omega (arith, next.within, ap record_blocks first);
      done = next.done;
    }

module _ (image : List Block) (kept : Kept) (logs : Logs image kept) (i : ℕ) (found : HasBadLog image i) where
  abbrev first : ℕ
  first = log_start (layout_in image)

  one_more : i < records_in image → ((command : Command) → HoldsRecords image first (used_in image) (found.commands ++ command ∷ []) → IsDone (after found.commands nothing_kept) command → ⊥) → ⊥
  one_more lt none =
      let next = next_of image first nothing_kept found.commands logs.commands found.logged.stand logs.logged.stand logs.done (omega (arith, found.count, logs.count, lt)) in
      none next.command (record { stand = next.stand; within = omega (arith, next.within, logs.logged.within) }) next.done

  too_few : i ≡ records_in image → blocks_of found.commands < used_in image → ⊥
  too_few is lt =
      let same : found.commands ≡ logs.commands = one_log image first (used_in image) found.commands logs.commands found.logged logs.logged (found.count ∙ is ∙ sym logs.count) in
      omega (arith, lt, ap (λ (l : List Command). blocks_of l) same, logs.filled)

  pub no_bad_log : ⊥
  no_bad_log = ⊎_elim (λ bad. one_more bad.0 bad.1) (λ few. too_few few.0 few.1) found.bad

pub finds_nothing : FindsNothing
finds_nothing image NoRoot kept found stands = found stands.root
finds_nothing image BadGeometry kept found stands = found.1 stands.fits
finds_nothing image Unbuilt kept found stands = found.2 stands.built
finds_nothing image (BadLog i) kept found stands = no_bad_log image kept stands.logs i found.3
