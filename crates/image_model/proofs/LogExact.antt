-- The records of a log that are accepted, and the first one that isn't.
use Rattle.std.proofs.Common.{◌≡◌, ℕ, zero, suc, ◌+◌, ◌<◌, ◌≤◌, List, [], ◌∷◌, ◌++◌, length, refl, sym, ap, subst, ◌∙◌, arith}
use Rattle.vol_numbers.specs.Layout.{log_start}
use Rattle.vol_numbers.specs.declared.block.Block.{Block}
use Rattle.tree_model.proofs.AttemptLaws.{same_tree}
use Rattle.tree_model.specs.Step.{step}
use Rattle.tree_model.specs.Tree.{Tree}
use Rattle.tree_model.specs.declared.command.Command.{Command}
use Rattle.op_log.specs.Log.{HoldsRecords, RecordsStand, blocks_of}
use Rattle.op_log.specs.Record.{record_blocks}
use Rattle.op_log.proofs.LogLemmas.{one_log}
use Rattle.space_account.specs.Charge.{charge}
use Rattle.volume_model.specs.Accepted.{Accepts}
use Rattle.volume_model.specs.Machine.{Stored}
use Rattle.volume_model.specs.Places.{Places}
use Rattle.volume_model.specs.Space.{free_blocks}
use Rattle.image_model.specs.Finds.{HasAccepted}
use Rattle.image_model.specs.Next.{and_command}
use Rattle.image_model.specs.Stands.{layout_in, used_in}

stand_front : (image : List Block) (at : ℕ) (cs ds : List Command) → RecordsStand image at (cs ++ ds) → RecordsStand image at cs
stand_front image at [] ds all = tt
stand_front image at (c ∷ cs) ds all = (all.0, all.1, stand_front image (at + record_blocks c) cs ds all.2)

blocks_front : (cs ds : List Command) → blocks_of cs ≤ blocks_of (cs ++ ds)
blocks_front [] ds = omega arith
blocks_front (c ∷ cs) ds = omega (arith, blocks_front cs ds)

pub holds_front : (image : List Block) (first used : ℕ) (cs ds : List Command) → HoldsRecords image first used (cs ++ ds) → HoldsRecords image first used cs
holds_front image first used cs ds holds = record { stand = stand_front image first cs ds holds.stand; within = omega (arith, holds.within, blocks_front cs ds) }

pub accepts_front : (free : ℕ) (tree : Tree) (charged : ℕ) (cs ds : List Command) → Accepts free tree charged (cs ++ ds) → Accepts free tree charged cs
accepts_front free tree charged [] ds all = tt
accepts_front free tree charged (c ∷ cs) ds all = (all.0, all.1, accepts_front free (step tree c).1 (charged + charge c) cs ds all.2)

-- a list around its i-th element
record Around (cs : List Command) (i : ℕ) : Type 0 where
  front : List Command
  here : Command
  rest : List Command
  is : cs ≡ (front ++ here ∷ []) ++ rest
  count : length front ≡ i

around : (cs : List Command) (i : ℕ) → i < length cs → Around cs i
around [] i lt = absurd (omega arith)
around (c ∷ cs) zero lt = record { front = []; here = c; rest = cs; is = refl; count = refl }
around (c ∷ cs) (suc i) lt =
    let more = around cs i (omega (arith, lt)) in
    record { front = c ∷ more.front; here = more.here; rest = more.rest; is = ap (λ (xs : List Command). c ∷ xs) more.is; count = ap suc more.count }

module _ (image : List Block) (s t : Stored) (a : HasAccepted image s) (b : HasAccepted image t) where
  pub trees_same : s.tree ≡ t.tree
  trees_same = same_tree s.tree t.tree a.shows.ordered b.shows.ordered (λ path. a.shows.tree path ∙ sym (b.shows.tree path))

  places_same : s.places ≡ t.places
  places_same = a.shows.places ∙ sym b.shows.places

  -- behind the accepted records of one stands the next of the other, where that has more
  pub next_of : length s.records < length t.records → (command : Command) × HasAccepted image (and_command s command)
  next_of lt =
      let parts = around t.records (length s.records) lt in
      let first = log_start (layout_in image) in
      let used = used_in image in
      let cs = parts.front ++ parts.here ∷ [] in
      let held : HoldsRecords image first used cs = holds_front image first used cs parts.rest (subst (HoldsRecords image first used) parts.is b.logged) in
      let fronts : parts.front ≡ s.records = one_log image first used parts.front s.records (holds_front image first used parts.front (parts.here ∷ []) held) a.logged parts.count in
      let free : Tree → Places → ℕ = λ tree places. free_blocks (layout_in image) tree places in
      let taken : Accepts (free t.tree t.places) t.tree 0 cs = accepts_front (free t.tree t.places) t.tree 0 cs parts.rest (subst (Accepts (free t.tree t.places) t.tree 0) parts.is b.accepted) in (
        parts.here,
        record {
          shows = record { ordered = a.shows.ordered; tree = a.shows.tree; places = a.shows.places };
          logged = subst (λ (xs : List Command). HoldsRecords image first used (xs ++ parts.here ∷ [])) fronts held;
          accepted = subst (λ (xs : List Command). Accepts (free s.tree s.places) s.tree 0 (xs ++ parts.here ∷ [])) fronts
              (subst (λ (places : Places). Accepts (free s.tree places) s.tree 0 cs) (sym places_same) (subst (λ (tree : Tree). Accepts (free tree t.places) tree 0 cs) (sym trees_same) taken));
        },
      )

  pub records_same : length s.records ≡ length t.records → s.records ≡ t.records
  records_same count = one_log image (log_start (layout_in image)) (used_in image) s.records t.records a.logged b.logged count
