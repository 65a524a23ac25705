-- The laws of what an image stands for.
use Rattle.std.proofs.Common.{◌≡◌, ◌∙◌, ◌+◌, ◌-◌, ◌<◌, ◌≤◌, ℕ, List, [], ◌∷◌, ◌++◌, sym, ap, subst, arith, length-append}
use Rattle.std.specs.Prelude.{slice_get, Option, unwrap_or}
use Rattle.vol_numbers.specs.Block.{zero_block}
use Rattle.vol_numbers.specs.Layout.{Layout, log_start}
use Rattle.vol_numbers.specs.declared.block.Block.{Block}
use Rattle.block_format.specs.Root.{Root, root_in, HasShape, HasGeometry}
use Rattle.root_switch.specs.Current.{root_bytes_in, root_of_image}
use Rattle.tree_model.proofs.AttemptLaws.{same_tree}
use Rattle.tree_model.specs.declared.command.Command.{Command}
use Rattle.op_log.specs.Log.{HoldsRecords, blocks_of}
use Rattle.op_log.specs.Record.{record_blocks}
use Rattle.op_log.proofs.LogLemmas.{one_log, used_blocks_tell, one_record_more}
use Rattle.volume_model.specs.Accepted.{Accepts}
use Rattle.volume_model.specs.Machine.{Stored}
use Rattle.volume_model.specs.Space.{free_blocks}
use Rattle.image_model.specs.Meanings.{OneMeaning}
use Rattle.image_model.specs.Live.{IsLive, logged, KeepsLive}
use Rattle.image_model.specs.Next.{HasNext, and_command}
use Rattle.image_model.specs.Seen.{Seen, seen}
use Rattle.image_model.specs.Sound.{IsSound}
use Rattle.image_model.specs.Stands.{Stands, Shows, layout_in, used_in}
use Rattle.image_model.proofs.Kept.{seen-same}

pub one_meaning : OneMeaning
one_meaning image s t a b = λ i. record {
  layout = (a.layout ∙ sym b.layout) i;
  tree = same_tree s.tree t.tree a.shows.ordered b.shows.ordered (λ path. a.shows.tree path ∙ sym (b.shows.tree path)) i;
  places = (a.shows.places ∙ sym b.shows.places) i;
  records = one_log image (log_start (layout_in image)) (used_in image) s.records t.records a.logs.logged b.logs.logged (a.logs.count ∙ sym b.logs.count) i;
  point = (a.point ∙ sym b.point) i;
}

-- the blocks of the log in use are live
log_live : (old new : List Block) → ((k : ℕ) → IsLive old k → slice_get new k ≡ slice_get old k) → (k : ℕ) → log_start (layout_in old) ≤ k → k < log_start (layout_in old) + used_in old → slice_get new k ≡ slice_get old k
log_live old new live k le lt =
    let there : log_start (layout_in old) + (k - log_start (layout_in old)) ≡ k = omega (arith, le) in
    subst (λ (n : ℕ). slice_get new n ≡ slice_get old n) there (live (log_start (layout_in old) + (k - log_start (layout_in old))) (logged (k - log_start (layout_in old)) (omega (arith, le, lt))))

module _ (old new : List Block) (s : Stored) (keeps : KeepsLive old new) (stands : Stands old s) where
  same_bytes : root_bytes_in new ≡ root_bytes_in old
  same_bytes = ap (λ (o : Option Block). (unwrap_or o zero_block).bytes) keeps.root

  same_root : root_of_image new ≡ root_of_image old
  same_root = ap root_in same_bytes

  same_layout : layout_in new ≡ layout_in old
  same_layout = ap (λ (r : Root). r.layout) same_root

  same_seen : seen new ≡ seen old
  same_seen = seen-same old new stands.sound (ap (λ (r : Root). r.inode_index) same_root) (ap (λ (r : Root). r.homes) same_root) same_layout keeps.live

  same_log : HoldsRecords new (log_start (layout_in new)) (used_in new) s.records
  same_log = subst (λ (r : Root). HoldsRecords new (log_start r.layout) r.log_used s.records) (sym same_root)
      (used_blocks_tell old new (log_start (layout_in old)) (used_in old) s.records stands.logs.logged (log_live old new keeps.live))

  pub kept_stands : Stands new s
  kept_stands = record {
    root = record {
      slots = omega (arith, keeps.as_long, stands.root.slots);
      shape = subst HasShape (sym same_bytes) stands.root.shape;
    };
    fits = record {
      geometry = subst HasGeometry (sym same_root) stands.fits.geometry;
      size = ap (λ (r : Root). r.layout.blocks) same_root ∙ stands.fits.size ∙ sym keeps.as_long;
    };
    layout = stands.layout ∙ sym same_layout;
    sound = subst (λ (g : Layout). IsSound g (seen new)) (sym same_layout) (subst (λ (t : Seen). IsSound (layout_in old) t) (sym same_seen) stands.sound);
    shows = subst (λ (t : Seen). Shows t s) (sym same_seen) stands.shows;
    logs = record {
      count = stands.logs.count ∙ ap (λ (r : Root). r.records) (sym same_root);
      logged = same_log;
      filled = stands.logs.filled ∙ ap (λ (r : Root). r.log_used) (sym same_root);
      accepted = subst (λ (g : Layout). Accepts (free_blocks g s.tree s.places) s.tree 0 s.records) (sym same_layout) stands.logs.accepted;
    };
    point = stands.point ∙ ap (λ (r : Root). r.point) (sym same_root);
  }

module _ (old new : List Block) (command : Command) (s : Stored) (next : HasNext old new command) (stands : Stands old s) where
  next_seen : seen new ≡ seen old
  next_seen = seen-same old new stands.sound next.inode_index next.homes next.layout next.live

  -- the old records stand there still, and the new one behind them
  next_log : HoldsRecords new (log_start (layout_in old)) (used_in old + record_blocks command) (s.records ++ command ∷ []) × (blocks_of (s.records ++ command ∷ []) ≡ used_in old + record_blocks command)
  next_log = one_record_more new (log_start (layout_in old)) (used_in old) s.records command
      (used_blocks_tell old new (log_start (layout_in old)) (used_in old) s.records stands.logs.logged (log_live old new next.live)) stands.logs.filled next.has_record next.logged

  next_logged : HoldsRecords new (log_start (layout_in new)) (used_in new) (s.records ++ command ∷ [])
  next_logged = subst (λ (n : ℕ). HoldsRecords new (log_start (layout_in new)) n (s.records ++ command ∷ [])) (sym next.used)
      (subst (λ (g : Layout). HoldsRecords new (log_start g) (used_in old + record_blocks command) (s.records ++ command ∷ [])) (sym next.layout) next_log.0)

  pub next_stands : Accepts (free_blocks (layout_in old) s.tree s.places) s.tree 0 (s.records ++ command ∷ []) → Stands new (and_command s command)
  next_stands accepts = record {
    root = next.root;
    fits = next.fits;
    layout = stands.layout ∙ sym next.layout;
    sound = subst (λ (g : Layout). IsSound g (seen new)) (sym next.layout) (subst (λ (t : Seen). IsSound (layout_in old) t) (sym next_seen) stands.sound);
    shows = subst (λ (t : Seen). Shows t (and_command s command)) (sym next_seen) (record { ordered = stands.shows.ordered; tree = stands.shows.tree; places = stands.shows.places });
    logs = record {
      count = length-append s.records (command ∷ []) ∙ ap (λ (n : ℕ). n + 1) stands.logs.count ∙ sym next.records;
      logged = next_logged;
      filled = next_log.1 ∙ sym next.used;
      accepted = subst (λ (g : Layout). Accepts (free_blocks g s.tree s.places) s.tree 0 (s.records ++ command ∷ [])) (sym next.layout) accepts;
    };
    point = stands.point ∙ sym next.point;
  }
