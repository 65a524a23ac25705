-- What an image stands for, by its root and its live blocks.
use Rattle.std.proofs.Common.{◌≡◌, ◌∙◌, ◌+◌, ◌*◌, ◌<◌, ◌≤◌, ◌-◌, ◌%◌, ℕ, List, [], ◌∷◌, ◌++◌, Option, Some, refl, sym, ap, subst, arith, length-append}
use Rattle.std.specs.Prelude.{slice_get, slice_index, option_map, unwrap_or}
use Rattle.vol_numbers.specs.Block.{zero_block}
use Rattle.vol_numbers.specs.Layout.{Layout, count_blocks, log_start, area_start}
use Rattle.vol_numbers.specs.declared.block.Block.{Block}
use Rattle.disk_model.specs.Disk.{State, IsImage}
use Rattle.block_format.specs.Root.{Root, root_in, HasShape, HasGeometry}
use Rattle.root_switch.specs.Current.{current_slot, root_bytes_in, root_of_image}
use Rattle.tree_model.specs.declared.command.Command.{Command}
use Rattle.op_log.specs.Log.{HoldsRecords, blocks_of}
use Rattle.op_log.specs.Record.{record_blocks}
use Rattle.op_log.proofs.LogLemmas.{one_log, used_blocks_tell, one_record_more}
use Rattle.volume_format.specs.Blocks.{count_block, index_block, inode_block}
use Rattle.log_volume.specs.Image.{Stands, LogHolds, IsBuilt, IsLive, counts, inodes, index, logged, KeepsLive, HasNext, layout_in, used_in}
use Rattle.log_volume.specs.Laws.{OpensNoLive, OneMeaning}
use Rattle.log_volume.specs.Replay.{Kept, nothing_kept, and_command, after, IsDone, DoesEach}

-- ---- replays

pub after-push : (commands : List Command) (command : Command) (kept : Kept) → after (commands ++ command ∷ []) kept ≡ and_command (after commands kept) command
after-push [] command kept = refl
after-push (c ∷ commands) command kept = after-push commands command (and_command kept c)

pub does-push : (commands : List Command) (command : Command) (kept : Kept) → DoesEach kept commands → IsDone (after commands kept) command → DoesEach kept (commands ++ command ∷ [])
does-push [] command kept does done = (done, tt)
does-push (c ∷ commands) command kept does done = (does.0, does-push commands command (and_command kept c) does.1 done)

pub used_after : (commands : List Command) (kept : Kept) → (after commands kept).used ≡ kept.used + blocks_of commands
used_after [] kept = omega arith
used_after (c ∷ commands) kept = omega (arith, used_after commands (and_command kept c))

pub one_meaning : OneMeaning
one_meaning image kept other stands others =
    let same : stands.logs.commands ≡ others.logs.commands =
    one_log image (log_start (layout_in image)) (used_in image) stands.logs.commands others.logs.commands stands.logs.logged others.logs.logged (stands.logs.count ∙ sym others.logs.count) in
    stands.logs.is ∙ ap (λ (l : List Command). after l nothing_kept) same ∙ sym others.logs.is

-- ---- the parts of an image

-- the blocks behind the root slots of an image whose root is this
record HasParts (layout : Layout) (image : List Block) : Type 0 where
  counts : (i : ℕ) → i < count_blocks layout → slice_get image (3 + 2 * i) ≡ Some (count_block layout i)
  inodes : slice_get image (area_start layout) ≡ Some inode_block
  index : slice_get image (area_start layout + 1) ≡ Some (index_block layout)

-- an image with the live blocks of another that is built has its parts
kept_parts : (old new : List Block) → ((k : ℕ) → IsLive old k → slice_get new k ≡ slice_get old k) → IsBuilt old → HasParts (layout_in old) new
kept_parts old new live built = record {
  counts = λ i lt. live (3 + 2 * i) (counts i lt) ∙ built.counts i lt;
  inodes = live (area_start (layout_in old)) inodes ∙ built.inodes;
  index = live (area_start (layout_in old) + 1) index ∙ built.index;
}

-- the blocks of the log in use are live
log_live : (old new : List Block) → ((k : ℕ) → IsLive old k → slice_get new k ≡ slice_get old k) → (k : ℕ) → log_start (layout_in old) ≤ k → k < log_start (layout_in old) + used_in old → slice_get new k ≡ slice_get old k
log_live old new live k le lt =
    let there : log_start (layout_in old) + (k - log_start (layout_in old)) ≡ k = omega (arith, le) in
    subst (λ (n : ℕ). slice_get new n ≡ slice_get old n) there (live (log_start (layout_in old) + (k - log_start (layout_in old))) (logged (k - log_start (layout_in old)) (omega (arith, le, lt))))

module _ (old new : List Block) (kept : Kept) (keeps : KeepsLive old new) (stands : Stands old kept) where
  same_bytes : root_bytes_in new ≡ root_bytes_in old
  same_bytes = ap (λ (o : Option Block). (unwrap_or o zero_block).bytes) keeps.root

  same_root : root_of_image new ≡ root_of_image old
  same_root = ap root_in same_bytes

  same_layout : layout_in old ≡ layout_in new
  same_layout = ap (λ (r : Root). r.layout) (sym same_root)

  parts : HasParts (layout_in new) new
  parts = subst (λ (g : Layout). HasParts g new) same_layout (kept_parts old new keeps.live stands.built)

  -- the same log at the same place
  same_log : LogHolds new stands.logs.commands
  same_log = subst (λ (r : Root). HoldsRecords new (log_start r.layout) r.log_used stands.logs.commands) (sym same_root)
      (used_blocks_tell old new (log_start (layout_in old)) (used_in old) stands.logs.commands stands.logs.logged (log_live old new keeps.live))

  pub kept_stands : Stands new kept
  kept_stands = record {
    root = record {
      slots = omega (arith, keeps.as_long, stands.root.slots);
      shape = subst HasShape (sym same_bytes) stands.root.shape;
    };
    fits = record {
      geometry = subst HasGeometry (sym same_root) stands.fits.geometry;
      size = ap (λ (r : Root). r.layout.blocks) same_root ∙ stands.fits.size ∙ sym keeps.as_long;
    };
    built = record {
      point = ap (λ (r : Root). r.point) same_root ∙ stands.built.point;
      inode_index = ap (λ (r : Root). r.inode_index) same_root ∙ stands.built.inode_index ∙ ap (λ (g : Layout). area_start g + 1) same_layout;
      homes = ap (λ (r : Root). r.homes) same_root ∙ stands.built.homes;
      counts = parts.counts;
      inodes = parts.inodes;
      index = parts.index;
    };
    logs = record {
      commands = stands.logs.commands;
      count = stands.logs.count ∙ ap (λ (r : Root). r.records) (sym same_root);
      logged = same_log;
      filled = stands.logs.filled ∙ ap (λ (r : Root). r.log_used) (sym same_root);
      done = stands.logs.done;
      is = stands.logs.is;
    };
  }

-- an image of a state whose selector, root and live blocks are not open keeps them
pub image_keeps : (s : State) (image : List Block) → OpensNoLive s → IsImage s image → KeepsLive s.contents image
image_keeps s image closed is = record {
  as_long = is.as_long;
  root =
      let slot : current_slot image ≡ current_slot s.contents = ap (λ (b : Option Block). unwrap_or (option_map (λ (b : Block). slice_index b.bytes 0) b) 0 % 2) (is.agrees 0 closed.selector) in
      ap (λ (k : ℕ). slice_get image (1 + k)) slot ∙ is.agrees (1 + current_slot s.contents) closed.root;
  live = λ k is_live. is.agrees k (closed.live k is_live);
}

module _ (old new : List Block) (command : Command) (kept : Kept) (next : HasNext old new command) (stands : Stands old kept) (done : IsDone kept command) where
  next_parts : HasParts (layout_in new) new
  next_parts = subst (λ (g : Layout). HasParts g new) (sym next.layout) (kept_parts old new next.live stands.built)

  abbrev commands : List Command
  commands = stands.logs.commands

  -- the old records stand there still, and the new one behind them
  next_log : HoldsRecords new (log_start (layout_in old)) (used_in old + record_blocks command) (commands ++ command ∷ []) × (blocks_of (commands ++ command ∷ []) ≡ used_in old + record_blocks command)
  next_log = one_record_more new (log_start (layout_in old)) (used_in old) commands command
      (used_blocks_tell old new (log_start (layout_in old)) (used_in old) commands stands.logs.logged (log_live old new next.live)) stands.logs.filled next.has_record next.logged

  same_place : log_start (layout_in old) ≡ log_start (layout_in new)
  same_place = ap (λ (g : Layout). log_start g) (sym next.layout)

  next_logged : LogHolds new (commands ++ command ∷ [])
  next_logged = subst (λ (n : ℕ). HoldsRecords new (log_start (layout_in new)) n (commands ++ command ∷ [])) (sym next.used)
      (subst (λ (n : ℕ). HoldsRecords new n (used_in old + record_blocks command) (commands ++ command ∷ [])) same_place next_log.0)

  pub next_stands : Stands new (and_command kept command)
  next_stands = record {
    root = next.root;
    fits = next.fits;
    built = record {
      point = next.point ∙ stands.built.point;
      inode_index = next.inode_index ∙ stands.built.inode_index ∙ ap (λ (g : Layout). area_start g + 1) (sym next.layout);
      homes = next.homes ∙ stands.built.homes;
      counts = next_parts.counts;
      inodes = next_parts.inodes;
      index = next_parts.index;
    };
    logs = record {
      commands = commands ++ command ∷ [];
      count = length-append commands (command ∷ []) ∙ ap (λ (n : ℕ). n + 1) stands.logs.count ∙ sym next.records;
      logged = next_logged;
      filled = next_log.1 ∙ sym next.used;
      done = does-push commands command nothing_kept stands.logs.done (subst (λ (k : Kept). IsDone k command) stands.logs.is done);
      is = ap (λ (k : Kept). and_command k command) stands.logs.is ∙ sym (after-push commands command nothing_kept);
    };
  }
