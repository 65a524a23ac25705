-- What the images hold while a record is written and a root that counts it is switched to.
use Rattle.std.proofs.Common.{◌≡◌, ◌∙◌, ⊎_elim, inl, inr, ◌+◌, ◌<◌, ◌≤◌, ℕ, false, List, length, Option, sym, ap, subst, arith}
use Rattle.std.specs.Prelude.{slice_get, unwrap_or}
use Rattle.vol_numbers.specs.Block.{zero_block}
use Rattle.vol_numbers.specs.Layout.{Layout, IsValid, log_start}
use Rattle.vol_numbers.specs.declared.block.Block.{Block}
use Rattle.disk_model.specs.Disk.{State, IsImage, EachImage, is_among}
use Rattle.block_format.specs.declared.root.RootBody.{RootBody}
use Rattle.block_format.specs.Root.{Root, root_of, root_in, root_bytes, HasGeometry}
use Rattle.root_switch.specs.Current.{root_of_image}
use Rattle.root_switch.specs.Switch.{HasOldRoot, HasNewRoot, OldOrNew, IsSwitched}
use Rattle.root_switch.proofs.SwitchLemmas.{same_root}
use Rattle.tree_model.specs.declared.command.Command.{Command}
use Rattle.op_log.specs.Append.{IsOutside, ChangesWithin}
use Rattle.op_log.specs.Log.{RecordStands}
use Rattle.op_log.specs.Record.{HasRecord, record_blocks}
use Rattle.log_volume.specs.Image.{IsLive, KeepsLive, HasNext, layout_in, used_in}
use Rattle.log_volume.specs.Image.IsLive.{counts, inodes, index, logged}
use Rattle.log_volume.specs.Logging.{HasCurrent, next_root, KeepsOrNext}

-- a live block is behind the root slots, and none of so many behind the log in use
live_elsewhere : (image : List Block) (count : ℕ) → IsValid (layout_in image) → used_in image + count ≤ (layout_in image).log_blocks → (k : ℕ) → IsLive image k
    → (3 ≤ k) × IsOutside (log_start (layout_in image) + used_in image) count k
live_elsewhere image count valid room k (counts i lt) = (omega arith, inl (omega (arith, lt)))
live_elsewhere image count valid room k inodes = (omega arith, inr (omega (arith, room)))
live_elsewhere image count valid room k index = (omega arith, inr (omega (arith, room)))
live_elsewhere image count valid room k (logged i lt) = (omega arith, inl (omega (arith, lt)))

module _ (s : State) (slot : ℕ) (b : RootBody) (command : Command) (at : ℕ)
    (current : HasCurrent slot (root_of b) s) (is_slot : slot < 2) (room : b.log_used + record_blocks command ≤ (root_of b).layout.log_blocks)
    (at_is : at ≡ log_start (root_of b).layout + b.log_used) where
  abbrev old : List Block
  old = s.contents

  abbrev count : ℕ
  count = record_blocks command

  layout_is : layout_in old ≡ (root_of b).layout
  layout_is = ap (λ (r : Root). r.layout) current.root_is

  used_is : used_in old ≡ b.log_used
  used_is = ap (λ (r : Root). r.log_used) current.root_is

  at_old : at ≡ log_start (layout_in old) + used_in old
  at_old = at_is ∙ sym (λ i. log_start (layout_is i) + used_is i)

  elsewhere : (k : ℕ) → IsLive old k → (3 ≤ k) × IsOutside at count k
  elsewhere k live =
      let free : used_in old + count ≤ (layout_in old).log_blocks = omega (arith, used_is, ap (λ (g : Layout). g.log_blocks) layout_is, room) in
      let there = live_elsewhere old count current.fits.geometry.valid free k live in
      (there.0, subst (λ (n : ℕ). IsOutside n count k) (sym at_old) there.1)

  far : 3 ≤ at
  far = omega (arith, at_old)

  was_synced : (k : ℕ) → is_among s.unsynced k ≡ false
  was_synced k = ap (λ (u : List ℕ). is_among u k) current.all_synced

  below : (k : ℕ) → k < 3 → IsOutside at count k
  below k lt = inl (omega (arith, far, lt))

  -- what is outside of the record stays in each image
  stays : {t : State} → ChangesWithin at count s t → (image : List Block) → IsImage t image → (k : ℕ) → IsOutside at count k → slice_get image k ≡ slice_get old k
  stays changes image is k out = is.agrees k (changes.others_unsynced k out ∙ was_synced k) ∙ changes.others k out

  pub kept_in : {t : State} → ChangesWithin at count s t → EachImage (KeepsLive old) t
  kept_in changes image is = record {
    as_long = is.as_long ∙ changes.as_long;
    root = same_root image old slot current.slot_is (stays changes image is 0 (below 0 (omega arith))) (stays changes image is (1 + slot) (below (1 + slot) (omega (arith, is_slot))));
    live = λ k live. stays changes image is k (elsewhere k live).1;
  }

  -- the record is written: the root can be switched
  module _ (t : State) (changes : ChangesWithin at count s t) where
    old_keeps : (image : List Block) → HasOldRoot t slot image → KeepsLive old image
    old_keeps image has = record {
      as_long = has.as_long ∙ changes.as_long;
      root = has.root ∙ same_root t.contents old slot current.slot_is (changes.others 0 (below 0 (omega arith))) (changes.others (1 + slot) (below (1 + slot) (omega (arith, is_slot))));
      live = λ k live.
          let there = elsewhere k live in
          has.others k (omega (arith, there.0)) (omega (arith, there.0)) (changes.others_unsynced k there.1 ∙ was_synced k) ∙ changes.others k there.1;
    }

    module _ (next : RootBody) (next_is : root_of next ≡ next_root (root_of b) command) (grammar : HasGeometry (root_of next))
        (reads_back : root_in (root_bytes (root_of next)) ≡ root_of next) (has_record : HasRecord command) (stands : RecordStands t.contents at command) where
      says : (image : List Block) → HasNewRoot t slot next image → root_of_image image ≡ root_of next
      says image has = ap root_in (ap (λ (o : Option Block). (unwrap_or o zero_block).bytes) has.root) ∙ reads_back

      pub new_next : (image : List Block) → HasNewRoot t slot next image → HasNext old image command
      new_next image has =
          let long : length image ≡ length old = has.as_long ∙ changes.as_long in
          let is : root_of_image image ≡ next_root (root_of b) command = says image has ∙ next_is in
          let blocks : (layout_in image).blocks ≡ (layout_in old).blocks = ap (λ (r : Root). r.layout.blocks) is ∙ sym (ap (λ (r : Root). r.layout.blocks) current.root_is) in
          record {
            as_long = long;
            root = record { slots = omega (arith, long, current.has.slots); shape = ap (λ (o : Option Block). (unwrap_or o zero_block).bytes) has.root ∙ ap root_bytes (sym (says image has)) };
            fits = record { geometry = subst HasGeometry (sym (says image has)) grammar; size = blocks ∙ current.fits.size ∙ sym long };
            layout = ap (λ (r : Root). r.layout) is ∙ sym layout_is;
            point = ap (λ (r : Root). r.point) is ∙ sym (ap (λ (r : Root). r.point) current.root_is);
            inode_index = ap (λ (r : Root). r.inode_index) is ∙ sym (ap (λ (r : Root). r.inode_index) current.root_is);
            homes = ap (λ (r : Root). r.homes) is ∙ sym (ap (λ (r : Root). r.homes) current.root_is);
            records = ap (λ (r : Root). r.records) is ∙ sym (ap (λ (r : Root). r.records + 1) current.root_is);
            used = ap (λ (r : Root). r.log_used) is ∙ sym (ap (λ (r : Root). r.log_used + count) current.root_is);
            live = λ k live. let there = elsewhere k live in has.others k (omega (arith, there.0)) (omega (arith, there.0)) ∙ changes.others k there.1;
            has_record = has_record;
            logged = λ i lt. ap (λ (k : ℕ). slice_get image (k + i)) (sym at_old) ∙ has.others (at + i) (omega (arith, far)) (omega (arith, far)) ∙ stands i lt;
          }

      pub any_keeps : (image : List Block) → OldOrNew t slot next image → KeepsOrNext old command image
      any_keeps image either = ⊎_elim (λ has. inl (old_keeps image has)) (λ has. inr (new_next image has)) either

      pub switched_next : (u : State) → IsSwitched t slot next u → HasNext old u.contents command
      switched_next u is = new_next u.contents (record { as_long = is.as_long; root = is.root; others = is.others })
