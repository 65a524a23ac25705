-- Which root the images have between the steps of a switch.
use Rattle.std.proofs.Common.{◌≡◌, ◌≢◌, ◌⊎◌, inl, inr, ⊎_elim, ℕ, ◌+◌, ◌-◌, ◌%◌, ◌<◌, ◌≤◌, false, List, length, Option, Some, refl, sym, ◌∙◌, ap, subst, arith}
use Rattle.std.specs.Prelude.{slice_get, slice_set, slice_index, option_map, unwrap_or}
use Rattle.std.proofs.lemmas.List.{length-set}
use Rattle.vol_numbers.specs.declared.block.Block.{Block}
use Rattle.disk_model.specs.Disk.{State, is_among, written, synced, EachImage, DuringWrite, DuringWriteThrough}
use Rattle.disk_model.specs.Past.{Past, Adds}
use Rattle.disk_model.proofs.Moments.{adds_none, adds_write_through, kept_in_image, image_unsynced, slice_get-set_same, slice_get-set_other}
use Rattle.root_switch.specs.Current.{current_slot, current_root, selector_block}
use Rattle.root_switch.specs.Switch.{IsCurrent, OldOrNew, IsSwitched, spelled_root}
use Rattle.block_format.specs.declared.root.RootBody.{RootBody}

-- two images with one selector and one block in the slot that it names have one root
pub same_root : (image before : List Block) (slot : ℕ) → current_slot before ≡ slot → slice_get image 0 ≡ slice_get before 0 → slice_get image (1 + slot) ≡ slice_get before (1 + slot)
    → current_root image ≡ current_root before
same_root image before slot cur first there =
    let names : current_slot image ≡ slot = ap (λ (b : Option Block). unwrap_or (option_map (λ (b : Block). slice_index b.bytes 0) b) 0 % 2) first ∙ cur in
    ap (λ (k : ℕ). slice_get image (1 + k)) names ∙ there ∙ sym (ap (λ (k : ℕ). slice_get before (1 + k)) cur)

either_slot : (p slot : ℕ) → p < 2 → slot < 2 → (p ≡ slot) ⊎ (p ≡ 1 - slot)
either_slot p slot lt is_slot = grind arith

module _ (s : State) (slot : ℕ) (root : RootBody) (is_slot : slot < 2) (room : 3 ≤ length s.contents) (current : IsCurrent slot s) where
  abbrev pub at : ℕ
  at = 2 - slot

  abbrev pub body : Block
  body = spelled_root root

  -- while the other slot is written, and until that is on the disk
  pub other_written : (block : Block) → EachImage (OldOrNew s slot root) (written at block s)
  other_written block image is = inl (record {
    as_long = is.as_long ∙ length-set s.contents at block;
    root = same_root image s.contents slot current.slot_is (kept 0 (omega arith) current.selector_synced) (kept (1 + slot) (omega arith) current.slot_synced);
    others = λ k not_selector not_other closed. kept k not_other closed;
  })
    where
      kept : (k : ℕ) → k ≢ at → is_among s.unsynced k ≡ false → slice_get image k ≡ slice_get s.contents k
      kept k ne closed = kept_in_image s at block image k is ne closed

  -- then nothing is open but what is written
  abbrev pub staged : State
  staged = synced (written at body s)

  pub other_synced : EachImage (OldOrNew s slot root) staged
  other_synced image is = other_written body image (image_unsynced _ image is)

  -- while the selector is written
  pub selector_written : (block : Block) → EachImage (OldOrNew s slot root) (written 0 block staged)
  selector_written block image is = ⊎_elim
      (λ e. inl (record {
        as_long = long;
        root = at_slot e ∙ kept (1 + slot) (omega arith) ∙ slice_get-set_other s.contents at (1 + slot) body (omega (arith, is_slot)) ∙ sym (ap (λ (k : ℕ). slice_get s.contents (1 + k)) current.slot_is);
        others = λ k not_selector not_other closed. untouched k not_selector not_other;
      }))
      (λ e. let is_other : 1 + (1 - slot) ≡ at = omega (arith, is_slot) in inr (record {
        as_long = long;
        root = at_slot e ∙ ap (λ (k : ℕ). slice_get image k) is_other ∙ kept at (omega (arith, is_slot)) ∙ slice_get-set_same s.contents at body (omega (arith, room));
        others = untouched;
      }))
      (either_slot (current_slot image) slot (omega arith) is_slot)
    where
      long : length image ≡ length s.contents
      long = is.as_long ∙ length-set (slice_set s.contents at body) 0 block ∙ length-set s.contents at body

      kept : (k : ℕ) → k ≢ 0 → slice_get image k ≡ slice_get (slice_set s.contents at body) k
      kept k ne = kept_in_image staged 0 block image k is ne refl

      untouched : (k : ℕ) → k ≢ 0 → k ≢ 2 - slot → slice_get image k ≡ slice_get s.contents k
      untouched k not_selector not_other = kept k not_selector ∙ slice_get-set_other s.contents at k body not_other

      at_slot : {p : ℕ} → current_slot image ≡ p → current_root image ≡ slice_get image (1 + p)
      at_slot e = ap (λ (k : ℕ). slice_get image (1 + k)) e

  pub selector_is_synced : (block : Block) → EachImage (OldOrNew s slot root) (synced (written 0 block staged))
  selector_is_synced block image is = selector_written block image (image_unsynced _ image is)

  -- what a failure leaves
  pub left_other : {t : State} → DuringWrite at s t → EachImage (OldOrNew s slot root) t
  left_other during = subst (EachImage (OldOrNew s slot root)) (sym during.is) (other_written during.block)

  pub left_selector : {mid t : State} → mid ≡ staged → DuringWrite 0 mid t → EachImage (OldOrNew s slot root) t
  left_selector is during = subst (EachImage (OldOrNew s slot root)) (sym (during.is ∙ ap (λ (m : State). written 0 during.block m) is)) (selector_written during.block)

  abbrev pub selector : Block
  selector = selector_block (1 - slot)

  -- the moments of the first step, and of both
  pub during_first : {old new : Past} (block : Block) → block ≡ body → Adds old new (DuringWriteThrough at block s) → Adds old new (EachImage (OldOrNew s slot root))
  during_first {old} {new} block is adds =
      adds_write_through body (EachImage (OldOrNew s slot root)) s (adds_none old _) refl (subst (λ (b : Block). Adds old new (DuringWriteThrough at b s)) is adds) other_written other_synced

  pub during_both : {old mid new : Past} {before : State} → Adds old mid (EachImage (OldOrNew s slot root)) → before ≡ staged → Adds mid new (DuringWriteThrough 0 selector before)
      → Adds old new (EachImage (OldOrNew s slot root))
  during_both first is adds = adds_write_through selector (EachImage (OldOrNew s slot root)) staged first is adds selector_written (selector_is_synced selector)

  pub is_staged : {t : State} (block : Block) → block ≡ body → t ≡ synced (written at block s) → t ≡ staged
  is_staged block is done = done ∙ ap (λ (b : Block). synced (written at b s)) is

  pub switched : IsSwitched s slot root (synced (written 0 selector staged))
  switched = record {
    all_synced = refl;
    as_long = length-set (slice_set s.contents at body) 0 selector ∙ length-set s.contents at body;
    selector = there;
    slot_is = is_other;
    root = ap (λ (k : ℕ). slice_get after k) slot_is ∙ slice_get-set_other (slice_set s.contents at body) 0 at selector (omega (arith, is_slot)) ∙ slice_get-set_same s.contents at body (omega (arith, room));
    others = λ k not_selector not_other. slice_get-set_other (slice_set s.contents at body) 0 k selector not_selector ∙ slice_get-set_other s.contents at k body not_other;
  }
    where
      after : List Block
      after = slice_set (slice_set s.contents at body) 0 selector

      there : slice_get after 0 ≡ Some selector
      there = slice_get-set_same (slice_set s.contents at body) 0 selector (omega (arith, room, length-set s.contents at body))

      read : current_slot after ≡ (1 - slot) % 2
      read = ap (λ (b : Option Block). unwrap_or (option_map (λ (b : Block). slice_index b.bytes 0) b) 0 % 2) there

      is_other : current_slot after ≡ 1 - slot
      is_other = omega (arith, read)

      slot_is : 1 + current_slot after ≡ at
      slot_is = omega (arith, is_other, is_slot)
