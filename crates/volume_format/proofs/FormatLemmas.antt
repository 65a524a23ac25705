-- The state and the moments of a disk while it is formatted.
use Rattle.std.proofs.Common.{◌≡◌, ◌≢◌, ◌∙◌, ◌⊎◌, ⊎_elim, inl, inr, subst, false, ◌+◌, ◌*◌, ◌%◌, ◌<◌, ◌≤◌, ℕ, zero, suc, List, length, Option, Some, refl, sym, ap, arith, add-one}
use Rattle.std.specs.Prelude.{slice_get, slice_set, slice_index, option_map, unwrap_or}
use Rattle.std.proofs.lemmas.List.{length-set}
use Rattle.vol_numbers.specs.Block.{zero_block}
use Rattle.vol_numbers.specs.Layout.{Layout, IsValid, count_blocks, area_start}
use Rattle.vol_numbers.specs.declared.block.Block.{Block}
use Rattle.disk_model.specs.Disk.{State, EachImage, written, synced, is_among, DuringWrite, DuringWriteThrough}
use Rattle.disk_model.specs.Past.{Past, Adds}
use Rattle.disk_model.proofs.Moments.{adds_then, adds_weaker, slice_get-set_other, slice_get-set_same, is_among-included, kept_in_image, image_unsynced}
use Rattle.block_format.specs.Root.{HasGeometry}
use Rattle.image_model.specs.Fresh.{fresh_root}
use Rattle.volume_format.specs.Blocks.{count_block, index_block, inode_block, root_block}
use Rattle.volume_format.specs.Formatting.{with_counts, with_inodes, with_root, with_selector, IsFormatted, HasFreshBody, HasSelectorLast, KeepsSelector, WritesRootFirst, IsMomentOfFormat}
use Rattle.volume_format.proofs.FreshLaws.{no_home_bit}

pub keeps_start : (s : State) → KeepsSelector s s
keeps_start s = record { as_long = refl; same = refl; closed = λ was. was }

pub keeps_on : {first mid last : State} → KeepsSelector first mid → KeepsSelector mid last → KeepsSelector first last
keeps_on a b = record { as_long = b.as_long ∙ a.as_long; same = b.same ∙ a.same; closed = λ was. b.closed (a.closed was) }

-- what is written behind the selector leaves it
pub keeps_written : (at : ℕ) (block : Block) (s : State) → 0 < at → KeepsSelector s (written at block s)
keeps_written at block s behind = record {
  as_long = length-set s.contents at block;
  same = slice_get-set_other s.contents at 0 block (omega (arith, behind));
  closed = λ was. is_among-included at 0 s.unsynced (omega (arith, behind)) ∙ was;
}

pub keeps_synced : (s : State) → KeepsSelector s (synced s)
keeps_synced s = record { as_long = refl; same = refl; closed = λ was. refl }

-- one write more behind the selector
pub adds_keeps : {old mid new : Past} {first before : State} {at : ℕ} → Adds old mid (KeepsSelector first) → KeepsSelector first before → 0 < at → Adds mid new (DuringWrite at before) → Adds old new (KeepsSelector first)
adds_keeps {first = first} {before = before} {at = at} so_far keeps behind call =
    adds_then so_far call (λ s during. subst (KeepsSelector first) (sym during.is) (keeps_on keeps (keeps_written at during.block before behind)))

pub inodes_written : (g : Layout) (s one two : State) (a b : ℕ) (x y : Block) → a ≡ area_start g → b ≡ area_start g → x ≡ inode_block → y ≡ index_block g
    → one ≡ written a x s → two ≡ written (b + 1) y one → two ≡ with_inodes g s
inodes_written g s one two a b x y is_a is_b is_x is_y first second =
    second ∙ (λ i. written (is_b i + 1) (is_y i) ((first ∙ (λ j. written (is_a j) (is_x j) s)) i))

-- the count blocks are behind the selector
pub counts_keep : (g : Layout) (n : ℕ) (s : State) → KeepsSelector s (with_counts g n s)
unfolding with_counts
counts_keep g zero s = keeps_start s
counts_keep g (suc n) s = keeps_on (counts_keep g n s) (keeps_written (3 + 2 * n) (count_block g n) (with_counts g n s) (omega arith))

-- so are the inode block and the inode index
pub inodes_keep : (g : Layout) (s : State) → KeepsSelector s (with_inodes g s)
inodes_keep g s = keeps_on (keeps_written (area_start g) inode_block s (omega arith)) (keeps_written (area_start g + 1) (index_block g) (written (area_start g) inode_block s) (omega arith))

pub with_counts-zero : (g : Layout) (s : State) → s ≡ with_counts g 0 s
unfolding with_counts
with_counts-zero g s = refl

-- one count block more
pub with_counts-next : (g : Layout) (n : ℕ) (s before after : State) (block : Block) → before ≡ with_counts g n s → block ≡ count_block g n → after ≡ written (3 + 2 * n) block before → after ≡ with_counts g (n + 1) s
unfolding with_counts
with_counts-next g n s before after block is is_block next =
    next ∙ (λ i. written (3 + 2 * n) (is_block i) (is i)) ∙ ap (λ (k : ℕ). with_counts g k s) (sym (add-one n))

length-with_counts : (g : Layout) (n : ℕ) (s : State) → length (with_counts g n s).contents ≡ length s.contents
unfolding with_counts
length-with_counts g zero s = refl
length-with_counts g (suc n) s = length-set (with_counts g n s).contents (3 + 2 * n) (count_block g n) ∙ length-with_counts g n s

equal_or_below : (i n : ℕ) → i < suc n → (i ≡ n) ⊎ (i < n)
equal_or_below i n lt = grind arith

-- each count block stands in its place
counts_stand : (g : Layout) (n i : ℕ) (s : State) → i < n → 3 + 2 * n ≤ length s.contents → slice_get (with_counts g n s).contents (3 + 2 * i) ≡ Some (count_block g i)
unfolding with_counts
counts_stand g zero i s lt room = absurd (omega arith)
counts_stand g (suc n) i s lt room = ⊎_elim
    (λ e. ap (λ (k : ℕ). slice_get (with_counts g (suc n) s).contents (3 + 2 * k)) e
    ∙ slice_get-set_same (with_counts g n s).contents (3 + 2 * n) (count_block g n) (omega (arith, room, length-with_counts g n s))
    ∙ ap (λ (k : ℕ). Some (count_block g k)) (sym e))
    (λ below. slice_get-set_other (with_counts g n s).contents (3 + 2 * n) (3 + 2 * i) (count_block g n) (omega (arith, below))
    ∙ counts_stand g n i s below (omega (arith, room)))
    (equal_or_below i n lt)

fresh_geometry : (g : Layout) → IsValid g → HasGeometry (fresh_root g)
fresh_geometry g valid = record {
  valid = valid;
  records_fit = omega arith;
  log_fits = omega arith;
  homes_fit = λ i lt from. no_home_bit i lt;
}

module _ (g : Layout) (valid : IsValid g) (s : State) (long : length s.contents ≡ g.blocks) where
  abbrev a : ℕ
  a = area_start g

  abbrev counted : List Block
  counted = (with_counts g (count_blocks g) s).contents

  abbrev inoded : List Block
  inoded = slice_set (slice_set counted a inode_block) (a + 1) (index_block g)

  abbrev rooted : List Block
  rooted = slice_set inoded 1 (root_block g)

  -- the contents before the selector is written
  abbrev rooted_state : State
  rooted_state = with_root g (with_inodes g (with_counts g (count_blocks g) s))

  long_counted : length counted ≡ g.blocks
  long_counted = length-with_counts g (count_blocks g) s ∙ long

  long_inoded : length inoded ≡ g.blocks
  long_inoded = length-set (slice_set counted a inode_block) (a + 1) (index_block g) ∙ length-set counted a inode_block ∙ long_counted

  long_rooted : length rooted ≡ g.blocks
  long_rooted = length-set inoded 1 (root_block g) ∙ long_inoded

  -- what is behind the root is not written again
  behind : (k : ℕ) → 2 ≤ k → slice_get rooted k ≡ slice_get inoded k
  behind k le = slice_get-set_other inoded 1 k (root_block g) (omega (arith, le))

  inodes_stand : slice_get rooted a ≡ Some inode_block
  inodes_stand = behind a (omega arith) ∙ slice_get-set_other (slice_set counted a inode_block) (a + 1) a (index_block g) (omega arith)
      ∙ slice_get-set_same counted a inode_block (omega (arith, long_counted, valid.area_at_least))

  index_stands : slice_get rooted (a + 1) ≡ Some (index_block g)
  index_stands = behind (a + 1) (omega arith)
      ∙ slice_get-set_same (slice_set counted a inode_block) (a + 1) (index_block g) (omega (arith, long_counted, length-set counted a inode_block, valid.area_at_least))

  each_count_stands : (i : ℕ) → i < count_blocks g → slice_get rooted (3 + 2 * i) ≡ Some (count_block g i)
  each_count_stands i lt = behind (3 + 2 * i) (omega arith)
      ∙ slice_get-set_other (slice_set counted a inode_block) (a + 1) (3 + 2 * i) (index_block g) (omega (arith, lt))
      ∙ slice_get-set_other counted a (3 + 2 * i) inode_block (omega (arith, lt))
      ∙ counts_stand g (count_blocks g) i s lt (omega (arith, long, valid.area_at_least))

  -- what agrees with it behind the selector has all but the selector
  body_in : (image : List Block) → ((k : ℕ) → k ≢ 0 → slice_get image k ≡ slice_get rooted k) → HasFreshBody g image
  body_in image agrees = record {
    root = agrees 1 (omega arith) ∙ slice_get-set_same inoded 1 (root_block g) (omega (arith, long_inoded, valid.area_at_least));
    counts = λ i lt. agrees (3 + 2 * i) (omega arith) ∙ each_count_stands i lt;
    inodes = agrees a (omega arith) ∙ inodes_stand;
    index = agrees (a + 1) (omega arith) ∙ index_stands;
  }

  -- so does each image while the selector is written
  body_in_images : (block : Block) → EachImage (HasFreshBody g) (written 0 block rooted_state)
  body_in_images block image is = body_in image (λ k ne. kept_in_image rooted_state 0 block image k is ne refl)

  pub formatted : IsFormatted g (with_selector rooted_state)
  formatted =
      let body = body_in (slice_set rooted 0 zero_block) (λ k ne. slice_get-set_other rooted 0 k zero_block ne) in
      let selector : slice_get (slice_set rooted 0 zero_block) 0 ≡ Some zero_block = slice_get-set_same rooted 0 zero_block (omega (arith, long_rooted, valid.area_at_least)) in
      record {
        all_synced = refl;
        selector = selector;
        fresh = record {
          as_long = length-set rooted 0 zero_block ∙ long_rooted;
          slot = ap (λ (b : Option Block). unwrap_or (option_map (λ (b : Block). slice_index b.bytes 0) b) 0 % 2) selector;
          root = body.root;
          geometry = fresh_geometry g valid;
          counts = body.counts;
          inodes = body.inodes;
          index = body.index;
        };
      }

  -- each moment at which the root and the selector are written
  pub moment_at_root : (m : State) → WritesRootFirst (root_block g) (with_inodes g (with_counts g (count_blocks g) s)) m → IsMomentOfFormat g s m
  moment_at_root m writes =
      let inodes_in = with_inodes g (with_counts g (count_blocks g) s) in
      let keeps : KeepsSelector s inodes_in = keeps_on (counts_keep g (count_blocks g) s) (inodes_keep g (with_counts g (count_blocks g) s)) in
      let long_after : (block : Block) → length (slice_set rooted 0 block) ≡ length s.contents = λ block. length-set rooted 0 block ∙ long_rooted ∙ sym long in
      ⊎_elim
      (λ at_root. inl (⊎_elim
      (λ w. subst (KeepsSelector s) (sym w.is) (keeps_on keeps (keeps_written 1 w.block inodes_in (omega arith))))
      (λ e. subst (KeepsSelector s) (sym e) (keeps_on keeps (keeps_on (keeps_written 1 (root_block g) inodes_in (omega arith)) (keeps_synced (written 1 (root_block g) inodes_in)))))
      at_root))
      (λ at_selector. inr (⊎_elim
      (λ w. (ap (λ (t : State). length t.contents) w.is ∙ long_after w.block, subst (EachImage (HasFreshBody g)) (sym w.is) (body_in_images w.block)))
      (λ e. (
        ap (λ (t : State). length t.contents) e ∙ long_after zero_block,
        subst (EachImage (HasFreshBody g)) (sym e) (λ image is. body_in_images zero_block image (image_unsynced (written 0 zero_block rooted_state) image is)),
      ))
      at_selector))
      writes

-- the state after each part of a format
pub parts_written : (g : Layout) (s one two three : State) (r : Block) → r ≡ root_block g
    → one ≡ with_counts g (count_blocks g) s → two ≡ with_inodes g one → three ≡ with_selector (synced (written 1 r two))
    → three ≡ with_selector (with_root g (with_inodes g (with_counts g (count_blocks g) s)))
parts_written g s one two three r is_r first second third =
    third ∙ (λ i. with_selector (synced (written 1 (is_r i) ((second ∙ ap (with_inodes g) first) i))))

-- the moments while the root is written
pub adds_root : {old new : Past} (r : Block) (s : State) → Adds old new (DuringWriteThrough 1 r s) → Adds old new (WritesRootFirst r s)
adds_root r s call = adds_weaker call (λ m during. inl during)

-- and while the selector is, with the root on the disk
pub adds_selector : {old mid new : Past} (r : Block) (s one : State) (z : Block) → z ≡ zero_block → one ≡ synced (written 1 r s)
    → Adds old mid (DuringWriteThrough 1 r s) → Adds mid new (DuringWriteThrough 0 z one) → Adds old new (WritesRootFirst r s)
adds_selector r s one z is_z first root selector = adds_then (adds_root r s root) selector
    (λ m during. inr (subst (λ (t : State). DuringWriteThrough 0 zero_block t m) first (subst (λ (b : Block). DuringWriteThrough 0 b one m) is_z during)))

-- the moments before the root is written
pub adds_bodies : {p0 p1 p2 : Past} (g : Layout) (s one : State) → one ≡ with_counts g (count_blocks g) s → Adds p0 p1 (KeepsSelector s) → Adds p1 p2 (KeepsSelector one) → Adds p0 p2 (IsMomentOfFormat g s)
adds_bodies g s one first counts inodes =
    let keeps : KeepsSelector s one = subst (KeepsSelector s) (sym first) (counts_keep g (count_blocks g) s) in
    adds_then (adds_weaker counts (λ m k. inl k)) inodes (λ m k. inl (keeps_on keeps k))

-- the moments of the whole from those of its parts
pub adds_moments : {p0 p1 p2 p3 : Past} (g : Layout) (s one two : State) (r : Block) → IsValid g → length s.contents ≡ g.blocks → r ≡ root_block g
    → one ≡ with_counts g (count_blocks g) s → two ≡ with_inodes g one
    → Adds p0 p1 (KeepsSelector s) → Adds p1 p2 (KeepsSelector one) → Adds p2 p3 (WritesRootFirst r two) → Adds p0 p3 (IsMomentOfFormat g s)
adds_moments g s one two r valid long is_r first second counts inodes root =
    let to_two = second ∙ ap (with_inodes g) first in
    adds_then (adds_bodies g s one first counts inodes) root (λ m writes. moment_at_root g valid s long m (subst (λ (t : State). WritesRootFirst (root_block g) t m) to_two (subst (λ (b : Block). WritesRootFirst b two m) is_r writes)))

-- a moment has the blocks
pub long_moment : (g : Layout) (s m : State) → length s.contents ≡ g.blocks → IsMomentOfFormat g s m → length m.contents ≡ g.blocks
long_moment g s m long either = ⊎_elim (λ k. k.as_long ∙ long) (λ both. both.0 ∙ long) either

-- one write behind the selector
pub adds_keeping : {old new : Past} {before : State} {at : ℕ} → 0 < at → Adds old new (DuringWrite at before) → Adds old new (KeepsSelector before)
adds_keeping {before = before} behind call = adds_weaker call (λ s during. subst (KeepsSelector before) (sym during.is) (keeps_written _ during.block before behind))

-- at a moment each image with another selector has all else
pub ordered_moment : (g : Layout) (s m : State) → is_among s.unsynced 0 ≡ false → IsMomentOfFormat g s m → EachImage (HasSelectorLast g s.contents) m
ordered_moment g s m closed either image is = ⊎_elim
    (λ k differs. absurd (differs (is.agrees 0 (k.closed closed) ∙ k.same)))
    (λ both differs. both.1 image is)
    either
