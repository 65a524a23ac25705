-- What is planned of one number: facts of an image in which the pages stand, and the old blocks as they were.
use Rattle.std.specs.Prelude.{◌≡◌, ◌≤◌, ◌<◌, ℕ, ◌+◌, ◌*◌, ◌==◌, ◌&&◌, not, nat_lt, bytes_eq, Bool, true, false, List, length, Option, None, Some}
use Rattle.std.specs.FinMap.{find}
use Rattle.std.specs.List.{list_any}
use Rattle.vol_numbers.specs.declared.block.Block.{Block}
use Rattle.vol_numbers.specs.declared.runs.Change.{Change}
use Rattle.block_format.specs.Inode.{pointer_of}
use Rattle.block_format.specs.Slot.{slot_bytes}
use Rattle.block_format.specs.declared.inode.Inode.{Inode}
use Rattle.block_format.specs.declared.slot.Slot.{Slot}
use Rattle.block_tree.specs.Edit.{changed_at, cut_at}
use Rattle.block_tree.specs.Tree.{block_below, indexes_below, pairs_below, pointers_below, blocks_in, IsFull}
use Rattle.dir_slots.specs.Pages.{IsPage, pages_for}
use Rattle.dir_slots.specs.Slots.{slot_at}
use Rattle.dirty_store.specs.Overlay.{Overlay}
use Rattle.image_model.specs.Met.{metas}
use Rattle.image_model.specs.Nodes.{AllBelow, blocks_in_node}
use Rattle.image_model.specs.Planned.{height_in, node_trees}
use Rattle.place_words.specs.Different.{span, times}
use Rattle.point_model.specs.Holding.{slots_left, slots_now}
use Rattle.volume_model.specs.Places.{Spot, Places, spot_cmp, has_spot}

-- ---- the tree below an inode

-- the block of a place, 0 where there is none
abbrev pub block_of_place : List Block → Inode → ℕ → ℕ
block_of_place image inode place = block_below (blocks_in image) (height_in inode) (pointer_of inode) place

-- the pointers to all of its blocks
abbrev pub node_pointers : List Block → Inode → List ℕ
node_pointers image inode = pointers_below (blocks_in image) (height_in inode) (pointer_of inode)

-- the pointers to its blocks of metadata
abbrev pub node_metas : List Block → ℕ → Inode → List ℕ
node_metas image n inode = metas (node_trees (blocks_in image) (n, inode))

-- ---- every node

-- The tree of a number has the places of the old one below a cut, with changes. No index block is empty, and no place is past the size.
pub record TreeIsPlanned (old new : List Block) (was is : Inode) (cut : ℕ) (changes : List Change) : Type 0 where
  pub map : (place : ℕ) → place < 1048576 → block_of_place new is place ≡ changed_at changes (cut_at cut (block_of_place old was)) place
  pub full : IsFull (blocks_in new) (indexes_below (blocks_in new) (height_in is) (pointer_of is))
  pub below : AllBelow (blocks_in_node is) (pairs_below (blocks_in new) (height_in is) (pointer_of is))

-- Its pointers are the old ones with those added and without those dropped, and its metadata is some of the old or is taken.
pub record PointersArePlanned (old new : List Block) (n : ℕ) (was is : Inode) (added dropped taken : List ℕ) : Type 0 where
  pub balance : (b : ℕ) → times b (node_pointers old was) + times b added ≡ times b (node_pointers new is) + times b dropped
  pub metas : (b : ℕ) → times b (node_metas new n is) ≤ times b (node_metas old n was) + times b taken

-- ---- files

-- The changes of a file are its dirty places, each with the block that it has after the point.
pub record AreOfPlaces (dirty : List Spot) (placed : Places) (n : ℕ) (changes : List Change) : Type 0 where
  pub dirty_places : (old : ℕ → ℕ) (place : ℕ) → has_spot dirty (n, place) ≡ true → find spot_cmp (n, place) placed ≡ Some (changed_at changes old place)
  pub other_places : (old : ℕ → ℕ) (place : ℕ) → has_spot dirty (n, place) ≡ false → changed_at changes old place ≡ old place

-- ---- directories

-- whether what is staged in a slot differs from what is left there of the last point, by their bytes
abbrev pub differs : Option Slot → Slot → Bool
differs None left = false
differs (Some slot) left = not (bytes_eq (slot_bytes slot) (slot_bytes left))

-- whether a staged slot of a directory's page, which has 16, differs from what is left of the last point
unfoldable pub is_changed_page : List Slot → Overlay → ℕ → ℕ → Bool
is_changed_page left o n place = list_any (λ j. differs (find spot_cmp (n, 16 * place + j) o.slots) (slot_at left (16 * place + j))) (span 0 16)

-- whether a directory's page stays as it was: it was there, and no staged slot of it differs
abbrev pub is_kept_page : List Block → Overlay → ℕ → ℕ → Bool
is_kept_page old o n place = nat_lt place (pages_for (length (slots_left old o n))) && not (is_changed_page (slots_left old o n) o n place)

-- Each page of a directory is there. It is the old one where that stays, else it spells the slots now.
pub record PagesArePlanned (old new : List Block) (o : Overlay) (n : ℕ) (was is : Inode) : Type 0 where
  pub there : (place : ℕ) → place < pages_for (length (slots_now old o n)) → (block_of_place new is place == 0) ≡ false
  pub kept : (place : ℕ) → place < pages_for (length (slots_now old o n)) → is_kept_page old o n place ≡ true → block_of_place new is place ≡ block_of_place old was place
  pub fresh : (place : ℕ) → place < pages_for (length (slots_now old o n)) → is_kept_page old o n place ≡ false
      → IsPage (slots_now old o n) place (blocks_in new (block_of_place new is place))
