-- Staging keeps an overlay in order.
use Rattle.std.proofs.Common.{◌<◌, ℕ, suc, List, [], ◌∷◌, All, arith}
use Rattle.dirty_store.specs.declared.effect.Effect.{Effect}
use Rattle.dirty_store.specs.declared.effect.Touched.{Touched}
use Rattle.dirty_store.specs.declared.effect.SlotChange.{SlotChange}
use Rattle.dirty_store.specs.Entries.{AreWithin, uncut}
use Rattle.dirty_store.specs.Overlay.{Overlay, IsOverlay, IsEffect, touched_entries, slot_entries, node_of, node_after, cut_of, forgotten, staged}
use Rattle.dirty_store.proofs.KeptLaws.{all_put_kept, uncut_kept}
use Rattle.dirty_store.proofs.NodeLaws.{put_sorted}

touched_within : (n : ℕ) (ts : List Touched) → All (λ t. t.place < 1048576) ts → AreWithin (touched_entries n ts)
touched_within n [] all = tt
touched_within n (t ∷ ts) all = (all 0 t (omega arith), touched_within n ts (λ k d lt. all (suc k) d (omega arith)))

slots_within : (cs : List SlotChange) → All (λ c. c.slot < 65534) cs → AreWithin (slot_entries cs)
slots_within [] all = tt
slots_within (c ∷ cs) all = let here : c.slot < 65534 = all 0 c (omega arith) in (omega arith, slots_within cs (λ k d lt. all (suc k) d (omega arith)))

pub staged_in_order : (o : Overlay) (e : Effect) → IsOverlay o → IsEffect e → IsOverlay (staged o e)
staged_in_order o e order effect = record {
  blocks = all_put_kept (touched_entries e.number e.touched) (uncut (cut_of e) o.blocks) (touched_within e.number e.touched effect.touched) (uncut_kept (cut_of e) o.blocks order.blocks);
  nodes = put_sorted e.number (node_after e.inode e.cut_to (node_of o e.number)) o.nodes order.nodes;
  slots = all_put_kept (slot_entries e.slots) (uncut (forgotten e) o.slots) (slots_within e.slots effect.slots) (uncut_kept (forgotten e) o.slots order.slots);
}
