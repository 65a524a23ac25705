use Rattle.std.proofs.Common.{◌≡◌, ◌<◌, ◌+◌, ◌++◌, ◌∷◌, [], sym, ap, ◌∙◌, subst, length, cond, append_assoc, length-append, arith}
use Rattle.std.specs.Prelude.{is_some}
use Rattle.std.specs.FinMap.{put}
use Rattle.std.specs.Vec.Iter.{into_iter_items}
use Rattle.volume_model.specs.Places.{spot_cmp}
use Rattle.dirty_store.specs.Entries.{AreKept, AreWithin, put_back, set_back, there}
use Rattle.dirty_store.proofs.BackLaws.{put_back-append, set_back-put, there-append, length-put_found}
use Rattle.dirty_store.proofs.KeptLaws.{put_kept, append_within, within_next, all_put-append}
use Rattle.dirty_store.proofs.staging.put_all.Goals as goal

pub loop-spot-preserved : goal.loop-spot-preserved
loop-spot-preserved g c =
    let inv = c.loop-spot.invariant in
    let yielded = c.loop-spot.yielded in
    let es = c.loop-spot.entries.items in
    let was = c.loop-spot.was.items in
    let spot = c.in-Some.spot in
    let item = c.in-Some.item in
    let next = into_iter_items c.next.new.self in
    let split = ap (λ r. yielded ++ r) (sym c.in-Some.ensures.steps.0) ∙ inv.rest in
    let all : into_iter_items c.into_iter-spot-iterator.result ≡ c.args.new.items = c.into_iter-spot-iterator.ensures.into_iter_gives.0 in
    let here : spot.1 < 1048576 = within_next yielded (spot, item) next (subst AreWithin (sym (split ∙ all)) c.requires.within) in
    let number : length c.put-old.new.entries.items + cond (is_some c.put-old.result) 1 0 ≡ length es + 1 =
    ap (λ r. length r + cond (is_some c.put-old.result) 1 0) c.put-old.ensures.put
    ∙ ap (λ o. length (put spot_cmp spot item es) + cond (is_some o) 1 0) c.put-old.ensures.was
    ∙ length-put_found spot item es inv.kept.in_order in
    let was_there = ap there c.keep.ensures.kept ∙ there-append was ((spot, c.put-old.result) ∷ []) in
    record {
      rest = append_assoc yielded ((spot, item) ∷ []) next ∙ split;
      put = c.put-old.ensures.put ∙ ap (put spot_cmp spot item) inv.put ∙ sym (all_put-append yielded ((spot, item) ∷ []) c.args.entries.now.items);
      kept = subst AreKept (sym c.put-old.ensures.put) (put_kept spot item es here inv.kept);
      within = subst AreWithin (sym c.keep.ensures.kept) (append_within was ((spot, c.put-old.result) ∷ []) inv.within (here, tt));
      back = (λ i. put_back (c.keep.ensures.kept i) (c.put-old.ensures.put i))
          ∙ put_back-append was ((spot, c.put-old.result) ∷ []) (put spot_cmp spot item es)
          ∙ ap (λ o. put_back was (set_back spot o (put spot_cmp spot item es))) c.put-old.ensures.was
          ∙ ap (put_back was) (set_back-put spot item es inv.kept.in_order)
          ∙ inv.back;
      count = omega (arith, inv.count, number, was_there, length-append yielded ((spot, item) ∷ []));
      length_most = omega (arith, inv.length_most, number, length-append yielded ((spot, item) ∷ []));
      was_len = omega (arith, inv.was_len, c.keep.ensures.len, length-append yielded ((spot, item) ∷ []));
      room = c.put-old.ensures.capacity ∙ inv.room;
      was_room = omega (arith, inv.was_room, c.keep.ensures.capacity);
    }
