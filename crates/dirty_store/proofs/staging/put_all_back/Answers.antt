use Rattle.std.proofs.Common.{◌∷◌, [], sym, ap, ◌∙◌, subst, arith}
use Rattle.dirty_store.specs.Entries.{AreWithin, put_back, there}
use Rattle.dirty_store.proofs.BackLaws.{put_back-append, there-append}
use Rattle.dirty_store.proofs.KeptLaws.{within_last}
use Rattle.dirty_store.proofs.staging.put_all_back.Goals as goal

pub set_back-requires-clause-within : goal.set_back-requires-clause-within
set_back-requires-clause-within g c = (within_last c.pop.new.self.items (c.in-Some.spot, c.in-Some.item) (subst AreWithin c.in-Some.ensures.items c.loop-spot.invariant.within)).1

pub set_back-requires-clause-room : goal.set_back-requires-clause-room
set_back-requires-clause-room g c =
    omega (arith, c.loop-spot.invariant.room, ap there c.in-Some.ensures.items ∙ there-append c.pop.new.self.items ((c.in-Some.spot, c.in-Some.item) ∷ []))

pub loop-spot-preserved : goal.loop-spot-preserved
loop-spot-preserved g c =
    let inv = c.loop-spot.invariant in
    let rest = c.pop.new.self.items in
    let last = ap there c.in-Some.ensures.items ∙ there-append rest ((c.in-Some.spot, c.in-Some.item) ∷ []) in
    record {
      back = ap (put_back rest) c.set_back.ensures.back
          ∙ sym (put_back-append rest ((c.in-Some.spot, c.in-Some.item) ∷ []) c.loop-spot.entries.items)
          ∙ ap (λ w. put_back w c.loop-spot.entries.items) (sym c.in-Some.ensures.items)
          ∙ inv.back;
      kept = c.set_back.ensures.kept;
      within = (within_last rest (c.in-Some.spot, c.in-Some.item) (subst AreWithin c.in-Some.ensures.items inv.within)).0;
      room = omega (arith, inv.room, last, c.set_back.ensures.count, c.set_back.ensures.capacity);
      capacity = c.set_back.ensures.capacity ∙ inv.capacity;
    }
