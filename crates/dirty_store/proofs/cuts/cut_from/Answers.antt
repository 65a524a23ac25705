use Rattle.std.proofs.Common.{◌≡◌, ◌<◌, ◌++◌, ◌∷◌, [], List, refl, sym, ap, ◌∙◌, subst, length, append_assoc, length-append, arith}
use Rattle.std.specs.Prelude.{Some}
use Rattle.std.proofs.lemmas.List.{append-nil, map-append}
use Rattle.std.specs.List.{slice_range}
use Rattle.std.specs.Vec.Iter.{drain_items}
use Rattle.dirty_store.specs.Entries.{cut_away, cut_at}
use Rattle.dirty_store.specs.Inside.{all_there}
use Rattle.dirty_store.proofs.cuts.cut_from.Goals as goal

pub loop-spot-init : goal.loop-spot-init
loop-spot-init g c = record {
  rest = refl;
  was = sym (append-nil c.args.was.now.items);
  len = omega arith;
  room = omega arith;
}

-- fewer are given than there are in all
fewer : {X : Type 0} (given rest more all : List X) (x : X) → given ++ rest ≡ all → rest ≡ x ∷ more → length given < length all
fewer given rest more all x is next = omega (arith, length-append given (x ∷ more), ap length (ap (λ r. given ++ r) (sym next) ∙ is))

pub keep-requires : goal.keep-requires
keep-requires g c =
    let inv = c.loop-spot.invariant in
    let cut = cut_away (cut_at c.args.number (Some c.args.from)) in
    let drained : drain_items c.into_iter-spot-iterator.result ≡ cut c.args.entries.now.items =
    ap drain_items c.into_iter-spot-iterator.ensures.into_iter_gives ∙ c.drain-spot-items.ensures.rest
    ∙ subst (λ es. slice_range es c.bounds_of-bounds.result.start c.bounds_of-bounds.result.end ≡ cut es) c.deref.ensures.value c.bounds_of-bounds.ensures.inside in
    omega (arith, inv.len, inv.room, c.requires.room, fewer c.loop-spot.yielded _ _ _ _ (inv.rest ∙ drained) c.in-Some.ensures.steps.0)

pub loop-spot-preserved : goal.loop-spot-preserved
loop-spot-preserved g c =
    let inv = c.loop-spot.invariant in
    let yielded = c.loop-spot.yielded in
    record {
      rest = append_assoc yielded ((c.in-Some.spot, c.in-Some.item) ∷ []) (drain_items c.next.new.self) ∙ ap (λ r. yielded ++ r) (sym c.in-Some.ensures.steps.0) ∙ inv.rest;
      was = c.keep.ensures.kept ∙ ap (λ r. r ++ (c.in-Some.spot, Some c.in-Some.item) ∷ []) inv.was
          ∙ append_assoc c.args.was.now.items (all_there yielded) ((c.in-Some.spot, Some c.in-Some.item) ∷ [])
          ∙ ap (λ r. c.args.was.now.items ++ r) (sym (map-append (λ e. (e.0, Some e.1)) yielded ((c.in-Some.spot, c.in-Some.item) ∷ [])));
      len = omega (arith, inv.len, c.keep.ensures.len, length-append yielded ((c.in-Some.spot, c.in-Some.item) ∷ []));
      room = omega (arith, inv.room, c.keep.ensures.capacity);
    }

pub returns-clause-was : goal.returns-clause-was
returns-clause-was g c =
    let inv = c.loop-spot.invariant in
    let cut = cut_away (cut_at c.args.number (Some c.args.from)) in
    let drained : drain_items c.into_iter-spot-iterator.result ≡ cut c.args.entries.now.items =
    ap drain_items c.into_iter-spot-iterator.ensures.into_iter_gives ∙ c.drain-spot-items.ensures.rest
    ∙ subst (λ es. slice_range es c.bounds_of-bounds.result.start c.bounds_of-bounds.result.end ≡ cut es) c.deref.ensures.value c.bounds_of-bounds.ensures.inside in
    let all = sym (append-nil c.loop-spot.yielded) ∙ ap (λ r. c.loop-spot.yielded ++ r) (sym c.in-None.ensures.steps.0) ∙ inv.rest ∙ drained in
    inv.was ∙ ap (λ r. c.args.was.now.items ++ all_there r) all

pub returns-clause-was_capacity : goal.returns-clause-was_capacity
returns-clause-was_capacity g c = c.loop-spot.invariant.room
