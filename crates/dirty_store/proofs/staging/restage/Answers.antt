use Rattle.std.proofs.Common.{◌++◌, sym, ap, ◌∙◌, subst, length, arith}
use Rattle.dirty_store.specs.Entries.{AreKept, AreWithin, cut_at, cut_away, uncut, put_back, there}
use Rattle.dirty_store.specs.Inside.{all_there}
use Rattle.dirty_store.proofs.BackLaws.{put_back-cut, there-all, length-cut}
use Rattle.dirty_store.proofs.KeptLaws.{uncut_kept, filter_within, there_within}
use Rattle.dirty_store.proofs.staging.restage.Goals as goal

pub put_all-requires-clause-kept : goal.put_all-requires-clause-kept
put_all-requires-clause-kept g c = subst AreKept (sym c.cut.ensures.cut) (uncut_kept (cut_at c.args.number c.args.cut_to) c.args.entries.now.items c.requires.kept)

pub put_all-requires-clause-was_within : goal.put_all-requires-clause-was_within
put_all-requires-clause-was_within g c =
    let gone = cut_away (cut_at c.args.number c.args.cut_to) c.args.entries.now.items in
    subst AreWithin (sym (c.cut.ensures.was ∙ ap (λ r. r ++ all_there gone) c.requires.empty)) (there_within gone (filter_within _ c.args.entries.now.items c.requires.kept.within))

pub put_all-requires-clause-room : goal.put_all-requires-clause-room
put_all-requires-clause-room g c =
    omega (arith, length-cut (cut_at c.args.number c.args.cut_to) c.args.entries.now.items, ap length c.cut.ensures.cut, c.cut.ensures.capacity, c.requires.room)

pub returns-clause-back : goal.returns-clause-back
returns-clause-back g c =
    let cut = cut_at c.args.number c.args.cut_to in
    let items = c.args.entries.now.items in
    c.put_all.ensures.back
    ∙ (λ i. put_back (c.cut.ensures.was i) (c.cut.ensures.cut i))
    ∙ ap (λ w. put_back (w ++ all_there (cut_away cut items)) (uncut cut items)) c.requires.empty
    ∙ put_back-cut cut items c.requires.kept.in_order

pub returns-clause-room : goal.returns-clause-room
returns-clause-room g c =
    let cut = cut_at c.args.number c.args.cut_to in
    let items = c.args.entries.now.items in
    let was = ap there c.cut.ensures.was ∙ ap (λ w. there (w ++ all_there (cut_away cut items))) c.requires.empty ∙ there-all (cut_away cut items) in
    omega (arith, c.put_all.ensures.count, was, length-cut cut items, ap length c.cut.ensures.cut, c.put_all.ensures.capacity, c.cut.ensures.capacity, c.requires.room)
