use Rattle.std.proofs.Common.{◌≡◌, ◌*◌, ◌/◌, true, length, ap, subst}
use Rattle.std.specs.Prelude.{slice_set}
use Rattle.count_pairs.specs.Table.{Table}
use Rattle.count_pairs.proofs.CountLaws.{set_keeps}
use Rattle.count_pairs.proofs.count_table.CountTable.set.Goals as goal

pub returns-clause-kept : goal.returns-clause-kept
returns-clause-kept c = λ read homes kept.
    let view : _ ≡ c.args.self.now = c.self.view_is in
    let long : length c.args.self.now.counts ≡ 1024 * length c.args.self.now.touched = subst (λ (t : Table). length t.counts ≡ 1024 * length t.touched) view c.self.invariant.0 in
    set_keeps read homes c.args.self.now _ c.args.b c.args.count long c.requires
    (ap (λ (t : Table). slice_set t.counts c.args.b c.args.count) view) (ap (λ (t : Table). slice_set t.touched (c.args.b / 1024) true) view) kept
