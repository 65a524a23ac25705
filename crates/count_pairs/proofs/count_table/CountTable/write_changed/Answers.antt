use Rattle.std.proofs.Common.{◌≡◌, ℕ, length, subst, sym, arith}
use Rattle.std.specs.Prelude.{Result, Ok, Err, OnErr}
use Rattle.disk_model.proofs.Moments.{adds_weaker}
use Rattle.count_pairs.specs.Homes.{Blocks, blocks_in, counts_from}
use Rattle.count_pairs.specs.Table.{Table, AllStand, IsKept}
use Rattle.count_pairs.proofs.ChangeLaws.{named_kept, named_in_images}
use Rattle.count_pairs.proofs.CountLaws.{all_stand, counts_are, stand_kept, still_kept}
use Rattle.count_pairs.proofs.count_table.CountTable.write_changed.Goals as goal

pub returns-clause-counts : goal.returns-clause-counts
returns-clause-counts g c tells =
    let before : Blocks = blocks_in (g.D.Disk.state c.args.disk.now).contents in
    let after : Blocks = blocks_in (g.D.Disk.state c.write_touched.new.disk).contents in
    let homes = c.args.homes.now.bytes in
    let new = c.in_ok-new.new.bytes in
    let wrote = c.in_ok-new.ensures in
    let counts = c.as_slice.result.now in
    let touched = c.as_slice-2.result.now in
    let t : Table = record { counts = c.self.inside.counts.items; touched = c.self.inside.touched.items } in
    subst (λ (t : Table). IsKept before homes t → counts_from after new 0 (length t.touched) ≡ t.counts) c.self.view_is
    (λ kept. counts_are after new t.counts (length t.touched) c.self.invariant.0
    (all_stand before after homes new t counts touched c.as_slice.ensures.value c.as_slice-2.ensures.value wrote.bits (wrote.stand tells) (λ i. named_kept homes touched i (wrote.changes tells)) kept))

pub returns-clause-kept : goal.returns-clause-kept
returns-clause-kept g c tells =
    let before : Blocks = blocks_in (g.D.Disk.state c.args.disk.now).contents in
    let after : Blocks = blocks_in (g.D.Disk.state c.write_touched.new.disk).contents in
    let homes = c.args.homes.now.bytes in
    let new = c.in_ok-new.new.bytes in
    let wrote = c.in_ok-new.ensures in
    let counts = c.as_slice.result.now in
    let touched = c.as_slice-2.result.now in
    let t : Table = record { counts = c.self.inside.counts.items; touched = c.self.inside.touched.items } in
    let as_many : length c.fill.new.self.items ≡ length c.self.inside.touched.items = omega (arith, c.fill.ensures.len, c.self.inside.touched.ok) in
    subst (λ (t : Table). IsKept before homes t → IsKept after new (record { counts = c.self.inside.counts.items; touched = c.fill.new.self.items })) c.self.view_is
    (λ kept. stand_kept after new t.counts c.fill.new.self.items (subst (λ (n : ℕ). AllStand after new n t.counts) (sym as_many)
    (all_stand before after homes new t counts touched c.as_slice.ensures.value c.as_slice-2.ensures.value wrote.bits (wrote.stand tells) (λ i. named_kept homes touched i (wrote.changes tells)) kept)))

pub returns-clause-images : goal.returns-clause-images
returns-clause-images g c tells =
    adds_weaker (c.write_touched.ensures.during tells) (λ s changes. named_in_images c.args.homes.now.bytes _ (length c.args.self.now.touched) (g.D.Disk.state c.args.disk.now) s changes)

on_err : {T E P : Type 0} (r : Result T E) → P → OnErr r P
on_err (Ok x) p = tt
on_err (Err e) p = p

pub returns-in_err-new-clause-still_kept : goal.returns-in_err-new-clause-still_kept
returns-in_err-new-clause-still_kept g c = on_err c.from_residual.result
    (λ tells. still_kept (blocks_in (g.D.Disk.state c.args.disk.now).contents) (blocks_in (g.D.Disk.state c.write_touched.new.disk).contents) c.args.homes.now.bytes c.args.self.now
    (λ i. named_kept c.args.homes.now.bytes c.as_slice-2.result.now i (c.write_touched.ensures.changes tells)))
