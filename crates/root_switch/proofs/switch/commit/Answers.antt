use Rattle.std.proofs.Common.{◌≤◌, length, sym, ◌∙◌, ap, subst, arith}
use Rattle.std.specs.Prelude.{Result, Ok, Err, OnErr}
use Rattle.disk_model.specs.Disk.{State, written, synced}
use Rattle.root_switch.specs.Switch.{IsSwitched}
use Rattle.root_switch.proofs.SwitchLemmas.{selector, during_first, during_both, is_staged, switched, left_other, left_selector}
use Rattle.root_switch.proofs.switch.commit.Goals as goal

on_err : {T E P : Type 0} (r : Result T E) → P → OnErr r P
on_err (Ok x) p = tt
on_err (Err e) p = p

pub returns-in_err-write_other_slot-clause-during : goal.returns-in_err-write_other_slot-clause-during
returns-in_err-write_other_slot-clause-during g c tells =
    let s = g.D.Disk.state c.args.disk.now in
    let body = c.args.body.now in
    let room : 3 ≤ length s.contents = omega (arith, c.requires.size, c.requires.grammar.valid.area_at_least, g.met.D.Disk.has_size c.args.disk.now tells) in
    during_first s c.args.slot body c.requires.slot room (c.requires.current tells) c.root_block.result c.root_block.ensures.spelled (c.write_other_slot.ensures.moments tells)

pub returns-in_err-write_selector-clause-during : goal.returns-in_err-write_selector-clause-during
returns-in_err-write_selector-clause-during g c tells =
    let s = g.D.Disk.state c.args.disk.now in
    let body = c.args.body.now in
    let room : 3 ≤ length s.contents = omega (arith, c.requires.size, c.requires.grammar.valid.area_at_least, g.met.D.Disk.has_size c.args.disk.now tells) in
    let staged = is_staged s c.args.slot body c.requires.slot room (c.requires.current tells) c.root_block.result c.root_block.ensures.spelled (c.in_ok-write_other_slot.ensures.done tells) in
    during_both s c.args.slot body c.requires.slot room (c.requires.current tells) (during_first s c.args.slot body c.requires.slot room (c.requires.current tells) c.root_block.result c.root_block.ensures.spelled (c.write_other_slot.ensures.moments tells)) staged (c.write_selector.ensures.moments tells)

pub returns-clause-during : goal.returns-clause-during
returns-clause-during g c tells =
    let s = g.D.Disk.state c.args.disk.now in
    let body = c.args.body.now in
    let room : 3 ≤ length s.contents = omega (arith, c.requires.size, c.requires.grammar.valid.area_at_least, g.met.D.Disk.has_size c.args.disk.now tells) in
    let staged = is_staged s c.args.slot body c.requires.slot room (c.requires.current tells) c.root_block.result c.root_block.ensures.spelled (c.in_ok-write_other_slot.ensures.done tells) in
    during_both s c.args.slot body c.requires.slot room (c.requires.current tells) (during_first s c.args.slot body c.requires.slot room (c.requires.current tells) c.root_block.result c.root_block.ensures.spelled (c.write_other_slot.ensures.moments tells)) staged (c.write_selector.ensures.moments tells)

pub returns-in_err-write_other_slot-clause-left : goal.returns-in_err-write_other_slot-clause-left
returns-in_err-write_other_slot-clause-left g c = on_err c.from_residual.result (λ tells.
    let s = g.D.Disk.state c.args.disk.now in
    let body = c.args.body.now in
    let room : 3 ≤ length s.contents = omega (arith, c.requires.size, c.requires.grammar.valid.area_at_least, g.met.D.Disk.has_size c.args.disk.now tells) in
    left_other s c.args.slot body c.requires.slot room (c.requires.current tells) (c.in_err-write_other_slot.ensures.left tells))

pub returns-in_err-write_selector-clause-left : goal.returns-in_err-write_selector-clause-left
returns-in_err-write_selector-clause-left g c = on_err c.from_residual-in_err-write_selector.result (λ tells.
    let s = g.D.Disk.state c.args.disk.now in
    let body = c.args.body.now in
    let room : 3 ≤ length s.contents = omega (arith, c.requires.size, c.requires.grammar.valid.area_at_least, g.met.D.Disk.has_size c.args.disk.now tells) in
    let staged = is_staged s c.args.slot body c.requires.slot room (c.requires.current tells) c.root_block.result c.root_block.ensures.spelled (c.in_ok-write_other_slot.ensures.done tells) in
    left_selector s c.args.slot body c.requires.slot room (c.requires.current tells) staged (c.in_err-write_selector.ensures.left tells))

pub returns-clause-switched : goal.returns-clause-switched
returns-clause-switched g c tells =
    let s = g.D.Disk.state c.args.disk.now in
    let body = c.args.body.now in
    let room : 3 ≤ length s.contents = omega (arith, c.requires.size, c.requires.grammar.valid.area_at_least, g.met.D.Disk.has_size c.args.disk.now tells) in
    let staged = is_staged s c.args.slot body c.requires.slot room (c.requires.current tells) c.root_block.result c.root_block.ensures.spelled (c.in_ok-write_other_slot.ensures.done tells) in
    let both = c.in_ok-write_selector.ensures.done tells ∙ ap (λ (m : State). synced (written 0 (selector s c.args.slot body c.requires.slot room (c.requires.current tells)) m)) staged in
    subst (IsSwitched s c.args.slot body) (sym both) (switched s c.args.slot body c.requires.slot room (c.requires.current tells))

pub returns-in_err-write_other_slot-clause-reads_back : goal.returns-in_err-write_other_slot-clause-reads_back
returns-in_err-write_other_slot-clause-reads_back g c = c.root_block.ensures.reads_back

pub returns-in_err-write_selector-clause-reads_back : goal.returns-in_err-write_selector-clause-reads_back
returns-in_err-write_selector-clause-reads_back g c = c.root_block.ensures.reads_back

pub returns-clause-reads_back : goal.returns-clause-reads_back
returns-clause-reads_back g c = c.root_block.ensures.reads_back
