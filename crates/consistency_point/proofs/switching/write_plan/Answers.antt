use Rattle.std.proofs.Common.{◌≤◌, ◌+◌, ◌*◌, ◌∙◌, length, ap, sym, subst, inl, arith}
use Rattle.std.specs.Prelude.{Result, Ok, Err, OnErr}
use Rattle.block_format.specs.Root.{root_of, HasGeometry}
use Rattle.block_format.specs.declared.homes.HomeBits.{HomeBits}
use Rattle.block_format.specs.declared.root.RootBody.{RootBody}
use Rattle.disk_model.specs.Media.{Fixed}
use Rattle.disk_model.proofs.Moments.{adds_then, adds_weaker}
use Rattle.consistency_point.proofs.PlanWrites.{both, either_stands, grammar_with, has_switched, is_current, kept_mid, still_stands}
use Rattle.consistency_point.proofs.StandLaws.{weaker}
use Rattle.consistency_point.proofs.switching.write_plan.Goals as goal

on_err : {T E P : Type 0} (r : Result T E) → P → OnErr r P
on_err (Ok x) p = tt
on_err (Err e) p = p

pub write_changed-requires : goal.write_changed-requires
write_changed-requires g c = record {
  room = subst (λ (f : Fixed). 3 + 2 * length c.args.state.now.counts.touched ≤ f.size) (sym c.write_blocks.ensures.fixed) (omega (arith, c.requires.many, c.requires.size, c.requires.grammar.valid.area_at_least));
}

pub commit-requires : goal.commit-requires
commit-requires g c = record {
  slot = c.requires.slot;
  size = ap (λ (b : RootBody). b.geometry.blocks) c.next_root-body.ensures ∙ c.requires.size ∙ ap (λ (f : Fixed). f.size) (sym (c.write_changed.ensures.fixed ∙ c.write_blocks.ensures.fixed));
  grammar = subst (λ (b : RootBody). HasGeometry (root_of b)) (sym c.next_root-body.ensures) (grammar_with c.args.plan.now.root c.in_ok-homes.homes c.args.state.now.current.body.homes.bytes (length c.args.state.now.counts.touched) c.requires.grammar (ap (λ (h : HomeBits). h.bytes) c.requires.homes) c.requires.many c.in_ok-homes.ensures.clear);
  current = λ tells.
      let held = c.requires.held tells in
      let r = held.0 in
      let m = held.1 in
      let w = held.2 in
      is_current r m (g.D.Disk.state c.args.disk.now) c.args.state.now c.args.plan.now w c.requires.slot (g.D.Disk.state c.write_changed.new.disk) (both r m (g.D.Disk.state c.args.disk.now) c.args.state.now c.args.plan.now w (g.D.Disk.state c.write_blocks.new.disk) (g.D.Disk.state c.write_changed.new.disk) (c.write_blocks.ensures.changes tells) (c.write_changed.ensures.changes tells));
}

pub returns-in_err-write_blocks-clause-during : goal.returns-in_err-write_blocks-clause-during
returns-in_err-write_blocks-clause-during g c tells r m w =
    adds_weaker (c.write_blocks.ensures.during tells) (λ u changes. still_stands r m (g.D.Disk.state c.args.disk.now) c.args.state.now c.args.plan.now w c.requires.slot u (weaker (λ b is. inl is) changes))

pub returns-in_err-write_blocks-clause-left : goal.returns-in_err-write_blocks-clause-left
returns-in_err-write_blocks-clause-left g c = on_err c.from_residual.result (λ tells r m w. still_stands r m (g.D.Disk.state c.args.disk.now) c.args.state.now c.args.plan.now w c.requires.slot (g.D.Disk.state c.write_blocks.new.disk) (weaker (λ b is. inl is) (c.write_blocks.ensures.changes tells)))

pub returns-in_err-homes-clause-during : goal.returns-in_err-homes-clause-during
returns-in_err-homes-clause-during g c tells r m w =
    adds_then (adds_weaker (c.write_blocks.ensures.during tells) (λ u changes. still_stands r m (g.D.Disk.state c.args.disk.now) c.args.state.now c.args.plan.now w c.requires.slot u (weaker (λ b is. inl is) changes))) (c.write_changed.ensures.during tells)
    (λ u changes. still_stands r m (g.D.Disk.state c.args.disk.now) c.args.state.now c.args.plan.now w c.requires.slot u (both r m (g.D.Disk.state c.args.disk.now) c.args.state.now c.args.plan.now w (g.D.Disk.state c.write_blocks.new.disk) u (c.write_blocks.ensures.changes tells) changes))

pub returns-in_err-homes-clause-left : goal.returns-in_err-homes-clause-left
returns-in_err-homes-clause-left g c = on_err c.from_residual-in_err-homes.result (λ tells r m w. still_stands r m (g.D.Disk.state c.args.disk.now) c.args.state.now c.args.plan.now w c.requires.slot (g.D.Disk.state c.write_changed.new.disk) (both r m (g.D.Disk.state c.args.disk.now) c.args.state.now c.args.plan.now w (g.D.Disk.state c.write_blocks.new.disk) (g.D.Disk.state c.write_changed.new.disk) (c.write_blocks.ensures.changes tells) (c.write_changed.ensures.changes tells)))

pub returns-in_err-slot-clause-during : goal.returns-in_err-slot-clause-during
returns-in_err-slot-clause-during g c tells r m w =
    adds_then (adds_then (adds_weaker (c.write_blocks.ensures.during tells) (λ u changes. still_stands r m (g.D.Disk.state c.args.disk.now) c.args.state.now c.args.plan.now w c.requires.slot u (weaker (λ b is. inl is) changes))) (c.write_changed.ensures.during tells)
    (λ u changes. still_stands r m (g.D.Disk.state c.args.disk.now) c.args.state.now c.args.plan.now w c.requires.slot u (both r m (g.D.Disk.state c.args.disk.now) c.args.state.now c.args.plan.now w (g.D.Disk.state c.write_blocks.new.disk) u (c.write_blocks.ensures.changes tells) changes)))
    (c.commit.ensures.during tells)
    (λ u each image is. either_stands r m (g.D.Disk.state c.args.disk.now) c.args.state.now c.args.plan.now w
    (g.D.Disk.state c.write_blocks.new.disk) (g.D.Disk.state c.write_changed.new.disk) (c.write_blocks.ensures.changes tells) (c.write_changed.ensures.changes tells) c.requires.within.fresh (c.in_ok-write_blocks.ensures.stand tells w.planned.once) c.in_ok-homes.homes c.next_root-body.result c.next_root-body.ensures c.write_changed.new.self c.in_ok-homes.ensures.untouched
    (c.in_ok-homes.ensures.kept tells (kept_mid r m (g.D.Disk.state c.args.disk.now) c.args.state.now c.args.plan.now w (g.D.Disk.state c.write_blocks.new.disk) (g.D.Disk.state c.write_changed.new.disk) (c.write_blocks.ensures.changes tells) (c.write_changed.ensures.changes tells)))
    (grammar_with c.args.plan.now.root c.in_ok-homes.homes c.args.state.now.current.body.homes.bytes (length c.args.state.now.counts.touched) c.requires.grammar (ap (λ (h : HomeBits). h.bytes) c.requires.homes) c.requires.many c.in_ok-homes.ensures.clear) c.commit.ensures.reads_back c.requires.slot image (each image is))

pub returns-in_err-slot-clause-left : goal.returns-in_err-slot-clause-left
returns-in_err-slot-clause-left g c = on_err c.from_residual-in_err-slot.result (λ tells r m w image is.
    either_stands r m (g.D.Disk.state c.args.disk.now) c.args.state.now c.args.plan.now w
    (g.D.Disk.state c.write_blocks.new.disk) (g.D.Disk.state c.write_changed.new.disk) (c.write_blocks.ensures.changes tells) (c.write_changed.ensures.changes tells) c.requires.within.fresh (c.in_ok-write_blocks.ensures.stand tells w.planned.once) c.in_ok-homes.homes c.next_root-body.result c.next_root-body.ensures c.write_changed.new.self c.in_ok-homes.ensures.untouched
    (c.in_ok-homes.ensures.kept tells (kept_mid r m (g.D.Disk.state c.args.disk.now) c.args.state.now c.args.plan.now w (g.D.Disk.state c.write_blocks.new.disk) (g.D.Disk.state c.write_changed.new.disk) (c.write_blocks.ensures.changes tells) (c.write_changed.ensures.changes tells)))
    (grammar_with c.args.plan.now.root c.in_ok-homes.homes c.args.state.now.current.body.homes.bytes (length c.args.state.now.counts.touched) c.requires.grammar (ap (λ (h : HomeBits). h.bytes) c.requires.homes) c.requires.many c.in_ok-homes.ensures.clear) c.commit.ensures.reads_back c.requires.slot image (c.in_err-slot.ensures.left tells image is))

pub returns-clause-during : goal.returns-clause-during
returns-clause-during g c tells r m w =
    adds_then (adds_then (adds_weaker (c.write_blocks.ensures.during tells) (λ u changes. still_stands r m (g.D.Disk.state c.args.disk.now) c.args.state.now c.args.plan.now w c.requires.slot u (weaker (λ b is. inl is) changes))) (c.write_changed.ensures.during tells)
    (λ u changes. still_stands r m (g.D.Disk.state c.args.disk.now) c.args.state.now c.args.plan.now w c.requires.slot u (both r m (g.D.Disk.state c.args.disk.now) c.args.state.now c.args.plan.now w (g.D.Disk.state c.write_blocks.new.disk) u (c.write_blocks.ensures.changes tells) changes)))
    (c.commit.ensures.during tells)
    (λ u each image is. either_stands r m (g.D.Disk.state c.args.disk.now) c.args.state.now c.args.plan.now w
    (g.D.Disk.state c.write_blocks.new.disk) (g.D.Disk.state c.write_changed.new.disk) (c.write_blocks.ensures.changes tells) (c.write_changed.ensures.changes tells) c.requires.within.fresh (c.in_ok-write_blocks.ensures.stand tells w.planned.once) c.in_ok-homes.homes c.next_root-body.result c.next_root-body.ensures c.write_changed.new.self c.in_ok-homes.ensures.untouched
    (c.in_ok-homes.ensures.kept tells (kept_mid r m (g.D.Disk.state c.args.disk.now) c.args.state.now c.args.plan.now w (g.D.Disk.state c.write_blocks.new.disk) (g.D.Disk.state c.write_changed.new.disk) (c.write_blocks.ensures.changes tells) (c.write_changed.ensures.changes tells)))
    (grammar_with c.args.plan.now.root c.in_ok-homes.homes c.args.state.now.current.body.homes.bytes (length c.args.state.now.counts.touched) c.requires.grammar (ap (λ (h : HomeBits). h.bytes) c.requires.homes) c.requires.many c.in_ok-homes.ensures.clear) c.commit.ensures.reads_back c.requires.slot image (each image is))

pub returns-clause-switched : goal.returns-clause-switched
returns-clause-switched g c tells r m w =
    has_switched r m (g.D.Disk.state c.args.disk.now) c.args.state.now c.args.plan.now w
    (g.D.Disk.state c.write_blocks.new.disk) (g.D.Disk.state c.write_changed.new.disk) (c.write_blocks.ensures.changes tells) (c.write_changed.ensures.changes tells) c.requires.within.fresh (c.in_ok-write_blocks.ensures.stand tells w.planned.once) c.in_ok-homes.homes c.next_root-body.result c.next_root-body.ensures c.write_changed.new.self c.in_ok-homes.ensures.untouched
    (c.in_ok-homes.ensures.kept tells (kept_mid r m (g.D.Disk.state c.args.disk.now) c.args.state.now c.args.plan.now w (g.D.Disk.state c.write_blocks.new.disk) (g.D.Disk.state c.write_changed.new.disk) (c.write_blocks.ensures.changes tells) (c.write_changed.ensures.changes tells)))
    (grammar_with c.args.plan.now.root c.in_ok-homes.homes c.args.state.now.current.body.homes.bytes (length c.args.state.now.counts.touched) c.requires.grammar (ap (λ (h : HomeBits). h.bytes) c.requires.homes) c.requires.many c.in_ok-homes.ensures.clear) c.commit.ensures.reads_back c.requires.slot (g.D.Disk.state c.commit.new.disk) c.in_ok-slot.slot (c.in_ok-slot.ensures.switched tells) c.in_ok-slot.ensures.slot
