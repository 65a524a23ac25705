use Rattle.std.proofs.Common.{◌∙◌, refl, subst, sym, arith, ℕ, ◌≡◌, ⊎_elim}
use Rattle.std.specs.Prelude.{slice_index, nat_lt}
use Rattle.std.proofs.lemmas.Bool.{cases_eq, cases_lt}
use Rattle.std.proofs.lemmas.List.{length-set, get_or-set_same, get_or-set_other}
use Rattle.disk_model.specs.Disk.{State}
use Rattle.disk_model.proofs.Moments.{adds_read}
use Rattle.block_format.specs.Index.{IsPointer}
use Rattle.vol_numbers.specs.Geometry.{layout_of}
use Rattle.block_tree.specs.Tree.{blocks_in}
use Rattle.block_tree.specs.Notes.{LeavesUse}
use Rattle.block_tree.specs.Leaf.{IsLeafRewritten, AreLeavesRewritten}
use Rattle.block_tree.proofs.LeafLaws.{leaves_more, takes_then}
use Rattle.block_tree.proofs.UseLaws.{leaves_use_more}
use Rattle.block_tree.proofs.RoomLaws.{room_step}
use Rattle.block_tree.proofs.leaves.rewrite_rest.Goals as goal

pub loop-k-preserved : goal.loop-k-preserved
loop-k-preserved g c =
    let inv = c.loop-k.invariant in
    let k = c.loop-k.k in
    let edit = c.args.edit.now in
    let layout = layout_of c.args.g.now in
    let leaves = c.loop-k.leaves.ptrs in
    let new = c.in_ok-new.new in
    record {
      rewritten = λ tells.
          leaves_more (blocks_in (g.D.Disk.state c.args.disk.now).contents) edit.changes.now edit.cut_to (nat_lt edit.height 2) c.args.leaves.now.ptrs k leaves new
          (omega arith) (omega arith) (inv.rewritten tells)
          (subst (λ (s : State). IsLeafRewritten (blocks_in s.contents) edit.changes.now edit.cut_to (nat_lt edit.height 2) k (slice_index leaves k) new c.loop-k.notes c.rewrite_one.new.notes)
          (inv.same tells) (c.in_ok-new.ensures.rewritten tells))
          c.in_ok-new.ensures.takes;
      takes = takes_then inv.takes c.in_ok-new.ensures.takes;
      free = omega (arith, inv.free, c.in_ok-new.ensures.room, room_step edit.changes.now edit.cut_to k c.args.end (omega arith));
      uses = leaves_use_more k (omega arith) inv.uses c.in_ok-new.ensures.uses;
      sound = λ lead sound.
          let before = inv.sound lead sound in
          let made = c.in_ok-new.ensures.sound lead before.0 in (
            made.0,
            λ j some lt. ⊎_elim
                (λ here. subst (λ (i : ℕ). IsPointer layout (slice_index (Rattle.std.proofs.Common.set leaves k new) i)) (sym here) (subst (λ (x : ℕ). IsPointer layout x) (sym (get_or-set_same leaves k new 0 (omega arith))) made.1))
                (λ other. subst (λ (x : ℕ). IsPointer layout x) (sym (get_or-set_other leaves k j new 0 other)) (before.1 j some (omega (arith, other, lt))))
                (cases_eq j k),
          );
      long = length-set leaves k new ∙ inv.long;
      first = get_or-set_other leaves k 0 new 0 (λ e. omega (arith, e)) ∙ inv.first;
      rest = λ j le. get_or-set_other leaves k j new 0 (λ e. omega (arith, e, le)) ∙ inv.rest j (omega (arith, le));
      same = λ tells. c.in_ok-new.ensures.same tells ∙ inv.same tells;
      moments = λ tells. adds_read (inv.moments tells) (inv.same tells) (c.in_ok-new.ensures.moments tells);
      fixed = c.in_ok-new.ensures.fixed ∙ inv.fixed;
      given = omega (arith, c.in_ok-new.ensures.damaged, inv.given);
      faults = c.in_ok-new.ensures.cause ∙ inv.faults;
    }

pub returns-clause-rewritten : goal.returns-clause-rewritten
returns-clause-rewritten g c tells =
    let edit = c.args.edit.now in
    let done : c.loop-k.k ≡ c.args.end = omega arith in
    subst (λ (e : ℕ). AreLeavesRewritten (blocks_in (g.D.Disk.state c.args.disk.now).contents) edit.changes.now edit.cut_to (nat_lt edit.height 2) e c.args.leaves.now.ptrs c.loop-k.leaves.ptrs c.args.notes.now c.loop-k.notes)
    done (c.loop-k.invariant.rewritten tells)

pub returns-clause-uses : goal.returns-clause-uses
returns-clause-uses g c =
    let done : c.loop-k.k ≡ c.args.end = omega arith in
    subst (λ (e : ℕ). LeavesUse c.args.edit.now.changes.now e c.args.notes.now c.loop-k.notes) done c.loop-k.invariant.uses

pub returns-clause-sound : goal.returns-clause-sound
returns-clause-sound g c lead sound =
    let inv = c.loop-k.invariant in
    let made = inv.sound lead sound in
    let layout = layout_of c.args.g.now in (
      made.0,
      λ j some lt. ⊎_elim
          (λ below. made.1 j some below)
          (λ past. subst (λ (x : ℕ). IsPointer layout x) (sym (inv.rest j past)) (c.requires.leaves j some lt))
          (cases_lt j c.loop-k.k),
    )

pub rewrite_one-requires-clause-free : goal.rewrite_one-requires-clause-free
rewrite_one-requires-clause-free g c = omega (arith, c.loop-k.invariant.free, room_step c.args.edit.now.changes.now c.args.edit.now.cut_to c.loop-k.k c.args.end (omega arith))
