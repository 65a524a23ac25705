use Rattle.std.proofs.Common.{◌≡◌, ◌≤◌, ◌+◌, ◌<◌, ◌∷◌, ◌∙◌, ℕ, List, IsTrue, true, sym, subst, arith, drop, length, slice_index_or}
use Rattle.std.specs.Prelude.{◌&&◌, ◌||◌}
use Rattle.disk_model.specs.Disk.{State}
use Rattle.disk_model.specs.Media.{Fixed}
use Rattle.disk_model.proofs.Moments.{adds_read}
use Rattle.place_words.specs.Different.{is_among}
use Rattle.content_model.specs.Kin.{included}
use Rattle.content_model.proofs.Collecting.{included_longer}
use Rattle.sequence_rule.specs.Matches.{holds}
use Rattle.sequence_rule.proofs.Holding.{among_at, next_first, one_more, not_one, included_in}
use Rattle.sequence_rule.proofs.matching.holding.Goals as goal
use Rattle.sequence_rule.proofs.matching.holding.Goals.{then-branch, else-branch}

pub holds-requires : goal.holds-requires
holds-requires g c =
    let x = slice_index_or c.args.kin.now c.loop-at.at-index 0 in
    let own = among_at c.args.kin.now c.loop-at.at-index 0 c.loop-at-test.true in
    subst (λ (f : Fixed). x < f.size) (sym c.loop-at.invariant.fixed) (c.requires.within x own)

pub loop-at-preserved : goal.loop-at-preserved
loop-at-preserved g c =
    let inv = c.loop-at.invariant in
    let kin = c.args.kin.now in
    let i = c.loop-at.at-index in
    let x = slice_index_or kin i 0 in
    let own : is_among kin x ≡ true = among_at kin i 0 c.loop-at-test.true in
    let block = c.args.block.now in
    let contents = (g.D.Disk.state c.args.disk.now).contents in
    let told = λ (tells : IsTrue g.D.Disk.tells). subst (λ (s : State). c.in_ok-holds.field-0 ≡ holds s.contents x block) (inv.same tells) (c.in_ok-holds.ensures.holds tells) in
    let first : drop i kin ≡ (x ∷ drop (i + 1) kin) = next_first kin i 0 c.loop-at-test.true in
    let test = λ (at : ℕ). holds contents at block in
    let before = λ (tells : IsTrue g.D.Disk.tells) (at : ℕ).
    subst (λ (rest : List ℕ). (is_among c.loop-at.blocks at || (is_among rest at && test at)) ≡ (is_among kin at && test at)) first (inv.holding tells at) in
    record {
      kin = elim c.if-branch.branch [
        | then-branch w ↦
            (let out : included x c.loop-at.blocks ≡ c.if-branch.blocks = sym w.include.ensures ∙ sym w.blocks-is in
            subst (λ (blocks : List ℕ). (at : ℕ) → is_among blocks at ≡ true → is_among kin at ≡ true) out (λ at. included_in c.loop-at.blocks kin x at own (inv.kin at)))
        | else-branch w ↦ subst (λ (blocks : List ℕ). (at : ℕ) → is_among blocks at ≡ true → is_among kin at ≡ true) (sym w.blocks-is) inv.kin
      ];
      holding = elim c.if-branch.branch [
        | then-branch w ↦
            (let out : included x c.loop-at.blocks ≡ c.if-branch.blocks = sym w.include.ensures ∙ sym w.blocks-is in
            subst (λ (blocks : List ℕ). IsTrue g.D.Disk.tells → (at : ℕ) → (is_among blocks at || (is_among (drop (i + 1) kin) at && test at)) ≡ (is_among kin at && test at)) out
            (λ tells at. one_more test c.loop-at.blocks (drop (i + 1) kin) x at (is_among kin at && test at) (before tells at) (sym (told tells) ∙ w.if-branch.true)))
        | else-branch w ↦
            subst (λ (blocks : List ℕ). IsTrue g.D.Disk.tells → (at : ℕ) → (is_among blocks at || (is_among (drop (i + 1) kin) at && test at)) ≡ (is_among kin at && test at)) (sym w.blocks-is)
            (λ tells at. not_one test c.loop-at.blocks (drop (i + 1) kin) x at (is_among kin at && test at) (before tells at) (sym (told tells) ∙ w.if-branch.false))
      ];
      few = elim c.if-branch.branch [
        | then-branch w ↦
            (let out : included x c.loop-at.blocks ≡ c.if-branch.blocks = sym w.include.ensures ∙ sym w.blocks-is in
            subst (λ (blocks : List ℕ). length blocks ≤ i + 1) out (omega (arith, included_longer x c.loop-at.blocks, inv.few)))
        | else-branch w ↦ subst (λ (blocks : List ℕ). length blocks ≤ i + 1) (sym w.blocks-is) (omega (arith, inv.few))
      ];
      same = λ tells. c.in_ok-holds.ensures.same tells ∙ inv.same tells;
      moments = λ tells. adds_read (inv.moments tells) (inv.same tells) (c.in_ok-holds.ensures.moments tells);
      fixed = c.in_ok-holds.ensures.fixed ∙ inv.fixed;
      given = omega (arith, c.in_ok-holds.ensures.given, inv.given);
      faults = c.in_ok-holds.ensures.cause ∙ inv.faults;
    }
