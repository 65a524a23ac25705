-- Blocks that are metadata and a file's, one after the other.
use Rattle.std.proofs.Common.{◌≡◌, ◌<◌, ◌≤◌, ℕ, suc, ◌+◌, ◌-◌, Bool, true, false, List, sym, ap, ◌∙◌, arith}
use Rattle.std.specs.Prelude.{◌&&◌, Some, None}
use Rattle.image_model.specs.Met.{Met}
use Rattle.image_model.specs.Findings.{◌then◌, bad_if, mixed_finding}
use Rattle.image_model.specs.declared.finding.Finding.TheVariants.{MixedBlock}
use Rattle.image_walk.specs.declared.marks.Mark.{Mark}
use Rattle.image_walk.specs.Marks.{Says, mark_of}

module _ (marks : List Mark) (ms : List Met) (says : Says marks ms) (b n : ℕ) (lt : b < n) where
  mixed_next : (t : Bool) → ((mark_of marks b).is_metadata && (mark_of marks b).is_content) ≡ t
      → mixed_finding ms b (n - b) ≡ (bad_if t (MixedBlock b) then mixed_finding ms (b + 1) (n - (b + 1)))
  mixed_next t e =
      let one : n - b ≡ suc (n - (b + 1)) = omega arith in
      ap (mixed_finding ms b) one
      ∙ ap (λ (u : Bool). bad_if u (MixedBlock b) then mixed_finding ms (b + 1) (n - (b + 1))) ((λ i. sym (says.metadata b) i && sym (says.content b) i) ∙ e)

  pub mixed_fine : ((mark_of marks b).is_metadata && (mark_of marks b).is_content) ≡ false → mixed_finding ms b (n - b) ≡ mixed_finding ms (b + 1) (n - (b + 1))
  mixed_fine e = mixed_next false e

  pub mixed_here : ((mark_of marks b).is_metadata && (mark_of marks b).is_content) ≡ true → mixed_finding ms b (n - b) ≡ Some (MixedBlock b)
  mixed_here e = mixed_next true e

pub mixed_end : (ms : List Met) (b n : ℕ) → n ≤ b → mixed_finding ms b (n - b) ≡ None
mixed_end ms b n le = let none : n - b ≡ 0 = omega (arith, le) in ap (mixed_finding ms b) none
