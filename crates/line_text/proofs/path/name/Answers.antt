use Rattle.std.proofs.Common.{◌≡◌, ◌∙◌, ℕ, List, subst}
use Rattle.std.specs.Prelude.{if◌then◌else◌, Some, None, Option}
use Rattle.percent_encoding.specs.Percent.{percent_decode}
use Rattle.line_text.specs.Paths.{is_name}
use Rattle.line_text.proofs.NameLemmas.{made_name}
use Rattle.line_text.proofs.path.name.Goals as goal

pub returns : goal.returns
returns c =
    let decoded : c.deref.result.now ≡ percent_decode c.args.part.now = c.deref.ensures.value ∙ c.in_ok-bytes.ensures in
    let made = made_name c.deref.result.now c.new.result c.new.ensures.valid c.new.ensures.value in
    subst (λ (b : List ℕ). ◌≡◌ {A = Option (List ℕ)} c.ok.result (if is_name b then Some b else None)) decoded (c.ok.ensures.value ∙ made)
