use Rattle.std.proofs.Common.{◌≡◌, ◌∙◌, sym, rules}
use Rattle.vol_numbers.specs.Geometry.{layout_of}
use Rattle.vol_numbers.specs.Layout.{IsValid}
use Rattle.block_format.proofs.WordLaws.{words-spelled}
use Rattle.block_format.proofs.laws.same_index.Goals as goal

pub returns : goal.returns
returns c =
    let g = layout_of c.args.g.now in
    let valid : IsValid g = search rules in
    let ptrs = c.args.index.now.ptrs in
    let others = c.args.other.now.ptrs in
    let bytes = c.args.block.now.bytes in
    let same : ptrs ≡ others = sym (words-spelled g valid ptrs bytes c.requires.index) ∙ words-spelled g valid others bytes c.requires.other in
    λ i. record { ptrs = same i }
