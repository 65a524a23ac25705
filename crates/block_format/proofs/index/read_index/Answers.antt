use Rattle.std.proofs.lemmas.Bool.{false≢true}
use Rattle.std.proofs.Common.{◌≡◌, ◌∙◌}
use Rattle.std.specs.Prelude.{All}
use Rattle.block_format.specs.Index.{IsPointer}
use Rattle.vol_numbers.specs.Geometry.{layout_of}
use Rattle.block_format.proofs.WordLaws.{words-spelled}
use Rattle.block_format.proofs.index.read_index.Goals as goal

pub returns-else-are_pointers-clause-none : goal.returns-else-are_pointers-clause-none
returns-else-are_pointers-clause-none c = λ ptrs is.
    let e : c.numbers_in-ptrs.result ≡ ptrs = c.numbers_in-ptrs.ensures.words ∙ words-spelled (layout_of c.args.g.now) c.are_pointers.ensures.valid ptrs c.args.from.now.bytes is in
    let all : All (IsPointer (layout_of c.args.g.now)) c.numbers_in-ptrs.result = rw e is.each in
    false≢true (c.if-are_pointers.ensures.each.1 all)
