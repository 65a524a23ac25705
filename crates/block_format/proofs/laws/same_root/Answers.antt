use Rattle.std.proofs.Common.{rules, sym, ◌∙◌}
use Rattle.block_format.specs.Root.{root_of}
use Rattle.block_format.proofs.RootLaws.{HasRoom, root_in-spelled, root_of-same}
use Rattle.block_format.proofs.laws.same_root.Goals as goal

pub returns : goal.returns
returns c =
    let fits = c.well_formed in
    let room : HasRoom (root_of c.args.body) = search rules in
    let other_room : HasRoom (root_of c.args.other) = search rules in
    root_of-same _ _ (sym (root_in-spelled _ _ room c.requires.body) ∙ root_in-spelled _ _ other_room c.requires.other)
