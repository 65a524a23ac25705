use Rattle.std.proofs.Common.{◌∙◌, ◌++◌, List, ℕ, ap}
use Rattle.block_tree.specs.Tree.{blocks_in, nonzero}
use Rattle.block_tree.specs.Parts.{all_pointers}
use Rattle.block_tree.proofs.PartLaws.{pointers_listed}
use Rattle.block_tree.proofs.listing.pointers.Goals as goal

pub returns-clause-pointers : goal.returns-clause-pointers
returns-clause-pointers g c tells =
    let read = blocks_in (g.D.Disk.state c.args.disk.now).contents in
    c.from_vec.ensures
    ∙ (c.in_ok-push_tree.ensures.pushed tells
    ∙ (ap (λ (xs : List ℕ). xs ++ nonzero (all_pointers read c.args.root.now)) c.new-out.ensures.items ∙ pointers_listed read c.args.root.now.height c.args.root.now.ptr))
