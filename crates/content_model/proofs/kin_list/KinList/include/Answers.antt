use Rattle.std.proofs.Common.{◌≡◌, true, false}
use Rattle.std.specs.Prelude.{nat_eq}
use Rattle.std.specs.List.{list_any}
use Rattle.content_model.proofs.Kin.{included_new, included_there}
use Rattle.content_model.proofs.kin_list.KinList.include.Goals as goal

pub returns-then-not-contains : goal.returns-then-not-contains
returns-then-not-contains c =
    let apart : list_any (λ m. nat_eq m c.args.block) c.self.inside.blocks.items ≡ false = cc in
    let put = included_new c.args.block c.self.inside.blocks.items apart in
    cc

pub returns-else-not-contains : goal.returns-else-not-contains
returns-else-not-contains c =
    let there : list_any (λ m. nat_eq m c.args.block) c.args.self.now ≡ true = cc in
    included_there c.args.block c.args.self.now there
