use Rattle.std.proofs.Common.{◌≡◌, true, false, refl}
use Rattle.std.specs.FinSet as set
use Rattle.name_check.proofs.NamingLaws.{named_again, named_first}
use Rattle.name_check.proofs.naming.Naming.put.Goals as goal

pub returns-then-has : goal.returns-then-has
returns-then-has c named before =
    let has : set.contains c.args.self.now.once c.args.number ≡ true = cc in
    named_again c.args.self.now c.args.number named before _ has refl c.put.ensures

pub returns-else-has : goal.returns-else-has
returns-else-has c named before =
    let has : set.contains c.args.self.now.once c.args.number ≡ false = cc in
    named_first c.args.self.now c.args.number named before _ has c.put-else-has.ensures refl
