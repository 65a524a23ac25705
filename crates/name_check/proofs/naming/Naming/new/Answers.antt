use Rattle.name_check.proofs.NamingLaws.{none_named}
use Rattle.name_check.proofs.naming.Naming.new.Goals as goal

pub returns : goal.returns
returns c = none_named _ c.in_ok-once.ensures c.in_ok-again.ensures
