use Rattle.number_set.proofs.MemberLaws.{contains_members}
use Rattle.number_set.proofs.set.NumberSet.has.Goals as goal

pub returns : goal.returns
returns c = cc (contains_members c.self.inside.words.items c.args.number)
