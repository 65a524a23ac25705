use Rattle.name_check.proofs.ReachLaws.{search_none, nothing_reached}
use Rattle.name_check.proofs.reaching.Search.new.Goals as goal

pub returns-clause-search : goal.returns-clause-search
returns-clause-search c held = search_none held _ c.in_ok-reached.ensures c.new-queue.ensures.items

pub returns-clause-none : goal.returns-clause-none
returns-clause-none c = nothing_reached _ c.in_ok-reached.ensures
