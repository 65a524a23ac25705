use Rattle.volume_model.proofs.CacheLists.{stays_a_cache_list}
use Rattle.volume_model.proofs.report_laws.stays_a_cache_list.Goals as goal

pub returns : goal.returns
returns c = stays_a_cache_list
