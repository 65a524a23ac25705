use Rattle.volume_model.proofs.WholeLaws.{mounted_stores}
use Rattle.volume_model.proofs.laws.mounted_stores.Goals as goal

pub returns : goal.returns
returns c = mounted_stores
