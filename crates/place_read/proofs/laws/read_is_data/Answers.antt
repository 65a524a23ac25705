use Rattle.place_read.proofs.ReadData.{read_is_data}
use Rattle.place_read.proofs.laws.read_is_data.Goals as goal

pub returns : goal.returns
returns c = read_is_data
