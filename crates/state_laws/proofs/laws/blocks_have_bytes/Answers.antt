use Rattle.state_laws.proofs.ReachedStates.{blocks_have_bytes}
use Rattle.state_laws.proofs.laws.blocks_have_bytes.Goals as goal

pub returns : goal.returns
returns c = blocks_have_bytes
