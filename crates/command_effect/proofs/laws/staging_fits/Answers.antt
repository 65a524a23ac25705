use Rattle.command_effect.proofs.FitsLaws.{staging_fits}
use Rattle.command_effect.proofs.laws.staging_fits.Goals as goal

pub returns : goal.returns
returns c = staging_fits
