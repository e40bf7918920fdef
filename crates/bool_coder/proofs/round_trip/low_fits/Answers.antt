use Rattle.bool_coder.proofs.CodeFits.{all_written-fits}
use Rattle.bool_coder.proofs.round_trip.low_fits.Goals as goal

pub returns : goal.returns
returns c = all_written-fits
