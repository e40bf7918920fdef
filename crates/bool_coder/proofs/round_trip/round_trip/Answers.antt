use Rattle.bool_coder.proofs.RoundTrip.{code_text-read}
use Rattle.bool_coder.proofs.round_trip.round_trip.Goals as goal

pub returns : goal.returns
returns c = code_text-read
