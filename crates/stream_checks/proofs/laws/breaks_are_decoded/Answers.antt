use Rattle.stream_checks.proofs.DecodedBreaks.{breaks_decoded}
use Rattle.stream_checks.proofs.laws.breaks_are_decoded.Goals as goal

pub returns : goal.returns
returns c = breaks_decoded
