use Rattle.stream_refusals.proofs.Refused.{accepts_by_bytes, refusals_by_bytes}
use Rattle.stream_refusals.proofs.laws.refusals_are_by_bytes.Goals as goal

pub returns-clause-refused : goal.returns-clause-refused
returns-clause-refused c = refusals_by_bytes c.outlines_are_headers.ensures

pub returns-clause-accepted : goal.returns-clause-accepted
returns-clause-accepted c = accepts_by_bytes c.outlines_are_headers.ensures
