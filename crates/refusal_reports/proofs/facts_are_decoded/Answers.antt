use Rattle.refusal_reports.proofs.ReportedRefusals.{facts_decoded}
use Rattle.refusal_reports.proofs.facts_are_decoded.Goals as goal

pub returns : goal.returns
returns c = facts_decoded c.outlines_are_headers.ensures
