use Rattle.token_parser.proofs.Ends.{ends_hold}
use Rattle.token_parser.proofs.laws.ends_hold.Goals as goal

pub returns : goal.returns
returns c = ends_hold
