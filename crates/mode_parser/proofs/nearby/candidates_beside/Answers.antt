use Rattle.std.proofs.Common.{◌∙◌}
use Rattle.mode_parser.proofs.NearLemmas.{near-as_moved}
use Rattle.mode_parser.proofs.nearby.candidates_beside.Goals as goal

pub returns-clause-value : goal.returns-clause-value
returns-clause-value c = λ place. c.candidates_of.ensures.value place ∙ rw (c.moved.ensures, c.moved-2.ensures, c.moved-3.ensures) (near-as_moved _ _ _ _ _ _)
