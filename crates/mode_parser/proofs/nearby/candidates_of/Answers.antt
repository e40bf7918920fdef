use Rattle.mode_parser.specs.RecordList.{moved_mode}
use Rattle.mode_parser.specs.Neighbours.{listing_in}
use Rattle.mode_parser.proofs.NearLemmas.{near-less, near-more}
use Rattle.mode_parser.proofs.nearby.candidates_of.Goals as goal

pub returns-then-first-second-clause-value : goal.returns-then-first-second-clause-value
returns-then-first-second-clause-value c =
    λ place. near-less (moved_mode c.args.above) (moved_mode c.args.left) (moved_mode c.args.above_left) c.args.reference c.args.biases place (listing_in c.neighbours_of-neighbours.result) _ _ _ c.if-first-second.true c.neighbours_of-neighbours.ensures.value c.first-first.ensures.value c.second-second.ensures.value c.neighbours_of-neighbours.ensures.split

pub returns-else-first-second-clause-value : goal.returns-else-first-second-clause-value
returns-else-first-second-clause-value c =
    λ place. near-more (moved_mode c.args.above) (moved_mode c.args.left) (moved_mode c.args.above_left) c.args.reference c.args.biases place (listing_in c.neighbours_of-neighbours.result) _ _ _ c.if-first-second.false c.neighbours_of-neighbours.ensures.value c.first-first.ensures.value c.second-second.ensures.value c.neighbours_of-neighbours.ensures.split
