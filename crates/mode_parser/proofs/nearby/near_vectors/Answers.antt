use Rattle.std.proofs.Common.{◌∙◌}
use Rattle.mode_parser.proofs.NearLemmas.{near-as_moved}
use Rattle.mode_parser.proofs.nearby.near_vectors.Goals as goal

pub returns-clause-value : goal.returns-clause-value
returns-clause-value c =
    let told = c.candidates_of-found.ensures.value c.args.place in
    rw (c.best.ensures.value, c.nearest.ensures, c.near.ensures) (told ∙ rw (c.moved_of-above.ensures, c.moved_of-left.ensures, c.moved_of-above_left.ensures) (near-as_moved _ _ _ _ _ _))
