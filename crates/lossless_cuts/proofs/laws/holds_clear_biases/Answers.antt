use Rattle.lossless_cuts.proofs.HeldHeaders.{holds_clear_biases}
use Rattle.lossless_cuts.proofs.laws.holds_clear_biases.Goals as goal

pub returns : goal.returns
returns c = holds_clear_biases c.hold_shows_last.ensures
