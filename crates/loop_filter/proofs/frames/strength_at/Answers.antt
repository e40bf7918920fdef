use Rattle.std.proofs.Common.{◌∙◌}
use Rattle.loop_filter.proofs.LevelLemmas.{strength_at-is}
use Rattle.loop_filter.proofs.frames.strength_at.Goals as goal

pub returns-clause-value : goal.returns-clause-value
returns-clause-value c = (rw (c.segment-segment.ensures, c.y_mode-y_mode.ensures) at c.strength_for.ensures.value) ∙ strength_at-is _ _ _ _ _ c.at-mode.ensures
