use Rattle.std.proofs.Common.{refl}
use Rattle.reference_frames.specs.Unfiltered.{intra_macroblock}
use Rattle.reference_frames.proofs.prediction.predict_intra.Goals as goal

pub returns-clause-value : goal.returns-clause-value
unfolding intra_macroblock
returns-clause-value c = rw (c.predict_luma.ensures.value, c.predict_whole.ensures.value, c.predict_whole-2.ensures.value, c.uv_mode-uv_mode.ensures) refl
