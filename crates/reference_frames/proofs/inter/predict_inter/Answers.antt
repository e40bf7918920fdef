use Rattle.std.proofs.Common.{refl}
use Rattle.reference_frames.specs.Unfiltered.{inter_macroblock}
use Rattle.reference_frames.proofs.inter.predict_inter.Goals as goal

pub returns-clause-value : goal.returns-clause-value
unfolding inter_macroblock
returns-clause-value c = rw (c.predict_luma.ensures.value, c.predict_chroma.ensures.value, c.predict_chroma-2.ensures.value, c.luma-luma.ensures.shown, c.cb-cb.ensures.shown, c.cr-cr.ensures.shown) refl

pub returns-then-stride-clause-value : goal.returns-then-stride-clause-value
unfolding inter_macroblock
returns-then-stride-clause-value c =
    rw (c.predict_luma.ensures.value, c.predict_whole_chroma.ensures.cb, c.predict_whole_chroma.ensures.cr, c.luma-luma.ensures.shown, c.cb-cb.ensures.shown, c.cr-cr.ensures.shown) refl
