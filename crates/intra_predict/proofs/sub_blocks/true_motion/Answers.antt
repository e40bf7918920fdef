use Rattle.std.proofs.Common.{ap, ◌∙◌, zero-add}
use Rattle.std.specs.Prelude.{slice_index}
use Rattle.std.proofs.lemmas.Simd.{get_or-chunk}
use Rattle.intra_predict.specs.Means.{gradient}
use Rattle.intra_predict.specs.SubSample.{sub_sample}
use Rattle.intra_predict.proofs.sub_blocks.true_motion.Goals as goal

pub returns : goal.returns
unfolding sub_sample
returns c = record {
  whole = c.fill_gradients.ensures.whole;
  each = λ column row inside below. c.fill_gradients.ensures.each column row inside below ∙ ap (λ a. gradient (slice_index c.args.left row) a c.args.corner) (get_or-chunk 0 4 c.args.above column 0 inside ∙ ap (λ k. slice_index c.args.above k) (zero-add column));
}
