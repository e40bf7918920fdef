use Rattle.std.specs.Prelude.{min, slice_index}
use Rattle.std.proofs.Common.{ℕ, ◌/◌, ap, ◌∙◌}
use Rattle.inter_predict.proofs.SummedLanes.{raised_lanes}
use Rattle.inter_predict.proofs.weights.rounded.Goals as goal

pub returns : goal.returns
returns g c = λ lane less.
    c.clamped_samples.ensures lane less
    ∙ ap (λ (value : ℕ). min (value / 128) 255) (ap (λ l. slice_index l lane) c.clamped_rests.ensures ∙ raised_lanes g.row.N c.args.sums c.fits-sums.0 lane less)
