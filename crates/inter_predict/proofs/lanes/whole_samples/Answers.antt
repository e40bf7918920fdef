use Rattle.std.specs.Prelude.{min, slice_index}
use Rattle.std.proofs.Common.{ℕ, ◌/◌, ap, ◌∙◌}
use Rattle.inter_predict.proofs.TappedLanes.{rest_lanes}
use Rattle.inter_predict.proofs.lanes.whole_samples.Goals as goal

pub returns : goal.returns
returns g c = λ lane less.
    c.clamped_samples.ensures lane less
    ∙ ap (λ (value : ℕ). min (value / 128) 255) (ap (λ l. slice_index l lane) c.clamped_rests.ensures ∙ rest_lanes g.row.N c.args.added c.args.taken c.fits-added.0 c.fits-taken.0 lane less)
