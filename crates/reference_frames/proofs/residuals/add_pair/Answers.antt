use Rattle.std.specs.Prelude.{slice_index_or}
use Rattle.std.proofs.Common.{◌+◌, [], refl, arith}
use Rattle.transforms.specs.Residuals.{pair_residual}
use Rattle.reference_frames.proofs.Added.{added_at, pair_is}
use Rattle.reference_frames.proofs.residuals.add_pair.Goals as goal

pub returns : goal.returns
returns c =
    let blocks = c.args.blocks.now in
    let k = c.args.k in
    pair_is blocks c.args.corner.across k c.args.corner.column c.args.corner.row c.args.samples.now _
    (added_at (pair_residual (slice_index_or blocks k []) (slice_index_or blocks (k + 1) [])) c.args.corner.across 8 c.args.corner.column c.args.corner.row c.args.samples.now c.add_pair.new.samples _ (omega arith) c.requires.column c.requires.room c.add_pair.ensures refl)
