use Rattle.std.proofs.Common.{arith}
use Rattle.std.proofs.lemmas.Simd.{shifts_fit_splat}
use Rattle.script_nodes.proofs.FadedLanes.{shifted_fit, faded_lane}
use Rattle.script_nodes.proofs.rows.faded_lanes.Goals as goal

pub overflow_shr-result : goal.overflow_shr-result
overflow_shr-result g c = shifts_fit_splat 16 _ g.row.N 8 (omega arith)

pub overflow_cast-result : goal.overflow_cast-result
overflow_cast-result g c = shifted_fit g.row.N c.args.start c.args.row.now c.args.weight _ c.requires.room

pub returns : goal.returns
returns g c = λ lane less. rw c.from.ensures (faded_lane g.row.N c.args.start c.args.row.now c.args.weight c.args.dark lane c.requires.room c.requires.weight c.ranges.dark.fits (λ k. (c.type_inv.row k).fits) less)
