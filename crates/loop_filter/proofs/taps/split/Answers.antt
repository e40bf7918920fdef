use Rattle.std.specs.Prelude.{slice_index}
use Rattle.std.proofs.Common.{◌≡◌, ◌+◌, ap, ◌∙◌, arith}
use Rattle.loop_filter.proofs.Joined.{lanes_from}
use Rattle.loop_filter.proofs.taps.split.Goals as goal

pub returns-clause-first : goal.returns-clause-first
returns-clause-first c = λ i less.
    let same : 0 + i ≡ i = omega arith in
    lanes_from 0 c.args.row i c.fits-row.0 tt (omega arith) less ∙ ap (slice_index c.args.row) same

pub returns-clause-second : goal.returns-clause-second
returns-clause-second c = λ i less. lanes_from 16 c.args.row i c.fits-row.0 tt (omega arith) less
