use Rattle.std.proofs.Common.{◌+◌}
use Rattle.loop_filter.specs.Lanes.{wide_line_at}
use Rattle.loop_filter.proofs.EdgeFold.{same_line}
use Rattle.loop_filter.proofs.taps.split_lines.Goals as goal

pub returns-clause-first : goal.returns-clause-first
returns-clause-first c = λ i less.
    same_line _ (wide_line_at c.args.lines i) (c.split.ensures.first i less) (c.split-2.ensures.first i less) (c.split-3.ensures.first i less) (c.split-4.ensures.first i less) (c.split-5.ensures.first i less) (c.split-6.ensures.first i less) (c.split-7.ensures.first i less) (c.split-8.ensures.first i less)

pub returns-clause-second : goal.returns-clause-second
returns-clause-second c = λ i less.
    same_line _ (wide_line_at c.args.lines (16 + i)) (c.split.ensures.second i less) (c.split-2.ensures.second i less) (c.split-3.ensures.second i less) (c.split-4.ensures.second i less) (c.split-5.ensures.second i less) (c.split-6.ensures.second i less) (c.split-7.ensures.second i less) (c.split-8.ensures.second i less)
