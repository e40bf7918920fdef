use Rattle.std.proofs.Common.{◌+◌, ap, ◌∙◌, arith}
use Rattle.loop_filter.specs.Lines.{filtered_line}
use Rattle.loop_filter.proofs.taps.filter_both.Goals as goal

pub returns-clause-a : goal.returns-clause-a
returns-clause-a c = λ i less.
    c.split_lines.ensures.first i less ∙ c.filter-changed.ensures i (omega arith) ∙ ap (filtered_line c.args.filter c.args.limits) (c.joined_lines-lines.ensures.a i less)

pub returns-clause-b : goal.returns-clause-b
returns-clause-b c = λ i less.
    c.split_lines.ensures.second i less ∙ c.filter-changed.ensures (16 + i) (omega arith) ∙ ap (filtered_line c.args.filter c.args.limits) (c.joined_lines-lines.ensures.b i less)
