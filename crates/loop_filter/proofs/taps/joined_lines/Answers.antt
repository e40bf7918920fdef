use Rattle.loop_filter.specs.Lanes.{line_at}
use Rattle.loop_filter.proofs.EdgeFold.{same_line}
use Rattle.loop_filter.proofs.taps.joined_lines.Goals as goal

pub returns-clause-a : goal.returns-clause-a
returns-clause-a c = λ i less.
    same_line _ (line_at c.args.a i) (c.joined.ensures.a i less) (c.joined-2.ensures.a i less) (c.joined-3.ensures.a i less) (c.joined-4.ensures.a i less) (c.joined-5.ensures.a i less) (c.joined-6.ensures.a i less) (c.joined-7.ensures.a i less) (c.joined-8.ensures.a i less)

pub returns-clause-b : goal.returns-clause-b
returns-clause-b c = λ i less.
    same_line _ (line_at c.args.b i) (c.joined.ensures.b i less) (c.joined-2.ensures.b i less) (c.joined-3.ensures.b i less) (c.joined-4.ensures.b i less) (c.joined-5.ensures.b i less) (c.joined-6.ensures.b i less) (c.joined-7.ensures.b i less) (c.joined-8.ensures.b i less)
