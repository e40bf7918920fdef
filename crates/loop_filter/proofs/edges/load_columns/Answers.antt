use Rattle.loop_filter.specs.Lanes.{line_at}
use Rattle.loop_filter.proofs.Loaded.{both_eights}
use Rattle.loop_filter.proofs.edges.load_columns.Goals as goal

pub returns : goal.returns
returns c = both_eights (line_at c.load_lines.result) c.args.samples.now c.args.start c.args.stride c.load_lines.ensures.a c.load_lines.ensures.b
