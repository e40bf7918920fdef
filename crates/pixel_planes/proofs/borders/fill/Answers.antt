use Rattle.std.proofs.Common.{ap, ◌∙◌}
use Rattle.pixel_planes.specs.Layout.{bordered_row, apart_in}
use Rattle.pixel_planes.proofs.InBlock.{row_of_apart}
use Rattle.pixel_planes.proofs.Surrounded.{surrounded}
use Rattle.pixel_planes.proofs.borders.fill.Goals as goal

pub returns-clause-bordered : goal.returns-clause-bordered
returns-clause-bordered c =
    surrounded (apart_in c.args.width c.args.height c.args.border c.args.samples.now) c.args.border c.fill_ends.new.samples c.repeat_edges.new.samples c.requires.high.0 (λ y below. c.fill_ends.ensures.rows y below ∙ ap (bordered_row c.args.border) (row_of_apart c.args.width c.args.height c.args.border y c.args.samples.now c.requires.wide c.requires.high c.requires.border c.requires.room below)) c.repeat_edges.ensures.rows
