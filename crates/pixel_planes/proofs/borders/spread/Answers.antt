use Rattle.std.proofs.Common.{◌*◌, ◌≤◌, length, ap, sym, ◌∙◌, arith}
use Rattle.std.proofs.Math.Nat.{mul_comm}
use Rattle.std.proofs.lemmas.Nat.{mul-le}
use Rattle.pixel_planes.specs.Layout.{bordered_side, bordered_row, flat_plane}
use Rattle.pixel_planes.proofs.BlockRows.{row_of_flat}
use Rattle.pixel_planes.proofs.Surrounded.{surrounded}
use Rattle.pixel_planes.proofs.borders.spread.Goals as goal

pub returns-clause-bordered : goal.returns-clause-bordered
returns-clause-bordered c =
    let le : c.args.height * c.args.width ≤ bordered_side c.args.height c.args.border * bordered_side c.args.width c.args.border = mul-le _ _ _ _ (omega arith) (omega arith) in
    let fits : c.args.height * c.args.width ≤ length c.args.samples.now = omega (arith, c.requires.room, mul_comm (bordered_side c.args.height c.args.border) (bordered_side c.args.width c.args.border)) in
    surrounded (flat_plane c.args.width c.args.height c.args.samples.now) c.args.border c.spread_rows.new.samples c.repeat_edges.new.samples c.requires.high.0 (λ y below. c.spread_rows.ensures.rows y below ∙ ap (bordered_row c.args.border) (sym (row_of_flat c.args.width c.args.height y c.args.samples.now fits below))) c.repeat_edges.ensures.rows
