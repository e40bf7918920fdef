use Rattle.std.proofs.Common.{◌∙◌, sym, subst}
use Rattle.pixel_planes.specs.Samples.{IsWhole}
use Rattle.pixel_planes.specs.Layout.{flat_plane, layout_of}
use Rattle.pixel_planes.proofs.InBlock.{apart_is, shown_flat, whole_of_laid_out}
use Rattle.pixel_planes.proofs.borders.part.Goals as goal

pub returns-then-border-gt0-clause-rows : goal.returns-then-border-gt0-clause-rows
returns-then-border-gt0-clause-rows c first o =
    let shown = shown_flat c.args.width c.args.height c.args.border first c.args.stride c.args.samples.now o c.if-stride-width.true in
    let whole : IsWhole (flat_plane c.args.width c.args.height c.args.samples.now) = subst IsWhole shown (whole_of_laid_out (layout_of c.args.width c.args.height c.args.border first c.args.stride) c.args.samples.now o) in
    apart_is (flat_plane c.args.width c.args.height c.args.samples.now) c.args.border c.spread.new.samples whole c.spread.ensures.bordered ∙ sym shown
