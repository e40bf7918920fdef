use Rattle.std.proofs.Common.{◌≡◌, ◌+◌, ◌*◌, ◌≤◌, length, ap, arith, SFits, w64}
use Rattle.std.proofs.lemmas.Int.{to_z-of_z}
use Rattle.pixel_planes.specs.Layout.{layout_of, bordered_side}
use Rattle.pixel_planes.proofs.InBlock.{IsPlaced, part_in_block, span_is}
use Rattle.pixel_planes.proofs.planes.Plane.span.Goals as goal

pub slice_bounds-result-end : goal.slice_bounds-result-end
slice_bounds-result-end c =
    let fits : c.in_ok-row.row * bordered_side c.self.inside.width c.self.inside.border + c.in_ok-column.column + c.args.n ≤ length c.self.inside.samples.items = part_in_block _ _ c.in_ok-row.row c.in_ok-column.column c.args.n c.self.invariant.0 c.in_ok-row.ensures.value.1 c.in_ok-column.ensures.value.1 in
    let items : length c.deref.result.now ≡ length c.self.inside.samples.items = ap length c.deref.ensures.value in
    omega arith

pub returns-clause-samples : goal.returns-clause-samples
returns-clause-samples c =
    let fx : SFits w64 c.args.x = c.ranges.x in
    let fy : SFits w64 c.args.y = c.ranges.y in
    let ex = simp to_z-of_z at c.in_ok-column.ensures.value in
    let ey = simp to_z-of_z at c.in_ok-row.ensures.value in
    let placed : IsPlaced (layout_of c.self.inside.width c.self.inside.height c.self.inside.border c.self.inside.first c.self.inside.stride) c.args.x c.args.y c.args.n 1 c.in_ok-column.column c.in_ok-row.row = record { across = ex; down = ey } in
    rw (← c.self.view_is, c.deref.ensures.value) (span_is _ _ c.args.x c.args.y c.args.n c.in_ok-column.column c.in_ok-row.row c.self.invariant.0 (c.self.invariant.1 c.if-not-self.false) placed)
