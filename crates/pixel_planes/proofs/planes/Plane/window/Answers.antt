use Rattle.std.proofs.Common.{◌≡◌, ◌+◌, ◌-◌, ◌*◌, ◌≤◌, length, ap, arith, SFits, w64, to_z, of_z}
use Rattle.std.proofs.lemmas.Int.{to_z-of_z}
use Rattle.pixel_planes.specs.Layout.{layout_of, bordered_side}
use Rattle.pixel_planes.proofs.InBlock.{IsPlaced, window_in_block, window_is}
use Rattle.pixel_planes.proofs.planes.Plane.window.Goals as goal

pub slice_bounds-result-end : goal.slice_bounds-result-end
slice_bounds-result-end c =
    let placed : IsPlaced (layout_of c.self.inside.width c.self.inside.height c.self.inside.border c.self.inside.first c.self.inside.stride) (to_z w64 (of_z w64 c.args.x)) (to_z w64 (of_z w64 c.args.y)) c.args.width c.args.height c.in_ok-column.column c.in_ok-row.row = record { across = c.in_ok-column.ensures.value; down = c.in_ok-row.ensures.value } in
    let fits : c.in_ok-row.row * bordered_side c.self.inside.width c.self.inside.border + c.in_ok-column.column + (c.args.height - 1) * bordered_side c.self.inside.width c.self.inside.border + c.args.width ≤ length c.self.inside.samples.items = window_in_block _ _ _ _ c.args.width c.args.height c.in_ok-column.column c.in_ok-row.row c.self.invariant.0 c.requires.high placed in
    let items : length c.deref.result.now ≡ length c.self.inside.samples.items = ap length c.deref.ensures.value in
    omega arith

pub returns-clause-samples : goal.returns-clause-samples
returns-clause-samples c =
    let fx : SFits w64 c.args.x = c.ranges.x in
    let fy : SFits w64 c.args.y = c.ranges.y in
    let ex = simp to_z-of_z at c.in_ok-column.ensures.value in
    let ey = simp to_z-of_z at c.in_ok-row.ensures.value in
    let placed : IsPlaced (layout_of c.self.inside.width c.self.inside.height c.self.inside.border c.self.inside.first c.self.inside.stride) c.args.x c.args.y c.args.width c.args.height c.in_ok-column.column c.in_ok-row.row = record { across = ex; down = ey } in
    rw (← c.self.view_is, c.deref.ensures.value) (window_is _ _ c.args.x c.args.y c.args.width c.args.height c.in_ok-column.column c.in_ok-row.row c.self.invariant.0 (c.self.invariant.1 c.if-not-self.false) c.requires.high placed)
