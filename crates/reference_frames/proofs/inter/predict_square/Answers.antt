use Rattle.std.proofs.Common.{◌≡◌, ◌+◌, ◌-◌, ◌*◌, length, ℕ, drop, pos, refl, arith, to_z, w32}
use Rattle.std.proofs.lemmas.Int.{to_z_pos}
use Rattle.std.proofs.lemmas.List.{length-take-le, length-drop}
use Rattle.inter_predict.specs.InterSample.{predicted}
use Rattle.reference_frames.proofs.Placed.{placed_at, moved}
use Rattle.reference_frames.proofs.Squares.{last_row_within}
use Rattle.reference_frames.proofs.inter.predict_square.Goals as goal

pub block_in-requires-clause-room : goal.block_in-requires-clause-room
block_in-requires-clause-room c =
    let start : ℕ = c.args.corner.across * c.args.corner.row + c.args.corner.column in
    let last = last_row_within c.args.corner.across c.args.side c.args.corner.column c.args.corner.row (length c.args.samples.now) c.requires.side.0 c.requires.column c.requires.room in
    let long = length-take-le (length c.args.samples.now - start) (drop start c.args.samples.now) (omega (arith, length-drop start c.args.samples.now)) in
    omega (arith, last, long)

pub returns : goal.returns
returns c =
    let right : to_z w32 c.args.corner.column ≡ pos c.args.corner.column = to_z_pos w32 _ (omega arith) in
    let down : to_z w32 c.args.corner.row ≡ pos c.args.corner.row = to_z_pos w32 _ (omega arith) in
    let is = rw (right, down) at c.block_in.ensures in
    placed_at _ (predicted c.args.kind c.args.from.now.shown (pos c.args.corner.column) (pos c.args.corner.row) c.args.vector.0 c.args.vector.1) c.args.corner.across c.args.side c.args.corner.column c.args.corner.row c.args.samples.now c.block_in.new.out _ c.requires.side.0 c.requires.column c.requires.room
    (λ i j inside. moved c.args.kind c.args.from.now.shown c.args.corner.column c.args.corner.row i j c.args.vector.0 c.args.vector.1 inside.0 inside.2) is refl
