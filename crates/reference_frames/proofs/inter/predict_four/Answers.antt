use Rattle.std.proofs.Common.{ℕ, ◌+◌, arith}
use Rattle.reference_frames.proofs.Placed.{placed_as, four_placed}
use Rattle.reference_frames.proofs.Squares.{rows_room}
use Rattle.reference_frames.proofs.inter.predict_four.Goals as goal

pub predict_square-requires-clause-room : goal.predict_square-requires-clause-room
predict_square-requires-clause-room c = rows_room (c.args.corner.row + 4) (c.args.corner.row + 8) c.args.corner.across _ (omega arith) c.requires.room

pub predict_square-requires-2-clause-room : goal.predict_square-requires-2-clause-room
predict_square-requires-2-clause-room c =
    let room = rows_room (c.args.corner.row + 4) (c.args.corner.row + 8) c.args.corner.across _ (omega arith) c.requires.room in
    omega (arith, room, c.predict_square.ensures.whole)

pub predict_square-requires-3-clause-room : goal.predict_square-requires-3-clause-room
predict_square-requires-3-clause-room c =
    let room = rows_room (c.args.corner.row + 4 + 4) (c.args.corner.row + 8) c.args.corner.across _ (omega arith) c.requires.room in
    omega (arith, room, c.predict_square.ensures.whole, c.predict_square-2.ensures.whole)

pub predict_square-requires-4-clause-room : goal.predict_square-requires-4-clause-room
predict_square-requires-4-clause-room c =
    let room = rows_room (c.args.corner.row + 4 + 4) (c.args.corner.row + 8) c.args.corner.across _ (omega arith) c.requires.room in
    omega (arith, room, c.predict_square.ensures.whole, c.predict_square-2.ensures.whole, c.predict_square-3.ensures.whole)

pub returns : goal.returns
returns c = λ (sample : ℕ → ℕ → ℕ) are.
    let across : ℕ = c.args.corner.across in
    let column : ℕ = c.args.corner.column in
    let row : ℕ = c.args.corner.row in
    four_placed sample across 4 column row c.args.samples.now c.predict_square.new.samples c.predict_square-2.new.samples c.predict_square-3.new.samples c.predict_square-4.new.samples (omega (arith, c.requires.column))
    (placed_as sample _ across 4 column row _ _ are.first c.predict_square.ensures)
    (placed_as sample _ across 4 (column + 4) row _ _ are.second c.predict_square-2.ensures)
    (placed_as sample _ across 4 column (row + 4) _ _ are.third c.predict_square-3.ensures)
    (placed_as sample _ across 4 (column + 4) (row + 4) _ _ are.fourth c.predict_square-4.ensures)
