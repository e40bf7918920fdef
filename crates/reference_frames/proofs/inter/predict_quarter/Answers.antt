use Rattle.std.specs.Prelude.{slice_index_or}
use Rattle.std.proofs.Common.{◌∙◌, ℕ, ◌+◌, ◌*◌, ◌/◌, ◌%◌, refl, arith}
use Rattle.mode_parser.specs.Vectors.{zero_vector}
use Rattle.pixel_planes.specs.Samples.{Samples}
use Rattle.reference_frames.specs.InterPrediction.{luma_sample}
use Rattle.reference_frames.specs.PlacedBlocks.{from_corner}
use Rattle.reference_frames.proofs.Placed.{from_part, placed_from}
use Rattle.reference_frames.proofs.Quarters.{IsOfBlock, first_block, in_first, in_second, in_third, in_fourth, in_quarter}
use Rattle.reference_frames.proofs.Squares.{rows_room}
use Rattle.reference_frames.proofs.inter.predict_quarter.Goals as goal

pub predict_square-requires-clause-room : goal.predict_square-requires-clause-room
predict_square-requires-clause-room c = rows_room (16 * c.args.corner.my + 8 * (c.args.quarter / 2) + 8) (16 * c.args.corner.my + 16) c.args.corner.across _ (omega (arith, c.requires.quarter)) c.requires.room

pub predict_four-requires-clause-room : goal.predict_four-requires-clause-room
predict_four-requires-clause-room c = rows_room (16 * c.args.corner.my + 8 * (c.args.quarter / 2) + 8) (16 * c.args.corner.my + 16) c.args.corner.across _ (omega (arith, c.requires.quarter)) c.requires.room

pub returns-then-are_same-3 : goal.returns-then-are_same-3
returns-then-are_same-3 c =
    let p : Samples = c.args.from.now.shown in
    let second : IsOfBlock c.args.vectors.now (first_block c.args.quarter + 1) c.eighths-first.result = (c.are_same.ensures.x c.if-are_same.true ∙ c.eighths-second.ensures.x, c.are_same.ensures.y c.if-are_same.true ∙ c.eighths-second.ensures.y) in
    let third : IsOfBlock c.args.vectors.now (first_block c.args.quarter + 4) c.eighths-first.result = (c.are_same-then-are_same.ensures.x c.if-are_same-2.true ∙ c.eighths-third.ensures.x, c.are_same-then-are_same.ensures.y c.if-are_same-2.true ∙ c.eighths-third.ensures.y) in
    let fourth : IsOfBlock c.args.vectors.now (first_block c.args.quarter + 5) c.eighths-first.result = (c.are_same-then-are_same-2.ensures.x c.if-are_same-3.true ∙ c.eighths-fourth.ensures.x, c.are_same-then-are_same-2.ensures.y c.if-are_same-3.true ∙ c.eighths-fourth.ensures.y) in
    let sample : ℕ → ℕ → ℕ = luma_sample c.args.kind p c.args.corner.mx c.args.corner.my (λ n. slice_index_or c.args.vectors.now n zero_vector) in
    placed_from sample _ c.args.corner.across 8 (16 * c.args.corner.mx) (16 * c.args.corner.my) (8 * (c.args.quarter % 2)) (8 * (c.args.quarter / 2)) _ _ _ _ refl refl
    (λ i j inside. in_quarter c.args.kind p c.args.corner.mx c.args.corner.my c.args.vectors.now c.args.quarter i j c.eighths-first.result (c.eighths-first.ensures.x, c.eighths-first.ensures.y) second third fourth inside) c.predict_square.ensures

pub returns : goal.returns
returns c =
    let p : Samples = c.args.from.now.shown in
    let kind = c.args.kind in
    let x : ℕ = 16 * c.args.corner.mx in
    let y : ℕ = 16 * c.args.corner.my in
    let column : ℕ = 8 * (c.args.quarter % 2) in
    let row : ℕ = 8 * (c.args.quarter / 2) in
    let sample : ℕ → ℕ → ℕ = luma_sample kind p c.args.corner.mx c.args.corner.my (λ n. slice_index_or c.args.vectors.now n zero_vector) in
    c.predict_four.ensures (from_corner x y sample) (record {
      first = from_part sample _ 4 x y column row (x + column) (y + row) refl refl (λ i j inside. in_first kind p c.args.corner.mx c.args.corner.my c.args.vectors.now c.args.quarter i j c.eighths-first.result (c.eighths-first.ensures.x, c.eighths-first.ensures.y) inside);
      second = from_part sample _ 4 x y (column + 4) row (x + column + 4) (y + row) (omega arith) refl (λ i j inside. in_second kind p c.args.corner.mx c.args.corner.my c.args.vectors.now c.args.quarter i j c.eighths-second.result (c.eighths-second.ensures.x, c.eighths-second.ensures.y) inside);
      third = from_part sample _ 4 x y column (row + 4) (x + column) (y + row + 4) refl (omega arith) (λ i j inside. in_third kind p c.args.corner.mx c.args.corner.my c.args.vectors.now c.args.quarter i j c.eighths-third.result (c.eighths-third.ensures.x, c.eighths-third.ensures.y) inside);
      fourth = from_part sample _ 4 x y (column + 4) (row + 4) (x + column + 4) (y + row + 4) (omega arith) (omega arith) (λ i j inside. in_fourth kind p c.args.corner.mx c.args.corner.my c.args.vectors.now c.args.quarter i j c.eighths-fourth.result (c.eighths-fourth.ensures.x, c.eighths-fourth.ensures.y) inside);
    })
