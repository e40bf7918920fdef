use Rattle.std.specs.Prelude.{slice_index_or}
use Rattle.std.proofs.Common.{ℕ, ◌+◌, ◌-◌, ◌*◌, refl, sym, arith}
use Rattle.mode_parser.specs.Vectors.{zero_vector}
use Rattle.mode_parser.specs.RecordList.{mode_of}
use Rattle.pixel_planes.specs.Samples.{Samples}
use Rattle.reference_frames.specs.InterPrediction.{block_vector, luma_sample}
use Rattle.reference_frames.specs.PlacedBlocks.{from_corner}
use Rattle.reference_frames.proofs.Placed.{placed_as, placed_from, placed_there, four_placed}
use Rattle.reference_frames.proofs.Quarters.{in_macroblock, of_split}
use Rattle.reference_frames.proofs.inter.luma_samples.Goals as goal

pub returns-then-is_split : goal.returns-then-is_split
returns-then-is_split c =
    let p : Samples = c.args.from.now.shown in
    let x : ℕ = 16 * c.args.corner.mx in
    let y : ℕ = 16 * c.args.corner.my in
    let by_block : ℕ → ℕ → ℕ = luma_sample c.args.kind p c.args.corner.mx c.args.corner.my (λ n. slice_index_or c.vectors-vectors.result n zero_vector) in
    placed_as _ (from_corner x y by_block) c.args.corner.across 16 x y _ _ (λ i j inside. rw c.vectors-vectors.ensures (of_split c.args.kind p c.args.corner.mx c.args.corner.my c.args.mode (mode_of c.args.macroblock.now).vectors (i - x) (j - y) (sym c.if-is_split.ensures)))
    (four_placed (from_corner x y by_block) c.args.corner.across 8 x y c.args.samples.now c.predict_quarter.new.samples c.predict_quarter-then-is_split.new.samples c.predict_quarter-then-is_split-2.new.samples c.predict_quarter-then-is_split-3.new.samples (omega (arith, c.requires.column))
    (placed_there _ c.args.corner.across 8 (x + 0) (y + 0) x y _ _ (omega arith) (omega arith) c.predict_quarter.ensures)
    (placed_there _ c.args.corner.across 8 (x + 8) (y + 0) (x + 8) y _ _ refl (omega arith) c.predict_quarter-then-is_split.ensures)
    (placed_there _ c.args.corner.across 8 (x + 0) (y + 8) x (y + 8) _ _ (omega arith) refl c.predict_quarter-then-is_split-2.ensures)
    c.predict_quarter-then-is_split-3.ensures)

pub returns : goal.returns
returns c =
    let p : Samples = c.args.from.now.shown in
    placed_from (luma_sample c.args.kind p c.args.corner.mx c.args.corner.my (block_vector c.args.mode (mode_of c.args.macroblock.now).vectors)) _ c.args.corner.across 16 (16 * c.args.corner.mx) (16 * c.args.corner.my) 0 0 _ _ _ _ (omega arith) (omega arith)
    (λ i j inside. in_macroblock c.args.kind p c.args.corner.mx c.args.corner.my c.args.mode (mode_of c.args.macroblock.now).vectors i j c.last_eighths-vector.result (sym c.if-is_split.ensures) (c.last_eighths-vector.ensures.x, c.last_eighths-vector.ensures.y)) c.predict_square.ensures
