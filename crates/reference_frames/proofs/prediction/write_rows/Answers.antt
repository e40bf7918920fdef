use Rattle.std.proofs.Common.{refl, ◌≡◌, ◌+◌, ◌*◌, ◌≤◌, length, ap, ◌∙◌, add-one, List, ℕ, arith}
use Rattle.std.specs.Prelude.{slice_index}
use Rattle.std.proofs.lemmas.List.FromFn.{length-map-range_with_len}
use Rattle.reference_frames.specs.Unfiltered.{block_row}
use Rattle.reference_frames.specs.WrittenBlocks.{block_rows_put}
use Rattle.reference_frames.proofs.Blocks.{written_part, part_row}
use Rattle.reference_frames.proofs.PutRows.{row_inside, rows_put-length}
use Rattle.reference_frames.proofs.prediction.write_rows.Goals as goal

pub loop-row-init : goal.loop-row-init
unfolding block_rows_put
loop-row-init c = refl

pub loop-row-preserved : goal.loop-row-preserved
unfolding block_rows_put
loop-row-preserved c =
    let sample : ℕ → ℕ → ℕ = λ (column row : ℕ). slice_index c.args.block.now (row * c.args.side + column) in
    let span : List ℕ = block_row c.args.side sample c.loop-row.row in
    let rows = row_inside c.args.side c.args.stride c.loop-row.row c.loop-row-test.true in
    let same : length c.loop-row.samples ≡ length c.args.samples.now = ap (λ (l : List ℕ). length l) c.loop-row.invariant ∙ rows_put-length c.args.samples.now c.args.start c.args.stride c.args.side sample c.loop-row.row in
    let within : c.args.start + c.loop-row.row * c.args.stride + c.args.side ≤ length c.loop-row.samples = omega (arith, rows, same, c.requires.room, c.requires.wide) in
    let ends : c.loop-row.row * c.args.side + c.args.side ≤ c.args.side * c.args.side = row_inside c.args.side c.args.side c.loop-row.row c.loop-row-test.true in
    let inside : c.loop-row.row * c.args.side + c.args.side ≤ length c.args.block.now = omega (arith, ends, c.requires.whole) in
    let part_is : c.copy_from_slice.new.self ≡ span = c.copy_from_slice.ensures.after ∙ part_row c.args.block.now c.args.side c.loop-row.row inside in
    rw (add-one, ← c.loop-row.invariant) (written_part c.loop-row.samples c.copy_from_slice.new.self span (c.args.start + c.loop-row.row * c.args.stride) c.args.side part_is (length-map-range_with_len (λ column. sample column c.loop-row.row) 0 c.args.side) within)
