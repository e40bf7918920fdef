use Rattle.std.proofs.Common.{◌≡◌, ℕ, ◌+◌, ◌*◌, ◌≤◌, List, arith}
use Rattle.std.specs.Prelude.{slice_index}
use Rattle.pixel_planes.specs.Layout.{bordered_side}
use Rattle.pixel_planes.specs.Samples.{Samples}
use Rattle.reference_frames.specs.WrittenBlocks.{block_rows_put}
use Rattle.reference_frames.proofs.LentRows.{lent_block}
use Rattle.reference_frames.proofs.PlacedInPlanes.{put_placed}
use Rattle.reference_frames.proofs.PutRows.{block_room}
use Rattle.reference_frames.proofs.prediction.write_block.Goals as goal

pub write_rows-requires-clause-room : goal.write_rows-requires-clause-room
write_rows-requires-clause-room c =
    let p : Samples = c.args.plane.now.shown in
    let across : ℕ = bordered_side p.width c.args.plane.now.border in
    let wide : c.args.x + c.args.side ≤ across = omega (arith, c.requires.within.0) in
    rw c.stride-across.ensures.value (block_room c.args.x c.args.y c.args.side across p.height _ wide c.requires.within.1 c.rows_mut.ensures.len)

pub returns-clause-value : goal.returns-clause-value
returns-clause-value c =
    let p : Samples = c.args.plane.now.shown in
    let across : ℕ = bordered_side p.width c.args.plane.now.border in
    let x : ℕ = c.args.x in
    let y : ℕ = c.args.y in
    let side : ℕ = c.args.side in
    let rows : List ℕ = c.rows_mut.result.now in
    let sample : ℕ → ℕ → ℕ = λ (column row : ℕ). slice_index c.args.block.now (row * side + column) in
    let written : List ℕ = block_rows_put rows (y * across + x) across side sample side in
    let is : c.write_rows.new.samples ≡ written = rw c.stride-across.ensures.value at c.write_rows.ensures in
    let wide : x + side ≤ across = omega (arith, c.requires.within.0) in
    let put = put_placed rows p.height across x y side sample wide c.requires.within.1 (omega (arith, c.rows_mut.ensures.len)) in
    lent_block c.args.plane.now x y side sample rows c.write_rows.new.samples c.requires.within.0 c.requires.within.1 c.rows_mut.ensures.value c.rows_mut.ensures.len (rw is put)
