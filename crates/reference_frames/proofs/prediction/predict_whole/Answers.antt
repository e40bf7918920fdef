use Rattle.std.proofs.Common.{◌∙◌, ◌≤◌, ◌+◌, ◌*◌, ℕ, List, ap, arith}
use Rattle.std.specs.Option.{option_copied}
use Rattle.intra_predict.specs.InPlace.{whole_among}
use Rattle.intra_predict.specs.WholeSample.{side_of}
use Rattle.intra_predict.specs.declared.corners.Corner.{Corner}
use Rattle.pixel_planes.specs.Layout.{bordered_side}
use Rattle.pixel_planes.specs.Samples.{Samples}
use Rattle.reference_frames.specs.Restored.{restored}
use Rattle.reference_frames.specs.Unfiltered.{with_block}
use Rattle.reference_frames.proofs.Blocks.{side_some}
use Rattle.reference_frames.proofs.LentRows.{lent_block}
use Rattle.reference_frames.proofs.Placed.{restored_placed}
use Rattle.reference_frames.proofs.PlacedInPlanes.{plane_room}
use Rattle.reference_frames.proofs.Squares.{last_row_within}
use Rattle.reference_frames.proofs.WholeInPlace.{from_placed, whole_same}
use Rattle.reference_frames.proofs.prediction.predict_whole.Goals as goal

pub whole_in_place-requires : goal.whole_in_place-requires
whole_in_place-requires c =
    let p : Samples = c.args.plane.now.shown in
    let across : ℕ = bordered_side p.width c.args.plane.now.border in
    let size : ℕ = side_of c.args.size in
    let x : ℕ = size * c.args.place.mx in
    let y : ℕ = size * c.args.place.my in
    let wide : x + size ≤ across = omega (arith, c.requires.within.0) in
    let room = plane_room y size p.height across _ c.requires.within.1 c.rows_mut-samples.ensures.len in
    rw (c.side-side.ensures) (c.stride-across.ensures.small, omega (arith, c.requires.within.1, c.requires.within.3), rw c.stride-across.ensures.value wide, rw c.stride-across.ensures.value (last_row_within across size x y _ (side_some c.args.size) wide room))

pub add_to_square-requires-clause-room : goal.add_to_square-requires-clause-room
add_to_square-requires-clause-room c =
    let p : Samples = c.args.plane.now.shown in
    let room = plane_room (side_of c.args.size * c.args.place.my) (side_of c.args.size) p.height (bordered_side p.width c.args.plane.now.border) _ c.requires.within.1 c.rows_mut-samples.ensures.len in
    rw (c.whole_in_place.auto.samples, c.stride-across.ensures.value, c.side-side.ensures) room

pub returns-clause-value : goal.returns-clause-value
returns-clause-value c =
    let p : Samples = c.args.plane.now.shown in
    let across : ℕ = bordered_side p.width c.args.plane.now.border in
    let size : ℕ = side_of c.args.size in
    let x : ℕ = size * c.args.place.mx in
    let y : ℕ = size * c.args.place.my in
    let place : Corner = record { across = across; column = x; row = y } in
    let residual = option_copied c.args.residual in
    let rows : List ℕ = c.rows_mut-samples.result.now in
    let written : List ℕ = c.add_to_square.new.samples in
    let some = side_some c.args.size in
    let wide : x + size ≤ across = omega (arith, c.requires.within.0) in
    let room = plane_room y size p.height across _ c.requires.within.1 c.rows_mut-samples.ensures.len in
    let sample : ℕ → ℕ → ℕ = whole_among c.args.mode rows place size in
    let block : (ℕ → ℕ → ℕ) → ℕ → ℕ → ℕ = restored size c.args.first residual in
    let predicted = from_placed sample across size x y rows c.whole_in_place.new.samples some wide room (rw (c.stride-across.ensures.value, c.side-side.ensures) at c.whole_in_place.ensures) in
    let added = rw (c.stride-across.ensures.value, c.side-side.ensures) at c.add_to_square.ensures in
    let is = restored_placed size c.args.first residual sample across x y rows c.whole_in_place.new.samples written predicted added in
    let same = whole_same p place size c.args.mode rows c.rows_mut-samples.ensures.value (omega arith) c.rows_mut-samples.ensures.len c.requires.within.0 c.requires.within.1 some in
    lent_block c.args.plane.now x y size (block sample) rows written c.requires.within.0 c.requires.within.1 c.rows_mut-samples.ensures.value c.rows_mut-samples.ensures.len is ∙ ap (λ (f : ℕ → ℕ → ℕ). with_block p x y size (block f)) same
