use Rattle.std.specs.Option.{option_copied}
use Rattle.std.proofs.Common.{ℕ, ◌*◌, List, arith}
use Rattle.mode_parser.specs.RecordList.{mode_of}
use Rattle.pixel_planes.specs.Layout.{bordered_side}
use Rattle.pixel_planes.specs.Samples.{Samples}
use Rattle.reference_frames.specs.InterPrediction.{kind_of, block_vector, luma_sample}
use Rattle.reference_frames.specs.Restored.{restored}
use Rattle.reference_frames.proofs.LentRows.{lent_block}
use Rattle.reference_frames.proofs.Placed.{restored_placed}
use Rattle.reference_frames.proofs.PlacedInPlanes.{plane_room}
use Rattle.reference_frames.proofs.inter.predict_luma.Goals as goal

pub luma_samples-requires-clause-room : goal.luma_samples-requires-clause-room
luma_samples-requires-clause-room c =
    let p : Samples = c.args.plane.now.shown in
    rw c.stride-across.ensures.value (plane_room (16 * c.args.place.my) 16 p.height (bordered_side p.width c.args.plane.now.border) _ c.requires.1 c.rows_mut-samples.ensures.len)

pub add_to_square-requires-clause-room : goal.add_to_square-requires-clause-room
add_to_square-requires-clause-room c =
    let p : Samples = c.args.plane.now.shown in
    let room = plane_room (16 * c.args.place.my) 16 p.height (bordered_side p.width c.args.plane.now.border) _ c.requires.1 c.rows_mut-samples.ensures.len in
    rw c.stride-across.ensures.value (omega (arith, room, c.luma_samples.ensures.whole))

pub returns-clause-value : goal.returns-clause-value
returns-clause-value c =
    let p : Samples = c.args.plane.now.shown in
    let across : ℕ = bordered_side p.width c.args.plane.now.border in
    let x : ℕ = 16 * c.args.place.mx in
    let y : ℕ = 16 * c.args.place.my in
    let rows : List ℕ = c.rows_mut-samples.result.now in
    let written : List ℕ = c.add_to_square.new.samples in
    let sample : ℕ → ℕ → ℕ = luma_sample (kind_of c.args.motion.version) c.args.from.now.shown c.args.place.mx c.args.place.my (block_vector c.args.motion.mode (mode_of c.args.motion.macroblock.now).vectors) in
    let whole : ℕ → ℕ → ℕ = restored 16 0 (option_copied c.args.residual) sample in
    let predicted = rw (c.kind_of-kind.ensures, c.stride-across.ensures.value) at c.luma_samples.ensures in
    let added = rw c.stride-across.ensures.value at c.add_to_square.ensures in
    let is = restored_placed 16 0 (option_copied c.args.residual) sample across x y rows c.luma_samples.new.samples written predicted added in
    lent_block c.args.plane.now x y 16 whole rows written c.requires.0 c.requires.1 c.rows_mut-samples.ensures.value c.rows_mut-samples.ensures.len is
