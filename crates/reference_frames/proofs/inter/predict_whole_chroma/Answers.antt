use Rattle.std.specs.Option.{option_copied}
use Rattle.std.proofs.Common.{ℕ, ◌*◌, ◌∙◌, List, arith}
use Rattle.mode_parser.specs.RecordList.{mode_of}
use Rattle.pixel_planes.specs.Layout.{bordered_side}
use Rattle.pixel_planes.specs.Samples.{Samples}
use Rattle.reference_frames.specs.InterPrediction.{block_vector, chroma_sample}
use Rattle.reference_frames.specs.Restored.{restored}
use Rattle.reference_frames.proofs.LentRows.{lent_block}
use Rattle.reference_frames.proofs.Placed.{restored_placed}
use Rattle.reference_frames.proofs.PlacedInPlanes.{plane_room}
use Rattle.reference_frames.proofs.inter.predict_whole_chroma.Goals as goal

pub whole_chroma_samples-requires-clause-cb_room : goal.whole_chroma_samples-requires-clause-cb_room
whole_chroma_samples-requires-clause-cb_room c =
    let p : Samples = c.args.cb.now.shown in
    rw c.stride-across.ensures.value (plane_room (8 * c.args.place.my) 8 p.height (bordered_side p.width c.args.cb.now.border) _ c.requires.cb_within.1 c.rows_mut-cb_rows.ensures.len)

pub add_to_square-requires-clause-room : goal.add_to_square-requires-clause-room
add_to_square-requires-clause-room c =
    let p : Samples = c.args.cb.now.shown in
    let room = plane_room (8 * c.args.place.my) 8 p.height (bordered_side p.width c.args.cb.now.border) _ c.requires.cb_within.1 c.rows_mut-cb_rows.ensures.len in
    rw c.stride-across.ensures.value (omega (arith, room, c.whole_chroma_samples.ensures.cb.whole))

pub returns-clause-cb : goal.returns-clause-cb
returns-clause-cb c =
    let p : Samples = c.args.cb.now.shown in
    let across : ℕ = bordered_side p.width c.args.cb.now.border in
    let x : ℕ = 8 * c.args.place.mx in
    let y : ℕ = 8 * c.args.place.my in
    let rows : List ℕ = c.rows_mut-cb_rows.result.now in
    let written : List ℕ = c.add_to_square.new.samples in
    let sample : ℕ → ℕ → ℕ = chroma_sample c.args.chroma.motion.version c.args.from.cb.now.shown c.args.place.mx c.args.place.my (block_vector c.args.chroma.motion.mode (mode_of c.args.chroma.motion.macroblock.now).vectors) in
    let whole : ℕ → ℕ → ℕ = restored 8 16 (option_copied c.args.residual) sample in
    let predicted = rw c.stride-across.ensures.value at c.whole_chroma_samples.ensures.cb in
    let added = rw c.stride-across.ensures.value at c.add_to_square.ensures in
    let is = restored_placed 8 16 (option_copied c.args.residual) sample across x y rows c.whole_chroma_samples.new.cb written predicted added in
    lent_block c.args.cb.now x y 8 whole rows written c.requires.cb_within.0 c.requires.cb_within.1 c.rows_mut-cb_rows.ensures.value c.rows_mut-cb_rows.ensures.len is

pub whole_chroma_samples-requires-clause-cr_room : goal.whole_chroma_samples-requires-clause-cr_room
whole_chroma_samples-requires-clause-cr_room c =
    let p : Samples = c.args.cr.now.shown in
    rw (c.stride-across.ensures.value ∙ c.requires.strides) (plane_room (8 * c.args.place.my) 8 p.height (bordered_side p.width c.args.cr.now.border) _ c.requires.cr_within.1 c.rows_mut-cr_rows.ensures.len)

pub add_to_square-requires-2-clause-room : goal.add_to_square-requires-2-clause-room
add_to_square-requires-2-clause-room c =
    let p : Samples = c.args.cr.now.shown in
    let room = plane_room (8 * c.args.place.my) 8 p.height (bordered_side p.width c.args.cr.now.border) _ c.requires.cr_within.1 c.rows_mut-cr_rows.ensures.len in
    rw (c.stride-across.ensures.value ∙ c.requires.strides) (omega (arith, room, c.whole_chroma_samples.ensures.cr.whole))

pub returns-clause-cr : goal.returns-clause-cr
returns-clause-cr c =
    let p : Samples = c.args.cr.now.shown in
    let across : ℕ = bordered_side p.width c.args.cr.now.border in
    let x : ℕ = 8 * c.args.place.mx in
    let y : ℕ = 8 * c.args.place.my in
    let rows : List ℕ = c.rows_mut-cr_rows.result.now in
    let written : List ℕ = c.add_to_square-2.new.samples in
    let sample : ℕ → ℕ → ℕ = chroma_sample c.args.chroma.motion.version c.args.from.cr.now.shown c.args.place.mx c.args.place.my (block_vector c.args.chroma.motion.mode (mode_of c.args.chroma.motion.macroblock.now).vectors) in
    let whole : ℕ → ℕ → ℕ = restored 8 20 (option_copied c.args.residual) sample in
    let predicted = rw (c.stride-across.ensures.value ∙ c.requires.strides) at c.whole_chroma_samples.ensures.cr in
    let added = rw (c.stride-across.ensures.value ∙ c.requires.strides) at c.add_to_square-2.ensures in
    let is = restored_placed 8 20 (option_copied c.args.residual) sample across x y rows c.whole_chroma_samples.new.cr written predicted added in
    lent_block c.args.cr.now x y 8 whole rows written c.requires.cr_within.0 c.requires.cr_within.1 c.rows_mut-cr_rows.ensures.value c.rows_mut-cr_rows.ensures.len is
