use Rattle.std.proofs.Common.{◌≡◌, ◌∙◌, length, ap, refl, List, ℕ}
use Rattle.std.specs.Option.{option_copied}
use Rattle.reference_frames.specs.Steps.{decoded_picture, frame_modes, height_of, references_before, width_of}
use Rattle.reference_frames.proofs.Behind.{has_map, have_one_size, decoded_whole}
use Rattle.reference_frames.proofs.steps.decode.Goals as goal

pub new-requires : goal.new-requires
new-requires c = (
  has_map c.args.packet.now c.args.header.now (option_copied c.args.before) _ c.size_of-width.result.0 c.size_of-width.result.1 c.macroblocks-columns.result c.macroblocks-rows.result c.in_ok-modes.modes.records c.in_ok-picture.picture (record { context = c.args.header.now.context_after; segment_map = c.into_segment_map-segment_map.result.items; references = c.in_ok-references.references })
      c.size_of-width.ensures.width c.size_of-width.ensures.height c.in_ok-picture.ensures c.in_ok-references.ensures c.macroblocks-columns.ensures.value c.macroblocks-rows.ensures.value (ap (λ (map : List ℕ). length map) c.into_segment_map-segment_map.ensures ∙ c.in_ok-modes.ensures.segments),
  have_one_size c.args.packet.now c.args.header.now (option_copied c.args.before) _ c.size_of-width.result.0 c.size_of-width.result.1 c.in_ok-modes.modes.records c.in_ok-picture.picture c.in_ok-references.references
      c.size_of-width.ensures.width c.size_of-width.ensures.height c.in_ok-picture.ensures c.in_ok-references.ensures c.references_before-references.ensures.one_size,
)

pub returns : goal.returns
returns c =
    let modes : c.in_ok-modes.modes ≡ frame_modes c.args.tables.now c.args.header.now (option_copied c.args.before) =
    c.in_ok-modes.ensures.value ∙ rw (c.macroblocks-columns.ensures.value, c.macroblocks-rows.ensures.value, c.size_of-width.ensures.width, c.size_of-width.ensures.height, c.map_before-map.ensures.value) refl in
    let picture : c.in_ok-picture.picture ≡ decoded_picture c.args.packet.now c.args.header.now (references_before (option_copied c.args.before)) (width_of c.args.header.now (option_copied c.args.before)) (height_of c.args.header.now (option_copied c.args.before)) c.in_ok-modes.modes.records =
    c.in_ok-picture.ensures ∙ rw (c.references_before-references.ensures.value, c.size_of-width.ensures.width, c.size_of-width.ensures.height) refl in
    decoded_whole c.args.tables.now c.args.packet.now c.args.header.now (option_copied c.args.before) c.in_ok-modes.modes c.in_ok-picture.picture c.in_ok-references.references c.into_segment_map-segment_map.result.items c.in_ok-state.state
    modes picture c.in_ok-references.ensures c.into_segment_map-segment_map.ensures c.in_ok-state.ensures
