use Rattle.std.proofs.Common.{◌≡◌, refl, ap, ◌∙◌, arith}
use Rattle.reference_frames.proofs.AgreeFrames.{from_planes}
use Rattle.std.specs.Option.{option_copied}
use Rattle.std.proofs.lemmas.Result.{IfOk-weaker}
use Rattle.pixel_planes.specs.Pictures.{macroblocks}
use Rattle.pixel_planes.specs.PlaneSamples.{picture_of, shown_of}
use Rattle.reference_frames.specs.FrameTokens.{flags_of, residual_at, tokens_start}
use Rattle.loop_filter.specs.Frames.{filtered_planes}
use Rattle.reference_frames.specs.Steps.{decoded_picture}
use Rattle.reference_frames.specs.Unfiltered.{unfiltered}
use Rattle.reference_frames.proofs.frames.decoded_picture.Goals as goal

pub returns : goal.returns
unfolding decoded_picture
returns c =
    let columns = macroblocks c.args.blank.width in
    let start = tokens_start c.args.header.now.partitions.items c.args.packet.now columns in
    let from = from_planes c.args.header.now.version (option_copied c.args.references) columns (macroblocks c.args.blank.height) (shown_of c.args.blank.planes) c.args.modes.now.records (residual_at c.args.header.now columns start c.args.modes.now.records) (omega (arith, c.requires.wide.0)) c.requires.each c.requires.shape c.requires.empty in
    let filtered : shown_of c.decode_rows.new.planes ≡ filtered_planes c.args.header.now c.args.modes.now.records (flags_of c.args.header.now columns start c.args.modes.now.records) (unfiltered c.args.header.now.version (option_copied c.args.references) columns (macroblocks c.args.blank.height) c.args.modes.now.records (residual_at c.args.header.now columns start c.args.modes.now.records)) =
    c.in_ok-decode_rows.ensures.value ∙ rw (c.records.ensures, c.in_ok-tokens.ensures, c.deref.ensures.0, c.macroblocks-columns.ensures.value, from) refl in
    IfOk-weaker c.share.result _ _ (λ p h. h ∙ ap (picture_of c.args.blank.width c.args.blank.height) filtered) c.share.ensures
