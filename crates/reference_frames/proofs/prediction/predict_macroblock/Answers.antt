use Rattle.std.specs.Option.{option_copied}
use Rattle.std.proofs.Common.{◌∙◌, sym}
use Rattle.mode_parser.specs.RecordList.{mode_of}
use Rattle.pixel_planes.specs.PlaneSamples.{shown_of}
use Rattle.reference_frames.specs.Unfiltered.{predicted_macroblock}
use Rattle.reference_frames.proofs.MacroblockOrder.{by_whole, by_sub_blocks, by_reference}
use Rattle.reference_frames.proofs.prediction.predict_macroblock.Goals as goal

pub returns-in-Whole-clause-value : goal.returns-in-Whole-clause-value
unfolding predicted_macroblock
returns-in-Whole-clause-value c =
    c.predict_intra.ensures.value ∙ sym (by_whole (mode_of c.args.mode.now).y_mode _ c.args.sources.version (option_copied c.args.sources.references) (shown_of c.args.planes.now) c.args.mx c.args.my (mode_of c.args.mode.now) (option_copied c.args.residual) (sym c.y_mode.ensures ∙ c.in-Whole.is))

pub returns-in-B-clause-value : goal.returns-in-B-clause-value
unfolding predicted_macroblock
returns-in-B-clause-value c =
    c.predict_intra-in-B.ensures.value ∙ sym (by_sub_blocks (mode_of c.args.mode.now).y_mode c.args.sources.version (option_copied c.args.sources.references) (shown_of c.args.planes.now) c.args.mx c.args.my (mode_of c.args.mode.now) (option_copied c.args.residual) (sym c.y_mode.ensures ∙ c.in-B.is))

pub returns-in-Inter-clause-value : goal.returns-in-Inter-clause-value
unfolding predicted_macroblock
returns-in-Inter-clause-value c =
    c.predict_referred.ensures.value ∙ sym (by_reference (mode_of c.args.mode.now).y_mode c.in-Inter.reference c.in-Inter.vector_mode c.args.sources.version (option_copied c.args.sources.references) (shown_of c.args.planes.now) c.args.mx c.args.my (mode_of c.args.mode.now) (option_copied c.args.residual) (sym c.y_mode.ensures ∙ c.in-Inter.is))
