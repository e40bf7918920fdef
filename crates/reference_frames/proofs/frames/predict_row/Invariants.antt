use Rattle.std.proofs.Common.{◌≡◌, length}
use Rattle.std.specs.Option.{option_copied}
use Rattle.pixel_planes.specs.PlaneSamples.{shown_of}
use Rattle.reference_frames.specs.FrameTokenValue.{state_of}
use Rattle.reference_frames.specs.Rows.{DecodesRow}
use Rattle.reference_frames.specs.Unfiltered.{SameShape}
use Rattle.reference_frames.proofs.frames.predict_row.Given as goal

abbrev pub invariant-loop-mx : goal.invariant-loop-mx
invariant-loop-mx l = record {
  value : DecodesRow l.frame.sources.version (option_copied l.frame.sources.references) l.frame.header.now l.columns l.modes l.my l.mx
      (record { state = state_of l.initial.tokens; flags = l.initial.flags.items; planes = shown_of l.initial.planes }) (record { state = state_of l.tokens; flags = l.flags.items; planes = shown_of l.planes });
  readers : length (state_of l.tokens).readers ≡ length (state_of l.initial.tokens).readers;
  above : length (state_of l.tokens).above ≡ length (state_of l.initial.tokens).above;
  sides : SameShape (shown_of l.initial.planes) (shown_of l.planes);
}
