use Rattle.std.proofs.Common.{◌≡◌, ◌*◌, ◌-◌, min, length}
use Rattle.std.specs.Option.{option_copied}
use Rattle.pixel_planes.specs.PlaneSamples.{shown_of}
use Rattle.reference_frames.specs.FrameTokens.{flag_at, residual_at}
use Rattle.reference_frames.specs.FrameTokenValue.{state_of}
use Rattle.reference_frames.specs.Rows.{AreRead}
use Rattle.reference_frames.specs.Unfiltered.{SameShape}
use Rattle.reference_frames.proofs.FilteredRows.{IsDone}
use Rattle.reference_frames.proofs.frames.decode_rows.Given as goal

abbrev pub invariant-loop-my : goal.invariant-loop-my
invariant-loop-my l = record {
  read : AreRead l.frame.header.now l.frame.raster.columns (state_of l.initial.tokens) l.frame.raster.modes.now (min l.my l.frame.raster.rows * l.frame.raster.columns) (state_of l.tokens) l.flags.items;
  done : IsDone l.frame.header.now (flag_at l.frame.header.now l.frame.raster.columns (state_of l.initial.tokens) l.frame.raster.modes.now) l.frame.sources.version (option_copied l.frame.sources.references) l.frame.raster.columns l.frame.raster.rows (shown_of l.initial.planes) l.frame.raster.modes.now
      (residual_at l.frame.header.now l.frame.raster.columns (state_of l.initial.tokens) l.frame.raster.modes.now) (min l.my l.frame.raster.rows) (l.my - 1) (shown_of l.planes);
  readers : length (state_of l.tokens).readers ≡ length (state_of l.initial.tokens).readers;
  above : length (state_of l.tokens).above ≡ length (state_of l.initial.tokens).above;
  sides : SameShape (shown_of l.initial.planes) (shown_of l.planes);
}
