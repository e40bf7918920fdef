use Rattle.std.specs.Io.KnownBytes.{Appends}
use Rattle.pixel_planes.specs.Pictures.{shown_rows}
use Rattle.stream_files.proofs.y4m.write_plane.Given as goal

abbrev pub invariant-loop-y : goal.invariant-loop-y
invariant-loop-y g l = Appends (g.W.Write.contents l.fn.w) (g.W.Write.contents l.w) (shown_rows l.picture l.component l.y)
