use Rattle.std.proofs.Common.{ℕ, List, ◌++◌}
use Rattle.md5.specs.Md5.{Holds}
use Rattle.pixel_planes.specs.Pictures.{shown_rows}
use Rattle.stream_checks.proofs.samples.add_plane.Given as goal

abbrev pub invariant-loop-y : goal.invariant-loop-y
invariant-loop-y l = (m : List ℕ) → Holds l.fn.hasher m → Holds l.hasher (m ++ shown_rows l.picture l.component l.y)
