use Rattle.std.proofs.Common.{◌≡◌, ℕ, ◌<◌}
use Rattle.pixel_planes.specs.Samples.{row_of}
use Rattle.pixel_planes.proofs.planes.Plane.same.Given as goal

-- the sides are the same, and so are the rows so far
abbrev pub invariant-loop-y : goal.invariant-loop-y
invariant-loop-y l = record { wide : l.self.shown.width ≡ l.other.shown.width; high : l.self.shown.height ≡ l.other.shown.height; rows : (k : ℕ) → k < l.y → row_of l.self.shown k ≡ row_of l.other.shown k }
