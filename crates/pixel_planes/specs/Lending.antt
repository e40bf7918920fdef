-- The plane after one of its rows was lent.
use Rattle.std.specs.Prelude.{ℕ, List}
use Rattle.std.specs.Borrow.{Lends, MutBor, Fml, Array, u8}
use Rattle.pixel_planes.specs.Samples.{PlaneValue, with_row_written, with_samples_written}
use Rattle.pixel_planes.specs.Layout.{with_rows_written}
use Rattle.pixel_planes.specs.contracts.planes.Plane.{the_row}

-- the plane's shown row y becomes the final value of the lent row
abbrev pub LendsRow : MutBor PlaneValue → ℕ → MutBor (List ℕ) → Fml
LendsRow plane y row = Lends the_row (Array u8 0) plane row (with_row_written plane.now y)

-- the plane's shown samples become the final value of the lent ones
abbrev pub LendsSamples : MutBor PlaneValue → MutBor (List ℕ) → Fml
LendsSamples plane samples = Lends the_row (Array u8 0) plane samples (with_samples_written plane.now)

-- the plane's shown rows become those of the final value of the lent samples, in which they start as far apart as a row with its border is wide
abbrev pub LendsRows : MutBor PlaneValue → MutBor (List ℕ) → Fml
LendsRows plane rows = Lends the_row (Array u8 0) plane rows (with_rows_written plane.now)
