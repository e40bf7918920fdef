-- A block whose border is filled.
use Rattle.std.specs.Prelude.{slice_range}
use Rattle.std.proofs.Common.{◌≡◌, ℕ, ◌+◌, ◌-◌, ◌*◌, ◌<◌, min, List, ◌∙◌, arith}
use Rattle.pixel_planes.specs.Samples.{Samples, row_of}
use Rattle.pixel_planes.specs.Layout.{bordered_side, bordered_row, IsBordered, HasEdgesRepeated}

-- the rows of a plane with their border, of which the first and the last were repeated
pub surrounded : (p : Samples) (border : ℕ) (before items : List ℕ) → 0 < p.height → ((y : ℕ) → y < p.height → slice_range before ((border + y) * bordered_side p.width border) ((border + y) * bordered_side p.width border + bordered_side p.width border) ≡ bordered_row border (row_of p y)) → HasEdgesRepeated (bordered_side p.width border) p.height border before items → IsBordered p border items
surrounded p border before items high rows edges = record { rows = λ row within. edges row within ∙ rows (min (row - border) (p.height - 1)) (omega arith) }
