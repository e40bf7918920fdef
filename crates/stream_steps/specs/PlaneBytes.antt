-- The bytes of a plane of a decoded picture.
use Rattle.std.specs.Prelude.{ℕ, ◌*◌}
use Rattle.pixel_planes.specs.Layout.{bordered_side}

-- the bytes of a plane of these sides: a byte for each sample, with a border of 32 samples around them
abbrev pub plane_bytes : ℕ → ℕ → ℕ
plane_bytes width height = bordered_side width 32 * bordered_side height 32
