-- The room for a plane: its rows lie a stride apart.
use Rattle.std.specs.Prelude.{ℕ, zero, suc, ◌+◌, ◌-◌, ◌*◌, ◌≤◌, List, ◌++◌, take, drop, length}
use Rattle.pixel_planes.specs.Pictures.{PictureSamples, shown_height, shown_row_of, shown_width}
use Rattle.pixel_planes.specs.declared.pictures.Component.{Component}

-- a room after bytes were put at a place
abbrev pub with_bytes : ℕ → List ℕ → List ℕ → List ℕ
with_bytes at bytes room = take at room ++ bytes ++ drop (at + length bytes) room

-- a room after the first shown rows of a component were put in it, each a stride after the one before
abbrev pub with_rows : PictureSamples → Component → ℕ → ℕ → List ℕ → List ℕ
with_rows picture component stride zero room = room
with_rows picture component stride (suc y) room = with_bytes (y * stride) (shown_row_of picture component y) (with_rows picture component stride y room)

-- a room after all shown rows of a component
abbrev pub with_plane : PictureSamples → Component → ℕ → List ℕ → List ℕ
with_plane picture component stride room = with_rows picture component stride (shown_height picture component) room

-- the number of bytes from the first row's first sample to the last row's last one
abbrev pub span_of : PictureSamples → Component → ℕ → ℕ
span_of picture component stride = (shown_height picture component - 1) * stride + shown_width picture component

-- a plane fits: its rows do not reach into each other, and the last one ends within the room
abbrev pub Fits : PictureSamples → Component → ℕ → List ℕ → Type 0
Fits picture component stride room = (shown_width picture component ≤ stride) × (span_of picture component stride ≤ length room)
