-- The length of a frame.
use Rattle.std.specs.Prelude.{ℕ, ◌+◌, ◌*◌, ◌/◌}
use Rattle.frame_session.specs.declared.size.Size.{Size}

-- the number of bytes of a frame of this size in a YUV4MPEG2 text: its mark and its samples
abbrev pub frame_length : Size → ℕ
frame_length size = 6 + size.width * size.height + 2 * ((size.width + 1) / 2 * ((size.height + 1) / 2))
