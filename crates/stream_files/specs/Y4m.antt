-- The text of a YUV4MPEG2 stream: a line, and then each frame.
use Rattle.std.specs.Prelude.{ℕ, List, [], ◌∷◌, ◌++◌, ◌==◌, ◌||◌, if◌then◌else◌, codes}
use Rattle.std.specs.Fmt.{decimal}
use Rattle.pixel_planes.specs.Pictures.{PictureSamples, shown_plane}
use Rattle.pixel_planes.specs.declared.pictures.Component.TheVariants.{Luma, Cb, Cr}
use Rattle.stream_files.specs.declared.y4m.WriteFault.{WriteFault}
use Rattle.stream_files.specs.declared.y4m.WriteFault.TheVariants.{Write}

-- the error's name
abbrev pub write_fault_word : WriteFault → List ℕ
write_fault_word Write = codes "Write"

abbrev pub fraction : ℕ → ℕ → List ℕ
fraction rate scale = decimal rate ++ codes ":" ++ decimal scale

-- the frame rate as a fraction, or 30 if it is not one
abbrev pub rate_text : ℕ → ℕ → List ℕ
rate_text rate scale = if rate == 0 || scale == 0 then codes "30:1" else fraction rate scale

-- a line with this size and this frame rate, and its newline
abbrev pub line_of : ℕ → ℕ → List ℕ → List ℕ
line_of width height rate =
    codes "YUV4MPEG2 W" ++ decimal width ++ codes " H" ++ decimal height ++ codes " F" ++ rate ++ codes " Ip C420jpeg" ++ 10 ∷ []

-- the first line of a stream
abbrev pub y4m_line : ℕ → ℕ → ℕ → ℕ → List ℕ
y4m_line width height rate scale = line_of width height (rate_text rate scale)

-- a frame: its mark, and the shown samples of its three planes by rows
abbrev pub frame_text : PictureSamples → List ℕ
frame_text picture = codes "FRAME" ++ 10 ∷ [] ++ shown_plane picture Luma ++ shown_plane picture Cb ++ shown_plane picture Cr
