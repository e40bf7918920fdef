-- The model of a picture: its shown size and its three planes.
use Rattle.std.specs.Prelude.{◌≡◌, ℕ, zero, suc, ◌+◌, ◌*◌, ◌/◌, ◌<◌, ◌≤◌, ◌&&◌, nat_le, nat_lt, Bool, List, [], ◌++◌, take}
use Rattle.pixel_planes.specs.Samples.{Samples, IsWhole, row_of}
use Rattle.pixel_planes.specs.declared.pictures.Component.{Component}
use Rattle.pixel_planes.specs.declared.pictures.Component.TheVariants.{Luma, Cb, Cr}

-- the shown size in luma samples, and the planes of coded size
pub record PictureSamples : Type 0 where
  pub width : ℕ
  pub height : ℕ
  pub luma : Samples
  pub cb : Samples
  pub cr : Samples

-- the side of a chroma plane that goes with a luma side: half of it, rounded up
abbrev pub half_side : ℕ → ℕ
half_side n = (n + 1) / 2

-- whether a frame can have this width or height: each has 14 bits (RFC 6386, section 9.1)
abbrev pub is_side : ℕ → Bool
is_side side = nat_lt 0 side && nat_le side 16383

-- the number of macroblocks of 16 samples that cover a shown side
abbrev pub macroblocks : ℕ → ℕ
macroblocks n = (n + 15) / 16

-- a plane has this many macroblocks of these sides each way
abbrev pub HasBlocks : Samples → ℕ → ℕ → ℕ → Type 0
HasBlocks p side columns rows = (p.width ≡ side * columns) × (p.height ≡ side * rows)

-- the planes have the coded size of a picture of this shown size
abbrev pub AreCoded : ℕ → ℕ → Samples → Samples → Samples → Type 0
AreCoded width height luma cb cr =
    HasBlocks luma 16 (macroblocks width) (macroblocks height) × HasBlocks cb 8 (macroblocks width) (macroblocks height) × HasBlocks cr 8 (macroblocks width) (macroblocks height)

-- the shown sides are 1 to 16,383, and the planes are whole and of coded size
abbrev pub IsWholePicture : PictureSamples → Type 0
IsWholePicture p =
    (0 < p.width) × (p.width ≤ 16383) × (0 < p.height) × (p.height ≤ 16383) × AreCoded p.width p.height p.luma p.cb p.cr × IsWhole p.luma × IsWhole p.cb × IsWhole p.cr

-- the plane of a component
abbrev pub plane_of : PictureSamples → Component → Samples
plane_of p Luma = p.luma
plane_of p Cb = p.cb
plane_of p Cr = p.cr

-- a luma side as a side of this component
abbrev pub side_of : Component → ℕ → ℕ
side_of Luma n = n
side_of Cb n = half_side n
side_of Cr n = half_side n

-- the number of samples of a row of this component that are shown
abbrev pub shown_width : PictureSamples → Component → ℕ
shown_width p component = side_of component p.width

-- the number of rows of this component that are shown
abbrev pub shown_height : PictureSamples → Component → ℕ
shown_height p component = side_of component p.height

-- shown row y of this component
abbrev pub shown_row_of : PictureSamples → Component → ℕ → List ℕ
shown_row_of p component y = take (shown_width p component) (row_of (plane_of p component) y)

-- the first n shown rows of this component, concatenated
abbrev pub shown_rows : PictureSamples → Component → ℕ → List ℕ
shown_rows p component zero = []
shown_rows p component (suc n) = shown_rows p component n ++ shown_row_of p component n

-- all shown rows of this component, concatenated
abbrev pub shown_plane : PictureSamples → Component → List ℕ
shown_plane p component = shown_rows p component (shown_height p component)
