-- The planes of a picture under construction.
use Rattle.std.specs.Prelude.{◌≡◌, ℕ, ◌<◌, Option, None, Some, IsSome}
use Rattle.pixel_planes.specs.Samples.{PlaneValue, IsWhole, sample_at}
use Rattle.pixel_planes.specs.Pictures.{PictureSamples, HasBlocks, macroblocks, side_of}
use Rattle.pixel_planes.specs.declared.pictures.Component.{Component}
use Rattle.pixel_planes.specs.declared.pictures.Component.TheVariants.{Luma, Cb, Cr}
use Rattle.script_nodes.specs.declared.faults.ApplyFault.{ApplyFault}
use Rattle.script_nodes.specs.declared.faults.ApplyFault.TheVariants.{CropOutside, NoMemory}
use Rattle.script_nodes.specs.Shown.{Shown, Shows}

-- the width and height of a macroblock in this component
abbrev pub block_side : Component → ℕ
block_side Luma = 16
block_side Cb = 8
block_side Cr = 8

-- a plane has the coded size of this component of a picture of this shown size, and a sample at each position
pub record IsCodedPlane (component : Component) (width height : ℕ) (plane : PlaneValue) : Type 0 where
  pub blocks : HasBlocks plane.shown (block_side component) (macroblocks width) (macroblocks height)
  pub whole : IsWhole plane.shown

-- in the first `rows` rows such a plane shows these samples
pub record HasRows (component : Component) (width height : ℕ) (sample : ℕ → ℕ → ℕ) (rows : ℕ) (plane : PlaneValue) : Type 0 where
  pub coded : IsCodedPlane component width height plane
  pub each : (x y : ℕ) → x < side_of component width → y < rows → sample_at plane.shown x y ≡ sample x y

-- a picture shows the result of steps
abbrev pub ShowsMade : Option Shown → PictureSamples → Type 0
ShowsMade None p = ⊥
ShowsMade (Some shown) p = Shows p shown

-- what an error means for the result of steps: there is none, as one of them crops past its size; or there is one, and no memory for it
abbrev pub RefusesMade : Option Shown → ApplyFault → Type 0
RefusesMade made CropOutside = made ≡ None
RefusesMade made NoMemory = IsSome made
