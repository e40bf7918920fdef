-- The shown samples of the three planes of a picture under construction.
use Rattle.std.specs.Prelude.{ℕ, ◌*◌}
use Rattle.pixel_planes.specs.Samples.{Samples, IsWhole, uniform}
use Rattle.pixel_planes.specs.Pictures.{PictureSamples, HasBlocks}
use Rattle.pixel_planes.specs.declared.pictures.Planes.{Planes}

-- the shown samples of each component
pub record PlaneSamples : Type 0 where
  pub luma : Samples
  pub cb : Samples
  pub cr : Samples

-- the shown samples of three planes
abbrev pub shown_of : Planes → PlaneSamples
shown_of planes = record { luma = planes.luma.shown; cb = planes.cb.shown; cr = planes.cr.shown }

-- the picture of these samples at this shown size
abbrev pub picture_of : ℕ → ℕ → PlaneSamples → PictureSamples
picture_of width height samples = record { width = width; height = height; luma = samples.luma; cb = samples.cb; cr = samples.cr }

-- the planes are whole, and of the size of a picture of this many macroblocks each way
pub record AreWhole (columns rows : ℕ) (planes : PlaneSamples) : Type 0 where
  pub luma : HasBlocks planes.luma 16 columns rows × IsWhole planes.luma
  pub cb : HasBlocks planes.cb 8 columns rows × IsWhole planes.cb
  pub cr : HasBlocks planes.cr 8 columns rows × IsWhole planes.cr

-- the planes of that size whose samples are all 0
abbrev pub zero_planes : ℕ → ℕ → PlaneSamples
zero_planes columns rows = record {
  luma = uniform (16 * columns) (16 * rows) 0;
  cb = uniform (8 * columns) (8 * rows) 0;
  cr = uniform (8 * columns) (8 * rows) 0;
}
