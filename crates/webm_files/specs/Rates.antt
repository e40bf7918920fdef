-- The frame rate of a video.
use Rattle.std.specs.Prelude.{◌≡◌, ℕ, ◌*◌, ◌^◌, ◌<◌}
use Rattle.stream_files.specs.declared.streams.Head.{Head}
use Rattle.stream_files.specs.declared.streams.FrameRate.{FrameRate}
use Rattle.webm_files.specs.Tracks.{IsLowest}

-- in lowest terms the numbers of a fraction have 32 bits, and neither is 0
pub record IsSmall (a b : ℕ) : Type 0 where
  pub first : 0 < a
  pub second : 0 < b
  pub rate : ℕ
  pub scale : ℕ
  pub lowest : IsLowest rate scale a b
  pub rate_fits : rate < 2 ^ 32
  pub scale_fits : scale < 2 ^ 32

-- the frames of a second: 10^9 / duration, if a frame is shown for so many nanoseconds; else one for each `step` units of the time base; else the time base.
-- The first of these that has 32 bits in lowest terms.
pub record IsFrameRate (head : Head) (duration step : ℕ) (found : FrameRate) : Type 0 where
  pub by_duration : IsSmall 1000000000 duration → IsLowest found.rate found.scale 1000000000 duration
  pub by_step : ¬ IsSmall 1000000000 duration → IsSmall head.rate (head.scale * step) → IsLowest found.rate found.scale head.rate (head.scale * step)
  pub by_base : ¬ IsSmall 1000000000 duration → ¬ IsSmall head.rate (head.scale * step) → (found.rate ≡ head.rate) × (found.scale ≡ head.scale)
