-- The pictures of the packets that decoding accepts.
use Rattle.std.specs.Prelude.{◌≡◌, ℕ, ◌<◌, List, [], slice_get, slice_index, slice_index_or, Some, Ok}
use Rattle.vp8_tables.specs.declared.tables.Tables.{Tables}
use Rattle.frame_header.specs.Tags.{key_size_of}
use Rattle.pixel_planes.specs.Pictures.{IsWholePicture, PictureSamples}
use Rattle.reference_frames.specs.declared.states.State.{State}
use Rattle.stream_steps.specs.Decoding.{outcomes}
use Rattle.stream_refusals.specs.Refusals.{run_start}

-- a picture is whole, and its samples are bytes
pub record HasBytes (picture : PictureSamples) : Type 0 where
  pub whole : IsWholePicture picture
  pub luma : (place : ℕ) → slice_index picture.luma.samples place < 256
  pub cb : (place : ℕ) → slice_index picture.cb.samples place < 256
  pub cr : (place : ℕ) → slice_index picture.cr.samples place < 256

-- the picture of an accepted packet is so, and it has the size in the first packet of its run: the last key packet at its index or before it
pub record IsOfRun (packets : List (List ℕ)) (place : ℕ) (picture : PictureSamples) : Type 0 where
  pub bytes : HasBytes picture
  pub size : key_size_of (slice_index_or packets (run_start packets place) []) ≡ Some (picture.width, picture.height)

abbrev pub PicturesAreOfRuns : Type 0
PicturesAreOfRuns = (tables : Tables) (packets : List (List ℕ)) (place : ℕ) (step : State × PictureSamples) → slice_get (outcomes tables packets) place ≡ Some (Ok step) → IsOfRun packets place step.1
