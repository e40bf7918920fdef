-- What forged packets decode to.
use Rattle.std.specs.Prelude.{◌≡◌, ℕ, ◌*◌, ◌<◌, true, List, length, slice_index, Option, Some, Ok, IsOkAnd}
use Rattle.vp8_tables.specs.Tables.{TableEntries}
use Rattle.pixel_planes.specs.Samples.{Samples, uniform}
use Rattle.pixel_planes.specs.Pictures.{PictureSamples, IsWholePicture, macroblocks}
use Rattle.frame_header.specs.Tags.{is_shown}
use Rattle.reference_frames.specs.Steps.{step_of}
use Rattle.reference_frames.specs.declared.states.State.{State}
use Rattle.packet_forge.specs.Packets.{blank_of, hold_of}

-- the picture of this shown size whose samples are all 128, in whole macroblocks
abbrev pub grey_picture : ℕ → ℕ → PictureSamples
grey_picture width height = record {
  width = width;
  height = height;
  luma = uniform (16 * macroblocks width) (16 * macroblocks height) 128;
  cb = uniform (8 * macroblocks width) (8 * macroblocks height) 128;
  cr = uniform (8 * macroblocks width) (8 * macroblocks height) 128;
}

-- a blank packet is shown, and its step from a state or none returns, with the same tables, a picture of its size that is 128 throughout
abbrev pub BlankIsGrey : TableEntries → Option State → ℕ → ℕ → Type 0
BlankIsGrey tables state width height =
    (packet : List ℕ) → blank_of tables width height ≡ Ok packet → (is_shown packet ≡ true) × IsOkAnd (step_of tables state packet) (λ decoded. decoded.1 ≡ grey_picture width height)

-- there are as many update probabilities as the RFC has, and each is a byte
abbrev pub AreUpdates : TableEntries → Type 0
AreUpdates tables = (length tables.updates ≡ 1056) × ((place : ℕ) → slice_index tables.updates place < 256)

-- the samples of a plane are bytes
abbrev pub AreBytes : Samples → Type 0
AreBytes plane = (place : ℕ) → slice_index plane.samples place < 256

-- the last reference of a state is a whole picture, whose samples are bytes
pub record HasLast (state : State) : Type 0 where
  pub whole : IsWholePicture state.references.last
  pub luma : AreBytes state.references.last.luma
  pub cb : AreBytes state.references.last.cb
  pub cr : AreBytes state.references.last.cr

-- a hold packet of a state's size is shown, and its step from that state returns, with the same tables, the last reference as its picture and leaves every reference as it was
abbrev pub HoldShowsLast : Type 0
HoldShowsLast =
    (tables : TableEntries) (state : State) (packet : List ℕ) → AreUpdates tables → HasLast state → hold_of tables state.references.last.width state.references.last.height ≡ Ok packet →
    (is_shown packet ≡ true) × IsOkAnd (step_of tables (Some state) packet) (λ decoded. (decoded.1 ≡ state.references.last) × (decoded.0.references ≡ state.references))
