-- Properties of the definitions of the unfiltered picture, sample by sample.
use Rattle.std.specs.Prelude.{◌≡◌, ℕ, ◌-◌, ◌*◌, ◌<◌, nat_lt, if◌then◌else◌, true, List, length, replicate, slice_get, Option, Some}
use Rattle.intra_predict.specs.declared.modes.SubMode.TheVariants.{Dc}
use Rattle.intra_predict.specs.declared.modes.WholeMode.TheVariants.{Dc as WholeDc}
use Rattle.mode_parser.specs.declared.records.MbMode.{MbMode}
use Rattle.mode_parser.specs.declared.records.YMode.TheVariants.{B}
use Rattle.pixel_planes.specs.Samples.{Samples, IsWhole, sample_at}
use Rattle.frame_header.specs.declared.header.Header.{Header}
use Rattle.reference_frames.specs.FrameTokens.{TokenState, residual_at}
use Rattle.reference_frames.specs.PlacedBlocks.{IsInSquare}
use Rattle.reference_frames.specs.Unfiltered.{HoldsSquare, with_block, unfiltered}
use Rattle.reference_frames.specs.declared.references.References.{References}

-- a block that is written has its samples, and every other sample is as it was
abbrev pub WritesOneBlock : Type 0
WritesOneBlock =
    (p : Samples) (x y side : ℕ) (sample : ℕ → ℕ → ℕ) (i j : ℕ) → IsWhole p → HoldsSquare p x y side → i < p.width → j < p.height →
    (IsInSquare x y side i j → sample_at (with_block p x y side sample) i j ≡ sample (i - x) (j - y)) × ((IsInSquare x y side i j → ⊥) → sample_at (with_block p x y side sample) i j ≡ sample_at p i j)

-- the luma sample in each column of row y
abbrev pub luma_of_row : ℕ → ℕ
luma_of_row y = if nat_lt y 4 then 128 else 129

-- a macroblock that is skipped, whose luma is predicted by sub blocks, each of mode DC, and its chroma by mode DC
abbrev pub IsBlank : MbMode → Type 0
IsBlank mode = (mode.y_mode ≡ B) × (mode.sub_modes ≡ replicate 16 Dc) × (mode.uv_mode ≡ WholeDc) × (mode.is_skipped ≡ true)

-- if each record is blank, luma is 128 in the first four rows and 129 below them, and chroma is 128, whatever the token partitions hold
abbrev pub AreFlat : Type 0
AreFlat =
    (version : ℕ) (references : Option References) (header : Header) (start : TokenState) (columns rows : ℕ) (modes : List MbMode) (x y : ℕ) → length modes ≡ columns * rows → ((n : ℕ) (mode : MbMode) → slice_get modes n ≡ Some mode → IsBlank mode) →
    (x < 16 * columns → y < 16 * rows → sample_at (unfiltered version references columns rows modes (residual_at header columns start modes)).luma x y ≡ luma_of_row y)
    × (x < 8 * columns → y < 8 * rows → (sample_at (unfiltered version references columns rows modes (residual_at header columns start modes)).cb x y ≡ 128) × (sample_at (unfiltered version references columns rows modes (residual_at header columns start modes)).cr x y ≡ 128))
