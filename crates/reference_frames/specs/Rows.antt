-- One row of macroblocks after another: what is predicted of it, and what was read of the token partitions.
use Rattle.std.specs.Prelude.{◌≡◌, ℕ, zero, suc, ◌+◌, ◌*◌, Bool, List, map, slice_get, Option}
use Rattle.std.specs.List.{range_with_len}
use Rattle.frame_header.specs.declared.header.Header.{Header}
use Rattle.mode_parser.specs.declared.records.MbMode.{MbMode}
use Rattle.pixel_planes.specs.PlaneSamples.{PlaneSamples}
use Rattle.reference_frames.specs.FrameTokens.{TokenState, flag_at, residual_at, token_state}
use Rattle.reference_frames.specs.Restored.{Residual}
use Rattle.reference_frames.specs.Unfiltered.{predicted_at}
use Rattle.reference_frames.specs.declared.references.References.{References}

-- the planes after the first n macroblocks of row my, from planes of this content
unfoldable pub row_predicted : ℕ → Option References → PlaneSamples → ℕ → ℕ → List MbMode → (ℕ → Residual) → ℕ → PlaneSamples
row_predicted version references planes columns my modes residuals zero = planes
row_predicted version references planes columns my modes residuals (suc n) =
    predicted_at version references (row_predicted version references planes columns my modes residuals n) columns (my * columns + n) (slice_get modes (my * columns + n)) (residuals (my * columns + n))

-- the tokens of the first n macroblocks were read: the state after them, and whether each has one
pub record AreRead (header : Header) (columns : ℕ) (start : TokenState) (modes : List MbMode) (n : ℕ) (state : TokenState) (flags : List Bool) : Type 0 where
  pub same_state : state ≡ token_state header columns start modes n
  pub same_flags : flags ≡ map (flag_at header columns start modes) (range_with_len 0 n)

-- the state of the tokens between macroblocks, the flags so far, and the planes
pub record SoFar : Type 0 where
  pub state : TokenState
  pub flags : List Bool
  pub planes : PlaneSamples

-- where the tokens of the rows above row my were read before, whatever the first state was, those of its first n macroblocks were read after, and each was predicted by the residual of its tokens
abbrev pub DecodesRow : ℕ → Option References → Header → ℕ → List MbMode → ℕ → ℕ → SoFar → SoFar → Type 0
DecodesRow version references header columns modes my n before after =
    (start : TokenState) → AreRead header columns start modes (my * columns) before.state before.flags →
    AreRead header columns start modes (my * columns + n) after.state after.flags × (after.planes ≡ row_predicted version references before.planes columns my modes (residual_at header columns start modes) n)
