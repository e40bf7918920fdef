-- Whole blocks that are predicted in place: among the samples of a plane, whose rows start `across` samples apart (RFC 6386, section 12.2).
use Rattle.std.specs.Prelude.{◌≡◌, ℕ, ◌+◌, ◌-◌, ◌*◌, ◌≤◌, ◌==◌, if◌then◌else◌, List, [], ◌∷◌, map, take, drop, Option, Some, None, slice_index, slice_range}
use Rattle.std.specs.List.{range_with_len}
use Rattle.intra_predict.specs.declared.corners.Corner.{Corner}
use Rattle.intra_predict.specs.declared.modes.WholeMode.{WholeMode}
use Rattle.intra_predict.specs.Blocks.{IsBlockAmong}
use Rattle.intra_predict.specs.Edges.{above_frame, left_of_frame}
use Rattle.intra_predict.specs.WholeSample.{whole_sample}

-- the index of a block's first sample
abbrev pub start_of : Corner → ℕ
start_of corner = corner.across * corner.row + corner.column

-- a block of this side is among so many samples, and its corner is within the limits of a plane
abbrev pub HoldsBlock : Corner → ℕ → ℕ → Type 0
HoldsBlock corner side count = (corner.across ≤ 16512) × (corner.row ≤ 16384) × (corner.column + side ≤ corner.across) × (start_of corner + ((side - 1) * corner.across + side) ≤ count)

-- n samples above a block, from the left, if they are in the frame
abbrev pub above_among : List ℕ → Corner → ℕ → Option (List ℕ)
above_among samples corner n = if corner.row == 0 then None else Some (slice_range samples (start_of corner - corner.across) (start_of corner - corner.across + n))

-- n samples to the left of a block, from the top, if they are in the frame
abbrev pub left_among : List ℕ → Corner → ℕ → Option (List ℕ)
left_among samples corner n = if corner.column == 0 then None else Some (map (λ row. slice_index samples (start_of corner + row * corner.across - 1)) (range_with_len 0 n))

-- the sample above the left side: 127 above the frame, and 129 to its left below that
abbrev pub corner_among : List ℕ → Corner → ℕ
corner_among samples corner = if corner.row == 0 then above_frame else (if corner.column == 0 then left_of_frame else slice_index samples (start_of corner - corner.across - 1))

-- the intra sample in each column and row of a whole block of this side, by the samples around it
abbrev pub whole_among : WholeMode → List ℕ → Corner → ℕ → ℕ → ℕ → ℕ
whole_among mode samples corner side = whole_sample mode (above_among samples corner side) (left_among samples corner side) (corner_among samples corner)

-- the block of `width` by `height` samples that starts at index `start` of `new`, in rows `stride` samples apart, has the samples that `sample` returns, and every other sample is as in `old`
pub record IsBlockFrom (sample : ℕ → ℕ → ℕ) (start width height stride : ℕ) (old new : List ℕ) : Type 0 where
  pub before : take start new ≡ take start old
  pub block : IsBlockAmong sample width height stride (drop start old) (drop start new)

-- nine samples in rows of three, and the corner of a block among them
abbrev pub worked_rows : List ℕ
worked_rows = 1 ∷ 2 ∷ 3 ∷ 4 ∷ 5 ∷ 6 ∷ 7 ∷ 8 ∷ 9 ∷ []

abbrev pub worked_corner : ℕ → ℕ → Corner
worked_corner column row = record { across = 3; column = column; row = row }
