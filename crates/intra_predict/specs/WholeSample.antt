-- The samples that the modes of whole blocks predict (RFC 6386, section 12.2).
use Rattle.std.specs.Prelude.{ℕ, List, [], ◌++◌, Option, Some, None, slice_index}
use Rattle.intra_predict.specs.declared.modes.BlockSize.{BlockSize}
use Rattle.intra_predict.specs.declared.modes.BlockSize.TheVariants.{Sixteen, Eight}
use Rattle.intra_predict.specs.declared.modes.WholeMode.{WholeMode}
use Rattle.intra_predict.specs.declared.modes.WholeMode.TheVariants.{Dc, V, H, Tm}
use Rattle.intra_predict.specs.Edges.{above_frame, left_of_frame}
use Rattle.intra_predict.specs.Means.{mean_of, gradient}

-- how many samples a row of a block has, and how many rows there are
abbrev pub side_of : BlockSize → ℕ
side_of Sixteen = 16
side_of Eight = 8

-- the samples of a side that is inside the frame
abbrev pub inside : Option (List ℕ) → List ℕ
inside None = []
inside (Some samples) = samples

-- the sample above a column; 127 if the side is above the frame
abbrev pub above_at : Option (List ℕ) → ℕ → ℕ
above_at None column = above_frame
above_at (Some above) column = slice_index above column

-- the sample to the left of a row; 129 if the side is to the left of the frame
abbrev pub left_at : Option (List ℕ) → ℕ → ℕ
left_at None row = left_of_frame
left_at (Some left) row = slice_index left row

-- the intra sample of a whole block in this column of this row; a side that is None is outside the frame
unfoldable pub whole_sample : WholeMode → Option (List ℕ) → Option (List ℕ) → ℕ → ℕ → ℕ → ℕ
whole_sample Dc above left corner column row = mean_of (inside above ++ inside left)
whole_sample V above left corner column row = above_at above column
whole_sample H above left corner column row = left_at left row
whole_sample Tm above left corner column row = gradient (left_at left row) (above_at above column) corner
