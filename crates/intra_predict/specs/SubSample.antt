-- The samples that the modes of sub blocks of 4 by 4 samples predict (RFC 6386, section 12.3).
use Rattle.std.specs.Prelude.{ℕ, ◌+◌, ◌-◌, ◌/◌, ◌%◌, ◌==◌, nat_lt, if◌then◌else◌, List, ◌++◌, take, min, slice_index}
use Rattle.intra_predict.specs.declared.modes.SubMode.{SubMode}
use Rattle.intra_predict.specs.declared.modes.SubMode.TheVariants.{Dc, Tm, Ve, He, Ld, Rd, Vr, Vl, Hd, Hu}
use Rattle.intra_predict.specs.Means.{mean_of, mean_of_two, mean_of_three, gradient}

-- the sample of the left side in this row; below it the last one repeats
abbrev pub left_at : List ℕ → ℕ → ℕ
left_at left row = slice_index left (min row 3)

-- the sample above this column, of which there are eight; after them the last one repeats
abbrev pub above_at : List ℕ → ℕ → ℕ
above_at above column = slice_index above (min column 7)

-- the edge E round the block, from its lower left end: four samples of the left side upwards, the corner, and those above
abbrev pub edge_at : List ℕ → ℕ → List ℕ → ℕ → ℕ
edge_at left corner above k = if nat_lt k 4 then slice_index left (3 - k) else (if k == 4 then corner else above_at above (k - 5))

-- the mean of the two samples starting at index k
abbrev pub two_from : (ℕ → ℕ) → ℕ → ℕ
two_from samples k = mean_of_two (samples k) (samples (k + 1))

-- the mean of the three samples starting at index k
abbrev pub three_from : (ℕ → ℕ) → ℕ → ℕ
three_from samples k = mean_of_three (samples k) (samples (k + 1)) (samples (k + 2))

-- B_VR_PRED, B_VL_PRED, B_HD_PRED and B_HU_PRED (RFC 6386, section 12.3): the sample in this column of this row, from the edge, from
-- the samples above, from the edge and from those of the left side: means of two samples and of three take turns, and at one end
-- there are only means of three
abbrev pub vertical_right : (edge : ℕ → ℕ) → (column row : ℕ) → ℕ
vertical_right edge column row =
    if nat_lt column (row / 2)
    then three_from edge (4 - row)
    else (if row % 2 == 0 then two_from edge (4 + column - row / 2) else three_from edge (3 + column - row / 2))

abbrev pub vertical_left : (above : ℕ → ℕ) → (column row : ℕ) → ℕ
vertical_left above column row =
    if nat_lt 3 (column + row / 2)
    then three_from above (row + 2)
    else (if row % 2 == 0 then two_from above (column + row / 2) else three_from above (column + row / 2))

abbrev pub horizontal_down : (edge : ℕ → ℕ) → (column row : ℕ) → ℕ
horizontal_down edge column row =
    if nat_lt row (column / 2)
    then three_from edge (column + 2)
    else (if column % 2 == 0 then two_from edge (3 + column / 2 - row) else three_from edge (3 + column / 2 - row))

abbrev pub horizontal_up : (left : ℕ → ℕ) → (column row : ℕ) → ℕ
horizontal_up left column row = if column % 2 == 0 then two_from left (row + column / 2) else three_from left (row + column / 2)

-- the intra sample of a sub block in this column of this row, over the four samples of the left side, the corner and the eight samples
-- above
unfoldable pub sub_sample : SubMode → (left : List ℕ) → (corner : ℕ) → (above : List ℕ) → (column row : ℕ) → ℕ
sub_sample Dc left corner above column row = mean_of (take 4 above ++ left)
sub_sample Tm left corner above column row = gradient (slice_index left row) (slice_index above column) corner
sub_sample Ve left corner above column row = three_from (edge_at left corner above) (4 + column)
sub_sample He left corner above column row = mean_of_three (edge_at left corner above (4 - row)) (left_at left row) (left_at left (row + 1))
sub_sample Ld left corner above column row = three_from (above_at above) (column + row)
sub_sample Rd left corner above column row = three_from (edge_at left corner above) (3 + column - row)
sub_sample Vr left corner above column row = vertical_right (edge_at left corner above) column row
sub_sample Vl left corner above column row = vertical_left (above_at above) column row
sub_sample Hd left corner above column row = horizontal_down (edge_at left corner above) column row
sub_sample Hu left corner above column row = horizontal_up (left_at left) column row
