-- The text of a frame, for any picture that shows it.
use Rattle.std.specs.Prelude.{ℕ, zero, suc, ◌+◌, List, [], ◌∷◌, ◌++◌, codes}
use Rattle.pixel_planes.specs.Pictures.{side_of}
use Rattle.pixel_planes.specs.declared.pictures.Component.{Component}
use Rattle.pixel_planes.specs.declared.pictures.Component.TheVariants.{Luma, Cb, Cr}
use Rattle.script_nodes.specs.Shown.{Shown}

-- n samples of row y, starting at column x
abbrev pub row_from : (ℕ → ℕ → ℕ) → ℕ → ℕ → ℕ → List ℕ
row_from sample y x zero = []
row_from sample y x (suc n) = sample x y ∷ row_from sample y (x + 1) n

-- the first n rows of this width in sequence
abbrev pub rows_to : (ℕ → ℕ → ℕ) → ℕ → ℕ → List ℕ
rows_to sample width zero = []
rows_to sample width (suc n) = rows_to sample width n ++ row_from sample n 0 width

-- the shown samples of a component by rows
abbrev pub samples_of : Shown → Component → List ℕ
samples_of shown component = rows_to (shown.sample component) (side_of component shown.width) (side_of component shown.height)

-- a frame: its mark, and the shown samples of its three components by rows
abbrev pub shown_text : Shown → List ℕ
shown_text shown = codes "FRAME" ++ 10 ∷ [] ++ samples_of shown Luma ++ samples_of shown Cb ++ samples_of shown Cr
