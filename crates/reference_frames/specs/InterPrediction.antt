-- The samples of a macroblock that is predicted from a reference (RFC 6386, sections 16.3 and 18).
use Rattle.std.specs.Prelude.{◌≡◌, ℕ, false, ◌+◌, ◌*◌, ◌/◌, ◌==◌, if◌then◌else◌, List, slice_index_or, ℤ, pos, ◌*ℤ◌}
use Rattle.inter_predict.specs.InterSample.{inter_sample}
use Rattle.inter_predict.specs.declared.kinds.Kind.{Kind}
use Rattle.inter_predict.specs.declared.kinds.Kind.TheVariants.{SixTap, Bilinear}
use Rattle.mode_parser.specs.ChromaVectors.{group_vector}
use Rattle.mode_parser.specs.SplitModes.{is_split}
use Rattle.mode_parser.specs.Vectors.{MotionVector, zero_vector}
use Rattle.mode_parser.specs.declared.records.VectorMode.{VectorMode}
use Rattle.pixel_planes.specs.Samples.{Samples}

-- the filters of a version: of six taps in version 0, of two in the others (section 9.1)
abbrev pub kind_of : ℕ → Kind
kind_of version = if version == 0 then SixTap else Bilinear

-- the vector of luma block n: its own if the macroblock is split, else the last block's (section 16.3)
abbrev pub block_vector : VectorMode → List MotionVector → ℕ → MotionVector
block_vector mode vectors n = slice_index_or vectors (if is_split mode then n else 15) zero_vector

-- the luma block that has the sample in a column and row of the macroblock
abbrev pub luma_block : ℕ → ℕ → ℕ
luma_block column row = 4 * (row / 4) + column / 4

-- the sample in a column and row of the luma of the macroblock in column mx of row my; vectors count quarters of a luma sample (section 18)
abbrev pub luma_sample : Kind → Samples → ℕ → ℕ → (ℕ → MotionVector) → ℕ → ℕ → ℕ
luma_sample kind p mx my vector_of column row =
    let vector = vector_of (luma_block column row) in
    inter_sample kind p (pos (16 * mx + column)) (pos (16 * my + row)) (pos 2 *ℤ vector.x) (pos 2 *ℤ vector.y)

-- the group of two by two luma blocks over the sample in a column and row of the macroblock's chroma
abbrev pub chroma_group : ℕ → ℕ → ℕ
chroma_group column row = 2 * (row / 4) + column / 4

-- the sample in a column and row of a chroma plane of that macroblock
abbrev pub chroma_sample : ℕ → Samples → ℕ → ℕ → (ℕ → MotionVector) → ℕ → ℕ → ℕ
chroma_sample version p mx my vector_of column row =
    let vector = group_vector version vector_of (chroma_group column row) in
    inter_sample (kind_of version) p (pos (8 * mx + column)) (pos (8 * my + row)) vector.0 vector.1

-- the vector that each group of a macroblock has which is not split
abbrev pub IsWholeVector : ℕ → VectorMode → List MotionVector → ℤ × ℤ → Type 0
IsWholeVector version mode vectors vector =
    let of_group = group_vector version (block_vector mode vectors) 0 in
    is_split mode ≡ false → (vector.0 ≡ of_group.0) × (vector.1 ≡ of_group.1)
