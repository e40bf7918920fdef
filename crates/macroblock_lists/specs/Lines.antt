-- The line of a macroblock: columns between tabs, and `-` for a fact that it does not have.
use Rattle.std.specs.Prelude.{ℕ, List, ◌++◌, codes, slice_index_or, Option, Some, None, ℤ}
use Rattle.std.specs.Fmt.{decimal}
use Rattle.intra_predict.specs.declared.modes.WholeMode.{WholeMode}
use Rattle.intra_predict.specs.declared.modes.SubMode.{SubMode}
use Rattle.mode_parser.specs.declared.records.MbMode.{MbMode}
use Rattle.mode_parser.specs.declared.records.Split.{Split as Parts}
use Rattle.mode_parser.specs.declared.records.YMode.{YMode}
use Rattle.mode_parser.specs.declared.records.YMode.TheVariants.{Whole, B, Inter}
use Rattle.mode_parser.specs.declared.records.VectorMode.{VectorMode}
use Rattle.mode_parser.specs.declared.records.VectorMode.TheVariants.{Zero, Nearest, Near, New, Split}
use Rattle.mode_parser.specs.Vectors.{MotionVector, zero_vector}
use Rattle.loop_filter.specs.declared.edge_limits.Limits.{Limits}
use Rattle.stream_facts.specs.Lines.{column, number}
use Rattle.macroblock_lists.specs.declared.macroblocks.Macroblock.{Macroblock}
use Rattle.macroblock_lists.specs.declared.layouts.Form.TheVariants as forms
use Rattle.macroblock_lists.specs.Coefficients.{count_of, greatest_of}
use Rattle.macroblock_lists.specs.Names.{luma_name, reference_name, split_name, whole_name}
use Rattle.macroblock_lists.specs.Parts.{bit_text, blocks_text, modes_text, vector_text, vectors_text}

-- the names of the columns
abbrev pub head_line : List ℕ
head_line = codes "packet\tcolumn\trow\tsegment\tskip\treference\tluma\tchroma\tparts\tsplit\tvector\tquantizer\tlevel\tinterior_limit\thev_threshold\tmbedge_limit\tsub_bedge_limit\tinner\tblocks\tcoefficients\tgreatest\tmode_bits\ttoken_bits\n"

abbrev pub none : List ℕ
none = codes "-\t"

-- the packet, the column and the row, and the segment
abbrev pub place_columns : ℕ → Macroblock → List ℕ
place_columns packet macroblock = number packet ++ number macroblock.column ++ number macroblock.row ++ number macroblock.mode.segment

-- whether it is skipped, the reference, the luma mode
abbrev pub mode_columns : MbMode → List ℕ
mode_columns mode = column (bit_text mode.is_skipped) ++ column (reference_name mode.y_mode) ++ column (luma_name mode.y_mode)

-- the chroma mode, which a macroblock with a reference does not have
abbrev pub chroma_column : YMode → WholeMode → List ℕ
chroma_column (Whole mode) chroma = column (whole_name chroma)
chroma_column B chroma = column (whole_name chroma)
chroma_column (Inter reference mode) chroma = none

-- the parts: sub block modes of B_PRED, vectors of mv_split
abbrev pub vectors_column : VectorMode → List MotionVector → List ℕ
vectors_column Split vectors = column (vectors_text forms.Lines vectors)
vectors_column Zero vectors = none
vectors_column Nearest vectors = none
vectors_column Near vectors = none
vectors_column New vectors = none

abbrev pub parts_column : YMode → List SubMode → List MotionVector → List ℕ
parts_column (Whole mode) modes vectors = none
parts_column B modes vectors = column (modes_text forms.Lines modes)
parts_column (Inter reference mode) modes vectors = vectors_column mode vectors

-- how it is split
abbrev pub split_column : Option Parts → List ℕ
split_column None = none
split_column (Some split) = column (split_name split)

-- the macroblock's vector, which is that of its last block
abbrev pub vector_column : YMode → List MotionVector → List ℕ
vector_column (Whole mode) vectors = none
vector_column B vectors = none
vector_column (Inter reference mode) vectors = column (vector_text forms.Lines (slice_index_or vectors 15 zero_vector))

abbrev pub record_columns : MbMode → Option Parts → List ℕ
record_columns mode split =
    mode_columns mode ++ chroma_column mode.y_mode mode.uv_mode ++ parts_column mode.y_mode mode.sub_modes mode.vectors ++ split_column split ++ vector_column mode.y_mode mode.vectors

-- the limits of the filter
abbrev pub limit_columns : Option Limits → List ℕ
limit_columns None = codes "-\t-\t-\t-\t"
limit_columns (Some limits) = number limits.interior ++ number limits.variance ++ number limits.macroblock_edge ++ number limits.inner_edge

-- the quantizer index, the level and the limits in force, and whether inner edges are filtered
abbrev pub force_columns : Macroblock → List ℕ
force_columns macroblock = number macroblock.quantizer ++ number macroblock.level ++ limit_columns macroblock.limits ++ column (bit_text macroblock.filters_inside)

-- the tokens, and the bits of the record and of the tokens
abbrev pub count_columns : List (List ℤ) → List ℕ
count_columns blocks = number (count_of blocks) ++ number (greatest_of blocks)

abbrev pub bits_columns : ℕ → ℕ → List ℕ
bits_columns mode_bits token_bits = number mode_bits ++ decimal token_bits ++ codes "\n"

abbrev pub token_columns : Macroblock → List ℕ
token_columns macroblock = column (blocks_text macroblock.coefficients) ++ count_columns macroblock.coefficients ++ bits_columns macroblock.mode_bits macroblock.token_bits

abbrev pub line_of : ℕ → Macroblock → List ℕ
line_of packet macroblock = place_columns packet macroblock ++ record_columns macroblock.mode macroblock.split ++ force_columns macroblock ++ token_columns macroblock
