-- A macroblock as a JSON object (RFC 8259): a member for each column of its line, and null for a fact that it does not have.
use Rattle.std.specs.Prelude.{ℕ, List, ◌++◌, codes, slice_index_or, Option, Some, None, ℤ}
use Rattle.std.specs.Fmt.{decimal}
use Rattle.intra_predict.specs.declared.modes.WholeMode.{WholeMode}
use Rattle.intra_predict.specs.declared.modes.SubMode.{SubMode}
use Rattle.mode_parser.specs.declared.records.MbMode.{MbMode}
use Rattle.mode_parser.specs.declared.records.Split.{Split as Parts}
use Rattle.mode_parser.specs.declared.records.YMode.{YMode}
use Rattle.mode_parser.specs.declared.records.YMode.TheVariants.{Whole, B, Inter}
use Rattle.mode_parser.specs.declared.records.VectorMode.{VectorMode}
use Rattle.mode_parser.specs.declared.records.VectorMode.TheVariants.{Zero, Nearest, Near, New, Split}
use Rattle.mode_parser.specs.Vectors.{MotionVector, zero_vector}
use Rattle.loop_filter.specs.declared.edge_limits.Limits.{Limits}
use Rattle.stream_facts.specs.Json.{member, number_member}
use Rattle.macroblock_lists.specs.declared.macroblocks.Macroblock.{Macroblock}
use Rattle.macroblock_lists.specs.declared.layouts.Form.TheVariants as forms
use Rattle.macroblock_lists.specs.Coefficients.{count_of, greatest_of}
use Rattle.macroblock_lists.specs.Names.{luma_name, reference_name, split_name, whole_name}
use Rattle.macroblock_lists.specs.Parts.{bit_text, blocks_text, modes_text, vector_text, vectors_text}

-- a text in quotes as a member
abbrev pub text_member : List ℕ → List ℕ → List ℕ
text_member name text = codes "\"" ++ name ++ codes "\":\"" ++ text ++ codes "\","

abbrev pub place_members : ℕ → Macroblock → List ℕ
place_members packet macroblock = number_member (codes "packet") packet ++ number_member (codes "column") macroblock.column ++ number_member (codes "row") macroblock.row ++ number_member (codes "segment") macroblock.mode.segment

abbrev pub mode_members : MbMode → List ℕ
mode_members mode = member (codes "skip") (bit_text mode.is_skipped) ++ text_member (codes "reference") (reference_name mode.y_mode) ++ text_member (codes "luma") (luma_name mode.y_mode)

abbrev pub chroma_member : YMode → WholeMode → List ℕ
chroma_member (Whole mode) chroma = text_member (codes "chroma") (whole_name chroma)
chroma_member B chroma = text_member (codes "chroma") (whole_name chroma)
chroma_member (Inter reference mode) chroma = codes "\"chroma\":null,"

abbrev pub no_parts : List ℕ
no_parts = codes "\"parts\":null,"

abbrev pub vectors_member : VectorMode → List MotionVector → List ℕ
vectors_member Split vectors = codes "\"parts\":[" ++ vectors_text forms.Objects vectors ++ codes "],"
vectors_member Zero vectors = no_parts
vectors_member Nearest vectors = no_parts
vectors_member Near vectors = no_parts
vectors_member New vectors = no_parts

abbrev pub parts_member : YMode → List SubMode → List MotionVector → List ℕ
parts_member (Whole mode) modes vectors = no_parts
parts_member B modes vectors = codes "\"parts\":[" ++ modes_text forms.Objects modes ++ codes "],"
parts_member (Inter reference mode) modes vectors = vectors_member mode vectors

abbrev pub split_member : Option Parts → List ℕ
split_member None = codes "\"split\":null,"
split_member (Some split) = text_member (codes "split") (split_name split)

abbrev pub no_vector : List ℕ
no_vector = codes "\"vector\":null,"

abbrev pub vector_member : YMode → List MotionVector → List ℕ
vector_member (Whole mode) vectors = no_vector
vector_member B vectors = no_vector
vector_member (Inter reference mode) vectors = codes "\"vector\":" ++ vector_text forms.Objects (slice_index_or vectors 15 zero_vector) ++ codes ","

abbrev pub record_members : MbMode → Option Parts → List ℕ
record_members mode split =
    mode_members mode ++ chroma_member mode.y_mode mode.uv_mode ++ parts_member mode.y_mode mode.sub_modes mode.vectors ++ split_member split ++ vector_member mode.y_mode mode.vectors

abbrev pub limit_members : Option Limits → List ℕ
limit_members None = codes "\"interior_limit\":null,\"hev_threshold\":null,\"mbedge_limit\":null,\"sub_bedge_limit\":null,"
limit_members (Some limits) =
    number_member (codes "interior_limit") limits.interior ++ number_member (codes "hev_threshold") limits.variance
    ++ number_member (codes "mbedge_limit") limits.macroblock_edge ++ number_member (codes "sub_bedge_limit") limits.inner_edge

abbrev pub force_members : Macroblock → List ℕ
force_members macroblock =
    number_member (codes "quantizer") macroblock.quantizer ++ number_member (codes "level") macroblock.level ++ limit_members macroblock.limits
    ++ member (codes "inner") (bit_text macroblock.filters_inside)

abbrev pub block_member : List (List ℤ) → List ℕ
block_member blocks = codes "\"blocks\":\"" ++ blocks_text blocks ++ codes "\","

abbrev pub bits_members : ℕ → ℕ → List ℕ
bits_members mode_bits token_bits = codes "\"mode_bits\":" ++ decimal mode_bits ++ codes ",\"token_bits\":" ++ decimal token_bits

abbrev pub token_members : Macroblock → List ℕ
token_members macroblock =
    block_member macroblock.coefficients ++ number_member (codes "coefficients") (count_of macroblock.coefficients)
    ++ number_member (codes "greatest") (greatest_of macroblock.coefficients) ++ bits_members macroblock.mode_bits macroblock.token_bits

abbrev pub object_of : ℕ → Macroblock → List ℕ
object_of packet macroblock =
    codes "{" ++ place_members packet macroblock ++ record_members macroblock.mode macroblock.split ++ force_members macroblock ++ token_members macroblock ++ codes "}\n"
