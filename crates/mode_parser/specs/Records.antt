-- The mode record of a macroblock in a key frame (RFC 6386, sections 8.2, 11.2 to 11.4 and 19.3).
use Rattle.std.specs.Prelude.{ℕ, Bool, false, Option, Some, None, List, [], ◌∷◌, replicate, slice_index_or}
use Rattle.bool_coder.specs.Reader.{read}
use Rattle.bool_coder.specs.Reading.{Reading, ◌>>=◌, give}
use Rattle.bool_coder.specs.Trees.{leaf}
use Rattle.vp8_tables.specs.Tables.{TableEntries}
use Rattle.vp8_tables.specs.declared.modes.TheConstants.{KEY_Y_TREE, KEY_Y_PROBABILITIES, UV_TREE, KEY_UV_PROBABILITIES}
use Rattle.intra_predict.specs.declared.modes.WholeMode.{WholeMode}
use Rattle.intra_predict.specs.declared.modes.WholeMode.TheVariants.{Dc, V, H, Tm}
use Rattle.intra_predict.specs.declared.modes.SubMode.{SubMode}
use Rattle.intra_predict.specs.declared.modes.SubMode.TheVariants.{Dc as SubDc}
use Rattle.mode_parser.specs.declared.records.YMode.{YMode}
use Rattle.mode_parser.specs.declared.records.YMode.TheVariants.{Whole, B, Inter}
use Rattle.mode_parser.specs.declared.records.MbMode.{MbMode}
use Rattle.mode_parser.specs.SubModes.{first_sub_modes}
use Rattle.mode_parser.specs.Vectors.{MotionVector, zero_vector}

-- whether a macroblock is skipped; if the header has no probability of it, none is (section 11.1)
unfoldable pub skip : Option ℕ → Reading Bool
skip None = give false
skip (Some probability) = read probability

-- luma and chroma modes in the order of the leaves of their trees (sections 8.2 and 11.2)
abbrev pub y_modes : List YMode
y_modes = Whole Dc ∷ Whole V ∷ Whole H ∷ Whole Tm ∷ B ∷ []

abbrev pub uv_modes : List WholeMode
uv_modes = Dc ∷ V ∷ H ∷ Tm ∷ []

unfoldable pub key_y_mode : Reading YMode
key_y_mode = do
  number ← leaf KEY_Y_TREE KEY_Y_PROBABILITIES
  give (slice_index_or y_modes number B)

-- a chroma mode by the probabilities of the tree's nodes (section 11.4)
unfoldable pub chroma_mode : List ℕ → Reading WholeMode
chroma_mode probabilities = do
  number ← leaf UV_TREE probabilities
  give (slice_index_or uv_modes number Tm)

-- the sub block modes of a macroblock whose luma is predicted as a whole: none is read, and all are DC
abbrev pub no_sub_modes : List SubMode
no_sub_modes = replicate 16 SubDc

-- the vectors of a macroblock that is not predicted from a reference
abbrev pub no_vectors : List MotionVector
no_vectors = replicate 16 zero_vector

-- the sub block modes, which only mode B has (section 11.2)
unfoldable pub key_sub_modes : YMode → TableEntries → Option MbMode → Option MbMode → Reading (List SubMode)
key_sub_modes (Whole mode) tables above left = give no_sub_modes
key_sub_modes (Inter reference mode) tables above left = give no_sub_modes
key_sub_modes B tables above left = first_sub_modes 16 tables above left

-- the record of a macroblock below and to the right of these, in a key frame, in segment 0 (section 19.3)
unfoldable pub key_mode : TableEntries → Option ℕ → Option MbMode → Option MbMode → Reading MbMode
key_mode tables skip_probability above left = do
  is_skipped ← skip skip_probability
  y_mode ← key_y_mode
  sub_modes ← key_sub_modes y_mode tables above left
  chroma ← chroma_mode KEY_UV_PROBABILITIES
  give (record { segment = 0; is_skipped = is_skipped; y_mode = y_mode; sub_modes = sub_modes; uv_mode = chroma; vectors = no_vectors })
