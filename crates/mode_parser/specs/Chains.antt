-- The probabilities by which modes are read are bytes.
use Rattle.std.specs.Prelude.{ℕ, ◌<◌, List, [], slice_index_or, Option, Some, None}
use Rattle.bool_coder.specs.Chains.{AreProbabilities, IsChain}
use Rattle.vp8_tables.specs.Tables.{TableEntries}
use Rattle.frame_header.specs.declared.header.Header.{Header}
use Rattle.mode_parser.specs.declared.records.MbMode.{MbMode}
use Rattle.mode_parser.specs.FrameModes.{mode_at, first_modes}

-- a probability that may be absent
abbrev pub IsProbability : Option ℕ → Type 0
IsProbability None = Unit {0}
IsProbability (Some prob) = prob < 256

-- each row of a table
abbrev pub AreRows : List (List ℕ) → Type 0
AreRows rows = (row : ℕ) → AreProbabilities (slice_index_or rows row [])

-- the probabilities of a header and of the tables, as their types in the code have them
pub record HaveProbabilities (tables : TableEntries) (header : Header) : Type 0 where
  pub key_subs : AreProbabilities tables.key_subs
  pub segments : AreProbabilities header.segmentation.map_probabilities
  pub skip : IsProbability header.skip_probability
  pub intra : header.reference_probabilities.intra < 256
  pub last : header.reference_probabilities.last < 256
  pub golden : header.reference_probabilities.golden < 256
  pub y_modes : AreProbabilities header.context.probabilities.y_modes
  pub uv_modes : AreProbabilities header.context.probabilities.uv_modes
  pub vectors : AreRows header.context.probabilities.vectors

-- the record of each macroblock is a chain of reads, and so are the records of the first n macroblocks
abbrev pub RecordsAreChains : Type 0
RecordsAreChains = (tables : TableEntries) (header : Header) (columns rows : ℕ) (map : Option (List ℕ)) (place : ℕ) (before : List MbMode) → HaveProbabilities tables header → IsChain (mode_at tables header columns rows map place before)

abbrev pub FramesAreChains : Type 0
FramesAreChains = (tables : TableEntries) (header : Header) (columns rows : ℕ) (map : Option (List ℕ)) (n : ℕ) → HaveProbabilities tables header → IsChain (first_modes n tables header columns rows map)
