-- The mode record of a macroblock in an inter frame (RFC 6386, sections 16 and 19.3).
use Rattle.std.specs.Prelude.{ℕ, zero, suc, ◌+◌, ◌-◌, ◌%◌, ◌==◌, nat_lt, nat_le, ◌&&◌, Bool, true, Option, Some, None, List, [], ◌∷◌, ◌++◌, replicate, slice_index, slice_index_or, if◌then◌else◌}
use Rattle.bool_coder.specs.Reader.{read}
use Rattle.bool_coder.specs.Reading.{Reading, ◌>>=◌, give}
use Rattle.bool_coder.specs.Trees.{leaf}
use Rattle.vp8_tables.specs.declared.modes.TheConstants.{INTER_Y_TREE, INTER_SUB_PROBABILITIES, VECTOR_MODE_TREE, VECTOR_MODE_PROBABILITIES, SPLIT_TREE, SPLIT_PROBABILITIES, SPLIT_STARTS, PART_VECTOR_TREE, PART_VECTOR_PROBABILITIES}
use Rattle.intra_predict.specs.declared.modes.WholeMode.TheVariants.{Dc}
use Rattle.intra_predict.specs.declared.modes.SubMode.{SubMode}
use Rattle.frame_header.specs.declared.references.Reference.{Reference}
use Rattle.frame_header.specs.declared.references.Reference.TheVariants.{Last, Golden, Altref}
use Rattle.frame_header.specs.declared.inter_fields.ReferenceProbabilities.{ReferenceProbabilities}
use Rattle.frame_header.specs.declared.context.Probabilities.{Probabilities}
use Rattle.frame_header.specs.declared.header.Header.{Header}
use Rattle.mode_parser.specs.declared.records.VectorMode.{VectorMode}
use Rattle.mode_parser.specs.declared.records.VectorMode.TheVariants.{Zero, Nearest, Near as NearMode, New, Split}
use Rattle.mode_parser.specs.declared.records.YMode.{YMode}
use Rattle.mode_parser.specs.declared.records.YMode.TheVariants.{Whole, B, Inter}
use Rattle.mode_parser.specs.declared.records.MbMode.{MbMode}
use Rattle.mode_parser.specs.declared.nearby.MbPosition.{MbPosition}
use Rattle.mode_parser.specs.declared.nearby.Near.{Near}
use Rattle.mode_parser.specs.SubModes.{sub_mode}
use Rattle.mode_parser.specs.Records.{skip, y_modes, chroma_mode, no_sub_modes, no_vectors}
use Rattle.mode_parser.specs.Vectors.{MotionVector, zero_vector, is_same, sum_of}
use Rattle.mode_parser.specs.NearVectors.{near_of}
use Rattle.mode_parser.specs.VectorReading.{new_vector}

-- the luma mode of a macroblock without a reference (section 16.1)
unfoldable pub inter_y_mode : List ℕ → Reading YMode
inter_y_mode probabilities = do
  number ← leaf INTER_Y_TREE probabilities
  give (slice_index_or y_modes number B)

-- the modes of the first n sub blocks, in raster order: no mode depends on another (section 16.1)
unfoldable pub first_inter_sub_modes : ℕ → Reading (List SubMode)
first_inter_sub_modes zero = give []
first_inter_sub_modes (suc n) = do
  before ← first_inter_sub_modes n
  mode ← sub_mode INTER_SUB_PROBABILITIES
  give (before ++ mode ∷ [])

unfoldable pub inter_sub_modes : YMode → Reading (List SubMode)
inter_sub_modes B = first_inter_sub_modes 16
inter_sub_modes (Whole mode) = give no_sub_modes
inter_sub_modes (Inter reference mode) = give no_sub_modes

-- the reference from which a macroblock is predicted (section 16.2)
unfoldable pub which_reference : ReferenceProbabilities → Reading Reference
which_reference probabilities = do
  is_other ← read probabilities.last
  if is_other then (do
    is_altref ← read probabilities.golden
    give (if is_altref then Altref else Golden)) else give Last

-- vector modes in the order of the leaves of their tree, and the probabilities of that tree: each is in the row of its count
-- (section 16.3)
abbrev pub vector_modes : List VectorMode
vector_modes = Zero ∷ Nearest ∷ NearMode ∷ New ∷ Split ∷ []

abbrev pub counted_probability : List ℕ → ℕ → ℕ
counted_probability counts n = slice_index (slice_index_or VECTOR_MODE_PROBABILITIES (slice_index counts n) []) n

abbrev pub counted_probabilities : List ℕ → List ℕ
counted_probabilities counts = counted_probability counts 0 ∷ counted_probability counts 1 ∷ counted_probability counts 2 ∷ counted_probability counts 3 ∷ []

unfoldable pub vector_mode : List ℕ → Reading VectorMode
vector_mode counts = do
  number ← leaf VECTOR_MODE_TREE (counted_probabilities counts)
  give (slice_index_or vector_modes number Split)

-- the vector of a block of a neighbour, which is zero outside the frame (section 16.4)
abbrev pub vector_in : Option MbMode → ℕ → MotionVector
vector_in None n = zero_vector
vector_in (Some macroblock) n = slice_index_or macroblock.vectors n zero_vector

-- the vectors above and to the left of block n, in its own macroblock, of which those before it are known, or in another
abbrev pub vector_above : Option MbMode → List MotionVector → ℕ → MotionVector
vector_above above before n = if nat_lt n 4 then vector_in above (n + 12) else slice_index_or before (n - 4) zero_vector

abbrev pub vector_left : Option MbMode → List MotionVector → ℕ → MotionVector
vector_left left before n = if n % 4 == 0 then vector_in left (n + 3) else slice_index_or before (n - 1) zero_vector

-- the row of probabilities of a part's vector, by the vectors to the left and above (section 16.4)
abbrev pub part_row : MotionVector → MotionVector → ℕ
part_row left above =
    if is_same left above then (if is_same above zero_vector then 4 else 3)
    else if is_same above zero_vector then 2
    else if is_same left zero_vector then 1 else 0

-- the vector of a part between these, of a macroblock with this best near vector (section 16.4)
unfoldable pub part_vector : List (List ℕ) → MotionVector → MotionVector → MotionVector → Reading MotionVector
part_vector probabilities best left above = do
  number ← leaf PART_VECTOR_TREE (slice_index_or PART_VECTOR_PROBABILITIES (part_row left above) [])
  if number == 0 then give left else if number == 1 then give above else if number == 2 then give zero_vector else (do
    more ← new_vector probabilities
    give (sum_of best more))

-- the vector of block n, of a part that starts at a block: at that block it is the part's, and later that block's (section 16.4)
unfoldable pub block_vector : ℕ → List (List ℕ) → MotionVector → Option MbMode → Option MbMode → List MotionVector → ℕ → Reading MotionVector
block_vector start probabilities best above left before n =
    if start == n then part_vector probabilities best (vector_left left before n) (vector_above above before n)
    else give (slice_index_or before start zero_vector)

-- the vectors of the first n blocks, in raster order, of a macroblock whose parts start at these blocks (section 16.4)
unfoldable pub first_vectors : ℕ → List ℕ → List (List ℕ) → MotionVector → Option MbMode → Option MbMode → Reading (List MotionVector)
first_vectors zero starts probabilities best above left = give []
first_vectors (suc n) starts probabilities best above left = do
  before ← first_vectors n starts probabilities best above left
  here ← block_vector (slice_index starts n) probabilities best above left before n
  give (before ++ here ∷ [])

-- the blocks at which the parts of a macroblock start, for each of its blocks (section 16.4)
unfoldable pub split_starts : Reading (List ℕ)
split_starts = do
  way ← leaf SPLIT_TREE SPLIT_PROBABILITIES
  give (slice_index_or SPLIT_STARTS way [])

-- whether no block from this one on is before the start of its part
abbrev pub are_starts : ℕ → List ℕ → Bool
are_starts block [] = true
are_starts block (start ∷ starts) = nat_le start block && are_starts (suc block) starts

unfoldable pub split_vectors : List (List ℕ) → MotionVector → Option MbMode → Option MbMode → Reading (List MotionVector)
split_vectors probabilities best above left = do
  starts ← split_starts
  first_vectors 16 starts probabilities best above left

-- the vectors of a macroblock's blocks: one for all, unless it is split (sections 16.3 and 16.4)
unfoldable pub vectors_by : VectorMode → Near → List (List ℕ) → Option MbMode → Option MbMode → Reading (List MotionVector)
vectors_by Zero near probabilities above left = give no_vectors
vectors_by Nearest near probabilities above left = give (replicate 16 near.nearest)
vectors_by NearMode near probabilities above left = give (replicate 16 near.near)
vectors_by New near probabilities above left = do
  more ← new_vector probabilities
  give (replicate 16 (sum_of near.best more))
vectors_by Split near probabilities above left = split_vectors probabilities near.best above left

-- the record of a macroblock without a reference, and of one with a reference, after the bit that says which it is
unfoldable pub intra_mode : Bool → Probabilities → Reading MbMode
intra_mode is_skipped probabilities = do
  y_mode ← inter_y_mode probabilities.y_modes
  sub_modes ← inter_sub_modes y_mode
  chroma ← chroma_mode probabilities.uv_modes
  give (record { segment = 0; is_skipped = is_skipped; y_mode = y_mode; sub_modes = sub_modes; uv_mode = chroma; vectors = no_vectors })

unfoldable pub referenced_mode : Bool → Header → MbPosition → Option MbMode → Option MbMode → Option MbMode → Reading MbMode
referenced_mode is_skipped header place above left above_left = do
  from ← which_reference header.reference_probabilities
  let near = near_of above left above_left from header.context.sign_biases place
  mode ← vector_mode near.counts
  vectors ← vectors_by mode near header.context.probabilities.vectors above left
  give (record { segment = 0; is_skipped = is_skipped; y_mode = Inter from mode; sub_modes = no_sub_modes; uv_mode = Dc; vectors = vectors })

-- the record of a macroblock at the index after these, in an inter frame, in segment 0 (section 19.3)
unfoldable pub inter_mode : Header → MbPosition → Option MbMode → Option MbMode → Option MbMode → Reading MbMode
inter_mode header place above left above_left = do
  is_skipped ← skip header.skip_probability
  is_referenced ← read header.reference_probabilities.intra
  if is_referenced then referenced_mode is_skipped header place above left above_left else intra_mode is_skipped header.context.probabilities
