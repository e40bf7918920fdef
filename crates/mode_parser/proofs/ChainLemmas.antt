-- The records of macroblocks are chains of reads.
use Rattle.std.proofs.Common.{ℕ, zero, suc, ◌+◌, ◌*◌, ◌==◌, ◌<◌, Bool, false, List, [], ◌∷◌, ◌++◌, refl, arith}
use Rattle.std.specs.Prelude.{pos, neg_ℤ, nat_lt, ◌^◌, replicate, slice_index, slice_index_or, slice_range, Option, Some, None, if◌then◌else◌}
use Rattle.std.specs.Int.{from_bool}
use Rattle.bool_coder.specs.Trees.{leaf}
use Rattle.bool_coder.specs.Chains.{AreProbabilities, IsChain}
use Rattle.bool_coder.proofs.Chains.{chains, are_bytes, probabilities, part-probabilities, bind-chain, if-chain, give-chain, read-chain, leaf-chain}
use Rattle.vp8_tables.specs.Tables.{TableEntries, key_sub_nodes_of}
use Rattle.vp8_tables.specs.declared.modes.TheConstants.{KEY_Y_TREE, KEY_Y_PROBABILITIES, UV_TREE, KEY_UV_PROBABILITIES, SUB_TREE, INTER_Y_TREE, INTER_SUB_PROBABILITIES, VECTOR_MODE_TREE, VECTOR_MODE_PROBABILITIES, SPLIT_TREE, SPLIT_PROBABILITIES, PART_VECTOR_TREE, PART_VECTOR_PROBABILITIES, SEGMENT_TREE}
use Rattle.vp8_tables.specs.declared.vectors.TheConstants.{SHORT_VECTOR_TREE, LONG_VECTOR_BITS}
use Rattle.frame_header.specs.declared.inter_fields.ReferenceProbabilities.{ReferenceProbabilities}
use Rattle.frame_header.specs.declared.context.Probabilities.{Probabilities}
use Rattle.frame_header.specs.declared.header.Header.{Header}
use Rattle.mode_parser.specs.declared.records.VectorMode.{VectorMode}
use Rattle.mode_parser.specs.declared.records.VectorMode.TheVariants.{Zero, Nearest, Near as NearMode, New, Split}
use Rattle.mode_parser.specs.declared.records.YMode.{YMode}
use Rattle.mode_parser.specs.declared.records.YMode.TheVariants.{Whole, B, Inter}
use Rattle.mode_parser.specs.declared.records.MbMode.{MbMode}
use Rattle.mode_parser.specs.declared.nearby.MbPosition.{MbPosition}
use Rattle.mode_parser.specs.declared.nearby.Near.{Near}
use Rattle.frame_header.specs.declared.references.Reference.{Reference}
use Rattle.frame_header.specs.declared.references.Reference.TheVariants.{Last, Golden, Altref}
use Rattle.intra_predict.specs.declared.modes.WholeMode.TheVariants.{Dc}
use Rattle.mode_parser.specs.NearVectors.{near_of}
use Rattle.mode_parser.specs.Vectors.{MotionVector, zero_vector, sum_of}
use Rattle.mode_parser.specs.SubModes.{sub_mode, first_sub_modes, mode_above, mode_left, number_of}
use Rattle.mode_parser.specs.Records.{skip, key_y_mode, chroma_mode, key_sub_modes, key_mode, no_sub_modes, no_vectors}
use Rattle.mode_parser.specs.Segments.{segment_number, segment_at, kept_segment}
use Rattle.mode_parser.specs.VectorReading.{bits_at, long_size, short_size, vector_size, vector_component, new_vector}
use Rattle.mode_parser.specs.InterRecords.{inter_y_mode, first_inter_sub_modes, inter_sub_modes, which_reference, vector_mode, counted_probabilities, vector_left, vector_above, part_row, part_vector, block_vector, first_vectors, split_starts, split_vectors, vectors_by, intra_mode, referenced_mode, inter_mode}
use Rattle.mode_parser.specs.FrameModes.{record_above, record_left, record_above_left, place_of, prediction_at, mode_at, first_modes}
use Rattle.mode_parser.specs.RecordFacts.{which_split, split_by, referenced_split, inter_split, split_at}
use Rattle.mode_parser.specs.Chains.{IsProbability, AreRows, HaveProbabilities}

-- modes of sub blocks
sub_mode-chain : (nodes : List ℕ) → AreProbabilities nodes → IsChain (sub_mode nodes)
unfolding sub_mode
sub_mode-chain nodes small =
    let number : IsChain (leaf SUB_TREE nodes) = leaf-chain SUB_TREE nodes small in
    search (chains, number)

first_sub_modes-chain : (n : ℕ) (tables : TableEntries) (above left : Option MbMode) → AreProbabilities tables.key_subs → IsChain (first_sub_modes n tables above left)
unfolding first_sub_modes
first_sub_modes-chain zero tables above left small = give-chain []
first_sub_modes-chain (suc n) tables above left small =
    bind-chain (first_sub_modes-chain n tables above left small) (λ before.
    bind-chain (sub_mode-chain (key_sub_nodes_of tables (number_of (mode_above above before n)) (number_of (mode_left left before n))) (part-probabilities tables.key_subs _ _ small)) (λ mode. give-chain (before ++ mode ∷ [])))

inter_sub-small : AreProbabilities INTER_SUB_PROBABILITIES
unfolding are_bytes
inter_sub-small = probabilities INTER_SUB_PROBABILITIES refl

first_inter_sub_modes-chain : (n : ℕ) → IsChain (first_inter_sub_modes n)
unfolding first_inter_sub_modes
first_inter_sub_modes-chain zero = give-chain []
first_inter_sub_modes-chain (suc n) = bind-chain (first_inter_sub_modes-chain n) (λ before. bind-chain (sub_mode-chain INTER_SUB_PROBABILITIES inter_sub-small) (λ mode. give-chain (before ++ mode ∷ [])))

inter_sub_modes-chain : (mode : YMode) → IsChain (inter_sub_modes mode)
unfolding inter_sub_modes
inter_sub_modes-chain B = first_inter_sub_modes-chain 16
inter_sub_modes-chain (Whole mode) = give-chain no_sub_modes
inter_sub_modes-chain (Inter reference mode) = give-chain no_sub_modes

-- the record of a key frame
skip-chain : (probability : Option ℕ) → IsProbability probability → IsChain (skip probability)
unfolding skip
skip-chain None small = give-chain false
skip-chain (Some probability) small = read-chain probability small

key_y-small : AreProbabilities KEY_Y_PROBABILITIES
unfolding are_bytes
key_y-small = probabilities KEY_Y_PROBABILITIES refl

key_y_mode-chain : IsChain key_y_mode
unfolding key_y_mode
key_y_mode-chain =
    let number : IsChain (leaf KEY_Y_TREE KEY_Y_PROBABILITIES) = leaf-chain KEY_Y_TREE KEY_Y_PROBABILITIES key_y-small in
    search (chains, number)

chroma_mode-chain : (probs : List ℕ) → AreProbabilities probs → IsChain (chroma_mode probs)
unfolding chroma_mode
chroma_mode-chain probs small =
    let number : IsChain (leaf UV_TREE probs) = leaf-chain UV_TREE probs small in
    search (chains, number)

key_sub_modes-chain : (mode : YMode) (tables : TableEntries) (above left : Option MbMode) → AreProbabilities tables.key_subs → IsChain (key_sub_modes mode tables above left)
unfolding key_sub_modes
key_sub_modes-chain B tables above left small = first_sub_modes-chain 16 tables above left small
key_sub_modes-chain (Whole mode) tables above left small = give-chain no_sub_modes
key_sub_modes-chain (Inter reference mode) tables above left small = give-chain no_sub_modes

key_uv-small : AreProbabilities KEY_UV_PROBABILITIES
unfolding are_bytes
key_uv-small = probabilities KEY_UV_PROBABILITIES refl

pub key_mode-chain : (tables : TableEntries) (skipped : Option ℕ) (above left : Option MbMode) → AreProbabilities tables.key_subs → IsProbability skipped → IsChain (key_mode tables skipped above left)
unfolding key_mode
key_mode-chain tables skipped above left small rare =
    bind-chain (skip-chain skipped rare) (λ is_skipped. bind-chain key_y_mode-chain (λ mode. bind-chain (key_sub_modes-chain mode tables above left small) (λ sub_modes.
    bind-chain (chroma_mode-chain KEY_UV_PROBABILITIES key_uv-small) (λ chroma. give-chain (record { segment = 0; is_skipped = is_skipped; y_mode = mode; sub_modes = sub_modes; uv_mode = chroma; vectors = no_vectors })))))

-- vectors
bits_at-chain : (places probs : List ℕ) → AreProbabilities probs → IsChain (bits_at places probs)
unfolding bits_at
bits_at-chain [] probs small = give-chain 0
bits_at-chain (place ∷ places) probs small =
    bind-chain (read-chain (slice_index probs (9 + place)) (small (9 + place))) (λ bit. bind-chain (bits_at-chain places probs small) (λ rest. give-chain (2 ^ place * from_bool bit + rest)))

long_size-chain : (probs : List ℕ) → AreProbabilities probs → IsChain (long_size probs)
unfolding long_size
long_size-chain probs small =
    bind-chain (bits_at-chain LONG_VECTOR_BITS probs small) (λ size. if-chain (nat_lt size 16) (give-chain (size + 8)) (bind-chain (read-chain (slice_index probs 12) (small 12)) (λ bit. give-chain (size + 8 * from_bool bit))))

short_size-chain : (probs : List ℕ) → AreProbabilities probs → IsChain (short_size probs)
unfolding short_size
short_size-chain probs small = leaf-chain SHORT_VECTOR_TREE (slice_range probs 2 9) (part-probabilities probs 2 9 small)

vector_size-chain : (probs : List ℕ) → AreProbabilities probs → IsChain (vector_size probs)
unfolding vector_size
vector_size-chain probs small = bind-chain (read-chain (slice_index probs 0) (small 0)) (λ is_long. if-chain is_long (long_size-chain probs small) (short_size-chain probs small))

vector_component-chain : (probs : List ℕ) → AreProbabilities probs → IsChain (vector_component probs)
unfolding vector_component
vector_component-chain probs small =
    bind-chain (vector_size-chain probs small) (λ n. if-chain (n == 0) (give-chain (pos 0)) (bind-chain (read-chain (slice_index probs 1) (small 1)) (λ is_minus. give-chain (if is_minus then neg_ℤ (pos n) else pos n))))

new_vector-chain : (probs : List (List ℕ)) → AreRows probs → IsChain (new_vector probs)
unfolding new_vector
new_vector-chain probs small =
    let down : IsChain (vector_component (slice_index_or probs 0 [])) = vector_component-chain (slice_index_or probs 0 []) (small 0) in
    let right : IsChain (vector_component (slice_index_or probs 1 [])) = vector_component-chain (slice_index_or probs 1 []) (small 1) in
    search (chains, down, right)

-- parts
split-small : AreProbabilities SPLIT_PROBABILITIES
unfolding are_bytes
split-small = probabilities SPLIT_PROBABILITIES refl

split_starts-chain : IsChain split_starts
unfolding split_starts
split_starts-chain =
    let way : IsChain (leaf SPLIT_TREE SPLIT_PROBABILITIES) = leaf-chain SPLIT_TREE SPLIT_PROBABILITIES split-small in
    search (chains, way)

part-small : (row : ℕ) → AreProbabilities (slice_index_or PART_VECTOR_PROBABILITIES row [])
unfolding are_bytes
part-small zero = probabilities (slice_index_or PART_VECTOR_PROBABILITIES 0 []) refl
part-small (suc zero) = probabilities (slice_index_or PART_VECTOR_PROBABILITIES 1 []) refl
part-small (suc (suc zero)) = probabilities (slice_index_or PART_VECTOR_PROBABILITIES 2 []) refl
part-small (suc (suc (suc zero))) = probabilities (slice_index_or PART_VECTOR_PROBABILITIES 3 []) refl
part-small (suc (suc (suc (suc zero)))) = probabilities (slice_index_or PART_VECTOR_PROBABILITIES 4 []) refl
part-small (suc (suc (suc (suc (suc row))))) = probabilities [] refl

part_vector-chain : (probs : List (List ℕ)) (best left above : MotionVector) → AreRows probs → IsChain (part_vector probs best left above)
unfolding part_vector
part_vector-chain probs best left above small =
    let number : IsChain (leaf PART_VECTOR_TREE (slice_index_or PART_VECTOR_PROBABILITIES (part_row left above) [])) = leaf-chain PART_VECTOR_TREE (slice_index_or PART_VECTOR_PROBABILITIES (part_row left above) []) (part-small (part_row left above)) in
    bind-chain number (λ n. if-chain (n == 0) (give-chain left) (if-chain (n == 1) (give-chain above) (if-chain (n == 2) (give-chain zero_vector) (bind-chain (new_vector-chain probs small) (λ more. give-chain (sum_of best more))))))

block_vector-chain : (start : ℕ) (probs : List (List ℕ)) (best : MotionVector) (above left : Option MbMode) (before : List MotionVector) (n : ℕ) → AreRows probs → IsChain (block_vector start probs best above left before n)
unfolding block_vector
block_vector-chain start probs best above left before n small =
    if-chain (start == n) (part_vector-chain probs best (vector_left left before n) (vector_above above before n) small) (give-chain (slice_index_or before start zero_vector))

first_vectors-chain : (n : ℕ) (starts : List ℕ) (probs : List (List ℕ)) (best : MotionVector) (above left : Option MbMode) → AreRows probs → IsChain (first_vectors n starts probs best above left)
unfolding first_vectors
first_vectors-chain zero starts probs best above left small = give-chain []
first_vectors-chain (suc n) starts probs best above left small =
    bind-chain (first_vectors-chain n starts probs best above left small) (λ before. bind-chain (block_vector-chain (slice_index starts n) probs best above left before n small) (λ here. give-chain (before ++ here ∷ [])))

split_vectors-chain : (probs : List (List ℕ)) (best : MotionVector) (above left : Option MbMode) → AreRows probs → IsChain (split_vectors probs best above left)
unfolding split_vectors
split_vectors-chain probs best above left small = bind-chain split_starts-chain (λ starts. first_vectors-chain 16 starts probs best above left small)

vectors_by-chain : (mode : VectorMode) (near : Near) (probs : List (List ℕ)) (above left : Option MbMode) → AreRows probs → IsChain (vectors_by mode near probs above left)
unfolding vectors_by
vectors_by-chain Zero near probs above left small = give-chain no_vectors
vectors_by-chain Nearest near probs above left small = give-chain (replicate 16 near.nearest)
vectors_by-chain NearMode near probs above left small = give-chain (replicate 16 near.near)
vectors_by-chain New near probs above left small = bind-chain (new_vector-chain probs small) (λ more. give-chain (replicate 16 (sum_of near.best more)))
vectors_by-chain Split near probs above left small = split_vectors-chain probs near.best above left small

-- the record of a macroblock of an inter frame
inter_y_mode-chain : (probs : List ℕ) → AreProbabilities probs → IsChain (inter_y_mode probs)
unfolding inter_y_mode
inter_y_mode-chain probs small =
    let number : IsChain (leaf INTER_Y_TREE probs) = leaf-chain INTER_Y_TREE probs small in
    search (chains, number)

counted-small : (row n : ℕ) → slice_index (slice_index_or VECTOR_MODE_PROBABILITIES row []) n < 256
unfolding are_bytes
counted-small zero n = probabilities (slice_index_or VECTOR_MODE_PROBABILITIES 0 []) refl n
counted-small (suc zero) n = probabilities (slice_index_or VECTOR_MODE_PROBABILITIES 1 []) refl n
counted-small (suc (suc zero)) n = probabilities (slice_index_or VECTOR_MODE_PROBABILITIES 2 []) refl n
counted-small (suc (suc (suc zero))) n = probabilities (slice_index_or VECTOR_MODE_PROBABILITIES 3 []) refl n
counted-small (suc (suc (suc (suc zero)))) n = probabilities (slice_index_or VECTOR_MODE_PROBABILITIES 4 []) refl n
counted-small (suc (suc (suc (suc (suc zero))))) n = probabilities (slice_index_or VECTOR_MODE_PROBABILITIES 5 []) refl n
counted-small (suc (suc (suc (suc (suc (suc row)))))) n = probabilities [] refl n

counts-small : (counts : List ℕ) → AreProbabilities (counted_probabilities counts)
counts-small counts zero = counted-small (slice_index counts 0) 0
counts-small counts (suc zero) = counted-small (slice_index counts 1) 1
counts-small counts (suc (suc zero)) = counted-small (slice_index counts 2) 2
counts-small counts (suc (suc (suc zero))) = counted-small (slice_index counts 3) 3
counts-small counts (suc (suc (suc (suc k)))) = omega arith

vector_mode-chain : (counts : List ℕ) → IsChain (vector_mode counts)
unfolding vector_mode
vector_mode-chain counts =
    let number : IsChain (leaf VECTOR_MODE_TREE (counted_probabilities counts)) = leaf-chain VECTOR_MODE_TREE (counted_probabilities counts) (counts-small counts) in
    search (chains, number)

which_reference-chain : (probs : ReferenceProbabilities) → probs.last < 256 → probs.golden < 256 → IsChain (which_reference probs)
unfolding which_reference
which_reference-chain probs last golden =
    bind-chain (read-chain probs.last last) (λ is_other. if-chain is_other (bind-chain (read-chain probs.golden golden) (λ is_altref. give-chain (if is_altref then Altref else Golden))) (give-chain Last))

intra_mode-chain : (is_skipped : Bool) (probs : Probabilities) → AreProbabilities probs.y_modes → AreProbabilities probs.uv_modes → IsChain (intra_mode is_skipped probs)
unfolding intra_mode
intra_mode-chain is_skipped probs y uv =
    bind-chain (inter_y_mode-chain probs.y_modes y) (λ mode. bind-chain (inter_sub_modes-chain mode) (λ sub_modes. bind-chain (chroma_mode-chain probs.uv_modes uv) (λ chroma.
    give-chain (record { segment = 0; is_skipped = is_skipped; y_mode = mode; sub_modes = sub_modes; uv_mode = chroma; vectors = no_vectors }))))

referenced_mode-chain : (is_skipped : Bool) (header : Header) (place : MbPosition) (above left above_left : Option MbMode) → header.reference_probabilities.last < 256 → header.reference_probabilities.golden < 256 → AreRows header.context.probabilities.vectors → IsChain (referenced_mode is_skipped header place above left above_left)
unfolding referenced_mode
referenced_mode-chain is_skipped header place above left above_left last golden small =
    let near : Reference → Near = λ (from : Reference). near_of above left above_left from header.context.sign_biases place in
    bind-chain (which_reference-chain header.reference_probabilities last golden) (λ from. bind-chain (vector_mode-chain (near from).counts) (λ mode.
    bind-chain (vectors_by-chain mode (near from) header.context.probabilities.vectors above left small) (λ vectors.
    give-chain (record { segment = 0; is_skipped = is_skipped; y_mode = Inter from mode; sub_modes = no_sub_modes; uv_mode = Dc; vectors = vectors }))))

inter_mode-chain : (tables : TableEntries) (header : Header) (place : MbPosition) (above left above_left : Option MbMode) → HaveProbabilities tables header → IsChain (inter_mode header place above left above_left)
unfolding inter_mode
inter_mode-chain tables header place above left above_left have =
    bind-chain (skip-chain header.skip_probability have.skip) (λ is_skipped. bind-chain (read-chain header.reference_probabilities.intra have.intra) (λ is_referenced. if-chain is_referenced
    (referenced_mode-chain is_skipped header place above left above_left have.last have.golden have.vectors)
    (intra_mode-chain is_skipped header.context.probabilities have.y_modes have.uv_modes)))

-- the records of a frame
segment_at-chain : (header : Header) (map : Option (List ℕ)) (place : ℕ) → AreProbabilities header.segmentation.map_probabilities → IsChain (segment_at header map place)
unfolding segment_at segment_number
segment_at-chain header map place small =
    if-chain header.segmentation.updates_map (leaf-chain SEGMENT_TREE header.segmentation.map_probabilities small) (give-chain (if header.segmentation.is_enabled then kept_segment header.is_key map place else 0))

prediction_at-chain : (tables : TableEntries) (header : Header) (columns rows place : ℕ) (before : List MbMode) → HaveProbabilities tables header → IsChain (prediction_at tables header columns rows place before)
prediction_at-chain tables header columns rows place before have =
    if-chain header.is_key (key_mode-chain tables header.skip_probability (record_above before columns place) (record_left before columns place) have.key_subs have.skip)
    (inter_mode-chain tables header (place_of columns rows place) (record_above before columns place) (record_left before columns place) (record_above_left before columns place) have)

pub mode_at-chain : (tables : TableEntries) (header : Header) (columns rows : ℕ) (map : Option (List ℕ)) (place : ℕ) (before : List MbMode) → HaveProbabilities tables header → IsChain (mode_at tables header columns rows map place before)
unfolding mode_at
mode_at-chain tables header columns rows map place before have =
    bind-chain (segment_at-chain header map place have.segments) (λ segment. bind-chain (prediction_at-chain tables header columns rows place before have) (λ mode. give-chain (record mode { segment = segment })))

pub first_modes-chain : (tables : TableEntries) (header : Header) (columns rows : ℕ) (map : Option (List ℕ)) (n : ℕ) → HaveProbabilities tables header → IsChain (first_modes n tables header columns rows map)
unfolding first_modes
first_modes-chain tables header columns rows map zero have = give-chain []
first_modes-chain tables header columns rows map (suc n) have =
    bind-chain (first_modes-chain tables header columns rows map n have) (λ before. bind-chain (mode_at-chain tables header columns rows map n before have) (λ mode. give-chain (before ++ mode ∷ [])))

-- how a macroblock is split
which_split-chain : IsChain which_split
unfolding which_split
which_split-chain =
    let way : IsChain (leaf SPLIT_TREE SPLIT_PROBABILITIES) = leaf-chain SPLIT_TREE SPLIT_PROBABILITIES split-small in
    search (chains, way)

split_by-chain : (mode : VectorMode) → IsChain (split_by mode)
unfolding split_by
split_by-chain Zero = give-chain None
split_by-chain Nearest = give-chain None
split_by-chain NearMode = give-chain None
split_by-chain New = give-chain None
split_by-chain Split = bind-chain which_split-chain (λ split. give-chain (Some split))

referenced_split-chain : (header : Header) (place : MbPosition) (above left above_left : Option MbMode) → header.reference_probabilities.last < 256 → header.reference_probabilities.golden < 256 → IsChain (referenced_split header place above left above_left)
unfolding referenced_split
referenced_split-chain header place above left above_left last golden =
    let near : Reference → Near = λ (from : Reference). near_of above left above_left from header.context.sign_biases place in
    bind-chain (which_reference-chain header.reference_probabilities last golden) (λ from. bind-chain (vector_mode-chain (near from).counts) (λ mode. split_by-chain mode))

inter_split-chain : (tables : TableEntries) (header : Header) (place : MbPosition) (above left above_left : Option MbMode) → HaveProbabilities tables header → IsChain (inter_split header place above left above_left)
unfolding inter_split
inter_split-chain tables header place above left above_left have =
    bind-chain (skip-chain header.skip_probability have.skip) (λ is_skipped. bind-chain (read-chain header.reference_probabilities.intra have.intra) (λ is_referenced. if-chain is_referenced
    (referenced_split-chain header place above left above_left have.last have.golden) (give-chain None)))

pub split_at-chain : (tables : TableEntries) (header : Header) (columns rows : ℕ) (segments : Option (List ℕ)) (place : ℕ) (before : List MbMode) → HaveProbabilities tables header → IsChain (split_at header columns rows segments place before)
unfolding split_at
split_at-chain tables header columns rows segments place before have =
    bind-chain (segment_at-chain header segments place have.segments) (λ segment. if-chain header.is_key (give-chain None)
    (inter_split-chain tables header (place_of columns rows place) (record_above before columns place) (record_left before columns place) (record_above_left before columns place) have))
