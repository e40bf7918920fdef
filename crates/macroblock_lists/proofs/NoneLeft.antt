-- A reading that is begun with no bit left leaves none.
use Rattle.std.proofs.Common.{◌≡◌, ℕ, zero, suc, ◌+◌, ◌*◌, ◌==◌, Bool, true, false, List, [], ◌∷◌, ◌++◌, length, refl, ap, arith, Option, Some, None}
use Rattle.std.specs.Prelude.{ℤ, pos, neg_ℤ, nat_lt, ◌^◌, slice_index, slice_index_or, unsigned_abs, if◌then◌else◌}
use Rattle.std.specs.Int.{from_bool}
use Rattle.bool_coder.specs.Reader.{Reader, read}
use Rattle.bool_coder.specs.Reading.{Reading, ◌>>=◌, give}
use Rattle.bool_coder.specs.Trees.{is_node, leaf, leaf_below}
use Rattle.vp8_tables.specs.Tables.{TableEntries, key_sub_nodes_of}
use Rattle.vp8_tables.specs.declared.modes.TheConstants.{INTER_SUB_PROBABILITIES, KEY_UV_PROBABILITIES, PART_VECTOR_PROBABILITIES, PART_VECTOR_TREE, SPLIT_PROBABILITIES, SPLIT_TREE}
use Rattle.vp8_tables.specs.declared.vectors.TheConstants.{LONG_VECTOR_BITS}
use Rattle.frame_header.specs.declared.header.Header.{Header}
use Rattle.frame_header.specs.declared.context.Probabilities.{Probabilities}
use Rattle.mode_parser.specs.declared.nearby.MbPosition.{MbPosition}
use Rattle.mode_parser.specs.declared.nearby.Near.{Near}
use Rattle.mode_parser.specs.declared.records.MbMode.{MbMode}
use Rattle.mode_parser.specs.declared.records.VectorMode.{VectorMode}
use Rattle.mode_parser.specs.declared.records.VectorMode.TheVariants.{Zero, Nearest, Near as NearMode, New, Split as SplitMode}
use Rattle.mode_parser.specs.declared.records.YMode.{YMode}
use Rattle.mode_parser.specs.declared.records.YMode.TheVariants.{Whole, B, Inter}
use Rattle.mode_parser.specs.Vectors.{MotionVector, zero_vector, sum_of}
use Rattle.mode_parser.specs.SubModes.{sub_mode, first_sub_modes, mode_above, mode_left, number_of}
use Rattle.mode_parser.specs.Records.{skip, key_y_mode, chroma_mode, key_sub_modes, key_mode, no_vectors}
use Rattle.mode_parser.specs.VectorReading.{bits_at, long_size, short_size, vector_size, vector_component, new_vector}
use Rattle.mode_parser.specs.InterRecords.{inter_y_mode, first_inter_sub_modes, inter_sub_modes, which_reference, vector_mode, vector_left, vector_above, part_row, part_vector, block_vector, first_vectors, split_starts, split_vectors, vectors_by, intra_mode, referenced_mode, inter_mode}
use Rattle.mode_parser.specs.Segments.{segment_at, segment_number}
use Rattle.mode_parser.specs.FrameModes.{first_modes, mode_at, place_of, prediction_at, record_above, record_above_left, record_left}
use Rattle.mode_parser.specs.RecordFacts.{which_split, split_by, referenced_split, inter_split, split_in, split_at}
use Rattle.macroblock_lists.proofs.CountedEnds.{nothing, read-none}

pub record StaysNone {A : Type 0} (reading : Reading A) : Type 0 where
  pub at : (r : Reader) → length r.rest ≡ 0 → length (reading r).1.rest ≡ 0

none-give : {A : Type 0} (x : A) → StaysNone (give x)
none-give x = record { at = λ r none. none }

none-read : (prob : ℕ) → StaysNone (read prob)
none-read prob = record { at = λ r none. ap (λ (rest : List ℕ). length rest) (read-none prob r _ refl (nothing r.rest none)) }

none-bind : {A B : Type 0} {first : Reading A} {next : A → Reading B} → StaysNone first → ((x : A) → StaysNone (next x)) → StaysNone (first >>= next)
none-bind {first = first} one later = record { at = λ r none. (later (first r).0).at (first r).1 (one.at r none) }

none-if : {A : Type 0} {yes no : Reading A} (test : Bool) → StaysNone yes → StaysNone no → StaysNone (if test then yes else no)
none-if true one other = one
none-if false one other = other

none-leaf_below : (fuel : ℕ) (tree : List ℤ) (probs : List ℕ) (node : ℕ) → StaysNone (leaf_below fuel tree probs node)
unfolding leaf_below
none-leaf_below zero tree probs node = none-give 0
none-leaf_below (suc fuel) tree probs node =
    none-bind (none-read _) (λ bit. (
    let entry : ℤ = slice_index_or tree (node + from_bool bit) (pos 0) in
    none-if (is_node entry) (none-leaf_below fuel tree probs (unsigned_abs entry)) (none-give (unsigned_abs entry))))

none-leaf : (tree : List ℤ) (probs : List ℕ) → StaysNone (leaf tree probs)
unfolding leaf
none-leaf tree probs = none-leaf_below _ tree probs 0

ruleset nones = (none-bind, none-if, none-give, none-read, none-leaf)

-- modes
none-sub_mode : (nodes : List ℕ) → StaysNone (sub_mode nodes)
unfolding sub_mode
none-sub_mode nodes = search nones

none-first_sub_modes : (n : ℕ) (tables : TableEntries) (above left : Option MbMode) → StaysNone (first_sub_modes n tables above left)
unfolding first_sub_modes
none-first_sub_modes zero tables above left = none-give []
none-first_sub_modes (suc n) tables above left =
    none-bind (none-first_sub_modes n tables above left) (λ before.
    none-bind (none-sub_mode (key_sub_nodes_of tables (number_of (mode_above above before n)) (number_of (mode_left left before n)))) (λ mode. none-give (before ++ mode ∷ [])))

none-key_sub_modes : (mode : YMode) (tables : TableEntries) (above left : Option MbMode) → StaysNone (key_sub_modes mode tables above left)
unfolding key_sub_modes
none-key_sub_modes B tables above left = none-first_sub_modes 16 tables above left
none-key_sub_modes (Whole mode) tables above left = none-give _
none-key_sub_modes (Inter reference mode) tables above left = none-give _

none-first_inter_sub_modes : (n : ℕ) → StaysNone (first_inter_sub_modes n)
unfolding first_inter_sub_modes
none-first_inter_sub_modes zero = none-give []
none-first_inter_sub_modes (suc n) = none-bind (none-first_inter_sub_modes n) (λ before. none-bind (none-sub_mode INTER_SUB_PROBABILITIES) (λ mode. none-give (before ++ mode ∷ [])))

none-inter_sub_modes : (mode : YMode) → StaysNone (inter_sub_modes mode)
unfolding inter_sub_modes
none-inter_sub_modes B = none-first_inter_sub_modes 16
none-inter_sub_modes (Whole mode) = none-give _
none-inter_sub_modes (Inter reference mode) = none-give _

none-skip : (probability : Option ℕ) → StaysNone (skip probability)
unfolding skip
none-skip None = none-give false
none-skip (Some probability) = none-read probability

none-key_y_mode : StaysNone key_y_mode
unfolding key_y_mode
none-key_y_mode = search nones

none-chroma_mode : (probs : List ℕ) → StaysNone (chroma_mode probs)
unfolding chroma_mode
none-chroma_mode probs = search nones

none-key_mode : (tables : TableEntries) (skipped : Option ℕ) (above left : Option MbMode) → StaysNone (key_mode tables skipped above left)
unfolding key_mode
none-key_mode tables skipped above left =
    none-bind (none-skip skipped) (λ is_skipped. none-bind none-key_y_mode (λ mode. none-bind (none-key_sub_modes mode tables above left) (λ sub_modes.
    none-bind (none-chroma_mode KEY_UV_PROBABILITIES) (λ chroma. none-give (record { segment = 0; is_skipped = is_skipped; y_mode = mode; sub_modes = sub_modes; uv_mode = chroma; vectors = no_vectors })))))

none-intra_mode : (is_skipped : Bool) (probs : Probabilities) → StaysNone (intra_mode is_skipped probs)
unfolding intra_mode inter_y_mode
none-intra_mode is_skipped probs = search (nones, none-inter_sub_modes, none-chroma_mode)

-- vectors
none-bits_at : (places probs : List ℕ) → StaysNone (bits_at places probs)
unfolding bits_at
none-bits_at [] probs = none-give 0
none-bits_at (place ∷ places) probs = none-bind (none-read _) (λ bit. none-bind (none-bits_at places probs) (λ rest. none-give (2 ^ place * from_bool bit + rest)))

none-long_size : (probs : List ℕ) → StaysNone (long_size probs)
unfolding long_size
none-long_size probs =
    none-bind (none-bits_at LONG_VECTOR_BITS probs) (λ size. none-if (nat_lt size 16) (none-give (size + 8)) (none-bind (none-read (slice_index probs 12)) (λ bit. none-give (size + 8 * from_bool bit))))

none-short_size : (probs : List ℕ) → StaysNone (short_size probs)
unfolding short_size
none-short_size probs = none-leaf _ _

none-vector_size : (probs : List ℕ) → StaysNone (vector_size probs)
unfolding vector_size
none-vector_size probs = none-bind (none-read (slice_index probs 0)) (λ is_long. none-if is_long (none-long_size probs) (none-short_size probs))

none-vector_component : (probs : List ℕ) → StaysNone (vector_component probs)
unfolding vector_component
none-vector_component probs =
    none-bind (none-vector_size probs) (λ n. none-if (n == 0) (none-give (pos 0)) (none-bind (none-read (slice_index probs 1)) (λ is_minus. none-give (if is_minus then neg_ℤ (pos n) else pos n))))

none-new_vector : (probs : List (List ℕ)) → StaysNone (new_vector probs)
unfolding new_vector
none-new_vector probs = search (nones, none-vector_component)

none-part_vector : (probs : List (List ℕ)) (best left above : MotionVector) → StaysNone (part_vector probs best left above)
unfolding part_vector
none-part_vector probs best left above =
    none-bind (none-leaf PART_VECTOR_TREE (slice_index_or PART_VECTOR_PROBABILITIES (part_row left above) [])) (λ n.
    none-if (n == 0) (none-give left) (none-if (n == 1) (none-give above) (none-if (n == 2) (none-give zero_vector) (none-bind (none-new_vector probs) (λ more. none-give (sum_of best more))))))

none-block_vector : (start : ℕ) (probs : List (List ℕ)) (best : MotionVector) (above left : Option MbMode) (before : List MotionVector) (n : ℕ) → StaysNone (block_vector start probs best above left before n)
unfolding block_vector
none-block_vector start probs best above left before n =
    none-if (start == n) (none-part_vector probs best (vector_left left before n) (vector_above above before n)) (none-give (slice_index_or before start zero_vector))

none-first_vectors : (n : ℕ) (starts : List ℕ) (probs : List (List ℕ)) (best : MotionVector) (above left : Option MbMode) → StaysNone (first_vectors n starts probs best above left)
unfolding first_vectors
none-first_vectors zero starts probs best above left = none-give []
none-first_vectors (suc n) starts probs best above left =
    none-bind (none-first_vectors n starts probs best above left) (λ before. none-bind (none-block_vector (slice_index starts n) probs best above left before n) (λ here. none-give (before ++ here ∷ [])))

none-split_vectors : (probs : List (List ℕ)) (best : MotionVector) (above left : Option MbMode) → StaysNone (split_vectors probs best above left)
unfolding split_vectors split_starts
none-split_vectors probs best above left = search (nones, none-first_vectors)

none-vectors_by : (mode : VectorMode) (near : Near) (probs : List (List ℕ)) (above left : Option MbMode) → StaysNone (vectors_by mode near probs above left)
unfolding vectors_by
none-vectors_by Zero near probs above left = none-give _
none-vectors_by Nearest near probs above left = none-give _
none-vectors_by NearMode near probs above left = none-give _
none-vectors_by New near probs above left = search (nones, none-new_vector)
none-vectors_by SplitMode near probs above left = none-split_vectors probs near.best above left

-- records
none-referenced_mode : (is_skipped : Bool) (header : Header) (place : MbPosition) (above left above_left : Option MbMode) → StaysNone (referenced_mode is_skipped header place above left above_left)
unfolding referenced_mode which_reference vector_mode
none-referenced_mode is_skipped header place above left above_left = search (nones, none-vectors_by)

none-inter_mode : (header : Header) (place : MbPosition) (above left above_left : Option MbMode) → StaysNone (inter_mode header place above left above_left)
unfolding inter_mode
none-inter_mode header place above left above_left = search (nones, none-skip, none-referenced_mode, none-intra_mode)

none-segment_at : (header : Header) (map : Option (List ℕ)) (place : ℕ) → StaysNone (segment_at header map place)
unfolding segment_at segment_number
none-segment_at header map place = search nones

none-mode_at : (tables : TableEntries) (header : Header) (columns rows : ℕ) (map : Option (List ℕ)) (place : ℕ) (before : List MbMode) → StaysNone (mode_at tables header columns rows map place before)
unfolding mode_at
none-mode_at tables header columns rows map place before = search (nones, none-segment_at, none-key_mode, none-inter_mode)

pub none-first_modes : (n : ℕ) (tables : TableEntries) (header : Header) (columns rows : ℕ) (map : Option (List ℕ)) → StaysNone (first_modes n tables header columns rows map)
unfolding first_modes
none-first_modes zero tables header columns rows map = none-give []
none-first_modes (suc n) tables header columns rows map =
    none-bind (none-first_modes n tables header columns rows map) (λ before. none-bind (none-mode_at tables header columns rows map n before) (λ mode. none-give (before ++ mode ∷ [])))

-- if no bit is left after some records, none is after more
pub none-more : (n more : ℕ) (tables : TableEntries) (header : Header) (columns rows : ℕ) (map : Option (List ℕ)) (r : Reader)
    → length (first_modes n tables header columns rows map r).1.rest ≡ 0 → length (first_modes (more + n) tables header columns rows map r).1.rest ≡ 0
unfolding first_modes
none-more n zero tables header columns rows map r none = let same : 0 + n ≡ n = omega arith in rw same none
none-more n (suc more) tables header columns rows map r none =
    let same : suc more + n ≡ suc (more + n) = omega arith in
    rw same ((none-mode_at tables header columns rows map (more + n) (first_modes (more + n) tables header columns rows map r).0).at _ (none-more n more tables header columns rows map r none))

-- nor after a record whose split left none
mode-none : (mode : VectorMode) (near : Near) (probs : List (List ℕ)) (above left : Option MbMode) (r : Reader) → length (split_by mode r).1.rest ≡ 0 → length (vectors_by mode near probs above left r).1.rest ≡ 0
unfolding split_by which_split vectors_by split_vectors split_starts
mode-none Zero near probs above left r none = none
mode-none Nearest near probs above left r none = none
mode-none NearMode near probs above left r none = none
mode-none New near probs above left r none = (none-new_vector probs).at r none
mode-none SplitMode near probs above left r none = (none-first_vectors 16 _ probs near.best above left).at (leaf SPLIT_TREE SPLIT_PROBABILITIES r).1 none

referenced-none : (is_skipped : Bool) (header : Header) (place : MbPosition) (above left above_left : Option MbMode) (r : Reader)
    → length (referenced_split header place above left above_left r).1.rest ≡ 0 → length (referenced_mode is_skipped header place above left above_left r).1.rest ≡ 0
unfolding referenced_split referenced_mode
referenced-none is_skipped header place above left above_left r none = mode-none _ _ header.context.probabilities.vectors above left _ none

inter-none : (header : Header) (place : MbPosition) (above left above_left : Option MbMode) (r : Reader)
    → length (inter_split header place above left above_left r).1.rest ≡ 0 → length (inter_mode header place above left above_left r).1.rest ≡ 0
unfolding inter_split inter_mode
inter-none header place above left above_left r =
    let skipped = skip header.skip_probability r in
    let found = read header.reference_probabilities.intra skipped.1 in
    elim found.0 as (λ b. length ((if b then referenced_split header place above left above_left else give None) found.1).1.rest ≡ 0
    → length ((if b then referenced_mode skipped.0 header place above left above_left else intra_mode skipped.0 header.context.probabilities) found.1).1.rest ≡ 0) [
      | true ↦ referenced-none skipped.0 header place above left above_left found.1
      | false ↦ (none-intra_mode skipped.0 header.context.probabilities).at found.1
    ]

prediction-none : (tables : TableEntries) (header : Header) (columns rows place : ℕ) (before : List MbMode) (r : Reader)
    → length (split_in header columns rows place before r).1.rest ≡ 0 → length (prediction_at tables header columns rows place before r).1.rest ≡ 0
prediction-none tables header columns rows place before r =
    let above = record_above before columns place in
    let left = record_left before columns place in
    let corner = record_above_left before columns place in
    let here = place_of columns rows place in
    elim header.is_key as (λ b. length ((if b then give None else inter_split header here above left corner) r).1.rest ≡ 0
    → length ((if b then key_mode tables header.skip_probability above left else inter_mode header here above left corner) r).1.rest ≡ 0) [
      | true ↦ (none-key_mode tables header.skip_probability above left).at r
      | false ↦ inter-none header here above left corner r
    ]

pub split-none : (tables : TableEntries) (header : Header) (columns rows : ℕ) (map : Option (List ℕ)) (place : ℕ) (before : List MbMode) (r : Reader)
    → length (split_at header columns rows map place before r).1.rest ≡ 0 → length (mode_at tables header columns rows map place before r).1.rest ≡ 0
unfolding split_at mode_at
split-none tables header columns rows map place before r none =
    prediction-none tables header columns rows place before (segment_at header map place r).1 none
