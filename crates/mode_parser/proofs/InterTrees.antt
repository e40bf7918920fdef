-- Modes and vectors of inter frames by the leaf to which a walk leads
use Rattle.std.proofs.Common.{◌≡◌, ℕ, ◌<◌, ◌≤◌, Bool, true, false, List, [], ◌∷◌, ◌++◌, length, take, slice_index_or, refl, ◌∙◌, arith}
use Rattle.std.specs.Prelude.{Option, nat_eq}
use Rattle.std.proofs.lemmas.Bool.Decides.{nat_tests}
use Rattle.std.proofs.lemmas.List.{get_or-take, get_or_default}
use Rattle.bool_coder.specs.Reader.{Reader}
use Rattle.bool_coder.specs.Trees.{leaf_below, leaf}
use Rattle.vp8_tables.specs.declared.modes.TheConstants.{INTER_Y_TREE, VECTOR_MODE_TREE, SPLIT_TREE, SPLIT_PROBABILITIES, SPLIT_STARTS, PART_VECTOR_TREE, PART_VECTOR_PROBABILITIES}
use Rattle.mode_parser.specs.declared.records.MbMode.{MbMode}
use Rattle.intra_predict.specs.declared.modes.WholeMode.TheVariants.{Dc}
use Rattle.frame_header.specs.declared.references.Reference.{Reference}
use Rattle.frame_header.specs.declared.header.Header.{Header}
use Rattle.mode_parser.specs.declared.nearby.MbPosition.{MbPosition}
use Rattle.mode_parser.specs.declared.nearby.Near.{Near}
use Rattle.mode_parser.specs.declared.records.VectorMode.{VectorMode}
use Rattle.mode_parser.specs.declared.records.YMode.TheVariants.{B, Inter}
use Rattle.mode_parser.specs.NearVectors.{near_of}
use Rattle.mode_parser.specs.declared.record_list.Start.{Start}
use Rattle.mode_parser.specs.Appending.{appended, appended_split}
use Rattle.mode_parser.specs.declared.records.VectorMode.TheVariants.{Split}
use Rattle.mode_parser.specs.Vectors.{MotionVector, zero_vector, sum_of}
use Rattle.mode_parser.specs.VectorReading.{new_vector}
use Rattle.mode_parser.specs.Records.{y_modes, no_sub_modes}
use Rattle.mode_parser.specs.InterRecords.{inter_y_mode, vector_modes, counted_probabilities, vector_mode, vector_above, vector_left, part_row, part_vector, block_vector, split_starts, split_vectors, which_reference, vectors_by, referenced_mode}

pub inter_y_mode-leaf : (probabilities : List ℕ) (number : ℕ) (r s : Reader) → leaf_below 8 INTER_Y_TREE probabilities 0 r ≡ (number, s) → inter_y_mode probabilities r ≡ (slice_index_or y_modes number B, s)
unfolding inter_y_mode leaf
inter_y_mode-leaf probabilities number r s told = rw told refl

pub split_starts-leaf : (number : ℕ) (r s : Reader) → leaf_below 6 SPLIT_TREE SPLIT_PROBABILITIES 0 r ≡ (number, s) → split_starts r ≡ (slice_index_or SPLIT_STARTS number [], s)
unfolding split_starts leaf
split_starts-leaf number r s told = rw told refl

pub part_vector-left : (probabilities : List (List ℕ)) (best left above : MotionVector) (row : ℕ) (nodes : List ℕ) (r s : Reader) → row ≡ part_row left above → nodes ≡ slice_index_or PART_VECTOR_PROBABILITIES row [] → leaf_below 6 PART_VECTOR_TREE nodes 0 r ≡ (0, s) → part_vector probabilities best left above r ≡ (left, s)
unfolding part_vector leaf
part_vector-left probabilities best left above row nodes r s is are told = let there = rw (are, is) at told in rw there refl

pub part_vector-above : (probabilities : List (List ℕ)) (best left above : MotionVector) (row : ℕ) (nodes : List ℕ) (r s : Reader) → row ≡ part_row left above → nodes ≡ slice_index_or PART_VECTOR_PROBABILITIES row [] → leaf_below 6 PART_VECTOR_TREE nodes 0 r ≡ (1, s) → part_vector probabilities best left above r ≡ (above, s)
unfolding part_vector leaf
part_vector-above probabilities best left above row nodes r s is are told = let there = rw (are, is) at told in rw there refl

pub part_vector-zero : (probabilities : List (List ℕ)) (best left above : MotionVector) (row : ℕ) (nodes : List ℕ) (r s : Reader) → row ≡ part_row left above → nodes ≡ slice_index_or PART_VECTOR_PROBABILITIES row [] → leaf_below 6 PART_VECTOR_TREE nodes 0 r ≡ (2, s) → part_vector probabilities best left above r ≡ (zero_vector, s)
unfolding part_vector leaf
part_vector-zero probabilities best left above row nodes r s is are told = let there = rw (are, is) at told in rw there refl

pub part_vector-new : (probabilities : List (List ℕ)) (best left above : MotionVector) (row : ℕ) (nodes : List ℕ) (more sum : MotionVector) (r s t : Reader) → row ≡ part_row left above → nodes ≡ slice_index_or PART_VECTOR_PROBABILITIES row [] → leaf_below 6 PART_VECTOR_TREE nodes 0 r ≡ (3, s) → new_vector probabilities s ≡ (more, t) → sum ≡ sum_of best more → part_vector probabilities best left above r ≡ (sum, t)
unfolding part_vector leaf
part_vector-new probabilities best left above row nodes more sum r s t is are told new is_sum = let there = rw (are, is) at told in rw (there, new, is_sum) refl

pub block_vector-later : (start : ℕ) (probabilities : List (List ℕ)) (best : MotionVector) (above left : Option MbMode) (vectors : List MotionVector) (n : ℕ) (d : MotionVector) (r : Reader) → start < n → start < length vectors → block_vector start probabilities best above left (take n vectors) n r ≡ (slice_index_or vectors start d, r)
unfolding block_vector
block_vector-later start probabilities best above left vectors n d r before inside =
    let other : nat_eq start n ≡ false = grind (arith, nat_tests) in
    let same : slice_index_or (take n vectors) start zero_vector ≡ slice_index_or vectors start d = get_or-take n vectors start zero_vector before ∙ get_or_default vectors start zero_vector d inside in
    rw (other, same) refl

pub block_vector-first : (start : ℕ) (probabilities : List (List ℕ)) (best : MotionVector) (above left : Option MbMode) (vectors : List MotionVector) (n : ℕ) (neighbour over here : MotionVector) (r s : Reader) → start ≤ n → n ≤ start → neighbour ≡ vector_left left (take n vectors) n → over ≡ vector_above above (take n vectors) n → part_vector probabilities best neighbour over r ≡ (here, s) → block_vector start probabilities best above left (take n vectors) n r ≡ (here, s)
unfolding block_vector
block_vector-first start probabilities best above left vectors n neighbour over here r s most least is_beside is_over told =
    let same : nat_eq start n ≡ true = grind (arith, nat_tests) in
    rw (same, ← is_beside, ← is_over) told

pub vector_mode-leaf : (counts nodes : List ℕ) (number : ℕ) (r s : Reader) → nodes ≡ counted_probabilities counts → leaf_below 8 VECTOR_MODE_TREE nodes 0 r ≡ (number, s) → vector_mode counts r ≡ (slice_index_or vector_modes number Split, s)
unfolding vector_mode leaf
vector_mode-leaf counts nodes number r s are told = let there = rw are at told in rw there refl

-- a record with a reference, appended to those before it, by the parts from which the code makes it
pub referenced_mode-appended : (is_skipped : Bool) (header : Header) (segment : ℕ) (place : MbPosition) (above left above_left : Option MbMode) (before : List MbMode) (from : Reference) (near : Near) (mode : VectorMode) (vectors : List MotionVector) (r s t u : Reader) → which_reference header.reference_probabilities r ≡ (from, s) → near ≡ near_of above left above_left from header.context.sign_biases place → vector_mode near.counts s ≡ (mode, t) → vectors_by mode near header.context.probabilities.vectors above left t ≡ (vectors, u) → appended segment before (referenced_mode is_skipped header place above left above_left) r ≡ (before ++ record { segment = segment; is_skipped = is_skipped; y_mode = Inter from mode; sub_modes = no_sub_modes; uv_mode = Dc; vectors = vectors } ∷ [], u)
unfolding referenced_mode
referenced_mode-appended is_skipped header segment place above left above_left before from near mode vectors r s t u is_from is_near is_mode are_vectors = rw (is_from, ← is_near, is_mode, are_vectors) refl

-- the same for a split macroblock, before its vectors are read
pub referenced_mode-split : (header : Header) (start : Start) (place : MbPosition) (above left above_left : Option MbMode) (before : List MbMode) (from : Reference) (near : Near) (mode : VectorMode) (r s t : Reader) → which_reference header.reference_probabilities r ≡ (from, s) → near ≡ near_of above left above_left from header.context.sign_biases place → vector_mode near.counts s ≡ (mode, t) → mode ≡ Split → appended start.segment before (referenced_mode start.is_skipped header place above left above_left) r ≡ appended_split start from before (split_vectors header.context.probabilities.vectors near.best above left) t
unfolding referenced_mode vectors_by
referenced_mode-split header start place above left above_left before from near mode r s t is_from is_near is_mode is_split = rw (is_from, ← is_near, is_mode, is_split) refl
