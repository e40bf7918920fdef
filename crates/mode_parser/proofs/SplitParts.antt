-- The split that the start of a record says is that of the whole record
use Rattle.std.proofs.Common.{◌≡◌, ℕ, zero, suc, ◌+◌, ◌<◌, ◌≤◌, Bool, true, false, List, [], ◌∷◌, ◌++◌, length, slice_index_or, refl, ap, sym, ◌∙◌, arith, inl, inr}
use Rattle.std.specs.Prelude.{Option, None, is_some, IfSome, nat_eq, slice_index, if◌then◌else◌}
use Rattle.std.proofs.lemmas.Bool.{cases_lt}
use Rattle.std.proofs.lemmas.Bool.Decides.{nat_tests}
use Rattle.std.proofs.lemmas.List.{length-append, get_or_append_left}
use Rattle.std.proofs.Math.Seq.{get_or-append_seam}
use Rattle.std.proofs.lemmas.List.FromFn.{get_or-range_with_len}
use Rattle.bool_coder.specs.Reader.{Reader, read}
use Rattle.bool_coder.specs.Reading.{give}
use Rattle.bool_coder.specs.Trees.{leaf}
use Rattle.vp8_tables.specs.Tables.{TableEntries}
use Rattle.vp8_tables.specs.declared.modes.TheConstants.{SPLIT_TREE, SPLIT_PROBABILITIES, SPLIT_STARTS}
use Rattle.frame_header.specs.declared.header.Header.{Header}
use Rattle.mode_parser.specs.declared.records.Split.TheVariants.{Sixteenths}
use Rattle.mode_parser.specs.declared.records.VectorMode.{VectorMode}
use Rattle.mode_parser.specs.declared.records.VectorMode.TheVariants.{Zero, Nearest, Near as NearMode, New, Split as SplitMode}
use Rattle.mode_parser.specs.declared.records.MbMode.{MbMode}
use Rattle.mode_parser.specs.declared.nearby.MbPosition.{MbPosition}
use Rattle.mode_parser.specs.declared.nearby.Near.{Near}
use Rattle.frame_header.specs.declared.context.Probabilities.{Probabilities}
use Rattle.mode_parser.specs.declared.records.YMode.TheVariants.{B}
use Rattle.mode_parser.specs.Records.{skip, y_modes, key_y_mode, key_mode}
use Rattle.mode_parser.specs.SplitModes.{is_split}
use Rattle.mode_parser.specs.Vectors.{MotionVector, zero_vector}
use Rattle.mode_parser.specs.NearVectors.{is_split_mode}
use Rattle.mode_parser.specs.InterRecords.{block_vector, first_vectors, split_starts, split_vectors, vectors_by, are_starts, intra_mode, inter_y_mode, referenced_mode, inter_mode}
use Rattle.mode_parser.specs.Segments.{segment_at}
use Rattle.mode_parser.specs.FrameModes.{record_above, record_left, record_above_left, place_of, prediction_at, mode_at}
use Rattle.mode_parser.specs.RecordFacts.{splits, which_split, split_by, referenced_split, inter_split, split_in, split_at}
use Rattle.mode_parser.specs.RecordLaws.{IsSplitOf, ShareVectors}
use Rattle.mode_parser.proofs.Steps.{are_starts-at}

first_vectors-length : (n : ℕ) (starts : List ℕ) (probabilities : List (List ℕ)) (best : MotionVector) (above left : Option MbMode) (r : Reader) → length (first_vectors n starts probabilities best above left r).0 ≡ n
unfolding first_vectors
first_vectors-length zero starts probabilities best above left r = refl
first_vectors-length (suc n) starts probabilities best above left r =
    rw (length-append, first_vectors-length n starts probabilities best above left r) (omega arith)

-- a block after the start of its part has the vector of that block
block_vector-same : (start : ℕ) (probabilities : List (List ℕ)) (best : MotionVector) (above left : Option MbMode) (before : List MotionVector) (n : ℕ) (r : Reader) → start < n → (block_vector start probabilities best above left before n r).0 ≡ slice_index_or before start zero_vector
unfolding block_vector
block_vector-same start probabilities best above left before n r later =
    let other : nat_eq start n ≡ false = grind (arith, nat_tests) in
    rw other refl

-- one block more
one-more : (starts : List ℕ) (before : List MotionVector) (here : MotionVector) (n k : ℕ) → length before ≡ n → slice_index starts k ≤ k → k < suc n
    → (k < n → slice_index_or before k zero_vector ≡ slice_index_or before (slice_index starts k) zero_vector)
    → (slice_index starts n < n → here ≡ slice_index_or before (slice_index starts n) zero_vector)
    → slice_index_or (before ++ here ∷ []) k zero_vector ≡ slice_index_or (before ++ here ∷ []) (slice_index starts k) zero_vector
one-more starts before here n k is_n most below so_far is_here =
    elim (cases_lt k n) [
      | inl inside ↦
          get_or_append_left before (here ∷ []) zero_vector k (omega (arith, is_n, inside)) ∙ so_far inside
          ∙ sym (get_or_append_left before (here ∷ []) zero_vector (slice_index starts k) (omega (arith, is_n, inside, most)))
      | inr over ↦
          let at : k ≡ n = omega (arith, below, over) in
          elim (cases_lt (slice_index starts k) n) [
            | inl earlier ↦
                let last : k ≡ length before = omega (arith, at, is_n) in
                ap (λ (i : ℕ). slice_index_or (before ++ here ∷ []) i zero_vector) last ∙ get_or-append_seam before here [] zero_vector
                ∙ is_here (rw at at earlier) ∙ ap (λ (i : ℕ). slice_index_or before (slice_index starts i) zero_vector) (sym at)
                ∙ sym (get_or_append_left before (here ∷ []) zero_vector (slice_index starts k) (omega (arith, is_n, earlier)))
            | inr own ↦ let same : k ≡ slice_index starts k = omega (arith, at, own, most) in ap (λ (i : ℕ). slice_index_or (before ++ here ∷ []) i zero_vector) same
          ]
    ]

first_vectors-share : (n : ℕ) (starts : List ℕ) (probabilities : List (List ℕ)) (best : MotionVector) (above left : Option MbMode) (r : Reader) → are_starts 0 starts ≡ true → (k : ℕ) → k < n
    → slice_index_or (first_vectors n starts probabilities best above left r).0 k zero_vector ≡ slice_index_or (first_vectors n starts probabilities best above left r).0 (slice_index starts k) zero_vector
unfolding first_vectors
first_vectors-share zero starts probabilities best above left r are k below = absurd (omega (arith, below))
first_vectors-share (suc n) starts probabilities best above left r are k below =
    let before = first_vectors n starts probabilities best above left r in
    let most : slice_index starts k ≤ 0 + k = are_starts-at 0 starts k are in
    one-more starts before.0 (block_vector (slice_index starts n) probabilities best above left before.0 n before.1).0 n k (first_vectors-length n starts probabilities best above left r) (omega (arith, most)) below
    (first_vectors-share n starts probabilities best above left r are k) (block_vector-same (slice_index starts n) probabilities best above left before.0 n before.1)

-- each block is a part of its own
sixteen : (n : ℕ) → n < 16 → slice_index (slice_index_or SPLIT_STARTS 3 []) n ≡ n
sixteen n below = get_or-range_with_len 0 16 n 0 below ∙ omega arith

way-shares : (way : ℕ) (probabilities : List (List ℕ)) (best : MotionVector) (above left : Option MbMode) (r : Reader) → ShareVectors (slice_index_or splits way Sixteenths) (first_vectors 16 (slice_index_or SPLIT_STARTS way []) probabilities best above left r).0
way-shares zero probabilities best above left r = first_vectors-share 16 (slice_index_or SPLIT_STARTS 0 []) probabilities best above left r refl
way-shares (suc zero) probabilities best above left r = first_vectors-share 16 (slice_index_or SPLIT_STARTS 1 []) probabilities best above left r refl
way-shares (suc (suc zero)) probabilities best above left r = first_vectors-share 16 (slice_index_or SPLIT_STARTS 2 []) probabilities best above left r refl
way-shares (suc (suc (suc zero))) probabilities best above left r = first_vectors-share 16 (slice_index_or SPLIT_STARTS 3 []) probabilities best above left r refl
way-shares (suc (suc (suc (suc way)))) probabilities best above left r = λ n below. ap (λ (i : ℕ). slice_index_or (first_vectors 16 [] probabilities best above left r).0 i zero_vector) (sym (sixteen n below))

-- by the vector mode
mode-split : (mode : VectorMode) (r : Reader) → is_some (split_by mode r).0 ≡ is_split mode
unfolding split_by which_split
mode-split Zero r = refl
mode-split Nearest r = refl
mode-split NearMode r = refl
mode-split New r = refl
mode-split SplitMode r = refl

mode-shares : (mode : VectorMode) (near : Near) (probabilities : List (List ℕ)) (above left : Option MbMode) (r : Reader) → IfSome (split_by mode r).0 (λ s. ShareVectors s (vectors_by mode near probabilities above left r).0)
unfolding split_by which_split vectors_by split_vectors split_starts
mode-shares Zero near probabilities above left r = tt
mode-shares Nearest near probabilities above left r = tt
mode-shares NearMode near probabilities above left r = tt
mode-shares New near probabilities above left r = tt
mode-shares SplitMode near probabilities above left r = way-shares (leaf SPLIT_TREE SPLIT_PROBABILITIES r).0 probabilities near.best above left (leaf SPLIT_TREE SPLIT_PROBABILITIES r).1

referenced-split : (is_skipped : Bool) (header : Header) (place : MbPosition) (above left above_left : Option MbMode) (r : Reader) → IsSplitOf (referenced_split header place above left above_left r).0 (referenced_mode is_skipped header place above left above_left r).0
unfolding referenced_split referenced_mode
referenced-split is_skipped header place above left above_left r = record { has = mode-split _ _; parts = mode-shares _ _ _ _ _ _ }

-- a macroblock without a reference has none
y_modes-whole : (n : ℕ) → is_split_mode (slice_index_or y_modes n B) ≡ false
y_modes-whole zero = refl
y_modes-whole (suc zero) = refl
y_modes-whole (suc (suc zero)) = refl
y_modes-whole (suc (suc (suc zero))) = refl
y_modes-whole (suc (suc (suc (suc zero)))) = refl
y_modes-whole (suc (suc (suc (suc (suc n))))) = refl

intra-split : (is_skipped : Bool) (probabilities : Probabilities) (r : Reader) → IsSplitOf None (intra_mode is_skipped probabilities r).0
unfolding intra_mode inter_y_mode
intra-split is_skipped probabilities r = record { has = sym (y_modes-whole _); parts = tt }

key-split : (tables : TableEntries) (skipped : Option ℕ) (above left : Option MbMode) (r : Reader) → IsSplitOf None (key_mode tables skipped above left r).0
unfolding key_mode key_y_mode
key-split tables skipped above left r = record { has = sym (y_modes-whole _); parts = tt }

inter-split : (header : Header) (place : MbPosition) (above left above_left : Option MbMode) (r : Reader) → IsSplitOf (inter_split header place above left above_left r).0 (inter_mode header place above left above_left r).0
unfolding inter_split inter_mode
inter-split header place above left above_left r =
    let skipped = skip header.skip_probability r in
    let told = read header.reference_probabilities.intra skipped.1 in
    elim told.0 as (λ b. IsSplitOf ((if b then referenced_split header place above left above_left else give None) told.1).0 ((if b then referenced_mode skipped.0 header place above left above_left else intra_mode skipped.0 header.context.probabilities) told.1).0) [
      | true ↦ referenced-split skipped.0 header place above left above_left told.1
      | false ↦ intra-split skipped.0 header.context.probabilities told.1
    ]

prediction-split : (tables : TableEntries) (header : Header) (columns rows place : ℕ) (before : List MbMode) (r : Reader) → IsSplitOf (split_in header columns rows place before r).0 (prediction_at tables header columns rows place before r).0
prediction-split tables header columns rows place before r =
    let above = record_above before columns place in
    let left = record_left before columns place in
    let corner = record_above_left before columns place in
    let here = place_of columns rows place in
    elim header.is_key as (λ b. IsSplitOf ((if b then give None else inter_split header here above left corner) r).0 ((if b then key_mode tables header.skip_probability above left else inter_mode header here above left corner) r).0) [
      | true ↦ key-split tables header.skip_probability above left r
      | false ↦ inter-split header here above left corner r
    ]

pub at-split : (tables : TableEntries) (header : Header) (columns rows : ℕ) (segments : Option (List ℕ)) (place : ℕ) (before : List MbMode) (r : Reader) → IsSplitOf (split_at header columns rows segments place before r).0 (mode_at tables header columns rows segments place before r).0
unfolding split_at mode_at
at-split tables header columns rows segments place before r =
    let rest = prediction-split tables header columns rows place before (segment_at header segments place r).1 in
    record { has = rest.has; parts = rest.parts }
