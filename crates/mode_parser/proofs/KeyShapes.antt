-- How many modes and records there are, and what each record has
use Rattle.std.proofs.Common.{◌≡◌, ℕ, zero, suc, ◌+◌, Bool, true, false, List, [], ◌∷◌, ◌++◌, length, replicate, refl, ap, ◌∙◌, arith, length-append}
use Rattle.std.specs.Prelude.{Option, All, if◌then◌else◌}
use Rattle.std.proofs.lemmas.List.{replicate-append-replicate}
use Rattle.std.proofs.lemmas.List.Elements.{All-append}
use Rattle.bool_coder.specs.Reader.{Reader, read}
use Rattle.frame_header.specs.declared.context.Probabilities.{Probabilities}
use Rattle.frame_header.specs.declared.header.Header.{Header}
use Rattle.vp8_tables.specs.Tables.{TableEntries}
use Rattle.intra_predict.specs.declared.modes.WholeMode.{WholeMode}
use Rattle.mode_parser.specs.declared.records.YMode.{YMode}
use Rattle.mode_parser.specs.declared.records.YMode.TheVariants.{Whole, B, Inter}
use Rattle.mode_parser.specs.declared.records.MbMode.{MbMode}
use Rattle.mode_parser.specs.declared.records.VectorMode.{VectorMode}
use Rattle.mode_parser.specs.declared.records.VectorMode.TheVariants.{Zero, Nearest, Near as NearMode, New, Split}
use Rattle.mode_parser.specs.declared.nearby.MbPosition.{MbPosition}
use Rattle.mode_parser.specs.declared.nearby.Near.{Near}
use Rattle.mode_parser.specs.Vectors.{MotionVector}
use Rattle.mode_parser.specs.SubModes.{first_sub_modes}
use Rattle.mode_parser.specs.Records.{skip, no_sub_modes, key_sub_modes, key_mode}
use Rattle.mode_parser.specs.InterRecords.{first_inter_sub_modes, inter_sub_modes, first_vectors, split_vectors, vectors_by, intra_mode, referenced_mode, inter_mode}
use Rattle.mode_parser.specs.FrameModes.{record_above, record_left, record_above_left, place_of, prediction_at, mode_at, first_modes}
use Rattle.mode_parser.specs.Segments.{segment_at}
use Rattle.mode_parser.specs.KeyShape.{HasShape, HasKeyShape}

-- one element more than n copies
pub replicate-push : {A : Type 0} (n : ℕ) (a : A) → replicate n a ++ a ∷ [] ≡ replicate (suc n) a
replicate-push n a =
    let one_more : n + 1 ≡ suc n = omega arith in replicate-append-replicate n 1 a ∙ ap (λ (k : ℕ). replicate k a) one_more

first_sub_modes-length : (n : ℕ) (tables : TableEntries) (above left : Option MbMode) (r : Reader) → length (first_sub_modes n tables above left r).0 ≡ n
unfolding first_sub_modes
first_sub_modes-length zero tables above left r = refl
first_sub_modes-length (suc n) tables above left r =
    rw (length-append, first_sub_modes-length n tables above left r) (omega arith)

key_sub_modes-length : (y_mode : YMode) (tables : TableEntries) (above left : Option MbMode) (r : Reader) → length (key_sub_modes y_mode tables above left r).0 ≡ 16
unfolding key_sub_modes
key_sub_modes-length (Whole mode) tables above left r = refl
key_sub_modes-length (Inter reference mode) tables above left r = refl
key_sub_modes-length B tables above left r = first_sub_modes-length 16 tables above left r

key_sub_modes-whole : (y_mode : YMode) (mode : WholeMode) (tables : TableEntries) (above left : Option MbMode) (r : Reader) → y_mode ≡ Whole mode → (key_sub_modes y_mode tables above left r).0 ≡ no_sub_modes
unfolding key_sub_modes
key_sub_modes-whole y_mode mode tables above left r is = rw is refl

key_mode-shape : (tables : TableEntries) (skip_probability : Option ℕ) (above left : Option MbMode) (r : Reader) → HasKeyShape (key_mode tables skip_probability above left r).0
unfolding key_mode
key_mode-shape tables skip_probability above left r = record {
  sixteen = key_sub_modes-length _ _ _ _ _;
  whole = λ mode is. key_sub_modes-whole _ mode _ _ _ _ is;
  vectors = refl;
}

key_mode-has_shape : (tables : TableEntries) (skip_probability : Option ℕ) (above left : Option MbMode) (r : Reader) → HasShape (key_mode tables skip_probability above left r).0
unfolding key_mode
key_mode-has_shape tables skip_probability above left r = record { sub_modes = key_sub_modes-length _ _ _ _ _; vectors = refl }

first_inter_sub_modes-length : (n : ℕ) (r : Reader) → length (first_inter_sub_modes n r).0 ≡ n
unfolding first_inter_sub_modes
first_inter_sub_modes-length zero r = refl
first_inter_sub_modes-length (suc n) r = rw (length-append, first_inter_sub_modes-length n r) (omega arith)

inter_sub_modes-length : (y_mode : YMode) (r : Reader) → length (inter_sub_modes y_mode r).0 ≡ 16
unfolding inter_sub_modes
inter_sub_modes-length (Whole mode) r = refl
inter_sub_modes-length B r = first_inter_sub_modes-length 16 r
inter_sub_modes-length (Inter reference mode) r = refl

first_vectors-length : (n : ℕ) (starts : List ℕ) (probabilities : List (List ℕ)) (best : MotionVector) (above left : Option MbMode) (r : Reader) → length (first_vectors n starts probabilities best above left r).0 ≡ n
unfolding first_vectors
first_vectors-length zero starts probabilities best above left r = refl
first_vectors-length (suc n) starts probabilities best above left r =
    rw (length-append, first_vectors-length n starts probabilities best above left r) (omega arith)

vectors_by-length : (mode : VectorMode) (near : Near) (probabilities : List (List ℕ)) (above left : Option MbMode) (r : Reader) → length (vectors_by mode near probabilities above left r).0 ≡ 16
unfolding vectors_by split_vectors
vectors_by-length Zero near probabilities above left r = refl
vectors_by-length Nearest near probabilities above left r = refl
vectors_by-length NearMode near probabilities above left r = refl
vectors_by-length New near probabilities above left r = refl
vectors_by-length Split near probabilities above left r = first_vectors-length 16 _ _ _ _ _ _

intra_mode-has_shape : (is_skipped : Bool) (probabilities : Probabilities) (r : Reader) → HasShape (intra_mode is_skipped probabilities r).0
unfolding intra_mode
intra_mode-has_shape is_skipped probabilities r = record { sub_modes = inter_sub_modes-length _ _; vectors = refl }

referenced_mode-has_shape : (is_skipped : Bool) (header : Header) (place : MbPosition) (above left above_left : Option MbMode) (r : Reader) → HasShape (referenced_mode is_skipped header place above left above_left r).0
unfolding referenced_mode
referenced_mode-has_shape is_skipped header place above left above_left r = record { sub_modes = refl; vectors = vectors_by-length _ _ _ _ _ _ }

inter_mode-has_shape : (header : Header) (place : MbPosition) (above left above_left : Option MbMode) (r : Reader) → HasShape (inter_mode header place above left above_left r).0
unfolding inter_mode
inter_mode-has_shape header place above left above_left r =
    let skipped = skip header.skip_probability r in
    let told = read header.reference_probabilities.intra skipped.1 in
    elim told.0 as (λ b. HasShape ((if b then referenced_mode skipped.0 header place above left above_left else intra_mode skipped.0 header.context.probabilities) told.1).0) [
      | true ↦ referenced_mode-has_shape _ _ _ _ _ _ _
      | false ↦ intra_mode-has_shape _ _ _
    ]

prediction_at-has_shape : (tables : TableEntries) (header : Header) (columns rows place : ℕ) (before : List MbMode) (r : Reader) → HasShape (prediction_at tables header columns rows place before r).0
prediction_at-has_shape tables header columns rows place before r =
    let above = record_above before columns place in
    let left = record_left before columns place in
    elim header.is_key as (λ b. HasShape ((if b then key_mode tables header.skip_probability above left else inter_mode header (place_of columns rows place) above left (record_above_left before columns place)) r).0) [
      | true ↦ key_mode-has_shape _ _ _ _ _
      | false ↦ inter_mode-has_shape _ _ _ _ _ _
    ]

mode_at-has_shape : (tables : TableEntries) (header : Header) (columns rows : ℕ) (map : Option (List ℕ)) (place : ℕ) (before : List MbMode) (r : Reader) → HasShape (mode_at tables header columns rows map place before r).0
unfolding mode_at
mode_at-has_shape tables header columns rows map place before r =
    let rest = prediction_at-has_shape tables header columns rows place before (segment_at header map place r).1 in
    record { sub_modes = rest.sub_modes; vectors = rest.vectors }

All-one : (P : MbMode → Type 0) (m : MbMode) → P m → All P (m ∷ [])
All-one P m here zero d below = here
All-one P m here (suc k) d below = absurd (omega arith)

pub first_modes-length : (count : ℕ) (tables : TableEntries) (header : Header) (columns rows : ℕ) (map : Option (List ℕ)) (r : Reader) → length (first_modes count tables header columns rows map r).0 ≡ count
unfolding first_modes
first_modes-length zero tables header columns rows map r = refl
first_modes-length (suc count) tables header columns rows map r =
    rw (length-append, first_modes-length count tables header columns rows map r) (omega arith)

pub first_modes-has_shape : (count : ℕ) (tables : TableEntries) (header : Header) (columns rows : ℕ) (map : Option (List ℕ)) (r : Reader) → All HasShape (first_modes count tables header columns rows map r).0
unfolding first_modes
first_modes-has_shape zero tables header columns rows map r = λ k d below. absurd (omega arith)
first_modes-has_shape (suc count) tables header columns rows map r =
    let before = first_modes count tables header columns rows map r in
    All-append HasShape _ _ (first_modes-has_shape count tables header columns rows map r) (All-one HasShape _ (mode_at-has_shape tables header columns rows map count before.0 before.1))

key_prediction-shape : (tables : TableEntries) (header : Header) (columns rows place : ℕ) (before : List MbMode) (r : Reader) → header.is_key ≡ true → HasKeyShape (prediction_at tables header columns rows place before r).0
key_prediction-shape tables header columns rows place before r key = rw key (key_mode-shape _ _ _ _ _)

key_at-shape : (tables : TableEntries) (header : Header) (columns rows : ℕ) (map : Option (List ℕ)) (place : ℕ) (before : List MbMode) (r : Reader) → header.is_key ≡ true → HasKeyShape (mode_at tables header columns rows map place before r).0
unfolding mode_at
key_at-shape tables header columns rows map place before r key =
    let rest = key_prediction-shape tables header columns rows place before (segment_at header map place r).1 key in
    record { sixteen = rest.sixteen; whole = rest.whole; vectors = rest.vectors }

pub first_modes-shape : (count : ℕ) (tables : TableEntries) (header : Header) (columns rows : ℕ) (map : Option (List ℕ)) (r : Reader) → header.is_key ≡ true → All HasKeyShape (first_modes count tables header columns rows map r).0
unfolding first_modes
first_modes-shape zero tables header columns rows map r key = λ k d below. absurd (omega arith)
first_modes-shape (suc count) tables header columns rows map r key =
    let before = first_modes count tables header columns rows map r in
    All-append HasKeyShape _ _ (first_modes-shape count tables header columns rows map r key) (All-one HasKeyShape _ (key_at-shape tables header columns rows map count before.0 before.1 key))
