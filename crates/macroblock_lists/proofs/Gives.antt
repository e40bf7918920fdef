-- What readings of a header return: probabilities are bytes.
use Rattle.std.proofs.Common.{◌≡◌, ℕ, zero, suc, ◌+◌, ◌*◌, ◌<◌, Bool, true, false, List, [], ◌∷◌, refl, arith}
use Rattle.std.specs.Prelude.{◌^◌, ◌==◌, slice_index, slice_index_or, slice_set, Some, None, if◌then◌else◌}
use Rattle.std.specs.Int.{from_bool}
use Rattle.bool_coder.specs.Reader.{Reader, read}
use Rattle.bool_coder.specs.Reading.{Reading, ◌>>=◌, give, flag, more_bits, literal}
use Rattle.bool_coder.specs.Chains.{AreProbabilities}
use Rattle.bool_coder.proofs.Literals.{with_bit-small}
use Rattle.mode_parser.specs.Chains.{AreRows, IsProbability}
use Rattle.vp8_tables.specs.declared.vectors.TheConstants.{VECTOR_UPDATE_PROBABILITIES}
use Rattle.frame_header.specs.declared.context.Context.{Context}
use Rattle.frame_header.specs.declared.context.Segments.{Segments}
use Rattle.frame_header.specs.declared.context.Probabilities.{Probabilities}
use Rattle.frame_header.specs.declared.inter_fields.ReferenceProbabilities.{ReferenceProbabilities}
use Rattle.frame_header.specs.Fields.{adjustment, colors, fields, filter, map_probability, map_probabilities, partition_count, segment_data, segment_updates, segmentation}
use Rattle.frame_header.specs.InterFields.{reference_probabilities, no_reference_probabilities, y_modes, uv_modes, vector_probability, vectors, inter_fields}
use Rattle.frame_header.specs.TrailingFields.{after_skip, quantizers, skip_probability, trailing_fields, updated}
use Rattle.frame_header.specs.References.{refreshes}
use Rattle.macroblock_lists.specs.FirstChains.{AreBytes}
use Rattle.frame_header.specs.Updates.{first_updated}

-- each value that a reading returns has this property
pub record Gives {A : Type 0} (P : A → Type 0) (reading : Reading A) : Type 0 where
  pub at : (r : Reader) → P (reading r).0

pub gives-give : {A : Type 0} {P : A → Type 0} (x : A) → P x → Gives P (give x)
gives-give x is = record { at = λ r. is }

pub gives-next : {A B : Type 0} {P : A → Type 0} {Q : B → Type 0} {first : Reading A} {next : A → Reading B} → Gives P first → ((x : A) → P x → Gives Q (next x)) → Gives Q (first >>= next)
gives-next {first = first} one later = record { at = λ r. (later (first r).0 (one.at r)).at (first r).1 }

pub gives-any : {A B : Type 0} {Q : B → Type 0} (first : Reading A) {next : A → Reading B} → ((x : A) → Gives Q (next x)) → Gives Q (first >>= next)
gives-any first later = record { at = λ r. (later (first r).0).at (first r).1 }

pub gives-if : {A : Type 0} {P : A → Type 0} {yes no : Reading A} (test : Bool) → Gives P yes → Gives P no → Gives P (if test then yes else no)
gives-if true one other = one
gives-if false one other = other

-- numbers of n bits
more_bits-below : (count i value : ℕ) → value < 2 ^ i → (r : Reader) → (more_bits count value r).0 < 2 ^ (i + count)
unfolding more_bits
more_bits-below zero i value small r = let same : i + 0 ≡ i = omega arith in rw same small
more_bits-below (suc count) i value small r =
    let bit = read 128 r in
    let same : i + suc count ≡ (i + 1) + count = omega arith in
    rw same (more_bits-below count (i + 1) (2 * value + from_bool bit.0) (with_bit-small i value bit.0 small) bit.1)

pub literal-below : (count : ℕ) → Gives (λ n. n < 2 ^ count) (literal count)
unfolding literal
literal-below count = record { at = λ r. (let same : 0 + count ≡ count = omega arith in rw same at (more_bits-below count 0 0 (omega arith) r)) }

abbrev pub IsByte : ℕ → Type 0
IsByte n = n < 256

literal-byte : Gives IsByte (literal 8)
literal-byte = literal-below 8

-- lists of bytes
pub three_bytes : (a b c : ℕ) → IsByte a → IsByte b → IsByte c → AreProbabilities (a ∷ b ∷ c ∷ [])
three_bytes a b c p q s zero = p
three_bytes a b c p q s (suc zero) = q
three_bytes a b c p q s (suc (suc zero)) = s
three_bytes a b c p q s (suc (suc (suc k))) = omega arith

pub four_bytes : (a b c d : ℕ) → IsByte a → IsByte b → IsByte c → IsByte d → AreProbabilities (a ∷ b ∷ c ∷ d ∷ [])
four_bytes a b c d p q s t zero = p
four_bytes a b c d p q s t (suc zero) = q
four_bytes a b c d p q s t (suc (suc zero)) = s
four_bytes a b c d p q s t (suc (suc (suc zero))) = t
four_bytes a b c d p q s t (suc (suc (suc (suc k)))) = omega arith

set_byte : (bytes : List ℕ) (place byte : ℕ) → AreProbabilities bytes → IsByte byte → AreProbabilities (slice_set bytes place byte)
set_byte [] place byte small p k = small k
set_byte (x ∷ bytes) zero byte small p zero = p
set_byte (x ∷ bytes) zero byte small p (suc k) = small (suc k)
set_byte (x ∷ bytes) (suc place) byte small p zero = small 0
set_byte (x ∷ bytes) (suc place) byte small p (suc k) = set_byte bytes place byte (λ j. small (suc j)) p k

-- the fields up to the number of token partitions
map_probability-byte : Gives IsByte map_probability
unfolding map_probability
map_probability-byte = gives-any flag (λ is_present. gives-if is_present literal-byte (gives-give 255 (omega arith)))

map_probabilities-bytes : Gives AreProbabilities map_probabilities
unfolding map_probabilities
map_probabilities-bytes =
    gives-next map_probability-byte (λ a p. gives-next map_probability-byte (λ b q. gives-next map_probability-byte (λ c s.
    gives-give (a ∷ b ∷ c ∷ []) (three_bytes a b c p q s))))

no_map : AreProbabilities (255 ∷ 255 ∷ 255 ∷ [])
no_map = three_bytes 255 255 255 (omega arith) (omega arith) (omega arith)

segment_updates-bytes : (before : Segments) → Gives (λ read. AreProbabilities read.0.map_probabilities) (segment_updates before)
unfolding segment_updates
segment_updates-bytes before =
    gives-any flag (λ map. gives-any flag (λ data_too. gives-any (if data_too then segment_data else give before) (λ segments.
    gives-next (gives-if map map_probabilities-bytes (gives-give (255 ∷ 255 ∷ 255 ∷ []) no_map)) (λ probabilities small.
    gives-give (record { is_enabled = true; updates_map = map; updates_data = data_too; map_probabilities = probabilities }, segments) small))))

segmentation-bytes : (before : Segments) → Gives (λ read. AreProbabilities read.0.map_probabilities) (segmentation before)
unfolding segmentation
segmentation-bytes before = gives-any flag (λ is_enabled. gives-if is_enabled (segment_updates-bytes before) (gives-give (record { is_enabled = false; updates_map = false; updates_data = false; map_probabilities = 255 ∷ 255 ∷ 255 ∷ [] }, before) no_map))

pub fields-bytes : (is_key : Bool) (before : Context) → Gives (λ read. (AreProbabilities read.0.segmentation.map_probabilities) × (read.1.probabilities ≡ before.probabilities)) (fields is_key before)
unfolding fields
fields-bytes is_key before =
    gives-any (if is_key then colors else give (record { color_space = false; clamping_type = false })) (λ color. gives-next (segmentation-bytes before.segments) (λ segments small. gives-any filter (λ loop. gives-any (adjustment before.deltas) (λ adjusted. gives-any partition_count (λ count.
    gives-give (record { colors = color; segmentation = segments.0; filter = loop; adjusts_level = adjusted.0; partition_count = count }, record before { segments = segments.1; deltas = adjusted.1 }) (small, refl))))))

-- the fields after it
skip-byte : Gives IsProbability skip_probability
unfolding skip_probability
skip-byte = gives-any flag (λ may_skip. gives-if may_skip (gives-next literal-byte (λ prob small. gives-give (Some prob) small)) (gives-give None tt))

half-byte : (is_zero : Bool) (half : ℕ) → half < 2 ^ 7 → IsByte (if is_zero then 1 else 2 * half)
half-byte true half small = omega arith
half-byte false half small = omega arith

vector_probability-byte : (update before : ℕ) → IsByte before → Gives IsByte (vector_probability update before)
unfolding vector_probability
vector_probability-byte update before small =
    gives-any (read update) (λ is_updated. gives-if is_updated (gives-next (literal-below 7) (λ half low. gives-give (if half == 0 then 1 else 2 * half) (half-byte (half == 0) half low))) (gives-give before small))

first_updated-bytes : (way : ℕ → ℕ → Reading ℕ) (count : ℕ) (updates before : List ℕ) → ((update now : ℕ) → IsByte now → Gives IsByte (way update now)) → AreProbabilities before → Gives AreProbabilities (first_updated way count updates before)
unfolding first_updated
first_updated-bytes way zero updates before is small = gives-give before small
first_updated-bytes way (suc place) updates before is small =
    gives-next (first_updated-bytes way place updates before is small) (λ done kept. gives-next (is (slice_index updates place) (slice_index done place) (kept place)) (λ here byte.
    gives-give (slice_set done place here) (set_byte done place here kept byte)))

no_row : AreProbabilities []
no_row k = omega arith

two_rows : (first second : List ℕ) → AreProbabilities first → AreProbabilities second → AreRows (first ∷ second ∷ [])
two_rows first second one two zero = one
two_rows first second one two (suc zero) = two
two_rows first second one two (suc (suc k)) = no_row

vectors-bytes : (before : List (List ℕ)) → AreRows before → Gives AreRows (vectors before)
unfolding vectors
vectors-bytes before small =
    gives-next (first_updated-bytes vector_probability 19 (slice_index_or VECTOR_UPDATE_PROBABILITIES 0 []) (slice_index_or before 0 []) vector_probability-byte (small 0)) (λ row one.
    gives-next (first_updated-bytes vector_probability 19 (slice_index_or VECTOR_UPDATE_PROBABILITIES 1 []) (slice_index_or before 1 []) vector_probability-byte (small 1)) (λ column two.
    gives-give (row ∷ column ∷ []) (two_rows row column one two)))

y_modes-bytes : (before : List ℕ) → AreProbabilities before → Gives AreProbabilities (y_modes before)
unfolding y_modes
y_modes-bytes before small =
    gives-any flag (λ is_updated. gives-if is_updated (gives-next literal-byte (λ a p. gives-next literal-byte (λ b q. gives-next literal-byte (λ c s. gives-next literal-byte (λ d t.
    gives-give (a ∷ b ∷ c ∷ d ∷ []) (four_bytes a b c d p q s t)))))) (gives-give before small))

uv_modes-bytes : (before : List ℕ) → AreProbabilities before → Gives AreProbabilities (uv_modes before)
unfolding uv_modes
uv_modes-bytes before small =
    gives-any flag (λ is_updated. gives-if is_updated (gives-next literal-byte (λ a p. gives-next literal-byte (λ b q. gives-next literal-byte (λ c s.
    gives-give (a ∷ b ∷ c ∷ []) (three_bytes a b c p q s))))) (gives-give before small))

reference_probabilities-bytes : Gives (λ probs. (IsByte probs.intra) × (IsByte probs.last) × (IsByte probs.golden)) reference_probabilities
unfolding reference_probabilities
reference_probabilities-bytes = gives-next literal-byte (λ a p. gives-next literal-byte (λ b q. gives-next literal-byte (λ c s. gives-give (record { intra = a; last = b; golden = c }) (p, q, s))))

-- the probabilities that a frame's records are read with
pub record AreRead (references : ReferenceProbabilities) (probabilities : Probabilities) : Type 0 where
  pub intra : IsByte references.intra
  pub last : IsByte references.last
  pub golden : IsByte references.golden
  pub kept : AreBytes probabilities

inter_fields-bytes : (before : Probabilities) → AreBytes before → Gives (λ read. AreRead read.0 read.1) (inter_fields before)
unfolding inter_fields
inter_fields-bytes before small =
    gives-next reference_probabilities-bytes (λ references r. gives-next (y_modes-bytes before.y_modes small.y_modes) (λ y p. gives-next (uv_modes-bytes before.uv_modes small.uv_modes) (λ uv q.
    gives-next (vectors-bytes before.vectors small.vectors) (λ vector s.
    gives-give (references, record before { y_modes = y; uv_modes = uv; vectors = vector }) (record { intra = r.0; last = r.1; golden = r.2; kept = record { y_modes = p; uv_modes = q; vectors = s } })))))

after_skip-bytes : (is_key : Bool) (before : Probabilities) → AreBytes before → Gives (λ read. AreRead read.0 read.1) (after_skip is_key before)
after_skip-bytes is_key before small = gives-if is_key (gives-give (no_reference_probabilities, before) (record { intra = omega arith; last = omega arith; golden = omega arith; kept = small })) (inter_fields-bytes before small)

pub trailing-bytes : (is_key : Bool) (updates : List ℕ) (before : Context) → AreBytes before.probabilities
    → Gives (λ read. (IsProbability read.0.skip_probability) × (AreRead read.0.reference_probabilities read.1.probabilities)) (trailing_fields is_key updates before)
unfolding trailing_fields
trailing-bytes is_key updates before small =
    gives-any quantizers (λ quantizers. gives-any (refreshes is_key before.sign_biases) (λ kept. gives-any (first_updated updated 1056 updates before.probabilities.coefficients) (λ coefficients. gives-next skip-byte (λ skip may. gives-next (after_skip-bytes is_key (record before.probabilities { coefficients = coefficients }) (record { y_modes = small.y_modes; uv_modes = small.uv_modes; vectors = small.vectors })) (λ inter all.
    gives-give (record { quantizers = quantizers; references = kept.0.references; refreshes_entropy = kept.0.refreshes_entropy; skip_probability = skip; reference_probabilities = inter.0 }, record before { probabilities = inter.1; sign_biases = kept.1 }) (may, all))))))
