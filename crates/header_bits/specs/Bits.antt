-- How many bits each optional field of a header takes, in the order of RFC 6386, section 19.2.
use Rattle.std.specs.Prelude.{ℕ, ◌+◌, zero, suc, Bool, true, false, List, [], ◌∷◌, slice_index, slice_index_or, slice_range, replicate, if◌then◌else◌}
use Rattle.std.specs.Option.{option_map_or}
use Rattle.vp8_tables.specs.Tables.{TableEntries}
use Rattle.vp8_tables.specs.declared.vectors.TheConstants.{VECTOR_UPDATE_PROBABILITIES}
use Rattle.bool_coder.specs.Reader.{started, read}
use Rattle.bool_coder.specs.Reading.{Reading, ◌>>=◌, give, flag}
use Rattle.frame_header.specs.Tags.{tag_of, has_key_tag}
use Rattle.header_bits.specs.declared.bits.DeltaBits.{DeltaBits}
use Rattle.header_bits.specs.declared.bits.HeaderBits.{HeaderBits}
use Rattle.header_bits.specs.declared.bits.InterBits.{InterBits}
use Rattle.header_bits.specs.declared.bits.SegmentBits.{SegmentBits}

-- L(n): so many bits at even odds, and their number
unfoldable pub skip : ℕ → Reading ℕ
skip zero = give 0
skip (suc more) = do
  bits ← skip more
  bit ← flag
  give (bits + 1)

-- an optional field: a bit with a probability, and if it is set so many more at even odds
unfoldable pub optional_at : ℕ → ℕ → Reading ℕ
optional_at prob more = do
  is_coded ← read prob
  if is_coded then (do
    bits ← skip more
    give (1 + bits)) else give 1

-- its first bit is a flag
abbrev pub optional : ℕ → Reading ℕ
optional more = optional_at 128 more

unfoldable pub three_optional : ℕ → Reading (List ℕ)
three_optional more = do
  first ← optional more
  second ← optional more
  third ← optional more
  give (first ∷ second ∷ third ∷ [])

unfoldable pub four_optional : ℕ → Reading (List ℕ)
four_optional more = do
  first ← optional more
  second ← optional more
  third ← optional more
  fourth ← optional more
  give (first ∷ second ∷ third ∷ fourth ∷ [])

-- the updates of so many probabilities, each of which is optional
unfoldable pub update_bits : ℕ → ℕ → List ℕ → Reading ℕ
update_bits more zero updates = give 0
update_bits more (suc place) updates = do
  bits ← update_bits more place updates
  here ← optional_at (slice_index updates place) more
  give (bits + here)

-- update_segmentation(): 7 bits and a sign of a quantizer, 6 and a sign of a level, 8 of a probability of the map (section 9.3)
abbrev pub no_segment_bits : SegmentBits
no_segment_bits = record { quantizers = replicate 4 0; levels = replicate 4 0; map_probabilities = replicate 3 0 }

unfoldable pub data_bits : Bool → Reading (List ℕ × List ℕ)
data_bits is_updated = if is_updated then (do
  mode ← skip 1
  quantizers ← four_optional 8
  levels ← four_optional 7
  give (quantizers, levels)) else give (replicate 4 0, replicate 4 0)

unfoldable pub map_bits : Bool → Reading (List ℕ)
map_bits is_updated = if is_updated then three_optional 8 else give (replicate 3 0)

unfoldable pub segment_update_bits : Reading SegmentBits
segment_update_bits = do
  map ← flag
  data_too ← flag
  numbers ← data_bits data_too
  probabilities ← map_bits map
  give (record { quantizers = numbers.0; levels = numbers.1; map_probabilities = probabilities })

unfoldable pub segment_bits : Reading SegmentBits
segment_bits = do
  is_enabled ← flag
  if is_enabled then segment_update_bits else give no_segment_bits

-- mb_lf_adjustments(): 6 bits and a sign of a change (section 9.4)
abbrev pub no_delta_bits : DeltaBits
no_delta_bits = record { are_updated = false; references = replicate 4 0; modes = replicate 4 0 }

unfoldable pub delta_update_bits : Reading DeltaBits
delta_update_bits = do
  are_updated ← flag
  if are_updated then (do
    references ← four_optional 7
    modes ← four_optional 7
    give (record { are_updated = true; references = references; modes = modes })) else give no_delta_bits

unfoldable pub delta_bits : Reading DeltaBits
delta_bits = do
  is_enabled ← flag
  if is_enabled then delta_update_bits else give no_delta_bits

-- quant_indices(): after the index, 4 bits and a sign of each change (section 9.6)
unfoldable pub quantizer_bits : Reading (List ℕ)
quantizer_bits = do
  index ← skip 7
  first ← optional 5
  rest ← four_optional 5
  give (first ∷ rest)

-- the fields of references (section 9.7): of a key frame refresh_entropy_probs; of another two flags, the copies of those that are
-- not refreshed, and four flags
unfoldable pub reference_bits : Bool → Reading ℕ
reference_bits is_key = if is_key then skip 1 else (do
  golden ← flag
  altref ← flag
  to_golden ← skip (if golden then 0 else 2)
  to_altref ← skip (if altref then 0 else 2)
  rest ← skip 4
  give (2 + to_golden + to_altref + rest))

-- prob_intra, prob_last and prob_gf, and the updates that only inter frames have: 4 probabilities of luma modes, 3 of chroma
-- modes, and mv_prob_update() (sections 9.10, 16.2 and 17.2)
abbrev pub no_inter_bits : InterBits
no_inter_bits = record { y_modes = 0; uv_modes = 0; vectors = 0 }

unfoldable pub inter_bits : Bool → Reading InterBits
inter_bits is_key = if is_key then give no_inter_bits else (do
  references ← skip 24
  y_modes ← optional 32
  uv_modes ← optional 24
  rows ← update_bits 7 19 (slice_index_or VECTOR_UPDATE_PROBABILITIES 0 [])
  columns ← update_bits 7 19 (slice_index_or VECTOR_UPDATE_PROBABILITIES 1 [])
  give (record { y_modes = y_modes; uv_modes = uv_modes; vectors = rows + columns }))

-- the fields up to the number of token partitions
unfoldable pub first_bits : Bool → Reading (SegmentBits × DeltaBits)
first_bits is_key = do
  colors ← skip (if is_key then 2 else 0)
  segments ← segment_bits
  filter ← skip 10
  deltas ← delta_bits
  partitions ← skip 2
  give (segments, deltas)

-- the fields of a header in order; `updates` has the probability of each update of a coefficient's probability
unfoldable pub all_bits : Bool → List ℕ → Reading HeaderBits
all_bits is_key updates = do
  first ← first_bits is_key
  quantizers ← quantizer_bits
  references ← reference_bits is_key
  coefficients ← update_bits 8 1056 updates
  skipping ← optional 8
  inter ← inter_bits is_key
  give (record { segments = first.0; deltas = first.1; quantizers = quantizers; coefficients = coefficients; inter = inter })

-- the text of the first partition, after the tag, and the start code and size of a key frame (section 9.1)
abbrev pub first_text : List ℕ → List ℕ
first_text packet = option_map_or (λ tag. let start = if tag.key then 10 else 3 in slice_range packet start (start + tag.first_partition)) (tag_of packet) []

-- the bits of the optional fields of a packet's header
unfoldable pub header_bits : TableEntries → List ℕ → HeaderBits
header_bits tables packet = (all_bits (has_key_tag packet) tables.updates (started (first_text packet))).0
