use Rattle.std.specs.Prelude.{ℕ, ◌^◌, Bool, true, false, ℤ, pos, neg_ℤ, List, [], ◌∷◌, slice_index_or, if◌then◌else◌}
use Rattle.bool_coder.specs.Reading.{Reading, ◌>>=◌, give, flag, literal, signed}
use Rattle.frame_header.specs.declared.context.Segments.{Segments}
use Rattle.frame_header.specs.declared.context.FilterDeltas.{FilterDeltas}
use Rattle.frame_header.specs.declared.context.Context.{Context}
use Rattle.frame_header.specs.declared.fields.Segmentation.{Segmentation}
use Rattle.frame_header.specs.declared.fields.Filter.{Filter}
use Rattle.frame_header.specs.declared.fields.Colors.{Colors}
use Rattle.frame_header.specs.declared.fields.Fields.{Fields}

-- four flagged numbers; an absent one is 0
unfoldable pub four_signed : ℕ → Reading (List ℤ)
four_signed count = do
  first ← signed count
  second ← signed count
  third ← signed count
  fourth ← signed count
  give (first ∷ second ∷ third ∷ fourth ∷ [])

-- color_space and clamping_type (RFC 6386, section 9.2)
unfoldable pub colors : Reading Colors
colors = do
  space ← flag
  clamping ← flag
  give (record { color_space = space; clamping_type = clamping })

-- segment mode, quantizers and levels; an absent one is 0 (RFC 6386, section 9.3)
unfoldable pub segment_data : Reading Segments
segment_data = do
  absolute ← flag
  quantizers ← four_signed 7
  levels ← four_signed 6
  give (record { is_absolute = absolute; quantizers = quantizers; levels = levels })

-- a probability of the segment map's tree, 255 if absent (RFC 6386, section 9.3)
unfoldable pub map_probability : Reading ℕ
map_probability = do
  is_present ← flag
  if is_present then literal 8 else give 255

unfoldable pub map_probabilities : Reading (List ℕ)
map_probabilities = do
  first ← map_probability
  second ← map_probability
  third ← map_probability
  give (first ∷ second ∷ third ∷ [])

-- the updates of the segments, and the segment data after them (RFC 6386, section 9.3)
unfoldable pub segment_updates : Segments → Reading (Segmentation × Segments)
segment_updates before = do
  map ← flag
  data_too ← flag
  segments ← (if data_too then segment_data else give before)
  probabilities ← (if map then map_probabilities else give (255 ∷ 255 ∷ 255 ∷ []))
  give (record { is_enabled = true; updates_map = map; updates_data = data_too; map_probabilities = probabilities }, segments)

-- the segments of a frame, which may have none (RFC 6386, section 9.3)
unfoldable pub segmentation : Segments → Reading (Segmentation × Segments)
segmentation before = do
  is_enabled ← flag
  if is_enabled then segment_updates before else give (record { is_enabled = false; updates_map = false; updates_data = false; map_probabilities = 255 ∷ 255 ∷ 255 ∷ [] }, before)

-- filter_type, level and sharpness (RFC 6386, section 9.4)
unfoldable pub filter : Reading Filter
filter = do
  simple ← flag
  level ← literal 6
  sharpness ← literal 3
  give (record { is_simple = simple; level = level; sharpness = sharpness })

-- a change of the level: a flag, and if it is set a magnitude and a sign, 1 for minus; an absent one remains (RFC 6386, section 9.4)
unfoldable pub delta : ℤ → Reading ℤ
delta before = do
  is_updated ← flag
  if is_updated then (do
    magnitude ← literal 6
    is_minus ← flag
    give (if is_minus then neg_ℤ (pos magnitude) else pos magnitude)) else give before

unfoldable pub four_deltas : List ℤ → Reading (List ℤ)
four_deltas before = do
  first ← delta (slice_index_or before 0 (pos 0))
  second ← delta (slice_index_or before 1 (pos 0))
  third ← delta (slice_index_or before 2 (pos 0))
  fourth ← delta (slice_index_or before 3 (pos 0))
  give (first ∷ second ∷ third ∷ fourth ∷ [])

-- the changes of the level by reference and mode; if none is updated, all remain (RFC 6386, section 9.4)
unfoldable pub deltas : FilterDeltas → Reading FilterDeltas
deltas before = do
  is_updated ← flag
  if is_updated then (do
    reference ← four_deltas before.reference
    mode ← four_deltas before.mode
    give (record { reference = reference; mode = mode })) else give before

-- whether the level is adjusted, and the changes after it (RFC 6386, section 9.4)
unfoldable pub adjustment : FilterDeltas → Reading (Bool × FilterDeltas)
adjustment before = do
  is_enabled ← flag
  if is_enabled then (do
    after ← deltas before
    give (true, after)) else give (false, before)

-- the number of token partitions, of which the binary logarithm is read (RFC 6386, section 9.5)
unfoldable pub partition_count : Reading ℕ
partition_count = do
  log2 ← literal 2
  give (2 ^ log2)

-- the fields of the first partition, in order, up to the number of token partitions, and the context with their changes (RFC 6386, section 19.2)
unfoldable pub fields : Bool → Context → Reading (Fields × Context)
fields is_key before = do
  color ← (if is_key then colors else give (record { color_space = false; clamping_type = false }))
  segments ← segmentation before.segments
  loop ← filter
  adjusted ← adjustment before.deltas
  count ← partition_count
  give (record { colors = color; segmentation = segments.0; filter = loop; adjusts_level = adjusted.0; partition_count = count }, record before { segments = segments.1; deltas = adjusted.1 })
