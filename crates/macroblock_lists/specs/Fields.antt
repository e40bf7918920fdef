-- The fields of a header, by their names in RFC 6386, section 19.2, in their order, each with the bits that its tables give it. A field
-- that a header does not have is not written.
use Rattle.std.specs.Prelude.{ℕ, ◌-◌, ◌/◌, Bool, ◌==◌, if◌then◌else◌, List, [], ◌++◌, codes, length, slice_index, Option, Some, None, ℤ}
use Rattle.std.specs.Fmt.{decimal, signed_decimal}
use Rattle.std.specs.Int.{from_bool}
use Rattle.frame_header.specs.declared.context.FilterDeltas.{FilterDeltas}
use Rattle.frame_header.specs.declared.context.Segments.{Segments}
use Rattle.frame_header.specs.declared.context.SignBiases.{SignBiases}
use Rattle.frame_header.specs.declared.fields.Segmentation.{Segmentation}
use Rattle.frame_header.specs.declared.header.Header.{Header}
use Rattle.frame_header.specs.declared.inter_fields.ReferenceProbabilities.{ReferenceProbabilities}
use Rattle.frame_header.specs.declared.references.ReferenceUpdates.{ReferenceUpdates}
use Rattle.frame_header.specs.declared.trailing_fields.Quantizers.{Quantizers}
use Rattle.header_bits.specs.declared.bits.DeltaBits.{DeltaBits}
use Rattle.header_bits.specs.declared.bits.HeaderBits.{HeaderBits}
use Rattle.header_bits.specs.declared.bits.InterBits.{InterBits}
use Rattle.header_bits.specs.declared.bits.SegmentBits.{SegmentBits}
use Rattle.header_bits.specs.declared.coded.Coded.{Coded}
use Rattle.header_bits.specs.declared.copies.CopyNumbers.{CopyNumbers}
use Rattle.macroblock_lists.specs.declared.layouts.Layout.{Layout}
use Rattle.macroblock_lists.specs.declared.layouts.Layout.TheVariants.{Words, Lines, Members, Bits}
use Rattle.macroblock_lists.specs.Parts.{joined}

-- a field: after a space in a comment, on a line of its own with its bits, as a member of a JSON object, or its bits as a member
abbrev pub field_start : Layout → List ℕ → List ℕ
field_start Words name = codes " " ++ name ++ codes "="
field_start Lines name = name ++ codes "\t"
field_start Members name = codes "\"" ++ name ++ codes "\":"
field_start Bits name = codes "\"" ++ name ++ codes "\":"

abbrev pub value_part : Layout → List ℕ → List ℕ
value_part Words value = value
value_part Lines value = value
value_part Members value = value
value_part Bits value = []

abbrev pub bits_part : Layout → List ℕ → List ℕ
bits_part Words bits = []
bits_part Lines bits = codes "\t" ++ bits
bits_part Members bits = []
bits_part Bits bits = bits

abbrev pub field_end : Layout → List ℕ
field_end Words = []
field_end Lines = codes "\n"
field_end Members = codes ","
field_end Bits = codes ","

abbrev pub field : Layout → List ℕ → List ℕ → List ℕ → List ℕ
field layout name value bits = field_start layout name ++ value_part layout value ++ bits_part layout bits ++ field_end layout

abbrev pub number_field : Layout → List ℕ → ℕ → ℕ → List ℕ
number_field layout name n bits = field layout name (decimal n) (decimal bits)

abbrev pub signed_field : Layout → List ℕ → ℤ → ℕ → List ℕ
signed_field layout name n bits = field layout name (signed_decimal n) (decimal bits)

abbrev pub flag_field : Layout → List ℕ → Bool → List ℕ
flag_field layout name flag = number_field layout name (from_bool flag) 1

-- a number that may be absent
abbrev pub number_field_unless : Layout → Bool → List ℕ → ℕ → ℕ → List ℕ
number_field_unless layout is_absent name n bits = if is_absent then [] else number_field layout name n bits

-- a field of updates, which is written only where bits are
abbrev pub update_field : Layout → List ℕ → ℕ → ℕ → List ℕ
update_field Words name n bits = []
update_field Lines name n bits = number_field Lines name n bits
update_field Members name n bits = []
update_field Bits name n bits = number_field Bits name n bits

-- a list of numbers, with commas between them
abbrev pub list_start : Layout → List ℕ
list_start Words = []
list_start Lines = []
list_start Members = codes "["
list_start Bits = codes "["

abbrev pub list_end : Layout → List ℕ
list_end Words = []
list_end Lines = []
list_end Members = codes "]"
list_end Bits = codes "]"

abbrev pub list_of : Layout → List ℕ → List ℕ
list_of layout text = list_start layout ++ text ++ list_end layout

-- a list of optional numbers, and the bits of each
abbrev pub numbers_field : Layout → List ℕ → List ℕ → List ℕ → List ℕ
numbers_field layout name values bits = field layout name (list_of layout (joined decimal values)) (list_of layout (joined decimal bits))

abbrev pub signed_numbers_field : Layout → List ℕ → List ℤ → List ℕ → List ℕ
signed_numbers_field layout name values bits = field layout name (list_of layout (joined signed_decimal values)) (list_of layout (joined decimal bits))

-- the frame tag, and the size of a key frame with its scales (sections 9.1 and 19.1); `key_frame` is 1 for a key frame
abbrev pub tag_fields : Layout → Header → ℕ → List ℕ
tag_fields layout header first_size =
    flag_field layout (codes "key_frame") header.is_key ++ number_field layout (codes "version") header.version 3 ++ flag_field layout (codes "show_frame") header.is_shown
    ++ number_field layout (codes "first_part_size") first_size 19

abbrev pub size_fields : Layout → Header → ℕ × ℕ → List ℕ
size_fields layout header scales =
    number_field layout (codes "width") header.width 14 ++ number_field layout (codes "horizontal_scale") scales.0 2
    ++ number_field layout (codes "height") header.height 14 ++ number_field layout (codes "vertical_scale") scales.1 2

abbrev pub key_fields : Layout → Header → ℕ × ℕ → List ℕ
key_fields layout header scales =
    size_fields layout header scales ++ flag_field layout (codes "color_space") header.colors.color_space ++ flag_field layout (codes "clamping_type") header.colors.clamping_type

abbrev pub frame_fields : Layout → Header → Coded → List ℕ
frame_fields layout header coded = tag_fields layout header coded.first_size ++ (if header.is_key then key_fields layout header coded.scales else [])

-- the segments (section 9.3)
abbrev pub data_fields : Layout → Segments → SegmentBits → List ℕ
data_fields layout segments bits =
    flag_field layout (codes "segment_feature_mode") segments.is_absolute ++ signed_numbers_field layout (codes "quantizer_update_value") segments.quantizers bits.quantizers
    ++ signed_numbers_field layout (codes "lf_update_value") segments.levels bits.levels

abbrev pub map_field : Layout → Segmentation → SegmentBits → List ℕ
map_field layout segmentation bits = if segmentation.updates_map then numbers_field layout (codes "segment_prob") segmentation.map_probabilities bits.map_probabilities else []

abbrev pub update_fields : Layout → Segmentation → Segments → SegmentBits → List ℕ
update_fields layout segmentation segments bits =
    flag_field layout (codes "update_mb_segmentation_map") segmentation.updates_map ++ flag_field layout (codes "update_segment_feature_data") segmentation.updates_data
    ++ (if segmentation.updates_data then data_fields layout segments bits else [])
    ++ map_field layout segmentation bits

abbrev pub segment_fields : Layout → Segmentation → Segments → SegmentBits → List ℕ
segment_fields layout segmentation segments bits =
    flag_field layout (codes "segmentation_enabled") segmentation.is_enabled ++ (if segmentation.is_enabled then update_fields layout segmentation segments bits else [])

-- the loop filter, with the changes of the level in force if there are any (sections 9.4 and 9.6)
abbrev pub delta_fields : Layout → FilterDeltas → DeltaBits → List ℕ
delta_fields layout deltas bits =
    update_field layout (codes "mode_ref_lf_delta_update") (from_bool bits.are_updated) 1
    ++ signed_numbers_field layout (codes "ref_frame_delta") deltas.reference bits.references ++ signed_numbers_field layout (codes "mb_mode_delta") deltas.mode bits.modes

abbrev pub filter_fields : Layout → Header → DeltaBits → List ℕ
filter_fields layout header bits =
    flag_field layout (codes "filter_type") header.filter.is_simple ++ number_field layout (codes "loop_filter_level") header.filter.level 6
    ++ number_field layout (codes "sharpness_level") header.filter.sharpness 3 ++ flag_field layout (codes "loop_filter_adj_enable") header.adjusts_level
    ++ (if header.adjusts_level then delta_fields layout header.context.deltas bits else [])

-- the number of token partitions, by its logarithm (section 9.5)
abbrev pub log_of : ℕ → ℕ
log_of count = if count == 8 then 3 else if count == 4 then 2 else if count == 2 then 1 else 0

abbrev pub partition_fields : Layout → Header → List ℕ
partition_fields layout header = number_field layout (codes "log2_nbr_of_dct_partitions") (log_of (length header.partitions.items)) 2

-- the quantizers (section 9.6)
abbrev pub delta_quantizers : Layout → Quantizers → List ℕ → List ℕ
delta_quantizers layout quantizers bits =
    signed_field layout (codes "y2_dc_delta") quantizers.y2_dc_delta (slice_index bits 1) ++ signed_field layout (codes "y2_ac_delta") quantizers.y2_ac_delta (slice_index bits 2)
    ++ signed_field layout (codes "uv_dc_delta") quantizers.uv_dc_delta (slice_index bits 3) ++ signed_field layout (codes "uv_ac_delta") quantizers.uv_ac_delta (slice_index bits 4)

abbrev pub quantizer_fields : Layout → Quantizers → List ℕ → List ℕ
quantizer_fields layout quantizers bits =
    number_field layout (codes "y_ac_qi") quantizers.y_ac_index 7 ++ signed_field layout (codes "y_dc_delta") quantizers.y_dc_delta (slice_index bits 0)
    ++ delta_quantizers layout quantizers bits

-- the references (section 9.7): the numbers of the references that golden and altref become copies of are those that are coded (law
-- `copies_are_named` of header_bits)
abbrev pub copy_fields : Layout → ReferenceUpdates → CopyNumbers → List ℕ
copy_fields layout updates copies =
    number_field_unless layout updates.refreshes_golden (codes "copy_buffer_to_golden") copies.golden 2
    ++ number_field_unless layout updates.refreshes_altref (codes "copy_buffer_to_arf") copies.altref 2

abbrev pub refresh_fields : Layout → ReferenceUpdates → CopyNumbers → SignBiases → List ℕ
refresh_fields layout updates copies biases =
    flag_field layout (codes "refresh_golden_frame") updates.refreshes_golden ++ flag_field layout (codes "refresh_alternate_frame") updates.refreshes_altref
    ++ copy_fields layout updates copies
    ++ flag_field layout (codes "sign_bias_golden") biases.golden ++ flag_field layout (codes "sign_bias_alternate") biases.altref

abbrev pub entropy_field : Layout → Header → List ℕ
entropy_field layout header = flag_field layout (codes "refresh_entropy_probs") header.refreshes_entropy

abbrev pub reference_fields : Layout → Header → CopyNumbers → List ℕ
reference_fields layout header copies =
    (if header.is_key then [] else refresh_fields layout header.references copies header.context.sign_biases) ++ entropy_field layout header
    ++ number_field_unless layout header.is_key (codes "refresh_last") (from_bool header.references.refreshes_last) 1

-- the updates of probabilities: how many of them are coded, of so many bits each, and the bits of all, those of the flags too
abbrev pub coded_count : ℕ → ℕ → ℕ → ℕ
coded_count flags size bits = (bits - flags) / size

abbrev pub token_field : Layout → ℕ → List ℕ
token_field layout bits = update_field layout (codes "token_prob_update") (coded_count 1056 8 bits) bits

abbrev pub inter_updates : Layout → InterBits → List ℕ
inter_updates layout bits =
    update_field layout (codes "intra_16x16_prob") (coded_count 1 8 bits.y_modes) bits.y_modes ++ update_field layout (codes "intra_chroma_prob") (coded_count 1 8 bits.uv_modes) bits.uv_modes
    ++ update_field layout (codes "mv_prob_update") (coded_count 38 7 bits.vectors) bits.vectors

-- skipped macroblocks, and the references of the others (sections 9.10 and 9.11)
abbrev pub skip_fields : Layout → Option ℕ → List ℕ
skip_fields layout None = number_field layout (codes "mb_no_coeff_skip") 0 1
skip_fields layout (Some prob) = number_field layout (codes "mb_no_coeff_skip") 1 1 ++ number_field layout (codes "prob_skip_false") prob 8

abbrev pub probability_fields : Layout → ReferenceProbabilities → List ℕ
probability_fields layout probs =
    number_field layout (codes "prob_intra") probs.intra 8 ++ number_field layout (codes "prob_last") probs.last 8 ++ number_field layout (codes "prob_gf") probs.golden 8

abbrev pub inter_fields : Layout → ReferenceProbabilities → InterBits → List ℕ
inter_fields layout probs bits = probability_fields layout probs ++ inter_updates layout bits

abbrev pub last_fields : Layout → Header → HeaderBits → List ℕ
last_fields layout header bits =
    token_field layout bits.coefficients ++ skip_fields layout header.skip_probability ++ (if header.is_key then [] else inter_fields layout header.reference_probabilities bits.inter)

-- all fields
abbrev pub first_fields : Layout → Header → Coded → List ℕ
first_fields layout header coded =
    frame_fields layout header coded ++ segment_fields layout header.segmentation header.context.segments coded.bits.segments ++ filter_fields layout header coded.bits.deltas ++ partition_fields layout header

unfoldable pub header_fields : Layout → Header → Coded → List ℕ
header_fields layout header coded =
    first_fields layout header coded ++ quantizer_fields layout header.quantizers coded.bits.quantizers ++ reference_fields layout header coded.copies ++ last_fields layout header coded.bits
