-- The line of a packet's facts: columns between tabs, and `-` for a fact that it does not have.
use Rattle.std.specs.Prelude.{ℕ, Bool, true, false, if◌then◌else◌, List, [], ◌∷◌, ◌++◌, codes, map, Option, Some, None, Result, Ok, Err}
use Rattle.std.specs.Fmt.{decimal}
use Rattle.frame_header.specs.Cause.{cause_word}
use Rattle.frame_header.specs.declared.cause.Cause.{Cause}
use Rattle.frame_header.specs.declared.cause.Cause.TheVariants as causes
use Rattle.frame_header.specs.declared.fields.Colors.{Colors}
use Rattle.frame_header.specs.declared.references.Reference.{Reference}
use Rattle.frame_header.specs.declared.references.Reference.TheVariants.{Last, Golden, Altref}
use Rattle.frame_header.specs.declared.references.ReferenceUpdates.{ReferenceUpdates}
use Rattle.frame_header.specs.declared.tag_fields.Tag.{Tag}
use Rattle.frame_header.specs.declared.outline.Outline.{Outline}
use Rattle.stream_facts.specs.declared.facts.Facts.{Facts}

-- the names of the columns
abbrev pub head_line : List ℕ
head_line = codes "packet\tframe\tstamp\tbytes\tkind\tshow\tversion\tsize\tfirst\tpartitions\tquantizer\tlevel\tlast\tgolden\taltref\tcause\tbyte\tscale\tcolor\tclamp\n"

-- a column, and the tab after it
abbrev pub column : List ℕ → List ℕ
column text = text ++ 9 ∷ []

abbrev pub number : ℕ → List ℕ
number n = column (decimal n)

abbrev pub none : List ℕ
none = codes "-\t"

-- the index of the packet, the index of its frame, its time stamp and its length
abbrev pub frame_column : Option ℕ → List ℕ
frame_column None = none
frame_column (Some frame) = number frame

abbrev pub place_columns : Facts → List ℕ
place_columns facts = number facts.packet ++ frame_column facts.frame ++ number facts.stamp ++ number facts.bytes

-- the kind, whether it is shown, and the version
abbrev pub kind_column : Option Tag → List ℕ
kind_column None = none
kind_column (Some tag) = if tag.key then codes "key\t" else codes "inter\t"

abbrev pub show_column : Option ℕ → List ℕ
show_column None = codes "hidden\t"
show_column (Some frame) = codes "shown\t"

abbrev pub version_column : Option Tag → List ℕ
version_column None = none
version_column (Some tag) = number tag.version

abbrev pub tag_columns : Facts → List ℕ
tag_columns facts = kind_column facts.tag ++ show_column facts.frame ++ version_column facts.tag

-- the size of a key packet, and the length of the first partition that the tag gives
abbrev pub size_column : Option (ℕ × ℕ) → List ℕ
size_column None = none
size_column (Some size) = decimal size.0 ++ codes "x" ++ number size.1

abbrev pub first_column : Option Tag → List ℕ
first_column None = none
first_column (Some tag) = number tag.first_partition

abbrev pub size_columns : Facts → List ℕ
size_columns facts = size_column facts.size ++ first_column facts.tag

-- the reference that another becomes a copy of
abbrev pub copy_column : Option Reference → List ℕ
copy_column None = none
copy_column (Some Last) = codes "last\t"
copy_column (Some Golden) = codes "golden\t"
copy_column (Some Altref) = codes "altref\t"

-- a reference that the frame becomes is `new`; one that becomes a copy of another has the other's name
abbrev pub update_column : Bool → Option Reference → List ℕ
update_column refreshed copy = if refreshed then codes "new\t" else copy_column copy

abbrev pub reference_columns : ReferenceUpdates → List ℕ
reference_columns updates = update_column updates.refreshes_last None ++ update_column updates.refreshes_golden updates.golden_copy ++ update_column updates.refreshes_altref updates.altref_copy

-- token partitions, quantizer index, filter level, and references
abbrev pub field_columns : Outline → List ℕ
field_columns fields = number fields.partitions ++ number fields.quantizer ++ number fields.level ++ reference_columns fields.references

-- the cause, with the number of the partition if it has one
abbrev pub cause_text : Cause → List ℕ
cause_text (causes.TokenPartition k) = codes "TokenPartition " ++ decimal k
cause_text cause = cause_word cause

abbrev pub no_fields : List ℕ
no_fields = codes "-\t-\t-\t-\t-\t-\t"

-- of a header, if it has them
abbrev pub header_columns : Result (Option Outline) Cause → List ℕ
header_columns (Ok (Some fields)) = field_columns fields
header_columns (Ok None) = no_fields
header_columns (Err cause) = no_fields

-- why decoding refuses the packet: `lost` because of an earlier one, or the cause against its header
abbrev pub own_cause : Result (Option Outline) Cause → List ℕ
own_cause (Ok fields) = none
own_cause (Err cause) = column (cause_text cause)

abbrev pub cause_column : Facts → List ℕ
cause_column facts = if facts.is_lost then codes "lost\t" else own_cause facts.header

-- the byte of the file at which the packet's bytes begin, and the scales of a key packet
abbrev pub scale_column : Option (ℕ × ℕ) → List ℕ
scale_column None = none
scale_column (Some scales) = decimal scales.0 ++ codes "x" ++ number scales.1

abbrev pub file_columns : Facts → List ℕ
file_columns facts = number facts.byte ++ scale_column facts.scales

-- the color space bit and the clamping bit of a key frame
abbrev pub bit_text : Bool → List ℕ
bit_text true = codes "1"
bit_text false = codes "0"

abbrev pub bits_text : Colors → List ℕ
bits_text colors = bit_text colors.color_space ++ codes "\t" ++ bit_text colors.clamping_type ++ codes "\n"

abbrev pub no_bits : List ℕ
no_bits = codes "-\t-\n"

abbrev pub outline_bits : Option Tag → Outline → List ℕ
outline_bits None fields = no_bits
outline_bits (Some tag) fields = if tag.key then bits_text fields.colors else no_bits

abbrev pub color_columns : Option Tag → Result (Option Outline) Cause → List ℕ
color_columns tag (Ok (Some fields)) = outline_bits tag fields
color_columns tag (Ok None) = no_bits
color_columns tag (Err cause) = no_bits

abbrev pub line_of : Facts → List ℕ
line_of facts =
    place_columns facts ++ tag_columns facts ++ size_columns facts ++ header_columns facts.header
    ++ cause_column facts ++ file_columns facts ++ color_columns facts.tag facts.header
