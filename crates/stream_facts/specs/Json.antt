-- The line of a packet's facts as a JSON object (RFC 8259): a member for each column, and null for a fact that the packet does not have.
use Rattle.std.specs.Prelude.{ℕ, Bool, true, false, if◌then◌else◌, List, [], ◌∷◌, ◌++◌, codes, Option, Some, None, Result, Ok, Err}
use Rattle.std.specs.Fmt.{decimal}
use Rattle.frame_header.specs.declared.cause.Cause.{Cause}
use Rattle.frame_header.specs.declared.fields.Colors.{Colors}
use Rattle.frame_header.specs.declared.references.Reference.{Reference}
use Rattle.frame_header.specs.declared.references.Reference.TheVariants.{Last, Golden, Altref}
use Rattle.frame_header.specs.declared.references.ReferenceUpdates.{ReferenceUpdates}
use Rattle.frame_header.specs.declared.tag_fields.Tag.{Tag}
use Rattle.frame_header.specs.declared.outline.Outline.{Outline}
use Rattle.stream_facts.specs.declared.facts.Facts.{Facts}
use Rattle.stream_facts.specs.Lines.{cause_text}

-- a member, and the comma after it
abbrev pub member : List ℕ → List ℕ → List ℕ
member name value = codes "\"" ++ name ++ codes "\":" ++ value ++ codes ","

abbrev pub number_member : List ℕ → ℕ → List ℕ
number_member name n = member name (decimal n)

abbrev pub optional_member : List ℕ → Option ℕ → List ℕ
optional_member name None = member name (codes "null")
optional_member name (Some n) = number_member name n

-- the index of the packet, the index of its frame, its time stamp, the byte of the file at which it begins, and its length
abbrev pub place_members : Facts → List ℕ
place_members facts = number_member (codes "packet") facts.packet ++ optional_member (codes "frame") facts.frame ++ number_member (codes "stamp") facts.stamp ++ number_member (codes "byte") facts.byte ++ number_member (codes "bytes") facts.bytes

-- the kind, whether it is shown, and the version
abbrev pub kind_value : Option Tag → List ℕ
kind_value None = codes "null"
kind_value (Some tag) = if tag.key then codes "\"key\"" else codes "\"inter\""

abbrev pub show_value : Option ℕ → List ℕ
show_value None = codes "\"hidden\""
show_value (Some frame) = codes "\"shown\""

abbrev pub version_of : Option Tag → Option ℕ
version_of None = None
version_of (Some tag) = Some tag.version

abbrev pub tag_members : Facts → List ℕ
tag_members facts = member (codes "kind") (kind_value facts.tag) ++ member (codes "show") (show_value facts.frame) ++ optional_member (codes "version") (version_of facts.tag)

-- the size of a key packet and its scales, and the length of the first partition that the tag gives
abbrev pub size_member : Option (ℕ × ℕ) → List ℕ
size_member None = codes "\"size\":null,"
size_member (Some size) = codes "\"size\":\"" ++ decimal size.0 ++ codes "x" ++ decimal size.1 ++ codes "\","

abbrev pub scale_member : Option (ℕ × ℕ) → List ℕ
scale_member None = codes "\"scale\":null,"
scale_member (Some scales) = codes "\"scale\":\"" ++ decimal scales.0 ++ codes "x" ++ decimal scales.1 ++ codes "\","

abbrev pub first_of : Option Tag → Option ℕ
first_of None = None
first_of (Some tag) = Some tag.first_partition

abbrev pub size_members : Facts → List ℕ
size_members facts = size_member facts.size ++ scale_member facts.scales ++ optional_member (codes "first") (first_of facts.tag)

-- the reference that another becomes a copy of
abbrev pub copy_value : Option Reference → List ℕ
copy_value None = codes "null"
copy_value (Some Last) = codes "\"last\""
copy_value (Some Golden) = codes "\"golden\""
copy_value (Some Altref) = codes "\"altref\""

abbrev pub update_value : Bool → Option Reference → List ℕ
update_value refreshed copy = if refreshed then codes "\"new\"" else copy_value copy

abbrev pub reference_members : ReferenceUpdates → List ℕ
reference_members updates = member (codes "last") (update_value updates.refreshes_last None) ++ member (codes "golden") (update_value updates.refreshes_golden updates.golden_copy) ++ member (codes "altref") (update_value updates.refreshes_altref updates.altref_copy)

-- token partitions, quantizer index, filter level, and references
abbrev pub field_members : Outline → List ℕ
field_members fields = number_member (codes "partitions") fields.partitions ++ number_member (codes "quantizer") fields.quantizer ++ number_member (codes "level") fields.level ++ reference_members fields.references

abbrev pub no_fields : List ℕ
no_fields = codes "\"partitions\":null,\"quantizer\":null,\"level\":null,\"last\":null,\"golden\":null,\"altref\":null,"

abbrev pub some_fields : Option Outline → List ℕ
some_fields None = no_fields
some_fields (Some fields) = field_members fields

-- the fields of the header, if it has them
abbrev pub header_members : Result (Option Outline) Cause → List ℕ
header_members (Ok fields) = some_fields fields
header_members (Err cause) = no_fields

-- the color space bit and the clamping bit of a key frame
abbrev pub bit_value : Bool → List ℕ
bit_value true = codes "1"
bit_value false = codes "0"

abbrev pub bit_members : Colors → List ℕ
bit_members colors = member (codes "color") (bit_value colors.color_space) ++ member (codes "clamp") (bit_value colors.clamping_type)

abbrev pub no_bits : List ℕ
no_bits = codes "\"color\":null,\"clamp\":null,"

abbrev pub outline_bits : Option Tag → Outline → List ℕ
outline_bits None fields = no_bits
outline_bits (Some tag) fields = if tag.key then bit_members fields.colors else no_bits

abbrev pub color_members : Option Tag → Result (Option Outline) Cause → List ℕ
color_members tag (Ok (Some fields)) = outline_bits tag fields
color_members tag (Ok None) = no_bits
color_members tag (Err cause) = no_bits

-- why decoding refuses the packet: `lost` because of an earlier one, or the cause against its header
abbrev pub own_cause : Result (Option Outline) Cause → List ℕ
own_cause (Ok fields) = codes "\"cause\":null"
own_cause (Err cause) = codes "\"cause\":\"" ++ cause_text cause ++ codes "\""

abbrev pub cause_member : Facts → List ℕ
cause_member facts = if facts.is_lost then codes "\"cause\":\"lost\"" else own_cause facts.header

abbrev pub object_of : Facts → List ℕ
object_of facts =
    codes "{" ++ place_members facts ++ tag_members facts ++ size_members facts ++ header_members facts.header
    ++ color_members facts.tag facts.header ++ cause_member facts ++ codes "}\n"
