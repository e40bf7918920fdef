-- The text of packets: the macroblocks of each, or its header.
use Rattle.std.specs.Prelude.{ℕ, ◌-◌, ◌*◌, ◌==◌, if◌then◌else◌, List, [], ◌++◌, codes, length, map, slice_get, take, Option, Some, None, Result, Ok, Err}
use Rattle.std.specs.Fmt.{decimal}
use Rattle.std.specs.List.{flat_map, range_with_len}
use Rattle.vp8_tables.specs.Tables.{TableEntries}
use Rattle.stream_files.specs.declared.packets.Packet.{Packet}
use Rattle.frame_header.specs.declared.cause.Cause.{Cause}
use Rattle.frame_header.specs.declared.cause.Cause.TheVariants.{NoKeyFrame}
use Rattle.frame_header.specs.declared.header.Header.{Header}
use Rattle.frame_header.specs.Tags.{has_key_tag}
use Rattle.header_bits.specs.Coded.{coded_in}
use Rattle.header_bits.specs.declared.coded.Coded.{Coded}
use Rattle.stream_facts.specs.Json.{number_member}
use Rattle.stream_facts.specs.Lines.{cause_text}
use Rattle.stream_steps.specs.declared.broken.Broken.{Broken}
use Rattle.macroblock_lists.specs.declared.layouts.Form.{Form}
use Rattle.macroblock_lists.specs.declared.layouts.Form.TheVariants as forms
use Rattle.macroblock_lists.specs.declared.layouts.Layout.TheVariants as layouts
use Rattle.macroblock_lists.specs.declared.layouts.What.{What}
use Rattle.macroblock_lists.specs.declared.layouts.What.TheVariants as what
use Rattle.macroblock_lists.specs.Changes.{all_changes, probabilities_before}
use Rattle.macroblock_lists.specs.Fields.{header_fields}
use Rattle.macroblock_lists.specs.Frames.{frame_text}
use Rattle.macroblock_lists.specs.Known.{Known, Knowledge, header_after, known_before, progress_over}
use Rattle.macroblock_lists.specs.Lines.{head_line}
use Rattle.macroblock_lists.specs.Parts.{joined}

-- the start of a comment
abbrev pub comment_start : ℕ → List ℕ
comment_start place = codes "# packet " ++ decimal place ++ codes ":"

-- a packet that decoding refuses, itself or because of an earlier one, with the packet and the cause that a reply names
abbrev pub broken_text : Form → ℕ → Broken → List ℕ
broken_text forms.Lines place broken =
    comment_start place ++ codes " refused packet " ++ decimal broken.place ++ codes " " ++ cause_text broken.cause ++ codes "\n"
broken_text forms.Objects place broken =
    codes "{" ++ number_member (codes "packet") place ++ number_member (codes "refused") broken.place ++ codes "\"cause\":\"" ++ cause_text broken.cause ++ codes "\"}\n"

-- a packet of no bytes, which has no macroblocks
abbrev pub repeat_text : Form → ℕ → List ℕ
repeat_text forms.Lines place = comment_start place ++ codes " no bytes, the last frame is shown again\n"
repeat_text forms.Objects place = codes "{" ++ number_member (codes "packet") place ++ codes "\"repeats\":true}\n"

-- the header before the macroblocks: a comment
abbrev pub comment_of : Form → ℕ → Header → Coded → List ℕ
comment_of forms.Lines place header coded = comment_start place ++ header_fields layouts.Words header coded ++ codes "\n"
comment_of forms.Objects place header coded = []

-- the sizes of the token partitions
abbrev pub sizes_text : Header → List ℕ
sizes_text header = joined (λ partition. decimal partition.length) header.partitions.items

-- their bits: three bytes for each but the last, whose size is not coded (section 9.5)
abbrev pub sizes_bits : Header → List ℕ
sizes_bits header = decimal (24 * (length header.partitions.items - 1))

-- the header alone: with its bits, which in an object are a member at its end
abbrev pub packet_line : ℕ → List ℕ
packet_line place = codes "packet\t" ++ decimal place ++ codes "\n"

abbrev pub header_text : Form → ℕ → Header → Coded → List ℕ
header_text forms.Lines place header coded =
    packet_line place ++ header_fields layouts.Lines header coded ++ codes "token_partition_sizes\t" ++ sizes_text header ++ codes "\t" ++ sizes_bits header ++ codes "\n"
header_text forms.Objects place header coded =
    codes "{" ++ number_member (codes "packet") place ++ header_fields layouts.Members header coded ++ codes "\"token_partition_sizes\":[" ++ sizes_text header
    ++ codes "],\"bits\":{" ++ header_fields layouts.Bits header coded ++ codes "\"token_partition_sizes\":" ++ sizes_bits header ++ codes "}}\n"

-- a packet that is decoded
abbrev pub frame_by : What → Form → ℕ → TableEntries → List ℕ → Header → Option Known → List ℕ
frame_by what.Macroblocks form place tables packet header before = comment_of form place header (coded_in tables packet) ++ frame_text form place tables packet header before
frame_by what.Header form place tables packet header before =
    header_text form place header (coded_in tables packet) ++ all_changes form place (probabilities_before tables header.is_key before) header.context.probabilities

abbrev pub text_by : What → Form → ℕ → TableEntries → List ℕ → Option Known → Result Header Cause → List ℕ
text_by what form place tables packet before (Ok header) = frame_by what form place tables packet header before
text_by what form place tables packet before (Err cause) = broken_text form place (record { place = place; cause = cause })

abbrev pub repeat_by : Form → ℕ → Option Known → List ℕ
repeat_by form place None = broken_text form place (record { place = place; cause = NoKeyFrame })
repeat_by form place (Some known) = repeat_text form place

-- a packet before which this is known
abbrev pub known_text : What → Form → ℕ → TableEntries → Option Known → List ℕ → List ℕ
known_text what form place tables known packet =
    if length packet == 0 then repeat_by form place known
    else text_by what form place tables packet (known_before packet known) (header_after tables known packet)

abbrev pub progress_text : What → Form → ℕ → TableEntries → Knowledge → List ℕ → List ℕ
progress_text what form place tables (Ok known) packet = known_text what form place tables known packet
progress_text what form place tables (Err broken) packet = broken_text form place broken

-- the packet at an index, after this progress
abbrev pub packet_text : What → Form → ℕ → TableEntries → Knowledge → List ℕ → List ℕ
packet_text what form place tables progress packet =
    if has_key_tag packet then known_text what form place tables None packet else progress_text what form place tables progress packet

-- the progress before each packet of a stream
abbrev pub progress_before : TableEntries → List Packet → ℕ → Knowledge
progress_before tables packets place = progress_over tables 0 (Ok None) (map (λ packet. packet.bytes) (take place packets))

abbrev pub text_for : What → Form → ℕ → TableEntries → Knowledge → Option Packet → List ℕ
text_for what form place tables progress None = []
text_for what form place tables progress (Some packet) = packet_text what form place tables progress packet.bytes

unfoldable pub text_at : What → Form → TableEntries → List Packet → ℕ → List ℕ
text_at what form tables packets place = text_for what form place tables (progress_before tables packets place) (slice_get packets place)

-- the text of so many packets, beginning with the packet at an index
abbrev pub head_of : What → Form → List ℕ
head_of what.Macroblocks forms.Lines = head_line
head_of what.Macroblocks forms.Objects = []
head_of what.Header form = []

abbrev pub list_text : What → Form → TableEntries → List Packet → ℕ → ℕ → List ℕ
list_text what form tables packets first count = head_of what form ++ flat_map (text_at what form tables packets) (range_with_len first count)
