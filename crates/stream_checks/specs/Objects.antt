-- A finding as a JSON object (RFC 8259).
use Rattle.std.specs.Prelude.{ℕ, Bool, if◌then◌else◌, List, ◌++◌, codes, Option, Some, None}
use Rattle.std.specs.Fmt.{decimal}
use Rattle.stream_facts.specs.Json.{member, number_member, optional_member}
use Rattle.stream_facts.specs.Lines.{cause_text}
use Rattle.stream_checks.specs.declared.finding.Finding.{Finding}
use Rattle.stream_checks.specs.declared.finding.Spot.{Spot}
use Rattle.stream_checks.specs.declared.finding.Tally.{Tally}
use Rattle.stream_checks.specs.declared.finding.Trouble.{Trouble}
use Rattle.stream_checks.specs.declared.finding.Trouble.TheVariants.{FrameCount, FrameSize, NoRate, Refused, PastFirst, PastToken, UnreadFirst, UnreadToken, EmptyToken, NoBytes, GoldenCopiesNone, AltrefCopiesNone, ComesTwice, StampRepeats, StampGoesBack, StampSkips, BreaksStep, SizeChanges, NeverShown, CutRecord, InWebm}
use Rattle.stream_checks.specs.declared.webm_trouble.WebmTrouble.{WebmTrouble}
use Rattle.stream_checks.specs.declared.webm_trouble.WebmTrouble.TheVariants.{CutElement, Skipped, NoTime, WrongLength, LacedBlock, UnlistedBlock}
use Rattle.stream_checks.specs.Lines.{size_text}
use Rattle.stream_checks.specs.Severity.{is_damage}

-- the packet and its frame: null at the header and the end of the file, and the frame of a hidden packet
abbrev pub spot_members : Option Spot → List ℕ
spot_members None = member (codes "packet") (codes "null") ++ member (codes "frame") (codes "null")
spot_members (Some spot) = number_member (codes "packet") spot.packet ++ optional_member (codes "frame") spot.frame

-- a text as a value
abbrev pub quoted : List ℕ → List ℕ
quoted text = codes "\"" ++ text ++ codes "\""

abbrev pub kind_member : List ℕ → List ℕ
kind_member kind = member (codes "kind") (quoted kind)

abbrev pub size_member : List ℕ → ℕ × ℕ → List ℕ
size_member name size = member name (quoted (size_text size))

-- the number of a token partition; null for the first partition
abbrev pub partition_members : List ℕ → Option ℕ → List ℕ
partition_members kind partition = kind_member kind ++ optional_member (codes "partition") partition

abbrev pub past_members : Option ℕ → ℕ → List ℕ
past_members partition bytes = partition_members (codes "past_end") partition ++ number_member (codes "bytes") bytes

abbrev pub unread_members : Option ℕ → ℕ → ℕ → List ℕ
unread_members partition bytes size =
    partition_members (codes "unread") partition ++ number_member (codes "bytes") bytes ++ number_member (codes "size") size

abbrev pub cause_member : List ℕ → List ℕ
cause_member cause = codes "\"cause\":\"" ++ cause ++ codes "\","

abbrev pub refused_members : List ℕ → ℕ → List ℕ
refused_members cause lost = kind_member (codes "refused") ++ cause_member cause ++ number_member (codes "lost") lost

-- two time stamps
abbrev pub stamp_members : List ℕ → ℕ → ℕ → List ℕ
stamp_members kind stamp before = kind_member kind ++ number_member (codes "stamp") stamp ++ number_member (codes "before") before

abbrev pub breaks_members : ℕ → ℕ → ℕ → List ℕ
breaks_members stamp before step = stamp_members (codes "breaks_step") stamp before ++ number_member (codes "step") step

-- the field of a copy
abbrev pub field_member : List ℕ → List ℕ
field_member field = member (codes "field") (quoted field)

abbrev pub copy_members : List ℕ → List ℕ
copy_members field = kind_member (codes "copies_none") ++ field_member field

-- two sizes
abbrev pub size_members : List ℕ → List ℕ → ℕ × ℕ → ℕ × ℕ → List ℕ
size_members kind name before size = kind_member kind ++ size_member name before ++ size_member (codes "size") size

abbrev pub cut_members : ℕ → ℕ → Option ℕ → ℕ → List ℕ
cut_members number begins claimed left =
    kind_member (codes "cut_record") ++ number_member (codes "record") number ++ number_member (codes "byte") begins
    ++ optional_member (codes "claimed") claimed ++ number_member (codes "left") left

-- at a byte of a WebM file
abbrev pub byte_members : List ℕ → ℕ → List ℕ
byte_members kind begins = kind_member kind ++ number_member (codes "byte") begins

abbrev pub cut_element_members : ℕ → ℕ → List ℕ
cut_element_members begins left = byte_members (codes "cut_element") begins ++ number_member (codes "left") left

abbrev pub skipped_members : ℕ → ℕ → List ℕ
skipped_members begins bytes = byte_members (codes "skipped") begins ++ number_member (codes "bytes") bytes

abbrev pub no_time_members : ℕ → List ℕ
no_time_members begins = byte_members (codes "cluster_without_time") begins

abbrev pub element_member : Bool → List ℕ
element_member is_cluster = if is_cluster then member (codes "element") (codes "\"cluster\"") else member (codes "element") (codes "\"segment\"")

abbrev pub wrong_length_members : Bool → ℕ → ℕ → ℕ → List ℕ
wrong_length_members is_cluster begins says ends =
    byte_members (codes "wrong_length") begins ++ element_member is_cluster ++ number_member (codes "says") says ++ number_member (codes "ends") ends

abbrev pub laced_members : ℕ → List ℕ
laced_members begins = byte_members (codes "laced_block") begins

abbrev pub unlisted_members : ℕ → ℕ → List ℕ
unlisted_members begins track = byte_members (codes "unlisted_block") begins ++ number_member (codes "track") track

abbrev pub webm_members : WebmTrouble → List ℕ
webm_members (CutElement begins left) = cut_element_members begins left
webm_members (Skipped begins bytes) = skipped_members begins bytes
webm_members (NoTime begins) = no_time_members begins
webm_members (WrongLength is_cluster begins says ends) = wrong_length_members is_cluster begins says ends
webm_members (LacedBlock begins) = laced_members begins
webm_members (UnlistedBlock begins track) = unlisted_members begins track

-- the kind of a finding, and the numbers of its line
abbrev pub trouble_members : Trouble → List ℕ
trouble_members (FrameCount claimed packets) = kind_member (codes "frame_count") ++ number_member (codes "claimed") claimed ++ number_member (codes "packets") packets
trouble_members (FrameSize claimed size) = size_members (codes "frame_size") (codes "claimed") claimed size
trouble_members (NoRate rate scale) = kind_member (codes "no_rate") ++ number_member (codes "rate") rate ++ number_member (codes "scale") scale
trouble_members (Refused cause lost) = refused_members (cause_text cause) lost
trouble_members (PastFirst bytes) = past_members None bytes
trouble_members (PastToken partition bytes) = past_members (Some partition) bytes
trouble_members (UnreadFirst bytes size) = unread_members None bytes size
trouble_members (UnreadToken partition bytes size) = unread_members (Some partition) bytes size
trouble_members (EmptyToken partition) = partition_members (codes "empty") (Some partition)
trouble_members NoBytes = kind_member (codes "no_bytes")
trouble_members GoldenCopiesNone = copy_members (codes "copy_buffer_to_golden")
trouble_members AltrefCopiesNone = copy_members (codes "copy_buffer_to_arf")
trouble_members (ComesTwice breaks_step) = kind_member (codes "comes_twice")
trouble_members (StampRepeats stamp) = kind_member (codes "stamp_repeats") ++ number_member (codes "stamp") stamp
trouble_members (StampGoesBack stamp before) = stamp_members (codes "stamp_goes_back") stamp before
trouble_members (StampSkips stamp before) = stamp_members (codes "stamp_skips") stamp before
trouble_members (BreaksStep stamp before step) = breaks_members stamp before step
trouble_members (SizeChanges before size) = size_members (codes "size_changes") (codes "before") before size
trouble_members NeverShown = kind_member (codes "never_shown")
trouble_members (CutRecord number begins claimed left) = cut_members number begins claimed left
trouble_members (InWebm trouble) = webm_members trouble

-- damage, or a note
abbrev pub severity_member : Trouble → List ℕ
severity_member trouble = if is_damage trouble then codes "\"severity\":\"damage\"" else codes "\"severity\":\"note\""

abbrev pub object_of : Finding → List ℕ
object_of finding = codes "{" ++ spot_members finding.spot ++ trouble_members finding.trouble ++ severity_member finding.trouble ++ codes "}\n"

-- how many findings are damage, and how many are notes
abbrev pub tally_object : Tally → List ℕ
tally_object tally = codes "{" ++ number_member (codes "damage") tally.damage ++ codes "\"notes\":" ++ decimal tally.notes ++ codes "}\n"
