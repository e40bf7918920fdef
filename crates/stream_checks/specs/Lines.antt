-- The text of findings: a line each.
use Rattle.std.specs.Prelude.{ℕ, Bool, nat_lt, if◌then◌else◌, List, [], ◌++◌, codes, count_by, Option, Some, None}
use Rattle.std.specs.Fmt.{decimal}
use Rattle.frame_header.specs.Tags.{is_shown}
use Rattle.stream_files.specs.declared.packets.Packet.{Packet}
use Rattle.stream_facts.specs.Lines.{cause_text}
use Rattle.stream_checks.specs.declared.finding.Finding.{Finding}
use Rattle.stream_checks.specs.declared.finding.Spot.{Spot}
use Rattle.stream_checks.specs.declared.finding.Tally.{Tally}
use Rattle.stream_checks.specs.declared.finding.Trouble.{Trouble}
use Rattle.stream_checks.specs.declared.finding.Trouble.TheVariants.{FrameCount, FrameSize, NoRate, Refused, PastFirst, PastToken, UnreadFirst, UnreadToken, EmptyToken, NoBytes, GoldenCopiesNone, AltrefCopiesNone, ComesTwice, StampRepeats, StampGoesBack, StampSkips, BreaksStep, SizeChanges, NeverShown, CutRecord, InWebm}
use Rattle.stream_checks.specs.declared.webm_trouble.WebmTrouble.{WebmTrouble}
use Rattle.stream_checks.specs.declared.webm_trouble.WebmTrouble.TheVariants.{CutElement, Skipped, NoTime, WrongLength, LacedBlock, UnlistedBlock}
use Rattle.stream_checks.specs.Severity.{is_damage}

-- what is at the front of a line
abbrev pub severity_text : Trouble → List ℕ
severity_text trouble = if is_damage trouble then codes "damage: " else codes "note: "

abbrev pub spot_text : Option Spot → List ℕ
spot_text None = []
spot_text (Some spot) = codes "packet " ++ decimal spot.packet ++ codes ": "

-- sizes
abbrev pub size_text : ℕ × ℕ → List ℕ
size_text size = decimal size.0 ++ codes "x" ++ decimal size.1

-- of the header of the file
abbrev pub count_text : ℕ → ℕ → List ℕ
count_text claimed packets = codes "header: " ++ decimal claimed ++ codes " frames, " ++ decimal packets ++ codes " packets"

abbrev pub claimed_size_text : ℕ × ℕ → ℕ × ℕ → List ℕ
claimed_size_text claimed size = codes "header: size " ++ size_text claimed ++ codes ", first key packet " ++ size_text size

abbrev pub rate_text : ℕ → ℕ → List ℕ
rate_text rate scale = codes "header: rate " ++ decimal rate ++ codes ", scale " ++ decimal scale

-- of a refused packet
abbrev pub lost_text : ℕ → List ℕ
lost_text lost = codes ", packets lost with it: " ++ decimal lost

abbrev pub refused_text : List ℕ → ℕ → List ℕ
refused_text cause lost = codes "refused " ++ cause ++ lost_text lost

-- of a partition
abbrev pub partition_text : ℕ → List ℕ
partition_text partition = codes "token partition " ++ decimal partition ++ codes ": "

abbrev pub first_text : List ℕ
first_text = codes "first partition: "

abbrev pub past_text : ℕ → List ℕ
past_text bytes = decimal bytes ++ codes " bytes read past its end"

abbrev pub unread_text : ℕ → ℕ → List ℕ
unread_text bytes size = decimal bytes ++ codes " of " ++ decimal size ++ codes " bytes are not read"

-- of a time stamp
abbrev pub stamp_text : ℕ → List ℕ
stamp_text stamp = codes "time stamp " ++ decimal stamp

abbrev pub back_text : ℕ → ℕ → List ℕ
back_text stamp before = stamp_text stamp ++ codes " goes back from " ++ decimal before

abbrev pub skips_text : ℕ → ℕ → List ℕ
skips_text stamp before = stamp_text stamp ++ codes " skips from " ++ decimal before

abbrev pub breaks_text : ℕ → ℕ → ℕ → List ℕ
breaks_text stamp before step = stamp_text stamp ++ codes " follows " ++ decimal before ++ codes ", all other steps are " ++ decimal step

-- of the number of a copy
abbrev pub copy_text : List ℕ → List ℕ
copy_text field = field ++ codes " 3, at which vpxdec ends"

-- of a size
abbrev pub change_text : ℕ × ℕ → ℕ × ℕ → List ℕ
change_text before size = codes "size " ++ size_text before ++ codes " changes to " ++ size_text size

-- of a record: a whole one has 12 bytes for its head and those of its packet
abbrev pub cut_start : ℕ → ℕ → List ℕ
cut_start number begins = codes "record " ++ decimal number ++ codes " at byte " ++ decimal begins ++ codes ": "

abbrev pub claimed_text : ℕ → List ℕ
claimed_text claimed = codes "claims 12 + " ++ decimal claimed ++ codes " bytes, "

abbrev pub left_text : Option ℕ → ℕ → List ℕ
left_text None left = decimal left ++ codes " bytes are there"
left_text (Some claimed) left = claimed_text claimed ++ decimal left ++ codes " are there"

abbrev pub cut_text : ℕ → ℕ → Option ℕ → ℕ → List ℕ
cut_text number begins claimed left = cut_start number begins ++ left_text claimed left

-- of bytes of a WebM file that are read as no element
abbrev pub cut_element_text : ℕ → ℕ → List ℕ
cut_element_text begins left = codes "element at byte " ++ decimal begins ++ codes ": the file ends within it, " ++ decimal left ++ codes " bytes are there"

abbrev pub skipped_text : ℕ → ℕ → List ℕ
skipped_text begins bytes = codes "byte " ++ decimal begins ++ codes ": " ++ decimal bytes ++ codes " bytes are no element, and are skipped"

-- of a cluster or Segment of a WebM file
abbrev pub no_time_text : ℕ → List ℕ
no_time_text begins = codes "cluster at byte " ++ decimal begins ++ codes ": it has no time, so its blocks have that of the cluster before"

abbrev pub length_start : Bool → ℕ → List ℕ
length_start is_cluster begins = (if is_cluster then codes "cluster" else codes "segment") ++ codes " at byte " ++ decimal begins ++ codes ": "

abbrev pub says_text : ℕ → List ℕ
says_text says = codes "its length says that it ends at byte " ++ decimal says

-- an element in it ends after that, or it ends before that
abbrev pub what_text : Bool → List ℕ
what_text is_within = if is_within then codes ", and an element in it" else codes ", and it"

abbrev pub end_text : ℕ → List ℕ
end_text ends = codes " ends at byte " ++ decimal ends

abbrev pub ends_text : Bool → ℕ → List ℕ
ends_text is_within ends = what_text is_within ++ end_text ends

abbrev pub wrong_length_text : Bool → ℕ → ℕ → ℕ → List ℕ
wrong_length_text is_cluster begins says ends = length_start is_cluster begins ++ says_text says ++ ends_text (nat_lt says ends) ends

-- of a block of a WebM file
abbrev pub block_start : ℕ → List ℕ
block_start begins = codes "block at byte " ++ decimal begins ++ codes ": "

abbrev pub laced_text : ℕ → List ℕ
laced_text begins = block_start begins ++ codes "laced packets of the video, which are left out"

abbrev pub track_text : ℕ → List ℕ
track_text track = codes "track " ++ decimal track ++ codes ", which the file does not list"

abbrev pub unlisted_text : ℕ → ℕ → List ℕ
unlisted_text begins track = block_start begins ++ track_text track

abbrev pub webm_text : WebmTrouble → List ℕ
webm_text (CutElement begins left) = cut_element_text begins left
webm_text (Skipped begins bytes) = skipped_text begins bytes
webm_text (NoTime begins) = no_time_text begins
webm_text (WrongLength is_cluster begins says ends) = wrong_length_text is_cluster begins says ends
webm_text (LacedBlock begins) = laced_text begins
webm_text (UnlistedBlock begins track) = unlisted_text begins track

-- what is found
abbrev pub trouble_text : Trouble → List ℕ
trouble_text (FrameCount claimed packets) = count_text claimed packets
trouble_text (FrameSize claimed size) = claimed_size_text claimed size
trouble_text (NoRate rate scale) = rate_text rate scale
trouble_text (Refused cause lost) = refused_text (cause_text cause) lost
trouble_text (PastFirst bytes) = first_text ++ past_text bytes
trouble_text (PastToken partition bytes) = partition_text partition ++ past_text bytes
trouble_text (UnreadFirst bytes size) = first_text ++ unread_text bytes size
trouble_text (UnreadToken partition bytes size) = partition_text partition ++ unread_text bytes size
trouble_text (EmptyToken partition) = partition_text partition ++ codes "no bytes, which libvpx calls corrupt"
trouble_text NoBytes = codes "no bytes, at which vpxdec ends"
trouble_text GoldenCopiesNone = copy_text (codes "copy_buffer_to_golden")
trouble_text AltrefCopiesNone = copy_text (codes "copy_buffer_to_arf")
trouble_text (ComesTwice breaks_step) = codes "the next packet has the same bytes and time stamp"
trouble_text (StampRepeats stamp) = stamp_text stamp ++ codes " repeats"
trouble_text (StampGoesBack stamp before) = back_text stamp before
trouble_text (StampSkips stamp before) = skips_text stamp before
trouble_text (BreaksStep stamp before step) = breaks_text stamp before step
trouble_text (SizeChanges before size) = change_text before size
trouble_text NeverShown = codes "hidden, never shown"
trouble_text (CutRecord number begins claimed left) = cut_text number begins claimed left
trouble_text (InWebm trouble) = webm_text trouble

-- the line of a finding
abbrev pub line_of : Finding → List ℕ
line_of finding = severity_text finding.trouble ++ spot_text finding.spot ++ trouble_text finding.trouble ++ codes "\n"

-- the frames of a stream: its shown packets
abbrev pub frames_of : List Packet → ℕ
frames_of packets = count_by (λ packet. is_shown packet.bytes) packets

-- the last line: the numbers of packets and frames, and of findings
abbrev pub counts_text : ℕ → ℕ → List ℕ
counts_text packets frames = decimal packets ++ codes " packets, " ++ decimal frames ++ codes " frames, "

abbrev pub summary_line : ℕ → ℕ → Tally → List ℕ
summary_line packets frames tally = counts_text packets frames ++ codes "damage: " ++ decimal tally.damage ++ codes ", notes: " ++ decimal tally.notes ++ codes "\n"
