-- The findings at the header and at the end of a file.
use Rattle.std.specs.Prelude.{ℕ, ◌-◌, ◌==◌, ◌||◌, if◌then◌else◌, nat_le, List, ◌++◌, drop, length, Option, Some, None}
use Rattle.byteorder.specs.Endian.{little_number}
use Rattle.vp8_tables.specs.Tables.{TableEntries}
use Rattle.stream_files.specs.declared.streams.Head.{Head}
use Rattle.stream_sources.specs.declared.sources.Source.{Source}
use Rattle.webm_files.specs.Media.{Kept}
use Rattle.stream_facts.specs.Facts.{first_key_size}
use Rattle.stream_checks.specs.declared.finding.Finding.{Finding}
use Rattle.stream_checks.specs.declared.finding.Trouble.{Trouble}
use Rattle.stream_checks.specs.declared.finding.Trouble.TheVariants.{FrameCount, FrameSize, NoRate, CutRecord}
use Rattle.stream_checks.specs.Listed.{found_around, listed}
use Rattle.stream_checks.specs.Media.{media_findings}
use Rattle.stream_checks.specs.Packets.{packet_findings}

-- the number of frames that the header of an IVF file gives: bytes 24 to 27
abbrev pub claimed_frames : List ℕ → ℕ
claimed_frames bytes = little_number 4 (drop 24 bytes)

abbrev pub count_trouble : ℕ → ℕ → Option Trouble
count_trouble claimed packets = if claimed == packets then None else Some (FrameCount claimed packets)

-- a WebM file gives no number of frames
abbrev pub claim_trouble : Option Kept → List ℕ → ℕ → Option Trouble
claim_trouble None bytes packets = count_trouble (claimed_frames bytes) packets
claim_trouble (Some media) bytes packets = None

-- the size that the header gives, against that of the first key packet
abbrev pub size_trouble : ℕ × ℕ → Option (ℕ × ℕ) → Option Trouble
size_trouble claimed None = None
size_trouble claimed (Some size) =
    if claimed.0 == size.0 then (if claimed.1 == size.1 then None else Some (FrameSize claimed size)) else Some (FrameSize claimed size)

-- a frame rate of which one number is 0
abbrev pub rate_trouble : Head → Option Trouble
rate_trouble head = if head.rate == 0 || head.scale == 0 then Some (NoRate head.rate head.scale) else None

-- the size that a record claims for its packet, in its first four bytes
abbrev pub claimed_size : List ℕ → Option ℕ
claimed_size rest = if nat_le 4 (length rest) then Some (little_number 4 rest) else None

-- the record that begins at an index and is not whole
abbrev pub cut_at : List ℕ → ℕ → ℕ → ℕ → Trouble
cut_at bytes packets begins left = CutRecord packets begins (claimed_size (drop begins bytes)) left

-- trailing bytes of an IVF file are a record that the end of the file cuts off
abbrev pub cut_trouble : List ℕ → ℕ → ℕ → Option Trouble
cut_trouble bytes packets spare = if spare == 0 then None else Some (cut_at bytes packets (length bytes - spare) spare)

-- the findings at the header; of a WebM file that is the entry of its video in the list of tracks
abbrev pub head_findings : List ℕ → Source → List Finding
head_findings bytes source =
    listed (found_around (claim_trouble source.media bytes (length source.stream.packets)))
    ++ listed (found_around (size_trouble (source.stream.head.width, source.stream.head.height) (first_key_size source.stream.packets)))
    ++ listed (found_around (rate_trouble source.stream.head))

-- and at the end: a record that is cut off, or what is found in a WebM file besides its packets
abbrev pub end_by : Option Kept → List ℕ → ℕ → ℕ → List Finding
end_by None bytes packets spare = listed (found_around (cut_trouble bytes packets spare))
end_by (Some media) bytes packets spare = media_findings (length bytes) media

abbrev pub end_findings : List ℕ → Source → List Finding
end_findings bytes source = end_by source.media bytes (length source.stream.packets) source.stream.spare

-- the findings of a file: at its header, at its packets, and at its end
abbrev pub findings : TableEntries → List ℕ → Source → List Finding
findings tables bytes source = head_findings bytes source ++ packet_findings tables source.stream.packets ++ end_findings bytes source
