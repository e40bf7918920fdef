-- Why a file is not read as a stream, and the record that the end of a file cuts off.
use Rattle.std.specs.Prelude.{◌≡◌, ◌+◌, ◌==◌, ◌||◌, not, ℕ, Bool, nat_eq, nat_le, if◌then◌else◌, List, ◌∷◌, [], length, Option, Some, None, unwrap_or}
use Rattle.std.specs.List.{list_all, starts_with}
use Rattle.byteorder.specs.Endian.{little_number}
use Rattle.stream_files.specs.Ivf.{HasRecord, Records, body, header_length}
use Rattle.stream_sources.specs.declared.faults.StreamFault.{StreamFault}
use Rattle.stream_sources.specs.declared.faults.StreamFault.TheVariants as faults
use Rattle.webm_files.specs.Files.{is_marked}
use Rattle.stream_files.specs.declared.packets.Packet.{Packet}
use Rattle.command_lines.specs.Formats.{format_of}
use Rattle.command_lines.specs.declared.formats.Format.{Format}
use Rattle.explanations.specs.Lines.{is_binary}
use Rattle.explanations.specs.declared.files.CutRecord.{CutRecord}
use Rattle.explanations.specs.declared.files.StreamReason.{StreamReason}
use Rattle.explanations.specs.declared.files.StreamReason.TheVariants.{Short, Other, Gzip, Zeros, Text, NoIvf, Codec, NoHeader, OtherKind, NoTracks, NoVideo, Encoded, Scale, HeaderLength, TooMany, TooManyParts, NoMemory}

-- gzip's magic number
abbrev pub is_gzip : List ℕ → Bool
is_gzip bytes = starts_with nat_eq bytes (0x1F ∷ 0x8B ∷ [])

abbrev pub is_zeros : List ℕ → Bool
is_zeros bytes = list_all (λ byte. byte == 0) bytes

-- characters of a text and newlines
abbrev pub is_text : List ℕ → Bool
is_text bytes = list_all (λ byte. byte == 10 || not (is_binary byte)) bytes

-- the kind of a file that begins with these bytes and has no other format, if it is known
abbrev pub plain_kind : List ℕ → Option StreamReason
plain_kind bytes =
    if length bytes == 0 then None
    else if is_gzip bytes then Some Gzip
    else if is_zeros bytes then Some Zeros
    else if is_text bytes then Some Text
    else None

-- the kind of a file that begins with these bytes and not as an IVF file, if it is known
abbrev pub kind_by : Option Format → List ℕ → Option StreamReason
kind_by (Some format) bytes = Some (Other format)
kind_by None bytes = plain_kind bytes

abbrev pub kind_of : List ℕ → Option StreamReason
kind_of bytes = kind_by (format_of bytes) bytes

-- the length that a header gives itself; 0 if the bytes have no room for it
abbrev pub given_length : List ℕ → ℕ
given_length bytes = if nat_le 8 (length bytes) then header_length bytes else 0

-- the reason of an error in a file's bytes: the name of another codec is the four bytes at byte 8
abbrev pub stream_reason : List ℕ → StreamFault → StreamReason
stream_reason bytes faults.Header = if is_marked bytes then NoHeader else unwrap_or (kind_of bytes) Short
stream_reason bytes faults.Magic = unwrap_or (kind_of bytes) NoIvf
stream_reason bytes faults.FourCc = Codec
stream_reason bytes faults.HeaderLength = HeaderLength (given_length bytes)
stream_reason bytes faults.DocType = OtherKind
stream_reason bytes faults.NoTracks = NoTracks
stream_reason bytes faults.NoVideo = NoVideo
stream_reason bytes faults.Encoded = Encoded
stream_reason bytes faults.Scale = Scale
stream_reason bytes faults.TooMany = if is_marked bytes then TooManyParts else TooMany
stream_reason bytes faults.NoMemory = NoMemory

-- after its whole records a file has bytes, which begin with no whole record
pub record IsCutRecord (bytes : List ℕ) (cut : CutRecord) : Type 0 where
  pub packets : List Packet
  pub rest : List ℕ
  pub records : Records (body bytes) packets rest
  pub over : ¬ HasRecord rest
  pub number : length packets ≡ cut.number
  pub begins : cut.begins + length rest ≡ length bytes
  pub size : cut.size ≡ (if nat_le 4 (length rest) then Some (little_number 4 rest) else None)

-- a file's whole records are all that follows its header
abbrev pub EndsWhole : List ℕ → Type 0
EndsWhole bytes = (packets : List Packet) × Records (body bytes) packets []
