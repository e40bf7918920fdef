-- The text of an IVF file: a header, unused bytes after it, records, and a rest that begins with no whole
-- record. Numbers are little-endian.
use Rattle.std.specs.Prelude.{◌≡◌, ℕ, ◌+◌, ◌<◌, ◌≤◌, List, [], ◌∷◌, length, take, drop, codes, Result, Ok, Err}
use Rattle.byteorder.specs.Endian.{little_number}
use Rattle.stream_files.specs.declared.packets.Packet.{Packet}
use Rattle.stream_files.specs.declared.packets.TheConstants.{MAX_PACKETS}
use Rattle.stream_files.specs.declared.streams.Head.{Head}
use Rattle.stream_files.specs.declared.streams.Stream.{Stream}
use Rattle.stream_files.specs.Streams.{rate_of}
use Rattle.stream_files.specs.declared.ivf.IvfFault.{IvfFault}
use Rattle.stream_files.specs.declared.ivf.IvfFault.TheVariants.{Header, Magic, FourCc, HeaderLength, TooMany, NoMemory}

-- the error's name
abbrev pub ivf_fault_word : IvfFault → List ℕ
ivf_fault_word Header = codes "Header"
ivf_fault_word Magic = codes "Magic"
ivf_fault_word FourCc = codes "FourCc"
ivf_fault_word HeaderLength = codes "HeaderLength"
ivf_fault_word TooMany = codes "TooMany"
ivf_fault_word NoMemory = codes "NoMemory"

-- a whole record at the front: four bytes with its size, eight with its time stamp, and `size` bytes
abbrev pub HasRecord : List ℕ → Type 0
HasRecord text = 12 + little_number 4 text ≤ length text

-- the packet of the record at the front
abbrev pub first_packet : List ℕ → Packet
first_packet text = record { stamp = little_number 8 (drop 4 text); bytes = take (little_number 4 text) (drop 12 text) }

-- the bytes after the record at the front
abbrev pub after_first : List ℕ → List ℕ
after_first text = drop (little_number 4 text) (drop 12 text)

-- a text is the records of these packets, and then the rest
abbrev pub Records : List ℕ → List Packet → List ℕ → Type 0
Records text [] rest = text ≡ rest
Records text (packet ∷ packets) rest = HasRecord text × (packet ≡ first_packet text) × Records (after_first text) packets rest

-- the length that the header gives for itself
abbrev pub header_length : List ℕ → ℕ
header_length bytes = little_number 2 (drop 6 bytes)

-- the header has room for its fields
abbrev pub HasFields : List ℕ → Type 0
HasFields bytes = 32 ≤ length bytes

abbrev pub HasMagic : List ℕ → Type 0
HasMagic bytes = take 4 bytes ≡ codes "DKIF"

abbrev pub HasFourCc : List ℕ → Type 0
HasFourCc bytes = take 4 (drop 8 bytes) ≡ codes "VP80"

-- the header's length has room for the fields, and the header ends within the file
abbrev pub HasLength : List ℕ → Type 0
HasLength bytes = (32 ≤ header_length bytes) × (header_length bytes ≤ length bytes)

-- the text begins with a header
abbrev pub HasHeader : List ℕ → Type 0
HasHeader bytes = HasFields bytes × HasMagic bytes × HasFourCc bytes × HasLength bytes

-- the fields of the header that are used
abbrev pub head_of : List ℕ → Head
head_of bytes = record {
  width = little_number 2 (drop 12 bytes);
  height = little_number 2 (drop 14 bytes);
  rate = little_number 4 (drop 16 bytes);
  scale = little_number 4 (drop 20 bytes);
}

-- the bytes after the header and its unused bytes
abbrev pub body : List ℕ → List ℕ
body bytes = drop (header_length bytes) bytes

-- the bytes are the text of an IVF file with this head, these packets and this many trailing bytes
pub record IsIvf (bytes : List ℕ) (file : Stream) : Type 0 where
  pub header : HasHeader bytes
  pub head : file.head ≡ head_of bytes
  pub frame_rate : file.frame_rate ≡ rate_of file.head
  pub rest : List ℕ
  pub records : Records (body bytes) file.packets rest
  pub over : ¬ HasRecord rest
  pub spare : file.spare ≡ length rest
  pub few : length file.packets ≤ MAX_PACKETS

-- there are more whole records in sequence than a file may have
abbrev pub HasTooMany : List ℕ → Type 0
HasTooMany text = (packets : List Packet) × (rest : List ℕ) × Records text packets rest × (MAX_PACKETS < length packets)

-- what each error means for the bytes: none of the earlier errors holds, and this one does
abbrev pub IvfRefuses : List ℕ → IvfFault → Type 0
IvfRefuses bytes Header = ¬ HasFields bytes
IvfRefuses bytes Magic = HasFields bytes × ¬ HasMagic bytes
IvfRefuses bytes FourCc = HasFields bytes × HasMagic bytes × ¬ HasFourCc bytes
IvfRefuses bytes HeaderLength = HasFields bytes × HasMagic bytes × HasFourCc bytes × ¬ HasLength bytes
IvfRefuses bytes TooMany = HasHeader bytes × HasTooMany (body bytes)
IvfRefuses bytes NoMemory = (file : Stream) × IsIvf bytes file

-- the result of reading a file
abbrev pub IvfAnswers : List ℕ → Result Stream IvfFault → Type 0
IvfAnswers bytes (Ok file) = IsIvf bytes file
IvfAnswers bytes (Err fault) = IvfRefuses bytes fault

-- the number of whole records at the front
pub record IsRecordCount (text : List ℕ) (count : ℕ) : Type 0 where
  pub packets : List Packet
  pub rest : List ℕ
  pub records : Records text packets rest
  pub over : ¬ HasRecord rest
  pub counted : length packets ≡ count
