-- For proofs only: what the contracts of private functions cite. No public contract depends on this file.
use Rattle.std.specs.Prelude.{◌≡◌, ℕ, ◌<◌, List, [], false, length, map, slice_get, slice_index_or, unwrap_or, if◌then◌else◌, Option, Some, None, Ok}
use Rattle.bool_coder.specs.Chains.{IsChain}
use Rattle.bool_coder.specs.Reader.{Reader, started}
use Rattle.bool_coder.specs.Reading.{Reading}
use Rattle.bool_coder.specs.Taken.{marked}
use Rattle.vp8_tables.specs.Tables.{TableEntries}
use Rattle.frame_header.specs.Header.{first_partition, header_over}
use Rattle.frame_header.specs.Tags.{has_key_tag, key_size_of}
use Rattle.frame_header.specs.declared.header.Header.{Header}
use Rattle.frame_header.specs.declared.places.PartitionRange.{PartitionRange}
use Rattle.mode_parser.specs.declared.records.MbMode.{MbMode}
use Rattle.reference_frames.specs.FrameTokens.{TokenState, token_state}
use Rattle.stream_files.specs.declared.packets.Packet.{Packet}
use Rattle.macroblock_lists.specs.Known.{Known, Knowledge, frame_modes, header_after, height_of, known_before, width_of}
use Rattle.macroblock_lists.specs.PartitionEnds.{first_partition_end, marked_text}
use Rattle.macroblock_lists.specs.Records.{own_facts}
use Rattle.macroblock_lists.specs.declared.frames.Walk.{Walk}
use Rattle.macroblock_lists.specs.declared.partition_ends.PartitionEnd.{PartitionEnd}
use Rattle.macroblock_lists.specs.FirstChains.{context_in, zeros_of}
use Rattle.macroblock_lists.specs.Texts.{progress_before}

-- a header that was read over another text is that of the packet with another reader, and the records after both are the same
pub record IsRead (tables : TableEntries) (known : Option Known) (packet : List ℕ) (over : Header) : Type 0 where
  pub reader : Reader
  pub header : header_after tables known packet ≡ Ok (record over { reader = reader })
  pub records : (frame_modes tables (record over { reader = reader }) (known_before packet known)).records ≡ (frame_modes tables over (known_before packet known)).records
  pub segment_map : (frame_modes tables (record over { reader = reader }) (known_before packet known)).segment_map ≡ (frame_modes tables over (known_before packet known)).segment_map
  pub splits : map (λ facts. facts.split) (own_facts tables (record over { reader = reader }) (known_before packet known)) ≡ map (λ facts. facts.split) (own_facts tables over (known_before packet known))

-- so it is over the first partition with zeros and a mark after it, if some of these bits are left after the records
abbrev pub MarkedIsRead : TableEntries → Option Known → Type 0
MarkedIsRead tables known =
    (packet : List ℕ) (zeros : ℕ) (place : PartitionRange) (over : Header) → first_partition (context_in known) packet ≡ Ok place → header_over tables (context_in known) packet (marked_text zeros packet place) ≡ Ok over →
    0 < (frame_modes tables over (known_before packet known)).left → IsRead tables known packet over

-- the size of the frame of a packet, before which this is known or nothing, if decoding accepts the packet
abbrev pub size_before : List ℕ → Option Known → ℕ × ℕ
size_before packet None = unwrap_or (key_size_of packet) (0, 0)
size_before packet (Some known) = (known.width, known.height)

-- what is known after a frame with this header and this segment map
abbrev pub known_with : Header → Option Known → List ℕ → Known
known_with header before segment_map = record { context = header.context_after; segment_map = segment_map; width = width_of header before; height = height_of header before }

-- where decoding ends in the first partition of a packet, if it accepts the packet
abbrev pub IsFirstEnd : TableEntries → Option Known → List ℕ → PartitionEnd → Type 0
IsFirstEnd tables known packet end =
    (header : Header) → header_after tables known packet ≡ Ok header → first_partition_end tables (zeros_of known packet header) packet (context_in known) (known_before packet known) ≡ end

-- what is enough before the packet at an index: what is known there, or anything before a packet with a key tag
abbrev pub IsEnough : TableEntries → List Packet → ℕ → Knowledge → Type 0
IsEnough tables packets place progress = (packet : Packet) → slice_get packets place ≡ Some packet → has_key_tag packet.bytes ≡ false → progress ≡ progress_before tables packets place

-- the tokens of a frame, read over its partitions with zeros and a mark after each: as long as some of these bits are left, they are the
-- tokens of the partitions themselves (`marked` of bool_coder, law `marks_count_bits`). Here the same chain of reads leaves the one reader
-- of a text with zeros and a mark after it, and the other of the text alone
pub record IsReadAlike (with_mark own : Reader) : Type 0 where
  pub text : List ℕ
  pub zeros : ℕ
  pub reading : Reading (Unit {0})
  pub chain : IsChain reading
  pub with_mark_is : (reading (started (marked zeros text))).1 ≡ with_mark
  pub own_is : (reading (started text)).1 ≡ own

-- so do the readers of two states between macroblocks, and the flags are the same
pub record AreAlike (marks own : TokenState) : Type 0 where
  pub count : length marks.readers ≡ length own.readers
  pub above : marks.above ≡ own.above
  pub left : marks.left ≡ own.left
  pub readers : (k : ℕ) → k < length own.readers → IsReadAlike (slice_index_or marks.readers k (started [])) (slice_index_or own.readers k (started []))

-- the state over the partitions themselves after the first n macroblocks of a frame of so many columns. Until a walk reads them, it has
-- the state before the first macroblock
abbrev pub own_after : Header → ℕ → List MbMode → ℕ → Walk → TokenState
own_after header columns modes n walk = if walk.reads_own then walk.own else token_state header columns walk.own modes n

-- a walk after those macroblocks
pub record IsAfter (header : Header) (columns : ℕ) (modes : List MbMode) (n : ℕ) (walk : Walk) : Type 0 where
  pub odds : walk.odds ≡ header.context.probabilities.coefficients
  pub marked_readers : 0 < length walk.marked.readers
  pub marked_above : length walk.marked.above ≡ columns
  pub readers : 0 < length walk.own.readers
  pub above : length walk.own.above ≡ columns
  pub alike : walk.reads_own ≡ false → AreAlike walk.marked (token_state header columns walk.own modes n)
