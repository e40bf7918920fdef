-- A byte 00 after a packet. Zeros follow the end of a partition anyway (RFC 6386, section 7).
use Rattle.std.specs.Prelude.{◌≡◌, ℕ, ◌+◌, ◌-◌, ◌≤◌, ◌==◌, Bool, false, List, [], ◌∷◌, ◌++◌, length, map, replicate, slice_get, slice_range, Option, Some, Result, Ok, Err, IfOk, if◌then◌else◌}
use Rattle.std.specs.Option.{option_map_or}
use Rattle.std.specs.Result.{result_ok}
use Rattle.arrayvec.specs.ArrayVec.{ArrayVec}
use Rattle.vp8_tables.specs.Tables.{TableEntries}
use Rattle.bool_coder.specs.Reader.{Reader, started}
use Rattle.frame_header.specs.Contexts.{no_numbers}
use Rattle.frame_header.specs.Fields.{fields}
use Rattle.frame_header.specs.Header.{◌>>=◌, first_end, header_of}
use Rattle.frame_header.specs.Places.{token_ranges}
use Rattle.frame_header.specs.Start.{start_of}
use Rattle.frame_header.specs.Tags.{has_key_tag, is_shown, key_size_of}
use Rattle.frame_header.specs.declared.cause.Cause.{Cause}
use Rattle.frame_header.specs.declared.context.Context.{Context}
use Rattle.frame_header.specs.declared.header.Header.{Header}
use Rattle.frame_header.specs.declared.places.PartitionRange.{PartitionRange}

-- bytes, and a byte 00 after them
abbrev pub with_zero : List ℕ → List ℕ
with_zero bytes = bytes ++ 0 ∷ []

-- a context whose numbers are all 0
abbrev pub zero_context : Context
zero_context = record {
  probabilities = record { coefficients = replicate 1056 0; vectors = replicate 19 0 ∷ replicate 19 0 ∷ []; y_modes = replicate 4 0; uv_modes = replicate 3 0 };
  segments = record { is_absolute = false; quantizers = no_numbers; levels = no_numbers };
  deltas = record { reference = no_numbers; mode = no_numbers };
  sign_biases = record { golden = false; altref = false };
}

-- the token partitions of a packet after a key frame, or the first cause against it; they are the same after every context
abbrev pub partitions_of : List ℕ → Result (ArrayVec PartitionRange) Cause
partitions_of packet = do
  start ← start_of (Some zero_context) packet
  end ← first_end start packet
  token_ranges packet end (fields start.tag.key zero_context (started (slice_range packet start.place end))).0.0.partition_count

-- the last of these partitions has no byte
abbrev pub is_last_empty : List PartitionRange → Bool
is_last_empty places = option_map_or (λ place. place.length == 0) (slice_get places (length places - 1)) false

-- a packet that is accepted after a key frame and whose last token partition has no byte
unfoldable pub ends_empty : List ℕ → Bool
ends_empty packet = option_map_or (λ partitions. is_last_empty partitions.items) (result_ok (partitions_of packet)) false

-- a packet, and a byte 00 after it if its last token partition has no byte
abbrev pub padded : List ℕ → List ℕ
padded packet = if ends_empty packet then with_zero packet else packet

-- partitions, of which the last is one byte longer
abbrev pub one_longer : List PartitionRange → List PartitionRange
one_longer [] = []
one_longer (place ∷ []) = record place { length = place.length + 1 } ∷ []
one_longer (place ∷ next ∷ rest) = place ∷ one_longer (next ∷ rest)

-- a header whose last token partition is one byte longer
abbrev pub with_longer_last : Header → Header
with_longer_last header = record header { partitions = record { items = one_longer header.partitions.items } }

-- the header of a padded packet: its own, but with a last partition that is one byte longer
abbrev pub header_padded : List ℕ → Result Header Cause → Result Header Cause
header_padded packet (Ok header) = Ok (if ends_empty packet then with_longer_last header else header)
header_padded packet (Err cause) = Err cause

-- padding changes nothing in the header of any packet, after any context or none, but the length of the last partition, and leaves each cause
abbrev pub PaddingKeepsHeaders : Type 0
PaddingKeepsHeaders = (tables : TableEntries) (before : Option Context) (packet : List ℕ) → header_of tables before (padded packet) ≡ header_padded packet (header_of tables before packet)

-- the partitions of a header
abbrev pub partitions_in : Result Header Cause → Result (ArrayVec PartitionRange) Cause
partitions_in (Ok header) = Ok header.partitions
partitions_in (Err cause) = Err cause

-- the token partitions of a packet, or the first cause against it, are the same for all tables and after every context
abbrev pub PartitionsNeedNoContext : Type 0
PartitionsNeedNoContext = (tables : TableEntries) (before : Context) (packet : List ℕ) → partitions_in (header_of tables (Some before) packet) ≡ partitions_of packet

-- the header of each accepted packet stays, with a byte 00 after the packet, except that the last token partition has that byte too
abbrev pub ZerosKeepHeaders : Type 0
ZerosKeepHeaders = (tables : TableEntries) (before : Option Context) (packet : List ℕ) → IfOk (header_of tables before packet) (λ header. header_of tables before (with_zero packet) ≡ Ok (with_longer_last header))

-- the readers of token partitions
abbrev pub readers_of : List ℕ → List PartitionRange → List Reader
readers_of packet partitions = map (λ place. started (slice_range packet place.start (place.start + place.length))) partitions

-- and its token partitions are read as before
abbrev pub ZerosKeepReaders : Type 0
ZerosKeepReaders = (tables : TableEntries) (before : Option Context) (packet : List ℕ) → IfOk (header_of tables before packet) (λ header. readers_of (with_zero packet) (one_longer header.partitions.items) ≡ readers_of packet header.partitions.items)

-- a packet of three bytes or more has the same key tag with a byte 00 after it, and is shown as before; a packet of ten bytes or more has the same size
abbrev pub ShownIsKept : Type 0
ShownIsKept = (packet : List ℕ) → 3 ≤ length packet → (has_key_tag (with_zero packet) ≡ has_key_tag packet) × (is_shown (with_zero packet) ≡ is_shown packet) × (10 ≤ length packet → key_size_of (with_zero packet) ≡ key_size_of packet)
