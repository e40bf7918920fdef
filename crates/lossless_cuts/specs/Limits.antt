-- How large an export may be.
use Rattle.std.specs.Prelude.{ℕ, ◌+◌, ◌<◌, ◌⊎◌, ◌||◌, nat_lt, Bool, List, length}
use Rattle.std.specs.List.{sum_by}
use Rattle.frame_header.specs.Padding.{padded}

-- the bytes of the record of a packet in an IVF file: 12 and those of the packet, padded
abbrev pub record_size : List ℕ → ℕ
record_size packet = 12 + length (padded packet)

abbrev pub records_size : List (List ℕ) → ℕ
records_size packets = sum_by record_size packets

-- the bytes of an IVF file of packets, padded: a header of 32 and the records
abbrev pub file_size : List (List ℕ) → ℕ
file_size packets = 32 + records_size packets

-- there are more packets than a list may have, or more bytes than a file may have that is read again
abbrev pub IsTooLarge : List (List ℕ) → Type 0
IsTooLarge packets = (1048576 < length packets) ⊎ (1073741824 < file_size packets)

-- whether there are
abbrev pub is_too_large : List (List ℕ) → Bool
is_too_large packets = nat_lt 1048576 (length packets) || nat_lt 1073741824 (file_size packets)
