use Rattle.std.specs.Prelude.{ℕ, ◌+◌, ◌-◌, ◌*◌, zero, suc, Bool, List, [], ◌∷◌, length, nat_lt, Option, Some, None, Result, Ok, Err, if◌then◌else◌}
use Rattle.std.specs.List.{position_from}
use Rattle.arrayvec.specs.ArrayVec.{ArrayVec}
use Rattle.frame_header.specs.Tags.{number_at}
use Rattle.frame_header.specs.declared.cause.Cause.{Cause}
use Rattle.frame_header.specs.declared.cause.Cause.TheVariants.{TokenSizes, TokenPartition}
use Rattle.frame_header.specs.declared.places.PartitionRange.{PartitionRange}

-- the numbers of three bytes each, one after another starting at an index
abbrev pub sizes_at : ℕ → ℕ → List ℕ → List ℕ
sizes_at zero at packet = []
sizes_at (suc more) at packet = number_at packet at ∷ sizes_at more (at + 3) packet

-- partitions of these sizes, one after another, and a last one that takes the rest
abbrev pub places_of : ℕ → List ℕ → ℕ → List PartitionRange
places_of start [] end = record { start = start; length = end - start } ∷ []
places_of start (size ∷ sizes) end = record { start = start; length = size } ∷ places_of (start + size) sizes end

-- a partition that runs past the end of its packet
abbrev pub is_past : ℕ → PartitionRange → Bool
is_past end place = nat_lt end (place.start + place.length)

-- the partitions, unless one of them runs past the end: then the first that does
abbrev pub unless_past : Option ℕ → List PartitionRange → Result (ArrayVec PartitionRange) Cause
unless_past None places = Ok (record { items = places })
unless_past (Some k) places = Err (TokenPartition k)

-- the positions of the token partitions: the sizes of all but the last precede them (RFC 6386, section 9.5)
unfoldable pub token_ranges : List ℕ → ℕ → ℕ → Result (ArrayVec PartitionRange) Cause
token_ranges packet at count =
    let first = at + 3 * (count - 1) in
    let places = places_of first (sizes_at (count - 1) at packet) (length packet) in
    if nat_lt (length packet) first then Err TokenSizes else unless_past (position_from (is_past (length packet)) 0 places) places
