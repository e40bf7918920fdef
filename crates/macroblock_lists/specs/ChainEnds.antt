-- Where a chain of reads ends in a text, by the bits that it takes in.
use Rattle.std.specs.Prelude.{ℕ, ◌+◌, ◌-◌, ◌*◌, ◌/◌, ◌==◌, min, if◌then◌else◌, List, length, slice_range}
use Rattle.bool_coder.specs.Chains.{Chain}
use Rattle.bool_coder.specs.Taken.{past_end, taken_from}
use Rattle.frame_header.specs.declared.places.PartitionRange.{PartitionRange}
use Rattle.macroblock_lists.specs.declared.partition_ends.PartitionEnd.{PartitionEnd}

-- the bits that a chain of reads takes in after the end of a text. The eight that are in the window before the first bit is read do not
-- count if the text is empty
abbrev pub bits_after : {A : Type 0} → Chain A → List ℕ → ℕ
bits_after chain bytes = if length bytes == 0 then past_end chain bytes - 8 else past_end chain bytes

-- where a chain of reads ends in a text: the bytes that those bits lie in, at most `most`, and the whole bytes of the text that it does not
-- take in
abbrev pub end_by : {A : Type 0} → ℕ → Chain A → List ℕ → PartitionEnd
end_by most chain bytes = record {
  size = length bytes;
  past = min most ((bits_after chain bytes + 7) / 8);
  unread = (8 * length bytes - taken_from chain bytes) / 8;
}

-- the bytes of a partition
abbrev pub text_of : List ℕ → PartitionRange → List ℕ
text_of packet place = slice_range packet place.start (place.start + place.length)
