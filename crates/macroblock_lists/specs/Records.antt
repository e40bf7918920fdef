-- What is said of the record of each macroblock besides its modes: how the macroblock is split, and the bits of the first partition
-- that its record takes.
use Rattle.std.specs.Prelude.{ℕ, List, [], length, map, slice_index_or, Option, None, Result, Ok, Err}
use Rattle.std.specs.List.{range_with_len}
use Rattle.std.specs.Option.{option_map}
use Rattle.vp8_tables.specs.Tables.{TableEntries}
use Rattle.frame_header.specs.declared.cause.Cause.{Cause}
use Rattle.frame_header.specs.declared.context.Context.{Context}
use Rattle.frame_header.specs.declared.header.Header.{Header}
use Rattle.frame_header.specs.declared.places.PartitionRange.{PartitionRange}
use Rattle.frame_header.specs.Header.{first_partition, header_over}
use Rattle.mode_parser.specs.declared.record_facts.RecordFacts.{RecordFacts}
use Rattle.mode_parser.specs.RecordFacts.{facts_of}
use Rattle.pixel_planes.specs.Pictures.{macroblocks}
use Rattle.macroblock_lists.specs.PartitionEnds.{marked_text, zeros_for}
use Rattle.macroblock_lists.specs.Known.{Known, height_of, width_of}

-- of a frame with this header, by the segment map before it
abbrev pub own_facts : TableEntries → Header → Option Known → List RecordFacts
own_facts tables header before =
    facts_of tables header (macroblocks (width_of header before)) (macroblocks (height_of header before)) (option_map (λ k. k.segment_map) before)

-- of the header read once more from the first partition with zeros and a mark after it, so that bits past its end are counted
-- (`marked` of bool_coder, law `marks_count_bits`). It is not refused: its fields end before the mark
abbrev pub facts_by : TableEntries → Option Known → Result Header Cause → List RecordFacts
facts_by tables before (Ok header) = own_facts tables header before
facts_by tables before (Err cause) = []

abbrev pub facts_over : TableEntries → ℕ → List ℕ → Option Known → Option Context → Result PartitionRange Cause → List RecordFacts
facts_over tables padding packet before context (Ok place) = facts_by tables before (header_over tables context packet (marked_text padding packet place))
facts_over tables padding packet before context (Err cause) = []

abbrev pub marked_facts : TableEntries → ℕ → List ℕ → Option Known → List RecordFacts
marked_facts tables zeros packet before =
    let context = option_map (λ k. k.context) before in
    facts_over tables zeros packet before context (first_partition context packet)

-- the facts at an index; past the last, there is no split, and no bit is taken
abbrev pub no_facts : RecordFacts
no_facts = record { bits = 0; split = None }

abbrev pub facts_in : List RecordFacts → ℕ → RecordFacts
facts_in facts place = slice_index_or facts place no_facts

-- the splits that decoding reads, with the bits that are counted
abbrev pub combined : List RecordFacts → List RecordFacts → List RecordFacts
combined own marked = map (λ place. record { bits = (facts_in marked place).bits; split = (facts_in own place).split }) (range_with_len 0 (length own))

abbrev pub frame_facts : TableEntries → List ℕ → Header → Option Known → List RecordFacts
frame_facts tables packet header before =
    let zeros = zeros_for (macroblocks (width_of header before)) (macroblocks (height_of header before)) in
    combined (own_facts tables header before) (marked_facts tables zeros packet before)
