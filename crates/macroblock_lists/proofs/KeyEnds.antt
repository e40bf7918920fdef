-- A packet with a key tag is measured from no state, and from any state it is measured alike.
use Rattle.std.proofs.Common.{◌≡◌, ℕ, Bool, true, false, List, Option, Some, None, Result, Ok, Err, refl, sym, ap, ◌∙◌}
use Rattle.std.specs.Option.{option_map_or}
use Rattle.vp8_tables.specs.Tables.{TableEntries}
use Rattle.frame_header.specs.Contexts.{first_context}
use Rattle.frame_header.specs.Header.{first_partition, header_of, header_over}
use Rattle.frame_header.specs.Start.{start_of, tagged_start}
use Rattle.frame_header.specs.Tags.{has_key_tag, tag_of}
use Rattle.frame_header.specs.declared.cause.Cause.{Cause}
use Rattle.frame_header.specs.declared.cause.Cause.TheVariants.{ShortPacket}
use Rattle.frame_header.specs.declared.context.Context.{Context}
use Rattle.frame_header.specs.declared.header.Header.{Header}
use Rattle.frame_header.specs.declared.places.PartitionRange.{PartitionRange}
use Rattle.frame_header.proofs.KeyLemmas.{header_of-key}
use Rattle.macroblock_lists.specs.PartitionEnds.{first_end_at, first_end_by, first_partition_end, frame_ends, marked_text, partition_ends_by, partition_ends_of}
use Rattle.macroblock_lists.specs.Known.{known_before}
use Rattle.macroblock_lists.specs.declared.partition_ends.PartitionEnd.{PartitionEnd}
use Rattle.macroblock_lists.specs.declared.partition_ends.PartitionEnds.{PartitionEnds}
use Rattle.macroblock_lists.specs.Known.{Known}
use Rattle.macroblock_lists.specs.FirstChains.{context_in}
use Rattle.macroblock_lists.specs.PartitionEnds.{ends_before}

start-by : (before : Option Context) (packet : List ℕ) (tag : _) → tag_of packet ≡ tag → option_map_or (λ t. t.key) tag false ≡ true
    → option_map_or (λ t. tagged_start t before packet) tag (Err ShortPacket) ≡ option_map_or (λ t. tagged_start t None packet) tag (Err ShortPacket)
start-by before packet None is tagged = cc
start-by before packet (Some tag) is tagged = rw tagged refl

start-key : (before : Option Context) (packet : List ℕ) → has_key_tag packet ≡ true → start_of before packet ≡ start_of None packet
start-key before packet tagged = start-by before packet (tag_of packet) refl tagged

pub begun-key : (tables : TableEntries) (before : Option Context) (is_key : Bool) → is_key ≡ true → first_context tables is_key before ≡ first_context tables is_key None
begun-key tables before is_key tagged = rw tagged refl

pub first-key : (before : Option Context) (packet : List ℕ) → has_key_tag packet ≡ true → first_partition before packet ≡ first_partition None packet
first-key before packet tagged = rw (start-key before packet tagged) refl

over-key : (tables : TableEntries) (before : Option Context) (packet text : List ℕ) → has_key_tag packet ≡ true → header_over tables before packet text ≡ header_over tables None packet text
unfolding header_over
over-key tables before packet text tagged = rw (start-key before packet tagged, begun-key tables before (has_key_tag packet) tagged) refl

end-key : (tables : TableEntries) (blanks : ℕ) (before : Option Context) (packet : List ℕ) (found : Result PartitionRange Cause) → has_key_tag packet ≡ true
    → first_end_at tables blanks packet before None found ≡ first_end_at tables blanks packet None None found
end-key tables blanks before packet (Ok place) tagged = ap (first_end_by tables blanks place.length None) (over-key tables before packet (marked_text blanks packet place) tagged)
end-key tables blanks before packet (Err cause) tagged = refl

first_end-key : (tables : TableEntries) (blanks : ℕ) (before : Option Context) (packet : List ℕ) → has_key_tag packet ≡ true
    → first_partition_end tables blanks packet before None ≡ first_partition_end tables blanks packet None None
unfolding first_partition_end
first_end-key tables blanks before packet tagged =
    ap (first_end_at tables blanks packet before None) (first-key before packet tagged) ∙ end-key tables blanks before packet (first_partition None packet) tagged

by-key : (tables : TableEntries) (before : Option Context) (packet : List ℕ) (found : Result Header Cause) → has_key_tag packet ≡ true
    → partition_ends_by tables packet before None found ≡ partition_ends_by tables packet None None found
by-key tables before packet (Ok header) tagged =
    ap (λ (end : PartitionEnd). let ends : PartitionEnds = record { first = end; tokens = (frame_ends tables packet header None None).tokens } in ends) (first_end-key tables _ before packet tagged)
by-key tables before packet (Err cause) tagged = refl

pub none-before : (packet : List ℕ) (state : Option Known) → has_key_tag packet ≡ true → known_before packet state ≡ None
none-before packet state tagged = rw tagged refl

ends-key : (tables : TableEntries) (state : Option Known) (packet : List ℕ) → has_key_tag packet ≡ true → partition_ends_of tables state packet ≡ partition_ends_of tables None packet
unfolding partition_ends_of
ends-key tables state packet tagged =
    rw (none-before packet state tagged, none-before packet None tagged, header_of-key tables (context_in state) packet tagged)
    (by-key tables (context_in state) packet (header_of tables None packet) tagged)

by-tag : (tables : TableEntries) (state : Option Known) (packet : List ℕ) (is_key : Bool) → has_key_tag packet ≡ is_key → ends_before tables (Ok state) packet ≡ partition_ends_of tables state packet
by-tag tables state packet true tagged = rw tagged (sym (ends-key tables state packet tagged))
by-tag tables state packet false tagged = rw tagged refl

-- so the ends that a check finds are those after the state of decoding
pub ends_after_state : (tables : TableEntries) (state : Option Known) (packet : List ℕ) → ends_before tables (Ok state) packet ≡ partition_ends_of tables state packet
ends_after_state tables state packet = by-tag tables state packet _ refl
