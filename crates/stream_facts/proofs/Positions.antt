-- The position after packets, by their number, their lengths and the last key packet.
use Rattle.std.proofs.Common.{◌≡◌, ℕ, zero, suc, ◌+◌, Bool, true, false, not, ◌&&◌, ◌||◌, List, [], ◌∷◌, ◌++◌, Option, Some, None, Result, Ok, Err, ◌==◌, take, length, option_map, slice_get, is_ok, refl, sym, ap, ◌∙◌, arith, add-zero, rules, tests}
use Rattle.std.specs.Int.{from_bool}
use Rattle.std.specs.Option.{option_map_or}
use Rattle.stream_files.specs.declared.packets.Packet.{Packet}
use Rattle.frame_header.specs.Outlines.{context_if, outline_of}
use Rattle.frame_header.specs.Start.{tagged_start}
use Rattle.frame_header.specs.Tags.{has_key_tag, is_shown, tag_of}
use Rattle.frame_header.specs.declared.cause.Cause.{Cause}
use Rattle.frame_header.specs.declared.cause.Cause.TheVariants.{ShortPacket}
use Rattle.frame_header.specs.declared.context.Context.{Context}
use Rattle.frame_header.specs.declared.outline.Outline.{Outline}
use Rattle.frame_header.specs.declared.tag_fields.Tag.{Tag}
use Rattle.stream_facts.specs.declared.facts.Position.{Position}
use Rattle.stream_facts.specs.Facts.{end_of_record, facts_from, facts_of, fields_in, follows_after, follows_by, header_facts, position_after, position_over}

-- the position after one more packet
pub position_over-more : (position : Position) (packets : List Packet) (packet : Packet) → position_over position (packets ++ packet ∷ []) ≡ position_after (position_over position packets) packet
position_over-more position [] packet = refl
position_over-more position (first ∷ packets) packet = position_over-more (position_after position first) packets packet

-- the facts at an index are those at the position before it
pub fact_at : (position : Position) (packets : List Packet) (i : ℕ) → slice_get (facts_from position packets) i ≡ option_map (facts_of (position_over position (take i packets))) (slice_get packets i)
fact_at position [] i = refl
fact_at position (packet ∷ packets) zero = refl
fact_at position (packet ∷ packets) (suc i) = fact_at (position_after position packet) packets i

pub facts_count : (position : Position) (packets : List Packet) → length (facts_from position packets) ≡ length packets
facts_count position [] = refl
facts_count position (packet ∷ packets) = ap suc (facts_count (position_after position packet) packets)

-- how many of these packets are shown
abbrev pub shown_among : List Packet → ℕ
shown_among [] = 0
shown_among (packet ∷ packets) = from_bool (is_shown packet.bytes) + shown_among packets

-- the byte after the records of these packets, the first of which begins at this byte
abbrev pub end_of_records : ℕ → List Packet → ℕ
end_of_records begins [] = begins
end_of_records begins (packet ∷ packets) = end_of_records (end_of_record begins packet.bytes) packets

pub packets_over : (position : Position) (packets : List Packet) → (position_over position packets).packets ≡ position.packets + length packets
packets_over position [] = sym (add-zero position.packets)
packets_over position (packet ∷ packets) = packets_over (position_after position packet) packets ∙ (omega arith)

pub frames_over : (position : Position) (packets : List Packet) → (position_over position packets).frames ≡ position.frames + shown_among packets
frames_over position [] = sym (add-zero position.frames)
frames_over position (packet ∷ packets) = frames_over (position_after position packet) packets ∙ (omega arith)

pub begins_over : (position : Position) (packets : List Packet) → (position_over position packets).begins ≡ end_of_records position.begins packets
begins_over position [] = refl
begins_over position (packet ∷ packets) = begins_over (position_after position packet) packets

pub end_of_records-more : (begins : ℕ) (packets : List Packet) (packet : Packet) → end_of_records begins (packets ++ packet ∷ []) ≡ end_of_record (end_of_records begins packets) packet.bytes
end_of_records-more begins [] packet = refl
end_of_records-more begins (first ∷ packets) packet = end_of_records-more (end_of_record begins first.bytes) packets packet

-- the start of a frame with a key tag is the same after any context
start-key : (before before' : Option Context) (packet : List ℕ) (tag : Option Tag) → option_map_or (λ t. t.key) tag false ≡ true
    → option_map_or (λ t. tagged_start t before packet) tag (Err ShortPacket) ≡ option_map_or (λ t. tagged_start t before' packet) tag (Err ShortPacket)
start-key before before' packet None tagged = cc
start-key before before' packet (Some tag) tagged = rw tagged refl

-- the outline of a packet with a key tag is the same whether or not a key frame came before
outline_of-key : (follows : Bool) (packet : List ℕ) → has_key_tag packet ≡ true → outline_of follows packet ≡ outline_of true packet
unfolding outline_of
outline_of-key follows packet tagged = rw (start-key (context_if follows) (context_if true) packet (tag_of packet) tagged) refl

not_empty : (bytes : List ℕ) → has_key_tag bytes ≡ true → (length bytes == 0) ≡ false
not_empty [] tagged = cc
not_empty (byte ∷ bytes) tagged = search (rules, tests)

accepted_follows : (follows : Bool) (outline : Result Outline Cause) → is_ok outline ≡ true → follows_by follows outline ≡ true
accepted_follows follows (Ok outline) accepted = refl
accepted_follows follows (Err cause) accepted = cc

accepted_fields : (outline : Result Outline Cause) → is_ok outline ≡ true → is_ok (fields_in outline) ≡ true
accepted_fields (Ok outline) accepted = refl
accepted_fields (Err cause) accepted = cc

-- after a packet with a key tag and an accepted header others may follow, and none is lost
key_follows : (follows : Bool) (bytes : List ℕ) → has_key_tag bytes ≡ true → is_ok (outline_of true bytes) ≡ true → follows_after follows bytes ≡ true
key_follows follows bytes tagged accepted = rw (not_empty bytes tagged, outline_of-key follows bytes tagged) (accepted_follows follows (outline_of true bytes) accepted)

key_accepted : (follows : Bool) (bytes : List ℕ) → has_key_tag bytes ≡ true → is_ok (outline_of true bytes) ≡ true → is_ok (header_facts follows bytes) ≡ true
key_accepted follows bytes tagged accepted = rw (not_empty bytes tagged, outline_of-key follows bytes tagged) (accepted_fields (outline_of true bytes) accepted)

not_lost : (broken : Bool) → (broken && not true || not true) ≡ false
not_lost true = refl
not_lost false = refl

pub after_key : (position : Position) (packet : Packet) → has_key_tag packet.bytes ≡ true → is_ok (outline_of true packet.bytes) ≡ true
    → position_after position packet ≡ record { packets = position.packets + 1; frames = position.frames + from_bool (is_shown packet.bytes); begins = end_of_record position.begins packet.bytes; follows = true; is_broken = false }
after_key position packet tagged accepted =
    rw (key_follows position.follows packet.bytes tagged accepted, key_accepted position.follows packet.bytes tagged accepted, tagged, not_lost position.is_broken) refl
