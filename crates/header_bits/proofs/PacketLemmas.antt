-- The header of an accepted packet is read from its first partition.
use Rattle.std.proofs.Common.{◌≡◌, ℕ, ◌+◌, ◌-◌, Bool, true, false, ◌&&◌, ◌||◌, ◌==◌, not, List, [], length, nat_lt, Option, Some, None, Result, Ok, Err, IfOk, if◌then◌else◌, refl}
use Rattle.std.specs.Prelude.{slice_range, is_none}
use Rattle.std.specs.Option.{option_map_or}
use Rattle.vp8_tables.specs.Tables.{TableEntries}
use Rattle.bool_coder.specs.Reader.{started}
use Rattle.frame_header.specs.Contexts.{first_context}
use Rattle.frame_header.specs.Header.{first_end, header_of}
use Rattle.frame_header.specs.Places.{token_ranges}
use Rattle.frame_header.specs.Start.{key_start, later_start, start_of, tagged_start}
use Rattle.frame_header.specs.Tags.{has_key_tag, has_start_code, height_of, tag_of, width_of}
use Rattle.frame_header.specs.declared.cause.Cause.{Cause}
use Rattle.frame_header.specs.declared.cause.Cause.TheVariants.{ShortPacket, Version, StartCode, Size, NoKeyFrame, FirstPartition}
use Rattle.frame_header.specs.declared.context.Context.{Context}
use Rattle.frame_header.specs.declared.header.Header.{Header}
use Rattle.frame_header.specs.declared.tag_fields.Tag.{Tag}
use Rattle.frame_header.proofs.KeyLemmas.{IfOk-then, IfOk-following}
use Rattle.header_bits.specs.Asked.{Asks}
use Rattle.header_bits.specs.Bits.{all_bits, first_text, header_bits}
use Rattle.header_bits.specs.Totals.{BitsAddUp, BitsEndThere, header_reading, total}
use Rattle.header_bits.proofs.TakesLemmas.{asks-at}
use Rattle.header_bits.proofs.GroupLemmas.{all-ends, all-takes, reading_of, total_with}

IfOk-unless : {A : Type 0} (P : A → Type 0) (b : Bool) (cause : Cause) (x : Result A Cause) → IfOk x P → IfOk (if b then Err cause else x) P
IfOk-unless P true cause x holds = tt
IfOk-unless P false cause x holds = holds

-- the text after a tag
text_after : List ℕ → Tag → List ℕ
text_after packet tag = let start : ℕ = if tag.key then 10 else 3 in slice_range packet start (start + tag.first_partition)

text_key : (packet : List ℕ) (tag : Tag) → tag.key ≡ true → slice_range packet 10 (10 + tag.first_partition) ≡ text_after packet tag
unfolding text_after
text_key packet tag is = rw is refl

text_later : (packet : List ℕ) (tag : Tag) → tag.key ≡ false → slice_range packet 3 (3 + tag.first_partition) ≡ text_after packet tag
unfolding text_after
text_later packet tag is = rw is refl

start_chosen : (is_key : Bool) (before : Option Context) (packet : List ℕ) (tag : Tag) → tag.key ≡ is_key
    → IfOk (if is_key then key_start tag packet else later_start tag before) (λ start. (start.tag.key ≡ tag.key) × (slice_range packet start.place (start.place + start.tag.first_partition) ≡ text_after packet tag))
start_chosen true before packet tag is =
    IfOk-unless _ (not (has_start_code packet)) StartCode _ (IfOk-unless _ ((width_of packet == 0) || (height_of packet == 0)) Size _ (refl, text_key packet tag is))
start_chosen false before packet tag is = IfOk-unless _ (is_none before) NoKeyFrame _ (refl, text_later packet tag is)

start_tagged : (before : Option Context) (packet : List ℕ) (tag : Option Tag)
    → IfOk (option_map_or (λ t. tagged_start t before packet) tag (Err ShortPacket)) (λ start. (start.tag.key ≡ option_map_or (λ t. t.key) tag false) × (slice_range packet start.place (start.place + start.tag.first_partition) ≡ option_map_or (text_after packet) tag []))
start_tagged before packet None = tt
start_tagged before packet (Some tag) =
    IfOk-unless _ (tag.key && nat_lt (length packet) 10) ShortPacket _ (IfOk-unless _ (nat_lt 3 tag.version) Version _ (start_chosen tag.key before packet tag refl))

pub start_known : (before : Option Context) (packet : List ℕ) → IfOk (start_of before packet) (λ start. (start.tag.key ≡ has_key_tag packet) × (slice_range packet start.place (start.place + start.tag.first_partition) ≡ first_text packet))
unfolding text_after
start_known before packet = start_tagged before packet (tag_of packet)

-- the sum for a packet whose tag and text are known
adds_up : (tables : TableEntries) (before : Option Context) (packet : List ℕ) (is_key : Bool) (text : List ℕ) → is_key ≡ has_key_tag packet → text ≡ first_text packet
    → Asks (header_reading tables before packet) (started (first_text packet)) (total_with is_key tables.updates (first_context tables (has_key_tag packet) before) (header_bits tables packet) (started text))
unfolding header_bits
adds_up tables before packet is_key text key_is text_is =
    rw (key_is, text_is) (asks-at (all-takes (has_key_tag packet) tables.updates (first_context tables (has_key_tag packet) before)) (started (first_text packet)) _ refl)

ends_there : (tables : TableEntries) (before : Option Context) (packet : List ℕ) (is_key : Bool) (text : List ℕ) → is_key ≡ has_key_tag packet → text ≡ first_text packet
    → (all_bits (has_key_tag packet) tables.updates (started (first_text packet))).1 ≡ (reading_of is_key tables.updates (first_context tables (has_key_tag packet) before) (started text)).1
ends_there tables before packet is_key text key_is text_is = rw (key_is, text_is) (all-ends (has_key_tag packet) tables.updates (first_context tables (has_key_tag packet) before) (started (first_text packet)))

pub end_known : (packet : List ℕ) (is_past : Bool) (end : ℕ) → IfOk (if is_past then Err FirstPartition else Ok end) (λ e. e ≡ end)
end_known packet is_past end = IfOk-unless (λ (e : ℕ). e ≡ end) is_past FirstPartition (Ok end) refl

pub bits_add_up : BitsAddUp
unfolding header_of
bits_add_up tables before packet =
    let P : Header → Type 0 = λ header. Asks (header_reading tables before packet) (started (first_text packet)) (total header (header_bits tables packet)) in
    IfOk-following _ P (start_of before packet) _ (start_known before packet)
    (λ start known. IfOk-following (λ (e : ℕ). e ≡ start.place + start.tag.first_partition) P (first_end start packet) _ (end_known packet (nat_lt (length packet - start.place) start.tag.first_partition) _)
    (λ end is. IfOk-then P (token_ranges packet end _) _ (λ partitions. rw is (adds_up tables before packet start.tag.key _ known.0 known.1))))

pub bits_end_there : BitsEndThere
unfolding header_of
bits_end_there tables before packet =
    let P : Header → Type 0 = λ header. (all_bits (has_key_tag packet) tables.updates (started (first_text packet))).1 ≡ header.reader in
    IfOk-following _ P (start_of before packet) _ (start_known before packet)
    (λ start known. IfOk-following (λ (e : ℕ). e ≡ start.place + start.tag.first_partition) P (first_end start packet) _ (end_known packet (nat_lt (length packet - start.place) start.tag.first_partition) _)
    (λ end is. IfOk-then P (token_ranges packet end _) _ (λ partitions. rw is (ends_there tables before packet start.tag.key _ known.0 known.1))))
