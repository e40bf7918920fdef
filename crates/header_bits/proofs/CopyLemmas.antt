-- The copies of an accepted header are those of its coded numbers.
use Rattle.std.proofs.Common.{◌≡◌, ℕ, ◌+◌, ◌-◌, Bool, true, false, List, length, nat_lt, Option, if◌then◌else◌, refl}
use Rattle.vp8_tables.specs.Tables.{TableEntries}
use Rattle.bool_coder.specs.Reader.{Reader, started}
use Rattle.bool_coder.specs.Reading.{flag, literal, more_bits}
use Rattle.frame_header.specs.Contexts.{first_context}
use Rattle.frame_header.specs.Fields.{fields}
use Rattle.frame_header.specs.Header.{first_end, header_of}
use Rattle.frame_header.specs.Places.{token_ranges}
use Rattle.frame_header.specs.References.{altref_copy, golden_copy, inter_refreshes, refreshes}
use Rattle.frame_header.specs.Start.{start_of}
use Rattle.frame_header.specs.Tags.{has_key_tag}
use Rattle.frame_header.specs.TrailingFields.{trailing_fields}
use Rattle.frame_header.specs.declared.context.Context.{Context}
use Rattle.frame_header.specs.declared.context.SignBiases.{SignBiases}
use Rattle.frame_header.specs.declared.header.Header.{Header}
use Rattle.frame_header.proofs.KeyLemmas.{IfOk-then, IfOk-following}
use Rattle.header_bits.specs.Bits.{first_bits, first_text, quantizer_bits, reference_bits, skip}
use Rattle.header_bits.specs.Copies.{AreNamed, CopiesAreNamed, altref_source, copies_in, copy_number, copy_numbers, golden_source, inter_copies, no_copies, reference_copies}
use Rattle.header_bits.proofs.GroupLemmas.{fields-ends, quantizers-ends}
use Rattle.header_bits.proofs.PacketLemmas.{end_known, start_known}

-- one number
golden-named : (is_refreshed : Bool) (s : Reader) → (golden_copy is_refreshed s).0 ≡ golden_source (copy_number is_refreshed s).0
unfolding golden_copy copy_number
golden-named true s = refl
golden-named false s = refl

altref-named : (is_refreshed : Bool) (s : Reader) → (altref_copy is_refreshed s).0 ≡ altref_source (copy_number is_refreshed s).0
unfolding altref_copy copy_number
altref-named true s = refl
altref-named false s = refl

golden-ends : (is_refreshed : Bool) (s : Reader) → (copy_number is_refreshed s).1 ≡ (golden_copy is_refreshed s).1
unfolding golden_copy copy_number
golden-ends true s = refl
golden-ends false s = refl

-- both
inter-named : (s : Reader) → AreNamed (inter_copies s).0 (inter_refreshes s).0.0.references
unfolding inter_copies inter_refreshes
inter-named s =
    let golden : Bool = (flag s).0 in
    let altref : Bool = (flag (flag s).1).0 in
    let after : Reader = (flag (flag s).1).1 in
    (golden-named golden after, rw (golden-ends golden after) (altref-named altref (golden_copy golden after).1))

refreshes-named : (is_key : Bool) (before : SignBiases) (s : Reader) → AreNamed ((if is_key then (λ (r : Reader). (no_copies, r)) else inter_copies) s).0 (refreshes is_key before s).0.0.references
unfolding refreshes
refreshes-named true before s = (refl, refl)
refreshes-named false before s = inter-named s

all-named : (is_key : Bool) (updates : List ℕ) (before : Context) (s : Reader) → AreNamed (copies_in is_key s).0 (trailing_fields is_key updates (fields is_key before s).0.1 (fields is_key before s).1).0.0.references
unfolding copies_in trailing_fields
all-named is_key updates before s =
    let context : Context = (fields is_key before s).0.1 in
    let a : Reader = (fields is_key before s).1 in
    rw (fields-ends is_key before s, quantizers-ends a) (refreshes-named is_key context.sign_biases _)

named_there : (tables : TableEntries) (before : Option Context) (packet : List ℕ) (is_key : Bool) (text : List ℕ) → is_key ≡ has_key_tag packet → text ≡ first_text packet
    → let context = first_context tables (has_key_tag packet) before in
    AreNamed (copy_numbers packet) (trailing_fields is_key tables.updates (fields is_key context (started text)).0.1 (fields is_key context (started text)).1).0.0.references
unfolding copy_numbers
named_there tables before packet is_key text key_is text_is =
    rw (key_is, text_is) (all-named (has_key_tag packet) tables.updates (first_context tables (has_key_tag packet) before) (started (first_text packet)))

pub copies_are_named : CopiesAreNamed
unfolding header_of
copies_are_named tables before packet =
    let P : Header → Type 0 = λ header. AreNamed (copy_numbers packet) header.references in
    IfOk-following _ P (start_of before packet) _ (start_known before packet)
    (λ start known. IfOk-following (λ (e : ℕ). e ≡ start.place + start.tag.first_partition) P (first_end start packet) _ (end_known packet (nat_lt (length packet - start.place) start.tag.first_partition) _)
    (λ end is. IfOk-then P (token_ranges packet end _) _ (λ partitions. rw is (named_there tables before packet start.tag.key _ known.0 known.1))))

-- the numbers that are read on the way through the fields before them, and where the fields of references end
number-ends : (is_refreshed : Bool) (s : Reader) → (copy_number is_refreshed s).1 ≡ (skip (if is_refreshed then 0 else 2) s).1
unfolding copy_number literal more_bits skip
number-ends true s = refl
number-ends false s = refl

pub references-end : (s : Reader) → (skip 4 (inter_copies s).1).1 ≡ (reference_bits false s).1
unfolding inter_copies reference_bits
references-end s =
    let golden : Bool = (flag s).0 in
    let altref : Bool = (flag (flag s).1).0 in
    let after : Reader = (flag (flag s).1).1 in
    rw (number-ends golden after, number-ends altref (skip (if golden then 0 else 2) after).1) refl

pub copies-at : (is_key : Bool) (s one two : Reader) (first : _) (indexes : _) → first_bits is_key s ≡ (first, one) → quantizer_bits one ≡ (indexes, two) → (copies_in is_key s).0 ≡ reference_copies is_key two
unfolding copies_in
copies-at true s one two first indexes a b = refl
copies-at false s one two first indexes a b = rw (a, b) refl
