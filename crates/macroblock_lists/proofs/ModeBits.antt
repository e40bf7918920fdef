-- The bits of a macroblock's record, by the chains of reads of the first partition.
use Rattle.std.proofs.Common.{◌≡◌, ℕ, ◌+◌, ◌-◌, ◌*◌, ◌<◌, Bool, true, false, List, length, refl, sym, subst, ap, ◌∙◌, arith, Option}
use Rattle.std.specs.List.{range_with_len}
use Rattle.std.specs.Option.{option_map}
use Rattle.std.proofs.lemmas.List.{length-map}
use Rattle.std.proofs.lemmas.List.FromFn.{get_or-map-range_with_len, length-range_with_len}
use Rattle.bool_coder.specs.Chains.{IsChain}
use Rattle.bool_coder.specs.Reader.{Reader, started}
use Rattle.bool_coder.specs.Reading.{Reading}
use Rattle.bool_coder.specs.Taken.{marked, taken_from}
use Rattle.bool_coder.proofs.Marks.{marks-left}
use Rattle.vp8_tables.specs.Tables.{TableEntries}
use Rattle.frame_header.specs.Contexts.{first_context}
use Rattle.frame_header.specs.Header.{first_partition, header_of}
use Rattle.frame_header.specs.Tags.{has_key_tag}
use Rattle.frame_header.specs.declared.context.Context.{Context}
use Rattle.frame_header.proofs.KeyLemmas.{header_of-key}
use Rattle.mode_parser.specs.declared.record_facts.RecordFacts.{RecordFacts}
use Rattle.mode_parser.specs.RecordFacts.{facts_at}
use Rattle.pixel_planes.specs.Pictures.{macroblocks}
use Rattle.macroblock_lists.specs.Known.{Known, height_of, known_before, width_of}
use Rattle.macroblock_lists.specs.PartitionEnds.{marked_text}
use Rattle.macroblock_lists.specs.Records.{combined, facts_in, frame_facts, marked_facts, no_facts, own_facts}
use Rattle.macroblock_lists.specs.ChainEnds.{text_of}
use Rattle.macroblock_lists.specs.FirstChains.{AreBytes, columns_of, context_in, rows_of, zeros_of}
use Rattle.macroblock_lists.specs.ModeBits.{ModeBitsAreOfChains, RecordsAreChains, frame_records}
use Rattle.macroblock_lists.proofs.FirstChains.{records_reading-chain}
use Rattle.macroblock_lists.proofs.FirstRead.{AreChains, first-known}
use Rattle.macroblock_lists.proofs.KeyEnds.{begun-key, first-key, none-before}

pub records_are_chains : (tables : TableEntries) (known : Option Known) → AreChains tables → ((packet : List ℕ) → AreBytes (first_context tables (has_key_tag packet) (context_in known)).probabilities) → RecordsAreChains tables known
records_are_chains tables known chains bytes packet header n =
    records_reading-chain tables header (first_context tables (has_key_tag packet) (context_in known)) (macroblocks (width_of header (known_before packet known))) (macroblocks (height_of header (known_before packet known))) _ n
    (chains.first header.is_key) (chains.trailing header.is_key) chains.frames chains.key_subs (bytes packet)

-- a packet with a key tag needs nothing before it
header-alike : (tables : TableEntries) (known : Option Known) (packet : List ℕ) (is_key : Bool) → has_key_tag packet ≡ is_key
    → header_of tables (context_in (known_before packet known)) packet ≡ header_of tables (context_in known) packet
header-alike tables known packet true tagged = rw (none-before packet known tagged) (sym (header_of-key tables (context_in known) packet tagged))
header-alike tables known packet false tagged = rw tagged refl

first-alike : (known : Option Known) (packet : List ℕ) (is_key : Bool) → has_key_tag packet ≡ is_key
    → first_partition (context_in (known_before packet known)) packet ≡ first_partition (context_in known) packet
first-alike known packet true tagged = rw (none-before packet known tagged) (sym (first-key (context_in known) packet tagged))
first-alike known packet false tagged = rw tagged refl

begun-alike : (tables : TableEntries) (known : Option Known) (packet : List ℕ) (is_key : Bool) → has_key_tag packet ≡ is_key
    → first_context tables (has_key_tag packet) (context_in (known_before packet known)) ≡ first_context tables (has_key_tag packet) (context_in known)
begun-alike tables known packet true tagged = rw (none-before packet known tagged) (sym (begun-key tables (context_in known) (has_key_tag packet) tagged))
begun-alike tables known packet false tagged = rw tagged refl

-- the bits that are listed are those that are counted
bits-counted : (own marks : List RecordFacts) (n : ℕ) → n < length own → (facts_in (combined own marks) n).bits ≡ (facts_in marks n).bits
bits-counted own marks n inside =
    let both : ℕ → RecordFacts = λ place. record { bits = (facts_in marks place).bits; split = (facts_in own place).split } in
    ap (λ (f : RecordFacts). f.bits) (get_or-map-range_with_len both 0 (length own) n n no_facts inside (omega arith))

less : (all one two a b : ℕ) → a ≡ all - one → b ≡ all - two → 0 < b → a - b ≡ two - one
less all one two a b p q some = omega arith

-- the bits that a chain leaves of a text with zeros and a mark
left-of : {A : Type 0} {reading : Reading A} (one : IsChain reading) (blanks : ℕ) (own : List ℕ)
    → length (reading (started (marked blanks own))).1.rest ≡ 8 * (length own + blanks + 1) - taken_from one.chain own
left-of {A = A} one blanks own = ap (λ (t : A × Reader). length t.1.rest) (one.same (started (marked blanks own))) ∙ marks-left one.chain own blanks

pub mode_bits_are_of_chains : (tables : TableEntries) (known : Option Known) → AreChains tables → ((packet : List ℕ) → AreBytes (first_context tables (has_key_tag packet) (context_in known)).probabilities) → ModeBitsAreOfChains tables known
mode_bits_are_of_chains tables known chains bytes packet header place n accepted placed inside some one two =
    let before : Option Known = known_before packet known in
    let blanks : ℕ = zeros_of known packet header in
    let own : List ℕ = text_of packet place in
    let context : first_context tables (has_key_tag packet) (context_in before) ≡ first_context tables (has_key_tag packet) (context_in known) = begun-alike tables known packet _ refl in
    let kept : AreBytes (first_context tables (has_key_tag packet) (context_in before)).probabilities = subst (λ (c : Context). AreBytes c.probabilities) (sym context) (bytes packet) in
    let found = first-known tables (context_in before) before packet header place chains kept (header-alike tables known packet _ refl ∙ accepted) (first-alike known packet _ refl ∙ placed) in
    let map : Option (List ℕ) = option_map (λ (s : Known). s.segment_map) before in
    let size : length (own_facts tables header before) ≡ columns_of known packet header * rows_of known packet header =
    length-map (range_with_len 0 (columns_of known packet header * rows_of known packet header)) (facts_at tables header (columns_of known packet header) (rows_of known packet header) map) ∙ length-range_with_len 0 _ in
    let counted : (facts_in (frame_facts tables packet header before) n).bits ≡ (facts_in (marked_facts tables blanks packet before) n).bits =
    bits-counted (own_facts tables header before) (marked_facts tables blanks packet before) n (rw size inside) in
    let facts = subst (λ (c : Context). (facts_in (marked_facts tables blanks packet before) n).bits
    ≡ length (frame_records tables header c before n (started (marked_text blanks packet place))).1.rest - length (frame_records tables header c before (n + 1) (started (marked_text blanks packet place))).1.rest) context (found.facts blanks n inside) in
    counted ∙ facts ∙ less (8 * (length own + blanks + 1)) (taken_from one.chain own) (taken_from two.chain own) _ _ (left-of one blanks own) (left-of two blanks own) some
