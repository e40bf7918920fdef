-- The macroblocks of a packet by a header that was read over another text.
use Rattle.std.proofs.Common.{◌≡◌, ℕ, zero, suc, ◌+◌, ◌-◌, ◌*◌, ◌<◌, Bool, List, [], ◌∷◌, ◌++◌, length, map, refl, sym, subst, ap, ◌∙◌, arith, get_or, Option, Some, None, Result, Ok, Err}
use Rattle.std.specs.Prelude.{slice_get, slice_index_or}
use Rattle.std.specs.List.{flat_map, range_with_len}
use Rattle.std.specs.Option.{option_map}
use Rattle.std.proofs.lemmas.List.{ext_get_or, get_or-map, length-map}
use Rattle.std.proofs.lemmas.List.FromFn.{get_or-map-range_with_len, length-range_with_len}
use Rattle.bool_coder.specs.Reader.{Reader}
use Rattle.vp8_tables.specs.Tables.{TableEntries}
use Rattle.frame_header.specs.Header.{first_partition, header_of, header_over}
use Rattle.frame_header.specs.declared.cause.Cause.{Cause}
use Rattle.frame_header.specs.declared.context.Context.{Context}
use Rattle.frame_header.specs.declared.header.Header.{Header}
use Rattle.frame_header.specs.declared.places.PartitionRange.{PartitionRange}
use Rattle.header_bits.specs.Coded.{coded_in}
use Rattle.header_bits.specs.declared.coded.Coded.{Coded}
use Rattle.loop_filter.specs.Levels.{level_of}
use Rattle.mode_parser.specs.declared.record_facts.RecordFacts.{RecordFacts}
use Rattle.mode_parser.specs.declared.records.MbMode.{MbMode}
use Rattle.mode_parser.specs.declared.records.Split.{Split}
use Rattle.pixel_planes.specs.Pictures.{macroblocks}
use Rattle.reference_frames.specs.FrameTokens.{TokenState, token_state, tokens_start}
use Rattle.macroblock_lists.specs.declared.layouts.Form.{Form}
use Rattle.macroblock_lists.specs.declared.layouts.Form.TheVariants as forms
use Rattle.macroblock_lists.specs.declared.layouts.What.TheVariants as what
use Rattle.macroblock_lists.specs.Fields.{header_fields}
use Rattle.macroblock_lists.specs.Frames.{text_at, text_by, texts_of}
use Rattle.macroblock_lists.specs.Known.{Known, frame_modes, header_after, height_of, known_after, known_before, known_by, width_of}
use Rattle.macroblock_lists.specs.PartitionEnds.{marked_start, marked_text, zeros_for}
use Rattle.macroblock_lists.specs.ProofsOnly.{IsRead, MarkedIsRead}
use Rattle.macroblock_lists.specs.Records.{combined, facts_by, facts_in, frame_facts, marked_facts, no_facts, own_facts}
use Rattle.macroblock_lists.specs.FirstChains.{context_in, zeros_of}
use Rattle.macroblock_lists.proofs.FirstRead.{height-alike, width-alike}
use Rattle.macroblock_lists.proofs.ReadOnce.{IsMarked, none-over, none-placed, tokens-alike}
use Rattle.macroblock_lists.specs.Texts.{comment_of, text_by as packet_by}

-- the texts of macroblocks do not depend on the reader in the header
abbrev other : Header → Reader → Header
other header reader = record header { reader = reader }

by-alike : (form : Form) (packet : ℕ) (header : Header) (reader : Reader) (columns place : ℕ) (state marked : TokenState) (facts : RecordFacts) (mode : Option MbMode)
    → text_by form packet (other header reader) columns place state marked facts mode ≡ text_by form packet header columns place state marked facts mode
unfolding level_of
by-alike form packet header reader columns place state marked facts None = refl
by-alike form packet header reader columns place state marked facts (Some mode) = refl

at-alike : (form : Form) (packet : ℕ) (header : Header) (reader : Reader) (columns : ℕ) (start marked : TokenState) (modes : List MbMode) (facts : List RecordFacts) (place : ℕ)
    → text_at form packet (other header reader) columns start marked modes facts place ≡ text_at form packet header columns start marked modes facts place
unfolding text_at
at-alike form packet header reader columns start marked modes facts place =
    rw (tokens-alike header reader columns start modes place, tokens-alike header reader columns marked modes place)
    (by-alike form packet header reader columns place (token_state header columns start modes place) (token_state header columns marked modes place) (facts_in facts place) (slice_get modes place))

all-alike : (f g : ℕ → List ℕ) → ((n : ℕ) → f n ≡ g n) → (ns : List ℕ) → flat_map f ns ≡ flat_map g ns
all-alike f g same [] = refl
all-alike f g same (n ∷ ns) = rw (same n, all-alike f g same ns) refl

pub texts-alike : (form : Form) (packet : ℕ) (header : Header) (reader : Reader) (columns : ℕ) (start marked : TokenState) (modes : List MbMode) (facts : List RecordFacts)
    → texts_of form packet (other header reader) columns start marked modes facts ≡ texts_of form packet header columns start marked modes facts
texts-alike form packet header reader columns start marked modes facts =
    all-alike (text_at form packet (other header reader) columns start marked modes facts) (text_at form packet header columns start marked modes facts)
    (at-alike form packet header reader columns start marked modes facts) (range_with_len 0 (length modes))

pub comment-alike : (form : Form) (place : ℕ) (header : Header) (reader : Reader) (coded : Coded) → comment_of form place (other header reader) coded ≡ comment_of form place header coded
unfolding header_fields
comment-alike forms.Lines place header reader coded = refl
comment-alike forms.Objects place header reader coded = refl

-- facts with the splits of others that have the same splits
split-of : (facts : List RecordFacts) (n : ℕ) → get_or (map (λ (f : RecordFacts). f.split) facts) n None ≡ (facts_in facts n).split
split-of [] n = refl
split-of (fact ∷ facts) zero = refl
split-of (fact ∷ facts) (suc n) = split-of facts n

one-combined : (own marked : List RecordFacts) (n : ℕ) → map (λ (f : RecordFacts). f.split) own ≡ map (λ (f : RecordFacts). f.split) marked
    → (facts_in own n).split ≡ (facts_in marked n).split
one-combined own marked n same =
    sym (split-of own n) ∙ ap (λ (splits : List (Option Split)). get_or splits n None) same ∙ split-of marked n

pub combined-same : (own marked : List RecordFacts) → map (λ (f : RecordFacts). f.split) own ≡ map (λ (f : RecordFacts). f.split) marked → combined own marked ≡ marked
combined-same own marked same =
    let long : length own ≡ length marked = sym (length-map own (λ (f : RecordFacts). f.split)) ∙ ap length same ∙ length-map marked (λ (f : RecordFacts). f.split) in
    let at : ℕ → RecordFacts = λ place. record { bits = (facts_in marked place).bits; split = (facts_in own place).split } in
    let count : length (combined own marked) ≡ length own = length-map (range_with_len 0 (length own)) at ∙ length-range_with_len 0 (length own) in
    ext_get_or no_facts (combined own marked) marked (count ∙ long) (λ i valid.
    get_or-map-range_with_len at 0 (length own) i i no_facts (rw count at valid) (omega arith)
    ∙ ap (λ (split : Option Split). record { bits = (facts_in marked i).bits; split = split }) (one-combined own marked i same))

-- a packet whose header is accepted has a first partition
placed-by : (tables : TableEntries) (earlier : Option Context) (packet text : List ℕ) (header : Header) (found : Result PartitionRange Cause) → first_partition earlier packet ≡ found → header_over tables earlier packet text ≡ Ok header
    → (place : PartitionRange) × (first_partition earlier packet ≡ Ok place)
placed-by tables earlier packet text header (Ok place) is accepted = (place, is)
placed-by tables earlier packet text header (Err cause) is accepted = absurd (none-over tables earlier packet text header cause _ refl is accepted)

pub placed : (tables : TableEntries) (earlier : Option Context) (packet text : List ℕ) (header : Header) → header_over tables earlier packet text ≡ Ok header → (place : PartitionRange) × (first_partition earlier packet ≡ Ok place)
placed tables earlier packet text header accepted = placed-by tables earlier packet text header (first_partition earlier packet) refl accepted

own-by : (tables : TableEntries) (earlier : Option Context) (packet : List ℕ) (header : Header) (found : Result PartitionRange Cause) → first_partition earlier packet ≡ found → header_of tables earlier packet ≡ Ok header
    → (place : PartitionRange) × (first_partition earlier packet ≡ Ok place)
own-by tables earlier packet header (Ok place) is accepted = (place, is)
own-by tables earlier packet header (Err cause) is accepted = absurd (none-placed tables earlier packet header cause _ refl is accepted)

pub own-placed : (tables : TableEntries) (earlier : Option Context) (packet : List ℕ) (header : Header) → header_of tables earlier packet ≡ Ok header → (place : PartitionRange) × (first_partition earlier packet ≡ Ok place)
own-placed tables earlier packet header accepted = own-by tables earlier packet header (first_partition earlier packet) refl accepted

-- the text of a frame with this header and these records
abbrev pub frame_with : Form → ℕ → TableEntries → List ℕ → Header → ℕ → ℕ → List MbMode → List RecordFacts → List ℕ
frame_with form at tables packet header columns rows records facts =
    comment_of form at header (coded_in tables packet)
    ++ texts_of form at header columns (tokens_start header.partitions.items packet columns) (marked_start (zeros_for columns rows) header.partitions.items packet columns) records facts

-- by the packet's own header
zeros-are : (tables : TableEntries) (packet : List ℕ) (known : Option Known) (header : Header) → known_before packet known ≡ known
    → zeros_of known packet header ≡ zeros_for (macroblocks (width_of header known)) (macroblocks (height_of header known))
zeros-are tables packet known header nothing = ap (λ (before : Option Known). zeros_for (macroblocks (width_of header before)) (macroblocks (height_of header before))) nothing

pub text-is-own : (form : Form) (at : ℕ) (tables : TableEntries) (packet : List ℕ) (known : Option Known) (header : Header) (marked : List RecordFacts) → known_before packet known ≡ known
    → header_after tables known packet ≡ Ok header → marked ≡ marked_facts tables (zeros_of known packet header) packet known
    → frame_with form at tables packet header (macroblocks (width_of header known)) (macroblocks (height_of header known)) (frame_modes tables header known).records (combined (own_facts tables header known) marked)
    ≡ packet_by what.Macroblocks form at tables packet known (header_after tables known packet)
text-is-own form at tables packet known header marked nothing accepted is =
    let columns : ℕ = macroblocks (width_of header known) in
    let rows : ℕ = macroblocks (height_of header known) in
    let counts : marked ≡ marked_facts tables (zeros_for columns rows) packet known = is ∙ ap (λ (n : ℕ). marked_facts tables n packet known) (zeros-are tables packet known header nothing) in
    rw accepted (ap (λ (counts : List RecordFacts). frame_with form at tables packet header columns rows (frame_modes tables header known).records (combined (own_facts tables header known) counts)) counts)

-- the facts that are counted in it
counted : (tables : TableEntries) (blanks : ℕ) (packet : List ℕ) (before : Option Known) (place : PartitionRange) (read : Result Header Cause) → first_partition (context_in before) packet ≡ Ok place
    → header_over tables (context_in before) packet (marked_text blanks packet place) ≡ read → marked_facts tables blanks packet before ≡ facts_by tables before read
counted tables blanks packet before place read placed_is read_is = rw (placed_is, read_is) refl

pub text-is-read : (form : Form) (at : ℕ) (tables : TableEntries) (packet : List ℕ) (known : Option Known) (over : Header) (place : PartitionRange) (zeros : ℕ) → known_before packet known ≡ known
    → first_partition (context_in known) packet ≡ Ok place → header_over tables (context_in known) packet (marked_text zeros packet place) ≡ Ok over
    → ((header : Header) → header_after tables known packet ≡ Ok header → zeros ≡ zeros_of known packet header)
    → IsRead tables known packet over
    → frame_with form at tables packet over (macroblocks (width_of over known)) (macroblocks (height_of over known)) (frame_modes tables over known).records (own_facts tables over known)
    ≡ packet_by what.Macroblocks form at tables packet known (header_after tables known packet)
text-is-read form at tables packet known over place zeros nothing placed_is over_is zeros_are read =
    let own : Header = other over read.reader in
    let columns : ℕ = macroblocks (width_of over known) in
    let rows : ℕ = macroblocks (height_of over known) in
    let wide : width_of own known ≡ width_of over known = width-alike known own over refl in
    let high : height_of own known ≡ height_of over known = height-alike known own over refl in
    let count : zeros ≡ zeros_for columns rows =
    zeros_are own read.header ∙ ap (λ (before : Option Known). zeros_for (macroblocks (width_of own before)) (macroblocks (height_of own before))) nothing
    ∙ ap (λ (n : ℕ). zeros_for (macroblocks n) (macroblocks (height_of own known))) wide ∙ ap (λ (n : ℕ). zeros_for columns (macroblocks n)) high in
    let records : (frame_modes tables own known).records ≡ (frame_modes tables over known).records =
    subst (λ (before : Option Known). (frame_modes tables own before).records ≡ (frame_modes tables over before).records) nothing read.records in
    let splits : map (λ (f : RecordFacts). f.split) (own_facts tables own known) ≡ map (λ (f : RecordFacts). f.split) (own_facts tables over known) =
    subst (λ (before : Option Known). map (λ (f : RecordFacts). f.split) (own_facts tables own before) ≡ map (λ (f : RecordFacts). f.split) (own_facts tables over before)) nothing read.splits in
    let marked : marked_facts tables zeros packet known ≡ own_facts tables over known = counted tables zeros packet known place (Ok over) placed_is over_is in
    let facts : combined (own_facts tables own known) (marked_facts tables (zeros_for columns rows) packet known) ≡ own_facts tables over known =
    ap (λ (n : ℕ). combined (own_facts tables own known) (marked_facts tables n packet known)) (sym count)
    ∙ ap (λ (counts : List RecordFacts). combined (own_facts tables own known) counts) marked ∙ combined-same (own_facts tables own known) (own_facts tables over known) splits in
    let start : TokenState = tokens_start over.partitions.items packet columns in
    let marks : TokenState = marked_start (zeros_for columns rows) over.partitions.items packet columns in
    let last : List MbMode = (frame_modes tables over known).records in
    let found : List RecordFacts = own_facts tables over known in
    let coded : Coded = coded_in tables packet in
    let same : comment_of form at own coded ++ texts_of form at own columns start marks last found ≡ comment_of form at over coded ++ texts_of form at over columns start marks last found =
    ap (λ (text : List ℕ). text ++ texts_of form at own columns start marks last found) (comment-alike form at over read.reader coded)
    ∙ ap (λ (text : List ℕ). comment_of form at over coded ++ text) (texts-alike form at over read.reader columns start marks last found) in
    rw (read.header, wide, high, records, facts) (sym same)

-- and what is known after it
pub known-is-read : (tables : TableEntries) (packet : List ℕ) (known : Option Known) (over : Header) → known_before packet known ≡ known → IsRead tables known packet over
    → ◌≡◌ {A = Result Known Cause} (Ok (record { context = over.context_after; segment_map = (frame_modes tables over known).segment_map; width = width_of over known; height = height_of over known })) (known_by tables known (header_after tables known packet))
known-is-read tables packet known over nothing read =
    let own : Header = other over read.reader in
    let map_is : (frame_modes tables own known).segment_map ≡ (frame_modes tables over known).segment_map =
    subst (λ (before : Option Known). (frame_modes tables own before).segment_map ≡ (frame_modes tables over before).segment_map) nothing read.segment_map in
    rw (read.header, width-alike known own over refl, height-alike known own over refl, map_is) refl

-- the facts over a marked text are those that are counted, whatever header the packet has
pub counted-by : (tables : TableEntries) (packet : List ℕ) (known : Option Known) (text : List ℕ) (blanks count : ℕ) → IsMarked known packet text blanks count → (read : Result Header Cause) → header_over tables (context_in known) packet text ≡ read
    → (header : Header) → header_after tables known packet ≡ Ok header → facts_by tables known read ≡ marked_facts tables (zeros_of known packet header) packet known
counted-by tables packet known text blanks count marked read read_is header accepted =
    let at = own-placed tables (context_in known) packet header accepted in
    let whole : header_over tables (context_in known) packet (marked_text blanks packet at.0) ≡ read = ap (header_over tables (context_in known) packet) (sym (marked.text at.0 at.1)) ∙ read_is in
    sym (counted tables blanks packet known at.0 read at.1 whole) ∙ ap (λ (n : ℕ). marked_facts tables n packet known) (marked.zeros tables header accepted)

-- a packet whose header and records leave bits of a marked text
pub record IsReadOver (tables : TableEntries) (known : Option Known) (packet : List ℕ) (blanks : ℕ) (over : Header) : Type 0 where
  pub place : PartitionRange
  pub placed_is : first_partition (context_in known) packet ≡ Ok place
  pub over_is : header_over tables (context_in known) packet (marked_text blanks packet place) ≡ Ok over
  pub read : IsRead tables known packet over

pub read-over : (tables : TableEntries) (packet : List ℕ) (known : Option Known) (over : Header) (text : List ℕ) (blanks count : ℕ) → IsMarked known packet text blanks count → MarkedIsRead tables known → known_before packet known ≡ known
    → header_over tables (context_in known) packet text ≡ Ok over → 0 < (frame_modes tables over known).left → IsReadOver tables known packet blanks over
read-over tables packet known over text blanks count marked read nothing accepted some =
    let at = placed tables (context_in known) packet text over accepted in
    let whole : header_over tables (context_in known) packet (marked_text blanks packet at.0) ≡ Ok over = ap (header_over tables (context_in known) packet) (sym (marked.text at.0 at.1)) ∙ accepted in
    record {
      place = at.0;
      placed_is = at.1;
      over_is = whole;
      read = read packet blanks at.0 over at.1 whole (subst (λ (before : Option Known). 0 < (frame_modes tables over before).left) (sym nothing) some);
    }

pub over-text : (form : Form) (at : ℕ) (tables : TableEntries) (packet : List ℕ) (known : Option Known) (over : Header) (text : List ℕ) (blanks count : ℕ) → IsMarked known packet text blanks count → known_before packet known ≡ known
    → IsReadOver tables known packet blanks over
    → frame_with form at tables packet over (macroblocks (width_of over known)) (macroblocks (height_of over known)) (frame_modes tables over known).records (own_facts tables over known)
    ≡ packet_by what.Macroblocks form at tables packet known (header_after tables known packet)
over-text form at tables packet known over text blanks count marked nothing is =
    text-is-read form at tables packet known over is.place blanks nothing is.placed_is is.over_is (λ header accepted. marked.zeros tables header accepted) is.read
