-- What is read over a marked first partition is what decoding has of the packet.
use Rattle.std.proofs.Common.{◌≡◌, ℕ, zero, suc, ◌<◌, false, List, length, refl, sym, subst, ap, ◌∙◌, Option, Some, None, Result, Ok, Err}
use Rattle.std.specs.Prelude.{slice_get}
use Rattle.bool_coder.specs.Reader.{Reader}
use Rattle.vp8_tables.specs.Tables.{TableEntries}
use Rattle.frame_header.specs.Header.{first_end, first_partition, header_of, header_over}
use Rattle.frame_header.specs.Start.{start_of}
use Rattle.frame_header.specs.Tags.{has_key_tag}
use Rattle.frame_header.specs.declared.cause.Cause.{Cause}
use Rattle.frame_header.specs.declared.context.Context.{Context}
use Rattle.frame_header.specs.declared.header.Header.{Header}
use Rattle.frame_header.specs.declared.places.PartitionRange.{PartitionRange}
use Rattle.mode_parser.specs.FrameModes.{FrameModes}
use Rattle.mode_parser.specs.declared.records.MbMode.{MbMode}
use Rattle.reference_frames.specs.FrameTokens.{TokenState, state_after, token_state}
use Rattle.macroblock_lists.specs.Known.{Known, frame_modes, header_after, height_of, known_after, known_before, known_by, width_of}
use Rattle.macroblock_lists.specs.PartitionEnds.{end_of, first_end_by, first_partition_end, frame_token_ends, marked_start, marked_text, no_ends, partition_ends_of, token_ends}
use Rattle.macroblock_lists.specs.declared.partition_ends.PartitionEnd.{PartitionEnd}
use Rattle.macroblock_lists.specs.declared.partition_ends.PartitionEnds.{PartitionEnds}
use Rattle.macroblock_lists.specs.FirstChains.{columns_of, context_in, zeros_of}
use Rattle.macroblock_lists.specs.ProofsOnly.{IsFirstEnd, IsRead, MarkedIsRead, known_with}
use Rattle.macroblock_lists.proofs.FirstRead.{height-alike, width-alike}
use Rattle.macroblock_lists.proofs.MarkedRead.{with_reader}

-- tokens do not depend on the reader in the header
after-alike : (header : Header) (reader : Reader) (columns : ℕ) (state : TokenState) (place : ℕ) (mode : Option MbMode) → state_after (with_reader header reader) columns state place mode ≡ state_after header columns state place mode
after-alike header reader columns state place None = refl
after-alike header reader columns state place (Some mode) = refl

pub tokens-alike : (header : Header) (reader : Reader) (columns : ℕ) (start : TokenState) (modes : List MbMode) (n : ℕ) → token_state (with_reader header reader) columns start modes n ≡ token_state header columns start modes n
unfolding token_state
tokens-alike header reader columns start modes zero = refl
tokens-alike header reader columns start modes (suc n) =
    after-alike header reader columns (token_state (with_reader header reader) columns start modes n) n (slice_get modes n)
    ∙ ap (λ (state : TokenState). state_after header columns state n (slice_get modes n)) (tokens-alike header reader columns start modes n)

ends-alike : (blanks : ℕ) (packet : List ℕ) (header : Header) (reader : Reader) (columns : ℕ) (modes : List MbMode) → frame_token_ends blanks packet (with_reader header reader) columns modes ≡ frame_token_ends blanks packet header columns modes
unfolding frame_token_ends
ends-alike blanks packet header reader columns modes =
    ap (λ (state : TokenState). token_ends blanks header.partitions.items state.readers) (tokens-alike header reader columns (marked_start blanks header.partitions.items packet columns) modes (length modes))

-- a packet whose header is accepted has a first partition, whatever text it is read from
none-ended : (tables : TableEntries) (earlier : Option Context) (packet : List ℕ) (header : Header) (cause : Cause) (start : _) → start_of earlier packet ≡ Ok start
    → (end : Result ℕ Cause) → first_end start packet ≡ end → first_partition earlier packet ≡ Err cause → header_of tables earlier packet ≡ Ok header → ⊥
unfolding header_of
none-ended tables earlier packet header cause start start_is (Ok end) end_is placed accepted = let none = rw (start_is, end_is) at placed in cc
none-ended tables earlier packet header cause start start_is (Err other) end_is placed accepted = let none = rw (start_is, end_is) at accepted in cc

pub none-placed : (tables : TableEntries) (earlier : Option Context) (packet : List ℕ) (header : Header) (cause : Cause) (found : Result _ Cause) → start_of earlier packet ≡ found
    → first_partition earlier packet ≡ Err cause → header_of tables earlier packet ≡ Ok header → ⊥
unfolding header_of
none-placed tables earlier packet header cause (Ok start) start_is placed accepted = none-ended tables earlier packet header cause start start_is _ refl placed accepted
none-placed tables earlier packet header cause (Err other) start_is placed accepted = let none = rw start_is at accepted in cc

none-ended-over : (tables : TableEntries) (earlier : Option Context) (packet text : List ℕ) (header : Header) (cause : Cause) (start : _) → start_of earlier packet ≡ Ok start
    → (end : Result ℕ Cause) → first_end start packet ≡ end → first_partition earlier packet ≡ Err cause → header_over tables earlier packet text ≡ Ok header → ⊥
unfolding header_over
none-ended-over tables earlier packet text header cause start start_is (Ok end) end_is placed accepted = let none = rw (start_is, end_is) at placed in cc
none-ended-over tables earlier packet text header cause start start_is (Err other) end_is placed accepted = let none = rw (start_is, end_is) at accepted in cc

pub none-over : (tables : TableEntries) (earlier : Option Context) (packet text : List ℕ) (header : Header) (cause : Cause) (found : Result _ Cause) → start_of earlier packet ≡ found
    → first_partition earlier packet ≡ Err cause → header_over tables earlier packet text ≡ Ok header → ⊥
unfolding header_over
none-over tables earlier packet text header cause (Ok start) start_is placed accepted = none-ended-over tables earlier packet text header cause start start_is _ refl placed accepted
none-over tables earlier packet text header cause (Err other) start_is placed accepted = let none = rw start_is at accepted in cc

-- a text with so many zeros of a first partition of this size
pub record IsMarked (known : Option Known) (packet whole : List ℕ) (blanks count : ℕ) : Type 0 where
  pub text : (place : PartitionRange) → first_partition (context_in known) packet ≡ Ok place → whole ≡ marked_text blanks packet place
  pub size : (place : PartitionRange) → first_partition (context_in known) packet ≡ Ok place → count ≡ place.length
  pub zeros : (tables : TableEntries) (header : Header) → header_after tables known packet ≡ Ok header → blanks ≡ zeros_of known packet header

-- if the header over it is refused, or leaves nothing with its records, decoding ends past all the zeros
spent-by-place : (tables : TableEntries) (known : Option Known) (packet text : List ℕ) (blanks size : ℕ) (header : Header) (placed : Result PartitionRange Cause) → IsMarked known packet text blanks size
    → first_end_by tables blanks size (known_before packet known) (header_over tables (context_in known) packet text) ≡ end_of blanks size 0
    → first_partition (context_in known) packet ≡ placed → header_after tables known packet ≡ Ok header
    → first_partition_end tables (zeros_of known packet header) packet (context_in known) (known_before packet known) ≡ end_of blanks size 0
unfolding first_partition_end
spent-by-place tables known packet text blanks size header (Ok place) marked spent placed accepted =
    rw (sym (marked.zeros tables header accepted), placed)
    (ap (first_end_by tables blanks place.length (known_before packet known)) (ap (header_over tables (context_in known) packet) (sym (marked.text place placed)))
    ∙ ap (λ (n : ℕ). first_end_by tables blanks n (known_before packet known) (header_over tables (context_in known) packet text)) (sym (marked.size place placed)) ∙ spent)
spent-by-place tables known packet text blanks size header (Err cause) marked spent placed accepted =
    absurd (none-placed tables (context_in known) packet header cause _ refl placed accepted)

pub first-spent : (tables : TableEntries) (known : Option Known) (packet text : List ℕ) (blanks size : ℕ) → IsMarked known packet text blanks size
    → first_end_by tables blanks size (known_before packet known) (header_over tables (context_in known) packet text) ≡ end_of blanks size 0
    → IsFirstEnd tables known packet (end_of blanks size 0)
first-spent tables known packet text blanks size marked spent = λ header accepted. spent-by-place tables known packet text blanks size header _ marked spent refl accepted

-- a packet by its own header
abbrev pub ends_with : TableEntries → Option Known → List ℕ → Header → PartitionEnd → PartitionEnds
ends_with tables known packet header first = record {
  first = first;
  tokens = record { items = frame_token_ends (zeros_of known packet header) packet header (columns_of known packet header) (frame_modes tables header (known_before packet known)).records };
}

pub own-ends : (tables : TableEntries) (known : Option Known) (packet : List ℕ) (header : Header) (first : PartitionEnd) → IsFirstEnd tables known packet first → header_after tables known packet ≡ Ok header
    → ends_with tables known packet header first ≡ partition_ends_of tables known packet
unfolding partition_ends_of
own-ends tables known packet header first is accepted =
    rw accepted (ap (λ (end : PartitionEnd). ends_with tables known packet header end) (sym (is header accepted)))

-- and by the header over the marked text
over-by-place : (tables : TableEntries) (known : Option Known) (packet text : List ℕ) (blanks size : ℕ) (over : Header) (placed : Result PartitionRange Cause) → IsMarked known packet text blanks size → MarkedIsRead tables known
    → first_partition (context_in known) packet ≡ placed → header_over tables (context_in known) packet text ≡ Ok over → 0 < (frame_modes tables over (known_before packet known)).left
    → IsRead tables known packet over × IsFirstEnd tables known packet (end_of blanks size (frame_modes tables over (known_before packet known)).left)
unfolding first_partition_end
over-by-place tables known packet text blanks size over (Ok place) marked read placed accepted some =
    let whole : header_over tables (context_in known) packet (marked_text blanks packet place) ≡ Ok over = ap (header_over tables (context_in known) packet) (sym (marked.text place placed)) ∙ accepted in (
      read packet blanks place over placed whole some,
      λ header own. rw (sym (marked.zeros tables header own), placed)
          (ap (first_end_by tables blanks place.length (known_before packet known)) whole
          ∙ ap (λ (n : ℕ). end_of blanks n (frame_modes tables over (known_before packet known)).left) (sym (marked.size place placed))),
    )
over-by-place tables known packet text blanks size over (Err cause) marked read placed accepted some =
    absurd (none-over tables (context_in known) packet text over cause _ refl placed accepted)

over-alike : (tables : TableEntries) (known : Option Known) (packet : List ℕ) (over : Header) (read : IsRead tables known packet over) (first : PartitionEnd)
    → ends_with tables known packet over first ≡ ends_with tables known packet (with_reader over read.reader) first
over-alike tables known packet over read first =
    let mine : Header = with_reader over read.reader in
    let before : Option Known = known_before packet known in
    let wide : width_of mine before ≡ width_of over before = width-alike before mine over refl in
    let high : height_of mine before ≡ height_of over before = height-alike before mine over refl in
    rw (wide, high)
    (ap (λ (ends : List PartitionEnd). let all : PartitionEnds = record { first = first; tokens = record { items = ends } } in all)
    (sym (ends-alike (zeros_of known packet over) packet over read.reader (columns_of known packet over) (frame_modes tables mine before).records
    ∙ ap (frame_token_ends (zeros_of known packet over) packet over (columns_of known packet over)) read.records)))

pub over-ends : (tables : TableEntries) (known : Option Known) (packet text : List ℕ) (blanks size : ℕ) (over : Header) → IsMarked known packet text blanks size → MarkedIsRead tables known
    → header_over tables (context_in known) packet text ≡ Ok over → 0 < (frame_modes tables over (known_before packet known)).left
    → ends_with tables known packet over (end_of blanks size (frame_modes tables over (known_before packet known)).left) ≡ partition_ends_of tables known packet
over-ends tables known packet text blanks size over marked read accepted some =
    let first : PartitionEnd = end_of blanks size (frame_modes tables over (known_before packet known)).left in
    let both = over-by-place tables known packet text blanks size over _ marked read refl accepted some in
    over-alike tables known packet over both.0 first ∙ own-ends tables known packet (with_reader over both.0.reader) first both.1 both.0.header

pub over-known : (tables : TableEntries) (known : Option Known) (packet text : List ℕ) (blanks size : ℕ) (over : Header) → IsMarked known packet text blanks size → MarkedIsRead tables known
    → header_over tables (context_in known) packet text ≡ Ok over → 0 < (frame_modes tables over (known_before packet known)).left
    → known_by tables (known_before packet known) (header_after tables known packet) ≡ Ok (known_with over (known_before packet known) (frame_modes tables over (known_before packet known)).segment_map)
over-known tables known packet text blanks size over marked read accepted some =
    let before : Option Known = known_before packet known in
    let both = over-by-place tables known packet text blanks size over _ marked read refl accepted some in
    let mine : Header = with_reader over both.0.reader in
    let wide : width_of mine before ≡ width_of over before = width-alike before mine over refl in
    let high : height_of mine before ≡ height_of over before = height-alike before mine over refl in
    let map : (frame_modes tables mine before).segment_map ≡ (frame_modes tables over before).segment_map = both.0.segment_map in
    let after : known_after tables mine before ≡ known_with over before (frame_modes tables over before).segment_map = cc in
    ap (known_by tables before) both.0.header ∙ ap (λ (k : Known). let found : Result Known Cause = Ok k in found) after

-- what is known before a packet, by the kind of its frame
pub later-before : (packet : List ℕ) (known : Option Known) → has_key_tag packet ≡ false → known ≡ known_before packet known
later-before packet known tagged = rw tagged refl

pub refused-ends : (tables : TableEntries) (known : Option Known) (packet : List ℕ) (cause : Cause) → header_after tables known packet ≡ Err cause → no_ends ≡ partition_ends_of tables known packet
unfolding partition_ends_of
refused-ends tables known packet cause refused = rw refused refl

pub spent-refused : (tables : TableEntries) (known : Option Known) (packet text : List ℕ) (blanks size : ℕ) (cause : Cause) → IsMarked known packet text blanks size
    → header_over tables (context_in known) packet text ≡ Err cause → IsFirstEnd tables known packet (end_of blanks size 0)
spent-refused tables known packet text blanks size cause marked refused =
    first-spent tables known packet text blanks size marked (ap (first_end_by tables blanks size (known_before packet known)) refused)

pub spent-left : (tables : TableEntries) (known : Option Known) (packet text : List ℕ) (blanks size : ℕ) (over : Header) (before : Option Known) (modes : FrameModes) → IsMarked known packet text blanks size
    → header_over tables (context_in known) packet text ≡ Ok over → before ≡ known_before packet known → modes ≡ frame_modes tables over before → modes.left ≡ 0
    → IsFirstEnd tables known packet (end_of blanks size 0)
spent-left tables known packet text blanks size over before modes marked accepted before_is modes_are none =
    let left : (frame_modes tables over (known_before packet known)).left ≡ 0 =
    ap (λ (b : Option Known). (frame_modes tables over b).left) (sym before_is) ∙ ap (λ (m : FrameModes). m.left) (sym modes_are) ∙ none in
    first-spent tables known packet text blanks size marked (ap (first_end_by tables blanks size (known_before packet known)) accepted ∙ ap (end_of blanks size) left)

-- the ends by the records that were read
abbrev pub ends_by : Option Known → List ℕ → Header → PartitionEnd → List MbMode → PartitionEnds
ends_by known packet header first records = record { first = first; tokens = record { items = frame_token_ends (zeros_of known packet header) packet header (columns_of known packet header) records } }

modes-before : (tables : TableEntries) (known : Option Known) (packet : List ℕ) (header : Header) (before : Option Known) (modes : FrameModes) → before ≡ known_before packet known → modes ≡ frame_modes tables header before
    → modes ≡ frame_modes tables header (known_before packet known)
modes-before tables known packet header before modes before_is modes_are = modes_are ∙ ap (frame_modes tables header) before_is

pub own-read : (tables : TableEntries) (known : Option Known) (packet : List ℕ) (header : Header) (first : PartitionEnd) (before : Option Known) (modes : FrameModes) (ends : PartitionEnds)
    → IsFirstEnd tables known packet first → header_after tables known packet ≡ Ok header → before ≡ known_before packet known → modes ≡ frame_modes tables header before
    → ends ≡ ends_by known packet header first modes.records → ends ≡ partition_ends_of tables known packet
own-read tables known packet header first before modes ends is accepted before_is modes_are ends_are =
    ends_are ∙ ap (λ (m : FrameModes). ends_by known packet header first m.records) (modes-before tables known packet header before modes before_is modes_are) ∙ own-ends tables known packet header first is accepted

pub over-read : (tables : TableEntries) (known : Option Known) (packet text : List ℕ) (blanks size : ℕ) (over : Header) (before : Option Known) (modes : FrameModes) (ends : PartitionEnds)
    → IsMarked known packet text blanks size → MarkedIsRead tables known → header_over tables (context_in known) packet text ≡ Ok over → before ≡ known_before packet known → modes ≡ frame_modes tables over before
    → 0 < modes.left → ends ≡ ends_by known packet over (end_of blanks size modes.left) modes.records → ends ≡ partition_ends_of tables known packet
over-read tables known packet text blanks size over before modes ends marked read accepted before_is modes_are some ends_are =
    let are = modes-before tables known packet over before modes before_is modes_are in
    ends_are ∙ ap (λ (m : FrameModes). ends_by known packet over (end_of blanks size m.left) m.records) are
    ∙ over-ends tables known packet text blanks size over marked read accepted (subst (λ (m : FrameModes). 0 < m.left) are some)

pub over-after : (tables : TableEntries) (known : Option Known) (packet text : List ℕ) (blanks size : ℕ) (over : Header) (before : Option Known) (modes : FrameModes) (after : Known)
    → IsMarked known packet text blanks size → MarkedIsRead tables known → header_over tables (context_in known) packet text ≡ Ok over → before ≡ known_before packet known → modes ≡ frame_modes tables over before
    → 0 < modes.left → after ≡ known_with over (known_before packet known) modes.segment_map → Ok after ≡ known_by tables (known_before packet known) (header_after tables known packet)
over-after tables known packet text blanks size over before modes after marked read accepted before_is modes_are some after_is =
    let are = modes-before tables known packet over before modes before_is modes_are in
    ap (λ (k : Known). let found : Result Known Cause = Ok k in found) (after_is ∙ ap (λ (m : FrameModes). known_with over (known_before packet known) m.segment_map) are)
    ∙ sym (over-known tables known packet text blanks size over marked read accepted (subst (λ (m : FrameModes). 0 < m.left) are some))
