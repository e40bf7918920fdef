-- Where decoding ends in a token partition, by the chain of reads that it makes.
use Rattle.std.proofs.Common.{◌≡◌, ◌≢◌, ℕ, zero, suc, ◌<◌, ◌≤◌, Bool, List, [], length, map, replicate, get_or, refl, sym, subst, ap, ◌∙◌, arith, inl, inr, ◌⊎◌, Option}
use Rattle.std.specs.Prelude.{slice_index_or, slice_set}
use Rattle.std.specs.List.{range_with_len}
use Rattle.std.proofs.Math.Dec.{eqb-suc-zero}
use Rattle.std.proofs.lemmas.Bool.Decides.{eqb_tells}
use Rattle.std.proofs.lemmas.List.{ext_get_or, get_or-map, get_or-set_other, get_or-set_same, length-map, length-set}
use Rattle.std.proofs.lemmas.List.FromFn.{get_or-map-range_with_len, length-range_with_len}
use Rattle.bool_coder.specs.Chains.{IsChain, run}
use Rattle.bool_coder.specs.Reader.{Reader, read as read_bits, started}
use Rattle.bool_coder.specs.Taken.{marked}
use Rattle.frame_header.specs.declared.header.Header.{Header}
use Rattle.frame_header.specs.declared.places.PartitionRange.{PartitionRange}
use Rattle.mode_parser.specs.declared.records.MbMode.{MbMode}
use Rattle.reference_frames.specs.FrameTokens.{TokenState, outside, reader_of, token_state, tokens_start}
use Rattle.macroblock_lists.specs.PartitionEnds.{bytes_past, end_of, frame_token_ends, marked_start, marked_text, no_end, no_place, partition_ends_of, token_end, token_ends}
use Rattle.macroblock_lists.specs.declared.partition_ends.PartitionEnd.{PartitionEnd}
use Rattle.macroblock_lists.specs.Known.{Known}
use Rattle.macroblock_lists.specs.Known.{frame_modes, known_before}
use Rattle.vp8_tables.specs.Tables.{TableEntries}
use Rattle.macroblock_lists.specs.ChainEnds.{end_by, text_of}
use Rattle.macroblock_lists.specs.FirstChains.{columns_of, context_in, zeros_of}
use Rattle.macroblock_lists.specs.TokenChains.{OthersEnd, TokenEndsAreOfChains, TokensAreChains, reader_in, token_reading, with_reader, without_reader}
use Rattle.macroblock_lists.proofs.KeyEnds.{ends_after_state}
use Rattle.macroblock_lists.proofs.CountedEnds.{end-counted}
use Rattle.macroblock_lists.proofs.FirstRead.{length-text, same_or_none}
use Rattle.macroblock_lists.proofs.PlacesInside.{AreInside, places_inside}
use Rattle.macroblock_lists.proofs.TokenChains.{tokens_are_read_so}

-- another text in a partition in which bits are left changes no other reader
exchanged : (header : Header) (columns : ℕ) (modes : List MbMode) (n : ℕ) (state : TokenState) (j blanks : ℕ) (text : List ℕ) → TokensAreChains header → j < length state.readers
    → reader_in state j ≡ started (marked blanks text) → 0 < length (reader_in (token_state header columns state modes n) j).rest
    → without_reader (token_state header columns state modes n) j ≡ without_reader (token_state header columns (with_reader state j (started text)) modes n) j
unfolding token_reading
exchanged header columns modes n state j blanks text chains inside marked_is left =
    let after : TokenState = token_state header columns state modes n in
    let here : token_reading header columns state modes n j (started (marked blanks text)) ≡ (without_reader after j, reader_in after j) =
    ap (token_reading header columns state modes n j) (sym marked_is) ∙ tokens_are_read_so header columns state modes n j in
    elim (same_or_none (chains columns state modes n j inside) blanks text) [
      | inl same ↦ ap (λ (t : TokenState × Reader). t.0) (sym here) ∙ same
      | inr none ↦ absurd (let gone : length (reader_in after j).rest ≡ 0 = ap (λ (t : TokenState × Reader). length t.1.rest) (sym here) ∙ none in omega arith)
    ]

-- so the readers of the others
other-reader : (one other : TokenState) (j i : ℕ) → i ≢ j → without_reader one j ≡ without_reader other j → reader_in one i ≡ reader_in other i
other-reader one other j i apart same =
    sym (get_or-set_other one.readers j i (started []) (started []) apart) ∙ ap (λ (state : TokenState). reader_in state i) same ∙ get_or-set_other other.readers j i (started []) (started []) apart

-- the partitions before i, but not k, have their own readers; and the tokens after are read with those of all marked partitions
pub record IsMixed (header : Header) (columns : ℕ) (modes : List MbMode) (n blanks : ℕ) (packet : List ℕ) (places : List PartitionRange) (k i : ℕ) (state : TokenState) : Type 0 where
  pub long : length state.readers ≡ length places
  pub above : state.above ≡ replicate columns outside
  pub left : state.left ≡ outside
  pub before : (j : ℕ) → j < i → j < length places → j ≢ k → reader_in state j ≡ started (text_of packet (slice_index_or places j no_place))
  pub after : (j : ℕ) → (i ≤ j) ⊎ (j ≡ k) → j < length places → reader_in state j ≡ started (marked blanks (text_of packet (slice_index_or places j no_place)))
  pub kept : (j : ℕ) → (i ≤ j) ⊎ (j ≡ k) → reader_in (token_state header columns state modes n) j ≡ reader_in (token_state header columns (marked_start blanks places packet columns) modes n) j

-- none of them has its own yet
mixed-none : (header : Header) (columns : ℕ) (modes : List MbMode) (n blanks : ℕ) (packet : List ℕ) (places : List PartitionRange) (k : ℕ) → IsMixed header columns modes n blanks packet places k 0 (marked_start blanks places packet columns)
mixed-none header columns modes n blanks packet places k = record {
  long = length-map places (λ (place : PartitionRange). started (marked_text blanks packet place));
  above = refl;
  left = refl;
  before = λ j before inside apart. absurd (omega arith);
  after = λ j later inside. get_or-map (λ (place : PartitionRange). started (marked_text blanks packet place)) places j no_place (started []) inside;
  kept = λ j later. refl;
}

earlier : (i j k : ℕ) → (suc i ≤ j) ⊎ (j ≡ k) → (i ≤ j) ⊎ (j ≡ k)
earlier i j k (inl later) = inl (omega arith)
earlier i j k (inr same) = inr same

apart-from : (i j k : ℕ) → (suc i ≤ j) ⊎ (j ≡ k) → i ≢ k → j ≢ i
apart-from i j k (inl later) apart = λ same. (omega arith)
apart-from i j k (inr here) apart = λ same. apart (sym same ∙ here)

-- partition k stays marked
mixed-same : (header : Header) (columns : ℕ) (modes : List MbMode) (n blanks : ℕ) (packet : List ℕ) (places : List PartitionRange) (k i : ℕ) (state : TokenState)
    → IsMixed header columns modes n blanks packet places k i state → i ≡ k → IsMixed header columns modes n blanks packet places k (suc i) state
mixed-same header columns modes n blanks packet places k i state is here = record {
  long = is.long;
  above = is.above;
  left = is.left;
  before = λ j before inside apart. is.before j (let far : j ≢ i = λ same. apart (same ∙ here) in omega arith) inside apart;
  after = λ j later inside. is.after j (earlier i j k later) inside;
  kept = λ j later. is.kept j (earlier i j k later);
}

set-before : (header : Header) (columns : ℕ) (modes : List MbMode) (n blanks : ℕ) (packet : List ℕ) (places : List PartitionRange) (k i j : ℕ) (state : TokenState)
    → IsMixed header columns modes n blanks packet places k i state → i < length places → j < suc i → j < length places → j ≢ k
    → get_or (slice_set state.readers i (started (text_of packet (slice_index_or places i no_place)))) j (started []) ≡ started (text_of packet (slice_index_or places j no_place))
set-before header columns modes n blanks packet places k i j state is inside before valid other =
    let own : Reader = started (text_of packet (slice_index_or places i no_place)) in
    elim (eqb_tells j i) [
      | inl here ↦ rw here.1 (get_or-set_same state.readers i own (started []) (rw is.long inside))
      | inr apart ↦ get_or-set_other state.readers i j own (started []) apart.1 ∙ is.before j (let far = apart.1 in omega arith) valid other
    ]

-- another one gets its own text, if bits are left in it
mixed-own : (header : Header) (columns : ℕ) (modes : List MbMode) (n blanks : ℕ) (packet : List ℕ) (places : List PartitionRange) (k i : ℕ) (state : TokenState) → TokensAreChains header
    → IsMixed header columns modes n blanks packet places k i state → i ≢ k → i < length places
    → 0 < length (reader_in (token_state header columns (marked_start blanks places packet columns) modes n) i).rest
    → IsMixed header columns modes n blanks packet places k (suc i) (with_reader state i (started (text_of packet (slice_index_or places i no_place))))
mixed-own header columns modes n blanks packet places k i state chains is apart inside some =
    let own : Reader = started (text_of packet (slice_index_or places i no_place)) in
    let within : i < length state.readers = rw is.long inside in
    let left : 0 < length (reader_in (token_state header columns state modes n) i).rest = rw (is.kept i (inl (omega arith))) some in
    let same = exchanged header columns modes n state i blanks (text_of packet (slice_index_or places i no_place)) chains within (is.after i (inl (omega arith)) inside) left in
    record {
      long = length-set state.readers i own ∙ is.long;
      above = is.above;
      left = is.left;
      before = λ j before valid other. set-before header columns modes n blanks packet places k i j state is inside before valid other;
      after = λ j later valid. get_or-set_other state.readers i j own (started []) (apart-from i j k later apart) ∙ is.after j (earlier i j k later) valid;
      kept = λ j later. sym (other-reader (token_state header columns state modes n) (token_state header columns (with_reader state i own) modes n) i j (apart-from i j k later apart) same) ∙ is.kept j (earlier i j k later);
    }

-- all of them but k
pub mixed-first : (header : Header) (columns : ℕ) (modes : List MbMode) (n blanks : ℕ) (packet : List ℕ) (places : List PartitionRange) (k i : ℕ) → TokensAreChains header → i ≤ length places
    → ((j : ℕ) → j < length places → j ≢ k → 0 < length (reader_in (token_state header columns (marked_start blanks places packet columns) modes n) j).rest)
    → (state : TokenState) × IsMixed header columns modes n blanks packet places k i state
mixed-first header columns modes n blanks packet places k zero chains within some = (marked_start blanks places packet columns, mixed-none header columns modes n blanks packet places k)
mixed-first header columns modes n blanks packet places k (suc i) chains within some =
    let before = mixed-first header columns modes n blanks packet places k i chains (omega arith) some in
    elim (eqb_tells i k) [
      | inl here ↦ (before.0, mixed-same header columns modes n blanks packet places k i before.0 before.1 here.1)
      | inr apart ↦ (
        with_reader before.0 i (started (text_of packet (slice_index_or places i no_place))),
        mixed-own header columns modes n blanks packet places k i before.0 chains before.1 apart.1 (omega arith) (some i (omega arith) apart.1),
      )
    ]

state-is : (readers others : List Reader) (above higher : List (List Bool)) (left further : List Bool) → readers ≡ others → above ≡ higher → left ≡ further
    → ◌≡◌ {A = TokenState} (record { readers = readers; above = above; left = left }) (record { readers = others; above = higher; left = further })
state-is readers others above higher left further p q s = cc

-- then it is decoding's own start, but for partition k
pub mixed-all : (header : Header) (columns : ℕ) (modes : List MbMode) (n blanks : ℕ) (packet : List ℕ) (places : List PartitionRange) (k : ℕ) (state : TokenState)
    → IsMixed header columns modes n blanks packet places k (length places) state → k < length places
    → state ≡ with_reader (tokens_start places packet columns) k (started (marked blanks (text_of packet (slice_index_or places k no_place))))
mixed-all header columns modes n blanks packet places k state is inside =
    let text : Reader = started (marked blanks (text_of packet (slice_index_or places k no_place))) in
    let own : List Reader = map (reader_of packet) places in
    let long : length own ≡ length places = length-map places (reader_of packet) in
    state-is _ _ _ _ _ _
    (ext_get_or (started []) state.readers (slice_set own k text) (is.long ∙ sym (length-set own k text ∙ long)) (λ i valid.
    let within : i < length places = rw (sym is.long) valid in
    elim (eqb_tells i k) [
      | inl here ↦ is.after i (inr here.1) within ∙ rw here.1 (sym (get_or-set_same own k text (started []) (rw long inside)))
      | inr apart ↦ is.before i within within apart.1 ∙ sym (get_or-set_other own k i text (started []) apart.1 ∙ get_or-map (reader_of packet) places i no_place (started []) within)
    ])) is.above is.left

-- some bits are left in a partition whose count is not at its most
past-most : (blanks size : ℕ) → bytes_past blanks size 0 ≡ blanks
past-most blanks zero = omega arith
past-most blanks (suc size) = rw (eqb-suc-zero size) (omega arith)

past-some : (blanks size left : ℕ) → bytes_past blanks size left < blanks → 0 < left
past-some blanks size zero below = absurd (let most = past-most blanks size in omega arith)
past-some blanks size (suc left) below = omega arith

-- the end in a partition
end-at : (blanks : ℕ) (places : List PartitionRange) (readers : List Reader) (k : ℕ) → k < length places → slice_index_or (token_ends blanks places readers) k no_end ≡ token_end blanks places readers k
end-at blanks places readers k inside = get_or-map-range_with_len (token_end blanks places readers) 0 (length places) k k no_end inside (omega arith)

ends-long : (blanks : ℕ) (places : List PartitionRange) (readers : List Reader) → length (token_ends blanks places readers) ≡ length places
ends-long blanks places readers = length-map (range_with_len 0 (length places)) (token_end blanks places readers) ∙ length-range_with_len 0 (length places)

token_end_is_of_chain : (header : Header) (columns : ℕ) (modes : List MbMode) (blanks : ℕ) (packet : List ℕ) (k : ℕ) → TokensAreChains header → AreInside packet header.partitions.items → k < length header.partitions.items
    → OthersEnd blanks (frame_token_ends blanks packet header columns modes) k
    → (one : IsChain (token_reading header columns (tokens_start header.partitions.items packet columns) modes (length modes) k))
    → slice_index_or (frame_token_ends blanks packet header columns modes) k no_end ≡ end_by blanks one.chain (text_of packet (slice_index_or header.partitions.items k no_place))
unfolding frame_token_ends token_reading
token_end_is_of_chain header columns modes blanks packet k chains within inside others one =
    let places : List PartitionRange = header.partitions.items in
    let marks : TokenState = token_state header columns (marked_start blanks places packet columns) modes (length modes) in
    let some : (j : ℕ) → j < length places → j ≢ k → 0 < length (reader_in marks j).rest = λ j valid apart.
    past-some blanks (slice_index_or places j no_place).length (length (reader_in marks j).rest) (subst (λ (end : PartitionEnd). end.past < blanks) (end-at blanks places marks.readers j valid) (others j (rw (ends-long blanks places marks.readers) valid) apart)) in
    let mixed = mixed-first header columns modes (length modes) blanks packet places k (length places) chains (omega arith) some in
    let place : PartitionRange = slice_index_or places k no_place in
    let text : Reader = started (marked blanks (text_of packet place)) in
    let own : TokenState = tokens_start places packet columns in
    let start : mixed.0 ≡ with_reader own k text = mixed-all header columns modes (length modes) blanks packet places k mixed.0 mixed.1 inside in
    let read : (token_reading header columns own modes (length modes) k text).1 ≡ reader_in marks k =
    ap (λ (state : TokenState). reader_in (token_state header columns state modes (length modes)) k) (sym start) ∙ mixed.1.kept k (inr refl) in
    let left : length (reader_in marks k).rest ≡ length (run read_bits one.chain text).1.rest = ap (λ (r : Reader). length r.rest) (sym read) ∙ ap (λ (t : TokenState × Reader). length t.1.rest) (one.same text) in
    let size : place.length ≡ length (text_of packet place) = sym (length-text packet place.start place.length (within k inside)) in
    end-at blanks places marks.readers k inside
    ∙ ap (λ (n : ℕ). end_of blanks n (length (reader_in marks k).rest)) size ∙ ap (end_of blanks (length (text_of packet place))) left ∙ end-counted one.chain blanks (text_of packet place)

-- the law
pub token_ends_are_of_chains : (tables : TableEntries) (state : Option Known) (header : Header) → TokensAreChains header → TokenEndsAreOfChains tables state header
unfolding partition_ends_of
token_ends_are_of_chains tables state header chains packet accepted =
    rw (ends_after_state tables state packet, accepted) (λ k inside others one. token_end_is_of_chain header (columns_of state packet header) (frame_modes tables header (known_before packet state)).records (zeros_of state packet header) packet k
    chains (places_inside tables (context_in state) packet header accepted) inside others one)
