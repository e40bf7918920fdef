-- The bits of a macroblock's tokens, by the chains of reads of its partition.
use Rattle.std.proofs.Common.{◌≡◌, ℕ, suc, ◌+◌, ◌-◌, ◌*◌, ◌<◌, List, [], length, refl, sym, subst, ap, ◌∙◌, arith, add-one, inr, Option, Some}
use Rattle.std.specs.Prelude.{◌%◌, ◌/◌, slice_get, slice_index_or}
use Rattle.std.proofs.lemmas.List.{get_or-set_same, length-map}
use Rattle.std.proofs.lemmas.Nat.{mod_below}
use Rattle.bool_coder.specs.Chains.{IsChain}
use Rattle.bool_coder.specs.Reader.{Reader, started}
use Rattle.bool_coder.specs.Taken.{marked, taken_from}
use Rattle.bool_coder.proofs.Marks.{marks-left}
use Rattle.frame_header.specs.declared.header.Header.{Header}
use Rattle.frame_header.specs.declared.places.PartitionRange.{PartitionRange}
use Rattle.mode_parser.specs.declared.records.MbMode.{MbMode}
use Rattle.reference_frames.specs.FrameTokens.{TokenState, token_state, tokens_at, tokens_start}
use Rattle.macroblock_lists.specs.Macroblocks.{bits_at}
use Rattle.macroblock_lists.specs.PartitionEnds.{marked_start, marked_text, no_place}
use Rattle.macroblock_lists.specs.Known.{Known}
use Rattle.vp8_tables.specs.Tables.{TableEntries}
use Rattle.macroblock_lists.specs.ChainEnds.{text_of}
use Rattle.macroblock_lists.specs.FirstChains.{columns_of, zeros_of}
use Rattle.macroblock_lists.specs.TokenBits.{TokenBitsAreOfChains, records_of}
use Rattle.macroblock_lists.specs.TokenChains.{TokensAreChains, reader_in, token_reading, with_reader}
use Rattle.macroblock_lists.proofs.TokenChains.{length-kept}
use Rattle.macroblock_lists.proofs.TokenEnds.{mixed-all, mixed-first}

-- the bits that are left of a marked partition after n macroblocks, by the chain over its own text
left-by-chain : (header : Header) (columns : ℕ) (modes : List MbMode) (n blanks : ℕ) (packet : List ℕ) (k : ℕ) → TokensAreChains header → k < length header.partitions.items
    → ((j : ℕ) → j < length header.partitions.items → 0 < length (reader_in (token_state header columns (marked_start blanks header.partitions.items packet columns) modes n) j).rest)
    → (one : IsChain (token_reading header columns (tokens_start header.partitions.items packet columns) modes n k))
    → length (reader_in (token_state header columns (marked_start blanks header.partitions.items packet columns) modes n) k).rest
    ≡ 8 * (length (text_of packet (slice_index_or header.partitions.items k no_place)) + blanks + 1) - taken_from one.chain (text_of packet (slice_index_or header.partitions.items k no_place))
unfolding token_reading
left-by-chain header columns modes n blanks packet k chains inside some one =
    let places : List PartitionRange = header.partitions.items in
    let marks : TokenState = token_state header columns (marked_start blanks places packet columns) modes n in
    let mixed = mixed-first header columns modes n blanks packet places k (length places) chains (omega arith) (λ j valid apart. some j valid) in
    let own_text : List ℕ = text_of packet (slice_index_or places k no_place) in
    let text : Reader = started (marked blanks own_text) in
    let start : mixed.0 ≡ with_reader (tokens_start places packet columns) k text = mixed-all header columns modes n blanks packet places k mixed.0 mixed.1 inside in
    let read : (token_reading header columns (tokens_start places packet columns) modes n k text).1 ≡ reader_in marks k =
    ap (λ (state : TokenState). reader_in (token_state header columns state modes n) k) (sym start) ∙ mixed.1.kept k (inr refl) in
    ap (λ (r : Reader). length r.rest) (sym read) ∙ ap (λ (t : TokenState × Reader). length t.1.rest) (one.same text) ∙ marks-left one.chain own_text blanks

-- the reader of its partition after a macroblock
reader-after : (header : Header) (columns : ℕ) (start : TokenState) (modes : List MbMode) (n k : ℕ) (mode : MbMode) → slice_get modes n ≡ Some mode → k < length start.readers → n / columns % length start.readers ≡ k
    → reader_in (token_state header columns start modes (suc n)) k ≡ (tokens_at header.context.probabilities.coefficients (token_state header columns start modes n) (n % columns) (n / columns) mode).1
unfolding token_state
reader-after header columns start modes n k mode found inside here =
    let before : TokenState = token_state header columns start modes n in
    let long : length before.readers ≡ length start.readers = length-kept header columns start modes n in
    let place : n / columns % length before.readers ≡ k = ap (λ (m : ℕ). n / columns % m) long ∙ here in
    rw (found, place) (get_or-set_same before.readers k _ (started []) (rw long inside))

less : (all one two : ℕ) → 0 < all - two → (all - one) - (all - two) ≡ two - one
less all one two some = omega arith

-- the bits of the tokens of a macroblock
bits-by-chains : (header : Header) (columns : ℕ) (modes : List MbMode) (n next blanks : ℕ) (packet : List ℕ) (k : ℕ) (mode : MbMode) → suc n ≡ next → TokensAreChains header → slice_get modes n ≡ Some mode
    → k < length header.partitions.items → n / columns % length header.partitions.items ≡ k
    → ((j : ℕ) → j < length header.partitions.items → 0 < length (reader_in (token_state header columns (marked_start blanks header.partitions.items packet columns) modes n) j).rest)
    → ((j : ℕ) → j < length header.partitions.items → 0 < length (reader_in (token_state header columns (marked_start blanks header.partitions.items packet columns) modes next) j).rest)
    → (one : IsChain (token_reading header columns (tokens_start header.partitions.items packet columns) modes n k))
    → (two : IsChain (token_reading header columns (tokens_start header.partitions.items packet columns) modes next k))
    → bits_at header.context.probabilities.coefficients (token_state header columns (marked_start blanks header.partitions.items packet columns) modes n) (n % columns) (n / columns) mode
    ≡ taken_from two.chain (text_of packet (slice_index_or header.partitions.items k no_place)) - taken_from one.chain (text_of packet (slice_index_or header.partitions.items k no_place))
bits-by-chains header columns modes n next blanks packet k mode follows chains found inside here some more one two =
    let places : List PartitionRange = header.partitions.items in
    let start : TokenState = marked_start blanks places packet columns in
    let before : TokenState = token_state header columns start modes n in
    let count : length start.readers ≡ length places = length-map places (λ (place : PartitionRange). started (marked_text blanks packet place)) in
    let within : k < length start.readers = rw count inside in
    let there : n / columns % length start.readers ≡ k = ap (λ (m : ℕ). n / columns % m) count ∙ here in
    let own : List ℕ = text_of packet (slice_index_or places k no_place) in
    let all : ℕ = 8 * (length own + blanks + 1) in
    let place : n / columns % length before.readers ≡ k = ap (λ (m : ℕ). n / columns % m) (length-kept header columns start modes n) ∙ there in
    let left_one : length (reader_in before k).rest ≡ all - taken_from one.chain own = left-by-chain header columns modes n blanks packet k chains inside some one in
    let left_two : length (reader_in (token_state header columns start modes next) k).rest ≡ all - taken_from two.chain own = left-by-chain header columns modes next blanks packet k chains inside more two in
    let some_left : 0 < all - taken_from two.chain own = subst (λ (m : ℕ). 0 < m) left_two (more k inside) in
    let after : length (tokens_at header.context.probabilities.coefficients before (n % columns) (n / columns) mode).1.rest ≡ all - taken_from two.chain own =
    ap (λ (r : Reader). length r.rest) (sym (reader-after header columns start modes n k mode found within there))
    ∙ ap (λ (m : ℕ). length (reader_in (token_state header columns start modes m) k).rest) follows ∙ left_two in
    ap (λ (m : ℕ). length (reader_in before m).rest - length (tokens_at header.context.probabilities.coefficients before (n % columns) (n / columns) mode).1.rest) place
    ∙ ap (λ (m : ℕ). m - length (tokens_at header.context.probabilities.coefficients before (n % columns) (n / columns) mode).1.rest) left_one
    ∙ ap (λ (m : ℕ). (all - taken_from one.chain own) - m) after
    ∙ less all (taken_from one.chain own) (taken_from two.chain own) some_left

-- the law
pub token_bits_are_of_chains : (tables : TableEntries) (known : Option Known) (header : Header) → TokensAreChains header → TokenBitsAreOfChains tables known header
token_bits_are_of_chains tables known header chains packet n mode state facts accepted found some before more one two =
    let columns : ℕ = columns_of known packet header in
    let k : ℕ = n / columns % length header.partitions.items in
    bits-by-chains header columns (records_of tables known packet header) n (n + 1) (zeros_of known packet header) packet k mode (sym (add-one n)) chains found
    (mod_below (n / columns) (length header.partitions.items) some) refl before more one two
