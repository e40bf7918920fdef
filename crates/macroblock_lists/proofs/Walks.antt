-- Tokens over marked partitions, and over the partitions themselves.
use Rattle.std.proofs.Common.{◌≡◌, ℕ, ◌+◌, ◌<◌, Bool, List, [], length, map, refl, sym, subst, ap, ◌∙◌, add-one, arith, inl, inr, Some}
use Rattle.std.specs.Prelude.{◌%◌, ◌/◌, slice_get, slice_index_or, slice_set}
use Rattle.std.proofs.lemmas.Bool.Decides.{eqb_tells}
use Rattle.std.proofs.lemmas.List.{get_or-map, get_or-set_other, get_or-set_same, length-map, length-replicate, length-set}
use Rattle.std.proofs.lemmas.Nat.{mod_below}
use Rattle.bool_coder.specs.Chains.{IsChain}
use Rattle.bool_coder.specs.Reader.{Reader, started}
use Rattle.bool_coder.specs.Reading.{Reading, ◌>>=◌, give}
use Rattle.bool_coder.specs.Taken.{marked}
use Rattle.bool_coder.proofs.Chains.{bind-chain, give-chain}
use Rattle.frame_header.specs.declared.header.Header.{Header}
use Rattle.frame_header.specs.declared.places.PartitionRange.{PartitionRange}
use Rattle.mode_parser.specs.declared.records.MbMode.{MbMode}
use Rattle.token_parser.specs.Blocks.{macroblock}
use Rattle.token_parser.specs.declared.tokens.Tokens.{Tokens}
use Rattle.reference_frames.specs.FrameTokens.{TokenState, flags_at, outside, reader_of, state_after, state_with, token_state, tokens_at, tokens_start}
use Rattle.macroblock_lists.specs.declared.frames.Walk.{Walk}
use Rattle.macroblock_lists.specs.Macroblocks.{left_at}
use Rattle.macroblock_lists.specs.PartitionEnds.{marked_start, marked_text, no_place}
use Rattle.macroblock_lists.specs.ProofsOnly.{AreAlike, IsAfter, IsReadAlike}
use Rattle.macroblock_lists.proofs.FirstRead.{same_or_none}
use Rattle.macroblock_lists.proofs.TokenChains.{length-kept, mode_tokens, mode_tokens-chain, tokens-are}

-- nothing is read yet
start-alike : (zeros : ℕ) (text : List ℕ) → IsReadAlike (started (marked zeros text)) (started text)
start-alike zeros text = record { text = text; zeros = zeros; reading = give tt; chain = give-chain tt; with_mark_is = refl; own_is = refl }

-- one reading more: the same value, and readers that are left alike, if bits are left
more-alike : {A : Type 0} (reading : Reading A) (with_mark own : Reader) → IsChain reading → IsReadAlike with_mark own → 0 < length (reading with_mark).1.rest
    → ((reading with_mark).0 ≡ (reading own).0) × IsReadAlike (reading with_mark).1 (reading own).1
more-alike {A = A} reading with_mark own chain alike some =
    let both : Reading A = alike.reading >>= (λ none. reading) in
    let is_both : IsChain both = bind-chain alike.chain (λ none. chain) in
    elim (same_or_none is_both alike.zeros alike.text) [
      | inl same ↦ (
        ap (λ (r : Reader). (reading r).0) (sym alike.with_mark_is) ∙ same ∙ ap (λ (r : Reader). (reading r).0) alike.own_is,
        record {
          text = alike.text;
          zeros = alike.zeros;
          reading = both >>= (λ x. give tt);
          chain = bind-chain is_both (λ x. give-chain tt);
          with_mark_is = ap (λ (r : Reader). (reading r).1) alike.with_mark_is;
          own_is = ap (λ (r : Reader). (reading r).1) alike.own_is;
        },
      )
      | inr none ↦ absurd (let gone : length (reading with_mark).1.rest ≡ 0 = ap (λ (r : Reader). length (reading r).1.rest) (sym alike.with_mark_is) ∙ none in omega arith)
    ]

-- before the first macroblock
pub starts-alike : (zeros : ℕ) (places : List PartitionRange) (packet : List ℕ) (columns : ℕ) → AreAlike (marked_start zeros places packet columns) (tokens_start places packet columns)
starts-alike zeros places packet columns =
    let count : length (map (reader_of packet) places) ≡ length places = length-map places (reader_of packet) in
    record {
      count = length-map places (λ (place : PartitionRange). started (marked_text zeros packet place)) ∙ sym count;
      above = refl;
      left = refl;
      readers = λ k inside.
          let within : k < length places = rw (sym count) inside in
          let with_mark = get_or-map (λ (place : PartitionRange). started (marked_text zeros packet place)) places k no_place (started []) within in
          let own = get_or-map (reader_of packet) places k no_place (started []) within in
          rw (with_mark, own) (start-alike zeros _);
    }

flags-alike : (marks own : TokenState) (column : ℕ) → AreAlike marks own → flags_at marks column ≡ flags_at own column
flags-alike marks own column alike = rw (alike.above, alike.left) refl

-- the readers after another one was read
set-alike : (marks own : TokenState) (p k : ℕ) (with_mark reader : Reader) → AreAlike marks own → IsReadAlike with_mark reader → p < length own.readers → k < length own.readers
    → IsReadAlike (slice_index_or (slice_set marks.readers p with_mark) k (started [])) (slice_index_or (slice_set own.readers p reader) k (started []))
set-alike marks own p k with_mark reader alike read inside valid =
    elim (eqb_tells k p) [
      | inl here ↦
          let first = get_or-set_same marks.readers p with_mark (started []) (rw alike.count inside) in
          let second = get_or-set_same own.readers p reader (started []) inside in
          rw (here.1, first, second) read
      | inr apart ↦
          let first = get_or-set_other marks.readers p k with_mark (started []) apart.1 in
          let second = get_or-set_other own.readers p k reader (started []) apart.1 in
          rw (first, second) (alike.readers k valid)
    ]

-- the next macroblock, if bits are left after it in the partition that it reads
pub next-alike : (probs : List ℕ) (marks own : TokenState) (column row : ℕ) (mode : MbMode) → ((y2 : Bool) (flags : Tokens) → IsChain (macroblock probs y2 flags))
    → AreAlike marks own → 0 < length own.readers → 0 < length (tokens_at probs marks column row mode).1.rest
    → ((tokens_at probs marks column row mode).0 ≡ (tokens_at probs own column row mode).0)
    × AreAlike (state_with marks column row (tokens_at probs marks column row mode)) (state_with own column row (tokens_at probs own column row mode))
next-alike probs marks own column row mode chains alike some left =
    let p : ℕ = row % length own.readers in
    let inside : p < length own.readers = mod_below row (length own.readers) some in
    let p_is : row % length marks.readers ≡ p = ap (λ (n : ℕ). row % n) alike.count in
    let reading : Reading Tokens = mode_tokens probs (flags_at own column) mode in
    let with_mark : Reader = slice_index_or marks.readers p (started []) in
    let reader : Reader = slice_index_or own.readers p (started []) in
    let ours : tokens_at probs own column row mode ≡ reading reader = tokens-are probs own column row mode in
    let theirs : tokens_at probs marks column row mode ≡ reading with_mark =
    tokens-are probs marks column row mode
    ∙ ap (λ (flags : Tokens). mode_tokens probs flags mode (slice_index_or marks.readers (row % length marks.readers) (started []))) (flags-alike marks own column alike)
    ∙ ap (λ (n : ℕ). reading (slice_index_or marks.readers n (started []))) p_is in
    let read = more-alike reading with_mark reader (mode_tokens-chain probs chains (flags_at own column) mode) (alike.readers p inside) (subst (λ (t : Tokens × Reader). 0 < length t.1.rest) theirs left) in
    let same : (tokens_at probs marks column row mode).0 ≡ (tokens_at probs own column row mode).0 = ap (λ (t : Tokens × Reader). t.0) theirs ∙ read.0 ∙ ap (λ (t : Tokens × Reader). t.0) (sym ours) in (
      same,
      record {
        count = length-set marks.readers _ _ ∙ alike.count ∙ sym (length-set own.readers _ _);
        above = ap (λ (above : List (List Bool)). slice_set above column (tokens_at probs marks column row mode).0.above) alike.above ∙ ap (λ (t : Tokens). slice_set own.above column t.above) same;
        left = ap (λ (t : Tokens). t.left) same;
        readers = λ k valid.
            let within : k < length own.readers = rw (sym (length-set own.readers p (tokens_at probs own column row mode).1)) valid in
            rw (p_is, theirs, ours) (set-alike marks own p k (reading with_mark).1 (reading reader).1 alike read.1 inside within);
      },
    )

-- the bits that are left in the partition that the macroblock reads
pub left-after : (probs : List ℕ) (state : TokenState) (column row : ℕ) (mode : MbMode) → 0 < length state.readers
    → left_at (state_with state column row (tokens_at probs state column row mode)) row ≡ length (tokens_at probs state column row mode).1.rest
left-after probs state column row mode some =
    let p : ℕ = row % length state.readers in
    let reader : Reader = (tokens_at probs state column row mode).1 in
    let p_is : row % length (slice_set state.readers p reader) ≡ p = ap (λ (n : ℕ). row % n) (length-set state.readers p reader) in
    ap (λ (k : ℕ). length (slice_index_or (slice_set state.readers p reader) k (started [])).rest) p_is
    ∙ ap (λ (r : Reader). length r.rest) (get_or-set_same state.readers p reader (started []) (mod_below row (length state.readers) some))

-- the state after one macroblock more
pub state-next : (header : Header) (columns : ℕ) (start old new : TokenState) (modes : List MbMode) (n : ℕ) (mode : MbMode) → slice_get modes n ≡ Some mode → old ≡ token_state header columns start modes n
    → new ≡ state_after header columns old n (Some mode) → new ≡ token_state header columns start modes (n + 1)
unfolding token_state
state-next header columns start old new modes n mode found so_far here = rw (add-one, found, ← so_far) here

-- the tokens over marked partitions, if bits are left after them
pub kept-alike : (header : Header) (columns n : ℕ) (modes : List MbMode) (start marks new : TokenState) (mode : MbMode) → ((y2 : Bool) (flags : Tokens) → IsChain (macroblock header.context.probabilities.coefficients y2 flags))
    → AreAlike marks (token_state header columns start modes n) → slice_get modes n ≡ Some mode → 0 < length start.readers
    → new ≡ state_after header columns marks n (Some mode) → 0 < left_at new (n / columns)
    → ((tokens_at header.context.probabilities.coefficients marks (n % columns) (n / columns) mode).0 ≡ (tokens_at header.context.probabilities.coefficients (token_state header columns start modes n) (n % columns) (n / columns) mode).0)
    × AreAlike new (token_state header columns start modes (n + 1))
kept-alike header columns n modes start marks new mode chains alike found some new_is left =
    let probs : List ℕ = header.context.probabilities.coefficients in
    let own : TokenState = token_state header columns start modes n in
    let readers : 0 < length own.readers = rw (length-kept header columns start modes n) some in
    let marked_readers : 0 < length marks.readers = rw alike.count readers in
    let here : 0 < left_at (state_after header columns marks n (Some mode)) (n / columns) = subst (λ (state : TokenState). 0 < left_at state (n / columns)) new_is left in
    let some_left : 0 < length (tokens_at probs marks (n % columns) (n / columns) mode).1.rest = subst (λ (bits : ℕ). 0 < bits) (left-after probs marks (n % columns) (n / columns) mode marked_readers) here in
    let both = next-alike probs marks own (n % columns) (n / columns) mode chains alike readers some_left in (
      both.0,
      subst (λ (state : TokenState). AreAlike state (token_state header columns start modes (n + 1))) (sym new_is)
          (subst (λ (state : TokenState). AreAlike (state_after header columns marks n (Some mode)) state) (state-next header columns start own (state_after header columns own n (Some mode)) modes n mode found refl refl) both.1),
    )

-- a walk before the first macroblock
pub walk-start : (header : Header) (columns zeros : ℕ) (modes : List MbMode) (places : List PartitionRange) (packet : List ℕ) (walk : Walk) → 0 < length places
    → walk.odds ≡ header.context.probabilities.coefficients → walk.marked ≡ marked_start zeros places packet columns → walk.own ≡ tokens_start places packet columns
    → IsAfter header columns modes 0 walk
unfolding token_state
walk-start header columns zeros modes places packet walk some odds marked_is own_is = record {
  odds = odds;
  marked_readers = rw (marked_is, length-map places (λ (place : PartitionRange). started (marked_text zeros packet place))) some;
  marked_above = rw marked_is (length-replicate columns outside);
  readers = rw (own_is, length-map places (reader_of packet)) some;
  above = rw own_is (length-replicate columns outside);
  alike = λ start. rw (marked_is, own_is) (starts-alike zeros places packet columns);
}
