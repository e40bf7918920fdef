-- What decoding reads of a token partition is a chain of reads.
use Rattle.std.proofs.Common.{◌≡◌, ◌≢◌, ℕ, zero, suc, ◌<◌, Bool, true, false, List, [], ◌∷◌, length, get_or, refl, sym, ap, ◌∙◌, inl, inr, Option, Some, None}
use Rattle.std.specs.Prelude.{◌%◌, ◌/◌, ◌==◌, if◌then◌else◌, slice_get, slice_set}
use Rattle.std.proofs.lemmas.Bool.Decides.{eqb_tells}
use Rattle.std.proofs.lemmas.List.{get_or-set_other, get_or-set_same, length-set, set-get_or}
use Rattle.bool_coder.specs.Chains.{IsChain}
use Rattle.bool_coder.specs.Reader.{Reader, started}
use Rattle.bool_coder.specs.Reading.{Reading, ◌>>=◌, give}
use Rattle.bool_coder.proofs.Chains.{bind-chain, give-chain, if-chain}
use Rattle.frame_header.specs.declared.header.Header.{Header}
use Rattle.mode_parser.specs.declared.records.MbMode.{MbMode}
use Rattle.token_parser.specs.Blocks.{macroblock, skipped}
use Rattle.token_parser.specs.declared.tokens.Tokens.{Tokens}
use Rattle.reference_frames.specs.FrameTokens.{TokenState, flags_at, has_y2, partition_of, state_after, state_with, token_state, tokens_at}
use Rattle.macroblock_lists.specs.TokenChains.{TokensAreChains, TokensAreReadSo, reader_in, token_reading, with_reader, without_reader}
use Rattle.macroblock_lists.proofs.FirstChains.{same-chain}

-- the tokens of one macroblock, as a reading of its row's partition
abbrev pub mode_tokens : List ℕ → Tokens → MbMode → Reading Tokens
mode_tokens probs flags mode = if mode.is_skipped then give (skipped (has_y2 mode.y_mode) flags) else macroblock probs (has_y2 mode.y_mode) flags

by-skip : (is_skipped : Bool) (none : Tokens) (some : Reading Tokens) (r : Reader) → ◌≡◌ {A = Tokens × Reader} (if is_skipped then (none, r) else some r) ((if is_skipped then give none else some) r)
by-skip true none some r = refl
by-skip false none some r = refl

pub tokens-are : (probs : List ℕ) (state : TokenState) (column row : ℕ) (mode : MbMode) → tokens_at probs state column row mode ≡ mode_tokens probs (flags_at state column) mode (reader_in state (partition_of state row))
unfolding tokens_at
tokens-are probs state column row mode = by-skip mode.is_skipped _ _ _

pub mode_tokens-chain : (probs : List ℕ) → ((y2 : Bool) (flags : Tokens) → IsChain (macroblock probs y2 flags)) → (flags : Tokens) (mode : MbMode) → IsChain (mode_tokens probs flags mode)
mode_tokens-chain probs chains flags mode = if-chain mode.is_skipped (give-chain (skipped (has_y2 mode.y_mode) flags)) (chains (has_y2 mode.y_mode) flags)

-- a reader set twice
set-twice : (readers : List Reader) (k : ℕ) (r s : Reader) → slice_set (slice_set readers k r) k s ≡ slice_set readers k s
set-twice [] k r s = refl
set-twice (x ∷ readers) zero r s = refl
set-twice (x ∷ readers) (suc k) r s = ap (λ (rest : List Reader). x ∷ rest) (set-twice readers k r s)

set-apart : (readers : List Reader) (j k : ℕ) (r s : Reader) → j ≢ k → slice_set (slice_set readers k r) j s ≡ slice_set (slice_set readers j s) k r
set-apart [] j k r s apart = refl
set-apart (x ∷ readers) zero zero r s apart = absurd (apart refl)
set-apart (x ∷ readers) zero (suc k) r s apart = refl
set-apart (x ∷ readers) (suc j) zero r s apart = refl
set-apart (x ∷ readers) (suc j) (suc k) r s apart = ap (λ (rest : List Reader). x ∷ rest) (set-apart readers j k r s (λ same. apart (ap suc same)))

-- the next macroblock, which reads this partition or another one
abbrev pub step_at : ℕ → ℕ → List ℕ → ℕ → ℕ → MbMode → TokenState → Reading TokenState
step_at k p probs column row mode state =
    if p == k then mode_tokens probs (flags_at state column) mode >>= (λ tokens. give (without_reader (state_with state column row (tokens, started [])) k))
    else give (without_reader (state_with state column row (tokens_at probs state column row mode)) k)

step-chain : (k p : ℕ) (probs : List ℕ) (column row : ℕ) (mode : MbMode) (state : TokenState) → ((y2 : Bool) (flags : Tokens) → IsChain (macroblock probs y2 flags)) → IsChain (step_at k p probs column row mode state)
step-chain k p probs column row mode state chains =
    if-chain (p == k) (bind-chain (mode_tokens-chain probs chains (flags_at state column) mode) (λ tokens. give-chain (without_reader (state_with state column row (tokens, started [])) k)))
    (give-chain (without_reader (state_with state column row (tokens_at probs state column row mode)) k))

-- the readers after it, if its row reads partition k or another one
same-readers : (readers : List Reader) (k p q : ℕ) (r x none : Reader) → p ≡ k → q ≡ k → slice_set (slice_set readers p none) k none ≡ slice_set (slice_set (slice_set readers k r) q x) k none
same-readers readers k p q r x none p_is q_is =
    rw (p_is, q_is) (set-twice readers k none none ∙ sym (set-twice (slice_set readers k r) k x none ∙ set-twice readers k r none))

other-readers : (readers : List Reader) (k p q : ℕ) (r x none : Reader) → p ≢ k → q ≡ p → slice_set (slice_set readers p x) k none ≡ slice_set (slice_set (slice_set readers k r) q x) k none
other-readers readers k p q r x none apart q_is =
    rw q_is (sym (ap (λ (rs : List Reader). slice_set rs k none) (set-apart readers p k r x apart) ∙ set-twice (slice_set readers p x) k r none))

state-same : (readers others : List Reader) (above : List (List Bool)) (left : List Bool) (r s : Reader) → readers ≡ others → r ≡ s
    → ◌≡◌ {A = TokenState × Reader} (record { readers = readers; above = above; left = left }, r) (record { readers = others; above = above; left = left }, s)
state-same readers others above left r s p q = cc

-- the state after it, and its reader
abbrev pub after-step : List ℕ → ℕ → ℕ → ℕ → MbMode → TokenState → TokenState × Reader
after-step probs k column row mode state =
    let after = state_with state column row (tokens_at probs state column row mode) in
    (without_reader after k, reader_in after k)

pub step-is : (probs : List ℕ) (k p column row : ℕ) (mode : MbMode) (state : TokenState) (r : Reader) → k < length state.readers → p ≡ row % length state.readers
    → step_at k p probs column row mode state r ≡ after-step probs k column row mode (with_reader state k r)
step-is probs k p column row mode state r inside p_is =
    let set : List Reader = slice_set state.readers k r in
    let q_is : row % length set ≡ p = ap (λ (n : ℕ). row % n) (length-set state.readers k r) ∙ sym p_is in
    let long : length set ≡ length state.readers = length-set state.readers k r in
    let read : tokens_at probs (with_reader state k r) column row mode ≡ mode_tokens probs (flags_at state column) mode (get_or set (row % length set) (started [])) = tokens-are probs (with_reader state k r) column row mode in
    elim (eqb_tells p k) [
      | inl same ↦
          let reader : get_or set (row % length set) (started []) ≡ r = rw (q_is, same.1) (get_or-set_same state.readers k r (started []) inside) in
          let here : tokens_at probs (with_reader state k r) column row mode ≡ mode_tokens probs (flags_at state column) mode r = read ∙ ap (mode_tokens probs (flags_at state column) mode) reader in
          let t : Tokens × Reader = mode_tokens probs (flags_at state column) mode r in
          let place : row % length set ≡ k = q_is ∙ same.1 in
          let last : get_or (slice_set set (row % length set) t.1) k (started []) ≡ t.1 = rw place (get_or-set_same set k t.1 (started []) (rw long inside)) in
          rw (same.0, here) (state-same _ _ _ _ _ _ (same-readers state.readers k (row % length state.readers) (row % length set) r t.1 (started []) (sym p_is ∙ same.1) place) (sym last))
      | inr apart ↦
          let far : row % length state.readers ≢ k = λ same. apart.1 (p_is ∙ same) in
          let place : row % length set ≡ row % length state.readers = ap (λ (n : ℕ). row % n) long in
          let reader : get_or set (row % length set) (started []) ≡ get_or state.readers (row % length state.readers) (started []) = rw place (get_or-set_other state.readers k (row % length state.readers) r (started []) far) in
          let t : Tokens × Reader = tokens_at probs state column row mode in
          let there : tokens_at probs (with_reader state k r) column row mode ≡ t = read ∙ ap (mode_tokens probs (flags_at state column) mode) reader ∙ sym (tokens-are probs state column row mode) in
          let behind : k ≢ row % length set = λ same. far (sym place ∙ sym same) in
          let last : get_or (slice_set set (row % length set) t.1) k (started []) ≡ r = get_or-set_other set (row % length set) k t.1 (started []) behind ∙ get_or-set_same state.readers k r (started []) inside in
          rw (apart.0, there) (state-same _ _ _ _ _ _ (other-readers state.readers k (row % length state.readers) (row % length set) r t.1 (started []) far place) (sym last))
    ]

-- each macroblock leaves as many readers
kept-by : (header : Header) (columns : ℕ) (state : TokenState) (place : ℕ) (mode : Option MbMode) → length (state_after header columns state place mode).readers ≡ length state.readers
kept-by header columns state place None = refl
kept-by header columns state place (Some mode) = length-set state.readers _ _

pub length-kept : (header : Header) (columns : ℕ) (start : TokenState) (modes : List MbMode) (n : ℕ) → length (token_state header columns start modes n).readers ≡ length start.readers
unfolding token_state
length-kept header columns start modes zero = refl
length-kept header columns start modes (suc n) = kept-by header columns (token_state header columns start modes n) n (slice_get modes n) ∙ length-kept header columns start modes n

-- a state with its own reader
own-reader : (state : TokenState) (k : ℕ) → with_reader (without_reader state k) k (reader_in state k) ≡ state
own-reader state k =
    ap (λ (readers : List Reader). let same : TokenState = record { readers = readers; above = state.above; left = state.left } in same) (set-twice state.readers k (started []) (reader_in state k) ∙ set-get_or state.readers k (started []))

-- the reading of one macroblock more
next-is : (header : Header) (columns : ℕ) (start : TokenState) (modes : List MbMode) (n k : ℕ) (mode : MbMode) (r : Reader) → k < length start.readers → slice_get modes n ≡ Some mode
    → token_reading header columns start modes (suc n) k r
    ≡ (token_reading header columns start modes n k >>= step_at k (n / columns % length start.readers) header.context.probabilities.coefficients (n % columns) (n / columns) mode) r
unfolding token_reading token_state
next-is header columns start modes n k mode r inside found =
    let probs : List ℕ = header.context.probabilities.coefficients in
    let before : TokenState = token_state header columns (with_reader start k r) modes n in
    let long : length (without_reader before k).readers ≡ length start.readers = length-set before.readers k (started []) ∙ length-kept header columns (with_reader start k r) modes n ∙ length-set start.readers k r in
    let p_is : n / columns % length start.readers ≡ n / columns % length (without_reader before k).readers = ap (λ (m : ℕ). n / columns % m) (sym long) in
    let step = step-is probs k (n / columns % length start.readers) (n % columns) (n / columns) mode (without_reader before k) (reader_in before k) (rw long inside) p_is in
    rw found (sym (step ∙ ap (after-step probs k (n % columns) (n / columns) mode) (own-reader before k)))

same-is : (header : Header) (columns : ℕ) (start : TokenState) (modes : List MbMode) (n k : ℕ) (r : Reader) → slice_get modes n ≡ None
    → token_reading header columns start modes (suc n) k r ≡ token_reading header columns start modes n k r
unfolding token_reading token_state
same-is header columns start modes n k r none = rw none refl

first-is : (header : Header) (columns : ℕ) (start : TokenState) (modes : List MbMode) (k : ℕ) (r : Reader) → k < length start.readers → token_reading header columns start modes 0 k r ≡ give (without_reader start k) r
unfolding token_reading token_state
first-is header columns start modes k r inside =
    state-same _ _ _ _ _ _ (set-twice start.readers k r (started [])) (get_or-set_same start.readers k r (started []) inside)

more-chain : (header : Header) (columns : ℕ) (start : TokenState) (modes : List MbMode) (n k : ℕ) (mode : Option MbMode) → ((y2 : Bool) (flags : Tokens) → IsChain (macroblock header.context.probabilities.coefficients y2 flags))
    → k < length start.readers → slice_get modes n ≡ mode → IsChain (token_reading header columns start modes n k) → IsChain (token_reading header columns start modes (suc n) k)
more-chain header columns start modes n k None chains inside found one = same-chain (λ r. same-is header columns start modes n k r found) one
more-chain header columns start modes n k (Some mode) chains inside found one =
    same-chain (λ r. next-is header columns start modes n k mode r inside found)
    (bind-chain one (λ state. step-chain k (n / columns % length start.readers) header.context.probabilities.coefficients (n % columns) (n / columns) mode state chains))

pub token-chain : (header : Header) → ((y2 : Bool) (flags : Tokens) → IsChain (macroblock header.context.probabilities.coefficients y2 flags)) → TokensAreChains header
token-chain header chains columns start modes zero k inside = same-chain (λ r. first-is header columns start modes k r inside) (give-chain (without_reader start k))
token-chain header chains columns start modes (suc n) k inside = more-chain header columns start modes n k _ chains inside refl (token-chain header chains columns start modes n k inside)

-- the reading from a state's own reader
pub tokens_are_read_so : TokensAreReadSo
unfolding token_reading
tokens_are_read_so header columns start modes n k =
    ap (λ (state : TokenState). let after = token_state header columns state modes n in let read : TokenState × Reader = (without_reader after k, reader_in after k) in read)
    (ap (λ (readers : List Reader). let same : TokenState = record { readers = readers; above = start.above; left = start.left } in same) (set-get_or start.readers k (started [])))
