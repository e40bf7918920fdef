-- The outcome cached at a usable index is the result of decoding from the start.
use Rattle.std.proofs.Common.{◌≡◌, ℕ, zero, suc, ◌+◌, ◌<◌, ◌≤◌, Bool, true, false, cond, not, ◌&&◌, ◌||◌, List, [], ◌∷◌, ◌++◌, Option, Some, None, Result, Ok, Err, length, map, take, drop, slice_get, refl, sym, ap, subst, ◌∙◌, arith, add-zero}
use Rattle.vp8_tables.specs.Tables.{TableEntries}
use Rattle.frame_header.specs.Tags.{has_key_tag}
use Rattle.frame_header.specs.declared.cause.Cause.{Cause}
use Rattle.pixel_planes.specs.Pictures.{PictureSamples}
use Rattle.reference_frames.specs.declared.states.State.{State}
use Rattle.reference_frames.specs.Steps.{step_of}
use Rattle.stream_steps.specs.declared.broken.Broken.{Broken}
use Rattle.state_cache.specs.declared.outcomes.Kept.{Kept}
use Rattle.stream_steps.specs.Decoding.{Outcome, Progress, following, left_by, outcome, outcomes, reported_at}
use Rattle.state_cache.specs.Reaching.{Begins, state_cached_before, state_from}
use Rattle.state_cache.specs.Views.{Before, CoherentFrom, Fits, Follows, IsCoherent, MarkedPacket, View, entering, failed, is_usable, key_at, known, known_after, leaving, step_result, trusted_after, unknown}
use Rattle.stream_steps.proofs.Decoded.{outcome_found, stands_more, progress_after}
use Rattle.state_cache.proofs.Known.{coherent_parts}
use Rattle.state_cache.proofs.Marked.{split_here}
use Rattle.state_cache.proofs.Steps.{begins_stands, both_true, key_here, usable_here}

-- if it is trusted, the known state is the state of decoding
abbrev pub Tied : Bool → Before → Progress → Type 0
Tied false before progress = Unit {0}
Tied true unknown progress = ⊥
Tied true (known state) progress = progress ≡ Ok state
Tied true failed progress = (broken : Broken) × (progress ≡ Err broken)

abbrev pub bytes_of : List MarkedPacket → List (List ℕ)
bytes_of xs = map (λ (p : MarkedPacket). p.bytes) xs

taken_bytes : (xs : List MarkedPacket) (n : ℕ) → bytes_of (take n xs) ≡ take n (bytes_of xs)
taken_bytes [] zero = refl
taken_bytes [] (suc n) = refl
taken_bytes (x ∷ xs) zero = refl
taken_bytes (x ∷ xs) (suc n) = ap (λ (bs : List (List ℕ)). x.bytes ∷ bs) (taken_bytes xs n)

pub got_bytes : (xs : List MarkedPacket) (i : ℕ) (p : MarkedPacket) → slice_get xs i ≡ Some p → slice_get (bytes_of xs) i ≡ Some p.bytes
got_bytes [] i p h = cc
got_bytes (x ∷ xs) zero p h = let e : x ≡ p = cc in ap (λ (y : MarkedPacket). Some y.bytes) e
got_bytes (x ∷ xs) (suc i) p h = got_bytes xs i p h

pub present : (xs : List MarkedPacket) (i : ℕ) → i < length xs → (p : MarkedPacket) × (slice_get xs i ≡ Some p)
present [] i h = absurd (omega (arith, h))
present (x ∷ xs) zero h = (x, refl)
present (x ∷ xs) (suc i) h = present xs i (omega (arith, h))

module _ (tables : TableEntries) where
  told_ties : (place : ℕ) (state : Option State) (bytes : List ℕ) (o : Option Kept) (r : Result (State × PictureSamples) Cause) → step_of tables state bytes ≡ r → Fits tables (known state) bytes o → Tied true (leaving tables (known state) bytes o) (left_by (reported_at place (step_of tables state bytes)))
  told_ties place state bytes None (Ok decoded) e f = rw e refl
  told_ties place state bytes None (Err cause) e f = rw e (record { place = place; cause = cause }, refl)
  told_ties place state bytes (Some kept) r e f = rw f refl

  plain_ties : (place : ℕ) (t : Bool) (b : Before) (s : Progress) (bytes : List ℕ) (o : Option Kept) → Tied t b s → Fits tables b bytes o → Tied t (leaving tables b bytes o) (left_by (following tables place s bytes))
  plain_ties place false b s bytes o h f = tt
  plain_ties place true unknown s bytes o h f = absurd h
  plain_ties place true (known state) s bytes o h f = rw h (told_ties place state bytes o (step_of tables state bytes) refl f)
  plain_ties place true failed s bytes None h f = (h.0, rw h.1 refl)
  plain_ties place true failed s bytes (Some kept) h f = absurd f

  step_ties : (place : ℕ) (t k m : Bool) (b : Before) (s : Progress) (bytes : List ℕ) (o : Option Kept) → Tied t b s → Fits tables (cond k (known None) (cond m unknown b)) bytes o
      → Tied (k || (not m && t)) (leaving tables (cond k (known None) (cond m unknown b)) bytes o) (left_by (cond k (reported_at place (step_of tables None bytes)) (following tables place s bytes)))
  step_ties place t true m b s bytes o h f = told_ties place None bytes o (step_of tables None bytes) refl f
  step_ties place t false true b s bytes o h f = tt
  step_ties place t false false b s bytes o h f = plain_ties place t b s bytes o h f

  ties_after : (place : ℕ) (t : Bool) (b : Before) (s : Progress) (xs : List MarkedPacket) (kept : View) → Tied t b s → CoherentFrom tables b xs kept → Tied (trusted_after t xs) (known_after tables b xs kept) (progress_after tables place s (bytes_of xs))
  ties_after place t b s [] kept h f = h
  ties_after place t b s (x ∷ xs) kept h f =
      ties_after (place + 1) (has_key_tag x.bytes || (not x.marked && t)) (leaving tables (entering b x) x.bytes (kept x.id)) (left_by (outcome tables place s x.bytes)) xs kept
      (step_ties place t (has_key_tag x.bytes) x.marked b s x.bytes (kept x.id) h f.0) f.1

  plain_true : (place : ℕ) (b : Before) (s : Progress) (bytes : List ℕ) (kept : Kept) → Tied true b s → Follows tables b bytes kept → following tables place s bytes ≡ Ok (step_result kept)
  plain_true place unknown s bytes kept h f = absurd h
  plain_true place (known state) s bytes kept h f = rw (h, f) refl
  plain_true place failed s bytes kept h f = absurd f

  here_true : (place : ℕ) (t k m : Bool) (b : Before) (s : Progress) (bytes : List ℕ) (kept : Kept) → (k || (not m && t)) ≡ true → Tied t b s → Follows tables (cond k (known None) (cond m unknown b)) bytes kept
      → cond k (reported_at place (step_of tables None bytes)) (following tables place s bytes) ≡ Ok (step_result kept)
  here_true place t true m b s bytes kept u h f = rw f refl
  here_true place t false true b s bytes kept u h f = cc
  here_true place true false false b s bytes kept u h f = plain_true place b s bytes kept h f
  here_true place false false false b s bytes kept u h f = cc

  module _ (xs : List MarkedPacket) (kept : View) (coherent : IsCoherent tables xs kept) where
    -- the situation before an index
    abbrev stands_at : ℕ → Progress
    stands_at i = progress_after tables 0 (Ok None) (take i (bytes_of xs))

    before_ties : (i : ℕ) (p : MarkedPacket) → slice_get xs i ≡ Some p → Tied (trusted_after true (take i xs)) (known_after tables (known None) (take i xs) kept) (stands_at i)
    before_ties i p h =
        let all : CoherentFrom tables (known None) (take i xs ++ p ∷ drop (suc i) xs) kept = subst (λ zs. IsCoherent tables zs kept) (split_here xs i p h) coherent in
        let parts = coherent_parts tables (known None) (take i xs) (p ∷ drop (suc i) xs) kept all in
        subst (λ (bs : List (List ℕ)). Tied (trusted_after true (take i xs)) (known_after tables (known None) (take i xs) kept) (progress_after tables 0 (Ok None) bs)) (taken_bytes xs i)
        (ties_after 0 true (known None) (Ok None) (take i xs) kept refl parts.0)

    -- the outcome cached at a usable index is the outcome of decoding
    pub kept_true : (i : ℕ) (p : MarkedPacket) (k : Kept) → slice_get xs i ≡ Some p → kept p.id ≡ Some k → is_usable xs kept i ≡ true → slice_get (outcomes tables (bytes_of xs)) i ≡ Some (Ok (step_result k))
    kept_true i p k h e u =
        let all : CoherentFrom tables (known None) (take i xs ++ p ∷ drop (suc i) xs) kept = subst (λ zs. IsCoherent tables zs kept) (split_here xs i p h) coherent in
        let parts = coherent_parts tables (known None) (take i xs) (p ∷ drop (suc i) xs) kept all in
        let follows : Follows tables (entering (known_after tables (known None) (take i xs) kept) p) p.bytes k = subst (λ o. Fits tables (entering (known_after tables (known None) (take i xs) kept) p) p.bytes o) e parts.1.0 in
        let trust = both_true _ _ (sym (usable_here xs kept i p h) ∙ u) in
        outcome_found tables (bytes_of xs) i p.bytes (stands_at i) (got_bytes xs i p h) refl
        ∙ ap (λ (o : Outcome). Some o) (here_true i (trusted_after true (take i xs)) (has_key_tag p.bytes) p.marked (known_after tables (known None) (take i xs) kept) (stands_at i) p.bytes k trust.1 (before_ties i p h) follows)

    -- a packet that is refused at an index where steps begin breaks the stream there
    refused_case : (i : ℕ) (p : MarkedPacket) (k : Bool) (cause : Cause) → slice_get xs i ≡ Some p → has_key_tag p.bytes ≡ k → Begins xs kept i → step_of tables (cond k None (state_cached_before xs kept i)) p.bytes ≡ Err cause
        → cond k (reported_at i (step_of tables None p.bytes)) (following tables i (stands_at i) p.bytes) ≡ Err (record { place = i; cause = cause })
    refused_case i p true cause h e b s = rw s refl
    refused_case i p false cause h e b s =
        let packet_is = begins_stands tables xs kept i p h e b in
        let ties = before_ties i p h in
        let tied : stands_at i ≡ Ok (state_cached_before xs kept i) = rw (packet_is.known_is, packet_is.trusted) at ties in
        rw (tied, s) refl

    pub refused_true : (i : ℕ) (p : MarkedPacket) (cause : Cause) → slice_get xs i ≡ Some p → Begins xs kept i → step_of tables (state_from xs kept i) p.bytes ≡ Err cause → slice_get (outcomes tables (bytes_of xs)) i ≡ Some (Err (record { place = i; cause = cause }))
    refused_true i p cause h b s =
        outcome_found tables (bytes_of xs) i p.bytes (stands_at i) (got_bytes xs i p h) refl
        ∙ ap (λ (o : Outcome). Some o) (refused_case i p (has_key_tag p.bytes) cause h refl b (ap (λ (k : Bool). step_of tables (cond k None (state_cached_before xs kept i)) p.bytes) (sym (key_here xs i p h)) ∙ s))

    -- and it stays broken up to the next key tag
    pub stays_broken : (m : ℕ) (broken : Broken) → slice_get (outcomes tables (bytes_of xs)) m ≡ Some (Err broken) → (n : ℕ) → ((q : ℕ) → m < q → q ≤ m + n → key_at xs q ≡ false) → m + n < length xs → slice_get (outcomes tables (bytes_of xs)) (m + n) ≡ Some (Err broken)
    stays_broken m broken at_m zero none within = ap (slice_get (outcomes tables (bytes_of xs))) (add-zero m) ∙ at_m
    stays_broken m broken at_m (suc n) none within =
        let before = stays_broken m broken at_m n (λ q a b. none q a (omega (arith, b))) (omega (arith, within)) in
        let p = present xs (m + n) (omega (arith, within)) in
        let y = present xs (m + suc n) within in
        let told_there : Some (outcome tables (m + n) (stands_at (m + n)) p.0.bytes) ≡ Some (Err broken) = sym (outcome_found tables (bytes_of xs) (m + n) p.0.bytes (stands_at (m + n)) (got_bytes xs (m + n) p.0 p.1) refl) ∙ before in
        let is : outcome tables (m + n) (stands_at (m + n)) p.0.bytes ≡ Err broken = cc in
        let left : Err broken ≡ progress_after tables 0 (Ok None) (take (m + n + 1) (bytes_of xs)) = stands_more tables (bytes_of xs) (m + n) p.0.bytes (stands_at (m + n)) (Err broken) (got_bytes xs (m + n) p.0 p.1) refl is in
        let next : m + n + 1 ≡ m + suc n = omega arith in
        let plain : has_key_tag y.0.bytes ≡ false = sym (key_here xs (m + suc n) y.0 y.1) ∙ none (m + suc n) (omega arith) (omega arith) in
        outcome_found tables (bytes_of xs) (m + suc n) y.0.bytes (Err broken) (got_bytes xs (m + suc n) y.0 y.1) (left ∙ ap (λ (k : ℕ). progress_after tables 0 (Ok None) (take k (bytes_of xs))) next)
        ∙ rw plain refl
