-- The outcomes of a stream, a packet at a time.
use Rattle.std.proofs.Common.{◌≡◌, ℕ, suc, zero, ◌+◌, ◌<◌, List, [], ◌∷◌, ◌++◌, Some, None, Ok, length, take, slice_get, refl, sym, ap, ◌∙◌, arith, add-zero, zero-add, add-one}
use Rattle.vp8_tables.specs.declared.tables.Tables.{Tables}
use Rattle.stream_steps.specs.Decoding.{Outcome, Progress, outcome, outcomes, outcomes_from, left_by}

-- the situation after packets; the first has the index `place`
abbrev pub progress_after : Tables → ℕ → Progress → List (List ℕ) → Progress
progress_after tables place progress [] = progress
progress_after tables place progress (packet ∷ packets) =
    progress_after tables (place + 1) (left_by (outcome tables place progress packet)) packets

-- the situation after one more packet
pub progress_after-more : (tables : Tables) (place : ℕ) (progress : Progress) (xs : List (List ℕ)) (y : List ℕ) → progress_after tables place progress (xs ++ y ∷ []) ≡ left_by (outcome tables (place + length xs) (progress_after tables place progress xs) y)
progress_after-more tables place progress [] y = rw add-zero refl
progress_after-more tables place progress (x ∷ xs) y =
    let here = progress_after-more tables (place + 1) (left_by (outcome tables place progress x)) xs y in
    let moved : place + suc (length xs) ≡ place + 1 + length xs = omega arith in
    rw moved here

-- the outcome at an index is the outcome of its packet after the packets before it
pub outcomes_from-at : (tables : Tables) (place : ℕ) (progress : Progress) (xs : List (List ℕ)) (i : ℕ) (y : List ℕ) → slice_get xs i ≡ Some y → slice_get (outcomes_from tables place progress xs) i ≡ Some (outcome tables (place + i) (progress_after tables place progress (take i xs)) y)
outcomes_from-at tables place progress [] i y h = cc
outcomes_from-at tables place progress (x ∷ xs) zero y h = let same : x ≡ y = cc in rw (same, add-zero) refl
outcomes_from-at tables place progress (x ∷ xs) (suc i) y h =
    let here = outcomes_from-at tables (place + 1) (left_by (outcome tables place progress x)) xs i y h in
    let moved : place + suc i ≡ place + 1 + i = omega arith in
    rw moved here

-- the packets up to an index, and how many are before it
taken_next : (ps : List (List ℕ)) (i : ℕ) (p : List ℕ) → slice_get ps i ≡ Some p → take (suc i) ps ≡ take i ps ++ p ∷ []
taken_next [] i p here = cc
taken_next (x ∷ ps) zero p here = let same : x ≡ p = cc in ap (λ (y : List ℕ). y ∷ []) same
taken_next (x ∷ ps) (suc i) p here = ap (λ (ys : List (List ℕ)). x ∷ ys) (taken_next ps i p here)

taken_more : (ps : List (List ℕ)) (i : ℕ) (p : List ℕ) → slice_get ps i ≡ Some p → take (i + 1) ps ≡ take i ps ++ p ∷ []
taken_more ps i p here = rw add-one (taken_next ps i p here)

places_before : (ps : List (List ℕ)) (i : ℕ) (p : List ℕ) → slice_get ps i ≡ Some p → length (take i ps) ≡ i
places_before [] i p here = cc
places_before (x ∷ ps) zero p here = refl
places_before (x ∷ ps) (suc i) p here = ap suc (places_before ps i p here)

-- the situation after the packet at an index, from the situation before it
pub stands_more : (tables : Tables) (ps : List (List ℕ)) (i : ℕ) (p : List ℕ) (progress : Progress) (o : Outcome) → slice_get ps i ≡ Some p → progress ≡ progress_after tables 0 (Ok None) (take i ps) → outcome tables i progress p ≡ o → left_by o ≡ progress_after tables 0 (Ok None) (take (i + 1) ps)
stands_more tables ps i p progress o found before here =
    let before_it : List (List ℕ) = take i ps in
    let place : 0 + length before_it ≡ i = zero-add (length before_it) ∙ places_before ps i p found in
    let more : progress_after tables 0 (Ok None) (before_it ++ p ∷ []) ≡ left_by (outcome tables (0 + length before_it) (progress_after tables 0 (Ok None) before_it) p) = progress_after-more tables 0 (Ok None) before_it p in
    let placed : left_by (outcome tables (0 + length before_it) (progress_after tables 0 (Ok None) before_it) p) ≡ left_by (outcome tables i progress p) =
    ap (λ (k : ℕ). left_by (outcome tables k (progress_after tables 0 (Ok None) before_it) p)) place ∙ ap (λ (s : Progress). left_by (outcome tables i s p)) (sym before) in
    sym (ap (λ (bs : List (List ℕ)). progress_after tables 0 (Ok None) bs) (taken_more ps i p found) ∙ more ∙ placed ∙ ap left_by here)

-- the outcome at an index is the outcome of its packet in the situation before it
pub outcome_found : (tables : Tables) (ps : List (List ℕ)) (i : ℕ) (p : List ℕ) (progress : Progress) → slice_get ps i ≡ Some p → progress ≡ progress_after tables 0 (Ok None) (take i ps) → slice_get (outcomes tables ps) i ≡ Some (outcome tables i progress p)
outcome_found tables ps i p progress found before =
    outcomes_from-at tables 0 (Ok None) ps i p found
    ∙ ap (λ (k : ℕ). Some (outcome tables k (progress_after tables 0 (Ok None) (take i ps)) p)) (zero-add i)
    ∙ ap (λ (s : Progress). Some (outcome tables i s p)) (sym before)

-- each packet has an outcome
pub outcome_present : (tables : Tables) (place : ℕ) (progress : Progress) (ps : List (List ℕ)) (i : ℕ) → i < length ps → (want : Outcome) × (slice_get (outcomes_from tables place progress ps) i ≡ Some want)
outcome_present tables place progress [] i within = absurd (omega arith)
outcome_present tables place progress (p ∷ ps) zero within = (outcome tables place progress p, refl)
outcome_present tables place progress (p ∷ ps) (suc i) within = outcome_present tables (place + 1) (left_by (outcome tables place progress p)) ps i (omega arith)
