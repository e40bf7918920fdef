-- Where a walk continues after a cached step, and which indexes are settled then.
use Rattle.std.proofs.Common.{◌≡◌, ℕ, ◌+◌, ◌<◌, ◌≤◌, Bool, true, false, not, ◌&&◌, ◌||◌, List, Option, Some, None, Ok, Err, is_some, length, slice_get, option_and_then, nat_eq, refl, sym, ap, subst, ◌∙◌, arith}
use Rattle.vp8_tables.specs.Tables.{TableEntries}
use Rattle.frame_header.specs.Tags.{has_key_tag}
use Rattle.reference_frames.specs.declared.states.State.{State}
use Rattle.state_cache.specs.declared.outcomes.Kept.{Kept}
use Rattle.state_cache.specs.Costs.{IsCachedAsDecoded, IsOneRun, IsSettled, cut_at}
use Rattle.stream_steps.specs.Decoding.{Outcome, outcomes}
use Rattle.state_cache.specs.Reaching.{IsNext, Converged, following}
use Rattle.state_cache.specs.Views.{Drops, IsCoherent, MarkedPacket, View, is_cut, is_usable, cached_at, key_at, with_cached, mark_at, outcome_at}
use Rattle.state_cache.specs.Walks.{ConvergesWithSame}
use Rattle.state_cache.specs.ProofsOnly.{IsAfterCached}
use Rattle.state_cache.proofs.Marked.{IsOwn}
use Rattle.state_cache.proofs.Passed.{bytes_passed, cut_joined, kept_before_at, kept_is, key_passed, length_passed_at, mark_behind, outcome_passed, step_leaves}
use Rattle.state_cache.proofs.Runs.{mark_ends, not_true, one_run_trusted, usable_along}
use Rattle.state_cache.proofs.Trust.{mark_here, trust, usable_both}
use Rattle.state_cache.proofs.Settled.{SettlesSame, joined_same, passed_same, plain_same}
use Rattle.state_cache.proofs.Steps.{both_true, passed_at, usable_trusted}
use Rattle.state_cache.proofs.Truth.{bytes_of, kept_true, present}

-- a cached step at m: the walk continues at `further`, exactly those indexes after m are settled that were before, and the
-- skipped indexes are settled
pub record Onward (tables : TableEntries) (xs ys : List MarkedPacket) (kept kept' : View) (m place further : ℕ) : Type 0 where
  pub first : IsNext ys kept' place further
  pub following : m < further
  pub same : SettlesSame tables xs ys kept kept' m place
  pub gap : (q : ℕ) → m < q → q < further → IsSettled tables ys kept' place q

abbrev state_in : State → Option Outcome → State
state_in other None = other
state_in other (Some (Ok decoded)) = decoded.0
state_in other (Some (Err broken)) = other

cut_case : (a b c d : Bool) → (c && not d) ≡ true → (a || (b || c)) ≡ true
cut_case true b c d h = refl
cut_case false true c d h = refl
cut_case false false true d h = refl
cut_case false false false d h = cc

-- a cut because of a mark is a cut
pub cut_marked : (xs : List MarkedPacket) (m : ℕ) (x : MarkedPacket) → slice_get xs m ≡ Some x → is_cut x ≡ true → cut_at xs m ≡ true
cut_marked xs m x h c =
    ap (λ (b : Bool). nat_eq m 0 || (key_at xs m || b)) (mark_here xs m x h)
    ∙ cut_case (nat_eq m 0) (key_at xs m) x.marked (has_key_tag x.bytes) c

here : (ys : List MarkedPacket) (kept : View) (m : ℕ) (y : MarkedPacket) (o : Option Kept) → slice_get ys m ≡ Some y → outcome_at ys kept m ≡ o → kept y.id ≡ o
here ys kept m y o h e = ap (λ (s : Option MarkedPacket). option_and_then (λ (packet : MarkedPacket). kept packet.id) s) (sym h) ∙ e

module _ (tables : TableEntries) (ys : List MarkedPacket) (kept' : View) (place m : ℕ) (within : place < length ys) (low : m ≤ place) (keys : (p : ℕ) → m < p → p ≤ place → key_at ys p ≡ false) (usable : is_usable ys kept' m ≡ true) where
  -- the walk continues at the next index if nothing usable follows
  next_one : ((p : ℕ) → m < p → p ≤ place → is_usable ys kept' p ≡ true → ⊥) → IsNext ys kept' place (m + 1)
  next_one none = record {
    within = omega (arith, low);
    begins = following m refl usable;
    arrived = λ a. let e : m ≡ place = omega (arith, low, a) in subst (λ (n : ℕ). is_usable ys kept' n ≡ true) e usable;
    no_key = λ p a b. keys p (omega (arith, a)) b;
    greatest = λ p a b. not_true (is_usable ys kept' p) (none p (omega (arith, a)) b);
  }

  module _ (further : ℕ) (b : IsAfterCached ys kept' m place further) where
    last_usable : is_usable ys kept' b.last ≡ true
    last_usable =
        let hi : b.last ≤ place = b.within in
        usable_along ys kept' m b.last b.from (usable_trusted ys kept' m usable) b.one_run (omega (arith, hi, within)) b.is_cached

    none_behind : (p : ℕ) → b.last < p → p ≤ place → is_usable ys kept' p ≡ true → ⊥
    none_behind p lo hi u =
        let up : m ≤ b.last = b.from in
        let run : IsOneRun ys m p = one_run_trusted ys m p (omega (arith, hi, within)) (usable_trusted ys kept' p u) (λ q x y. keys q x (omega (arith, y, hi))) in
        let off : cached_at ys kept' p ≡ false = b.greatest p lo hi run in
        let on : cached_at ys kept' p ≡ true = (both_true (cached_at ys kept' p) (trust ys (p + 1)) u).0 in
        cc

    -- the walk continues after the last cached index of the run
    next_joined : IsNext ys kept' place (b.last + 1)
    next_joined =
        let up : m ≤ b.last = b.from in
        let hi : b.last ≤ place = b.within in
        record {
          within = omega (arith, hi);
          begins = following b.last refl last_usable;
          arrived = λ a. let e : b.last ≡ place = omega (arith, hi, a) in subst (λ (n : ℕ). is_usable ys kept' n ≡ true) e last_usable;
          no_key = λ p x y. keys p (omega (arith, x, up)) y;
          greatest = λ p x y. not_true (is_usable ys kept' p) (none_behind p (omega (arith, x)) y);
        }

    -- the skipped indexes are settled
    gap_joined : IsCachedAsDecoded tables ys kept' m → (q : ℕ) → m < q → q < b.last + 1 → IsSettled tables ys kept' place q
    gap_joined d q lo hi = record {
      from = m;
      to = b.last;
      before = lo;
      following = omega (arith, hi);
      within = b.within;
      one_run = b.one_run;
      decoded = d;
      is_cached = b.is_cached;
    }

module _ (tables : TableEntries) (xs : List MarkedPacket) (kept kept' : View) (place m : ℕ) (x : MarkedPacket) (new : Kept) (h : slice_get xs m ≡ Some x) (own : IsOwn xs) (within : place < length xs) (low : m ≤ place) (next : IsNext xs kept place m)
    (new_is : kept' x.id ≡ Some new) where
  module _ (cut converged : Bool) (coherent : IsCoherent tables (passed_at cut converged m xs) kept') (usable : is_usable (passed_at cut converged m xs) kept' m ≡ true) where
    abbrev ys : List MarkedPacket
    ys = passed_at cut converged m xs

    long : place < length ys
    long = let l = length_passed_at xs m cut converged in omega (arith, l, within)

    new_here : outcome_at ys kept' m ≡ Some new
    new_here = outcome_passed xs m cut converged m kept' ∙ ap (λ (s : Option MarkedPacket). option_and_then (λ (packet : MarkedPacket). kept' packet.id) s) h ∙ new_is

    -- the outcome cached by the step is the outcome of decoding
    new_decoded : IsCachedAsDecoded tables ys kept' m
    new_decoded =
        let y = present ys m (let l = long in omega (arith, low, l)) in
        record {
          outcome = new;
          picture = new.picture;
          is_cached = new_here;
          is_decoded = kept_true tables ys kept' coherent m y.0 new y.1 (here ys kept' m y.0 (Some new) y.1 new_here) usable;
        }

    told_there : slice_get (outcomes tables (bytes_of xs)) m ≡ Some (Ok (new.state, new.picture))
    unfolding new_decoded
    told_there = sym (ap (λ (bs : List (List ℕ)). slice_get (outcomes tables bs) m) (bytes_passed xs m cut converged)) ∙ new_decoded.is_decoded

    -- if the states converge, the decoded state was cached before
    was_decoded : converged ≡ true → Converged converged (kept x.id) new → IsCachedAsDecoded tables xs kept m
    was_decoded on met_is =
        let old = met_is on in
        record {
          outcome = old.0;
          picture = new.picture;
          is_cached = ap (λ (s : Option MarkedPacket). option_and_then (λ (packet : MarkedPacket). kept packet.id) s) h ∙ old.1;
          is_decoded = told_there ∙ ap (λ (s : State). Some (Ok (s, new.picture))) (sym old.2);
        }

    -- if they do not, it was not
    not_decoded : converged ≡ false → ConvergesWithSame converged (kept x.id) new → IsCachedAsDecoded tables xs kept m → ⊥
    not_decoded off same d =
        let state : d.outcome.state ≡ new.state = ap (state_in new.state) (sym d.is_decoded ∙ told_there) in
        let on : converged ≡ true = same d.outcome (here xs kept m x (Some d.outcome) h d.is_cached) state in
        cc

    keys : (p : ℕ) → m < p → p ≤ place → key_at ys p ≡ false
    keys p lo hi = key_passed xs m cut converged p ∙ next.no_key p lo hi

  -- a step at a packet that is not a cut because of a mark
  module _ (usable : is_usable xs kept' m ≡ true) where
    plain_none : ((q : ℕ) → Drops (kept' q) (with_cached kept x.id new q)) → (p : ℕ) → m < p → p ≤ place → is_usable xs kept' p ≡ true → ⊥
    plain_none drops p lo hi u =
        let both = both_true (cached_at xs kept' p) (trust xs (p + 1)) u in
        let was : cached_at xs kept p ≡ true = kept_before_at xs kept kept' m x new h own p (λ e. omega (arith, lo, e)) drops both.0 in
        let on : is_usable xs kept p ≡ true = usable_both xs kept p was both.1 in
        let off : is_usable xs kept p ≡ false = next.greatest p (omega (arith, lo)) hi in
        cc

    pub plain_next : ((q : ℕ) → Drops (kept' q) (with_cached kept x.id new q)) → IsNext xs kept' place (m + 1)
    plain_next drops = next_one tables xs kept' place m within low (λ p lo hi. next.no_key p lo hi) usable (plain_none drops)

    run_none : (p : ℕ) → m ≤ p → p ≤ place → IsOneRun xs m p → cached_at xs kept p ≡ true → ⊥
    run_none p lo hi run k =
        let on : is_usable xs kept p ≡ true = usable_along xs kept m p lo (usable_trusted xs kept' m usable) run (omega (arith, hi, within)) k in
        let off : is_usable xs kept p ≡ false = next.greatest p lo hi in
        cc

    not_kept : IsCachedAsDecoded tables xs kept m → ⊥
    not_kept d = run_none m (omega arith) low (λ p a b. absurd (omega (arith, a, b))) (kept_is xs kept m ∙ ap is_some d.is_cached)

    pub plain_onward : (converged : Bool) → ((q : ℕ) → kept' q ≡ with_cached kept x.id new q) → SettlesSame tables xs xs kept kept' m place
    plain_onward converged exact = plain_same tables xs xs kept kept' m place (step_leaves tables xs false converged kept kept' m x new h own exact) (λ p. refl) run_none not_kept

  -- a step at a cut because of a mark, whose state equals the cached one
  module _ (cut : cut_at xs m ≡ true) (coherent : IsCoherent tables (passed_at true true m xs) kept') (usable : is_usable (passed_at true true m xs) kept' m ≡ true) where
    pub joined_next : (further : ℕ) → IsAfterCached (passed_at true true m xs) kept' m place further → IsNext (passed_at true true m xs) kept' place further
    joined_next further b =
        subst (λ (n : ℕ). IsNext (passed_at true true m xs) kept' place n) (sym b.next_is)
        (next_joined tables (passed_at true true m xs) kept' place m (long true true coherent usable) low (keys true true coherent usable) usable further b)

    pub joined_gap : (further : ℕ) → (b : IsAfterCached (passed_at true true m xs) kept' m place further) → (q : ℕ) → m < q → q < further → IsSettled tables (passed_at true true m xs) kept' place q
    joined_gap further b q lo hi =
        let is : further ≡ b.last + 1 = b.next_is in
        gap_joined tables (passed_at true true m xs) kept' place m (long true true coherent usable) low (keys true true coherent usable) usable further b (new_decoded true true coherent usable) q lo (omega (arith, hi, is))

    pub joined_onward : Converged true (kept x.id) new → ((q : ℕ) → kept' q ≡ with_cached kept x.id new q) → SettlesSame tables xs (passed_at true true m xs) kept kept' m place
    joined_onward met_is exact =
        joined_same tables xs (passed_at true true m xs) kept kept' m place (step_leaves tables xs true true kept kept' m x new h own exact) cut (cut_joined xs m)
        (was_decoded true true coherent usable refl met_is) (new_decoded true true coherent usable)

  -- and one whose state does not
  module _ (cut : cut_at xs m ≡ true) (coherent : IsCoherent tables (passed_at true false m xs) kept') (usable : is_usable (passed_at true false m xs) kept' m ≡ true) where
    passed_none : (p : ℕ) → m < p → p ≤ place → is_usable (passed_at true false m xs) kept' p ≡ true → ⊥
    passed_none p lo hi u =
        let long_is = length_passed_at xs m true false in
        let off : trust (passed_at true false m xs) (p + 1) ≡ false =
        mark_ends (passed_at true false m xs) (m + 1) p (omega (arith, lo)) (omega (arith, long_is, hi, within)) (mark_behind xs m (omega (arith, lo, hi, within)))
        (λ q a b. keys true false coherent usable q (omega (arith, a)) (omega (arith, b, hi))) in
        let on : trust (passed_at true false m xs) (p + 1) ≡ true = usable_trusted (passed_at true false m xs) kept' p u in
        cc

    pub passed_next : IsNext (passed_at true false m xs) kept' place (m + 1)
    passed_next = next_one tables (passed_at true false m xs) kept' place m (long true false coherent usable) low (keys true false coherent usable) usable passed_none

    next_cut : m + 1 ≤ place → cut_at (passed_at true false m xs) (m + 1) ≡ true
    next_cut hi =
        let marked : mark_at (passed_at true false m xs) (m + 1) ≡ true = mark_behind xs m (omega (arith, hi, within)) in
        ap (λ (b : Bool). nat_eq (m + 1) 0 || (key_at (passed_at true false m xs) (m + 1) || b)) marked
        ∙ cut_case (nat_eq (m + 1) 0) (key_at (passed_at true false m xs) (m + 1)) true false refl

    pub passed_onward : ConvergesWithSame false (kept x.id) new → ((q : ℕ) → kept' q ≡ with_cached kept x.id new q) → SettlesSame tables xs (passed_at true false m xs) kept kept' m place
    passed_onward same exact =
        passed_same tables xs (passed_at true false m xs) kept kept' m place (step_leaves tables xs true false kept kept' m x new h own exact) cut next_cut
        (not_decoded true false coherent usable refl same)
