-- Settled indexes: the first index of a walk is not settled, and a cached step does not change which later indexes are.
use Rattle.std.proofs.Common.{◌≡◌, ℕ, ◌+◌, ◌<◌, ◌≤◌, ◌⊎◌, inl, inr, true, false, List, length, sym, subst, ◌∙◌, arith}
use Rattle.vp8_tables.specs.Tables.{TableEntries}
use Rattle.state_cache.specs.Costs.{IsCachedAsDecoded, IsOneRun, IsSettled, cut_at}
use Rattle.state_cache.specs.Reaching.{Begins, IsNext, at_key, at_start, following}
use Rattle.state_cache.specs.Views.{MarkedPacket, View, is_usable, cached_at}
use Rattle.state_cache.proofs.Runs.{no_cut, same_or_not, up_to_or_behind, usable_along}
use Rattle.state_cache.proofs.Steps.{usable_trusted}

module _ (tables : TableEntries) (xs : List MarkedPacket) (kept : View) (place m : ℕ) (next : IsNext xs kept place m) (within : place < length xs) where
  -- if the index before the first is usable, nothing after it in its run is cached
  behind_usable : (s : IsSettled tables xs kept place m) (u : ℕ) → m ≡ u + 1 → is_usable xs kept u ≡ true → s.to < length xs → is_usable xs kept s.to ≡ true
  behind_usable s u e usable far =
      let lo : s.from < m = s.before in
      let hi : m ≤ s.to = s.following in
      usable_along xs kept u s.to (omega (arith, e, hi)) (usable_trusted xs kept u usable) (λ p a b. s.one_run p (omega (arith, a, e, lo)) b) far s.is_cached

  -- no run that has a cached index after the first one reaches the first one from before
  first_case : (s : IsSettled tables xs kept place m) → Begins xs kept m → ⊥
  first_case s (at_start e) = let lo : s.from < m = s.before in omega (arith, lo, e)
  first_case s (at_key e) =
      let here = no_cut xs m (s.one_run m s.before s.following) in
      let off = here.0 in
      cc
  first_case s (following u e usable) =
      let hi : s.to ≤ place = s.within in
      let on : is_usable xs kept s.to ≡ true = behind_usable s u e usable (omega (arith, hi, within)) in
      let off : is_usable xs kept s.to ≡ false = next.greatest s.to s.following hi in
      cc

  -- the index that is stepped first is not settled
  pub first_unsettled : IsSettled tables xs kept place m → ⊥
  first_unsettled s = first_case s next.begins

-- the other indexes after a cached step at m
pub record Leaves (tables : TableEntries) (xs ys : List MarkedPacket) (kept kept' : View) (m : ℕ) : Type 0 where
  pub keeps : (p : ℕ) → cached_at xs kept p ≡ true → cached_at ys kept' p ≡ true
  pub kept_before : (p : ℕ) → (p ≡ m → ⊥) → cached_at ys kept' p ≡ true → cached_at xs kept p ≡ true
  pub decoded_still : (p : ℕ) → (p ≡ m → ⊥) → IsCachedAsDecoded tables xs kept p → IsCachedAsDecoded tables ys kept' p
  pub decoded_before : (p : ℕ) → (p ≡ m → ⊥) → IsCachedAsDecoded tables ys kept' p → IsCachedAsDecoded tables xs kept p
  pub cuts : (p : ℕ) → (p ≡ m → ⊥) → (p ≡ m + 1 → ⊥) → cut_at ys p ≡ cut_at xs p

-- exactly those indexes after m are settled that were settled before
pub record SettlesSame (tables : TableEntries) (xs ys : List MarkedPacket) (kept kept' : View) (m place : ℕ) : Type 0 where
  pub still : (q : ℕ) → m < q → IsSettled tables xs kept place q → IsSettled tables ys kept' place q
  pub before : (q : ℕ) → m < q → IsSettled tables ys kept' place q → IsSettled tables xs kept place q

module _ (tables : TableEntries) (xs ys : List MarkedPacket) (kept kept' : View) (m place : ℕ) (l : Leaves tables xs ys kept kept' m) where
  apart : (a b : ℕ) → a < b → (b ≡ a → ⊥)
  apart a b h e = omega (arith, h, e)

  -- from a state after m
  still_far : (q : ℕ) → m < q → (s : IsSettled tables xs kept place q) → m < s.from → IsSettled tables ys kept' place q
  still_far q lo s far = record {
    from = s.from;
    to = s.to;
    before = s.before;
    following = s.following;
    within = s.within;
    one_run = λ p a b. l.cuts p (apart m p (omega (arith, far, a))) (λ e. omega (arith, far, a, e)) ∙ s.one_run p a b;
    decoded = l.decoded_still s.from (apart m s.from far) s.decoded;
    is_cached = l.keeps s.to s.is_cached;
  }

  kept_to : (q : ℕ) → m < q → (s : IsSettled tables ys kept' place q) → cached_at xs kept s.to ≡ true
  kept_to q lo s = let hi : q ≤ s.to = s.following in l.kept_before s.to (apart m s.to (omega (arith, lo, hi))) s.is_cached

  before_far : (q : ℕ) → m < q → (s : IsSettled tables ys kept' place q) → m < s.from → IsSettled tables xs kept place q
  before_far q lo s far = record {
    from = s.from;
    to = s.to;
    before = s.before;
    following = s.following;
    within = s.within;
    one_run = λ p a b. sym (l.cuts p (apart m p (omega (arith, far, a))) (λ e. omega (arith, far, a, e))) ∙ s.one_run p a b;
    decoded = l.decoded_before s.from (apart m s.from far) s.decoded;
    is_cached = kept_to q lo s;
  }

  -- m was not a cut because of a mark: nothing of its run starting at m was cached, and no cut changes
  module _ (same : (p : ℕ) → cut_at ys p ≡ cut_at xs p) (none : (p : ℕ) → m ≤ p → p ≤ place → IsOneRun xs m p → cached_at xs kept p ≡ true → ⊥) (unkept : IsCachedAsDecoded tables xs kept m → ⊥) where
    plain_still_case : (q : ℕ) → m < q → (s : IsSettled tables xs kept place q) → (s.from ≡ m) ⊎ (s.from ≡ m → ⊥) → IsSettled tables ys kept' place q
    plain_still_case q lo s (inl e) = absurd (unkept (subst (λ n. IsCachedAsDecoded tables xs kept n) e s.decoded))
    plain_still_case q lo s (inr other) = record {
      from = s.from;
      to = s.to;
      before = s.before;
      following = s.following;
      within = s.within;
      one_run = λ p a b. same p ∙ s.one_run p a b;
      decoded = l.decoded_still s.from other s.decoded;
      is_cached = l.keeps s.to s.is_cached;
    }

    plain_before_case : (q : ℕ) → m < q → (s : IsSettled tables ys kept' place q) → (s.from ≡ m) ⊎ (s.from ≡ m → ⊥) → IsSettled tables xs kept place q
    plain_before_case q lo s (inl e) =
        let hi : q ≤ s.to = s.following in
        absurd (none s.to (omega (arith, lo, hi)) s.within (λ p a b. sym (same p) ∙ s.one_run p (omega (arith, e, a)) b) (kept_to q lo s))
    plain_before_case q lo s (inr other) = record {
      from = s.from;
      to = s.to;
      before = s.before;
      following = s.following;
      within = s.within;
      one_run = λ p a b. sym (same p) ∙ s.one_run p a b;
      decoded = l.decoded_before s.from other s.decoded;
      is_cached = kept_to q lo s;
    }

    pub plain_same : SettlesSame tables xs ys kept kept' m place
    plain_same = record {
      still = λ q lo s. plain_still_case q lo s (same_or_not s.from m);
      before = λ q lo s. plain_before_case q lo s (same_or_not s.from m);
    }

  -- m was a cut because of a mark
  module _ (cut : cut_at xs m ≡ true) where
    -- no state before m settles an index after it
    not_from_before : (q : ℕ) → m < q → (s : IsSettled tables xs kept place q) → m ≤ s.from
    not_from_before q lo s =
        let hi : q ≤ s.to = s.following in
        let no : s.from < m → ⊥ = λ a. let off : cut_at xs m ≡ false = s.one_run m a (omega (arith, lo, hi)) in cc in
        omega (arith, no)

    -- and the states converge: the decoded state was cached there, and the mark is removed
    module _ (same : (p : ℕ) → (p ≡ m → ⊥) → cut_at ys p ≡ cut_at xs p) (was : IsCachedAsDecoded tables xs kept m) (is : IsCachedAsDecoded tables ys kept' m) where
      joined_decoded : (p : ℕ) → IsCachedAsDecoded tables xs kept p → (p ≡ m) ⊎ (p ≡ m → ⊥) → IsCachedAsDecoded tables ys kept' p
      joined_decoded p d (inl e) = subst (λ n. IsCachedAsDecoded tables ys kept' n) (sym e) is
      joined_decoded p d (inr other) = l.decoded_still p other d

      joined_still : (q : ℕ) → m < q → IsSettled tables xs kept place q → IsSettled tables ys kept' place q
      joined_still q lo s =
          let up : m ≤ s.from = not_from_before q lo s in
          record {
            from = s.from;
            to = s.to;
            before = s.before;
            following = s.following;
            within = s.within;
            one_run = λ p a b. same p (apart m p (omega (arith, up, a))) ∙ s.one_run p a b;
            decoded = joined_decoded s.from s.decoded (same_or_not s.from m);
            is_cached = l.keeps s.to s.is_cached;
          }

      joined_before_case : (q : ℕ) → m < q → (s : IsSettled tables ys kept' place q) → (s.from ≤ m) ⊎ (m < s.from) → IsSettled tables xs kept place q
      joined_before_case q lo s (inl low) = record {
        from = m;
        to = s.to;
        before = lo;
        following = s.following;
        within = s.within;
        one_run = λ p a b. sym (same p (apart m p a)) ∙ s.one_run p (omega (arith, low, a)) b;
        decoded = was;
        is_cached = kept_to q lo s;
      }
      joined_before_case q lo s (inr far) = before_far q lo s far

      pub joined_same : SettlesSame tables xs ys kept kept' m place
      joined_same = record {
        still = joined_still;
        before = λ q lo s. joined_before_case q lo s (up_to_or_behind s.from m);
      }

    -- and they do not: the mark passes to the next index
    module _ (passed : m + 1 ≤ place → cut_at ys (m + 1) ≡ true) (undecoded : IsCachedAsDecoded tables xs kept m → ⊥) where
      passed_still_case : (q : ℕ) → m < q → (s : IsSettled tables xs kept place q) → (s.from ≡ m) ⊎ (s.from ≡ m → ⊥) → IsSettled tables ys kept' place q
      passed_still_case q lo s (inl e) = absurd (undecoded (subst (λ n. IsCachedAsDecoded tables xs kept n) e s.decoded))
      passed_still_case q lo s (inr other) = let up : m ≤ s.from = not_from_before q lo s in still_far q lo s (omega (arith, up, other))

      passed_before_case : (q : ℕ) → m < q → (s : IsSettled tables ys kept' place q) → (s.from ≤ m) ⊎ (m < s.from) → IsSettled tables xs kept place q
      passed_before_case q lo s (inl low) =
          let hi : q ≤ s.to = s.following in
          let end : s.to ≤ place = s.within in
          let off : cut_at ys (m + 1) ≡ false = s.one_run (m + 1) (omega (arith, low)) (omega (arith, lo, hi)) in
          let on : cut_at ys (m + 1) ≡ true = passed (omega (arith, lo, hi, end)) in
          cc
      passed_before_case q lo s (inr far) = before_far q lo s far

      pub passed_same : SettlesSame tables xs ys kept kept' m place
      passed_same = record {
        still = λ q lo s. passed_still_case q lo s (same_or_not s.from m);
        before = λ q lo s. passed_before_case q lo s (up_to_or_behind s.from m);
      }
