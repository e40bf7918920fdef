-- A cached step removes exactly the first index from the list of those that are not settled.
use Rattle.std.proofs.Common.{◌≡◌, ℕ, zero, suc, ◌<◌, ◌≤◌, ◌⊎◌, inl, inr, true, List, [], ◌∷◌, Some, length, slice_get, refl, sym, ap, subst, arith}
use Rattle.vp8_tables.specs.Tables.{TableEntries}
use Rattle.state_cache.specs.Costs.{AreUnsettled, IsSettled}
use Rattle.state_cache.specs.Views.{MarkedPacket, View, cached_at}
use Rattle.state_cache.proofs.Runs.{same_or_not, up_to_or_behind}
use Rattle.state_cache.proofs.Settled.{SettlesSame}

nowhere : (places : List ℕ) (n p : ℕ) → length places ≡ 0 → slice_get places n ≡ Some p → ⊥
nowhere [] n p e h = cc
nowhere (first ∷ rest) n p e h = absurd (omega (arith, e))

module _ (tables : TableEntries) (xs ys : List MarkedPacket) (kept kept' : View) (m place further : ℕ) (low : m ≤ place) (up : m < further) (unsettled : IsSettled tables xs kept place m → ⊥) (same : SettlesSame tables xs ys kept kept' m place)
    (gap : (q : ℕ) → m < q → q < further → IsSettled tables ys kept' place q) where
  -- an index after the first that is not settled is not skipped, and is still not settled
  further_case : (q : ℕ) → m < q → (IsSettled tables xs kept place q → ⊥) → (further ≤ q) ⊎ (q < further) → further ≤ q
  further_case q lo uns (inl h) = h
  further_case q lo uns (inr h) = absurd (uns (same.before q lo (gap q lo h)))

  not_passed : (q : ℕ) → m < q → (IsSettled tables xs kept place q → ⊥) → further ≤ q
  not_passed q lo uns = further_case q lo uns (up_to_or_behind further q)

  not_then : (q : ℕ) → m < q → (IsSettled tables xs kept place q → ⊥) → IsSettled tables ys kept' place q → ⊥
  not_then q lo uns s = uns (same.before q lo s)

  keeps_case : cached_at ys kept' m ≡ true → (p : ℕ) → m ≤ p → (IsSettled tables xs kept place p → ⊥) → (p ≡ m) ⊎ (p ≡ m → ⊥) → (cached_at ys kept' p ≡ true) ⊎ ((further ≤ p) × (IsSettled tables ys kept' place p → ⊥))
  keeps_case is p lo uns (inl e) = inl (subst (λ (n : ℕ). cached_at ys kept' n ≡ true) (sym e) is)
  keeps_case is p lo uns (inr other) =
      let following : m < p = omega (arith, lo, other) in
      inr (not_passed p following uns, not_then p following uns)

  -- each index that was not settled is cached, or still not settled
  pub step_keeps : cached_at ys kept' m ≡ true → (p : ℕ) → m ≤ p → (IsSettled tables xs kept place p → ⊥) → (cached_at ys kept' p ≡ true) ⊎ ((further ≤ p) × (IsSettled tables ys kept' place p → ⊥))
  step_keeps is p lo uns = keeps_case is p lo uns (same_or_not p m)

  module _ (first : ℕ) (rest : List ℕ) (a : AreUnsettled tables xs kept m place (first ∷ rest)) where
    head_case : (n : ℕ) → slice_get (first ∷ rest) n ≡ Some m → first ≡ m
    head_case zero h = cc
    head_case (suc n) h =
        let lo : m ≤ first = (a.each_is_unsettled 0 first refl).0 in
        let hi : first < m = a.ascends 0 (suc n) first m refl h (omega arith) in
        absurd (omega (arith, lo, hi))

    head_is : first ≡ m
    head_is = let l = a.each_is_listed m (omega arith) low unsettled in head_case l.0 l.1

    behind_head : (n p : ℕ) → slice_get rest n ≡ Some p → m < p
    behind_head n p h =
        let lo : first < p = a.ascends 0 (suc n) first p refl h (omega arith) in
        let e : first ≡ m = head_is in
        omega (arith, lo, e)

    listed_case : (p n : ℕ) → m < p → slice_get (first ∷ rest) n ≡ Some p → (k : ℕ) × (slice_get rest k ≡ Some p)
    listed_case p zero lo h =
        let e : first ≡ p = cc in
        let is : first ≡ m = head_is in
        absurd (omega (arith, lo, e, is))
    listed_case p (suc n) lo h = (n, h)

    each_rest : (n p : ℕ) → slice_get rest n ≡ Some p → (further ≤ p) × (p ≤ place) × (IsSettled tables ys kept' place p → ⊥)
    each_rest n p h =
        let lo : m < p = behind_head n p h in
        let was = a.each_is_unsettled (suc n) p h in
        (not_passed p lo was.2, was.1, not_then p lo was.2)

    listed_rest : (p : ℕ) → further ≤ p → p ≤ place → (IsSettled tables ys kept' place p → ⊥) → (n : ℕ) × (slice_get rest n ≡ Some p)
    listed_rest p lo hi uns =
        let following : m < p = omega (arith, lo, up) in
        let was = a.each_is_listed p (omega (arith, following)) hi (λ s. uns (same.still p following s)) in
        listed_case p was.0 following was.1

    rest_unsettled : AreUnsettled tables ys kept' further place rest
    rest_unsettled = record {
      ascends = λ n k f l hf hl lt. a.ascends (suc n) (suc k) f l hf hl (omega (arith, lt));
      each_is_unsettled = each_rest;
      each_is_listed = listed_rest;
    }

  pub step_fewer : (places : List ℕ) → AreUnsettled tables xs kept m place places → (rest : List ℕ) × (places ≡ m ∷ rest) × AreUnsettled tables ys kept' further place rest
  step_fewer [] a = let l = a.each_is_listed m (omega arith) low unsettled in absurd (nowhere [] l.0 m refl l.1)
  step_fewer (first ∷ rest) a = (rest, ap (λ (n : ℕ). n ∷ rest) (head_is first rest a), rest_unsettled first rest a)

-- with no index left none is listed
pub none_left : (tables : TableEntries) (xs : List MarkedPacket) (kept : View) (next place : ℕ) (places : List ℕ) → AreUnsettled tables xs kept next place places → place < next → places ≡ []
none_left tables xs kept next place [] a h = refl
none_left tables xs kept next place (first ∷ rest) a h =
    let in_range = a.each_is_unsettled 0 first refl in
    let lo : next ≤ first = in_range.0 in
    let hi : first ≤ place = in_range.1 in
    absurd (omega (arith, h, lo, hi))

-- if the first index is not settled, one is listed
pub some_left : (tables : TableEntries) (xs : List MarkedPacket) (kept : View) (next place : ℕ) (places : List ℕ) → AreUnsettled tables xs kept next place places → next ≤ place → (IsSettled tables xs kept place next → ⊥) → 1 ≤ length places
some_left tables xs kept next place [] a low uns = let l = a.each_is_listed next (omega arith) low uns in absurd (nowhere [] l.0 next refl l.1)
some_left tables xs kept next place (first ∷ rest) a low uns = omega arith
