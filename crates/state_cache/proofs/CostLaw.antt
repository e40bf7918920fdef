-- The indexes of a walk that are not settled can be listed.
use Rattle.std.proofs.Common.{◌≡◌, ℕ, zero, suc, ◌+◌, ◌<◌, ◌≤◌, ◌⊎◌, inl, inr, List, [], ◌∷◌, Some, slice_get, sym, ap, subst, arith}
use Rattle.vp8_tables.specs.Tables.{TableEntries}
use Rattle.state_cache.specs.CostLaws.{UnsettledAreListed}
use Rattle.state_cache.specs.Costs.{AreUnsettled, IsSettled}
use Rattle.state_cache.specs.Views.{MarkedPacket, View}
use Rattle.state_cache.proofs.Decided.{settled_or_not}
use Rattle.state_cache.proofs.Runs.{same_or_not, up_to_or_behind}

no_place : (n p : ℕ) → slice_get [] n ≡ Some p → ⊥
no_place n p h = cc

module _ (tables : TableEntries) (xs : List MarkedPacket) (kept : View) (place : ℕ) where
  abbrev Settled : ℕ → Type 0
  Settled p = IsSettled tables xs kept place p

  none_listed : (next : ℕ) → place < next → AreUnsettled tables xs kept next place []
  none_listed next up = record {
    ascends = λ n m f l hf hl lt. absurd (no_place n f hf);
    each_is_unsettled = λ n p h. absurd (no_place n p h);
    each_is_listed = λ p lo hi uns. absurd (omega (arith, up, lo, hi));
  }

  module _ (next : ℕ) (low : next ≤ place) (places : List ℕ) (a : AreUnsettled tables xs kept (next + 1) place places) where
    at_or_behind : (p : ℕ) → next ≤ p → (p ≡ next → ⊥) → next + 1 ≤ p
    at_or_behind p lo other = omega (arith, lo, other)

    -- a settled index is left out
    settled_listed : Settled next → (p : ℕ) → next ≤ p → p ≤ place → (Settled p → ⊥) → (p ≡ next) ⊎ (p ≡ next → ⊥) → (n : ℕ) × (slice_get places n ≡ Some p)
    settled_listed s p lo hi uns (inl e) = absurd (uns (subst Settled (sym e) s))
    settled_listed s p lo hi uns (inr other) = a.each_is_listed p (at_or_behind p lo other) hi uns

    left_out : Settled next → AreUnsettled tables xs kept next place places
    left_out s = record {
      ascends = a.ascends;
      each_is_unsettled = λ n p h. let was = a.each_is_unsettled n p h in let lo : next + 1 ≤ p = was.0 in (omega (arith, lo), was.1, was.2);
      each_is_listed = λ p lo hi uns. settled_listed s p lo hi uns (same_or_not p next);
    }

    -- another is listed first
    ascends_more : (n m first later : ℕ) → slice_get (next ∷ places) n ≡ Some first → slice_get (next ∷ places) m ≡ Some later → n < m → first < later
    ascends_more n zero first later hf hl lt = absurd (omega (arith, lt))
    ascends_more zero (suc m) first later hf hl lt =
        let is : next ≡ first = cc in
        let lo : next + 1 ≤ later = (a.each_is_unsettled m later hl).0 in
        omega (arith, is, lo)
    ascends_more (suc n) (suc m) first later hf hl lt = a.ascends n m first later hf hl (omega (arith, lt))

    each_more : (Settled next → ⊥) → (n p : ℕ) → slice_get (next ∷ places) n ≡ Some p → (next ≤ p) × (p ≤ place) × (Settled p → ⊥)
    each_more uns zero p h = let is : next ≡ p = cc in (omega (arith, is), omega (arith, is, low), subst (λ (q : ℕ). Settled q → ⊥) is uns)
    each_more uns (suc n) p h = let was = a.each_is_unsettled n p h in let lo : next + 1 ≤ p = was.0 in (omega (arith, lo), was.1, was.2)

    listed_more : (p : ℕ) → next ≤ p → p ≤ place → (Settled p → ⊥) → (p ≡ next) ⊎ (p ≡ next → ⊥) → (n : ℕ) × (slice_get (next ∷ places) n ≡ Some p)
    listed_more p lo hi uns (inl e) = (0, ap (λ (q : ℕ). Some q) (sym e))
    listed_more p lo hi uns (inr other) = let there = a.each_is_listed p (at_or_behind p lo other) hi uns in (suc there.0, there.1)

    put_first : (Settled next → ⊥) → AreUnsettled tables xs kept next place (next ∷ places)
    put_first uns = record {
      ascends = ascends_more;
      each_is_unsettled = each_more uns;
      each_is_listed = λ p lo hi u. listed_more p lo hi u (same_or_not p next);
    }

    one_case : Settled next ⊎ (Settled next → ⊥) → (more : List ℕ) × AreUnsettled tables xs kept next place more
    one_case (inl s) = (places, left_out s)
    one_case (inr uns) = (next ∷ places, put_first uns)

  abbrev Listed : ℕ → Type 0
  Listed next = (places : List ℕ) × AreUnsettled tables xs kept next place places

  on_case : ((p : ℕ) → Settled p ⊎ (Settled p → ⊥)) → (next : ℕ) → Listed (next + 1) → (next ≤ place) ⊎ (place < next) → Listed next
  on_case decide next more (inl low) = one_case next low more.0 more.1 (decide next)
  on_case decide next more (inr up) = ([], none_listed next up)

  listed : ((p : ℕ) → Settled p ⊎ (Settled p → ⊥)) → (n next : ℕ) → place + 1 ≤ next + n → Listed next
  listed decide zero next e = ([], none_listed next (omega (arith, e)))
  listed decide (suc n) next e = on_case decide next (listed decide n (next + 1) (omega (arith, e))) (up_to_or_behind next place)

pub unsettled_are_listed : UnsettledAreListed
unsettled_are_listed tables xs kept next place = listed tables xs kept place (settled_or_not tables xs kept place) (place + 1) next (omega arith)
