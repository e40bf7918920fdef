-- The victim among the outcomes other than the newest one.
use Rattle.std.proofs.Common.{◌≡◌, ℕ, zero, suc, ◌+◌, ◌-◌, ◌<◌, ◌≤◌, ◌⊎◌, inl, inr, List, [], ◌∷◌, Option, Some, None, IfSome, drop, slice_get, slice_range, take, refl, sym, ap, subst, ◌∙◌, arith}
use Rattle.state_cache.specs.declared.savings.Saving.{Saving}
use Rattle.state_cache.specs.Evictions.{IsOtherVictim, IsVictim, SavesLess, age, saved}
use Rattle.state_cache.specs.ProofsOnly.{IsLeastBetween, Lesser}
use Rattle.state_cache.proofs.Least.{age_some, get_dropped, get_taken, less_across}
use Rattle.state_cache.proofs.Runs.{up_to_or_behind}

pub taken_low : (n : ℕ) (ss : List Saving) (i : ℕ) (x : Saving) → slice_get (take n ss) i ≡ Some x → i < n
taken_low zero ss i x h = cc
taken_low (suc n) [] i x h = cc
taken_low (suc n) (y ∷ ss) zero x h = omega arith
taken_low (suc n) (y ∷ ss) (suc i) x h = let low = taken_low n ss i x h in omega (arith, low)

in_range : (ss : List Saving) (from to n : ℕ) → n < to - from → slice_get (slice_range ss from to) n ≡ slice_get ss (from + n)
in_range ss from to n low = get_taken (drop from ss) (to - from) n low ∙ get_dropped ss from n (from + n) refl

-- the victim of a part of the list
pub between : (ss : List Saving) (uses from to victim : ℕ) → IsVictim (slice_range ss from to) uses victim → IsLeastBetween ss uses from to (from + victim)
between ss uses from to victim v =
    let low : victim < to - from = taken_low (to - from) (drop from ss) victim v.saving v.is_there in
    record {
      saving = v.saving;
      is_there = sym (in_range ss from to victim low) ∙ v.is_there;
      above = omega arith;
      below = omega (arith, low);
      least = λ n other after before here less.
          let back : from + (n - from) ≡ n = omega (arith, after) in
          let there : slice_get (slice_range ss from to) (n - from) ≡ Some other = in_range ss from to (n - from) (omega (arith, after, before)) ∙ ap (slice_get ss) back ∙ here in
          v.least (n - from) other there less;
      first = λ n other after before here.
          let back : from + (n - from) ≡ n = omega (arith, after) in
          let there : slice_get (slice_range ss from to) (n - from) ≡ Some other = in_range ss from to (n - from) (omega (arith, after, before, low)) ∙ ap (slice_get ss) back ∙ here in
          v.first (n - from) other (omega (arith, after, before)) there;
    }

module _ (ss : List Saving) (uses len newest : ℕ) (low : newest < len) where
  across : (x p o : Saving) → SavesLess uses x p → (SavesLess uses o p → ⊥) → SavesLess uses x o
  across x p o less not_less = less_across (saved x) (age uses x) (saved p) (age uses p) (saved o) (age uses o) (age_some uses o) less not_less

  not_both : (x o : Saving) → SavesLess uses x o → SavesLess uses o x → ⊥
  not_both x o less more = omega (arith, less, more)

  module _ (before after : ℕ) (a : IsLeastBetween ss uses 0 newest before) (b : IsLeastBetween ss uses (newest + 1) len after) where
    -- the second one saves less
    second_least : SavesLess uses b.saving a.saving → (n : ℕ) (other : Saving) → n < len → (n ≡ newest → ⊥) → slice_get ss n ≡ Some other → SavesLess uses other b.saving → (newest ≤ n) ⊎ (n < newest) → ⊥
    second_least less n other below apart here lower (inl high) = b.least n other (omega (arith, high, apart)) below here lower
    second_least less n other below apart here lower (inr under) = not_both b.saving other (across b.saving a.saving other less (λ h. a.least n other (omega arith) under here h)) lower

    second_first : SavesLess uses b.saving a.saving → (n : ℕ) (other : Saving) → n < after → (n ≡ newest → ⊥) → slice_get ss n ≡ Some other → (newest ≤ n) ⊎ (n < newest) → SavesLess uses b.saving other
    second_first less n other below apart here (inl high) = b.first n other (omega (arith, high, apart)) below here
    second_first less n other below apart here (inr under) = across b.saving a.saving other less (λ h. a.least n other (omega arith) under here h)

    second : SavesLess uses b.saving a.saving → IsOtherVictim ss uses len newest after
    second less =
        let above = b.above in
        record {
          saving = b.saving;
          is_there = b.is_there;
          within = b.below;
          is_other = λ same. omega (arith, above, same);
          least = λ n other below apart here lower. second_least less n other below apart here lower (up_to_or_behind newest n);
          first = λ n other below apart here. second_first less n other below apart here (up_to_or_behind newest n);
        }

    -- it does not
    first_least : (SavesLess uses b.saving a.saving → ⊥) → (n : ℕ) (other : Saving) → n < len → (n ≡ newest → ⊥) → slice_get ss n ≡ Some other → SavesLess uses other a.saving → (newest ≤ n) ⊎ (n < newest) → ⊥
    first_least not_less n other below apart here lower (inl high) = b.least n other (omega (arith, high, apart)) below here (across other a.saving b.saving lower not_less)
    first_least not_less n other below apart here lower (inr under) = a.least n other (omega arith) under here lower

    first : (SavesLess uses b.saving a.saving → ⊥) → IsOtherVictim ss uses len newest before
    first not_less =
        let under = a.below in
        record {
          saving = a.saving;
          is_there = a.is_there;
          within = omega (arith, under, low);
          is_other = λ same. omega (arith, under, same);
          least = λ n other below apart here lower. first_least not_less n other below apart here lower (up_to_or_behind newest n);
          first = λ n other below apart here. a.first n other (omega arith) below here;
        }

    chosen_case : (chosen : ℕ) → ((chosen ≡ after) × SavesLess uses b.saving a.saving) ⊎ ((chosen ≡ before) × (SavesLess uses b.saving a.saving → ⊥)) → IsOtherVictim ss uses len newest chosen
    chosen_case chosen (inl is) = subst (λ (n : ℕ). IsOtherVictim ss uses len newest n) (sym is.0) (second is.1)
    chosen_case chosen (inr is) = subst (λ (n : ℕ). IsOtherVictim ss uses len newest n) (sym is.0) (first is.1)

    pub of_both : (chosen : ℕ) → Lesser ss uses before after chosen → IsOtherVictim ss uses len newest chosen
    of_both chosen lesser = chosen_case chosen (lesser a.saving b.saving a.is_there b.is_there)

  -- there is none before the newest one
  pub of_after : (after : ℕ) → (0 < newest → ⊥) → IsLeastBetween ss uses (newest + 1) len after → IsOtherVictim ss uses len newest after
  of_after after none b =
      let above = b.above in
      record {
        saving = b.saving;
        is_there = b.is_there;
        within = b.below;
        is_other = λ same. omega (arith, above, same);
        least = λ n other below apart here lower. b.least n other (omega (arith, none, apart)) below here lower;
        first = λ n other below apart here. b.first n other (omega (arith, none, apart)) below here;
      }

  of_before : (before : ℕ) → (newest + 1 < len → ⊥) → IsLeastBetween ss uses 0 newest before → IsOtherVictim ss uses len newest before
  of_before before none a =
      let under = a.below in
      record {
        saving = a.saving;
        is_there = a.is_there;
        within = omega (arith, under, low);
        is_other = λ same. omega (arith, under, same);
        least = λ n other below apart here lower. a.least n other (omega arith) (omega (arith, none, apart, below, low)) here lower;
        first = λ n other below apart here. a.first n other (omega arith) below here;
      }

  -- there is none after it
  pub of_any_before : (before : Option ℕ) → (newest + 1 < len → ⊥) → IfSome before (IsLeastBetween ss uses 0 newest) → IfSome before (IsOtherVictim ss uses len newest)
  of_any_before None none a = tt
  of_any_before (Some before) none a = of_before before none a

-- the victim is not the newest one
pub victim_apart : (ss : List Saving) (uses len newest : ℕ) (victim : Option ℕ) → IfSome victim (IsOtherVictim ss uses len newest) → (n : ℕ) → victim ≡ Some n → n ≡ newest → ⊥
victim_apart ss uses len newest None v n is same = cc
victim_apart ss uses len newest (Some m) v n is same = let here : m ≡ n = cc in v.is_other (here ∙ same)
