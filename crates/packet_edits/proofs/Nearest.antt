-- The first and the last index of a range at which something holds, from its parts.
use Rattle.std.proofs.Common.{◌≡◌, ℕ, suc, ◌+◌, ◌<◌, ◌≤◌, Bool, true, false, List, Option, Some, None, slice_get, inl, inr, refl, sym, ◌∙◌, arith}
use Rattle.std.specs.Option.{option_map_or}
use Rattle.std.proofs.lemmas.Bool.{cases_lt}
use Rattle.packet_edits.specs.FlagCounts.{flag_at, flagged_before}
use Rattle.packet_edits.specs.Nearest.{HoldsNowhere, IsFirst, IsLast}
use Rattle.packet_edits.proofs.Counts.{flagged_more, flagged_rise}

module _ (holds : ℕ → Bool) where
  -- it holds nowhere in two ranges, one after the other
  pub nowhere_joined : (a b e : ℕ) → HoldsNowhere holds a b → HoldsNowhere holds b e → HoldsNowhere holds a e
  nowhere_joined a b e low high p from to =
      elim (cases_lt p b) [
        | inl less ↦ low p from less
        | inr more ↦ high p more to
      ]

  pub nowhere_none : (a e : ℕ) → e ≤ a → HoldsNowhere holds a e
  nowhere_none a e order p from to = absurd (omega (arith, order, from, to))

  pub nowhere_here : (a : ℕ) → holds a ≡ false → HoldsNowhere holds a (a + 1)
  nowhere_here a plain p from to = let same : p ≡ a = omega (arith, from, to) in rw same plain

  -- one index more, at either end
  pub nowhere_more : (a b : ℕ) → HoldsNowhere holds a b → holds b ≡ false → HoldsNowhere holds a (b + 1)
  nowhere_more a b none plain = nowhere_joined a b (b + 1) none (nowhere_here b plain)

  pub nowhere_before : (a e : ℕ) → holds a ≡ false → HoldsNowhere holds (a + 1) e → HoldsNowhere holds a e
  nowhere_before a e plain none = nowhere_joined a (a + 1) e (nowhere_here a plain) none

  -- a longer range
  pub first_wider : (a b e p : ℕ) (r : Option ℕ) → r ≡ Some p → b ≤ e → IsFirst holds a b r → IsFirst holds a e r
  first_wider a b e p None some order is = cc
  first_wider a b e p (Some q) some order is = record { starts = is.starts; within = omega (arith, order, is.within); here = is.here; earlier = is.earlier }

  pub first_later : (a b e : ℕ) (r : Option ℕ) → a ≤ b → HoldsNowhere holds a b → IsFirst holds b e r → IsFirst holds a e r
  first_later a b e None order none is = nowhere_joined a b e none is
  first_later a b e (Some q) order none is = record { starts = omega (arith, order, is.starts); within = is.within; here = is.here; earlier = nowhere_joined a b q none is.earlier }

  pub last_wider : (a b e p : ℕ) (r : Option ℕ) → r ≡ Some p → a ≤ b → IsLast holds b e r → IsLast holds a e r
  last_wider a b e p None some order is = cc
  last_wider a b e p (Some q) some order is = record { starts = omega (arith, order, is.starts); within = is.within; here = is.here; later = is.later }

  pub last_earlier : (a b e : ℕ) (r : Option ℕ) → b ≤ e → HoldsNowhere holds b e → IsLast holds a b r → IsLast holds a e r
  last_earlier a b e None order none is = nowhere_joined a b e is none
  last_earlier a b e (Some q) order none is = record {
    starts = is.starts;
    within = omega (arith, order, is.within);
    here = is.here;
    later = λ p more less. nowhere_joined (q + 1) b e (λ s from to. is.later s (omega (arith, from)) to) none p (omega (arith, more)) less;
  }

-- the same of what agrees with it in the range
module _ (holds other : ℕ → Bool) (a e : ℕ) (agree : (p : ℕ) → p < e → holds p ≡ other p) where
  pub first_as : (r : Option ℕ) → IsFirst holds a e r → IsFirst other a e r
  first_as None is = λ p from to. sym (agree p to) ∙ is p from to
  first_as (Some q) is =
      let within : q < e = is.within in
      record { starts = is.starts; within = within; here = sym (agree q within) ∙ is.here; earlier = λ p from to. sym (agree p (omega (arith, within, to))) ∙ is.earlier p from to }

  pub last_as : (r : Option ℕ) → IsLast holds a e r → IsLast other a e r
  last_as None is = λ p from to. sym (agree p to) ∙ is p from to
  last_as (Some q) is = record { starts = is.starts; within = is.within; here = sym (agree q is.within) ∙ is.here; later = λ p more less. sym (agree p less) ∙ is.later p more less }

pub flag_here : (flags : List Bool) (at : ℕ) (flag : Bool) → slice_get flags at ≡ Some flag → flag_at flags at ≡ flag
flag_here flags at flag here = rw here refl

-- no packet is flagged between two indexes up to which as many are
plain_case : (n m p : ℕ) (flags : List Bool) (o : Option Bool) → slice_get flags p ≡ o → n ≤ p → p < m → flagged_before m flags ≤ flagged_before n flags → option_map_or (λ (flag : Bool). flag) o false ≡ false
plain_case n m p flags None here from to few = refl
plain_case n m p flags (Some false) here from to few = refl
plain_case n m p flags (Some true) here from to few =
    let low : flagged_before n flags ≤ flagged_before p flags = flagged_rise n p flags from in
    let one : flagged_before (suc p) flags ≡ flagged_before p flags + 1 = flagged_more p flags true here in
    let high : flagged_before (suc p) flags ≤ flagged_before m flags = flagged_rise (suc p) m flags (omega (arith, to)) in
    absurd (omega (arith, low, one, high, few))

pub none_between : (n m : ℕ) (flags : List Bool) → flagged_before m flags ≤ flagged_before n flags → HoldsNowhere (flag_at flags) n m
none_between n m flags few p from to = plain_case n m p flags (slice_get flags p) refl from to few
