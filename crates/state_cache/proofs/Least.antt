-- The search for the outcome that saves least over its age.
use Rattle.std.proofs.Common.{◌≡◌, ℕ, zero, suc, ◌+◌, ◌-◌, ◌*◌, ◌<◌, ◌≤◌, ◌⊎◌, inl, inr, List, [], ◌∷◌, Some, drop, length, map, replicate, slice_get, slice_range, take, slice_index_or, refl, sym, ap, subst, ◌∙◌, arith, mul-lt-mul_of_pos_right, mul-le-mul_right, mul_right_comm, lt_of_mul-lt-mul_right}
use Rattle.state_cache.specs.declared.savings.Saving.{Saving}
use Rattle.state_cache.specs.Evictions.{IsVictim, SavesLess, age, last_use, saved}
use Rattle.state_cache.specs.ProofsOnly.{NoneIsLess, Searched}
use Rattle.state_cache.proofs.Runs.{same_or_not, up_to_or_behind}

-- if x / a is less than p / b, and o / c is not, then x / a is less than o / c
pub less_across : (x a p b o c : ℕ) → 0 < c → x * b < p * a → (o * b < p * c → ⊥) → x * c < o * a
less_across x a p b o c some low high =
    let below : x * b * c < p * a * c = mul-lt-mul_of_pos_right low some in
    let not_above : p * c ≤ o * b = omega (arith, high) in
    let above : p * c * a ≤ o * b * a = mul-le-mul_right a not_above in
    let first : x * b * c ≡ x * c * b = mul_right_comm x b c in
    let second : p * a * c ≡ p * c * a = mul_right_comm p a c in
    let third : o * b * a ≡ o * a * b = mul_right_comm o b a in
    let all : x * c * b < o * a * b = omega (arith, below, above, first, second, third) in
    lt_of_mul-lt-mul_right b all

pub age_some : (uses : ℕ) (s : Saving) → 0 < age uses s
age_some uses s = omega arith

pub same_saving : (ss : List Saving) (p q : ℕ) (x y : Saving) → slice_get ss p ≡ Some x → slice_get ss q ≡ Some y → p ≡ q → x ≡ y
same_saving ss p q x y h k e = let there : slice_get ss q ≡ Some x = ap (slice_get ss) (sym e) ∙ h in cc

module _ (ss : List Saving) (uses : ℕ) where
  pub first_searched : (x : Saving) (saves old : ℕ) → slice_get ss 0 ≡ Some x → saves ≡ saved x → old ≡ age uses x → Searched ss uses 0 0 saves old
  first_searched x saves old there s a = record {
    saving = x;
    is_there = there;
    least = λ n other low here less. absurd (omega (arith, low));
    first = λ n other low here. absurd (omega (arith, low));
    saved_is = s;
    age_is = a;
  }

  module _ (at victim saves old : ℕ) (s : Searched ss uses at victim saves old) (x : Saving) (there : slice_get ss at ≡ Some x) (mine my_age : ℕ) (mine_is : mine ≡ saved x) (my_age_is : my_age ≡ age uses x) where
    as_fractions : (mine * old < saves * my_age) → SavesLess uses x s.saving
    as_fractions h =
        let P : ℕ → ℕ → ℕ → ℕ → Type 0 = λ m o v a. m * o < v * a in
        subst (λ (m : ℕ). P m (age uses s.saving) (saved s.saving) (age uses x)) mine_is
        (subst (λ (o : ℕ). P mine o (saved s.saving) (age uses x)) s.age_is (subst (λ (v : ℕ). P mine old v (age uses x)) s.saved_is (subst (λ (a : ℕ). P mine old saves a) my_age_is h)))

    from_fractions : SavesLess uses x s.saving → mine * old < saves * my_age
    from_fractions h =
        let P : ℕ → ℕ → ℕ → ℕ → Type 0 = λ m o v a. m * o < v * a in
        subst (λ (a : ℕ). P mine old saves a) (sym my_age_is)
        (subst (λ (v : ℕ). P mine old v (age uses x)) (sym s.saved_is) (subst (λ (o : ℕ). P mine o (saved s.saving) (age uses x)) (sym s.age_is) (subst (λ (m : ℕ). P m (age uses s.saving) (saved s.saving) (age uses x)) (sym mine_is) h)))

    less_than_others : SavesLess uses x s.saving → (n : ℕ) (other : Saving) → n < at → slice_get ss n ≡ Some other → SavesLess uses x other
    less_than_others less n other low here =
        less_across (saved x) (age uses x) (saved s.saving) (age uses s.saving) (saved other) (age uses other) (age_some uses other) less (λ h. s.least n other low here h)

    least_case : SavesLess uses x s.saving → (n : ℕ) (other : Saving) → n < at + 1 → slice_get ss n ≡ Some other → SavesLess uses other x → (n ≡ at) ⊎ (n ≡ at → ⊥) → ⊥
    least_case less n other low here lower (inl same) =
        let is = same_saving ss n at other x here there same in
        let self : SavesLess uses x x = subst (λ (y : Saving). SavesLess uses y x) is lower in
        absurd (omega (arith, self))
    least_case less n other low here lower (inr not_same) =
        let more = less_than_others less n other (omega (arith, low, not_same)) here in
        absurd (omega (arith, more, lower))

    -- an outcome that saves less is the new victim
    pub taken_searched : mine * old < saves * my_age → Searched ss uses (at + 1) at mine my_age
    taken_searched h =
        let less = as_fractions h in
        record {
          saving = x;
          is_there = there;
          least = λ n other low here lower. least_case less n other low here lower (same_or_not n at);
          first = λ n other low here. less_than_others less n other low here;
          saved_is = mine_is;
          age_is = my_age_is;
        }

    passed_case : (mine * old < saves * my_age → ⊥) → (n : ℕ) (other : Saving) → n < at + 1 → slice_get ss n ≡ Some other → SavesLess uses other s.saving → (n ≡ at) ⊎ (n ≡ at → ⊥) → ⊥
    passed_case not_less n other low here lower (inl same) =
        let is = same_saving ss n at other x here there same in
        not_less (from_fractions (subst (λ (y : Saving). SavesLess uses y s.saving) is lower))
    passed_case not_less n other low here lower (inr not_same) = s.least n other (omega (arith, low, not_same)) here lower

    -- one that does not is passed
    pub passed_searched : (mine * old < saves * my_age → ⊥) → Searched ss uses (at + 1) victim saves old
    passed_searched not_less = record {
      saving = s.saving;
      is_there = s.is_there;
      least = λ n other low here lower. passed_case not_less n other low here lower (same_or_not n at);
      first = s.first;
      saved_is = s.saved_is;
      age_is = s.age_is;
    }

-- the saving at an index
pub saving_there : (ss : List Saving) (i : ℕ) (d : Saving) → i < length ss → slice_get ss i ≡ Some (slice_index_or ss i d)
saving_there [] i d h = absurd (omega (arith, h))
saving_there (s ∷ ss) zero d h = refl
saving_there (s ∷ ss) (suc i) d h = saving_there ss i d (omega (arith, h))

past_end : (ss : List Saving) (i : ℕ) (x : Saving) → slice_get ss i ≡ Some x → i < length ss
past_end [] i x h = cc
past_end (s ∷ ss) zero x h = omega arith
past_end (s ∷ ss) (suc i) x h = let more = past_end ss i x h in omega (arith, more)

-- after the last index the search has found the victim
pub victim_found : (ss : List Saving) (uses at victim saves old : ℕ) → Searched ss uses at victim saves old → length ss ≤ at → IsVictim ss uses victim
victim_found ss uses at victim saves old s all = record {
  saving = s.saving;
  is_there = s.is_there;
  least = λ n other here lower. let inside = past_end ss n other here in s.least n other (omega (arith, inside, all)) here lower;
  first = s.first;
}

pub get_dropped : {A : Type 0} (xs : List A) (n i m : ℕ) → m ≡ n + i → slice_get (drop n xs) i ≡ slice_get xs m
get_dropped xs zero i m h = let same : i ≡ m = omega (arith, h) in ap (slice_get xs) same
get_dropped [] (suc n) i zero h = refl
get_dropped [] (suc n) i (suc m) h = refl
get_dropped (x ∷ xs) (suc n) i zero h = absurd (omega (arith, h))
get_dropped (x ∷ xs) (suc n) i (suc m) h = get_dropped xs n i m (omega (arith, h))

pub get_taken : {A : Type 0} (xs : List A) (n i : ℕ) → i < n → slice_get (take n xs) i ≡ slice_get xs i
get_taken xs zero i low = absurd (omega (arith, low))
get_taken [] (suc n) i low = refl
get_taken (x ∷ xs) (suc n) zero low = refl
get_taken (x ∷ xs) (suc n) (suc i) low = get_taken xs n i (omega (arith, low))

get_mapped : (f : Saving → ℕ) (ss : List Saving) (n : ℕ) (x : Saving) → slice_get ss n ≡ Some x → slice_get (map f ss) n ≡ Some (f x)
get_mapped f [] n x h = cc
get_mapped f (s ∷ ss) zero x h = let is : s ≡ x = cc in ap (λ (y : Saving). Some (f y)) is
get_mapped f (s ∷ ss) (suc n) x h = get_mapped f ss n x h

-- the part of a list from one index up to another
get_between : (f : Saving → ℕ) (ss : List Saving) (from to n : ℕ) (x : Saving) → from ≤ n → n < to → slice_get ss n ≡ Some x → slice_get (slice_range (map f ss) from to) (n - from) ≡ Some (f x)
get_between f ss from to n x after low h =
    get_taken (drop from (map f ss)) (to - from) (n - from) (omega (arith, after, low))
    ∙ get_dropped (map f ss) from (n - from) n (omega (arith, after))
    ∙ get_mapped f ss n x h

module _ (ss : List Saving) (uses at victim saves old : ℕ) (s : Searched ss uses at victim saves old) (end : ℕ) (none : NoneIsLess (slice_range (map saved ss) at end) (slice_range (map last_use ss) at end) uses saves old) where
  in_numbers : (other : Saving) → SavesLess uses other s.saving → saved other * old < saves * age uses other
  in_numbers other h =
      subst (λ (o : ℕ). saved other * o < saves * age uses other) (sym s.age_is) (subst (λ (v : ℕ). saved other * age uses s.saving < v * age uses other) (sym s.saved_is) h)

  skipped_case : (n : ℕ) (other : Saving) → n < end → slice_get ss n ≡ Some other → SavesLess uses other s.saving → (at ≤ n) ⊎ (n < at) → ⊥
  skipped_case n other low here less (inr before) = s.least n other before here less
  skipped_case n other low here less (inl after) =
      none (n - at) (saved other) (last_use other) (get_between saved ss at end n other after low here) (get_between last_use ss at end n other after low here) (in_numbers other less)

  -- a part in which none is worth less is skipped
  pub skipped_searched : Searched ss uses end victim saves old
  skipped_searched = record {
    saving = s.saving;
    is_there = s.is_there;
    least = λ n other low here less. skipped_case n other low here less (up_to_or_behind at n);
    first = s.first;
    saved_is = s.saved_is;
    age_is = s.age_is;
  }

pub replicate_mapped : (f : Saving → ℕ) (n : ℕ) (x : Saving) → replicate n (f x) ≡ map f (replicate n x)
replicate_mapped f zero x = refl
replicate_mapped f (suc n) x = ap (λ ys. f x ∷ ys) (replicate_mapped f n x)
