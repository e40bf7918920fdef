-- Runs, and what is trusted along them.
use Rattle.std.proofs.Common.{◌≡◌, ℕ, zero, suc, ◌+◌, ◌-◌, ◌<◌, ◌≤◌, ◌⊎◌, inl, inr, Bool, true, false, ◌||◌, List, length, nat_eq, refl, sym, ap, subst, ◌∙◌, arith}
use Rattle.std.proofs.lemmas.Bool.{eqb-true}
use Rattle.std.specs.Cmp.{nat_eq_equiv}
use Rattle.state_cache.specs.Costs.{IsOneRun, cut_at}
use Rattle.state_cache.specs.Views.{MarkedPacket, View, is_usable, cached_at, key_at, mark_at}
use Rattle.state_cache.proofs.Trust.{mark_here, trust, trust_false, trust_marked, trust_plain, usable_both}
use Rattle.state_cache.proofs.Steps.{key_here}
use Rattle.state_cache.proofs.Truth.{present}

same_case : (p m : ℕ) (b : Bool) → nat_eq p m ≡ b → (p ≡ m) ⊎ (p ≡ m → ⊥)
same_case p m true e = inl (eqb-true p m e)
same_case p m false e = inr (λ same. let is : nat_eq p m ≡ true = ap (nat_eq p) (sym same) ∙ nat_eq_equiv.refl p in cc)

-- two indexes are equal or not
pub same_or_not : (p m : ℕ) → (p ≡ m) ⊎ (p ≡ m → ⊥)
same_or_not p m = same_case p m (nat_eq p m) refl

one_more : (p m : ℕ) → (p ≤ m) ⊎ (m < p) → (suc p ≤ suc m) ⊎ (suc m < suc p)
one_more p m (inl h) = inl (omega (arith, h))
one_more p m (inr h) = inr (omega (arith, h))

-- one is at most the other, or greater
pub up_to_or_behind : (p m : ℕ) → (p ≤ m) ⊎ (m < p)
up_to_or_behind zero m = inl (omega arith)
up_to_or_behind (suc p) zero = inr (omega arith)
up_to_or_behind (suc p) (suc m) = one_more p m (up_to_or_behind p m)

pub not_true : (b : Bool) → (b ≡ true → ⊥) → b ≡ false
not_true true h = absurd (h refl)
not_true false h = refl

or_false : (a b : Bool) → (a || b) ≡ false → (a ≡ false) × (b ≡ false)
or_false true b h = cc
or_false false b h = (refl, h)

first_case : (p : ℕ) (b : Bool) → nat_eq p 0 ≡ b → 0 < p → nat_eq p 0 ≡ false
first_case p true e h = let zero_is : p ≡ 0 = eqb-true p 0 e in absurd (omega (arith, zero_is, h))
first_case p false e h = e

-- a cut at an index other than 0
pub cut_is : (xs : List MarkedPacket) (p : ℕ) → 0 < p → cut_at xs p ≡ (key_at xs p || mark_at xs p)
cut_is xs p h = ap (λ (b : Bool). b || (key_at xs p || mark_at xs p)) (first_case p (nat_eq p 0) refl h)

pub no_cut : (xs : List MarkedPacket) (p : ℕ) → cut_at xs p ≡ false → (key_at xs p ≡ false) × (mark_at xs p ≡ false)
no_cut xs p h = or_false (key_at xs p) (mark_at xs p) (or_false (nat_eq p 0) (key_at xs p || mark_at xs p) h).1

module _ (xs : List MarkedPacket) where
  -- after a packet that is not a cut trust continues
  trust_on : (j : ℕ) → j < length xs → cut_at xs j ≡ false → trust xs j ≡ true → trust xs (j + 1) ≡ true
  trust_on j within none t =
      let p = present xs j within in
      let plain = no_cut xs j none in
      trust_plain xs j p.0 p.1 (sym (key_here xs j p.0 p.1) ∙ plain.0) (sym (mark_here xs j p.0 p.1) ∙ plain.1) ∙ t

  along : (a n b : ℕ) → b ≡ a + n → trust xs (a + 1) ≡ true → IsOneRun xs a b → b < length xs → trust xs (b + 1) ≡ true
  along a zero b e t run within = let is : b ≡ a = omega (arith, e) in subst (λ (k : ℕ). trust xs (k + 1) ≡ true) (sym is) t
  along a (suc n) b e t run within =
      let before : trust xs (a + n + 1) ≡ true = along a n (a + n) refl t (λ p x y. run p x (omega (arith, y, e))) (omega (arith, e, within)) in
      let is : b ≡ a + n + 1 = omega (arith, e) in
      subst (λ (k : ℕ). trust xs (k + 1) ≡ true) (sym is)
      (trust_on (a + n + 1) (omega (arith, is, within)) (run (a + n + 1) (omega arith) (omega (arith, is))) before)

  -- a run is trusted up to its end
  pub trust_along : (a b : ℕ) → a ≤ b → trust xs (a + 1) ≡ true → IsOneRun xs a b → b < length xs → trust xs (b + 1) ≡ true
  trust_along a b up t run within = let n : b ≡ a + (b - a) = omega (arith, up) in along a (b - a) b n t run within

  untrusted : (a n b : ℕ) → b ≡ a + n → trust xs (a + 1) ≡ false → ((p : ℕ) → a < p → p ≤ b → key_at xs p ≡ false) → b < length xs → trust xs (b + 1) ≡ false
  untrusted a zero b e t keys within = let is : b ≡ a = omega (arith, e) in subst (λ (k : ℕ). trust xs (k + 1) ≡ false) (sym is) t
  untrusted a (suc n) b e t keys within =
      let before : trust xs (a + n + 1) ≡ false = untrusted a n (a + n) refl t (λ p x y. keys p x (omega (arith, y, e))) (omega (arith, e, within)) in
      let is : b ≡ a + n + 1 = omega (arith, e) in
      let p = present xs (a + n + 1) (omega (arith, is, within)) in
      subst (λ (k : ℕ). trust xs (k + 1) ≡ false) (sym is)
      (trust_false xs (a + n + 1) p.0 p.1 (sym (key_here xs (a + n + 1) p.0 p.1) ∙ keys (a + n + 1) (omega arith) (omega (arith, is))) before)

  -- after a mark on a packet with no key tag nothing is trusted up to the next key tag
  pub mark_ends : (a b : ℕ) → a ≤ b → b < length xs → mark_at xs a ≡ true → ((p : ℕ) → a ≤ p → p ≤ b → key_at xs p ≡ false) → trust xs (b + 1) ≡ false
  mark_ends a b up within marked keys =
      let p = present xs a (omega (arith, up, within)) in
      let n : b ≡ a + (b - a) = omega (arith, up) in
      untrusted a (b - a) b n
      (trust_marked xs a p.0 p.1 (sym (key_here xs a p.0 p.1) ∙ keys a (omega arith) up) (sym (mark_here xs a p.0 p.1) ∙ marked))
      (λ q x y. keys q (omega (arith, x)) y) within

  mark_case : (a p b : ℕ) (m : Bool) → mark_at xs p ≡ m → a < p → p ≤ b → b < length xs → trust xs (b + 1) ≡ true → ((q : ℕ) → a < q → q ≤ b → key_at xs q ≡ false) → cut_at xs p ≡ false
  mark_case a p b true e lo hi within t keys =
      let ends : trust xs (b + 1) ≡ false = mark_ends p b hi within e (λ q x y. keys q (omega (arith, lo, x)) y) in
      cc
  mark_case a p b false e lo hi within t keys = cut_is xs p (omega (arith, lo)) ∙ ap (λ (k : Bool). k || mark_at xs p) (keys p lo hi) ∙ e

  -- if an index is trusted, there is no cut since an earlier index with no key tag between them
  pub one_run_trusted : (a b : ℕ) → b < length xs → trust xs (b + 1) ≡ true → ((q : ℕ) → a < q → q ≤ b → key_at xs q ≡ false) → IsOneRun xs a b
  one_run_trusted a b within t keys p lo hi = mark_case a p b (mark_at xs p) refl lo hi within t keys

  -- a cached index of a trusted run is usable
  pub usable_along : (kept : View) (a b : ℕ) → a ≤ b → trust xs (a + 1) ≡ true → IsOneRun xs a b → b < length xs → cached_at xs kept b ≡ true → is_usable xs kept b ≡ true
  usable_along kept a b up t run within k = usable_both xs kept b k (trust_along a b up t run within)
