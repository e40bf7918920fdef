-- Room: how many outcomes are cached, and how many new ones come on the way.
use Rattle.std.proofs.Common.{◌≡◌, ℕ, zero, suc, ◌+◌, ◌<◌, ◌≤◌, true, false, cond, List, [], ◌∷◌, Option, Some, None, is_some, is_none, take, drop, slice_get, refl, sym, ap, ◌∙◌, arith, add-one}
use Rattle.std.specs.Prelude.{count_by}
use Rattle.std.proofs.lemmas.List.Sums.{sum_by-cons, sum_by-le-sum_by}
use Rattle.packet_edits.specs.declared.entry.Entry.{Entry}
use Rattle.state_cache.specs.declared.outcomes.Kept.{Kept}
use Rattle.state_cache.specs.Costs.{uncached_from}
use Rattle.state_cache.specs.Views.{View}

-- one if an outcome is missing
abbrev pub one_missing : Option Kept → ℕ
one_missing o = cond (is_none o) 1 0

abbrev count : View → List Entry → ℕ
count kept es = count_by (λ (entry : Entry). is_none (kept entry.id)) es

count_cons : (kept : View) (e : Entry) (es : List Entry) → count kept (e ∷ es) ≡ one_missing (kept e.id) + count kept es
count_cons kept e es = sum_by-cons (λ (entry : Entry). cond (is_none (kept entry.id)) 1 0) e es

missing_less : (o o' : Option Kept) → (is_some o ≡ true → is_some o' ≡ true) → one_missing o' ≤ one_missing o
missing_less None None h = omega arith
missing_less None (Some k) h = omega arith
missing_less (Some k) None h = let no : false ≡ true = h refl in cc
missing_less (Some k) (Some l) h = omega arith

-- with more outcomes cached fewer are missing
count_less : (kept kept' : View) (es : List Entry) → ((q : ℕ) → is_some (kept q) ≡ true → is_some (kept' q) ≡ true) → count kept' es ≤ count kept es
count_less kept kept' es still =
    sum_by-le-sum_by (λ (entry : Entry). cond (is_none (kept' entry.id)) 1 0) (λ (entry : Entry). cond (is_none (kept entry.id)) 1 0) es
    (λ e. missing_less (kept e.id) (kept' e.id) (still e.id))

drop_less : (kept : View) (es : List Entry) (n : ℕ) → count kept (drop n es) ≤ count kept es
drop_less kept [] zero = omega arith
drop_less kept [] (suc n) = omega arith
drop_less kept (e ∷ es) zero = omega arith
drop_less kept (e ∷ es) (suc n) =
    let rest = drop_less kept es n in
    let one = count_cons kept e es in
    omega (arith, rest, one)

-- and starting at a later index
drops_less : (kept : View) (es : List Entry) (m n : ℕ) → m ≤ n → count kept (drop n es) ≤ count kept (drop m es)
drops_less kept es zero n h = drop_less kept es n
drops_less kept [] (suc m) zero h = omega arith
drops_less kept [] (suc m) (suc n) h = omega arith
drops_less kept (e ∷ es) (suc m) zero h = absurd (omega (arith, h))
drops_less kept (e ∷ es) (suc m) (suc n) h = drops_less kept es m n (omega (arith, h))

take_get : (es : List Entry) (n i : ℕ) → i < n → slice_get (take n es) i ≡ slice_get es i
take_get [] zero i h = refl
take_get [] (suc n) i h = refl
take_get (e ∷ es) zero i h = absurd (omega (arith, h))
take_get (e ∷ es) (suc n) zero h = refl
take_get (e ∷ es) (suc n) (suc i) h = take_get es n i (omega (arith, h))

drop_here : (es : List Entry) (i : ℕ) (e : Entry) → slice_get es i ≡ Some e → drop i es ≡ e ∷ drop (suc i) es
drop_here [] i e h = cc
drop_here (x ∷ es) zero e h = let is : x ≡ e = cc in ap (λ (y : Entry). y ∷ es) is
drop_here (x ∷ es) (suc i) e h = drop_here es i e h

module _ (es : List Entry) (kept : View) (m place : ℕ) (e : Entry) (h : slice_get es m ≡ Some e) (low : m ≤ place) where
  -- the indexes starting at one: that index, and those after it
  pub unkept_step : uncached_from es kept m place ≡ one_missing (kept e.id) + uncached_from es kept (m + 1) place
  unkept_step =
      let there : slice_get (take (place + 1) es) m ≡ Some e = take_get es (place + 1) m (omega (arith, low)) ∙ h in
      ap (count kept) (drop_here (take (place + 1) es) m e there)
      ∙ count_cons kept e (drop (suc m) (take (place + 1) es))
      ∙ ap (λ (n : ℕ). one_missing (kept e.id) + count kept (drop n (take (place + 1) es))) (sym (add-one m))

  -- after a cached step fewer new ones come
  pub unkept_further : (kept' : View) (further : ℕ) → m < further → ((q : ℕ) → is_some (kept q) ≡ true → is_some (kept' q) ≡ true)
      → one_missing (kept e.id) + uncached_from es kept' further place ≤ uncached_from es kept m place
  unkept_further kept' further up still =
      let now = unkept_step in
      let later = drops_less kept (take (place + 1) es) (m + 1) further (omega (arith, up)) in
      let more = count_less kept kept' (drop further (take (place + 1) es)) still in
      omega (arith, now, later, more)
