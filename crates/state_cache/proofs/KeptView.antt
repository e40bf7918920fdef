-- A view is coherent exactly if it has the property stated by runs.
use Rattle.std.proofs.Common.{◌≡◌, ℕ, zero, suc, ◌+◌, ◌-◌, ◌<◌, ◌≤◌, ◌⊎◌, inl, inr, Bool, true, false, ◌||◌, List, [], ◌∷◌, ◌++◌, Option, Some, None, is_some, length, take, drop, slice_get, option_and_then, refl, sym, ap, subst, ◌∙◌, arith, add-one, add-zero}
use Rattle.std.specs.Option.{option_map_or}
use Rattle.vp8_tables.specs.Tables.{TableEntries}
use Rattle.frame_header.specs.Tags.{has_key_tag}
use Rattle.state_cache.specs.declared.outcomes.Kept.{Kept}
use Rattle.state_cache.specs.Costs.{IsOneRun, cut_at}
use Rattle.state_cache.specs.CacheViews.{BeginsKnown, CoherentIsCacheView, IsCacheView, StepsReach, bytes_at, left_after}
use Rattle.state_cache.specs.Views.{Before, CoherentFrom, Fits, Follows, IsCoherent, MarkedPacket, View, entering, cached_at, known, known_after, leaving, stepped, unknown, mark_at, outcome_at}
use Rattle.state_cache.proofs.Known.{coherent_parts}
use Rattle.state_cache.proofs.Marked.{known_more, split_here, take_next}
use Rattle.state_cache.proofs.Runs.{cut_is, no_cut, same_or_not}
use Rattle.state_cache.proofs.Trust.{mark_here}
use Rattle.state_cache.proofs.Steps.{key_here}
use Rattle.state_cache.proofs.Truth.{present}

-- a fact about p + 1 and about the indexes before it
before_or_at : (A : ℕ → Type 0) (p q : ℕ) → (q < p → A q) → A p → q < p + 1 → (q ≡ p) ⊎ (q ≡ p → ⊥) → A q
before_or_at A p q f a h (inl e) = subst A (sym e) a
before_or_at A p q f a h (inr other) = f (omega (arith, h, other))

outcome_here : (xs : List MarkedPacket) (kept : View) (p : ℕ) (x : MarkedPacket) → slice_get xs p ≡ Some x → outcome_at xs kept p ≡ kept x.id
outcome_here xs kept p x h = ap (λ (s : Option MarkedPacket). option_and_then (λ (packet : MarkedPacket). kept packet.id) s) h

bytes_here : (xs : List MarkedPacket) (p : ℕ) (x : MarkedPacket) → slice_get xs p ≡ Some x → bytes_at xs p ≡ x.bytes
bytes_here xs p x h = ap (λ (s : Option MarkedPacket). option_map_or (λ (packet : MarkedPacket). packet.bytes) s []) h

none_is : (o : Option Kept) → is_some o ≡ false → o ≡ None
none_is None h = refl
none_is (Some k) h = cc

unkept_here : (xs : List MarkedPacket) (kept : View) (p : ℕ) (x : MarkedPacket) → slice_get xs p ≡ Some x → cached_at xs kept p ≡ false → kept x.id ≡ None
unkept_here xs kept p x h k = none_is (kept x.id) (sym (ap (λ (s : Option MarkedPacket). option_map_or (λ (packet : MarkedPacket). is_some (kept packet.id)) s false) h) ∙ k)

present_outcome : (xs : List MarkedPacket) (kept : View) (p : ℕ) (k : Kept) (s : Option MarkedPacket) → slice_get xs p ≡ s → option_and_then (λ (packet : MarkedPacket). kept packet.id) s ≡ Some k → (x : MarkedPacket) × (slice_get xs p ≡ Some x) × (kept x.id ≡ Some k)
present_outcome xs kept p k None e h = cc
present_outcome xs kept p k (Some x) e h = (x, e, h)

in_range : (xs : List MarkedPacket) (p : ℕ) (x : MarkedPacket) → slice_get xs p ≡ Some x → p < length xs
in_range [] p x h = cc
in_range (y ∷ xs) zero x h = omega arith
in_range (y ∷ xs) (suc p) x h = let more = in_range xs p x h in omega (arith, more)

entering_plain : (b : Before) (x : MarkedPacket) → has_key_tag x.bytes ≡ false → x.marked ≡ false → entering b x ≡ b
entering_plain b x k m = rw (k, m) refl

entering_none : (x : MarkedPacket) (k : Bool) → has_key_tag x.bytes ≡ k → x.marked ≡ false → entering (known None) x ≡ known None
entering_none x true k m = rw k refl
entering_none x false k m = entering_plain (known None) x k m

module _ (tables : TableEntries) (xs : List MarkedPacket) (kept : View) where
  -- what is known before an index
  abbrev before : ℕ → Before
  before p = known_after tables (known None) (take p xs) kept

  before_more : (p : ℕ) (x : MarkedPacket) → slice_get xs p ≡ Some x → before (p + 1) ≡ leaving tables (entering (before p) x) x.bytes (kept x.id)
  before_more p x h = ap before (add-one p) ∙ ap (λ (zs : List MarkedPacket). known_after tables (known None) zs kept) (take_next xs p x h) ∙ known_more tables (known None) (take p xs) x kept

  before_kept : (p : ℕ) (x : MarkedPacket) (k : Kept) → slice_get xs p ≡ Some x → kept x.id ≡ Some k → before (p + 1) ≡ known (Some k.state)
  before_kept p x k h e = before_more p x h ∙ ap (λ (o : Option Kept). leaving tables (entering (before p) x) x.bytes o) e

  before_unkept : (p : ℕ) (x : MarkedPacket) (b : Before) → slice_get xs p ≡ Some x → kept x.id ≡ None → entering (before p) x ≡ b → before (p + 1) ≡ stepped tables b (bytes_at xs p)
  before_unkept p x b h e enters =
      before_more p x h ∙ ap (λ (o : Option Kept). leaving tables (entering (before p) x) x.bytes o) e
      ∙ ap (λ (w : Before). stepped tables w x.bytes) enters ∙ ap (stepped tables b) (sym (bytes_here xs p x h))

  plain_here : (p : ℕ) (x : MarkedPacket) → slice_get xs p ≡ Some x → cut_at xs p ≡ false → entering (before p) x ≡ before p
  plain_here p x h none =
      let parts = no_cut xs p none in
      entering_plain (before p) x (sym (key_here xs p x h) ∙ parts.0) (sym (mark_here xs p x h) ∙ parts.1)

  begins_case : (s : ℕ) (x : MarkedPacket) → slice_get xs s ≡ Some x → BeginsKnown xs s → entering (before s) x ≡ known None
  begins_case s x h (inl k) = let is : has_key_tag x.bytes ≡ true = sym (key_here xs s x h) ∙ k in rw is refl
  begins_case s x h (inr e) =
      ap (λ (n : ℕ). entering (before n) x) e.0 ∙ entering_none x (has_key_tag x.bytes) refl (sym (mark_here xs s x h) ∙ e.1)

  -- over indexes that are not cuts and not cached, what is known is the result of the steps
  plain_step : (b : Before) (s n : ℕ) → before (s + n) ≡ left_after tables xs b s n → s + n < length xs → cut_at xs (s + n) ≡ false → cached_at xs kept (s + n) ≡ false → before (s + suc n) ≡ left_after tables xs b s (suc n)
  plain_step b s n e within none unkept =
      let x = present xs (s + n) within in
      let on : s + suc n ≡ s + n + 1 = omega arith in
      ap before on
      ∙ before_unkept (s + n) x.0 (left_after tables xs b s n) x.1 (unkept_here xs kept (s + n) x.0 x.1 unkept) (plain_here (s + n) x.0 x.1 none ∙ e)

  along : (b : Before) (s n : ℕ) → before s ≡ b → s + n ≤ length xs → ((p : ℕ) → s ≤ p → p < s + n → cut_at xs p ≡ false) → ((p : ℕ) → s ≤ p → p < s + n → cached_at xs kept p ≡ false) → before (s + n) ≡ left_after tables xs b s n
  along b s zero e within plain none = ap before (add-zero s) ∙ e
  along b s (suc n) e within plain none =
      let so_far = along b s n e (omega (arith, within)) (λ p x y. plain p x (omega (arith, y))) (λ p x y. none p x (omega (arith, y))) in
      plain_step b s n so_far (omega (arith, within)) (plain (s + n) (omega arith) (omega arith)) (none (s + n) (omega arith) (omega arith))

  first_step : (s : ℕ) → BeginsKnown xs s → s < length xs → cached_at xs kept s ≡ false → before (s + 1) ≡ left_after tables xs (known None) s 1
  first_step s begins within none =
      let x = present xs s within in
      before_unkept s x.0 (known None) x.1 (unkept_here xs kept s x.0 x.1 none) (begins_case s x.0 x.1 begins)
      ∙ ap (λ (n : ℕ). stepped tables (known None) (bytes_at xs n)) (sym (add-zero s))

  along_begun : (s n : ℕ) → BeginsKnown xs s → s + suc n ≤ length xs → ((p : ℕ) → s < p → p < s + suc n → cut_at xs p ≡ false) → ((p : ℕ) → s ≤ p → p < s + suc n → cached_at xs kept p ≡ false) → before (s + suc n) ≡ left_after tables xs (known None) s (suc n)
  along_begun s zero begins within plain none = let on : s + suc zero ≡ s + 1 = omega arith in ap before on ∙ first_step s begins (omega (arith, within)) (none s (omega arith) (omega arith))
  along_begun s (suc n) begins within plain none =
      let so_far = along_begun s n begins (omega (arith, within)) (λ p x y. plain p x (omega (arith, y))) (λ p x y. none p x (omega (arith, y))) in
      plain_step (known None) s (suc n) so_far (omega (arith, within)) (plain (s + suc n) (omega arith) (omega arith)) (none (s + suc n) (omega arith) (omega arith))

  -- a coherent view has the property
  module _ (coherent : IsCoherent tables xs kept) where
    fits_here : (p : ℕ) (x : MarkedPacket) (k : Kept) (b : Before) → slice_get xs p ≡ Some x → kept x.id ≡ Some k → entering (before p) x ≡ b → Follows tables b (bytes_at xs p) k
    fits_here p x k b h e enters =
        let all : CoherentFrom tables (known None) (take p xs ++ x ∷ drop (suc p) xs) kept = subst (λ zs. IsCoherent tables zs kept) (split_here xs p x h) coherent in
        let parts = coherent_parts tables (known None) (take p xs) (x ∷ drop (suc p) xs) kept all in
        let follows : Follows tables (entering (before p) x) x.bytes k = subst (λ o. Fits tables (entering (before p) x) x.bytes o) e parts.1.0 in
        subst (λ (bs : List ℕ). Follows tables b bs k) (sym (bytes_here xs p x h)) (subst (λ (w : Before). Follows tables w x.bytes k) enters follows)

    kept_gives : (nearest place : ℕ) (was outcome : Kept) → outcome_at xs kept nearest ≡ Some was → outcome_at xs kept place ≡ Some outcome → nearest < place → IsOneRun xs nearest place
        → ((p : ℕ) → nearest < p → p < place → cached_at xs kept p ≡ false) → StepsReach tables xs (Some was.state) (nearest + 1) place outcome
    kept_gives nearest place was outcome h k lo run none =
        let x = present_outcome xs kept nearest was (slice_get xs nearest) refl h in
        let y = present_outcome xs kept place outcome (slice_get xs place) refl k in
        let within = in_range xs place y.0 y.1 in
        let n : nearest + 1 + (place - (nearest + 1)) ≡ place = omega (arith, lo) in
        let there : before (nearest + 1 + (place - (nearest + 1))) ≡ left_after tables xs (known (Some was.state)) (nearest + 1) (place - (nearest + 1)) =
        along (known (Some was.state)) (nearest + 1) (place - (nearest + 1)) (before_kept nearest x.0 was x.1 x.2) (omega (arith, n, within))
        (λ p a b. run p (omega (arith, a)) (omega (arith, b, n))) (λ p a b. none p (omega (arith, a)) (omega (arith, b, n))) in
        fits_here place y.0 outcome (left_after tables xs (known (Some was.state)) (nearest + 1) (place - (nearest + 1))) y.1 y.2
        (plain_here place y.0 y.1 (run place lo (omega arith)) ∙ ap before (sym n) ∙ there)

    none_case : (s n place : ℕ) (outcome : Kept) → s + n ≡ place → place - s ≡ n → outcome_at xs kept place ≡ Some outcome → BeginsKnown xs s → IsOneRun xs s place → ((p : ℕ) → s ≤ p → p < place → cached_at xs kept p ≡ false)
        → Follows tables (left_after tables xs (known None) s n) (bytes_at xs place) outcome
    none_case s zero place outcome e d k begins run none =
        let y = present_outcome xs kept place outcome (slice_get xs place) refl k in
        let same : s ≡ place = omega (arith, e) in
        fits_here place y.0 outcome (known None) y.1 y.2 (begins_case place y.0 y.1 (subst (λ (m : ℕ). BeginsKnown xs m) same begins))
    none_case s (suc n) place outcome e d k begins run none =
        let y = present_outcome xs kept place outcome (slice_get xs place) refl k in
        let within = in_range xs place y.0 y.1 in
        let there = along_begun s n begins (omega (arith, e, within)) (λ p a b. run p a (omega (arith, b, e))) (λ p a b. none p a (omega (arith, b, e))) in
        fits_here place y.0 outcome (left_after tables xs (known None) s (suc n)) y.1 y.2 (plain_here place y.0 y.1 (run place (omega (arith, e)) (omega arith)) ∙ ap before (sym e) ∙ there)

    coherent_is : IsCacheView tables xs kept
    coherent_is = record {
      from_cached = kept_gives;
      from_none = λ s place outcome k lo begins run none. none_case s (place - s) place outcome (omega (arith, lo)) refl k begins run none;
    }

  -- the source of what is known before an index
  data Source (p : ℕ) : Type 0 where
    free : before p ≡ unknown → Source p
    at_start : p ≡ 0 → Source p
    from_cached : (q n : ℕ) (was : Kept) → q + 1 + n ≡ p → outcome_at xs kept q ≡ Some was → ((r : ℕ) → q < r → r < p → cut_at xs r ≡ false) → ((r : ℕ) → q < r → r < p → cached_at xs kept r ≡ false)
        → before p ≡ left_after tables xs (known (Some was.state)) (q + 1) n → Source p
    from_none : (s n : ℕ) → s + suc n ≡ p → BeginsKnown xs s → ((r : ℕ) → s < r → r < p → cut_at xs r ≡ false) → ((r : ℕ) → s ≤ r → r < p → cached_at xs kept r ≡ false)
        → before p ≡ left_after tables xs (known None) s (suc n) → Source p

  unkept_at : (p : ℕ) (x : MarkedPacket) → slice_get xs p ≡ Some x → kept x.id ≡ None → cached_at xs kept p ≡ false
  unkept_at p x h e = ap (λ (s : Option MarkedPacket). option_map_or (λ (packet : MarkedPacket). is_some (kept packet.id)) s false) h ∙ ap is_some e

  no_cut_at : (p : ℕ) (x : MarkedPacket) → slice_get xs p ≡ Some x → 0 < p → has_key_tag x.bytes ≡ false → x.marked ≡ false → cut_at xs p ≡ false
  no_cut_at p x h some k m = cut_is xs p some ∙ ap (λ (b : Bool). b || mark_at xs p) (key_here xs p x h ∙ k) ∙ mark_here xs p x h ∙ m

  begun_at : (p : ℕ) (x : MarkedPacket) → slice_get xs p ≡ Some x → kept x.id ≡ None → BeginsKnown xs p → Source (p + 1)
  begun_at p x h e begins =
      from_none p 0 (omega arith) begins (λ r a b. absurd (omega (arith, a, b)))
      (λ r a b. before_or_at (λ q. cached_at xs kept q ≡ false) p r (λ c. absurd (omega (arith, a, c))) (unkept_at p x h e) b (same_or_not r p))
      (first_step p begins (in_range xs p x h) (unkept_at p x h e))

  plain_more : (p : ℕ) (x : MarkedPacket) → slice_get xs p ≡ Some x → kept x.id ≡ None → has_key_tag x.bytes ≡ false → x.marked ≡ false → Source p → Source (p + 1)
  plain_more p x h e k m (free u) = free (before_unkept p x unknown h e (entering_plain (before p) x k m ∙ u))
  plain_more p x h e k m (at_start z) = begun_at p x h e (inr (z, mark_here xs p x h ∙ m))
  plain_more p x h e k m (from_cached q n was is o cuts none b) =
      let plain = no_cut_at p x h (omega (arith, is)) k m in
      from_cached q (suc n) was (omega (arith, is)) o
      (λ r a c. before_or_at (λ j. cut_at xs j ≡ false) p r (λ d. cuts r a d) plain c (same_or_not r p))
      (λ r a c. before_or_at (λ j. cached_at xs kept j ≡ false) p r (λ d. none r a d) (unkept_at p x h e) c (same_or_not r p))
      (before_unkept p x (left_after tables xs (known (Some was.state)) (q + 1) n) h e (entering_plain (before p) x k m ∙ b)
      ∙ ap (λ (j : ℕ). stepped tables (left_after tables xs (known (Some was.state)) (q + 1) n) (bytes_at xs j)) (sym is))
  plain_more p x h e k m (from_none s n is begins cuts none b) =
      let plain = no_cut_at p x h (omega (arith, is)) k m in
      from_none s (suc n) (omega (arith, is)) begins
      (λ r a c. before_or_at (λ j. cut_at xs j ≡ false) p r (λ d. cuts r a d) plain c (same_or_not r p))
      (λ r a c. before_or_at (λ j. cached_at xs kept j ≡ false) p r (λ d. none r a d) (unkept_at p x h e) c (same_or_not r p))
      (before_unkept p x (left_after tables xs (known None) s (suc n)) h e (entering_plain (before p) x k m ∙ b)
      ∙ ap (λ (j : ℕ). stepped tables (left_after tables xs (known None) s (suc n)) (bytes_at xs j)) (sym is))

  more_case : (p : ℕ) (x : MarkedPacket) (k m : Bool) → slice_get xs p ≡ Some x → kept x.id ≡ None → has_key_tag x.bytes ≡ k → x.marked ≡ m → Source p → Source (p + 1)
  more_case p x true m h e ek em s = begun_at p x h e (inl (key_here xs p x h ∙ ek))
  more_case p x false true h e ek em s = free (before_unkept p x unknown h e (rw (ek, em) refl))
  more_case p x false false h e ek em s = plain_more p x h e ek em s

  source_more : (p : ℕ) (x : MarkedPacket) (o : Option Kept) → slice_get xs p ≡ Some x → kept x.id ≡ o → Source p → Source (p + 1)
  source_more p x None h e s = more_case p x (has_key_tag x.bytes) x.marked h e refl refl s
  source_more p x (Some k) h e s =
      from_cached p 0 k (omega arith) (outcome_here xs kept p x h ∙ e) (λ r a b. absurd (omega (arith, a, b))) (λ r a b. absurd (omega (arith, a, b))) (before_kept p x k h e)

  source : (p : ℕ) → p ≤ length xs → Source p
  source zero within = at_start refl
  source (suc p) within =
      let x = present xs p (omega (arith, within)) in
      subst Source (add-one p) (source_more p x.0 (kept x.0.id) x.1 refl (source p (omega (arith, within))))

  -- a view with the property is coherent
  module _ (view : IsCacheView tables xs kept) where
    plain_run : (q p : ℕ) → cut_at xs p ≡ false → ((r : ℕ) → q < r → r < p → cut_at xs r ≡ false) → IsOneRun xs q p
    plain_run q p here cuts r a b = before_or_at (λ j. cut_at xs j ≡ false) p r (λ c. cuts r a c) here (omega (arith, b)) (same_or_not r p)

    gives_bytes : (p : ℕ) (x : MarkedPacket) (k : Kept) (b w : Before) → slice_get xs p ≡ Some x → w ≡ b → Follows tables b (bytes_at xs p) k → Follows tables w x.bytes k
    gives_bytes p x k b w h e f = subst (λ (bs : List ℕ). Follows tables w bs k) (bytes_here xs p x h) (subst (λ (v : Before). Follows tables v (bytes_at xs p) k) (sym e) f)

    begun_gives : (p : ℕ) (x : MarkedPacket) (k : Kept) → slice_get xs p ≡ Some x → kept x.id ≡ Some k → BeginsKnown xs p → Follows tables (entering (before p) x) x.bytes k
    begun_gives p x k h e begins =
        let zero_is : p - p ≡ 0 = omega arith in
        let gives = view.from_none p p k (outcome_here xs kept p x h ∙ e) (omega arith) begins (λ r a b. absurd (omega (arith, a, b))) (λ r a b. absurd (omega (arith, a, b))) in
        gives_bytes p x k (left_after tables xs (known None) p (p - p)) (entering (before p) x) h (begins_case p x h begins ∙ sym (ap (left_after tables xs (known None) p) zero_is)) gives

    plain_gives : (p : ℕ) (x : MarkedPacket) (k : Kept) → slice_get xs p ≡ Some x → kept x.id ≡ Some k → has_key_tag x.bytes ≡ false → x.marked ≡ false → Source p → Follows tables (entering (before p) x) x.bytes k
    plain_gives p x k h e ek em (free u) = subst (λ (w : Before). Follows tables w x.bytes k) (sym (entering_plain (before p) x ek em ∙ u)) tt
    plain_gives p x k h e ek em (at_start z) = begun_gives p x k h e (inr (z, mark_here xs p x h ∙ em))
    plain_gives p x k h e ek em (from_cached q n was is o cuts none b) =
        let here = no_cut_at p x h (omega (arith, is)) ek em in
        let long : p - (q + 1) ≡ n = omega (arith, is) in
        let gives = view.from_cached q p was k o (outcome_here xs kept p x h ∙ e) (omega (arith, is)) (plain_run q p here cuts) none in
        gives_bytes p x k (left_after tables xs (known (Some was.state)) (q + 1) (p - (q + 1))) (entering (before p) x) h
        (entering_plain (before p) x ek em ∙ b ∙ sym (ap (left_after tables xs (known (Some was.state)) (q + 1)) long)) gives
    plain_gives p x k h e ek em (from_none s n is begins cuts none b) =
        let here = no_cut_at p x h (omega (arith, is)) ek em in
        let long : p - s ≡ suc n = omega (arith, is) in
        let gives = view.from_none s p k (outcome_here xs kept p x h ∙ e) (omega (arith, is)) begins (plain_run s p here cuts) none in
        gives_bytes p x k (left_after tables xs (known None) s (p - s)) (entering (before p) x) h (entering_plain (before p) x ek em ∙ b ∙ sym (ap (left_after tables xs (known None) s) long)) gives

    gives_case : (p : ℕ) (x : MarkedPacket) (k : Kept) (b m : Bool) → slice_get xs p ≡ Some x → kept x.id ≡ Some k → has_key_tag x.bytes ≡ b → x.marked ≡ m → Source p → Follows tables (entering (before p) x) x.bytes k
    gives_case p x k true m h e eb em s = begun_gives p x k h e (inl (key_here xs p x h ∙ eb))
    gives_case p x k false true h e eb em s = let forgets : entering (before p) x ≡ unknown = rw (eb, em) refl in subst (λ (w : Before). Follows tables w x.bytes k) (sym forgets) tt
    gives_case p x k false false h e eb em s = plain_gives p x k h e eb em s

    fits_case : (p : ℕ) (x : MarkedPacket) (o : Option Kept) → slice_get xs p ≡ Some x → kept x.id ≡ o → Fits tables (entering (before p) x) x.bytes o
    fits_case p x None h e = tt
    fits_case p x (Some k) h e = let within = in_range xs p x h in gives_case p x k (has_key_tag x.bytes) x.marked h e refl refl (source p (omega (arith, within)))

    fits_at : (p : ℕ) (x : MarkedPacket) → slice_get xs p ≡ Some x → Fits tables (entering (before p) x) x.bytes (kept x.id)
    fits_at p x h = fits_case p x (kept x.id) h refl

-- a view that fits at each index is coherent
each_fits : (tables : TableEntries) (b : Before) (xs : List MarkedPacket) (kept : View) → ((p : ℕ) (x : MarkedPacket) → slice_get xs p ≡ Some x → Fits tables (entering (known_after tables b (take p xs) kept) x) x.bytes (kept x.id)) → CoherentFrom tables b xs kept
each_fits tables b [] kept f = tt
each_fits tables b (x ∷ xs) kept f = (f 0 x refl, each_fits tables (leaving tables (entering b x) x.bytes (kept x.id)) xs kept (λ p y h. f (suc p) y h))

pub coherent_is_kept_view : CoherentIsCacheView
coherent_is_kept_view tables xs kept = (λ coherent. coherent_is tables xs kept coherent, λ view. each_fits tables (known None) xs kept (fits_at tables xs kept view))
