-- The searches of a walk: the first index to step, and the last cached index of a run.
use Rattle.std.proofs.Common.{◌≡◌, ℕ, zero, suc, ◌+◌, ◌-◌, ◌<◌, ◌≤◌, Bool, true, false, ◌||◌, List, Option, Some, None, IfSome, inl, inr, length, refl, sym, ap, subst, ◌∙◌, arith}
use Rattle.std.specs.Option.{unwrap_or}
use Rattle.std.proofs.lemmas.Bool.{cases_lt}
use Rattle.packet_edits.specs.Nearest.{HoldsNowhere, IsFirst, IsLast}
use Rattle.state_cache.specs.Costs.{IsOneRun, cut_at}
use Rattle.state_cache.specs.Reaching.{Begins, IsNext, at_key, at_start, following}
use Rattle.state_cache.specs.ProofsOnly.{next_of, IsAfterCached}
use Rattle.state_cache.specs.Views.{MarkedPacket, View, is_usable, cached_at, key_at, mark_at}
use Rattle.state_cache.proofs.Runs.{cut_is, mark_ends}
use Rattle.state_cache.proofs.Steps.{key_here}
use Rattle.state_cache.proofs.Trust.{mark_here, not_usable_kept, not_usable_trust, trust, trust_key, trust_on_unmarked, usable_both}
use Rattle.state_cache.proofs.Truth.{present}

-- the first index of a range at which something holds, or its end
pub record IsEnd (holds : ℕ → Bool) (from end place : ℕ) : Type 0 where
  pub starts : from ≤ place
  pub within : place ≤ end
  pub earlier : HoldsNowhere holds from place
  pub here : place < end → holds place ≡ true

pub end_of : (holds : ℕ → Bool) (from end : ℕ) (r : Option ℕ) → from ≤ end → IsFirst holds from end r → IsEnd holds from end (unwrap_or r end)
end_of holds from end None order is = record { starts = order; within = omega arith; earlier = is; here = λ less. absurd (omega (arith, less)) }
end_of holds from end (Some p) order is =
    let less : p < end = is.within in
    record { starts = is.starts; within = omega (arith, less); earlier = is.earlier; here = λ within. is.here }

-- the index after the last one at which something holds is at most the end
pub next_within : (holds : ℕ → Bool) (from end : ℕ) (r : Option ℕ) → IsLast holds from end r → next_of r 0 ≤ end
next_within holds from end None is = omega arith
next_within holds from end (Some p) is = let less : p < end = is.within in omega (arith, less)

pub found_small : (holds : ℕ → Bool) (from end most : ℕ) (r : Option ℕ) → IsLast holds from end r → end ≤ most → IfSome r (λ found. found < most)
found_small holds from end most None is order = tt
found_small holds from end most (Some p) is order = let less : p < end = is.within in omega (arith, less, order)

module _ (xs : List MarkedPacket) where
  trusted_to : (n a : ℕ) → a + n ≤ length xs → trust xs a ≡ true → HoldsNowhere (mark_at xs) a (a + n) → trust xs (a + n) ≡ true
  trusted_to zero a within t none = let same : a + 0 ≡ a = omega arith in rw same t
  trusted_to (suc n) a within t none =
      let p = present xs (a + n) (omega (arith, within)) in
      let on : a + suc n ≡ a + n + 1 = omega arith in
      let before : trust xs (a + n) ≡ true = trusted_to n a (omega (arith, within)) t (λ q from to. none q from (omega (arith, to))) in
      rw on (trust_on_unmarked xs (a + n) p.0 p.1 (sym (mark_here xs (a + n) p.0 p.1) ∙ none (a + n) (omega arith) (omega arith)) before)

  -- packets without a mark after a trusted index are trusted
  pub trusted_up_to : (a b : ℕ) → a ≤ b → b ≤ length xs → trust xs a ≡ true → HoldsNowhere (mark_at xs) a b → trust xs b ≡ true
  trusted_up_to a b order within t none =
      let is : b ≡ a + (b - a) = omega (arith, order) in
      subst (λ (k : ℕ). trust xs k ≡ true) (sym is) (trusted_to (b - a) a (omega (arith, is, within)) t (λ q from to. none q from (omega (arith, to, is))))

  -- where a search begins: at the last key tag, or at index 0. Marks starting at `first` end it
  pub record Starts (kept : View) (place from first : ℕ) : Type 0 where
    pub low : from ≤ first
    pub near : first ≤ from + 1
    pub within : from ≤ place
    pub trusted : trust xs first ≡ true
    pub no_key : HoldsNowhere (key_at xs) first (place + 1)
    pub begins : Begins xs kept from

  pub starts_at : (kept : View) (place : ℕ) (key : Option ℕ) → place < length xs → IsLast (key_at xs) 0 (place + 1) key → Starts kept place (unwrap_or key 0) (next_of key 0)
  starts_at kept place None within is = record { low = omega arith; near = omega arith; within = omega arith; trusted = refl; no_key = is; begins = at_start refl }
  starts_at kept place (Some k) within is =
      let less : k < place + 1 = is.within in
      let p = present xs k (omega (arith, less, within)) in
      record {
        low = omega arith;
        near = omega arith;
        within = omega (arith, less);
        trusted = trust_key xs k p.0 p.1 (sym (key_here xs k p.0 p.1) ∙ is.here);
        no_key = λ q from to. is.later q (omega (arith, from)) to;
        begins = at_key is.here;
      }

  module _ (kept : View) (place from first end : ℕ) (in_ : place < length xs) (s : Starts kept place from first) (marks : IsEnd (mark_at xs) first (place + 1) end) where
    -- an index before the next mark is usable if it is cached
    usable_here : (u : ℕ) → from ≤ u → u < end → cached_at xs kept u ≡ true → is_usable xs kept u ≡ true
    usable_here u low less k =
        usable_both xs kept u k
        (trusted_up_to first (u + 1) (omega (arith, s.near, low)) (omega (arith, marks.within, less, in_)) s.trusted (λ q a b. marks.earlier q a (omega (arith, b, less))))

    -- and none after the mark is
    not_after : (p : ℕ) → end ≤ p → p ≤ place → is_usable xs kept p ≡ false
    not_after p low high =
        not_usable_trust xs kept p
        (mark_ends xs end p low (omega (arith, high, in_)) (marks.here (omega (arith, low, high)))
        (λ q a b. s.no_key q (omega (arith, marks.starts, a)) (omega (arith, b, high))))

    not_usable : (n : ℕ) → HoldsNowhere (cached_at xs kept) n end → (p : ℕ) → n ≤ p → p ≤ place → is_usable xs kept p ≡ false
    not_usable n none p low high =
        elim (cases_lt p end) [
          | inl less ↦ not_usable_kept xs kept p (none p low less)
          | inr more ↦ not_after p more high
        ]

    pub next_is : (found : Option ℕ) → IsLast (cached_at xs kept) from end found → IsNext xs kept place (next_of found from)
    next_is None is =
        let within : from ≤ place = s.within in
        record {
          within = omega (arith, within);
          begins = s.begins;
          arrived = λ more. absurd (omega (arith, more, within));
          no_key = λ p low high. s.no_key p (omega (arith, low, s.near)) (omega (arith, high));
          greatest = not_usable from is;
        }
    next_is (Some u) is =
        let usable : is_usable xs kept u ≡ true = usable_here u is.starts is.within is.here in
        let up : u ≤ place = omega (arith, is.within, marks.within) in
        record {
          within = omega (arith, up);
          begins = following u refl usable;
          arrived = λ more. let same : u ≡ place = omega (arith, more, up) in subst (λ (n : ℕ). is_usable xs kept n ≡ true) same usable;
          no_key = λ p low high. s.no_key p (omega (arith, low, s.near, is.starts)) (omega (arith, high));
          greatest = not_usable (u + 1) (λ p low less. is.later p (omega (arith, low)) less);
        }

  -- a run after `first`: it ends at the next key tag or mark, up to `place`
  module _ (kept : View) (first place run end : ℕ) (low : first ≤ place) (keys : IsEnd (key_at xs) (first + 1) (place + 1) run) (marks : IsEnd (mark_at xs) (first + 1) run end) where
    one_run : (p : ℕ) → first < p → p < end → cut_at xs p ≡ false
    one_run p a b =
        cut_is xs p (omega (arith, a)) ∙ ap (λ (k : Bool). k || mark_at xs p) (keys.earlier p (omega (arith, a)) (omega (arith, b, marks.within))) ∙ marks.earlier p (omega (arith, a)) b

    key_cuts : run < place + 1 → cut_at xs run ≡ true
    key_cuts less = cut_is xs run (omega (arith, keys.starts)) ∙ ap (λ (k : Bool). k || mark_at xs run) (keys.here less)

    mark_cuts : (k : Bool) → key_at xs end ≡ k → end < run → cut_at xs end ≡ true
    mark_cuts true key less = cut_is xs end (omega (arith, marks.starts)) ∙ ap (λ (k : Bool). k || mark_at xs end) key
    mark_cuts false key less = cut_is xs end (omega (arith, marks.starts)) ∙ ap (λ (k : Bool). k || mark_at xs end) key ∙ marks.here less

    ends_here : end < place + 1 → cut_at xs end ≡ true
    ends_here less =
        elim (cases_lt end run) [
          | inl before ↦ mark_cuts (key_at xs end) refl before
          | inr more ↦ let same : run ≡ end = omega (arith, more, marks.within) in subst (λ (n : ℕ). cut_at xs n ≡ true) same (key_cuts (omega (arith, same, less)))
        ]

    not_cached : (last : ℕ) → first ≤ last → ((p : ℕ) → last < p → p < end → cached_at xs kept p ≡ false) → (p : ℕ) → last < p → p ≤ place → IsOneRun xs first p → cached_at xs kept p ≡ false
    not_cached last from none p more high same_run =
        elim (cases_lt p end) [
          | inl less ↦ none p more less
          | inr over ↦ (
              let cut : cut_at xs end ≡ true = ends_here (omega (arith, over, high)) in
              let plain : cut_at xs end ≡ false = same_run end (omega (arith, marks.starts)) over in
              cc)
        ]

    pub after_is : (found : Option ℕ) → cached_at xs kept first ≡ true → IsLast (cached_at xs kept) first end found → IsAfterCached xs kept first place (unwrap_or found first + 1)
    after_is None is_cached is = let none : cached_at xs kept first ≡ false = is first (omega arith) (omega (arith, marks.starts)) in cc
    after_is (Some u) is_cached is = record {
      last = u;
      next_is = refl;
      from = is.starts;
      within = omega (arith, is.within, marks.within, keys.within);
      one_run = λ p a b. one_run p a (omega (arith, b, is.within));
      is_cached = is.here;
      greatest = not_cached u is.starts is.later;
    }
