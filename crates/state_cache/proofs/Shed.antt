-- The bytes of cached outcomes, and outcomes that are dropped because of a limit in bytes.
use Rattle.std.proofs.Common.{◌≡◌, ℕ, ◌+◌, ◌-◌, ◌<◌, ◌≤◌, ◌⊎◌, inl, inr, Bool, true, false, cond, List, [], ◌∷◌, Option, Some, None, is_some, option_map, length, slice_get, if◌then◌else◌, refl, sym, ap, subst, ◌∙◌, arith}
use Rattle.std.specs.Bool.{Decides}
use Rattle.std.specs.List.{IsDistinct, position, swap_remove}
use Rattle.std.specs.Map.{keys_of, lookup}
use Rattle.std.proofs.Math.ListN.{get_or}
use Rattle.std.proofs.lemmas.List.Quantifiers.{position-Some}
use Rattle.std.proofs.lemmas.List.Sums.{sum_by-cons, sum_by-swap_remove}
use Rattle.std.proofs.lemmas.Map.Made.{AllPairs-from_IsDistinct}
use Rattle.std.proofs.lemmas.Option.{get_or_from_slice_get, slice_get-map, slice_get_within}
use Rattle.indexmap.specs.IndexMap.{insert_entry}
use Rattle.state_cache.specs.Bytes.{IsWithinBytes, bytes_in, cached_bytes, outcome_bytes}
use Rattle.state_cache.specs.declared.outcomes.Kept.{Kept}
use Rattle.state_cache.specs.declared.outcomes.PacketKey.{PacketKey}
use Rattle.state_cache.specs.ProofsOnly.{IsCounted, IsNewest, IsShed, IsWithout}
use Rattle.state_cache.specs.Views.{Drops, same_key}
use Rattle.state_cache.proofs.Entries.{drops_none}
use Rattle.state_cache.proofs.Evicted.{Stored}
use Rattle.state_cache.proofs.Keys.{keys_apart, same_is_equal, same_key_equiv}
use Rattle.state_cache.proofs.Known.{drops_same}
use Rattle.state_cache.proofs.Runs.{up_to_or_behind}
use Rattle.state_cache.proofs.WalkSteps.{drops_more}

bytes_cons : (e : Stored) (es : List Stored) → cached_bytes (e ∷ es) ≡ outcome_bytes e.1 + cached_bytes es
bytes_cons e es = sum_by-cons (λ (entry : Stored). outcome_bytes entry.1) e es

bytes_none : cached_bytes [] ≡ 0
bytes_none = refl

-- an outcome more
put_case : (b : Bool) (f : Stored) (fs : List Stored) (k : PacketKey) (v : Kept) → cached_bytes (insert_entry same_key fs k v) + bytes_in (lookup (same_key k) fs) ≡ cached_bytes fs + outcome_bytes v
    → cached_bytes (if b then ((f.0, v) ∷ fs) else (f ∷ insert_entry same_key fs k v)) + bytes_in (cond b (Some f.1) (lookup (same_key k) fs)) ≡ cached_bytes (f ∷ fs) + outcome_bytes v
put_case true f fs k v ih =
    let put = bytes_cons (f.0, v) fs in
    let was = bytes_cons f fs in
    omega (arith, put, was)
put_case false f fs k v ih =
    let put = bytes_cons f (insert_entry same_key fs k v) in
    let was = bytes_cons f fs in
    omega (arith, put, was, ih)

pub put_bytes : (es : List Stored) (k : PacketKey) (v : Kept) → cached_bytes (insert_entry same_key es k v) + bytes_in (lookup (same_key k) es) ≡ cached_bytes es + outcome_bytes v
put_bytes [] k v =
    let put = bytes_cons (k, v) [] in
    let none = bytes_none in
    omega (arith, put, none)
put_bytes (f ∷ fs) k v = put_case (same_key k f.0) f fs k v (put_bytes fs k v)

-- a cached outcome is counted
found_case : (b : Bool) (f : Stored) (fs : List Stored) (v : Kept) (rest : Option Kept) → cond b (Some f.1) rest ≡ Some v → (rest ≡ Some v → outcome_bytes v ≤ cached_bytes fs) → outcome_bytes v ≤ cached_bytes (f ∷ fs)
found_case true f fs v rest h ih =
    let is : f.1 ≡ v = cc in
    let mine : outcome_bytes f.1 ≡ outcome_bytes v = ap outcome_bytes is in
    let all = bytes_cons f fs in
    omega (arith, mine, all)
found_case false f fs v rest h ih =
    let more = ih h in
    let all = bytes_cons f fs in
    omega (arith, more, all)

pub found_bytes : (k : PacketKey) (es : List Stored) (v : Kept) → lookup (same_key k) es ≡ Some v → outcome_bytes v ≤ cached_bytes es
found_bytes k [] v h = cc
found_bytes k (f ∷ fs) v h = found_case (same_key k f.0) f fs v (lookup (same_key k) fs) h (λ there. found_bytes k fs v there)

single_case : (b : Bool) (f : Stored) (v : Kept) → cond b (Some f.1) None ≡ Some v → f.1 ≡ v
single_case true f v h = cc
single_case false f v h = cc

-- the only one is all
pub single_bytes : (k : PacketKey) (es : List Stored) (v : Kept) → length es ≤ 1 → lookup (same_key k) es ≡ Some v → cached_bytes es ≡ outcome_bytes v
single_bytes k [] v few h = cc
single_bytes k (f ∷ []) v few h =
    let all = bytes_cons f [] in
    let none = bytes_none in
    let mine : outcome_bytes f.1 ≡ outcome_bytes v = ap outcome_bytes (single_case (same_key k f.0) f v h) in
    omega (arith, all, none, mine)
single_bytes k (f ∷ g ∷ fs) v few h = absurd (omega (arith, few))

-- an outcome less
pub removed_bytes : (es : List Stored) (n : ℕ) (e : Stored) → slice_get es n ≡ Some e → cached_bytes (swap_remove es n e) + outcome_bytes e.1 ≡ cached_bytes es
removed_bytes es n e h =
    subst (λ (x : Stored). cached_bytes (swap_remove es n e) + outcome_bytes x.1 ≡ cached_bytes es) (get_or_from_slice_get es n e e h)
    (sum_by-swap_remove (λ (entry : Stored). outcome_bytes entry.1) es n e (slice_get_within es n e h))

-- what is counted
within_case : (limit bytes : ℕ) (es : List Stored) → bytes ≡ cached_bytes es → (bytes ≤ limit) ⊎ (length es ≤ 1) → (cached_bytes es ≤ limit) ⊎ (length es ≤ 1)
within_case limit bytes es is (inl low) = inl (omega (arith, is, low))
within_case limit bytes es is (inr one) = inr one

pub counted_within : (limit : Option ℕ) (bytes : ℕ) (es : List Stored) → IsCounted limit bytes es → IsWithinBytes limit es
counted_within None bytes es c = tt
counted_within (Some limit) bytes es c = within_case limit bytes es c.0 c.1

pub counted_none : (limit : Option ℕ) → IsCounted limit 0 []
counted_none None = tt
counted_none (Some limit) = (refl, inl (omega arith))

removed_case : (limit bytes less : ℕ) (es fs : List Stored) → length fs ≤ length es → (bytes ≤ limit) ⊎ (length es ≤ 1) → (bytes - less ≤ limit) ⊎ (length fs ≤ 1)
removed_case limit bytes less es fs fewer (inl low) = inl (omega (arith, low))
removed_case limit bytes less es fs fewer (inr one) = inr (omega (arith, one, fewer))

pub counted_removed : (limit : Option ℕ) (bytes less : ℕ) (es fs : List Stored) → IsCounted limit bytes es → cached_bytes fs + less ≡ cached_bytes es → length fs ≤ length es → IsCounted limit (bytes - less) fs
counted_removed None bytes less es fs c sum fewer = tt
counted_removed (Some limit) bytes less es fs c sum fewer = let is = c.0 in (omega (arith, is, sum), removed_case limit bytes less es fs fewer c.1)

-- an entry at another index than that of a key has another key
same_decides : (a b : PacketKey) → Decides (same_key a b) (a ≡ b)
same_decides a b = (same_is_equal a b, λ same. ap (λ (x : PacketKey). same_key a x) (sym same) ∙ same_key_equiv.refl a)

module _ (es : List Stored) (k : PacketKey) (newest n : ℕ) (e : Stored) (distinct : IsDistinct same_key (keys_of es)) (found : Some newest ≡ position (same_key k) (keys_of es)) (there : slice_get es n ≡ Some e) where
  at : (newest < length (keys_of es)) × (same_key k (get_or (keys_of es) newest k) ≡ true) × ((j : ℕ) → j < newest → same_key k (get_or (keys_of es) j k) ≡ false)
  at = position-Some (same_key k) (keys_of es) newest k (sym found)

  own : k ≡ get_or (keys_of es) newest k
  own = same_is_equal k (get_or (keys_of es) newest k) at.1

  key_there : slice_get (keys_of es) n ≡ Some e.0
  key_there = slice_get-map (λ (x : Stored). x.0) es n ∙ ap (λ (o : Option Stored). option_map (λ (x : Stored). x.0) o) there

  its : get_or (keys_of es) n k ≡ e.0
  its = get_or_from_slice_get (keys_of es) n e.0 k key_there

  apart_case : (n ≡ newest → ⊥) → e.0 ≡ k → (newest ≤ n) ⊎ (n < newest) → ⊥
  apart_case other same (inl high) =
      AllPairs-from_IsDistinct same_decides (keys_of es) distinct newest n k (omega (arith, high, other)) (slice_get_within (keys_of es) n e.0 key_there) (sym own ∙ sym same ∙ sym its)
  apart_case other same (inr low) =
      AllPairs-from_IsDistinct same_decides (keys_of es) distinct n newest k low at.0 (its ∙ same ∙ own)

  pub other_key : (n ≡ newest → ⊥) → same_key e.0 k ≡ false
  other_key other = keys_apart e.0 k (λ same. apart_case other same (up_to_or_behind newest n))

  -- and the entry at the index of a key has this key
  at_key : n ≡ newest → k ≡ e.0
  at_key same = own ∙ ap (λ (m : ℕ). get_or (keys_of es) m k) (sym same) ∙ its

not_cached : (o : Option Kept) → false ≡ is_some o → o ≡ None
not_cached None h = refl
not_cached (Some v) h = cc

none_either : (k q : PacketKey) (es : List Stored) (b : Bool) → same_key k q ≡ b → lookup (same_key k) es ≡ None → lookup (same_key q) es ≡ cond b None (lookup (same_key q) es)
none_either k q es true same none = ap (λ (x : PacketKey). lookup (same_key x) es) (sym (same_is_equal k q same)) ∙ none
none_either k q es false same none = refl

-- the outcome of a key is removed, if there is one
pub without_key : (k : PacketKey) (es fs : List Stored) (found : Option ℕ) → IsDistinct same_key (keys_of es) → found ≡ position (same_key k) (keys_of es) → is_some found ≡ is_some (lookup (same_key k) es) → IsWithout found es fs
    → (q : PacketKey) → lookup (same_key q) fs ≡ cond (same_key k q) None (lookup (same_key q) es)
without_key k es fs None distinct found some w q = ap (λ (gs : List Stored). lookup (same_key q) gs) w ∙ none_either k q es (same_key k q) refl (not_cached (lookup (same_key k) es) some)
without_key k es fs (Some n) distinct found some w q =
    w.2 q ∙ ap (λ (x : PacketKey). cond (same_key x q) None (lookup (same_key q) es)) (sym (at_key es k n n w.0 distinct found w.1 refl))

-- nothing is dropped, or one other outcome, or more
pub shed_none : (k : PacketKey) (es fs : List Stored) → fs ≡ es → IsShed k es fs
shed_none k es fs same = record {
  drops = λ q. subst (λ (gs : List Stored). Drops (lookup (same_key q) gs) (lookup (same_key q) es)) (sym same) (drops_same (lookup (same_key q) es));
  kept = ap (λ (gs : List Stored). lookup (same_key k) gs) same;
  fewer = let long = ap (λ (gs : List Stored). length gs) same in omega (arith, long);
}

pub shed_one : (k : PacketKey) (es fs : List Stored) (e : Stored) → same_key e.0 k ≡ false → ((q : PacketKey) → lookup (same_key q) fs ≡ cond (same_key e.0 q) None (lookup (same_key q) es)) → length fs + 1 ≡ length es → IsShed k es fs
shed_one k es fs e other found number = record {
  drops = λ q. subst (λ (o : Option Kept). Drops o (lookup (same_key q) es)) (sym (found q)) (drops_none (same_key e.0 q) (lookup (same_key q) es));
  kept = found k ∙ ap (λ (b : Bool). cond b None (lookup (same_key k) es)) other;
  fewer = omega (arith, number);
}

pub shed_more : (k : PacketKey) (es fs gs : List Stored) → IsShed k es fs → IsShed k fs gs → IsShed k es gs
shed_more k es fs gs one more =
    let a = one.fewer in
    let b = more.fewer in
    record {
      drops = λ q. drops_more (lookup (same_key q) gs) (lookup (same_key q) fs) (lookup (same_key q) es) (more.drops q) (one.drops q);
      kept = more.kept ∙ one.kept;
      fewer = omega (arith, a, b);
    }

-- the victim is another one
pub without_other : (k : PacketKey) (newest : ℕ) (victim : Option ℕ) (es fs : List Stored) → IsDistinct same_key (keys_of es) → Some newest ≡ position (same_key k) (keys_of es) → ((n : ℕ) → victim ≡ Some n → n ≡ newest → ⊥) → IsWithout victim es fs → IsShed k es fs
without_other k newest None es fs distinct found other w = shed_none k es fs w
without_other k newest (Some n) es fs distinct found other w = shed_one k es fs w.0 (other_key es k newest n w.0 distinct found w.1 (other n refl)) w.2 w.3

-- the newest one stays
pub newest_stays : (k : PacketKey) (bytes : ℕ) (es fs : List Stored) → IsShed k es fs → IsNewest k bytes es → IsNewest k bytes fs
newest_stays k bytes es fs s n = (n.0, s.kept ∙ n.1, n.2)

-- what another outcome takes is counted among the others
pub others_less : (k : PacketKey) (bytes others gone : ℕ) (es fs : List Stored) → IsShed k es fs → IsNewest k bytes es → others + bytes ≡ cached_bytes es → cached_bytes fs + gone ≡ cached_bytes es → gone ≤ others
others_less k bytes others gone es fs s n counted sum =
    let there = newest_stays k bytes es fs s n in
    let mine = found_bytes k fs there.0 there.1 in
    let is = there.2 in
    omega (arith, mine, is, counted, sum)
