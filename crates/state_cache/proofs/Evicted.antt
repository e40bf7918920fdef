-- The cache after an outcome was inserted and the victim dropped.
use Rattle.std.proofs.Common.{◌≡◌, ℕ, zero, suc, ◌+◌, ◌<◌, ◌≤◌, inl, inr, Bool, true, false, cond, List, [], ◌∷◌, Option, Some, None, IfSome, IsSome, is_some, length, take, slice_get, if◌then◌else◌, refl, sym, ap, subst, ◌∙◌, arith}
use Rattle.std.specs.Map.{lookup}
use Rattle.indexmap.specs.IndexMap.{insert_entry}
use Rattle.state_cache.specs.declared.outcomes.Kept.{Kept}
use Rattle.state_cache.specs.declared.outcomes.PacketKey.{PacketKey}
use Rattle.state_cache.specs.declared.savings.Saving.{Saving}
use Rattle.state_cache.specs.Evictions.{Evicts, SavingsValue}
use Rattle.state_cache.specs.ProofsOnly.{IsWithout}
use Rattle.state_cache.specs.Views.{Drops, same_key}
use Rattle.state_cache.proofs.Entries.{drops_none, with_entry}
use Rattle.state_cache.proofs.Keys.{same_key_equiv}
use Rattle.state_cache.proofs.Known.{drops_same}
use Rattle.state_cache.proofs.Rooms.{one_missing}

abbrev pub Stored : Type 0
Stored = PacketKey × Kept

-- an outcome was inserted
pub record IsInserted (es : List Stored) (k : PacketKey) (v : Kept) (put : List Stored) : Type 0 where
  pub found : (q : PacketKey) → lookup (same_key q) put ≡ cond (same_key k q) (Some v) (lookup (same_key q) es)
  pub number : length put ≡ length es + one_missing (lookup (same_key k) es)
  pub order : put ≡ insert_entry same_key es k v

one_more : (o : Option Kept) (n m : ℕ) → m ≡ n + (if is_some o then 0 else 1) → m ≡ n + one_missing o
one_more None n m h = h
one_more (Some k) n m h = h

-- the same in the map's words
pub inserted : (es put : List Stored) (k : PacketKey) (v : Kept) (old : Option Kept) → ((q : PacketKey) → lookup (same_key q) put ≡ cond (same_key k q) (Some v) (lookup (same_key q) es)) → old ≡ lookup (same_key k) es
    → length put ≡ length es + (if is_some old then 0 else 1) → put ≡ insert_entry same_key es k v → IsInserted es k v put
inserted es put k v old found was number order = record { found = found; number = one_more old (length es) (length put) number ∙ ap (λ (o : Option Kept). length es + one_missing o) was; order = order }

missing_found : (o : Option Kept) → IsSome o → one_missing o ≡ 0
missing_found None h = let no : false ≡ true = h in cc
missing_found (Some k) h = refl

missing_least : (o : Option Kept) → one_missing o ≤ 1
missing_least None = omega arith
missing_least (Some k) = omega arith

-- the entries before the last are those from before the insertion, so each is of another key than the new one
apart_case : (b : Bool) (f : Stored) (fs : List Stored) (k : PacketKey) (v : Kept) (i : ℕ) (e : Stored) → same_key k f.0 ≡ b → cond b (Some f.1) (lookup (same_key k) fs) ≡ None
    → slice_get (if b then ((f.0, v) ∷ fs) else (f ∷ insert_entry same_key fs k v)) i ≡ Some e → i < length (f ∷ fs)
    → ((j : ℕ) → lookup (same_key k) fs ≡ None → slice_get (insert_entry same_key fs k v) j ≡ Some e → j < length fs → same_key e.0 k ≡ false) → same_key e.0 k ≡ false
apart_case true f fs k v i e same none here low ih = cc
apart_case false f fs k v zero e same none here low ih = let is : f ≡ e = cc in ap (λ (x : Stored). same_key x.0 k) (sym is) ∙ same_key_equiv.symm f.0 k ∙ same
apart_case false f fs k v (suc i) e same none here low ih = ih i none here (omega (arith, low))

apart : (es : List Stored) (k : PacketKey) (v : Kept) (i : ℕ) (e : Stored) → lookup (same_key k) es ≡ None → slice_get (insert_entry same_key es k v) i ≡ Some e → i < length es → same_key e.0 k ≡ false
apart [] k v i e none here low = absurd (omega (arith, low))
apart (f ∷ fs) k v i e none here low = apart_case (same_key k f.0) f fs k v i e refl none here low (λ j none here low. apart fs k v j e none here low)

taken_low : (n : ℕ) (savings : List Saving) (i : ℕ) (x : Saving) → slice_get (take n savings) i ≡ Some x → i < n
taken_low zero savings i x h = cc
taken_low (suc n) [] i x h = cc
taken_low (suc n) (y ∷ savings) zero x h = omega arith
taken_low (suc n) (y ∷ savings) (suc i) x h = let low = taken_low n savings i x h in omega (arith, low)

-- what is cached once the victim is dropped
pub record IsEvicted (es : List Stored) (k : PacketKey) (v : Kept) (capacity : ℕ) (left : List Stored) : Type 0 where
  pub drops : (q : PacketKey) → Drops (lookup (same_key q) left) (with_entry es k v q)
  pub kept : lookup (same_key k) left ≡ Some v
  pub number : length es ≤ length left
  pub bounded : length left ≤ capacity
  -- with room none is dropped
  pub room_number : length es + one_missing (lookup (same_key k) es) ≤ capacity → length left ≡ length es + one_missing (lookup (same_key k) es)
  pub room_others : length es + one_missing (lookup (same_key k) es) ≤ capacity → (q : PacketKey) → lookup (same_key q) left ≡ with_entry es k v q

module _ (s : SavingsValue) (es put : List Stored) (k : PacketKey) (v : Kept) (capacity : ℕ) (few : length es ≤ capacity) (i : IsInserted es k v put) where
  put_is : (q : PacketKey) → lookup (same_key q) put ≡ with_entry es k v q
  put_is q = i.found q ∙ ap (λ (b : Bool). cond b (Some v) (lookup (same_key q) es)) (same_key_equiv.symm k q)

  own : with_entry es k v k ≡ Some v
  own = ap (λ (b : Bool). cond b (Some v) (lookup (same_key k) es)) (same_key_equiv.refl k)

  none_case : (Evicts s es capacity k None) → length put ≤ capacity
  none_case (inl room) =
      let number = i.number in
      let least = missing_least (lookup (same_key k) es) in omega (arith, number, least, room)
  none_case (inr found) =
      let number = i.number in
      let none = missing_found (lookup (same_key k) es) found in omega (arith, number, none, few)

  low : (n : ℕ) → Evicts s es capacity k (Some n) → n < length es
  low n e = taken_low (length es) s.list n e.2.saving e.2.is_there

  -- the victim is one of the entries
  pub victim_within : (victim : Option ℕ) → Evicts s es capacity k victim → IfSome victim (λ (n : ℕ). n < length put)
  victim_within None e = tt
  victim_within (Some n) e =
      let under = low n e in
      let number = i.number in omega (arith, under, number)

  pub evicted : (left : List Stored) (victim : Option ℕ) → Evicts s es capacity k victim → IsWithout victim put left → IsEvicted es k v capacity left
  evicted left None e w =
      let same = ap (λ (fs : List Stored). length fs) w in
      let number = i.number in
      let bounded = none_case e in
      record {
        drops = λ q. subst (λ (o : Option Kept). Drops o (with_entry es k v q)) (sym (ap (λ (fs : List Stored). lookup (same_key q) fs) w ∙ put_is q)) (drops_same (with_entry es k v q));
        kept = ap (λ (fs : List Stored). lookup (same_key k) fs) w ∙ put_is k ∙ own;
        number = omega (arith, same, number);
        bounded = omega (arith, same, bounded);
        room_number = λ room. same ∙ number;
        room_others = λ room q. ap (λ (fs : List Stored). lookup (same_key q) fs) w ∙ put_is q;
      }
  evicted left (Some n) e w =
      let full = e.0 in
      let fewer = w.3 in
      let missing : one_missing (lookup (same_key k) es) ≡ 1 = ap one_missing e.1 in
      let number = i.number in
      let there : slice_get (insert_entry same_key es k v) n ≡ Some w.0 = ap (λ (fs : List Stored). slice_get fs n) (sym i.order) ∙ w.1 in
      let other = apart es k v n w.0 e.1 there (low n e) in
      record {
        drops = λ q. subst (λ (o : Option Kept). Drops o (with_entry es k v q)) (sym (w.2 q ∙ ap (λ (o : Option Kept). cond (same_key w.0.0 q) None o) (put_is q))) (drops_none (same_key w.0.0 q) (with_entry es k v q));
        kept = w.2 k ∙ ap (λ (b : Bool). cond b None (lookup (same_key k) put)) other ∙ put_is k ∙ own;
        number = omega (arith, fewer, number, missing);
        bounded = omega (arith, fewer, number, missing, full);
        room_number = λ room. absurd (omega (arith, full, missing, room));
        room_others = λ room q. absurd (omega (arith, full, missing, room));
      }
