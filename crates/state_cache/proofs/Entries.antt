-- The outcomes of a cache after one was inserted or dropped.
use Rattle.std.proofs.Common.{◌≡◌, ℕ, Bool, true, false, cond, List, Option, Some, None, refl, ap}
use Rattle.std.specs.Map.{lookup}
use Rattle.state_cache.specs.declared.outcomes.Kept.{Kept}
use Rattle.state_cache.specs.declared.outcomes.PacketKey.{PacketKey}
use Rattle.state_cache.specs.Views.{Drops, cached_in, same_key, with_cached}
use Rattle.state_cache.proofs.Keys.{keys_apart, other_source, same_key_equiv, same_source}
use Rattle.state_cache.proofs.Known.{drops_same}

-- an outcome that is dropped or not
pub drops_none : (b : Bool) (o : Option Kept) → Drops (cond b None o) o
drops_none true o = tt
drops_none false o = drops_same o

-- the outcomes with one more
abbrev pub with_entry : List (PacketKey × Kept) → PacketKey → Kept → PacketKey → Option Kept
with_entry es k v q = cond (same_key q k) (Some v) (lookup (same_key q) es)

-- it is one more of its source
pub with_own : (es : List (PacketKey × Kept)) (k : PacketKey) (v : Kept) (q : ℕ) → with_entry es k v (record { source = k.source; id = q }) ≡ with_cached (cached_in es k.source) k.id v q
with_own es k v q = ap (λ (b : Bool). cond b (Some v) (cached_in es k.source q)) (same_source k q)

-- and none of another source
pub with_other : (es : List (PacketKey × Kept)) (k : PacketKey) (v : Kept) (other q : ℕ) → (other ≡ k.source → ⊥) → with_entry es k v (record { source = other; id = q }) ≡ cached_in es other q
with_other es k v other q apart = ap (λ (b : Bool). cond b (Some v) (cached_in es other q)) (other_source k other q apart)

-- a dropped outcome is not cached
pub dropped_own : (k : PacketKey) (o : Option Kept) → cond (same_key k k) None o ≡ None
dropped_own k o = rw (same_key_equiv.refl k) refl

pub dropped_other : (k q : PacketKey) (o : Option Kept) → (k ≡ q → ⊥) → cond (same_key k q) None o ≡ o
dropped_other k q o other = ap (λ (b : Bool). cond b None o) (keys_apart k q other)
