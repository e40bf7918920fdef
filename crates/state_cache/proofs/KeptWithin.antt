-- The cache after an outcome was inserted, the victim dropped, and those over the limit in bytes.
use Rattle.std.proofs.Common.{◌≡◌, ℕ, ◌+◌, ◌-◌, ◌≤◌, List, Option, Some, None, length, sym, ap, subst, ◌∙◌, arith}
use Rattle.std.specs.Prelude.{IfSome}
use Rattle.std.specs.Map.{lookup}
use Rattle.state_cache.specs.Bytes.{bytes_in, cached_bytes, outcome_bytes}
use Rattle.state_cache.specs.declared.capacity.Capacity.{Capacity}
use Rattle.state_cache.specs.declared.outcomes.Kept.{Kept}
use Rattle.state_cache.specs.declared.outcomes.PacketKey.{PacketKey}
use Rattle.state_cache.specs.ProofsOnly.{IsCounted, IsShed}
use Rattle.state_cache.specs.Views.{Drops, same_key}
use Rattle.state_cache.proofs.Entries.{with_entry}
use Rattle.state_cache.proofs.Evicted.{IsEvicted, IsInserted, Stored}
use Rattle.state_cache.proofs.Rooms.{one_missing}
use Rattle.state_cache.proofs.Shed.{found_bytes, put_bytes}
use Rattle.state_cache.proofs.WalkSteps.{drops_more}

-- an outcome has room in these entries
pub record Fits (es : List Stored) (k : PacketKey) (v : Kept) (capacity : Capacity) : Type 0 where
  pub states : length es + one_missing (lookup (same_key k) es) ≤ capacity.states
  pub bytes : (limit : ℕ) → capacity.bytes ≡ Some limit → cached_bytes es + outcome_bytes v ≤ limit + bytes_in (lookup (same_key k) es)

pub record IsKeptWithin (es : List Stored) (k : PacketKey) (v : Kept) (capacity : Capacity) (left : List Stored) : Type 0 where
  pub drops : (q : PacketKey) → Drops (lookup (same_key q) left) (with_entry es k v q)
  pub kept : lookup (same_key k) left ≡ Some v
  pub bounded : length left ≤ capacity.states
  pub number : capacity.bytes ≡ None → length es ≤ length left
  pub room_number : Fits es k v capacity → length left ≡ length es + one_missing (lookup (same_key k) es)
  pub room_others : Fits es k v capacity → (q : PacketKey) → lookup (same_key q) left ≡ with_entry es k v q

module _ (es put mid : List Stored) (k : PacketKey) (v : Kept) (replaced gone : Option Kept) (i : IsInserted es k v put) (same : replaced ≡ lookup (same_key k) es) (sum : cached_bytes mid + bytes_in gone ≡ cached_bytes put) where
  inserted_bytes : cached_bytes put + bytes_in (lookup (same_key k) es) ≡ cached_bytes es + outcome_bytes v
  inserted_bytes = ap (λ (fs : List Stored). cached_bytes fs + bytes_in (lookup (same_key k) es)) i.order ∙ put_bytes es k v

  -- the bytes of the others are counted
  pub others_counted : (limit : Option ℕ) (held others newest : ℕ) → IsCounted limit held es → lookup (same_key k) mid ≡ Some v → newest ≡ outcome_bytes v → others ≡ held - bytes_in replaced - bytes_in gone → IfSome limit (λ (most : ℕ). others + newest ≡ cached_bytes mid)
  others_counted None held others newest counted there newest_is others_is = tt
  others_counted (Some limit) held others newest counted there newest_is others_is =
      let is = counted.0 in
      let put_is = inserted_bytes in
      let mine = found_bytes k mid v there in
      let was : bytes_in replaced ≡ bytes_in (lookup (same_key k) es) = ap bytes_in same in
      omega (arith, is, put_is, mine, was, sum, newest_is, others_is)

  module _ (capacity : Capacity) (e : IsEvicted es k v capacity.states mid) (left : List Stored) (s : IsShed k mid left) (stays : ((bytes : ℕ) → capacity.bytes ≡ Some bytes → cached_bytes mid ≤ bytes) → left ≡ mid) where
    all_stay : Fits es k v capacity → left ≡ mid
    all_stay fits = stays (λ limit is. let room = fits.bytes limit is in let put_is = inserted_bytes in omega (arith, room, put_is, sum))

    none_stay : capacity.bytes ≡ None → left ≡ mid
    none_stay none = stays (λ limit is. cc)

    pub kept_within : IsKeptWithin es k v capacity left
    kept_within =
        let fewer = s.fewer in
        let bounded = e.bounded in
        record {
          drops = λ q. drops_more (lookup (same_key q) left) (lookup (same_key q) mid) (with_entry es k v q) (s.drops q) (e.drops q);
          kept = s.kept ∙ e.kept;
          bounded = omega (arith, fewer, bounded);
          number = λ none. subst (λ (fs : List Stored). length es ≤ length fs) (sym (none_stay none)) e.number;
          room_number = λ fits. ap (λ (fs : List Stored). length fs) (all_stay fits) ∙ e.room_number fits.states;
          room_others = λ fits q. ap (λ (fs : List Stored). lookup (same_key q) fs) (all_stay fits) ∙ e.room_others fits.states q;
        }
