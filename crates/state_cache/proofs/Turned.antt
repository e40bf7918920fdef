-- One step, from the contracts of its calls.
use Rattle.std.proofs.Common.{◌≡◌, ℕ, ◌+◌, ◌≤◌, Bool, cond, not, ◌&&◌, List, Some, is_none, length, slice_get, sym, ap, subst, ◌∙◌}
use Rattle.packet_edits.specs.Marks.{StoreValue}
use Rattle.state_cache.specs.Bytes.{bytes_in, cached_bytes, outcome_bytes}
use Rattle.state_cache.specs.declared.capacity.Capacity.{Capacity}
use Rattle.state_cache.specs.declared.outcomes.Kept.{Kept}
use Rattle.state_cache.specs.declared.outcomes.PacketKey.{PacketKey}
use Rattle.state_cache.specs.Reaching.{CacheValue, Converged, OthersDrop, passed_marks, view_of}
use Rattle.state_cache.specs.Views.{Drops, MarkedPacket, View, is_cut, key_at, cached_in, marked_packets, with_cached, mark_at}
use Rattle.state_cache.specs.Walks.{HasRoomFor, IsPut, IsIteration, ConvergesWithSame, entries_with}
use Rattle.state_cache.proofs.Reached.{cut_seen}

-- `counted` is the cache after the step was counted
module _ (source : ℕ) (old new : StoreValue) (before counted after : CacheValue) (place id : ℕ) (cut converged is_joined : Bool) (p : MarkedPacket) (outcome : Kept) (entries : before.entries ≡ counted.entries) (capacity : before.capacity ≡ counted.capacity) (id_is : id ≡ p.id) where
  view_is : (any : ℕ) → view_of any counted ≡ view_of any before
  view_is any = ap (λ (es : List (PacketKey × Kept)). cached_in es any) (sym entries)

  entries_is : entries_with source counted id ≡ entries_with source before p.id
  entries_is = ap (λ (es : List (PacketKey × Kept)). length es + cond (is_none (cached_in es source id)) 1 0) (sym entries) ∙ ap (λ (n : ℕ). entries_with source before n) id_is

  put_is : IsPut source counted id outcome after → IsPut source before p.id outcome after
  put_is put = record {
    number = put.number ∙ entries_is;
    others = λ q. put.others q ∙ ap (λ (v : View). with_cached v id outcome q) (view_is source) ∙ ap (λ (n : ℕ). with_cached (view_of source before) n outcome q) id_is;
    other_sources = λ other q apart. put.other_sources other q apart ∙ ap (λ (v : View). v q) (view_is other);
  }

  room_is : HasRoomFor source before p.id outcome → HasRoomFor source counted id outcome
  room_is room = record {
    states = subst (λ (c : Capacity). entries_with source counted id ≤ c.states) capacity (subst (λ (n : ℕ). n ≤ before.capacity.states) (sym entries_is) room.states);
    bytes = λ limit is.
        subst (λ (es : List (PacketKey × Kept)). cached_bytes es + outcome_bytes outcome ≤ limit + bytes_in (cached_in es source id)) entries
        (subst (λ (n : ℕ). cached_bytes before.entries + outcome_bytes outcome ≤ limit + bytes_in (view_of source before n)) (sym id_is) (room.bytes limit (ap (λ (c : Capacity). c.bytes) capacity ∙ is)));
  }

  pub turned_is : is_joined ≡ (cut && converged) → slice_get (marked_packets old) place ≡ Some p → cut ≡ (mark_at (marked_packets old) place && not (key_at (marked_packets old) place)) → new ≡ record old { marks = passed_marks cut converged place old.marks } → Converged converged (view_of source counted id) outcome → ConvergesWithSame converged (view_of source counted id) outcome → view_of source after id ≡ Some outcome
      → ((q : ℕ) → Drops (view_of source after q) (with_cached (view_of source counted) id outcome q)) → OthersDrop source counted after → (HasRoomFor source counted id outcome → IsPut source counted id outcome after) → IsIteration source old before place is_joined new after
  turned_is joined packet_is cut_is marks met_is same kept drops others room =
      let is : cut ≡ is_cut p = cut_is ∙ cut_seen (marked_packets old) place p packet_is in
      record {
        packet = p;
        outcome = outcome;
        has_converged = converged;
        packet_is = packet_is;
        marks = marks ∙ ap (λ (b : Bool). record old { marks = passed_marks b converged place old.marks }) is;
        joined_is = joined ∙ ap (λ (b : Bool). b && converged) is;
        converged = subst (λ (n : ℕ). Converged converged (view_of source before n) outcome) id_is (subst (λ (v : View). Converged converged (v id) outcome) (view_is source) met_is);
        converges_with_same = subst (λ (n : ℕ). ConvergesWithSame converged (view_of source before n) outcome) id_is (subst (λ (v : View). ConvergesWithSame converged (v id) outcome) (view_is source) same);
        kept = ap (view_of source after) (sym id_is) ∙ kept;
        drops = λ q. subst (λ (n : ℕ). Drops (view_of source after q) (with_cached (view_of source before) n outcome q)) id_is (subst (λ (v : View). Drops (view_of source after q) (with_cached v id outcome q)) (view_is source) (drops q));
        other_sources = λ other q apart. subst (λ (v : View). Drops (view_of other after q) (v q)) (view_is other) (others other q apart);
        room = λ r. put_is (room (room_is r));
      }
