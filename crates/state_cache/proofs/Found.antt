-- The first index to step, and the end of a run, as the searches of a store and of a cache find them.
use Rattle.std.proofs.Common.{◌≡◌, ℕ, ◌+◌, ◌<◌, ◌≤◌, Bool, true, List, Option, length, map, sym, subst, arith}
use Rattle.std.specs.Option.{unwrap_or}
use Rattle.packet_edits.specs.FlagCounts.{flag_at}
use Rattle.packet_edits.specs.Nearest.{IsFirst, IsLast}
use Rattle.packet_edits.specs.Sizes.{key_tag_at}
use Rattle.packet_edits.specs.declared.entry.Entry.{Entry}
use Rattle.packet_edits.proofs.Nearest.{first_as, last_as}
use Rattle.state_cache.specs.Reaching.{IsNext}
use Rattle.state_cache.specs.ProofsOnly.{next_of, IsAfterCached}
use Rattle.state_cache.specs.Views.{MarkedPacket, View, cached_at, key_at, marked_packets_of, mark_at}
use Rattle.state_cache.proofs.Reached.{length_seens}
use Rattle.state_cache.proofs.Search.{IsEnd, after_is, end_of, next_is, next_within, starts_at}
use Rattle.state_cache.proofs.Shows.{key_agrees, mark_agrees}

module _ (es : List Entry) (ms : List Bool) (kept : View) (same : length ms ≡ length es) where
  abbrev packets : List MarkedPacket
  packets = marked_packets_of es ms

  abbrev stream : List (List ℕ)
  stream = map (λ (e : Entry). e.bytes) es

  mark_end : (from end : ℕ) (mark : Option ℕ) → from ≤ end → IsFirst (flag_at ms) from end mark → IsEnd (mark_at packets) from end (unwrap_or mark end)
  mark_end from end mark order is = end_of (mark_at packets) from end mark order (first_as (flag_at ms) (mark_at packets) from end (λ p less. mark_agrees es ms p same) mark is)

  pub next_found : (place first from end next : ℕ) (key mark found : Option ℕ) → place < length es → IsLast (key_tag_at stream) 0 (place + 1) key → first ≡ next_of key 0 → IsFirst (flag_at ms) first (place + 1) mark
      → from ≡ unwrap_or key 0 → end ≡ unwrap_or mark (place + 1) → IsLast (cached_at packets kept) from end found → next ≡ next_of found from → IsNext packets kept place next
  next_found place first from end next key mark found exists key_is first_is mark_is from_is end_is found_is next_is_of =
      let long : length packets ≡ length es = length_seens es ms in
      let within : place < length packets = omega (arith, long, exists) in
      let last : IsLast (key_at packets) 0 (place + 1) key = last_as (key_tag_at stream) (key_at packets) 0 (place + 1) (λ p less. key_agrees es ms p) key key_is in
      let up : next_of key 0 ≤ place + 1 = next_within (key_at packets) 0 (place + 1) key last in
      let starts = starts_at packets kept place key within last in
      let marks : IsEnd (mark_at packets) (next_of key 0) (place + 1) end = rw end_is (mark_end (next_of key 0) (place + 1) mark up (subst (λ (n : ℕ). IsFirst (flag_at ms) n (place + 1) mark) first_is mark_is)) in
      rw next_is_of
      (subst (λ (n : ℕ). IsNext packets kept place (next_of found n)) (sym from_is)
      (next_is packets kept place (unwrap_or key 0) (next_of key 0) end within starts marks found (subst (λ (n : ℕ). IsLast (cached_at packets kept) n end found) from_is found_is)))

  pub after_found : (first place run end next : ℕ) (key mark found : Option ℕ) → first ≤ place → cached_at packets kept first ≡ true → IsFirst (key_tag_at stream) (first + 1) (place + 1) key → run ≡ unwrap_or key (place + 1)
      → IsFirst (flag_at ms) (first + 1) run mark → end ≡ unwrap_or mark run → IsLast (cached_at packets kept) first end found → next ≡ unwrap_or found first → IsAfterCached packets kept first place (next + 1)
  after_found first place run end next key mark found low is_cached key_is run_is mark_is end_is found_is next_is =
      let keys : IsEnd (key_at packets) (first + 1) (place + 1) run =
      rw run_is (end_of (key_at packets) (first + 1) (place + 1) key (omega (arith, low)) (first_as (key_tag_at stream) (key_at packets) (first + 1) (place + 1) (λ p less. key_agrees es ms p) key key_is)) in
      let marks : IsEnd (mark_at packets) (first + 1) run end = rw end_is (mark_end (first + 1) run mark keys.starts mark_is) in
      rw next_is (after_is packets kept first place run end low keys marks found is_cached found_is)
