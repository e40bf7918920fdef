-- Which indexes are trusted and usable, packet by packet.
use Rattle.std.proofs.Common.{◌≡◌, ℕ, ◌+◌, Bool, true, false, not, ◌&&◌, ◌||◌, List, Some, take, slice_get, refl, ap, ◌∙◌}
use Rattle.frame_header.specs.Tags.{has_key_tag}
use Rattle.state_cache.specs.Views.{MarkedPacket, View, is_usable, cached_at, trusted_after, mark_at}
use Rattle.state_cache.proofs.Steps.{trusted_here}

-- whether the packets before an index end in a trusted run
abbrev pub trust : List MarkedPacket → ℕ → Bool
trust xs n = trusted_after true (take n xs)

pub not_usable_kept : (xs : List MarkedPacket) (kept : View) (p : ℕ) → cached_at xs kept p ≡ false → is_usable xs kept p ≡ false
not_usable_kept xs kept p h = rw h refl

and_false : (a : Bool) → (a && false) ≡ false
and_false true = refl
and_false false = refl

pub not_usable_trust : (xs : List MarkedPacket) (kept : View) (p : ℕ) → trust xs (p + 1) ≡ false → is_usable xs kept p ≡ false
not_usable_trust xs kept p h = ap (λ (b : Bool). cached_at xs kept p && b) h ∙ and_false (cached_at xs kept p)

or_true : (a : Bool) → (a || true) ≡ true
or_true true = refl
or_true false = refl

pub usable_both : (xs : List MarkedPacket) (kept : View) (p : ℕ) → cached_at xs kept p ≡ true → trust xs (p + 1) ≡ true → is_usable xs kept p ≡ true
usable_both xs kept p h k = rw (h, k) refl

-- a packet with no key tag, and its mark
pub trust_marked : (xs : List MarkedPacket) (j : ℕ) (p : MarkedPacket) → slice_get xs j ≡ Some p → has_key_tag p.bytes ≡ false → p.marked ≡ true → trust xs (j + 1) ≡ false
trust_marked xs j p h k m = trusted_here xs j p h ∙ rw (k, m) refl

pub trust_plain : (xs : List MarkedPacket) (j : ℕ) (p : MarkedPacket) → slice_get xs j ≡ Some p → has_key_tag p.bytes ≡ false → p.marked ≡ false → trust xs (j + 1) ≡ trust xs j
trust_plain xs j p h k m = trusted_here xs j p h ∙ rw (k, m) refl

pub trust_false : (xs : List MarkedPacket) (j : ℕ) (p : MarkedPacket) → slice_get xs j ≡ Some p → has_key_tag p.bytes ≡ false → trust xs j ≡ false → trust xs (j + 1) ≡ false
trust_false xs j p h k t = trusted_here xs j p h ∙ rw (k, t) (and_false (not p.marked))

-- a packet with no mark
pub trust_on_unmarked : (xs : List MarkedPacket) (j : ℕ) (p : MarkedPacket) → slice_get xs j ≡ Some p → p.marked ≡ false → trust xs j ≡ true → trust xs (j + 1) ≡ true
trust_on_unmarked xs j p h m t = trusted_here xs j p h ∙ rw (m, t) (or_true (has_key_tag p.bytes))

pub trust_key : (xs : List MarkedPacket) (j : ℕ) (p : MarkedPacket) → slice_get xs j ≡ Some p → has_key_tag p.bytes ≡ true → trust xs (j + 1) ≡ true
trust_key xs j p h k = trusted_here xs j p h ∙ rw k refl

pub mark_here : (xs : List MarkedPacket) (j : ℕ) (p : MarkedPacket) → slice_get xs j ≡ Some p → mark_at xs j ≡ p.marked
mark_here xs j p h = rw h refl
