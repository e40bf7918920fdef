-- The results of a store's calls for the packet at an index.
use Rattle.std.proofs.Common.{◌≡◌, ℕ, zero, suc, ◌-◌, ◌<◌, Bool, true, false, cond, None, List, [], ◌∷◌, Option, Some, option_map, option_and_then, is_some, length, map, slice_get, refl, sym, ap, ◌∙◌, arith}
use Rattle.std.specs.Option.{option_map_or}
use Rattle.frame_header.specs.Tags.{has_key_tag}
use Rattle.packet_edits.specs.FlagCounts.{flag_at}
use Rattle.packet_edits.specs.Sizes.{key_tag_at}
use Rattle.packet_edits.specs.declared.entry.Entry.{Entry}
use Rattle.state_cache.specs.declared.outcomes.Kept.{Kept}
use Rattle.state_cache.specs.ProofsOnly.{outcome_before, outcome_from}
use Rattle.state_cache.specs.Reaching.{state_cached_before, state_from}
use Rattle.state_cache.specs.Views.{MarkedPacket, View, key_at, cached_at, marked_packet, marked_packets_of, mark_at}
use Rattle.state_cache.proofs.Marked.{bytes_seens}
use Rattle.state_cache.proofs.Truth.{got_bytes}

-- there is a packet at the index
pub record Shows (xs : List MarkedPacket) (i : ℕ) : Type 0 where
  pub packet : MarkedPacket
  pub is : slice_get xs i ≡ Some packet

pub shows : (es : List Entry) (ms : List Bool) (i : ℕ) → i < length es → Shows (marked_packets_of es ms) i
shows [] ms i h = absurd (omega (arith, h))
shows (e ∷ es) [] zero h = record { packet = marked_packet e false; is = refl }
shows (e ∷ es) (m ∷ ms) zero h = record { packet = marked_packet e m; is = refl }
shows (e ∷ es) [] (suc i) h = let s = shows es [] i (omega (arith, h)) in record { packet = s.packet; is = s.is }
shows (e ∷ es) (m ∷ ms) (suc i) h = let s = shows es ms i (omega (arith, h)) in record { packet = s.packet; is = s.is }

pub id_shown : (es : List Entry) (ms : List Bool) (i : ℕ) (p : MarkedPacket) (r : ℕ) → slice_get (marked_packets_of es ms) i ≡ Some p → option_map (λ (e : Entry). e.id) (slice_get es i) ≡ Some r → r ≡ p.id
id_shown [] ms i p r h k = cc
id_shown (e ∷ es) [] zero p r h k = let a : marked_packet e false ≡ p = cc in let b : e.id ≡ r = cc in sym b ∙ ap (λ (x : MarkedPacket). x.id) a
id_shown (e ∷ es) (m ∷ ms) zero p r h k = let a : marked_packet e m ≡ p = cc in let b : e.id ≡ r = cc in sym b ∙ ap (λ (x : MarkedPacket). x.id) a
id_shown (e ∷ es) [] (suc i) p r h k = id_shown es [] i p r h k
id_shown (e ∷ es) (m ∷ ms) (suc i) p r h k = id_shown es ms i p r h k

pub mark_shown : (es : List Entry) (ms : List Bool) (i : ℕ) (p : MarkedPacket) (r : Bool) → slice_get (marked_packets_of es ms) i ≡ Some p → slice_get ms i ≡ Some r → r ≡ p.marked
mark_shown [] ms i p r h k = cc
mark_shown (e ∷ es) [] i p r h k = cc
mark_shown (e ∷ es) (m ∷ ms) zero p r h k = let a : marked_packet e m ≡ p = cc in let b : m ≡ r = cc in sym b ∙ ap (λ (x : MarkedPacket). x.marked) a
mark_shown (e ∷ es) (m ∷ ms) (suc i) p r h k = mark_shown es ms i p r h k

pub bytes_shown : (es : List Entry) (ms : List Bool) (i : ℕ) (p : MarkedPacket) (r : List ℕ) → slice_get (marked_packets_of es ms) i ≡ Some p → slice_get (map (λ (e : Entry). e.bytes) es) i ≡ Some r → r ≡ p.bytes
bytes_shown es ms i p r h k =
    let step_result : slice_get (map (λ (e : Entry). e.bytes) es) i ≡ Some p.bytes = ap (λ (bs : List (List ℕ)). slice_get bs i) (sym (bytes_seens es ms)) ∙ got_bytes (marked_packets_of es ms) i p h in
    cc

-- stated by indexes
key_tag_seen : (xs : List MarkedPacket) (i : ℕ) → key_tag_at (map (λ (p : MarkedPacket). p.bytes) xs) i ≡ key_at xs i
key_tag_seen [] i = refl
key_tag_seen (x ∷ xs) zero = refl
key_tag_seen (x ∷ xs) (suc i) = key_tag_seen xs i

pub key_tag_told : (es : List Entry) (ms : List Bool) (i : ℕ) (b : Bool) → b ≡ key_tag_at (map (λ (e : Entry). e.bytes) es) i → b ≡ key_at (marked_packets_of es ms) i
key_tag_told es ms i b e = e ∙ ap (λ (bs : List (List ℕ)). key_tag_at bs i) (sym (bytes_seens es ms)) ∙ key_tag_seen (marked_packets_of es ms) i

pub mark_told : (es : List Entry) (ms : List Bool) (i : ℕ) (b : Bool) → i < length es → slice_get ms i ≡ Some b → b ≡ mark_at (marked_packets_of es ms) i
mark_told es ms i b h k =
    let s = shows es ms i h in
    mark_shown es ms i s.packet b s.is k ∙ sym (rw s.is refl)

pub kept_told : (es : List Entry) (ms : List Bool) (kept : View) (i r : ℕ) (b : Bool) → i < length es → option_map (λ (e : Entry). e.id) (slice_get es i) ≡ Some r → b ≡ is_some (kept r) → b ≡ cached_at (marked_packets_of es ms) kept i
kept_told es ms kept i r b h k e =
    let s = shows es ms i h in
    e ∙ ap (λ (n : ℕ). is_some (kept n)) (id_shown es ms i s.packet r s.is k) ∙ sym (rw s.is refl)

pub kept_answered : (es : List Entry) (ms : List Bool) (kept : View) (i r : ℕ) (k : Kept) → i < length es → option_map (λ (e : Entry). e.id) (slice_get es i) ≡ Some r → kept r ≡ Some k → option_and_then (λ (packet : MarkedPacket). kept packet.id) (slice_get (marked_packets_of es ms) i) ≡ Some k
kept_answered es ms kept i r k h step_result e =
    let s = shows es ms i h in
    ap (λ (o : Option MarkedPacket). option_and_then (λ (packet : MarkedPacket). kept packet.id) o) s.is ∙ ap kept (sym (id_shown es ms i s.packet r s.is step_result)) ∙ e

-- nothing is cached at an index for whose id nothing is
pub none_answered : (es : List Entry) (ms : List Bool) (kept : View) (i r : ℕ) → i < length es → option_map (λ (e : Entry). e.id) (slice_get es i) ≡ Some r → kept r ≡ None → cached_at (marked_packets_of es ms) kept i ≡ false
none_answered es ms kept i r h step_result e =
    let s = shows es ms i h in
    ap (λ (o : Option MarkedPacket). option_map_or (λ (packet : MarkedPacket). is_some (kept packet.id)) o false) s.is ∙ ap (λ (n : ℕ). is_some (kept n)) (sym (id_shown es ms i s.packet r s.is step_result)) ∙ ap is_some e

pub outcome_told : (es : List Entry) (ms : List Bool) (kept : View) (i r : ℕ) → 0 < i → i < length es → key_at (marked_packets_of es ms) i ≡ false → option_map (λ (e : Entry). e.id) (slice_get es (i - 1)) ≡ Some r → kept r ≡ outcome_from (marked_packets_of es ms) kept i
outcome_told es ms kept zero r some h k step_result = absurd (omega (arith, some))
outcome_told es ms kept (suc i) r some h k step_result =
    let s = shows es ms i (omega (arith, h)) in
    let back : suc i - 1 ≡ i = omega arith in
    let there : option_map (λ (e : Entry). e.id) (slice_get es i) ≡ Some r = ap (λ (n : ℕ). option_map (λ (e : Entry). e.id) (slice_get es n)) (sym back) ∙ step_result in
    let id_is : r ≡ s.packet.id = id_shown es ms i s.packet r s.is there in
    rw (k, s.is, id_is) refl

state_case : (b : Bool) (xs : List MarkedPacket) (kept : View) (i : ℕ) → option_map (λ (k : Kept). k.state) (cond b None (outcome_before xs kept i)) ≡ cond b None (state_cached_before xs kept i)
state_case true xs kept i = refl
state_case false xs kept zero = refl
state_case false xs kept (suc i) = refl

-- the state of that outcome is the one from which the packet is stepped
pub state_told : (xs : List MarkedPacket) (kept : View) (i : ℕ) → option_map (λ (k : Kept). k.state) (outcome_from xs kept i) ≡ state_from xs kept i
state_told xs kept i = state_case (key_at xs i) xs kept i

-- a store's flags agree with its packets
pub key_agrees : (es : List Entry) (ms : List Bool) (p : ℕ) → key_tag_at (map (λ (e : Entry). e.bytes) es) p ≡ key_at (marked_packets_of es ms) p
key_agrees [] ms p = refl
key_agrees (e ∷ es) [] zero = refl
key_agrees (e ∷ es) (m ∷ ms) zero = refl
key_agrees (e ∷ es) [] (suc p) = key_agrees es [] p
key_agrees (e ∷ es) (m ∷ ms) (suc p) = key_agrees es ms p

pub mark_agrees : (es : List Entry) (ms : List Bool) (p : ℕ) → length ms ≡ length es → flag_at ms p ≡ mark_at (marked_packets_of es ms) p
mark_agrees [] [] p same = refl
mark_agrees [] (m ∷ ms) p same = absurd (omega (arith, same))
mark_agrees (e ∷ es) [] p same = absurd (omega (arith, same))
mark_agrees (e ∷ es) (m ∷ ms) zero same = refl
mark_agrees (e ∷ es) (m ∷ ms) (suc p) same = mark_agrees es ms p (omega (arith, same))
