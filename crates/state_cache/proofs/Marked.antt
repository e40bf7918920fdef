-- Lists of packets around an index, and marks that are set there.
use Rattle.std.proofs.Common.{◌≡◌, ℕ, zero, suc, Bool, not, ◌&&◌, ◌||◌, List, [], ◌∷◌, ◌++◌, Some, length, map, take, drop, slice_get, slice_set, refl, sym, ap, subst, ◌∙◌, arith}
use Rattle.vp8_tables.specs.Tables.{TableEntries}
use Rattle.frame_header.specs.Tags.{has_key_tag}
use Rattle.packet_edits.specs.declared.entry.Entry.{Entry}
use Rattle.packet_edits.specs.Laws.{HaveOwnIds, IsNotAmong}
use Rattle.state_cache.specs.Views.{Before, MarkedPacket, View, entering, known_after, leaving, marked_packet, marked_packets_of, trusted_after}
use Rattle.state_cache.proofs.Known.{Apart}

abbrev pub with_mark : Bool → MarkedPacket → MarkedPacket
with_mark m p = record { id = p.id; bytes = p.bytes; marked = m }

-- the mark at an index set to a value
abbrev pub mark_set : ℕ → Bool → List MarkedPacket → List MarkedPacket
mark_set place m [] = []
mark_set zero m (p ∷ ps) = with_mark m p ∷ ps
mark_set (suc place) m (p ∷ ps) = p ∷ mark_set place m ps

pub seens_set : (es : List Entry) (ms : List Bool) (i : ℕ) (m : Bool) → length ms ≡ length es → marked_packets_of es (slice_set ms i m) ≡ mark_set i m (marked_packets_of es ms)
seens_set [] ms i m h = refl
seens_set (e ∷ es) [] i m h = absurd (omega (arith, h))
seens_set (e ∷ es) (x ∷ ms) zero m h = refl
seens_set (e ∷ es) (x ∷ ms) (suc i) m h = ap (λ (ps : List MarkedPacket). marked_packet e x ∷ ps) (seens_set es ms i m (omega (arith, h)))

pub bytes_seens : (es : List Entry) (ms : List Bool) → map (λ (p : MarkedPacket). p.bytes) (marked_packets_of es ms) ≡ map (λ (e : Entry). e.bytes) es
bytes_seens [] ms = refl
bytes_seens (e ∷ es) [] = ap (λ (bs : List (List ℕ)). e.bytes ∷ bs) (bytes_seens es [])
bytes_seens (e ∷ es) (m ∷ ms) = ap (λ (bs : List (List ℕ)). e.bytes ∷ bs) (bytes_seens es ms)

pub get_seen : (es : List Entry) (ms : List Bool) (i : ℕ) (e : Entry) (m : Bool) → slice_get es i ≡ Some e → slice_get ms i ≡ Some m → slice_get (marked_packets_of es ms) i ≡ Some (marked_packet e m)
get_seen [] ms i e m h k = cc
get_seen (x ∷ es) [] i e m h k = cc
get_seen (x ∷ es) (y ∷ ms) zero e m h k = let a : x ≡ e = cc in let b : y ≡ m = cc in rw (a, b) refl
get_seen (x ∷ es) (y ∷ ms) (suc i) e m h k = get_seen es ms i e m h k

pub split_here : (xs : List MarkedPacket) (i : ℕ) (p : MarkedPacket) → slice_get xs i ≡ Some p → xs ≡ take i xs ++ p ∷ drop (suc i) xs
split_here [] i p h = cc
split_here (x ∷ xs) zero p h = let a : x ≡ p = cc in ap (λ (y : MarkedPacket). y ∷ xs) a
split_here (x ∷ xs) (suc i) p h = ap (λ (ys : List MarkedPacket). x ∷ ys) (split_here xs i p h)

pub mark_here : (xs : List MarkedPacket) (i : ℕ) (p : MarkedPacket) (m : Bool) → slice_get xs i ≡ Some p → mark_set i m xs ≡ take i xs ++ with_mark m p ∷ drop (suc i) xs
mark_here [] i p m h = cc
mark_here (x ∷ xs) zero p m h = let a : x ≡ p = cc in ap (λ (y : MarkedPacket). with_mark m y ∷ xs) a
mark_here (x ∷ xs) (suc i) p m h = ap (λ (ys : List MarkedPacket). x ∷ ys) (mark_here xs i p m h)

pub mark_both : (xs : List MarkedPacket) (i : ℕ) (p : MarkedPacket) (m n : Bool) → slice_get xs i ≡ Some p → mark_set (suc i) n (mark_set i m xs) ≡ take i xs ++ with_mark m p ∷ mark_set 0 n (drop (suc i) xs)
mark_both [] i p m n h = cc
mark_both (x ∷ xs) zero p m n h = let a : x ≡ p = cc in ap (λ (y : MarkedPacket). with_mark m y ∷ mark_set 0 n xs) a
mark_both (x ∷ xs) (suc i) p m n h = ap (λ (ys : List MarkedPacket). x ∷ ys) (mark_both xs i p m n h)

-- the list around an index: the packet there, and the packets before it
pub get_join : (xs : List MarkedPacket) (i : ℕ) (p q : MarkedPacket) (ys : List MarkedPacket) → slice_get xs i ≡ Some p → slice_get (take i xs ++ q ∷ ys) i ≡ Some q
get_join [] i p q ys h = cc
get_join (x ∷ xs) zero p q ys h = refl
get_join (x ∷ xs) (suc i) p q ys h = get_join xs i p q ys h

pub take_join : (xs : List MarkedPacket) (i : ℕ) (p q : MarkedPacket) (ys : List MarkedPacket) → slice_get xs i ≡ Some p → take (suc i) (take i xs ++ q ∷ ys) ≡ take i xs ++ q ∷ []
take_join [] i p q ys h = cc
take_join (x ∷ xs) zero p q ys h = refl
take_join (x ∷ xs) (suc i) p q ys h = ap (λ (zs : List MarkedPacket). x ∷ zs) (take_join xs i p q ys h)

pub take_next : (xs : List MarkedPacket) (i : ℕ) (p : MarkedPacket) → slice_get xs i ≡ Some p → take (suc i) xs ≡ take i xs ++ p ∷ []
take_next [] i p h = cc
take_next (x ∷ xs) zero p h = let a : x ≡ p = cc in ap (λ (y : MarkedPacket). y ∷ []) a
take_next (x ∷ xs) (suc i) p h = ap (λ (zs : List MarkedPacket). x ∷ zs) (take_next xs i p h)

pub trusted_more : (t : Bool) (xs : List MarkedPacket) (p : MarkedPacket) → trusted_after t (xs ++ p ∷ []) ≡ (has_key_tag p.bytes || (not p.marked && trusted_after t xs))
trusted_more t [] p = refl
trusted_more t (x ∷ xs) p = trusted_more (has_key_tag x.bytes || (not x.marked && t)) xs p

pub known_more : (tables : TableEntries) (b : Before) (xs : List MarkedPacket) (p : MarkedPacket) (kept : View) → known_after tables b (xs ++ p ∷ []) kept ≡ leaving tables (entering (known_after tables b xs kept) p) p.bytes (kept p.id)
known_more tables b [] p kept = refl
known_more tables b (x ∷ xs) p kept = known_more tables (leaving tables (entering b x) x.bytes (kept x.id)) xs p kept

-- packets with distinct ids
apart_all : (id : ℕ) (es : List Entry) (ms : List Bool) → IsNotAmong id es → Apart id (marked_packets_of es ms)
apart_all id [] ms a = tt
apart_all id (e ∷ es) [] a = (a.0, apart_all id es [] a.1)
apart_all id (e ∷ es) (m ∷ ms) a = (a.0, apart_all id es ms a.1)

pub apart_get : (id : ℕ) (xs : List MarkedPacket) (i : ℕ) (p : MarkedPacket) → Apart id xs → slice_get xs i ≡ Some p → (id ≡ p.id → ⊥)
apart_get id [] i p a h = cc
apart_get id (x ∷ xs) zero p a h = let e : x ≡ p = cc in λ same. a.0 (ap (λ (y : MarkedPacket). y.id) e ∙ sym same)
apart_get id (x ∷ xs) (suc i) p a h = apart_get id xs i p a.1 h

-- each packet has another id than those before and after it
abbrev pub IsOwn : List MarkedPacket → Type 0
IsOwn [] = Unit {0}
IsOwn (p ∷ ps) = Apart p.id ps × IsOwn ps

pub own_seens : (next : ℕ) (es : List Entry) (ms : List Bool) → HaveOwnIds next es → IsOwn (marked_packets_of es ms)
own_seens next [] ms h = tt
own_seens next (e ∷ es) [] h = (apart_all e.id es [] h.1, own_seens next es [] h.2)
own_seens next (e ∷ es) (m ∷ ms) h = (apart_all e.id es ms h.1, own_seens next es ms h.2)

pub own_before : (xs : List MarkedPacket) (i : ℕ) (p : MarkedPacket) → IsOwn xs → slice_get xs i ≡ Some p → Apart p.id (take i xs)
own_before [] i p o h = cc
own_before (x ∷ xs) zero p o h = tt
own_before (x ∷ xs) (suc i) p o h = (apart_get x.id xs i p o.0 h, own_before xs i p o.1 h)

pub own_behind : (xs : List MarkedPacket) (i : ℕ) (p : MarkedPacket) → IsOwn xs → slice_get xs i ≡ Some p → Apart p.id (drop (suc i) xs)
own_behind [] i p o h = cc
own_behind (x ∷ xs) zero p o h = let e : x ≡ p = cc in subst (λ (y : MarkedPacket). Apart y.id xs) e o.0
own_behind (x ∷ xs) (suc i) p o h = own_behind xs i p o.1 h
