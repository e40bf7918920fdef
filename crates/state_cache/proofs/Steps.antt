-- After a cached step the view is coherent, and the index of the step is usable.
use Rattle.std.proofs.Common.{◌≡◌, ℕ, zero, suc, ◌+◌, Bool, true, false, cond, not, ◌&&◌, ◌||◌, List, [], ◌∷◌, ◌++◌, Option, Some, None, is_some, Ok, length, take, drop, slice_get, slice_set, refl, sym, ap, subst, ◌∙◌, add-one}
use Rattle.std.specs.Option.{option_map_or}
use Rattle.vp8_tables.specs.Tables.{TableEntries}
use Rattle.frame_header.specs.Tags.{has_key_tag}
use Rattle.packet_edits.specs.declared.entry.Entry.{Entry}
use Rattle.reference_frames.specs.declared.states.State.{State}
use Rattle.reference_frames.specs.Steps.{step_of}
use Rattle.state_cache.specs.declared.outcomes.Kept.{Kept}
use Rattle.state_cache.specs.Reaching.{Begins, Converged, at_key, at_start, following, passed_marks, state_cached_before, state_from}
use Rattle.state_cache.specs.Views.{Before, CoherentFrom, Drops, with_cached, Fits, Follows, IsCoherent, MarkedPacket, View, entering, is_cut, is_usable, cached_at, key_at, known, known_after, leaving, marked_packets_of, step_result, trusted_after, unknown}
use Rattle.state_cache.proofs.Known.{Apart, Agree, agree_coherent, agree_known, apart_agree, coherent_join, coherent_parts, drops_same, leaving_less, same_kept, weaker}
use Rattle.state_cache.proofs.Marked.{IsOwn, get_join, known_more, mark_both, mark_here, mark_set, own_before, own_behind, seens_set, split_here, take_join, take_next, trusted_more, with_mark}

-- an outcome is cached there
pub record IsKept (xs : List MarkedPacket) (kept : View) (u : ℕ) : Type 0 where
  pub packet : MarkedPacket
  pub outcome : Kept
  pub packet_is : slice_get xs u ≡ Some packet
  pub is_cached : kept packet.id ≡ Some outcome

kept_some : (xs : List MarkedPacket) (kept : View) (u : ℕ) (q : MarkedPacket) (o : Option Kept) → slice_get xs u ≡ Some q → kept q.id ≡ o → is_some o ≡ true → IsKept xs kept u
kept_some xs kept u q None h e s = cc
kept_some xs kept u q (Some k) h e s = record { packet = q; outcome = k; packet_is = h; is_cached = e }

kept_there : (xs : List MarkedPacket) (kept : View) (u : ℕ) (o : Option MarkedPacket) → slice_get xs u ≡ o → option_map_or (λ (packet : MarkedPacket). is_some (kept packet.id)) o false ≡ true → IsKept xs kept u
kept_there xs kept u None h s = cc
kept_there xs kept u (Some q) h s = kept_some xs kept u q (kept q.id) h refl s

pub both_true : (a b : Bool) → (a && b) ≡ true → (a ≡ true) × (b ≡ true)
both_true true b h = (refl, h)
both_true false b h = cc

pub usable_kept : (xs : List MarkedPacket) (kept : View) (u : ℕ) → is_usable xs kept u ≡ true → IsKept xs kept u
usable_kept xs kept u h = kept_there xs kept u (slice_get xs u) refl (both_true (cached_at xs kept u) (trusted_after true (take (u + 1) xs)) h).0

pub usable_trusted : (xs : List MarkedPacket) (kept : View) (u : ℕ) → is_usable xs kept u ≡ true → trusted_after true (take (u + 1) xs) ≡ true
usable_trusted xs kept u h = (both_true (cached_at xs kept u) (trusted_after true (take (u + 1) xs)) h).1

-- what is known at an index where steps begin
pub record Stands (tables : TableEntries) (xs : List MarkedPacket) (kept : View) (m : ℕ) : Type 0 where
  pub known_is : known_after tables (known None) (take m xs) kept ≡ known (state_cached_before xs kept m)
  pub trusted : trusted_after true (take m xs) ≡ true

stands_behind : (tables : TableEntries) (xs : List MarkedPacket) (kept : View) (u : ℕ) → is_usable xs kept u ≡ true → Stands tables xs kept (suc u)
stands_behind tables xs kept u h =
    let is = usable_kept xs kept u h in
    let q : MarkedPacket = is.packet in
    let k : Kept = is.outcome in
    let before : Before = known_after tables (known None) (take u xs) kept in
    record {
      known_is =
          ap (λ (zs : List MarkedPacket). known_after tables (known None) zs kept) (take_next xs u q is.packet_is) ∙ known_more tables (known None) (take u xs) q kept
          ∙ ap (λ (o : Option Kept). leaving tables (entering before q) q.bytes o) is.is_cached
          ∙ sym (rw (is.packet_is, is.is_cached) refl);
      trusted = subst (λ (n : ℕ). trusted_after true (take n xs) ≡ true) (add-one u) (usable_trusted xs kept u h);
    }

pub key_here : (xs : List MarkedPacket) (m : ℕ) (p : MarkedPacket) → slice_get xs m ≡ Some p → key_at xs m ≡ has_key_tag p.bytes
key_here xs m p h = rw h refl

pub begins_stands : (tables : TableEntries) (xs : List MarkedPacket) (kept : View) (m : ℕ) (p : MarkedPacket) → slice_get xs m ≡ Some p → has_key_tag p.bytes ≡ false → Begins xs kept m → Stands tables xs kept m
begins_stands tables xs kept m p h k (at_start e) = subst (λ (n : ℕ). Stands tables xs kept n) (sym e) (record { known_is = refl; trusted = refl })
begins_stands tables xs kept m p h k (at_key e) = let here = key_here xs m p h in cc
begins_stands tables xs kept m p h k (following u e us) = subst (λ (n : ℕ). Stands tables xs kept n) (sym (e ∙ add-one u)) (stands_behind tables xs kept u us)

module _ (tables : TableEntries) where
  fits_unknown : (bytes : List ℕ) (o : Option Kept) → Fits tables unknown bytes o
  fits_unknown bytes None = tt
  fits_unknown bytes (Some kept) = tt

  marked_first : (b c : Before) (ys : List MarkedPacket) (bytes : List ℕ) (o : Option Kept) (kept : View) (key marked : Bool) → Fits tables (cond key (known None) (cond marked unknown b)) bytes o → CoherentFrom tables (leaving tables (cond key (known None) (cond marked unknown b)) bytes o) ys kept
      → Fits tables (cond key (known None) unknown) bytes o × CoherentFrom tables (leaving tables (cond key (known None) unknown) bytes o) ys kept
  marked_first b c ys bytes o kept true marked f g = (f, g)
  marked_first b c ys bytes o kept false marked f g = (
    fits_unknown bytes o,
    weaker tables ys (leaving tables unknown bytes o) (leaving tables (cond marked unknown b) bytes o) kept kept (leaving_less tables unknown (cond marked unknown b) bytes o o tt (drops_same o) f) (λ id. drops_same (kept id)) g,
  )

  -- after a mark nothing depends on what was before it
  pub marked_any : (b c : Before) (ys : List MarkedPacket) (kept : View) → CoherentFrom tables b ys kept → CoherentFrom tables c (mark_set 0 true ys) kept
  marked_any b c [] kept f = tt
  marked_any b c (y ∷ ys) kept f = marked_first b c ys y.bytes (kept y.id) kept (has_key_tag y.bytes) y.marked f.0 f.1

  -- one step is cached, and the packets after it are coherent with its result
  keep_coherent : (xs ys : List MarkedPacket) (m : MarkedPacket) (kept : View) (state : Option State) (new : Kept) → Apart m.id xs → Apart m.id ys → entering (known_after tables (known None) xs kept) m ≡ known state → step_of tables state m.bytes ≡ Ok (step_result new)
      → CoherentFrom tables (known None) xs kept → CoherentFrom tables (known (Some new.state)) ys kept → CoherentFrom tables (known None) (xs ++ m ∷ ys) (with_cached kept m.id new)
  keep_coherent xs ys m kept state new ax ay e s f g =
      let kept' : View = with_cached kept m.id new in
      let agree : Agree xs kept kept' = apart_agree xs kept m.id new ax in
      let is : kept' m.id ≡ Some new = same_kept kept m.id new in
      let e' : entering (known_after tables (known None) xs kept') m ≡ known state = subst (λ w. entering w m ≡ known state) (agree_known tables (known None) xs kept kept' agree) e in
      let fits : Fits tables (entering (known_after tables (known None) xs kept') m) m.bytes (kept' m.id) =
      subst (λ o. Fits tables (entering (known_after tables (known None) xs kept') m) m.bytes o) (sym is) (subst (λ w. Follows tables w m.bytes new) (sym e') s) in
      let tail : CoherentFrom tables (leaving tables (entering (known_after tables (known None) xs kept') m) m.bytes (kept' m.id)) ys kept' =
      subst (λ o. CoherentFrom tables (leaving tables (entering (known_after tables (known None) xs kept') m) m.bytes o) ys kept') (sym is) (agree_coherent tables (known (Some new.state)) ys kept kept' (apart_agree ys kept m.id new ay) g) in
      coherent_join tables (known None) xs (m ∷ ys) kept' (agree_coherent tables (known None) xs kept kept' agree f) (fits, tail)

-- the packets starting at the stepped one, after the step
abbrev pub passed : Bool → Bool → MarkedPacket → List MarkedPacket → List MarkedPacket
passed false converged p ys = p ∷ ys
passed true true p ys = with_mark false p ∷ ys
passed true false p ys = with_mark false p ∷ mark_set 0 true ys

abbrev pub packet_of : ℕ → List ℕ → Bool → MarkedPacket
packet_of id bytes marked = record { id = id; bytes = bytes; marked = marked }

apart_first : (id : ℕ) (ys : List MarkedPacket) → Apart id ys → Apart id (mark_set 0 true ys)
apart_first id [] a = tt
apart_first id (y ∷ ys) a = a

module _ (tables : TableEntries) (xs ys : List MarkedPacket) (id : ℕ) (bytes : List ℕ) (kept : View) (state : Option State) (new : Kept) (ax : Apart id xs) (ay : Apart id ys) (s : step_of tables state bytes ≡ Ok (step_result new)) (f : CoherentFrom tables (known None) xs kept) where
  abbrev before : Before
  before = known_after tables (known None) xs kept

  -- the packets after one that is not cached and not a cut
  tail_stepped : (m : Bool) → entering before (packet_of id bytes m) ≡ known state → kept id ≡ None → CoherentFrom tables (known None) (xs ++ packet_of id bytes m ∷ ys) kept → CoherentFrom tables (known (Some new.state)) ys kept
  tail_stepped m e n all =
      let parts = coherent_parts tables (known None) xs (packet_of id bytes m ∷ ys) kept all in
      let left : leaving tables (entering before (packet_of id bytes m)) bytes (kept id) ≡ known (Some new.state) = rw (n, e, s) refl in
      subst (λ w. CoherentFrom tables w ys kept) left parts.1.1

  keep_cases : (k m converged : Bool) → has_key_tag bytes ≡ k → entering before (packet_of id bytes false) ≡ known state → Converged converged (kept id) new → ((m && not k) ≡ false → kept id ≡ None) → CoherentFrom tables (known None) (xs ++ packet_of id bytes m ∷ ys) kept
      → CoherentFrom tables (known None) (xs ++ passed (m && not k) converged (packet_of id bytes m) ys) (with_cached kept id new)
  keep_cases k false converged ek e h n all =
      keep_coherent tables xs ys (packet_of id bytes false) kept state new ax ay e s f (tail_stepped false e (n refl) all)
  keep_cases true true converged ek e h n all =
      let e' : entering before (packet_of id bytes true) ≡ known state = rw ek (rw ek at e) in
      keep_coherent tables xs ys (packet_of id bytes true) kept state new ax ay e' s f (tail_stepped true e' (n refl) all)
  keep_cases false true true ek e h n all =
      let old = h refl in
      let parts = coherent_parts tables (known None) xs (packet_of id bytes true ∷ ys) kept all in
      let left : leaving tables (entering before (packet_of id bytes true)) bytes (kept id) ≡ known (Some new.state) = rw old.1 (ap (λ (t : State). known (Some t)) old.2) in
      keep_coherent tables xs ys (packet_of id bytes false) kept state new ax ay e s f (subst (λ w. CoherentFrom tables w ys kept) left parts.1.1)
  keep_cases false true false ek e h n all =
      let parts = coherent_parts tables (known None) xs (packet_of id bytes true ∷ ys) kept all in
      keep_coherent tables xs (mark_set 0 true ys) (packet_of id bytes false) kept state new ax (apart_first id ys ay) e s f
      (marked_any tables (leaving tables (entering before (packet_of id bytes true)) bytes (kept id)) (known (Some new.state)) ys kept parts.1.1)

-- the packets after a cached step
abbrev pub passed_at : Bool → Bool → ℕ → List MarkedPacket → List MarkedPacket
passed_at cut converged place xs = cond cut (cond converged (mark_set place false xs) (mark_set (suc place) true (mark_set place false xs))) xs

length_slice_set : (ms : List Bool) (i : ℕ) (m : Bool) → length (slice_set ms i m) ≡ length ms
length_slice_set [] i m = refl
length_slice_set (x ∷ ms) zero m = refl
length_slice_set (x ∷ ms) (suc i) m = ap suc (length_slice_set ms i m)

pub seens_passed : (es : List Entry) (ms : List Bool) (cut converged : Bool) (i : ℕ) → length ms ≡ length es → marked_packets_of es (passed_marks cut converged i ms) ≡ passed_at cut converged i (marked_packets_of es ms)
seens_passed es ms false converged i h = refl
seens_passed es ms true true i h = seens_set es ms i false h
seens_passed es ms true false i h =
    seens_set es (slice_set ms i false) (i + 1) true (length_slice_set ms i false ∙ h)
    ∙ ap (mark_set (i + 1) true) (seens_set es ms i false h) ∙ ap (λ (n : ℕ). mark_set n true (mark_set i false (marked_packets_of es ms))) (add-one i)

pub length_passed : (ms : List Bool) (cut converged : Bool) (i : ℕ) → length (passed_marks cut converged i ms) ≡ length ms
length_passed ms false converged i = refl
length_passed ms true true i = length_slice_set ms i false
length_passed ms true false i = length_slice_set (slice_set ms i false) (i + 1) true ∙ length_slice_set ms i false

passed_here : (xs : List MarkedPacket) (i : ℕ) (p : MarkedPacket) (cut converged : Bool) → slice_get xs i ≡ Some p → passed_at cut converged i xs ≡ take i xs ++ passed cut converged p (drop (suc i) xs)
passed_here xs i p false converged h = split_here xs i p h
passed_here xs i p true true h = mark_here xs i p false h
passed_here xs i p true false h = mark_both xs i p false true h

-- the view is coherent after a cached step
pub step_kept : (tables : TableEntries) (xs : List MarkedPacket) (m : ℕ) (p : MarkedPacket) (kept kept' : View) (state : Option State) (new : Kept) (converged : Bool) → slice_get xs m ≡ Some p → IsOwn xs → IsCoherent tables xs kept
    → entering (known_after tables (known None) (take m xs) kept) (with_mark false p) ≡ known state → step_of tables state p.bytes ≡ Ok (step_result new) → Converged converged (kept p.id) new → (is_cut p ≡ false → kept p.id ≡ None)
    → ((q : ℕ) → Drops (kept' q) (with_cached kept p.id new q)) → IsCoherent tables (passed_at (is_cut p) converged m xs) kept'
step_kept tables xs m p kept kept' state new converged h own coherent e s hm n d =
    let all : CoherentFrom tables (known None) (take m xs ++ p ∷ drop (suc m) xs) kept = subst (λ zs. IsCoherent tables zs kept) (split_here xs m p h) coherent in
    let parts = coherent_parts tables (known None) (take m xs) (p ∷ drop (suc m) xs) kept all in
    let one = keep_cases tables (take m xs) (drop (suc m) xs) p.id p.bytes kept state new (own_before xs m p own h) (own_behind xs m p own h) s parts.0 (has_key_tag p.bytes) p.marked converged refl e hm n all in
    subst (λ zs. CoherentFrom tables (known None) zs kept') (sym (passed_here xs m p (is_cut p) converged h))
    (weaker tables (take m xs ++ passed (is_cut p) converged p (drop (suc m) xs)) (known None) (known None) kept' (with_cached kept p.id new) refl d one)

-- the state before an index where steps begin is known
stands_case : (tables : TableEntries) (xs : List MarkedPacket) (kept : View) (m : ℕ) (p : MarkedPacket) (k : Bool) → slice_get xs m ≡ Some p → has_key_tag p.bytes ≡ k → Begins xs kept m
    → cond k (known None) (known_after tables (known None) (take m xs) kept) ≡ known (cond k None (state_cached_before xs kept m))
stands_case tables xs kept m p true h e b = refl
stands_case tables xs kept m p false h e b = (begins_stands tables xs kept m p h e b).known_is

pub stands_before : (tables : TableEntries) (xs : List MarkedPacket) (kept : View) (m : ℕ) (p : MarkedPacket) → slice_get xs m ≡ Some p → Begins xs kept m
    → entering (known_after tables (known None) (take m xs) kept) (with_mark false p) ≡ known (state_from xs kept m)
stands_before tables xs kept m p h b =
    stands_case tables xs kept m p (has_key_tag p.bytes) h refl b ∙ sym (ap (λ (k : Bool). known (cond k None (state_cached_before xs kept m))) (key_here xs m p h))

missing_case : (k mk t : Bool) (o : Option Kept) → (k ≡ false → t ≡ true) → (is_some o && (k || (not mk && t))) ≡ false → (mk && not k) ≡ false → o ≡ None
missing_case k mk t None h u c = refl
missing_case true mk t (Some x) h u c = cc
missing_case false true t (Some x) h u c = cc
missing_case false false t (Some x) h u c = let is : t ≡ true = h refl in cc

pub trusted_here : (xs : List MarkedPacket) (m : ℕ) (p : MarkedPacket) → slice_get xs m ≡ Some p → trusted_after true (take (m + 1) xs) ≡ (has_key_tag p.bytes || (not p.marked && trusted_after true (take m xs)))
trusted_here xs m p h = ap (λ (n : ℕ). trusted_after true (take n xs)) (add-one m) ∙ ap (trusted_after true) (take_next xs m p h) ∙ trusted_more true (take m xs) p

kept_here : (xs : List MarkedPacket) (kept : View) (m : ℕ) (p : MarkedPacket) → slice_get xs m ≡ Some p → cached_at xs kept m ≡ is_some (kept p.id)
kept_here xs kept m p h = rw h refl

pub usable_here : (xs : List MarkedPacket) (kept : View) (m : ℕ) (p : MarkedPacket) → slice_get xs m ≡ Some p → is_usable xs kept m ≡ (is_some (kept p.id) && (has_key_tag p.bytes || (not p.marked && trusted_after true (take m xs))))
usable_here xs kept m p h = ap (λ (b : Bool). b && trusted_after true (take (m + 1) xs)) (kept_here xs kept m p h) ∙ ap (λ (b : Bool). is_some (kept p.id) && b) (trusted_here xs m p h)

pub missing_here : (tables : TableEntries) (xs : List MarkedPacket) (kept : View) (m : ℕ) (p : MarkedPacket) → slice_get xs m ≡ Some p → Begins xs kept m → is_usable xs kept m ≡ false → is_cut p ≡ false → kept p.id ≡ None
missing_here tables xs kept m p h b u =
    missing_case (has_key_tag p.bytes) p.marked (trusted_after true (take m xs)) (kept p.id) (λ k. (begins_stands tables xs kept m p h k b).trusted) (sym (usable_here xs kept m p h) ∙ u)

first_case : (cut converged : Bool) (p : MarkedPacket) (ys : List MarkedPacket) → (rest : List MarkedPacket) × (passed cut converged p ys ≡ with_mark (cond cut false p.marked) p ∷ rest)
first_case false converged p ys = (ys, refl)
first_case true true p ys = (ys, refl)
first_case true false p ys = (mark_set 0 true ys, refl)

trust_case : (k mk t : Bool) → (k ≡ false → t ≡ true) → (k || (not (cond (mk && not k) false mk) && t)) ≡ true
trust_case true mk t h = refl
trust_case false true t h = h refl
trust_case false false t h = h refl

usable_joined : (zs xs ys : List MarkedPacket) (kept : View) (m : ℕ) (p q : MarkedPacket) (new : Kept) → zs ≡ take m xs ++ q ∷ ys → slice_get xs m ≡ Some p → kept q.id ≡ Some new → (has_key_tag q.bytes || (not q.marked && trusted_after true (take m xs))) ≡ true → is_usable zs kept m ≡ true
usable_joined zs xs ys kept m p q new e h k t =
    let gets : slice_get zs m ≡ Some q = ap (λ (ws : List MarkedPacket). slice_get ws m) e ∙ get_join xs m p q ys h in
    let takes : take (m + 1) zs ≡ take m xs ++ q ∷ [] = ap (λ (n : ℕ). take n zs) (add-one m) ∙ ap (take (suc m)) e ∙ take_join xs m p q ys h in
    let trusts : trusted_after true (take (m + 1) zs) ≡ true = ap (trusted_after true) takes ∙ trusted_more true (take m xs) q ∙ t in
    let keeps : cached_at zs kept m ≡ true = kept_here zs kept m q gets ∙ ap is_some k in
    rw (keeps, trusts) refl

-- and the index of the step is usable
pub usable_after : (tables : TableEntries) (xs : List MarkedPacket) (m : ℕ) (p : MarkedPacket) (kept kept' : View) (new : Kept) (converged : Bool) → slice_get xs m ≡ Some p → Begins xs kept m → kept' p.id ≡ Some new → is_usable (passed_at (is_cut p) converged m xs) kept' m ≡ true
usable_after tables xs m p kept kept' new converged h b k =
    let first = first_case (is_cut p) converged p (drop (suc m) xs) in
    usable_joined (passed_at (is_cut p) converged m xs) xs first.0 kept' m p (with_mark (cond (is_cut p) false p.marked) p) new
    (passed_here xs m p (is_cut p) converged h ∙ ap (λ (ws : List MarkedPacket). take m xs ++ ws) first.1) h k
    (trust_case (has_key_tag p.bytes) p.marked (trusted_after true (take m xs)) (λ e. (begins_stands tables xs kept m p h e b).trusted))
