-- The cache is coherent with the packets after an edit.
use Rattle.std.proofs.Common.{◌≡◌, ℕ, zero, suc, ◌+◌, ◌≤◌, Bool, true, false, cond, List, [], ◌∷◌, ◌++◌, map, Option, Some, None, length, slice_get, slice_set, nat_eq, refl, sym, ap, subst, ◌∙◌, arith, add-one}
use Rattle.std.specs.Cmp.{nat_eq_equiv}
use Rattle.std.specs.List.{insert, remove}
use Rattle.std.specs.Option.{option_map_or}
use Rattle.std.proofs.lemmas.Bool.{eqb-true}
use Rattle.vp8_tables.specs.Tables.{TableEntries}
use Rattle.frame_header.specs.Tags.{has_key_tag}
use Rattle.stream_files.specs.declared.packets.Packet.{Packet}
use Rattle.packet_times.specs.Durations.{duration_before}
use Rattle.packet_times.specs.declared.durations.Duration.{Duration}
use Rattle.packet_edits.specs.declared.entry.Entry.{Entry}
use Rattle.packet_edits.specs.Edits.{moved, numbered, showing}
use Rattle.packet_edits.specs.Marks.{StoreValue}
use Rattle.frame_header.specs.ShowLaws.{OnlyTheBitChanges}
use Rattle.frame_header.specs.ShowBits.{with_show_bit}
use Rattle.stream_steps.specs.Hidden.{ShowBitKeepsSteps}
use Rattle.state_cache.specs.declared.outcomes.Kept.{Kept}
use Rattle.state_cache.specs.EditLaws.{EditsKeepCoherence, IsViewWithout, IsMarked, IsWithout, after_push, after_deletion, after_insertion, after_move, after_replacement, after_show_bit, id_at}
use Rattle.state_cache.specs.Views.{Before, CoherentFrom, Drops, Fits, Follows, IsCoherent, MarkedPacket, View, entering, failed, known, leaving, left_known, marked_packet, marked_packets, marked_packets_of, stepped, unknown}
use Rattle.state_cache.proofs.Known.{Below, drops_same, weaker}
use Rattle.state_cache.proofs.Marked.{get_seen, mark_set, seens_set}
use Rattle.state_cache.proofs.Steps.{marked_any}

-- packets and marks that are inserted, removed and changed together
pub seens_inserted : (es : List Entry) (ms : List Bool) (i : ℕ) (e : Entry) (m : Bool) → length ms ≡ length es → marked_packets_of (insert es i e) (insert ms i m) ≡ insert (marked_packets_of es ms) i (marked_packet e m)
seens_inserted es ms zero e m h = refl
seens_inserted [] [] (suc i) e m h = refl
seens_inserted [] (x ∷ ms) (suc i) e m h = absurd (omega (arith, h))
seens_inserted (y ∷ es) [] (suc i) e m h = absurd (omega (arith, h))
seens_inserted (y ∷ es) (x ∷ ms) (suc i) e m h = ap (λ (ps : List MarkedPacket). marked_packet y x ∷ ps) (seens_inserted es ms i e m (omega (arith, h)))

seens_removed : (es : List Entry) (ms : List Bool) (i : ℕ) → length ms ≡ length es → marked_packets_of (remove es i) (remove ms i) ≡ remove (marked_packets_of es ms) i
seens_removed [] [] zero h = refl
seens_removed [] [] (suc i) h = refl
seens_removed [] (x ∷ ms) i h = absurd (omega (arith, h))
seens_removed (y ∷ es) [] i h = absurd (omega (arith, h))
seens_removed (y ∷ es) (x ∷ ms) zero h = refl
seens_removed (y ∷ es) (x ∷ ms) (suc i) h = ap (λ (ps : List MarkedPacket). marked_packet y x ∷ ps) (seens_removed es ms i (omega (arith, h)))

pub seens_changed : (es : List Entry) (ms : List Bool) (i : ℕ) (e : Entry) (m : Bool) → length ms ≡ length es → marked_packets_of (slice_set es i e) (slice_set ms i m) ≡ slice_set (marked_packets_of es ms) i (marked_packet e m)
seens_changed [] [] i e m h = refl
seens_changed [] (x ∷ ms) i e m h = absurd (omega (arith, h))
seens_changed (y ∷ es) [] i e m h = absurd (omega (arith, h))
seens_changed (y ∷ es) (x ∷ ms) zero e m h = refl
seens_changed (y ∷ es) (x ∷ ms) (suc i) e m h = ap (λ (ps : List MarkedPacket). marked_packet y x ∷ ps) (seens_changed es ms i e m (omega (arith, h)))

-- there are still as many marks as packets
pub inserted_long : {A B : Type 0} (xs : List A) (ys : List B) (i : ℕ) (x : A) (y : B) → length xs ≡ length ys → length (insert xs i x) ≡ length (insert ys i y)
inserted_long xs ys zero x y h = ap suc h
inserted_long [] [] (suc i) x y h = refl
inserted_long [] (b ∷ ys) (suc i) x y h = absurd (omega (arith, h))
inserted_long (a ∷ xs) [] (suc i) x y h = absurd (omega (arith, h))
inserted_long (a ∷ xs) (b ∷ ys) (suc i) x y h = ap suc (inserted_long xs ys i x y (omega (arith, h)))

removed_long : {A B : Type 0} (xs : List A) (ys : List B) (i : ℕ) → length xs ≡ length ys → length (remove xs i) ≡ length (remove ys i)
removed_long [] [] zero h = refl
removed_long [] [] (suc i) h = refl
removed_long [] (b ∷ ys) i h = absurd (omega (arith, h))
removed_long (a ∷ xs) [] i h = absurd (omega (arith, h))
removed_long (a ∷ xs) (b ∷ ys) zero h = let less : length xs ≡ length ys = omega (arith, h) in less
removed_long (a ∷ xs) (b ∷ ys) (suc i) h = ap suc (removed_long xs ys i (omega (arith, h)))

pub set_long : {A : Type 0} (xs : List A) (i : ℕ) (x : A) → length (slice_set xs i x) ≡ length xs
set_long [] i x = refl
set_long (a ∷ xs) zero x = refl
set_long (a ∷ xs) (suc i) x = ap suc (set_long xs i x)

-- a mark after it was set, and after another was set
get_other : (ms : List Bool) (i : ℕ) (m : Bool) → slice_get (slice_set ms (suc i) m) i ≡ slice_get ms i
get_other [] i m = refl
get_other (x ∷ ms) zero m = refl
get_other (x ∷ ms) (suc i) m = get_other ms i m

get_set : (ms : List Bool) (i : ℕ) (m x : Bool) → slice_get ms i ≡ Some x → slice_get (slice_set ms i m) i ≡ Some m
get_set [] i m x h = cc
get_set (y ∷ ms) zero m x h = refl
get_set (y ∷ ms) (suc i) m x h = get_set ms i m x h

-- each packet has a mark
record HasMark (ms : List Bool) (i : ℕ) : Type 0 where
  mark : Bool
  packet_is : slice_get ms i ≡ Some mark

has_mark : (es : List Entry) (ms : List Bool) (i : ℕ) (e : Entry) → length ms ≡ length es → slice_get es i ≡ Some e → HasMark ms i
has_mark [] ms i e h s = cc
has_mark (y ∷ es) [] i e h s = absurd (omega (arith, h))
has_mark (y ∷ es) (x ∷ ms) zero e h s = record { mark = x; packet_is = refl }
has_mark (y ∷ es) (x ∷ ms) (suc i) e h s = let rest = has_mark es ms i e (omega (arith, h)) s in record { mark = rest.mark; packet_is = rest.packet_is }

no_mark : (es : List Entry) (ms : List Bool) (i : ℕ) → length ms ≡ length es → slice_get es i ≡ None → slice_get ms i ≡ None
no_mark [] [] i h s = refl
no_mark [] (x ∷ ms) i h s = absurd (omega (arith, h))
no_mark (y ∷ es) [] i h s = absurd (omega (arith, h))
no_mark (y ∷ es) (x ∷ ms) zero h s = cc
no_mark (y ∷ es) (x ∷ ms) (suc i) h s = no_mark es ms i (omega (arith, h)) s

-- after a drop the same outcomes are cached, or fewer
kept_less : (id : ℕ) (old new : View) (q : ℕ) (same : Bool) → nat_eq q id ≡ same → IsWithout id old new → Drops (new q) (old q)
kept_less id old new q true e h =
    let gone : new q ≡ None = subst (λ (n : ℕ). new n ≡ None) (sym (eqb-true q id e)) h.dropped in
    subst (λ (o : Option Kept). Drops o (old q)) (sym gone) tt
kept_less id old new q false e h =
    let kept : new q ≡ old q = h.others q (λ same. let is : nat_eq q id ≡ true = rw same (nat_eq_equiv.refl id) in cc) in
    subst (λ (o : Option Kept). Drops o (old q)) (sym kept) (drops_same (old q))

pub kept_without : (left : Option ℕ) (old new : View) → IsViewWithout left old new → (q : ℕ) → Drops (new q) (old q)
kept_without None old new h q = subst (λ (o : Option Kept). Drops o (old q)) (sym (h q)) (drops_same (old q))
kept_without (Some id) old new h q = kept_less id old new q (nat_eq q id) refl h

below_same : (b : Before) → Below b b
below_same unknown = tt
below_same (known state) = refl
below_same failed = refl

-- a packet with its show bit set or cleared
abbrev pub showing_packet : Bool → MarkedPacket → MarkedPacket
showing_packet shown p = record { id = p.id; bytes = with_show_bit shown p.bytes; marked = p.marked }

module _ (tables : TableEntries) where
  -- the outcome cached for a packet fits it, whatever is known before it
  abbrev pub FitsAnywhere : MarkedPacket → View → Type 0
  FitsAnywhere p kept = (before : Before) → Fits tables (entering before p) p.bytes (kept p.id)

  pub none_fits : (p : MarkedPacket) (kept : View) → kept p.id ≡ None → FitsAnywhere p kept
  none_fits p kept none before = subst (λ (o : Option Kept). Fits tables (entering before p) p.bytes o) (sym none) tt

  free_fits : (bytes : List ℕ) (o : Option Kept) → Fits tables unknown bytes o
  free_fits bytes None = tt
  free_fits bytes (Some outcome) = tt

  -- this holds if it fits once and the packet gets a mark
  marked_fits : (bytes : List ℕ) (o : Option Kept) (key m : Bool) (b : Before) → Fits tables (cond key (known None) (cond m unknown b)) bytes o → Fits tables (cond key (known None) unknown) bytes o
  marked_fits bytes o true m b f = f
  marked_fits bytes o false m b f = free_fits bytes o

  record FitsThere (p : MarkedPacket) (kept : View) : Type 0 where
    before : Before
    fits : Fits tables (entering before p) p.bytes (kept p.id)

  fits_there : (b : Before) (ps : List MarkedPacket) (i : ℕ) (p : MarkedPacket) (kept : View) → slice_get ps i ≡ Some p → CoherentFrom tables b ps kept → FitsThere p kept
  fits_there b [] i p kept h f = cc
  fits_there b (x ∷ ps) zero p kept h f =
      let is : x ≡ p = cc in
      record { before = b; fits = subst (λ (y : MarkedPacket). Fits tables (entering b y) y.bytes (kept y.id)) is f.0 }
  fits_there b (x ∷ ps) (suc i) p kept h f = fits_there (leaving tables (entering b x) x.bytes (kept x.id)) ps i p kept h f.1

  -- one more mark
  marked_coherent : (b : Before) (ps : List MarkedPacket) (i : ℕ) (kept : View) → CoherentFrom tables b ps kept → CoherentFrom tables b (mark_set i true ps) kept
  marked_coherent b [] i kept f = tt
  marked_coherent b (p ∷ ps) zero kept f = marked_any tables b b (p ∷ ps) kept f
  marked_coherent b (p ∷ ps) (suc i) kept f = (f.0, marked_coherent (leaving tables (entering b p) p.bytes (kept p.id)) ps i kept f.1)

  -- an inserted packet, and the packet after it marked
  pub inserted_coherent : (b : Before) (ps : List MarkedPacket) (i : ℕ) (p : MarkedPacket) (kept : View) → FitsAnywhere p kept → CoherentFrom tables b ps kept → CoherentFrom tables b (mark_set (suc i) true (insert ps i p)) kept
  inserted_coherent b ps zero p kept h f = (h b, marked_any tables b (leaving tables (entering b p) p.bytes (kept p.id)) ps kept f)
  inserted_coherent b [] (suc i) p kept h f = (h b, tt)
  inserted_coherent b (x ∷ ps) (suc i) p kept h f = (f.0, inserted_coherent (leaving tables (entering b x) x.bytes (kept x.id)) ps i p kept h f.1)

  -- a replaced packet, and the packet after it marked
  pub changed_coherent : (b : Before) (ps : List MarkedPacket) (i : ℕ) (p : MarkedPacket) (kept : View) → FitsAnywhere p kept → CoherentFrom tables b ps kept → CoherentFrom tables b (mark_set (suc i) true (slice_set ps i p)) kept
  changed_coherent b [] i p kept h f = tt
  changed_coherent b (x ∷ ps) zero p kept h f = (h b, marked_any tables (leaving tables (entering b x) x.bytes (kept x.id)) (leaving tables (entering b p) p.bytes (kept p.id)) ps kept f.1)
  changed_coherent b (x ∷ ps) (suc i) p kept h f = (f.0, changed_coherent (leaving tables (entering b x) x.bytes (kept x.id)) ps i p kept h f.1)

  -- a removed packet, and the packet now there marked, before or after
  removed_coherent : (b : Before) (ps : List MarkedPacket) (i : ℕ) (kept : View) → CoherentFrom tables b ps kept → CoherentFrom tables b (mark_set i true (remove ps i)) kept
  removed_coherent b [] zero kept f = tt
  removed_coherent b [] (suc i) kept f = tt
  removed_coherent b (x ∷ ps) zero kept f = marked_any tables (leaving tables (entering b x) x.bytes (kept x.id)) b ps kept f.1
  removed_coherent b (x ∷ ps) (suc i) kept f = (f.0, removed_coherent (leaving tables (entering b x) x.bytes (kept x.id)) ps i kept f.1)

  left_coherent : (b : Before) (ps : List MarkedPacket) (i : ℕ) (kept : View) → CoherentFrom tables b ps kept → CoherentFrom tables b (remove (mark_set (suc i) true ps) i) kept
  left_coherent b [] zero kept f = tt
  left_coherent b [] (suc i) kept f = tt
  left_coherent b (x ∷ ps) zero kept f = marked_any tables (leaving tables (entering b x) x.bytes (kept x.id)) b ps kept f.1
  left_coherent b (x ∷ ps) (suc i) kept f = (f.0, left_coherent (leaving tables (entering b x) x.bytes (kept x.id)) ps i kept f.1)

  pub less_coherent : (left : Option ℕ) (ps : List MarkedPacket) (old new : View) → IsViewWithout left old new → IsCoherent tables ps old → IsCoherent tables ps new
  less_coherent left ps old new h f = weaker tables ps (known None) (known None) new old (below_same (known None)) (kept_without left old new h) f

  insertion_coherent : (store : StoreValue) (kept : View) (duration : Duration) (at stamp : ℕ) (bytes : List ℕ) → IsMarked store → kept store.list.next_id ≡ None
      → IsCoherent tables (marked_packets store) kept → IsCoherent tables (marked_packets (after_insertion duration at stamp bytes store)) kept
  insertion_coherent store kept duration at stamp bytes marked none f =
      let es : List Entry = store.list.entries in
      let ms : List Bool = store.marks in
      let e : Entry = record { id = store.list.next_id; stamp = stamp; duration = duration; bytes = bytes } in
      let long : length (insert ms at false) ≡ length (insert es at e) = inserted_long ms es at false e marked in
      let is : marked_packets_of (insert es at e) (slice_set (insert ms at false) (at + 1) true) ≡ mark_set (suc at) true (insert (marked_packets_of es ms) at (marked_packet e false)) =
      seens_set (insert es at e) (insert ms at false) (at + 1) true long
      ∙ ap (λ (ps : List MarkedPacket). mark_set (at + 1) true ps) (seens_inserted es ms at e false marked)
      ∙ ap (λ (n : ℕ). mark_set n true (insert (marked_packets_of es ms) at (marked_packet e false))) (add-one at) in
      subst (λ (ps : List MarkedPacket). IsCoherent tables ps kept) (sym is)
      (inserted_coherent (known None) (marked_packets_of es ms) at (marked_packet e false) kept (none_fits (marked_packet e false) kept none) f)

  -- appended packets, for which nothing is cached
  pushed_new : (b : Before) (usual : Duration) (id : ℕ) (packets : List Packet) (kept : View) → ((n : ℕ) → id ≤ n → kept n ≡ None) → CoherentFrom tables b (marked_packets_of (numbered usual id packets) (map (λ packet. false) packets)) kept
  pushed_new b usual id [] kept none = tt
  pushed_new b usual id (packet ∷ packets) kept none =
      let e : Entry = record { id = id; stamp = packet.stamp; duration = duration_before usual packet packets; bytes = packet.bytes } in
      let here : kept id ≡ None = none id (omega arith) in
      (none_fits (marked_packet e false) kept here b, pushed_new (leaving tables (entering b (marked_packet e false)) packet.bytes (kept id)) usual (id + 1) packets kept (λ n up. none n (omega (arith, up))))

  pushed_coherent : (b : Before) (es : List Entry) (ms : List Bool) (usual : Duration) (id : ℕ) (packets : List Packet) (kept : View) → length ms ≡ length es → ((n : ℕ) → id ≤ n → kept n ≡ None) → CoherentFrom tables b (marked_packets_of es ms) kept
      → CoherentFrom tables b (marked_packets_of (es ++ numbered usual id packets) (ms ++ map (λ packet. false) packets)) kept
  pushed_coherent b [] [] usual id packets kept marked none f = pushed_new b usual id packets kept none
  pushed_coherent b [] (m ∷ ms) usual id packets kept marked none f = absurd (omega (arith, marked))
  pushed_coherent b (e ∷ es) [] usual id packets kept marked none f = absurd (omega (arith, marked))
  pushed_coherent b (e ∷ es) (m ∷ ms) usual id packets kept marked none f =
      (f.0, pushed_coherent (leaving tables (entering b (marked_packet e m)) e.bytes (kept e.id)) es ms usual id packets kept (omega (arith, marked)) none f.1)

  push_coherent : (store : StoreValue) (kept : View) (packets : List Packet) → IsMarked store → ((id : ℕ) → store.list.next_id ≤ id → kept id ≡ None) → IsCoherent tables (marked_packets store) kept → IsCoherent tables (marked_packets (after_push packets store)) kept
  push_coherent store kept packets marked none f = pushed_coherent (known None) store.list.entries store.marks store.list.usual store.list.next_id packets kept marked none f

  -- a replacement: there is no packet at the index, or there is one
  replacement_case : (es : List Entry) (ms : List Bool) (at id : ℕ) (bytes : List ℕ) (kept : View) (o : Option Entry) → length ms ≡ length es → slice_get es at ≡ o → kept id ≡ None → CoherentFrom tables (known None) (marked_packets_of es ms) kept
      → CoherentFrom tables (known None) (marked_packets_of (option_map_or (λ entry. slice_set es at (record entry { id = id; bytes = bytes })) o es) (slice_set (slice_set ms at false) (at + 1) true)) kept
  replacement_case es ms at id bytes kept (Some y) marked here none f =
      let e : Entry = record y { id = id; bytes = bytes } in
      let long : length (slice_set ms at false) ≡ length (slice_set es at e) = set_long ms at false ∙ marked ∙ sym (set_long es at e) in
      let is : marked_packets_of (slice_set es at e) (slice_set (slice_set ms at false) (at + 1) true) ≡ mark_set (suc at) true (slice_set (marked_packets_of es ms) at (marked_packet e false)) =
      seens_set (slice_set es at e) (slice_set ms at false) (at + 1) true long
      ∙ ap (λ (ps : List MarkedPacket). mark_set (at + 1) true ps) (seens_changed es ms at e false marked)
      ∙ ap (λ (n : ℕ). mark_set n true (slice_set (marked_packets_of es ms) at (marked_packet e false))) (add-one at) in
      subst (λ (ps : List MarkedPacket). CoherentFrom tables (known None) ps kept) (sym is)
      (changed_coherent (known None) (marked_packets_of es ms) at (marked_packet e false) kept (none_fits (marked_packet e false) kept none) f)
  replacement_case es ms at id bytes kept None marked here none f =
      let same : slice_set ms at false ≡ ms = set_nothing ms at false (no_mark es ms at marked here) in
      let is : marked_packets_of es (slice_set (slice_set ms at false) (at + 1) true) ≡ mark_set (at + 1) true (marked_packets_of es ms) =
      ap (λ (ns : List Bool). marked_packets_of es (slice_set ns (at + 1) true)) same ∙ seens_set es ms (at + 1) true marked in
      subst (λ (ps : List MarkedPacket). CoherentFrom tables (known None) ps kept) (sym is) (marked_coherent (known None) (marked_packets_of es ms) (at + 1) kept f)
    where
      set_nothing : (xs : List Bool) (i : ℕ) (m : Bool) → slice_get xs i ≡ None → slice_set xs i m ≡ xs
      set_nothing [] i m h = refl
      set_nothing (x ∷ xs) zero m h = cc
      set_nothing (x ∷ xs) (suc i) m h = ap (λ (ns : List Bool). x ∷ ns) (set_nothing xs i m h)

  replacement_coherent : (store : StoreValue) (old new : View) (at : ℕ) (bytes : List ℕ) → IsMarked store → old store.list.next_id ≡ None → IsViewWithout (id_at store.list.entries at) old new
      → IsCoherent tables (marked_packets store) old → IsCoherent tables (marked_packets (after_replacement at bytes store)) new
  replacement_coherent store old new at bytes marked none without f =
      let none' : new store.list.next_id ≡ None = still_none (new store.list.next_id) (subst (λ (o : Option Kept). Drops (new store.list.next_id) o) none (kept_without (id_at store.list.entries at) old new without store.list.next_id)) in
      replacement_case store.list.entries store.marks at store.list.next_id bytes new (slice_get store.list.entries at) marked refl none'
      (less_coherent (id_at store.list.entries at) (marked_packets store) old new without f)
    where
      still_none : (o : Option Kept) → Drops o None → o ≡ None
      still_none None d = refl
      still_none (Some outcome) d = cc

  deletion_coherent : (store : StoreValue) (old new : View) (at : ℕ) → IsMarked store → IsViewWithout (id_at store.list.entries at) old new
      → IsCoherent tables (marked_packets store) old → IsCoherent tables (marked_packets (after_deletion at store)) new
  deletion_coherent store old new at marked without f =
      let es : List Entry = store.list.entries in
      let ms : List Bool = store.marks in
      let is : marked_packets_of (remove es at) (slice_set (remove ms at) at true) ≡ mark_set at true (remove (marked_packets_of es ms) at) =
      seens_set (remove es at) (remove ms at) at true (removed_long ms es at marked) ∙ ap (λ (ps : List MarkedPacket). mark_set at true ps) (seens_removed es ms at marked) in
      subst (λ (ps : List MarkedPacket). IsCoherent tables ps new) (sym is)
      (removed_coherent (known None) (marked_packets_of es ms) at new (less_coherent (id_at es at) (marked_packets store) old new without f))

  -- a move: there is no packet at the index, or there is one
  move_case : (es : List Entry) (ms ns : List Bool) (from to : ℕ) (kept : View) (o : Option Entry) → length ms ≡ length es → ns ≡ slice_set (slice_set ms from true) (from + 1) true → slice_get es from ≡ o → CoherentFrom tables (known None) (marked_packets_of es ms) kept
      → CoherentFrom tables (known None) (marked_packets_of (option_map_or (λ e. insert (remove es from) to e) o es) (slice_set (moved from to ns) (to + 1) true)) kept
  move_case es ms ns from to kept None marked is_ns here f =
      let long : length ns ≡ length es = ap length is_ns ∙ set_long (slice_set ms from true) (from + 1) true ∙ set_long ms from true ∙ marked in
      let stay : moved from to ns ≡ ns = ap (λ (o : Option Bool). option_map_or (λ m. insert (remove ns from) to m) o ns) (no_mark es ns from long here) in
      let once : marked_packets_of es (slice_set ms from true) ≡ mark_set from true (marked_packets_of es ms) = seens_set es ms from true marked in
      let twice : marked_packets_of es ns ≡ mark_set (from + 1) true (mark_set from true (marked_packets_of es ms)) =
      ap (λ (ks : List Bool). marked_packets_of es ks) is_ns ∙ seens_set es (slice_set ms from true) (from + 1) true (set_long ms from true ∙ marked) ∙ ap (λ (ps : List MarkedPacket). mark_set (from + 1) true ps) once in
      let is : marked_packets_of es (slice_set (moved from to ns) (to + 1) true) ≡ mark_set (to + 1) true (mark_set (from + 1) true (mark_set from true (marked_packets_of es ms))) =
      ap (λ (ks : List Bool). marked_packets_of es (slice_set ks (to + 1) true)) stay ∙ seens_set es ns (to + 1) true long ∙ ap (λ (ps : List MarkedPacket). mark_set (to + 1) true ps) twice in
      subst (λ (ps : List MarkedPacket). CoherentFrom tables (known None) ps kept) (sym is)
      (marked_coherent (known None) (mark_set (from + 1) true (mark_set from true (marked_packets_of es ms))) (to + 1) kept
      (marked_coherent (known None) (mark_set from true (marked_packets_of es ms)) (from + 1) kept (marked_coherent (known None) (marked_packets_of es ms) from kept f)))
  move_case es ms ns from to kept (Some e) marked is_ns here f =
      let long : length ns ≡ length es = ap length is_ns ∙ set_long (slice_set ms from true) (from + 1) true ∙ set_long ms from true ∙ marked in
      let m = has_mark es ms from e marked here in
      let first : slice_get (slice_set ms from true) from ≡ Some true = get_set ms from true m.mark m.packet_is in
      let mark : slice_get ns from ≡ Some true =
      ap (λ (ks : List Bool). slice_get ks from) is_ns ∙ ap (λ (n : ℕ). slice_get (slice_set (slice_set ms from true) n true) from) (add-one from) ∙ get_other (slice_set ms from true) from true ∙ first in
      let goes : moved from to ns ≡ insert (remove ns from) to true = ap (λ (o : Option Bool). option_map_or (λ k. insert (remove ns from) to k) o ns) mark in
      let once : marked_packets_of es (slice_set ms from true) ≡ mark_set from true (marked_packets_of es ms) = seens_set es ms from true marked in
      let twice : marked_packets_of es ns ≡ mark_set (suc from) true (mark_set from true (marked_packets_of es ms)) =
      ap (λ (ks : List Bool). marked_packets_of es ks) is_ns ∙ seens_set es (slice_set ms from true) (from + 1) true (set_long ms from true ∙ marked) ∙ ap (λ (ps : List MarkedPacket). mark_set (from + 1) true ps) once
      ∙ ap (λ (n : ℕ). mark_set n true (mark_set from true (marked_packets_of es ms))) (add-one from) in
      let shorter : length (remove ns from) ≡ length (remove es from) = removed_long ns es from long in
      let left : List MarkedPacket = remove (mark_set (suc from) true (mark_set from true (marked_packets_of es ms))) from in
      let is : marked_packets_of (insert (remove es from) to e) (slice_set (moved from to ns) (to + 1) true) ≡ mark_set (suc to) true (insert left to (marked_packet e true)) =
      ap (λ (ks : List Bool). marked_packets_of (insert (remove es from) to e) (slice_set ks (to + 1) true)) goes
      ∙ seens_set (insert (remove es from) to e) (insert (remove ns from) to true) (to + 1) true (inserted_long (remove ns from) (remove es from) to true e shorter)
      ∙ ap (λ (ps : List MarkedPacket). mark_set (to + 1) true ps) (seens_inserted (remove es from) (remove ns from) to e true shorter)
      ∙ ap (λ (ps : List MarkedPacket). mark_set (to + 1) true (insert ps to (marked_packet e true))) (seens_removed es ns from long ∙ ap (λ (ps : List MarkedPacket). remove ps from) twice)
      ∙ ap (λ (n : ℕ). mark_set n true (insert left to (marked_packet e true))) (add-one to) in
      let there = fits_there (known None) (marked_packets_of es ms) from (marked_packet e m.mark) kept (get_seen es ms from e m.mark here m.packet_is) f in
      let fits : FitsAnywhere (marked_packet e true) kept = λ before. marked_fits e.bytes (kept e.id) (has_key_tag e.bytes) m.mark there.before there.fits in
      subst (λ (ps : List MarkedPacket). CoherentFrom tables (known None) ps kept) (sym is)
      (inserted_coherent (known None) left to (marked_packet e true) kept fits
      (left_coherent (known None) (mark_set from true (marked_packets_of es ms)) from kept (marked_coherent (known None) (marked_packets_of es ms) from kept f)))

  move_coherent : (store : StoreValue) (kept : View) (from to : ℕ) → IsMarked store → IsCoherent tables (marked_packets store) kept → IsCoherent tables (marked_packets (after_move from to store)) kept
  move_coherent store kept from to marked f =
      move_case store.list.entries store.marks (slice_set (slice_set store.marks from true) (from + 1) true) from to kept (slice_get store.list.entries from) marked refl refl f

  -- a packet whose show bit is set or cleared: its step is the same
  module _ (bits : OnlyTheBitChanges) (steps : ShowBitKeepsSteps) where
    stepped_same : (b : Before) (shown : Bool) (bytes : List ℕ) → stepped tables b (with_show_bit shown bytes) ≡ stepped tables b bytes
    stepped_same unknown shown bytes = refl
    stepped_same (known state) shown bytes = ap left_known (steps tables state shown bytes)
    stepped_same failed shown bytes = refl

    pub leaving_same : (b : Before) (shown : Bool) (bytes : List ℕ) (o : Option Kept) → leaving tables b (with_show_bit shown bytes) o ≡ leaving tables b bytes o
    leaving_same b shown bytes None = stepped_same b shown bytes
    leaving_same b shown bytes (Some outcome) = refl

    follows_same : (b : Before) (shown : Bool) (bytes : List ℕ) (outcome : Kept) → Follows tables b bytes outcome → Follows tables b (with_show_bit shown bytes) outcome
    follows_same unknown shown bytes outcome f = tt
    follows_same (known state) shown bytes outcome f = steps tables state shown bytes ∙ f
    follows_same failed shown bytes outcome f = f

    fits_same : (b : Before) (shown : Bool) (bytes : List ℕ) (o : Option Kept) → Fits tables b bytes o → Fits tables b (with_show_bit shown bytes) o
    fits_same b shown bytes None f = tt
    fits_same b shown bytes (Some outcome) f = follows_same b shown bytes outcome f

    first_showing : (b : Before) (p : MarkedPacket) (ps : List MarkedPacket) (shown : Bool) (kept : View) → CoherentFrom tables b (p ∷ ps) kept → CoherentFrom tables b (showing_packet shown p ∷ ps) kept
    first_showing b p ps shown kept f =
        let bytes : List ℕ = with_show_bit shown p.bytes in
        let enters : entering b p ≡ entering b (showing_packet shown p) = ap (λ (k : Bool). cond k (known None) (cond p.marked unknown b)) (sym (bits shown p.bytes).key_tag) in
        let leaves : leaving tables (entering b p) p.bytes (kept p.id) ≡ leaving tables (entering b p) bytes (kept p.id) = sym (leaving_same (entering b p) shown p.bytes (kept p.id)) in
        let P : Before → Type 0 = λ w. Fits tables w bytes (kept p.id) × CoherentFrom tables (leaving tables w bytes (kept p.id)) ps kept in
        let there : P (entering b p) = (fits_same (entering b p) shown p.bytes (kept p.id) f.0, subst (λ (w : Before). CoherentFrom tables w ps kept) leaves f.1) in
        subst P enters there

    pub showing_coherent : (b : Before) (es : List Entry) (ms : List Bool) (at : ℕ) (shown : Bool) (entry : Entry) (kept : View) → slice_get es at ≡ Some entry → CoherentFrom tables b (marked_packets_of es ms) kept
        → CoherentFrom tables b (marked_packets_of (slice_set es at (showing shown entry)) ms) kept
    showing_coherent b [] ms at shown entry kept here f = cc
    showing_coherent b (e ∷ es) [] zero shown entry kept here f =
        let is : e ≡ entry = cc in
        subst (λ (x : Entry). CoherentFrom tables b (marked_packet (showing shown x) false ∷ marked_packets_of es []) kept) is (first_showing b (marked_packet e false) (marked_packets_of es []) shown kept f)
    showing_coherent b (e ∷ es) (m ∷ ms) zero shown entry kept here f =
        let is : e ≡ entry = cc in
        subst (λ (x : Entry). CoherentFrom tables b (marked_packet (showing shown x) m ∷ marked_packets_of es ms) kept) is (first_showing b (marked_packet e m) (marked_packets_of es ms) shown kept f)
    showing_coherent b (e ∷ es) [] (suc at) shown entry kept here f =
        (f.0, showing_coherent (leaving tables (entering b (marked_packet e false)) e.bytes (kept e.id)) es [] at shown entry kept here f.1)
    showing_coherent b (e ∷ es) (m ∷ ms) (suc at) shown entry kept here f =
        (f.0, showing_coherent (leaving tables (entering b (marked_packet e m)) e.bytes (kept e.id)) es ms at shown entry kept here f.1)

    show_bit_coherent : (store : StoreValue) (kept : View) (at : ℕ) (shown : Bool) → IsCoherent tables (marked_packets store) kept → IsCoherent tables (marked_packets (after_show_bit at shown store)) kept
    show_bit_coherent store kept at shown f = by_packet (slice_get store.list.entries at) refl
      where
        by_packet : (o : Option Entry) → slice_get store.list.entries at ≡ o → CoherentFrom tables (known None) (marked_packets_of (option_map_or (λ entry. slice_set store.list.entries at (showing shown entry)) o store.list.entries) store.marks) kept
        by_packet None here = f
        by_packet (Some entry) here = showing_coherent (known None) store.list.entries store.marks at shown entry kept here f

    pub coherence_kept : EditsKeepCoherence tables
    coherence_kept = record { pushes = push_coherent; insertions = insertion_coherent; replacements = replacement_coherent; deletions = deletion_coherent; moves = move_coherent; show_bits = show_bit_coherent }
