-- One step keeps the view coherent; the answers of reaching an index.
use Rattle.std.proofs.Common.{◌≡◌, ℕ, suc, ◌+◌, ◌-◌, ◌<◌, ◌≤◌, Bool, true, false, not, ◌&&◌, List, [], ◌∷◌, Option, Some, None, option_and_then, Result, Ok, Err, length, slice_get, refl, sym, ap, subst, ◌∙◌, arith}
use Rattle.std.proofs.lemmas.List.{length-map}
use Rattle.std.specs.Prelude.{IfErr}
use Rattle.vp8_tables.specs.Tables.{TableEntries}
use Rattle.packet_edits.specs.declared.entry.Entry.{Entry}
use Rattle.packet_edits.specs.Edits.{Listing}
use Rattle.packet_edits.specs.Laws.{HaveOwnIds}
use Rattle.packet_edits.specs.Shown.{stream_of}
use Rattle.reference_frames.specs.Steps.{step_of}
use Rattle.stream_steps.specs.declared.broken.Broken.{Broken}
use Rattle.state_cache.specs.declared.outcomes.Kept.{Kept}
use Rattle.state_cache.specs.declared.outcomes.ReachFault.{ReachFault}
use Rattle.state_cache.specs.declared.outcomes.ReachFault.TheVariants.{Refused, NoMemory, TooManyShares}
use Rattle.stream_steps.specs.Decoding.{outcomes}
use Rattle.state_cache.specs.Faults.{is_share_fault}
use Rattle.state_cache.specs.Reaching.{Begins, IsNext, Converged, Reaches, passed_marks, state_from}
use Rattle.state_cache.specs.ProofsOnly.{CachedAnswers, IterationAnswers, Reports}
use Rattle.state_cache.specs.Views.{Drops, IsCoherent, MarkedPacket, View, cached_at, is_cut, is_usable, key_at, marked_packets_of, step_result, with_cached, mark_at}
use Rattle.stream_steps.proofs.Decoded.{outcome_present}
use Rattle.state_cache.proofs.Marked.{bytes_seens, own_seens}
use Rattle.state_cache.proofs.Shows.{shows}
use Rattle.state_cache.proofs.Trust.{trust}
use Rattle.state_cache.proofs.Steps.{both_true, key_here, missing_here, passed_at, seens_passed, stands_before, step_kept, usable_after, usable_kept}
use Rattle.state_cache.proofs.Truth.{bytes_of, kept_true, refused_true, stays_broken}

pub length_seens : (es : List Entry) (ms : List Bool) → length (marked_packets_of es ms) ≡ length es
length_seens [] ms = refl
length_seens (e ∷ es) [] = ap suc (length_seens es [])
length_seens (e ∷ es) (m ∷ ms) = ap suc (length_seens es ms)

mark_seen : (xs : List MarkedPacket) (i : ℕ) (p : MarkedPacket) → slice_get xs i ≡ Some p → mark_at xs i ≡ p.marked
mark_seen xs i p h = rw h refl

pub cut_seen : (xs : List MarkedPacket) (i : ℕ) (p : MarkedPacket) → slice_get xs i ≡ Some p → (mark_at xs i && not (key_at xs i)) ≡ is_cut p
cut_seen xs i p h = ap (λ (m : Bool). m && not (key_at xs i)) (mark_seen xs i p h) ∙ ap (λ (k : Bool). p.marked && not k) (key_here xs i p h)

module _ (tables : TableEntries) (es : List Entry) (ms : List Bool) (kept kept' : View) (i id : ℕ) (cut converged : Bool) (p : MarkedPacket) (new : Kept) (h : slice_get (marked_packets_of es ms) i ≡ Some p) (many : length ms ≡ length es) (begins : Begins (marked_packets_of es ms) kept i)
    (cut_is : cut ≡ (mark_at (marked_packets_of es ms) i && not (key_at (marked_packets_of es ms) i))) (id_is : id ≡ p.id) where
  -- after a step the view is coherent
  pub turn_coherent : (next : ℕ) → HaveOwnIds next es → IsCoherent tables (marked_packets_of es ms) kept → is_usable (marked_packets_of es ms) kept i ≡ false → step_of tables (state_from (marked_packets_of es ms) kept i) p.bytes ≡ Ok (step_result new) → Converged converged (kept id) new
      → ((q : ℕ) → Drops (kept' q) (with_cached kept id new q)) → IsCoherent tables (marked_packets_of es (passed_marks cut converged i ms)) kept'
  turn_coherent next own coherent missing stepped met_is drops =
      let xs : List MarkedPacket = marked_packets_of es ms in
      let met_there : Converged converged (kept p.id) new = subst (λ (n : ℕ). Converged converged (kept n) new) id_is met_is in
      let drops_there : (q : ℕ) → Drops (kept' q) (with_cached kept p.id new q) = subst (λ (n : ℕ). (q : ℕ) → Drops (kept' q) (with_cached kept n new q)) id_is drops in
      subst (λ (zs : List MarkedPacket). IsCoherent tables zs kept') (sym (seens_passed es ms cut converged i many))
      (subst (λ (b : Bool). IsCoherent tables (passed_at b converged i xs) kept') (sym (cut_is ∙ cut_seen xs i p h))
      (step_kept tables xs i p kept kept' (state_from xs kept i) new converged h (own_seens next es ms own) coherent (stands_before tables xs kept i p h begins) stepped met_there (missing_here tables xs kept i p h begins missing) drops_there))

  -- and its index is usable
  pub turn_usable : kept' id ≡ Some new → is_usable (marked_packets_of es (passed_marks cut converged i ms)) kept' i ≡ true
  turn_usable kept_is =
      let xs : List MarkedPacket = marked_packets_of es ms in
      subst (λ (zs : List MarkedPacket). is_usable zs kept' i ≡ true) (sym (seens_passed es ms cut converged i many))
      (subst (λ (b : Bool). is_usable (passed_at b converged i xs) kept' i ≡ true) (sym (cut_is ∙ cut_seen xs i p h))
      (usable_after tables xs i p kept kept' new converged h begins (ap kept' (sym id_is) ∙ kept_is)))

-- a usable index is cached
usable_cached : (xs : List MarkedPacket) (kept : View) (i : ℕ) → is_usable xs kept i ≡ true → cached_at xs kept i ≡ true
usable_cached xs kept i usable = (both_true (cached_at xs kept i) (trust xs (i + 1)) usable).0

module _ (tables : TableEntries) (list : Listing) (ms : List Bool) (kept : View) (coherent : IsCoherent tables (marked_packets_of list.entries ms) kept) where
  -- a refused step
  pub turn_told : (i : ℕ) (p : MarkedPacket) (broken : Broken) → slice_get (marked_packets_of list.entries ms) i ≡ Some p → Begins (marked_packets_of list.entries ms) kept i → step_of tables (state_from (marked_packets_of list.entries ms) kept i) p.bytes ≡ Err broken.cause → broken.place ≡ i → Reports tables list i (Refused broken)
  turn_told i p broken h begins stepped place =
      let xs : List MarkedPacket = marked_packets_of list.entries ms in
      let there = refused_true tables xs kept coherent i p broken.cause h begins stepped in
      let named : slice_get (outcomes tables (stream_of list)) i ≡ Some (Err (record { place = i; cause = broken.cause })) = subst (λ bs. slice_get (outcomes tables bs) i ≡ Some (Err (record { place = i; cause = broken.cause }))) (bytes_seens list.entries ms) there in
      subst (λ (n : ℕ). slice_get (outcomes tables (stream_of list)) i ≡ Some (Err (record { place = n; cause = broken.cause }))) (sym place) named

  pub turn_fault : (i : ℕ) (fault : ReachFault) → Begins (marked_packets_of list.entries ms) kept i → IterationAnswers tables (marked_packets_of list.entries ms) kept i (Err fault) → Reports tables list i fault
  turn_fault i (Refused broken) begins g = turn_told i g.0 broken g.1 begins g.2.0 g.2.1
  turn_fault i NoMemory begins g = tt
  turn_fault i TooManyShares begins g = absurd g.2

  -- the outcome cached at a usable index is the answer
  pub reaches_kept : (i : ℕ) (k : Kept) → i < length list.entries → is_usable (marked_packets_of list.entries ms) kept i ≡ true → option_and_then (λ (packet : MarkedPacket). kept packet.id) (slice_get (marked_packets_of list.entries ms) i) ≡ Some k → Reaches tables list i (Ok k)
  reaches_kept i k within usable kept_is =
      let xs : List MarkedPacket = marked_packets_of list.entries ms in
      let s = shows list.entries ms i within in
      let there : kept s.packet.id ≡ Some k = ap (λ (o : Option MarkedPacket). option_and_then (λ (packet : MarkedPacket). kept packet.id) o) (sym s.is) ∙ kept_is in
      (Ok (step_result k), subst (λ bs. slice_get (outcomes tables bs) i ≡ Some (Ok (step_result k))) (bytes_seens list.entries ms) (kept_true tables xs kept coherent i s.packet k s.is there usable), refl)

  -- nor is more claimed if it could not be shared than that it is good
  pub reaches_unshared : (i : ℕ) → i < length list.entries → is_usable (marked_packets_of list.entries ms) kept i ≡ true → Reaches tables list i (Err TooManyShares)
  reaches_unshared i within usable =
      let there = usable_kept (marked_packets_of list.entries ms) kept i usable in
      let r = reaches_kept i there.outcome within usable (ap (λ (o : Option MarkedPacket). option_and_then (λ (packet : MarkedPacket). kept packet.id) o) there.packet_is ∙ there.is_cached) in
      (r.0, r.1, (there.outcome, r.2))

  -- the stream stays broken up to the requested index
  pub reaches_refused : (i m : ℕ) (broken : Broken) → i < length list.entries → m ≤ i → IsNext (marked_packets_of list.entries ms) kept i m → Reports tables list m (Refused broken) → Reaches tables list i (Err (Refused broken))
  reaches_refused i m broken within low next told_there =
      let xs : List MarkedPacket = marked_packets_of list.entries ms in
      let many : length xs ≡ length list.entries = length_seens list.entries ms in
      let at_m = subst (λ bs. slice_get (outcomes tables bs) m ≡ Some (Err broken)) (sym (bytes_seens list.entries ms)) told_there in
      let up : m + (i - m) ≡ i = omega (arith, low) in
      let there = stays_broken tables xs kept coherent m broken at_m (i - m) (λ q a b. next.no_key q a (omega (arith, b, up))) (omega (arith, up, many, within)) in
      let here = subst (λ (n : ℕ). slice_get (outcomes tables (bytes_of xs)) n ≡ Some (Err broken)) up there in
      (Err broken, subst (λ bs. slice_get (outcomes tables bs) i ≡ Some (Err broken)) (bytes_seens list.entries ms) here, refl)

-- nothing is claimed if memory was refused
pub reaches_nothing : (tables : TableEntries) (list : Listing) (i : ℕ) → i < length list.entries → Reaches tables list i (Err NoMemory)
reaches_nothing tables list i within =
    let long : length (stream_of list) ≡ length list.entries = length-map list.entries (λ (e : Entry). e.bytes) in
    let some = outcome_present tables 0 (Ok None) (stream_of list) i (omega (arith, long, within)) in
    (some.0, some.1, tt)

pub reaches_fault : (tables : TableEntries) (list : Listing) (ms : List Bool) (kept : View) (coherent : IsCoherent tables (marked_packets_of list.entries ms) kept) (i m : ℕ) (fault : ReachFault) → i < length list.entries → m ≤ i → IsNext (marked_packets_of list.entries ms) kept i m → Reports tables list m fault → Reaches tables list i (Err fault)
reaches_fault tables list ms kept coherent i m (Refused broken) within low next told_there = reaches_refused tables list ms kept coherent i m broken within low next told_there
reaches_fault tables list ms kept coherent i m NoMemory within low next told_there = reaches_nothing tables list i within
reaches_fault tables list ms kept coherent i m TooManyShares within low next told_there = absurd told_there

-- a step that reports a fault did not reach the index
pub not_reached : (tables : TableEntries) (list : Listing) (xs : List MarkedPacket) (kept : View) (i m : ℕ) (fault : ReachFault) → m ≤ i → IsNext xs kept i m → Reports tables list m fault → is_usable xs kept i ≡ is_share_fault fault
not_reached tables list xs kept i m (Refused broken) low next told_there = next.greatest i low (omega arith)
not_reached tables list xs kept i m NoMemory low next told_there = next.greatest i low (omega arith)
not_reached tables list xs kept i m TooManyShares low next told_there = absurd told_there

-- a fault at a usable index is that of a share
pub answer_fault : (xs : List MarkedPacket) (kept : View) (i : ℕ) (result : Result Kept ReachFault) → is_usable xs kept i ≡ true → CachedAnswers xs kept i result → IfErr result (λ (fault : ReachFault). is_usable xs kept i ≡ is_share_fault fault)
answer_fault xs kept i (Ok outcome) usable answered = tt
answer_fault xs kept i (Err (Refused broken)) usable answered = absurd answered
answer_fault xs kept i (Err NoMemory) usable answered = let cached : cached_at xs kept i ≡ true = usable_cached xs kept i usable in cc
answer_fault xs kept i (Err TooManyShares) usable answered = usable

pub reaches_answer : (tables : TableEntries) (list : Listing) (ms : List Bool) (kept : View) (coherent : IsCoherent tables (marked_packets_of list.entries ms) kept) (i : ℕ) (result : Result Kept ReachFault) → i < length list.entries → is_usable (marked_packets_of list.entries ms) kept i ≡ true → CachedAnswers (marked_packets_of list.entries ms) kept i result → Reaches tables list i result
reaches_answer tables list ms kept coherent i (Ok k) within usable answered = reaches_kept tables list ms kept coherent i k within usable answered
reaches_answer tables list ms kept coherent i (Err (Refused broken)) within usable answered = absurd answered
reaches_answer tables list ms kept coherent i (Err NoMemory) within usable answered = reaches_nothing tables list i within
reaches_answer tables list ms kept coherent i (Err TooManyShares) within usable answered = reaches_unshared tables list ms kept coherent i within usable

-- no usable index follows the one to step
pub beyond : (xs : List MarkedPacket) (kept : View) (i n u : ℕ) → IsNext xs kept i n → u ≤ i → is_usable xs kept u ≡ true → u + 1 ≤ n
beyond xs kept i n u next low usable =
    let not_before : n ≤ u → ⊥ = λ a. let none : is_usable xs kept u ≡ false = next.greatest u a low in cc in
    omega (arith, not_before)
