-- Each index after a cached step.
use Rattle.std.proofs.Common.{◌≡◌, ℕ, zero, suc, ◌+◌, ◌<◌, Bool, true, false, cond, ◌||◌, List, [], ◌∷◌, Option, Some, None, is_some, length, slice_get, option_and_then, nat_eq, refl, sym, ap, ◌∙◌, arith, add-one}
use Rattle.std.proofs.lemmas.Bool.{eqb-true}
use Rattle.std.specs.Option.{option_map_or}
use Rattle.vp8_tables.specs.Tables.{TableEntries}
use Rattle.state_cache.specs.declared.outcomes.Kept.{Kept}
use Rattle.state_cache.specs.Costs.{IsCachedAsDecoded, cut_at}
use Rattle.stream_steps.specs.Decoding.{outcomes}
use Rattle.state_cache.specs.Views.{Drops, MarkedPacket, View, cached_at, key_at, with_cached, mark_at, outcome_at}
use Rattle.state_cache.proofs.Marked.{IsOwn, apart_get, mark_set}
use Rattle.state_cache.proofs.Settled.{Leaves}
use Rattle.state_cache.proofs.Steps.{passed_at}
use Rattle.state_cache.proofs.Truth.{bytes_of}

-- setting a mark changes no packet
key_set : (xs : List MarkedPacket) (i p : ℕ) (b : Bool) → key_at (mark_set i b xs) p ≡ key_at xs p
key_set [] i p b = refl
key_set (x ∷ xs) zero zero b = refl
key_set (x ∷ xs) zero (suc p) b = refl
key_set (x ∷ xs) (suc i) zero b = refl
key_set (x ∷ xs) (suc i) (suc p) b = key_set xs i p b

kept_set : (xs : List MarkedPacket) (i p : ℕ) (b : Bool) (kept : View) → cached_at (mark_set i b xs) kept p ≡ cached_at xs kept p
kept_set [] i p b kept = refl
kept_set (x ∷ xs) zero zero b kept = refl
kept_set (x ∷ xs) zero (suc p) b kept = refl
kept_set (x ∷ xs) (suc i) zero b kept = refl
kept_set (x ∷ xs) (suc i) (suc p) b kept = kept_set xs i p b kept

outcome_set : (xs : List MarkedPacket) (i p : ℕ) (b : Bool) (kept : View) → outcome_at (mark_set i b xs) kept p ≡ outcome_at xs kept p
outcome_set [] i p b kept = refl
outcome_set (x ∷ xs) zero zero b kept = refl
outcome_set (x ∷ xs) zero (suc p) b kept = refl
outcome_set (x ∷ xs) (suc i) zero b kept = refl
outcome_set (x ∷ xs) (suc i) (suc p) b kept = outcome_set xs i p b kept

bytes_set : (xs : List MarkedPacket) (i : ℕ) (b : Bool) → bytes_of (mark_set i b xs) ≡ bytes_of xs
bytes_set [] i b = refl
bytes_set (x ∷ xs) zero b = refl
bytes_set (x ∷ xs) (suc i) b = ap (λ (bs : List (List ℕ)). x.bytes ∷ bs) (bytes_set xs i b)

length_set : (xs : List MarkedPacket) (i : ℕ) (b : Bool) → length (mark_set i b xs) ≡ length xs
length_set [] i b = refl
length_set (x ∷ xs) zero b = refl
length_set (x ∷ xs) (suc i) b = ap suc (length_set xs i b)

-- it changes no other mark
mark_other : (xs : List MarkedPacket) (i p : ℕ) (b : Bool) → (p ≡ i → ⊥) → mark_at (mark_set i b xs) p ≡ mark_at xs p
mark_other [] i p b other = refl
mark_other (x ∷ xs) zero zero b other = absurd (other refl)
mark_other (x ∷ xs) zero (suc p) b other = refl
mark_other (x ∷ xs) (suc i) zero b other = refl
mark_other (x ∷ xs) (suc i) (suc p) b other = mark_other xs i p b (λ e. other (ap suc e))

mark_same : (xs : List MarkedPacket) (i : ℕ) (b : Bool) → i < length xs → mark_at (mark_set i b xs) i ≡ b
mark_same [] i b h = absurd (omega (arith, h))
mark_same (x ∷ xs) zero b h = refl
mark_same (x ∷ xs) (suc i) b h = mark_same xs i b (omega (arith, h))

module _ (xs : List MarkedPacket) (m : ℕ) where
  pub key_passed : (cut converged : Bool) (p : ℕ) → key_at (passed_at cut converged m xs) p ≡ key_at xs p
  key_passed false converged p = refl
  key_passed true true p = key_set xs m p false
  key_passed true false p = key_set (mark_set m false xs) (suc m) p true ∙ key_set xs m p false

  pub kept_passed : (cut converged : Bool) (p : ℕ) (kept : View) → cached_at (passed_at cut converged m xs) kept p ≡ cached_at xs kept p
  kept_passed false converged p kept = refl
  kept_passed true true p kept = kept_set xs m p false kept
  kept_passed true false p kept = kept_set (mark_set m false xs) (suc m) p true kept ∙ kept_set xs m p false kept

  pub outcome_passed : (cut converged : Bool) (p : ℕ) (kept : View) → outcome_at (passed_at cut converged m xs) kept p ≡ outcome_at xs kept p
  outcome_passed false converged p kept = refl
  outcome_passed true true p kept = outcome_set xs m p false kept
  outcome_passed true false p kept = outcome_set (mark_set m false xs) (suc m) p true kept ∙ outcome_set xs m p false kept

  pub bytes_passed : (cut converged : Bool) → bytes_of (passed_at cut converged m xs) ≡ bytes_of xs
  bytes_passed false converged = refl
  bytes_passed true true = bytes_set xs m false
  bytes_passed true false = bytes_set (mark_set m false xs) (suc m) true ∙ bytes_set xs m false

  pub length_passed_at : (cut converged : Bool) → length (passed_at cut converged m xs) ≡ length xs
  length_passed_at false converged = refl
  length_passed_at true true = length_set xs m false
  length_passed_at true false = length_set (mark_set m false xs) (suc m) true ∙ length_set xs m false

  -- marks change only at the index of the step and at the next one
  pub mark_joined : (p : ℕ) → (p ≡ m → ⊥) → mark_at (passed_at true true m xs) p ≡ mark_at xs p
  mark_joined p other = mark_other xs m p false other

  mark_passed : (p : ℕ) → (p ≡ m → ⊥) → (p ≡ m + 1 → ⊥) → mark_at (passed_at true false m xs) p ≡ mark_at xs p
  mark_passed p other next = mark_other (mark_set m false xs) (suc m) p true (λ e. next (e ∙ sym (add-one m))) ∙ mark_other xs m p false other

  pub mark_behind : m + 1 < length xs → mark_at (passed_at true false m xs) (m + 1) ≡ true
  mark_behind h =
      ap (λ (n : ℕ). mark_at (passed_at true false m xs) n) (add-one m)
      ∙ mark_same (mark_set m false xs) (suc m) true (let l = length_set xs m false in omega (arith, l, h))

  mark_far : (cut converged : Bool) (p : ℕ) → (p ≡ m → ⊥) → (p ≡ m + 1 → ⊥) → mark_at (passed_at cut converged m xs) p ≡ mark_at xs p
  mark_far false converged p other next = refl
  mark_far true true p other next = mark_joined p other
  mark_far true false p other next = mark_passed p other next

  cut_by : (cut converged : Bool) (p : ℕ) → mark_at (passed_at cut converged m xs) p ≡ mark_at xs p → cut_at (passed_at cut converged m xs) p ≡ cut_at xs p
  cut_by cut converged p e =
      ap (λ (k : Bool). nat_eq p 0 || (k || mark_at (passed_at cut converged m xs) p)) (key_passed cut converged p)
      ∙ ap (λ (k : Bool). nat_eq p 0 || (key_at xs p || k)) e

  pub cut_far : (cut converged : Bool) (p : ℕ) → (p ≡ m → ⊥) → (p ≡ m + 1 → ⊥) → cut_at (passed_at cut converged m xs) p ≡ cut_at xs p
  cut_far cut converged p other next = cut_by cut converged p (mark_far cut converged p other next)

  pub cut_joined : (p : ℕ) → (p ≡ m → ⊥) → cut_at (passed_at true true m xs) p ≡ cut_at xs p
  cut_joined p other = cut_by true true p (mark_joined p other)

-- packets at two indexes have two ids
ids_apart : (xs : List MarkedPacket) (p m : ℕ) (x y : MarkedPacket) → IsOwn xs → slice_get xs p ≡ Some x → slice_get xs m ≡ Some y → (p ≡ m → ⊥) → (x.id ≡ y.id → ⊥)
ids_apart [] p m x y own h k other = cc
ids_apart (z ∷ zs) zero zero x y own h k other = absurd (other refl)
ids_apart (z ∷ zs) zero (suc m) x y own h k other =
    let is : z ≡ x = cc in
    λ same. apart_get z.id zs m y own.0 k (ap (λ (s : MarkedPacket). s.id) is ∙ same)
ids_apart (z ∷ zs) (suc p) zero x y own h k other =
    let is : z ≡ y = cc in
    λ same. apart_get z.id zs p x own.0 h (ap (λ (s : MarkedPacket). s.id) is ∙ sym same)
ids_apart (z ∷ zs) (suc p) (suc m) x y own h k other = ids_apart zs p m x y own.1 h k (λ e. other (ap suc e))

pub other_outcome : (kept : View) (id q : ℕ) (new : Kept) (b : Bool) → nat_eq q id ≡ b → (q ≡ id → ⊥) → cond b (Some new) (kept q) ≡ kept q
other_outcome kept id q new true e h = absurd (h (eqb-true q id e))
other_outcome kept id q new false e h = refl

kept_drops : (o want was : Option Kept) → Drops o want → want ≡ was → is_some o ≡ true → is_some was ≡ true
kept_drops None want was d e h = cc
kept_drops (Some k) want was d e h = ap is_some (sym e ∙ d)

kept_some : (o : Option MarkedPacket) (kept : View) → option_map_or (λ (x : MarkedPacket). is_some (kept x.id)) o false ≡ is_some (option_and_then (λ (x : MarkedPacket). kept x.id) o)
kept_some None kept = refl
kept_some (Some x) kept = refl

-- an index is cached exactly if an outcome of its packet is
pub kept_is : (xs : List MarkedPacket) (kept : View) (p : ℕ) → cached_at xs kept p ≡ is_some (outcome_at xs kept p)
kept_is xs kept p = kept_some (slice_get xs p) kept

module _ (xs : List MarkedPacket) (kept kept' : View) (m : ℕ) (x : MarkedPacket) (new : Kept) (h : slice_get xs m ≡ Some x) (own : IsOwn xs) where
  before_case : (p : ℕ) (o : Option MarkedPacket) → slice_get xs p ≡ o → (p ≡ m → ⊥) → ((q : ℕ) → Drops (kept' q) (with_cached kept x.id new q))
      → option_map_or (λ (y : MarkedPacket). is_some (kept' y.id)) o false ≡ true → option_map_or (λ (y : MarkedPacket). is_some (kept y.id)) o false ≡ true
  before_case p None e other drops k = k
  before_case p (Some y) e other drops k =
      kept_drops (kept' y.id) (with_cached kept x.id new y.id) (kept y.id) (drops y.id)
      (other_outcome kept x.id y.id new (nat_eq y.id x.id) refl (ids_apart xs p m y x own e h other)) k

  -- no outcome of another packet becomes cached
  pub kept_before_at : (p : ℕ) → (p ≡ m → ⊥) → ((q : ℕ) → Drops (kept' q) (with_cached kept x.id new q)) → cached_at xs kept' p ≡ true → cached_at xs kept p ≡ true
  kept_before_at p other drops k = before_case p (slice_get xs p) refl other drops k

  same_case : (p : ℕ) (o : Option MarkedPacket) → slice_get xs p ≡ o → (p ≡ m → ⊥) → ((q : ℕ) → kept' q ≡ with_cached kept x.id new q)
      → option_and_then (λ (y : MarkedPacket). kept' y.id) o ≡ option_and_then (λ (y : MarkedPacket). kept y.id) o
  same_case p None e other exact = refl
  same_case p (Some y) e other exact = exact y.id ∙ other_outcome kept x.id y.id new (nat_eq y.id x.id) refl (ids_apart xs p m y x own e h other)

  -- with room for the new outcome, the outcomes of other packets are unchanged
  pub outcome_same : (p : ℕ) → (p ≡ m → ⊥) → ((q : ℕ) → kept' q ≡ with_cached kept x.id new q) → outcome_at xs kept' p ≡ outcome_at xs kept p
  outcome_same p other exact = same_case p (slice_get xs p) refl other exact

-- with one more outcome, no outcome is dropped
still_case : (kept : View) (id q : ℕ) (new : Kept) (b : Bool) → is_some (kept q) ≡ true → is_some (cond b (Some new) (kept q)) ≡ true
still_case kept id q new true h = refl
still_case kept id q new false h = h

pub still_kept : (kept kept' : View) (id : ℕ) (new : Kept) → ((q : ℕ) → kept' q ≡ with_cached kept id new q) → (q : ℕ) → is_some (kept q) ≡ true → is_some (kept' q) ≡ true
still_kept kept kept' id new exact q h = ap is_some (exact q) ∙ still_case kept id q new (nat_eq q id) h

still_at_case : (kept kept' : View) (o : Option MarkedPacket) → ((q : ℕ) → is_some (kept q) ≡ true → is_some (kept' q) ≡ true)
    → option_map_or (λ (y : MarkedPacket). is_some (kept y.id)) o false ≡ true → option_map_or (λ (y : MarkedPacket). is_some (kept' y.id)) o false ≡ true
still_at_case kept kept' None still h = h
still_at_case kept kept' (Some y) still h = still y.id h

module _ (tables : TableEntries) (xs : List MarkedPacket) (cut converged : Bool) (kept kept' : View) (m : ℕ) (x : MarkedPacket) (new : Kept) (h : slice_get xs m ≡ Some x) (own : IsOwn xs) (exact : (q : ℕ) → kept' q ≡ with_cached kept x.id new q) where
  abbrev ys : List MarkedPacket
  ys = passed_at cut converged m xs

  outcome_leaves : (p : ℕ) → (p ≡ m → ⊥) → outcome_at ys kept' p ≡ outcome_at xs kept p
  outcome_leaves p other = outcome_passed xs m cut converged p kept' ∙ outcome_same xs kept kept' m x new h own p other exact

  decoded_on : (p : ℕ) → (p ≡ m → ⊥) → (d : IsCachedAsDecoded tables xs kept p) → IsCachedAsDecoded tables ys kept' p
  decoded_on p other d = record {
    outcome = d.outcome;
    picture = d.picture;
    is_cached = outcome_leaves p other ∙ d.is_cached;
    is_decoded = ap (λ (bs : List (List ℕ)). slice_get (outcomes tables bs) p) (bytes_passed xs m cut converged) ∙ d.is_decoded;
  }

  decoded_back : (p : ℕ) → (p ≡ m → ⊥) → (d : IsCachedAsDecoded tables ys kept' p) → IsCachedAsDecoded tables xs kept p
  decoded_back p other d = record {
    outcome = d.outcome;
    picture = d.picture;
    is_cached = sym (outcome_leaves p other) ∙ d.is_cached;
    is_decoded = sym (ap (λ (bs : List (List ℕ)). slice_get (outcomes tables bs) p) (bytes_passed xs m cut converged)) ∙ d.is_decoded;
  }

  -- the indexes after a step that is cached with room for it
  pub step_leaves : Leaves tables xs ys kept kept' m
  step_leaves = record {
    keeps = λ p k. kept_passed xs m cut converged p kept' ∙ still_at_case kept kept' (slice_get xs p) (still_kept kept kept' x.id new exact) k;
    kept_before = λ p other k. kept_is xs kept p ∙ ap is_some (sym (outcome_leaves p other)) ∙ sym (kept_is ys kept' p) ∙ k;
    decoded_still = decoded_on;
    decoded_before = decoded_back;
    cuts = cut_far xs m cut converged;
  }
