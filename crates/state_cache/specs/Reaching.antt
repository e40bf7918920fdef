-- Reaching an index: where steps begin, marks after a step, and the answer.
use Rattle.std.specs.Prelude.{◌≡◌, ℕ, zero, suc, cond, option_map, ◌+◌, ◌<◌, ◌≤◌, Bool, true, false, List, slice_get, Option, Some, None, Result, Ok, Err}
use Rattle.vp8_tables.specs.Tables.{TableEntries}
use Rattle.packet_edits.specs.Edits.{Listing}
use Rattle.packet_edits.specs.Marks.{marked_at, unmarked_at}
use Rattle.reference_frames.specs.declared.states.State.{State}
use Rattle.packet_edits.specs.Shown.{stream_of}
use Rattle.state_cache.specs.declared.capacity.Capacity.{Capacity}
use Rattle.state_cache.specs.declared.outcomes.Kept.{Kept}
use Rattle.state_cache.specs.declared.outcomes.PacketKey.{PacketKey}
use Rattle.state_cache.specs.declared.outcomes.ReachFault.{ReachFault}
use Rattle.state_cache.specs.declared.outcomes.ReachFault.TheVariants.{Refused, NoMemory, TooManyShares}
use Rattle.stream_steps.specs.Decoding.{Outcome, outcomes}
use Rattle.state_cache.specs.Views.{Drops, MarkedPacket, View, is_usable, key_at, cached_in, outcome_at, step_result}

-- a capacity of so many outcomes, without a limit in bytes
abbrev pub of_states : ℕ → Capacity
of_states states = record { states = states; bytes = None }

-- a capacity of so many bytes, and of the most outcomes that a cache may have
abbrev pub of_bytes : ℕ → Capacity
of_bytes bytes = record { states = 4096; bytes = Some bytes }

-- the value of a cache: outcomes by the sources and ids of their packets, the capacity, and the number of steps made
pub record CacheValue : Type 0 where
  pub entries : List (PacketKey × Kept)
  pub capacity : Capacity
  pub decoded : ℕ

-- the outcome cached for each id of a source
abbrev pub view_of : ℕ → CacheValue → View
view_of source cache = cached_in cache.entries source

-- each outcome of the other sources is still cached, or dropped
abbrev pub OthersDrop : ℕ → CacheValue → CacheValue → Type 0
OthersDrop source before after = (other id : ℕ) → (other ≡ source → ⊥) → Drops (view_of other after id) (view_of other before id)

-- the outcomes of the other sources are unchanged
abbrev pub OthersStay : ℕ → CacheValue → CacheValue → Type 0
OthersStay source before after = (other id : ℕ) → (other ≡ source → ⊥) → view_of other after id ≡ view_of other before id

-- where steps begin: at index 0, at a key tag, or after a usable index
pub data Begins (packets : List MarkedPacket) (kept : View) (place : ℕ) : Type 0 where
  at_start : place ≡ 0 → Begins packets kept place
  at_key : key_at packets place ≡ true → Begins packets kept place
  following : (before : ℕ) → place ≡ before + 1 → is_usable packets kept before ≡ true → Begins packets kept place

-- the state cached for the packet before an index
abbrev pub state_cached_before : List MarkedPacket → View → ℕ → Option State
state_cached_before packets kept zero = None
state_cached_before packets kept (suc before) = option_map (λ outcome. outcome.state) (outcome_at packets kept before)

-- the state from which the packet at an index is stepped: none if it has a key tag
abbrev pub state_from : List MarkedPacket → View → ℕ → Option State
state_from packets kept place = cond (key_at packets place) None (state_cached_before packets kept place)

-- the marks after a cached step. A cut because of a mark loses it if the new state equals the one cached there before, and
-- passes it to the next packet otherwise
abbrev pub passed_marks : Bool → Bool → ℕ → List Bool → List Bool
passed_marks is_cut has_converged place marks =
    cond is_cut (cond has_converged (unmarked_at place marks) (marked_at (place + 1) (unmarked_at place marks))) marks

-- if the states converge, a state was cached there, and it equals the new one
abbrev pub Converged : Bool → Option Kept → Kept → Type 0
Converged has_converged before new = has_converged ≡ true → (old : Kept) × (before ≡ Some old) × (old.state ≡ new.state)

-- the first index to step on the way to another: the one after the greatest usable index since the last key tag; with no
-- such index, the index of that key tag, or 0
pub record IsNext (packets : List MarkedPacket) (kept : View) (place next : ℕ) : Type 0 where
  pub within : next ≤ place + 1
  pub begins : Begins packets kept next
  pub arrived : place < next → is_usable packets kept place ≡ true
  pub no_key : (p : ℕ) → next < p → p ≤ place → key_at packets p ≡ false
  pub greatest : (p : ℕ) → next ≤ p → p ≤ place → is_usable packets kept p ≡ false

-- the answer is this outcome, or that there was no memory, or that it is good and could not be shared
abbrev pub ReachAnswers : Outcome → Result Kept ReachFault → Type 0
ReachAnswers want (Ok kept) = want ≡ Ok (step_result kept)
ReachAnswers want (Err (Refused broken)) = want ≡ Err broken
ReachAnswers want (Err NoMemory) = Unit {0}
ReachAnswers want (Err TooManyShares) = (kept : Kept) × (want ≡ Ok (step_result kept))

-- the answer is the outcome of decoding at an index, or one of these two faults
abbrev pub Reaches : TableEntries → Listing → ℕ → Result Kept ReachFault → Type 0
Reaches tables list place result = (want : Outcome) × (slice_get (outcomes tables (stream_of list)) place ≡ Some want) × ReachAnswers want result
