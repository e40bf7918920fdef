-- For proofs only: what the contracts of private functions cite. No public contract depends on this file.
use Rattle.std.specs.Prelude.{◌≡◌, ℕ, zero, suc, ◌+◌, ◌-◌, ◌*◌, ◌^◌, ◌<◌, ◌≤◌, ◌⊎◌, min, true, false, cond, List, ◌∷◌, length, slice_get, Option, Some, None, IsSome, Result, Ok, Err}
use Rattle.std.specs.Map.{lookup}
use Rattle.vp8_tables.specs.Tables.{TableEntries}
use Rattle.frame_header.specs.declared.cause.Cause.{Cause}
use Rattle.pixel_planes.specs.Pictures.{PictureSamples}
use Rattle.reference_frames.specs.declared.states.State.{State}
use Rattle.reference_frames.specs.Steps.{step_of}
use Rattle.packet_edits.specs.Edits.{Listing}
use Rattle.packet_edits.specs.Marks.{StoreValue}
use Rattle.packet_edits.specs.Shown.{stream_of}
use Rattle.state_cache.specs.declared.outcomes.Kept.{Kept}
use Rattle.state_cache.specs.declared.outcomes.PacketKey.{PacketKey}
use Rattle.state_cache.specs.declared.outcomes.ReachFault.{ReachFault}
use Rattle.state_cache.specs.declared.outcomes.ReachFault.TheVariants.{Refused, NoMemory, TooManyShares}
use Rattle.state_cache.specs.Bytes.{cached_bytes, outcome_bytes}
use Rattle.state_cache.specs.Costs.{AreUnsettled, HasRoom, IsIdOf, IsOneRun, IsSettled}
use Rattle.stream_steps.specs.Decoding.{outcomes}
use Rattle.state_cache.specs.declared.savings.Saving.{Saving}
use Rattle.state_cache.specs.Evictions.{SavesLess, age, saved}
use Rattle.state_cache.specs.Reaching.{CacheValue, IsNext, state_from, view_of}
use Rattle.state_cache.specs.Views.{Drops, MarkedPacket, View, cached_at, key_at, marked_packets, outcome_at, same_key, step_result}

-- the index after the one that was found, or another one
abbrev pub next_of : Option ℕ → ℕ → ℕ
next_of (Some found) place = found + 1
next_of None place = place

-- the outcome from whose state the packet at an index is stepped: none if it has a key tag or index 0
abbrev pub outcome_before : List MarkedPacket → View → ℕ → Option Kept
outcome_before packets kept zero = None
outcome_before packets kept (suc before) = outcome_at packets kept before

abbrev pub outcome_from : List MarkedPacket → View → ℕ → Option Kept
outcome_from packets kept place = cond (key_at packets place) None (outcome_before packets kept place)

-- the entries without the one at an index, in some order, or all
abbrev pub IsWithout : Option ℕ → List (PacketKey × Kept) → List (PacketKey × Kept) → Type 0
IsWithout None before after = after ≡ before
IsWithout (Some index) before after =
    (entry : PacketKey × Kept) × (slice_get before index ≡ Some entry) × ((key : PacketKey) → lookup (same_key key) after ≡ cond (same_key entry.0 key) None (lookup (same_key key) before)) × (length after + 1 ≡ length before)

-- the answer of a step at an index: its good outcome, its cause with that index, or that there was no memory
abbrev pub AnswersAt : ℕ → Result (State × PictureSamples) Cause → Result Kept ReachFault → Type 0
AnswersAt place want (Ok kept) = want ≡ Ok (step_result kept)
AnswersAt place want (Err (Refused broken)) = (want ≡ Err broken.cause) × (broken.place ≡ place)
AnswersAt place want (Err NoMemory) = Unit {0}
AnswersAt place want (Err TooManyShares) = ⊥

-- the answer is the answer of the step of the packet at an index
abbrev pub IterationAnswers : TableEntries → List MarkedPacket → View → ℕ → Result Kept ReachFault → Type 0
IterationAnswers tables packets kept place result = (packet : MarkedPacket) × (slice_get packets place ≡ Some packet) × AnswersAt place (step_of tables (state_from packets kept place) packet.bytes) result

-- a refusal names the index at which decoding finds the stream broken
abbrev pub Reports : TableEntries → Listing → ℕ → ReachFault → Type 0
Reports tables list place (Refused broken) = slice_get (outcomes tables (stream_of list)) place ≡ Some (Err broken)
Reports tables list place NoMemory = Unit {0}
Reports tables list place TooManyShares = ⊥

-- the answer is the outcome cached at an index, or that none is cached there, or that it could not be shared
abbrev pub CachedAnswers : List MarkedPacket → View → ℕ → Result Kept ReachFault → Type 0
CachedAnswers packets kept place (Ok outcome) = outcome_at packets kept place ≡ Some outcome
CachedAnswers packets kept place (Err (Refused broken)) = ⊥
CachedAnswers packets kept place (Err NoMemory) = cached_at packets kept place ≡ false
CachedAnswers packets kept place (Err TooManyShares) = Unit {0}

-- the index after the last cached one of a run, from `first` up to `place`
pub record IsAfterCached (packets : List MarkedPacket) (kept : View) (first place next : ℕ) : Type 0 where
  pub last : ℕ
  pub next_is : next ≡ last + 1
  pub from : first ≤ last
  pub within : last ≤ place
  pub one_run : IsOneRun packets first last
  pub is_cached : cached_at packets kept last ≡ true
  pub greatest : (p : ℕ) → last < p → p ≤ place → IsOneRun packets first p → cached_at packets kept p ≡ false

-- a cached step on the way to an index: the walk continues after it, and exactly one index fewer is not settled
pub record Advances (tables : TableEntries) (source : ℕ) (old : StoreValue) (before : CacheValue) (place next : ℕ) (new : StoreValue) (after : CacheValue) (further : ℕ) : Type 0 where
  pub first : IsNext (marked_packets new) (view_of source after) place further
  pub following : next < further
  pub number : before.capacity.bytes ≡ None → length before.entries ≤ length after.entries
  pub of_packets : (id : ℕ) → IsSome (view_of source after id) → IsSome (view_of source before id) ⊎ IsIdOf old.list id
  pub room : HasRoom source old.list before next place → HasRoom source new.list after further place
  pub stays : HasRoom source old.list before next place → (any id : ℕ) → IsSome (view_of any before id) → IsSome (view_of any after id)
  pub keeps : HasRoom source old.list before next place → (p : ℕ) → next ≤ p → p ≤ place → (IsSettled tables (marked_packets old) (view_of source before) place p → ⊥)
      → (cached_at (marked_packets new) (view_of source after) p ≡ true) ⊎ ((further ≤ p) × (IsSettled tables (marked_packets new) (view_of source after) place p → ⊥))
  pub fewer : HasRoom source old.list before next place → (places : List ℕ) → AreUnsettled tables (marked_packets old) (view_of source before) next place places
      → (rest : List ℕ) × (places ≡ next ∷ rest) × AreUnsettled tables (marked_packets new) (view_of source after) further place rest

-- the search for the victim so far: of the savings before an index
pub record Searched (ss : List Saving) (uses at victim saves old : ℕ) : Type 0 where
  pub saving : Saving
  pub is_there : slice_get ss victim ≡ Some saving
  pub least : (n : ℕ) (other : Saving) → n < at → slice_get ss n ≡ Some other → SavesLess uses other saving → ⊥
  pub first : (n : ℕ) (other : Saving) → n < victim → slice_get ss n ≡ Some other → SavesLess uses saving other
  pub saved_is : saves ≡ saved saving
  pub age_is : old ≡ age uses saving

-- none of those that save so many steps and were last used so long ago is worth less
abbrev pub NoneIsLess : List ℕ → List ℕ → ℕ → ℕ → ℕ → Type 0
NoneIsLess steps used uses saves old =
    (n step last : ℕ) → slice_get steps n ≡ Some step → slice_get used n ≡ Some last → step * old < saves * (min (uses - last) (2 ^ 32 - 2) + 1) → ⊥

-- the least of the savings from one index up to another, the first among equals
pub record IsLeastBetween (ss : List Saving) (uses from to victim : ℕ) : Type 0 where
  pub saving : Saving
  pub is_there : slice_get ss victim ≡ Some saving
  pub above : from ≤ victim
  pub below : victim < to
  pub least : (n : ℕ) (other : Saving) → from ≤ n → n < to → slice_get ss n ≡ Some other → SavesLess uses other saving → ⊥
  pub first : (n : ℕ) (other : Saving) → from ≤ n → n < victim → slice_get ss n ≡ Some other → SavesLess uses saving other

-- of two savings the one at the second index is chosen if it saves less, and the one at the first otherwise
abbrev pub Lesser : List Saving → ℕ → ℕ → ℕ → ℕ → Type 0
Lesser ss uses first second chosen =
    (one other : Saving) → slice_get ss first ≡ Some one → slice_get ss second ≡ Some other → ((chosen ≡ second) × SavesLess uses other one) ⊎ ((chosen ≡ first) × (SavesLess uses other one → ⊥))

-- the bytes of the cached outcomes are counted if there is a limit, and are within it, or there is only one outcome
abbrev pub IsCounted : Option ℕ → ℕ → List (PacketKey × Kept) → Type 0
IsCounted None bytes entries = Unit {0}
IsCounted (Some limit) bytes entries = (bytes ≡ cached_bytes entries) × ((bytes ≤ limit) ⊎ (length entries ≤ 1))

-- an outcome of so many bytes is cached for a key
abbrev pub IsNewest : PacketKey → ℕ → List (PacketKey × Kept) → Type 0
IsNewest key bytes entries = (outcome : Kept) × (lookup (same_key key) entries ≡ Some outcome) × (bytes ≡ outcome_bytes outcome)

-- outcomes other than that of a key are dropped
pub record IsShed (key : PacketKey) (before after : List (PacketKey × Kept)) : Type 0 where
  pub drops : (q : PacketKey) → Drops (lookup (same_key q) after) (lookup (same_key q) before)
  pub kept : lookup (same_key key) after ≡ lookup (same_key key) before
  pub fewer : length after ≤ length before
