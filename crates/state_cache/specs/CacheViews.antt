-- Coherence of the cache, stated by runs.
use Rattle.std.specs.Prelude.{◌≡◌, ◌↔◌, ◌⊎◌, ℕ, zero, suc, ◌+◌, ◌-◌, ◌<◌, ◌≤◌, true, false, List, [], slice_get, Option, Some, None}
use Rattle.std.specs.Option.{option_map_or}
use Rattle.vp8_tables.specs.Tables.{TableEntries}
use Rattle.reference_frames.specs.declared.states.State.{State}
use Rattle.state_cache.specs.declared.outcomes.Kept.{Kept}
use Rattle.state_cache.specs.Costs.{IsOneRun}
use Rattle.state_cache.specs.Views.{Before, Follows, IsCoherent, MarkedPacket, View, cached_at, key_at, known, stepped, mark_at, outcome_at}

abbrev pub bytes_at : List MarkedPacket → ℕ → List ℕ
bytes_at packets place = option_map_or (λ packet. packet.bytes) (slice_get packets place) []

-- a run begins at an index and the state before it is known: at a key tag, or at index 0 with no mark
abbrev pub BeginsKnown : List MarkedPacket → ℕ → Type 0
BeginsKnown packets place = (key_at packets place ≡ true) ⊎ ((place ≡ 0) × (mark_at packets place ≡ false))

-- what is known after n steps, from what is known before the packet at `first`
abbrev pub left_after : TableEntries → List MarkedPacket → Before → ℕ → ℕ → Before
left_after tables packets before first zero = before
left_after tables packets before first (suc n) = stepped tables (left_after tables packets before first n) (bytes_at packets (first + n))

-- this outcome is the result of the steps over the packets from `first` up to `place`, from a state or none
abbrev pub StepsReach : TableEntries → List MarkedPacket → Option State → ℕ → ℕ → Kept → Type 0
StepsReach tables packets state first place outcome = Follows tables (left_after tables packets (known state) first (place - first)) (bytes_at packets place) outcome

-- each cached outcome is the result of the steps from the state of the nearest one cached before it in its run. With none
-- cached before it, it is the result of the steps from no state if its run begins at a key tag or at index 0 with no mark, and
-- may be anything otherwise
pub record IsCacheView (tables : TableEntries) (packets : List MarkedPacket) (kept : View) : Type 0 where
  pub from_cached : (nearest place : ℕ) (before outcome : Kept) → outcome_at packets kept nearest ≡ Some before → outcome_at packets kept place ≡ Some outcome → nearest < place → IsOneRun packets nearest place
      → ((p : ℕ) → nearest < p → p < place → cached_at packets kept p ≡ false) → StepsReach tables packets (Some before.state) (nearest + 1) place outcome
  pub from_none : (first place : ℕ) (outcome : Kept) → outcome_at packets kept place ≡ Some outcome → first ≤ place → BeginsKnown packets first → IsOneRun packets first place
      → ((p : ℕ) → first ≤ p → p < place → cached_at packets kept p ≡ false) → StepsReach tables packets None first place outcome

-- a view is coherent exactly if it has this property
abbrev pub CoherentIsCacheView : Type 0
CoherentIsCacheView = (tables : TableEntries) (packets : List MarkedPacket) (kept : View) → IsCoherent tables packets kept ↔ IsCacheView tables packets kept
