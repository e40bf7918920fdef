-- The filter of a listed macroblock is the one that decoding uses, as a law.
use Rattle.std.specs.Prelude.{◌≡◌, ℕ, ◌/◌, ◌%◌, ◌==◌, if◌then◌else◌, List, slice_get, Some, None}
use Rattle.std.specs.Option.{option_map}
use Rattle.frame_header.specs.declared.header.Header.{Header}
use Rattle.mode_parser.specs.declared.record_facts.RecordFacts.{RecordFacts}
use Rattle.mode_parser.specs.declared.records.MbMode.{MbMode}
use Rattle.loop_filter.specs.Frames.{strength_at}
use Rattle.reference_frames.specs.FrameTokens.{TokenState, flags_of, token_state}
use Rattle.macroblock_lists.specs.Macroblocks.{limits_in_force, macroblock_of}

-- of each macroblock of a frame the limits that are listed are those by which `filtered_planes` filters it, none in a frame of level 0; the level is
-- the one that has these limits; and the inner edges are those that it filters, if there are limits
abbrev pub FiltersAreUsed : Type 0
FiltersAreUsed =
    (header : Header) (columns : ℕ) (start marked : TokenState) (modes : List MbMode) (place : ℕ) (mode : MbMode) (facts : RecordFacts) → slice_get modes place ≡ Some mode →
    let listed = macroblock_of header (place % columns) (place / columns) (token_state header columns start modes place) marked mode facts in
    let used = if header.filter.level == 0 then None else strength_at header modes (flags_of header columns start modes) place in
    (option_map (λ strength. strength.limits) used ≡ listed.limits) × (limits_in_force header listed.level ≡ listed.limits) × (option_map (λ strength. strength.has_inner_edges) used ≡ option_map (λ _. listed.filters_inside) listed.limits)
