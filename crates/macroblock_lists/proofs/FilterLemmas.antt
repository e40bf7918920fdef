-- The filter of a listed macroblock.
use Rattle.std.proofs.Common.{◌≡◌, ℕ, ◌<◌, ◌/◌, ◌%◌, Bool, true, false, List, length, slice_get, Some, None, refl, ap, sym, ◌∙◌, arith, inl, inr}
use Rattle.std.specs.Prelude.{◌==◌, ◌||◌, if◌then◌else◌, slice_index_or, Option}
use Rattle.std.specs.Option.{option_map}
use Rattle.std.proofs.lemmas.List.FromFn.{get_or-map-range_with_len}
use Rattle.std.proofs.lemmas.Option.{slice_get_cases}
use Rattle.frame_header.specs.declared.header.Header.{Header}
use Rattle.mode_parser.specs.declared.records.MbMode.{MbMode}
use Rattle.loop_filter.specs.Frames.{has_subblock_modes, strength_at, strength_of}
use Rattle.loop_filter.specs.Levels.{level_of}
use Rattle.loop_filter.specs.Strengths.{limits_of}
use Rattle.loop_filter.specs.declared.edge_limits.Limits.{Limits}
use Rattle.reference_frames.specs.FrameTokens.{TokenState, flag_at, flag_with, flags_of, token_state, tokens_at}
use Rattle.macroblock_lists.specs.FilterLaws.{FiltersAreUsed}

-- by the level alone
by-level : {S : Type 0} (limits-in : S → Limits) (inner-in : S → Bool) (strength : S) (is_zero is_none : Bool) (level : ℕ) (limits : ℕ → Limits) (modes flag other : Bool)
    → (level == 0) ≡ is_none → limits-in strength ≡ limits level → inner-in strength ≡ (modes || other) → flag ≡ other
    → let listed : ℕ = if is_zero then 0 else level in
    let used : Option S = if is_zero then None else if level == 0 then None else Some strength in
    let own : Option Limits = if listed == 0 then None else Some (limits listed) in
    (option_map limits-in used ≡ own) × (option_map inner-in used ≡ option_map (λ _. if listed == 0 then false else modes || flag) own)
by-level limits-in inner-in strength true is_none level limits modes flag other is its inner same = (refl, refl)
by-level limits-in inner-in strength false true level limits modes flag other is its inner same = rw is (refl, refl)
by-level limits-in inner-in strength false false level limits modes flag other is its inner same = rw is (ap Some its, ap Some (inner ∙ ap (λ (b : Bool). modes || b) (sym same)))

below-length : (modes : List MbMode) (place : ℕ) (mode : MbMode) → slice_get modes place ≡ Some mode → place < length modes
below-length modes place mode found = elim (slice_get_cases modes place).1 [
  | inl known ↦ known.1
  | inr none ↦ absurd (let both = sym found ∙ none.1 in cc)
]

-- the flag of the macroblock
flag-here : (header : Header) (columns : ℕ) (start : TokenState) (modes : List MbMode) (place : ℕ) (mode : MbMode) → slice_get modes place ≡ Some mode
    → flag_with mode (tokens_at header.context.probabilities.coefficients (token_state header columns start modes place) (place % columns) (place / columns) mode).0
    ≡ slice_index_or (flags_of header columns start modes) place false
unfolding flag_at
flag-here header columns start modes place mode found =
    let there : slice_index_or (flags_of header columns start modes) place false ≡ flag_at header columns start modes place =
    get_or-map-range_with_len (flag_at header columns start modes) 0 (length modes) place place false (below-length modes place mode found) (omega arith) in
    sym (there ∙ rw found refl)

pub filters_are_used : FiltersAreUsed
unfolding strength_at strength_of
filters_are_used header columns start marks modes place mode facts found =
    let both = by-level _ _ _ (header.filter.level == 0) _ (level_of header mode) (λ level. limits_of level header.filter.sharpness header.is_key) (has_subblock_modes mode.y_mode) _ _ refl refl refl
    (flag-here header columns start modes place mode found) in
    rw found (both.0, refl, both.1)
