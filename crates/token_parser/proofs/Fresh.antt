-- Blocks that are cleared before their first token
use Rattle.std.proofs.Common.{◌≡◌, ℕ, ◌+◌, ◌-◌, ◌<◌, ◌≤◌, inl, inr, Bool, true, false, List, [], length, map, replicate, slice_index_or, ℤ, pos, refl, zero, suc, ap, sym, ◌∙◌, arith}
use Rattle.std.specs.Prelude.{nat_lt, slice_set, ◌||◌, if◌then◌else◌}
use Rattle.std.specs.Int.{from_bool}
use Rattle.std.specs.List.{range_with_len}
use Rattle.std.proofs.lemmas.Bool.{cases_eq, cases_lt, lt-ltb, le-ltb}
use Rattle.std.proofs.lemmas.Bool.Decides.{nat_tests}
use Rattle.std.proofs.lemmas.List.{length-set, get_or-replicate, get_or-set_same, get_or-set_other}
use Rattle.std.proofs.lemmas.List.FromFn.{fill_by_all, length-map-range_with_len, get_or-map-range_with_len}
use Rattle.bool_coder.specs.Reader.{Reader}
use Rattle.bool_coder.specs.Reading.{give}
use Rattle.token_parser.specs.Tokens.{tokens_from}
use Rattle.token_parser.specs.declared.tokens.Tokens.{Tokens}
use Rattle.token_parser.specs.declared.block_position.BlockPosition.{BlockPosition}
use Rattle.token_parser.specs.Blocks.{block, cleared, first_blocks, first_position, place_of}
use Rattle.token_parser.specs.Stale.{own_coefficients, seen, without_stale}
use Rattle.token_parser.proofs.Ends.{index_apart, index_small, same_by_end}

-- without a token there is no coefficient
pub cleared_first : (first : ℕ) (probs : List ℕ) (kind context : ℕ) (coefficients : List ℤ) (end : ℕ) (r s : Reader) → tokens_from (16 - first) probs kind first context false (replicate 16 (pos 0)) r ≡ ((coefficients, end), s) → tokens_from (16 - first) probs kind first context false (replicate 16 (pos 0)) r ≡ ((if nat_lt first end then coefficients else replicate 16 (pos 0), end), s)
cleared_first first probs kind context coefficients end r s is = elim (cases_lt first end) [
  | inl more ↦ rw (lt-ltb first end more) is
  | inr few ↦
      let same = same_by_end (16 - first) probs kind first context false (replicate 16 (pos 0)) r in
      let none : end ≤ first → coefficients ≡ replicate 16 (pos 0) = rw is at same in
      rw (le-ltb first end few) (is ∙ ap (λ (xs : List ℤ). ((xs, end), s)) (none few))
]

pub never_first : (first : ℕ) (probs : List ℕ) (kind context : ℕ) (coefficients : List ℤ) (r s : Reader) → tokens_from (16 - first) probs kind first context false (replicate 16 (pos 0)) r ≡ ((replicate 16 (pos 0), first), s) → tokens_from (16 - first) probs kind first context false (replicate 16 (pos 0)) r ≡ ((if nat_lt first first then coefficients else replicate 16 (pos 0), first), s)
never_first first probs kind context coefficients r s is = rw (le-ltb first first (omega arith)) is

-- a block that ends at index 0 has no token
pub own_none : (has_y2 : Bool) (tokens : Tokens) (index : ℕ) → slice_index_or tokens.ends index 0 ≡ 0 → own_coefficients has_y2 tokens index ≡ replicate 16 (pos 0)
own_none has_y2 tokens index none = rw (none, le-ltb (first_position has_y2 index) 0 (omega arith)) refl

abbrev context_of : Tokens → BlockPosition → ℕ
context_of tokens at = from_bool (slice_index_or tokens.left at.left false) + from_bool (slice_index_or tokens.above at.above false)

-- the tokens after one more block
abbrev with_block : Tokens → BlockPosition → List ℤ → ℕ → Tokens
with_block tokens at coefficients end = record { above = slice_set tokens.above at.above (nat_lt at.first end); left = slice_set tokens.left at.left (nat_lt at.first end); coefficients = slice_set tokens.coefficients at.index coefficients; ends = slice_set tokens.ends at.index end }

own_all : (has_y2 : Bool) (at : BlockPosition) (tokens : Tokens) (coefficients : List ℤ) (end : ℕ) → length tokens.coefficients ≡ 25 → length tokens.ends ≡ 25 → at.index < 25 → first_position has_y2 at.index ≡ at.first →
    slice_set (map (own_coefficients has_y2 tokens) (range_with_len 0 25)) at.index (if nat_lt at.first end then coefficients else replicate 16 (pos 0)) ≡ map (own_coefficients has_y2 (with_block tokens at coefficients end)) (range_with_len 0 25)
own_all has_y2 at tokens coefficients end blocks ends inside first =
    let here : List ℤ = if nat_lt at.first end then coefficients else replicate 16 (pos 0) in
    let before : List (List ℤ) = map (own_coefficients has_y2 tokens) (range_with_len 0 25) in
    let long : length before ≡ 25 = length-map-range_with_len (own_coefficients has_y2 tokens) 0 25 in
    fill_by_all (own_coefficients has_y2 (with_block tokens at coefficients end)) (slice_set before at.index here) 25 [] (length-set before at.index here ∙ long)
    (λ k less. elim (cases_eq k at.index) [
      | inl same ↦ rw same (rw (get_or-set_same before at.index here [] (omega (arith, long)), get_or-set_same tokens.ends at.index end 0 (omega (arith, ends)), get_or-set_same tokens.coefficients at.index coefficients [] (omega (arith, blocks)), first) refl)
      | inr apart ↦
          let there : 0 + k ≡ k = omega arith in
          get_or-set_other before at.index k here [] apart ∙ get_or-map-range_with_len (own_coefficients has_y2 tokens) 0 25 k k [] less there ∙ rw (get_or-set_other tokens.ends at.index k end 0 apart, get_or-set_other tokens.coefficients at.index k coefficients [] apart) refl
    ])

-- a block that was not read before, over stale coefficients
fresh_block : (probs : List ℕ) (has_y2 : Bool) (at : BlockPosition) (tokens : Tokens) (coefficients : List ℤ) (end : ℕ) (r s : Reader) → length tokens.coefficients ≡ 25 → length tokens.ends ≡ 25 → at.index < 25 → first_position has_y2 at.index ≡ at.first → slice_index_or tokens.ends at.index 0 ≡ 0 →
    tokens_from (16 - at.first) probs at.kind at.first (context_of tokens at) false (replicate 16 (pos 0)) r ≡ ((if nat_lt at.first end then coefficients else replicate 16 (pos 0), end), s) → block probs at (without_stale has_y2 tokens) r ≡ (without_stale has_y2 (with_block tokens at coefficients end), s)
unfolding block without_stale
fresh_block probs has_y2 at tokens coefficients end r s blocks ends inside first none is =
    let there : 0 + at.index ≡ at.index = omega arith in
    let start : slice_index_or (map (own_coefficients has_y2 tokens) (range_with_len 0 25)) at.index [] ≡ replicate 16 (pos 0) = get_or-map-range_with_len (own_coefficients has_y2 tokens) 0 25 at.index at.index [] inside there ∙ own_none has_y2 tokens at.index none in
    rw (start, is, own_all has_y2 at tokens coefficients end blocks ends inside first) refl

-- a block over its own coefficients
next_block : (probs : List ℕ) (at : BlockPosition) (tokens : Tokens) (coefficients : List ℤ) (end : ℕ) (r s : Reader) → tokens_from (16 - at.first) probs at.kind at.first (context_of tokens at) false (slice_index_or tokens.coefficients at.index []) r ≡ ((coefficients, end), s) → block probs at tokens r ≡ (with_block tokens at coefficients end, s)
unfolding block
next_block probs at tokens coefficients end r s is = rw is refl

-- either of them
pub seen_block : (clears : Bool) (probs : List ℕ) (has_y2 : Bool) (at : BlockPosition) (tokens : Tokens) (coefficients : List ℤ) (end : ℕ) (r s : Reader) → length tokens.coefficients ≡ 25 → length tokens.ends ≡ 25 → at.index < 25 → first_position has_y2 at.index ≡ at.first → (clears ≡ true → slice_index_or tokens.ends at.index 0 ≡ 0) →
    (clears ≡ false → tokens_from (16 - at.first) probs at.kind at.first (context_of tokens at) false (slice_index_or tokens.coefficients at.index []) r ≡ ((coefficients, end), s)) → (clears ≡ true → tokens_from (16 - at.first) probs at.kind at.first (context_of tokens at) false (replicate 16 (pos 0)) r ≡ ((if nat_lt at.first end then coefficients else replicate 16 (pos 0), end), s)) → block probs at (seen clears has_y2 tokens) r ≡ (seen clears has_y2 (with_block tokens at coefficients end), s)
seen_block true probs has_y2 at tokens coefficients end r s blocks ends inside first none over fresh = fresh_block probs has_y2 at tokens coefficients end r s blocks ends inside first (none refl) (fresh refl)
seen_block false probs has_y2 at tokens coefficients end r s blocks ends inside first none over fresh = next_block probs at tokens coefficients end r s (over refl)

-- the ends are those that were read
seen_ends : (may_be_stale has_y2 : Bool) (tokens : Tokens) → (seen may_be_stale has_y2 tokens).ends ≡ tokens.ends
unfolding without_stale
seen_ends true has_y2 tokens = refl
seen_ends false has_y2 tokens = refl

-- a block that was not read yet has no end
zero_ahead : (k : ℕ) (probs : List ℕ) (has_y2 : Bool) (before : Tokens) (r : Reader) → before.ends ≡ replicate 25 0 → k ≤ 25 → (n : ℕ) → k ≤ n → n < 25 → slice_index_or (first_blocks k probs has_y2 before r).0.ends (place_of has_y2 n).index 0 ≡ 0
unfolding first_blocks block
zero_ahead zero probs has_y2 before r none most n from less = rw none (get_or-replicate 25 (place_of has_y2 n).index 0 0 (index_small has_y2 n less))
zero_ahead (suc k) probs has_y2 before r none most n from less =
    let here = first_blocks k probs has_y2 before r in
    let so_far : slice_index_or here.0.ends (place_of has_y2 n).index 0 ≡ 0 = zero_ahead k probs has_y2 before r none (omega arith) n (omega arith) less in
    elim (nat_lt 0 k || has_y2) as (λ b. slice_index_or ((if b then block probs (place_of has_y2 k) here.0 else give here.0) here.1).0.ends (place_of has_y2 n).index 0 ≡ 0) [
      | true ↦ get_or-set_other here.0.ends (place_of has_y2 k).index (place_of has_y2 n).index _ 0 (index_apart has_y2 k n (omega arith) less) ∙ so_far
      | false ↦ so_far
    ]

-- nor has the next
pub zero_next : (k : ℕ) (probs : List ℕ) (has_y2 clears : Bool) (before tokens : Tokens) (r s : Reader) (at : BlockPosition) → before.ends ≡ replicate 25 0 → first_blocks k probs has_y2 before r ≡ (seen clears has_y2 tokens, s) → k < 25 → place_of has_y2 k ≡ at → slice_index_or tokens.ends at.index 0 ≡ 0
zero_next k probs has_y2 clears before tokens r s at none so_far less place =
    let there = zero_ahead k probs has_y2 before r none (omega arith) k (omega arith) less in
    rw (so_far, place, seen_ends clears has_y2 tokens) at there

-- tokens without an end have no coefficient
pub none_seen : (has_y2 : Bool) (tokens : Tokens) → tokens.ends ≡ replicate 25 0 → without_stale has_y2 tokens ≡ cleared tokens
unfolding without_stale
none_seen has_y2 tokens none =
    let all : replicate 25 (replicate 16 (pos 0)) ≡ map (own_coefficients has_y2 tokens) (range_with_len 0 25) = fill_by_all (own_coefficients has_y2 tokens) (replicate 25 (replicate 16 (pos 0))) 25 [] refl (λ k less.
    let here : slice_index_or tokens.ends k 0 ≡ 0 = rw none (get_or-replicate 25 k 0 0 less) in
    get_or-replicate 25 k (replicate 16 (pos 0)) [] less ∙ sym (own_none has_y2 tokens k here)) in
    rw (← all, none) refl

pub ends_seen : (clears has_y2 : Bool) (tokens : Tokens) → (clears ≡ true → tokens.ends ≡ replicate 25 0) → clears ≡ true → (seen clears has_y2 tokens).ends ≡ replicate 25 0
ends_seen clears has_y2 tokens none is = seen_ends clears has_y2 tokens ∙ none is

-- what a caller may look at
pub own_at : (has_y2 : Bool) (tokens : Tokens) (k : ℕ) → k < 25 → slice_index_or (without_stale has_y2 tokens).coefficients k [] ≡ own_coefficients has_y2 tokens k
unfolding without_stale
own_at has_y2 tokens k less = let there : 0 + k ≡ k = omega arith in get_or-map-range_with_len (own_coefficients has_y2 tokens) 0 25 k k [] less there

first_few : (has_y2 : Bool) (k : ℕ) → first_position has_y2 k ≤ 1
first_few true k = grind (arith, nat_tests)
first_few false k = omega arith

pub own_more : (has_y2 : Bool) (tokens : Tokens) (k : ℕ) → k < 25 → 1 < slice_index_or tokens.ends k 0 → slice_index_or (without_stale has_y2 tokens).coefficients k [] ≡ slice_index_or tokens.coefficients k []
own_more has_y2 tokens k less more =
    let few = first_few has_y2 k in
    let past : first_position has_y2 k < slice_index_or tokens.ends k 0 = omega (arith, few, more) in
    own_at has_y2 tokens k less ∙ rw (lt-ltb (first_position has_y2 k) (slice_index_or tokens.ends k 0) past) refl

pub own_ends : (has_y2 : Bool) (tokens : Tokens) → (without_stale has_y2 tokens).ends ≡ tokens.ends
unfolding without_stale
own_ends has_y2 tokens = refl
