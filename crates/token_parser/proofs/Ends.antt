-- A block that ends at index 1 or before has no coefficient after its first.
use Rattle.std.proofs.Common.{◌≡◌, ◌≢◌, ℕ, zero, suc, ◌+◌, ◌-◌, ◌<◌, ◌≤◌, inl, inr, Bool, true, false, List, [], ◌∷◌, length, replicate, slice_index_or, refl, ◌∙◌, arith, ℤ, pos}
use Rattle.std.specs.Prelude.{nat_lt, min, slice_index, slice_set, ◌==◌, ◌||◌, if◌then◌else◌}
use Rattle.std.proofs.lemmas.Bool.{cases_eq}
use Rattle.std.proofs.lemmas.Bool.Decides.{nat_tests}
use Rattle.std.proofs.lemmas.List.{length-set, get_or-replicate, get_or-set_same, get_or-set_other}
use Rattle.bool_coder.specs.Reader.{Reader}
use Rattle.bool_coder.specs.Reading.{Reading, ◌>>=◌, give}
use Rattle.token_parser.specs.TokenTree.{end_of_block, token, size_of}
use Rattle.token_parser.specs.declared.places.TheConstants.{ZIGZAG}
use Rattle.token_parser.specs.declared.tokens.Tokens.{Tokens}
use Rattle.token_parser.specs.Tokens.{nodes_at, signed_size, tokens_from}
use Rattle.token_parser.specs.Blocks.{place_of, block, first_blocks, macroblock, cleared}
use Rattle.token_parser.specs.Ends.{IsFirstAlone, EndsHold}

-- the three ways on from a token
by_token : (P : (List ℤ × ℕ) × Reader → Type 0) (ends is_zero : Bool) (x y z : Reading (List ℤ × ℕ)) (r : Reader) → P (x r) → P (y r) → P (z r) → P ((if ends then x else if is_zero then y else z) r)
by_token P true is_zero x y z r at_end at_zero at_size = at_end
by_token P false true x y z r at_end at_zero at_size = at_zero
by_token P false false x y z r at_end at_zero at_size = at_size

-- the tokens after a size
abbrev sized : ℕ → List ℕ → ℕ → ℕ → ℕ → List ℤ → Reading (List ℤ × ℕ)
sized more probs kind place t coefficients = do
  size ← size_of t
  value ← signed_size size
  tokens_from more probs kind (place + 1) (min size 2) false (slice_set coefficients (slice_index ZIGZAG place) value)

same_end : (place : ℕ) → place ≤ place
same_end place = omega arith

past : (place end : ℕ) → place + 1 ≤ end → place ≤ end
past place end less = omega arith

-- a block does not end before a token
end_from : (more : ℕ) (probs : List ℕ) (kind place context : ℕ) (after_zero : Bool) (coefficients : List ℤ) (r : Reader) → place ≤ (tokens_from more probs kind place context after_zero coefficients r).0.1
unfolding tokens_from
end_from zero probs kind place context after_zero coefficients r = omega arith
end_from (suc more) probs kind place context after_zero coefficients r =
    let later : (context : ℕ) (after_zero : Bool) (coefficients : List ℤ) (r : Reader) → place ≤ (tokens_from more probs kind (place + 1) context after_zero coefficients r).0.1 = λ context after_zero coefficients r. past place _ (end_from more probs kind (place + 1) context after_zero coefficients r) in
    let t : ℕ × Reader = token (nodes_at probs kind place context) after_zero r in
    let at_zero : Reading (List ℤ × ℕ) = tokens_from more probs kind (place + 1) 0 true coefficients in
    by_token (λ q. place ≤ q.0.1) (t.0 == end_of_block) (t.0 == 0) (give (coefficients, place)) at_zero (sized more probs kind place t.0 coefficients) t.1 (same_end place) (later 0 true coefficients t.1) (later _ _ _ _)

never_before : (place end : ℕ) → place + 1 ≤ end → end ≤ place → ⊥
never_before place end more few = omega arith

-- a block that ends by an index has no token from there on
pub same_by_end : (more : ℕ) (probs : List ℕ) (kind place context : ℕ) (after_zero : Bool) (coefficients : List ℤ) (r : Reader) → (tokens_from more probs kind place context after_zero coefficients r).0.1 ≤ place → (tokens_from more probs kind place context after_zero coefficients r).0.0 ≡ coefficients
unfolding tokens_from
same_by_end zero probs kind place context after_zero coefficients r = λ few. refl
same_by_end (suc more) probs kind place context after_zero coefficients r =
    let never : (context : ℕ) (after_zero : Bool) (xs : List ℤ) (r : Reader) → (tokens_from more probs kind (place + 1) context after_zero xs r).0.1 ≤ place → (tokens_from more probs kind (place + 1) context after_zero xs r).0.0 ≡ coefficients = λ context after_zero xs r few. absurd (never_before place _ (end_from more probs kind (place + 1) context after_zero xs r) few) in
    let t : ℕ × Reader = token (nodes_at probs kind place context) after_zero r in
    let at_zero : Reading (List ℤ × ℕ) = tokens_from more probs kind (place + 1) 0 true coefficients in
    by_token (λ q. q.0.1 ≤ place → q.0.0 ≡ coefficients) (t.0 == end_of_block) (t.0 == 0) (give (coefficients, place)) at_zero (sized more probs kind place t.0 coefficients) t.1 (λ few. refl) (never 0 true coefficients t.1) (never _ _ _ _)

first_alone : (v : ℤ) (xs : List ℤ) → xs ≡ v ∷ replicate 15 (pos 0) → IsFirstAlone xs
first_alone v xs is = rw is refl

-- the tokens of a block that has no coefficients before
by_first : (more : ℕ) (probs : List ℕ) (kind context : ℕ) (r : Reader) → (tokens_from (suc more) probs kind 0 context false (replicate 16 (pos 0)) r).0.1 ≤ 1 → IsFirstAlone (tokens_from (suc more) probs kind 0 context false (replicate 16 (pos 0)) r).0.0
unfolding tokens_from
by_first more probs kind context r =
    let later : (v : ℤ) (context : ℕ) (after_zero : Bool) (r : Reader) → (tokens_from more probs kind 1 context after_zero (v ∷ replicate 15 (pos 0)) r).0.1 ≤ 1 → IsFirstAlone (tokens_from more probs kind 1 context after_zero (v ∷ replicate 15 (pos 0)) r).0.0 = λ v context after_zero r few. first_alone v _ (same_by_end more probs kind 1 context after_zero (v ∷ replicate 15 (pos 0)) r few) in
    let t : ℕ × Reader = token (nodes_at probs kind 0 context) false r in
    let size : ℕ × Reader = size_of t.0 t.1 in
    let value : ℤ × Reader = signed_size size.0 size.1 in
    let at_zero : Reading (List ℤ × ℕ) = tokens_from more probs kind 1 0 true (replicate 16 (pos 0)) in
    by_token (λ q. q.0.1 ≤ 1 → IsFirstAlone q.0.0) (t.0 == end_of_block) (t.0 == 0) (give (replicate 16 (pos 0), 0)) at_zero (sized more probs kind 0 t.0 (replicate 16 (pos 0))) t.1 (λ few. refl) (later (pos 0) 0 true t.1) (later value.0 (min size.0 2) false value.1)

pub block_end : (first : ℕ) (probs : List ℕ) (kind context : ℕ) (coefficients : List ℤ) (r : Reader) → first ≤ 1 → coefficients ≡ replicate 16 (pos 0) → (tokens_from (16 - first) probs kind first context false coefficients r).0.1 ≤ 1 → IsFirstAlone (tokens_from (16 - first) probs kind first context false coefficients r).0.0
block_end zero probs kind context coefficients r small none = rw none (by_first 15 probs kind context r)
block_end (suc zero) probs kind context coefficients r small none = rw none (λ few. first_alone (pos 0) _ (same_by_end 15 probs kind 1 _ _ _ _ few))
block_end (suc (suc n)) probs kind context coefficients r small none = absurd (omega arith)

-- blocks have numbers of their own
index_after : (has_y2 : Bool) (k : ℕ) → 0 < k → k < 25 → (place_of has_y2 k).index ≡ k - 1
index_after has_y2 k some below = grind (arith, nat_tests)

pub index_apart : (has_y2 : Bool) (k n : ℕ) → k < n → n < 25 → (place_of has_y2 n).index ≢ (place_of has_y2 k).index
index_apart has_y2 zero n less below = λ same. let at = index_after has_y2 n less below in omega (arith, at, same)
index_apart has_y2 (suc k) n less below = λ same. let at = index_after has_y2 n (omega arith) below in let before = index_after has_y2 (suc k) (omega arith) (omega arith) in omega (arith, at, before, same)

pub index_small : (has_y2 : Bool) (k : ℕ) → k < 25 → (place_of has_y2 k).index < 25
index_small has_y2 zero below = omega arith
index_small has_y2 (suc k) below = let at = index_after has_y2 (suc k) (omega arith) below in omega (arith, at)

first_small : (has_y2 : Bool) (k : ℕ) → (place_of has_y2 k).first ≤ 1
first_small true k = grind (arith, nat_tests)
first_small false k = grind (arith, nat_tests)

-- after the first k blocks: those that end by index 1 have at most a first coefficient, and the others have none yet
record EndsSoFar (has_y2 : Bool) (k : ℕ) (tokens : Tokens) : Type 0 where
  lists : length tokens.coefficients ≡ 25
  ends : length tokens.ends ≡ 25
  held : EndsHold tokens
  ahead : (n : ℕ) → k ≤ n → n < 25 → slice_index_or tokens.coefficients (place_of has_y2 n).index [] ≡ replicate 16 (pos 0)

read_one : (has_y2 : Bool) (k : ℕ) (tokens : Tokens) (above left : List Bool) (coefficients : List ℤ) (end : ℕ) → k < 25 → EndsSoFar has_y2 k tokens → (end ≤ 1 → IsFirstAlone coefficients) →
    EndsSoFar has_y2 (suc k) (record { above = above; left = left; coefficients = slice_set tokens.coefficients (place_of has_y2 k).index coefficients; ends = slice_set tokens.ends (place_of has_y2 k).index end })
read_one has_y2 k tokens above left coefficients end below so_far here =
    let index : ℕ = (place_of has_y2 k).index in
    let inside : index < 25 = index_small has_y2 k below in
    record {
      lists = length-set tokens.coefficients index coefficients ∙ so_far.lists;
      ends = length-set tokens.ends index end ∙ so_far.ends;
      held = λ j within. elim (cases_eq j index) [
        | inl same ↦ rw same (rw (get_or-set_same tokens.ends index end 0 (omega (arith, so_far.ends)), get_or-set_same tokens.coefficients index coefficients [] (omega (arith, so_far.lists))) here)
        | inr apart ↦ rw (get_or-set_other tokens.ends index j end 0 apart, get_or-set_other tokens.coefficients index j coefficients [] apart) (so_far.held j within)
      ];
      ahead = λ n from within. get_or-set_other tokens.coefficients index (place_of has_y2 n).index coefficients [] (index_apart has_y2 k n (omega arith) within) ∙ so_far.ahead n (omega arith) within;
    }

none_read : (has_y2 : Bool) (before : Tokens) → EndsSoFar has_y2 0 (cleared before)
none_read has_y2 before = record {
  lists = refl;
  ends = refl;
  held = λ j within. let none = get_or-replicate 25 j (replicate 16 (pos 0)) [] within in rw none (λ few. refl);
  ahead = λ n from within. get_or-replicate 25 (place_of has_y2 n).index (replicate 16 (pos 0)) [] (index_small has_y2 n within);
}

fewer : (has_y2 : Bool) (k : ℕ) (tokens : Tokens) → EndsSoFar has_y2 k tokens → EndsSoFar has_y2 (suc k) tokens
fewer has_y2 k tokens so_far = record { lists = so_far.lists; ends = so_far.ends; held = so_far.held; ahead = λ n from within. so_far.ahead n (omega arith) within }

first_ends : (k : ℕ) (probs : List ℕ) (has_y2 : Bool) (before : Tokens) (r : Reader) → k ≤ 25 → EndsSoFar has_y2 k (first_blocks k probs has_y2 (cleared before) r).0
unfolding first_blocks block
first_ends zero probs has_y2 before r most = none_read has_y2 before
first_ends (suc k) probs has_y2 before r most =
    let here = first_blocks k probs has_y2 (cleared before) r in
    let so_far = first_ends k probs has_y2 before r (omega arith) in
    let below : k < 25 = omega arith in
    elim (nat_lt 0 k || has_y2) as (λ b. EndsSoFar has_y2 (suc k) ((if b then block probs (place_of has_y2 k) here.0 else give here.0) here.1).0) [
      | true ↦ read_one has_y2 k here.0 _ _ _ _ below so_far (block_end (place_of has_y2 k).first probs _ _ _ _ (first_small has_y2 k) (so_far.ahead k (omega arith) below))
      | false ↦ fewer has_y2 k here.0 so_far
    ]

-- the ends of a macroblock
pub ends_hold : (probs : List ℕ) (has_y2 : Bool) (before : Tokens) (r : Reader) → EndsHold (macroblock probs has_y2 (cleared before) r).0
ends_hold probs has_y2 before r = (first_ends 25 probs has_y2 before r (omega arith)).held
