-- Blocks as they are kept are the blocks of their tokens.
use Rattle.std.specs.Prelude.{nat_lt, slice_index_or, slice_set, Option, None, Some, if◌then◌else◌}
use Rattle.std.proofs.Common.{◌≡◌, ℕ, ◌+◌, ◌<◌, ◌≤◌, inl, inr, Bool, true, false, List, [], ◌∷◌, map, replicate, ℤ, pos, ◌*ℤ◌, w16, lit<, refl, ap, sym, ◌∙◌, arith}
use Rattle.std.specs.Int.{int_wrap}
use Rattle.std.specs.List.{range_with_len}
use Rattle.std.proofs.lemmas.Bool.{cases_lt, lt-ltb, le-ltb}
use Rattle.std.proofs.lemmas.Int.{ints, int_wrap_fits}
use Rattle.std.proofs.lemmas.List.FromFn.{fill_by_all, length-map-range_with_len, get_or-map-range_with_len}
use Rattle.token_parser.specs.Blocks.{has_tokens}
use Rattle.token_parser.specs.Ends.{IsFirstAlone, EndsHold}
use Rattle.token_parser.specs.Stale.{own_coefficients, without_stale}
use Rattle.token_parser.specs.declared.tokens.Tokens.{Tokens}
use Rattle.token_parser.proofs.Fresh.{own_at, own_ends, own_more}
use Rattle.transforms.specs.Factors.{dequantised}
use Rattle.transforms.specs.Transforms.{reduced, inverse_wht, inverse_wht_at, wht_column, wht_pass}
use Rattle.transforms.specs.declared.factor_set.Factors.{Factors}
use Rattle.reference_frames.specs.FrameTokens.{block_of, block_with, blocks_of, firsts_of, with_first, y2_results}
use Rattle.reference_frames.specs.KeptBlocks.{kept_block, kept_blocks}
use Rattle.reference_frames.specs.declared.kept_blocks.Flags.{Flags}

-- a block with this first coefficient and its others dequantised
abbrev pub with_others : List ℤ → ℤ → ℤ → List ℤ
with_others coefficients first ac = slice_set (dequantised coefficients ac ac) 0 first

no_product : (ac : ℤ) → reduced (pos 0 *ℤ ac) ≡ pos 0
no_product ac = let none : pos 0 *ℤ ac ≡ pos 0 = omega (arith, ints) in rw none (int_wrap_fits w16 (pos 0) (record { sfits = lit< tt }))

-- a block with no coefficient after its first has none when it is dequantised
alone : (coefficients : List ℤ) (first ac : ℤ) → IsFirstAlone coefficients → with_others coefficients first ac ≡ first ∷ replicate 15 (pos 0)
alone coefficients first ac is = rw (is, no_product ac) refl

-- and neither has a block whose others are multiplied by 0
no_factor : (coefficient : ℤ) → reduced (coefficient *ℤ pos 0) ≡ pos 0
no_factor coefficient = let none : coefficient *ℤ pos 0 ≡ pos 0 = omega (arith, ints) in rw none (int_wrap_fits w16 (pos 0) (record { sfits = lit< tt }))

pub without_others : (coefficients : List ℤ) (first : ℤ) → with_others coefficients first (pos 0) ≡ first ∷ replicate 15 (pos 0)
without_others coefficients first = simp no_factor refl

-- Y2 with no coefficient after its first
pub y2_alone : (factors : Factors) (coefficients : List ℤ) → IsFirstAlone coefficients → inverse_wht (reduced (slice_index_or coefficients 0 (pos 0) *ℤ factors.y2_dc) ∷ replicate 15 (pos 0)) ≡ y2_results factors coefficients
unfolding y2_results block_with
y2_alone factors coefficients is =
    let block : dequantised coefficients factors.y2_dc factors.y2_ac ≡ reduced (slice_index_or coefficients 0 (pos 0) *ℤ factors.y2_dc) ∷ replicate 15 (pos 0) = rw (is, no_product factors.y2_ac) refl in
    ap inverse_wht (sym block)

-- and without a token
wht_none : inverse_wht (replicate 16 (pos 0)) ≡ replicate 16 (pos 0)
unfolding int_wrap wht_pass wht_column inverse_wht_at
wht_none = refl

pub y2_none : (factors : Factors) → replicate 16 (pos 0) ≡ y2_results factors (replicate 16 (pos 0))
unfolding y2_results block_with
y2_none factors =
    let block : dequantised (replicate 16 (pos 0)) factors.y2_dc factors.y2_ac ≡ replicate 16 (pos 0) = rw (no_product factors.y2_dc, no_product factors.y2_ac) refl in
    sym (ap inverse_wht block ∙ wht_none)

-- what is looked at of Y2, and of blocks that begin with their first coefficient
pub own_block : (y2 : Bool) (tokens : Tokens) (k : ℕ) → 16 ≤ k → k < 25 → slice_index_or (without_stale y2 tokens).coefficients k [] ≡ own_coefficients false tokens k
own_block true tokens k past less = own_at true tokens k less ∙ rw (le-ltb k 16 past) refl
own_block false tokens k past less = own_at false tokens k less

pub y2_held : (y2 : Bool) (tokens : Tokens) → EndsHold (without_stale y2 tokens) → slice_index_or tokens.ends 24 0 ≤ 1 → IsFirstAlone (own_coefficients false tokens 24)
y2_held y2 tokens held few =
    let ends = rw (own_ends y2 tokens) at held 24 (omega arith) in
    let alone : IsFirstAlone (slice_index_or (without_stale y2 tokens).coefficients 24 []) = ends few in
    let own = own_block y2 tokens 24 (omega arith) (omega arith) in
    rw own at alone

-- a block by its end, where stale coefficients are not looked at
by_end : (end : ℕ) (stale own : List ℤ) (first ac : ℤ) → (1 < end → own ≡ stale) → (end ≤ 1 → IsFirstAlone own) → (if nat_lt 1 end then with_others stale first ac else first ∷ replicate 15 (pos 0)) ≡ with_others own first ac
by_end end stale own first ac same held = elim (cases_lt 1 end) [
  | inl more ↦ rw (lt-ltb 1 end more, same more) refl
  | inr few ↦ rw (le-ltb 1 end few) (sym (alone own first ac (held few)))
]

-- a dequantised block by its first coefficient and its others
first_known : (coefficients : List ℤ) (dc ac : ℤ) → with_others coefficients (slice_index_or (dequantised coefficients dc ac) 0 (pos 0)) ac ≡ dequantised coefficients dc ac
first_known coefficients dc ac = refl

first_given : (firsts : Option (List ℤ)) (k : ℕ) (coefficients : List ℤ) (dc ac : ℤ) →
    with_others coefficients (slice_index_or (with_first firsts k (block_with coefficients dc ac)) 0 (pos 0)) ac ≡ with_first firsts k (block_with coefficients dc ac)
unfolding block_with
first_given None k coefficients dc ac = refl
first_given (Some firsts) k coefficients dc ac = refl

chroma_first : (coefficients : List ℤ) (dc ac : ℤ) → with_others coefficients (slice_index_or (block_with coefficients dc ac) 0 (pos 0)) ac ≡ block_with coefficients dc ac
unfolding block_with
chroma_first coefficients dc ac = refl

kept_is : (factors : Factors) (y2 : Bool) (tokens : Tokens) (k : ℕ) → k < 24 → EndsHold tokens →
    (let block = block_of factors (firsts_of factors y2 tokens.coefficients) tokens.coefficients k in let ac = if nat_lt k 16 then factors.y_ac else factors.uv_ac in with_others (slice_index_or tokens.coefficients k []) (slice_index_or block 0 (pos 0)) ac ≡ block)
unfolding block_of
kept_is factors y2 tokens k within held = elim (cases_lt k 16) [
  | inl luma ↦ rw (lt-ltb k 16 luma) (first_given (firsts_of factors y2 tokens.coefficients) k (slice_index_or tokens.coefficients k []) factors.y_dc factors.y_ac)
  | inr chroma ↦ rw (le-ltb k 16 chroma) (chroma_first (slice_index_or tokens.coefficients k []) factors.uv_dc factors.uv_ac)
]

-- all blocks
pub kept_all : (factors : Factors) (y2 : Bool) (tokens : Tokens) (firsts : List ℤ) → EndsHold (without_stale y2 tokens) →
    ((k : ℕ) → k < 24 → slice_index_or firsts k (pos 0) ≡ slice_index_or (block_of factors (firsts_of factors y2 (without_stale y2 tokens).coefficients) (without_stale y2 tokens).coefficients k) 0 (pos 0)) → kept_blocks tokens firsts factors ≡ blocks_of factors y2 (without_stale y2 tokens).coefficients
unfolding kept_blocks blocks_of
kept_all factors y2 tokens firsts held first_is =
    let own : List (List ℤ) = (without_stale y2 tokens).coefficients in
    fill_by_all (block_of factors (firsts_of factors y2 own) own) (map (kept_block tokens firsts factors) (range_with_len 0 24)) 24 [] (length-map-range_with_len (kept_block tokens firsts factors) 0 24)
    (λ k less.
    let there : 0 + k ≡ k = omega arith in
    let inside : k < 25 = omega arith in
    let few = rw (own_ends y2 tokens) at held k inside in
    get_or-map-range_with_len (kept_block tokens firsts factors) 0 24 k k [] less there
    ∙ by_end (slice_index_or tokens.ends k 0) (slice_index_or tokens.coefficients k []) (slice_index_or own k []) (slice_index_or firsts k (pos 0)) (if nat_lt k 16 then factors.y_ac else factors.uv_ac) (own_more y2 tokens k inside) few
    ∙ rw (first_is k less) (kept_is factors y2 (without_stale y2 tokens) k less held))

-- one of them
pub kept_at : (tokens : Tokens) (firsts : List ℤ) (factors : Factors) (k : ℕ) → k < 24 → slice_index_or (kept_blocks tokens firsts factors) k [] ≡ kept_block tokens firsts factors k
unfolding kept_blocks
kept_at tokens firsts factors k less =
    let there : 0 + k ≡ k = omega arith in
    get_or-map-range_with_len (kept_block tokens firsts factors) 0 24 k k [] less there

-- by its end
pub kept_first : (tokens : Tokens) (firsts : List ℤ) (factors : Factors) (k : ℕ) (blocks : List (List ℤ)) → k < 24 → kept_blocks tokens firsts factors ≡ blocks → slice_index_or tokens.ends k 0 ≤ 1 → slice_index_or blocks k [] ≡ slice_index_or firsts k (pos 0) ∷ replicate 15 (pos 0)
kept_first tokens firsts factors k blocks less is few = rw (← is, kept_at tokens firsts factors k less, le-ltb 1 (slice_index_or tokens.ends k 0) few) refl

pub kept_others : (tokens : Tokens) (firsts : List ℤ) (factors : Factors) (k : ℕ) (blocks : List (List ℤ)) → k < 24 → kept_blocks tokens firsts factors ≡ blocks → 1 < slice_index_or tokens.ends k 0 →
    slice_index_or blocks k [] ≡ with_others (slice_index_or tokens.coefficients k []) (slice_index_or firsts k (pos 0)) (if nat_lt k 16 then factors.y_ac else factors.uv_ac)
kept_others tokens firsts factors k blocks less is more = rw (← is, kept_at tokens firsts factors k less, lt-ltb 1 (slice_index_or tokens.ends k 0) more) refl

-- the first coefficient of a block
pub chroma_own : (factors : Factors) (firsts : Option (List ℤ)) (coefficients : List (List ℤ)) (k : ℕ) → 16 ≤ k → reduced (slice_index_or (slice_index_or coefficients k []) 0 (pos 0) *ℤ factors.uv_dc) ≡ slice_index_or (block_of factors firsts coefficients k) 0 (pos 0)
unfolding block_of block_with
chroma_own factors firsts coefficients k chroma = rw (le-ltb k 16 chroma) refl

pub luma_own : (factors : Factors) (coefficients : List (List ℤ)) (k : ℕ) → k < 16 → reduced (slice_index_or (slice_index_or coefficients k []) 0 (pos 0) *ℤ factors.y_dc) ≡ slice_index_or (block_of factors None coefficients k) 0 (pos 0)
unfolding block_of block_with
luma_own factors coefficients k luma = rw (lt-ltb k 16 luma) refl

pub luma_given : (factors : Factors) (results : List ℤ) (coefficients : List (List ℤ)) (k : ℕ) → k < 16 → slice_index_or results k (pos 0) ≡ slice_index_or (block_of factors (Some results) coefficients k) 0 (pos 0)
unfolding block_of block_with
luma_given factors results coefficients k luma = rw (lt-ltb k 16 luma) refl

-- the flags are those of what was read
pub own_flags : (y2 : Bool) (tokens : Tokens) →
    (let own : Flags = record { above = (without_stale y2 tokens).above; left = (without_stale y2 tokens).left; has_tokens = has_tokens y2 (without_stale y2 tokens) } in own ≡ record { above = tokens.above; left = tokens.left; has_tokens = has_tokens y2 tokens })
unfolding without_stale has_tokens
own_flags y2 tokens = refl
