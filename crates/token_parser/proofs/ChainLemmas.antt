-- The tokens of a macroblock are a chain of reads.
use Rattle.std.proofs.Common.{ℕ, zero, suc, ◌+◌, ◌*◌, Bool, true, false, List, [], ◌∷◌, refl}
use Rattle.std.specs.Prelude.{ℤ, ◌-◌, ◌==◌, ◌||◌, nat_lt, min, slice_index, slice_index_or, slice_set}
use Rattle.bool_coder.specs.Chains.{AreProbabilities, IsChain}
use Rattle.bool_coder.proofs.Chains.{chains, are_bytes, probabilities, part-probabilities, bind-chain, if-chain, give-chain, read-chain, leaf_below-chain}
use Rattle.std.specs.Int.{from_bool}
use Rattle.token_parser.specs.declared.places.TheConstants.{ZIGZAG}
use Rattle.token_parser.specs.declared.tokens.Tokens.{Tokens}
use Rattle.token_parser.specs.declared.block_position.BlockPosition.{BlockPosition}
use Rattle.token_parser.specs.TokenTree.{end_of_block, categories, token, more_extra_bits, size_in, size_of}
use Rattle.token_parser.specs.Tokens.{nodes_at, signed_size, tokens_from}
use Rattle.token_parser.specs.Blocks.{block, first_blocks, place_of}

more_extra_bits-chain : (probs : List ℕ) (value : ℕ) → AreProbabilities probs → IsChain (more_extra_bits probs value)
unfolding more_extra_bits
more_extra_bits-chain [] value small = give-chain value
more_extra_bits-chain (prob ∷ probs) value small = bind-chain (read-chain prob (small 0)) (λ bit. more_extra_bits-chain probs (2 * value + from_bool bit) (λ k. small (suc k)))

size_in-chain : (least : ℕ) (probs : List ℕ) → AreProbabilities probs → IsChain (size_in least probs)
unfolding size_in
size_in-chain least probs small = bind-chain (more_extra_bits-chain probs 0 small) (λ extra. give-chain (least + extra))

-- the bits above the least size of a category have fixed probabilities
category-small : (n : ℕ) → AreProbabilities (slice_index_or categories n (0, [])).1
unfolding are_bytes
category-small zero = probabilities (159 ∷ []) refl
category-small (suc zero) = probabilities (165 ∷ 145 ∷ []) refl
category-small (suc (suc zero)) = probabilities (173 ∷ 148 ∷ 140 ∷ []) refl
category-small (suc (suc (suc zero))) = probabilities (176 ∷ 155 ∷ 140 ∷ 135 ∷ []) refl
category-small (suc (suc (suc (suc zero)))) = probabilities (180 ∷ 157 ∷ 141 ∷ 134 ∷ 130 ∷ []) refl
category-small (suc (suc (suc (suc (suc zero))))) = probabilities (254 ∷ 254 ∷ 243 ∷ 230 ∷ 196 ∷ 177 ∷ 153 ∷ 140 ∷ 133 ∷ 130 ∷ 129 ∷ []) refl
category-small (suc (suc (suc (suc (suc (suc n)))))) = probabilities [] refl

size_of-chain : (t : ℕ) → IsChain (size_of t)
unfolding size_of
size_of-chain t =
    let category : ℕ × List ℕ = slice_index_or categories (t - 5) (0, []) in
    if-chain (nat_lt t 5) (give-chain t) (size_in-chain category.0 category.1 (category-small (t - 5)))

token-chain : (nodes : List ℕ) (after_zero : Bool) → AreProbabilities nodes → IsChain (token nodes after_zero)
token-chain nodes after_zero small = leaf_below-chain _ _ nodes _ small

signed_size-chain : (size : ℕ) → IsChain (signed_size size)
unfolding signed_size
signed_size-chain size = search chains

tokens_from-chain : (more : ℕ) (probs : List ℕ) (kind place context : ℕ) (after_zero : Bool) (coefficients : List ℤ) → AreProbabilities probs → IsChain (tokens_from more probs kind place context after_zero coefficients)
unfolding tokens_from
tokens_from-chain zero probs kind place context after_zero coefficients small = give-chain (coefficients, place)
tokens_from-chain (suc more) probs kind place context after_zero coefficients small =
    let here : IsChain (token (nodes_at probs kind place context) after_zero) = token-chain (nodes_at probs kind place context) after_zero (part-probabilities probs _ _ small) in
    let later : (place context : ℕ) (after_zero : Bool) (coefficients : List ℤ) → IsChain (tokens_from more probs kind place context after_zero coefficients) = λ place context after_zero coefficients. tokens_from-chain more probs kind place context after_zero coefficients small in
    bind-chain here (λ t. if-chain (t == end_of_block) (give-chain (coefficients, place)) (if-chain (t == 0) (later (place + 1) 0 true coefficients) (
    bind-chain (size_of-chain t) (λ size. bind-chain (signed_size-chain size) (λ value. later (place + 1) (min size 2) false (slice_set coefficients (slice_index ZIGZAG place) value))))))

block-chain : (probs : List ℕ) (at : BlockPosition) (before : Tokens) → AreProbabilities probs → IsChain (block probs at before)
unfolding block
block-chain probs at before small =
    let tokens : (more kind place context : ℕ) (after_zero : Bool) (coefficients : List ℤ) → IsChain (tokens_from more probs kind place context after_zero coefficients) = λ more kind place context after_zero coefficients. tokens_from-chain more probs kind place context after_zero coefficients small in
    search (chains, tokens)

pub first_blocks-chain : (k : ℕ) (probs : List ℕ) (has_y2 : Bool) (before : Tokens) → AreProbabilities probs → IsChain (first_blocks k probs has_y2 before)
unfolding first_blocks
first_blocks-chain zero probs has_y2 before small = give-chain before
first_blocks-chain (suc k) probs has_y2 before small =
    bind-chain (first_blocks-chain k probs has_y2 before small) (λ here. if-chain (nat_lt 0 k || has_y2) (block-chain probs (place_of has_y2 k) here small) (give-chain here))
