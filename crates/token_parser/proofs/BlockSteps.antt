-- The blocks of a macroblock, one after another
use Rattle.std.proofs.Common.{◌≡◌, ℕ, suc, ◌+◌, Bool, true, false, List, refl, add-one}
use Rattle.std.specs.Prelude.{nat_lt, ◌||◌}
use Rattle.bool_coder.specs.Reader.{Reader}
use Rattle.token_parser.specs.declared.block_position.BlockPosition.{BlockPosition}
use Rattle.token_parser.specs.declared.tokens.Tokens.{Tokens}
use Rattle.token_parser.specs.Blocks.{place_of, block, first_blocks}

-- before the first
pub first_blocks-zero : (probs : List ℕ) (has_y2 : Bool) (before : Tokens) (r : Reader) → first_blocks 0 probs has_y2 before r ≡ (before, r)
unfolding first_blocks
first_blocks-zero probs has_y2 before r = refl

-- without Y2 the first block is skipped
pub first_blocks-none : (probs : List ℕ) (before : Tokens) (r : Reader) → first_blocks 1 probs false before r ≡ (before, r)
unfolding first_blocks
first_blocks-none probs before r = refl

-- one more that is read
first_blocks-suc : (k : ℕ) (probs : List ℕ) (has_y2 : Bool) (at : BlockPosition) (before here there : Tokens) (r s t : Reader) → first_blocks k probs has_y2 before r ≡ (here, s) → (nat_lt 0 k || has_y2) ≡ true → place_of has_y2 k ≡ at → block probs at here s ≡ (there, t) → first_blocks (suc k) probs has_y2 before r ≡ (there, t)
unfolding first_blocks
first_blocks-suc k probs has_y2 at before here there r s t done is_read place tokens_read = rw (done, is_read, place, tokens_read) refl

pub first_blocks-more : (k : ℕ) (probs : List ℕ) (has_y2 : Bool) (at : BlockPosition) (before here there : Tokens) (r s t : Reader) → first_blocks k probs has_y2 before r ≡ (here, s) → (nat_lt 0 k || has_y2) ≡ true → place_of has_y2 k ≡ at → block probs at here s ≡ (there, t) → first_blocks (k + 1) probs has_y2 before r ≡ (there, t)
first_blocks-more k probs has_y2 at before here there r s t done is_read place tokens_read = rw add-one (first_blocks-suc k probs has_y2 at before here there r s t done is_read place tokens_read)
