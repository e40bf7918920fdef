-- The possible tokens, and the flags that a macroblock leaves unchanged
use Rattle.std.proofs.Common.{◌≡◌, ℕ, zero, suc, ◌<◌, ◌≤◌, Bool, true, false, List, [], refl, ◌∙◌, arith, slice_index_or}
use Rattle.std.specs.Prelude.{ℤ, nat_lt, nat_le, slice_set, ◌||◌, if◌then◌else◌}
use Rattle.std.proofs.lemmas.Bool.Decides.{nat_tests}
use Rattle.bool_coder.specs.Reader.{Reader}
use Rattle.bool_coder.specs.Trees.{leaf_below}
use Rattle.token_parser.specs.TokenTree.{token_tree, end_of_block, token}
use Rattle.token_parser.proofs.Leaves.{leaf_below-more, leaf_below-test}
use Rattle.std.proofs.lemmas.List.{get_or-set_other}
use Rattle.bool_coder.specs.Reading.{give}
use Rattle.token_parser.specs.declared.tokens.Tokens.{Tokens}
use Rattle.token_parser.specs.declared.block_position.BlockPosition.{BlockPosition}
use Rattle.token_parser.specs.Worked.{HasSameY2}
use Rattle.token_parser.specs.Blocks.{place_of, block, first_blocks}

pub token-after_a_zero : (nodes : List ℕ) (r : Reader) → (token nodes true r).0 < end_of_block
token-after_a_zero nodes r =
    let small : nat_lt (leaf_below 7 token_tree nodes 2 r).0 11 ≡ true = leaf_below-test 7 token_tree (λ t. nat_lt t 11) nodes 2 r refl in
    rw (leaf_below-more 7 15 token_tree (λ t. true) nodes 2 r refl) (grind (arith, nat_tests, small))

pub token-any : (nodes : List ℕ) (r : Reader) → (token nodes false r).0 ≤ end_of_block
token-any nodes r =
    let small : nat_le (leaf_below 7 token_tree nodes 0 r).0 11 ≡ true = leaf_below-test 7 token_tree (λ t. nat_le t 11) nodes 0 r refl in
    rw (leaf_below-more 7 15 token_tree (λ t. true) nodes 0 r refl) (grind (arith, nat_tests, small))

-- blocks after Y2 have flags of their own
place_of-above : (k : ℕ) → 0 < k → (place_of false k).above < 8
place_of-above k some = grind (arith, nat_tests)

place_of-left : (k : ℕ) → 0 < k → k < 25 → (place_of false k).left < 8
place_of-left k some below = grind (arith, nat_tests)

place_of-index : (k : ℕ) → 0 < k → k < 25 → (place_of false k).index < 24
place_of-index k some below = grind (arith, nat_tests)

-- a write below an index
keeps : {A : Type 0} (xs : List A) (i j : ℕ) (x d : A) → i < j → slice_index_or (slice_set xs i x) j d ≡ slice_index_or xs j d
keeps xs i j x d below = get_or-set_other xs i j x d (omega arith)

written-y2 : (before : Tokens) (above left index : ℕ) (x y : Bool) (coefficients : List ℤ) (end : ℕ) → above < 8 → left < 8 → index < 24 → HasSameY2 before (record { above = slice_set before.above above x; left = slice_set before.left left y; coefficients = slice_set before.coefficients index coefficients; ends = slice_set before.ends index end })
written-y2 before above left index x y coefficients end is_above is_left is_index = record {
  above = keeps before.above above 8 x false is_above;
  left = keeps before.left left 8 y false is_left;
  coefficients = keeps before.coefficients index 24 coefficients [] is_index;
  end = keeps before.ends index 24 end 0 is_index;
}

block-y2 : (probs : List ℕ) (at : BlockPosition) (before : Tokens) (r : Reader) → at.above < 8 → at.left < 8 → at.index < 24 → HasSameY2 before (block probs at before r).0
unfolding block
block-y2 probs at before r above left index = written-y2 before at.above at.left at.index _ _ _ _ above left index

HasSameY2-trans : (a b c : Tokens) → HasSameY2 a b → HasSameY2 b c → HasSameY2 a c
HasSameY2-trans a b c p q = record { above = q.above ∙ p.above; left = q.left ∙ p.left; coefficients = q.coefficients ∙ p.coefficients; end = q.end ∙ p.end }

-- the blocks after Y2 leave it unchanged
pub first_blocks-y2 : (k : ℕ) (probs : List ℕ) (before : Tokens) (r : Reader) → k ≤ 25 → HasSameY2 before (first_blocks k probs false before r).0
unfolding first_blocks
first_blocks-y2 zero probs before r most = record { above = refl; left = refl; coefficients = refl; end = refl }
first_blocks-y2 (suc k) probs before r most =
    let here = first_blocks k probs false before r in
    let past = first_blocks-y2 k probs before r (omega arith) in
    let read_here : (nat_lt 0 k || false) ≡ true → HasSameY2 before (block probs (place_of false k) here.0 here.1).0 = λ is. (let some : 0 < k = grind (arith, nat_tests, is) in let below : k < 25 = omega arith in HasSameY2-trans _ _ _ past (block-y2 _ _ _ _ (place_of-above k some) (place_of-left k some below) (place_of-index k some below))) in
    elim (nat_lt 0 k || false) as (λ b. (nat_lt 0 k || false) ≡ b → HasSameY2 before ((if b then block probs (place_of false k) here.0 else give here.0) here.1).0) [ true ↦ read_here | false ↦ λ is. past ] refl
