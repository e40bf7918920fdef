-- One more token of a block
use Rattle.std.proofs.Common.{◌≡◌, ℕ, suc, ◌+◌, ◌-◌, ◌<◌, Bool, true, false, List, refl, sym, ◌∙◌, arith}
use Rattle.std.specs.Prelude.{ℤ, slice_index, slice_set, ◌==◌, ◌&&◌, not, min}
use Rattle.std.proofs.lemmas.Bool.{and_parts}
use Rattle.bool_coder.specs.Reader.{Reader, read}
use Rattle.bool_coder.specs.Trees.{leaf_below}
use Rattle.token_parser.specs.declared.places.TheConstants.{ZIGZAG}
use Rattle.token_parser.specs.TokenTree.{token_tree, end_of_block, token, size_of}
use Rattle.token_parser.specs.Walks.{size_below}
use Rattle.token_parser.specs.Tokens.{nodes_at, signed_size, tokens_from}
use Rattle.token_parser.proofs.Leaves.{all_below, leaf_below-more, leaf_below-test}

-- a token with a size
abbrev is_size : ℕ → Bool
is_size t = not (t == end_of_block) && not (t == 0)

-- all tokens in the middle of the tree have one, and six bits are enough for them
middle : all_below 6 token_tree is_size 4 ≡ true
middle = refl

middle-test : (nodes : List ℕ) (r : Reader) → is_size (leaf_below 6 token_tree nodes 4 r).0 ≡ true
middle-test nodes r = leaf_below-test 6 token_tree is_size nodes 4 r middle

-- the first bit ends a block
token-end : (nodes : List ℕ) (r s : Reader) (bit : Bool) → read (slice_index nodes 0) r ≡ (bit, s) → bit ≡ false → token nodes false r ≡ (end_of_block, s)
unfolding leaf_below
token-end nodes r s bit tokens_read is = rw (tokens_read, is) refl

-- or leads to the node where a token is read after a 0
token-more : (nodes : List ℕ) (r s : Reader) (bit : Bool) → read (slice_index nodes 0) r ≡ (bit, s) → bit ≡ true → token nodes false r ≡ leaf_below 21 token_tree nodes 2 s
unfolding leaf_below
token-more nodes r s bit tokens_read is = rw (tokens_read, is) refl

-- there the first bit decides whether it is a 0
zero-token : (bits : ℕ) (nodes : List ℕ) (r s : Reader) (bit : Bool) → read (slice_index nodes 1) r ≡ (bit, s) → bit ≡ false → leaf_below (suc bits) token_tree nodes 2 r ≡ (0, s)
unfolding leaf_below
zero-token bits nodes r s bit tokens_read is = rw (tokens_read, is) refl

-- or leads to the sizes
some-token : (bits : ℕ) (nodes : List ℕ) (r s : Reader) (bit : Bool) → read (slice_index nodes 1) r ≡ (bit, s) → bit ≡ true → leaf_below (suc bits) token_tree nodes 2 r ≡ leaf_below bits token_tree nodes 4 s
unfolding leaf_below
some-token bits nodes r s bit tokens_read is = rw (tokens_read, is) refl

-- the number of bits that may be read after a 0 does not matter
second-node : (nodes : List ℕ) (r : Reader) → leaf_below 21 token_tree nodes 2 r ≡ leaf_below 22 token_tree nodes 2 r
second-node nodes r =
    leaf_below-more 7 14 token_tree (λ t. true) nodes 2 r refl ∙ sym (leaf_below-more 7 15 token_tree (λ t. true) nodes 2 r refl)

-- a token that ends the block
ended : (more : ℕ) (probs : List ℕ) (kind place context : ℕ) (after_zero : Bool) (coefficients : List ℤ) (r s : Reader) → token (nodes_at probs kind place context) after_zero r ≡ (end_of_block, s) → tokens_from (suc more) probs kind place context after_zero coefficients r ≡ ((coefficients, place), s)
unfolding tokens_from
ended more probs kind place context after_zero coefficients r s tokens_read = rw tokens_read refl

-- a 0
passed : (more : ℕ) (probs : List ℕ) (kind place context : ℕ) (after_zero : Bool) (coefficients : List ℤ) (r s : Reader) → token (nodes_at probs kind place context) after_zero r ≡ (0, s) → tokens_from (suc more) probs kind place context after_zero coefficients r ≡ tokens_from more probs kind (place + 1) 0 true coefficients s
unfolding tokens_from
passed more probs kind place context after_zero coefficients r s tokens_read = rw tokens_read refl

-- a size and its sign
stored : (more : ℕ) (probs : List ℕ) (kind place context : ℕ) (after_zero : Bool) (coefficients : List ℤ) (t size : ℕ) (value : ℤ) (r s u v : Reader) → token (nodes_at probs kind place context) after_zero r ≡ (t, s) → (t == end_of_block) ≡ false → (t == 0) ≡ false → size_of t s ≡ (size, u) → signed_size size u ≡ (value, v) → tokens_from (suc more) probs kind place context after_zero coefficients r ≡ tokens_from more probs kind (place + 1) (min size 2) false (slice_set coefficients (slice_index ZIGZAG place) value) v
unfolding tokens_from
stored more probs kind place context after_zero coefficients t size value r s u v tokens_read ends zeros sized signed = rw (tokens_read, ends, zeros, sized, signed) refl

-- two readings of one token continue alike
alike : (more : ℕ) (probs : List ℕ) (kind place context : ℕ) (coefficients : List ℤ) (r s : Reader) → token (nodes_at probs kind place context) false r ≡ token (nodes_at probs kind place context) true s → tokens_from (suc more) probs kind place context false coefficients r ≡ tokens_from (suc more) probs kind place context true coefficients s
unfolding tokens_from
alike more probs kind place context coefficients r s same = rw same refl

not-true : (b : Bool) → not b ≡ true → b ≡ false
not-true true is = absurd (cc)
not-true false is = refl

-- the same steps at an index of the 16
pub end-step : (probs nodes : List ℕ) (kind place context : ℕ) (coefficients : List ℤ) (r s : Reader) (bit : Bool) → nodes ≡ nodes_at probs kind place context → place < 16 → read (slice_index nodes 0) r ≡ (bit, s) → bit ≡ false → tokens_from (16 - place) probs kind place context false coefficients r ≡ ((coefficients, place), s)
end-step probs nodes kind place context coefficients r s bit are below tokens_read is =
    let one_more : 16 - place ≡ suc (16 - (place + 1)) = omega arith in
    let there = rw are at tokens_read in
    rw one_more (ended _ _ _ _ _ _ _ _ _ (token-end _ _ _ _ there is))

pub more-step : (probs nodes : List ℕ) (kind place context : ℕ) (coefficients : List ℤ) (r s : Reader) (bit : Bool) → nodes ≡ nodes_at probs kind place context → place < 16 → read (slice_index nodes 0) r ≡ (bit, s) → bit ≡ true → tokens_from (16 - place) probs kind place context false coefficients r ≡ tokens_from (16 - place) probs kind place context true coefficients s
more-step probs nodes kind place context coefficients r s bit are below tokens_read is =
    let one_more : 16 - place ≡ suc (16 - (place + 1)) = omega arith in
    let there = rw are at tokens_read in
    rw one_more (alike _ _ _ _ _ _ _ _ (token-more _ _ _ _ there is ∙ second-node _ _))

pub zero-step : (probs nodes : List ℕ) (kind place context : ℕ) (coefficients : List ℤ) (r s : Reader) (bit : Bool) → nodes ≡ nodes_at probs kind place context → place < 16 → read (slice_index nodes 1) r ≡ (bit, s) → bit ≡ false → tokens_from (16 - place) probs kind place context true coefficients r ≡ tokens_from (16 - (place + 1)) probs kind (place + 1) 0 true coefficients s
zero-step probs nodes kind place context coefficients r s bit are below tokens_read is =
    let one_more : 16 - place ≡ suc (16 - (place + 1)) = omega arith in
    let there = rw are at tokens_read in
    rw one_more (passed _ _ _ _ _ _ _ _ _ (zero-token _ _ _ _ _ there is))

pub some-step : (probs nodes : List ℕ) (kind place context : ℕ) (coefficients : List ℤ) (size : ℕ) (value : ℤ) (r s t u : Reader) (bit : Bool) → nodes ≡ nodes_at probs kind place context → place < 16 → read (slice_index nodes 1) r ≡ (bit, s) → bit ≡ true → size_below 6 nodes 4 s ≡ (size, t) → signed_size size t ≡ (value, u) → tokens_from (16 - place) probs kind place context true coefficients r ≡ tokens_from (16 - (place + 1)) probs kind (place + 1) (min size 2) false (slice_set coefficients (slice_index ZIGZAG place) value) u
some-step probs nodes kind place context coefficients size value r s t u bit are below tokens_read is sized signed =
    let one_more : 16 - place ≡ suc (16 - (place + 1)) = omega arith in
    let at_place = nodes_at probs kind place context in
    let there = rw are at tokens_read in
    let token_there = leaf_below 6 token_tree at_place 4 s in
    let sized_there = rw are at sized in
    let tests = and_parts _ _ (middle-test at_place s) in
    rw one_more (stored _ _ _ _ _ _ _ token_there.0 _ _ _ token_there.1 _ _ (some-token 21 _ _ _ _ there is ∙ leaf_below-more 6 15 token_tree is_size at_place 4 s middle) (not-true _ tests.0) (not-true _ tests.1) sized_there signed)

-- after the last of the 16 nothing is read
pub last-step : (probs : List ℕ) (kind place context : ℕ) (after_zero : Bool) (coefficients : List ℤ) (r : Reader) → place ≡ 16 → tokens_from (16 - place) probs kind place context after_zero coefficients r ≡ ((coefficients, 16), r)
unfolding tokens_from
last-step probs kind place context after_zero coefficients r all = rw all refl
