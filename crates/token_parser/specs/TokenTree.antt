-- The tree of tokens and their sizes (RFC 6386, section 13.2).
use Rattle.std.specs.Prelude.{ℕ, ◌+◌, ◌-◌, ◌*◌, Bool, nat_lt, ℤ, pos, negsuc, List, [], ◌∷◌, length, slice_index_or, if◌then◌else◌}
use Rattle.std.specs.Int.{from_bool}
use Rattle.bool_coder.specs.Reader.{read}
use Rattle.bool_coder.specs.Reading.{Reading, ◌>>=◌, give}
use Rattle.bool_coder.specs.Trees.{leaf_below}

-- the tree (`coeff_tree` in RFC 6386): its leaves are the sizes 0 to 4, 5 to 10 for the six categories of larger sizes (`dct_cat1` to
-- `dct_cat6`), and 11 for the end of a block (`dct_eob`)
abbrev pub token_tree : List ℤ
token_tree = negsuc 10 ∷ pos 2 ∷ pos 0 ∷ pos 4 ∷ negsuc 0 ∷ pos 6 ∷ pos 8 ∷ pos 12 ∷ negsuc 1 ∷ pos 10 ∷ negsuc 2 ∷ negsuc 3 ∷ pos 14 ∷ pos 16 ∷ negsuc 4 ∷ negsuc 5 ∷ pos 18 ∷ pos 20 ∷ negsuc 6 ∷ negsuc 7 ∷ negsuc 8 ∷ negsuc 9 ∷ []

abbrev pub end_of_block : ℕ
end_of_block = 11

-- a token; no block ends right after a 0, and reading starts at the second node there (section 13.2)
abbrev pub token : List ℕ → Bool → Reading ℕ
token nodes after_zero = leaf_below (length token_tree) token_tree nodes (if after_zero then 2 else 0)

-- the least size of each category, and the probabilities of the extra bits (`Pcat1` to `Pcat6` in RFC 6386)
abbrev pub categories : List (ℕ × List ℕ)
categories = (5, 159 ∷ []) ∷ (7, 165 ∷ 145 ∷ []) ∷ (11, 173 ∷ 148 ∷ 140 ∷ []) ∷ (19, 176 ∷ 155 ∷ 140 ∷ 135 ∷ []) ∷ (35, 180 ∷ 157 ∷ 141 ∷ 134 ∷ 130 ∷ []) ∷ (67, 254 ∷ 254 ∷ 243 ∷ 230 ∷ 196 ∷ 177 ∷ 153 ∷ 140 ∷ 133 ∷ 130 ∷ 129 ∷ []) ∷ []

-- the number whose bits, one for each probability, follow those of `value`, most significant first
unfoldable pub more_extra_bits : List ℕ → ℕ → Reading ℕ
more_extra_bits [] value = give value
more_extra_bits (prob ∷ probs) value = do
  bit ← read prob
  more_extra_bits probs (2 * value + from_bool bit)

-- a size of a category
unfoldable pub size_in : ℕ → List ℕ → Reading ℕ
size_in least probs = do
  extra ← more_extra_bits probs 0
  give (least + extra)

-- the size of a token that is not the end of the block
unfoldable pub size_of : ℕ → Reading ℕ
size_of t = if nat_lt t 5 then give t else (let category = slice_index_or categories (t - 5) (0, []) in size_in category.0 category.1)
