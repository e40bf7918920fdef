-- The bits of the first partitions of forged packets, each with its probability, in the order in which they are written.
use Rattle.std.specs.Prelude.{ℕ, zero, suc, ◌*◌, ◌/◌, ◌%◌, ◌==◌, nat_lt, ◌&&◌, ◌||◌, Bool, true, false, if◌then◌else◌, List, [], ◌∷◌, ◌++◌, map, replicate, slice_index_or}
use Rattle.bool_coder.specs.Reader.{bits_of}
use Rattle.vp8_tables.specs.declared.vectors.TheConstants.{VECTOR_UPDATE_PROBABILITIES}

-- a zero at each of these probabilities
abbrev pub zeros_at : List ℕ → List (Bool × ℕ)
zeros_at probabilities = map (λ probability. (false, probability)) probabilities

-- this many zeros at even odds
abbrev pub zeros : ℕ → List (Bool × ℕ)
zeros count = zeros_at (replicate count 128)

-- a number of 8 bits at even odds, most significant first
abbrev pub byte_pairs : ℕ → List (Bool × ℕ)
byte_pairs number = map (λ bit. (bit == 1, 128)) (bits_of 8 number)

-- mb_no_coeff_skip is 1, and prob_skip_false is 1: a macroblock has coefficients with probability 1 in 256 (RFC 6386, section 9.11)
abbrev pub skip_pairs : List (Bool × ℕ)
skip_pairs = (true, 128) ∷ byte_pairs 1

-- the header of a key frame: its fields are 0, and no probability of coefficients is updated (RFC 6386, section 19.2)
unfoldable pub blank_header : List ℕ → List (Bool × ℕ)
blank_header updates = zeros 29 ++ zeros_at updates ++ skip_pairs

-- a macroblock of a key frame that is skipped, with mode DC for luma and chroma (RFC 6386, sections 11.1 to 11.4)
abbrev pub blank_macroblock : List (Bool × ℕ)
blank_macroblock = (true, 1) ∷ (true, 145) ∷ (false, 156) ∷ (false, 163) ∷ (false, 142) ∷ []

-- the probabilities with which a frame updates the probabilities of vectors, row and then column (RFC 6386, section 17.2)
abbrev pub vector_updates : List ℕ
vector_updates = slice_index_or VECTOR_UPDATE_PROBABILITIES 0 [] ++ slice_index_or VECTOR_UPDATE_PROBABILITIES 1 []

-- prob_intra, prob_last and prob_gf, and two flags that leave the probabilities of the modes unchanged (RFC 6386, section 9.10)
abbrev pub reference_pairs : List (Bool × ℕ)
reference_pairs = byte_pairs 1 ++ byte_pairs 255 ++ byte_pairs 128 ++ zeros 2

-- the header of a frame that refreshes no reference and updates no probability (RFC 6386, section 19.2)
unfoldable pub hold_header : List ℕ → List (Bool × ℕ)
hold_header updates = zeros 36 ++ zeros_at updates ++ skip_pairs ++ reference_pairs ++ zeros_at vector_updates

-- the probability of a zero vector if neither of the macroblocks above and to the left is in the frame, one of them is,
-- or both are (RFC 6386, section 16.3)
abbrev pub zero_vector_probability : Bool → Bool → ℕ
zero_vector_probability has_above has_left = if has_above && has_left then 234 else if has_above || has_left then 135 else 7

-- the macroblock at an index in a frame with this many columns: it is skipped, and predicted from the last frame by a zero
-- vector (RFC 6386, sections 11.1, 16.2 and 16.3)
abbrev pub hold_macroblock : ℕ → ℕ → List (Bool × ℕ)
hold_macroblock columns place =
    (true, 1) ∷ (true, 1) ∷ (false, 255) ∷ (false, zero_vector_probability (nat_lt 0 (place / columns)) (nat_lt 0 (place % columns))) ∷ []

-- the first macroblocks, this many, in raster order
unfoldable pub macroblock_pairs : (ℕ → List (Bool × ℕ)) → ℕ → List (Bool × ℕ)
macroblock_pairs pairs zero = []
macroblock_pairs pairs (suc place) = macroblock_pairs pairs place ++ pairs place

-- a blank frame of this many macroblocks
abbrev pub blank_pairs : List ℕ → ℕ → List (Bool × ℕ)
blank_pairs updates count = blank_header updates ++ macroblock_pairs (λ place. blank_macroblock) count

-- a hold frame with this many columns and rows of macroblocks
abbrev pub hold_pairs : List ℕ → ℕ → ℕ → List (Bool × ℕ)
hold_pairs updates columns rows = hold_header updates ++ macroblock_pairs (hold_macroblock columns) (columns * rows)
