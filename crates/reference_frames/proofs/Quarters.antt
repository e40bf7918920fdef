-- The samples of a macroblock that is predicted from a reference, block by block.
use Rattle.std.specs.Prelude.{slice_index_or}
use Rattle.std.proofs.Common.{◌≡◌, inl, inr, ℕ, true, false, ◌+◌, ◌*◌, ◌/◌, ◌%◌, ◌<◌, ◌≤◌, List, ℤ, pos, ◌+ℤ◌, ◌*ℤ◌, refl, ap, ◌∙◌, arith}
use Rattle.std.proofs.lemmas.Bool.{cases_lt}
use Rattle.inter_predict.specs.InterSample.{inter_sample}
use Rattle.inter_predict.specs.declared.kinds.Kind.{Kind}
use Rattle.mode_parser.specs.ChromaVectors.{chroma_component, group_vector}
use Rattle.mode_parser.specs.SplitModes.{is_split}
use Rattle.mode_parser.specs.Vectors.{MotionVector, zero_vector}
use Rattle.mode_parser.specs.declared.records.VectorMode.{VectorMode}
use Rattle.pixel_planes.specs.Samples.{Samples}
use Rattle.reference_frames.specs.InterPrediction.{kind_of, block_vector, luma_block, luma_sample, chroma_group, chroma_sample}
use Rattle.reference_frames.specs.PlacedBlocks.{IsInSquare}

-- the first block of a quarter
abbrev pub first_block : ℕ → ℕ
first_block quarter = 8 * (quarter / 2) + 2 * (quarter % 2)

-- a vector in eighths is this block's
abbrev pub IsOfBlock : List MotionVector → ℕ → ℤ × ℤ → Type 0
IsOfBlock vectors n vector = (vector.0 ≡ pos 2 *ℤ (slice_index_or vectors n zero_vector).x) × (vector.1 ≡ pos 2 *ℤ (slice_index_or vectors n zero_vector).y)

-- a sample goes by the vector of its block
by_block : (kind : Kind) (p : Samples) (mx my : ℕ) (vectors : List MotionVector) (n i j : ℕ) (vector : ℤ × ℤ) → IsOfBlock vectors n vector → luma_block i j ≡ n → inter_sample kind p (pos (16 * mx + i)) (pos (16 * my + j)) vector.0 vector.1 ≡ luma_sample kind p mx my (λ k. slice_index_or vectors k zero_vector) i j
by_block kind p mx my vectors n i j vector is at = rw (at, is.0, is.1) refl

-- the blocks of a quarter's four squares
pub in_first : (kind : Kind) (p : Samples) (mx my : ℕ) (vectors : List MotionVector) (q i j : ℕ) (vector : ℤ × ℤ) → IsOfBlock vectors (first_block q) vector → IsInSquare (8 * (q % 2)) (8 * (q / 2)) 4 i j → inter_sample kind p (pos (16 * mx + i)) (pos (16 * my + j)) vector.0 vector.1 ≡ luma_sample kind p mx my (λ k. slice_index_or vectors k zero_vector) i j
in_first kind p mx my vectors q i j vector is inside = by_block kind p mx my vectors (first_block q) i j vector is (omega (arith, inside.0, inside.1, inside.2, inside.3))

pub in_second : (kind : Kind) (p : Samples) (mx my : ℕ) (vectors : List MotionVector) (q i j : ℕ) (vector : ℤ × ℤ) → IsOfBlock vectors (first_block q + 1) vector → IsInSquare (8 * (q % 2) + 4) (8 * (q / 2)) 4 i j → inter_sample kind p (pos (16 * mx + i)) (pos (16 * my + j)) vector.0 vector.1 ≡ luma_sample kind p mx my (λ k. slice_index_or vectors k zero_vector) i j
in_second kind p mx my vectors q i j vector is inside = by_block kind p mx my vectors (first_block q + 1) i j vector is (omega (arith, inside.0, inside.1, inside.2, inside.3))

pub in_third : (kind : Kind) (p : Samples) (mx my : ℕ) (vectors : List MotionVector) (q i j : ℕ) (vector : ℤ × ℤ) → IsOfBlock vectors (first_block q + 4) vector → IsInSquare (8 * (q % 2)) (8 * (q / 2) + 4) 4 i j → inter_sample kind p (pos (16 * mx + i)) (pos (16 * my + j)) vector.0 vector.1 ≡ luma_sample kind p mx my (λ k. slice_index_or vectors k zero_vector) i j
in_third kind p mx my vectors q i j vector is inside = by_block kind p mx my vectors (first_block q + 4) i j vector is (omega (arith, inside.0, inside.1, inside.2, inside.3))

pub in_fourth : (kind : Kind) (p : Samples) (mx my : ℕ) (vectors : List MotionVector) (q i j : ℕ) (vector : ℤ × ℤ) → IsOfBlock vectors (first_block q + 5) vector → IsInSquare (8 * (q % 2) + 4) (8 * (q / 2) + 4) 4 i j → inter_sample kind p (pos (16 * mx + i)) (pos (16 * my + j)) vector.0 vector.1 ≡ luma_sample kind p mx my (λ k. slice_index_or vectors k zero_vector) i j
in_fourth kind p mx my vectors q i j vector is inside = by_block kind p mx my vectors (first_block q + 5) i j vector is (omega (arith, inside.0, inside.1, inside.2, inside.3))

-- a quarter whose blocks have one vector
pub in_quarter : (kind : Kind) (p : Samples) (mx my : ℕ) (vectors : List MotionVector) (q i j : ℕ) (vector : ℤ × ℤ) → IsOfBlock vectors (first_block q) vector → IsOfBlock vectors (first_block q + 1) vector → IsOfBlock vectors (first_block q + 4) vector → IsOfBlock vectors (first_block q + 5) vector →
    IsInSquare (8 * (q % 2)) (8 * (q / 2)) 8 i j → inter_sample kind p (pos (16 * mx + i)) (pos (16 * my + j)) vector.0 vector.1 ≡ luma_sample kind p mx my (λ k. slice_index_or vectors k zero_vector) i j
in_quarter kind p mx my vectors q i j vector a b c d inside =
    let from_i : 8 * (q % 2) ≤ i = inside.0 in
    let to_i : i < 8 * (q % 2) + 8 = inside.1 in
    let from_j : 8 * (q / 2) ≤ j = inside.2 in
    let to_j : j < 8 * (q / 2) + 8 = inside.3 in
    elim (cases_lt i (8 * (q % 2) + 4)) [
      | inl left ↦ elim (cases_lt j (8 * (q / 2) + 4)) [
        | inl upper ↦ by_block kind p mx my vectors (first_block q) i j vector a (omega arith)
        | inr lower ↦ by_block kind p mx my vectors (first_block q + 4) i j vector c (omega arith)
      ]
      | inr right ↦ elim (cases_lt j (8 * (q / 2) + 4)) [
        | inl upper ↦ by_block kind p mx my vectors (first_block q + 1) i j vector b (omega arith)
        | inr lower ↦ by_block kind p mx my vectors (first_block q + 5) i j vector d (omega arith)
      ]
    ]

-- a macroblock that is not split goes by its last block's vector, and a split one by each block's
pub in_macroblock : (kind : Kind) (p : Samples) (mx my : ℕ) (mode : VectorMode) (vectors : List MotionVector) (i j : ℕ) (vector : ℤ × ℤ) → is_split mode ≡ false → IsOfBlock vectors 15 vector → inter_sample kind p (pos (16 * mx + i)) (pos (16 * my + j)) vector.0 vector.1 ≡ luma_sample kind p mx my (block_vector mode vectors) i j
in_macroblock kind p mx my mode vectors i j vector is of = rw (is, of.0, of.1) refl

pub of_split : (kind : Kind) (p : Samples) (mx my : ℕ) (mode : VectorMode) (vectors : List MotionVector) (i j : ℕ) → is_split mode ≡ true → luma_sample kind p mx my (λ k. slice_index_or vectors k zero_vector) i j ≡ luma_sample kind p mx my (block_vector mode vectors) i j
of_split kind p mx my mode vectors i j is = rw is refl

-- a chroma sample goes by the vector of its group
by_group : (version : ℕ) (p : Samples) (mx my : ℕ) (vector_of : ℕ → MotionVector) (group i j : ℕ) (kind : Kind) (vector : ℤ × ℤ) → kind ≡ kind_of version → vector.0 ≡ (group_vector version vector_of group).0 → vector.1 ≡ (group_vector version vector_of group).1 → chroma_group i j ≡ group →
    inter_sample kind p (pos (8 * mx + i)) (pos (8 * my + j)) vector.0 vector.1 ≡ chroma_sample version p mx my vector_of i j
by_group version p mx my vector_of group i j kind vector kind_is right below at = rw (at, right, below, kind_is) refl

-- the square of a group
pub in_group : (version : ℕ) (p : Samples) (mx my : ℕ) (vector_of : ℕ → MotionVector) (a b i j : ℕ) (kind : Kind) (vector : ℤ × ℤ) → kind ≡ kind_of version → vector.0 ≡ (group_vector version vector_of (2 * b + a)).0 → vector.1 ≡ (group_vector version vector_of (2 * b + a)).1 → IsInSquare (4 * a) (4 * b) 4 i j →
    inter_sample kind p (pos (8 * mx + i)) (pos (8 * my + j)) vector.0 vector.1 ≡ chroma_sample version p mx my vector_of i j
in_group version p mx my vector_of a b i j kind vector kind_is right below inside = by_group version p mx my vector_of (2 * b + a) i j kind vector kind_is right below (omega (arith, inside.0, inside.1, inside.2, inside.3))

-- all groups of a macroblock that is not split have one vector
one_vector : (version : ℕ) (mode : VectorMode) (vectors : List MotionVector) (group : ℕ) → is_split mode ≡ false → group_vector version (block_vector mode vectors) 0 ≡ group_vector version (block_vector mode vectors) group
unfolding group_vector
one_vector version mode vectors group is = rw is refl

pub in_whole : (version : ℕ) (p : Samples) (mx my : ℕ) (mode : VectorMode) (vectors : List MotionVector) (i j : ℕ) (kind : Kind) (vector : ℤ × ℤ) → is_split mode ≡ false → kind ≡ kind_of version → vector.0 ≡ (group_vector version (block_vector mode vectors) 0).0 → vector.1 ≡ (group_vector version (block_vector mode vectors) 0).1 →
    inter_sample kind p (pos (8 * mx + i)) (pos (8 * my + j)) vector.0 vector.1 ≡ chroma_sample version p mx my (block_vector mode vectors) i j
in_whole version p mx my mode vectors i j kind vector is kind_is right below =
    let one = one_vector version mode vectors (chroma_group i j) is in
    by_group version p mx my (block_vector mode vectors) (chroma_group i j) i j kind vector kind_is (right ∙ ap (λ (v : ℤ × ℤ). v.0) one) (below ∙ ap (λ (v : ℤ × ℤ). v.1) one) refl

-- four times the vector of a macroblock that is not split is the sum of a group
pub four_times : (version : ℕ) (mode : VectorMode) (vectors : List MotionVector) → is_split mode ≡ false → (chroma_component (let x = (block_vector mode vectors 15).x in x +ℤ x +ℤ x +ℤ x) version ≡ (group_vector version (block_vector mode vectors) 0).0)
    × (chroma_component (let y = (block_vector mode vectors 15).y in y +ℤ y +ℤ y +ℤ y) version ≡ (group_vector version (block_vector mode vectors) 0).1)
unfolding group_vector
four_times version mode vectors is = rw is (refl, refl)
