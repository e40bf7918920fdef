-- Residuals that are added to samples.
use Rattle.std.specs.Prelude.{slice_index, slice_index_or, All, replicate}
use Rattle.std.proofs.Common.{◌≡◌, ℕ, zero, suc, ◌+◌, ◌-◌, ◌*◌, ◌/◌, ◌%◌, ◌<◌, ◌≤◌, ◌⊎◌, inl, inr, List, [], ◌∷◌, ◌++◌, length, get_or, Fits, SFits, w8, w16, rules, add-zero, take, drop, ℤ, pos, ◌+ℤ◌, refl, ap, sym, ◌∙◌, arith}
use Rattle.std.proofs.lemmas.Bool.{cases_lt}
use Rattle.std.proofs.lemmas.List.{same_lists, length-replicate, get_or-replicate, length-take-le, get_or-take}
use Rattle.std.proofs.lemmas.Int.{int_wrap_fits}
use Rattle.vp8_tables.specs.Bounds.{clamped_sample}
use Rattle.transforms.specs.Residuals.{IsAdded, firsts_residual, pair_residual}
use Rattle.transforms.specs.Transforms.{inverse_dct, dct_pass, dct_column, by_sine, by_cosine, eighth}
use Rattle.reference_frames.specs.AddedBlocks.{IsAddedAt, blocks_residual}
use Rattle.reference_frames.proofs.Squares.{index_in, index_before, index_above, index_within, start_within, part_old, part_new, part_before, part_kept, whole_put}

-- a list of zeros
all_zero : (n : ℕ) (xs : List ℤ) → length xs ≡ n → ((k : ℕ) (d : ℤ) → k < length xs → get_or xs k d ≡ pos 0) → xs ≡ replicate n (pos 0)
all_zero n xs long all = same_lists xs (replicate n (pos 0)) (long ∙ sym (length-replicate n (pos 0))) (λ k d within. all k d within ∙ sym (get_or-replicate n k (pos 0) d (omega (arith, long))))

-- a block with no coefficient after its first
pub only_first : (xs : List ℤ) → length xs ≡ 16 → All (λ c. c ≡ pos 0) (take 15 (drop 1 xs)) → xs ≡ slice_index_or xs 0 (pos 0) ∷ replicate 15 (pos 0)
only_first [] long all = absurd (omega (arith, long))
only_first (x ∷ xs) long all =
    let fifteen : length xs ≡ 15 = omega (arith, long) in
    let whole : length (take 15 xs) ≡ 15 = length-take-le 15 xs (omega (arith, fifteen)) in
    ap (λ (rest : List ℤ). x ∷ rest) (all_zero 15 xs fifteen (λ k d within. sym (get_or-take 15 xs k d (omega (arith, fifteen))) ∙ all k d (omega (arith, whole, fifteen))))

-- a pass over zeros returns zeros
pass_of_zeros : (n : ℕ) → dct_pass n (pos 0) (pos 0) (pos 0) (pos 0) ≡ pos 0
unfolding by_sine by_cosine dct_pass
pass_of_zeros zero = refl
pass_of_zeros (suc zero) = refl
pass_of_zeros (suc (suc zero)) = refl
pass_of_zeros (suc (suc (suc n))) = refl

-- coefficients of 0 leave no residual
pub no_residual : (column row : ℕ) → column < 4 → inverse_dct (replicate 16 (pos 0)) column row ≡ pos 0
unfolding inverse_dct dct_column eighth
no_residual column row within =
    let fits : SFits w16 (pos 0) = search rules in
    rw (pass_of_zeros row, int_wrap_fits w16 (pos 0) fits, pass_of_zeros column) refl

-- a sample with no residual
pub held_alone : (sample : ℕ) → Fits w8 sample → clamped_sample (pos sample +ℤ pos 0) ≡ sample
held_alone sample fits = rw add-zero (omega arith)

-- samples with a residual of 0 are as they were
pub none_added : (coefficients : List ℤ) (stride : ℕ) (samples : List ℕ) → coefficients ≡ replicate 16 (pos 0) → ((k : ℕ) → Fits w8 (get_or samples k 0)) → IsAdded (inverse_dct coefficients) 4 stride samples samples
none_added coefficients stride samples none fit = record {
  whole = refl;
  each = λ column row in_row in_block. rw (none, no_residual column row in_row) (sym (held_alone _ (fit (row * stride + column))));
  others = λ column row in_row out. refl;
}

-- ---- blocks in rows of samples

-- a residual added to the part that begins with blocks is added to these within the samples
pub added_at : (residual : ℕ → ℕ → ℤ) (across width column row : ℕ) (old part rest : List ℕ) → 4 ≤ width → column + width ≤ across → (row + 4) * across ≤ length old →
    IsAdded residual width across (take (length old - (across * row + column)) (drop (across * row + column) old)) part → rest ≡ drop (length old - (across * row + column)) (drop (across * row + column) old) → IsAddedAt residual across width column row old (take (across * row + column) old ++ (part ++ rest))
added_at residual across width column row old part rest some wide high is following =
    let start : ℕ = across * row + column in
    let room : start ≤ length old = start_within across 4 column row (length old) (omega arith) (omega (arith, some, wide)) high in
    record {
      whole = whole_put old part rest start room is.whole following;
      each = λ i j inside.
          let place : j * across + i ≡ start + ((j - row) * across + (i - column)) = index_in across i j column row inside.0 inside.2 in
          let to_i : i < column + width = inside.1 in
          let to_j : j < row + 4 = inside.3 in
          let within : start + ((j - row) * across + (i - column)) < length old = omega (arith, high, place, index_within across i j (row + 4) (omega arith) to_j) in
          rw place (part_new old part rest start ((j - row) * across + (i - column)) is.whole within ∙ is.each (i - column) (j - row) (omega arith) (omega arith) ∙ ap (λ n. clamped_sample (pos n +ℤ residual (i - column) (j - row))) (part_old old start ((j - row) * across + (i - column)) within));
      others = λ i j a out.
          elim (cases_lt j row) [
            | inl higher ↦ part_before old (part ++ rest) start (j * across + i) room (index_above across i j column row a higher)
            | inr below ↦ elim (cases_lt i column) [
              | inr right ↦
                  let place : j * across + i ≡ start + ((j - row) * across + (i - column)) = index_in across i j column row right below in
                  let away : (width ≤ i - column) ⊎ (4 ≤ j - row) = elim (cases_lt i (column + width)) [
                    | inr beside ↦ inl (omega arith)
                    | inl near ↦ elim (cases_lt j (row + 4)) [ inl here ↦ absurd (out (right, near, below, here)) | inr lower ↦ inr (omega arith) ]
                  ] in
                  part_kept old part rest start ((j - row) * across + (i - column)) (j * across + i) room is.whole following place (is.others (i - column) (j - row) (omega arith) away)
              | inl left ↦ elim (cases_lt row j) [
                | inl lower ↦
                    let place : j * across + i ≡ start + ((j - row - 1) * across + (across + i - column)) = index_before across i j column row (omega arith) lower in
                    part_kept old part rest start ((j - row - 1) * across + (across + i - column)) (j * across + i) room is.whole following place (is.others (across + i - column) (j - row - 1) (omega arith) (inl (omega arith)))
                | inr same ↦
                    let first : j ≡ row = omega arith in
                    part_before old (part ++ rest) start (j * across + i) room (rw first (omega arith))
              ]
            ]
          ];
    }

-- the same residual in other words
pub added_same : (one other : ℕ → ℕ → ℤ) (across width column row : ℕ) (old new : List ℕ) → ((i j : ℕ) → i < width → j < 4 → one i j ≡ other i j) → IsAddedAt one across width column row old new → IsAddedAt other across width column row old new
added_same one other across width column row old new same is = record {
  whole = is.whole;
  each = λ i j inside.
      let from_i : column ≤ i = inside.0 in
      let to_i : i < column + width = inside.1 in
      let from_j : row ≤ j = inside.2 in
      let to_j : j < row + 4 = inside.3 in
      is.each i j inside ∙ ap (λ (r : ℤ). clamped_sample (pos (slice_index old (j * across + i)) +ℤ r)) (same (i - column) (j - row) (omega (arith, from_i, to_i)) (omega (arith, from_j, to_j)));
  others = is.others;
}

-- ---- blocks next to each other

-- the residual of two blocks of a list
pub pair_is : (blocks : List (List ℤ)) (across k column row : ℕ) (old new : List ℕ) → IsAddedAt (pair_residual (slice_index_or blocks k []) (slice_index_or blocks (k + 1) [])) across 8 column row old new → IsAddedAt (blocks_residual blocks k) across 8 column row old new
unfolding pair_residual
pair_is blocks across k column row old new is =
    added_same (pair_residual (slice_index_or blocks k []) (slice_index_or blocks (k + 1) [])) (blocks_residual blocks k) across 8 column row old new
    (λ i j less below.
    elim (cases_lt i 4) [
      | inl first ↦ let at : i / 4 ≡ 0 = omega (arith, first) in rw (at, add-zero) refl
      | inr from ↦ let at : i / 4 ≡ 1 = omega (arith, from, less) in rw at refl
    ]) is

-- two pairs
pub two_pairs : (blocks : List (List ℤ)) (across k column row : ℕ) (old samples new : List ℕ) → column + 16 ≤ across → IsAddedAt (blocks_residual blocks k) across 8 column row old samples →
    IsAddedAt (blocks_residual blocks (k + 2)) across 8 (column + 8) row samples new → IsAddedAt (blocks_residual blocks k) across 16 column row old new
two_pairs blocks across k column row old samples new wide before is = record {
  whole = is.whole ∙ before.whole;
  each = λ i j inside.
      let from_i : column ≤ i = inside.0 in
      let to_i : i < column + 16 = inside.1 in
      let in_row : i < across = omega (arith, to_i, wide) in
      elim (cases_lt i (column + 8)) [
        | inl earlier ↦ is.others i j in_row (λ q. let from : column + 8 ≤ i = q.0 in absurd (omega (arith, from, earlier))) ∙ before.each i j (from_i, earlier, inside.2, inside.3)
        | inr from ↦
            let block : k + 2 + (i - (column + 8)) / 4 ≡ k + (i - column) / 4 = omega (arith, from, to_i) in
            let at : (i - (column + 8)) % 4 ≡ (i - column) % 4 = omega (arith, from, to_i) in
            let kept : slice_index samples (j * across + i) ≡ slice_index old (j * across + i) = before.others i j in_row (λ q. let to : i < column + 8 = q.1 in absurd (omega (arith, from, to))) in
            is.each i j (from, omega (arith, to_i), inside.2, inside.3) ∙ rw (kept, at, block) refl
      ];
  others = λ i j a out.
      is.others i j a (λ q. let from : column + 8 ≤ i = q.0 in let to : i < column + 8 + 8 = q.1 in out (omega (arith, from), omega (arith, to), q.2, q.3))
      ∙ before.others i j a (λ q. let to : i < column + 8 = q.1 in out (q.0, omega (arith, to), q.2, q.3));
}

-- blocks that each have only a first coefficient
pub firsts_are : (blocks : List (List ℤ)) (firsts : List ℤ) (across count k column row : ℕ) (old new : List ℕ) → ((n : ℕ) → n < count → slice_index_or blocks (k + n) [] ≡ slice_index_or firsts n (pos 0) ∷ replicate 15 (pos 0)) →
    IsAddedAt (firsts_residual firsts) across (4 * count) column row old new → IsAddedAt (blocks_residual blocks k) across (4 * count) column row old new
unfolding firsts_residual
firsts_are blocks firsts across count k column row old new each is =
    added_same (firsts_residual firsts) (blocks_residual blocks k) across (4 * count) column row old new (λ i j less below. ap (λ (xs : List ℤ). inverse_dct xs (i % 4) j) (sym (each (i / 4) (omega (arith, less))))) is
