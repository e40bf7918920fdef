-- A block that is written into a plane.
use Rattle.std.specs.Prelude.{slice_index, slice_index_or, None, Some}
use Rattle.std.specs.Simd.Lanes.{put_chunk}
use Rattle.std.proofs.Common.{refl, ◌≡◌, ℕ, zero, suc, ◌+◌, ◌-◌, ◌*◌, ◌<◌, ◌≤◌, ◌%◌, List, [], pos, ◌+ℤ◌, ◌++◌, length, take, drop, ap, sym, ◌∙◌, arith}
use Rattle.std.proofs.lemmas.Simd.{put_chunk_is}
use Rattle.std.proofs.lemmas.List.{length-take-le, length-drop, get_or-take, get_or-drop}
use Rattle.std.proofs.lemmas.List.FromFn.{fill_by_all, length-map-range_with_len, get_or-map-range_with_len}
use Rattle.intra_predict.specs.Blocks.{IsBlock}
use Rattle.intra_predict.specs.WholeSample.{side_of}
use Rattle.intra_predict.specs.declared.modes.BlockSize.{BlockSize}
use Rattle.intra_predict.specs.declared.modes.BlockSize.TheVariants.{Sixteen, Eight}
use Rattle.pixel_planes.specs.Samples.{Samples}
use Rattle.reference_frames.specs.Restored.{Residual, block_at, restored}
use Rattle.vp8_tables.specs.Bounds.{clamped_sample}
use Rattle.transforms.specs.Transforms.{inverse_dct}
use Rattle.reference_frames.specs.Unfiltered.{block_row, with_block, with_block_rows}

-- a written part of a row, inserted into the row
pub written_part : (row part span : List ℕ) (x side : ℕ) → part ≡ span → length span ≡ side → x + side ≤ length row → take x row ++ (part ++ drop (x + side - x) (drop x row)) ≡ put_chunk x row span
written_part row part span x side same long within =
    let size : x + side - x ≡ length span = omega arith in
    let fits : x + length span ≤ length row = omega arith in
    rw same (ap (λ k. take x row ++ (span ++ drop k (drop x row))) size ∙ sym (put_chunk_is x row span fits))

-- a part of a list of rows is the list of the samples at its indices
pub part_row : (block : List ℕ) (side row : ℕ) → row * side + side ≤ length block → take (row * side + side - row * side) (drop (row * side) block) ≡ block_row side (λ column r. slice_index block (r * side + column)) row
part_row block side row within =
    let size : row * side + side - row * side ≡ side = omega arith in
    let fits : side ≤ length (drop (row * side) block) = omega (arith, length-drop (row * side) block) in
    rw size (fill_by_all (λ column. slice_index block (row * side + column)) (take side (drop (row * side) block)) side 0 (length-take-le side (drop (row * side) block) fits)
    (λ k less. get_or-take side (drop (row * side) block) k 0 less ∙ get_or-drop (row * side) block k 0))

-- a row of a block goes by the samples of its columns
pub block_row-same : (side : ℕ) (one other : ℕ → ℕ → ℕ) (row : ℕ) → ((column : ℕ) → column < side → one column row ≡ other column row) → block_row side one row ≡ block_row side other row
block_row-same side one other row same =
    fill_by_all (λ column. other column row) (block_row side one row) side 0 (length-map-range_with_len (λ column. one column row) 0 side)
    (λ k less. get_or-map-range_with_len (λ column. one column row) 0 side k k 0 less (omega arith) ∙ same k less)

-- a block goes by the samples of its columns and rows
with_block_rows-same : (p : Samples) (x y side : ℕ) (one other : ℕ → ℕ → ℕ) (n : ℕ) → ((column row : ℕ) → column < side → row < n → one column row ≡ other column row) → with_block_rows p x y side one n ≡ with_block_rows p x y side other n
unfolding with_block_rows
with_block_rows-same p x y side one other zero same = refl
with_block_rows-same p x y side one other (suc n) same =
    rw (with_block_rows-same p x y side one other n (λ column row inside below. same column row inside (omega arith)), block_row-same side one other n (λ column inside. same column n inside (omega arith))) refl

-- the block that was predicted is the block that was written
pub written_block : (p : Samples) (x y side : ℕ) (block : List ℕ) (sample : ℕ → ℕ → ℕ) → IsBlock side sample block → with_block p x y side (λ column row. slice_index block (row * side + column)) ≡ with_block p x y side sample
written_block p x y side block sample is = with_block_rows-same p x y side (λ column row. slice_index block (row * side + column)) sample side is.each

-- how long a part of a row is
pub part_length : (row : List ℕ) (x side : ℕ) → x + side ≤ length row → length (take (x + side - x) (drop x row)) ≡ side
part_length row x side within =
    let fits : x + side - x ≤ length (drop x row) = omega (arith, length-drop x row) in
    length-take-le (x + side - x) (drop x row) fits ∙ omega arith

pub side_some : (size : BlockSize) → 0 < side_of size
side_some Sixteen = omega arith
side_some Eight = omega arith

-- a residual that was added to predicted samples
pub restored_block : (side first : ℕ) (residual : Residual) (sample : ℕ → ℕ → ℕ) (old new : List ℕ) → IsBlock side sample old → IsBlock side (restored side first residual (λ column row. slice_index old (row * side + column))) new → IsBlock side (restored side first residual sample) new
restored_block side first None sample old new is added = record { whole = added.whole; each = λ column row a b. added.each column row a b ∙ is.each column row a b }
restored_block side first (Some blocks) sample old new is added = record {
  whole = added.whole;
  each = λ column row a b. added.each column row a b ∙ ap (λ n. clamped_sample (pos n +ℤ inverse_dct (slice_index_or blocks (block_at side first column row) []) (column % 4) (row % 4))) (is.each column row a b);
}
