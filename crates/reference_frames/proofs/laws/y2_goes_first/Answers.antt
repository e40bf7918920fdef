use Rattle.std.specs.Prelude.{slice_index_or}
use Rattle.std.proofs.Common.{◌<◌, pos, [], length, arith}
use Rattle.std.proofs.lemmas.Bool.{lt-ltb, cond-true}
use Rattle.std.proofs.lemmas.List.{get_or-set_same, get_or-set_other}
use Rattle.std.proofs.lemmas.List.FromFn.{length-map-range_with_len}
use Rattle.transforms.specs.Factors.{dequantised}
use Rattle.reference_frames.specs.FrameTokens.{block_of, block_with, y2_results}
use Rattle.reference_frames.proofs.laws.y2_goes_first.Goals as goal

pub returns : goal.returns
unfolding block_of block_with y2_results
returns c = record {
  first = λ factors coefficients k luma.
      let block = dequantised (slice_index_or coefficients k []) factors.y_dc factors.y_ac in
      let long : 0 < length block = rw length-map-range_with_len (omega arith) in
      rw (lt-ltb k 16 luma) (get_or-set_same block 0 _ (pos 0) long);
  others = λ factors coefficients k index luma apart.
      let block = dequantised (slice_index_or coefficients k []) factors.y_dc factors.y_ac in
      rw (lt-ltb k 16 luma) (get_or-set_other block 0 index _ (pos 0) apart);
  without = λ factors coefficients k luma. cond-true _ _ _ (lt-ltb k 16 luma);
}
