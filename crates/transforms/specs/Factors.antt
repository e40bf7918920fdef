-- The factors of dequantisation (RFC 6386, sections 9.6 and 14.1).
use Rattle.std.specs.List.{range_with_len}
use Rattle.std.specs.Prelude.{ℕ, ◌*◌, ◌/◌, ◌==◌, if◌then◌else◌, min, max, List, map, slice_index, slice_index_or, ℤ, pos, negsuc, ◌+ℤ◌, ◌*ℤ◌}
use Rattle.vp8_tables.specs.declared.quantizers.TheConstants.{DC_QUANTIZERS, AC_QUANTIZERS}
use Rattle.frame_header.specs.declared.header.Header.{Header}
use Rattle.transforms.specs.Transforms.{reduced}
use Rattle.transforms.specs.declared.factor_set.Factors.{Factors}

-- a quantizer index clamped to 0 to 127
abbrev pub clamped_index : ℤ → ℕ
clamped_index (pos n) = min n 127
clamped_index (negsuc n) = 0

-- the factor in a table at an index changed by a delta
abbrev pub factor : List ℕ → ℕ → ℤ → ℕ
factor table index delta = slice_index table (clamped_index (pos index +ℤ delta))

-- the quantizer index of a segment: in a frame with segments its own value, or the frame's index changed by it (section 9.6)
abbrev pub index_of : Header → ℕ → ℕ
index_of header segment =
    let value = slice_index_or header.context.segments.quantizers segment (pos 0) in
    let frame = pos header.quantizers.y_ac_index in
    clamped_index (if header.segmentation.is_enabled then (if header.context.segments.is_absolute then value else frame +ℤ value) else frame)

-- the factors of a frame in a segment
unfoldable pub factors_of : Header → ℕ → Factors
factors_of header segment =
    let changes = header.quantizers in
    let index = index_of header segment in
    record {
      y_dc = pos (factor DC_QUANTIZERS index changes.y_dc_delta);
      y_ac = pos (factor AC_QUANTIZERS index (pos 0));
      y2_dc = pos (factor DC_QUANTIZERS index changes.y2_dc_delta * 2);
      y2_ac = pos (max (factor AC_QUANTIZERS index changes.y2_ac_delta * 155 / 100) 8);
      uv_dc = pos (min (factor DC_QUANTIZERS index changes.uv_dc_delta) 132);
      uv_ac = pos (factor AC_QUANTIZERS index changes.uv_ac_delta);
    }

-- a block's coefficients times their factors, one for the first and one for all others
abbrev pub dequantised : List ℤ → ℤ → ℤ → List ℤ
dequantised coefficients dc ac = map (λ k. reduced (slice_index_or coefficients k (pos 0) *ℤ (if k == 0 then dc else ac))) (range_with_len 0 16)
