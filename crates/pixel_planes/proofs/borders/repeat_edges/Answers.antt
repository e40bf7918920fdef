use Rattle.std.proofs.Common.{◌≡◌, ℕ, suc, ◌+◌, ◌-◌, ◌*◌, ◌<◌, ◌≤◌, min, List, ◌++◌, length, take, slice_range, ap, sym, ◌∙◌, arith, inl, inr}
use Rattle.std.specs.Simd.Lanes.{chunk}
use Rattle.std.proofs.Math.Nat.{mul_comm, add-mul, suc-mul, two-mul, mul-le-mul_right}
use Rattle.std.proofs.lemmas.Bool.{cases_lt}
use Rattle.std.proofs.lemmas.Simd.{length-chunk}
use Rattle.pixel_planes.specs.Layout.{bordered_side}
use Rattle.pixel_planes.proofs.Parts.{part_is, chunk_left, chunk_right, chunk-chunk}
use Rattle.pixel_planes.proofs.BlockRows.{row_ends}
use Rattle.pixel_planes.proofs.borders.repeat_edges.Goals as goal

-- the block in three parts, after the first and the last row were repeated
record IsRepeated (height border stride : ℕ) (mid above rows below : List ℕ) : Type 0 where
  high : 0 < height
  room : length mid ≡ bordered_side height border * stride
  rows_are : rows ≡ chunk (border * stride) (height * stride) mid
  above_len : length above ≡ border * stride
  below_len : length below ≡ border * stride
  above_is : (y : ℕ) → y < border → chunk (y * stride) stride above ≡ chunk 0 stride rows
  below_is : (y : ℕ) → y < border → chunk (y * stride) stride below ≡ chunk ((height - 1) * stride) stride rows

-- the number of samples in the middle part
rows_len : (height border stride : ℕ) (mid above rows below : List ℕ) → IsRepeated height border stride mid above rows below → length rows ≡ height * stride
rows_len height border stride mid above rows below r =
    let le : (border + height) * stride ≤ bordered_side height border * stride = mul-le-mul_right stride (omega arith) in
    ap length r.rows_are ∙ length-chunk (border * stride) (height * stride) mid (omega (arith, add-mul border height stride, r.room))

-- a row in the middle part
middle_row : (height border stride : ℕ) (mid above rows below : List ℕ) → IsRepeated height border stride mid above rows below → (y : ℕ) → y < height → chunk (y * stride) stride rows ≡ chunk ((border + y) * stride) stride mid
middle_row height border stride mid above rows below r y in_plane =
    ap (chunk (y * stride) stride) r.rows_are ∙ chunk-chunk (border * stride) (height * stride) (y * stride) stride mid (row_ends y height stride in_plane) ∙ ap (λ k. chunk k stride mid) (sym (add-mul border y stride))

-- a row above the middle
row_above : (height border stride : ℕ) (mid above rows below : List ℕ) → IsRepeated height border stride mid above rows below → (row : ℕ) → row < border → chunk (row * stride) stride (above ++ (rows ++ below)) ≡ chunk ((border + 0) * stride) stride mid
row_above height border stride mid above rows below r row before =
    let none : 0 * stride ≡ 0 = omega arith in
    chunk_left (row * stride) stride above (rows ++ below) (omega (arith, row_ends row border stride before, r.above_len)) ∙ r.above_is row before ∙ ap (λ k. chunk k stride rows) (sym none) ∙ middle_row height border stride mid above rows below r 0 r.high

-- a row of the middle
row_within : (height border stride : ℕ) (mid above rows below : List ℕ) → IsRepeated height border stride mid above rows below → (y : ℕ) → y < height → chunk ((border + y) * stride) stride (above ++ (rows ++ below)) ≡ chunk ((border + y) * stride) stride mid
row_within height border stride mid above rows below r y in_plane =
    chunk_right ((border + y) * stride) (y * stride) stride (border * stride) above (rows ++ below) r.above_len (add-mul border y stride) ∙ chunk_left (y * stride) stride rows below (omega (arith, row_ends y height stride in_plane, rows_len height border stride mid above rows below r)) ∙ middle_row height border stride mid above rows below r y in_plane

-- a row below the middle
row_below : (height border stride : ℕ) (mid above rows below : List ℕ) → IsRepeated height border stride mid above rows below → (y : ℕ) → y < border → chunk ((border + (height + y)) * stride) stride (above ++ (rows ++ below)) ≡ chunk ((border + (height - 1)) * stride) stride mid
row_below height border stride mid above rows below r y following =
    chunk_right ((border + (height + y)) * stride) ((height + y) * stride) stride (border * stride) above (rows ++ below) r.above_len (add-mul border (height + y) stride) ∙ chunk_right ((height + y) * stride) (y * stride) stride (height * stride) rows below (rows_len height border stride mid above rows below r) (add-mul height y stride) ∙ r.below_is y following ∙ middle_row height border stride mid above rows below r (height - 1) (omega (arith, r.high))

repeated_at : (height border stride : ℕ) (mid above rows below : List ℕ) → IsRepeated height border stride mid above rows below → (row : ℕ) → row < bordered_side height border → chunk (row * stride) stride (above ++ (rows ++ below)) ≡ chunk ((border + min (row - border) (height - 1)) * stride) stride mid
repeated_at height border stride mid above rows below r row within =
    elim (cases_lt row border) [
      | inl before ↦
          let held : min (row - border) (height - 1) ≡ 0 = omega arith in
          rw held (row_above height border stride mid above rows below r row before)
      | inr from ↦
          elim (cases_lt (row - border) height) [
            | inl inside ↦
                let held : min (row - border) (height - 1) ≡ row - border = omega arith in
                let at : row ≡ border + (row - border) = omega arith in
                rw held (ap (λ k. chunk (k * stride) stride (above ++ (rows ++ below))) at ∙ row_within height border stride mid above rows below r (row - border) inside)
            | inr past ↦
                let held : min (row - border) (height - 1) ≡ height - 1 = omega arith in
                let at : row ≡ border + (height + (row - border - height)) = omega arith in
                rw held (ap (λ k. chunk (k * stride) stride (above ++ (rows ++ below))) at ∙ row_below height border stride mid above rows below r (row - border - height) (omega arith))
          ]
    ]

one_more : (n : ℕ) → 0 < n → n ≡ suc (n - 1)
one_more n some = omega arith

-- the number of samples of the last part
below_rows : (stride height border old rest : ℕ) {below : ℕ} → old ≡ stride * bordered_side height border → rest + border * stride ≡ old → below + height * stride ≡ rest → below ≡ border * stride
below_rows stride height border old rest {below} room above rows =
    let sides : bordered_side height border * stride ≡ height * stride + 2 * border * stride = add-mul height (2 * border) stride in
    let twice : 2 * border * stride ≡ border * stride + border * stride = ap (λ k. k * stride) (two-mul border) ∙ add-mul border border stride in
    omega (arith, mul_comm stride (bordered_side height border))

-- a repeated row, with its length under another name
repeated : (y n stride : ℕ) (out row : List ℕ) → n ≡ stride → slice_range out (y * n) (y * n + n) ≡ row → chunk (y * stride) stride out ≡ row
repeated y n stride out row len each = rw (← len) (sym (part_is out (y * n) n) ∙ each)

first_len : (height stride : ℕ) (rows : List ℕ) → 0 < height → length rows ≡ height * stride → length (chunk 0 stride rows) ≡ stride
first_len height stride rows high len = length-chunk 0 stride rows (omega (arith, row_ends 0 height stride high))

last_is : (height stride : ℕ) (rows : List ℕ) → 0 < height → slice_range rows ((height - 1) * stride) (height * stride) ≡ chunk ((height - 1) * stride) stride rows
last_is height stride rows high =
    let last : height * stride ≡ (height - 1) * stride + stride = ap (λ k. k * stride) (one_more height high) ∙ suc-mul (height - 1) stride in
    rw last (part_is rows ((height - 1) * stride) stride)

last_len : (height stride : ℕ) (rows : List ℕ) → 0 < height → length rows ≡ height * stride → length (slice_range rows ((height - 1) * stride) (height * stride)) ≡ stride
last_len height stride rows high len =
    ap length (last_is height stride rows high) ∙ length-chunk ((height - 1) * stride) stride rows (omega (arith, row_ends (height - 1) height stride (omega arith)))

pub returns-clause-rows : goal.returns-clause-rows
returns-clause-rows c =
    let stride : ℕ = c.args.stride in
    let before : List ℕ = c.args.samples.now in
    let middle : List ℕ = c.split_at_mut-rows.result.0.now in
    let r : IsRepeated c.args.height c.args.border c.args.stride c.args.samples.now c.repeat_row.new.out c.split_at_mut-rows.result.0.now c.repeat_row-2.new.out = record {
      high = c.requires.high.0;
      room = c.requires.room ∙ mul_comm c.args.stride (bordered_side c.args.height c.args.border);
      rows_are = c.split_at_mut-rows.ensures.front ∙ ap (take (c.args.height * c.args.stride)) c.split_at_mut-above.ensures.back;
      above_len = c.repeat_row.ensures.len ∙ c.split_at_mut-above.ensures.front_len;
      below_len = c.repeat_row-2.ensures.len ∙ below_rows c.args.stride c.args.height c.args.border _ _ c.requires.room c.split_at_mut-above.ensures.back_len c.split_at_mut-rows.ensures.back_len;
      above_is = λ y below. repeated y _ c.args.stride c.repeat_row.new.out (chunk 0 c.args.stride c.split_at_mut-rows.result.0.now) (first_len c.args.height c.args.stride c.split_at_mut-rows.result.0.now c.requires.high.0 c.split_at_mut-rows.ensures.front_len) (c.repeat_row.ensures.rows y below);
      below_is = λ y below. repeated y _ c.args.stride c.repeat_row-2.new.out (slice_range c.split_at_mut-rows.result.0.now ((c.args.height - 1) * c.args.stride) (c.args.height * c.args.stride)) (last_len c.args.height c.args.stride c.split_at_mut-rows.result.0.now c.requires.high.0 c.split_at_mut-rows.ensures.front_len) (c.repeat_row-2.ensures.rows y below) ∙ last_is c.args.height c.args.stride c.split_at_mut-rows.result.0.now c.requires.high.0;
    } in
    λ row within. part_is (c.repeat_row.new.out ++ (middle ++ c.repeat_row-2.new.out)) (row * stride) stride ∙ repeated_at _ _ _ _ _ _ _ r row within ∙ sym (part_is before ((c.args.border + min (row - c.args.border) (c.args.height - 1)) * stride) stride)
