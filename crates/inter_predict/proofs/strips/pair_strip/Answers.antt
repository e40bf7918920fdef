use Rattle.std.proofs.Common.{◌≡◌, ℕ, ◌<◌, ◌+◌, ◌*◌, length, ap, ◌∙◌, refl, arith}
use Rattle.std.specs.Prelude.{slice_index}
use Rattle.inter_predict.specs.Kernels.{tapped_from, tapped_twice}
use Rattle.inter_predict.proofs.Twice.{same_strip, copied, across_alone, across_then_down, down_alone, line_room, lower_room, lower_rows, rows_room, tapped_same, whole_room}
use Rattle.inter_predict.proofs.PairedLanes.{both_rows, one_from, other_from, one_sample, other_sample, pair_sample}
use Rattle.inter_predict.proofs.strips.pair_strip.Goals as goal

pub stored-requires-clause-lines : goal.stored-requires-clause-lines
stored-requires-clause-lines c = λ number less.
    let one = whole_room number c.args.strip.height c.args.stride c.args.strip.first 8 (length c.args.samples.one.now) c.requires.strides.1 c.requires.strides.0 c.requires.height.1 less c.requires.one in
    let other = whole_room number c.args.strip.height c.args.stride c.args.strip.first 8 (length c.args.samples.other.now) c.requires.strides.1 c.requires.strides.0 c.requires.height.1 less c.requires.second in
    (one.0, (one.1, other.1))

pub filter_rows_down-requires-clause-lines : goal.filter_rows_down-requires-clause-lines
filter_rows_down-requires-clause-lines c = λ number less.
    let one = line_room number c.args.strip.height c.args.stride (c.args.strip.first + 2) 8 (length c.args.samples.one.now) c.requires.strides.1 (omega arith) c.requires.height.1 less (omega (arith, c.requires.one)) in
    let other = line_room number c.args.strip.height c.args.stride (c.args.strip.first + 2) 8 (length c.args.samples.other.now) c.requires.strides.1 (omega arith) c.requires.height.1 less (omega (arith, c.requires.second)) in
    (one.0, (one.1, other.1))

pub filter_across-requires-clause-rows : goal.filter_across-requires-clause-rows
filter_across-requires-clause-rows c = λ number less.
    let start : ℕ = 2 * c.args.stride + c.args.strip.first in
    both_rows _ _ c.args.stride start number
    (rows_room number c.args.strip.height c.args.stride start 8 (length c.args.samples.one.now) c.requires.strides.1 (omega arith) c.requires.height.1 less (omega (arith, lower_rows c.args.strip.height c.args.stride (c.args.strip.first + 8 + 5) (length c.args.samples.one.now) c.requires.height.0 c.requires.one)))
    (rows_room number c.args.strip.height c.args.stride start 8 (length c.args.samples.other.now) c.requires.strides.1 (omega arith) c.requires.height.1 less (omega (arith, lower_rows c.args.strip.height c.args.stride (c.args.strip.first + 8 + 5) (length c.args.samples.other.now) c.requires.height.0 c.requires.second)))

pub filter_both-requires-clause-rows : goal.filter_both-requires-clause-rows
filter_both-requires-clause-rows c = λ number less.
    both_rows _ _ c.args.stride c.args.strip.first number
    (lower_room number c.args.strip.height c.args.stride c.args.strip.first 8 (length c.args.samples.one.now) c.requires.strides.1 (omega arith) c.requires.height.1 less c.requires.one)
    (lower_room number c.args.strip.height c.args.stride c.args.strip.first 8 (length c.args.samples.other.now) c.requires.strides.1 (omega arith) c.requires.height.1 less c.requires.second)

pub returns-in-true-true : goal.returns-in-true-true
returns-in-true-true c =
    let xs = c.args.samples.one.now in
    let ys = c.args.samples.other.now in
    let whole_at : (l : _) (column row : ℕ) → ((k : ℕ) → slice_index l k < 256) → slice_index l (row * c.args.stride + (2 * c.args.stride + c.args.strip.first + 2) + column) ≡ tapped_twice c.args.filters.across c.args.filters.down l c.args.stride (c.args.strip.first + column) row = λ l column row bytes.
    let place : row * c.args.stride + (2 * c.args.stride + c.args.strip.first + 2) + column ≡ 2 * c.args.stride + c.args.strip.first + 2 + row * c.args.stride + column = omega arith in
    ap (slice_index l) place ∙ copied c.args.filters.across c.args.filters.down l c.args.stride c.args.strip.first column row c.requires.across c.requires.down (c.in-true-true.ensures.0 refl) (c.in-true-true.ensures'.0 refl) bytes in
    let one = same_strip (λ column row. pair_sample xs ys (row * c.args.stride + (2 * c.args.stride + c.args.strip.first + 2)) column) (λ column row. tapped_twice c.args.filters.across c.args.filters.down xs c.args.stride (c.args.strip.first + column) row) c.args.strip.first 8 c.args.strip.height c.args.strip.stride c.args.out.now c.stored.new.out c.stored.ensures.out
    (λ column row inside below. one_sample xs ys _ column inside ∙ whole_at xs column row (c.are_bytes.ensures)) in
    let second = same_strip (λ column row. pair_sample xs ys (row * c.args.stride + (2 * c.args.stride + c.args.strip.first + 2)) (8 + column)) (λ column row. tapped_twice c.args.filters.across c.args.filters.down ys c.args.stride (c.args.strip.first + column) row) c.args.strip.first 8 c.args.strip.height c.args.strip.stride c.args.other.now c.stored.new.other (c.stored.ensures.other (omega arith))
    (λ column row inside below. other_sample xs ys _ column ∙ whole_at ys column row (c.are_bytes-2.ensures)) in
    record { out = one; other = second }

pub returns-in-true-false : goal.returns-in-true-false
returns-in-true-false c =
    let xs = c.args.samples.one.now in
    let ys = c.args.samples.other.now in
    let one = same_strip (λ column row. tapped_from c.args.filters.down (λ line. pair_sample xs ys (line * c.args.stride + (c.args.strip.first + 2))) column row) (λ column row. tapped_twice c.args.filters.across c.args.filters.down xs c.args.stride (c.args.strip.first + column) row) c.args.strip.first 8 c.args.strip.height c.args.strip.stride c.args.out.now c.filter_rows_down.new.out c.filter_rows_down.ensures.out
    (λ column row inside below. tapped_same c.args.filters.down _ _ (λ k six. one_sample xs ys _ column inside) ∙ down_alone c.args.filters.across c.args.filters.down xs c.args.stride c.args.strip.first column row c.requires.across (c.in-true-false.ensures.0 refl) (c.are_bytes.ensures)) in
    let second = same_strip (λ column row. tapped_from c.args.filters.down (λ line. pair_sample xs ys (line * c.args.stride + (c.args.strip.first + 2))) (8 + column) row) (λ column row. tapped_twice c.args.filters.across c.args.filters.down ys c.args.stride (c.args.strip.first + column) row) c.args.strip.first 8 c.args.strip.height c.args.strip.stride c.args.other.now c.filter_rows_down.new.other (c.filter_rows_down.ensures.other (omega arith))
    (λ column row inside below. tapped_same c.args.filters.down _ _ (λ k six. other_sample xs ys _ column) ∙ down_alone c.args.filters.across c.args.filters.down ys c.args.stride c.args.strip.first column row c.requires.across (c.in-true-false.ensures.0 refl) (c.are_bytes-2.ensures)) in
    record { out = one; other = second }

pub returns-in-false-true : goal.returns-in-false-true
returns-in-false-true c =
    let xs = c.args.samples.one.now in
    let ys = c.args.samples.other.now in
    let one = same_strip (λ column row. tapped_from c.args.filters.across (pair_sample xs ys) column (row * c.args.stride + (2 * c.args.stride + c.args.strip.first))) (λ column row. tapped_twice c.args.filters.across c.args.filters.down xs c.args.stride (c.args.strip.first + column) row) c.args.strip.first 8 c.args.strip.height c.args.strip.stride c.args.out.now c.filter_across.new.out c.filter_across.ensures.out
    (λ column row inside below. one_from c.args.filters.across xs ys column _ inside ∙ across_alone c.args.filters.across c.args.filters.down xs c.args.stride c.args.strip.first column row c.requires.down (c.in-false-true.ensures'.0 refl)) in
    let second = same_strip (λ column row. tapped_from c.args.filters.across (pair_sample xs ys) (8 + column) (row * c.args.stride + (2 * c.args.stride + c.args.strip.first))) (λ column row. tapped_twice c.args.filters.across c.args.filters.down ys c.args.stride (c.args.strip.first + column) row) c.args.strip.first 8 c.args.strip.height c.args.strip.stride c.args.other.now c.filter_across.new.other (c.filter_across.ensures.other (omega arith))
    (λ column row inside below. other_from c.args.filters.across xs ys column _ ∙ across_alone c.args.filters.across c.args.filters.down ys c.args.stride c.args.strip.first column row c.requires.down (c.in-false-true.ensures'.0 refl)) in
    record { out = one; other = second }

pub returns-in-false-false : goal.returns-in-false-false
returns-in-false-false c =
    let xs = c.args.samples.one.now in
    let ys = c.args.samples.other.now in
    let one = same_strip (λ column row. tapped_from c.args.filters.down (λ line lane. tapped_from c.args.filters.across (pair_sample xs ys) lane (line * c.args.stride + c.args.strip.first)) column row) (λ column row. tapped_twice c.args.filters.across c.args.filters.down xs c.args.stride (c.args.strip.first + column) row) c.args.strip.first 8 c.args.strip.height c.args.strip.stride c.args.out.now c.filter_both.new.out c.filter_both.ensures.out
    (λ column row inside below. tapped_same c.args.filters.down _ _ (λ k six. one_from c.args.filters.across xs ys column _ inside) ∙ across_then_down c.args.filters.across c.args.filters.down xs c.args.stride c.args.strip.first column row) in
    let second = same_strip (λ column row. tapped_from c.args.filters.down (λ line lane. tapped_from c.args.filters.across (pair_sample xs ys) lane (line * c.args.stride + c.args.strip.first)) (8 + column) row) (λ column row. tapped_twice c.args.filters.across c.args.filters.down ys c.args.stride (c.args.strip.first + column) row) c.args.strip.first 8 c.args.strip.height c.args.strip.stride c.args.other.now c.filter_both.new.other (c.filter_both.ensures.other (omega arith))
    (λ column row inside below. tapped_same c.args.filters.down _ _ (λ k six. other_from c.args.filters.across xs ys column _) ∙ across_then_down c.args.filters.across c.args.filters.down ys c.args.stride c.args.strip.first column row) in
    record { out = one; other = second }
