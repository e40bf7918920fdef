use Rattle.std.proofs.Common.{◌+◌, ◌*◌, length, refl, arith}
use Rattle.inter_predict.specs.Kernels.{IsStrip, tapped_from, tapped_twice}
use Rattle.inter_predict.proofs.Twice.{same_strip, copied, across_alone, across_then_down, down_alone, line_room, lower_room, lower_rows, plain, rows_room}
use Rattle.inter_predict.proofs.Predicted.{strip_predicts}
use Rattle.inter_predict.proofs.strips.strip.Goals as goal

pub filter_rows_down-requires-clause-lines : goal.filter_rows_down-requires-clause-lines
filter_rows_down-requires-clause-lines g c = λ number less. line_room number c.args.strip.height c.args.stride (c.args.strip.first + 2) g.row.N (length c.args.samples.now) c.requires.strides.0 (omega arith) c.requires.height.1 less (omega (arith, c.requires.room))

pub filter_across-requires-clause-rows : goal.filter_across-requires-clause-rows
filter_across-requires-clause-rows g c = λ number less. rows_room number c.args.strip.height c.args.stride (2 * c.args.stride + c.args.strip.first) g.row.N (length c.args.samples.now) c.requires.strides.0 (omega arith) c.requires.height.1 less (omega (arith, lower_rows c.args.strip.height c.args.stride (c.args.strip.first + g.row.N + 5) (length c.args.samples.now) c.requires.height.0 c.requires.room))

pub filter_both-requires-clause-rows : goal.filter_both-requires-clause-rows
filter_both-requires-clause-rows g c = λ number less. lower_room number c.args.strip.height c.args.stride c.args.strip.first g.row.N (length c.args.samples.now) c.requires.strides.0 (omega arith) c.requires.height.1 less c.requires.room

pub returns-in-true-true : goal.returns-in-true-true
returns-in-true-true g c =
    let xs = c.args.samples.now in
    let strip : IsStrip (λ column row. tapped_twice c.args.filters.across c.args.filters.down xs c.args.stride (c.args.strip.first + column) row) c.args.strip.first g.row.N c.args.strip.height c.args.strip.stride c.args.out.now c.copy.new.out =
    same_strip _ (λ column row. tapped_twice c.args.filters.across c.args.filters.down xs c.args.stride (c.args.strip.first + column) row) c.args.strip.first g.row.N c.args.strip.height c.args.strip.stride c.args.out.now c.copy.new.out c.copy.ensures
    (λ column row inside below. copied c.args.filters.across c.args.filters.down xs c.args.stride c.args.strip.first column row c.requires.across c.requires.down (c.in-true-true.ensures.0 refl) (c.in-true-true.ensures'.0 refl) (λ k. (c.type_inv.samples k).fits)) in
    record { taps = strip; samples = strip_predicts c.args.filters.across c.args.filters.down xs c.args.stride c.args.strip.first g.row.N c.args.strip.height c.args.strip.stride c.args.out.now c.copy.new.out strip }

pub returns-in-true-false : goal.returns-in-true-false
returns-in-true-false g c =
    let xs = c.args.samples.now in
    let strip : IsStrip (λ column row. tapped_twice c.args.filters.across c.args.filters.down xs c.args.stride (c.args.strip.first + column) row) c.args.strip.first g.row.N c.args.strip.height c.args.strip.stride c.args.out.now c.filter_rows_down.new.out =
    same_strip (tapped_from c.args.filters.down (λ line. plain xs (line * c.args.stride + (c.args.strip.first + 2)))) (λ column row. tapped_twice c.args.filters.across c.args.filters.down xs c.args.stride (c.args.strip.first + column) row) c.args.strip.first g.row.N c.args.strip.height c.args.strip.stride c.args.out.now c.filter_rows_down.new.out c.filter_rows_down.ensures.out
    (λ column row inside below. down_alone c.args.filters.across c.args.filters.down xs c.args.stride c.args.strip.first column row c.requires.across (c.in-true-false.ensures.0 refl) (λ k. (c.type_inv.samples k).fits)) in
    record { taps = strip; samples = strip_predicts c.args.filters.across c.args.filters.down xs c.args.stride c.args.strip.first g.row.N c.args.strip.height c.args.strip.stride c.args.out.now c.filter_rows_down.new.out strip }

pub returns-in-false-true : goal.returns-in-false-true
returns-in-false-true g c =
    let xs = c.args.samples.now in
    let strip : IsStrip (λ column row. tapped_twice c.args.filters.across c.args.filters.down xs c.args.stride (c.args.strip.first + column) row) c.args.strip.first g.row.N c.args.strip.height c.args.strip.stride c.args.out.now c.filter_across.new.out =
    same_strip (λ column row. tapped_from c.args.filters.across (plain xs) column (row * c.args.stride + (2 * c.args.stride + c.args.strip.first))) (λ column row. tapped_twice c.args.filters.across c.args.filters.down xs c.args.stride (c.args.strip.first + column) row) c.args.strip.first g.row.N c.args.strip.height c.args.strip.stride c.args.out.now c.filter_across.new.out c.filter_across.ensures.out
    (λ column row inside below. across_alone c.args.filters.across c.args.filters.down xs c.args.stride c.args.strip.first column row c.requires.down (c.in-false-true.ensures'.0 refl)) in
    record { taps = strip; samples = strip_predicts c.args.filters.across c.args.filters.down xs c.args.stride c.args.strip.first g.row.N c.args.strip.height c.args.strip.stride c.args.out.now c.filter_across.new.out strip }

pub returns-in-false-false : goal.returns-in-false-false
returns-in-false-false g c =
    let xs = c.args.samples.now in
    let strip : IsStrip (λ column row. tapped_twice c.args.filters.across c.args.filters.down xs c.args.stride (c.args.strip.first + column) row) c.args.strip.first g.row.N c.args.strip.height c.args.strip.stride c.args.out.now c.filter_both.new.out =
    same_strip (tapped_from c.args.filters.down (λ line lane. tapped_from c.args.filters.across (plain xs) lane (line * c.args.stride + c.args.strip.first))) (λ column row. tapped_twice c.args.filters.across c.args.filters.down xs c.args.stride (c.args.strip.first + column) row) c.args.strip.first g.row.N c.args.strip.height c.args.strip.stride c.args.out.now c.filter_both.new.out c.filter_both.ensures.out
    (λ column row inside below. across_then_down c.args.filters.across c.args.filters.down xs c.args.stride c.args.strip.first column row) in
    record { taps = strip; samples = strip_predicts c.args.filters.across c.args.filters.down xs c.args.stride c.args.strip.first g.row.N c.args.strip.height c.args.strip.stride c.args.out.now c.filter_both.new.out strip }
