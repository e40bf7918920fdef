use Rattle.std.proofs.Common.{◌≡◌, rules, sym, ◌∙◌, arith}
use Rattle.loop_filter.specs.Blocks.{luma, chroma}
use Rattle.loop_filter.proofs.Folds.{apart_written}
use Rattle.loop_filter.proofs.frames.filter_all_planes.Goals as goal

pub returns-then-stride-strides-clause-y : goal.returns-then-stride-strides-clause-y
returns-then-stride-strides-clause-y c =
    apart_written luma c.args.all c.args.my c.args.y.now c.stride.result c.rows_mut-y.result.now c.filter_row.new.y (omega arith) (omega arith) c.requires.frame c.requires.y c.stride.ensures.value
    c.rows_mut-y.ensures.value c.rows_mut-y.ensures.len c.filter_row.auto.y c.filter_row.ensures.y

pub returns-then-stride-strides-clause-cb : goal.returns-then-stride-strides-clause-cb
returns-then-stride-strides-clause-cb c =
    apart_written chroma c.args.all c.args.my c.args.cb.now c.stride-2.result c.rows_mut-cb.result.now c.filter_row.new.cb (omega arith) (omega arith) c.requires.frame c.requires.cb c.stride-2.ensures.value
    c.rows_mut-cb.ensures.value c.rows_mut-cb.ensures.len c.filter_row.auto.cb c.filter_row.ensures.cb

pub returns-then-stride-strides-clause-cr : goal.returns-then-stride-strides-clause-cr
returns-then-stride-strides-clause-cr c =
    let same : c.stride-3.result ≡ c.stride-2.result = search rules in
    apart_written chroma c.args.all c.args.my c.args.cr.now c.stride-2.result c.rows_mut-cr.result.now c.filter_row.new.cr (omega arith) (omega arith) c.requires.frame c.requires.cr (sym same ∙ c.stride-3.ensures.value)
    c.rows_mut-cr.ensures.value c.rows_mut-cr.ensures.len c.filter_row.auto.cr c.filter_row.ensures.cr
