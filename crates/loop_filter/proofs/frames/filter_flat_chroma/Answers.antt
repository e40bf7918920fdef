use Rattle.std.proofs.Common.{◌∙◌, arith}
use Rattle.loop_filter.specs.Blocks.{luma, chroma}
use Rattle.loop_filter.proofs.Folds.{apart_written, samples_written}
use Rattle.loop_filter.proofs.frames.filter_flat_chroma.Goals as goal

pub returns-clause-y : goal.returns-clause-y
returns-clause-y c =
    apart_written luma c.args.all c.args.my c.args.y.now c.stride.result c.rows_mut-y.result.now c.filter_row.new.y (omega arith) (omega arith) c.requires.frame c.requires.y c.stride.ensures.value
    c.rows_mut-y.ensures.value c.rows_mut-y.ensures.len c.filter_row.auto.y c.filter_row.ensures.y

pub returns-clause-cb : goal.returns-clause-cb
returns-clause-cb c =
    samples_written chroma c.args.all c.args.my c.args.cb.now c.width.result c.samples_mut-cb.result.now c.filter_row.new.cb c.requires.cb (c.width.ensures.value ∙ c.requires.cb.0)
    c.samples_mut-cb.ensures.value c.samples_mut-cb.ensures.len c.filter_row.auto.cb c.filter_row.ensures.cb

pub returns-clause-cr : goal.returns-clause-cr
returns-clause-cr c =
    samples_written chroma c.args.all c.args.my c.args.cr.now c.width.result c.samples_mut-cr.result.now c.filter_row.new.cr c.requires.cr (c.width.ensures.value ∙ c.requires.cb.0)
    c.samples_mut-cr.ensures.value c.samples_mut-cr.ensures.len c.filter_row.auto.cr c.filter_row.ensures.cr
