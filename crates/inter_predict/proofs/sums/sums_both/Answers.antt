use Rattle.std.proofs.Common.{◌+◌, ◌-◌, ◌*◌, arith}
use Rattle.inter_predict.specs.Kernels.{tapped_from}
use Rattle.inter_predict.proofs.KeptLines.{kept_front, kept_strip}
use Rattle.inter_predict.proofs.sums.sums_both.Goals as goal

pub returns-clause-out : goal.returns-clause-out
returns-clause-out g c =
    kept_front g.row.N c.args.filters.down (λ line lane. tapped_from c.args.filters.across (g.S.Samples.sample c.args.rows.samples) lane (line * c.args.rows.stride + c.args.rows.start)) c.keep_across.new.kept c.args.strip.first g.S.Samples.width c.args.strip.height c.args.strip.stride c.args.out.now c.sums_down.new.out c.prove_width.ensures c.keep_across.ensures c.sums_down.ensures.out

pub returns-clause-other : goal.returns-clause-other
returns-clause-other g c = λ narrow.
    kept_strip g.row.N c.args.filters.down (λ line lane. tapped_from c.args.filters.across (g.S.Samples.sample c.args.rows.samples) lane (line * c.args.rows.stride + c.args.rows.start)) c.keep_across.new.kept g.S.Samples.width c.args.strip.first (g.row.N - g.S.Samples.width) c.args.strip.height c.args.strip.stride c.args.other.now c.sums_down.new.other (omega arith) c.keep_across.ensures (c.sums_down.ensures.other narrow)
