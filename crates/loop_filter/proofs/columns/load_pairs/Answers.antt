use Rattle.std.proofs.Common.{◌+◌, ◌*◌}
use Rattle.loop_filter.proofs.Loaded.{eight_hold}
use Rattle.loop_filter.proofs.columns.load_pairs.Goals as goal

pub returns-clause-a : goal.returns-clause-a
returns-clause-a c = eight_hold (λ k. 2 * k) c.load_pair-w0.result c.load_pair-w1.result c.load_pair-w2.result c.load_pair-w3.result c.load_pair-w4.result c.load_pair-w5.result c.load_pair-w6.result c.load_pair-w7.result c.args.a.now c.args.a_start c.args.stride c.load_pair-w0.ensures.a c.load_pair-w1.ensures.a c.load_pair-w2.ensures.a c.load_pair-w3.ensures.a c.load_pair-w4.ensures.a c.load_pair-w5.ensures.a c.load_pair-w6.ensures.a c.load_pair-w7.ensures.a

pub returns-clause-b : goal.returns-clause-b
returns-clause-b c = eight_hold (λ k. 2 * k + 1) c.load_pair-w0.result c.load_pair-w1.result c.load_pair-w2.result c.load_pair-w3.result c.load_pair-w4.result c.load_pair-w5.result c.load_pair-w6.result c.load_pair-w7.result c.args.b.now c.args.b_start c.args.stride c.load_pair-w0.ensures.b c.load_pair-w1.ensures.b c.load_pair-w2.ensures.b c.load_pair-w3.ensures.b c.load_pair-w4.ensures.b c.load_pair-w5.ensures.b c.load_pair-w6.ensures.b c.load_pair-w7.ensures.b
