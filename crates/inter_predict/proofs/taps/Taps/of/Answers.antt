use Rattle.inter_predict.proofs.TapSums.{six_small, six_between, two_small, two_between}
use Rattle.inter_predict.proofs.taps.Taps.of.Goals as goal

pub returns-in-SixTap : goal.returns-in-SixTap
returns-in-SixTap c = record {
  small = rw c.of_row.ensures (six_small c.args.eighths c.requires);
  value = λ line place. rw (c.in-SixTap.is, c.of_row.ensures) (six_between c.args.eighths c.requires line place);
}

pub returns-in-Bilinear : goal.returns-in-Bilinear
returns-in-Bilinear c = record {
  small = rw c.of_row-in-Bilinear.ensures (two_small c.args.eighths c.requires);
  value = λ line place. rw (c.in-Bilinear.is, c.of_row-in-Bilinear.ensures) (two_between c.args.eighths c.requires line place);
}
