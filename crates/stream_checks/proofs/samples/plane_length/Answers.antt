use Rattle.std.proofs.Common.{sym}
use Rattle.stream_checks.proofs.HashLengths.{plane_long}
use Rattle.stream_checks.proofs.samples.plane_length.Goals as goal

pub returns-clause-value : goal.returns-clause-value
returns-clause-value c =
    rw (c.side.ensures.value, c.side-2.ensures.value, c.height.ensures.value, c.width.ensures.value)
    (sym (plane_long c.args.picture.now c.args.component c.height.ensures.whole))
