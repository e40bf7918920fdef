use Rattle.std.proofs.Common.{arith}
use Rattle.webm_writing.proofs.Lengths.{cues_long}
use Rattle.webm_writing.proofs.sizes.cues_size.Goals as goal

pub returns : goal.returns
returns c = λ at. omega (arith, cues_long at c.args.most c.args.samples.now, c.count_keys.ensures)
