use Rattle.std.proofs.Common.{replicate, refl}
use Rattle.token_parser.proofs.Fresh.{none_seen}
use Rattle.token_parser.proofs.macroblocks.read_next_macroblock.Goals as goal

pub returns : goal.returns
returns c = rw (none_seen c.args.has_y2 (record c.args.tokens.now { ends = replicate 25 0 }) refl) at c.read_blocks.ensures
