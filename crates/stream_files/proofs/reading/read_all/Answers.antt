use Rattle.std.proofs.Common.{arith}
use Rattle.stream_files.proofs.Takes.{takes_more}
use Rattle.stream_files.proofs.reading.read_all.Goals as goal

pub returns-in_err-read_piece-clause-taken : goal.returns-in_err-read_piece-clause-taken
returns-in_err-read_piece-clause-taken g c = takes_more _ _ _ _ _ _ c.pieces.invariant.taken c.in_err-read_piece.ensures.err (omega (arith, c.pieces.all.ok.0, c.pieces.invariant.within))
