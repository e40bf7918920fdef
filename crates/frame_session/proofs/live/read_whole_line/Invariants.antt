use Rattle.frame_session.proofs.LiveReads.{IsWithin}
use Rattle.frame_session.proofs.live.read_whole_line.Given as goal

abbrev pub invariant-parts : goal.invariant-parts
invariant-parts g l = IsWithin (g.I.Read.remaining l.fn.input) (g.I.Read.remaining l.input) l.line
