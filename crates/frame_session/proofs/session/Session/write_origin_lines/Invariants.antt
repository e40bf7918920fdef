use Rattle.std.proofs.Common.{◌-◌, map}
use Rattle.std.specs.List.{concat, range_with_len}
use Rattle.std.specs.Io.KnownBytes.{Appends}
use Rattle.frame_session.specs.Origins.{origin_line}
use Rattle.frame_session.proofs.session.Session.write_origin_lines.Given as goal

abbrev pub invariant-loop-n : goal.invariant-loop-n
invariant-loop-n g l = Appends (g.W.Write.contents l.fn.w) (g.W.Write.contents l.w) (concat (map (origin_line l.self.state) (range_with_len l.first (l.n - l.first))))
