use Rattle.std.specs.Prelude.{string_bytes}
use Rattle.output_files.proofs.Followed.{IsOnTheWay}
use Rattle.output_files.proofs.links.followed.Given as goal

abbrev pub invariant-loop : goal.invariant-loop
invariant-loop g l = IsOnTheWay (g.L.LinkedFiles.link_at l.fn.files) l.fn.path (string_bytes l.path)
