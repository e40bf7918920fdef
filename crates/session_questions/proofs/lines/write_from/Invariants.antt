use Rattle.std.proofs.Common.{◌≡◌, ◌-◌}
use Rattle.std.specs.List.{concat}
use Rattle.std.specs.Io.KnownBytes.{Appends}
use Rattle.session_questions.specs.Lines.{lines_from}
use Rattle.session_questions.specs.Places.{position_at}
use Rattle.session_questions.proofs.lines.write_from.Given as goal

abbrev pub invariant-loop-at : goal.invariant-loop-at
invariant-loop-at g l = record {
  position : l.position ≡ position_at l.store.list l.at;
  said : Appends (g.W.Write.contents l.fn.w) (g.W.Write.contents l.w) (concat (lines_from l.store.list l.first (l.at - l.first)));
}
