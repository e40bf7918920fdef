use Rattle.std.proofs.Common.{◌≡◌}
use Rattle.session_questions.specs.Kept.{IsCheckedBy}
use Rattle.session_questions.proofs.findings.position_at.Given as goal

abbrev pub invariant-loop-place : goal.invariant-loop-place
invariant-loop-place l = record {
  is : IsCheckedBy l.step l.store.list l.position;
  packets : l.position.packets ≡ l.place;
}
