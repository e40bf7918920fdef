use Rattle.std.proofs.Common.{◌≡◌, ◌+◌, ◌*◌, ◌≤◌, ◌++◌, List, length}
use Rattle.std.specs.Io.KnownBytes.{Appends}
use Rattle.stream_checks.specs.declared.finding.Finding.{Finding}
use Rattle.stream_checks.specs.Lines.{frames_of}
use Rattle.stream_checks.specs.Severity.{tally_of}
use Rattle.stream_checks.specs.Texts.{texts_of}
use Rattle.stream_checks.specs.Checks.{TellsAhead, findings_after}
use Rattle.stream_checks.proofs.checking.write_packets.Given as goal

abbrev pub invariant-loop-packet : goal.invariant-loop-packet
invariant-loop-packet g l = record {
  done : List Finding;
  whole : done ++ findings_after l.tables l.checker l.rest ≡ findings_after l.tables l.initial.checker l.packets;
  said : Appends (g.W.Write.contents l.fn.w) (g.W.Write.contents l.w) (texts_of l.initial.checker.form done);
  counted : l.tally ≡ tally_of done;
  few : l.tally.damage + l.tally.notes + 17 * length l.rest ≤ 17825792;
  packets : l.checker.position.packets + length l.rest ≤ 1048576;
  frames : l.checker.position.frames ≤ l.checker.position.packets;
  shown : l.checker.position.frames + frames_of l.rest ≡ l.initial.checker.position.frames + frames_of l.packets;
  form : l.checker.form ≡ l.initial.checker.form;
  step : 1 ≤ l.checker.pace.step;
  answers : TellsAhead l.before l.rest;
}

abbrev pub decreases-loop-packet : goal.decreases-loop-packet
decreases-loop-packet g l = length l.rest
