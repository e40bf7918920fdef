use Rattle.std.proofs.Common.{◌≡◌, ◌+◌, ◌-◌, ◌*◌, ◌≤◌, drop, take}
use Rattle.std.specs.Io.KnownBytes.{Appends}
use Rattle.packet_edits.specs.Saved.{packets_of}
use Rattle.packet_edits.specs.Shown.{stream_of}
use Rattle.macroblock_lists.specs.Known.{progress_over}
use Rattle.stream_checks.specs.Checks.{each_after}
use Rattle.stream_checks.specs.Packets.{joined}
use Rattle.stream_checks.specs.Severity.{tally_of}
use Rattle.stream_checks.specs.Texts.{texts_of}
use Rattle.session_questions.proofs.findings.write_each.Given as goal

abbrev pub invariant-loop-at : goal.invariant-loop-at
invariant-loop-at g l = record {
  left : each_after l.tables l.checker (drop l.at (packets_of l.store.list)) ≡ drop (l.at - l.first) (each_after l.tables l.fn.checker (drop l.first (packets_of l.store.list)));
  said : Appends (g.W.Write.contents l.fn.w) (g.W.Write.contents l.w) (texts_of l.fn.checker.form (joined (take (l.at - l.first) (each_after l.tables l.fn.checker (drop l.first (packets_of l.store.list))))));
  counted : l.tally ≡ tally_of (joined (take (l.at - l.first) (each_after l.tables l.fn.checker (drop l.first (packets_of l.store.list)))));
  few : l.tally.damage + l.tally.notes ≤ 17 * (l.at - l.first);
  packets : l.checker.position.packets ≡ l.at;
  frames : l.checker.position.frames ≤ l.checker.position.packets;
  form : l.checker.form ≡ l.fn.checker.form;
  step : 1 ≤ l.checker.pace.step;
  reader : l.checker.reader ≡ progress_over l.tables l.first l.fn.checker.reader (take (l.at - l.first) (drop l.first (stream_of l.store.list)));
}
