use Rattle.std.proofs.Common.{◌≡◌, ◌+◌, ◌≤◌, ◌++◌, List, length}
use Rattle.std.specs.Io.KnownBytes.{Appends}
use Rattle.stream_checks.specs.declared.finding.Finding.{Finding}
use Rattle.stream_checks.specs.Media.{length_findings}
use Rattle.stream_checks.specs.Severity.{tally_of}
use Rattle.stream_checks.specs.Texts.{texts_of}
use Rattle.stream_checks.proofs.media.write_lengths.Given as goal

abbrev pub invariant-loop-wrong : goal.invariant-loop-wrong
invariant-loop-wrong g l = record {
  done : List Finding;
  whole : done ++ length_findings l.rest ≡ length_findings l.lengths;
  said : Appends (g.W.Write.contents l.fn.w) (g.W.Write.contents l.w) (texts_of l.form done);
  counted : l.tally ≡ tally_of done;
  few : l.tally.damage + l.tally.notes + length l.rest ≤ length l.lengths;
}

abbrev pub decreases-loop-wrong : goal.decreases-loop-wrong
decreases-loop-wrong g l = length l.rest
