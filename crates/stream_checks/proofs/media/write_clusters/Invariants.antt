use Rattle.std.proofs.Common.{◌≡◌, ◌+◌, ◌≤◌, ◌++◌, List, length}
use Rattle.std.specs.Io.KnownBytes.{Appends}
use Rattle.stream_checks.specs.declared.finding.Finding.{Finding}
use Rattle.stream_checks.specs.Media.{cluster_findings}
use Rattle.stream_checks.specs.Severity.{tally_of}
use Rattle.stream_checks.specs.Texts.{texts_of}
use Rattle.stream_checks.proofs.media.write_clusters.Given as goal

abbrev pub invariant-loop-begins : goal.invariant-loop-begins
invariant-loop-begins g l = record {
  done : List Finding;
  whole : done ++ cluster_findings l.rest ≡ cluster_findings l.places;
  said : Appends (g.W.Write.contents l.fn.w) (g.W.Write.contents l.w) (texts_of l.form done);
  counted : l.tally ≡ tally_of done;
  few : l.tally.damage + l.tally.notes + length l.rest ≤ length l.places;
}

abbrev pub decreases-loop-begins : goal.decreases-loop-begins
decreases-loop-begins g l = length l.rest
