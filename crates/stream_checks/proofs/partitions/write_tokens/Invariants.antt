use Rattle.std.proofs.Common.{◌≡◌, ◌+◌, ◌≤◌, ◌++◌, List, length}
use Rattle.std.specs.Io.KnownBytes.{Appends}
use Rattle.stream_checks.specs.declared.finding.Finding.{Finding}
use Rattle.stream_checks.specs.Partitions.{token_findings}
use Rattle.stream_checks.specs.Severity.{tally_of}
use Rattle.stream_checks.specs.Texts.{texts_of}
use Rattle.stream_checks.proofs.partitions.write_tokens.Given as goal

abbrev pub invariant-loop-end : goal.invariant-loop-end
invariant-loop-end g l = record {
  done : List Finding;
  whole : done ++ token_findings l.spot l.partition l.rest ≡ token_findings l.spot 0 l.tokens;
  said : Appends (g.W.Write.contents l.fn.w) (g.W.Write.contents l.w) (texts_of l.form done);
  counted : l.tally ≡ tally_of done;
  few : l.tally.damage + l.tally.notes ≤ l.partition;
  partitions : l.partition + length l.rest ≡ length l.tokens;
}

abbrev pub decreases-loop-end : goal.decreases-loop-end
decreases-loop-end g l = length l.rest
