use Rattle.std.proofs.Common.{◌≡◌, ◌+◌, ◌≤◌, ◌++◌, List, length}
use Rattle.std.specs.Io.KnownBytes.{Appends}
use Rattle.stream_checks.specs.declared.finding.Finding.{Finding}
use Rattle.stream_checks.specs.Media.{block_findings}
use Rattle.stream_checks.specs.Severity.{tally_of}
use Rattle.stream_checks.specs.Texts.{texts_of}
use Rattle.stream_checks.proofs.media.write_blocks.Given as goal

abbrev pub invariant-loop-block : goal.invariant-loop-block
invariant-loop-block g l = record {
  done : List Finding;
  whole : done ++ block_findings l.video l.numbers l.rest ≡ block_findings l.video l.numbers l.blocks;
  said : Appends (g.W.Write.contents l.fn.w) (g.W.Write.contents l.w) (texts_of l.form done);
  counted : l.tally ≡ tally_of done;
  few : l.tally.damage + l.tally.notes + length l.rest ≤ length l.blocks;
}

abbrev pub decreases-loop-block : goal.decreases-loop-block
decreases-loop-block g l = length l.rest
