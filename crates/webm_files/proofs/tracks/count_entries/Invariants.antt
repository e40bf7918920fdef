use Rattle.std.proofs.Common.{◌≡◌, ◌+◌, ◌≤◌, length}
use Rattle.webm_files.specs.Tracks.{entries_of}
use Rattle.webm_files.proofs.tracks.count_entries.Given as goal

abbrev pub invariant-entries : goal.invariant-entries
invariant-entries l = record {
  few : l.count + length l.rest ≤ length l.tracks;
  same : length (entries_of l.tracks) ≡ l.count + length (entries_of l.rest);
}

abbrev pub decreases-entries : goal.decreases-entries
decreases-entries l = length l.rest
