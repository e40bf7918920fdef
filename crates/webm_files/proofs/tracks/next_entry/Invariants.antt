use Rattle.std.proofs.Common.{◌≡◌, ◌≤◌, ◌-◌, drop, length}
use Rattle.webm_files.specs.Tracks.{entries_of}
use Rattle.webm_files.proofs.tracks.next_entry.Given as goal

abbrev pub invariant-children : goal.invariant-children
invariant-children l = record {
  inside : l.at ≤ length l.tracks;
  same : entries_of l.tracks ≡ entries_of (drop l.at l.tracks);
}

abbrev pub decreases-children : goal.decreases-children
decreases-children l = length l.tracks - l.at
